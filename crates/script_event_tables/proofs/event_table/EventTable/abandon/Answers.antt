use Rattle.std.proofs.Common.{◌≡◌, ℕ, ◌+◌, ◌<◌, ◌≤◌, List, [], length, get_or, Option, sym, ap, ◌∙◌, subst, arith}
use Rattle.script_event_tables.specs.EventTables.{IsPartGone}
use Rattle.script_event_tables.specs.Listeners.{last_of}
use Rattle.script_event_tables.proofs.Abandonments.{begins, ends, skipped}
use Rattle.script_event_tables.proofs.ListenerLemmas.{IsPlaceOf, place_of_last, up_to, up_to_last}
use Rattle.script_event_tables.proofs.event_table.EventTable.abandon.Goals as goal

pub loop-next-init : goal.loop-next-init
loop-next-init c =
    let t = c.args.self.now in
    let party = c.args.party.now in record {
      place = subst (IsPlaceOf party t.listeners) (sym c.last-next.ensures) (place_of_last party t.listeners (length t.listeners) (omega arith));
      gone = λ s are. subst (λ (o : Option ℕ). IsPartGone (up_to o) party t s) (sym c.last-next.ensures) (skipped t s party (length t.listeners) (omega arith) (begins t s party are));
    }

pub loop-next-smaller : goal.loop-next-smaller
loop-next-smaller c =
    let place = c.in-Some.place in
    let listeners = c.pass.new.self.listeners in
    let now : up_to c.loop-next.next ≡ place + 1 = ap up_to c.in-Some.is in
    let then : up_to c.before-next.result ≤ place = subst (λ (o : Option ℕ). up_to o ≤ place) (sym c.before-next.ensures) (up_to_last (get_or listeners place []) listeners place) in
    let less : up_to c.before-next.result < up_to c.loop-next.next = omega (arith, now, then) in
    less

pub loop-next-preserved : goal.loop-next-preserved
loop-next-preserved c =
    let t = c.loop-next.self in
    let new = c.pass.new.self in
    let party = c.args.party.now in
    let place = c.in-Some.place in
    let here = subst (IsPlaceOf party t.listeners) c.in-Some.is c.loop-next.invariant.place in
    let low : place ≤ length new.listeners = (let inside = here.0 in let n = ap (λ (xs : List (List ℕ)). length xs) c.pass.ensures.listeners in omega (arith, inside, n)) in
    let found : c.before-next.result ≡ last_of party new.listeners place =
    c.before-next.ensures ∙ ap (λ (p : List ℕ). last_of p new.listeners place) (ap (λ (xs : List (List ℕ)). get_or xs place []) c.pass.ensures.listeners ∙ here.1) in record {
      place = subst (IsPlaceOf party new.listeners) (sym found) (place_of_last party new.listeners place low);
      gone = λ s are.
          let before = subst (λ (o : Option ℕ). IsPartGone (up_to o) party t s) c.in-Some.is (c.loop-next.invariant.gone s are) in
          let passed = c.pass.ensures.passed s (subst (λ (p : List ℕ). IsPartGone (place + 1) p t s) (sym here.1) before) in
          subst (λ (o : Option ℕ). IsPartGone (up_to o) party new s) (sym found)
          (skipped new s party place low (subst (λ (p : List ℕ). IsPartGone place p new s) here.1 passed));
    }

pub returns : goal.returns
returns c = λ s are.
    let party = c.args.party.now in
    ends c.loop-next.self s party (subst (λ (o : Option ℕ). IsPartGone (up_to o) party c.loop-next.self s) c.in_default.is (c.loop-next.invariant.gone s are))
