use Rattle.std.proofs.Common.{◌≡◌, ◌<◌, ◌^◌, List, [], ◌∷◌, ◌++◌, length, Option, Some, None, rules, arith, sym, ap, subst, ◌∙◌}
use Rattle.board_model.specs.Things.{Held}
use Rattle.script_seats.specs.Seats.{IsIndex, put}
use Rattle.script_things.specs.Places.{standing, under}
use Rattle.script_things.specs.Taken.{AreTaken}
use Rattle.script_things.proofs.PlaceLemmas.{standing_pushed, standing_short}
use Rattle.script_things.proofs.TakenLemmas.{all_more, all_small}
use Rattle.script_things.proofs.UnderLemmas.{behind, under_pushed}
use Rattle.script_things.proofs.named.NamedThings.push.Goals as goal

pub raise-requires : goal.raise-requires
raise-requires c =
    let places = c.self.inside.places.items in
    let few : length places < 2 ^ 63 = search rules in
    all_small c.self.inside.taken c.self.inside.taken (standing places) c.self.invariant.1 c.args.thing.board (omega (arith, few, standing_short places))

pub invariant_of-self-2 : goal.invariant_of-self-2
invariant_of-self-2 c =
    let places = c.self.inside.places.items in
    let old = ap (λ (xs : List (Option Held)). xs ++ Some c.args.thing ∷ []) c.reserve.ensures.items in
    let items : c.push_reserved.new.self.items ≡ places ++ Some c.args.thing ∷ [] = c.push_reserved.ensures.items ∙ old in
    let number : c.len.result ≡ length places = search rules in
    let index = c.reserve-2.ensures.index (under places) c.self.invariant.0 in
    let free = subst (λ n. under places n ≡ None) (sym number) (behind places) in
    let pushed = subst (λ n. IsIndex c.push.new.self (put n (Some c.args.thing) (under places))) number (c.push.ensures.index (under places) index free) in
    subst (λ (xs : List (Option Held)). IsIndex c.push.new.self (under xs) × AreTaken c.raise.new.rows (standing xs)) (sym items) (
      subst (IsIndex c.push.new.self) (under_pushed places (Some c.args.thing)) pushed,
      subst (AreTaken c.raise.new.rows) (sym (standing_pushed places c.args.thing)) (all_more c.self.inside.taken c.raise.new.rows (standing places) c.self.invariant.1 c.args.thing c.in_ok-raise.ensures.ok),
    )

pub returns-clause-ok : goal.returns-clause-ok
returns-clause-ok c =
    let places = c.self.inside.places.items in
    let items : c.push_reserved.new.self.items ≡ places ++ Some c.args.thing ∷ [] = c.push_reserved.ensures.items ∙ ap (λ (xs : List (Option Held)). xs ++ Some c.args.thing ∷ []) c.reserve.ensures.items in
    ap (λ (xs : List (Option Held)). standing xs) items ∙ standing_pushed places c.args.thing ∙ ap (λ (xs : List Held). xs ++ c.args.thing ∷ []) c.self.view_is
