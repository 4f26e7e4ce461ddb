use Rattle.std.proofs.Common.{◌≡◌, ◌++◌, ◌∷◌, [], cond, length, rules, sym, ap, subst, ◌∙◌}
use Rattle.std.specs.Prelude.{ℕ, List, Option, Some}
use Rattle.std.specs.HashMap.{get}
use Rattle.std.specs.Str.{bytes_eq}
use Rattle.script_event_tables.specs.Listeners.{AreChained}
use Rattle.script_event_tables.proofs.ListenerLemmas.{chained_pushed}
use Rattle.script_event_tables.proofs.listeners.Listeners.push.Goals as goal

pub invariant_of-self-2 : goal.invariant_of-self-2
invariant_of-self-2 c =
    let parties = c.self.inside.parties.items in
    let before = c.self.inside.before.items in
    let party = c.args.party in
    let found = c.in_ok-before.before in
    let more : c.push_reserved.new.self.items ≡ parties ++ party ∷ [] = c.push_reserved.ensures.items ∙ ap (λ (xs : List (List ℕ)). xs ++ party ∷ []) c.in_ok-reserve.ensures.items in
    let linked : c.push_reserved-2.new.self.items ≡ before ++ found ∷ [] = c.push_reserved-2.ensures.items ∙ ap (λ (xs : List (Option ℕ)). xs ++ found ∷ []) c.in_ok-reserve-2.ensures.items in
    let longer : length c.reserve.new.self.items ≡ length parties = ap (λ (xs : List (List ℕ)). length xs) c.in_ok-reserve.ensures.items in
    let place : c.len-place.result ≡ length parties = search (rules, longer) in
    let kept = chained_pushed c.self.inside.last c.insert.new.self parties before c.self.invariant party found c.in_ok-before.ensures.old
    (λ p. c.in_ok-before.ensures.updates.0 p ∙ ap (λ (k : ℕ). cond (bytes_eq party p) (Some k) (get bytes_eq c.self.inside.last p)) place) in
    subst (λ (xs : List (List ℕ)). AreChained c.insert.new.self xs c.push_reserved-2.new.self.items) (sym more)
    (subst (AreChained c.insert.new.self (parties ++ party ∷ [])) (sym linked) kept)
