use Rattle.std.proofs.Common.{◌≡◌, ◌∙◌, Option, Some, None, cond, ap, sym}
use Rattle.std.specs.Prelude.{is_some}
use Rattle.std.specs.HashMap.{get}
use Rattle.std.specs.Str.{bytes_eq}
use Rattle.script_events.specs.declared.rows.Holding.{Holding}
use Rattle.script_events.specs.PartyEvents.{Own, own_in}
use Rattle.script_events.proofs.Maps.{held_at, named_in}
use Rattle.script_events.proofs.Options.{replaced}
use Rattle.script_events.proofs.things.Things.take.Goals as goal

abbrev nothing : Option Own
nothing = None

abbrev no_holding : Option Holding
no_holding = None

-- the last thing goes, and with it the party's map
pub returns-then-is_empty-clause-left : goal.returns-then-is_empty-clause-left
returns-then-is_empty-clause-left c =
    let party = c.args.party.now in
    let name = c.args.name.now in
    let old = own_in c.args.self.now in
    let found : old party ≡ Some c.in-Some.own.now = sym c.in-Some.ensures.value in
    let left : Own = c.take-holding.new.self in
    let lent = c.get_mut.follows.lender left in
    let put = ((c.get_mut.follows.holds left).3 (ap is_some found)).0 in
    held_at old (λ p. get bytes_eq c.remove.new.self p) party nothing (λ p. c.remove.ensures.updates.0 p ∙ replaced (bytes_eq party p) (Some left) nothing (old p) (get bytes_eq lent p) (put p)) name no_holding
    (λ n. sym (c.is_empty.ensures c.if-is_empty.true n) ∙ c.take-holding.ensures.left n ∙ ap (λ (o : Option Own). cond (bytes_eq name n) no_holding (named_in o n)) (sym found))
