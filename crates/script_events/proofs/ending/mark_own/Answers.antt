use Rattle.std.proofs.Common.{◌≡◌, ℕ, Bool, List, Option, Some, None, cond, ap, subst, sym, ◌∙◌}
use Rattle.std.specs.Prelude.{IfSome}
use Rattle.std.specs.HashMap.{get}
use Rattle.std.specs.Str.{bytes_eq}
use Rattle.board_model.proofs.ThingLemmas.{same_to_itself}
use Rattle.script_events.specs.declared.rows.Holding.{Holding}
use Rattle.script_events.specs.Calls.{IsMarkable}
use Rattle.script_events.specs.PartyEvents.{Own, named_by}
use Rattle.script_events.proofs.Maps.{OwnMap}
use Rattle.script_events.proofs.ending.mark_own.Goals as goal

abbrev no_holding : Option Holding
no_holding = None

pub mark-requires : goal.mark-requires
mark-requires c =
    let name : List ℕ = c.in-One.field-0 in
    let held : Holding = c.in-One.holding in
    let found : named_by c.args.own.now name ≡ Some held = ap (λ (w : Own). named_by w name) c.in-One.is ∙ ap (λ (b : Bool). cond b (Some held) no_holding) (same_to_itself name) in
    subst (λ (o : Option Holding). IfSome o (IsMarkable c.args.events.now)) found (c.requires name)

pub mark_listeners-requires : goal.mark_listeners-requires
mark_listeners-requires c = λ name.
    subst (λ (m : OwnMap). IfSome (get bytes_eq m name) (IsMarkable c.args.events.now)) (sym c.deref.ensures)
    (subst (λ (w : Own). IfSome (named_by w name) (IsMarkable c.args.events.now)) c.in-Many.is (c.requires name))
