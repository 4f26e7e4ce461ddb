use Rattle.std.proofs.Common.{◌≡◌, Some, sym, ap, subst, ◌∙◌}
use Rattle.std.specs.HashMap.{get}
use Rattle.std.specs.Option.{option_flatten}
use Rattle.std.specs.Prelude.{is_some}
use Rattle.std.specs.Str.{bytes_eq}
use Rattle.script_boards.specs.declared.machine.Task.{Task}
use Rattle.script_boards.specs.declared.tasks.PartyTasks.{PartyTasks}
use Rattle.script_boards.specs.Machine.{task_in}
use Rattle.script_boards.specs.Steps.{IsPut, ticked}
use Rattle.script_boards.proofs.PartyTasks.{one_task, placed, some_place}
use Rattle.script_boards.proofs.tasks.PartyTasks.go_on.Goals as goal

pub returns : goal.returns
returns c t stands =
    let party = c.args.party.now in
    let old = c.args.self.now in
    let own = c.in-Some-place.task in
    let after = c.took.new.self in
    let new : PartyTasks = record { places = c.get_mut.follows.lender (Some after) } in
    let found : get bytes_eq old.places party ≡ some_place (Some own) = sym c.in-Some.ensures.value ∙ ap some_place c.in-Some-place.is in
    let same : own ≡ t = one_task own t (sym (ap option_flatten found) ∙ stands) in
    let put = ((c.get_mut.follows.holds (Some after)).3 (ap is_some found)).0 in
    let tasks : IsPut (task_in old) (task_in new) party (Some after) = placed (λ p. get bytes_eq old.places p) (λ p. get bytes_eq new.places p) party (Some after) put in
    subst (λ (x : Task). IsPut (task_in old) (task_in new) party (Some (ticked x 0))) same (subst (λ (x : Task). IsPut (task_in old) (task_in new) party (Some x)) c.took.ensures.call tasks)
