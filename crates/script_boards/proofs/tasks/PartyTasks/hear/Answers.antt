use Rattle.std.proofs.Common.{◌≡◌, true, false, Option, Some, sym, ap, subst, ◌∙◌}
use Rattle.std.specs.HashMap.{get}
use Rattle.std.specs.Option.{option_flatten}
use Rattle.std.specs.Prelude.{is_some}
use Rattle.std.specs.Str.{bytes_eq}
use Rattle.script_boards.specs.declared.machine.Task.{Task}
use Rattle.script_boards.specs.declared.tasks.PartyTasks.{PartyTasks}
use Rattle.script_boards.specs.Machine.{task_in}
use Rattle.script_boards.specs.Steps.{GoesOnOrEnds, IsPut, ends_call, ticked}
use Rattle.script_boards.proofs.PartyTasks.{one_task, placed, progress_done, progress_more, put_there, some_place}
use Rattle.script_boards.proofs.ShortSteps.{put_and_taken}
use Rattle.script_boards.proofs.tasks.PartyTasks.hear.Goals as goal

pub returns-in-More : goal.returns-in-More
returns-in-More c t stands =
    let party = c.args.party.now in
    let old = c.args.self.now in
    let own = c.in-Some-place.task in
    let after = c.took.new.self in
    let new : PartyTasks = record { places = c.get_mut.follows.lender (Some after) } in
    let found : get bytes_eq old.places party ≡ some_place (Some own) = sym c.in-Some.ensures.value ∙ ap some_place c.in-Some-place.is in
    let same : own ≡ t = one_task own t (sym (ap option_flatten found) ∙ stands) in
    let put = ((c.get_mut.follows.holds (Some after)).3 (ap is_some found)).0 in
    let tasks : IsPut (task_in old) (task_in new) party (Some after) = placed (λ p. get bytes_eq old.places p) (λ p. get bytes_eq new.places p) party (Some after) put in
    let ticks = subst (λ (x : Task). IsPut (task_in old) (task_in new) party (Some x)) c.took.ensures.call tasks in
    let more = progress_more (ends_call own c.args.word) (sym c.took.ensures.progress ∙ c.in-More.is) in
    record {
      more = subst (λ (x : Task). ends_call x c.args.word ≡ false) same more;
      tasks = subst (λ (x : Task). IsPut (task_in old) (task_in new) party (Some (ticked x c.args.word))) same ticks;
    }

pub returns-in-Done : goal.returns-in-Done
returns-in-Done c t stands =
    let party = c.args.party.now in
    let old = c.args.self.now in
    let own = c.in-Some-place.task in
    let after = c.took.new.self in
    let mid : PartyTasks = record { places = c.get_mut.follows.lender (Some after) } in
    let found : get bytes_eq old.places party ≡ some_place (Some own) = sym c.in-Some.ensures.value ∙ ap some_place c.in-Some-place.is in
    let same : own ≡ t = one_task own t (sym (ap option_flatten found) ∙ stands) in
    let put = ((c.get_mut.follows.holds (Some after)).3 (ap is_some found)).0 in
    let tasks : IsPut (task_in old) (task_in mid) party (Some after) = placed (λ p. get bytes_eq old.places p) (λ p. get bytes_eq mid.places p) party (Some after) put in
    let taken : c.take.result ≡ Some after = c.take.ensures.task ∙ put_there (task_in old) (task_in mid) party (Some after) tasks in
    let last = progress_done (ends_call own c.args.word) (sym c.took.ensures.progress ∙ c.in-Done.is) in
    subst (λ (o : Option Task). GoesOnOrEnds (task_in old) (task_in c.take.new.self) party t c.args.word o) (sym taken) (record {
      last = subst (λ (x : Task). ends_call x c.args.word ≡ true) same last;
      task = c.took.ensures.call ∙ ap (λ (x : Task). ticked x c.args.word) same;
      tasks = put_and_taken (task_in old) (task_in mid) (task_in c.take.new.self) party (Some after) tasks c.take.ensures.rest;
    })
