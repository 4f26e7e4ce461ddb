use Rattle.std.proofs.Common.{arith, ap, sym, subst, ◌∙◌, List, ℕ, Some}
use Rattle.std.specs.Prelude.{Err}
use Rattle.std.proofs.lemmas.Grind.{common_steps}
use Rattle.script_loop.specs.Memory.{fresh_calls, source_calls}
use Rattle.script_loop.specs.Runs.{IsRunnable}
use Rattle.script_loop.proofs.MemoryLemmas.{holds_within, none_listed, sink_has_room}
use Rattle.board_script.specs.Whole.{RunsInMemory}
use Rattle.board_script.proofs.Fronts.{runnable}
use Rattle.board_script.proofs.InMemory.{never_run, passed_on, ran_in_memory}
use Rattle.board_script.proofs.script.run_in_memory.Goals as goal

pub returns-in_err-run_script-clause-complete : goal.returns-in_err-run_script-clause-complete
returns-in_err-run_script-clause-complete c = λ fits.
    let sure = none_listed (source_calls c.new-source.result) 0 (c.new-source.ensures.calls ∙ ap (fresh_calls 0) c.new.ensures.items) in
    let takes = sink_has_room c.in-Ok.sink 0 c.args.room (c.in-Ok.ensures.calls ∙ ap (fresh_calls 0) c.new-2.ensures.items) c.in-Ok.ensures.room in
    let left = subst (IsRunnable c.args.room 4294967295) (sym c.new-source.ensures.left) (runnable c.args.room c.args.script.items fits) in
    let done = c.in_err-run_script.ensures.runs.complete sure c.args.room takes left in
    grind (arith, common_steps, done, c.from_residual.ensures)

pub returns-in-Err-OutOfMemory-clause-err : goal.returns-in-Err-OutOfMemory-clause-err
returns-in-Err-OutOfMemory-clause-err c = never_run c.args.room c.args.script.items

pub returns-in_err-run_script-clause-err : goal.returns-in_err-run_script-clause-err
returns-in_err-run_script-clause-err c =
    let sure = none_listed (source_calls c.new-source.result) 0 (c.new-source.ensures.calls ∙ ap (fresh_calls 0) c.new.ensures.items) in
    let takes = sink_has_room c.in-Ok.sink 0 c.args.room (c.in-Ok.ensures.calls ∙ ap (fresh_calls 0) c.new-2.ensures.items) c.in-Ok.ensures.room in
    let fits = holds_within c.run_script.new.sink c.in-Ok.sink c.args.room c.in_err-run_script.ensures.most c.in-Ok.ensures.most in
    let ran = ran_in_memory c.args.room c.args.script.items _ _ _ _ _ c.in_err-run_script.ensures.runs sure (λ n le. (takes.0, omega (arith, le, takes.1))) c.new-source.ensures.left (ap (λ (x : List ℕ). Some x) c.in-Ok.ensures.held) fits in
    passed_on c.from_residual.result _ (λ e. RunsInMemory c.args.room c.args.script.items (Err e)) c.from_residual.ensures.1 ran
