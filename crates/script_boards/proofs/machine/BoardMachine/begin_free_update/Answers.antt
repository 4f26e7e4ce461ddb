use Rattle.std.proofs.Common.{sym, subst}
use Rattle.std.proofs.lemmas.Result.{IfOk-weaker, on_err_weaker}
use Rattle.board_model.specs.declared.line.Call.TheVariants as call_of
use Rattle.board_model.specs.declared.line.Line.TheVariants as line
use Rattle.script_boards.specs.Begins.{Checks}
use Rattle.script_boards.specs.Machine.{Serves}
use Rattle.script_boards.specs.ShortBegins.{begun_unless}
use Rattle.script_boards.specs.Wants.{MayWant}
use Rattle.script_boards.proofs.machine.BoardMachine.begin_free_update.Goals as goal

pub returns-clause-serves : goal.returns-clause-serves
returns-clause-serves g c =
    let call = call_of.Update c.args.handle c.args.value in
    let checks = subst (λ m. Checks m c.args.party call c.start_update-checked.result) (sym c.start_update-checked.ensures.same) c.start_update-checked.ensures.checks in
    IfOk-weaker c.begin_checked.result _ _ (λ why serves. subst (λ m. Serves m c.begin_checked.new.self (line.Begin c.args.party call) (begun_unless why)) c.start_update-checked.ensures.same (serves call checks)) c.begin_checked.ensures.serves

pub returns-clause-memory : goal.returns-clause-memory
returns-clause-memory g c =
    let call = call_of.Update c.args.handle c.args.value in
    let checks = subst (λ m. Checks m c.args.party call c.start_update-checked.result) (sym c.start_update-checked.ensures.same) c.start_update-checked.ensures.checks in
    on_err_weaker c.begin_checked.result (λ wants. subst (λ m. MayWant m (line.Begin c.args.party call)) c.start_update-checked.ensures.same (wants call checks)) c.begin_checked.ensures.memory
