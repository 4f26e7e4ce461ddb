use Rattle.std.proofs.Common.{None}
use Rattle.std.proofs.lemmas.Result.{IfOk-weaker, on_err_weaker}
use Rattle.board_model.specs.declared.line.Call.TheVariants as call_of
use Rattle.script_boards.proofs.machine.BoardMachine.begin_free_get.Goals as goal

pub returns-clause-serves : goal.returns-clause-serves
returns-clause-serves g c =
    IfOk-weaker c.begin_checked.result _ _ (λ why serves. serves (call_of.Get c.args.handle None) c.check_get-checked.ensures) c.begin_checked.ensures.serves

pub returns-clause-memory : goal.returns-clause-memory
returns-clause-memory g c =
    on_err_weaker c.begin_checked.result (λ wants. wants (call_of.Get c.args.handle None) c.check_get-checked.ensures) c.begin_checked.ensures.memory
