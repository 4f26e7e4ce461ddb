use Rattle.std.proofs.Common.{◌∙◌}
use Rattle.std.proofs.lemmas.Result.{IfOk-weaker}
use Rattle.script_process.proofs.TakenItems.{all_taken, first_gone}
use Rattle.script_process.proofs.command_line.words_of.Goals as goal

pub returns-in-Ok-clause-words : goal.returns-in-Ok-clause-words
returns-in-Ok-clause-words c =
    let gone = first_gone c.in-Ok.args c.next-program.new.self c.next-program.result c.next-program.ensures.cases in
    rw c.in-Ok.is (IfOk-weaker c.collect.result _ _ (λ words h. h.2.0 ∙ (all_taken c.next-program.new.self h.0 tt h.1 ∙ gone)) c.collect.ensures.ran)
