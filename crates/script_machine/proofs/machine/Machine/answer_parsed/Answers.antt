use Rattle.std.proofs.Common.{subst, Option}
use Rattle.std.specs.Prelude.{IfSome}
use Rattle.script_model.specs.declared.line.ScriptLine.{ScriptLine}
use Rattle.script_model.specs.ScriptGrammar.{SpellsLine}
use Rattle.script_machine.proofs.BytesWant.{bytes_want, unkept_answered, unkept_want}
use Rattle.script_machine.proofs.Wants.{anyway}
use Rattle.script_machine.proofs.machine.Machine.answer_parsed.Goals as goal

pub returns-in_err-answer-in-Ok-Some-clause-memory : goal.returns-in_err-answer-in-Ok-Some-clause-memory
returns-in_err-answer-in-Ok-Some-clause-memory g c =
    let spelled = subst (λ (o : Option ScriptLine). IfSome o (λ l. SpellsLine c.args.bytes.now l)) c.in-Ok-Some.field-0-is c.in-Ok-Some.ensures.found in
    anyway c.from_residual.result _ (bytes_want c.args.self.now c.args.bytes.now c.args.out.now c.in-Ok-Some.line spelled c.in_err-answer-in-Ok-Some.ensures.memory)

pub returns-in_err-answer_unkept-in-Err-clause-memory : goal.returns-in_err-answer_unkept-in-Err-clause-memory
returns-in_err-answer_unkept-in-Err-clause-memory g c =
    anyway c.from_residual-in_err-answer_unkept-in-Err.result _ (unkept_want c.args.self.now c.args.bytes.now c.args.out.now c.in-Err.line c.in-Err.ensures.memory c.in_err-answer_unkept-in-Err.ensures.memory)

pub returns-in_ok-answer_unkept-in-Err-clause-tells : goal.returns-in_ok-answer_unkept-in-Err-clause-tells
returns-in_ok-answer_unkept-in-Err-clause-tells g c =
    unkept_answered c.args.self.now c.args.bytes.now _ c.in-Err.line c.in-Err.ensures.memory c.in_ok-answer_unkept-in-Err.ensures.tells
