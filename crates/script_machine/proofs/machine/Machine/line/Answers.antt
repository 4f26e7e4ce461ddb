use Rattle.std.specs.Prelude.{vec_capacity}
use Rattle.std.proofs.Common.{arith}
use Rattle.script_machine.proofs.Sessions.{has_answered_bytes, led}
use Rattle.script_machine.proofs.machine.Machine.line.Goals as goal

pub answer_bytes-requires-clause-led : goal.answer_bytes-requires-clause-led
answer_bytes-requires-clause-led g c = led c.args.self.now c.requires.0 c.requires.1

pub returns-in-Ok-true-clause-ok : goal.returns-in-Ok-true-clause-ok
returns-in-Ok-true-clause-ok g c =
    let answered = rw c.in-Ok-true.field-0-test at c.in-Ok-true.ensures.tells in
    λ session h. has_answered_bytes c.args.self.now c.answer_bytes.new.self session c.args.line.now c.answer_bytes.new.out.items h answered

pub returns-in-Ok-false-clause-bad : goal.returns-in-Ok-false-clause-bad
returns-in-Ok-false-clause-bad g c =
    let unknown = rw c.in-Ok-false.field-0-test at c.in-Ok-false.ensures.unknown in
    λ is. unknown.spells

pub returns-in-Ok-false-clause-same : goal.returns-in-Ok-false-clause-same
returns-in-Ok-false-clause-same g c =
    let unknown = rw c.in-Ok-false.field-0-test at c.in-Ok-false.ensures.unknown in
    λ is. unknown.same

pub returns-in-Ok-false-clause-err : goal.returns-in-Ok-false-clause-err
returns-in-Ok-false-clause-err g c =
    let unknown = rw c.in-Ok-false.field-0-test at c.in-Ok-false.ensures.unknown in
    unknown.untold

pub returns-in-Err-clause-spelled : goal.returns-in-Err-clause-spelled
returns-in-Err-clause-spelled g c = λ _. c.in-Err.ensures.memory.spelled

pub returns-in-Err-clause-memory : goal.returns-in-Err-clause-memory
returns-in-Err-clause-memory g c = λ _. c.in-Err.ensures.memory.wanting (vec_capacity c.args.answer.now) (omega (arith, c.clear.ensures.len, c.clear.ensures.capacity))
