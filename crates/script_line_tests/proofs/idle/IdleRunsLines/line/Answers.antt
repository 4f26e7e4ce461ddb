use Rattle.script_print.proofs.ReplyLemmas.{ok_then}
use Rattle.script_line_tests.proofs.IdleLemmas.{answered}
use Rattle.script_line_tests.proofs.idle.IdleRunsLines.line.Goals as goal

pub returns-clause-ok : goal.returns-clause-ok
returns-clause-ok c =
    let why = c.in_ok-reason.ensures.ok in
    ok_then c.write_refusal.result c.write_refusal.ensures.ok (λ told session stands. answered c.args.self.now session c.args.line.now c.write_refusal.new.answer.items why.0 c.in_ok-reason.reason stands why.1 why.2 told)
