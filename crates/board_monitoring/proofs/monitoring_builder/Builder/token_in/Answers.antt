use Rattle.std.proofs.Common.{rules, ◌≡◌, subst}
use Rattle.board_layout.specs.Answer.{Answers, Refuses}
use Rattle.board_names.specs.Concept.{path_of}
use Rattle.board_names.specs.Table.{at}
use Rattle.board_names.proofs.TableLemmas.{taking-passed, taking-kept}
use Rattle.board_names.specs.declared.errors.monitoring.MonitoringCreateTokenError.TheVariants.{AlreadyExists, OutOfMemory}
use Rattle.board_monitoring.specs.Monitors.{token_answer}
use Rattle.board_monitoring.proofs.monitoring_builder.Builder.token_in.Goals as goal

pub returns-in_err-token-clause-refused : goal.returns-in_err-token-clause-refused
returns-in_err-token-clause-refused c =
    let path : c.path.result.now ≡ path_of c.args.self = search rules in
    let refused = subst (λ p. Refuses c.token.result (token_answer (at c.args.state.now p))) path c.token.ensures.refused in
    taking-passed tt _ AlreadyExists (at c.args.state.now (path_of c.args.self)) c.token.result _ c.in_err-token.field-0.0 refused c.in_err-token.was (search rules)

pub returns-clause-refused : goal.returns-clause-refused
returns-clause-refused c =
    let path : c.path.result.now ≡ path_of c.args.self = search rules in
    let answer = subst (λ p. Answers c.token.result OutOfMemory (token_answer (at c.args.state.now p))) path c.token.ensures.answer in
    taking-kept tt _ AlreadyExists (at c.args.state.now (path_of c.args.self)) c.token.result _ tt OutOfMemory answer c.in_ok-token.was
