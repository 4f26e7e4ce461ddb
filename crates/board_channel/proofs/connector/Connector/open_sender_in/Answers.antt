use Rattle.std.proofs.Common.{rules, ◌≡◌, subst}
use Rattle.board_layout.specs.Answer.{Answers, Refuses}
use Rattle.board_layout.proofs.AnswerLemmas.{Refuses-passed, Refuses-kept}
use Rattle.board_names.specs.Concept.{path_of}
use Rattle.board_names.specs.Table.{at}
use Rattle.board_channel.specs.Channels.{open_answer}
use Rattle.board_names.specs.declared.errors.communication_channel.CommunicationChannelOpenError.TheVariants.{OutOfMemory}
use Rattle.board_channel.proofs.connector.Connector.open_sender_in.Goals as goal

pub returns-in_err-shared-clause-refused : goal.returns-in_err-shared-clause-refused
returns-in_err-shared-clause-refused c =
    let path : c.path.result.now ≡ path_of c.args.self = search rules in
    let refused = subst (λ p. Refuses c.open.result (open_answer (at c.args.state.now p))) path c.open.ensures.refused in
    Refuses-passed _ c.open.result (open_answer (at c.args.state.now (path_of c.args.self))) _ c.in_err-shared.field-0.0 refused c.in_err-shared.was (search rules)

pub returns-clause-refused : goal.returns-clause-refused
returns-clause-refused c =
    let path : c.path.result.now ≡ path_of c.args.self = search rules in
    let answer = subst (λ p. Answers c.open.result OutOfMemory (open_answer (at c.args.state.now p))) path c.open.ensures.answer in
    Refuses-kept _ c.open.result (open_answer (at c.args.state.now (path_of c.args.self))) _ c.in_ok-shared.shared OutOfMemory answer c.in_ok-shared.was
