use Rattle.std.proofs.Common.{rules, ◌≡◌, subst}
use Rattle.board_layout.specs.Answer.{Answers, Refuses}
use Rattle.board_names.specs.Concept.{path_of}
use Rattle.board_names.specs.Table.{at}
use Rattle.board_names.proofs.TableLemmas.{taking-passed, taking-kept}
use Rattle.board_channel.specs.Channels.{size_of, create_answer}
use Rattle.board_names.specs.declared.errors.communication_channel.CommunicationChannelCreateError.TheVariants.{AlreadyExists, OutOfMemory}
use Rattle.board_channel.proofs.creator.Creator.create_receiver_in.Goals as goal

pub returns-in_err-shared-clause-refused : goal.returns-in_err-shared-clause-refused
returns-in_err-shared-clause-refused c =
    let size = size_of c.self.inside.capacity c.self.inside.overflow in
    let path : c.path.result ≡ path_of c.args.self.named = search rules in
    let refused = subst (λ p. Refuses c.create.result (create_answer size (at c.args.state.now p))) path c.create.ensures.refused in
    taking-passed size _ AlreadyExists (at c.args.state.now (path_of c.args.self.named)) c.create.result _ c.in_err-shared.field-0.0 refused c.in_err-shared.was (search rules)

pub returns-clause-refused : goal.returns-clause-refused
returns-clause-refused c =
    let size = size_of c.self.inside.capacity c.self.inside.overflow in
    let path : c.path.result ≡ path_of c.args.self.named = search rules in
    let answer = subst (λ p. Answers c.create.result OutOfMemory (create_answer size (at c.args.state.now p))) path c.create.ensures.answer in
    taking-kept size _ AlreadyExists (at c.args.state.now (path_of c.args.self.named)) c.create.result _ c.in_ok-shared.shared OutOfMemory answer c.in_ok-shared.was
