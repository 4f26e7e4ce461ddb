use Rattle.std.proofs.Common.{rules, ◌≡◌, is_some, false}
use Rattle.board_layout.proofs.AnswerLemmas.{Refuses-value}
use Rattle.board_names.specs.Table.{at}
use Rattle.board_names.proofs.TableLemmas.{taking-free}
use Rattle.board_channel.specs.Channels.{size_of}
use Rattle.board_names.specs.declared.errors.communication_channel.CommunicationChannelCreateError.TheVariants.{AlreadyExists}
use Rattle.board_channel.proofs.channels.Channels.create.Goals as goal

pub returns-in_err-queue-clause-refused : goal.returns-in_err-queue-clause-refused
returns-in_err-queue-clause-refused c =
    let free : is_some (at c.args.self.now c.args.name.now) ≡ false = search rules in
    Refuses-value _ _ (size_of c.args.capacity c.args.overflow) (taking-free (size_of c.args.capacity c.args.overflow) AlreadyExists _ free)

pub returns-in_default-clause-refused : goal.returns-in_default-clause-refused
returns-in_default-clause-refused c =
    let free : is_some (at c.args.self.now c.args.name.now) ≡ false = search rules in
    Refuses-value _ _ (size_of c.args.capacity c.args.overflow) (taking-free (size_of c.args.capacity c.args.overflow) AlreadyExists _ free)

pub returns-clause-refused : goal.returns-clause-refused
returns-clause-refused c =
    let free : is_some (at c.args.self.now c.args.name.now) ≡ false = search rules in
    Refuses-value _ _ (size_of c.args.capacity c.args.overflow) (taking-free (size_of c.args.capacity c.args.overflow) AlreadyExists _ free)
