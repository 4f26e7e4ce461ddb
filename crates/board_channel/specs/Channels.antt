-- Channels by full names, what clauses see of their ends, and what their calls answer.
use Rattle.std.specs.Prelude.{ℕ, List, Bool, true, false, Option, Some, None, Result, Ok, Err, max, codes}
use Rattle.board_names.specs.Concept.{Named, Placed, path_of, placed, starting}
use Rattle.board_names.specs.Table.{at, taking}
use Rattle.board_layout.specs.Answer.{with_value}
use Rattle.board_names.specs.declared.errors.communication_channel.CommunicationChannelCreateError.{CommunicationChannelCreateError}
use Rattle.board_names.specs.declared.errors.communication_channel.CommunicationChannelCreateError.TheVariants.{AlreadyExists}
use Rattle.board_names.specs.declared.errors.communication_channel.CommunicationChannelOpenError.{CommunicationChannelOpenError}
use Rattle.board_names.specs.declared.errors.communication_channel.CommunicationChannelOpenError.TheVariants.{DoesNotExist}
use Rattle.board_channel.specs.Queue.{QueueView}

-- how many numbers a channel holds, and whether it gives its oldest back in place of a refusal
pub record Size : Type 0 where
  pub capacity : ℕ
  pub overflow : Bool

-- the size of a channel that was asked for
abbrev pub size_of : ℕ → Bool → Size
size_of capacity overflow = record { capacity = max 1 capacity; overflow = overflow }

-- the size of a queue
abbrev pub size_in : QueueView → Size
size_in q = record { capacity = q.capacity; overflow = q.overflow }

-- what `create` answers, by what stands under the name
abbrev pub create_answer : Size → Option Size → Result Size CommunicationChannelCreateError
create_answer size = taking size AlreadyExists

-- what `open` answers
abbrev pub open_answer : Option Size → Result Size CommunicationChannelOpenError
open_answer None = Err DoesNotExist
open_answer (Some size) = Ok size

-- a creator
pub record CreatorView : Type 0 where
  pub named : Named
  pub capacity : ℕ
  pub overflow : Bool

-- a creator that starts with this name
abbrev pub started_creator : List ℕ → CreatorView
started_creator name = record { named = starting name (codes ".com"); capacity = 8; overflow = false }

-- one end of a channel, and whether it made the channel
pub record DuplexView : Type 0 where
  pub place : Placed
  pub made : Bool
  pub size : Size

-- the receiver of a channel of this size
abbrev pub receiver_of : Named → Size → DuplexView
receiver_of named size = record { place = placed named; made = true; size = size }

-- the sender of a channel of this size
abbrev pub sender_of : Named → Size → DuplexView
sender_of named size = record { place = placed named; made = false; size = size }

-- the size that a creator asks for
abbrev pub asked_size : CreatorView → Size
asked_size c = size_of c.capacity c.overflow

-- the receiver that a creator makes
abbrev pub asked_receiver : CreatorView → DuplexView
asked_receiver c = receiver_of c.named (asked_size c)

-- what `create_receiver` answers over these channels
abbrev pub create_receiver_answer : CreatorView → List (List ℕ × Size) → Result DuplexView CommunicationChannelCreateError
create_receiver_answer c channels = taking (asked_receiver c) AlreadyExists (at channels (path_of c.named))

-- what `open_sender` answers over these channels
abbrev pub open_sender_answer : Named → List (List ℕ × Size) → Result DuplexView CommunicationChannelOpenError
open_sender_answer named channels = with_value (sender_of named) (open_answer (at channels (path_of named)))
