-- What a clause sees of a queue.
use Rattle.std.specs.Prelude.{ℕ, Bool, List, [], ◌∷◌, ◌++◌, Option, None, Result, Ok, Err, length, nat_lt, if◌then◌else◌, drop, slice_get, max}
use Rattle.board_names.specs.declared.errors.communication_channel.CommunicationChannelSendError.{CommunicationChannelSendError}
use Rattle.board_names.specs.declared.errors.communication_channel.CommunicationChannelSendError.TheVariants.{ReceiverCacheIsFull}

-- the numbers, the oldest first, how many it holds, and whether it gives its oldest back in place of a refusal
pub record QueueView : Type 0 where
  pub items : List ℕ
  pub capacity : ℕ
  pub overflow : Bool

-- an empty queue
abbrev pub empty_queue : ℕ → Bool → QueueView
empty_queue capacity overflow = record { items = []; capacity = max 1 capacity; overflow = overflow }

-- there is room for one more
abbrev pub has_room : QueueView → Bool
has_room q = nat_lt (length q.items) q.capacity

-- what a send answers
abbrev pub send_answer : QueueView → Result (Option ℕ) CommunicationChannelSendError
send_answer q =
    if has_room q then Ok None
    else (if q.overflow then Ok (slice_get q.items 0) else Err ReceiverCacheIsFull)

-- the queue after a send
abbrev pub sent : QueueView → ℕ → QueueView
sent q value =
    if has_room q then record q { items = q.items ++ value ∷ [] }
    else (if q.overflow then record q { items = drop 1 q.items ++ value ∷ [] } else q)

-- the queue without its oldest number
abbrev pub received : QueueView → QueueView
received q = record q { items = drop 1 q.items }
