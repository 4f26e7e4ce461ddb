-- Laws of ids: a queue gives each id once that was pushed, in the order of the pushes; an id of a set is pending where its last set or take was a set.
use Rattle.std.specs.Prelude.{◌≡◌, ℕ, ◌%◌, Bool, false, not, ◌&&◌, ◌||◌, ◌==◌, List, [], ◌∷◌, ◌++◌, Some}
use Rattle.std.specs.Int.{bit_at}
use Rattle.board_event_model.specs.declared.kind.EventKind.{EventKind}
use Rattle.board_event_model.specs.declared.access.EventAccess.TheVariants as access
use Rattle.board_event_model.specs.declared.access.EventAnswer.TheVariants as answer
use Rattle.board_event_model.specs.Ids.{has, in_word}
use Rattle.board_event_model.specs.EventCalls.{PartyName}
use Rattle.board_event_model.specs.EventRuns.{EventMove, IsRun, listened, run_to, step}
use Rattle.board_event_model.specs.EventSessions.{EventLine, IsEventSession, StandingEvent, moves_on, session_of}

-- ---- queues; of moves the last one is first, and of ids the first one

-- the id that a move adds to a queue, as it was answered
abbrev pub pushed_by : EventMove → List ℕ
pushed_by (step p (access.Push id) answer.Done) = id ∷ []
pushed_by m = []

-- and the one that it takes out
abbrev pub popped_by : EventMove → List ℕ
popped_by (step p access.Pop (answer.Id id)) = id ∷ []
popped_by m = []

-- all that were added by these moves, in their order
abbrev pub pushed_in : List EventMove → List ℕ
pushed_in [] = []
pushed_in (m ∷ ms) = pushed_in ms ++ pushed_by m

-- and all that were taken out
abbrev pub popped_in : List EventMove → List ℕ
popped_in [] = []
popped_in (m ∷ ms) = popped_in ms ++ popped_by m

-- what was popped, and then what the queue still holds, is what was pushed: each once, in the order of the pushes, and nothing else
abbrev pub QueuesKeepOrder : Type 0
QueuesKeepOrder =
    (k : EventKind) (name : List ℕ) (max : ℕ) (listener : PartyName) (ms : List EventMove) → IsRun (listened k name max listener) ms →
    popped_in ms ++ (run_to (listened k name max listener) ms).event.queue ≡ pushed_in ms

-- ---- sets

-- whether a move sets this id
abbrev pub sets_id : EventMove → ℕ → Bool
sets_id (step p (access.Set i) b) id = i == id
sets_id m id = false

-- whether it takes this id, as it was answered: a swap takes those of its word whose bits it was given
abbrev pub takes_id : EventMove → ℕ → Bool
takes_id (step p (access.Clear i) b) id = i == id
takes_id (step p (access.Swap k) (answer.Word v)) id = in_word k id && (bit_at v (id % 64) == 1)
takes_id m id = false

-- whether the last of these moves that set or took the id set it
abbrev pub was_set_last : ℕ → List EventMove → Bool
was_set_last id [] = false
was_set_last id (m ∷ ms) = sets_id m id || (not (takes_id m id) && was_set_last id ms)

-- exactly then it is pending
abbrev pub PendingIdsWereSetLast : Type 0
PendingIdsWereSetLast =
    (k : EventKind) (name : List ℕ) (max : ℕ) (listener : PartyName) (ms : List EventMove) → IsRun (listened k name max listener) ms →
    (id : ℕ) → has (run_to (listened k name max listener) ms).event.pending id ≡ was_set_last id ms

-- ---- sessions

-- in every session, of what its own lines push on a queue and pop from it
abbrev pub SessionQueuesKeepOrder : Type 0
SessionQueuesKeepOrder =
    (lines : List EventLine) → IsEventSession lines → (n : ℕ) (st : StandingEvent) → (session_of lines).stands n ≡ Some st →
    popped_in (moves_on n lines) ++ st.event.queue ≡ pushed_in (moves_on n lines)

-- and of what they set in a set and take from it
abbrev pub SessionIdsWereSetLast : Type 0
SessionIdsWereSetLast =
    (lines : List EventLine) → IsEventSession lines → (n : ℕ) (st : StandingEvent) → (session_of lines).stands n ≡ Some st →
    (id : ℕ) → has st.event.pending id ≡ was_set_last id (moves_on n lines)
