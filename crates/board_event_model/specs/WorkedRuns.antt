-- Runs that were worked out by hand, of sets of 64 and of 128 ids and of a queue. `e` listens, `n` notifies; the last move comes first.
use Rattle.std.specs.Prelude.{true, false, List, [], ◌∷◌, codes}
use Rattle.board_event_model.specs.declared.access.EventAccess.TheVariants as access
use Rattle.board_event_model.specs.declared.access.EventAnswer.TheVariants as answer
use Rattle.board_event_model.specs.declared.call.WaitMode.{WaitMode}
use Rattle.board_event_model.specs.declared.call.WaitMode.TheVariants as mode
use Rattle.board_event_model.specs.declared.kind.EventKind.TheVariants as kind
use Rattle.board_event_model.specs.NotifyCalls.{notify_bits, notify_queue}
use Rattle.board_event_model.specs.WaitCalls.{wait_bits, wait_queue}
use Rattle.board_event_model.specs.EventCalls.{a_notify, a_wait, PartyName}
use Rattle.board_event_model.specs.EventRuns.{EventMove, IsRun, begin, expire, listened, step}

-- the two parties
abbrev pub e : PartyName
e = codes "e"

-- the other one, which notifies
abbrev pub n : PartyName
n = codes "n"

-- a run on a new event
abbrev pub RunsOnBits : List EventMove → Type 0
RunsOnBits moves = IsRun (listened kind.Bits (codes "ev") 63 e) moves

-- a run on one of two words
abbrev pub RunsOnTwoWords : List EventMove → Type 0
RunsOnTwoWords moves = IsRun (listened kind.Bits (codes "ev") 127 e) moves

-- a run on a queue
abbrev pub RunsOnQueue : List EventMove → Type 0
RunsOnQueue moves = IsRun (listened kind.Queue (codes "q") 0 e) moves

-- e waits for one id, finds none and looks
abbrev pub first_look : WaitMode → List EventMove
first_look m =
    step e access.Signal answer.No
    ∷ step e (access.Scan 0) (answer.Word 0)
    ∷ step e access.Signal answer.No
    ∷ begin e (a_wait (wait_bits 1 false m))
    ∷ []

-- n sees the listener
abbrev pub n_looks : List EventMove → List EventMove
n_looks before = step n access.Listener answer.Yes ∷ begin n (a_notify (notify_bits 32 63)) ∷ before

-- n has set 32 and hasn't posted; e looks again, and finds no signal
abbrev pub a_look_before_the_post : List EventMove
a_look_before_the_post = step e access.Signal answer.No ∷ step n (access.Set 32) answer.Done ∷ n_looks (first_look mode.Block)

-- n posts, and hasn't set
abbrev pub a_post_before_the_set : List EventMove
a_post_before_the_set = step n access.Post answer.Done ∷ n_looks (first_look mode.Block)

-- e finds an id that nobody has set
abbrev pub a_made_up_id : List EventMove
a_made_up_id = step e (access.Scan 0) (answer.Word 1) ∷ step e access.Signal answer.No ∷ begin e (a_wait (wait_bits 1 false mode.Try)) ∷ []

-- a timed wait expires after its look
abbrev pub an_expire_after_a_look : List EventMove
an_expire_after_a_look = expire e ∷ first_look mode.Timed

-- a timed wait for all was told an empty word, and expires after its look
abbrev pub an_expire_of_a_wait_for_all : List EventMove
an_expire_of_a_wait_for_all =
    expire e
    ∷ step e access.Signal answer.No
    ∷ step e (access.Swap 0) (answer.Word 0)
    ∷ step e access.Signal answer.No
    ∷ begin e (a_wait (wait_bits 1 true mode.Timed))
    ∷ []

-- a timed wait on a queue expires after a pop that found nothing
abbrev pub an_expire_after_a_pop : List EventMove
an_expire_after_a_pop = expire e ∷ step e access.Pop answer.Empty ∷ begin e (a_wait (wait_queue false mode.Timed)) ∷ []

-- and one for all does
abbrev pub an_expire_for_all_after_a_pop : List EventMove
an_expire_for_all_after_a_pop = expire e ∷ step e access.Pop answer.Empty ∷ begin e (a_wait (wait_queue true mode.Timed)) ∷ []

-- a timed wait expires after its drain
abbrev pub an_expire_after_the_drain : List EventMove
an_expire_after_the_drain = expire e ∷ step e access.Signal answer.No ∷ begin e (a_wait (wait_bits 1 false mode.Timed)) ∷ []

-- a blocking wait expires
abbrev pub an_expire_of_a_blocking_wait : List EventMove
an_expire_of_a_blocking_wait = expire e ∷ first_look mode.Block

-- n has set and posted
abbrev pub n_notifies : List EventMove → List EventMove
n_notifies before = step n access.Post answer.Done ∷ step n (access.Set 32) answer.Done ∷ n_looks before

-- a timed wait expires after a look that found a signal
abbrev pub an_expire_after_a_signal : List EventMove
an_expire_after_a_signal = expire e ∷ step e access.Signal answer.Yes ∷ n_notifies (first_look mode.Timed)

-- e waits for all while 32 is pending: it drains the signal, and expires before it takes the id
abbrev pub an_expire_that_leaves_an_id : List EventMove
an_expire_that_leaves_an_id = expire e ∷ step e access.Signal answer.No ∷ step e access.Signal answer.Yes ∷ begin e (a_wait (wait_bits 1 true mode.Timed)) ∷ n_notifies []

-- or it takes the id, and expires then
abbrev pub an_expire_that_drops_an_id : List EventMove
an_expire_that_drops_an_id =
    expire e
    ∷ step e (access.Swap 0) (answer.Word 4294967296)
    ∷ step e access.Signal answer.No
    ∷ step e access.Signal answer.Yes
    ∷ begin e (a_wait (wait_bits 1 true mode.Timed))
    ∷ n_notifies []

-- n has set 32 and hasn't posted; e waits for all, is told an empty word, looks, and expires
abbrev pub an_expire_that_misses_an_id : List EventMove
an_expire_that_misses_an_id =
    expire e
    ∷ step e access.Signal answer.No
    ∷ step e (access.Swap 0) (answer.Word 0)
    ∷ step e access.Signal answer.No
    ∷ begin e (a_wait (wait_bits 1 true mode.Timed))
    ∷ step n (access.Set 32) answer.Done
    ∷ n_looks []

-- n has set 96, which is of the second word, and hasn't posted; e waits for all, and has taken the first word
abbrev pub a_wait_between_words : List EventMove
a_wait_between_words =
    step e (access.Swap 0) (answer.Word 0)
    ∷ step e access.Signal answer.No
    ∷ begin e (a_wait (wait_bits 2 true mode.Timed))
    ∷ step n (access.Set 96) answer.Done
    ∷ step n access.Listener answer.Yes
    ∷ begin n (a_notify (notify_bits 96 127))
    ∷ []

-- there it expires
abbrev pub an_expire_between_words : List EventMove
an_expire_between_words = expire e ∷ a_wait_between_words

-- n has pushed 5; e waits for all on the queue, pops the id, and expires then
abbrev pub an_expire_after_an_id : List EventMove
an_expire_after_an_id =
    expire e
    ∷ step e access.Pop (answer.Id 5)
    ∷ begin e (a_wait (wait_queue true mode.Timed))
    ∷ step n (access.Push 5) answer.Done
    ∷ begin n (a_notify (notify_queue 5))
    ∷ []
