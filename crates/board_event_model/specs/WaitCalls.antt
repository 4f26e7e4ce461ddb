-- The accesses that a wait owes.
use Rattle.std.specs.Prelude.{ℕ, ◌+◌, ◌*◌, Bool, true, false, not, ◌&&◌, ◌||◌, ◌==◌, if◌then◌else◌}
use Rattle.std.specs.Int.{trailing_zeros, w64}
use Rattle.board_event_model.specs.declared.access.EventAccess.{EventAccess}
use Rattle.board_event_model.specs.declared.access.EventAccess.TheVariants as access
use Rattle.board_event_model.specs.declared.access.EventAnswer.{EventAnswer}
use Rattle.board_event_model.specs.declared.access.EventAnswer.TheVariants as answer
use Rattle.board_event_model.specs.declared.call.EventProgress.{EventProgress}
use Rattle.board_event_model.specs.declared.call.EventProgress.TheVariants as progress
use Rattle.board_event_model.specs.declared.call.WaitStage.{WaitStage}
use Rattle.board_event_model.specs.declared.call.WaitStage.TheVariants as wait
use Rattle.board_event_model.specs.declared.call.WaitMode.{WaitMode}
use Rattle.board_event_model.specs.declared.call.WaitMode.TheVariants as mode
use Rattle.board_event_model.specs.NotifyCalls.{is_yes}

-- a wait for one id or for all, on a set of so many words
pub record Wait : Type 0 where
  pub words : ℕ
  pub many : Bool
  pub mode : WaitMode
  pub stage : WaitStage

-- a wait at a stage
abbrev pub wait_of : ℕ → Bool → WaitMode → WaitStage → Wait
wait_of words many mode stage = record { words = words; many = many; mode = mode; stage = stage }

-- on bits it begins with the drain
abbrev pub wait_bits : ℕ → Bool → WaitMode → Wait
wait_bits words many mode = record { words = words; many = many; mode = mode; stage = wait.Drain }

-- on a queue it begins with a pop
abbrev pub wait_queue : Bool → WaitMode → Wait
wait_queue many mode = record { words = 1; many = many; mode = mode; stage = wait.Pop 0 }

-- the access that is owed
abbrev pub wait_owed : WaitStage → EventAccess
wait_owed wait.Drain = access.Signal
wait_owed (wait.Scan k) = access.Scan k
wait_owed (wait.Clear id) = access.Clear id
wait_owed (wait.Swap k some) = access.Swap k
wait_owed wait.Look = access.Signal
wait_owed (wait.Pop n) = access.Pop
wait_owed wait.Finished = access.Listener

-- whether the mode is try
abbrev pub is_try : WaitMode → Bool
is_try mode.Try = true
is_try mode.Timed = false
is_try mode.Block = false

-- the word that an answer gives
abbrev pub word_in : EventAnswer → ℕ
word_in (answer.Word v) = v
word_in _ = 0

-- all words were empty: a try ends, the others look again
abbrev pub nothing : Wait → EventProgress × WaitStage
nothing w = if is_try w.mode then (progress.Nothing, wait.Finished) else (progress.More, wait.Look)

-- the id of the least bit of word k
abbrev pub least_id : ℕ → ℕ → ℕ
least_id k v = 64 * k + trailing_zeros w64 v

-- word k was read: its least id is to be cleared, or the next word is to be read
abbrev pub scanned : Wait → ℕ → ℕ → EventProgress × WaitStage
scanned w k v =
    if v == 0 then (if k + 1 == w.words then nothing w else (progress.More, wait.Scan (k + 1)))
    else (progress.More, wait.Clear (least_id k v))

-- word k was taken: with the last one it ends, unless nothing was taken
abbrev pub swapped : Wait → ℕ → Bool → ℕ → EventProgress × WaitStage
swapped w k some v =
    if k + 1 == w.words then (if some || not (v == 0) then (progress.Took (64 * k) v true, wait.Finished) else nothing w)
    else ((if v == 0 then progress.More else progress.Took (64 * k) v false), wait.Swap (k + 1) (some || not (v == 0)))

-- n ids were taken before this pop; all are 513 at most
abbrev pub popped : Wait → ℕ → EventAnswer → EventProgress × WaitStage
popped w n (answer.Id x) =
    if w.many && not (n + 1 == 513) then (progress.Id x false, wait.Pop (n + 1)) else (progress.Id x true, wait.Finished)
popped w n _ =
    if n == 0 then (if is_try w.mode then (progress.Nothing, wait.Finished) else (progress.Waiting, wait.Pop 0))
    else (progress.Took 0 0 true, wait.Finished)

-- after the drain: word 0 is taken in a wait for all, and read in a wait for one
abbrev pub first_word : Bool → WaitStage
first_word many = if many then wait.Swap 0 false else wait.Scan 0

-- what it has come to with an answer, and where it stands then
abbrev pub wait_turn : Wait → WaitStage → EventAnswer → EventProgress × WaitStage
wait_turn w wait.Drain a = (progress.More, if is_yes a then wait.Drain else first_word w.many)
wait_turn w (wait.Scan k) a = scanned w k (word_in a)
wait_turn w (wait.Clear id) a = (progress.Id id true, wait.Finished)
wait_turn w (wait.Swap k some) a = swapped w k some (word_in a)
wait_turn w wait.Look a = if is_yes a then (progress.More, wait.Drain) else (progress.Waiting, wait.Look)
wait_turn w (wait.Pop n) a = popped w n a
wait_turn w wait.Finished a = (progress.More, wait.Finished)
