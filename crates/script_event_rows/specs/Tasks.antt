-- Notifies and waits as a checker keeps them.
use Rattle.std.specs.Prelude.{ℕ, ◌<◌, ◌≤◌, ◌^◌, ⊤}
use Rattle.board_event_model.specs.declared.access.EventAnswer.{EventAnswer}
use Rattle.board_event_model.specs.declared.call.WaitStage.{WaitStage}
use Rattle.board_event_model.specs.declared.call.WaitStage.TheVariants.{Scan, Swap, Pop}
use Rattle.board_event_model.specs.NotifyCalls.{Notify, notify_turn}
use Rattle.board_event_model.specs.WaitCalls.{Wait, wait_turn}

-- a notify after an answer to the access that it owed
abbrev pub notify_went_on : Notify → EventAnswer → Notify
notify_went_on n a = record n { stage = (notify_turn n n.stage a).1 }

-- a wait after an answer to the access that it owed
abbrev pub wait_went_on : Wait → EventAnswer → Wait
wait_went_on w a = record w { stage = (wait_turn w w.stage a).1 }

-- a stage's word is one of the set's, and fewer than 513 ids were taken before a pop
abbrev pub IsStageIn : ℕ → WaitStage → Type 0
IsStageIn words (Scan k) = k < words
IsStageIn words (Swap k some) = k < words
IsStageIn words (Pop n) = n < 513
IsStageIn words stage = ⊤

-- the set has 1 to 2^58 words, and the stage is one of such a set
pub record IsFormedWait (w : Wait) : Type 0 where
  pub some : 1 ≤ w.words
  pub few : w.words ≤ 2 ^ 58
  pub stage : IsStageIn w.words w.stage
