-- What holds of every wait. No clause of a public call cites it.
use Rattle.std.specs.Prelude.{ℕ, ◌<◌, ◌≤◌, ◌^◌, ⊤}
use Rattle.board_event_model.specs.declared.call.WaitStage.{WaitStage}
use Rattle.board_event_model.specs.declared.call.WaitStage.TheVariants as wait
use Rattle.board_event_model.specs.WaitCalls.{Wait}

-- a stage's word is one of the set's, and fewer than 513 ids were taken before a pop
abbrev pub IsStage : ℕ → WaitStage → Type 0
IsStage words wait.Drain = ⊤
IsStage words (wait.Scan k) = k < words
IsStage words (wait.Clear id) = ⊤
IsStage words (wait.Swap k some) = k < words
IsStage words wait.Look = ⊤
IsStage words (wait.Pop n) = n < 513
IsStage words wait.Finished = ⊤

-- the set has 1 to 2^58 words
pub record IsWait (w : Wait) : Type 0 where
  pub some : 1 ≤ w.words
  pub few : w.words ≤ 2 ^ 58
  pub stage : IsStage w.words w.stage
