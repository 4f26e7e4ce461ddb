-- A run begins with the facts of `Sound`, and each line with a right answer keeps them.
use Rattle.board_model.specs.declared.answer.Answer.{Answer}
use Rattle.board_model.specs.declared.line.Line.{Line}
use Rattle.board_model.specs.LawfulSession.{IsLawful, IsRight, Session, State, after, start, state_after}
use Rattle.board_model.specs.Sound.{Sound}

-- no lawful session ever leaves the sound states
pub record StaysSound : Type 0 where
  pub at_start : Sound start
  pub after : (s : State) (l : Line) (a : Answer) → IsRight s l a → Sound s → Sound (after s l a)
  -- so every lawful session leads to a sound state
  pub session : (pairs : Session) → IsLawful pairs → Sound (state_after start pairs)
