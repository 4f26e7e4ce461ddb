-- The counter of an entry in a state that a machine stands for.
use Rattle.std.proofs.Common.{◌≡◌, ℕ, ap, subst, ◌∙◌}
use Rattle.std.specs.Prelude.{length}
use Rattle.board_model.specs.Sound.{Sound}
use Rattle.board_model.specs.Tables.{entry_at}
use Rattle.board_model.proofs.SoundLemmas.{sound_session}
use Rattle.script_model.specs.ScriptSession.{IsLawful, Session, start, state_after}
use Rattle.script_model.proofs.PartLemmas.{boards_law_holds}
use Rattle.script_loop.specs.Machines.{StandsFor}
use Rattle.script_boards.specs.Steps.{HasCounter, IsCounter}
use Rattle.script_boards.proofs.TableSteps.{CounterAt, counter_at}
use Rattle.script_machine.specs.declared.machine.Machine.{Machine}
use Rattle.script_machine.specs.Counters.{EntryStands}
use Rattle.script_machine.specs.ScriptMachine.{StandsAfter}

-- the boards after a lawful session of a script are sound
boards_sound : (session : Session) → IsLawful session → Sound (state_after start session).boards
boards_sound session lawful =
    let part = boards_law_holds session lawful in
    subst Sound part.state (sound_session _ part.lawful)

module _ {C : Type 0} (m : Machine C) (session : Session) (h : StandsFor StandsAfter m session) (board i : ℕ) (e : EntryStands m board i) where
  at : CounterAt m.boards (state_after start session).boards h.state.represents.boards (boards_sound session h.lawful) board i
  at = counter_at m.boards (state_after start session).boards h.state.represents.boards (boards_sound session h.lawful) board i e.0
      (ap (λ t. entry_at t board i) h.state.represents.boards.tables ∙ e.1)

  pub counter_stands : HasCounter m.boards board i
  counter_stands = at.has

  pub counter_is_length : (g : ℕ) → IsCounter m.boards board i g → g ≡ length ((state_after start session).boards.published board i)
  counter_is_length = at.is_length
