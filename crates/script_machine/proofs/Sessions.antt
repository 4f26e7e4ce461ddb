-- A machine that stands for a lawful session, and one line more.
use Rattle.std.proofs.Common.{ℕ, ◌+◌, ◌<◌, ◌≤◌, ◌^◌, List, length, arith, subst}
use Rattle.script_boards.specs.Machine as boards_machine
use Rattle.script_boards.specs.Machine.{drawn_by}
use Rattle.script_boards.proofs.Listings.{reached_by}
use Rattle.script_loop.specs.Machines.{HasAnswered, StandsFor}
use Rattle.script_loop.specs.Runs.{SomeWants}
use Rattle.script_model.specs.declared.line.ScriptLine.{ScriptLine}
use Rattle.script_model.specs.Parts.{board_part}
use Rattle.script_model.specs.ScriptGrammar.{SpellsLine}
use Rattle.script_model.specs.ScriptSession.{IsLawful, Session, start, state_after}
use Rattle.script_model.proofs.PartLemmas.{boards_law_holds}
use Rattle.script_model.proofs.ScriptSoundLemmas.{sessions_sound}
use Rattle.script_machine.specs.declared.machine.Machine.{Machine}
use Rattle.script_machine.specs.Bytes.{IsAnswered}
use Rattle.script_machine.specs.ScriptMachine.{IsLed, IsReached, StandsAfter, Tells}
use Rattle.script_machine.specs.Wants.{SpellsTaking, SpellsTakingAfter}

pub session_reached : (session : Session) → IsLawful session → length session < 2 ^ 63 → IsReached (state_after start session) (length session)
session_reached session h lt =
    let k = boards_law_holds session h in
    record {
      few = lt;
      boards = subst boards_machine.IsReached k.state (reached_by (board_part start session) k.lawful (omega (arith, k.short, lt)));
      sound = sessions_sound session h;
    }

-- a machine that stands for a lawful session is led
pub led : {C : Type 0} (m : Machine C) (session : Session) → StandsFor StandsAfter m session → IsLed m
led m session h = record {
  state = state_after start session;
  count = length session;
  represents = h.state.represents;
  reached = session_reached session h.lawful h.few;
  few = omega (arith, h.state.drawn, h.few);
}

-- so a right answer adds a pair to the session
pub has_answered : {C : Type 0} (old new : Machine C) (session : Session) (bytes text : List ℕ) (l : ScriptLine) → StandsFor StandsAfter old session → SpellsLine bytes l → Tells old new l text → drawn_by new.boards ≤ drawn_by old.boards + 1 → HasAnswered StandsAfter new session bytes text
has_answered old new session bytes text l h spelled tells drawn =
    let t = tells (state_after start session) (length session) h.state.represents (session_reached session h.lawful h.few) in
    record {
      line = l;
      answer = t.answer;
      spelled = spelled;
      right = t.right;
      state = record { represents = t.represents; drawn = omega (arith, h.state.drawn, drawn) };
      told = t.told;
    }

-- the same of bytes
pub has_answered_bytes : {C : Type 0} (old new : Machine C) (session : Session) (bytes text : List ℕ) → StandsFor StandsAfter old session → IsAnswered old new bytes text → HasAnswered StandsAfter new session bytes text
has_answered_bytes old new session bytes text h a = has_answered old new session bytes text a.line h a.spelled a.tells a.drawn

-- a machine that stands for a lawful session wants memory only for a line that takes some after it
pub taking_after : {C : Type 0} (session : Session) (bytes : List ℕ) → IsLawful session → length session < 2 ^ 63 → SomeWants {M = Machine C} StandsAfter SpellsTaking session bytes → SpellsTakingAfter session bytes
taking_after session bytes h lt w =
    let taking = w.2 in
    (taking.0, taking.1, taking.2 (state_after start session) (length session) w.1.represents (session_reached session h lt))
