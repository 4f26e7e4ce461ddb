-- A judge that stands for a lawful session, and one line more.
use Rattle.std.proofs.Common.{ℕ, ◌<◌, ◌^◌, List, length, arith, sym, subst}
use Rattle.board_model.specs.LawfulSession.{State}
use Rattle.board_model.specs.LawsOfBounds.{IsWithin}
use Rattle.board_model.specs.LawsOfForms.{AreFormed, IsRightButForm}
use Rattle.board_model.specs.Sound.{Sound}
use Rattle.board_model.proofs.DrawLemmas.{session_within}
use Rattle.board_model.proofs.FormLaws.{right_answer_form}
use Rattle.board_model.proofs.KeptFormLemmas.{session_formed}
use Rattle.board_model.proofs.SoundLemmas.{sound_session}
use Rattle.script_model.specs.declared.line.ScriptLine.{ScriptLine}
use Rattle.script_model.specs.Parts.{board_part}
use Rattle.script_model.specs.ScriptSession.{IsLawful, Session, start, state_after}
use Rattle.script_model.proofs.PartLemmas.{boards_law_holds}
use Rattle.script_model.proofs.ScriptSoundLemmas.{sessions_sound}
use Rattle.script_loop.specs.Machines.{StandsFor}
use Rattle.script_pairs.specs.Checks.{TellsEach}
use Rattle.script_judge.specs.declared.judge.Judge.{Judge}
use Rattle.script_judge.specs.Judges.{IsLed, IsReached, Represents, Tells}

pub session_reached : (session : Session) → IsLawful session → length session < 2 ^ 63 → IsReached (state_after start session) (length session)
session_reached session h lt =
    let k = boards_law_holds session h in
    let short : length (board_part start session) < 2 ^ 63 = (let low = k.short in omega (arith, low, lt)) in
    record {
      few = lt;
      script = sessions_sound session h;
      lines = length (board_part start session);
      short = short;
      sound = subst Sound k.state (sound_session (board_part start session) k.lawful);
      within = subst (λ (s : State). IsWithin s (length (board_part start session))) k.state (session_within (board_part start session) k.lawful);
      formed = subst (λ (s : State). AreFormed s (length (board_part start session))) k.state (session_formed (board_part start session) k.lawful);
      form = λ l a r. right_answer_form (board_part start session) l a k.lawful short (subst (λ (s : State). IsRightButForm s l a) (sym k.state) r);
    }

-- a judge that stands for a lawful session is led
pub led : (j : Judge) (session : Session) → StandsFor (λ j n s. Represents j s) j session → IsLed j
led j session h = record {
  state = state_after start session;
  count = length session;
  represents = h.state;
  reached = session_reached session h.lawful h.few;
}

-- so a right answer adds a pair to the session
pub has_told : (old new : Judge) (l : ScriptLine) (text : List ℕ) → Tells old new l text → TellsEach (λ j n s. Represents j s) old new l text
has_told old new l text tells session h =
    let t = tells (state_after start session) (length session) h.state (session_reached session h.lawful h.few) in
    record { answer = t.answer; right = t.right; state = t.represents; told = t.told }
