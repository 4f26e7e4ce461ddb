-- The boards' part of a lawful session, and the part of each event.
use Rattle.std.proofs.Common.{ℕ, arith, ◌≡◌, ◌≤◌, refl, sym, ◌∙◌, ap, subst, Some, None, Option, [], ◌∷◌, ◌++◌, length, length-append}
use Rattle.board_event_model.specs.EventRuns.{IsReached}
use Rattle.board_event_model.specs.EventSessions.{EventSession, StandingEvent, view}
use Rattle.board_event_model.proofs.ViewLemmas.{session_reached}
use Rattle.board_model.specs.LawfulSession as boards
use Rattle.script_model.specs.declared.line.ScriptLine.{ScriptLine}
use Rattle.script_model.specs.declared.line.ScriptLine.TheVariants as line
use Rattle.script_model.specs.ScriptAnswers.{ScriptAnswer, expired, of_ask, of_boards, of_event}
use Rattle.script_model.specs.ScriptEvents.{ScriptEvents}
use Rattle.script_model.specs.SoundEvents.{AreSoundEvents}
use Rattle.script_model.specs.ScriptTurns.{EventTurn, ScriptState, turn_of}
use Rattle.script_model.specs.LawsOfRules.{IsRuled}
use Rattle.script_model.specs.ScriptSession.{IsLawful, IsLawfulFrom, Session, after, after_turn, start, state_after}
use Rattle.script_model.specs.Parts.{board_part, part_of}
use Rattle.script_model.specs.LawsOfParts.{BoardsLaw, BoardsLawFrom}
use Rattle.script_model.proofs.RuleLemmas.{ruled}
use Rattle.script_model.proofs.ScriptSoundLemmas.{sessions_sound}

-- ---- the boards' part

-- a session of boards from one state to another
pub record Leads (from to : boards.State) (pairs : boards.Session) : Type 0 where
  pub lawful : boards.IsLawfulFrom from pairs
  pub state : boards.state_after from pairs ≡ to

-- one line more
part_leads : (s : ScriptState) (l : ScriptLine) (a : ScriptAnswer) (o : Option EventTurn) (to : boards.State) (rest : boards.Session) → IsRuled s l a o → Leads (after_turn s l a o).boards to rest → Leads s.boards to (part_of o l a ++ rest)
part_leads s l a (Some t) to rest ok h = record { lawful = h.lawful; state = h.state }
part_leads s (line.Board l) a None to rest ok h =
    subst (λ (b : ScriptAnswer). Leads s.boards to (part_of None (line.Board l) b ++ rest)) (sym ok.is) (
    let k = subst (λ (b : ScriptAnswer). Leads (after_turn s (line.Board l) b None).boards to rest) ok.is h in
    record { lawful = (ok.right, k.lawful); state = k.state })
part_leads s (line.Event party q) a None to rest ok h = absurd ok
part_leads s (line.Expire party) a None to rest ok h = absurd ok

pub board_part_leads : (s : ScriptState) (pairs : Session) → IsLawfulFrom s pairs → Leads s.boards (state_after s pairs).boards (board_part s pairs)
board_part_leads s [] ok = record { lawful = tt; state = refl }
board_part_leads s (pair ∷ pairs) ok = part_leads s pair.0 pair.1 (turn_of s pair.0) _ (board_part (after s pair.0 pair.1) pairs) (ruled s pair.0 pair.1 ok.0) (board_part_leads (after s pair.0 pair.1) pairs ok.1)

part_short : (o : Option EventTurn) (l : ScriptLine) (a : ScriptAnswer) → length (part_of o l a) ≤ 1
part_short (Some t) l a = omega arith
part_short None (line.Board l) (of_boards a) = omega arith
part_short None (line.Board l) (of_ask r) = omega arith
part_short None (line.Board l) (of_event k name x a told) = omega arith
part_short None (line.Board l) expired = omega arith
part_short None (line.Event party q) a = omega arith
part_short None (line.Expire party) a = omega arith

board_part_short : (s : ScriptState) (pairs : Session) → length (board_part s pairs) ≤ length pairs
board_part_short s [] = omega arith
board_part_short s (pair ∷ pairs) =
    let rest = board_part_short (after s pair.0 pair.1) pairs in
    let one = part_short (turn_of s pair.0) pair.0 pair.1 in
    let sum = length-append (part_of (turn_of s pair.0) pair.0 pair.1) (board_part (after s pair.0 pair.1) pairs) in
    omega arith

pub boards_law_from : BoardsLawFrom
boards_law_from s pairs ok =
    let h = board_part_leads s pairs ok in
    record { lawful = h.lawful; state = h.state; short = board_part_short s pairs }

pub boards_law_holds : BoardsLaw
boards_law_holds pairs ok =
    let h = board_part_leads start pairs ok in
    record { lawful = h.lawful; state = h.state; short = board_part_short start pairs }

-- ---- the part of an event

-- what concerns an event of a sound state is a run on it
pub sound_reached : (x : ScriptEvents) (c n : ℕ) (st : StandingEvent) → AreSoundEvents x c → x.session.stands n ≡ Some st → IsReached (view x.session n st)
sound_reached x c n st h stands =
    let k = h.session in
    subst (λ (s : EventSession). IsReached (view s n st)) (sym k.is) (session_reached k.lines k.allowed n st (ap (λ (s : EventSession). s.stands n) (sym k.is) ∙ stands))

pub events_reached : (pairs : Session) → IsLawful pairs → (n : ℕ) (st : StandingEvent) → (state_after start pairs).events.session.stands n ≡ Some st → IsReached (view (state_after start pairs).events.session n st)
events_reached pairs ok n st stands = sound_reached (state_after start pairs).events (length pairs) n st (sessions_sound pairs ok).events stands
