-- Right answers of a script are short.
use Rattle.std.proofs.Common.{◌≡◌, ℕ, ◌+◌, ◌<◌, ◌≤◌, ◌^◌, Bool, true, false, List, [], ◌∷◌, ◌++◌, length, arith, refl, sym, subst, Option, Some, None}
use Rattle.std.specs.Prelude.{if◌then◌else◌, IfSome, IsSomeAnd, is_some}
use Rattle.board_event_model.specs.declared.call.EventProgress.{EventProgress}
use Rattle.board_event_model.specs.declared.call.EventProgress.TheVariants as progress
use Rattle.board_event_model.specs.EventMemory.{Event}
use Rattle.board_event_model.specs.EventCalls.{RunningCall, call_of, is_last, reported, turn}
use Rattle.board_event_model.specs.EventSessions.{PartyCall, event_of}
use Rattle.board_model.specs.declared.answer.Answer.{Answer}
use Rattle.board_model.specs.declared.line.Line.{Line}
use Rattle.board_model.specs.LawfulSession as boards
use Rattle.board_model.specs.Requests.{and_then}
use Rattle.script_model.specs.declared.line.ScriptLine.{ScriptLine}
use Rattle.script_model.specs.declared.line.ScriptLine.TheVariants as line
use Rattle.script_model.specs.declared.reply.EventReply.TheVariants as reply
use Rattle.script_model.specs.ScriptGrammar.{script_spell}
use Rattle.script_model.specs.ScriptAnswers.{ScriptAnswer, expired, of_ask, of_boards, of_event}
use Rattle.script_model.specs.ScriptEvents.{EventAsk, IsEventAccess, IsStepOf, ScriptEvents, ask_told, end_told, ids_told, is_for_all, opened_told, step_told, to_listen, to_notify}
use Rattle.script_model.specs.ScriptTurns.{EventTurn, ScriptState, begins, drops, expires, refused, steps, turn_of}
use Rattle.script_model.specs.ScriptSession.{Session, after, start, state_after}
use Rattle.script_model.specs.SoundEvents.{IsSoundScript}
use Rattle.script_model.specs.LawsOfRules.{IsRuled}
use Rattle.script_model.specs.Parts.{board_part, part_of}
use Rattle.script_model.proofs.NumberedLemmas.{acting}
use Rattle.script_model.proofs.RuleLemmas.{ruled}
use Rattle.script_model.proofs.PartLemmas.{boards_law_holds}
use Rattle.script_rules.specs.PrintedAnswers.{printed_of}
use Rattle.script_rules.proofs.RightPrintedLemmas.{right_printed}
use Rattle.script_lengths.specs.BoardSizes as sizes
use Rattle.script_lengths.specs.EventRooms.{HasRoom, ids_bytes}
use Rattle.script_lengths.specs.SizedAnswers.{IsSizedAnswer}
use Rattle.script_lengths.specs.ScriptLengths.{HasShortLines, IsSizedOnEvents, IsSizedScriptAnswer, RightAnswersAreShort, RightAnswersAreSized, RightAnswersAreSpelled}
use Rattle.script_lengths.proofs.RoomLemmas.{room_keeps, turn_keeps}
use Rattle.script_lengths.proofs.ScriptTextLemmas.{script_answers_short}
use Rattle.script_lengths.proofs.CallLemmas.{AreKeptCalls, session_keeps, start_kept}
use Rattle.script_lengths.proofs.SizedLemmas.{sized_within}

-- ---- the boards' part

short_both : (xs ys : boards.Session) → sizes.HasShortLines xs → sizes.HasShortLines ys → sizes.HasShortLines (xs ++ ys)
short_both [] ys h k = k
short_both (x ∷ xs) ys h k = (h.0, short_both xs ys h.1 k)

part_short : (o : Option EventTurn) (l : ScriptLine) (a : ScriptAnswer) → length (script_spell l) ≤ 4096 → sizes.HasShortLines (part_of o l a)
part_short (Some t) l a h = tt
part_short None (line.Board l) (of_boards a) h = (h, tt)
part_short None (line.Board l) (of_ask r) h = tt
part_short None (line.Board l) (of_event k name x a told) h = tt
part_short None (line.Board l) expired h = tt
part_short None (line.Event party q) a h = tt
part_short None (line.Expire party) a h = tt

board_part_short : (s : ScriptState) (pairs : Session) → HasShortLines pairs → sizes.HasShortLines (board_part s pairs)
board_part_short s [] h = tt
board_part_short s (x ∷ xs) h = short_both (part_of (turn_of s x.0) x.0 x.1) (board_part (after s x.0 x.1) xs) (part_short (turn_of s x.0) x.0 x.1 h.0) (board_part_short (after s x.0 x.1) xs h.1)

-- ---- what is told of events

ids_sized : (many : Bool) (ids : List ℕ) → ids_bytes ids ≤ 393600 → IsSizedOnEvents (ids_told many ids)
ids_sized true ids h = h
ids_sized false [] h = tt
ids_sized false (x ∷ xs) h = tt

end_sized : (many : Bool) (ids : List ℕ) (p : EventProgress) → ids_bytes (ids ++ reported p) ≤ 393600 → IsSizedOnEvents (end_told many ids p)
end_sized many ids progress.More h = ids_sized many _ h
end_sized many ids progress.Waiting h = ids_sized many _ h
end_sized many ids (progress.Took base bits last) h = ids_sized many _ h
end_sized many ids (progress.Id id last) h = ids_sized many _ h
end_sized many ids progress.Notified h = tt
end_sized many ids (progress.Refused why) h = tt
end_sized many ids progress.Nothing h = tt

told_sized : (r : RunningCall) (p : EventProgress) → ids_bytes (r.told ++ reported p) ≤ 393600 → IfSome (step_told r p) IsSizedOnEvents
told_sized r p h = at (is_last p)
  where
    at : (b : Bool) → IfSome (if b then Some (end_told (is_for_all (call_of r)) r.told p) else None) IsSizedOnEvents
    at true = end_sized (is_for_all (call_of r)) r.told p h
    at false = tt

ask_sized : (x : ScriptEvents) (q : EventAsk) → IsSizedOnEvents (ask_told x q)
ask_sized x (to_listen name k event max) = at (is_some (x.names k event))
  where
    at : (b : Bool) → IsSizedOnEvents (if b then reply.AlreadyExists else reply.Done)
    at true = tt
    at false = tt
ask_sized x (to_notify name k event) = by_event (and_then (x.names k event) (event_of x.session.stands))
  where
    by_held : (b : Bool) → IsSizedOnEvents (if b then reply.Done else reply.DoesNotExist)
    by_held true = tt
    by_held false = tt

    by_event : (o : Option Event) → IsSizedOnEvents (opened_told o)
    by_event None = tt
    by_event (Some e) = by_held e.held

-- ---- answers

step_sized : (s : ScriptState) (n m : ℕ) (party : List ℕ) (a : ScriptAnswer) → IsSoundScript s n → n < 2 ^ 63 → AreKeptCalls HasRoom s.events.session → (q : Option EventAsk) (o : Option PartyCall) → s.events.session.doing party ≡ o → IsStepOf s.events q o a → IsSizedScriptAnswer m a
step_sized s n m party a sound few h (Some q) o e ok = subst (IsSizedScriptAnswer m) (sym ok) (ask_sized s.events q)
step_sized s n m party a sound few h None None e ok = absurd ok
step_sized s n m party a sound few h None (Some d) e ok = at (event_of s.events.session.stands d.on) refl ok
  where
    at : (o : Option Event) → event_of s.events.session.stands d.on ≡ o → IsSomeAnd o (λ z. IsEventAccess z d.call a) → IsSizedScriptAnswer m a
    at None f k = absurd k
    at (Some z) f k =
        let facts = acting s n party d z sound.events few (sound.numbers few) e f in
        let said = turn_keeps z (call_of d.call) k.answer d.call.told k.right facts.small facts.queue (h.kept party d e) in
        subst (IsSizedScriptAnswer m) (sym k.printed) (told_sized d.call (turn (call_of d.call) k.answer).0 said.short)

turn_sized : (s : ScriptState) (n m : ℕ) (l : ScriptLine) (a : ScriptAnswer) (o : Option EventTurn) → IsSoundScript s n → n < 2 ^ 63 → AreKeptCalls HasRoom s.events.session → ((b : Line) (c : Answer) → boards.IsRight s.boards b c → IsSizedAnswer m c) → IsRuled s l a o → IsSizedScriptAnswer m a
turn_sized s n m l a (Some (refused why)) sound few h k ok = subst (IsSizedScriptAnswer m) (sym ok) tt
turn_sized s n m l a (Some (begins party t)) sound few h k ok = subst (IsSizedScriptAnswer m) (sym ok) tt
turn_sized s n m l a (Some (steps party)) sound few h k ok = step_sized s n m party a sound few h (s.events.asked party) (s.events.session.doing party) refl ok
turn_sized s n m l a (Some (drops party name)) sound few h k ok = subst (IsSizedScriptAnswer m) (sym ok) tt
turn_sized s n m l a (Some (expires party)) sound few h k ok = subst (IsSizedScriptAnswer m) (sym ok) tt
turn_sized s n m (line.Board l) a None sound few h k ok = subst (IsSizedScriptAnswer m) (sym ok.is) (k l ok.answer ok.right)
turn_sized s n m (line.Event p q) a None sound few h k ok = absurd ok
turn_sized s n m (line.Expire p) a None sound few h k ok = absurd ok

pub right_sized : RightAnswersAreSized
right_sized pairs l a ok few z right =
    let k = session_keeps HasRoom room_keeps pairs start 0 (omega arith) ok (start_kept HasRoom room_keeps) in
    let p = boards_law_holds pairs ok in
    let by_boards : (b : Line) (c : Answer) → boards.IsRight (state_after start pairs).boards b c → IsSizedAnswer (length pairs) c =
    subst (λ (s : boards.State). (b : Line) (c : Answer) → boards.IsRight s b c → IsSizedAnswer (length pairs) c) p.state
    (λ b c r. sized_within (board_part start pairs) b c (length pairs) p.short p.lawful (board_part_short start pairs z) r) in
    turn_sized (state_after start pairs) (0 + length pairs) (length pairs) l a (turn_of (state_after start pairs) l) k.sound (omega arith) k.calls by_boards (ruled (state_after start pairs) l a right)

pub right_short : RightAnswersAreShort
right_short pairs l a ok few z right = script_answers_short (length pairs) a right.answer (right_sized pairs l a ok few z right)

pub right_spelled : RightAnswersAreSpelled
right_spelled pairs l a ok few z right =
    let k = right_printed pairs l a ok right in
    record { printed = printed_of a; formed = k.formed; bytes = k.text; short = omega (arith, right_short pairs l a ok few z right) }
