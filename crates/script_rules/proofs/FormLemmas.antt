-- What keeps the other rules of an answer is of the answer grammar.
use Rattle.std.proofs.Common.{◌≡◌, ℕ, ◌<◌, ◌^◌, length, arith, refl, sym, ap, subst, ◌∙◌, Option, Some, None}
use Rattle.std.specs.Prelude.{IsSomeAnd}
use Rattle.board_event_model.specs.EventMemory.{Event}
use Rattle.board_event_model.specs.EventMemory as event
use Rattle.board_event_model.specs.EventCalls.{call_of, owed, turn}
use Rattle.board_event_model.specs.EventSessions.{PartyCall, event_of}
use Rattle.board_model.specs.declared.answer.Answer.{Answer}
use Rattle.board_model.specs.declared.answer.Answer.TheVariants as answer
use Rattle.board_model.specs.declared.answer.Reason.{Reason}
use Rattle.board_model.specs.declared.line.Line.{Line}
use Rattle.board_model.specs.AnswerGrammar.{IsAnswer}
use Rattle.board_model.specs.LawfulSession as boards
use Rattle.board_model.specs.LawsOfForms as boards_forms
use Rattle.board_model.proofs.FormLaws.{right_answer_form}
use Rattle.script_model.specs.declared.line.ScriptLine.{ScriptLine}
use Rattle.script_model.specs.declared.line.ScriptLine.TheVariants as line
use Rattle.script_model.specs.declared.reply.EventReply.{EventReply}
use Rattle.script_model.specs.ScriptGrammar.{IsScriptLine}
use Rattle.script_model.specs.ScriptAnswers.{IsScriptAnswer, ScriptAnswer, expired, of_ask, of_boards, of_event}
use Rattle.script_model.specs.ScriptEvents.{EventAsk, IsEventAccess, IsStepOf, ScriptEvents, ask_told, step_told}
use Rattle.script_model.specs.ScriptRules.{IsDueReply, IsOfEvent, IsOwedAccess, IsOwedStep, IsReasoned}
use Rattle.script_model.specs.ScriptTurns.{EventTurn, ScriptState, begins, drops, expires, refused, steps, turn_of}
use Rattle.script_model.specs.ScriptSession.{IsLawful, Session, start, state_after}
use Rattle.script_model.specs.SoundEvents.{IsSoundScript}
use Rattle.script_model.specs.Parts.{board_part}
use Rattle.script_model.proofs.FormedLemmas.{step_formed_so}
use Rattle.script_model.proofs.PartLemmas.{boards_law_holds}
use Rattle.script_model.proofs.RuleLemmas.{AreRules}
use Rattle.script_model.proofs.ScriptSoundLemmas.{sessions_sound}
use Rattle.script_rules.specs.LawsOfForms.{RightAnswersAreOfTheGrammar}

-- ---- a step on events

-- the reply to what was asked for
asked_is : (x : ScriptEvents) (q : EventAsk) (d : Option PartyCall) (r : EventReply) (a : ScriptAnswer) → a ≡ of_ask r → IsDueReply x (Some q) d a → a ≡ of_ask (ask_told x q)
asked_is x q d r a e h =
    let k : r ≡ ask_told x q = subst (λ (y : ScriptAnswer). IsDueReply x (Some q) d y) e h in
    e ∙ ap of_ask k

-- the access to an event, what it answered, and the reply
access_is : (x : ScriptEvents) (d : PartyCall) (o : Option Event) (a : ScriptAnswer) → event_of x.session.stands d.on ≡ o → IsSomeAnd o (λ e. IsOwedAccess e d.call a)
    → IsOfEvent x (Some d) a → IsDueReply x None (Some d) a → IsSomeAnd o (λ e. IsEventAccess e d.call a)
access_is x d None a f h v r = h
access_is x d (Some e) a f h v r =
    let v1 = subst (λ (y : ScriptAnswer). IsOfEvent x (Some d) y) h.printed v in
    let v2 : event.IsRight e (owed (call_of d.call)) h.answer = subst (λ (p : Option Event). IsSomeAnd p (λ z. event.IsRight z (owed (call_of d.call)) h.answer)) f v1 in
    let r1 : h.told ≡ step_told d.call (turn (call_of d.call) h.answer).0 = subst (λ (y : ScriptAnswer). IsDueReply x None (Some d) y) h.printed r in
    record { answer = h.answer; right = v2; printed = h.printed ∙ ap (λ (t : Option EventReply). of_event e.kind e.name (owed (call_of d.call)) h.answer t) r1 }

-- the rules of a step give its answer
step_is : (x : ScriptEvents) (q : Option EventAsk) (d : Option PartyCall) (a : ScriptAnswer) → IsOwedStep x q d a → IsOfEvent x d a → IsDueReply x q d a → IsStepOf x q d a
step_is x (Some q) d a o v r = asked_is x q d o.0 a o.1 r
step_is x None None a o v r = o
step_is x None (Some d) a o v r = access_is x d (event_of x.session.stands d.on) a refl o v r

-- ---- a line of boards

-- its answer is one of boards
not_boards : (o : Option Reason) (a : ScriptAnswer) → ((b : Answer) → a ≡ of_boards b → ⊥) → IsReasoned o a → (o ≡ None → ⊥) → ⊥
not_boards None a off h k = k refl
not_boards (Some why) a off h k = off (answer.Refused why) h

-- and is refused as boards refuse it
reasoned_so : (o : Option Reason) (a : Answer) → IsReasoned o (of_boards a) → boards.IsReasoned o a
reasoned_so (Some why) a h = cc
reasoned_so None answer.Begun h = tt
reasoned_so None (answer.Refused why) h = absurd h
reasoned_so None (answer.Step x told) h = tt
reasoned_so None answer.Gone h = tt
reasoned_so None (answer.Words ws) h = tt

-- what keeps boards' other rules is of their grammar, after the boards' part of a script
BoardsGive : boards.State → Type 0
BoardsGive s = (l : Line) (a : Answer) → boards_forms.IsRightButForm s l a → IsAnswer a

boards_give : (pairs : Session) → IsLawful pairs → length pairs < 2 ^ 63 → BoardsGive (state_after start pairs).boards
unfolding BoardsGive
boards_give pairs ok few l a h =
    let part = boards_law_holds pairs ok in
    let short = part.short in
    right_answer_form (board_part start pairs) l a part.lawful (omega (arith, short, few)) (subst (λ (s : boards.State). boards_forms.IsRightButForm s l a) (sym part.state) h)

-- ---- any line

turn_gives : (s : ScriptState) (n : ℕ) → IsSoundScript s n → n < 2 ^ 63 → BoardsGive s.boards → (l : ScriptLine) (t : Option EventTurn) (a : ScriptAnswer)
    → IsScriptLine l → AreRules s l t a → IsScriptAnswer a
unfolding BoardsGive
turn_gives s n sound few give l (Some (refused why)) a ok h = subst IsScriptAnswer (sym h.reason) tt
turn_gives s n sound few give l (Some (begins party t)) a ok h = subst IsScriptAnswer (sym (h.owed refl)) tt
turn_gives s n sound few give l (Some (steps party)) a ok h =
    step_formed_so s l n party a sound few (step_is s.events (s.events.asked party) (s.events.session.doing party) a (h.owed refl) (h.event refl) (h.reply refl))
turn_gives s n sound few give l (Some (drops party name)) a ok h = subst IsScriptAnswer (sym (h.owed refl)) (tt, tt)
turn_gives s n sound few give l (Some (expires party)) a ok h = subst IsScriptAnswer (sym (h.owed refl)) tt
turn_gives s n sound few give (line.Board l) None (of_boards a) ok h =
    give l a (record { line = ok; reason = reasoned_so (boards.reason_of s.boards l) a h.reason; owed = h.owed; word = h.word; reply = h.reply })
turn_gives s n sound few give (line.Board l) None (of_ask r) ok h = absurd (not_boards (boards.reason_of s.boards l) (of_ask r) (λ b e. cc) h.reason h.owed)
turn_gives s n sound few give (line.Board l) None (of_event k m x b told) ok h =
    absurd (not_boards (boards.reason_of s.boards l) (of_event k m x b told) (λ c e. cc) h.reason h.owed)
turn_gives s n sound few give (line.Board l) None expired ok h = absurd (not_boards (boards.reason_of s.boards l) expired (λ b e. cc) h.reason h.owed)
turn_gives s n sound few give (line.Event party q) None a ok h = absurd (h.owed refl)
turn_gives s n sound few give (line.Expire party) None a ok h = absurd (h.owed refl)

pub right_of_grammar : RightAnswersAreOfTheGrammar
right_of_grammar pairs l a ok few h =
    turn_gives (state_after start pairs) (length pairs) (sessions_sound pairs ok) few (boards_give pairs ok few) l (turn_of (state_after start pairs) l) a h.line
    (record { reason = h.reason; owed = h.owed; word = h.word; event = h.event; reply = h.reply })
