-- The rules by name ask for the answer of the line's turn.
use Rattle.std.proofs.Common.{◌≡◌, ℕ, List, refl, sym, ap, subst, ◌∙◌, Option, Some, None}
use Rattle.std.specs.Prelude.{IsSomeAnd}
use Rattle.board_event_model.specs.EventMemory.{Event}
use Rattle.board_event_model.specs.EventMemory as event
use Rattle.board_event_model.specs.EventCalls.{call_of, owed, turn}
use Rattle.board_event_model.specs.EventSessions.{PartyCall, event_of}
use Rattle.board_model.specs.declared.answer.Answer.{Answer}
use Rattle.board_model.specs.declared.answer.Answer.TheVariants as answer
use Rattle.board_model.specs.declared.answer.Reason.{Reason}
use Rattle.board_model.specs.declared.line.Line.{Line}
use Rattle.board_model.specs.LawfulSession as boards
use Rattle.script_model.specs.declared.line.ScriptLine.{ScriptLine}
use Rattle.script_model.specs.declared.line.ScriptLine.TheVariants as line
use Rattle.script_model.specs.declared.reply.EventReply.{EventReply}
use Rattle.script_model.specs.ScriptGrammar.{IsScriptLine}
use Rattle.script_model.specs.ScriptAnswers.{IsScriptAnswer, ScriptAnswer, expired, of_ask, of_boards, of_event}
use Rattle.script_model.specs.ScriptEvents.{EventAsk, IsEventAccess, IsStepOf, ScriptEvents, ask_told, step_told}
use Rattle.script_model.specs.ScriptRules.{IsDueReply, IsEvent, IsOfEvent, IsOwed, IsOwedAccess, IsOwedStep, IsReasoned, IsReplied, IsWord, reason_in_turn}
use Rattle.script_model.specs.ScriptSession.{IsRight}
use Rattle.script_model.specs.ScriptTurns.{EventTurn, IsTurnAnswer, ScriptState, begins, drops, expires, refused, steps, turn_of}
use Rattle.script_model.specs.LawsOfRules.{IsRuled, RulesAreTurns}

-- ---- one turn

pub record AreRules (s : ScriptState) (l : ScriptLine) (t : Option EventTurn) (a : ScriptAnswer) : Type 0 where
  pub reason : IsReasoned (reason_in_turn s l t) a
  pub owed : reason_in_turn s l t ≡ None → IsOwed s l t a
  pub word : reason_in_turn s l t ≡ None → IsWord s l t a
  pub event : reason_in_turn s l t ≡ None → IsEvent s t a
  pub reply : reason_in_turn s l t ≡ None → IsReplied s l t a

-- an accepted line isn't refused
not_refused : (o : Option Reason) (a : Answer) → boards.IsReasoned o a → IsReasoned o (of_boards a)
not_refused (Some why) a h = ap of_boards h
not_refused None answer.Begun h = tt
not_refused None (answer.Refused why) h = absurd h
not_refused None (answer.Step x told) h = tt
not_refused None answer.Gone h = tt
not_refused None (answer.Words ws) h = tt

refused_not : (o : Option Reason) (a : Answer) → IsReasoned o (of_boards a) → boards.IsReasoned o a
refused_not (Some why) a h = cc
refused_not None answer.Begun h = tt
refused_not None (answer.Refused why) h = absurd h
refused_not None (answer.Step x told) h = tt
refused_not None answer.Gone h = tt
refused_not None (answer.Words ws) h = tt

-- ---- from a right answer to the rules

board_rules : (s : ScriptState) (l : Line) (a : Answer) → boards.IsRight s.boards l a → AreRules s (line.Board l) None (of_boards a)
board_rules s l a h = record {
  reason = not_refused (boards.reason_of s.boards l) a h.reason;
  owed = h.owed;
  word = h.word;
  event = λ e. tt;
  reply = h.reply;
}

step_rules : (s : ScriptState) (l : ScriptLine) (party : List ℕ) (a : ScriptAnswer) → IsStepOf s.events (s.events.asked party) (s.events.session.doing party) a → AreRules s l (Some (steps party)) a
step_rules s l party a h =
    let k = at (s.events.asked party) (s.events.session.doing party) h in
    record { reason = k.0; owed = λ e. k.1; word = λ e. tt; event = λ e. k.2; reply = λ e. k.3 }
  where
    on : (q : Option EventAsk) (d : PartyCall) (o : Option Event) → IsSomeAnd o (λ e. IsEventAccess e d.call a) → IsReasoned None a × IsSomeAnd o (λ e. IsOwedAccess e d.call a) × ((event_of s.events.session.stands d.on ≡ o) → IsOfEvent s.events (Some d) a) × IsDueReply s.events None (Some d) a
    on q d None k = absurd k
    on q d (Some e) k = (
      subst (λ (x : ScriptAnswer). IsReasoned None x) (sym k.printed) tt,
      record { answer = k.answer; told = step_told d.call (turn (call_of d.call) k.answer).0; printed = k.printed },
      λ f. subst (λ (x : ScriptAnswer). IsOfEvent s.events (Some d) x) (sym k.printed) (subst (λ (p : Option Event). IsSomeAnd p (λ z. event.IsRight z (owed (call_of d.call)) k.answer)) (sym f) k.right),
      subst (λ (x : ScriptAnswer). IsDueReply s.events None (Some d) x) (sym k.printed) refl,
    )

    at : (q : Option EventAsk) (d : Option PartyCall) → IsStepOf s.events q d a → IsReasoned None a × IsOwedStep s.events q d a × IsOfEvent s.events d a × IsDueReply s.events q d a
    at (Some q) d k = (
      subst (λ (x : ScriptAnswer). IsReasoned None x) (sym k) tt,
      (ask_told s.events q, k),
      subst (λ (x : ScriptAnswer). IsOfEvent s.events d x) (sym k) (no_event d),
      subst (λ (x : ScriptAnswer). IsDueReply s.events (Some q) d x) (sym k) refl,
    )
      where
        no_event : (d : Option PartyCall) → IsOfEvent s.events d (of_ask (ask_told s.events q))
        no_event None = tt
        no_event (Some d) = tt
    at None None k = absurd k
    at None (Some d) k =
        let x = on None d (event_of s.events.session.stands d.on) k in
        (x.0, x.1, x.2 refl, x.3)

pub turn_rules : (s : ScriptState) (l : ScriptLine) (t : Option EventTurn) (a : ScriptAnswer) → IsRuled s l a t → AreRules s l t a
turn_rules s l (Some (refused why)) a h = record { reason = h; owed = λ e. tt; word = λ e. tt; event = λ e. tt; reply = λ e. tt }
turn_rules s l (Some (begins party t)) a h = record { reason = subst (λ (x : ScriptAnswer). IsReasoned None x) (sym h) tt; owed = λ e. h; word = λ e. tt; event = λ e. tt; reply = λ e. tt }
turn_rules s l (Some (steps party)) a h = step_rules s l party a h
turn_rules s l (Some (drops party name)) a h = record { reason = subst (λ (x : ScriptAnswer). IsReasoned None x) (sym h) tt; owed = λ e. h; word = λ e. tt; event = λ e. tt; reply = λ e. tt }
turn_rules s l (Some (expires party)) a h = record { reason = subst (λ (x : ScriptAnswer). IsReasoned None x) (sym h) tt; owed = λ e. h; word = λ e. tt; event = λ e. tt; reply = λ e. tt }
turn_rules s (line.Board l) None a h = subst (AreRules s (line.Board l) None) (sym h.is) (board_rules s l h.answer h.right)
turn_rules s (line.Event party q) None a h = absurd h
turn_rules s (line.Expire party) None a h = absurd h

-- ---- from the rules to a right answer

-- an answer that is asked for
asked_right : (x : ScriptEvents) (q : EventAsk) (d : Option PartyCall) (r : EventReply) (a : ScriptAnswer) → a ≡ of_ask r → IsDueReply x (Some q) d a → a ≡ of_ask (ask_told x q)
asked_right x q d r a e h =
    let k : r ≡ ask_told x q = subst (λ (y : ScriptAnswer). IsDueReply x (Some q) d y) e h in
    e ∙ ap of_ask k

-- an access to an event
access_right : (x : ScriptEvents) (d : PartyCall) (o : Option Event) (a : ScriptAnswer) → event_of x.session.stands d.on ≡ o → IsSomeAnd o (λ e. IsOwedAccess e d.call a) → IsOfEvent x (Some d) a → IsDueReply x None (Some d) a → IsSomeAnd o (λ e. IsEventAccess e d.call a)
access_right x d None a f h v r = h
access_right x d (Some e) a f h v r =
    let v1 = subst (λ (y : ScriptAnswer). IsOfEvent x (Some d) y) h.printed v in
    let v2 : event.IsRight e (owed (call_of d.call)) h.answer = subst (λ (p : Option Event). IsSomeAnd p (λ z. event.IsRight z (owed (call_of d.call)) h.answer)) f v1 in
    let r1 : h.told ≡ step_told d.call (turn (call_of d.call) h.answer).0 = subst (λ (y : ScriptAnswer). IsDueReply x None (Some d) y) h.printed r in
    record { answer = h.answer; right = v2; printed = h.printed ∙ ap (λ (t : Option EventReply). of_event e.kind e.name (owed (call_of d.call)) h.answer t) r1 }

step_right : (x : ScriptEvents) (q : Option EventAsk) (d : Option PartyCall) (a : ScriptAnswer) → IsOwedStep x q d a → IsOfEvent x d a → IsDueReply x q d a → IsStepOf x q d a
step_right x (Some q) d a o v r = asked_right x q d o.0 a o.1 r
step_right x None None a o v r = o
step_right x None (Some d) a o v r = access_right x d (event_of x.session.stands d.on) a refl o v r

-- boards answer a line of theirs
off_boards : (o : Option Reason) (a : ScriptAnswer) → ((b : Answer) → a ≡ of_boards b → ⊥) → IsReasoned o a → (o ≡ None → ⊥) → ⊥
off_boards None a off h k = k refl
off_boards (Some why) a off h k = off (answer.Refused why) h

turn_right : (s : ScriptState) (l : ScriptLine) (t : Option EventTurn) (a : ScriptAnswer) → IsScriptLine l → IsScriptAnswer a → AreRules s l t a → IsRuled s l a t
turn_right s l (Some (refused why)) a ok form h = h.reason
turn_right s l (Some (begins party t)) a ok form h = h.owed refl
turn_right s l (Some (steps party)) a ok form h = step_right s.events (s.events.asked party) (s.events.session.doing party) a (h.owed refl) (h.event refl) (h.reply refl)
turn_right s l (Some (drops party name)) a ok form h = h.owed refl
turn_right s l (Some (expires party)) a ok form h = h.owed refl
turn_right s (line.Board l) None (of_boards a) ok form h = record {
  answer = a;
  right = record { line = ok; answer = form; reason = refused_not (boards.reason_of s.boards l) a h.reason; owed = h.owed; word = h.word; reply = h.reply };
  is = refl;
}
turn_right s (line.Board l) None (of_ask r) ok form h = absurd (off_boards (boards.reason_of s.boards l) (of_ask r) (λ b e. cc) h.reason h.owed)
turn_right s (line.Board l) None (of_event k n x b told) ok form h = absurd (off_boards (boards.reason_of s.boards l) (of_event k n x b told) (λ b e. cc) h.reason h.owed)
turn_right s (line.Board l) None expired ok form h = absurd (off_boards (boards.reason_of s.boards l) expired (λ b e. cc) h.reason h.owed)
turn_right s (line.Event party q) None a ok form h = absurd (h.owed refl)
turn_right s (line.Expire party) None a ok form h = absurd (h.owed refl)

-- ---- the law

-- a right answer is that of the line's turn
pub ruled : (s : ScriptState) (l : ScriptLine) (a : ScriptAnswer) → IsRight s l a → IsRuled s l a (turn_of s l)
ruled s l a h = turn_right s l (turn_of s l) a h.line h.answer (record { reason = h.reason; owed = h.owed; word = h.word; event = h.event; reply = h.reply })

-- and is that alone, where it is of the grammar
pub right_by : (s : ScriptState) (l : ScriptLine) (a : ScriptAnswer) → IsScriptLine l → IsRuled s l a (turn_of s l) → IsScriptAnswer a → IsRight s l a
right_by s l a ok rule form =
    let k = turn_rules s l (turn_of s l) a rule in
    record { line = ok; answer = form; reason = k.reason; owed = k.owed; word = k.word; event = k.event; reply = k.reply }

-- a line that is the boards' alone is answered right where boards answer it so
pub right_on_boards : (s : ScriptState) (l : Line) (a : Answer) → turn_of s (line.Board l) ≡ None → boards.IsRight s.boards l a → IsRight s (line.Board l) (of_boards a)
right_on_boards s l a alone h =
    right_by s (line.Board l) (of_boards a) h.line (subst (λ (t : Option EventTurn). IsRuled s (line.Board l) (of_boards a) t) (sym alone) (record { answer = a; right = h; is = refl })) h.answer

-- and a line that events have to do with, where its turn is answered so
pub right_on_events : (s : ScriptState) (l : ScriptLine) (t : EventTurn) (a : ScriptAnswer) → turn_of s l ≡ Some t → IsScriptLine l → IsTurnAnswer s.events t a → IsScriptAnswer a → IsRight s l a
right_on_events s l t a turn ok h form = right_by s l a ok (subst (λ (x : Option EventTurn). IsRuled s l a x) (sym turn) h) form

pub rules_turns : RulesAreTurns
rules_turns = record {
  in_turn = λ s l a h. record { line = h.line; rule = ruled s l a h };
  by_rules = λ s l a h form. right_by s l a h.line h.rule form;
}
