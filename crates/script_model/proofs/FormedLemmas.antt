-- The answers of turns are of the answer grammar.
use Rattle.std.proofs.Common.{◌≡◌, ℕ, ◌<◌, ◌^◌, Bool, true, false, List, [], ◌∷◌, length, arith, refl, sym, subst, Option, Some, None}
use Rattle.std.specs.Prelude.{if◌then◌else◌, ◌||◌, not, nat_lt, IfSome, IsSomeAnd, is_some}
use Rattle.board_event_model.specs.declared.access.EventAccess.{EventAccess}
use Rattle.board_event_model.specs.declared.access.EventAccess.TheVariants as access
use Rattle.board_event_model.specs.declared.access.EventAnswer.{EventAnswer}
use Rattle.board_event_model.specs.declared.access.EventAnswer.TheVariants as event_answer
use Rattle.board_event_model.specs.declared.call.EventProgress.{EventProgress}
use Rattle.board_event_model.specs.declared.call.EventProgress.TheVariants as progress
use Rattle.board_event_model.specs.EventMemory as memory
use Rattle.board_event_model.specs.EventMemory.{Event, pop_answer, yes_or_no}
use Rattle.board_event_model.specs.EventCalls.{RunningCall, call_of, is_last, owed, reported, turn}
use Rattle.board_event_model.specs.EventSessions.{PartyCall, event_of}
use Rattle.board_model.specs.Requests.{and_then}
use Rattle.script_model.specs.declared.line.ScriptLine.{ScriptLine}
use Rattle.script_model.specs.declared.line.ScriptLine.TheVariants as line
use Rattle.script_model.specs.declared.reply.EventReply.TheVariants as reply
use Rattle.script_model.specs.ScriptAnswers.{IsAnswerTo, IsFormedReply, IsScriptAnswer, PrintsNumbers, ScriptAnswer}
use Rattle.script_model.specs.ScriptEvents.{EventAsk, IsEventAccess, IsStepOf, ScriptEvents, ask_told, end_told, ids_told, is_for_all, opened_told, step_told, to_listen, to_notify}
use Rattle.script_model.specs.ScriptTurns.{EventTurn, IsTurnAnswer, ScriptState, begins, drops, expires, refused, steps, turn_of}
use Rattle.script_model.specs.LawsOfRules.{IsRuled, TurnsAreRight}
use Rattle.script_model.specs.SoundEvents.{AreNumbered, AreNumbers, AreSoundEvents, IsSoundScript}
use Rattle.script_model.proofs.NumberLemmas.{IsSmall, numbers_both, turn_says}
use Rattle.script_model.proofs.NumberedLemmas.{acting}
use Rattle.script_model.proofs.RuleLemmas.{right_by}

-- ---- right answers

number_small : (a : EventAccess) → IsSmall a → PrintsNumbers a
number_small access.Listener h = tt
number_small (access.Set id) h = h
number_small access.Post h = tt
number_small (access.Push id) h = tt
number_small access.Signal h = tt
number_small (access.Scan k) h = omega arith
number_small (access.Clear id) h = omega arith
number_small (access.Swap k) h = omega arith
number_small access.Pop h = tt

yes_answers : (b : Bool) → IsAnswerTo access.Listener (yes_or_no b)
yes_answers true = tt
yes_answers false = tt

yes_signals : (b : Bool) → IsAnswerTo access.Signal (yes_or_no b)
yes_signals true = tt
yes_signals false = tt

push_answers : (id : ℕ) (x y : Bool) → IsAnswerTo (access.Push id) (if x then event_answer.Gone else if y then event_answer.Done else event_answer.Full)
push_answers id true y = tt
push_answers id false true = tt
push_answers id false false = tt

pop_answers : (queue : List ℕ) → AreNumbers queue → IsAnswerTo access.Pop (pop_answer queue)
pop_answers [] h = tt
pop_answers (x ∷ xs) h = h.0

right_answers : (e : Event) (a : EventAccess) (b : EventAnswer) → memory.IsRight e a b → AreNumbers e.queue → IsAnswerTo a b
right_answers e access.Listener b h q = subst (IsAnswerTo access.Listener) (sym h) (yes_answers e.held)
right_answers e (access.Set id) b h q = subst (IsAnswerTo (access.Set id)) (sym h) tt
right_answers e access.Post b h q = subst (IsAnswerTo access.Post) (sym h) tt
right_answers e (access.Push id) b h q = subst (IsAnswerTo (access.Push id)) (sym h) (push_answers id (not e.held || e.gone) (nat_lt (length e.queue) 512))
right_answers e access.Signal b h q = subst (IsAnswerTo access.Signal) (sym h) (yes_signals (nat_lt 0 e.signals))
right_answers e (access.Scan k) b h q = subst (IsAnswerTo (access.Scan k)) (sym h.1) h.2.small
right_answers e (access.Clear id) b h q = subst (IsAnswerTo (access.Clear id)) (sym h.0) tt
right_answers e (access.Swap k) b h q = subst (IsAnswerTo (access.Swap k)) (sym h.1) h.2.small
right_answers e access.Pop b h q = subst (IsAnswerTo access.Pop) (sym h) (pop_answers e.queue q)

ids_reply : (many : Bool) (ids : List ℕ) → AreNumbers ids → IsFormedReply (ids_told many ids)
ids_reply true ids h = h
ids_reply false [] h = tt
ids_reply false (x ∷ xs) h = h.0

end_reply : (many : Bool) (ids : List ℕ) (p : EventProgress) → AreNumbers ids → AreNumbers (reported p) → IsFormedReply (end_told many ids p)
end_reply many ids progress.More h k = ids_reply many _ (numbers_both ids _ h k)
end_reply many ids progress.Waiting h k = ids_reply many _ (numbers_both ids _ h k)
end_reply many ids (progress.Took base bits last) h k = ids_reply many _ (numbers_both ids _ h k)
end_reply many ids (progress.Id id last) h k = ids_reply many _ (numbers_both ids _ h k)
end_reply many ids progress.Notified h k = tt
end_reply many ids (progress.Refused why) h k = tt
end_reply many ids progress.Nothing h k = tt

told_reply : (r : RunningCall) (p : EventProgress) → AreNumbers r.told → AreNumbers (reported p) → IfSome (step_told r p) IsFormedReply
told_reply r p h k = at (is_last p)
  where
    at : (b : Bool) → IfSome (if b then Some (end_told (is_for_all (call_of r)) r.told p) else None) IsFormedReply
    at true = end_reply (is_for_all (call_of r)) r.told p h k
    at false = tt

ask_reply : (x : ScriptEvents) (q : EventAsk) → IsFormedReply (ask_told x q)
ask_reply x (to_listen name k event max) = at (is_some (x.names k event))
  where
    at : (b : Bool) → IsFormedReply (if b then reply.AlreadyExists else reply.Done)
    at true = tt
    at false = tt
ask_reply x (to_notify name k event) = by_event (and_then (x.names k event) (event_of x.session.stands))
  where
    by_held : (b : Bool) → IsFormedReply (if b then reply.Done else reply.DoesNotExist)
    by_held true = tt
    by_held false = tt

    by_event : (o : Option Event) → IsFormedReply (opened_told o)
    by_event None = tt
    by_event (Some e) = by_held e.held

step_formed : (s : ScriptState) (n : ℕ) (party : List ℕ) (a : ScriptAnswer) → AreSoundEvents s.events n → n < 2 ^ 63 → AreNumbered s.events.session → (q : Option EventAsk) (o : Option PartyCall) → s.events.session.doing party ≡ o → IsStepOf s.events q o a → IsScriptAnswer a
step_formed s n party a sound few h (Some q) o e ok = subst IsScriptAnswer (sym ok) (ask_reply s.events q)
step_formed s n party a sound few h None None e ok = absurd ok
step_formed s n party a sound few h None (Some d) e ok = at (event_of s.events.session.stands d.on) refl ok
  where
    at : (o : Option Event) → event_of s.events.session.stands d.on ≡ o → IsSomeAnd o (λ z. IsEventAccess z d.call a) → IsScriptAnswer a
    at None f k = absurd k
    at (Some z) f k =
        let facts = acting s n party d z sound few h e f in
        let said = turn_says z (call_of d.call) k.answer k.right facts.small facts.queue in
        subst IsScriptAnswer (sym k.printed) (
          facts.can.kind,
          record {
            text = facts.text;
            numbers = number_small (owed (call_of d.call)) facts.small;
            answers = right_answers z (owed (call_of d.call)) k.answer k.right facts.queue;
            reply = told_reply d.call (turn (call_of d.call) k.answer).0 (h.calls party d e).told said;
          },
        )

pub turn_formed : (s : ScriptState) (n : ℕ) (l : ScriptLine) (a : ScriptAnswer) (o : Option EventTurn) → AreSoundEvents s.events n → n < 2 ^ 63 → AreNumbered s.events.session → IsRuled s l a o → IsScriptAnswer a
turn_formed s n l a (Some (refused why)) sound few h ok = subst IsScriptAnswer (sym ok) tt
turn_formed s n l a (Some (begins party t)) sound few h ok = subst IsScriptAnswer (sym ok) tt
turn_formed s n l a (Some (steps party)) sound few h ok = step_formed s n party a sound few h (s.events.asked party) (s.events.session.doing party) refl ok
turn_formed s n l a (Some (drops party name)) sound few h ok = subst IsScriptAnswer (sym ok) (tt, tt)
turn_formed s n l a (Some (expires party)) sound few h ok = subst IsScriptAnswer (sym ok) tt
turn_formed s n (line.Board l) a None sound few h ok = subst IsScriptAnswer (sym ok.is) ok.right.answer
turn_formed s n (line.Event p q) a None sound few h ok = absurd ok
turn_formed s n (line.Expire p) a None sound few h ok = absurd ok

pub turns_right : TurnsAreRight
turns_right s l a n sound few h = right_by s l a h.line h.rule (turn_formed s n l a (turn_of s l) sound.events few (sound.numbers few) h.rule)

-- what a party's step on events is answered is of the grammar
pub step_formed_so : (s : ScriptState) (l : ScriptLine) (n : ℕ) (party : List ℕ) (a : ScriptAnswer) → IsSoundScript s n → n < 2 ^ 63 → IsTurnAnswer s.events (steps party) a → IsScriptAnswer a
step_formed_so s l n party a sound few h = turn_formed s n l a (Some (steps party)) sound.events few (sound.numbers few) h
