-- The laws of runs on the pairs of a script.
use Rattle.std.proofs.Common.{arith, ◌≡◌, ℕ, ◌≤◌, Bool, true, false, refl, sym, ◌∙◌, ap, subst, Some, None, Option, List, [], ◌∷◌, ◌++◌, length}
use Rattle.std.specs.Prelude.{if◌then◌else◌, IsSome, IsSomeAnd, is_some, ◌==◌, ◌^◌, ◌-◌, ◌<◌}
use Rattle.std.proofs.lemmas.Bool.{false≢true}
use Rattle.board_event_model.specs.declared.access.EventAccess.{EventAccess}
use Rattle.board_event_model.specs.declared.access.EventAnswer.{EventAnswer}
use Rattle.board_event_model.specs.declared.call.EventProgress.{EventProgress}
use Rattle.board_event_model.specs.declared.call.EventProgress.TheVariants as progress
use Rattle.board_event_model.specs.declared.call.WaitStage.{WaitStage}
use Rattle.board_event_model.specs.declared.call.WaitStage.TheVariants as wait
use Rattle.board_event_model.specs.EventMemory.{CanPerform, IsRight}
use Rattle.board_event_model.specs.WaitCalls.{Wait, wait_turn}
use Rattle.board_event_model.specs.EventCalls.{EventCall, a_notify, a_wait, is_last, owed, reported, turn, RunningCall, call_of}
use Rattle.board_event_model.specs.EventRuns.{IsReached, Moment, Takes}
use Rattle.board_event_model.specs.EventSessions.{SessionAccess, history_on, PartyCall, StandingEvent, running_on, view}
use Rattle.board_event_model.specs.LawsOfCalls.{progress_with, taken_by}
use Rattle.board_event_model.proofs.AccessLemmas.{perform_law_holds}
use Rattle.board_event_model.proofs.EndLemmas.{none_law_holds}
use Rattle.board_event_model.proofs.NothingLemmas.{nothing_law_holds}
use Rattle.board_event_model.proofs.QuietLemmas.{eqb_self}
use Rattle.board_event_model.proofs.ReplyLemmas.{StageTold, no_length, reply_law_holds, tracked_reached, wait_of}
use Rattle.board_event_model.proofs.SetLemmas.{or_right}
use Rattle.board_event_model.proofs.SoundLemmas.{none_some, quiet_law_holds, some_same}
use Rattle.board_model.specs.declared.line.Line.TheVariants as board_line
use Rattle.script_model.specs.declared.line.ScriptLine.{ScriptLine}
use Rattle.script_model.specs.declared.line.ScriptLine.TheVariants as line
use Rattle.script_model.specs.declared.reply.EventReply.{EventReply}
use Rattle.script_model.specs.ScriptAnswers.{ScriptAnswer, of_event}
use Rattle.script_model.specs.ScriptEvents.{EventAsk, EventThing, IsEventAccess, IsStepOf, ScriptEvents, listener, notifier, end_told, ids_told, is_for_all, runs_on_events, step_told}
use Rattle.script_model.specs.ScriptTurns.{EventTurn, ScriptState, steps, turn_of}
use Rattle.script_model.specs.LawsOfRules.{IsRuled}
use Rattle.script_model.specs.ScriptSession.{start}
use Rattle.script_model.specs.ScriptSession as session
use Rattle.script_model.specs.SoundEvents.{AreSoundEvents, IsCallOfThing, IsEventThing, IsListening, IsSoundScript}
use Rattle.script_model.specs.LawsOfEvents.{Last, OwedAccesses, QuietLooks, TakesAccess, TellsIds, WaitReplies, at_last}
use Rattle.script_model.proofs.CompositionLemmas.{lawful_split, sound_at}
use Rattle.script_model.proofs.EachLemmas.{event_in}
use Rattle.script_model.proofs.OneLemmas.{CallOne, IsWaitProgress, OneStage, one_reached, one_turn, turn_waits}
use Rattle.script_model.proofs.PartLemmas.{events_reached, sound_reached}
use Rattle.script_model.proofs.RuleLemmas.{ruled}

-- ---- the step of a pair, as a step of a run

-- a party whose call on an event runs asks for nothing
asks_nothing : (x : ScriptEvents) (c : ℕ) (party : List ℕ) (d : PartyCall) (o : Option EventAsk) → AreSoundEvents x c → x.session.doing party ≡ Some d → x.asked party ≡ o → o ≡ None
asks_nothing x c party d None h runs e = refl
asks_nothing x c party d (Some q) h runs e = absurd (none_some d (sym (h.apart party q e) ∙ runs))

-- the step of a party whose call on an event runs
step_access : (s : ScriptState) (c : ℕ) (party : List ℕ) (d : PartyCall) (st : StandingEvent) (a : ScriptAnswer) → IsSoundScript s c → s.events.session.doing party ≡ Some d → s.events.session.stands d.on ≡ Some st → IsRuled s (line.Board (board_line.Step party)) a (turn_of s (line.Board (board_line.Step party))) → IsEventAccess st.event d.call a
step_access s c party d st a sound runs stands ok =
    let busy : runs_on_events s.events party ≡ true = or_right (is_some (s.events.asked party)) _ (ap (λ (o : Option PartyCall). is_some o) runs) in
    let turn_is : turn_of s (line.Board (board_line.Step party)) ≡ Some (steps party) = rw busy refl in
    let steps_so : IsStepOf s.events (s.events.asked party) (s.events.session.doing party) a = subst (λ (o : Option EventTurn). IsRuled s (line.Board (board_line.Step party)) a o) turn_is ok in
    let acts : IsStepOf s.events None (Some d) a = subst (λ (o : Option PartyCall). IsStepOf s.events None o a) runs (subst (λ (o : Option EventAsk). IsStepOf s.events o (s.events.session.doing party) a) (asks_nothing s.events c party d (s.events.asked party) sound.events runs refl) steps_so) in
    subst (λ (o : Option StandingEvent). IsSomeAnd (event_in o) (λ e. IsEventAccess e d.call a)) stands acts

-- what a pair that takes an access is
record IsTaken (l : Last) (n : ℕ) (st : StandingEvent) (party : List ℕ) (call : RunningCall) (a : EventAccess) (b : EventAnswer) (told : Option EventReply) : Type 0 where
  reached : IsReached (view (at_last l).events.session n st)
  takes : Takes (view (at_last l).events.session n st) party call a b
  tells : told ≡ step_told call (turn (call_of call) b).0

taken_is : (l : Last) (n : ℕ) (st : StandingEvent) (party : List ℕ) (call : RunningCall) (a : EventAccess) (b : EventAnswer) (told : Option EventReply) → (at_last l).events.session.stands n ≡ Some st → TakesAccess (at_last l) l.pair party n call a b told → IsTaken l n st party call a b told
taken_is l n st party call a b told stands t =
    let s : ScriptState = at_last l in
    let whole = lawful_split l.before (l.pair ∷ []) start l.lawful in
    let right : session.IsRight s (line.Board (board_line.Step party)) l.pair.1 = subst (λ (x : ScriptLine). session.IsRight s x l.pair.1) t.steps whole.1.0 in
    let access = step_access s _ party (record { on = n; call = call }) st l.pair.1 (sound_at l.before whole.0) t.runs stands (ruled s (line.Board (board_line.Step party)) l.pair.1 right) in
    let same : of_event t.kind t.name a b told ≡ of_event st.event.kind st.event.name (owed (call_of call)) access.answer (step_told call (turn (call_of call) access.answer).0) = sym t.prints ∙ access.printed in
    let owes : a ≡ owed (call_of call) = cc in
    let answer_is : access.answer ≡ b = cc in
    let told_is : told ≡ step_told call (turn (call_of call) access.answer).0 = cc in
    record {
      reached = events_reached l.before whole.0 n st stands;
      takes = record {
        runs = ap (running_on n) t.runs ∙ rw (eqb_self n) refl;
        owes = owes;
        right = rw owes (subst (λ (z : EventAnswer). IsRight st.event (owed (call_of call)) z) answer_is access.right);
      };
      tells = told_is ∙ ap (λ (z : EventAnswer). step_told call (turn (call_of call) z).0) answer_is;
    }

-- ---- the laws

pub quiet_looks : QuietLooks
quiet_looks l n st stands bits party call w told t is at_look id has =
    let k = taken_is l n st party call _ _ told stands t in
    quiet_law_holds (view (at_last l).events.session n st) k.reached bits party call w k.takes is at_look id has

-- a step that tells something is the last one
pub last_told : (r : RunningCall) (p : EventProgress) (x : EventReply) → Some x ≡ step_told r p → (is_last p ≡ true) × (x ≡ end_told (is_for_all (call_of r)) r.told p)
last_told r p x = of (is_last p)
  where
    of : (b : Bool) → Some x ≡ (if b then Some (end_told (is_for_all (call_of r)) r.told p) else None) → (b ≡ true) × (x ≡ end_told (is_for_all (call_of r)) r.told p)
    of true e = (refl, some_same _ _ e)
    of false e = absurd (none_some x (sym e))

-- the ids of a wait for one are at most one, and those of a wait for all some
tells_taken : (many : Bool) (ids : List ℕ) → (many ≡ false → length ids ≤ 1) → (ids ≡ [] → ⊥) → TellsIds many (ids_told many ids) ids
tells_taken true ids few some = (refl, refl, some)
tells_taken false [] few some = refl
tells_taken false (id ∷ []) few some = (refl, refl)
tells_taken false (id ∷ next ∷ ids) few some = absurd (let l = few refl in omega arith)

taken_tells : (many : Bool) (xs ids : List ℕ) → xs ≡ ids → (many ≡ false → length ids ≤ 1) → (ids ≡ [] → ⊥) → TellsIds many (ids_told many xs) ids
taken_tells many xs ids same few some = subst (λ (ys : List ℕ). TellsIds many (ids_told many ys) ids) (sym same) (tells_taken many ids few some)

end_tells : (many : Bool) (told ids : List ℕ) (p : EventProgress) → IsWaitProgress p → (p ≡ progress.Nothing → ids ≡ []) → (ids ≡ [] → p ≡ progress.Nothing) → told ++ reported p ≡ ids → (many ≡ false → length ids ≤ 1) → TellsIds many (end_told many told p) ids
end_tells many told ids progress.More is none some same few = taken_tells many _ ids same few (λ e. let f = some e in cc)
end_tells many told ids progress.Waiting is none some same few = taken_tells many _ ids same few (λ e. let f = some e in cc)
end_tells many told ids (progress.Took base bits last) is none some same few = taken_tells many _ ids same few (λ e. let f = some e in cc)
end_tells many told ids (progress.Id id last) is none some same few = taken_tells many _ ids same few (λ e. let f = some e in cc)
end_tells many told ids progress.Notified is none some same few = absurd is
end_tells many told ids (progress.Refused why) is none some same few = absurd is
end_tells many told ids progress.Nothing is none some same few = none refl

-- a wait for one has told nothing before its last step
told_nothing : (told : List ℕ) (stage : WaitStage) → OneStage stage → StageTold told stage → (stage ≡ wait.Finished → ⊥) → told ≡ []
told_nothing told wait.Drain one h on = h
told_nothing told (wait.Scan k) one h on = h
told_nothing told (wait.Clear id) one h on = h
told_nothing told (wait.Swap k some) one h on = absurd one
told_nothing told wait.Look one h on = h
told_nothing told (wait.Pop n) one h on = no_length told (sym one ∙ h)
told_nothing told wait.Finished one h on = absurd (on refl)

-- no last step is taken where a wait has finished
finished_goes_on : (w : Wait) (stage : WaitStage) (a : EventAnswer) → stage ≡ wait.Finished → is_last (wait_turn w stage a).0 ≡ true → ⊥
finished_goes_on w stage a e last = false≢true (ap (λ (z : WaitStage). is_last (wait_turn w z a).0) (sym e) ∙ last)

few_taken : (now : Moment) (p : List ℕ) (r : RunningCall) (w : Wait) (b : EventAnswer) → IsReached now → now.running p ≡ Some r → call_of r ≡ a_wait w → is_last (progress_with r b) ≡ true → w.many ≡ false → length (r.told ++ reported (progress_with r b)) ≤ 1
few_taken now p r w b reached runs is last one =
    let turned : progress_with r b ≡ (wait_turn w w.stage b).0 = ap (λ (c : EventCall). (turn c b).0) is in
    let stage : OneStage w.stage = subst (λ (c : EventCall). CallOne c) is (one_reached now reached p r runs) one in
    let t = wait_of r.told r.waited r.steps (call_of r) w is (tracked_reached now reached p r runs) in
    let nothing : r.told ≡ [] = told_nothing r.told w.stage stage t.stage (λ e. finished_goes_on w w.stage b e (ap is_last (sym turned) ∙ last)) in
    let few = (one_turn w w.stage b one stage).few in
    rw nothing (rw turned few)

pub wait_replies : WaitReplies
wait_replies l n st stands party call w a b told t is =
    let now : Moment = view (at_last l).events.session n st in
    let k = taken_is l n st party call a b (Some told) stands t in
    let last = last_told call (progress_with call b) told k.tells in
    let ids : List ℕ = taken_by (record { met = st.event; access = a } ∷ call.steps) in
    let same : call.told ++ reported (progress_with call b) ≡ ids = reply_law_holds now k.reached party call w a b k.takes is last.0 in
    let turned : progress_with call b ≡ (wait_turn w w.stage b).0 = ap (λ (c : EventCall). (turn c b).0) is in
    let waits : IsWaitProgress (progress_with call b) = subst IsWaitProgress (sym turned) (turn_waits w w.stage b) in
    let few : w.many ≡ false → length ids ≤ 1 = λ one. subst (λ (xs : List ℕ). length xs ≤ 1) same (few_taken now party call w b k.reached k.takes.runs is last.0 one) in
    let many_is : is_for_all (call_of call) ≡ w.many = ap is_for_all is in
    subst (λ (x : EventReply). TellsIds w.many x ids) (sym (last.1 ∙ ap (λ (m : Bool). end_told m call.told (progress_with call b)) many_is))
    (end_tells w.many call.told ids (progress_with call b) waits (λ e. (none_law_holds now k.reached party call w a b k.takes is e).none) (λ e. nothing_law_holds now k.reached party call w a b k.takes is last.0 e) same few)

-- ---- accesses that can be made

fewer_here : (n : ℕ) (history : List SessionAccess) → length (history_on n history) ≤ length history
fewer_here n [] = omega arith
fewer_here n (a ∷ rest) =
    elim (a.on == n) as (λ b. length (if b then a.taken ∷ history_on n rest else history_on n rest) ≤ length (a ∷ rest)) [
      | true ↦ (let l = fewer_here n rest in omega arith)
      | false ↦ (let l = fewer_here n rest in omega arith)
    ]

-- the event of a running call stands
call_stands : (x : ScriptEvents) (c : ℕ) (party : List ℕ) (d : PartyCall) → AreSoundEvents x c → x.session.doing party ≡ Some d → IsSome (x.session.stands d.on)
call_stands x c party d h runs =
    let held = h.calls party d runs in
    of held.thing d.call.first held.uses (h.things party held.name held.thing held.found)
  where
    listening : (o : Option StandingEvent) → IsSomeAnd o (IsListening party) → IsSome o
    listening None f = absurd f
    listening (Some st) f = refl

    of : (t : EventThing) (f : EventCall) → IsCallOfThing t d.on f → IsEventThing x party t → IsSome (x.session.stands d.on)
    of (listener n) (a_notify m) uses there = absurd uses
    of (listener n) (a_wait w) uses there = subst (λ (k : ℕ). IsSome (x.session.stands k)) uses (listening (x.session.stands n) there)
    of (notifier n) (a_notify m) uses there = subst (λ (k : ℕ). IsSome (x.session.stands k)) uses there
    of (notifier n) (a_wait w) uses there = absurd uses

perform_on : (x : ScriptEvents) (c : ℕ) (party : List ℕ) (d : PartyCall) (o : Option StandingEvent) → AreSoundEvents x c → c < 2 ^ 64 - 1 → x.session.doing party ≡ Some d → x.session.stands d.on ≡ o → IsSome o → IsSomeAnd (event_in o) (λ e. CanPerform e (owed (call_of d.call)))
perform_on x c party d None h few runs stands there = absurd (false≢true there)
perform_on x c party d (Some st) h few runs stands there =
    let a = fewer_here d.on x.session.history in
    let b = h.taken in
    perform_law_holds (view x.session d.on st) (sound_reached x c d.on st h stands) (omega arith) party d.call (ap (running_on d.on) runs ∙ rw (eqb_self d.on) refl)

pub owed_accesses : OwedAccesses
owed_accesses s c sound few party d runs = perform_on s.events c party d (s.events.session.stands d.on) sound.events few runs refl (call_stands s.events c party d sound.events runs)
