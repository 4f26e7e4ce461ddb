-- The events' part of a lawful session is a session of events.
use Rattle.std.proofs.Common.{◌≡◌, ℕ, ◌+◌, ◌-◌, true, false, refl, sym, ◌∙◌, ap, subst, Some, None, Option, List, [], ◌∷◌, ◌++◌, append_assoc}
use Rattle.std.specs.Prelude.{if◌then◌else◌, is_some, IsSomeAnd}
use Rattle.std.proofs.lemmas.List.{append-nil}
use Rattle.board_event_model.specs.declared.access.EventAccess.{EventAccess}
use Rattle.board_event_model.specs.EventMemory.{Event, IsRight}
use Rattle.board_event_model.specs.EventCalls.{owed, call_of}
use Rattle.board_event_model.specs.EventRuns.{IsReachedBy}
use Rattle.board_event_model.specs.EventSessions.{EventLine, EventSession, IsEventLine, IsEventSession, MayTake, PartyCall, StandingEvent, abandon_of, begin_on, event_of, expire_of, listen, moves_on, next_session, notifiers_of, release_of, session_of, step_of, view}
use Rattle.board_event_model.proofs.SessionIdLemmas.{reached_ordered, reached_set_last}
use Rattle.board_event_model.proofs.ViewLemmas.{session_law_holds}
use Rattle.board_model.specs.declared.answer.Answer.{Answer}
use Rattle.board_model.specs.declared.answer.Answer.TheVariants as answer
use Rattle.board_model.specs.declared.line.Line.{Line}
use Rattle.board_model.specs.declared.line.Line.TheVariants as board_line
use Rattle.script_model.specs.declared.line.ScriptLine.{ScriptLine}
use Rattle.script_model.specs.declared.line.ScriptLine.TheVariants as line
use Rattle.script_model.specs.ScriptAnswers.{ScriptAnswer, of_boards}
use Rattle.script_model.specs.ScriptEvents.{EventAsk, EventThing, IsEventAccess, IsStepOf, ScriptEvents, act, ask, ask_made, event_let_go, event_number, let_go_from, listener, notifier, notifier_more, opened, opened_with, step_made, to_listen, to_notify, with_listener}
use Rattle.script_model.specs.ScriptGrammar.{IsScriptLine}
use Rattle.script_model.specs.ScriptTurns.{EventTurn, IsTurnAnswer, ScriptState, begins, drops, expires, refused, steps, turn_of, turned}
use Rattle.script_model.specs.ScriptSession.{IsLawful, IsLawfulFrom, Session, after, after_boards, after_turn, start, state_after}
use Rattle.script_model.specs.SoundEvents.{AreSoundEvents, IsSoundScript}
use Rattle.script_model.specs.LawsOfRules.{IsRuled}
use Rattle.script_model.specs.Parts.{ask_line, drop_line, end_line, event_line, event_part, let_go_line, notifier_line, opened_line, step_line, turn_line}
use Rattle.script_model.specs.LawsOfParts.{EventsLaw}
use Rattle.script_model.specs.LawsOfEvents.{PendingIdsWereSetLast, QueuesKeepOrder}
use Rattle.script_model.proofs.EachLemmas.{event_in}
use Rattle.script_model.proofs.HolderLemmas.{free_holder}
use Rattle.script_model.proofs.RuleLemmas.{ruled}
use Rattle.script_model.proofs.ScriptSoundLemmas.{script_after, script_start}
use Rattle.script_model.proofs.TaskLemmas.{IsTurn, turn_is}

-- ---- lines of a session of events

-- these lines, each allowed, lead from one session of events to another
record Leads (from : EventSession) (lines : List EventLine) (to : EventSession) : Type 0 where
  on : (old : List EventLine) → IsEventSession old → from ≡ session_of old → IsEventSession (lines ++ old)
  is : (old : List EventLine) → from ≡ session_of old → to ≡ session_of (lines ++ old)

no_line : (s : EventSession) → Leads s [] s
no_line s = record { on = λ old h e. h; is = λ old e. e }

one_line : (s : EventSession) (l : EventLine) → IsEventLine s l → Leads s (l ∷ []) (next_session s l)
one_line s l ok = record {
  on = λ old h e. (h, subst (λ (u : EventSession). IsEventLine u l) e ok);
  is = λ old e. ap (λ (u : EventSession). next_session u l) e;
}

-- ---- each turn

notifier_leads : (x : ScriptEvents) (party name : List ℕ) (n : ℕ) (o : Option Event) → Leads x.session (notifier_line n o) (opened_with x party name n o).session
notifier_leads x party name n None = no_line x.session
notifier_leads x party name n (Some e) =
    elim e.held as (λ b. Leads x.session (if b then notifiers_of n (e.notifiers + 1) ∷ [] else []) (if b then notifier_more x party name n e else x).session) [
      | true ↦ one_line x.session (notifiers_of n (e.notifiers + 1)) tt
      | false ↦ no_line x.session
    ]

opened_leads : (x : ScriptEvents) (party name : List ℕ) (o : Option ℕ) → Leads x.session (opened_line x o) (opened x party name o).session
opened_leads x party name None = no_line x.session
opened_leads x party name (Some n) = notifier_leads x party name n (event_of x.session.stands n)

ask_leads : (x : ScriptEvents) (party : List ℕ) (q : EventAsk) → Leads x.session (ask_line x party q) (ask_made x party q).session
ask_leads x party (to_listen name k event max) =
    elim (is_some (x.names k event)) as (λ b. Leads x.session (if b then [] else listen party k event max ∷ []) (if b then x else with_listener x party name k event max).session) [
      | true ↦ no_line x.session
      | false ↦ one_line x.session (listen party k event max) tt
    ]
ask_leads x party (to_notify name k event) = opened_leads x party name (x.names k event)

access_leads : (x : ScriptEvents) (party : List ℕ) (d : PartyCall) (o : Option StandingEvent) (a : ScriptAnswer) → x.session.doing party ≡ Some d → x.session.stands d.on ≡ o → IsSomeAnd (event_in o) (λ e. IsEventAccess e d.call a)
    → Leads x.session (step_line x party None a) (step_made x party None a).session
access_leads x party d None a doing stands ok = absurd ok
access_leads x party d (Some st) a doing stands ok =
    let access : EventAccess = owed (call_of d.call) in
    let takes : MayTake x.session access ok.answer d = subst (λ (o : Option StandingEvent). IsSomeAnd o (λ s. (access ≡ owed (call_of d.call)) × IsRight s.event access ok.answer)) (sym stands) (refl, ok.right) in
    let allowed : IsEventLine x.session (step_of party access ok.answer) = subst (λ (o : Option PartyCall). IsSomeAnd o (MayTake x.session access ok.answer)) (sym doing) takes in
    subst (λ (b : ScriptAnswer). Leads x.session (step_line x party None b) (step_made x party None b).session) (sym ok.printed) (one_line x.session (step_of party access ok.answer) allowed)

step_leads : (x : ScriptEvents) (party : List ℕ) (o : Option EventAsk) (d : Option PartyCall) (a : ScriptAnswer) → x.session.doing party ≡ d → IsStepOf x o d a → Leads x.session (step_line x party o a) (step_made x party o a).session
step_leads x party (Some q) d a doing ok = ask_leads x party q
step_leads x party None None a doing ok = absurd ok
step_leads x party None (Some d) a doing ok = access_leads x party d (x.session.stands d.on) a doing refl ok

let_go_leads : (x : ScriptEvents) (c : ℕ) (party name : List ℕ) (t : EventThing) (o : Option Event) → x.things party name ≡ Some t → x.session.doing party ≡ None → AreSoundEvents x c → Leads x.session (let_go_line t o) (let_go_from x party name t o).session
let_go_leads x c party name t None holds idle h = no_line x.session
let_go_leads x c party name (listener n) (Some e) holds idle h = one_line x.session (release_of n) (free_holder x party (x.session.stands n) idle (h.things party name (listener n) holds))
let_go_leads x c party name (notifier n) (Some e) holds idle h = one_line x.session (notifiers_of n (e.notifiers - 1)) tt

drop_leads : (x : ScriptEvents) (c : ℕ) (party name : List ℕ) (o : Option EventThing) → x.things party name ≡ o → x.session.doing party ≡ None → AreSoundEvents x c → Leads x.session (drop_line x o) (event_let_go x party name o).session
drop_leads x c party name None holds idle h = no_line x.session
drop_leads x c party name (Some t) holds idle h = let_go_leads x c party name t (event_of x.session.stands (event_number t)) holds idle h

turn_leads : (s : ScriptState) (c : ℕ) (t : EventTurn) (a : ScriptAnswer) → IsTurn s t → IsTurnAnswer s.events t a → AreSoundEvents s.events c → Leads s.events.session (turn_line s.events t a) (turned s.events t a).session
turn_leads s c (refused why) a is ok h = no_line s.events.session
turn_leads s c (begins party (ask q)) a is ok h = no_line s.events.session
turn_leads s c (begins party (act n f)) a is ok h = one_line s.events.session (begin_on party n f) is.2.1
turn_leads s c (steps party) a is ok h = step_leads s.events party (s.events.asked party) (s.events.session.doing party) a refl ok
turn_leads s c (drops party name) a is ok h = drop_leads s.events c party name (s.events.things party name) refl is.0.doing h
turn_leads s c (expires party) a is ok h = one_line s.events.session (expire_of party) is.0

end_leads : (x : ScriptEvents) (l : Line) (a : Answer) → Leads x.session (end_line l a) (after_boards x l a).session
end_leads x (board_line.Abandon party) answer.Gone = one_line x.session (abandon_of party) tt
end_leads x l a = no_line x.session

line_leads : (s : ScriptState) (l : ScriptLine) (a : ScriptAnswer) (c : ℕ) (o : Option EventTurn) → turn_of s l ≡ o → IsScriptLine l → IsRuled s l a o → AreSoundEvents s.events c
    → Leads s.events.session (event_line o s.events l a) (after_turn s l a o).events.session
line_leads s l a c (Some t) e formed ok h = turn_leads s c t a (turn_is s c l t formed h e) ok h
line_leads s (line.Board l) a c None e formed ok h =
    subst (λ (b : ScriptAnswer). Leads s.events.session (event_line None s.events (line.Board l) b) (after_turn s (line.Board l) b None).events.session) (sym ok.is) (end_leads s.events l ok.answer)
line_leads s (line.Event party q) a c None e formed ok h = absurd ok
line_leads s (line.Expire party) a c None e formed ok h = absurd ok

-- ---- a session

-- the session of events is that of these lines, each allowed
record IsOf (s : EventSession) (lines : List EventLine) : Type 0 where
  allowed : IsEventSession lines
  is : s ≡ session_of lines

part_from : (pairs : Session) (s : ScriptState) (c : ℕ) (old : List EventLine) → IsSoundScript s c → IsLawfulFrom s pairs → IsOf s.events.session old → IsOf (state_after s pairs).events.session (event_part s pairs ++ old)
part_from [] s c old sound ok h = h
part_from (pair ∷ pairs) s c old sound ok h =
    let l : List EventLine = event_line (turn_of s pair.0) s.events pair.0 pair.1 in
    let one = line_leads s pair.0 pair.1 c (turn_of s pair.0) refl ok.0.line (ruled s pair.0 pair.1 ok.0) sound.events in
    let next : IsOf (after s pair.0 pair.1).events.session (l ++ old) = record { allowed = one.on old h.allowed h.is; is = one.is old h.is } in
    subst (IsOf (state_after (after s pair.0 pair.1) pairs).events.session) (sym (append_assoc (event_part (after s pair.0 pair.1) pairs) l old))
    (part_from pairs (after s pair.0 pair.1) (c + 1) (l ++ old) (script_after s pair.0 pair.1 c ok.0 sound) ok.1 next)

part_of_script : (pairs : Session) → IsLawful pairs → IsOf (state_after start pairs).events.session (event_part start pairs)
part_of_script pairs ok =
    subst (IsOf (state_after start pairs).events.session) (append-nil (event_part start pairs)) (part_from pairs start 0 [] script_start ok (record { allowed = tt; is = refl }))

pub events_law_holds : EventsLaw
events_law_holds pairs ok =
    let h = part_of_script pairs ok in
    let lines : List EventLine = event_part start pairs in
    record {
      allowed = h.allowed;
      state = sym h.is;
      runs = λ n st stands.
          subst (λ (s : EventSession). IsReachedBy (moves_on n lines) (view s n st)) (sym h.is) (session_law_holds lines h.allowed n st (ap (λ (s : EventSession). s.stands n) (sym h.is) ∙ stands));
    }

-- ---- ids

pub queues_ordered : QueuesKeepOrder
queues_ordered pairs ok n st stands =
    reached_ordered (moves_on n (event_part start pairs)) (view (state_after start pairs).events.session n st) ((events_law_holds pairs ok).runs n st stands)

pub pending_set_last : PendingIdsWereSetLast
pending_set_last pairs ok n st stands id =
    reached_set_last (moves_on n (event_part start pairs)) (view (state_after start pairs).events.session n st) ((events_law_holds pairs ok).runs n st stands) id
