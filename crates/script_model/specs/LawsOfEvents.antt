-- The quiet law, the reply law and the laws of ids on the pairs of a script, and the accesses that can be made.
use Rattle.std.specs.Prelude.{◌<◌, ◌-◌, ◌^◌, IsSomeAnd, ◌≡◌, ℕ, Bool, true, false, List, [], ◌∷◌, ◌++◌, Option, Some}
use Rattle.board_event_model.specs.declared.access.EventAccess.{EventAccess}
use Rattle.board_event_model.specs.declared.access.EventAccess.TheVariants as access
use Rattle.board_event_model.specs.declared.access.EventAnswer.{EventAnswer}
use Rattle.board_event_model.specs.declared.access.EventAnswer.TheVariants as event_answer
use Rattle.board_event_model.specs.declared.call.WaitStage.TheVariants as stage
use Rattle.board_event_model.specs.declared.kind.EventKind.{EventKind}
use Rattle.board_event_model.specs.Ids.{has}
use Rattle.board_event_model.specs.EventMemory.{CanPerform, is_bits}
use Rattle.board_event_model.specs.WaitCalls.{Wait}
use Rattle.board_event_model.specs.EventCalls.{a_wait, owed, RunningCall, call_of}
use Rattle.board_event_model.specs.EventSessions.{PartyCall, StandingEvent, event_of, history_on, moves_on}
use Rattle.board_event_model.specs.LawsOfCalls.{taken_by}
use Rattle.board_event_model.specs.LawsOfIds.{popped_in, pushed_in, was_set_last}
use Rattle.board_event_model.specs.LawsOfQuiet.{IsOpen}
use Rattle.board_model.specs.declared.line.Line.TheVariants as board_line
use Rattle.script_model.specs.declared.line.ScriptLine.{ScriptLine}
use Rattle.script_model.specs.declared.line.ScriptLine.TheVariants as line
use Rattle.script_model.specs.declared.reply.EventReply.{EventReply}
use Rattle.script_model.specs.declared.reply.EventReply.TheVariants as reply
use Rattle.script_model.specs.ScriptAnswers.{ScriptAnswer, of_event}
use Rattle.script_model.specs.ScriptTurns.{ScriptState}
use Rattle.script_model.specs.SoundEvents.{IsSoundScript}
use Rattle.script_model.specs.ScriptSession.{IsLawful, Session, start, state_after}
use Rattle.script_model.specs.Parts.{event_part}

-- the pair is a step of the party's call on event n: it takes this access, is answered so, and tells this
pub record TakesAccess (s : ScriptState) (pair : ScriptLine × ScriptAnswer) (party : List ℕ) (n : ℕ) (call : RunningCall) (a : EventAccess) (answer : EventAnswer) (told : Option EventReply) : Type 0 where
  pub kind : EventKind
  pub name : List ℕ
  pub runs : s.events.session.doing party ≡ Some (record { on = n; call = call })
  pub steps : pair.0 ≡ line.Board (board_line.Step party)
  pub prints : pair.1 ≡ of_event kind name a answer told

-- a pair of a lawful session, and all that came before
pub record Last : Type 0 where
  pub before : Session
  pub pair : ScriptLine × ScriptAnswer
  pub lawful : IsLawful (before ++ pair ∷ [])

-- the state that it met
abbrev pub at_last : Last → ScriptState
at_last l = state_after start l.before

-- where a wait on bits makes a waiting look that finds no signal, every pending id of its event was last set by a notify that hasn't finished
abbrev pub QuietLooks : Type 0
QuietLooks =
    (l : Last) (n : ℕ) (st : StandingEvent) → (at_last l).events.session.stands n ≡ Some st → is_bits st.event.kind ≡ true →
    (party : List ℕ) (call : RunningCall) (w : Wait) (told : Option EventReply) → TakesAccess (at_last l) l.pair party n call access.Signal event_answer.No told →
    call_of call ≡ a_wait w → w.stage ≡ stage.Look →
    (id : ℕ) → has st.event.pending id ≡ true → IsOpen id (history_on n (at_last l).events.session.history)

-- the ids that a wait is told are these: for one it is a single id, for all there is some
abbrev pub TellsIds : Bool → EventReply → List ℕ → Type 0
TellsIds many reply.Nothing ids = ids ≡ []
TellsIds many (reply.Id id) ids = (many ≡ false) × (ids ≡ id ∷ [])
TellsIds many (reply.Ids told) ids = (many ≡ true) × (ids ≡ told) × (told ≡ [] → ⊥)
TellsIds many r ids = ⊥

-- what a finished wait is told is what its own steps took, in order
abbrev pub WaitReplies : Type 0
WaitReplies =
    (l : Last) (n : ℕ) (st : StandingEvent) → (at_last l).events.session.stands n ≡ Some st →
    (party : List ℕ) (call : RunningCall) (w : Wait) (a : EventAccess) (answer : EventAnswer) (told : EventReply) → TakesAccess (at_last l) l.pair party n call a answer (Some told) →
    call_of call ≡ a_wait w →
    TellsIds w.many told (taken_by (record { met = st.event; access = a } ∷ call.steps))

-- what the printed pops of a queue gave, and then what it still holds, is what the printed pushes added: each id once, in the
-- order of the pushes, and nothing else
abbrev pub QueuesKeepOrder : Type 0
QueuesKeepOrder =
    (pairs : Session) → IsLawful pairs → (n : ℕ) (st : StandingEvent) → (state_after start pairs).events.session.stands n ≡ Some st →
    popped_in (moves_on n (event_part start pairs)) ++ st.event.queue ≡ pushed_in (moves_on n (event_part start pairs))

-- an id of a set is pending exactly where the last of its printed sets, clears and swaps was a set
abbrev pub PendingIdsWereSetLast : Type 0
PendingIdsWereSetLast =
    (pairs : Session) → IsLawful pairs → (n : ℕ) (st : StandingEvent) → (state_after start pairs).events.session.stands n ≡ Some st →
    (id : ℕ) → has st.event.pending id ≡ was_set_last id (moves_on n (event_part start pairs))

-- after fewer than 2 ^ 64 - 1 lines the access that a running call owes can be made on its event
abbrev pub OwedAccesses : Type 0
OwedAccesses =
    (s : ScriptState) (lines : ℕ) → IsSoundScript s lines → lines < 2 ^ 64 - 1 →
    (party : List ℕ) (d : PartyCall) → s.events.session.doing party ≡ Some d →
    IsSomeAnd (event_of s.events.session.stands d.on) (λ e. CanPerform e (owed (call_of d.call)))
