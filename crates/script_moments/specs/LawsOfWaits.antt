-- What a party knows of its waits by the answers to its own lines, in any lawful session.
use Rattle.std.specs.Prelude.{◌≡◌, ℕ, true, false, List, [], ◌∷◌, ◌++◌, Some, None, IsSomeAnd}
use Rattle.board_event_model.specs.declared.access.EventAccess.{EventAccess}
use Rattle.board_event_model.specs.declared.call.WaitMode.TheVariants as mode
use Rattle.board_event_model.specs.declared.kind.EventKind.{EventKind}
use Rattle.board_event_model.specs.EventMemory.{is_bits}
use Rattle.board_event_model.specs.WaitCalls.{Wait}
use Rattle.board_event_model.specs.EventCalls.{a_wait, call_of}
use Rattle.board_event_model.specs.LawsOfCalls.{FoundListEmpty, MetNonePending, first_step, taken_by, with_step}
use Rattle.script_model.specs.declared.line.ScriptLine.TheVariants as line
use Rattle.script_model.specs.declared.reply.EventReply.TheVariants as reply
use Rattle.script_model.specs.ScriptAnswers.{expired}
use Rattle.script_model.specs.ScriptTurns.{ScriptState}
use Rattle.script_model.specs.ScriptSession.{IsLawful, Session}
use Rattle.script_model.specs.LawsOfComposition.{state_met}
use Rattle.script_model.specs.LawsOfReplies.{IsEventStep, RunsOnEvent, moment_of}
use Rattle.script_moments.specs.Moments.{Moment}
use Rattle.script_moments.specs.Watchers.{StepsOnEvent, WaitGoesOn}

-- the moment is one of a lawful session
pub record IsLawfulMoment (m : Moment) : Type 0 where
  pub before : Session
  pub behind : Session
  pub lawful : IsLawful (before ++ m.pair ∷ behind)
  pub met : m.met ≡ state_met before

-- the party waits for one id on an event of this kind and name, and its own accesses, this one the last, took this id alone
pub record TookItself (s : ScriptState) (party : List ℕ) (kind : EventKind) (name : List ℕ) (a : EventAccess) (id : ℕ) : Type 0 where
  pub of : RunsOnEvent s party
  pub kind_is : kind ≡ of.standing.event.kind
  pub name_is : name ≡ of.standing.event.name
  pub wait : Wait
  pub waits : call_of of.doing.call ≡ a_wait wait
  pub one : wait.many ≡ false
  pub took : taken_by (with_step (moment_of s party of) of.doing.call a) ≡ id ∷ []

-- the party has a timed wait, which has taken no id; and one for all on bits met none pending at its first access, one on a queue found the list empty at its last
pub record MissedNone (s : ScriptState) (party : List ℕ) : Type 0 where
  pub of : RunsOnEvent s party
  pub wait : Wait
  pub waits : call_of of.doing.call ≡ a_wait wait
  pub timed : wait.mode ≡ mode.Timed
  pub none : taken_by of.doing.call.steps ≡ []
  pub bits : is_bits of.standing.event.kind ≡ true → wait.many ≡ true → IsSomeAnd (first_step of.doing.call.steps) MetNonePending
  pub list : is_bits of.standing.event.kind ≡ false → FoundListEmpty of.doing.call.steps

-- so a party needs no more than its own lines to know what its waits took and missed
pub record WaitsTellTruth : Type 0 where
  -- each step of a wait that goes on is one of the run on the event whose kind and name are printed
  pub goes_on : (m : Moment) (party : List ℕ) → IsLawfulMoment m → (p : WaitGoesOn party m) → IsEventStep m.met party p.kind p.name p.access p.answer None
  -- a party that is told an id took that id itself, from that event
  pub takes : (m : Moment) (party : List ℕ) (id : ℕ) → IsLawfulMoment m → (p : StepsOnEvent party m (Some (reply.Id id))) → TookItself m.met party p.kind p.name p.access id
  -- and where its wait expires, it has missed none
  pub misses : (m : Moment) (party : List ℕ) → IsLawfulMoment m → m.pair ≡ (line.Expire party, expired) → MissedNone m.met party
