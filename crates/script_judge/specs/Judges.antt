-- For which state of a script a judge stands, and what a line is to it.
use Rattle.std.specs.Prelude.{◌≡◌, ℕ, ◌<◌, ◌^◌, Bool, false, not, ◌&&◌, ◌||◌, if◌then◌else◌, List, [], Option, Some, None, is_some, IsSomeAnd, option_map, Result, Ok, Err, ⊤}
use Rattle.std.specs.Str.{bytes_eq}
use Rattle.std.specs.HashMap.{get}
use Rattle.board_event_model.specs.declared.access.EventAccess.{EventAccess}
use Rattle.board_event_model.specs.declared.access.EventAnswer.{EventAnswer}
use Rattle.board_event_model.specs.EventCalls.{RunningCall, call_of, is_timed, new_call, went_on}
use Rattle.board_event_model.specs.EventMemory.{Event}
use Rattle.board_event_model.specs.EventSessions.{PartyCall}
use Rattle.board_model.specs.declared.answer.Answer.{Answer}
use Rattle.board_model.specs.declared.answer.Reason.{Reason}
use Rattle.board_model.specs.declared.answer.Reason.TheVariants as reason
use Rattle.board_model.specs.declared.line.Line.{Line}
use Rattle.board_model.specs.declared.line.Line.TheVariants as board_line
use Rattle.board_model.specs.AnswerGrammar.{IsAnswer}
use Rattle.board_model.specs.LawfulSession.{is_filled, is_indexed, is_typed}
use Rattle.board_model.specs.LawsOfBounds.{IsWithin}
use Rattle.board_model.specs.LawsOfForms.{AreFormed, IsRightButForm}
use Rattle.board_model.specs.Parties.{Party, free, gone, running}
use Rattle.board_model.specs.Requests.{Request}
use Rattle.board_model.specs.Sound.{Sound}
use Rattle.board_model.specs.Things as held
use Rattle.board_model.specs.Things.{Standing}
use Rattle.script_model.specs.declared.line.ScriptLine.{ScriptLine}
use Rattle.script_model.specs.declared.line.ScriptLine.TheVariants as line
use Rattle.script_model.specs.declared.reply.EventReply.{EventReply}
use Rattle.script_model.specs.ScriptAnswers.{ScriptAnswer, script_answer_line}
use Rattle.script_model.specs.ScriptEvents as events
use Rattle.script_model.specs.ScriptSession.{IsRight, after}
use Rattle.script_model.specs.ScriptTurns.{ScriptState}
use Rattle.script_model.specs.SoundEvents.{IsSoundScript}
use Rattle.script_board_tables.specs.Calls.{HasCome, IsFor}
use Rattle.script_board_tables.specs.declared.calls.BoardCall.{BoardCall}
use Rattle.script_board_tables.specs.Tables.{Has, same_seat, standing_of}
use Rattle.script_event_rows.specs.declared.event_call.EventCall.{EventCall}
use Rattle.script_event_rows.specs.EventCalls.{IsKeptOf, told_with}
use Rattle.script_event_tables.specs.EventTables.{AreEvents}
use Rattle.script_judge.specs.declared.judge.Judge.{Judge}
use Rattle.script_judge.specs.declared.task.Ask.{Ask}
use Rattle.script_judge.specs.declared.task.Ask.TheVariants as ask
use Rattle.script_judge.specs.declared.task.EventThing.{EventThing}
use Rattle.script_judge.specs.declared.task.EventThing.TheVariants as thing
use Rattle.script_judge.specs.declared.task.Task.{Task}
use Rattle.script_judge.specs.declared.task.Task.TheVariants as task

-- ---- what a party runs

-- what is asked for
abbrev pub ask_in : Ask → events.EventAsk
ask_in (ask.Listen name kind event max) = events.to_listen name kind event max
ask_in (ask.Notify name kind event) = events.to_notify name kind event

-- what a party holds of an event
abbrev pub thing_in : EventThing → events.EventThing
thing_in (thing.Listener n) = events.listener n
thing_in (thing.Notifier n) = events.notifier n

-- what a party runs on boards, what it asks for, and what it runs on events are what is kept of it: at most one of them
abbrev pub IsTaskOf : Option Task → Party → Option events.EventAsk → Option PartyCall → Type 0
IsTaskOf None free None None = ⊤
IsTaskOf (Some task.Gone) gone None None = ⊤
IsTaskOf (Some (task.OnBoards c)) (running r) None None = IsFor c r.request × HasCome c r.so_far
IsTaskOf (Some (task.Asks a)) free (Some q) None = q ≡ ask_in a
IsTaskOf (Some (task.OnEvent n c)) free None (Some d) = (n ≡ d.on) × IsKeptOf c d.call
IsTaskOf kept party asked doing = ⊥

-- the task of a party
abbrev pub task_of : Judge → List ℕ → Option Task
task_of j party = get bytes_eq j.tasks party

-- why a line that only a free party may have is refused, by what the party runs
abbrev pub refusal_by : Option Task → Option Reason
refusal_by None = None
refusal_by (Some task.Gone) = Some reason.Abandoned
refusal_by (Some t) = Some reason.Busy

-- a listener or notifier that a party holds under a name
abbrev pub thing_at : Judge → List ℕ → List ℕ → Option EventThing
thing_at j party name = get same_seat j.things (record { party = party; name = name })

-- ---- the whole

-- the judge stands for the state
pub record Represents (j : Judge) (s : ScriptState) : Type 0 where
  pub boards : Has j.boards s.boards.standing s.boards.memory s.boards.published
  pub events : AreEvents j.events (record { stands = s.events.session.stands; count = s.events.session.count; names = s.events.names })
  pub things : (p n : List ℕ) → option_map thing_in (thing_at j p n) ≡ s.events.things p n
  pub tasks : (p : List ℕ) → IsTaskOf (task_of j p) (s.boards.parties p) (s.events.asked p) (s.events.session.doing p)

-- what holds of a state that a lawful session of so many pairs led to, fewer than 2^63
pub record IsReached (s : ScriptState) (count : ℕ) : Type 0 where
  pub few : count < 2 ^ 63
  pub script : IsSoundScript s count
  pub lines : ℕ
  pub short : lines < 2 ^ 63
  pub sound : Sound s.boards
  pub within : IsWithin s.boards lines
  pub formed : AreFormed s.boards lines
  pub form : (l : Line) (a : Answer) → IsRightButForm s.boards l a → IsAnswer a

-- the judge stands for a state that a lawful session led to
pub record IsLed (j : Judge) : Type 0 where
  pub state : ScriptState
  pub count : ℕ
  pub represents : Represents j state
  pub reached : IsReached state count

-- it holds of each such state that the judge stands for
abbrev pub OfEach : Judge → (ScriptState → Type 0) → Type 0
OfEach j P = (s : ScriptState) (count : ℕ) → Represents j s → IsReached s count → P s

-- the text is the line of an answer that is right after the state, and the judge stands for what follows
pub record IsTelling (new : Judge) (l : ScriptLine) (text : List ℕ) (s : ScriptState) : Type 0 where
  pub answer : ScriptAnswer
  pub right : IsRight s l answer
  pub represents : Represents new (after s l answer)
  pub told : text ≡ script_answer_line answer

-- so it is after each state that the judge stood for
abbrev pub Tells : Judge → Judge → ScriptLine → List ℕ → Type 0
Tells old new l text = OfEach old (IsTelling new l text)

-- ---- what a call changes

-- the task of the party is this from now on, or none, and all else stays
pub record IsTaskPut (old new : Judge) (party : List ℕ) (o : Option Task) : Type 0 where
  pub boards : new.boards ≡ old.boards
  pub events : new.events ≡ old.events
  pub things : (p n : List ℕ) → thing_at new p n ≡ thing_at old p n
  pub tasks : (p : List ℕ) → task_of new p ≡ (if bytes_eq party p then o else task_of old p)

-- what the party holds of an event under the name is this from now on, or nothing, and all else stays
pub record IsThingPut (old new : Judge) (party name : List ℕ) (o : Option EventThing) : Type 0 where
  pub boards : new.boards ≡ old.boards
  pub events : new.events ≡ old.events
  pub things : (p n : List ℕ) → thing_at new p n ≡ (if bytes_eq party p && bytes_eq name n then o else thing_at old p n)
  pub tasks : (p : List ℕ) → task_of new p ≡ task_of old p

-- ---- begins

-- the name that a call is to give is that of something the party holds
abbrev pub name_taken : Judge → List ℕ → Option (List ℕ) → Bool
name_taken j party None = false
name_taken j party (Some name) = held.is_held (standing_of j.boards) party name || is_some (thing_at j party name)

-- why the call of a free party may not begin
abbrev pub refusal_of : Standing → Bool → Option Request → Option Reason
refusal_of s taken None = Some reason.Unknown
refusal_of s taken (Some q) =
    if taken then Some reason.Taken else
    if not (is_typed s q) then Some reason.Type else
    if not (is_indexed q) then Some reason.Index else
    if not (is_filled q) then Some reason.Unfilled else
    None

-- the call is the request, of which nothing was done yet
abbrev pub IsBegunAs : BoardCall → Option Request → Type 0
IsBegunAs c None = ⊥
IsBegunAs c (Some q) = IsFor c q × HasCome c []

-- what the call of a free party came to
abbrev pub IsBegun : Standing → Bool → Option Request → Result BoardCall Reason → Type 0
IsBegun s taken q (Ok c) = (refusal_of s taken q ≡ None) × IsBegunAs c q
IsBegun s taken q (Err why) = refusal_of s taken q ≡ Some why

-- what was found for a call on events is the task of the definitions
abbrev pub IsTaskFound : Option events.EventTask → Option Task → Type 0
IsTaskFound None None = ⊤
IsTaskFound (Some (events.ask q)) (Some (task.Asks a)) = q ≡ ask_in a
IsTaskFound (Some (events.act n c)) (Some (task.OnEvent m k)) = (m ≡ n) × ((number : ℕ) → IsKeptOf k (new_call number c))
IsTaskFound o t = ⊥

-- why a party's call can't be let expire; nothing where it can
abbrev pub IsExpiry : Option Task → Option Reason → Type 0
IsExpiry None o = o ≡ Some reason.Idle
IsExpiry (Some task.Gone) o = o ≡ Some reason.Abandoned
IsExpiry (Some (task.OnBoards c)) o = o ≡ Some reason.NotWaiting
IsExpiry (Some (task.Asks a)) o = o ≡ Some reason.NotWaiting
IsExpiry (Some (task.OnEvent n c)) o = (r : RunningCall) → IsKeptOf c r → o ≡ (if is_timed (call_of r) && r.waited then None else Some reason.NotWaiting)

-- ---- steps

-- but for the task of the party, which was taken out, the judge stands for the state
pub record RepresentsBut (j : Judge) (party : List ℕ) (s : ScriptState) : Type 0 where
  pub boards : Has j.boards s.boards.standing s.boards.memory s.boards.published
  pub events : AreEvents j.events (record { stands = s.events.session.stands; count = s.events.session.count; names = s.events.names })
  pub things : (p n : List ℕ) → option_map thing_in (thing_at j p n) ≡ s.events.things p n
  pub out : task_of j party ≡ None
  pub others : (p : List ℕ) → bytes_eq party p ≡ false → IsTaskOf (task_of j p) (s.boards.parties p) (s.events.asked p) (s.events.session.doing p)

-- the task that was taken out is the party's
abbrev pub IsOut : Task → List ℕ → ScriptState → Type 0
IsOut t party s = IsTaskOf (Some t) (s.boards.parties party) (s.events.asked party) (s.events.session.doing party)

-- so it is for some state that a lawful session led to
pub record IsLedBut (j : Judge) (party : List ℕ) (t : Task) : Type 0 where
  pub state : ScriptState
  pub count : ℕ
  pub represents : RepresentsBut j party state
  pub out : IsOut t party state
  pub reached : IsReached state count

-- the step of the party is told right, after each state that the judge with the task stood for
abbrev pub TellsStep : Judge → Judge → List ℕ → Task → List ℕ → Type 0
TellsStep old new party t text =
    (s : ScriptState) (count : ℕ) → RepresentsBut old party s → IsOut t party s → IsReached s count → IsTelling new (line.Board (board_line.Step party)) text s

-- what stands of events after a party that asked was told
abbrev pub asked_made : events.ScriptEvents → List ℕ → events.EventAsk → events.ScriptEvents
asked_made x party q = (let y = events.ask_made x party q in record y { asked = events.with_ask y.asked party None })

-- the reply to what the party asks is right, and the judge stands for what follows
abbrev pub HasMade : Judge → Judge → List ℕ → Ask → EventReply → Type 0
HasMade old new party a reply =
    (s : ScriptState) (count : ℕ) → RepresentsBut old party s → IsOut (task.Asks a) party s → IsReached s count
    → (reply ≡ events.ask_told s.events (ask_in a)) × Represents new (record s { events = asked_made s.events party (ask_in a) })

-- a task on an event whose call runs so
abbrev pub IsOnEvent : ℕ → RunningCall → Task → Type 0
IsOnEvent n r (task.OnEvent m k) = (m ≡ n) × IsKeptOf k r
IsOnEvent n r t = ⊥

-- what is kept of a call on an event that went on so, or ended
abbrev pub IsLeftOf : ℕ → Option RunningCall → Option Task → Type 0
IsLeftOf n None o = o ≡ None
IsLeftOf n (Some r) o = IsSomeAnd o (IsOnEvent n r)

-- after an answer to its access the call of the party went on, or ended and is told so
pub record HasGoneOn (old new : Judge) (party : List ℕ) (n : ℕ) (answer : EventAnswer) (told : Option EventReply) (r : RunningCall) : Type 0 where
  pub boards : new.boards ≡ old.boards
  pub events : new.events ≡ old.events
  pub things : (p m : List ℕ) → thing_at new p m ≡ thing_at old p m
  pub others : (p : List ℕ) → bytes_eq party p ≡ false → task_of new p ≡ task_of old p
  pub told_is : told ≡ told_with answer r
  pub left : (e : Event) (a : EventAccess) → IsLeftOf n (went_on r e a answer) (task_of new party)

-- so for each call that it is kept of
abbrev pub GoesOnEach : Judge → Judge → List ℕ → ℕ → EventCall → EventAnswer → Option EventReply → Type 0
GoesOnEach old new party n c answer told = (r : RunningCall) → IsKeptOf c r → HasGoneOn old new party n answer told r

-- what the party held under the name is gone, after each state that the judge stood for
abbrev pub LetsGo : Judge → Judge → List ℕ → List ℕ → Type 0
LetsGo old new party name = OfEach old (λ s. Represents new (record s { events = events.event_let_go s.events party name (s.events.things party name) }))
