-- Events and reads together: who takes an entry's id, and then gets the entry, gets what was published before the notify of that id began, or a later value.
use Rattle.std.specs.Prelude.{◌≡◌, ℕ, ◌≤◌, ◌==◌, Bool, true, false, List, [], ◌∷◌, ◌++◌, Option, Some, ◌⊎◌, ⊤}
use Rattle.std.specs.List.{list_any}
use Rattle.board_event_model.specs.declared.access.EventAccess.{EventAccess}
use Rattle.board_event_model.specs.declared.access.EventAccess.TheVariants as access
use Rattle.board_event_model.specs.declared.access.EventAnswer.{EventAnswer}
use Rattle.board_event_model.specs.declared.access.EventAnswer.TheVariants as event_answer
use Rattle.board_event_model.specs.EventMemory.{taken}
use Rattle.board_event_model.specs.WaitCalls.{Wait}
use Rattle.board_event_model.specs.EventCalls.{a_wait, RunningCall, call_of}
use Rattle.board_event_model.specs.EventSessions.{StandingEvent}
use Rattle.board_model.specs.declared.answer.Answer.{Answer}
use Rattle.board_model.specs.declared.answer.Answer.TheVariants as answer
use Rattle.board_model.specs.declared.line.Call.TheVariants as call
use Rattle.board_model.specs.declared.line.Line.{Line}
use Rattle.board_model.specs.declared.line.Line.TheVariants as board_line
use Rattle.board_model.specs.declared.tables.Entry.{Entry}
use Rattle.board_model.specs.Tables.{entry_at}
use Rattle.board_model.specs.Requests.{Fetch, get, request_of}
use Rattle.board_model.specs.Parties.{Party, free, gone, running}
use Rattle.board_model.specs.LawsOfSessions.{IsGot, IsPublished}
use Rattle.script_model.specs.declared.line.EventRequest.TheVariants as request
use Rattle.script_model.specs.declared.line.ScriptLine.{ScriptLine}
use Rattle.script_model.specs.declared.line.ScriptLine.TheVariants as line
use Rattle.script_model.specs.declared.reply.EventReply.{EventReply}
use Rattle.script_model.specs.ScriptAnswers.{ScriptAnswer, of_boards}
use Rattle.script_model.specs.ScriptEvents.{notifier}
use Rattle.script_model.specs.ScriptTurns.{ScriptState}
use Rattle.script_model.specs.ScriptSession.{IsLawful, Session, after, start, state_after}
use Rattle.script_model.specs.LawsOfEvents.{TakesAccess}

-- ---- what a pair of a line and its answer is, by the state that it met

-- a line of boards and its answer
abbrev pub Pair : Type 0
Pair = ScriptLine × ScriptAnswer

-- a pair of boards, as a pair of a script
abbrev pub of_pair : Line × Answer → Pair
of_pair x = (line.Board x.0, of_boards x.1)

-- the pair ends a publication of these words in entry i of board b, as its generation g
pub record EndsPublication (s : ScriptState) (pair : Pair) (b i : ℕ) (words : List ℕ) (g : ℕ) : Type 0 where
  pub ends : Line × Answer
  pub is : pair ≡ of_pair ends
  pub publication : IsPublished s.boards ends b i words g

-- the id is the entry's: the place of its cell in the board
pub record IsIdOf (s : ScriptState) (b i id : ℕ) : Type 0 where
  pub entry : Entry
  pub found : entry_at s.boards.standing.tables b i ≡ Some entry
  pub place : entry.cell.place ≡ id

-- the pair begins a notify of the id on event n, through a notifier that the party holds; it is the call of this number
pub record BeginsNotify (s : ScriptState) (pair : Pair) (party : List ℕ) (n id number : ℕ) : Type 0 where
  pub name : List ℕ
  pub holds : s.events.things party name ≡ Some (notifier n)
  pub is : pair ≡ (line.Event party (request.Notify name id), of_boards answer.Begun)
  pub number_is : s.events.session.begun ≡ number

-- a set of the id, or a push that added it
abbrev pub MakesPending : EventAccess → EventAnswer → ℕ → Type 0
MakesPending a b id = (a ≡ access.Set id) ⊎ ((a ≡ access.Push id) × (b ≡ event_answer.Done))

-- the pair makes the id pending on event n, as a step of the party's call of this number
pub record Notifies (s : ScriptState) (pair : Pair) (party : List ℕ) (n id number : ℕ) : Type 0 where
  pub call : RunningCall
  pub access : EventAccess
  pub answer : EventAnswer
  pub told : Option EventReply
  pub step : TakesAccess s pair party n call access answer told
  pub number_is : call.number ≡ number
  pub makes : MakesPending access answer id

-- the pair takes the id out of event n, as a step of a wait
pub record TakesId (s : ScriptState) (pair : Pair) (n id : ℕ) : Type 0 where
  pub party : List ℕ
  pub call : RunningCall
  pub wait : Wait
  pub access : EventAccess
  pub answer : EventAnswer
  pub told : Option EventReply
  pub event : StandingEvent
  pub step : TakesAccess s pair party n call access answer told
  pub waits : call_of call ≡ a_wait wait
  pub stands : s.events.session.stands n ≡ Some event
  pub takes : list_any (λ x. x == id) (taken event.event access) ≡ true

-- none of these pairs takes the id out of event n
abbrev pub IsUntaken : ScriptState → Session → ℕ → ℕ → Type 0
IsUntaken s [] n id = ⊤
IsUntaken s (pair ∷ pairs) n id = (TakesId s pair n id → ⊥) × IsUntaken (after s pair.0 pair.1) pairs n id

-- the pair begins the party's get of entry i of board b
pub record BeginsGet (s : ScriptState) (pair : Pair) (party : List ℕ) (b i : ℕ) : Type 0 where
  pub handle : List ℕ
  pub value : Option (List ℕ)
  pub fetch : Fetch
  pub found : request_of s.boards.standing s.boards.published party (call.Get handle value) ≡ Some (get fetch)
  pub board : fetch.board ≡ b
  pub place : fetch.entry ≡ i
  pub is : pair ≡ of_pair (board_line.Begin party (call.Get handle value), answer.Begun)

-- whether a call runs
abbrev pub is_running : Party → Bool
is_running free = false
is_running (running r) = true
is_running gone = false

-- the party's call runs on through these pairs: none of them ends it
abbrev pub RunsOn : ScriptState → Session → List ℕ → Type 0
RunsOn s [] party = is_running (s.boards.parties party) ≡ true
RunsOn s (pair ∷ pairs) party = (is_running (s.boards.parties party) ≡ true) × RunsOn (after s pair.0 pair.1) pairs party

-- the pair ends the party's get of entry i of board b with these words and this generation
pub record EndsGet (s : ScriptState) (pair : Pair) (party : List ℕ) (b i : ℕ) (words : List ℕ) (g : ℕ) : Type 0 where
  pub ends : Line × Answer
  pub is : pair ≡ of_pair ends
  pub got : IsGot s.boards ends b i words g
  pub own : got.party ≡ party

-- ---- six pairs of one session, in this order, and what lies before each

-- a session that was cut at six pairs
pub record Cuts : Type 0 where
  pub before_published : Session
  pub published : Pair
  pub before_begun : Session
  pub begun : Pair
  pub before_notified : Session
  pub notified : Pair
  pub before_taken : Session
  pub taken : Pair
  pub before_asked : Session
  pub asked : Pair
  pub before_got : Session
  pub got : Pair

-- what came before the end of the publication
abbrev pub to_published : Cuts → Session
to_published c = c.before_published

-- before the notify began
abbrev pub to_begun : Cuts → Session
to_begun c = to_published c ++ c.published ∷ c.before_begun

-- before it made its id pending
abbrev pub to_notified : Cuts → Session
to_notified c = to_begun c ++ c.begun ∷ c.before_notified

-- before the id was taken
abbrev pub to_taken : Cuts → Session
to_taken c = to_notified c ++ c.notified ∷ c.before_taken

-- before the get began
abbrev pub to_asked : Cuts → Session
to_asked c = to_taken c ++ c.taken ∷ c.before_asked

-- before the get ended
abbrev pub to_got : Cuts → Session
to_got c = to_asked c ++ c.asked ∷ c.before_got

-- the state that a pair after these met
abbrev pub state_met : Session → ScriptState
state_met pairs = state_after start pairs

-- and the state after one pair more
abbrev pub past : Session → Pair → ScriptState
past pairs pair = after (state_met pairs) pair.0 pair.1

-- in one lawful session words were published in an entry; then a party began to notify event n of the entry's id, and made it pending;
-- then a wait took it, the first one since; then a get of the entry began, which ended with the later words
pub record IsNotifiedGet (c : Cuts) (b i n id g h : ℕ) (words later : List ℕ) : Type 0 where
  pub bell : List ℕ
  pub reader : List ℕ
  pub number : ℕ
  pub lawful : IsLawful (to_got c ++ c.got ∷ [])
  pub published : EndsPublication (state_met (to_published c)) c.published b i words g
  pub id_is : IsIdOf (state_met (to_begun c)) b i id
  pub begun : BeginsNotify (state_met (to_begun c)) c.begun bell n id number
  pub notified : Notifies (state_met (to_notified c)) c.notified bell n id number
  pub untaken : IsUntaken (past (to_notified c) c.notified) c.before_taken n id
  pub taken : TakesId (state_met (to_taken c)) c.taken n id
  pub asked : BeginsGet (state_met (to_asked c)) c.asked reader b i
  pub runs_on : RunsOn (past (to_asked c) c.asked) c.before_got reader
  pub got : EndsGet (state_met (to_got c)) c.got reader b i later h

-- ---- the law

-- then the get gives the words that were published, or later ones
abbrev pub NotifiedGetsAreFresh : Type 0
NotifiedGetsAreFresh = (c : Cuts) (b i n id g h : ℕ) (words later : List ℕ) → IsNotifiedGet c b i n id g h words later
    → (g ≤ h) × (g ≡ h → words ≡ later)
