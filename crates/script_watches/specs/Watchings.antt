-- A watcher that drives a party: its next line, what becomes of it with the answer, and what it reports.
use Rattle.std.specs.Prelude.{ℕ, ◌==◌, nat_lt, if◌then◌else◌, true, List, [], ◌∷◌, ◌++◌, length, slice_index_or, codes, Option, Some, None}
use Rattle.std.specs.Str.{bytes_eq}
use Rattle.board_event_model.specs.declared.call.WaitMode.TheVariants as mode
use Rattle.board_model.specs.AnswerGrammar.{reply_text}
use Rattle.board_model.specs.declared.answer.Reply.TheVariants as reply
use Rattle.board_model.specs.declared.line.Line.TheVariants as board_line
use Rattle.script_model.specs.declared.line.EventRequest.TheVariants as request
use Rattle.script_model.specs.declared.line.ScriptLine.{ScriptLine}
use Rattle.script_model.specs.declared.line.ScriptLine.TheVariants as line
use Rattle.script_model.specs.declared.reply.EventReply.TheVariants as event_reply
use Rattle.script_model.specs.ScriptAnswers.{ScriptAnswer, is_refused, of_event}
use Rattle.script_model.specs.ScriptSession.{Session}
use Rattle.script_model.specs.LawsOfComposition.{state_met}
use Rattle.script_moments.specs.Moments.{Moment}
use Rattle.script_moments.specs.Gets.{Round, ended_get}
use Rattle.script_moments.specs.Watchers.{AskedId, OpenTurn, Turn, Waited, Watcher, calls, getting, idle, waiting}
use Rattle.script_moments.specs.WatcherLines.{watcher_at}
use Rattle.script_exchanges.specs.DrivenParties.{Got, got_by, party_text}
use Rattle.script_snapshots.specs.Takings.{next_of}

-- ---- what is reported

-- a value and its generation, got through a handle
pub record Report : Type 0 where
  pub handle : List ℕ
  pub got : Got

-- the reports of one handle, in order
abbrev pub reports_through : List ℕ → List Report → List Got
reports_through handle [] = []
reports_through handle (r ∷ rs) = if bytes_eq r.handle handle then r.got ∷ reports_through handle rs else reports_through handle rs

-- the generation that was reported last; this one where none was
abbrev pub last_generation : ℕ → List Got → ℕ
last_generation top [] = top
last_generation top (x ∷ xs) = last_generation x.generation xs

-- ---- watchers

-- its listener and its handles; the session before it asked for their ids; its waits and gets; and its reports so far
pub record Watching : Type 0 where
  pub listener : List ℕ
  pub handles : List (List ℕ)
  pub before : Session
  pub watcher : Watcher
  pub reported : List Report

-- its ids are told, and it has begun no wait
abbrev pub new_watching : List ℕ → List (List ℕ) → Session → List AskedId → Watching
new_watching listener handles before asked = record { listener = listener; handles = handles; before = before; watcher = watcher_at asked [] idle; reported = [] }

-- the highest generation that it reported of the handle, which is the last; 0 where it reported none
abbrev pub highest_of : Watching → List ℕ → ℕ
highest_of x handle = last_generation 0 (reports_through handle x.reported)

-- ---- the next line

-- the handles whose ids are among those that the wait was told, in the line's order, each once
abbrev pub called_by : Watching → Waited → List (List ℕ)
called_by x w = calls x.handles x.watcher.asked w.ids

-- the first of them that was not got yet
abbrev pub next_handle : Watching → Waited → Round → List ℕ
next_handle x w gets = slice_index_or (called_by x w) (length gets) []

-- idle it begins to wait for all ids, without blocking; while a call runs it steps; and it gets the handles that are called for
abbrev pub line_at : List ℕ → Watching → OpenTurn → ScriptLine
line_at party x idle = line.Event party (request.Wait x.listener true mode.Try)
line_at party x (waiting begun steps) = line.Board (board_line.Step party)
line_at party x (getting w gets get) = next_of party (next_handle x w gets) get

abbrev pub next_line : List ℕ → Watching → ScriptLine
next_line party x = line_at party x x.watcher.rest

-- ---- what becomes of it

-- it goes on, it goes on and reports this, or it has ended with a refusal
pub data Outcome : Type 0 where
  goes_on : Watching → Outcome
  reports : Watching → Report → Outcome
  ended : Outcome

-- with this turn that runs
abbrev pub turn_so : Watching → OpenTurn → Watching
turn_so x rest = record x { watcher = watcher_at x.watcher.asked x.watcher.turns rest }

-- with this turn that has ended
abbrev pub turn_ended : Watching → Turn → Watching
turn_ended x t = record x { watcher = watcher_at x.watcher.asked (x.watcher.turns ++ t ∷ []) idle }

-- behind its last get the turn has ended
abbrev pub after_gets : Watching → Waited → Round → Watching
after_gets x w gets = if length gets == length (called_by x w) then turn_ended x (record { wait = w; gets = gets }) else turn_so x (getting w gets None)

-- the ids that the last step of a wait was told
abbrev pub ids_by : ScriptAnswer → Option (List ℕ)
ids_by (of_event k name a b (Some (event_reply.Ids ids))) = Some ids
ids_by (of_event k name a b (Some event_reply.Nothing)) = Some []
ids_by a = None

-- the wait that runs has taken a step, and was told these ids, if it has ended
abbrev pub stepped_wait : Watching → Moment → List Moment → Moment → Option (List ℕ) → Outcome
stepped_wait x begun steps m None = goes_on (turn_so x (waiting begun (steps ++ m ∷ [])))
stepped_wait x begun steps m (Some ids) = goes_on (after_gets x (record { begun = begun; steps = steps; ended = m; ids = ids }) [])

-- what was got is reported exactly where its generation is above each that was reported of the handle
abbrev pub after_get : Watching → Watching → Report → Outcome
after_get x y r = if nat_lt (highest_of x r.handle) r.got.generation then reports (record y { reported = x.reported ++ r ∷ [] }) r else goes_on y

-- the get that runs has taken a step, and was told this, if it has ended
abbrev pub stepped_get : Watching → Waited → Round → Moment × List Moment → Moment → Option Got → Outcome
stepped_get x w gets get m None = goes_on (turn_so x (getting w gets (Some (get.0, get.1 ++ m ∷ []))))
stepped_get x w gets get m (Some got) =
    after_get x (after_gets x w (gets ++ ended_get get.0 get.1 m got.type got.words got.generation ∷ [])) (record { handle = next_handle x w gets; got = got })

-- an accepted line
abbrev pub taken_on : Watching → OpenTurn → Moment → ScriptAnswer → Outcome
taken_on x idle m a = goes_on (turn_so x (waiting m []))
taken_on x (waiting begun steps) m a = stepped_wait x begun steps m (ids_by a)
taken_on x (getting w gets None) m a = goes_on (turn_so x (getting w gets (Some (m, []))))
taken_on x (getting w gets (Some get)) m a = stepped_get x w gets get m (got_by a)

-- the moment of its next line, after this session and with this answer
abbrev pub moment_of : Session → List ℕ → Watching → ScriptAnswer → Moment
moment_of fed party x a = record { met = state_met fed; pair = (next_line party x, a) }

-- with the answer to its next line
abbrev pub taken : Session → List ℕ → Watching → ScriptAnswer → Outcome
taken fed party x a = if is_refused a then ended else taken_on x x.watcher.rest (moment_of fed party x a) a

-- ---- how a report is written

abbrev pub report_text : List ℕ → Report → List ℕ
report_text party r = party_text (codes "report") party ++ (codes " " ++ (r.handle ++ (codes " " ++ reply_text (reply.Got r.got.type r.got.words r.got.generation))))
