-- Counting the lines of a script by their answers.
use Rattle.std.specs.Prelude.{◌≡◌, ℕ, ◌+◌, ◌<◌, ◌^◌, Bool, true, false, if◌then◌else◌, List, ◌++◌, length, map, codes, Some}
use Rattle.board_cell_model.specs.declared.access.Access.TheVariants as access
use Rattle.board_model.specs.declared.answer.Answer.{Answer}
use Rattle.board_model.specs.declared.answer.Answer.TheVariants as answer
use Rattle.board_model.specs.declared.line.Call.{Call}
use Rattle.board_model.specs.declared.line.Call.TheVariants as call
use Rattle.board_model.specs.declared.line.Line.{Line}
use Rattle.board_model.specs.declared.line.Line.TheVariants as line
use Rattle.board_model.specs.AnswerGrammar.{IsAnswer, answer_line}
use Rattle.board_model.specs.LawfulSession.{State}
use Rattle.board_model.specs.Parties.{Running, running}
use Rattle.board_model.specs.Requests.{Request, get, table, update}
use Rattle.script_model.specs.declared.line.ScriptLine.TheVariants as script_line
use Rattle.script_model.specs.ScriptAnswers.{is_refused, of_boards}
use Rattle.script_model.specs.ScriptEvents.{no_events}
use Rattle.script_model.specs.ScriptGrammar.{SpellsLine}
use Rattle.script_model.specs.ScriptSession.{IsLawful, Session, asked_lines, start, state_after}
use Rattle.script_loop.specs.Machines.{StandsFor}
use Rattle.script_machine.specs.Counters.{EntryStands}
use Rattle.script_machine.specs.ScriptMachine.{StandsAfter}
use Rattle.script_generator.specs.declared.generator.Generator.{Generator}
use Rattle.script_generator.specs.declared.summary.Counts.{Counts}
use Rattle.script_generator.specs.Summary.{counts_of, is_step, summary}

-- ---- counts

-- the last step of a call that writes
abbrev pub is_last_write : Answer → Bool
is_last_write (answer.Step (access.Write board word value) (Some told)) = true
is_last_write a = false

-- the last step of a call that reads
abbrev pub is_last_read : Answer → Bool
is_last_read (answer.Step (access.Read board word value) (Some told)) = true
is_last_read a = false

-- one more where it is so
abbrev pub one_more : ℕ → Bool → ℕ
one_more n is = if is then n + 1 else n

-- with a line that was answered so
abbrev pub counted_with : Counts → Answer → Counts
counted_with c a = record {
  lines = c.lines + 1;
  refused = one_more c.refused (is_refused (of_boards a));
  steps = one_more c.steps (is_step (of_boards a));
  updates = one_more c.updates (is_last_write a);
  gets = one_more c.gets (is_last_read a);
}

-- it holds of each answer whose line has these bytes
abbrev pub OfAnswer : List ℕ → (Answer → Type 0) → Type 0
OfAnswer bytes Holds = (a : Answer) → IsAnswer a → bytes ≡ answer_line a → Holds a

-- none of them is near its end
pub record AreLow (c : Counts) : Type 0 where
  pub lines : c.lines < 2 ^ 63
  pub refused : c.refused < 2 ^ 63
  pub steps : c.steps < 2 ^ 63
  pub updates : c.updates < 2 ^ 63
  pub gets : c.gets < 2 ^ 63

-- ---- lines of which no other call that reads or writes can run than gets and updates

-- a call on the tables, a get or an update
abbrev pub is_plain_request : Request → Bool
is_plain_request (table c) = true
is_plain_request (get f) = true
is_plain_request (update u) = true
is_plain_request request = false

-- neither a look nor a call of a loan
abbrev pub is_plain_call : Call → Bool
is_plain_call (call.Fresh h v) = false
is_plain_call (call.Loan l m) = false
is_plain_call (call.Discard l m) = false
is_plain_call (call.Put l i w) = false
is_plain_call (call.Publish l m) = false
is_plain_call (call.Fill l m v) = false
is_plain_call c = true

-- such a call begins, or a party takes a step
abbrev pub is_plain_line : Line → Bool
is_plain_line (line.Begin party c) = is_plain_call c
is_plain_line (line.Step party) = true
is_plain_line l = false

-- the bytes spell the line, which is of that kind
pub record SpellsPlain (bytes : List ℕ) (l : Line) : Type 0 where
  pub spelled : SpellsLine bytes (script_line.Board l)
  pub plain : is_plain_line l ≡ true

-- a line in which these bytes follow `begin` and the party begins the call, and the party may step; both are of that kind
pub record SpellsCall (party bytes : List ℕ) (c : Call) : Type 0 where
  pub begin : SpellsPlain (codes "begin " ++ (party ++ (codes " " ++ bytes))) (line.Begin party c)
  pub step : SpellsPlain (codes "step " ++ party) (line.Step party)

-- each call that runs is of that kind
abbrev pub RunsPlain : State → Type 0
RunsPlain s = (party : List ℕ) (r : Running) → s.parties party ≡ running r → is_plain_request r.request ≡ true

-- ---- runs

-- these lines were run and counted: the machine stands for their lawful session, which has no events, and the counts are those of it
pub record HasCounted (g : Generator) (lines : List Line) : Type 0 where
  pub session : Session
  pub lines_are : asked_lines session ≡ map script_line.Board lines
  pub stands : StandsFor StandsAfter g.machine session
  pub quiet : (state_after start session).events ≡ no_events
  pub plain : RunsPlain (state_after start session).boards
  pub counts : g.counts ≡ counts_of session

-- some lines were run, and so many more may follow
pub record IsRunning (g : Generator) (room : ℕ) : Type 0 where
  pub lines : List Line
  pub few : length lines + room < 2 ^ 62
  pub run : HasCounted g lines

-- lines were run behind others, and each entry that stood before still stands
pub record RanMore (old new : Generator) (more : List Line) : Type 0 where
  pub run : (lines : List Line) → length (lines ++ more) < 2 ^ 62 → HasCounted old lines → HasCounted new (lines ++ more)
  pub entries : (board i : ℕ) → EntryStands old.machine board i → EntryStands new.machine board i

-- the text is the summary of the lawful session of these lines
pub record IsSummaryOf (lines : List Line) (text : List ℕ) : Type 0 where
  pub session : Session
  pub lawful : IsLawful session
  pub lines_are : asked_lines session ≡ map script_line.Board lines
  pub text_is : text ≡ summary session
