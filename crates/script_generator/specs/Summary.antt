-- What a session comes to: how many lines, refusals, steps, finished updates and gets, and the generations of the first board.
use Rattle.std.specs.Prelude.{◌≡◌, ◌≢◌, ℕ, ◌+◌, ◌<◌, ◌≤◌, Bool, true, false, if◌then◌else◌, List, [], ◌∷◌, ◌++◌, length, map, take, codes, decimal, Option, Some, None, Result, Err, IfErr, IsErrOf, OnOk}
use Rattle.board_model.specs.declared.answer.Answer.{Answer}
use Rattle.board_model.specs.declared.answer.Answer.TheVariants as answer
use Rattle.board_model.specs.declared.line.Line.TheVariants as line
use Rattle.board_model.specs.Parties.{Party, running}
use Rattle.board_model.specs.Requests.{Request, get, update}
use Rattle.script_model.specs.declared.line.ScriptLine.{ScriptLine}
use Rattle.script_model.specs.declared.line.ScriptLine.TheVariants as script_line
use Rattle.script_model.specs.ScriptAnswers.{ScriptAnswer, is_refused, of_ask, of_boards, of_event}
use Rattle.script_model.specs.ScriptSession.{IsLawful, Session, after, asked_lines, start, state_after}
use Rattle.script_model.specs.ScriptTurns.{ScriptState}
use Rattle.script_loop.specs.declared.error.ScriptError.{ScriptError}
use Rattle.script_loop.specs.declared.error.ScriptError.TheVariants.{ReadFault, WriteFault, BadLine, TooLong, OutOfMemory}
use Rattle.script_loop.specs.Runs.{CountStays, CountsOn, Gains, HasFailedOnce, Stream}
use Rattle.script_generator.specs.declared.summary.Counts.{Counts}
use Rattle.script_generator.specs.Generator.{generated}

-- ---- what is counted

-- the answer tells an access
abbrev pub is_step : ScriptAnswer → Bool
is_step (of_boards (answer.Step a told)) = true
is_step (of_ask told) = true
is_step (of_event kind name access a told) = true
is_step a = false

-- the call of the party, where the answer replies to it
abbrev pub ended_by : Party → Answer → Option Request
ended_by (running r) (answer.Step a (Some told)) = Some r.request
ended_by x a = None

-- the call on boards that ends with the line and its answer
abbrev pub call_ended : ScriptState → ScriptLine → ScriptAnswer → Option Request
call_ended s (script_line.Board (line.Step party)) (of_boards a) = ended_by (s.boards.parties party) a
call_ended s l a = None

-- it is an update
abbrev pub is_update : Option Request → Bool
is_update (Some (update u)) = true
is_update q = false

-- it is a get
abbrev pub is_get : Option Request → Bool
is_get (Some (get f)) = true
is_get q = false

-- how many lines of a session are so, from this state on
abbrev pub count_from : (ScriptState → ScriptLine → ScriptAnswer → Bool) → ScriptState → Session → ℕ
count_from is s [] = 0
count_from is s (pair ∷ pairs) = (if is s pair.0 pair.1 then 1 else 0) + count_from is (after s pair.0 pair.1) pairs

-- all that is counted over a session
abbrev pub counts_of : Session → Counts
counts_of session = record {
  lines = length session;
  refused = count_from (λ s l a. is_refused a) start session;
  steps = count_from (λ s l a. is_step a) start session;
  updates = count_from (λ s l a. is_update (call_ended s l a)) start session;
  gets = count_from (λ s l a. is_get (call_ended s l a)) start session;
}

-- the generation of an entry of board 1: how many values were published
abbrev pub generation_of : Session → ℕ → ℕ
generation_of session i = length ((state_after start session).boards.published 1 i)

-- ---- how it is written

-- six lines
abbrev pub summary_text : Counts → ℕ → ℕ → List ℕ
summary_text c first second =
    codes "lines " ++ (decimal c.lines ++ (codes "\nrefused " ++ (decimal c.refused ++ (codes "\nsteps " ++ (decimal c.steps
    ++ (codes "\nupdates " ++ (decimal c.updates ++ (codes "\ngets " ++ (decimal c.gets
    ++ (codes "\ngenerations " ++ (decimal first ++ (codes " " ++ (decimal second ++ codes "\n")))))))))))))

-- the summary of a session
abbrev pub summary : Session → List ℕ
summary session = summary_text (counts_of session) (generation_of session 0) (generation_of session 1)

-- ---- runs of the generated script

-- the sink gained the summary of the lawful session of the generated lines
pub record IsSummed (n : ℕ) (sink : Stream) : Type 0 where
  pub session : Session
  pub lawful : IsLawful session
  pub lines : asked_lines session ≡ map script_line.Board (generated n)
  pub output : Gains sink (summary session)

-- the sink gained a front of it, and not all
pub record IsCut (n : ℕ) (sink : Stream) : Type 0 where
  pub session : Session
  pub lawful : IsLawful session
  pub lines : asked_lines session ≡ map script_line.Board (generated n)
  pub written : ℕ
  pub cut : written < length (summary session)
  pub output : Gains sink (take written (summary session))

-- what stands after each error; no others come
abbrev pub LeavesOff : ScriptError → ℕ → Stream → Type 0
LeavesOff WriteFault n sink = IsCut n sink
LeavesOff OutOfMemory n sink = sink.after ≡ sink.before
LeavesOff ReadFault n sink = ⊥
LeavesOff (BadLine line) n sink = ⊥
LeavesOff TooLong n sink = ⊥

-- the summary of a lawful session of the generated lines has at most so many bytes
abbrev pub SummaryFits : ℕ → ℕ → Type 0
SummaryFits room n = (session : Session) → IsLawful session → asked_lines session ≡ map script_line.Board (generated n) → length (summary session) ≤ room

-- what a run of the script of n comes to; `takes room` is that no write fails within so many bytes
pub record IsGenerated (n : ℕ) (takes : ℕ → Type 0) (sink : Stream) (result : Result (Unit {0}) ScriptError) : Type 0 where
  -- the sink gained the summary of the lawful session whose lines are the generated script
  pub ok : OnOk result (IsSummed n sink)
  -- only two errors come, and leave what this says
  pub err : IfErr result (λ e. LeavesOff e n sink)
  -- the fault is the sink's, and one call failed, not a second
  pub write : IsErrOf result WriteFault → HasFailedOnce sink
  -- where no write fails within the summary, of at most 256 bytes, there is no fault
  pub written : (room : ℕ) → takes room → SummaryFits room n → result ≢ Err WriteFault
  pub written_short : (room : ℕ) → takes room → 256 ≤ room → result ≢ Err WriteFault
  -- a fault is told: with any other answer the sink's count of faults stays
  pub write_told : result ≢ Err WriteFault → CountStays sink
  pub write_later : CountsOn sink
