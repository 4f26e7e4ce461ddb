-- Machines that answer lines, and how far a run of one has come.
use Rattle.std.specs.Prelude.{◌≡◌, ℕ, ◌+◌, ◌<◌, ◌^◌, List, length, Option}
use Rattle.std.specs.Io.KnownBytes.{Appends}
use Rattle.script_model.specs.declared.line.ScriptLine.{ScriptLine}
use Rattle.script_model.specs.ScriptAnswers.{ScriptAnswer, script_answer_line}
use Rattle.script_model.specs.ScriptGrammar.{SpellsLine}
use Rattle.script_model.specs.ScriptSession.{Session, start, after, state_after, IsLawful, IsRight}
use Rattle.script_model.specs.ScriptTurns.{ScriptState}
use Rattle.script_model.specs.ScriptOutput.{Fed, output_of}

-- the machine stands for the number of lines and the last state of this session, which is lawful and short enough that no number reaches its end
pub record StandsFor {M : Type 0} (stands : M → ℕ → ScriptState → Type 0) (m : M) (session : Session) : Type 0 where
  pub lawful : IsLawful session
  pub few : length session < 2 ^ 63
  pub state : stands m (length session) (state_after start session)

-- the bytes spell a line, the text is the line of its right answer, and the machine stands for the session with this pair
pub record HasAnswered {M : Type 0} (stands : M → ℕ → ScriptState → Type 0) (new : M) (session : Session) (bytes text : List ℕ) : Type 0 where
  pub line : ScriptLine
  pub answer : ScriptAnswer
  pub spelled : SpellsLine bytes line
  pub right : IsRight (state_after start session) line answer
  pub state : stands new (length session + 1) (after (state_after start session) line answer)
  pub told : text ≡ script_answer_line answer

-- for each session that it stands for the answer is right, and it stands for the session with this pair
abbrev pub AnswersEach : {M : Type 0} → (M → ℕ → ScriptState → Type 0) → M → M → List ℕ → List ℕ → Type 0
AnswersEach stands old new bytes text = (session : Session) → StandsFor stands old session → HasAnswered stands new session bytes text

-- it stands for what it stood for
abbrev pub StandsStill : {M : Type 0} → (M → ℕ → ScriptState → Type 0) → M → M → Type 0
StandsStill stands old new = (n : ℕ) (s : ScriptState) → stands old n s → stands new n s

-- no answer that tells no list has more bytes
abbrev pub short_room : ℕ
short_room = 400

-- no line of the grammar has these bytes
abbrev pub SpellsNone : List ℕ → Type 0
SpellsNone bytes = (l : ScriptLine) → SpellsLine bytes l → ⊥

-- so many lines were answered, and the rest is left
pub record HasRun {M : Type 0} (stands : M → ℕ → ScriptState → Type 0) (m : M) (count : ℕ) (input left before held : Option (List ℕ)) : Type 0 where
  pub session : Session
  pub lawful : IsLawful session
  pub state : stands m (length session) (state_after start session)
  pub counted : length session ≡ count
  pub fed : Fed input left session
  pub output : Appends before held (output_of session)
