-- Laws of forms: a right answer is one of the answer grammar, and each line of the grammar has one.
use Rattle.std.specs.Prelude.{◌≡◌, ℕ, ◌^◌, ◌<◌, ◌≤◌, true, List, length, None}
use Rattle.std.specs.List.{AllByRecursion, list_all}
use Rattle.board_model.specs.declared.answer.Answer.{Answer}
use Rattle.board_model.specs.declared.attributes.Attribute.{Attribute}
use Rattle.board_model.specs.declared.attributes.Requirements.{Requirements}
use Rattle.board_model.specs.declared.line.Line.{Line}
use Rattle.board_model.specs.declared.tables.Board.{Board}
use Rattle.board_model.specs.declared.tables.Entry.{Entry}
use Rattle.board_model.specs.declared.tables.NewLimits.{NewLimits}
use Rattle.board_model.specs.declared.value.AddedEntry.{AddedEntry}
use Rattle.board_model.specs.declared.value.Key.{Key}
use Rattle.board_model.specs.declared.value.KeyType.{KeyType}
use Rattle.board_model.specs.LineGrammar.{AreAttributes, AreNewLimits, AreRequirements, IsAddedEntry, IsKey, IsNumber, IsLine, is_board_name, is_name}
use Rattle.board_model.specs.AnswerGrammar.{IsAnswer}
use Rattle.board_model.specs.TypeTable.{key_bytes, key_type_of, type_of_key}
use Rattle.board_model.specs.Tables.{port_of}
use Rattle.board_model.specs.Things.{Held}
use Rattle.board_model.specs.Requests.{Request, TableCall, create, id, open_, table}
use Rattle.board_model.specs.Parties.{Party, free, gone, running}
use Rattle.board_model.specs.LawfulSession.{IsLawful, IsOwed, IsReasoned, IsReplied, IsRight, IsWord, Session, State, has_key_type, reason_of, start, state_after}
use Rattle.board_model.specs.Sound.{BoardTables}
use Rattle.board_model.specs.LawsOfAnswers.{lines_asked}

-- ---- what is told of boards and things is of the grammar

-- an entry keeps a key of the board's key type
pub record IsFormedEntry (k : KeyType) (e : Entry) : Type 0 where
  pub added : Key
  pub key : IsKey added
  pub type : type_of_key added ≡ k
  pub bytes : e.key.bytes ≡ key_bytes added

-- a board has a name and limits of the grammar, few attributes, and typed keys
pub record IsFormedBoard (b : Board) : Type 0 where
  pub name : is_board_name b.name ≡ true
  pub readers : IsNumber b.max_readers
  pub nodes : IsNumber b.max_nodes
  pub writers : IsNumber b.max_writers
  pub attributes : length b.attributes ≤ 8
  pub entries : length b.entries ≤ 4294967295
  pub keys : AllByRecursion (IsFormedEntry (key_type_of b.key)) b.entries

-- a thing has a name of the grammar for its holder, and a port number that was drawn
pub record IsFormedThing (last_port : ℕ) (t : Held) : Type 0 where
  pub holder : is_name t.holder ≡ true
  pub port : port_of t.kind ≤ last_port

-- the boards and things are of the grammar, and at most so many things stand
pub record AreFormedTables (t : BoardTables) (n : ℕ) : Type 0 where
  pub boards : AllByRecursion IsFormedBoard t.boards
  pub things : AllByRecursion (IsFormedThing t.last_port) t.things
  pub few : length t.things ≤ n

-- what a new board is made of
pub record IsFormedCreate (name : List ℕ) (k : KeyType) (limits : NewLimits) (attributes : List Attribute) (entries : List AddedEntry) : Type 0 where
  pub text : is_board_name name ≡ true
  pub bounds : AreNewLimits limits
  pub pairs : AreAttributes attributes
  pub each : AllByRecursion IsAddedEntry entries
  pub types : list_all (has_key_type k) entries ≡ true

-- what an opener names and needs
pub record IsFormedOpen (name : List ℕ) (needs : Requirements) : Type 0 where
  pub text : is_board_name name ≡ true
  pub needed : AreRequirements needs

-- a board that a call makes or opens is of the grammar, and a thing that it asks for has a port that was drawn
abbrev pub IsFormedInTable : ℕ → TableCall → Type 0
IsFormedInTable n (create f name k limits attributes entries) = IsFormedCreate name k limits attributes entries
IsFormedInTable n (open_ f name k limits needs) = IsFormedOpen name needs
IsFormedInTable n (id x) = port_of x.kind ≤ n
IsFormedInTable n c = Unit {0}

-- the request of a call is of the grammar
abbrev pub IsFormedRequest : ℕ → Request → Type 0
IsFormedRequest n (table c) = IsFormedInTable n c
IsFormedRequest n request = Unit {0}

-- a party that runs a call has a name of the grammar
abbrev pub IsFormedParty : ℕ → List ℕ → Party → Type 0
IsFormedParty n name free = Unit {0}
IsFormedParty n name (running r) = (is_name name ≡ true) × IsFormedRequest n r.request
IsFormedParty n name gone = Unit {0}

-- no more than n things stand, and no port of a call is above n
pub record AreFormed (s : State) (n : ℕ) : Type 0 where
  pub tables : AreFormedTables s.standing.tables n
  pub parties : (party : List ℕ) → IsFormedParty n party (s.parties party)

-- after a session they are no more than it has lines
abbrev pub SessionsKeepForms : Type 0
SessionsKeepForms = (pairs : Session) → IsLawful pairs → AreFormed (state_after start pairs) (length pairs)

-- ---- right answers

-- all rules of an answer but that it is one of the answer grammar
pub record IsRightButForm (s : State) (l : Line) (a : Answer) : Type 0 where
  pub line : IsLine l
  pub reason : IsReasoned (reason_of s l) a
  pub owed : reason_of s l ≡ None → IsOwed s l a
  pub word : reason_of s l ≡ None → IsWord s l a
  pub reply : reason_of s l ≡ None → IsReplied s l a

-- the other rules give that one, in a session of fewer than 2^63 lines
abbrev pub RightAnswersAreOfTheGrammar : Type 0
RightAnswersAreOfTheGrammar = (pairs : Session) (l : Line) (a : Answer) → IsLawful pairs → length pairs < 2 ^ 63 → IsRightButForm (state_after start pairs) l a → IsAnswer a

-- so each line of the grammar has a right answer: the rules never contradict each other
abbrev pub EachLineHasAnAnswer : Type 0
EachLineHasAnAnswer = (pairs : Session) (l : Line) → IsLawful pairs → length pairs < 2 ^ 63 → IsLine l → (a : Answer) × IsRight (state_after start pairs) l a

-- and each list of such lines has a lawful session
abbrev pub EachScriptHasASession : Type 0
EachScriptHasASession = (lines : List Line) → AllByRecursion IsLine lines → length lines < 2 ^ 63 → (pairs : Session) × IsLawful pairs × (lines_asked pairs ≡ lines)
