-- The boards of a script whose lines have at most 4096 bytes stay small, and so do the answers to its lines.
use Rattle.std.specs.Prelude.{ℕ, ◌+◌, ◌*◌, ◌≤◌, List, length, map}
use Rattle.std.specs.List.{AllByRecursion}
use Rattle.board_model.specs.declared.answer.Answer.{Answer}
use Rattle.board_model.specs.declared.line.Line.{Line}
use Rattle.board_model.specs.declared.line.Line.TheVariants as line
use Rattle.board_model.specs.declared.line.Call.TheVariants as call
use Rattle.board_model.specs.declared.attributes.Attribute.{Attribute}
use Rattle.board_model.specs.declared.tables.Board.{Board}
use Rattle.board_model.specs.declared.tables.NewLimits.{NewLimits}
use Rattle.board_model.specs.declared.value.AddedEntry.{AddedEntry}
use Rattle.board_model.specs.declared.value.KeyType.{KeyType}
use Rattle.board_layout.specs.Layout.{payload}
use Rattle.board_model.specs.LineGrammar.{IsLine, spell}
use Rattle.board_model.specs.Tables.{shapes_of}
use Rattle.board_model.specs.Replies.{added_of}
use Rattle.board_model.specs.AnswerGrammar.{answer_text}
use Rattle.board_model.specs.Requests.{Request, TableCall, create, table}
use Rattle.board_model.specs.Parties.{Party, free, gone, running}
use Rattle.board_model.specs.LawfulSession.{IsLawful, IsRight, Session, State, start, state_after}
use Rattle.script_lengths.specs.SizedAnswers.{IsSizedAnswer}

-- the line has no more bytes than one may have
abbrev pub IsShortLine : Line → Type 0
IsShortLine l = length (spell l) ≤ 4096

-- and so each line of a session
abbrev pub HasShortLines : Session → Type 0
HasShortLines pairs = AllByRecursion (λ (pair : Line × Answer). IsShortLine pair.0) pairs

-- ---- sizes

-- no line adds more entries
abbrev pub IsSmallBoard : Board → Type 0
IsSmallBoard b = length b.entries ≤ 273

-- the entries that a call adds are as few
abbrev pub AddsFewInTable : TableCall → Type 0
AddsFewInTable (create f name k limits attributes entries) = length entries ≤ 273
AddsFewInTable c = Unit {0}

abbrev pub AddsFew : Request → Type 0
AddsFew (table c) = AddsFewInTable c
AddsFew request = Unit {0}

-- and those that a party's call adds
abbrev pub RunsFew : Party → Type 0
RunsFew free = Unit {0}
RunsFew (running r) = AddsFew r.request
RunsFew gone = Unit {0}

-- an entry takes at most 87 bytes of its board, and a board has at most 273 of them
pub record AreSmall (s : State) : Type 0 where
  pub words : (b : ℕ) → 8 * length (s.memory b) ≤ 23751
  pub boards : AllByRecursion IsSmallBoard s.standing.tables.boards
  pub calls : (party : List ℕ) → RunsFew (s.parties party)

-- ---- laws

-- a line adds few entries, and the bytes that they ask for are few
pub record IsSmallCreate (entries : List AddedEntry) : Type 0 where
  pub few : length entries ≤ 273
  pub bytes : payload (shapes_of (map added_of entries)) ≤ 23751

-- so no board of a script is refused for its size
abbrev pub CreatesAreSmall : Type 0
CreatesAreSmall =
    (party factory name : List ℕ) (k : KeyType) (limits : NewLimits) (attributes : List Attribute) (entries : List AddedEntry) →
    IsLine (line.Begin party (call.Create factory name k limits attributes entries)) → IsShortLine (line.Begin party (call.Create factory name k limits attributes entries)) → IsSmallCreate entries

-- after a session of such lines each board is small
abbrev pub BoardsStaySmall : Type 0
BoardsStaySmall = (pairs : Session) → IsLawful pairs → HasShortLines pairs → AreSmall (state_after start pairs)

-- so right answers tell lists that are no longer than these, with a node for each line at most
abbrev pub RightAnswersAreSized : Type 0
RightAnswersAreSized = (pairs : Session) (l : Line) (a : Answer) → IsLawful pairs → HasShortLines pairs → IsRight (state_after start pairs) l a → IsSizedAnswer (length pairs) a

-- and their texts are short
abbrev pub RightAnswersAreShort : Type 0
RightAnswersAreShort = (pairs : Session) (l : Line) (a : Answer) → IsLawful pairs → HasShortLines pairs → IsRight (state_after start pairs) l a → length (answer_text a) ≤ 62400 + 17 * length pairs
