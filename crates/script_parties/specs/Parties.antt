-- A domain as the parties of a script see it, and what the calls on it do.
use Rattle.std.specs.Prelude.{◌≡◌, ℕ, ◌+◌, ◌<◌, ◌≤◌, ◌^◌, List, [], ◌∷◌, ◌++◌, length, map, Option, Some, Result, slice_index, slice_index_or, slice_set}
use Rattle.std.specs.List.{position_from}
use Rattle.std.specs.Str.{bytes_eq}
use Rattle.board_model.specs.declared.answer.Reply.{Reply}
use Rattle.board_model.specs.declared.answer.Reply.TheVariants as reply
use Rattle.board_model.specs.declared.attributes.Attribute.{Attribute}
use Rattle.board_model.specs.declared.attributes.Requirements.{Requirements}
use Rattle.board_model.specs.declared.tables.Board.{Board}
use Rattle.board_model.specs.declared.tables.Limits.{Limits}
use Rattle.board_model.specs.declared.tables.NewLimits.{NewLimits}
use Rattle.board_model.specs.declared.value.AddedEntry.{AddedEntry}
use Rattle.board_model.specs.declared.value.Key.{Key}
use Rattle.board_model.specs.declared.value.KeyType.{KeyType}
use Rattle.board_model.specs.declared.value.ValueType.{ValueType}
use Rattle.board_model.specs.LawfulSession.{no_tables}
use Rattle.board_model.specs.Tables.{Tables, board_at, board_named, entry_found, is_numbered}
use Rattle.board_model.specs.TableCalls.{create_asked, entry_asked, entry_mut_asked, joined, number_of, open_asked, reader_asked, writer_asked}
use Rattle.board_model.specs.Memory.{opening_of}
use Rattle.board_model.specs.Things.{Held, thing_of}
use Rattle.board_model.specs.TypeTable.{key_detail, same_key, value_detail}
use Rattle.board_model.specs.Replies.{added_of, keeps_key, number_or, released_thing}
use Rattle.board_service.specs.Domain.{at}

-- the tables, the words of each board in the order of the boards, and how many things were made
pub record Parties : Type 0 where
  pub tables : Tables (List ℕ) (List ℕ)
  pub words : List (List ℕ)
  pub drawn : ℕ

-- nothing was made
abbrev pub no_parties : Parties
no_parties = record { tables = no_tables; words = []; drawn = 0 }

-- no number is near its end
pub record IsFew (p : Parties) : Type 0 where
  pub boards : p.tables.last_board < 2 ^ 63
  pub ports : p.tables.last_port < 2 ^ 63
  pub things : p.drawn < 2 ^ 63

-- the thing stands
abbrev pub IsStandingThing : Parties → Held → Type 0
IsStandingThing p x = thing_of p.tables.things x.holder x.name ≡ Some x

-- a call is told so, and leaves these tables; the words stay, and at most one thing more was made
pub record IsAsked {E : Type 0} (old new : Parties) (error : E → Reply) (asked : Result ℕ E × Tables (List ℕ) (List ℕ)) (told : Reply) : Type 0 where
  pub told_is : told ≡ number_or error asked.0
  pub tables : new.tables ≡ asked.1
  pub words : new.words ≡ old.words
  pub drawn : new.drawn ≤ old.drawn + 1

-- a board is opened, or not, as the definitions say
abbrev pub IsOpen : Parties → Parties → List ℕ → List ℕ → List ℕ → KeyType → Limits → Requirements → Reply → Type 0
IsOpen old new party factory name k limits needs told = IsAsked old new reply.OpenError (open_asked bytes_eq old.tables party factory name (key_detail k) limits needs) told

-- a factory is made for the party, of the board with this name
pub record IsJoined (old new : Parties) (party factory name : List ℕ) (told : Reply) : Type 0 where
  pub told_is : told ≡ reply.Number (number_of (board_named old.tables name))
  pub tables : new.tables ≡ joined old.tables party factory (board_named old.tables name)
  pub words : new.words ≡ old.words
  pub drawn : new.drawn ≤ old.drawn + 1

-- a reader is made, or not, as the definitions say
abbrev pub IsReader : Parties → Parties → List ℕ → Held → Reply → Type 0
IsReader old new name x told = IsAsked old new reply.ReaderError (reader_asked old.tables x name) told

-- a writer is made, or not, as the definitions say
abbrev pub IsWriter : Parties → Parties → List ℕ → Held → Reply → Type 0
IsWriter old new name x told = IsAsked old new reply.WriterError (writer_asked old.tables x name) told

-- a read handle is made, or not, as the definitions say
abbrev pub IsEntry : Parties → Parties → List ℕ → Held → Key → ValueType → Reply → Type 0
IsEntry old new name x k type told =
    IsAsked old new reply.EntryError (entry_asked old.tables x name (entry_found (board_at old.tables x.board) (keeps_key k) (value_detail type))) told

-- a write handle is made, or not, as the definitions say
abbrev pub IsEntryMut : Parties → Parties → List ℕ → Held → Key → ValueType → Reply → Type 0
IsEntryMut old new name x k type told =
    IsAsked old new reply.EntryMutError (entry_mut_asked old.tables x name (entry_found (board_at old.tables x.board) (keeps_key k) (value_detail type))) told

-- the words of the boards, with those of a board that was made
abbrev pub words_with : List (List ℕ) → List AddedEntry → Reply → List (List ℕ)
words_with words entries (reply.Number n) = words ++ opening_of entries ∷ []
words_with words entries told = words

-- a create is told so, and leaves these tables and words
pub record IsCreate (old new : Parties) (party factory name : List ℕ) (k : KeyType) (limits : NewLimits) (attributes : List Attribute) (entries : List AddedEntry) (told : Reply) : Type 0 where
  pub told_is : told ≡ number_or reply.CreateError (create_asked (same_key k) old.tables party factory name (key_detail k) limits attributes (map added_of entries)).0
  pub tables : new.tables ≡ (create_asked (same_key k) old.tables party factory name (key_detail k) limits attributes (map added_of entries)).1
  pub words : new.words ≡ words_with old.words entries told
  pub drawn : new.drawn ≤ old.drawn + 1

-- the words of the boards, one after another
abbrev pub words_of_boards : (ℕ → List ℕ) → List Board → List (List ℕ)
words_of_boards memory boards = map (λ (b : Board). memory b.number) boards

-- the thing that a party held under a name is gone, and a board with its last thing
pub record IsReleased (old new : Parties) (party name : List ℕ) : Type 0 where
  pub tables : new.tables ≡ released_thing old.tables party name (thing_of old.tables.things party name)
  -- the words of the boards that are left
  pub words : (f : ℕ → List ℕ) → old.words ≡ words_of_boards f old.tables.boards → new.words ≡ words_of_boards f new.tables.boards
  pub drawn : new.drawn ≡ old.drawn

-- ---- words

-- the words of the board, where it stands
abbrev pub board_words : Parties → ℕ → Option (List ℕ)
board_words p board = at p.words (position_from (is_numbered board) 0 p.tables.boards)

-- the board stands, and has the word
pub record HasWord (p : Parties) (board word : ℕ) : Type 0 where
  pub place : ℕ
  pub stands : Some place ≡ position_from (is_numbered board) 0 p.tables.boards
  pub inside : place < length p.words
  pub word_inside : (d : List ℕ) → word < length (slice_index_or p.words place d)

-- the word is this one
abbrev pub IsLoaded : Parties → ℕ → ℕ → ℕ → Type 0
IsLoaded p board word v = (place : ℕ) (d : List ℕ) → Some place ≡ position_from (is_numbered board) 0 p.tables.boards → v ≡ slice_index (slice_index_or p.words place d) word

-- one word of the board's words is set
pub record IsStored (old new : Parties) (board word value : ℕ) : Type 0 where
  pub tables : new.tables ≡ old.tables
  pub drawn : new.drawn ≡ old.drawn
  pub words : (place : ℕ) (d : List ℕ) → Some place ≡ position_from (is_numbered board) 0 old.tables.boards
      → new.words ≡ slice_set old.words place (slice_set (slice_index_or old.words place d) word value)
