-- Laws of entry ids.
use Rattle.std.specs.Prelude.{◌≡◌, ℕ, List, Some}
use Rattle.board_cell_model.specs.declared.access.Access.{Access}
use Rattle.board_model.specs.declared.answer.Answer.{Answer}
use Rattle.board_model.specs.declared.answer.Answer.TheVariants as answer
use Rattle.board_model.specs.declared.answer.Reply.TheVariants as reply
use Rattle.board_model.specs.declared.line.Line.{Line}
use Rattle.board_model.specs.declared.line.Line.TheVariants as line
use Rattle.board_model.specs.declared.tables.Entry.{Entry}
use Rattle.board_model.specs.declared.tables.Kind.{Kind}
use Rattle.board_model.specs.declared.tables.Kind.TheVariants as kind
use Rattle.board_model.specs.declared.value.Key.{Key}
use Rattle.board_model.specs.declared.value.ValueType.{ValueType}
use Rattle.board_model.specs.TypeTable.{value_detail}
use Rattle.board_model.specs.Tables.{board_at, entry_at, entry_found}
use Rattle.board_model.specs.TableCalls.{place_of}
use Rattle.board_model.specs.Things.{Held}
use Rattle.board_model.specs.Requests.{Request, TableCall, entry, entry_mut, table}
use Rattle.board_model.specs.Requests as requests
use Rattle.board_model.specs.Replies.{keeps_key}
use Rattle.board_model.specs.Parties.{Running, running}
use Rattle.board_model.specs.LawfulSession.{State}
use Rattle.board_model.specs.Sound.{Sound}
use Rattle.board_model.specs.LawsOfSessions.{Pairs, at_one, at_two}

-- two entries of a board have two places
abbrev pub EntriesHaveOtherPlaces : Type 0
EntriesHaveOtherPlaces = (s : State) (n i j : ℕ) (e f : Entry) → Sound s → entry_at s.standing.tables n i ≡ Some e → entry_at s.standing.tables n j ≡ Some f
    → e.cell.place ≡ f.cell.place → i ≡ j

-- the call asks for a read or a write handle by a key and a value type, at a reader or writer of the board
abbrev pub AsksInTable : TableCall → ℕ → Key → ValueType → Type 0
AsksInTable (entry name of k type) n key t = (of.board ≡ n) × (k ≡ key) × (type ≡ t)
AsksInTable (entry_mut name of k type) n key t = (of.board ≡ n) × (k ≡ key) × (type ≡ t)
AsksInTable c n key t = ⊥

-- the same of any call: those that do not go to the tables ask for none
abbrev pub AsksForHandle : Request → ℕ → Key → ValueType → Type 0
AsksForHandle (table c) n key t = AsksInTable c n key t
AsksForHandle request n key t = ⊥

-- the pair ends such a call, with a handle of the entry at this place of the board, and tells this id
pub record IsMade (s : State) (pair : Line × Answer) (n place : ℕ) (key : Key) (t : ValueType) (id : ℕ) : Type 0 where
  pub party : List ℕ
  pub call : Running
  pub access : Access
  pub runs : s.parties party ≡ running call
  pub request : AsksForHandle call.request n key t
  pub found : place_of (entry_found (board_at s.standing.tables n) (keeps_key key) (value_detail t)) ≡ place
  pub line : pair.0 ≡ line.Step party
  pub answer : pair.1 ≡ answer.Step access (Some (reply.Number id))

-- the entry and its id of a key are the same for read and write handle, at any two moments of a session
abbrev pub OneKeyOneId : Type 0
OneKeyOneId = (p : Pairs) (n i j one two : ℕ) (k : Key) (t u : ValueType) → IsMade (at_one p) p.one n i k t one → IsMade (at_two p) p.two n j k u two
    → (i ≡ j) × (one ≡ two)

-- and the ids of two entries of a board differ
abbrev pub OtherEntriesOtherIds : Type 0
OtherEntriesOtherIds = (p : Pairs) (n i j id : ℕ) (k l : Key) (t u : ValueType) → IsMade (at_one p) p.one n i k t id → IsMade (at_two p) p.two n j l u id
    → i ≡ j

-- ---- the ids that `id` tells

-- a handle of the entry at this place
abbrev pub IsHandleAt : Kind → ℕ → Type 0
IsHandleAt (kind.ReadHandle i) place = i ≡ place
IsHandleAt (kind.WriteHandle i port) place = i ≡ place
IsHandleAt k place = ⊥

-- the pair ends a call that asks for the id of a handle of the entry at this place of the board, and tells this id
pub record IsToldId (s : State) (pair : Line × Answer) (n place id : ℕ) : Type 0 where
  pub party : List ℕ
  pub call : Running
  pub access : Access
  pub handle : Held
  pub runs : s.parties party ≡ running call
  pub request : call.request ≡ table (requests.id handle)
  pub board : handle.board ≡ n
  pub of_entry : IsHandleAt handle.kind place
  pub line : pair.0 ≡ line.Step party
  pub answer : pair.1 ≡ answer.Step access (Some (reply.Id id))

-- a handle tells the id that was told when a handle of its entry was made
abbrev pub HandlesTellTheirIds : Type 0
HandlesTellTheirIds = (p : Pairs) (n place one two : ℕ) (k : Key) (t : ValueType) → IsMade (at_one p) p.one n place k t one → IsToldId (at_two p) p.two n place two
    → one ≡ two

-- and so does each handle of the entry, at any two moments of a session
abbrev pub HandlesTellAlike : Type 0
HandlesTellAlike = (p : Pairs) (n place one two : ℕ) → IsToldId (at_one p) p.one n place one → IsToldId (at_two p) p.two n place two → one ≡ two

-- a handle that is made later tells the id that an earlier one of its entry told
abbrev pub LaterHandlesTellAlike : Type 0
LaterHandlesTellAlike = (p : Pairs) (n place one two : ℕ) (k : Key) (t : ValueType) → IsToldId (at_one p) p.one n place one → IsMade (at_two p) p.two n place k t two
    → one ≡ two

-- handles of two entries of a board tell two ids
abbrev pub OtherEntriesTellOtherIds : Type 0
OtherEntriesTellOtherIds = (p : Pairs) (n i j id : ℕ) → IsToldId (at_one p) p.one n i id → IsToldId (at_two p) p.two n j id → i ≡ j

-- a handle tells another id than was told when a handle of another entry was made
abbrev pub HandlesTellNoOtherIds : Type 0
HandlesTellNoOtherIds = (p : Pairs) (n i j id : ℕ) (k : Key) (t : ValueType) → IsMade (at_one p) p.one n i k t id → IsToldId (at_two p) p.two n j id
    → i ≡ j

-- and a handle that is made later tells another id than an earlier one of another entry told
abbrev pub LaterHandlesTellOtherIds : Type 0
LaterHandlesTellOtherIds = (p : Pairs) (n i j id : ℕ) (k : Key) (t : ValueType) → IsToldId (at_one p) p.one n i id → IsMade (at_two p) p.two n j k t id
    → i ≡ j
