-- The record of facts that each line of a lawful session keeps.
use Rattle.std.specs.Prelude.{◌≡◌, ℕ, ◌+◌, ◌-◌, ◌*◌, ◌<◌, ◌≤◌, Bool, true, false, ◌&&◌, ◌==◌, List, [], length, take, map, slice_get, slice_index, Option, Some, None, is_some}
use Rattle.std.specs.List.{AllByRecursion, count_by}
use Rattle.board_layout.specs.declared.shape.CellShape.{CellShape}
use Rattle.board_cell_model.specs.declared.access.Access.{Access}
use Rattle.board_model.specs.declared.tables.Board.{Board}
use Rattle.board_model.specs.declared.tables.Entry.{Entry}
use Rattle.board_model.specs.declared.tables.Kind.{Kind}
use Rattle.board_model.specs.declared.tables.Kind.TheVariants as kind
use Rattle.board_model.specs.declared.tables.ThingKind.{ThingKind}
use Rattle.board_model.specs.declared.tables.ThingKind.TheVariants as thing_kind
use Rattle.board_model.specs.declared.value.Key.{Key}
use Rattle.board_model.specs.declared.value.KeyType.{KeyType}
use Rattle.board_model.specs.declared.value.ValueType.{ValueType}
use Rattle.board_layout.specs.Layout.{cell_end, cell_shape}
use Rattle.board_cell_model.specs.OwedAccesses.{Reading, finished, opening, trying, current_at, spare_at}
use Rattle.board_model.specs.TypeTable.{key_detail, value_detail, value_words, word_count}
use Rattle.board_model.specs.Tables.{Tables, board_at, entry_at, entry_of, has_name, is_numbered, is_write_handle, kind_of}
use Rattle.board_model.specs.Things.{Held, Standing, thing_of}
use Rattle.board_model.specs.Requests.{Fetch, Lending, Look, Published, Request, TableCall, create, info, entry, entry_mut, fill, fresh, get, discard, id, open_, loan, keys, nodes, publish, put, reader, table, gen, update, writer}
use Rattle.board_model.specs.Replies.{latest, word_put}
use Rattle.board_model.specs.Parties.{Party, Running, free, gone, reading, running}
use Rattle.board_model.specs.LawfulSession.{State, is_typed_key}

-- ---- boards, words and lists

-- the words from one on begin with these
abbrev pub Stands : List ℕ → ℕ → List ℕ → Type 0
Stands words at these = (k : ℕ) → k < length these → slice_index words (at + k) ≡ slice_index these k

-- a cell among the words of its board, and the lists that were published in it
pub record IsCell (words : List ℕ) (c : CellShape) (list : List (List ℕ)) : Type 0 where
  pub inside : cell_end c ≤ length words
  pub head : 0 < c.head
  pub some : 0 < length list
  -- the counter is the length of the list, and the current copy is its last item
  pub counter : slice_index words c.first ≡ length list
  pub size : length (latest list) ≡ c.words
  pub current : Stands words (current_at c (length list)) (latest list)

-- an entry has values of one of the value types, and as many words
pub record IsTyped (e : Entry) : Type 0 where
  pub type : ValueType
  pub detail : e.value ≡ value_detail type
  pub words : e.cell.words ≡ word_count type

-- the tables of a script, where parties hold things under texts
abbrev pub BoardTables : Type 0
BoardTables = Tables (List ℕ) (List ℕ)

-- what holds of the boards, of their words and of what was published
pub record AreBoards (t : BoardTables) (memory : ℕ → List ℕ) (published : Published) : Type 0 where
  -- a board that stands has a number of its own that was drawn, and a key type
  pub numbered : (n : ℕ) (b : Board) → board_at t n ≡ Some b → n ≤ t.last_board
  pub single : (n : ℕ) → count_by (is_numbered n) t.boards ≤ 1
  -- and a name of its own
  pub named : (name : List ℕ) → count_by (has_name name) t.boards ≤ 1
  pub keyed : (n : ℕ) (b : Board) → board_at t n ≡ Some b → (k : KeyType) × (b.key ≡ key_detail k)
  -- what wasn't drawn has no list
  pub unused : (n i : ℕ) → t.last_board < n → published n i ≡ []
  -- each entry has its cell, and the cells of a board lie one after another
  pub typed : (n i : ℕ) (e : Entry) → entry_at t n i ≡ Some e → IsTyped e
  pub cells : (n i : ℕ) (e : Entry) → entry_at t n i ≡ Some e → IsCell (memory n) (cell_shape e.cell) (published n i)
  pub apart : (n i j : ℕ) (e f : Entry) → entry_at t n i ≡ Some e → entry_at t n j ≡ Some f → i < j → cell_end (cell_shape e.cell) ≤ f.cell.first
  -- an entry id is the byte at which the cell's first word begins
  pub placed : (n i : ℕ) (e : Entry) → entry_at t n i ≡ Some e → e.cell.place ≡ 8 * e.cell.first
  -- the words of a board are few
  pub short : (n i : ℕ) (e : Entry) → entry_at t n i ≡ Some e → 8 * length (memory n) ≤ 4294967295

-- ---- things

-- each word that was put stands there
abbrev pub IsPut : List ℕ → ℕ → List (Option ℕ) → Type 0
IsPut words at put_words = (k v : ℕ) → slice_get put_words k ≡ Some (Some v) → slice_index words (at + k) ≡ v

-- the words that were put in a loan of an entry stand in the spare copy
pub record IsLent (words : List ℕ) (c : CellShape) (g : ℕ) (put_words : List (Option ℕ)) : Type 0 where
  pub size : length put_words ≡ c.words
  pub stands : IsPut words (spare_at c g) put_words

-- the call fills a loan of this entry
abbrev pub is_filling : Request → ℕ → ℕ → Bool
is_filling (fill l v) b i = (l.board == b) && (l.entry == i)
is_filling q b i = false

-- the words of a loan are not kept while its party is gone, or fills it
abbrev pub is_suspended : Party → ℕ → ℕ → Bool
is_suspended free b i = false
is_suspended (running r) b i = is_filling r.request b i
is_suspended gone b i = true

-- a loan: it is a write handle of its party, and the words that were put stand
pub record IsLoan (t : BoardTables) (memory : ℕ → List ℕ) (published : Published) (parties : List ℕ → Party) (party name : List ℕ) (put_words : List (Option ℕ)) : Type 0 where
  pub thing : Held
  pub found : thing_of t.things party name ≡ Some thing
  pub writes : is_write_handle thing.board (entry_of thing.kind) thing ≡ true
  pub put : (e : Entry) → entry_at t thing.board (entry_of thing.kind) ≡ Some e → is_suspended (parties party) thing.board (entry_of thing.kind) ≡ false
      → IsLent (memory thing.board) (cell_shape e.cell) (length (published thing.board (entry_of thing.kind))) put_words

-- the board of a thing stands
abbrev pub HasBoard : BoardTables → Held → Type 0
HasBoard t x = is_some (board_at t x.board) ≡ true

-- and so does the entry of a handle
abbrev pub HasEntryAt : BoardTables → ℕ → Kind → Type 0
HasEntryAt t board kind.Factory = Unit {0}
HasEntryAt t board (kind.Reader port) = Unit {0}
HasEntryAt t board (kind.Writer port) = Unit {0}
HasEntryAt t board (kind.ReadHandle i) = is_some (entry_at t board i) ≡ true
HasEntryAt t board (kind.WriteHandle i port) = is_some (entry_at t board i) ≡ true

-- if the thing is a handle, its entry stands
abbrev pub HasEntry : BoardTables → Held → Type 0
HasEntry t x = HasEntryAt t x.board x.kind

-- what holds of the things of boards, and of the loans among them
pub record AreThings (s : Standing) (memory : ℕ → List ℕ) (published : Published) (parties : List ℕ → Party) : Type 0 where
  -- at most one write handle or loan of an entry is a thing
  pub handles : (n i : ℕ) → count_by (is_write_handle n i) s.tables.things ≤ 1
  pub standing : AllByRecursion (HasBoard s.tables) s.tables.things
  pub entries : AllByRecursion (HasEntry s.tables) s.tables.things
  pub loans : (party name : List ℕ) (put_words : List (Option ℕ)) → s.loans party name ≡ Some put_words → IsLoan s.tables memory published parties party name put_words

-- ---- running calls

-- the entry of a standing board, and its cell
pub record IsEntryOf (t : BoardTables) (board i : ℕ) (c : CellShape) : Type 0 where
  pub entry : Entry
  pub found : entry_at t board i ≡ Some entry
  pub shape : c ≡ cell_shape entry.cell

-- the party holds a thing of the board under a name
pub record IsOfBoard (t : BoardTables) (party name : List ℕ) (board : ℕ) : Type 0 where
  pub thing : Held
  pub found : thing_of t.things party name ≡ Some thing
  pub is_of : thing.board ≡ board

-- the party holds the write handle of an entry under a name: as a loan, or not
pub record IsHolding (s : Standing) (party name : List ℕ) (b i : ℕ) (is_loan : Bool) : Type 0 where
  pub thing : Held
  pub found : thing_of s.tables.things party name ≡ Some thing
  pub writes : is_write_handle b i thing ≡ true
  pub lent : is_some (s.loans party name) ≡ is_loan

-- a call that may write the entry, at its generation
pub record IsWriting (s : State) (party name : List ℕ) (b i : ℕ) (c : CellShape) (g : ℕ) (is_loan : Bool) : Type 0 where
  pub place : IsEntryOf s.standing.tables b i c
  pub hold : IsHolding s.standing party name b i is_loan
  pub generation : g ≡ length (s.published b i)

-- a publication of these words, the first k of which stand in the spare copy
pub record IsPublishing (s : State) (party name : List ℕ) (b i : ℕ) (c : CellShape) (g : ℕ) (words : List ℕ) (k : ℕ) (is_loan : Bool) : Type 0 where
  pub writes : IsWriting s party name b i c g is_loan
  pub size : length words ≡ c.words
  pub steps : k ≤ c.words
  pub written : Stands (s.memory b) (spare_at c g) (take k words)

-- an open try at counter c with the words read, after n steps and p writes of the counter
pub record IsTrying (list : List (List ℕ)) (w n p c : ℕ) (words : List ℕ) : Type 0 where
  pub below : c ≤ length list
  pub size : length words ≤ w
  -- while the counter is c, they are the first words of the last item
  pub same : c ≡ length list → words ≡ take (length words) (latest list)
  pub least : 1 + length words ≤ n
  pub most : n + (length list - c) * (w + 1) ≤ 1 + p * (w + 1) + length words

-- a get that still runs: it has read nothing, or is in an open try
abbrev pub IsReading : List (List ℕ) → ℕ → ℕ → ℕ → Reading → Type 0
IsReading list w n p opening = n ≡ 0
IsReading list w n p (trying c words) = IsTrying list w n p c words
IsReading list w n p (finished c words) = ⊥

-- a get that has taken these accesses and passed p writes of its counter
pub record IsGetting (s : State) (party : List ℕ) (f : Fetch) (so_far : List Access) (p : ℕ) : Type 0 where
  pub place : IsEntryOf s.standing.tables f.board f.entry f.shape
  pub hold : IsOfBoard s.standing.tables party f.handle f.board
  pub try : IsReading (s.published f.board f.entry) f.shape.words (length so_far) p (reading f.shape.words so_far)

-- a running look: its entry stands, and the party still holds something of the board
pub record IsLooking (s : State) (party : List ℕ) (l : Look) : Type 0 where
  pub place : IsEntryOf s.standing.tables l.board l.entry l.shape
  pub hold : IsOfBoard s.standing.tables party l.handle l.board

-- a call on the loan or handle under this name
abbrev pub IsLending : State → List ℕ → Lending → List ℕ → Bool → Type 0
IsLending s party l name is_loan = IsWriting s party name l.board l.entry l.shape l.generation is_loan

-- a word that is put into a loan, which has the words of the call
pub record IsPutting (s : State) (party : List ℕ) (l : Lending) (i : ℕ) : Type 0 where
  pub writes : IsLending s party l l.loan true
  pub below : i < l.shape.words
  pub words : s.standing.loans party l.loan ≡ Some l.words
  pub lent : IsLent (s.memory l.board) l.shape l.generation l.words

-- no thing of a board stands under the name
abbrev pub IsFree : Standing → List ℕ → List ℕ → Type 0
IsFree s party name = thing_of s.tables.things party name ≡ None

-- the party holds this thing, of this kind
pub record IsHeldThing (s : Standing) (party : List ℕ) (k : ThingKind) (x : Held) : Type 0 where
  pub found : thing_of s.tables.things party x.name ≡ Some x
  pub kind : kind_of x.kind ≡ k

-- the key is of the type of the keys of the thing's board
abbrev pub IsTypedKey : Standing → Held → Key → Type 0
IsTypedKey s x k = is_typed_key (board_at s.tables x.board) k ≡ true

-- what a call on the tables uses is still held, the name for what it makes is free, and its key is typed
abbrev pub IsTableCall : State → List ℕ → TableCall → Type 0
IsTableCall s party (create f name k limits attributes entries) = IsFree s.standing party f
IsTableCall s party (open_ f name k limits needs) = IsFree s.standing party f
IsTableCall s party (reader name x) = IsFree s.standing party name × IsHeldThing s.standing party thing_kind.Factory x
IsTableCall s party (writer name x) = IsFree s.standing party name × IsHeldThing s.standing party thing_kind.Factory x
IsTableCall s party (entry name x k type) = IsFree s.standing party name × IsHeldThing s.standing party thing_kind.Reader x × IsTypedKey s.standing x k
IsTableCall s party (entry_mut name x k type) = IsFree s.standing party name × IsHeldThing s.standing party thing_kind.Writer x × IsTypedKey s.standing x k
IsTableCall s party (loan l) = IsFree s.standing party l.loan × IsLending s party l l.handle false
IsTableCall s party (discard l) = IsFree s.standing party l.handle × IsLending s party l l.loan true
IsTableCall s party (keys x) = IsHeldThing s.standing party thing_kind.Factory x
IsTableCall s party (nodes x) = IsHeldThing s.standing party thing_kind.Factory x
IsTableCall s party (info x) = IsHeldThing s.standing party thing_kind.Factory x
IsTableCall s party (id x) = IsOfBoard s.standing.tables party x.name x.board
IsTableCall s party (gen x) = IsHeldThing s.standing party thing_kind.WriteHandle x

-- what holds of a running call
abbrev pub IsCalling : State → List ℕ → Running → Request → Type 0
IsCalling s party r (table c) = (length r.so_far ≡ 0) × IsTableCall s party c
IsCalling s party r (get f) = IsGetting s party f r.so_far r.passed
IsCalling s party r (fresh l) = (length r.so_far ≡ 0) × IsLooking s party l
IsCalling s party r (update u) = IsPublishing s party u.handle u.board u.entry u.shape u.generation (value_words u.value) (length r.so_far) false
IsCalling s party r (put l i w) = (length r.so_far ≡ 0) × IsPutting s party l i
IsCalling s party r (publish l) = (length r.so_far ≡ 0) × IsFree s.standing party l.handle × IsPublishing s party l.loan l.board l.entry l.shape l.generation (map word_put l.words) l.shape.words true
IsCalling s party r (fill l v) = IsFree s.standing party l.handle × IsPublishing s party l.loan l.board l.entry l.shape l.generation (value_words v) (length r.so_far) true

-- what holds of a party: only a call that runs says something
abbrev pub IsParty : State → List ℕ → Party → Type 0
IsParty s party free = Unit {0}
IsParty s party (running r) = IsCalling s party r r.request
IsParty s party gone = Unit {0}

-- a state whose boards, things and running calls all fit together
pub record Sound (s : State) : Type 0 where
  pub boards : AreBoards s.standing.tables s.memory s.published
  pub things : AreThings s.standing s.memory s.published s.parties
  pub parties : (p : List ℕ) → IsParty s p (s.parties p)
