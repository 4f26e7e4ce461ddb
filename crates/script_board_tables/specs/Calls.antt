-- Which request of the definitions a call of a checker is, and how far it is.
use Rattle.std.specs.Prelude.{◌≡◌, ℕ, true, List, [], length, Option, Some, None, option_map, ⊤}
use Rattle.board_layout.specs.declared.type_detail.TypeDetail.{TypeDetail}
use Rattle.board_cell_model.specs.declared.access.Access.{Access}
use Rattle.board_model.specs.declared.value.Value.{Value}
use Rattle.board_model.specs.declared.value.ValueType.{ValueType}
use Rattle.board_model.specs.declared.line.Call.{Call}
use Rattle.board_model.specs.TypeTable.{value_detail, value_type_of, value_words}
use Rattle.board_model.specs.declared.value.Key.{Key}
use Rattle.board_model.specs.Replies.{keeps_key}
use Rattle.board_model.specs.Things.{Held, Standing}
use Rattle.board_model.specs.Requests as requests
use Rattle.board_model.specs.Requests.{Lending, Published, Request, TableCall, and_then, handled, loan_of, request_of}
use Rattle.board_model.specs.Tables.{board_at, entry_found, entry_of}
use Rattle.board_model.specs.declared.tables.Entry.{Entry}
use Rattle.board_layout.specs.Layout.{cell_shape}
use Rattle.board_model.specs.Parties.{reading}
use Rattle.board_model.specs.LawfulSession.{is_filled, is_indexed, is_typed}
use Rattle.script_board_rows.specs.CellCalls.{kept_of}
use Rattle.script_board_tables.specs.declared.calls.TableCall as declared
use Rattle.script_board_tables.specs.declared.calls.TableCall.TheVariants as table_call
use Rattle.script_board_tables.specs.declared.calls.Fetch.{Fetch}
use Rattle.script_board_tables.specs.declared.calls.Look.{Look}
use Rattle.script_board_tables.specs.declared.calls.Publishing.{Publishing}
use Rattle.script_board_tables.specs.declared.calls.Lent.{Lent}
use Rattle.script_board_tables.specs.declared.calls.BoardCall.{BoardCall}
use Rattle.script_board_tables.specs.declared.calls.BoardCall.TheVariants as call
use Rattle.script_board_tables.specs.declared.requests.Found.{Found}
use Rattle.script_board_tables.specs.declared.tables.BoardTables.{BoardTables}
use Rattle.script_board_tables.specs.Tables.{published_of, standing_of, tables_of}

-- ---- requests

-- a call on the tables
abbrev pub table_in : declared.TableCall → TableCall
table_in (table_call.Create f name k limits attributes entries) = requests.create f name k limits attributes entries
table_in (table_call.Open f name k limits needs) = requests.open_ f name k limits needs
table_in (table_call.Reader name x) = requests.reader name x
table_in (table_call.Writer name x) = requests.writer name x
table_in (table_call.Entry name x k type) = requests.entry name x k type
table_in (table_call.EntryMut name x k type) = requests.entry_mut name x k type
table_in (table_call.Keys x) = requests.keys x
table_in (table_call.Nodes x) = requests.nodes x
table_in (table_call.Info x) = requests.info x
table_in (table_call.Id x) = requests.id x
table_in (table_call.Gen x) = requests.gen x

-- a loan, whose entry has values of this type
abbrev pub lending : TypeDetail → Lent → Lending
lending type l = record { board = l.board; entry = l.entry; shape = l.shape; type = type; generation = l.generation; loan = l.loan; handle = l.handle; words = l.words }

-- a loan of a thing at an entry, as a checker keeps it
abbrev pub lent_of : Published → Held → Entry → List ℕ → List ℕ → List (Option ℕ) → Lent
lent_of lists t e loan handle words = record { board = t.board; entry = entry_of t.kind; shape = cell_shape e.cell; generation = length (lists t.board (entry_of t.kind)); loan = loan; handle = handle; words = words }

-- a loan of a party with its words and its entry, looked up
abbrev pub lent_found : Standing → Published → List ℕ → List ℕ → List ℕ → Option (Lent × TypeDetail)
lent_found s lists party loan handle = and_then (loan_of s party loan) (λ x. and_then (handled s x.0) (λ e. Some (lent_of lists x.0 e loan handle x.1, e.value)))

-- a request for a get, through some handle of values of some type
pub record IsGet (f : Fetch) (q : Request) : Type 0 where
  pub type : TypeDetail
  pub handle : List ℕ
  pub type_is : f.value_type ≡ value_type_of type
  pub request : q ≡ requests.get (record { board = f.board; entry = f.entry; shape = f.shape; type = type; handle = handle; name = f.value })

-- a request for a look
pub record IsLook (l : Look) (q : Request) : Type 0 where
  pub type : TypeDetail
  pub handle : List ℕ
  pub kept : ValueType
  pub request : q ≡ requests.fresh (record { board = l.board; entry = l.entry; shape = l.shape; type = type; handle = handle; kept = kept; generation = l.generation })

-- a request for an update
pub record IsUpdate (p : Publishing) (q : Request) : Type 0 where
  pub type : TypeDetail
  pub handle : List ℕ
  pub value : Value
  pub words : p.words ≡ value_words value
  pub request : q ≡ requests.update (record { board = p.board; entry = p.entry; shape = p.shape; type = type; handle = handle; generation = p.generation; value = value })

-- a request that a loan is filled with a value
pub record IsFill (p : Publishing) (loan handle : List ℕ) (q : Request) : Type 0 where
  pub type : TypeDetail
  pub put_words : List (Option ℕ)
  pub value : Value
  pub words : p.words ≡ value_words value
  pub request : q ≡ requests.fill (record { board = p.board; entry = p.entry; shape = p.shape; type = type; generation = p.generation; loan = loan; handle = handle; words = put_words }) value

-- a request on a loan
pub record IsOfLoan (make : Lending → Request) (l : Lent) (q : Request) : Type 0 where
  pub type : TypeDetail
  pub request : q ≡ make (lending type l)

-- the call is the request
abbrev pub IsFor : BoardCall → Request → Type 0
IsFor (call.Table t) q = q ≡ requests.table (table_in t)
IsFor (call.Loan l) q = IsOfLoan (λ x. requests.table (requests.loan x)) l q
IsFor (call.Discard l) q = IsOfLoan (λ x. requests.table (requests.discard x)) l q
IsFor (call.Get f r) q = IsGet f q
IsFor (call.Fresh l) q = IsLook l q
IsFor (call.Update p) q = IsUpdate p q
IsFor (call.Put l i w) q = IsOfLoan (λ x. requests.put x i w) l q
IsFor (call.Publish l) q = IsOfLoan requests.publish l q
IsFor (call.Fill p loan handle) q = IsFill p loan handle q

-- and it is so far after these accesses
abbrev pub HasCome : BoardCall → List Access → Type 0
HasCome (call.Get f r) so_far = kept_of (reading f.shape.words so_far) ≡ Some r
HasCome (call.Update p) so_far = p.written ≡ length so_far
HasCome (call.Fill p loan handle) so_far = p.written ≡ length so_far
HasCome c so_far = length so_far ≡ 0

-- ---- what was found

-- a call of which nothing else is to hold
abbrev pub plain_of : BoardCall → Found
plain_of c = record { call = c; typed = true; indexed = true; filled = true }

-- a call that uses only what is held, and what else is to hold of it
pub record IsFoundFor (s : Standing) (f : Found) (q : Request) : Type 0 where
  pub request : IsFor f.call q
  pub come : HasCome f.call []
  pub typed : f.typed ≡ is_typed s q
  pub indexed : f.indexed ≡ is_indexed q
  pub filled : f.filled ≡ is_filled q

-- what was found is the request, and nothing was where there is none
abbrev pub IsFound : Standing → Option Found → Option Request → Type 0
IsFound s None None = ⊤
IsFound s (Some f) (Some q) = IsFoundFor s f q
IsFound s None (Some q) = ⊥
IsFound s (Some f) None = ⊥

-- so it was for the call of a party
abbrev pub Finds : BoardTables → List ℕ → Call → Option Found → Type 0
Finds t party c found = IsFound (standing_of t) found (request_of (standing_of t) (published_of t) party c)

-- the place and the id of an entry that was found
abbrev pub place_and_id : (ℕ × Entry) → ℕ × ℕ
place_and_id found = (found.0, found.1.cell.place)

-- the entry of a board with a key and a value type is at this place and has this id
abbrev pub IsEntryFound : BoardTables → ℕ → Key → ValueType → ℕ × ℕ → Type 0
IsEntryFound t board k type found = option_map place_and_id (entry_found (board_at (tables_of t) board) (keeps_key k) (value_detail type)) ≡ Some found
