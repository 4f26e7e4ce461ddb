-- Calls of a script, with the things that they use found.
use Rattle.std.specs.Prelude.{ℕ, if◌then◌else◌, List, length, Option, Some, None, is_some, []}
use Rattle.board_layout.specs.declared.shape.CellShape.{CellShape}
use Rattle.board_layout.specs.declared.type_detail.TypeDetail.{TypeDetail}
use Rattle.board_model.specs.declared.attributes.Attribute.{Attribute}
use Rattle.board_model.specs.declared.attributes.Requirements.{Requirements}
use Rattle.board_model.specs.declared.tables.Entry.{Entry}
use Rattle.board_model.specs.declared.tables.Limits.{Limits}
use Rattle.board_model.specs.declared.tables.NewLimits.{NewLimits}
use Rattle.board_model.specs.declared.tables.ThingKind.TheVariants as thing_kind
use Rattle.board_model.specs.declared.value.AddedEntry.{AddedEntry}
use Rattle.board_model.specs.declared.value.Key.{Key}
use Rattle.board_model.specs.declared.value.KeyType.{KeyType}
use Rattle.board_model.specs.declared.value.Value.{Value}
use Rattle.board_model.specs.declared.value.ValueType.{ValueType}
use Rattle.board_model.specs.declared.line.Call.{Call}
use Rattle.board_model.specs.declared.line.Call.TheVariants as call
use Rattle.board_model.specs.Tables.{entry_at, entry_of}
use Rattle.board_model.specs.Things.{Held, Standing, held_of_kind}
use Rattle.board_layout.specs.Layout.{cell_shape}

-- the word lists that were published under a board number and the place of an entry, the first value first
abbrev pub Published : Type 0
Published = ℕ → ℕ → List (List ℕ)

-- a read of an entry through a handle, and the name for the value read
pub record Fetch : Type 0 where
  pub board : ℕ
  pub entry : ℕ
  pub shape : CellShape
  pub type : TypeDetail
  pub handle : List ℕ
  pub name : Option (List ℕ)

-- a look whether a value that was kept is still the entry's last one
pub record Look : Type 0 where
  pub board : ℕ
  pub entry : ℕ
  pub shape : CellShape
  pub type : TypeDetail
  pub handle : List ℕ
  pub kept : ValueType
  pub generation : ℕ

-- an update of an entry through a handle, at the length of the entry's list
pub record Publication : Type 0 where
  pub board : ℕ
  pub entry : ℕ
  pub shape : CellShape
  pub type : TypeDetail
  pub handle : List ℕ
  pub generation : ℕ
  pub value : Value

-- a call on a loan, or one that makes or ends it: the names as loan and as handle, and the words that were put
pub record Lending : Type 0 where
  pub board : ℕ
  pub entry : ℕ
  pub shape : CellShape
  pub type : TypeDetail
  pub generation : ℕ
  pub loan : List ℕ
  pub handle : List ℕ
  pub words : List (Option ℕ)

-- a call on the tables, which is one step
pub data TableCall : Type 0 where
  create : (factory name : List ℕ) (key_type : KeyType) (limits : NewLimits) (attributes : List Attribute) (entries : List AddedEntry) → TableCall
  open_ : (factory name : List ℕ) (key_type : KeyType) (limits : Limits) (needs : Requirements) → TableCall
  reader : (reader : List ℕ) (factory : Held) → TableCall
  writer : (writer : List ℕ) (factory : Held) → TableCall
  entry : (handle : List ℕ) (reader : Held) (key : Key) (value_type : ValueType) → TableCall
  entry_mut : (handle : List ℕ) (writer : Held) (key : Key) (value_type : ValueType) → TableCall
  loan : Lending → TableCall
  discard : Lending → TableCall
  keys : (factory : Held) → TableCall
  nodes : (factory : Held) → TableCall
  info : (factory : Held) → TableCall
  id : (thing : Held) → TableCall
  gen : (handle : Held) → TableCall

-- a call that can run: one step on the tables, or accesses to an entry
pub data Request : Type 0 where
  table : TableCall → Request
  get : Fetch → Request
  fresh : Look → Request
  update : Publication → Request
  put : Lending → (index word : ℕ) → Request
  publish : Lending → Request
  fill : Lending → Value → Request

-- ---- finding what a call uses

-- the search goes on from what was found, and ends where nothing was
abbrev pub and_then : {A B : Type 0} → Option A → (A → Option B) → Option B
and_then None f = None
and_then (Some x) f = f x

-- a write handle that isn't lent
abbrev pub handle_of : Standing → List ℕ → List ℕ → Option Held
handle_of s party name = if is_some (s.loans party name) then None else held_of_kind s thing_kind.WriteHandle party name

-- a loan's thing, and its words
abbrev pub loan_of : Standing → List ℕ → List ℕ → Option (Held × List (Option ℕ))
loan_of s party name = and_then (held_of_kind s thing_kind.WriteHandle party name) (λ t. and_then (s.loans party name) (λ words. Some (t, words)))

-- a reader or writer, a read handle, or a write handle that isn't lent
abbrev pub identified : Standing → List ℕ → List ℕ → Option Held
identified s party name =
    if is_some (held_of_kind s thing_kind.Reader party name) then held_of_kind s thing_kind.Reader party name else
    if is_some (held_of_kind s thing_kind.Writer party name) then held_of_kind s thing_kind.Writer party name else
    if is_some (held_of_kind s thing_kind.ReadHandle party name) then held_of_kind s thing_kind.ReadHandle party name else
    handle_of s party name

-- the entry of a handle
abbrev pub handled : Standing → Held → Option Entry
handled s t = entry_at s.tables t.board (entry_of t.kind)

-- a call that makes, uses or ends a loan, with its entry looked up
abbrev pub lending : Standing → Published → List ℕ → List ℕ → Held → List (Option ℕ) → (Lending → Request) → Option Request
lending s lists l m t words make = and_then (handled s t) (λ e. Some (make (record {
  board = t.board;
  entry = entry_of t.kind;
  shape = cell_shape e.cell;
  type = e.value;
  generation = length (lists t.board (entry_of t.kind));
  loan = l;
  handle = m;
  words = words;
})))

-- the call with its things found; none where one of them isn't held, or is of another kind
abbrev pub request_of : Standing → Published → List ℕ → Call → Option Request
request_of s lists party (call.Create f name k limits attributes entries) = Some (table (create f name k limits attributes entries))
request_of s lists party (call.Open f name k limits needs) = Some (table (open_ f name k limits needs))
request_of s lists party (call.Reader r f) = and_then (held_of_kind s thing_kind.Factory party f) (λ t. Some (table (reader r t)))
request_of s lists party (call.Writer w f) = and_then (held_of_kind s thing_kind.Factory party f) (λ t. Some (table (writer w t)))
request_of s lists party (call.Entry h r k type) = and_then (held_of_kind s thing_kind.Reader party r) (λ t. Some (table (entry h t k type)))
request_of s lists party (call.EntryMut m w k type) = and_then (held_of_kind s thing_kind.Writer party w) (λ t. Some (table (entry_mut m t k type)))
request_of s lists party (call.Get h v) =
    and_then (held_of_kind s thing_kind.ReadHandle party h) (λ t. and_then (handled s t) (λ e.
    Some (get (record { board = t.board; entry = entry_of t.kind; shape = cell_shape e.cell; type = e.value; handle = h; name = v }))))
request_of s lists party (call.Fresh h v) =
    and_then (held_of_kind s thing_kind.ReadHandle party h) (λ t. and_then (handled s t) (λ e. and_then (s.values party v) (λ k.
    Some (fresh (record { board = t.board; entry = entry_of t.kind; shape = cell_shape e.cell; type = e.value; handle = h; kept = k.type; generation = k.generation })))))
request_of s lists party (call.Update m v) =
    and_then (handle_of s party m) (λ t. and_then (handled s t) (λ e.
    Some (update (record { board = t.board; entry = entry_of t.kind; shape = cell_shape e.cell; type = e.value; handle = m; generation = length (lists t.board (entry_of t.kind)); value = v }))))
request_of s lists party (call.Loan l m) = and_then (handle_of s party m) (λ t. lending s lists l m t [] (λ x. table (loan x)))
request_of s lists party (call.Discard l m) = and_then (loan_of s party l) (λ x. lending s lists l m x.0 x.1 (λ y. table (discard y)))
request_of s lists party (call.Put l i w) = and_then (loan_of s party l) (λ x. lending s lists l l x.0 x.1 (λ y. put y i w))
request_of s lists party (call.Publish l m) = and_then (loan_of s party l) (λ x. lending s lists l m x.0 x.1 (λ y. publish y))
request_of s lists party (call.Fill l m v) = and_then (loan_of s party l) (λ x. lending s lists l m x.0 x.1 (λ y. fill y v))
request_of s lists party (call.Keys f) = and_then (held_of_kind s thing_kind.Factory party f) (λ t. Some (table (keys t)))
request_of s lists party (call.Nodes f) = and_then (held_of_kind s thing_kind.Factory party f) (λ t. Some (table (nodes t)))
request_of s lists party (call.Info f) = and_then (held_of_kind s thing_kind.Factory party f) (λ t. Some (table (info t)))
request_of s lists party (call.Id n) = and_then (identified s party n) (λ t. Some (table (id t)))
request_of s lists party (call.Gen m) = and_then (handle_of s party m) (λ t. Some (table (gen t)))

-- the name of the thing that a call makes
abbrev pub new_name : Call → Option (List ℕ)
new_name (call.Create f name k limits attributes entries) = Some f
new_name (call.Open f name k limits needs) = Some f
new_name (call.Reader r f) = Some r
new_name (call.Writer w f) = Some w
new_name (call.Entry h r k type) = Some h
new_name (call.EntryMut m w k type) = Some m
new_name (call.Get h v) = v
new_name (call.Loan l m) = Some l
new_name (call.Discard l m) = Some m
new_name (call.Publish l m) = Some m
new_name (call.Fill l m v) = Some m
new_name c = None
