-- What a call is told that is refused, and that a core's refusal is that of the definitions.
use Rattle.std.proofs.Common.{arith, ◌≡◌, ◌==◌, ℕ, ◌+◌, ◌||◌, Bool, List, [], ◌∷◌, length, refl, Option, Some, sym, ap, ◌∙◌, subst}
use Rattle.std.specs.Prelude.{nat_eq, OnErr, Result, Ok, Err}
use Rattle.std.specs.List.{list_any}
use Rattle.board_layout.specs.declared.type_detail.TypeDetail.{TypeDetail}
use Rattle.board_model.specs.declared.answer.Reply.TheVariants as reply
use Rattle.board_model.specs.declared.attributes.Attribute.{Attribute}
use Rattle.board_model.specs.declared.attributes.Requirements.{Requirements}
use Rattle.board_model.specs.declared.tables.Board.{Board}
use Rattle.board_model.specs.declared.tables.Limits.{Limits}
use Rattle.board_model.specs.declared.tables.NewLimits.{NewLimits}
use Rattle.board_model.specs.declared.value.AddedEntry.{AddedEntry}
use Rattle.board_model.specs.declared.value.Key.{Key}
use Rattle.board_model.specs.declared.value.KeyType.{KeyType}
use Rattle.board_model.specs.declared.value.ValueType.{ValueType}
use Rattle.board_names.specs.declared.errors.boards.BlackboardCreateError.{BlackboardCreateError}
use Rattle.board_names.specs.declared.errors.boards.BlackboardCreateError.TheVariants as create_error
use Rattle.board_names.specs.declared.errors.boards.BlackboardOpenError.{BlackboardOpenError}
use Rattle.board_names.specs.declared.errors.boards.BlackboardOpenError.TheVariants as open_error
use Rattle.board_names.specs.declared.errors.boards.ReaderCreateError.{ReaderCreateError}
use Rattle.board_names.specs.declared.errors.boards.ReaderCreateError.TheVariants as reader_error
use Rattle.board_names.specs.declared.errors.boards.WriterCreateError.{WriterCreateError}
use Rattle.board_names.specs.declared.errors.boards.WriterCreateError.TheVariants as writer_error
use Rattle.board_names.specs.declared.errors.boards.EntryHandleError.{EntryHandleError}
use Rattle.board_names.specs.declared.errors.boards.EntryHandleError.TheVariants as entry_error
use Rattle.board_names.specs.declared.errors.boards.EntryHandleMutError.{EntryHandleMutError}
use Rattle.board_names.specs.declared.errors.boards.EntryHandleMutError.TheVariants as entry_mut_error
use Rattle.board_model.specs.Replies.{keeps_key}
use Rattle.board_model.specs.TableCalls.{create_refusals, created, entry_mut_refusals, entry_refusals, first_of, id_of, is_corrupted, joined, number_of, open_refusals, reader_refusals, with_read_handle, with_reader, with_write_handle, with_writer, writer_refusals}
use Rattle.board_model.specs.Tables.{board_at, board_named, has_name}
use Rattle.board_model.specs.Things.{Held}
use Rattle.board_model.specs.TypeTable.{key_detail, value_detail}
use Rattle.board_service.specs.Domain.{Domain, entry_list, entry_mut_list, held, open_list, reader_list, spent, writer_list}
use Rattle.script_parties.specs.Keyed.{entry_sought}
use Rattle.script_parties.specs.Named.{IsNamed, node_number, nodes_with, things_of}
use Rattle.script_parties.specs.Parties.{IsCreate, IsEntry, IsEntryMut, IsFew, IsOpen, IsReader, IsWriter, Parties}
use Rattle.script_parties.specs.Refusals.{added, create_refusal, entry_mut_refusal, entry_refusal, entry_wanted, open_refusal, reader_refusal, writer_refusal}
use Rattle.script_parties.proofs.Asked.{told_refused, unspent}
use Rattle.script_parties.proofs.Growth.{named_with, node_of, same_things}
use Rattle.script_parties.proofs.Handles.{found_for, found_same, handle_tests}
use Rattle.script_parties.proofs.Openings.{factories_refused, refusal_told, tables_before}
use Rattle.script_parties.proofs.Places.{IsThing}
use Rattle.script_parties.proofs.Ports.{few_left, one_left, reader_tests, shown, writer_tests}

pub create_refused : (p : Parties) (party factory name : List ℕ) (k : KeyType) (limits : NewLimits) (attributes : List Attribute) (entries : List AddedEntry) (why : BlackboardCreateError)
    → create_refusal p name k entries ≡ Some why → IsCreate p p party factory name k limits attributes entries (reply.CreateError why)
create_refused p party factory name k limits attributes entries why e =
    let t = p.tables in
    let after = created t party factory name (key_detail k) limits attributes (added entries) in
    record {
      told_is = refusal_told (λ e. reply.CreateError e) (create_refusal p name k entries) (t.last_board + 1) after t why e;
      tables = tables_before (create_refusal p name k entries) (t.last_board + 1) after t why e;
      words = refl;
      drawn = omega arith;
    }

pub open_refused : (p : Parties) (party factory name : List ℕ) (k : KeyType) (limits : Limits) (needs : Requirements) (why : BlackboardOpenError)
    → open_refusal p party name k limits needs ≡ Some why → IsOpen p p party factory name k limits needs (reply.OpenError why)
open_refused p party factory name k limits needs why e =
    let b = board_named p.tables name in
    told_refused p (λ e. reply.OpenError e) (open_refusal p party name k limits needs) (number_of b) (joined p.tables party factory b) why e

pub reader_refused : (p : Parties) (x : Held) (name : List ℕ) (why : ReaderCreateError) → reader_refusal p x ≡ Some why → IsReader p p name x (reply.ReaderError why)
reader_refused p x name why e =
    told_refused p (λ e. reply.ReaderError e) (reader_refusal p x) (p.tables.last_port + 1) (with_reader p.tables x name) why e

pub writer_refused : (p : Parties) (x : Held) (name : List ℕ) (why : WriterCreateError) → writer_refusal p x ≡ Some why → IsWriter p p name x (reply.WriterError why)
writer_refused p x name why e =
    told_refused p (λ e. reply.WriterError e) (writer_refusal p x) (p.tables.last_port + 1) (with_writer p.tables x name) why e

pub entry_refused : (p : Parties) (x : Held) (name : List ℕ) (k : Key) (type : ValueType) (why : EntryHandleError) → entry_refusal p x k type ≡ Some why → IsEntry p p name x k type (reply.EntryError why)
entry_refused p x name k type why e =
    let f = entry_wanted p x k type in
    told_refused p (λ e. reply.EntryError e) (entry_refusal p x k type) (id_of f) (with_read_handle p.tables x name f) why e

pub entry_mut_refused : (p : Parties) (x : Held) (name : List ℕ) (k : Key) (type : ValueType) (why : EntryHandleMutError) → entry_mut_refusal p x k type ≡ Some why → IsEntryMut p p name x k type (reply.EntryMutError why)
entry_mut_refused p x name k type why e =
    let f = entry_wanted p x k type in
    told_refused p (λ e. reply.EntryMutError e) (entry_mut_refusal p x k type) (id_of f) (with_write_handle p.tables x name f) why e

-- what holds anyway holds after a failure
pub anyway : {T E : Type 0} (r : Result T E) (X : Type 0) → X → OnErr r X
anyway (Ok t) X x = tt
anyway (Err e) X x = x

-- ---- a core's refusal is that of the definitions

pub reader_told : {C : Type 0} (list : C → List ℕ) (nodes : List (List ℕ)) (at : ℕ → Option Held) (d : Domain C) (now : Parties) (x : Held) (number : ℕ) (o : Option ReaderCreateError)
    → IsNamed nodes at d → IsThing nodes d x number → shown list d (things_of at d) ≡ now → IsFew now → o ≡ first_of (reader_list d (held d number)) → o ≡ reader_refusal now x
reader_told list nodes at d now x number o h i is few told =
    let few' = subst (λ p. IsFew p) (sym is) few in
    let rs = reader_refusals d.tables.things (board_at d.tables (held d number).board) in
    subst (λ p. o ≡ reader_refusal p x) is
    (told ∙ unspent rs (spent d.tables.last_port || spent d.last_thing, reader_error.NumbersSpent) (few_left d.tables.last_port d.last_thing few'.ports few'.things) ∙ sym (reader_tests nodes at d x number h i))

pub writer_told : {C : Type 0} (list : C → List ℕ) (nodes : List (List ℕ)) (at : ℕ → Option Held) (d : Domain C) (now : Parties) (x : Held) (number : ℕ) (o : Option WriterCreateError)
    → IsNamed nodes at d → IsThing nodes d x number → shown list d (things_of at d) ≡ now → IsFew now → o ≡ first_of (writer_list d (held d number)) → o ≡ writer_refusal now x
writer_told list nodes at d now x number o h i is few told =
    let few' = subst (λ p. IsFew p) (sym is) few in
    let rs = writer_refusals d.tables.things (board_at d.tables (held d number).board) in
    subst (λ p. o ≡ writer_refusal p x) is
    (told ∙ unspent rs (spent d.tables.last_port || spent d.last_thing, writer_error.NumbersSpent) (few_left d.tables.last_port d.last_thing few'.ports few'.things) ∙ sym (writer_tests nodes at d x number h i))

pub entry_told : {C : Type 0} (list : C → List ℕ) (nodes : List (List ℕ)) (at : ℕ → Option Held) (d : Domain C) (now : Parties) (x : Held) (number : ℕ) (k : Key) (type : ValueType) (value : TypeDetail) (o : Option EntryHandleError)
    → IsNamed nodes at d → IsThing nodes d x number → shown list d (things_of at d) ≡ now → IsFew now → value ≡ value_detail type → o ≡ first_of (entry_list d (entry_sought d number k value)) → o ≡ entry_refusal now x k type
entry_told list nodes at d now x number k type value o h i is few typed told =
    let few' = subst (λ p. IsFew p) (sym is) few in
    let sought : entry_sought d number k value ≡ found_for d x (keeps_key k) (value_detail type) =
    found_same nodes d x number (keeps_key k) value i ∙ ap (λ v. found_for d x (keeps_key k) v) typed in
    subst (λ p. o ≡ entry_refusal p x k type) is
    (told ∙ unspent (entry_refusals (entry_sought d number k value)) (spent d.last_thing, entry_error.NumbersSpent) (one_left d.last_thing few'.things) ∙ ap (λ f. first_of (entry_refusals f)) sought)

pub entry_mut_told : {C : Type 0} (list : C → List ℕ) (nodes : List (List ℕ)) (at : ℕ → Option Held) (d : Domain C) (now : Parties) (x : Held) (number : ℕ) (k : Key) (type : ValueType) (value : TypeDetail) (o : Option EntryHandleMutError)
    → IsNamed nodes at d → IsThing nodes d x number → shown list d (things_of at d) ≡ now → IsFew now → value ≡ value_detail type → o ≡ first_of (entry_mut_list d (held d number) (entry_sought d number k value))
    → o ≡ entry_mut_refusal now x k type
entry_mut_told list nodes at d now x number k type value o h i is few typed told =
    let few' = subst (λ p. IsFew p) (sym is) few in
    let f = found_for d x (keeps_key k) (value_detail type) in
    let sought : entry_sought d number k value ≡ f = found_same nodes d x number (keeps_key k) value i ∙ ap (λ v. found_for d x (keeps_key k) v) typed in
    subst (λ p. o ≡ entry_mut_refusal p x k type) is
    (told ∙ unspent (entry_mut_refusals d.tables.things (held d number).board (entry_sought d number k value)) (spent d.last_thing, entry_mut_error.NumbersSpent) (one_left d.last_thing few'.things)
    ∙ ap (λ g. first_of (entry_mut_refusals d.tables.things (held d number).board g)) sought ∙ sym (handle_tests nodes at d x number f h i))

pub factory_told : {C : Type 0} (list : C → List ℕ) (nodes : List (List ℕ)) (at : ℕ → Option Held) (d : Domain C) (now : Parties) (party name : List ℕ) (k : KeyType) (limits : Limits) (needs : Requirements) (node : ℕ) (title : List ℕ) (o : Option BlackboardOpenError)
    → IsNamed nodes at d → node ≡ node_number party nodes → title ≡ name → shown list d (things_of at d) ≡ now → IsFew now → o ≡ first_of (open_list d node title (key_detail k) limits needs) → o ≡ open_refusal now party name k limits needs
factory_told list nodes at d now party name k limits needs node title o h by_node by_name is few told =
    let few' = subst (λ p. IsFew p) (sym is) few in
    let n = node_number party nodes in
    let board = board_named d.tables name in
    let h' = named_with party nodes at d h in
    let asked : o ≡ first_of (open_list d n name (key_detail k) limits needs) =
    subst (λ t. o ≡ first_of (open_list d n t (key_detail k) limits needs)) by_name (subst (λ m. o ≡ first_of (open_list d m title (key_detail k) limits needs)) by_node told) in
    subst (λ p. o ≡ open_refusal p party name k limits needs) is
    (asked ∙ unspent (open_refusals nat_eq d.tables.things n board (key_detail k) limits needs) (spent d.last_thing, open_error.NumbersSpent) (one_left d.last_thing few'.things)
    ∙ sym (factories_refused (nodes_with party nodes) party n d.tables.things (things_of at d) board (key_detail k) limits needs h'.parties (node_of party nodes) h'.holders (same_things (nodes_with party nodes) at d h')))

-- the tests of a new board, one after another
pub tests_of_board : (s : List ℕ → List ℕ → Bool) (boards : List Board) (name : List ℕ) (entries : List AddedEntry) (named empty corrupted : Bool)
    → named ≡ list_any (has_name name) boards → empty ≡ (length (added entries) == 0) → corrupted ≡ is_corrupted s (added entries)
    → first_of ((named, create_error.AlreadyExists) ∷ (empty, create_error.NoEntriesProvided) ∷ (corrupted, create_error.ServiceInCorruptedState) ∷ []) ≡ first_of (create_refusals s boards name (added entries))
tests_of_board s boards name entries named empty corrupted e f g = rw (e, f, g) refl
