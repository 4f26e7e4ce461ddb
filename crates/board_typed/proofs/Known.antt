-- A port that is held, of a domain whose cells are in order, is no unknown thing.
use Rattle.std.proofs.Common.{◌≡◌, ℕ, suc, Bool, true, false, ◌+◌, List, [], ◌∷◌, Option, Some, None, refl, sym, ap, ◌∙◌, subst, arith}
use Rattle.std.specs.Prelude.{◌&&◌, ◌||◌, ◌==◌, ◌*◌, ◌<◌, ◌≤◌, find, slice_get, is_some, nat_le, if◌then◌else◌, Result, Ok, Err}
use Rattle.board_layout.specs.declared.type_detail.TypeDetail.{TypeDetail}
use Rattle.board_layout.specs.Words.{IsWordCount}
use Rattle.board_cell.specs.Passes.{CellSeen}
use Rattle.board_model.specs.declared.tables.Board.{Board}
use Rattle.board_model.specs.declared.tables.Entry.{Entry}
use Rattle.board_model.specs.declared.tables.ThingKind.TheVariants.{Factory, Reader, Writer}
use Rattle.board_model.specs.declared.tables.Thing.{Thing}
use Rattle.board_model.specs.declared.tables.ThingKind.{ThingKind}
use Rattle.board_model.specs.Tables.{board_at, holds_at, kind_of, same_kind, entry_found, entry_from, entry_in, of_type, reader_slots, writer_slots}
use Rattle.board_model.specs.TableCalls.{answer_of}
use Rattle.board_model.specs.TypeTable.{same_type, same_variant}
use Rattle.std.specs.Str.{bytes_eq}
use Rattle.board_names.specs.declared.errors.boards.ReaderCreateError.TheVariants as reader_error
use Rattle.board_names.specs.declared.errors.boards.WriterCreateError.TheVariants as writer_error
use Rattle.board_names.specs.declared.errors.boards.EntryHandleError.{EntryHandleError}
use Rattle.board_names.specs.declared.errors.boards.EntryHandleError.TheVariants as entry_error
use Rattle.board_names.specs.declared.errors.boards.EntryHandleMutError.{EntryHandleMutError}
use Rattle.board_names.specs.declared.errors.boards.EntryHandleMutError.TheVariants as entry_mut_error
use Rattle.board_service.specs.declared.made.Found.{Found}
use Rattle.board_service.specs.Domain.{entry_answer, entry_mut_answer, found_at, held, is_thing, made, reader_answer, spent, stands_as, writer_answer}
use Rattle.board_cells.specs.Cells.{EndSeen, cell_width, end_width, fits}
use Rattle.board_handles.specs.BoardEnds.{Core, cell_of, parked_of}
use Rattle.board_handles.specs.LentForms as lent
use Rattle.board_typed.specs.Order.{FitsEntry, HasShortKeys, IsInOrder, IsOwn, is_written}

pub some_is : {A : Type 0} (x y : A) → Some x ≡ Some y → x ≡ y
some_is x y e = cc

-- ---- the entry that was found

entry_place : (k : ℕ) (is_key : List ℕ → Bool) (es : List Entry) (f : ℕ × Entry) → entry_from k is_key es ≡ Some f → (i : ℕ) × (f.0 ≡ i + k) × (slice_get es i ≡ Some f.1)
entry_place k is_key [] f e = absurd cc
entry_place k is_key (x ∷ xs) f e = by (is_key x.key.bytes) e (entry_place (k + 1) is_key xs f)
  where
    by : (b : Bool) → (if b then Some (k, x) else entry_from (k + 1) is_key xs) ≡ Some f → (entry_from (k + 1) is_key xs ≡ Some f → (i : ℕ) × (f.0 ≡ i + (k + 1)) × (slice_get xs i ≡ Some f.1))
        → (i : ℕ) × (f.0 ≡ i + k) × (slice_get (x ∷ xs) i ≡ Some f.1)
    by true h later =
        let same : (k, x) ≡ f = some_is (k, x) f h in
        let place : k ≡ f.0 = ap (λ (p : ℕ × Entry). p.0) same in
        (0, omega (arith, place), ap (λ (p : ℕ × Entry). Some p.1) same)
    by false h later =
        let rest = later h in
        let place : f.0 ≡ rest.0 + (k + 1) = rest.1 in
        (suc rest.0, omega (arith, place), rest.2)

-- an entry that was found is there, and is of the type
found_there : (w : Option Board) (is_key : List ℕ → Bool) (values : TypeDetail) (f : ℕ × Entry) → entry_found w is_key values ≡ Some f → (entry_in w f.0 ≡ Some f.1) × (same_type f.1.value values ≡ true)
found_there None is_key values f e = absurd cc
found_there (Some b) is_key values f e = by (entry_from 0 is_key b.entries) refl e
  where
    typed : (g : ℕ × Entry) (t : Bool) → same_type g.1.value values ≡ t → (if t then Some g else None) ≡ Some f → (g ≡ f) × (same_type f.1.value values ≡ true)
    typed g true h k =
        let same : g ≡ f = some_is g f k in
        (same, subst (λ (p : ℕ × Entry). same_type p.1.value values ≡ true) same h)
    typed g false h k = absurd cc

    by : (o : Option (ℕ × Entry)) → entry_from 0 is_key b.entries ≡ o → of_type values o ≡ Some f → (entry_in (Some b) f.0 ≡ Some f.1) × (same_type f.1.value values ≡ true)
    by None h k = absurd cc
    by (Some g) h k =
        let t = typed g (same_type g.1.value values) refl k in
        let place = entry_place 0 is_key b.entries g h in
        let at : g.0 ≡ place.0 = (let p : g.0 ≡ place.0 + 0 = place.1 in omega (arith, p)) in
        (subst (λ (p : ℕ × Entry). slice_get b.entries p.0 ≡ Some p.1) t.0 (subst (λ n. slice_get b.entries n ≡ Some g.1) (sym at) place.2), t.1)

both_hold : (a b : Bool) → (a && b) ≡ true → (a ≡ true) × (b ≡ true)
both_hold true b e = (refl, e)
both_hold false b e = absurd cc

same_size : (a b : TypeDetail) → same_type a b ≡ true → a.size ≡ b.size
same_size a b e =
    let aligned = both_hold (same_variant a.variant b.variant && bytes_eq a.type_name b.type_name && (a.size == b.size)) (a.alignment == b.alignment) e in
    let sized = both_hold (same_variant a.variant b.variant && bytes_eq a.type_name b.type_name) (a.size == b.size) aligned.0 in
    grind (arith, sized.1)

-- a thing that is held is of a board with short keys
keys_short : (keys : TypeDetail) (w : Option Board) → HasShortKeys w → holds_at w (λ b. same_type b.key keys) ≡ true → keys.size ≤ 64
keys_short keys None short h = absurd cc
keys_short keys (Some b) short h = (let same : b.key.size ≡ keys.size = same_size b.key keys h in omega (arith, short, same))

pub held_short : (d : Core) (keys : TypeDetail) (thing : ℕ) (kind : ThingKind) → IsInOrder d → stands_as d keys thing kind ≡ true → keys.size ≤ 64
held_short d keys thing kind o h = by (find (is_thing thing) d.tables.things) h
  where
    by : (t : Option (Thing ℕ ℕ)) → holds_at t (λ x. same_kind (kind_of x.kind) kind && holds_at (board_at d.tables x.board) (λ b. same_type b.key keys)) ≡ true → keys.size ≤ 64
    by None k = absurd cc
    by (Some x) k = keys_short keys (board_at d.tables x.board) (o x.board).keys (both_hold (same_kind (kind_of x.kind) kind) (holds_at (board_at d.tables x.board) (λ b. same_type b.key keys)) k).1

-- values of as many bytes have as many words
as_many : (size n m : ℕ) → IsWordCount size n → IsWordCount size m → n ≡ m
as_many size n m h k =
    let a : size ≤ 8 * n = h.holds in
    let b : 8 * n < size + 8 = h.least in
    let c : size ≤ 8 * m = k.holds in
    let e : 8 * m < size + 8 = k.least in
    omega (arith, a, b, c, e)

-- the entry's cell is there, and is as wide as a value
its_cell : (e : Entry) (c : Option CellSeen) (size width : ℕ) → FitsEntry (Some e) c → e.value.size ≡ size → IsWordCount size width → (x : CellSeen) × (c ≡ Some x) × (x.width ≡ width)
its_cell e None size width fit same count = absurd fit
its_cell e (Some x) size width fit same count = (x, refl, as_many size x.width width (subst (λ s. IsWordCount s x.width) same fit) count)

-- ---- readers

read_known : (n width : ℕ) (unknown : EntryHandleError) (f : Found) (c : Option CellSeen) (x : CellSeen) → c ≡ Some x → x.width ≡ width → lent.fitting unknown width cell_width f c ≡ Err (entry_error.ThingUnknown n) → ⊥
read_known n width unknown f c x there wide e =
    let fit : (x.width == width) ≡ true = grind (arith, wide) in
    let ok : lent.fitting unknown width cell_width f (Some x) ≡ Ok (f, x) = rw fit refl in
    let bad : Ok (f, x) ≡ Err (entry_error.ThingUnknown n) = sym ok ∙ ap (lent.fitting unknown width cell_width f) (sym there) ∙ e in
    absurd cc

pub reader_known : (d : Core) (a : lent.Asked) (reader n : ℕ) → IsInOrder d → stands_as d a.keys reader Reader ≡ true → IsWordCount a.values.size a.width → lent.read_answer d a reader ≡ Err (entry_error.ThingUnknown n) → ⊥
reader_known d a reader n o stands count e = by_found (lent.entry_for d a reader) refl asked
  where
    unknown : EntryHandleError
    unknown = entry_error.ThingUnknown reader

    answer : Result Found EntryHandleError → Result (Found × CellSeen) EntryHandleError
    answer r = lent.handed unknown a.width cell_width (cell_of d (held d reader).board) r

    asked : answer (entry_answer d (lent.entry_for d a reader)) ≡ Err (entry_error.ThingUnknown n)
    asked = sym (ap (λ b. answer (if b then entry_answer d (lent.entry_for d a reader) else Err unknown)) stands) ∙ e

    by_spent : (f : ℕ × Entry) (s : Bool) → lent.entry_for d a reader ≡ Some f → answer (answer_of (if s then Some entry_error.NumbersSpent else None) (found_at (d.last_thing + 1) f.0 f.1)) ≡ Err (entry_error.ThingUnknown n) → ⊥
    by_spent f true is h = absurd cc
    by_spent f false is h =
        let there = found_there (board_at d.tables (held d reader).board) a.is_key a.values f is in
        let fit : FitsEntry (Some f.1) (cell_of d (held d reader).board f.0) = subst (λ w. FitsEntry w (cell_of d (held d reader).board f.0)) there.0 ((o (held d reader).board).cells f.0) in
        let cell = its_cell f.1 (cell_of d (held d reader).board f.0) a.values.size a.width fit (same_size f.1.value a.values there.1) count in
        read_known n a.width unknown (found_at (d.last_thing + 1) f.0 f.1) (cell_of d (held d reader).board f.0) cell.0 cell.1 cell.2 h

    by_found : (f : Option (ℕ × Entry)) → lent.entry_for d a reader ≡ f → answer (entry_answer d f) ≡ Err (entry_error.ThingUnknown n) → ⊥
    by_found None is h = absurd cc
    by_found (Some f) is h = by_spent f (spent d.last_thing) is h

-- ---- writers

end_known : (n width : ℕ) (unknown : EntryHandleMutError) (f : Found) (p : Option EndSeen) (c : Option CellSeen) (x : CellSeen) → IsOwn p c → is_some p ≡ is_some c → c ≡ Some x → x.width ≡ width → lent.fitting unknown width end_width f p ≡ Err (entry_mut_error.ThingUnknown n) → ⊥
end_known n width unknown f None c x own some there wide e =
    let none : false ≡ true = some ∙ ap is_some there in
    absurd cc
end_known n width unknown f (Some p) c x own some there wide e =
    let same : p.cell ≡ x = some_is p.cell x (sym own ∙ there) in
    let of_width : p.cell.width ≡ width = ap (λ (s : CellSeen). s.width) same ∙ wide in
    let fit : (p.cell.width == width) ≡ true = grind (arith, of_width) in
    let ok : lent.fitting unknown width end_width f (Some p) ≡ Ok (f, p) = rw fit refl in
    let bad : Ok (f, p) ≡ Err (entry_mut_error.ThingUnknown n) = sym ok ∙ e in
    absurd cc

pub writer_known : (d : Core) (a : lent.Asked) (writer n : ℕ) → IsInOrder d → stands_as d a.keys writer Writer ≡ true → IsWordCount a.values.size a.width → lent.write_answer d a writer ≡ Err (entry_mut_error.ThingUnknown n) → ⊥
writer_known d a writer n o stands count e = by_found (lent.entry_for d a writer) refl asked
  where
    unknown : EntryHandleMutError
    unknown = entry_mut_error.ThingUnknown writer

    board : ℕ
    board = (held d writer).board

    answer : Result Found EntryHandleMutError → Result (Found × EndSeen) EntryHandleMutError
    answer r = lent.handed unknown a.width end_width (parked_of d (held d writer).board) r

    asked : answer (entry_mut_answer d (held d writer) (lent.entry_for d a writer)) ≡ Err (entry_mut_error.ThingUnknown n)
    asked = sym (ap (λ b. answer (if b then entry_mut_answer d (held d writer) (lent.entry_for d a writer) else Err unknown)) stands) ∙ e

    by_spent : (f : ℕ × Entry) (s : Bool) → lent.entry_for d a writer ≡ Some f → is_written d (held d writer).board f.0 ≡ false → answer (answer_of (if s then Some entry_mut_error.NumbersSpent else None) (found_at (d.last_thing + 1) f.0 f.1)) ≡ Err (entry_mut_error.ThingUnknown n) → ⊥
    by_spent f true is free h = absurd cc
    by_spent f false is free h =
        let there = found_there (board_at d.tables (held d writer).board) a.is_key a.values f is in
        let fit : FitsEntry (Some f.1) (cell_of d (held d writer).board f.0) = subst (λ w. FitsEntry w (cell_of d (held d writer).board f.0)) there.0 ((o (held d writer).board).cells f.0) in
        let cell = its_cell f.1 (cell_of d (held d writer).board f.0) a.values.size a.width fit (same_size f.1.value a.values there.1) count in
        end_known n a.width unknown (found_at (d.last_thing + 1) f.0 f.1) (parked_of d (held d writer).board f.0) (cell_of d (held d writer).board f.0) cell.0
        ((o (held d writer).board).own f.0) ((o (held d writer).board).there f.0 free) cell.1 cell.2 h

    by_written : (f : ℕ × Entry) (w : Bool) → lent.entry_for d a writer ≡ Some f → is_written d (held d writer).board f.0 ≡ w
        → answer (answer_of (if w then Some entry_mut_error.HandleAlreadyExists else if spent d.last_thing then Some entry_mut_error.NumbersSpent else None) (found_at (d.last_thing + 1) f.0 f.1)) ≡ Err (entry_mut_error.ThingUnknown n) → ⊥
    by_written f true is written h = absurd cc
    by_written f false is written h = by_spent f (spent d.last_thing) is written h

    by_found : (f : Option (ℕ × Entry)) → lent.entry_for d a writer ≡ f → answer (entry_mut_answer d (held d writer) f) ≡ Err (entry_mut_error.ThingUnknown n) → ⊥
    by_found None is h = absurd cc
    by_found (Some f) is h = by_written f (is_written d (held d writer).board f.0) is refl h

-- ---- factories

pub factory_reader_known : (d : Core) (keys : TypeDetail) (factory n : ℕ) → stands_as d keys factory Factory ≡ true → lent.reader_made d keys factory ≡ Err (reader_error.ThingUnknown n) → ⊥
factory_reader_known d keys factory n stands e =
    by (holds_at (board_at d.tables (held d factory).board) (λ b. nat_le b.max_readers (reader_slots b.number d.tables.things))) (spent d.tables.last_port || spent d.last_thing)
    (sym (ap (λ s. if s then reader_answer d (held d factory) else Err (reader_error.ThingUnknown factory)) stands) ∙ e)
  where
    by : (full s : Bool)
        → answer_of (if full then Some reader_error.ExceedsMaxSupportedReaders else if s then Some reader_error.NumbersSpent else None) (made d (d.tables.last_port + 1)) ≡ Err (reader_error.ThingUnknown n) → ⊥
    by true s h = absurd cc
    by false true h = absurd cc
    by false false h = absurd cc

pub factory_writer_known : (d : Core) (keys : TypeDetail) (factory n : ℕ) → stands_as d keys factory Factory ≡ true → lent.writer_made d keys factory ≡ Err (writer_error.ThingUnknown n) → ⊥
factory_writer_known d keys factory n stands e =
    by (holds_at (board_at d.tables (held d factory).board) (λ b. nat_le b.max_writers (writer_slots b.number d.tables.things))) (spent d.tables.last_port || spent d.last_thing)
    (sym (ap (λ s. if s then writer_answer d (held d factory) else Err (writer_error.ThingUnknown factory)) stands) ∙ e)
  where
    by : (full s : Bool)
        → answer_of (if full then Some writer_error.ExceedsMaxSupportedWriters else if s then Some writer_error.NumbersSpent else None) (made d (d.tables.last_port + 1)) ≡ Err (writer_error.ThingUnknown n) → ⊥
    by true s h = absurd cc
    by false true h = absurd cc
    by false false h = absurd cc

-- ---- one cell behind both handles

given_there : {A E : Type 0} (unknown : E) (f : Found) (o : Option A) (g : Found) (x : A) → lent.given unknown f o ≡ Ok (g, x) → (f ≡ g) × (o ≡ Some x)
given_there unknown f None g x e = absurd cc
given_there unknown f (Some y) g x e =
    let same : (f, y) ≡ (g, x) = cc in
    (ap (λ (p : _ × _). p.0) same, ap (λ (p : _ × _). Some p.1) same)

fitting_there : {A E : Type 0} (unknown : E) (width : ℕ) (width_of : A → ℕ) (f : Found) (o : Option A) (g : Found) (x : A) → lent.fitting unknown width width_of f o ≡ Ok (g, x) → (f ≡ g) × (o ≡ Some x)
fitting_there {A = A} {E = E} unknown width width_of f o g x e = by (fits width width_of o) e
  where
    by : (b : Bool) → (if b then lent.given unknown f o else Err unknown) ≡ Ok (g, x) → (f ≡ g) × (o ≡ Some x)
    by true h = given_there unknown f o g x h
    by false h = absurd cc

-- what is handed on with an entry is what stands there
handed_there : {A E : Type 0} (unknown : E) (width : ℕ) (width_of : A → ℕ) (at : ℕ → Option A) (r : Result Found E) (g : Found) (x : A) → lent.handed unknown width width_of at r ≡ Ok (g, x) → at g.entry ≡ Some x
handed_there unknown width width_of at (Err w) g x e = absurd cc
handed_there unknown width width_of at (Ok f) g x e =
    let there = fitting_there unknown width width_of f (at f.entry) g x e in
    subst (λ (h : Found). at h.entry ≡ Some x) there.0 there.1

-- and the tables found it
pub handed_found : {A E : Type 0} (unknown : E) (width : ℕ) (width_of : A → ℕ) (at : ℕ → Option A) (r : Result Found E) (g : Found) (x : A) → lent.handed unknown width width_of at r ≡ Ok (g, x) → r ≡ Ok g
handed_found unknown width width_of at (Err w) g x e = absurd cc
handed_found unknown width width_of at (Ok f) g x e = ap Ok (fitting_there unknown width width_of f (at f.entry) g x e).0

-- the cell that a reader's handle is given is the entry's
pub read_cell : (d : Core) (a : lent.Asked) (reader : ℕ) (f : Found) (c : CellSeen) → lent.read_answer d a reader ≡ Ok (f, c) → cell_of d (held d reader).board f.entry ≡ Some c
read_cell d a reader f c e = handed_there (entry_error.ThingUnknown reader) a.width cell_width (cell_of d (held d reader).board) (lent.read_asked d a reader) f c e

-- so is that of a writer's, where the cells are in order
pub write_cell : (d : Core) (a : lent.Asked) (writer : ℕ) (f : Found) (p : EndSeen) → IsInOrder d → lent.write_answer d a writer ≡ Ok (f, p) → cell_of d (held d writer).board f.entry ≡ Some p.cell
write_cell d a writer f p o e =
    let there : parked_of d (held d writer).board f.entry ≡ Some p = handed_there (entry_mut_error.ThingUnknown writer) a.width end_width (parked_of d (held d writer).board) (lent.write_asked d a writer) f p e in
    subst (λ (w : Option EndSeen). IsOwn w (cell_of d (held d writer).board f.entry)) there ((o (held d writer).board).own f.entry)
