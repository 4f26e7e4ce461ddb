-- The words of a board when it opens.
use Rattle.std.proofs.Common.{◌≡◌, ℕ, zero, suc, ◌+◌, ◌-◌, ◌*◌, ◌/◌, ◌%◌, ◌<◌, ◌≤◌, List, [], ◌∷◌, ◌++◌, length, map, replicate, arith, refl, ap, subst, ◌∙◌, append_assoc, Option, Some, None}
use Rattle.std.specs.Prelude.{slice_get}
use Rattle.std.specs.List.{AllByRecursion}
use Rattle.std.proofs.lemmas.List.{length-append, length-replicate, get_or-append-add, get_or_append_left, get_or_at}
use Rattle.std.proofs.lemmas.Nat.{div-add-mod', mod_below}
use Rattle.std.proofs.Math.Nat.{div-mul-le_self}
use Rattle.board_layout.specs.declared.shape.CellPlace.{CellPlace}
use Rattle.board_layout.specs.declared.shape.Shape.{Shape}
use Rattle.board_layout.specs.Layout.{align, head_bytes, cell_bytes, cell_alignment, payload, start_of, place_at, places_from, opening_cell, opening_words, cell_end, cell_shape}
use Rattle.board_model.specs.declared.tables.Entry.{Entry}
use Rattle.board_model.specs.declared.value.AddedEntry.{AddedEntry}
use Rattle.board_model.specs.declared.value.Value.{Value}
use Rattle.board_model.specs.declared.value.Value.TheVariants as value
use Rattle.board_model.specs.declared.value.ValueType.{ValueType}
use Rattle.board_model.specs.declared.value.ValueType.TheVariants as type
use Rattle.board_cell_model.specs.OwedAccesses.{current_at}
use Rattle.board_model.specs.TypeTable.{type_of, value_detail, value_words, word_count}
use Rattle.board_model.specs.Tables.{Added, entries_of, shape_of, shapes_of}
use Rattle.board_model.specs.Replies.{added_of, first_list}
use Rattle.board_model.specs.Memory.{opening_of}
use Rattle.board_model.specs.Sound.{IsCell, IsTyped}

-- ---- added entries

-- an added entry is of a value type, and has as many words
pub record IsAddedTyped (a : Added) : Type 0 where
  pub type : ValueType
  pub detail : a.value ≡ value_detail type
  pub words : length a.words ≡ word_count type

pub sized : (v : Value) → length (value_words v) ≡ word_count (type_of v)
sized (value.Bool b) = refl
sized (value.U64 n) = refl
sized (value.Q4 a b c d) = refl

pub added_typed : (entries : List AddedEntry) → AllByRecursion IsAddedTyped (map added_of entries)
added_typed [] = tt
added_typed (e ∷ es) = (record { type = type_of e.value; detail = refl; words = sized e.value }, added_typed es)

-- the alignment of each value type is 1 or 8, so that a cell begins at a word
record IsAligned (s : Shape) : Type 0 where
  pub low : 0 < s.alignment
  pub cell : cell_alignment s ≡ 8

aligned_as : (t : ValueType) (w : ℕ) → IsAligned (record { words = w; alignment = (value_detail t).alignment })
aligned_as type.Bool w = record { low = omega arith; cell = refl }
aligned_as type.U64 w = record { low = omega arith; cell = refl }
aligned_as type.Q4 w = record { low = omega arith; cell = refl }

aligned : (a : Added) → IsAddedTyped a → IsAligned (shape_of a)
aligned a h = rw h.detail (aligned_as h.type (length a.words))

-- ---- places

align_up : (a n : ℕ) → 0 < a → n ≤ align a n
align_up a n h =
    let d : (n + (a - 1)) / a * a + (n + (a - 1)) % a ≡ n + (a - 1) = div-add-mod' (n + (a - 1)) a in
    let m : (n + (a - 1)) % a < a = mod_below (n + (a - 1)) a h in
    omega arith

align_low : (a n : ℕ) → align a n ≤ n + (a - 1)
align_low a n = div-mul-le_self (n + (a - 1)) a

-- a cell lies at or after a word, and so does what comes behind it
record IsPlaced (at bytes : ℕ) (s : Shape) : Type 0 where
  pub low : at ≤ start_of bytes s / 8
  pub place : start_of bytes s ≡ 8 * (start_of bytes s / 8)
  pub head : 0 < head_bytes s / 8
  pub next : 8 * (start_of bytes s / 8 + head_bytes s / 8 + 2 * s.words) ≤ start_of bytes s + cell_bytes s

placed : (at bytes : ℕ) (s : Shape) → IsAligned s → 8 * at ≤ bytes → IsPlaced at bytes s
placed at bytes s h le =
    let a : bytes ≤ start_of bytes s = align_up (cell_alignment s) bytes (omega (arith, h.cell)) in
    let b : 16 ≤ head_bytes s = align_up s.alignment 16 h.low in
    record { low = omega arith; place = whole (cell_alignment s) h.cell; head = omega arith; next = omega arith }
  where
    whole : (c : ℕ) → c ≡ 8 → align c bytes ≡ 8 * (align c bytes / 8)
    whole c e = rw e (omega arith)

-- ---- one cell

opened_cell : (before : List ℕ) (c : CellPlace) (v rest : List ℕ) → length before ≡ c.first → 0 < c.head → length v ≡ c.words → IsCell (before ++ (opening_cell c v ++ rest)) (cell_shape c) (v ∷ [])
opened_cell before c v rest at head size = record {
  inside = omega (arith, whole);
  head = head;
  some = omega arith;
  counter = get_or_at before 1 ((replicate (c.head - 1) 0 ++ (v ++ replicate c.words 0)) ++ rest) 0 c.first at;
  size = size;
  current = λ k lt.
      let q : current_at (cell_shape c) (length (v ∷ [])) + k ≡ length (before ++ (1 ∷ replicate (c.head - 1) 0)) + k = omega (arith, front) in
      let e : before ++ (opening_cell c v ++ rest) ≡ (before ++ (1 ∷ replicate (c.head - 1) 0)) ++ (v ++ (replicate c.words 0 ++ rest)) = regroup in
      rw (q, e, get_or-append-add (before ++ (1 ∷ replicate (c.head - 1) 0)) (v ++ (replicate c.words 0 ++ rest)) k 0) (get_or_append_left v (replicate c.words 0 ++ rest) 0 k lt);
}
  where
    whole : length (before ++ (opening_cell c v ++ rest)) ≡ c.first + (1 + ((c.head - 1) + (c.words + c.words)) + length rest)
    whole = simp (length-append, length-replicate, at, size) (omega arith)

    front : length (before ++ (1 ∷ replicate (c.head - 1) 0)) ≡ c.first + c.head
    front = simp (length-append, length-replicate, at) (omega arith)

    regroup : before ++ (opening_cell c v ++ rest) ≡ (before ++ (1 ∷ replicate (c.head - 1) 0)) ++ (v ++ (replicate c.words 0 ++ rest))
    regroup = simp append_assoc

-- ---- all cells of a board

-- the cell of an entry at first
pub record IsOpened (words : List ℕ) (e : Entry) (list : List (List ℕ)) : Type 0 where
  pub typed : IsTyped e
  pub cell : IsCell words (cell_shape e.cell) list
  pub placed : e.cell.place ≡ 8 * e.cell.first

abbrev places : ℕ → List Added → List CellPlace
places bytes added = places_from bytes (shapes_of added)

abbrev words_in : ℕ → ℕ → List Added → List ℕ
words_in at bytes added = opening_words at (places bytes added) (map (λ (a : Added). a.words) added)

abbrev first_words : Option Added → List (List ℕ)
first_words None = []
first_words (Some a) = a.words ∷ []

abbrev entry_with : ℕ → Added → Entry
entry_with bytes a = record { key = record { bytes = a.key }; value = a.value; cell = place_at bytes (shape_of a) }

opened_cells : (added : List Added) → AllByRecursion IsAddedTyped added → (before : List ℕ) (at bytes : ℕ) → length before ≡ at → 8 * at ≤ bytes
    → (i : ℕ) (e : Entry) → slice_get (entries_of (places bytes added) added) i ≡ Some e → IsOpened (before ++ words_in at bytes added) e (first_words (slice_get added i))
opened_cells [] t before at bytes n le i e f = absurd cc
opened_cells (a ∷ more) t before at bytes n le zero e f =
    let p = placed at bytes (shape_of a) (aligned a t.0) le in
    let c : CellPlace = place_at bytes (shape_of a) in
    let q : entry_with bytes a ≡ e = cc in
    let rest : List ℕ = words_in (c.first + c.head + 2 * c.words) (start_of bytes (shape_of a) + cell_bytes (shape_of a)) more in
    let l : length (before ++ replicate (c.first - at) 0) ≡ c.first = simp (length-append, length-replicate, n) (omega (arith, p.low)) in
    let o : IsCell ((before ++ replicate (c.first - at) 0) ++ (opening_cell c a.words ++ rest)) (cell_shape c) (a.words ∷ []) = opened_cell (before ++ replicate (c.first - at) 0) c a.words rest l p.head refl in
    let o' : IsCell (before ++ (replicate (c.first - at) 0 ++ (opening_cell c a.words ++ rest))) (cell_shape c) (a.words ∷ []) =
    subst (λ (ws : List ℕ). IsCell ws (cell_shape c) (a.words ∷ [])) (append_assoc before (replicate (c.first - at) 0) (opening_cell c a.words ++ rest)) o in
    subst (λ (y : Entry). IsOpened (before ++ (replicate (c.first - at) 0 ++ (opening_cell c a.words ++ rest))) y (a.words ∷ [])) q
    (record { typed = record { type = t.0.type; detail = t.0.detail; words = t.0.words }; cell = o'; placed = p.place })
opened_cells (a ∷ more) t before at bytes n le (suc i) e f =
    let p = placed at bytes (shape_of a) (aligned a t.0) le in
    let c : CellPlace = place_at bytes (shape_of a) in
    let next : ℕ = c.first + c.head + 2 * c.words in
    let rest : List ℕ = words_in next (start_of bytes (shape_of a) + cell_bytes (shape_of a)) more in
    let l : length (before ++ (replicate (c.first - at) 0 ++ opening_cell c a.words)) ≡ next = simp (length-append, length-replicate, n) (omega (arith, p.low, p.head)) in
    let ih : IsOpened ((before ++ (replicate (c.first - at) 0 ++ opening_cell c a.words)) ++ rest) e (first_words (slice_get more i)) =
    opened_cells more t.1 (before ++ (replicate (c.first - at) 0 ++ opening_cell c a.words)) next (start_of bytes (shape_of a) + cell_bytes (shape_of a)) l p.next i e f in
    let g : (before ++ (replicate (c.first - at) 0 ++ opening_cell c a.words)) ++ rest ≡ before ++ (replicate (c.first - at) 0 ++ (opening_cell c a.words ++ rest)) =
    append_assoc before (replicate (c.first - at) 0 ++ opening_cell c a.words) rest ∙ ap (λ (x : List ℕ). before ++ x) (append_assoc (replicate (c.first - at) 0) (opening_cell c a.words) rest) in
    subst (λ (ws : List ℕ). IsOpened ws e (first_words (slice_get more i))) g ih

-- every cell lies at or after the word where the cells begin
cells_low : (added : List Added) → AllByRecursion IsAddedTyped added → (at bytes : ℕ) → 8 * at ≤ bytes → (i : ℕ) (e : Entry) → slice_get (entries_of (places bytes added) added) i ≡ Some e → at ≤ e.cell.first
cells_low [] t at bytes le i e f = absurd cc
cells_low (a ∷ more) t at bytes le zero e f =
    let p = placed at bytes (shape_of a) (aligned a t.0) le in
    let q : entry_with bytes a ≡ e = cc in
    subst (λ (y : Entry). at ≤ y.cell.first) q p.low
cells_low (a ∷ more) t at bytes le (suc i) e f =
    let p = placed at bytes (shape_of a) (aligned a t.0) le in
    let c : CellPlace = place_at bytes (shape_of a) in
    let ih = cells_low more t.1 (c.first + c.head + 2 * c.words) (start_of bytes (shape_of a) + cell_bytes (shape_of a)) p.next i e f in
    omega (arith, ih, p.low)

cells_apart : (added : List Added) → AllByRecursion IsAddedTyped added → (at bytes : ℕ) → 8 * at ≤ bytes → (i j : ℕ) (e f : Entry)
    → slice_get (entries_of (places bytes added) added) i ≡ Some e → slice_get (entries_of (places bytes added) added) j ≡ Some f → i < j → cell_end (cell_shape e.cell) ≤ f.cell.first
cells_apart [] t at bytes le i j e f g h lt = absurd cc
cells_apart (a ∷ more) t at bytes le zero zero e f g h lt = absurd (omega arith)
cells_apart (a ∷ more) t at bytes le (suc i) zero e f g h lt = absurd (omega arith)
cells_apart (a ∷ more) t at bytes le zero (suc j) e f g h lt =
    let p = placed at bytes (shape_of a) (aligned a t.0) le in
    let c : CellPlace = place_at bytes (shape_of a) in
    let q : entry_with bytes a ≡ e = cc in
    subst (λ (y : Entry). cell_end (cell_shape y.cell) ≤ f.cell.first) q (cells_low more t.1 (c.first + c.head + 2 * c.words) (start_of bytes (shape_of a) + cell_bytes (shape_of a)) p.next j f h)
cells_apart (a ∷ more) t at bytes le (suc i) (suc j) e f g h lt =
    let p = placed at bytes (shape_of a) (aligned a t.0) le in
    let c : CellPlace = place_at bytes (shape_of a) in
    cells_apart more t.1 (c.first + c.head + 2 * c.words) (start_of bytes (shape_of a) + cell_bytes (shape_of a)) p.next i j e f g h (omega arith)

-- the words take no more bytes than the payload
cells_length : (added : List Added) → AllByRecursion IsAddedTyped added → (at bytes : ℕ) → 8 * at ≤ bytes → 8 * (at + length (words_in at bytes added)) ≤ bytes + payload (shapes_of added)
cells_length [] t at bytes le = omega arith
cells_length (a ∷ more) t at bytes le =
    let p = placed at bytes (shape_of a) (aligned a t.0) le in
    let c : CellPlace = place_at bytes (shape_of a) in
    let next : ℕ = c.first + c.head + 2 * c.words in
    let rest : List ℕ = words_in next (start_of bytes (shape_of a) + cell_bytes (shape_of a)) more in
    let ih = cells_length more t.1 next (start_of bytes (shape_of a) + cell_bytes (shape_of a)) p.next in
    let l : at + length (replicate (c.first - at) 0 ++ (opening_cell c a.words ++ rest)) ≡ next + length rest = simp (length-append, length-replicate) (omega (arith, p.low, p.head)) in
    let s = align_low (cell_alignment (shape_of a)) bytes in
    omega (arith, ih, l, s)

-- ---- a board that a script creates

abbrev pub new_entries : List AddedEntry → List Entry
new_entries entries = entries_of (places_from 0 (shapes_of (map added_of entries))) (map added_of entries)

words_added : (entries : List AddedEntry) → map (λ (a : Added). a.words) (map added_of entries) ≡ map (λ (e : AddedEntry). value_words e.value) entries
words_added [] = refl
words_added (e ∷ es) = ap (λ (x : List (List ℕ)). value_words e.value ∷ x) (words_added es)

opening_is : (entries : List AddedEntry) → words_in 0 0 (map added_of entries) ≡ opening_of entries
opening_is entries = ap (opening_words 0 (places 0 (map added_of entries))) (words_added entries)

first_added : (entries : List AddedEntry) (i : ℕ) → first_words (slice_get (map added_of entries) i) ≡ first_list (slice_get entries i)
first_added [] i = refl
first_added (e ∷ es) zero = refl
first_added (e ∷ es) (suc i) = first_added es i

pub opened_entry : (entries : List AddedEntry) (i : ℕ) (e : Entry) → slice_get (new_entries entries) i ≡ Some e → IsOpened (opening_of entries) e (first_list (slice_get entries i))
opened_entry entries i e f =
    let h : IsOpened (words_in 0 0 (map added_of entries)) e (first_words (slice_get (map added_of entries) i)) = opened_cells (map added_of entries) (added_typed entries) [] 0 0 refl (omega arith) i e f in
    subst (λ (ws : List ℕ). IsOpened ws e (first_list (slice_get entries i))) (opening_is entries)
    (subst (λ (list : List (List ℕ)). IsOpened (words_in 0 0 (map added_of entries)) e list) (first_added entries i) h)

pub opened_apart : (entries : List AddedEntry) (i j : ℕ) (e f : Entry) → slice_get (new_entries entries) i ≡ Some e → slice_get (new_entries entries) j ≡ Some f → i < j → cell_end (cell_shape e.cell) ≤ f.cell.first
opened_apart entries i j e f g h lt = cells_apart (map added_of entries) (added_typed entries) 0 0 (omega arith) i j e f g h lt

pub opened_length : (entries : List AddedEntry) → 8 * length (opening_of entries) ≤ payload (shapes_of (map added_of entries))
opened_length entries =
    let h : 8 * (0 + length (words_in 0 0 (map added_of entries))) ≤ 0 + payload (shapes_of (map added_of entries)) = cells_length (map added_of entries) (added_typed entries) 0 0 (omega arith) in
    let e : length (words_in 0 0 (map added_of entries)) ≡ length (opening_of entries) = ap length (opening_is entries) in
    omega arith
