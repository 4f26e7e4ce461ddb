-- Owed words lie in their boards.
use Rattle.std.proofs.Common.{◌≡◌, ℕ, ◌+◌, ◌<◌, ◌≤◌, Bool, true, false, List, length, arith, refl, sym, ap, subst}
use Rattle.std.specs.Prelude.{◌==◌, if◌then◌else◌, slice_index}
use Rattle.std.proofs.lemmas.Bool.{eqb-false}
use Rattle.board_layout.specs.declared.shape.CellShape.{CellShape}
use Rattle.board_layout.specs.Layout.{cell_end, cell_shape}
use Rattle.board_cell_model.specs.OwedAccesses.{Reading, finished, opening, owed_read, owed_write, to_read, to_write, trying, current_at, spare_at}
use Rattle.board_model.specs.TypeTable.{value_words}
use Rattle.board_model.specs.Requests.{Request, fill, fresh, get, publish, put, table, update}
use Rattle.board_model.specs.Parties.{Running, owed, reading}
use Rattle.board_model.specs.LawfulSession.{State}
use Rattle.board_model.specs.Sound.{IsCalling, IsEntryOf, IsReading, Sound}
use Rattle.board_model.specs.LawsOfBounds.{IsInBoard, OwedReadsAreInside, OwedWritesAreInside}
use Rattle.board_model.proofs.CopyLemmas.{copy_inside}
use Rattle.board_model.proofs.RunningLemmas.{drawn_in, runs}

in_board : (s : State) → Sound s → (b i w : ℕ) (c : CellShape) → IsEntryOf s.standing.tables b i c → w < cell_end c → IsInBoard s b w
in_board s sound b i w c h lt =
    let e : cell_end c ≡ cell_end (cell_shape h.entry.cell) = ap cell_end h.shape in
    let k = sound.boards.cells b i h.entry h.found in
    record { drawn = drawn_in s sound b i c h; inside = omega (arith, e, k.inside); few = sound.boards.short b i h.entry h.found }

head_of : (s : State) → Sound s → (b i : ℕ) (c : CellShape) → IsEntryOf s.standing.tables b i c → 0 < c.head
head_of s sound b i c h = subst (λ (x : CellShape). 0 < x.head) (sym h.shape) (sound.boards.cells b i h.entry h.found).head

read_inside : (c : CellShape) (list : List (List ℕ)) (n p b d i : ℕ) (x : Reading) → 0 < c.head → IsReading list c.words n p x → owed_read b c x ≡ to_read d i → (b ≡ d) × (i < cell_end c)
read_inside c list n p b d i opening h t e =
    let q : c.first ≡ i = cc in (cc, omega arith)
read_inside c list n p b d i (trying k ws) h t e = at (length ws == c.words) (eqb-false (length ws) c.words) e
  where
    at : (z : Bool) → (z ≡ false → length ws ≡ c.words → ⊥) → to_read b (if z then c.first else current_at c k + length ws) ≡ to_read d i → (b ≡ d) × (i < cell_end c)
    at true f q =
        let j : c.first ≡ i = cc (q) in (cc (q), omega arith)
    at false f q =
        let j : current_at c k + length ws ≡ i = cc (q) in
        let s = copy_inside c (k + 1) in
        let ne = f refl in (cc (q), omega (arith, t.size, s.high, ne))
read_inside c list n p b d i (finished k ws) h t e = absurd t

write_inside : (c : CellShape) (g : ℕ) (words : List ℕ) (k b d i v : ℕ) → 0 < c.head → length words ≡ c.words → k ≤ c.words → owed_write b c g words k ≡ to_write d i v → (b ≡ d) × (i < cell_end c)
write_inside c g words k b d i v h size le e = at (k == length words) (eqb-false k (length words)) e
  where
    at : (z : Bool) → (z ≡ false → k ≡ length words → ⊥) → (if z then to_write b c.first (g + 1) else to_write b (spare_at c g + k) (slice_index words k)) ≡ to_write d i v → (b ≡ d) × (i < cell_end c)
    at true f q =
        let j : c.first ≡ i = cc (q) in (cc (q), omega arith)
    at false f q =
        let j : spare_at c g + k ≡ i = cc (q) in
        let s = copy_inside c g in
        let ne = f refl in (cc (q), omega (arith, s.high, ne))

-- a publication reads nothing
no_read : (c : CellShape) (g : ℕ) (words : List ℕ) (k b d i : ℕ) → owed_write b c g words k ≡ to_read d i → ⊥
no_read c g words k b d i e = at (k == length words) e
  where
    at : (z : Bool) → (if z then to_write b c.first (g + 1) else to_write b (spare_at c g + k) (slice_index words k)) ≡ to_read d i → ⊥
    at true q = cc (q)
    at false q = cc (q)

-- and a get writes nothing
pub no_write : (c : CellShape) (x : Reading) (b d i v : ℕ) → owed_read b c x ≡ to_write d i v → ⊥
no_write c opening b d i v e = cc (e)
no_write c (trying k ws) b d i v e = cc (e)
no_write c (finished k ws) b d i v e = cc (e)

call_read : (s : State) → Sound s → (party : List ℕ) (r : Running) (b i : ℕ) (q : Request) → IsCalling s party r q → owed q r.so_far ≡ to_read b i → IsInBoard s b i
call_read s sound party r b i (table c) h e = absurd cc
call_read s sound party r b i (get f) h e =
    let x = read_inside f.shape (s.published f.board f.entry) (length r.so_far) r.passed f.board b i (reading f.shape.words r.so_far) (head_of s sound f.board f.entry f.shape h.place) h.try e in
    subst (λ (n : ℕ). IsInBoard s n i) x.0 (in_board s sound f.board f.entry i f.shape h.place x.1)
call_read s sound party r b i (fresh l) h e =
    let p : l.board ≡ b = cc in
    let q : l.shape.first ≡ i = cc in
    let k = head_of s sound l.board l.entry l.shape h.1.place in
    subst (λ (n : ℕ). IsInBoard s n i) p (in_board s sound l.board l.entry i l.shape h.1.place (omega arith))
call_read s sound party r b i (update u) h e = absurd (no_read u.shape u.generation (value_words u.value) (length r.so_far) u.board b i e)
call_read s sound party r b i (put l j w) h e = absurd cc
call_read s sound party r b i (publish l) h e = absurd cc
call_read s sound party r b i (fill l v) h e = absurd (no_read l.shape l.generation (value_words v) (length r.so_far) l.board b i e)

call_write : (s : State) → Sound s → (party : List ℕ) (r : Running) (b i v : ℕ) (q : Request) → IsCalling s party r q → owed q r.so_far ≡ to_write b i v → IsInBoard s b i
call_write s sound party r b i v (table c) h e = absurd cc
call_write s sound party r b i v (get f) h e = absurd (no_write f.shape (reading f.shape.words r.so_far) f.board b i v e)
call_write s sound party r b i v (fresh l) h e = absurd cc
call_write s sound party r b i v (update u) h e =
    let x = write_inside u.shape u.generation (value_words u.value) (length r.so_far) u.board b i v (head_of s sound u.board u.entry u.shape h.writes.place) h.size h.steps e in
    subst (λ (n : ℕ). IsInBoard s n i) x.0 (in_board s sound u.board u.entry i u.shape h.writes.place x.1)
call_write s sound party r b i v (put l j w) h e =
    let p : l.board ≡ b = cc in
    let q : spare_at l.shape l.generation + j ≡ i = cc in
    let k = copy_inside l.shape l.generation in
    subst (λ (n : ℕ). IsInBoard s n i) p (in_board s sound l.board l.entry i l.shape h.1.writes.place (omega (arith, k.high, h.1.below)))
call_write s sound party r b i v (publish l) h e =
    let p : l.board ≡ b = cc in
    let q : l.shape.first ≡ i = cc in
    let k = head_of s sound l.board l.entry l.shape h.2.writes.place in
    subst (λ (n : ℕ). IsInBoard s n i) p (in_board s sound l.board l.entry i l.shape h.2.writes.place (omega arith))
call_write s sound party r b i v (fill l z) h e =
    let x = write_inside l.shape l.generation (value_words z) (length r.so_far) l.board b i v (head_of s sound l.board l.entry l.shape h.1.writes.place) h.1.size h.1.steps e in
    subst (λ (n : ℕ). IsInBoard s n i) x.0 (in_board s sound l.board l.entry i l.shape h.1.writes.place x.1)

pub read_in_board : OwedReadsAreInside
read_in_board s party r b i sound run e = call_read s sound party r b i r.request (runs s party r r.request sound run refl) e

pub write_in_board : OwedWritesAreInside
write_in_board s party r b i v sound run e = call_write s sound party r b i v r.request (runs s party r r.request sound run refl) e
