-- The views of a table, and what a step of one seat leaves of the others.
use Rattle.std.proofs.Common.{◌≡◌, ◌≢◌, ℕ, zero, suc, ◌≤◌, List, [], ◌∷◌, set, refl, sym, ap, ◌∙◌, subst, ⊎_elim, arith}
use Rattle.std.specs.List.{All}
use Rattle.std.proofs.lemmas.List.Elements.{All-weaker}
use lib.ListN.{get_elem?}
use mathlib.Core.Option.{some, some-injective, some-ne-none}
use Rattle.atomic_table.specs.Table.{State, Me}
use Rattle.atomic_table.proofs.Lists.{at_set, set_else}
use Rattle.board_cell.specs.Rule.{AreReached, ReaderFits, Fits, KeptBy, Kept}
use Rattle.board_cell.specs.Views.{writer_of}
use Rattle.board_cell.specs.declared.threaded.view.Note.{Note}
use Rattle.board_cell.specs.declared.threaded.view.WriterView.{WriterView}
use Rattle.board_cell.specs.declared.threaded.view.ReaderView.{ReaderView}
use Rattle.board_cell.specs.declared.threaded.view.View.{View}
use Rattle.board_cell.specs.declared.threaded.view.View.TheVariants.{Writer, Reader}

abbrev pub St : Type 0
St = State (Unit {0}) View

abbrev pub M : Type 0
M = Me (Unit {0}) View

pub set_there : (views : List View) (i : ℕ) (a b : View) → get_elem? views i ≡ some b → get_elem? (set views i a) i ≡ some a
set_there [] i a b e = absurd (some-ne-none b (sym e))
set_there (x ∷ xs) zero a b e = refl
set_there (x ∷ xs) (suc i) a b e = set_there xs i a b e

pub fits_set : (published : List (List ℕ)) (seat : ℕ) (views : List View) (by : ℕ) (w : View) → ((j : ℕ) (u : View) → get_elem? views j ≡ some u → Fits published seat j u) → Fits published seat by w → (j : ℕ) (u : View) → get_elem? (set views by w) j ≡ some u → Fits published seat j u
fits_set published seat views by w others mine j u e =
    ⊎_elim
    (λ (x : (j ≡ by) × (w ≡ u)). subst (λ (y : ℕ × View). Fits published seat y.0 y.1) (λ i. (sym x.0 i, x.1 i)) mine)
    (λ (x : (j ≢ by) × (get_elem? views j ≡ some u)). others j u x.1)
    (at_set views by j w u e)

pub not_both : (x : WriterView) (y : ReaderView) → some (Writer x) ≡ some (Reader y) → ⊥
not_both x y e = let f : Writer x ≡ Reader y = some-injective _ _ e in cc

module _ (w : ℕ) where
  -- a reader's seat is not the writer's
  pub elsewhere : (s : St) (seat : ℕ) (x : WriterView) (r : KeptBy w seat x s) (id : ℕ) (y : ReaderView) → get_elem? s.views id ≡ some (Reader y) → seat ≢ id
  elsewhere s seat x r id y at e = not_both x y (sym (subst (λ (j : ℕ). get_elem? s.views j ≡ some (Writer x)) e r.there) ∙ at)

  -- the writer's seat has the writer's view
  pub mine : (s : St) (r : Kept w s) (id : ℕ) (x : WriterView) → get_elem? s.views id ≡ some (Writer x) → KeptBy w id x s
  mine s r id x at = let here : id ≡ r.0 = (r.2.each_view id (Writer x) at).alone in
      let same : r.1 ≡ x = ap writer_of (some-injective _ _ (sym r.2.there ∙ (subst (λ (j : ℕ). get_elem? s.views j ≡ some (Writer x)) here at))) in
      subst (λ (z : ℕ × WriterView). KeptBy w z.0 z.1 s) (λ i. (sym here i, same i)) r.2

-- what was reached before a later counter is reached after it
pub lift : (published : List (List ℕ)) (x : ReaderView) (n : ℕ) → ReaderFits published x → x.reached ≤ n → AreReached n x.notes × (All (λ y. y ≤ n) x.loads) × AreReached n x.copies
lift published x n f h = (
  All-weaker (λ (y : Note). y.generation ≤ x.reached) (λ (y : Note). y.generation ≤ n) (λ y k. omega arith) x.notes f.notes_reached,
  All-weaker (λ y. y ≤ x.reached) (λ y. y ≤ n) (λ y k. omega arith) x.loads f.loads_reached,
  All-weaker (λ (y : Note). y.generation ≤ x.reached) (λ (y : Note). y.generation ≤ n) (λ y k. omega arith) x.copies f.copies_reached,
)

pub untouched : (views : List View) (id other : ℕ) (v u : View) → ¬ (other ≡ id) → get_elem? (set views id v) other ≡ some u → get_elem? views other ≡ some u
untouched views id other v u apart e = sym (set_else views id other v apart) ∙ e
