-- A table of a cell begins under its rule, and seats are split and joined under it.
use Rattle.std.proofs.Common.{◌≡◌, ℕ, zero, suc, ◌+◌, ◌<◌, ◌≤◌, max, List, [], ◌∷◌, ◌++◌, length, get_or, set, refl, sym, ap, ◌∙◌, subst, ⊎_elim, arith, length-append, replicate}
use Rattle.std.proofs.lemmas.List.{length-replicate}
use Rattle.std.specs.List.{All}
use Rattle.std.proofs.lemmas.List.Elements.{All-append, All-weaker, All-nil}
use lib.ListN.{get_elem?, get_or-append}
use mathlib.Core.Option.{some, some-injective, some-ne-none}
use Rattle.atomic_table.specs.Table.{opening, Splits, Joins}
use Rattle.atomic_table.proofs.Lists.{at_snoc, at_longer, set_again, set_else}
use Rattle.board_cell_model.specs.OwedAccesses.{current_at}
use Rattle.board_cell.specs.Passes.{threaded_shape, Stands}
use Rattle.board_cell.specs.Rule.{ReaderFits, Fits, Kept, new_cell_words, opening_view}
use Rattle.board_cell.specs.Views.{writer_of, reader_of, newcomer, writer_with, reader_with, joined_view}
use Rattle.board_cell.specs.declared.threaded.view.Note.{Note}
use Rattle.board_cell.specs.declared.threaded.view.WriterView.{WriterView}
use Rattle.board_cell.specs.declared.threaded.view.ReaderView.{ReaderView}
use Rattle.board_cell.specs.declared.threaded.view.View.{View}
use Rattle.board_cell.specs.declared.threaded.view.View.TheVariants.{Spent, Writer, Reader}
use Rattle.board_cell.proofs.ViewLemmas.{set_there, fits_set, elsewhere, mine, lift, untouched}

newcomer_fits : (published : List (List ℕ)) (seat by new : ℕ) (v : View) → ((x : WriterView) → v ≡ Writer x → x.published ≡ published) → 0 < length published → Fits published seat by v → Fits published seat new (newcomer v)
newcomer_fits published seat by new Spent own begun f = tt
newcomer_fits published seat by new (Writer x) own begun f = let same = ap length (own x refl) in record {
  noted = All-nil (Stands published);
  copied = All-nil (Stands published);
  notes_rise = tt;
  loads_rise = tt;
  notes_reached = All-nil (λ (y : Note). y.generation ≤ length x.published);
  copies_reached = All-nil (λ (y : Note). y.generation ≤ length x.published);
  loads_reached = All-nil (λ y. y ≤ length x.published);
  reached_kept = omega arith;
  opened_kept = omega arith;
  found_is = λ _. refl;
}
newcomer_fits published seat by new (Reader x) own begun f = let t = f.reached_kept in record {
  noted = All-nil (Stands published);
  copied = f.noted;
  notes_rise = tt;
  loads_rise = tt;
  notes_reached = All-nil (λ (y : Note). y.generation ≤ x.reached);
  copies_reached = f.notes_reached;
  loads_reached = All-nil (λ y. y ≤ x.reached);
  reached_kept = omega arith;
  opened_kept = omega arith;
  found_is = λ _. refl;
}

pub splitting : (w id : ℕ) (v : View) → Splits (Kept w) id v v (newcomer v)
splitting w id v s r at = subst (λ (vs : List View). Kept w record { words = s.words; homes = s.homes; views = vs ++ newcomer v ∷ [] }) (sym (set_again s.views id v at)) (
  r.0,
  r.1,
  record {
    there = at_longer s.views (newcomer v ∷ []) r.0 (Writer r.1) r.2.there;
    wide = r.2.wide;
    even = r.2.even;
    begun = r.2.begun;
    short = r.2.short;
    counter = r.2.counter;
    current = r.2.current;
    spare = r.2.spare;
    each_view = λ j u e. ⊎_elim (r.2.each_view j u)
        (λ (same : newcomer v ≡ u). subst (Fits r.1.published r.0 j) same (newcomer_fits r.1.published r.0 id j v (λ x e'. let f = r.2.each_view id (Writer x) (at ∙ ap some e') in
        ap (λ (z : WriterView). z.published) (ap writer_of (some-injective _ _ (sym (at ∙ ap some e') ∙ (ap (λ (k : ℕ). get_elem? s.views k) f.alone ∙ r.2.there))))) r.2.begun (r.2.each_view id v at)))
        (at_snoc s.views (newcomer v) u j e);
  },
)

with_fits : (published : List (List ℕ)) (x y : ReaderView) → ReaderFits published x → ReaderFits published y → ReaderFits published (reader_with x y)
with_fits published x y f g = let t = f.reached_kept in let t' = g.reached_kept in let up = lift published x (max x.reached y.reached) f (omega arith) in let up' = lift published y (max x.reached y.reached) g (omega arith) in record {
  noted = f.noted;
  copied = All-append (Stands published) x.copies (y.notes ++ y.copies) f.copied (All-append (Stands published) y.notes y.copies g.noted g.copied);
  notes_rise = f.notes_rise;
  loads_rise = f.loads_rise;
  notes_reached = up.0;
  copies_reached = All-append (λ (z : Note). z.generation ≤ max x.reached y.reached) x.copies (y.notes ++ y.copies) up.2 (All-append (λ (z : Note). z.generation ≤ max x.reached y.reached) y.notes y.copies up'.0 up'.2);
  loads_reached = up.1;
  reached_kept = omega arith;
  opened_kept = f.opened_kept;
  found_is = f.found_is;
}

pub joining_reader : (w id : ℕ) (x : ReaderView) (other : ℕ) (y : ReaderView) → Joins (Kept w) id (Reader x) other (Reader y) (Reader (reader_with x y)) Spent
joining_reader w id x other y s r at apart there = let both : View = Reader (reader_with x y) in let at' = untouched s.views id other both (Reader y) apart there in (
  r.0,
  r.1,
  record {
    there = set_else (set s.views id both) other r.0 Spent (elsewhere w s r.0 r.1 r.2 other y at') ∙ (set_else s.views id r.0 both (elsewhere w s r.0 r.1 r.2 id x at) ∙ r.2.there);
    wide = r.2.wide;
    even = r.2.even;
    begun = r.2.begun;
    short = r.2.short;
    counter = r.2.counter;
    current = r.2.current;
    spare = r.2.spare;
    each_view = fits_set r.1.published r.0 (set s.views id both) other Spent (fits_set r.1.published r.0 s.views id both r.2.each_view (with_fits r.1.published x y (r.2.each_view id (Reader x) at) (r.2.each_view other (Reader y) at'))) tt;
  },
)

pub joining_writer : (w id : ℕ) (x : WriterView) (other : ℕ) (y : ReaderView) → Joins (Kept w) id (Writer x) other (Reader y) (Writer (writer_with x y)) Spent
joining_writer w id x other y s r at apart there = let both : View = Writer (writer_with x y) in let at' = untouched s.views id other both (Reader y) apart there in let k = mine w s r id x at in
    let f : Fits x.published id id (Writer x) = k.each_view id (Writer x) at in let g : Fits x.published id other (Reader y) = k.each_view other (Reader y) at' in let t = f.reached_kept in let t' = g.reached_kept in let up' = lift x.published y (max x.reached y.reached) g (omega arith) in (
      id,
      writer_with x y,
      record {
        there = set_else (set s.views id both) other id Spent (λ e. apart (sym e)) ∙ set_there s.views id both (Writer x) at;
        wide = k.wide;
        even = k.even;
        begun = k.begun;
        short = k.short;
        counter = k.counter;
        current = k.current;
        spare = k.spare;
        each_view = fits_set x.published id (set s.views id both) other Spent
            (fits_set x.published id s.views id both k.each_view record { alone = refl; copied = All-append (Stands x.published) x.copies (y.notes ++ y.copies) f.copied (All-append (Stands x.published) y.notes y.copies g.noted g.copied); reached_kept = omega arith; copies_reached = All-append (λ (z : Note). z.generation ≤ max x.reached y.reached) x.copies (y.notes ++ y.copies) (All-weaker (λ (z : Note). z.generation ≤ x.reached) (λ (z : Note). z.generation ≤ max x.reached y.reached) (λ z k. omega arith) x.copies f.copies_reached) (All-append (λ (z : Note). z.generation ≤ max x.reached y.reached) y.notes y.copies up'.0 up'.2) }) tt;
      },
    )

-- the table at the start
pub begins : (item : List ℕ) → Kept (length item) (opening (new_cell_words item) [] (opening_view item))
begins item = (
  0,
  writer_of (opening_view item),
  record {
    there = refl;
    wide = omega (arith, length-append item (replicate (length item) 0), length-replicate {A = ℕ} (length item) 0);
    even = λ k d l. all_alike k d l;
    begun = omega arith;
    short = omega arith;
    counter = refl;
    current = λ i l. let two : suc (suc i) ≡ current_at (threaded_shape (length item)) 1 + i = omega arith in subst (λ (m : ℕ). get_or (new_cell_words item) m 0 ≡ get_or item i 0) two (get_or-append item (replicate (length item) 0) 0 i l);
    spare = λ i l. absurd (omega arith);
    each_view = only;
  },
)
  where
    all_alike : (k : ℕ) (d : List ℕ) → k < length (item ∷ []) → length (get_or (item ∷ []) k d) ≡ length item
    all_alike zero d l = refl
    all_alike (suc k) d l = absurd (omega arith)

    only : (j : ℕ) (v : View) → get_elem? (opening_view item ∷ []) j ≡ some v → Fits (item ∷ []) 0 j v
    only zero v e = subst (Fits (item ∷ []) 0 0) (some-injective _ _ e) record { alone = refl; copied = All-nil (Stands (item ∷ [])); reached_kept = omega arith; copies_reached = All-nil (λ (y : Note). y.generation ≤ 0) }
    only (suc j) v e = absurd (some-ne-none v (sym e))

pub begins_as : (item ws : List ℕ) → ws ≡ new_cell_words item → Kept (length item) (opening ws [] (opening_view item))
begins_as item ws is = subst (λ (l : List ℕ). Kept (length item) (opening l [] (opening_view item))) (sym is) (begins item)

-- the same for views that are known by an equation
pub reader_named : (v : View) (y : ReaderView) → v ≡ Reader y → v ≡ Reader (reader_of v)
reader_named v y e = e ∙ ap Reader (sym (ap reader_of e))

pub joining_reader_as : (w id : ℕ) (v : View) (other : ℕ) (u : View) → v ≡ Reader (reader_of v) → u ≡ Reader (reader_of u) → Joins (Kept w) id v other u (joined_view v u) Spent
joining_reader_as w id v other u e f = subst (λ (z : View × View). Joins (Kept w) id z.0 other z.1 (joined_view z.0 z.1) Spent) (λ i. (sym e i, sym f i)) (joining_reader w id (reader_of v) other (reader_of u))

pub joining_writer_as : (w id : ℕ) (v : View) (other : ℕ) (u : View) → v ≡ Writer (writer_of v) → u ≡ Reader (reader_of u) → Joins (Kept w) id v other u (joined_view v u) Spent
joining_writer_as w id v other u e f = subst (λ (z : View × View). Joins (Kept w) id z.0 other z.1 (joined_view z.0 z.1) Spent) (λ i. (sym e i, sym f i)) (joining_writer w id (writer_of v) other (reader_of u))

pub all_behind : {X : Type 0} (P : X → Type 0) (xs ys : List X) → All P (xs ++ ys) → All P ys
all_behind P [] ys h = h
all_behind P (x ∷ xs) ys h = all_behind P xs ys (λ k d l. h (suc k) d (omega arith))
