-- Each step of a reader keeps the rule.
use Rattle.std.proofs.Common.{◌≡◌, ℕ, suc, ◌+◌, ◌<◌, ◌≤◌, Bool, true, false, eqb, List, [], ◌∷◌, ◌++◌, length, take, get_or, set, refl, sym, ap, ◌∙◌, subst, arith, length-append}
use Rattle.std.specs.List.{All}
use Rattle.std.proofs.lemmas.List.Elements.{All-push}
use Rattle.std.proofs.lemmas.List.{take_all}
use lib.Seq.{set-get_or, take-suc}
use lib.ListN.{get_elem?}
use mathlib.Core.Option.{none, some}
use Rattle.atomic_table.specs.Table.{step, keeps, stepped, Allows}
use Rattle.atomic_table.proofs.Lists.{set_else}
use Rattle.board_cell_model.specs.OwedAccesses.{copy_at}
use Rattle.board_cell.specs.Passes.{threaded_shape, note, Stands, NotesRise}
use Rattle.board_cell.specs.Rule.{last_of, ReaderFits, Kept}
use Rattle.board_cell.specs.Views.{reader_of, with_open, with_found, noted_if, with_close, with_load, opens, reads, closes, glances}
use Rattle.board_cell.specs.declared.threaded.view.Note.{Note}
use Rattle.board_cell.specs.declared.threaded.view.ReaderView.{ReaderView}
use Rattle.board_cell.specs.declared.threaded.view.View.TheVariants.{Reader}
use Rattle.board_cell.proofs.Notes.{last_stands, last_is_even, rising_push, notes_rise_push}
use Rattle.board_cell.proofs.ViewLemmas.{St, M, fits_set, elsewhere, lift}

module _ (w : ℕ) where
  -- a reader's step that changes no word
  moved : (s : St) (r : Kept w s) (i id : ℕ) (cs : List (ℕ × Unit {0})) (x x' : ReaderView) → get_elem? s.views id ≡ some (Reader x) → ReaderFits r.1.published x' → Kept w (stepped s i (get_or s.words i 0) id cs (Reader x') keeps)
  moved s r i id cs x x' at fits = subst (λ (ws : List ℕ). Kept w record { words = ws; homes = s.homes; views = set s.views id (Reader x') }) (sym (set-get_or s.words i 0)) (
    r.0,
    r.1,
    record {
      there = set_else s.views id r.0 (Reader x') (elsewhere w s r.0 r.1 r.2 id x at) ∙ r.2.there;
      wide = r.2.wide;
      even = r.2.even;
      begun = r.2.begun;
      short = r.2.short;
      counter = r.2.counter;
      current = r.2.current;
      spare = r.2.spare;
      each_view = fits_set r.1.published r.0 s.views id (Reader x') r.2.each_view fits;
    },
  )

open_fits : (published : List (List ℕ)) (x : ReaderView) (n : ℕ) → ReaderFits published x → n ≡ length published → ReaderFits published (with_open x n)
open_fits published x n f e = let t = f.reached_kept in let up = lift published x n f (omega arith) in record {
  noted = f.noted;
  copied = f.copied;
  notes_rise = f.notes_rise;
  loads_rise = rising_push x.loads n f.loads_rise up.1;
  notes_reached = up.0;
  copies_reached = up.2;
  loads_reached = All-push (λ y. y ≤ n) x.loads n up.1 (omega arith);
  reached_kept = omega arith;
  opened_kept = omega arith;
  found_is = λ _. refl;
}

load_fits : (published : List (List ℕ)) (x : ReaderView) (n : ℕ) → ReaderFits published x → n ≡ length published → ReaderFits published (with_load x n)
load_fits published x n f e = let t = f.reached_kept in let up = lift published x n f (omega arith) in record {
  noted = f.noted;
  copied = f.copied;
  notes_rise = f.notes_rise;
  loads_rise = rising_push x.loads n f.loads_rise up.1;
  notes_reached = up.0;
  copies_reached = up.2;
  loads_reached = All-push (λ y. y ≤ n) x.loads n up.1 (omega arith);
  reached_kept = omega arith;
  opened_kept = f.opened_kept;
  found_is = f.found_is;
}

read_fits : (published : List (List ℕ)) (x : ReaderView) (n : ℕ) → ReaderFits published x → (x.opened ≡ length published → (length x.found < length (last_of published)) × (n ≡ get_or (last_of published) (length x.found) 0)) → ReaderFits published (with_found x n)
read_fits published x n f next = record {
  noted = f.noted;
  copied = f.copied;
  notes_rise = f.notes_rise;
  loads_rise = f.loads_rise;
  notes_reached = f.notes_reached;
  copies_reached = f.copies_reached;
  loads_reached = f.loads_reached;
  reached_kept = f.reached_kept;
  opened_kept = f.opened_kept;
  found_is = λ e. let h = next e in let l = last_of published in let k : ℕ = length x.found in let len : suc k ≡ length (x.found ++ n ∷ []) = omega (arith, length-append x.found (n ∷ [])) in
      (λ i. f.found_is e i ++ h.1 i ∷ []) ∙ (sym (take-suc l k 0 h.0) ∙ ap (λ (m : ℕ). take m l) len);
}

stands_if : (published : List (List ℕ)) (b : Bool) (notes : List Note) (n : Note) → (b ≡ true → Stands published n) → All (Stands published) notes → All (Stands published) (noted_if b notes n)
stands_if published true notes n h a = All-push (Stands published) notes n a (h refl)
stands_if published false notes n h a = a

rises_if : (b : Bool) (notes : List Note) (n : Note) → NotesRise notes → All (λ (y : Note). y.generation ≤ n.generation) notes → NotesRise (noted_if b notes n)
rises_if true notes n r a = notes_rise_push notes n r a
rises_if false notes n r a = r

reached_if : (b : Bool) (notes : List Note) (n : Note) → All (λ (y : Note). y.generation ≤ n.generation) notes → All (λ (y : Note). y.generation ≤ n.generation) (noted_if b notes n)
reached_if true notes n a = All-push (λ (y : Note). y.generation ≤ n.generation) notes n a (omega arith)
reached_if false notes n a = a

close_fits : (w : ℕ) (published : List (List ℕ)) (x : ReaderView) (n : ℕ) → ReaderFits published x → n ≡ length published → 0 < length published → length (last_of published) ≡ w → length x.found ≡ w → ReaderFits published (with_close x n)
close_fits w published x n f e begun even whole = let t = f.reached_kept in let up = lift published x n f (omega arith) in let b = eqb n x.opened in record {
  noted = stands_if published b x.notes (note n x.found) (λ (hit : eqb n x.opened ≡ true). let is : n ≡ x.opened = grind (arith, hit) in
      subst (λ (ws : List ℕ). Stands published (note n ws)) (sym (f.found_is (sym is ∙ e) ∙ take_all (length x.found) (last_of published) (omega arith))) (last_stands published n begun e)) f.noted;
  copied = f.copied;
  notes_rise = rises_if b x.notes (note n x.found) f.notes_rise up.0;
  loads_rise = rising_push x.loads n f.loads_rise up.1;
  notes_reached = reached_if b x.notes (note n x.found) up.0;
  copies_reached = up.2;
  loads_reached = All-push (λ y. y ≤ n) x.loads n up.1 (omega arith);
  reached_kept = omega arith;
  opened_kept = omega arith;
  found_is = λ _. refl;
}

module _ (w : ℕ) (slots id : ℕ) (me : M) where
  module _ (x : ReaderView) (is : me.0 ≡ Reader x) where
    known : (s : St) (r : Kept w s) → get_elem? s.views id ≡ some me.0 → (get_elem? s.views id ≡ some (Reader x)) × ReaderFits r.1.published x
    known s r at = let here : get_elem? s.views id ≡ some (Reader x) = at ∙ ap some is in (here, r.2.each_view id (Reader x) here)

    same_reader : (y : ReaderView) → me.0 ≡ Reader y → x ≡ y
    same_reader y e = ap reader_of (sym is ∙ e)

    -- it loads the counter and opens a try
    pub opening_try : Allows (Kept w) slots id me 0 (λ n. n) (opens (step slots 0 0 0 none) me)
    opening_try s r _ at _ = let n : ℕ = get_or s.words 0 0 in let k = known s r at in let c : n ≡ length r.1.published = r.2.counter in let t = k.1.reached_kept in (
      Reader (with_open x n),
      keeps,
      tt,
      moved w s r 0 id me.1 x (with_open x n) k.0 (open_fits r.1.published x n k.1 c),
      λ y e. ((λ i. (Reader (with_open (same_reader y e i) n), me.1)), subst (λ (z : ReaderView). z.reached ≤ n) (same_reader y e) (omega arith)),
    )

    -- it loads a word of the copy
    pub reading_word : (i : ℕ) → i ≡ copy_at (threaded_shape w) (x.opened + 1) + length x.found → length x.found < w → Allows (Kept w) slots id me i (λ n. n) (reads (step slots i 0 0 none) me)
    reading_word i place within s r _ at _ = let n : ℕ = get_or s.words i 0 in let k = known s r at in let even = last_is_even w r.1.published r.2.begun r.2.even in (
      Reader (with_found x n),
      keeps,
      tt,
      moved w s r i id me.1 x (with_found x n) k.0 (read_fits r.1.published x n k.1 (λ now. (omega arith, ap (λ (j : ℕ). get_or s.words j 0) (place ∙ ap (λ (g : ℕ). copy_at (threaded_shape w) (g + 1) + length x.found) now) ∙ r.2.current (length x.found) within))),
      λ y e i'. (Reader (with_found (same_reader y e i') n), me.1),
    )

    -- it loads the counter and closes the try
    pub closing_try : length x.found ≡ w → Allows (Kept w) slots id me 0 (λ n. n) (closes (step slots 0 0 0 none) me)
    closing_try whole s r _ at _ = let n : ℕ = get_or s.words 0 0 in let k = known s r at in let c : n ≡ length r.1.published = r.2.counter in let t = k.1.reached_kept in let o = k.1.opened_kept in (
      Reader (with_close x n),
      keeps,
      tt,
      moved w s r 0 id me.1 x (with_close x n) k.0 (close_fits w r.1.published x n k.1 c r.2.begun (last_is_even w r.1.published r.2.begun r.2.even) whole),
      λ y e. ((λ i. (Reader (with_close (same_reader y e i) n), me.1)), subst (λ (z : ReaderView). z.reached ≤ n) (same_reader y e) (omega arith), subst (λ (z : ReaderView). z.opened ≤ n) (same_reader y e) (omega arith), subst (λ (z : ReaderView). NotesRise (with_close z n).notes) (same_reader y e) (close_fits w r.1.published x n k.1 c r.2.begun (last_is_even w r.1.published r.2.begun r.2.even) whole).notes_rise),
    )

    -- it loads the counter
    pub glancing : Allows (Kept w) slots id me 0 (λ n. n) (glances (step slots 0 0 0 none) me)
    glancing s r _ at _ = let n : ℕ = get_or s.words 0 0 in let k = known s r at in let c : n ≡ length r.1.published = r.2.counter in let t = k.1.reached_kept in (
      Reader (with_load x n),
      keeps,
      tt,
      moved w s r 0 id me.1 x (with_load x n) k.0 (load_fits r.1.published x n k.1 c),
      λ y e. ((λ i. (Reader (with_load (same_reader y e i) n), me.1)), subst (λ (z : ReaderView). z.reached ≤ n) (same_reader y e) (omega arith)),
    )

pub opening_at : (w slots id : ℕ) (me : M) (x : ReaderView) → me.0 ≡ Reader x → (i : ℕ) → i ≡ 0 → Allows (Kept w) slots id me i (λ n. n) (opens (step slots i 0 0 none) me)
opening_at w slots id me x is i zeroth = subst (λ (j : ℕ). Allows (Kept w) slots id me j (λ n. n) (opens (step slots j 0 0 none) me)) (sym zeroth) (opening_try w slots id me x is)

pub closing_at : (w slots id : ℕ) (me : M) (x : ReaderView) → me.0 ≡ Reader x → (i : ℕ) → i ≡ 0 → length x.found ≡ w → Allows (Kept w) slots id me i (λ n. n) (closes (step slots i 0 0 none) me)
closing_at w slots id me x is i zeroth whole = subst (λ (j : ℕ). Allows (Kept w) slots id me j (λ n. n) (closes (step slots j 0 0 none) me)) (sym zeroth) (closing_try w slots id me x is whole)

pub glancing_at : (w slots id : ℕ) (me : M) (x : ReaderView) → me.0 ≡ Reader x → (i : ℕ) → i ≡ 0 → Allows (Kept w) slots id me i (λ n. n) (glances (step slots i 0 0 none) me)
glancing_at w slots id me x is i zeroth = subst (λ (j : ℕ). Allows (Kept w) slots id me j (λ n. n) (glances (step slots j 0 0 none) me)) (sym zeroth) (glancing w slots id me x is)
