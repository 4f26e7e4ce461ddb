-- Each step of the writer keeps the rule.
use Rattle.std.proofs.Common.{◌≡◌, ℕ, suc, ◌+◌, ◌<◌, ◌≤◌, List, [], ◌∷◌, ◌++◌, length, get_or, set, refl, sym, ap, ◌∙◌, subst, arith, length-append, length-set, get_or-set_other, get_or-set_same}
use Rattle.std.specs.List.{All}
use Rattle.std.proofs.lemmas.List.Elements.{All-push}
use lib.Seq.{set-get_or}
use lib.ListN.{get_elem?, get_or-append}
use mathlib.Core.Logic.{dite}
use mathlib.Core.Option.{none, some}
use native.Mathlib.Decide.{ℕ_discrete}
use Rattle.atomic_table.specs.Table.{step, keeps, Allows}
use Rattle.atomic_table.proofs.Lists.{set_again}
use Rattle.board_cell_model.specs.OwedAccesses.{copy_at}
use Rattle.board_cell.specs.Passes.{threaded_shape, Stands}
use Rattle.board_cell.specs.Rule.{Fits, KeptBy, Kept}
use Rattle.board_cell.specs.Views.{writer_of, with_pending, with_publish, puts, publishes, looks}
use Rattle.board_cell.specs.declared.threaded.view.WriterView.{WriterView}
use Rattle.board_cell.specs.declared.threaded.view.View.{View}
use Rattle.board_cell.specs.declared.threaded.view.View.TheVariants.{Spent, Writer, Reader}
use Rattle.board_cell.proofs.Notes.{all_stand_longer, last_of-push}
use Rattle.board_cell.proofs.CopyPlaces.{copies_apart, copy_within, two_on}
use Rattle.board_cell.proofs.ViewLemmas.{St, M, set_there, fits_set, mine}

at_push : (xs : List ℕ) (b : ℕ) → get_or (xs ++ b ∷ []) (length xs) 0 ≡ b
at_push [] b = refl
at_push (x ∷ xs) b = at_push xs b

-- what a view knows stays true of a longer published
grown : (published : List (List ℕ)) (item : List ℕ) (seat by : ℕ) (v : View) → Fits published seat by v → Fits (published ++ item ∷ []) seat by v
grown published item seat by Spent f = tt
grown published item seat by (Writer x) f = let t = f.reached_kept in record { alone = f.alone; copied = all_stand_longer published item x.copies f.copied; copies_reached = f.copies_reached; reached_kept = omega (arith, length-append published (item ∷ [])) }
grown published item seat by (Reader x) f = let t = f.reached_kept in let o = f.opened_kept in record {
  noted = all_stand_longer published item x.notes f.noted;
  copied = all_stand_longer published item x.copies f.copied;
  notes_rise = f.notes_rise;
  loads_rise = f.loads_rise;
  notes_reached = f.notes_reached;
  copies_reached = f.copies_reached;
  loads_reached = f.loads_reached;
  reached_kept = omega (arith, length-append published (item ∷ []));
  opened_kept = omega (arith, length-append published (item ∷ []));
  found_is = λ e. absurd (omega (arith, length-append published (item ∷ [])));
}

module _ (w : ℕ) (slots id : ℕ) (me : M) where
  module _ (x : WriterView) (is : me.0 ≡ Writer x) where
    here : (s : St) → Kept w s → get_elem? s.views id ≡ some me.0 → KeptBy w id x s
    here s r at = mine w s r id x (at ∙ ap some is)

    at_writer : (s : St) → get_elem? s.views id ≡ some me.0 → get_elem? s.views id ≡ some (Writer x)
    at_writer s at = at ∙ ap some is

    same_writer : (y : WriterView) → me.0 ≡ Writer y → x ≡ y
    same_writer y e = ap writer_of (sym is ∙ e)

    -- it stores a word of the spare copy
    pub putting : (i b : ℕ) → i ≡ copy_at (threaded_shape w) (length x.published) + length x.pending → length x.pending < w → Allows (Kept w) slots id me i (λ _. b) (λ _. puts (step slots i b 0 none) me b)
    putting i b place within s r _ at _ = let k = here s r at in let wide = k.wide in let n : ℕ = length x.published in let p : ℕ = length x.pending in let bounds = copy_within w n p within in
        let len : length (x.pending ++ b ∷ []) ≡ suc p = omega (arith, length-append x.pending (b ∷ [])) in
        let fits : Fits x.published id id (Writer x) = k.each_view id (Writer x) (at_writer s at) in (
          Writer (with_pending x b),
          keeps,
          tt,
          (
            id,
            with_pending x b,
            record {
              there = set_there s.views id (Writer (with_pending x b)) me.0 at;
              wide = length-set s.words i b ∙ wide;
              even = k.even;
              begun = k.begun;
              short = omega arith;
              counter = get_or-set_other s.words i 0 b 0 (λ e. omega arith) ∙ k.counter;
              current = λ j l. get_or-set_other s.words i (copy_at (threaded_shape w) (n + 1) + j) b 0 (λ e. copies_apart w n j p l within (e ∙ place)) ∙ k.current j l;
              spare = λ j l. dite (ℕ_discrete j p)
                  (λ e. ap (λ (m : ℕ). get_or (set s.words i b) m 0) (ap (λ (m : ℕ). copy_at (threaded_shape w) n + m) e ∙ sym place) ∙ (get_or-set_same s.words i b 0 (omega arith) ∙ (sym (at_push x.pending b) ∙ ap (λ (m : ℕ). get_or (x.pending ++ b ∷ []) m 0) (sym e))))
                  (λ other. get_or-set_other s.words i (copy_at (threaded_shape w) n + j) b 0 (λ e. other (omega arith)) ∙ (k.spare j (omega arith) ∙ sym (get_or-append x.pending (b ∷ []) 0 j (omega arith))));
              each_view = fits_set x.published id s.views id (Writer (with_pending x b)) k.each_view (record { alone = fits.alone; copied = fits.copied; copies_reached = fits.copies_reached; reached_kept = fits.reached_kept });
            },
          ),
          λ y e i'. (Writer (with_pending (same_writer y e i') b), me.1),
        )

    -- it raises the counter
    pub publishing : (v : ℕ) → v ≡ length x.published + 1 → length x.pending ≡ w → Allows (Kept w) slots id me 0 (λ _. v) (λ _. publishes (step slots 0 v 0 none) me v)
    publishing v next whole s r _ at _ = let k = here s r at in let wide = k.wide in let n : ℕ = length x.published in let published : List (List ℕ) = x.published ++ x.pending ∷ [] in
        let len : length published ≡ n + 1 = omega (arith, length-append x.published (x.pending ∷ [])) in
        let fits : Fits x.published id id (Writer x) = k.each_view id (Writer x) (at_writer s at) in (
          Writer (with_publish x),
          keeps,
          tt,
          (
            id,
            with_publish x,
            record {
              there = set_there s.views id (Writer (with_publish x)) me.0 at;
              wide = length-set s.words 0 v ∙ wide;
              even = All-push (λ (item : List ℕ). length item ≡ w) x.published x.pending k.even whole;
              begun = omega arith;
              short = omega arith;
              counter = get_or-set_same s.words 0 v 0 (omega arith) ∙ (next ∙ sym len);
              current = λ j l. let bounds = copy_within w n j l in ap (λ (m : ℕ). get_or (set s.words 0 v) (m + j) 0) (ap (λ (m : ℕ). copy_at (threaded_shape w) (m + 1)) len ∙ two_on w n) ∙ (get_or-set_other s.words 0 (copy_at (threaded_shape w) n + j) v 0 (λ e. omega arith) ∙ (k.spare j (omega arith) ∙ ap (λ (item : List ℕ). get_or item j 0) (sym (last_of-push x.published x.pending))));
              spare = λ j l. absurd (omega arith);
              each_view = fits_set published id s.views id (Writer (with_publish x)) (λ j u e. grown x.published x.pending id j u (k.each_view j u e)) (grown x.published x.pending id id (Writer (with_publish x)) (record { alone = fits.alone; copied = fits.copied; copies_reached = fits.copies_reached; reached_kept = fits.reached_kept }));
            },
          ),
          λ y e i'. (Writer (with_publish (same_writer y e i')), me.1),
        )

    -- it loads the counter
    pub looking : Allows (Kept w) slots id me 0 (λ n. n) (looks (step slots 0 0 0 none) me)
    looking s r _ at _ = let k = here s r at in let fits : Fits x.published id id (Writer x) = k.each_view id (Writer x) (at_writer s at) in (
      me.0,
      keeps,
      tt,
      subst (λ (z : List ℕ × List View). Kept w record { words = z.0; homes = s.homes; views = z.1 }) (λ i. (sym (set-get_or s.words 0 0) i, sym (set_again s.views id me.0 at) i)) r,
      (refl, λ y e. subst (λ (z : WriterView). All (Stands z.published) z.copies × (z.reached ≤ length z.published) × (get_or s.words 0 0 ≡ length z.published)) (same_writer y e) (fits.copied, fits.reached_kept, k.counter)),
    )

pub publishing_at : (w slots id : ℕ) (me : M) (x : WriterView) → me.0 ≡ Writer x → (i v : ℕ) → i ≡ 0 → v ≡ length x.published + 1 → length x.pending ≡ w → Allows (Kept w) slots id me i (λ _. v) (λ _. publishes (step slots i v 0 none) me v)
publishing_at w slots id me x is i v zeroth next whole = subst (λ (j : ℕ). Allows (Kept w) slots id me j (λ _. v) (λ _. publishes (step slots j v 0 none) me v)) (sym zeroth) (publishing w slots id me x is v next whole)
