-- Lists of notes and of loads.
use Rattle.std.proofs.Common.{◌≡◌, ℕ, zero, suc, ◌-◌, ◌<◌, ◌≤◌, List, [], ◌∷◌, ◌++◌, length, Some, refl, subst, arith}
use Rattle.std.specs.Prelude.{slice_get}
use Rattle.std.specs.List.{All}
use Rattle.std.proofs.lemmas.List.Elements.{All-weaker, All-push, All-nil, All-head, All-tail}
use Rattle.board_cell.specs.Passes.{note, Stands, NotesRise}
use Rattle.board_cell.specs.Rule.{last_of, IsRising, AreReached}
use Rattle.board_cell.specs.declared.threaded.view.Note.{Note}

pub slice_get_front : {X : Type 0} (xs ys : List X) (k : ℕ) (x : X) → slice_get xs k ≡ Some x → slice_get (xs ++ ys) k ≡ Some x
slice_get_front [] ys k x e = absurd (cc)
slice_get_front (z ∷ xs) ys zero x e = e
slice_get_front (z ∷ xs) ys (suc k) x e = slice_get_front xs ys k x e

pub all_stand_longer : (published : List (List ℕ)) (item : List ℕ) (notes : List Note) → All (Stands published) notes → All (Stands (published ++ item ∷ [])) notes
all_stand_longer published item notes h = All-weaker (Stands published) (Stands (published ++ item ∷ [])) (λ n p. record { counted = p.counted; item = slice_get_front published (item ∷ []) (n.generation - 1) n.words p.item }) notes h

pub last_of-push : (xs : List (List ℕ)) (x : List ℕ) → last_of (xs ++ x ∷ []) ≡ x
last_of-push [] x = refl
last_of-push (y ∷ []) x = refl
last_of-push (y ∷ z ∷ xs) x = last_of-push (z ∷ xs) x

at_end : (x : List ℕ) (xs : List (List ℕ)) → slice_get (x ∷ xs) (length xs) ≡ Some (last_of (x ∷ xs))
at_end x [] = refl
at_end x (y ∷ ys) = at_end y ys

pub last_stands : (published : List (List ℕ)) (n : ℕ) → 0 < length published → n ≡ length published → Stands published (note n (last_of published))
last_stands [] n h e = absurd (omega arith)
last_stands (x ∷ xs) n h e = let is : length xs ≡ n - 1 = omega arith in record { counted = omega arith; item = subst (λ (k : ℕ). slice_get (x ∷ xs) k ≡ Some (last_of (x ∷ xs))) is (at_end x xs) }

pub last_is_even : (w : ℕ) (published : List (List ℕ)) → 0 < length published → All (λ (item : List ℕ). length item ≡ w) published → length (last_of published) ≡ w
last_is_even w [] h a = absurd (omega arith)
last_is_even w (x ∷ []) h a = All-head (λ (item : List ℕ). length item ≡ w) x [] a
last_is_even w (x ∷ y ∷ ys) h a = last_is_even w (y ∷ ys) (omega arith) (All-tail (λ (item : List ℕ). length item ≡ w) x (y ∷ ys) a)

pub rising_push : (xs : List ℕ) (n : ℕ) → IsRising xs → All (λ y. y ≤ n) xs → IsRising (xs ++ n ∷ [])
rising_push [] n r a = (All-nil (λ y. n ≤ y), tt)
rising_push (x ∷ xs) n r a = (All-push (λ y. x ≤ y) xs n r.0 (All-head (λ y. y ≤ n) x xs a), rising_push xs n r.1 (All-tail (λ y. y ≤ n) x xs a))

pub notes_rise_push : (xs : List Note) (n : Note) → NotesRise xs → AreReached n.generation xs → NotesRise (xs ++ n ∷ [])
notes_rise_push [] n r a = (All-nil (λ (y : Note). n.generation ≤ y.generation), tt)
notes_rise_push (x ∷ xs) n r a = (All-push (λ (y : Note). x.generation ≤ y.generation) xs n r.0 (All-head (λ (y : Note). y.generation ≤ n.generation) x xs a), notes_rise_push xs n r.1 (All-tail (λ (y : Note). y.generation ≤ n.generation) x xs a))
