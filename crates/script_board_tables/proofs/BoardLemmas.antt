-- The indexes of boards, after a change of them.
use Rattle.std.proofs.Common.{◌≡◌, ℕ, ◌<◌, Bool, true, false, cond, List, [], ◌∷◌, ◌++◌, length, get_or, set, Option, Some, None, refl, sym, ap, ◌∙◌, subst, arith}
use Rattle.std.specs.Prelude.{find, nat_eq}
use Rattle.std.specs.HashMap.{HashMap, get}
use Rattle.std.specs.Str.{bytes_eq}
use Rattle.std.proofs.lemmas.Bool.Decides.{nat_tests}
use Rattle.std.proofs.lemmas.Slice.Eq.{bytes_eq-Decides}
use Rattle.board_model.specs.declared.tables.Board.{Board}
use Rattle.board_model.specs.Tables.{has_name, holds_at, is_numbered}
use Rattle.script_board_tables.specs.Boards.{AreIndexed}
use Rattle.script_things.specs.Places.{IsNowhere, IsOnlyAt, IsPlace, standing}
use Rattle.script_things.proofs.PlaceLemmas.{first_of_only, found_at, gone_set, here_pushed, inside, none_pushed, none_set, other_pushed, other_set, passes_at}
use Rattle.script_board_tables.proofs.BoardPlaces.{any_default, only_here}

-- one index: a test for each key, of which a board passes that of its own key alone
module _ {K : Type 0} (same : K → K → Bool) (decides : (a b : K) → (same a b ≡ true → a ≡ b)) (itself : (a : K) → same a a ≡ true) (key : Board → K) (test : K → Board → Bool) (is : (k : K) (b : Board) → test k b ≡ same (key b) k)
    (m : K → Option ℕ) (places : List (Option Board)) (index : (k : K) → IsPlace (test k) places (m k)) where
  own : (b : Board) → test (key b) b ≡ true
  own b = is (key b) b ∙ itself (key b)

  nowhere : (k : K) → m k ≡ None → IsNowhere (test k) places
  nowhere k e = subst (IsPlace (test k) places) e (index k)

  pub indexed_push : (b : Board) → m (key b) ≡ None → (new : K → Option ℕ) → ((k : K) → new k ≡ cond (same (key b) k) (Some (length places)) (m k)) → (k : K) → IsPlace (test k) (places ++ Some b ∷ []) (new k)
  indexed_push b free new shown k =
      subst (IsPlace (test k) (places ++ Some b ∷ [])) (sym (shown k))
      (elim (same (key b) k) as (λ z. same (key b) k ≡ z → IsPlace (test k) (places ++ Some b ∷ []) (cond z (Some (length places)) (m k))) [
        | true ↦ λ e. here_pushed (test k) places (Some b) (nowhere k (ap m (sym (decides (key b) k e)) ∙ free)) (is k b ∙ e)
        | false ↦ λ e. still (m k) (index k) (is k b ∙ e)
      ] refl)
    where
      still : (o : Option ℕ) → IsPlace (test k) places o → test k b ≡ false → IsPlace (test k) (places ++ Some b ∷ []) o
      still None h e = none_pushed (test k) places (Some b) h e
      still (Some j) h e = other_pushed (test k) places j (Some b) h e

  module _ (b : Board) (j : ℕ) (stands : (d : Option Board) → get_or places j d ≡ Some b) where
    -- it stands at its place alone
    pub indexed_take : IsOnlyAt (test (key b)) places j → (new : K → Option ℕ) → ((k : K) → new k ≡ cond (same (key b) k) None (m k)) → (k : K) → IsPlace (test k) (set places j None) (new k)
    indexed_take only new shown k =
        subst (IsPlace (test k) (set places j None)) (sym (shown k))
        (elim (same (key b) k) as (λ z. same (key b) k ≡ z → IsPlace (test k) (set places j None) (cond z None (m k))) [
          | true ↦ λ e. subst (λ (q : K). IsNowhere (test q) (set places j None)) (decides (key b) k e) (gone_set (test (key b)) places j None only refl)
          | false ↦ λ e. still (m k) (index k) (is k b ∙ e)
        ] refl)
      where
        still : (o : Option ℕ) → IsPlace (test k) places o → test k b ≡ false → IsPlace (test k) (set places j None) o
        still None h e = none_set (test k) places j None h refl
        still (Some i) h e = other_set (test k) places i j None h (λ d lt. ap (λ (o : Option Board). holds_at o (test k)) (stands d) ∙ e) refl

abbrev none_of : Option ℕ
none_of = None

same_number : (a b : ℕ) → nat_eq a b ≡ true → a ≡ b
same_number a b h = grind (arith, nat_tests, h)

number_itself : (a : ℕ) → nat_eq a a ≡ true
number_itself a = grind (arith, nat_tests)

same_text : (a b : List ℕ) → bytes_eq a b ≡ true → a ≡ b
same_text a b h = (bytes_eq-Decides a b).0 h

text_itself : (a : List ℕ) → bytes_eq a a ≡ true
text_itself a = (bytes_eq-Decides a a).1 refl

none_either : (z : Bool) → cond z None None ≡ none_of
none_either true = refl
none_either false = refl

module _ {S R : Type 0} (numbers new_numbers : HashMap ℕ ℕ S) (names new_names : HashMap (List ℕ) ℕ R) (last : ℕ) (places : List (Option Board)) (kept : AreIndexed numbers names last places) where
  -- the indexes with the same entries
  pub indexes_same : ((n : ℕ) → get nat_eq new_numbers n ≡ get nat_eq numbers n) → ((t : List ℕ) → get bytes_eq new_names t ≡ get bytes_eq names t) → AreIndexed new_numbers new_names last places
  indexes_same same_numbers same_names = record {
    numbered = λ n. subst (IsPlace (is_numbered n) places) (sym (same_numbers n)) (kept.numbered n);
    named = λ t. subst (IsPlace (has_name t) places) (sym (same_names t)) (kept.named t);
    above = λ n lt. same_numbers n ∙ kept.above n lt;
  }

  free_name : (t : List ℕ) → find (has_name t) (standing places) ≡ None → get bytes_eq names t ≡ None
  free_name t free = at (get bytes_eq names t) (kept.named t)
    where
      at : (o : Option ℕ) → IsPlace (has_name t) places o → o ≡ None
      at None h = refl
      at (Some k) h = absurd (
          let first = first_of_only (has_name t) places k h in
          let none : get_or places k None ≡ None = sym (found_at (has_name t) places k first None) ∙ free in
          let both : true ≡ false = sym (passes_at (has_name t) places k first None) ∙ ap (λ (o : Option Board). holds_at o (has_name t)) none in
          cc)

  -- a board behind the others, under a number above theirs and a name that is free
  pub indexes_pushed : (b : Board) → last < b.number → find (has_name b.name) (standing places) ≡ None
      → ((n : ℕ) → get nat_eq new_numbers n ≡ cond (nat_eq b.number n) (Some (length places)) (get nat_eq numbers n))
      → ((t : List ℕ) → get bytes_eq new_names t ≡ cond (bytes_eq b.name t) (Some (length places)) (get bytes_eq names t))
      → AreIndexed new_numbers new_names b.number (places ++ Some b ∷ [])
  indexes_pushed b higher free shown_number shown_name = record {
    numbered = indexed_push nat_eq same_number number_itself (λ (x : Board). x.number) is_numbered (λ k x. refl) (λ n. get nat_eq numbers n) places kept.numbered b (kept.above b.number higher) (λ n. get nat_eq new_numbers n) shown_number;
    named = indexed_push bytes_eq same_text text_itself (λ (x : Board). x.name) has_name (λ k x. refl) (λ t. get bytes_eq names t) places kept.named b (free_name b.name free) (λ t. get bytes_eq new_names t) shown_name;
    above = λ n lt. (let other : nat_eq b.number n ≡ false = grind (arith, nat_tests, lt) in shown_number n ∙ ap (λ z. cond z (Some (length places)) (get nat_eq numbers n)) other ∙ kept.above n (omega (arith, higher, lt)));
  }

  -- the board with a number goes from its place
  pub indexes_taken : (number k : ℕ) (b : Board) (d : Option Board) → IsOnlyAt (is_numbered number) places k → get_or places k d ≡ Some b
      → ((n : ℕ) → get nat_eq new_numbers n ≡ cond (nat_eq number n) None (get nat_eq numbers n))
      → ((t : List ℕ) → get bytes_eq new_names t ≡ cond (bytes_eq b.name t) None (get bytes_eq names t))
      → AreIndexed new_numbers new_names last (set places k None)
  indexes_taken number k b d only stands shown_number shown_name =
      let first = first_of_only (is_numbered number) places k only in
      let low = inside (is_numbered number) places k first in
      let there : (e : Option Board) → get_or places k e ≡ Some b = λ e. any_default places k e d low ∙ stands in
      let passes : is_numbered number b ≡ true = sym (ap (λ (o : Option Board). holds_at o (is_numbered number)) stands) ∙ passes_at (is_numbered number) places k first d in
      let its_number : b.number ≡ number = same_number b.number number passes in
      let mine : IsOnlyAt (is_numbered b.number) places k = subst (λ (n : ℕ). IsOnlyAt (is_numbered n) places k) (sym its_number) only in
      let shown : (n : ℕ) → get nat_eq new_numbers n ≡ cond (nat_eq b.number n) None (get nat_eq numbers n) = λ n. shown_number n ∙ ap (λ (m : ℕ). cond (nat_eq m n) None (get nat_eq numbers n)) (sym its_number) in
      let called : IsOnlyAt (has_name b.name) places k = only_here (has_name b.name) places k d (get bytes_eq names b.name) (kept.named b.name) low (ap (λ (o : Option Board). holds_at o (has_name b.name)) stands ∙ text_itself b.name) in
      record {
        numbered = indexed_take nat_eq same_number number_itself (λ (x : Board). x.number) is_numbered (λ n x. refl) (λ n. get nat_eq numbers n) places kept.numbered b k there mine (λ n. get nat_eq new_numbers n) shown;
        named = indexed_take bytes_eq same_text text_itself (λ (x : Board). x.name) has_name (λ t x. refl) (λ t. get bytes_eq names t) places kept.named b k there called (λ t. get bytes_eq new_names t) shown_name;
        above = λ n lt. shown_number n ∙ ap (λ (o : Option ℕ). cond (nat_eq number n) None o) (kept.above n lt) ∙ none_either (nat_eq number n);
      }
