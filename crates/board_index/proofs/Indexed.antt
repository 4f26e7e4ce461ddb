-- What the maps of the boards have, as boards come and go.
use Rattle.std.proofs.Common.{◌≡◌, ◌≢◌, ℕ, ◌+◌, ◌≤◌, ◌<◌, Bool, true, false, cond, ◌==◌, List, [], ◌∷◌, Option, Some, None, refl, sym, ap, subst, ◌∙◌, arith}
use Rattle.std.specs.Prelude.{find, is_some, min, nat_eq, option_map, ◌||◌, IfSome, IsSome, IsSomeAnd, Vec}
use Rattle.std.specs.Global.{Box}
use Rattle.std.specs.HashMap.{HashMap, WritesThrough, spare}
use Rattle.std.specs.List.{list_any, position_from}
use Rattle.std.specs.Map.{lookup, set_value}
use Rattle.std.specs.Str.{bytes_eq}
use Rattle.std.proofs.lemmas.Slice.Eq.{bytes_eq-Decides}
use Rattle.board_model.specs.declared.tables.Board.{Board}
use Rattle.board_model.specs.Tables.{has_name, is_numbered, without_first}
use Rattle.board_model.proofs.ListLemmas.{same_bytes}
use Rattle.board_index.specs.Boards.{AreIndexed, IsRow, at, but_at, called, rows_under, seen, set_at, with_cells_in}
use Rattle.board_numbered.specs.Standing.{standing, under}
use Rattle.board_numbered.proofs.Standing.{Picks, found_standing, is_other, is_same, none_standing, standing_same, without_standing}
use Rattle.board_index.proofs.Beside.{beside_at, beside_gone, beside_put, nowhere}

abbrev pub a_board : Board → Option Board
a_board b = Some b

abbrev pub a_number : ℕ → Option ℕ
a_number n = Some n

not_true : (b : Bool) → (b ≡ true → ⊥) → b ≡ false
not_true true f = absurd (f refl)
not_true false f = refl

-- another number
pub unequal : (n k : ℕ) → n ≢ k → nat_eq k n ≡ false
unequal n k other = not_true (nat_eq k n) (λ z. other (sym (is_same k n z)))

-- a map's rows, as one comes or goes
pub rows_turned : {X Y : Type 0} (f : X → Y) (old new o : Option X) (z : Bool) → new ≡ cond z o old → option_map f new ≡ cond z (option_map f o) (option_map f old)
rows_turned f old new o true e = ap (option_map f) e
rows_turned f old new o false e = ap (option_map f) e

-- what has changed under one number alone
module _ {X : Type 0} (old new : ℕ → Option X) (number : ℕ) (o : Option X) (turned : (n : ℕ) → new n ≡ cond (nat_eq number n) o (old n)) where
  pub put_there : new number ≡ o
  put_there = turned number ∙ ap (λ (z : Bool). cond z o (old number)) (let same : nat_eq number number ≡ true = grind arith in same)

  pub put_others : (n : ℕ) → n ≢ number → new n ≡ old n
  put_others n other = turned n ∙ ap (λ (z : Bool). cond z o (old n)) (unequal n number other)

pub map_some : {X Y : Type 0} (f : X → Y) (o : Option X) → is_some (option_map f o) ≡ is_some o
map_some f None = refl
map_some f (Some x) = refl

one_board : (x y : Board) → a_board x ≡ a_board y → x ≡ y
one_board x y e = cc

one_number : (x y : ℕ) → a_number x ≡ a_number y → x ≡ y
one_number x y e = cc

none_of : {X : Type 0} (o : Option X) → is_some o ≡ false → o ≡ None
none_of None e = refl
none_of (Some x) e = absurd cc

any_is_found : {X : Type 0} (p : X → Bool) (xs : List X) → list_any p xs ≡ is_some (find p xs)
any_is_found p [] = refl
any_is_found {X = X} p (x ∷ xs) = by (p x) (any_is_found p xs)
  where
    by : (b : Bool) → list_any p xs ≡ is_some (find p xs) → (b || list_any p xs) ≡ is_some (cond b (Some x) (find p xs))
    by true rest = refl
    by false rest = rest

-- the board under the number that was found
abbrev pub row_of : (ℕ → Option Board) → Option ℕ → Option Board
row_of rows None = None
row_of rows (Some number) = rows number

module _ {C : Type 0} {rows : ℕ → Option Board} {cells : ℕ → Option C} {names : List ℕ → Option ℕ} {last : ℕ} (h : AreIndexed rows cells names last) where
  row_at : (number : ℕ) (b : Board) → rows number ≡ Some b → IsRow names last number b
  row_at number b e = subst (λ (o : Option Board). IfSome o (IsRow names last number)) e (h.each number)

  none_at : (number : ℕ) → ((b : Board) → IsRow names last number b → ⊥) → rows number ≡ None
  none_at number not = by (rows number) refl
    where
      by : (o : Option Board) → rows number ≡ o → o ≡ None
      by None e = refl
      by (Some b) e = absurd (not b (row_at number b e))

  zero_free : rows 0 ≡ None
  zero_free = none_at 0 (λ b r. (let low : 0 < 0 = r.above in omega (arith, low)))

  above_free : (number : ℕ) → last < number → rows number ≡ None
  above_free number lt = none_at number (λ b r. (let high : number ≤ last = r.drawn in omega (arith, high, lt)))

  picks_numbered : (number : ℕ) → Picks (is_numbered number) number rows
  picks_numbered number n b e = ap (λ (m : ℕ). m == number) (row_at n b e).numbered

  -- the board with a number
  pub found_numbered : (number : ℕ) → find (is_numbered number) (standing rows last) ≡ rows number
  found_numbered number = found_standing (is_numbered number) number rows last (picks_numbered number) zero_free above_free

  called_so : (name : List ℕ) (number : ℕ) → names name ≡ Some number → (b : Board) × (rows number ≡ Some b) × (b.name ≡ name)
  called_so name number e = by (rows number) refl (subst (λ (o : Option ℕ). IfSome o (λ n. IsSomeAnd (rows n) (λ b. b.name ≡ name))) e (h.called name))
    where
      by : (o : Option Board) → rows number ≡ o → IsSomeAnd o (λ b. b.name ≡ name) → (b : Board) × (rows number ≡ Some b) × (b.name ≡ name)
      by None f s = absurd s
      by (Some b) f s = (b, f, s)

  picks_named : (name : List ℕ) (number : ℕ) → names name ≡ Some number → Picks (has_name name) number rows
  picks_named name number e n b f = by (n == number) refl
    where
      by : (c : Bool) → (n == number) ≡ c → bytes_eq b.name name ≡ c
      by true g =
          let so = called_so name number e in
          let there : rows number ≡ Some b = subst (λ (m : ℕ). rows m ≡ Some b) (is_same n number g) f in
          let same : so.0 ≡ b = one_board so.0 b (sym so.1 ∙ there) in
          (bytes_eq-Decides b.name name).1 (subst (λ (x : Board). x.name ≡ name) same so.2)
      by false g = not_true (bytes_eq b.name name) (λ t. is_other n number g (one_number n number (sym (row_at n b f).named ∙ ap names (same_bytes b.name name t) ∙ e)))

  -- the board with a name
  pub found_named : (name : List ℕ) → find (has_name name) (standing rows last) ≡ row_of rows (names name)
  found_named name = by (names name) refl
    where
      by : (o : Option ℕ) → names name ≡ o → find (has_name name) (standing rows last) ≡ row_of rows o
      by None e = none_standing (has_name name) rows last (λ n b f. not_true (bytes_eq b.name name) (λ t. (let no : a_number n ≡ None = sym (row_at n b f).named ∙ ap names (same_bytes b.name name t) ∙ e in absurd cc)))
      by (Some number) e = found_standing (has_name name) number rows last (picks_named name number e) zero_free above_free

  -- a board has the name exactly where the name is kept
  pub has_named : (name : List ℕ) → is_some (names name) ≡ list_any (has_name name) (standing rows last)
  has_named name = by (names name) refl ∙ sym (ap is_some (found_named name)) ∙ sym (any_is_found (has_name name) (standing rows last))
    where
      by : (o : Option ℕ) → names name ≡ o → is_some o ≡ is_some (row_of rows o)
      by None e = refl
      by (Some number) e = sym (ap is_some (called_so name number e).1)

  pub name_free : (name : List ℕ) → list_any (has_name name) (standing rows last) ≡ false → names name ≡ None
  name_free name free = none_of (names name) (has_named name ∙ free)

  cells_none : (number : ℕ) → rows number ≡ None → cells number ≡ None
  cells_none number e = none_of (cells number) (h.beside number ∙ ap is_some e)

  no_place : (number : ℕ) → rows number ≡ None → position_from (is_numbered number) 0 (standing rows last) ≡ None
  no_place number e = nowhere (is_numbered number) 0 (standing rows last) (found_numbered number ∙ e)

  -- the cells of the board with a number
  pub found_cells : (number : ℕ) → at (standing cells last) (position_from (is_numbered number) 0 (standing rows last)) ≡ cells number
  found_cells number = by (rows number) refl
    where
      by : (o : Option Board) → rows number ≡ o → at (standing cells last) (position_from (is_numbered number) 0 (standing rows last)) ≡ cells number
      by None e = ap (λ (o : Option ℕ). at (standing cells last) o) (no_place number e) ∙ sym (cells_none number e)
      by (Some b) e =
          let r = row_at number b e in
          beside_at (is_numbered number) number rows cells h.beside (picks_numbered number) last r.above r.drawn (subst IsSome (sym e) refl)

  -- without the cells of a board that stands
  pub cells_gone : (number : ℕ) (b : Board) → rows number ≡ Some b → (new : ℕ → Option C) → new number ≡ None → ((n : ℕ) → n ≢ number → new n ≡ cells n)
      → standing new last ≡ but_at (standing cells last) (position_from (is_numbered number) 0 (standing rows last))
  cells_gone number b e new none others =
      let r = row_at number b e in
      sym (beside_gone (is_numbered number) number rows cells h.beside (picks_numbered number) last r.above r.drawn (subst IsSome (sym e) refl) new none others)

  -- without a board
  pub rows_gone : (number : ℕ) (new : ℕ → Option Board) → new number ≡ None → ((n : ℕ) → n ≢ number → new n ≡ rows n) → standing new last ≡ without_first (is_numbered number) (standing rows last)
  rows_gone number new none others = sym (without_standing (is_numbered number) number rows new last (picks_numbered number) none others)

  -- with other cells of a board, where it stands
  pub cells_put : (number : ℕ) (c : C) (new : ℕ → Option C) → (IsSome (cells number) → new number ≡ Some c) → ((n : ℕ) → n ≢ number → new n ≡ cells n) → (cells number ≡ None → new number ≡ None)
      → standing new last ≡ set_at (standing cells last) (position_from (is_numbered number) 0 (standing rows last)) c
  cells_put number c new there others none = by (rows number) refl
    where
      by : (o : Option Board) → rows number ≡ o → standing new last ≡ set_at (standing cells last) (position_from (is_numbered number) 0 (standing rows last)) c
      by None e =
          let absent = cells_none number e in
          standing_same cells new last (λ n. every n (n == number) refl absent) ∙ ap (λ (o : Option ℕ). set_at (standing cells last) o c) (sym (no_place number e))
        where
          every : (n : ℕ) (b : Bool) → (n == number) ≡ b → cells number ≡ None → new n ≡ cells n
          every n true g absent = ap new (is_same n number g) ∙ none absent ∙ sym absent ∙ sym (ap cells (is_same n number g))
          every n false g absent = others n (is_other n number g)
      by (Some b) e =
          let r = row_at number b e in
          let some : IsSome (cells number) = h.beside number ∙ ap is_some e in
          sym (beside_put (is_numbered number) number rows cells h.beside (picks_numbered number) last r.above r.drawn (subst IsSome (sym e) refl) new c (there some) others)

  -- other maps with the same in them
  pub indexed_same : {new_rows : ℕ → Option Board} {new_cells : ℕ → Option C} {new_names : List ℕ → Option ℕ}
      → ((n : ℕ) → new_rows n ≡ rows n) → ((n : ℕ) → is_some (new_cells n) ≡ is_some (cells n)) → ((t : List ℕ) → new_names t ≡ names t) → AreIndexed new_rows new_cells new_names last
  indexed_same {new_rows} {new_cells} {new_names} rows_are cells_are names_are = record {
    each = λ n. subst (λ (o : Option Board). IfSome o (IsRow new_names last n)) (sym (rows_are n)) (row n (rows n) refl);
    beside = λ n. cells_are n ∙ h.beside n ∙ sym (ap is_some (rows_are n));
    called = λ t. subst (λ (o : Option ℕ). IfSome o (λ n. IsSomeAnd (new_rows n) (λ b. b.name ≡ t))) (sym (names_are t)) (name t (names t) refl);
  }
    where
      row : (n : ℕ) (o : Option Board) → rows n ≡ o → IfSome o (IsRow new_names last n)
      row n None e = tt
      row n (Some b) e = let r = row_at n b e in record { numbered = r.numbered; above = r.above; drawn = r.drawn; named = names_are b.name ∙ r.named }

      name : (t : List ℕ) (o : Option ℕ) → names t ≡ o → IfSome o (λ n. IsSomeAnd (new_rows n) (λ b. b.name ≡ t))
      name t None e = tt
      name t (Some n) e = let so = called_so t n e in subst (λ (o : Option Board). IsSomeAnd o (λ b. b.name ≡ t)) (sym (rows_are n ∙ so.1)) so.2

  -- one board more
  pub indexed_more : {new_rows : ℕ → Option Board} {new_cells : ℕ → Option C} {new_names : List ℕ → Option ℕ} (b : Board) (c : C) → b.number ≡ last + 1 → names b.name ≡ None
      → ((n : ℕ) → new_rows n ≡ cond (nat_eq b.number n) (Some b) (rows n)) → ((n : ℕ) → new_cells n ≡ cond (nat_eq b.number n) (Some c) (cells n))
      → ((t : List ℕ) → new_names t ≡ cond (bytes_eq b.name t) (Some b.number) (names t)) → AreIndexed new_rows new_cells new_names b.number
  indexed_more {new_rows} {new_cells} {new_names} b c next free rows_are cells_are names_are = record {
    each = λ n. row n (nat_eq b.number n) refl;
    beside = λ n. ap is_some (cells_are n) ∙ both n (nat_eq b.number n) ∙ sym (ap is_some (rows_are n));
    called = λ t. name t (bytes_eq b.name t) refl;
  }
    where
      there : new_rows b.number ≡ Some b
      there = rows_are b.number ∙ ap (λ (z : Bool). cond z (Some b) (rows b.number)) (let same : nat_eq b.number b.number ≡ true = grind arith in same)

      both : (n : ℕ) (z : Bool) → is_some (cond z (Some c) (cells n)) ≡ is_some (cond z (Some b) (rows n))
      both n true = refl
      both n false = h.beside n

      older : (n : ℕ) (o : Option Board) → rows n ≡ o → IfSome o (IsRow new_names b.number n)
      older n None e = tt
      older n (Some x) e =
          let r = row_at n x e in
          let apart : bytes_eq b.name x.name ≡ false = not_true (bytes_eq b.name x.name) (λ t. (let no : a_number n ≡ None = sym r.named ∙ ap names (sym (same_bytes b.name x.name t)) ∙ free in absurd cc)) in
          let drawn : n ≤ last = r.drawn in
          record { numbered = r.numbered; above = r.above; drawn = omega (arith, drawn, next); named = names_are x.name ∙ ap (λ (z : Bool). cond z (Some b.number) (names x.name)) apart ∙ r.named }

      row : (n : ℕ) (z : Bool) → nat_eq b.number n ≡ z → IfSome (new_rows n) (IsRow new_names b.number n)
      row n true g =
          let s : b.number ≡ n = is_same b.number n g in
          let named = names_are b.name ∙ ap (λ (z : Bool). cond z (Some b.number) (names b.name)) ((bytes_eq-Decides b.name b.name).1 refl) ∙ ap a_number s in
          subst (λ (o : Option Board). IfSome o (IsRow new_names b.number n)) (sym (rows_are n ∙ ap (λ (z : Bool). cond z (Some b) (rows n)) g))
          (record { numbered = s; above = omega (arith, s, next); drawn = omega (arith, s); named = named })
      row n false g = subst (λ (o : Option Board). IfSome o (IsRow new_names b.number n)) (sym (rows_are n ∙ ap (λ (z : Bool). cond z (Some b) (rows n)) g)) (older n (rows n) refl)

      kept : (t : List ℕ) (o : Option ℕ) → names t ≡ o → IfSome o (λ n. IsSomeAnd (new_rows n) (λ x. x.name ≡ t))
      kept t None e = tt
      kept t (Some n) e =
          let so = called_so t n e in
          let drawn : n ≤ last = (row_at n so.0 so.1).drawn in
          let other : nat_eq b.number n ≡ false = not_true (nat_eq b.number n) (λ z. (let s : b.number ≡ n = is_same b.number n z in omega (arith, s, drawn, next))) in
          subst (λ (o : Option Board). IsSomeAnd o (λ x. x.name ≡ t)) (sym (rows_are n ∙ ap (λ (z : Bool). cond z (Some b) (rows n)) other ∙ so.1)) so.2

      name : (t : List ℕ) (z : Bool) → bytes_eq b.name t ≡ z → IfSome (new_names t) (λ n. IsSomeAnd (new_rows n) (λ x. x.name ≡ t))
      name t true g =
          subst (λ (o : Option ℕ). IfSome o (λ n. IsSomeAnd (new_rows n) (λ x. x.name ≡ t))) (sym (names_are t ∙ ap (λ (z : Bool). cond z (Some b.number) (names t)) g))
          (subst (λ (o : Option Board). IsSomeAnd o (λ x. x.name ≡ t)) (sym there) (same_bytes b.name t g))
      name t false g = subst (λ (o : Option ℕ). IfSome o (λ n. IsSomeAnd (new_rows n) (λ x. x.name ≡ t))) (sym (names_are t ∙ ap (λ (z : Bool). cond z (Some b.number) (names t)) g)) (kept t (names t) refl)

  -- the same of a board with this number and this name
  pub indexed_pushed : {new_rows : ℕ → Option Board} {new_cells : ℕ → Option C} {new_names : List ℕ → Option ℕ} (b : Board) (c : C) {number : ℕ} {name : List ℕ} → number ≡ b.number → name ≡ b.name
      → number ≡ last + 1 → list_any (has_name b.name) (standing rows last) ≡ false
      → ((n : ℕ) → new_rows n ≡ cond (nat_eq number n) (Some b) (rows n)) → ((n : ℕ) → new_cells n ≡ cond (nat_eq number n) (Some c) (cells n))
      → ((t : List ℕ) → new_names t ≡ cond (bytes_eq name t) (Some number) (names t)) → AreIndexed new_rows new_cells new_names number
  indexed_pushed {new_rows} {new_cells} {new_names} b c {number} {name} number_is name_is next free rows_are cells_are names_are =
      subst (λ (n : ℕ). AreIndexed new_rows new_cells new_names n) (sym number_is) (indexed_more b c (sym number_is ∙ next) (name_free b.name free)
      (λ n. rows_are n ∙ ap (λ (m : ℕ). cond (nat_eq m n) (a_board b) (rows n)) number_is) (λ n. cells_are n ∙ ap (λ (m : ℕ). cond (nat_eq m n) (Some c) (cells n)) number_is)
      (λ t. names_are t ∙ ap (λ (m : ℕ). cond (bytes_eq name t) (a_number m) (names t)) number_is ∙ ap (λ (l : List ℕ). cond (bytes_eq l t) (a_number b.number) (names t)) name_is))

  -- one board less
  pub indexed_less : {new_rows : ℕ → Option Board} {new_cells : ℕ → Option C} {new_names : List ℕ → Option ℕ} (number : ℕ) (b : Board) → rows number ≡ Some b
      → ((n : ℕ) → new_rows n ≡ cond (nat_eq number n) None (rows n)) → ((n : ℕ) → new_cells n ≡ cond (nat_eq number n) None (cells n))
      → ((t : List ℕ) → new_names t ≡ cond (bytes_eq b.name t) None (names t)) → AreIndexed new_rows new_cells new_names last
  indexed_less {new_rows} {new_cells} {new_names} number b stands rows_are cells_are names_are = record {
    each = λ n. row n (nat_eq number n) refl;
    beside = λ n. ap is_some (cells_are n) ∙ both n (nat_eq number n) ∙ sym (ap is_some (rows_are n));
    called = λ t. name t (bytes_eq b.name t) refl;
  }
    where
      both : (n : ℕ) (z : Bool) → is_some (cond z None (cells n)) ≡ is_some (cond z None (rows n))
      both n true = refl
      both n false = h.beside n

      older : (n : ℕ) → nat_eq number n ≡ false → (o : Option Board) → rows n ≡ o → IfSome o (IsRow new_names last n)
      older n g None e = tt
      older n g (Some x) e =
          let r = row_at n x e in
          let apart : bytes_eq b.name x.name ≡ false = not_true (bytes_eq b.name x.name)
          (λ t. is_other number n g (one_number number n (sym (row_at number b stands).named ∙ ap names (same_bytes b.name x.name t) ∙ r.named))) in
          record { numbered = r.numbered; above = r.above; drawn = r.drawn; named = names_are x.name ∙ ap (λ (z : Bool). cond z None (names x.name)) apart ∙ r.named }

      row : (n : ℕ) (z : Bool) → nat_eq number n ≡ z → IfSome (new_rows n) (IsRow new_names last n)
      row n true g = subst (λ (o : Option Board). IfSome o (IsRow new_names last n)) (sym (rows_are n ∙ ap (λ (z : Bool). cond z None (rows n)) g)) tt
      row n false g = subst (λ (o : Option Board). IfSome o (IsRow new_names last n)) (sym (rows_are n ∙ ap (λ (z : Bool). cond z None (rows n)) g)) (older n g (rows n) refl)

      kept : (t : List ℕ) → bytes_eq b.name t ≡ false → (o : Option ℕ) → names t ≡ o → IfSome o (λ n. IsSomeAnd (new_rows n) (λ x. x.name ≡ t))
      kept t g None e = tt
      kept t g (Some n) e =
          let so = called_so t n e in
          let other : nat_eq number n ≡ false = not_true (nat_eq number n) (λ z. (
          let there : rows number ≡ Some so.0 = ap rows (is_same number n z) ∙ so.1 in
          let same : so.0 ≡ b = one_board so.0 b (sym there ∙ stands) in
          let yes : bytes_eq b.name t ≡ true = (bytes_eq-Decides b.name t).1 (subst (λ (x : Board). x.name ≡ t) same so.2) in
          let no : true ≡ false = sym yes ∙ g in
          absurd cc)) in
          subst (λ (o : Option Board). IsSomeAnd o (λ x. x.name ≡ t)) (sym (rows_are n ∙ ap (λ (z : Bool). cond z None (rows n)) other ∙ so.1)) so.2

      name : (t : List ℕ) (z : Bool) → bytes_eq b.name t ≡ z → IfSome (new_names t) (λ n. IsSomeAnd (new_rows n) (λ x. x.name ≡ t))
      name t true g = subst (λ (o : Option ℕ). IfSome o (λ n. IsSomeAnd (new_rows n) (λ x. x.name ≡ t))) (sym (names_are t ∙ ap (λ (z : Bool). cond z None (names t)) g)) tt
      name t false g = subst (λ (o : Option ℕ). IfSome o (λ n. IsSomeAnd (new_rows n) (λ x. x.name ≡ t))) (sym (names_are t ∙ ap (λ (z : Bool). cond z None (names t)) g)) (kept t g (names t) refl)

-- ---- what is written through a loan

absent_stays : {X : Type 0} (test : ℕ → Bool) (es : List (ℕ × X)) (w : X) → lookup test es ≡ None → set_value test es w ≡ es
absent_stays test [] w h = refl
absent_stays {X = X} test (e ∷ es) w h = by (test e.0) (absent_stays test es w) h
  where
    by : (b : Bool) → (lookup test es ≡ None → set_value test es w ≡ es) → cond b (Some e.1) (lookup test es) ≡ None → cond b ((e.0, w) ∷ es) (e ∷ set_value test es w) ≡ e ∷ es
    by true rest k = absurd cc
    by false rest k = ap (λ (l : List (ℕ × X)). e ∷ l) (rest k)

module _ {X S : Type 0} (k : ℕ) (m n : HashMap ℕ X S) (w : X) (writes : WritesThrough nat_eq (nat_eq k) m w n) where
  pub written_there : IsSome (under m k) → under n k ≡ Some w
  written_there some = (writes.3 some).1

  pub written_absent : under m k ≡ None → (q : ℕ) → under n q ≡ under m q
  written_absent none q = ap (λ (es : List (ℕ × X)). lookup (nat_eq q) es) (writes.0 ∙ absent_stays (nat_eq k) m.entries w none)

  pub written_others : (q : ℕ) → q ≢ k → under n q ≡ under m q
  written_others q other = by (under m k) refl
    where
      by : (o : Option X) → under m k ≡ o → under n q ≡ under m q
      by None e = written_absent e q
      by (Some x) e = (writes.3 (subst IsSome (sym e) refl)).2 q (unequal q k other)

  pub written_stands : (q : ℕ) → is_some (under n q) ≡ is_some (under m q)
  written_stands q = by (q == k) refl (under m k) refl
    where
      by : (b : Bool) → (q == k) ≡ b → (o : Option X) → under m k ≡ o → is_some (under n q) ≡ is_some (under m q)
      by false g o e = ap is_some (written_others q (is_other q k g))
      by true g None e = ap is_some (written_absent e q)
      by true g (Some x) e =
          let s : q ≡ k = is_same q k g in
          ap is_some (ap (under n) s ∙ written_there (subst IsSome (sym e) refl)) ∙ sym (ap is_some (ap (under m) s ∙ e))

-- ---- what is seen once a loan has ended

-- the two parts of what a loan leaves, whatever comes of them
pub same_loan : {N D E R : Type 0} (left : N → (E → D) → D → R) (name : N) {F G : E → D} {u v : D} → ((w : E) → F w ≡ G w) → u ≡ v → left name F u ≡ left name G v
same_loan left name written rest = λ i. left name (λ w. written w i) (rest i)

module _ {C S T R Z : Type 0} (rows : HashMap ℕ (Box Board) S) (cells new : HashMap ℕ C T) (names : HashMap (Vec ℕ Z) ℕ R) (last number : ℕ) (h : AreIndexed (rows_under rows) (under cells) (called names) last) where
  -- other cells of the board
  pub seen_written : (w : C) → WritesThrough nat_eq (nat_eq number) cells w new → seen rows new names last ≡ with_cells_in (seen rows cells names last) number w
  seen_written w writes =
      let put = cells_put h number w (under new) (written_there number cells new w writes) (written_others number cells new w writes) (λ none. written_absent number cells new w writes none number ∙ none) in
      λ i. record { boards = standing (rows_under rows) last; cells = put i; last = last; room = min (spare rows) (min (writes.6 i) (spare names)) }

  -- nothing else
  pub seen_unwritten : new ≡ cells → seen rows new names last ≡ seen rows cells names last
  seen_unwritten same = ap (λ (m : HashMap ℕ C T). seen rows m names last) same
