-- What is told of a board that was made or opened is as was asked.
use Rattle.std.proofs.Common.{◌≡◌, ℕ, suc, ◌+◌, ◌≤◌, Bool, true, false, List, [], ◌∷◌, ◌++◌, length, Option, Some, None, refl, sym, ap, ◌∙◌, subst, arith, cond}
use Rattle.std.specs.Prelude.{◌&&◌, ◌==◌, find, not, nat_eq, nat_lt, option_map, Ok, Err}
use Rattle.std.specs.Str.{bytes_eq}
use Rattle.std.proofs.lemmas.Slice.Eq.{bytes_eq-Decides}
use Rattle.board_layout.specs.declared.shape.CellPlace.{CellPlace}
use Rattle.board_layout.specs.declared.type_detail.TypeDetail.{TypeDetail}
use Rattle.board_layout.specs.declared.type_detail.TypeVariant.{TypeVariant}
use Rattle.board_layout.specs.declared.type_detail.TypeVariant.TheVariants.{FixedSize, Dynamic}
use Rattle.board_layout.specs.Layout.{places_from}
use Rattle.board_layout.proofs.Cells.{length-places_from}
use Rattle.board_model.specs.declared.attributes.Attribute.{Attribute}
use Rattle.board_model.specs.declared.attributes.Requirements.{Requirements}
use Rattle.board_model.specs.declared.tables.Board.{Board}
use Rattle.board_model.specs.declared.tables.Limits.{Limits}
use Rattle.board_model.specs.Tables.{Added, board_at, board_named, entries_of, has_name, is_numbered, meets, new_board, shapes_of}
use Rattle.board_model.specs.TableCalls.{answer_of, asks_above, first_of, number_of, open_refusals}
use Rattle.board_model.specs.TypeTable.{same_type, same_variant}
use Rattle.board_names.specs.declared.errors.boards.BlackboardOpenError.TheVariants as open_error
use Rattle.board_service.specs.declared.made.Made.{Made}
use Rattle.board_service.specs.declared.told.StaticConfig.{StaticConfig}
use Rattle.board_service.specs.Domain.{after_open, open_answer, spent, made}
use Rattle.board_service.specs.Facts.{IsDomain, AreDrawn, board_number}
use Rattle.board_service.specs.Told.{config}
use Rattle.board_service.proofs.DrawnLemmas.{find-push, none_above, there}
use Rattle.board_handles.specs.BoardEnds.{Core}
use Rattle.board_handles.proofs.LentLemmas.{is_same, answered}
use Rattle.board_domain.specs.Asked.{IsAsAsked, IsNoLess, config_asked}
use Rattle.board_domain.specs.Kept.{ShowsBoard, attributes_of}
use Rattle.board_domain.specs.LentForms as lent

-- ---- create

-- a new board has an entry for each that was added
length-entries_of : (cells : List CellPlace) (entries : List Added) → length cells ≡ length entries → length (entries_of cells entries) ≡ length entries
length-entries_of [] [] e = refl
length-entries_of [] (a ∷ more) e = absurd (omega (arith, e))
length-entries_of (c ∷ cs) [] e = absurd (omega (arith, e))
length-entries_of (c ∷ cs) (a ∷ more) e = ap suc (length-entries_of cs more (omega (arith, e)))

length-shapes_of : (entries : List Added) → length (shapes_of entries) ≡ length entries
length-shapes_of [] = refl
length-shapes_of (a ∷ more) = ap suc (length-shapes_of more)

module _ (b : lent.NewBoard) (d t : Core) (is : lent.IsMade b d t) (facts : IsDomain d) where
  abbrev the_board : Board
  the_board = new_board (d.tables.last_board + 1) b.name b.keys b.limits b.attributes b.entries

  -- a board that was made is found under its number
  pub board_found : (n : ℕ) → n ≡ d.tables.last_board + 1 → board_at t.tables n ≡ Some the_board
  board_found n e =
      let none = none_above board_number is_numbered (λ m y. refl) d.tables.last_board (d.tables.last_board + 1) d.tables.boards facts.tables.boards (omega arith) in
      ap (λ (s : Core). board_at s.tables n) is.2
      ∙ ap (λ m. find (is_numbered m) (d.tables.boards ++ the_board ∷ [])) e
      ∙ find-push board_number is_numbered (λ m y. refl) (d.tables.last_board + 1) d.tables.boards the_board refl none

  as_many : length (entries_of (places_from 0 (shapes_of b.entries)) b.entries) ≡ length b.entries
  as_many = length-entries_of (places_from 0 (shapes_of b.entries)) b.entries (length-places_from 0 (shapes_of b.entries) ∙ length-shapes_of b.entries)

  -- what is fixed of a board that was made
  pub config_made : (n : ℕ) (c : StaticConfig) (attributes : List Attribute) → n ≡ d.tables.last_board + 1 → ShowsBoard (board_at t.tables n) c attributes → c ≡ config_asked b.keys b.limits (length b.entries)
  config_made n c attributes e shows =
      let same : Some c ≡ Some (config the_board) = shows.0 ∙ ap (option_map config) (board_found n e) in
      let told : c ≡ config the_board = cc in
      told ∙ ap (config_asked b.keys b.limits) as_many

  -- its attributes are shown
  pub attributes_shown : (n : ℕ) (attributes : List Attribute) → n ≡ d.tables.last_board + 1 → attributes ≡ b.attributes → Some attributes ≡ option_map attributes_of (board_at t.tables n)
  attributes_shown n attributes e same = ap Some same ∙ sym (ap (option_map attributes_of) (board_found n e))

-- ---- open

-- types that are found the same are one
same_variant_is : (a b : TypeVariant) → same_variant a b ≡ true → a ≡ b
same_variant_is FixedSize FixedSize e = refl
same_variant_is FixedSize Dynamic e = absurd cc
same_variant_is Dynamic FixedSize e = absurd cc
same_variant_is Dynamic Dynamic e = refl

pub both_hold : (a b : Bool) → (a && b) ≡ true → (a ≡ true) × (b ≡ true)
both_hold true b e = (refl, e)
both_hold false b e = absurd cc

not_false : (b : Bool) → not b ≡ false → b ≡ true
not_false true e = refl
not_false false e = absurd cc

not_above : (n m : ℕ) → nat_lt m n ≡ false → n ≤ m
not_above n m e = grind (arith, e)

no_less : (asked : Option ℕ) (limit : ℕ) → asks_above asked limit ≡ false → IsNoLess asked limit
no_less None limit e = tt
no_less (Some n) limit e = not_above n limit e

pub type_is : (a b : TypeDetail) → same_type a b ≡ true → a ≡ b
type_is a b e =
    let aligned = both_hold (same_variant a.variant b.variant && bytes_eq a.type_name b.type_name && (a.size == b.size)) (a.alignment == b.alignment) e in
    let sized = both_hold (same_variant a.variant b.variant && bytes_eq a.type_name b.type_name) (a.size == b.size) aligned.0 in
    let named = both_hold (same_variant a.variant b.variant) (bytes_eq a.type_name b.type_name) sized.0 in
    let same_variant_too = same_variant_is a.variant b.variant named.0 in
    let same_name = (bytes_eq-Decides a.type_name b.type_name).0 named.1 in
    let same_size : a.size ≡ b.size = grind (arith, sized.1) in
    let same_alignment : a.alignment ≡ b.alignment = grind (arith, aligned.1) in
    λ k. record { variant = same_variant_too k; type_name = same_name k; size = same_size k; alignment = same_alignment k }

-- what isn't refused passes each test
passed : {A E : Type 0} (o : Option E) (x y : A) → Ok x ≡ answer_of o y → o ≡ None
passed None x y e = refl
passed (Some w) x y e = absurd cc

split : {E : Type 0} (b : Bool) (e : E) (rest : Option E) → cond b (Some e) rest ≡ None → (b ≡ false) × (rest ≡ None)
split true e rest h = absurd cc
split false e rest h = (refl, h)

clash : {A : Type 0} (o : Option A) (x : A) → o ≡ Some x → o ≡ None → ⊥
clash None x e n = absurd cc
clash (Some y) x e n = absurd cc

-- a board that is found by any test is found under its number
found_own : (p : Board → Bool) (last : ℕ) (xs : List Board) (b : Board) → AreDrawn board_number is_numbered last xs → find p xs ≡ Some b → find (is_numbered b.number) xs ≡ Some b
found_own p last [] b h e = absurd cc
found_own p last (x ∷ xs) b h e = at (p x) e (found_own p last xs b h.2)
  where
    at : (c : Bool) → cond c (there x) (find p xs) ≡ Some b → (find p xs ≡ Some b → find (is_numbered b.number) xs ≡ Some b) → cond (x.number == b.number) (there x) (find (is_numbered b.number) xs) ≡ Some b
    at true f later =
        let same : x ≡ b = cc in
        let own : (x.number == b.number) ≡ true = ap (λ (y : Board). y.number == b.number) same ∙ is_same b.number in
        rw own f
    at false f later =
        elim (x.number == b.number) as (λ q. (x.number == b.number) ≡ q → cond q (there x) (find (is_numbered b.number) xs) ≡ Some b) [
          | true ↦ λ t.
              let same : x.number ≡ b.number = grind (arith, t) in
              absurd (clash (find (is_numbered b.number) xs) b (later f) (subst (λ n. find (is_numbered n) xs ≡ None) same h.1))
          | false ↦ λ t. later f
        ] refl

module _ (d : Core) (node : ℕ) (name : List ℕ) (keys : TypeDetail) (limits : Limits) (needs : Requirements) (x : Made) (facts : IsDomain d) (c : StaticConfig) (attributes : List Attribute) where
  asked_of : (o : Option Board) → board_named d.tables name ≡ o → Ok x ≡ open_answer d node name keys limits needs → ShowsBoard (board_at d.tables (number_of o)) c attributes → IsAsAsked keys limits needs c attributes
  asked_of None e ok shows =
      let refused : Ok x ≡ Err _ = ok ∙ (λ k. answer_of (first_of (open_refusals nat_eq d.tables.things node (e k) keys limits needs ++ (spent d.last_thing, open_error.NumbersSpent) ∷ [])) (made d (number_of (e k)))) in
      absurd (cc)
  asked_of (Some b) e ok shows =
      let own = found_own (has_name name) d.tables.last_board d.tables.boards b facts.tables.boards e in
      let shown : Some c ≡ Some (config b) = shows.0 ∙ ap (option_map config) own in
      let config_is : c ≡ config b = cc in
      let shown_too : Some attributes ≡ Some b.attributes = shows.1 ∙ ap (option_map attributes_of) own in
      let attributes_are : attributes ≡ b.attributes = cc in
      let all = passed (first_of (open_refusals nat_eq d.tables.things node (Some b) keys limits needs ++ (spent d.last_thing, open_error.NumbersSpent) ∷ [])) x _
      (ok ∙ (λ k. answer_of (first_of (open_refusals nat_eq d.tables.things node (e k) keys limits needs ++ (spent d.last_thing, open_error.NumbersSpent) ∷ [])) (made d (number_of (e k))))) in
      let keyed = split (not (same_type b.key keys)) _ _ all in
      let met = split (not (meets needs b.attributes)) _ _ keyed.1 in
      let readers = split (asks_above limits.max_readers b.max_readers) _ _ met.1 in
      let nodes = split (asks_above limits.max_nodes b.max_nodes) _ _ readers.1 in
      record {
        keyed = ap (λ (s : StaticConfig). s.type_details) config_is ∙ type_is b.key keys (not_false _ keyed.0);
        readers = subst (λ (s : StaticConfig). IsNoLess limits.max_readers s.max_readers) (sym config_is) (no_less limits.max_readers b.max_readers readers.0);
        nodes = subst (λ (s : StaticConfig). IsNoLess limits.max_nodes s.max_nodes) (sym config_is) (no_less limits.max_nodes b.max_nodes nodes.0);
        met = subst (λ (all : List Attribute). meets needs all ≡ true) (sym attributes_are) (not_false _ met.0);
      }

  -- a board that was opened is as was asked
  pub as_asked : (t : Core) → Ok x ≡ open_answer d node name keys limits needs → t ≡ after_open d node name → ShowsBoard (board_at t.tables x.number) c attributes → IsAsAsked keys limits needs c attributes
  as_asked t ok is shows =
      let same : x ≡ made d (number_of (board_named d.tables name)) = answered _ x (made d (number_of (board_named d.tables name))) ok in
      let number : x.number ≡ number_of (board_named d.tables name) = ap (λ (m : Made). m.number) same in
      asked_of (board_named d.tables name) refl ok
      (subst (λ n. ShowsBoard (board_at d.tables n) c attributes) number (subst (λ (s : Core). ShowsBoard (board_at s.tables x.number) c attributes) is shows))
