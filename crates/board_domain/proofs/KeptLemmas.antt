-- Boards and factories that were made stand.
use Rattle.std.proofs.Common.{◌≡◌, ℕ, ◌+◌, Bool, true, false, cond, List, [], ◌∷◌, ◌++◌, Option, Some, None, refl, sym, ap, ◌∙◌, subst}
use Rattle.std.specs.Prelude.{find, IsSome, is_some, is_none, nat_eq, option_map, Ok, Err}
use Rattle.board_layout.specs.declared.type_detail.TypeDetail.{TypeDetail}
use Rattle.board_model.specs.declared.attributes.Attribute.{Attribute}
use Rattle.board_model.specs.declared.attributes.Requirements.{Requirements}
use Rattle.board_model.specs.declared.tables.Board.{Board}
use Rattle.board_model.specs.declared.tables.Limits.{Limits}
use Rattle.board_model.specs.declared.tables.ThingKind.TheVariants.{Factory}
use Rattle.board_model.specs.Tables.{Added, board_at, board_named, has_name, holds_at, is_numbered}
use Rattle.board_model.specs.TableCalls.{answer_of, first_of, number_of, open_refusals}
use Rattle.board_model.specs.TypeTable.{same_type}
use Rattle.board_names.specs.declared.errors.boards.BlackboardOpenError.TheVariants as open_error
use Rattle.board_service.specs.declared.made.Made.{Made}
use Rattle.board_service.specs.declared.told.StaticConfig.{StaticConfig}
use Rattle.board_cells.specs.Cells.{PlaceSeen, AreNew}
use Rattle.board_service.specs.Domain.{IsCreated, spent, made, create_answer, create_list, open_answer, open_list, after_open}
use Rattle.board_service.specs.Facts.{IsDomain, IsHeldAs}
use Rattle.board_service.specs.Told.{config}
use Rattle.board_service.proofs.HeldLemmas.{next_held, same_type-refl}
use Rattle.board_handles.specs.BoardEnds.{Core}
use Rattle.board_handles.proofs.LentLemmas.{is_same, kept_some, found_last, answered}
use Rattle.board_domain.specs.Kept.{ShowsBoard}
use Rattle.board_domain.specs.LentForms as lent

-- ---- create

-- a board with cells that share ends was made
pub is_made : (b : lent.NewBoard) (d t : Core) → IsCreated {C = List PlaceSeen} (λ places entries cells. AreNew entries cells) (λ cells. None) d t b.node b.name b.keys b.limits b.attributes b.entries → lent.IsMade b d t
is_made b d t is = (is.0, is.1, is.3)

module _ (b : lent.NewBoard) (d t : Core) (is : lent.IsMade b d t) where
  -- a board that was made stands
  pub board_made : (n : ℕ) → n ≡ d.tables.last_board + 1 → IsSome (board_at t.tables n)
  board_made n e =
      subst (λ (s : Core). IsSome (board_at s.tables n)) (sym is.2)
      (found_last (is_numbered n) d.tables.boards _ (ap (λ m. nat_eq (d.tables.last_board + 1) m) e ∙ is_same (d.tables.last_board + 1)))

module _ (d : Core) (same_key : List ℕ → List ℕ → Bool) (name : List ℕ) (entries : List Added) (x : Made) (ok : Ok x ≡ create_answer d same_key name entries) where
  same : x ≡ made d (d.tables.last_board + 1)
  same = answered (first_of (create_list d same_key name entries)) x (made d (d.tables.last_board + 1)) ok

  pub created_number : x.number ≡ d.tables.last_board + 1
  created_number = ap (λ (m : Made). m.number) same

-- ---- open

-- a step of the lemma below
found_here : {A : Type 0} (p q : A → Bool) (y : A) (ys : List A) (x : A) (b : Bool) → cond b (Some y) (find p ys) ≡ Some x → q x ≡ true → (find p ys ≡ Some x → IsSome (find q ys)) → IsSome (cond (q y) (Some y) (find q ys))
found_here p q y ys x true e h rest =
    let same : x ≡ y = cc in
    subst (λ b. is_some (cond b (Some y) (find q ys)) ≡ true) (sym h ∙ ap q same) refl
found_here p q y ys x false e h rest = kept_some (q y) y (find q ys) (rest e)

-- what is found by one test and passes another is found by that too, or something before it
found_too : {A : Type 0} (p q : A → Bool) (xs : List A) (x : A) → find p xs ≡ Some x → q x ≡ true → IsSome (find q xs)
found_too p q [] x e h = absurd (cc)
found_too p q (y ∷ ys) x e h = found_here p q y ys x (p y) e h (λ f. found_too p q ys x f h)

-- a board that is found by its name stands under its number
named_stands : (boards : List Board) (name : List ℕ) (o : Option Board) → find (has_name name) boards ≡ o → is_none o ≡ false → IsSome (find (is_numbered (number_of o)) boards)
named_stands boards name None e some = absurd (cc)
named_stands boards name (Some b) e some = found_too (has_name name) (is_numbered b.number) boards b e (is_same b.number)

module _ (d : Core) (node : ℕ) (name : List ℕ) (keys : TypeDetail) (limits : Limits) (needs : Requirements) (x : Made) where
  opened_number_from : (o : Option Board) → board_named d.tables name ≡ o → Ok x ≡ open_answer d node name keys limits needs → is_none o ≡ false
  opened_number_from None e ok =
      let refused : Ok x ≡ Err _ = ok ∙ (λ k. answer_of (first_of (open_refusals nat_eq d.tables.things node (e k) keys limits needs ++ (spent d.last_thing, open_error.NumbersSpent) ∷ [])) (made d (number_of (e k)))) in
      absurd (cc)
  opened_number_from (Some b) e ok = refl

  same_opened : Ok x ≡ open_answer d node name keys limits needs → x ≡ made d (number_of (board_named d.tables name))
  same_opened ok = answered (first_of (open_list d node name keys limits needs)) x (made d (number_of (board_named d.tables name))) ok

  -- a board that is opened stands
  pub board_to_open : Ok x ≡ open_answer d node name keys limits needs → IsSome (board_at d.tables x.number)
  board_to_open ok =
      let number : x.number ≡ number_of (board_named d.tables name) = ap (λ (m : Made). m.number) (same_opened ok) in
      let stands = named_stands d.tables.boards name (board_named d.tables name) refl (opened_number_from (board_named d.tables name) refl ok) in
      subst (λ n. IsSome (board_at d.tables n)) (sym number) stands

-- the board that is shown has keys of the type that is told
keys_shown : (w : Option Board) (c : StaticConfig) (keys : TypeDetail) → Some c ≡ option_map config w → c.type_details ≡ keys → holds_at w (λ b. same_type b.key keys) ≡ true
keys_shown None c keys shows told = absurd cc
keys_shown (Some b) c keys shows told =
    let same : c ≡ config b = cc in
    subst (λ (k : TypeDetail). same_type b.key k ≡ true) (ap (λ (s : StaticConfig). s.type_details) (sym same) ∙ told) (same_type-refl b.key)

-- the factory that was made is held
pub held_opened : (d t : Core) (node : ℕ) (name : List ℕ) (keys : TypeDetail) (limits : Limits) (needs : Requirements) (x : Made) (c : StaticConfig) (attributes : List Attribute) → IsDomain d
    → Ok x ≡ open_answer d node name keys limits needs → t ≡ after_open d node name → ShowsBoard (board_at d.tables x.number) c attributes → c.type_details ≡ keys → IsHeldAs t keys x.thing Factory
held_opened d t node name keys limits needs x c attributes facts ok is shows told =
    let same = same_opened d node name keys limits needs x ok in
    let number : x.number ≡ number_of (board_named d.tables name) = ap (λ (m : Made). m.number) same in
    let there : holds_at (board_at d.tables (number_of (board_named d.tables name))) (λ b. same_type b.key keys) ≡ true =
    keys_shown _ c keys (subst (λ n. Some c ≡ option_map config (board_at d.tables n)) number shows.0) told in
    subst (λ (s : Core). IsHeldAs s keys x.thing Factory) (sym is)
    (next_held d (after_open d node name) _ x.thing keys Factory facts refl refl (ap (λ (m : Made). m.thing) same) refl there)

-- what is fixed of a board stays so when it is opened
pub shown_still : (d t : Core) (node : ℕ) (name : List ℕ) (n : ℕ) (c : StaticConfig) (attributes : List Attribute) → t ≡ after_open d node name → ShowsBoard (board_at d.tables n) c attributes → ShowsBoard (board_at t.tables n) c attributes
shown_still d t node name n c attributes is shows = subst (λ (s : Core). ShowsBoard (board_at s.tables n) c attributes) (sym is) shows
