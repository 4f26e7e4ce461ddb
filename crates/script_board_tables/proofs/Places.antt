-- The entry at a place that was found.
use Rattle.std.proofs.Common.{◌≡◌, ℕ, suc, ◌+◌, Bool, true, false, cond, List, [], ◌∷◌, arith, sym, ap, ◌∙◌, subst, refl, Option, Some, None, ◌⊎◌, inl, inr}
use Rattle.std.specs.Prelude.{option_map, slice_get}
use Rattle.std.proofs.lemmas.Option.{some_pair_parts}
use Rattle.board_layout.specs.declared.type_detail.TypeDetail.{TypeDetail}
use Rattle.board_model.specs.declared.tables.Entry.{Entry}
use Rattle.board_model.specs.declared.tables.Board.{Board}
use Rattle.board_model.specs.Tables.{entry_found, entry_from, of_type}
use Rattle.board_model.specs.TypeTable.{same_type}
use Rattle.script_board_rows.specs.Found.{place_found}
use Rattle.script_board_tables.specs.Calls.{place_and_id}

chosen : {A : Type 0} (b : Bool) (x y z : A) → cond b x y ≡ z → ((b ≡ true) × (x ≡ z)) ⊎ ((b ≡ false) × (y ≡ z))
chosen true x y z e = inl (refl, e)
chosen false x y z e = inr (refl, e)

abbrev pub an_entry : Entry → Option Entry
an_entry e = Some e

abbrev a_found : ℕ × Entry → Option (ℕ × Entry)
a_found x = Some x

abbrev pub a_board : Board → Option Board
a_board b = Some b

abbrev pub a_place : ℕ → Option ℕ
a_place n = Some n

-- what is found stands there
stands_there : (is_key : List ℕ → Bool) (i : ℕ) (es : List Entry) (x : ℕ × Entry) → entry_from i is_key es ≡ a_found x → (j : ℕ) × (x.0 ≡ j + i) × (slice_get es j ≡ an_entry x.1)
stands_there is_key i [] x e = absurd cc
stands_there is_key i (a ∷ es) x e =
    elim (chosen (is_key a.key.bytes) (a_found (i, a)) (entry_from (i + 1) is_key es) (a_found x) e) [
      | inl h ↦ let s = some_pair_parts i x.0 a x.1 h.1 in (0, omega (arith, s.0), ap an_entry s.1)
      | inr h ↦ let more = stands_there is_key (i + 1) es x h.1 in (suc more.0, omega (arith, more.1), more.2)
    ]

-- of the type that was asked for
typed_there : (found : Option (ℕ × Entry)) (value : TypeDetail) (k : ℕ) → a_place k ≡ place_found (of_type value found) → (x : ℕ × Entry) × (found ≡ a_found x) × (of_type value found ≡ a_found x) × (x.0 ≡ k)
typed_there None value k e = absurd (let f : a_place k ≡ None = e in cc)
typed_there (Some x) value k e = at (same_type x.1.value value) e
  where
    at : (b : Bool) → a_place k ≡ place_found (cond b (a_found x) None) → (y : ℕ × Entry) × (a_found x ≡ a_found y) × (cond b (a_found x) None ≡ a_found y) × (y.0 ≡ k)
    at true f = (x, refl, refl, (let g : a_place k ≡ a_place x.0 = f in let h : x.0 ≡ k = cc in h))
    at false f = absurd (let g : a_place k ≡ None = f in cc)

-- the entry at the place that was found is the one that was found
pub at_place : (is_key : List ℕ → Bool) (value : TypeDetail) (es : List Entry) (k : ℕ) → a_place k ≡ place_found (of_type value (entry_from 0 is_key es))
    → of_type value (entry_from 0 is_key es) ≡ option_map (λ (e : Entry). (k, e)) (slice_get es k)
at_place is_key value es k e =
    let f = typed_there (entry_from 0 is_key es) value k e in
    let p = stands_there is_key 0 es f.0 f.1 in
    let q : p.0 ≡ k = omega (arith, p.1, f.3) in
    let g : slice_get es k ≡ an_entry f.0.1 = subst (λ (j : ℕ). slice_get es j ≡ an_entry f.0.1) q p.2 in
    f.2 ∙ ap (λ (j : ℕ). a_found (j, f.0.1)) f.3 ∙ ap (option_map (λ (x : Entry). (k, x))) (sym g)

module _ (board : Option Board) (b : Board) (is_key : List ℕ → Bool) (value : TypeDetail) (k : ℕ) (there : a_board b ≡ board) (found : a_place k ≡ place_found (of_type value (entry_from 0 is_key b.entries))) where
  shown : (o : Option Entry) → slice_get b.entries k ≡ o → option_map place_and_id (entry_found board is_key value) ≡ option_map place_and_id (option_map (λ (e : Entry). (k, e)) o)
  shown o at = ap (λ (x : Option Board). option_map place_and_id (entry_found x is_key value)) (sym there) ∙ ap (option_map place_and_id) (at_place is_key value b.entries k found ∙ ap (option_map (λ (x : Entry). (k, x))) at)

  -- its place and id are given
  pub given : (e : Entry) → slice_get b.entries k ≡ an_entry e → Some (k, e.cell.place) ≡ option_map place_and_id (entry_found board is_key value)
  given e at = sym (shown (Some e) at)

  -- nothing is, if there is none
  pub not_given : slice_get b.entries k ≡ None → None ≡ option_map place_and_id (entry_found board is_key value)
  not_given at = sym (shown None at)
