-- Listeners of one party among those of all.
use Rattle.std.proofs.Common.{◌≡◌, ℕ, zero, suc, ◌+◌, ◌<◌, ◌≤◌, Bool, true, false, cond, List, [], ◌∷◌, ◌++◌, length, get_or, Option, Some, None, ◌⊎◌, refl, sym, ap, ◌∙◌, subst, arith, inl, inr}
use Rattle.std.specs.Prelude.{if◌then◌else◌, slice_get}
use Rattle.std.specs.HashMap.{HashMap, get}
use Rattle.std.specs.Str.{bytes_eq}
use Rattle.std.proofs.Math.ListN.{get_or-append}
use Rattle.std.proofs.Math.Seq.{get_or-append_seam}
use Rattle.std.proofs.lemmas.Bool.{false≢true}
use Rattle.std.proofs.lemmas.List.{length_push}
use Rattle.std.proofs.lemmas.Option.{slice_get-get_or}
use Rattle.std.proofs.lemmas.Slice.Eq.{bytes_eq-Decides}
use Rattle.board_event_model.proofs.SetLemmas.{either}
use Rattle.script_event_tables.specs.Listeners.{AreChained, is_party, last_of}

-- how many listeners stand up to this one
abbrev pub up_to : Option ℕ → ℕ
up_to None = 0
up_to (Some place) = place + 1

-- what was found is a listener of the party
abbrev pub IsPlaceOf : List ℕ → List (List ℕ) → Option ℕ → Type 0
IsPlaceOf party listeners None = Unit {0}
IsPlaceOf party listeners (Some place) = (place < length listeners) × (get_or listeners place [] ≡ party)

abbrev step_of : Bool → ℕ → Option ℕ → Option ℕ
step_of b n rest = if b then Some n else rest

-- it is among the first n
pub up_to_last : (party : List ℕ) (listeners : List (List ℕ)) (n : ℕ) → up_to (last_of party listeners n) ≤ n
up_to_last party listeners zero = omega arith
up_to_last party listeners (suc n) = at (is_party (slice_get listeners n) party) (up_to_last party listeners n)
  where
    at : (b : Bool) → up_to (last_of party listeners n) ≤ n → up_to (step_of b n (last_of party listeners n)) ≤ suc n
    at true h = omega arith
    at false h = omega (arith, h)

-- and is the party's
pub place_of_last : (party : List ℕ) (listeners : List (List ℕ)) (n : ℕ) → n ≤ length listeners → IsPlaceOf party listeners (last_of party listeners n)
place_of_last party listeners zero low = tt
place_of_last party listeners (suc n) low =
    elim (either (is_party (slice_get listeners n) party)) as (λ _. IsPlaceOf party listeners (step_of (is_party (slice_get listeners n) party) n (last_of party listeners n))) [
      | inl own ↦ subst (λ (b : Bool). IsPlaceOf party listeners (step_of b n (last_of party listeners n))) (sym own) (inside, sym (its own))
      | inr other ↦ subst (λ (b : Bool). IsPlaceOf party listeners (step_of b n (last_of party listeners n))) (sym other) (place_of_last party listeners n (omega (arith, low)))
    ]
  where
    inside : n < length listeners
    inside = omega (arith, low)

    its : is_party (slice_get listeners n) party ≡ true → party ≡ get_or listeners n []
    its own = (bytes_eq-Decides party (get_or listeners n [])).0 (ap (λ (o : Option (List ℕ)). is_party o party) (sym (slice_get-get_or listeners n [] inside)) ∙ own)

-- ---- one listener more

same_test : (party : List ℕ) (parties : List (List ℕ)) (x : List ℕ) (n : ℕ) → n < length parties → is_party (slice_get (parties ++ x ∷ []) n) party ≡ is_party (slice_get parties n) party
same_test party parties x n low =
    let len = length_push parties x in
    ap (λ (o : Option (List ℕ)). is_party o party)
    (slice_get-get_or (parties ++ x ∷ []) n [] (omega (arith, low, len))
    ∙ ap (λ (y : List ℕ). some y) (get_or-append parties (x ∷ []) [] n low)
    ∙ sym (slice_get-get_or parties n [] low))
  where
    some : List ℕ → Option (List ℕ)
    some y = Some y

-- those before have the ones before them
last_before : (party : List ℕ) (parties : List (List ℕ)) (x : List ℕ) (n : ℕ) → n ≤ length parties → last_of party (parties ++ x ∷ []) n ≡ last_of party parties n
last_before party parties x zero low = refl
last_before party parties x (suc n) low =
    ap (λ (b : Bool). step_of b n (last_of party (parties ++ x ∷ []) n)) (same_test party parties x n (omega (arith, low)))
    ∙ ap (step_of (is_party (slice_get parties n) party) n) (last_before party parties x n (omega (arith, low)))

-- it is the last one of its party, and of no other
last_with : (party : List ℕ) (parties : List (List ℕ)) (x : List ℕ) → last_of party (parties ++ x ∷ []) (length (parties ++ x ∷ [])) ≡ cond (bytes_eq x party) (Some (length parties)) (last_of party parties (length parties))
last_with party parties x =
    ap (last_of party (parties ++ x ∷ [])) long
    ∙ ap (λ (b : Bool). step_of b (length parties) (last_of party (parties ++ x ∷ []) (length parties))) test
    ∙ ap (step_of (bytes_eq x party) (length parties)) (last_before party parties x (length parties) (omega arith))
  where
    len : length (parties ++ x ∷ []) ≡ length parties + 1
    len = length_push parties x

    long : length (parties ++ x ∷ []) ≡ suc (length parties)
    long = omega (arith, len)

    turned : bytes_eq party x ≡ bytes_eq x party
    turned = elim (either (bytes_eq x party)) as (λ _. bytes_eq party x ≡ bytes_eq x party) [
      | inl same ↦ (bytes_eq-Decides party x).1 (sym ((bytes_eq-Decides x party).0 same)) ∙ sym same
      | inr apart ↦ elim (either (bytes_eq party x)) as (λ _. bytes_eq party x ≡ bytes_eq x party) [
        | inl also ↦ absurd (false≢true (sym apart ∙ (bytes_eq-Decides x party).1 (sym ((bytes_eq-Decides party x).0 also))))
        | inr none ↦ none ∙ sym apart
      ]
    ]

    test : is_party (slice_get (parties ++ x ∷ []) (length parties)) party ≡ bytes_eq x party
    test =
        ap (λ (o : Option (List ℕ)). is_party o party) (slice_get-get_or (parties ++ x ∷ []) (length parties) [] (omega (arith, len)))
        ∙ ap (bytes_eq party) (get_or-append_seam parties x [] []) ∙ turned

module _ {S : Type 0} (last new : HashMap (List ℕ) ℕ S) (parties : List (List ℕ)) (before : List (Option ℕ)) (kept : AreChained last parties before) (x : List ℕ) where
  pub chained_pushed : (found : Option ℕ) → found ≡ get bytes_eq last x → ((p : List ℕ) → get bytes_eq new p ≡ cond (bytes_eq x p) (Some (length parties)) (get bytes_eq last p)) → AreChained new (parties ++ x ∷ []) (before ++ found ∷ [])
  chained_pushed found is shown = record {
    ends = λ p. shown p ∙ ap (λ (o : Option ℕ). cond (bytes_eq x p) (Some (length parties)) o) (kept.ends p) ∙ sym (last_with p parties x);
    each = length_push before found ∙ ap (λ (n : ℕ). n + 1) kept.each ∙ sym (length_push parties x);
    links = λ i d low.
        let len = length_push parties x in
        elim (near i (omega (arith, low, len))) as (λ _. get_or (before ++ found ∷ []) i d ≡ last_of (get_or (parties ++ x ∷ []) i []) (parties ++ x ∷ []) i) [
          | inl e ↦ at i d e
          | inr lt ↦ (let each = kept.each in get_or-append before (found ∷ []) d i (omega (arith, lt, each))) ∙ kept.links i d lt
              ∙ sym (last_before (get_or parties i []) parties x i (omega (arith, lt)))
              ∙ ap (λ (p : List ℕ). last_of p (parties ++ x ∷ []) i) (sym (get_or-append parties (x ∷ []) [] i lt))
        ];
  }
    where
      near : (i : ℕ) → i ≤ length parties → (i ≡ length parties) ⊎ (i < length parties)
      near i low = grind (arith, low)

      at : (i : ℕ) (d : Option ℕ) → i ≡ length parties → get_or (before ++ found ∷ []) i d ≡ last_of (get_or (parties ++ x ∷ []) i []) (parties ++ x ∷ []) i
      at i d e =
          ap (λ (j : ℕ). get_or (before ++ found ∷ []) j d) (e ∙ sym kept.each) ∙ get_or-append_seam before found [] d
          ∙ is ∙ kept.ends x ∙ sym (last_before x parties x (length parties) (omega arith))
          ∙ ap (λ (p : List ℕ). last_of p (parties ++ x ∷ []) (length parties)) (sym (get_or-append_seam parties x [] []))
          ∙ ap (λ (j : ℕ). last_of (get_or (parties ++ x ∷ []) j []) (parties ++ x ∷ []) j) (sym e)
