-- Texts without a byte: what they are joined to by it is cut where they were joined.
use Rattle.std.proofs.Common.{◌≡◌, ℕ, ◌^◌, ◌<◌, Bool, true, false, List, [], ◌∷◌, ◌++◌, length, arith, refl, ap, ◌∙◌, eqb, All}
use Rattle.std.specs.Prelude.{◌&&◌, not, nat_le, decimal}
use Rattle.std.specs.Str.{all_ascii_digits}
use Rattle.std.specs.Char.{is_ascii_digit}
use Rattle.std.specs.List.{join_with_byte, slice_split, AllByRecursion, list_all}
use Rattle.std.proofs.lemmas.Bool.{eqb-true}
use Rattle.std.proofs.lemmas.Fmt.{digits_decimal}
use Rattle.std.proofs.lemmas.List.Splits.{slice_split_at, slice_split_none}
use Rattle.std.proofs.lemmas.List.Elements.{All-from_recursion}
use Rattle.board_model.specs.LineGrammar.{IsNumber, is_name, is_name_byte, is_visible, is_visible_byte}
use Rattle.script_model.specs.ScriptGrammar.{is_event_name}
use Rattle.script_grammar.proofs.ReaderLemmas.{both}
use Rattle.script_grammar.proofs.NumeralLemmas.{own}

-- a text without the byte
abbrev pub Lacks : ℕ → List ℕ → Type 0
Lacks c text = All (λ b. eqb b c ≡ false) text

-- the same as a test that computes
abbrev pub lacks : ℕ → List ℕ → Bool
lacks c text = list_all (λ b. not (eqb b c)) text

abbrev pub IsFree : ℕ → List ℕ → Type 0
IsFree c text = lacks c text ≡ true

pub split_join : (c : ℕ) → eqb c c ≡ true → (t : List ℕ) (ts : List (List ℕ)) → AllByRecursion (Lacks c) (t ∷ ts) → slice_split (λ b. eqb b c) (join_with_byte c (t ∷ ts)) ≡ t ∷ ts
split_join c same t [] h = slice_split_none (λ b. eqb b c) t h.0
split_join c same t (u ∷ us) h = slice_split_at (λ b. eqb b c) t c (join_with_byte c (u ∷ us)) h.0 same ∙ ap (λ (x : List (List ℕ)). t ∷ x) (split_join c same u us h.1)

is_false : (b : Bool) → not b ≡ true → b ≡ false
is_false true e = absurd cc
is_false false e = refl

bare : (c : ℕ) (text : List ℕ) → IsFree c text → AllByRecursion (λ b. eqb b c ≡ false) text
bare c [] h = tt
bare c (b ∷ bs) h = let s = both (not (eqb b c)) (lacks c bs) h in (is_false (eqb b c) s.0, bare c bs s.1)

pub free_lacks : (c : ℕ) (text : List ℕ) → IsFree c text → Lacks c text
free_lacks c text h = All-from_recursion (λ b. eqb b c ≡ false) text (bare c text h)

pub free_all : (c : ℕ) (ts : List (List ℕ)) → AllByRecursion (IsFree c) ts → AllByRecursion (Lacks c) ts
free_all c [] h = tt
free_all c (t ∷ ts) h = (free_lacks c t h.0, free_all c ts h.1)

split_some : (c : ℕ) → eqb c c ≡ true → (ts : List (List ℕ)) → 0 < length ts → AllByRecursion (Lacks c) ts → slice_split (λ b. eqb b c) (join_with_byte c ts) ≡ ts
split_some c same [] lt h = absurd (omega arith)
split_some c same (t ∷ ts) lt h = split_join c same t ts h

-- what free texts are joined to is cut into them again
pub split_free : (c : ℕ) → eqb c c ≡ true → (ts : List (List ℕ)) → 0 < length ts → AllByRecursion (IsFree c) ts → slice_split (λ b. eqb b c) (join_with_byte c ts) ≡ ts
split_free c same ts lt h = split_some c same ts lt (free_all c ts h)

-- ---- tests that the byte does not pass

bars : (c : ℕ) (p : ℕ → Bool) → p c ≡ false → (b : ℕ) (v : Bool) → eqb b c ≡ v → p b ≡ true → not v ≡ true
bars c p bar b true e passes = absurd (let s : p c ≡ true = rw (eqb-true b c e) at passes in cc)
bars c p bar b false e passes = refl

pub free_from : (c : ℕ) (p : ℕ → Bool) → p c ≡ false → (text : List ℕ) → list_all p text ≡ true → IsFree c text
free_from c p bar [] h = refl
free_from c p bar (b ∷ bs) h =
    let s = both (p b) (list_all p bs) h in
    rw (bars c p bar b (eqb b c) refl s.0, free_from c p bar bs s.1) refl

pub free_digits : (c : ℕ) → is_ascii_digit c ≡ false → (text : List ℕ) → all_ascii_digits text ≡ true → IsFree c text
free_digits c bar text h = free_from c is_ascii_digit bar text (digits_pass text h)
  where
    digits_pass : (ds : List ℕ) → all_ascii_digits ds ≡ true → list_all is_ascii_digit ds ≡ true
    digits_pass [] e = refl
    digits_pass (d ∷ ds) e = let s = both (is_ascii_digit d) (all_ascii_digits ds) e in rw (s.0, digits_pass ds s.1) refl

pub free_number : (c : ℕ) → is_ascii_digit c ≡ false → (n : ℕ) → n < 2 ^ 64 → IsFree c (decimal n)
free_number c bar n lt = free_digits c bar (decimal n) (digits_decimal own n lt)

pub free_visible : (c most : ℕ) → is_visible_byte c ≡ false → (text : List ℕ) → is_visible most text ≡ true → IsFree c text
free_visible c most bar text h = free_from c is_visible_byte bar text (both (not (eqb (length text) 0) && nat_le (length text) most) (list_all is_visible_byte text) h).1

pub free_name : (c : ℕ) → is_name_byte c ≡ false → (text : List ℕ) → is_name text ≡ true → IsFree c text
free_name c bar text h = free_from c is_name_byte bar text (both (not (eqb (length text) 0) && nat_le (length text) 16) (list_all is_name_byte text) h).1

pub free_event_name : (c : ℕ) → is_visible_byte c ≡ false → (text : List ℕ) → is_event_name text ≡ true → IsFree c text
free_event_name c bar text h = free_visible c 255 bar text (both (is_visible 255 text) _ h).0

-- ---- texts put together

pub free_append : (c : ℕ) (a b : List ℕ) → IsFree c a → IsFree c b → IsFree c (a ++ b)
free_append c [] b ha hb = hb
free_append c (x ∷ a) b ha hb = let s = both (not (eqb x c)) (lacks c a) ha in rw (s.0, free_append c a b s.1 hb) refl

pub free_joined : (c s : ℕ) → eqb s c ≡ false → (ts : List (List ℕ)) → AllByRecursion (IsFree c) ts → IsFree c (join_with_byte s ts)
free_joined c s apart [] h = refl
free_joined c s apart (t ∷ []) h = h.0
free_joined c s apart (t ∷ u ∷ us) h = free_append c t (s ∷ join_with_byte s (u ∷ us)) h.0 (rw (apart, free_joined c s apart (u ∷ us) h.1) refl)

-- four numbers that commas part
pub split_four : (a b c d : ℕ) → IsNumber a → IsNumber b → IsNumber c → IsNumber d → slice_split (λ x. eqb x 44) (join_with_byte 44 (decimal a ∷ decimal b ∷ decimal c ∷ decimal d ∷ [])) ≡ decimal a ∷ decimal b ∷ decimal c ∷ decimal d ∷ []
split_four a b c d ha hb hc hd =
    split_free 44 refl (decimal a ∷ decimal b ∷ decimal c ∷ decimal d ∷ []) (omega arith)
    (free_number 44 refl a ha, (free_number 44 refl b hb, (free_number 44 refl c hc, (free_number 44 refl d hd, tt))))
