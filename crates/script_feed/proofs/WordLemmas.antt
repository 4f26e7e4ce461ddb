-- The words of a line: names, one after another.
use Rattle.std.proofs.Common.{◌≡◌, ℕ, ◌+◌, ◌≤◌, Bool, true, false, List, [], ◌∷◌, ◌++◌, length, refl, sym, ap, ◌∙◌, append_assoc, arith}
use Rattle.std.specs.Prelude.{◌&&◌, nat_le}
use Rattle.std.proofs.lemmas.Bool.{leb-true, le-leb}
use Rattle.std.proofs.lemmas.List.{append-nil}
use Rattle.std.specs.List.{AllByRecursion, list_all}
use Rattle.board_model.specs.LineGrammar.{is_name}
use Rattle.script_exchanges.specs.declared.line.Drive.{Drive}
use Rattle.script_exchanges.specs.declared.line.Drive.TheVariants.{Snapshots, Watchers}
use Rattle.script_exchanges.specs.DriveGrammar.{least_things, most_things}
use Rattle.script_grammar.proofs.ReaderLemmas.{both}
use Rattle.script_feed.specs.DriveReading.{are_things, has_place_for}

-- names, one by one and by a test
pub named_each : (ts : List (List ℕ)) → list_all is_name ts ≡ true → AllByRecursion (λ n. is_name n ≡ true) ts
named_each [] h = tt
named_each (t ∷ ts) h = let k = both (is_name t) (list_all is_name ts) h in (k.0, named_each ts k.1)

pub each_named : (ts : List (List ℕ)) → AllByRecursion (λ n. is_name n ≡ true) ts → list_all is_name ts ≡ true
each_named [] h = refl
each_named (t ∷ ts) h = rw (h.0, each_named ts h.1) refl

-- ---- whether words are names, and as many as may be

pub place_is : (d : Drive) (n : ℕ) → has_place_for d n ≡ true → (least_things d ≤ n) × (n ≤ most_things d)
place_is d n e =
    let k = both (nat_le (least_things d) n) (nat_le n (most_things d)) e in
    (leb-true (least_things d) n k.0, leb-true n (most_things d) k.1)

pub is_place : (d : Drive) (n : ℕ) → least_things d ≤ n → n ≤ most_things d → has_place_for d n ≡ true
is_place d n low high = rw (le-leb (least_things d) n low, le-leb n (most_things d) high) refl

pub one_more : (d : Drive) (n : ℕ) (old rest : List (List ℕ)) (word : List ℕ) → old ≡ word ∷ rest → is_name word ≡ true → are_things d n old ≡ are_things d (n + 1) rest
one_more d n old rest word e h =
    let count : n + length (word ∷ rest) ≡ n + 1 + length rest = omega arith in
    ap (are_things d n) e ∙ ap (λ (b : Bool). (b && list_all is_name rest) && has_place_for d (n + length (word ∷ rest))) h ∙ ap (λ (k : ℕ). list_all is_name rest && has_place_for d k) count

pub no_name : (d : Drive) (n : ℕ) (old rest : List (List ℕ)) (word : List ℕ) → old ≡ word ∷ rest → is_name word ≡ false → are_things d n old ≡ false
no_name d n old rest word e h =
    ap (are_things d n) e ∙ ap (λ (b : Bool). (b && list_all is_name rest) && has_place_for d (n + length (word ∷ rest))) h

and_false : (b : Bool) → (b && false) ≡ false
and_false true = refl
and_false false = refl

most_few : (d : Drive) → most_things d ≤ 17
most_few Snapshots = omega arith
most_few Watchers = omega arith

no_place : (d : Drive) (n : ℕ) → 18 ≤ n → has_place_for d n ≡ false
no_place d n le = at (has_place_for d n) refl
  where
    at : (b : Bool) → has_place_for d n ≡ b → b ≡ false
    at false e = refl
    at true e = absurd (omega (arith, (place_is d n e).1, most_few d))

pub too_many : (d : Drive) (n : ℕ) (old rest : List (List ℕ)) (word : List ℕ) → old ≡ word ∷ rest → 17 ≤ n → are_things d n old ≡ false
too_many d n old rest word e le =
    ap (are_things d n) e ∙ ap (λ (b : Bool). list_all is_name (word ∷ rest) && b) (no_place d (n + length (word ∷ rest)) (omega (arith, le))) ∙ and_false (list_all is_name (word ∷ rest))

pub none_left : (d : Drive) (n : ℕ) (old : List (List ℕ)) → old ≡ [] → are_things d n old ≡ has_place_for d n
none_left d n old e = ap (are_things d n) e ∙ ap (has_place_for d) (omega arith)

-- the names are those of the front, and the words that are left
pub names_more : (names rest now old : List (List ℕ)) (word : List ℕ) → names ++ rest ≡ old → rest ≡ word ∷ now → (names ++ word ∷ []) ++ now ≡ old
names_more names rest now old word e r = append_assoc names (word ∷ []) now ∙ ap (λ (ts : List (List ℕ)). names ++ ts) (sym r) ∙ e

pub names_done : (names rest old : List (List ℕ)) → names ++ rest ≡ old → rest ≡ [] → names ≡ old
names_done names rest old e r = sym (append-nil names) ∙ ap (λ (ts : List (List ℕ)). names ++ ts) (sym r) ∙ e
