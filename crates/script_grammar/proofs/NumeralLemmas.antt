-- Numbers are read back from their digits.
use Rattle.std.proofs.Common.{◌≡◌, ℕ, zero, suc, ◌^◌, ◌<◌, true, List, [], ◌∷◌, length, get_or, arith, rules, Some, refl, sym, ap, ◌∙◌, eqb, lit<}
use Rattle.std.specs.Prelude.{nat_lt, not, ◌&&◌, decimal}
use Rattle.std.specs.Str.{all_ascii_digits}
use Rattle.std.proofs.lemmas.Bool.{ltb-true, lt-ltb}
use Rattle.std.proofs.lemmas.Str.Parse.{IsNumeralModel, numerals_by_fold}
use Rattle.std.proofs.lemmas.Fmt.{digits_decimal, digits_value-decimal, decimal-digits_value, decimal_nonempty, first_decimal, decimal_digit}
use Rattle.script_grammar.specs.TokenReading.{read_on, is_plain_numeral, read_digits, read_number}
use Rattle.script_grammar.specs.LawsOfNumbers.{NumbersAreSpelledOnce}
use Rattle.script_grammar.proofs.ReaderLemmas.{some_is, guard_some, both}

pub own : IsNumeralModel (λ ds. all_ascii_digits ds ≡ true) (read_on 0)
own = numerals_by_fold _ (search rules) read_on (search rules)

plain_front : (ds : List ℕ) → 0 < length ds → 48 < get_or ds 0 0 → is_plain_numeral ds ≡ true
plain_front [] some first = absurd (omega arith)
plain_front (c ∷ []) some first = refl
plain_front (c ∷ d ∷ ds) some first = grind arith

is_plain_numeral-decimal : (n : ℕ) → n < 2 ^ 64 → is_plain_numeral (decimal n) ≡ true
is_plain_numeral-decimal zero lt = rw (decimal_digit 0 (lit< tt)) refl
is_plain_numeral-decimal (suc n) lt = plain_front (decimal (suc n)) (decimal_nonempty (suc n) lt) (first_decimal (suc n) (omega arith) lt)

pub number_again : (n : ℕ) → n < 2 ^ 64 → read_number (decimal n) ≡ Some n
unfolding read_number
number_again n lt =
    let d : all_ascii_digits (decimal n) ≡ true = digits_decimal own n lt in
    let v : read_on 0 (decimal n) ≡ n = digits_value-decimal own n lt in
    let p : nat_lt n 18446744073709551616 ≡ true = lt-ltb _ _ lt in
    rw (is_plain_numeral-decimal n lt, d, v, p) refl

plain_is : (ds : List ℕ) → is_plain_numeral ds ≡ true → (0 < length ds) × (get_or ds 0 0 ≡ 48 → length ds ≡ 1)
plain_is [] e = absurd cc
plain_is (c ∷ []) e = (omega arith, λ _. refl)
plain_is (c ∷ d ∷ ds) e = (omega arith, λ h. absurd (let k : not (eqb 48 48) ≡ true = rw h at e in cc))

pub number_takes : (text : List ℕ) (n : ℕ) → read_number text ≡ Some n → (text ≡ decimal n) × (n < 2 ^ 64)
unfolding read_number
number_takes text n e =
    let g = guard_some (is_plain_numeral text) (read_digits text) n e in
    let h = guard_some (all_ascii_digits text && nat_lt (read_on 0 text) 18446744073709551616) (Some (read_on 0 text)) n g.1 in
    let b = both (all_ascii_digits text) (nat_lt (read_on 0 text) 18446744073709551616) h.0 in
    let v : read_on 0 text ≡ n = some_is (read_on 0 text) n h.1 in
    let p = plain_is text g.0 in
    let lt : read_on 0 text < 2 ^ 64 = ltb-true _ _ b.1 in
    let s : decimal (read_on 0 text) ≡ text = decimal-digits_value own text b.0 p.0 p.1 lt in
    (sym s ∙ ap decimal v, omega (arith, v, lt))

pub spelled_once : NumbersAreSpelledOnce
spelled_once = record { spelled = number_takes; read = number_again }
