use Rattle.std.proofs.Common.{◌≡◌, ℕ, List, ◌++◌, refl, ◌∙◌, lit<}
use Rattle.std.specs.Prelude.{codes, decimal}
use Rattle.std.proofs.lemmas.Fmt.{decimal-digits_of, decimal_digit}
use Rattle.script_generator.specs.Summary.{summary}
use Rattle.script_generator.specs.WorkedGenerator.{run_for_one, summary_for_one}
use Rattle.script_generator.proofs.worked_generator.the_run_for_one_is_lawful.Goals as goal

abbrev told : (a b c d e f g : List ℕ) → List ℕ
told a b c d e f g =
    codes "lines " ++ (a ++ (codes "\nrefused " ++ (b ++ (codes "\nsteps " ++ (c ++ (codes "\nupdates " ++ (d ++ (codes "\ngets " ++ (e
    ++ (codes "\ngenerations " ++ (f ++ (codes " " ++ (g ++ codes "\n")))))))))))))

told_so : (a b c d e f g : List ℕ) → a ≡ codes "25" → b ≡ codes "1" → c ≡ codes "12" → d ≡ codes "0" → e ≡ codes "0" → f ≡ codes "1" → g ≡ codes "1" → told a b c d e f g ≡ summary_for_one
told_so a b c d e f g ea eb ec ed ee ef eg = rw (ea, eb, ec, ed, ee, ef, eg) refl

one : decimal 1 ≡ codes "1"
one = decimal_digit 1 (lit< tt)

none : decimal 0 ≡ codes "0"
none = decimal_digit 0 (lit< tt)

in_decimals : summary run_for_one ≡ told (decimal 25) (decimal 1) (decimal 12) (decimal 0) (decimal 0) (decimal 1) (decimal 1)
in_decimals = refl

pub returns-clause-text : goal.returns-clause-text
returns-clause-text c =
    in_decimals ∙ told_so _ _ _ _ _ _ _ (decimal-digits_of 25 (lit< tt) (lit< tt)) one (decimal-digits_of 12 (lit< tt) (lit< tt)) none none one one
