-- How the names of a table are listed.
use Rattle.std.specs.Prelude.{◌≡◌, ℕ, List, [], ◌∷◌, ◌++◌, Option, Some, None, option_to_list, IfSome, refl}
use Rattle.std.specs.List.{AllByRecursion}
use Rattle.std.specs.List.Sorted.{IsStrictlySortedBy}
use Rattle.std.specs.Ordering.{nat_cmp}
use Rattle.std.specs.Cmp.Lexicographic.{slice_cmp}
use Rattle.std.specs.declared.cmp.Ordering.TheVariants.{Less}
use Rattle.std.proofs.Common.{sym, subst}
use Rattle.std.proofs.lemmas.List.{append_assoc}
use Rattle.board_names.specs.declared.configuration.Configuration.{Configuration}
use Rattle.board_names.specs.Configuration.{full_name}
use Rattle.board_names.specs.Extraction.{Extracts, Lists, FullNamesAscend, cmp_full_names}
use Rattle.board_names.specs.Names.{IsFileName}

-- the two clauses of an extraction say which name it is
pub Extracts-from : (c : Configuration) (path : List ℕ) (one : Option (List ℕ)) →
    IfSome one (λ name. IsFileName name × (path ≡ full_name c name)) →
    ((name : List ℕ) → IsFileName name → path ≡ full_name c name → one ≡ Some name) → Extracts c path one
Extracts-from c path None found every = λ name rule is. let no : None ≡ Some name = every name rule is in cc
Extracts-from c path (Some name) found every = found

-- whatever these paths list, all paths list it behind these names
abbrev pub ListsBehind : Configuration → List (List ℕ) → List (List ℕ) → List (List ℕ) → Type 0
ListsBehind c all paths names = (rest : List (List ℕ)) → Lists c paths rest → Lists c all (names ++ rest)

-- one path more is looked at
pub ListsBehind-next : (c : Configuration) (all paths names : List (List ℕ)) (path : List ℕ) (one : Option (List ℕ)) →
    ListsBehind c all (path ∷ paths) names → Extracts c path one → ListsBehind c all paths (names ++ option_to_list one)
ListsBehind-next c all paths names path one behind extracts = λ rest lists.
    subst (λ ns. Lists c all ns) (sym (append_assoc names (option_to_list one) rest))
    (behind (option_to_list one ++ rest) (one, extracts, (rest, refl, lists)))

-- what holds of each full name holds of the full names of the listed names
pub Lists-each : (P : List ℕ → Type 0) (c : Configuration) (paths names : List (List ℕ)) → Lists c paths names →
    AllByRecursion P paths → AllByRecursion (λ name. P (full_name c name)) names
Lists-each P c [] names lists each = subst (AllByRecursion (λ name. P (full_name c name))) (sym lists) tt
Lists-each P c (path ∷ paths) names (None, extracts, (rest, is, lists)) each =
    subst (AllByRecursion (λ name. P (full_name c name))) (sym is) (Lists-each P c paths rest lists each.1)
Lists-each P c (path ∷ paths) names (Some one, extracts, (rest, is, lists)) each =
    subst (AllByRecursion (λ name. P (full_name c name))) (sym is)
    (subst P extracts.1 each.0, Lists-each P c paths rest lists each.1)

-- what is listed of full names that ascend ascends
pub Lists-ascend : (c : Configuration) (paths names : List (List ℕ)) → Lists c paths names →
    IsStrictlySortedBy (slice_cmp nat_cmp) paths → FullNamesAscend c names
unfolding IsStrictlySortedBy
Lists-ascend c [] names lists ascend = subst (IsStrictlySortedBy (cmp_full_names c)) (sym lists) tt
Lists-ascend c (path ∷ paths) names (None, extracts, (rest, is, lists)) ascend =
    subst (IsStrictlySortedBy (cmp_full_names c)) (sym is) (Lists-ascend c paths rest lists ascend.1)
Lists-ascend c (path ∷ paths) names (Some one, extracts, (rest, is, lists)) ascend =
    let above = Lists-each (λ other. slice_cmp nat_cmp path other ≡ Less) c paths rest lists ascend.0 in
    let first = subst (λ p. AllByRecursion (λ other. slice_cmp nat_cmp p (full_name c other) ≡ Less) rest) extracts.1 above in
    subst (IsStrictlySortedBy (cmp_full_names c)) (sym is) (first, Lists-ascend c paths rest lists ascend.1)
