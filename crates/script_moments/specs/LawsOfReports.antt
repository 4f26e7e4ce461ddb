-- Laws of reports: they rise, the last is the highest, each is an item of its list, and after a take they are fresh.
use Rattle.std.specs.Prelude.{◌≡◌, ℕ, ◌<◌, ◌≤◌, List, [], ◌∷◌, ◌++◌, ⊤}
use Rattle.std.specs.List.{AllByRecursion}
use Rattle.script_model.specs.ScriptSession.{Session}
use Rattle.script_model.specs.LawsOfComposition.{state_met}
use Rattle.script_moments.specs.Gets.{Get}
use Rattle.script_moments.specs.Reports.{IsAnsweredTake, IsItem, IsOfEntry, IsOwnGet, Take, entry_got, last_report, reports, to_taken}

-- each generation is above the one before it
abbrev pub Rise : ℕ → List Get → Type 0
Rise top [] = ⊤
Rise top (x ∷ xs) = (top < x.generation) × Rise x.generation xs

-- the generations that are reported rise
abbrev pub ReportsRise : Type 0
ReportsRise = (gets : List Get) → Rise 0 (reports gets)

-- once a get has ended, the last report has at least its generation
abbrev pub LastReportsAreHighest : Type 0
LastReportsAreHighest = (gets : List Get) → AllByRecursion (λ (x : Get). x.generation ≤ last_report 0 (reports gets)) gets

-- what a get gives is an item of the list of its entry, from then on
abbrev pub GetsAreItems : Type 0
GetsAreItems = (before since : Session) (party handle : List ℕ) (x : Get) → IsOwnGet before since party handle x → IsItem (state_met (before ++ since)) (entry_got party handle x) x

-- a get of the entry that begins after the take gives the words that were published, or later ones
abbrev pub GetsAfterTakesAreFresh : Type 0
GetsAfterTakesAreFresh =
    (c : Take) (behind : Session) (b i n id g : ℕ) (words party handle : List ℕ) (x : Get) → IsAnsweredTake c b i n id g words
    → IsOwnGet (to_taken c ++ c.taken ∷ []) behind party handle x → IsOfEntry party handle x b i
    → (g ≤ x.generation) × (g ≡ x.generation → words ≡ x.words)

-- so the last report has at least the generation of that publication, once such a get has ended
abbrev pub LastReportsAreFresh : Type 0
LastReportsAreFresh =
    (c : Take) (behind : Session) (b i n id g : ℕ) (words party handle : List ℕ) (x : Get) (before after : List Get) → IsAnsweredTake c b i n id g words
    → IsOwnGet (to_taken c ++ c.taken ∷ []) behind party handle x → IsOfEntry party handle x b i
    → g ≤ last_report 0 (reports (before ++ x ∷ after))
