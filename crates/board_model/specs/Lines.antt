-- The lines of an input, and when a source or a sink counts as failed.
use Rattle.std.specs.Prelude.{◌≡◌, ℕ, ◌+◌, ◌-◌, ◌≤◌, ◌^◌, ◌==◌, false, min, List, [], ◌∷◌, length, All, if◌then◌else◌, Option, Some, None, ⊤, Result, OnErr}
use Rattle.std.specs.List.{slice_split}

-- ---- lines

-- bytes without a newline
abbrev pub IsOneLine : List ℕ → Type 0
IsOneLine line = All (λ b. (b == 10) ≡ false) line

-- the parts but for an empty last one
abbrev pub whole_parts : List (List ℕ) → List (List ℕ)
whole_parts [] = []
whole_parts (x ∷ []) = if length x == 0 then [] else x ∷ []
whole_parts (x ∷ y ∷ more) = x ∷ whole_parts (y ∷ more)

-- the lines of an input: the bytes up to each newline, and those behind the last one where there are any
abbrev pub lines_of : List ℕ → List (List ℕ)
lines_of bytes = whole_parts (slice_split (λ b. b == 10) bytes)

-- what was known has a first line, and what is known now are the bytes behind it
abbrev pub TakesLine : Option (List ℕ) → Option (List ℕ) → List ℕ → Type 0
TakesLine None rest line = ⊤
TakesLine (Some bytes) None line = ⊥
TakesLine (Some bytes) (Some rest) line = lines_of bytes ≡ line ∷ lines_of rest

-- ---- causes

-- a count of faults has risen; one that stands at its last value counts as risen
abbrev pub Rose : ℕ → ℕ → Type 0
Rose before now = min (before + 1) (2 ^ 64 - 1) ≤ now

-- a count of faults never falls, and has risen where a call failed
pub record HasCause {T E : Type 0} (before now : ℕ) (result : Result T E) : Type 0 where
  pub later : before ≤ now
  pub failed : OnErr result (Rose before now)
