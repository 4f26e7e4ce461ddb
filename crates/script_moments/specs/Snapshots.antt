-- Snapshots: a party gets the entries of its handles in rounds, until a round has the generations of the one before.
use Rattle.std.specs.Prelude.{◌≡◌, ℕ, ◌+◌, List, [], ◌∷◌, ◌++◌, Option, None, ⊤}
use Rattle.std.specs.List.{AllByRecursion, flat_map, sum_by}
use Rattle.script_model.specs.ScriptSession.{IsLawful, Session}
use Rattle.script_model.specs.LawsOfComposition.{state_met}
use Rattle.script_moments.specs.Moments.{Moment, moments, own}
use Rattle.script_moments.specs.Gets.{IsPart, IsRound, Round, generations, moments_of, moments_of_open, steps_of, steps_of_open}

-- no round has the generations of the one before it
abbrev pub AreUnlike : List Round → Type 0
AreUnlike [] = ⊤
AreUnlike (x ∷ []) = ⊤
AreUnlike (x ∷ y ∷ more) = (generations x ≡ generations y → ⊥) × AreUnlike (y ∷ more)

-- a snapshot so far: the rounds before its last one, and of that the gets that ended, and the one that runs, if one does
pub record Snapshot : Type 0 where
  pub rounds : List Round
  pub gets : Round
  pub begun : Option (Moment × List Moment)

-- all of its moments, in order
abbrev pub moments_of_snapshot : Snapshot → List Moment
moments_of_snapshot x = flat_map moments_of x.rounds ++ (moments_of x.gets ++ moments_of_open x.begun)

-- how many steps it has taken
abbrev pub steps_of_snapshot : Snapshot → ℕ
steps_of_snapshot x = sum_by steps_of x.rounds + (steps_of x.gets + steps_of_open x.begun)

-- since the snapshot began the party's own lines are those of its rounds, none of which has the generations of the one before
pub record IsSnapshot (before since : Session) (party : List ℕ) (handles : List (List ℕ)) (x : Snapshot) : Type 0 where
  pub lawful : IsLawful (before ++ since)
  pub own : own party (moments (state_met before) since) ≡ moments_of_snapshot x
  pub rounds : AllByRecursion (IsRound party handles) x.rounds
  pub unlike : AreUnlike x.rounds
  pub part : IsPart party handles x.gets x.begun

-- it is written: its last round is whole, and has the generations of the one before
pub record IsWritten (before since : Session) (party : List ℕ) (handles : List (List ℕ)) (x : Snapshot) : Type 0 where
  pub snapshot : IsSnapshot before since party handles x
  pub none : x.begun ≡ None
  pub whole : IsRound party handles x.gets
  pub earlier : List Round
  pub one : Round
  pub rounds : x.rounds ≡ earlier ++ one ∷ []
  pub alike : generations one ≡ generations x.gets
