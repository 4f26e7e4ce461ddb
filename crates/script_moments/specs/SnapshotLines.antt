-- How a snapshot goes on, line by line: what a loop keeps.
use Rattle.std.specs.Prelude.{◌≡◌, ℕ, false, List, [], ◌∷◌, ◌++◌, length, slice_get, Option, Some, None}
use Rattle.board_model.specs.declared.value.ValueType.{ValueType}
use Rattle.script_model.specs.ScriptSession.{IsLawful, IsRight, Session}
use Rattle.script_model.specs.LawsOfComposition.{Pair, state_met}
use Rattle.script_model.specs.LawsOfLines.{names}
use Rattle.script_moments.specs.Moments.{Moment, next_moment}
use Rattle.script_moments.specs.Gets.{Ends, GoesOn, IsBegin, Round, ended_get, generations}
use Rattle.script_moments.specs.Snapshots.{AreUnlike, IsSnapshot, IsWritten, Snapshot}

-- a snapshot in the middle of a round: the rounds before, the gets of this one, and the get that runs
abbrev pub snapshot_at : List Round → Round → Option (Moment × List Moment) → Snapshot
snapshot_at rounds gets begun = record { rounds = rounds; gets = gets; begun = begun }

-- it begins after any lawful session
abbrev pub SnapshotsBegin : Type 0
SnapshotsBegin = (before : Session) (party : List ℕ) (handles : List (List ℕ)) → IsLawful before → IsSnapshot before [] party handles (snapshot_at [] [] None)

-- a line that doesn't name the party leaves it
abbrev pub OthersLeaveSnapshots : Type 0
OthersLeaveSnapshots = (before since : Session) (party : List ℕ) (handles : List (List ℕ)) (x : Snapshot) (pair : Pair) → IsSnapshot before since party handles x
    → IsRight (state_met (before ++ since)) pair.0 pair.1 → names party pair.0 ≡ false → IsSnapshot before (since ++ pair ∷ []) party handles x

-- the next get begins
abbrev pub GetBegins : Type 0
GetBegins = (before since : Session) (party handle : List ℕ) (handles : List (List ℕ)) (rounds : List Round) (gets : Round) (pair : Pair)
    → IsSnapshot before since party handles (snapshot_at rounds gets None) → IsRight (state_met (before ++ since)) pair.0 pair.1
    → slice_get handles (length gets) ≡ Some handle → IsBegin party handle (next_moment before since pair)
    → IsSnapshot before (since ++ pair ∷ []) party handles (snapshot_at rounds gets (Some (next_moment before since pair, [])))

-- it goes on
abbrev pub GetGoesOn : Type 0
GetGoesOn = (before since : Session) (party : List ℕ) (handles : List (List ℕ)) (rounds : List Round) (gets : Round) (m : Moment) (steps : List Moment) (pair : Pair)
    → IsSnapshot before since party handles (snapshot_at rounds gets (Some (m, steps))) → IsRight (state_met (before ++ since)) pair.0 pair.1
    → GoesOn party (next_moment before since pair)
    → IsSnapshot before (since ++ pair ∷ []) party handles (snapshot_at rounds gets (Some (m, steps ++ next_moment before since pair ∷ [])))

-- it ends
abbrev pub GetEnds : Type 0
GetEnds = (before since : Session) (party : List ℕ) (handles : List (List ℕ)) (rounds : List Round) (gets : Round) (m : Moment) (steps : List Moment) (pair : Pair) (type : ValueType) (words : List ℕ) (g : ℕ)
    → IsSnapshot before since party handles (snapshot_at rounds gets (Some (m, steps))) → IsRight (state_met (before ++ since)) pair.0 pair.1
    → Ends party (next_moment before since pair) type words g
    → IsSnapshot before (since ++ pair ∷ []) party handles (snapshot_at rounds (gets ++ ended_get m steps (next_moment before since pair) type words g ∷ []) None)

-- so does a round: where its generations aren't those of the one before, a new round begins
abbrev pub RoundEnds : Type 0
RoundEnds = (before since : Session) (party : List ℕ) (handles : List (List ℕ)) (rounds : List Round) (gets : Round)
    → IsSnapshot before since party handles (snapshot_at rounds gets None) → length gets ≡ length handles → AreUnlike (rounds ++ gets ∷ [])
    → IsSnapshot before since party handles (snapshot_at (rounds ++ gets ∷ []) [] None)

-- and where they are, the snapshot is written
abbrev pub SnapshotEnds : Type 0
SnapshotEnds = (before since : Session) (party : List ℕ) (handles : List (List ℕ)) (earlier : List Round) (one gets : Round)
    → IsSnapshot before since party handles (snapshot_at (earlier ++ one ∷ []) gets None) → length gets ≡ length handles → generations one ≡ generations gets
    → IsWritten before since party handles (snapshot_at (earlier ++ one ∷ []) gets None)

-- so goes a snapshot
pub record SnapshotsGoOn : Type 0 where
  pub start : SnapshotsBegin
  pub others : OthersLeaveSnapshots
  pub begins : GetBegins
  pub goes_on : GetGoesOn
  pub ends : GetEnds
  pub round : RoundEnds
  pub written : SnapshotEnds
