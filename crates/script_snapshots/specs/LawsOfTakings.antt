-- Laws of scripts whose parties can take snapshots: the fed session is lawful, and a snapshot is that of one moment and short.
use Rattle.std.specs.Prelude.{◌≡◌, ℕ, ◌+◌, ◌*◌, ◌≤◌, List, [], ◌∷◌, ◌++◌, map, Option, Some, None}
use Rattle.std.specs.List.{flat_map}
use Rattle.script_model.specs.ScriptAnswers.{ScriptAnswer}
use Rattle.script_model.specs.ScriptSession as script
use Rattle.script_model.specs.ScriptSession.{IsRight, Session}
use Rattle.script_model.specs.LawsOfComposition.{state_met}
use Rattle.script_moments.specs.Moments.{end_of, moments}
use Rattle.script_moments.specs.Gets.{moments_of, named_entry}
use Rattle.script_moments.specs.Snapshots.{IsWritten, Snapshot, steps_of_snapshot}
use Rattle.script_moments.specs.LawsOfSnapshots.{AreLastValues, published_of, steps_again, steps_alone}
use Rattle.script_exchanges.specs.Exchanges.{Exchanges, fed_session}
use Rattle.script_snapshots.specs.Takings.{Taking, next_line, taken, whole}
use Rattle.script_snapshots.specs.SnapshotExchanges.{Leads, Takings, no_takings}

-- the lines that were given have the answers of a lawful session
pub record FedSessionsAreLawful : Type 0 where
  pub fed : (xs : Exchanges) (s : Takings) → Leads no_takings xs s → s.fed ≡ fed_session xs
  pub lawful : (xs : Exchanges) (s : Takings) → Leads no_takings xs s → script.IsLawful s.fed

-- ---- counts

-- with p publications meanwhile, at most the steps of p + 2 rounds and those of the tries that came to nothing
abbrev pub IsShort : Session → Session → List ℕ → List (List ℕ) → Snapshot → Type 0
IsShort before since party handles shot =
    let ms = moments (state_met before) since in let ns = map (named_entry (state_met before) party) handles in
    steps_of_snapshot shot ≤ (published_of party ms ns + 2) * steps_alone ns + steps_again party ms ns

-- and with none, two rounds of gets that nothing disturbs
abbrev pub TakesTwoRounds : Session → Session → List ℕ → List (List ℕ) → Snapshot → Type 0
TakesTwoRounds before since party handles shot =
    let ms = moments (state_met before) since in let ns = map (named_entry (state_met before) party) handles in
    published_of party ms ns ≡ 0 → steps_of_snapshot shot ≡ 2 * steps_alone ns

-- ---- snapshots that are taken

-- the session since its first get began
pub record IsShortSince (fed before : Session) (party : List ℕ) (x : Taking) : Type 0 where
  pub since : Session
  pub fed_is : fed ≡ before ++ since
  pub short : IsShort before since party x.handles x.shot

-- before its first get it has taken no step, and since then few
abbrev pub IsShortTaking : Session → List ℕ → Taking → Option Session → Type 0
IsShortTaking fed party x None = steps_of_snapshot x.shot ≡ 0
IsShortTaking fed party x (Some before) = IsShortSince fed before party x

abbrev pub TakingsAreShort : Type 0
TakingsAreShort = (xs : Exchanges) (s : Takings) → Leads no_takings xs s → (party : List ℕ) (x : Taking) → s.of party ≡ Some x → IsShortTaking s.fed party x x.before

-- ---- snapshots that are written

-- with this answer to the party's next line its snapshot is whole, and is written
pub record IsWhole (s : Takings) (party : List ℕ) (a : ScriptAnswer) (y : Taking) : Type 0 where
  pub taking : Taking
  pub takes : s.of party ≡ Some taking
  pub right : IsRight (state_met s.fed) (next_line party taking) a
  pub is : taken s.fed party taking a ≡ whole y

-- the session since its first get began, with the pair that ended it; the values are those of one moment, and the steps few
pub record IsOfOneMoment (s : Takings) (party : List ℕ) (a : ScriptAnswer) (y : Taking) (pair_line : Taking) : Type 0 where
  pub before : Session
  pub since : Session
  pub fed_is : s.fed ++ (next_line party pair_line, a) ∷ [] ≡ before ++ since
  pub written : IsWritten before since party y.handles y.shot
  -- right after the last step of its last but one round each entry has the written generation and value
  pub moment : AreLastValues (end_of (state_met before) (flat_map moments_of y.shot.rounds)) party y.handles y.shot.gets
  pub short : IsShort before since party y.handles y.shot
  pub alone : TakesTwoRounds before since party y.handles y.shot

abbrev pub WrittenSnapshotsAreOfOneMoment : Type 0
WrittenSnapshotsAreOfOneMoment =
    (xs : Exchanges) (s : Takings) → Leads no_takings xs s → (party : List ℕ) (a : ScriptAnswer) (y : Taking) → (w : IsWhole s party a y) → IsOfOneMoment s party a y w.taking
