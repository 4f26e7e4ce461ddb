-- Laws of snapshots: several entries at one moment, and within a count of steps.
use Rattle.std.specs.Prelude.{◌≡◌, ℕ, ◌+◌, ◌*◌, ◌≤◌, Bool, false, if◌then◌else◌, List, [], ◌∷◌, length, map, Some, ⊤}
use Rattle.std.specs.List.{count_by, flat_map, list_any, sum_by}
use Rattle.std.specs.Str.{bytes_eq}
use Rattle.board_model.specs.declared.line.Line.TheVariants as board_line
use Rattle.board_model.specs.declared.tables.ThingKind.TheVariants as thing_kind
use Rattle.board_model.specs.Tables.{entry_of}
use Rattle.board_model.specs.Things.{Held, held_of_kind}
use Rattle.board_model.specs.Replies.{latest}
use Rattle.script_model.specs.declared.line.ScriptLine.{ScriptLine}
use Rattle.script_model.specs.declared.line.ScriptLine.TheVariants as line
use Rattle.script_model.specs.ScriptTurns.{ScriptState}
use Rattle.script_model.specs.ScriptSession.{Session}
use Rattle.script_model.specs.LawsOfComposition.{state_met}
use Rattle.script_model.specs.LawsOfLines.{publishes}
use Rattle.script_moments.specs.Moments.{Moment, end_of, moments}
use Rattle.script_moments.specs.Gets.{Get, NamedEntry, Round, moments_of, named_entry}
use Rattle.script_moments.specs.Snapshots.{IsSnapshot, IsWritten, Snapshot, steps_of_snapshot}

-- ---- one moment

-- the list of the entry that the handle names has this generation as its length, and these words as its last item
pub record IsLastValue (s : ScriptState) (party handle : List ℕ) (x : Get) : Type 0 where
  pub thing : Held
  pub found : held_of_kind s.boards.standing thing_kind.ReadHandle party handle ≡ Some thing
  pub generation : x.generation ≡ length (s.boards.published thing.board (entry_of thing.kind))
  pub words : x.words ≡ latest (s.boards.published thing.board (entry_of thing.kind))

-- so has each of the entries
abbrev pub AreLastValues : ScriptState → List ℕ → List (List ℕ) → Round → Type 0
AreLastValues s party [] [] = ⊤
AreLastValues s party [] (x ∷ xs) = ⊥
AreLastValues s party (h ∷ hs) [] = ⊥
AreLastValues s party (h ∷ hs) (x ∷ xs) = IsLastValue s party h x × AreLastValues s party hs xs

-- right after the last step of the last but one round, each entry has the written generation and value
abbrev pub SnapshotsAreOfOneMoment : Type 0
SnapshotsAreOfOneMoment =
    (before since : Session) (party : List ℕ) (handles : List (List ℕ)) (x : Snapshot) → IsWritten before since party handles x
    → AreLastValues (end_of (state_met before) (flat_map moments_of x.rounds)) party handles x.gets

-- ---- how many steps a snapshot takes

-- the moment ends a publication of the entry
abbrev pub publishes_here : NamedEntry → Moment → Bool
publishes_here n m = publishes m.met m.pair.0 m.pair.1 n.board n.entry

-- a step of the party
abbrev pub is_step : List ℕ → ScriptLine → Bool
is_step party (line.Board (board_line.Step p)) = bytes_eq party p
is_step party l = false

-- the moments from the party's first step on
abbrev pub from_first_step : List ℕ → List Moment → List Moment
from_first_step party [] = []
from_first_step party (m ∷ ms) = if is_step party m.pair.0 then m ∷ ms else from_first_step party ms

-- whether the party steps in one of them
abbrev pub has_step : List ℕ → List Moment → Bool
has_step party ms = list_any (λ (m : Moment). is_step party m.pair.0) ms

-- the moments before the party's last step
abbrev pub to_last_step : List ℕ → List Moment → List Moment
to_last_step party [] = []
to_last_step party (m ∷ ms) = if has_step party ms then m ∷ to_last_step party ms else []

-- how many publications of the entry ended between the party's first step and its last one
abbrev pub published_between : List ℕ → List Moment → NamedEntry → ℕ
published_between party ms n = count_by (publishes_here n) (to_last_step party (from_first_step party ms))

-- the same over all entries; one that is named twice counts twice
abbrev pub published_of : List ℕ → List Moment → List NamedEntry → ℕ
published_of party ms ns = sum_by (published_between party ms) ns

-- the steps of gets that nothing disturbs
abbrev pub steps_alone : List NamedEntry → ℕ
steps_alone ns = sum_by (λ (n : NamedEntry). n.words + 2) ns

-- and those for the publications meanwhile
abbrev pub steps_again : List ℕ → List Moment → List NamedEntry → ℕ
steps_again party ms ns = sum_by (λ (n : NamedEntry). published_between party ms n * (n.words + 1)) ns

-- with p publications meanwhile, a snapshot has taken at most the steps of p + 2 rounds, and those of the tries that came to nothing
abbrev pub SnapshotsAreShort : Type 0
SnapshotsAreShort =
    (before since : Session) (party : List ℕ) (handles : List (List ℕ)) (x : Snapshot) → IsSnapshot before since party handles x
    → (let ms = moments (state_met before) since in let ns = map (named_entry (state_met before) party) handles in
    steps_of_snapshot x ≤ (published_of party ms ns + 2) * steps_alone ns + steps_again party ms ns)

-- and with none, two rounds of gets that nothing disturbs
abbrev pub SnapshotsAloneTakeTwoRounds : Type 0
SnapshotsAloneTakeTwoRounds =
    (before since : Session) (party : List ℕ) (handles : List (List ℕ)) (x : Snapshot) → IsWritten before since party handles x
    → (let ms = moments (state_met before) since in let ns = map (named_entry (state_met before) party) handles in
    published_of party ms ns ≡ 0 → steps_of_snapshot x ≡ 2 * steps_alone ns)
