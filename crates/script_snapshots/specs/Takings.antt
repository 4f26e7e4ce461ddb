-- A snapshot that a party takes: its next line, and what becomes of it with the answer.
use Rattle.std.specs.Prelude.{ℕ, Bool, false, ◌==◌, if◌then◌else◌, List, [], ◌∷◌, ◌++◌, length, slice_index_or, codes, Option, Some, None, unwrap_or}
use Rattle.std.specs.Str.{bytes_eq}
use Rattle.board_model.specs.AnswerGrammar.{reply_text}
use Rattle.board_model.specs.declared.answer.Reply.TheVariants as reply
use Rattle.board_model.specs.declared.line.Call.TheVariants as call
use Rattle.board_model.specs.declared.line.Line.TheVariants as board_line
use Rattle.script_model.specs.declared.line.ScriptLine.{ScriptLine}
use Rattle.script_model.specs.declared.line.ScriptLine.TheVariants as line
use Rattle.script_model.specs.ScriptAnswers.{ScriptAnswer, is_refused}
use Rattle.script_model.specs.ScriptSession.{Session}
use Rattle.script_model.specs.LawsOfComposition.{state_met}
use Rattle.script_moments.specs.Moments.{Moment}
use Rattle.script_moments.specs.Gets.{Get, Round, ended_get, generations}
use Rattle.script_moments.specs.Snapshots.{Snapshot}
use Rattle.script_moments.specs.SnapshotLines.{snapshot_at}
use Rattle.script_exchanges.specs.DrivenParties.{Got, got_by, party_text}

-- its handles; the session before its first get, once that has begun; and the snapshot so far
pub record Taking : Type 0 where
  pub handles : List (List ℕ)
  pub before : Option Session
  pub shot : Snapshot

-- none of its gets has begun
abbrev pub new_taking : List (List ℕ) → Taking
new_taking handles = record { handles = handles; before = None; shot = snapshot_at [] [] None }

-- ---- the next line

-- the first handle of which the round has no get yet
abbrev pub next_handle : Taking → List ℕ
next_handle x = slice_index_or x.handles (length x.shot.gets) []

-- a get of the next handle begins, or the get that runs takes a step
abbrev pub next_of : List ℕ → List ℕ → Option (Moment × List Moment) → ScriptLine
next_of party handle None = line.Board (board_line.Begin party (call.Get handle None))
next_of party handle (Some get) = line.Board (board_line.Step party)

abbrev pub next_line : List ℕ → Taking → ScriptLine
next_line party x = next_of party (next_handle x) x.shot.begun

-- ---- what becomes of it

-- it goes on, it has ended with a refusal, or it is whole
pub data Outcome : Type 0 where
  goes_on : Taking → Outcome
  ended : Outcome
  whole : Taking → Outcome

-- with these rounds, these gets of the last one, and the get that runs, if one does
abbrev pub shot_so : Taking → List Round → Round → Option (Moment × List Moment) → Taking
shot_so x rounds gets begun = record x { shot = snapshot_at rounds gets begun }

-- the last of the rounds has the generations of these gets
abbrev pub is_alike : List Round → Round → Bool
is_alike [] gets = false
is_alike (one ∷ []) gets = bytes_eq (generations one) (generations gets)
is_alike (one ∷ two ∷ more) gets = is_alike (two ∷ more) gets

-- after a whole round: a second one with the same generations ends the snapshot
abbrev pub after_round : Taking → Round → Bool → Outcome
after_round x gets alike = if alike then whole (shot_so x x.shot.rounds gets None) else goes_on (shot_so x (x.shot.rounds ++ gets ∷ []) [] None)

-- after a get, which may be the round's last
abbrev pub after_get : Taking → Round → Outcome
after_get x gets = if length gets == length x.handles then after_round x gets (is_alike x.shot.rounds gets) else goes_on (shot_so x x.shot.rounds gets None)

-- a get has begun; before the first one the session was this
abbrev pub begun_get : Session → Taking → Moment → Taking
begun_get fed x m = record (shot_so x x.shot.rounds x.shot.gets (Some (m, []))) { before = Some (unwrap_or x.before fed) }

-- the get that runs has taken a step, and was told this, if it has ended
abbrev pub stepped_get : Taking → Moment × List Moment → Moment → Option Got → Outcome
stepped_get x get m None = goes_on (shot_so x x.shot.rounds x.shot.gets (Some (get.0, get.1 ++ m ∷ [])))
stepped_get x get m (Some got) = after_get x (x.shot.gets ++ ended_get get.0 get.1 m got.type got.words got.generation ∷ [])

-- an accepted line
abbrev pub taken_on : Session → Taking → Option (Moment × List Moment) → Moment → Option Got → Outcome
taken_on fed x None m got = goes_on (begun_get fed x m)
taken_on fed x (Some get) m got = stepped_get x get m got

-- the moment of its next line, after this session and with this answer
abbrev pub moment_of : Session → List ℕ → Taking → ScriptAnswer → Moment
moment_of fed party x a = record { met = state_met fed; pair = (next_line party x, a) }

-- with the answer to its next line
abbrev pub taken : Session → List ℕ → Taking → ScriptAnswer → Outcome
taken fed party x a = if is_refused a then ended else taken_on fed x x.shot.begun (moment_of fed party x a) (got_by a)

-- ---- how a snapshot is written

-- a handle, its value and its generation
abbrev pub get_text : List ℕ → Get → List ℕ
get_text handle x = codes " " ++ (handle ++ (codes " " ++ reply_text (reply.Got x.type x.words x.generation)))

abbrev pub gets_text : List (List ℕ) → Round → List ℕ
gets_text [] gets = []
gets_text (h ∷ hs) [] = []
gets_text (h ∷ hs) (x ∷ xs) = get_text h x ++ gets_text hs xs

-- the last round of a whole snapshot, handle by handle
abbrev pub snapshot_text : List ℕ → Taking → List ℕ
snapshot_text party x = party_text (codes "snapshot") party ++ gets_text x.handles x.shot.gets
