-- Laws of turns: how the next line of a party that is driven is answered.
use Rattle.std.specs.Prelude.{◌≡◌, ℕ, true, List, ◌++◌, Some, ◌⊎◌}
use Rattle.board_model.specs.declared.answer.Answer.TheVariants as answer
use Rattle.board_model.specs.declared.answer.Reason.{Reason}
use Rattle.board_model.specs.declared.line.Call.{Call}
use Rattle.board_model.specs.declared.line.Line.TheVariants as board_line
use Rattle.board_model.specs.declared.value.ValueType.{ValueType}
use Rattle.script_model.specs.declared.line.EventRequest.{EventRequest}
use Rattle.script_model.specs.declared.line.ScriptLine.TheVariants as line
use Rattle.script_model.specs.declared.reply.EventReply.{EventReply}
use Rattle.script_model.specs.ScriptAnswers.{ScriptAnswer, of_boards}
use Rattle.script_model.specs.ScriptTurns.{ScriptState}
use Rattle.script_model.specs.ScriptSession.{IsRight, Session}
use Rattle.script_model.specs.LawsOfComposition.{Pair, state_met}
use Rattle.script_model.specs.LawsOfEvents.{TellsIds}
use Rattle.script_moments.specs.Moments.{Moment, next_moment}
use Rattle.script_moments.specs.Gets.{Ends, GoesOn, Round}
use Rattle.script_moments.specs.Snapshots.{IsSnapshot}
use Rattle.script_moments.specs.SnapshotLines.{snapshot_at}
use Rattle.script_moments.specs.Watchers.{AskedId, IsIdTold, IsOpening, IsWatcher, StepsOnEvent, Turn, WaitGoesOn, Waited, getting, waiting}
use Rattle.script_moments.specs.WatcherLines.{opening_at, watcher_at}

-- a call on boards is begun or refused
abbrev pub CallsAreBegunOrRefused : Type 0
CallsAreBegunOrRefused = (s : ScriptState) (party : List ℕ) (c : Call) (a : ScriptAnswer) → IsRight s (line.Board (board_line.Begin party c)) a
    → (a ≡ of_boards answer.Begun) ⊎ ((why : Reason) × (a ≡ of_boards (answer.Refused why)))

-- and so is a call on events
abbrev pub EventCallsAreBegunOrRefused : Type 0
EventCallsAreBegunOrRefused = (s : ScriptState) (party : List ℕ) (q : EventRequest) (a : ScriptAnswer) → IsRight s (line.Event party q) a
    → (a ≡ of_boards answer.Begun) ⊎ ((why : Reason) × (a ≡ of_boards (answer.Refused why)))

-- a get goes on or ends
abbrev pub StepsOn : List ℕ → Moment → Type 0
StepsOn party m = GoesOn party m ⊎ ((type : ValueType) × (words : List ℕ) × (g : ℕ) × Ends party m type words g)

-- so does the get of a snapshot that runs, with the party's next step
abbrev pub SnapshotsStepOn : Type 0
SnapshotsStepOn =
    (before since : Session) (party : List ℕ) (handles : List (List ℕ)) (rounds : List Round) (gets : Round) (m : Moment) (steps : List Moment) (pair : Pair)
    → IsSnapshot before since party handles (snapshot_at rounds gets (Some (m, steps))) → IsRight (state_met (before ++ since)) pair.0 pair.1
    → pair.0 ≡ line.Board (board_line.Step party) → StepsOn party (next_moment before since pair)

-- and that of a watcher
abbrev pub WatchersStepOn : Type 0
WatchersStepOn =
    (before since : Session) (party listener : List ℕ) (handles : List (List ℕ)) (asked : List AskedId) (turns : List Turn) (w : Waited) (gets : Round) (m : Moment) (steps : List Moment) (pair : Pair)
    → IsWatcher before since party listener handles (watcher_at asked turns (getting w gets (Some (m, steps)))) → IsRight (state_met (before ++ since)) pair.0 pair.1
    → pair.0 ≡ line.Board (board_line.Step party) → StepsOn party (next_moment before since pair)

-- an id that was asked for is told with the party's next step
abbrev pub IdsAreTold : Type 0
IdsAreTold =
    (before since : Session) (party : List ℕ) (handles : List (List ℕ)) (asked : List AskedId) (m : Moment) (pair : Pair)
    → IsOpening before since party handles (opening_at asked (Some m)) → IsRight (state_met (before ++ since)) pair.0 pair.1
    → pair.0 ≡ line.Board (board_line.Step party) → (id : ℕ) × IsIdTold party (next_moment before since pair) id

-- the wait of a watcher goes on with the party's next step, or ends and is told the ids that it took
abbrev pub WaitsStepOn : Type 0
WaitsStepOn =
    (before since : Session) (party listener : List ℕ) (handles : List (List ℕ)) (asked : List AskedId) (turns : List Turn) (m : Moment) (steps : List Moment) (pair : Pair)
    → IsWatcher before since party listener handles (watcher_at asked turns (waiting m steps)) → IsRight (state_met (before ++ since)) pair.0 pair.1
    → pair.0 ≡ line.Board (board_line.Step party)
    → WaitGoesOn party (next_moment before since pair) ⊎ ((told : EventReply) × (ids : List ℕ) × StepsOnEvent party (next_moment before since pair) (Some told) × TellsIds true told ids)
