-- How a watcher opens and goes on, line by line: what a loop keeps.
use Rattle.std.specs.Prelude.{◌≡◌, ℕ, true, false, List, [], ◌∷◌, ◌++◌, length, slice_get, Option, Some, None}
use Rattle.board_model.specs.declared.value.ValueType.{ValueType}
use Rattle.script_model.specs.declared.reply.EventReply.{EventReply}
use Rattle.script_model.specs.ScriptSession.{IsLawful, IsRight, Session}
use Rattle.script_model.specs.LawsOfComposition.{Pair, state_met}
use Rattle.script_model.specs.LawsOfEvents.{TellsIds}
use Rattle.script_model.specs.LawsOfLines.{names}
use Rattle.script_moments.specs.Moments.{Moment, next_moment}
use Rattle.script_moments.specs.Gets.{Ends, GoesOn, IsBegin, Round, ended_get}
use Rattle.script_moments.specs.Watchers.{AskedId, IsIdBegin, IsIdTold, IsOpening, IsWaitBegin, IsWatcher, OpenTurn, Opening, StepsOnEvent, Turn, WaitGoesOn, Waited, Watcher, calls, getting, idle, waiting}

-- ---- the opening

abbrev pub opening_at : List AskedId → Option Moment → Opening
opening_at asked begun = record { asked = asked; begun = begun }

-- a watcher with these ids and turns, and a turn that runs
abbrev pub watcher_at : List AskedId → List Turn → OpenTurn → Watcher
watcher_at asked turns rest = record { asked = asked; turns = turns; rest = rest }

-- a line that doesn't name the party leaves an opening
abbrev pub OthersLeaveOpenings : Type 0
OthersLeaveOpenings = (before since : Session) (party : List ℕ) (handles : List (List ℕ)) (x : Opening) (pair : Pair) → IsOpening before since party handles x
    → IsRight (state_met (before ++ since)) pair.0 pair.1 → names party pair.0 ≡ false → IsOpening before (since ++ pair ∷ []) party handles x

-- the ids are asked for one after another, and then the watcher is open
pub record OpeningsGoOn (before since : Session) (party : List ℕ) (handles : List (List ℕ)) (asked : List AskedId) : Type 0 where
  pub begins : (handle : List ℕ) (pair : Pair) → IsOpening before since party handles (opening_at asked None) → IsRight (state_met (before ++ since)) pair.0 pair.1
      → slice_get handles (length asked) ≡ Some handle → IsIdBegin party handle (next_moment before since pair)
      → IsOpening before (since ++ pair ∷ []) party handles (opening_at asked (Some (next_moment before since pair)))
  pub ends : (m : Moment) (pair : Pair) (id : ℕ) → IsOpening before since party handles (opening_at asked (Some m)) → IsRight (state_met (before ++ since)) pair.0 pair.1
      → IsIdTold party (next_moment before since pair) id
      → IsOpening before (since ++ pair ∷ []) party handles (opening_at (asked ++ record { begun = m; ended = next_moment before since pair; id = id } ∷ []) None)
  pub opened : (listener : List ℕ) → IsOpening before since party handles (opening_at asked None) → length asked ≡ length handles
      → IsWatcher before since party listener handles (watcher_at asked [] idle)

-- so opens a watcher
pub record WatchersOpen : Type 0 where
  pub start : (before : Session) (party : List ℕ) (handles : List (List ℕ)) → IsLawful before → IsOpening before [] party handles (opening_at [] None)
  pub others : OthersLeaveOpenings
  pub ids : (before since : Session) (party : List ℕ) (handles : List (List ℕ)) (asked : List AskedId) → OpeningsGoOn before since party handles asked

-- ---- the turns

-- a line that doesn't name the party leaves a watcher
abbrev pub OthersLeaveWatchers : Type 0
OthersLeaveWatchers = (before since : Session) (party listener : List ℕ) (handles : List (List ℕ)) (x : Watcher) (pair : Pair) → IsWatcher before since party listener handles x
    → IsRight (state_met (before ++ since)) pair.0 pair.1 → names party pair.0 ≡ false → IsWatcher before (since ++ pair ∷ []) party listener handles x

-- the wait of a turn begins, goes on and ends
pub record WaitsGoOn (before since : Session) (party listener : List ℕ) (handles : List (List ℕ)) (asked : List AskedId) (turns : List Turn) : Type 0 where
  pub begins : (pair : Pair) → IsWatcher before since party listener handles (watcher_at asked turns idle) → IsRight (state_met (before ++ since)) pair.0 pair.1
      → IsWaitBegin party listener (next_moment before since pair)
      → IsWatcher before (since ++ pair ∷ []) party listener handles (watcher_at asked turns (waiting (next_moment before since pair) []))
  pub goes_on : (m : Moment) (steps : List Moment) (pair : Pair) → IsWatcher before since party listener handles (watcher_at asked turns (waiting m steps)) → IsRight (state_met (before ++ since)) pair.0 pair.1
      → WaitGoesOn party (next_moment before since pair)
      → IsWatcher before (since ++ pair ∷ []) party listener handles (watcher_at asked turns (waiting m (steps ++ next_moment before since pair ∷ [])))
  pub ends : (m : Moment) (steps : List Moment) (pair : Pair) (told : EventReply) (ids : List ℕ) → IsWatcher before since party listener handles (watcher_at asked turns (waiting m steps)) → IsRight (state_met (before ++ since)) pair.0 pair.1
      → StepsOnEvent party (next_moment before since pair) (Some told) → TellsIds true told ids
      → IsWatcher before (since ++ pair ∷ []) party listener handles (watcher_at asked turns (getting (record { begun = m; steps = steps; ended = next_moment before since pair; ids = ids }) [] None))

-- the gets that it calls for begin, go on and end; after the last one the turn ends
pub record GetsGoOn (before since : Session) (party listener : List ℕ) (handles : List (List ℕ)) (asked : List AskedId) (turns : List Turn) (w : Waited) (gets : Round) : Type 0 where
  pub begins : (handle : List ℕ) (pair : Pair) → IsWatcher before since party listener handles (watcher_at asked turns (getting w gets None)) → IsRight (state_met (before ++ since)) pair.0 pair.1
      → slice_get (calls handles asked w.ids) (length gets) ≡ Some handle → IsBegin party handle (next_moment before since pair)
      → IsWatcher before (since ++ pair ∷ []) party listener handles (watcher_at asked turns (getting w gets (Some (next_moment before since pair, []))))
  pub goes_on : (m : Moment) (steps : List Moment) (pair : Pair) → IsWatcher before since party listener handles (watcher_at asked turns (getting w gets (Some (m, steps)))) → IsRight (state_met (before ++ since)) pair.0 pair.1
      → GoesOn party (next_moment before since pair)
      → IsWatcher before (since ++ pair ∷ []) party listener handles (watcher_at asked turns (getting w gets (Some (m, steps ++ next_moment before since pair ∷ []))))
  pub ends : (m : Moment) (steps : List Moment) (pair : Pair) (type : ValueType) (words : List ℕ) (g : ℕ) → IsWatcher before since party listener handles (watcher_at asked turns (getting w gets (Some (m, steps)))) → IsRight (state_met (before ++ since)) pair.0 pair.1
      → Ends party (next_moment before since pair) type words g
      → IsWatcher before (since ++ pair ∷ []) party listener handles (watcher_at asked turns (getting w (gets ++ ended_get m steps (next_moment before since pair) type words g ∷ []) None))
  pub turn : IsWatcher before since party listener handles (watcher_at asked turns (getting w gets None)) → length gets ≡ length (calls handles asked w.ids)
      → IsWatcher before since party listener handles (watcher_at asked (turns ++ record { wait = w; gets = gets } ∷ []) idle)

-- so goes a watcher
pub record WatchersGoOn : Type 0 where
  pub others : OthersLeaveWatchers
  pub waits : (before since : Session) (party listener : List ℕ) (handles : List (List ℕ)) (asked : List AskedId) (turns : List Turn) → WaitsGoOn before since party listener handles asked turns
  pub gets : (before since : Session) (party listener : List ℕ) (handles : List (List ℕ)) (asked : List AskedId) (turns : List Turn) (w : Waited) (gets : Round) → GetsGoOn before since party listener handles asked turns w gets
