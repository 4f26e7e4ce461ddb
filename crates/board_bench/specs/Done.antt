-- What a task leaves that was done.
use Rattle.std.specs.Prelude.{◌≡◌, ℕ, ◌+◌, ◌*◌, ◌⊎◌, All, Err, List, Result, codes, length, map}
use Rattle.anyhow.specs.declared.error.Error.{Error}
use Rattle.board_cell.specs.Passes.{NotesRise, notes_of}
use Rattle.board_cell.specs.History.{IsLegal, history}
use Rattle.board_event_model.specs.declared.kind.EventKind.{EventKind}
use Rattle.board_event_model.specs.declared.kind.EventKind.TheVariants.{Bits, Queue}
use Rattle.board_handles.specs.Handles.{ReadSeen, WriteSeen}
use Rattle.board_bench.specs.declared.bench_error.BenchError.{BenchError}
use Rattle.board_bench.specs.declared.bench_error.BenchError.TheVariants.{OutOfMemory, Refused}
use Rattle.board_bench.specs.declared.done.Done.{Done}
use Rattle.board_bench.specs.declared.done.Done.TheVariants.{Got, Updated, GotTyped, UpdatedTyped, BitsReturned, QueueReturned, Raced}
use Rattle.board_bench.specs.declared.shared.Outcome.{Outcome}
use Rattle.board_bench.specs.declared.task.Call.{Call}
use Rattle.board_bench.specs.declared.task.Call.TheVariants.{Get, TryGet, Update}
use Rattle.board_bench.specs.declared.task.Task.{Task}
use Rattle.board_bench.specs.declared.task.Task.TheVariants.{Solo, Typed, Event, Shared}
use Rattle.board_bench.specs.Handles.{HasReadSevens, HasTakenTurns, read_seen, write_seen}
use Rattle.board_bench.specs.Task.{IsTaskOf}
use Rattle.board_bench.specs.Watchers.{AreCopiedWide, AreWide, HasReadTo, counted_up, gets_of, took_turns}

-- as many gets or updates of a cell, each of as many words, which the program tells; a get of one try loads the counter twice, and updates publish two values in turn
abbrev pub HasCalled : Call → ℕ → ℕ → Done → Type 0
HasCalled Get width count (Got reader made) = (made ≡ count) × (length reader.notes ≡ count) × AreCopiedWide width reader.notes
HasCalled TryGet width count (Got reader made) = (made ≡ count) × (length reader.notes ≡ count) × (length reader.loads ≡ 2 * count) × AreCopiedWide width reader.notes
HasCalled Update width count (Updated writer made) = (made ≡ count) × (length writer.published ≡ count + 1) × AreWide width writer.published × (writer.published ≡ took_turns width count)
HasCalled call width count done = ⊥

-- so many gets by a handle, of an entry of as many words: the last one copied 7 in each word, and no generation falls
pub record HasGot (wide many : ℕ) (h : ReadSeen) : Type 0 where
  pub gets : length h.pass.notes ≡ many
  pub width : h.cell.width ≡ wide
  pub values : HasReadSevens wide h
  pub rises : NotesRise h.pass.notes

abbrev pub HasTried : ℕ → ℕ → ReadSeen → Type 0
HasTried width count h = HasGot width count h × (length h.pass.loads ≡ 2 * count)

-- so many updates by a handle, of an entry of as many words: 1 and 2 in each word in turn
pub record HasPublished (wide many : ℕ) (h : WriteSeen) : Type 0 where
  pub updates : length h.held.published ≡ many + 1
  pub width : h.held.cell.width ≡ wide
  pub values : HasTakenTurns wide many h

abbrev pub HasCalledTyped : Call → ℕ → ℕ → Done → Type 0
HasCalledTyped Get width count (GotTyped h made) = (made ≡ count) × HasGot width count (read_seen h)
HasCalledTyped TryGet width count (GotTyped h made) = (made ≡ count) × HasTried width count (read_seen h)
HasCalledTyped Update width count (UpdatedTyped h made) = (made ≡ count) × HasPublished width count (write_seen h)
HasCalledTyped call width count done = ⊥

-- as many ids came back over events of the kind, and as many were sent back
abbrev pub HasReturned : EventKind → ℕ → Done → Type 0
HasReturned Bits count (BitsReturned trips) = (trips.made ≡ count) × (trips.echoed ≡ count)
HasReturned Queue count (QueueReturned trips) = (trips.made ≡ count) × (trips.echoed ≡ count)
HasReturned kind count done = ⊥

-- a race of so many readers with a writer that made so many updates of so many words, 1, 2 and so on; its history is legal, and each reader's last get copied the last of them
pub record HasRaced (wide many last : ℕ) (outcome : Outcome) : Type 0 where
  pub updates : length outcome.writer.published ≡ last + 1
  pub words : AreWide wide outcome.writer.published
  pub values : outcome.writer.published ≡ counted_up wide last
  pub readers : length outcome.readers.items ≡ many
  pub gets : outcome.gets ≡ gets_of outcome.readers.items
  pub legal : IsLegal (history outcome.writer.published (map notes_of outcome.readers.items))
  pub seen : All (HasReadTo wide last) outcome.readers.items

abbrev pub HasRun : ℕ → ℕ → ℕ → Done → Type 0
HasRun width readers updates (Raced outcome) = HasRaced width readers updates outcome
HasRun width readers updates done = ⊥

-- what the task says was done, as often as it says, on as many words
abbrev pub HasDone : Task → Done → Type 0
HasDone (Solo calls) done = HasCalled calls.call calls.width calls.count done
HasDone (Typed calls) done = HasCalledTyped calls.call calls.width calls.count done
HasDone (Event kind count) done = HasReturned kind count done
HasDone (Shared width readers updates) done = HasRun width readers updates done

-- the task that these words spell was done
abbrev pub HasDoneOne : List (List ℕ) → Done → Type 0
HasDoneOne words done = (task : Task) × IsTaskOf words task × HasDone task done

-- the task wasn't done: a call of it was refused, or didn't give what was put; the error's text tells
abbrev pub IsRefused : BenchError → Type 0
IsRefused (Refused error) = Unit {0}
IsRefused e = ⊥

-- the error with which these calls ended, as it was
abbrev pub IsRefusalOf : {T : Type 0} → Result T Error → BenchError → Type 0
IsRefusalOf tried e = (error : Error) × (tried ≡ Err error) × (e ≡ Refused error)

-- calls on a cell end for want of memory alone; of tasks on typed ports and events an error's text tells why
abbrev pub EndsBy : Task → BenchError → Type 0
EndsBy (Solo calls) e = e ≡ OutOfMemory
EndsBy (Typed calls) e = IsRefused e
EndsBy (Event kind count) e = IsRefused e
EndsBy (Shared width readers updates) e = e ≡ OutOfMemory

-- memory is refused, or the task that these words spell ends so
abbrev pub EndsOneBy : List (List ℕ) → BenchError → Type 0
EndsOneBy words e = (e ≡ OutOfMemory) ⊎ ((task : Task) × IsTaskOf words task × EndsBy task e)

-- how many calls or round trips were made, and of a race how many gets
abbrev pub told_of : Done → ℕ
told_of (Got reader made) = made
told_of (Updated writer made) = made
told_of (GotTyped h made) = made
told_of (UpdatedTyped h made) = made
told_of (BitsReturned trips) = trips.made
told_of (QueueReturned trips) = trips.made
told_of (Raced outcome) = outcome.gets

-- what that number counts
abbrev pub counted_of : Done → List ℕ
counted_of (Got reader made) = codes "gets"
counted_of (Updated writer made) = codes "updates"
counted_of (GotTyped h made) = codes "gets"
counted_of (UpdatedTyped h made) = codes "updates"
counted_of (BitsReturned trips) = codes "trips"
counted_of (QueueReturned trips) = codes "trips"
counted_of (Raced outcome) = codes "gets"
