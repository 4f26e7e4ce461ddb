-- Calls that are driven to their end on events that nobody else has. No clause of a public call cites what follows.
use Rattle.std.specs.Prelude.{◌≡◌, ◌<◌, ◌≤◌, ℕ, ◌+◌, ◌-◌, ◌*◌, ◌/◌, ◌^◌, Bool, true, false, List, [], IfSome, Option, Some, None, length, ⊤}
use Rattle.std.specs.FinSet as set
use Rattle.board_event_model.specs.declared.call.NotifyStage.{NotifyStage}
use Rattle.board_event_model.specs.declared.call.NotifyStage.TheVariants as notify
use Rattle.board_event_model.specs.declared.call.WaitMode.{WaitMode}
use Rattle.board_event_model.specs.declared.call.WaitMode.TheVariants as mode
use Rattle.board_event_model.specs.declared.call.WaitStage.{WaitStage}
use Rattle.board_event_model.specs.declared.call.WaitStage.TheVariants as wait
use Rattle.board_event_model.specs.declared.kind.EventKind.{EventKind}
use Rattle.board_event_model.specs.declared.kind.EventKind.TheVariants as kind
use Rattle.board_event_model.specs.Ids.{Ids, has, ids_where}
use Rattle.board_event_model.specs.EventMemory.{Event}
use Rattle.board_event_model.specs.NotifyCalls.{Notify, notify_bits, notify_queue}
use Rattle.board_event_model.specs.WaitCalls.{Wait, wait_bits, wait_queue}
use Rattle.board_event_core.specs.EventTable.{EventTable, with_event}
use Rattle.board_event_core.specs.IdSets.{IsLeast}
use Rattle.board_event.specs.LentForms.{IsNext, NoneWaits, one_taken, within, words_taken}

-- a wait that begins on an event of this kind with this greatest id
abbrev pub wait_begun : EventKind → ℕ → Bool → WaitMode → Wait
wait_begun kind.Bits max many m = wait_bits (max / 64 + 1) many m
wait_begun kind.Queue max many m = wait_queue many m

-- a notify that begins
abbrev pub notify_begun : EventKind → ℕ → ℕ → Notify
notify_begun kind.Bits max id = notify_bits id max
notify_begun kind.Queue max id = notify_queue id

-- an id of a set is one of its first words
abbrev pub IsOfFirst : EventKind → ℕ → ℕ → Type 0
IsOfFirst k words id = k ≡ kind.Bits → id < 64 * words

-- what a wait for one up to `max` that was driven to its end has taken of an event, and left of it
pub record OneTaken (k : EventKind) (max : ℕ) (e : Event) (old new : EventTable) (n : ℕ) (one : Option ℕ) : Type 0 where
  pub id : IfSome one (IsNext k e)
  pub reached : IfSome one (IsOfFirst k (max / 64 + 1))
  pub none : one ≡ None → NoneWaits (within max e)
  pub left : new ≡ with_event old n (one_taken k e one)

-- where it has found none, none waits
abbrev pub FoundNone : Option ℕ → Event → Type 0
FoundNone one e = one ≡ None → NoneWaits e

-- ---- a wait that doesn't wait

-- a stage that it comes to, with a word that is one of the listener's
abbrev pub TryStage : ℕ → WaitStage → Type 0
TryStage words wait.Drain = ⊤
TryStage words (wait.Scan word) = word < words
TryStage words (wait.Clear id) = ⊤
TryStage words (wait.Swap word some) = word < words
TryStage words wait.Look = ⊥
TryStage words (wait.Pop n) = n < 513
TryStage words wait.Finished = ⊤

-- how many accesses it owes at most, by the signals that stand
abbrev pub steps_left : ℕ → ℕ → WaitStage → ℕ
steps_left signals words wait.Drain = signals + words + 2
steps_left signals words (wait.Scan word) = words - word + 1
steps_left signals words (wait.Clear id) = 1
steps_left signals words (wait.Swap word some) = words - word + 1
steps_left signals words wait.Look = 0
steps_left signals words (wait.Pop n) = 514 - n
steps_left signals words wait.Finished = 0

-- the signals of an event, if one stands
abbrev pub signals_of : Option Event → ℕ
signals_of None = 0
signals_of (Some e) = e.signals

-- what holds of it at each stage
pub record TryWait (w : Wait) (many : Bool) : Type 0 where
  pub mode : w.mode ≡ mode.Try
  pub all : w.many ≡ many
  pub some : 0 < w.words
  pub few : w.words ≤ 2 ^ 58
  pub stage : TryStage w.words w.stage

-- ---- a wait for one, by where it stands: what was the event, and what is

-- none of the ids of the first words is in
abbrev pub NoneBelow : Ids → ℕ → Type 0
NoneBelow ids word = (i : ℕ) → i < 64 * word → has ids i ≡ false

-- the same of all other ids
abbrev pub SameFrom : Ids → Ids → ℕ → Type 0
SameFrom old new word = (i : ℕ) → 64 * word ≤ i → has new i ≡ has old i

-- no id is left in the first words of a set, nor in a queue
abbrev pub NoneLeft : EventKind → Event → ℕ → Type 0
NoneLeft kind.Bits e words = NoneBelow e.pending words
NoneLeft kind.Queue e words = e.queue ≡ []

-- the event with so many signals
abbrev pub with_signals : Event → ℕ → Event
with_signals e n = record e { signals = n }

-- a wait for one
abbrev pub OneSoFar : EventKind → Event → Event → ℕ → WaitStage → Type 0
OneSoFar k e now words wait.Drain = (k ≡ kind.Bits) × (now ≡ with_signals e now.signals)
OneSoFar k e now words (wait.Scan word) = (k ≡ kind.Bits) × (now ≡ with_signals e 0) × (word < words) × NoneBelow e.pending word
OneSoFar k e now words (wait.Clear id) = (k ≡ kind.Bits) × (now ≡ with_signals e 0) × IsLeast e.pending id × (id < 64 * words)
OneSoFar k e now words (wait.Swap word some) = ⊥
OneSoFar k e now words wait.Look = ⊥
OneSoFar k e now words (wait.Pop n) = (k ≡ kind.Queue) × (now ≡ e) × (n ≡ 0)
OneSoFar k e now words wait.Finished = (now ≡ one_taken k e None) × NoneLeft k e words

-- ---- a wait for all

-- the event with these ids, and no signals
abbrev pub with_pending : Event → Ids → Event
with_pending e ids = record e { pending = ids; signals = 0 }

-- the event with these ids in its queue
abbrev pub with_queue : Event → List ℕ → Event
with_queue e queue = record e { queue = queue }

-- a wait for all
abbrev pub AllSoFar : EventKind → Event → Event → ℕ → WaitStage → Type 0
AllSoFar k e now words wait.Drain = (k ≡ kind.Bits) × (now ≡ with_signals e now.signals)
AllSoFar k e now words (wait.Scan word) = ⊥
AllSoFar k e now words (wait.Clear id) = ⊥
AllSoFar k e now words (wait.Swap word some) = (k ≡ kind.Bits) × (now ≡ with_pending e now.pending) × (word < words) × NoneBelow now.pending word × SameFrom e.pending now.pending word
AllSoFar k e now words wait.Look = ⊥
AllSoFar k e now words (wait.Pop n) = (k ≡ kind.Queue) × (now ≡ with_queue e now.queue) × (n + length now.queue ≤ 512)
AllSoFar k e now words wait.Finished = now ≡ words_taken k words e

-- the ids that it has still to take
abbrev pub to_come : Event → ℕ → WaitStage → List ℕ
to_come now words wait.Drain = ids_where (has now.pending) (64 * 0) (64 * (words - 0))
to_come now words (wait.Scan word) = []
to_come now words (wait.Clear id) = []
to_come now words (wait.Swap word some) = ids_where (has now.pending) (64 * word) (64 * (words - word))
to_come now words wait.Look = []
to_come now words (wait.Pop n) = now.queue
to_come now words wait.Finished = []

-- ---- a notify, by where it stands

abbrev pub NotifySoFar : EventKind → ℕ → Event → Event → ℕ → NotifyStage → Type 0
NotifySoFar k max e now id notify.Look = (k ≡ kind.Bits) × (now ≡ e)
NotifySoFar k max e now id notify.Set = (k ≡ kind.Bits) × (now ≡ e) × (e.held ≡ true) × (id ≤ max)
NotifySoFar k max e now id notify.Post = (k ≡ kind.Bits) × (now ≡ record e { pending = set.insert e.pending id }) × (e.held ≡ true) × (id ≤ max) × (id ≤ e.max)
NotifySoFar k max e now id notify.Push = (k ≡ kind.Queue) × (now ≡ e)
NotifySoFar k max e now id notify.Finished = ⊥

-- how many accesses it owes at most
abbrev pub notify_left : NotifyStage → ℕ
notify_left notify.Look = 3
notify_left notify.Set = 2
notify_left notify.Post = 1
notify_left notify.Push = 1
notify_left notify.Finished = 0
