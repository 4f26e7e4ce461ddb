-- What typed calls answer, whatever the events behind their lock have come to.
use Rattle.std.specs.Prelude.{◌≡◌, ◌<◌, ◌≤◌, ◌+◌, ◌-◌, ◌*◌, ◌/◌, ◌^◌, ℕ, List, [], ◌∷◌, length, Option, IfSome, Result, Ok, Err, ⊤}
use Rattle.board_names.specs.Concept.{Named, placed}
use Rattle.board_names.specs.declared.errors.event.ListenerCreateError.{ListenerCreateError}
use Rattle.board_names.specs.declared.errors.event.ListenerCreateError.TheVariants as create_error
use Rattle.board_names.specs.declared.errors.event.NotifierCreateError.{NotifierCreateError}
use Rattle.board_names.specs.declared.errors.event.NotifierCreateError.TheVariants as open_error
use Rattle.board_names.specs.declared.errors.event.NotifierNotifyError.{NotifierNotifyError}
use Rattle.board_names.specs.declared.errors.event.NotifierNotifyError.TheVariants as notify_error
use Rattle.board_event_model.specs.declared.kind.EventKind.{EventKind}
use Rattle.board_event_model.specs.declared.kind.EventKind.TheVariants as kind
use Rattle.board_event.specs.Ends.{End}
use Rattle.board_event.specs.LentForms.{CallsOn}

-- ---- how ends are made

-- a `create` answers Ok, or with one of three refusals
abbrev pub MayCreate : {T : Type 0} → Result T ListenerCreateError → Type 0
MayCreate (Ok end) = ⊤
MayCreate (Err create_error.AlreadyExists) = ⊤
MayCreate (Err create_error.NumbersSpent) = ⊤
MayCreate (Err create_error.OutOfMemory) = ⊤
MayCreate (Err _) = ⊥

-- an `open` answers Ok, or with one of two refusals
abbrev pub MayOpen : {T : Type 0} → Result T NotifierCreateError → Type 0
MayOpen (Ok end) = ⊤
MayOpen (Err open_error.DoesNotExist) = ⊤
MayOpen (Err open_error.NumbersSpent) = ⊤
MayOpen (Err _) = ⊥

-- to a queue any id is handed over
abbrev pub TakesAnyOfQueue : EventKind → ℕ → Type 0
TakesAnyOfQueue k max = k ≡ kind.Queue → max ≡ 2 ^ 64 - 1

-- a notifier of this name
pub record IsOpenedAs (k : EventKind) (named : Named) (end : End) : Type 0 where
  pub place : end.place ≡ placed named
  pub any_id : TakesAnyOfQueue k end.max

-- ---- a notify

-- what a notify of an id may answer: of a set, whether the id is above the greatest; the listener may be gone, and a queue full
abbrev pub MayNotify : EventKind → End → ℕ → Result (Unit {0}) NotifierNotifyError → Type 0
MayNotify k end id (Ok done) = k ≡ kind.Bits → id ≤ end.max
MayNotify k end id (Err notify_error.Disconnected) = ⊤
MayNotify k end id (Err notify_error.TriggerIdOutOfBounds) = (k ≡ kind.Bits) × (end.max < id)
MayNotify k end id (Err notify_error.FailedToDeliverSignal) = k ≡ kind.Queue
MayNotify k end id (Err _) = ⊥

-- what a notify of an id may answer, of whatever kind: an id that is refused as out of bounds is above the greatest
abbrev pub IsNotifyAnswer : ℕ → ℕ → Result (Unit {0}) NotifierNotifyError → Type 0
IsNotifyAnswer greatest id (Ok done) = ⊤
IsNotifyAnswer greatest id (Err notify_error.Disconnected) = ⊤
IsNotifyAnswer greatest id (Err notify_error.TriggerIdOutOfBounds) = greatest < id
IsNotifyAnswer greatest id (Err notify_error.FailedToDeliverSignal) = ⊤
IsNotifyAnswer greatest id (Err _) = ⊥

-- ---- a wait

-- an id that a wait gives is, of a set, one of the words that hold the ids up to the greatest
abbrev pub IsOfWords : EventKind → ℕ → ℕ → Type 0
IsOfWords kind.Bits max id = id < 64 * (max / 64 + 1)
IsOfWords kind.Queue max id = ⊤

-- so it is of the id that is given, if one is
abbrev pub GivesId : EventKind → End → Option ℕ → Type 0
GivesId k end one = IfSome one (IsOfWords k end.max)

-- the ids ascend, from the first number on and below the second
abbrev pub AscendWithin : ℕ → ℕ → List ℕ → Type 0
AscendWithin from below [] = ⊤
AscendWithin from below (id ∷ ids) = (from ≤ id) × (id < below) × AscendWithin (id + 1) below ids

-- what a wait for all hands over: of a set ids that ascend, all of its words, and of a queue 513 at most
abbrev pub AreHandedOver : EventKind → ℕ → List ℕ → Type 0
AreHandedOver kind.Bits max ids = AscendWithin 0 (64 * (max / 64 + 1)) ids
AreHandedOver kind.Queue max ids = length ids ≤ 513

-- a callback is called on such ids, one after another, and on no other: so it came to be `last`
abbrev pub CallsOnHanded : {F : Type 0} → (F → ℕ → Unit {0} → F → Type 0) → F → F → EventKind → End → Type 0
CallsOnHanded step callback last k end = (ids : List ℕ) × AreHandedOver k end.max ids × CallsOn step callback ids last
