-- Whether a call may begin.
use Rattle.std.specs.Prelude.{◌≡◌, ℕ, Bool, true, false, ◌||◌, if◌then◌else◌, List, [], Option, Some, None, is_some, not, option_map, Result, Ok, Err, ⊤}
use Rattle.board_model.specs.declared.answer.Reason.{Reason}
use Rattle.board_model.specs.declared.answer.Reason.TheVariants as reason
use Rattle.board_model.specs.declared.line.Call.{Call}
use Rattle.board_model.specs.declared.line.Call.TheVariants as call
use Rattle.board_model.specs.Tables.{entry_of}
use Rattle.script_boards.specs.Steps.{IsCounter}
use Rattle.board_model.specs.declared.tables.Kind.{Kind}
use Rattle.board_model.specs.declared.tables.Kind.TheVariants as kind
use Rattle.board_model.specs.Requests.{Request, and_then, request_of}
use Rattle.board_model.specs.declared.answer.Answer.TheVariants as answer
use Rattle.board_model.specs.declared.line.Line.TheVariants as line
use Rattle.board_model.specs.LineGrammar.{IsLine}
use Rattle.board_model.specs.Parties.{Party, free, gone, running}
use Rattle.board_model.specs.LawfulSession.{IsRight, State, call_reason}
use Rattle.board_model.specs.Sound.{Sound}
use Rattle.board_model.specs.declared.tables.ThingKind.{ThingKind}
use Rattle.board_model.specs.declared.tables.ThingKind.TheVariants as thing_kind
use Rattle.board_model.specs.Things.{Held, of_kind, thing_of}
use Rattle.script_parties.specs.declared.lookups.FoundThing.{FoundThing}
use Rattle.script_parties.specs.Shown.{found_of}
use Rattle.script_boards.specs.declared.machine.BoardMachine.{BoardMachine}
use Rattle.script_boards.specs.declared.machine.Task.{Task}
use Rattle.script_boards.specs.declared.not_begun.NotBegun.{NotBegun}
use Rattle.script_boards.specs.declared.not_begun.NotBegun.TheVariants as not_begun
use Rattle.script_boards.specs.Loans.{lent_words}
use Rattle.script_boards.specs.Machine.{IsReached, IsTaskOf, OfEach, kept, task_of}

-- ---- what a party holds

-- a thing or a value
abbrev pub holds : {C : Type 0} → BoardMachine C → List ℕ → List ℕ → Bool
holds m party name = is_some (thing_of m.domain.tables.things party name) || is_some (kept m party name)

-- the same, where there is a name
abbrev pub holds_any : {C : Type 0} → BoardMachine C → List ℕ → Option (List ℕ) → Bool
holds_any m party None = false
holds_any m party (Some name) = holds m party name

-- a read or a write handle
abbrev pub is_handle : Kind → Bool
is_handle kind.Factory = false
is_handle (kind.Reader port) = false
is_handle (kind.Writer port) = false
is_handle (kind.ReadHandle i) = true
is_handle (kind.WriteHandle i port) = true

-- a handle that some party holds
pub record IsHandle {C : Type 0} (m : BoardMachine C) (x : Held) : Type 0 where
  pub party : List ℕ
  pub name : List ℕ
  pub found : thing_of m.domain.tables.things party name ≡ Some x
  pub handle : is_handle x.kind ≡ true

-- what is found of a handle that some party holds
pub record IsFoundHandle {C : Type 0} (m : BoardMachine C) (f : FoundThing) : Type 0 where
  pub thing : Held
  pub handle : IsHandle m thing
  pub found : f ≡ found_of thing

-- the party runs no call, and isn't gone
abbrev pub HasNoTask : {C : Type 0} → BoardMachine C → List ℕ → Type 0
HasNoTask m party = task_of m party ≡ None

-- ---- write handles and loans

-- a write handle that isn't lent
abbrev pub handle_held : {C : Type 0} → BoardMachine C → List ℕ → List ℕ → Option Held
handle_held m party name = if is_some (lent_words m party name) then None else of_kind thing_kind.WriteHandle (thing_of m.domain.tables.things party name)

-- the write handle that a loan is, and the words that were put
abbrev pub loan_held : {C : Type 0} → BoardMachine C → List ℕ → List ℕ → Option (Held × List (Option ℕ))
loan_held m party name = and_then (of_kind thing_kind.WriteHandle (thing_of m.domain.tables.things party name)) (λ t. and_then (lent_words m party name) (λ words. Some (t, words)))

-- the number is the counter of the entry of this thing, where there is one
abbrev pub IsGenerationOf : {C : Type 0} → BoardMachine C → Option Held → ℕ → Type 0
IsGenerationOf m None g = Unit {0}
IsGenerationOf m (Some x) g = IsCounter m x.board (entry_of x.kind) g

-- the handle or the loan whose entry the call writes, where the party has it
abbrev pub written_by : {C : Type 0} → BoardMachine C → List ℕ → Call → Option Held
written_by m party (call.Update h v) = handle_held m party h
written_by m party (call.Put l i w) = option_map (λ x. x.0) (loan_held m party l)
written_by m party (call.Publish l h) = option_map (λ x. x.0) (loan_held m party l)
written_by m party (call.Fill l h v) = option_map (λ x. x.0) (loan_held m party l)
written_by m party c = None

-- the number is the counter of the entry that the call writes
abbrev pub HasGeneration : {C : Type 0} → BoardMachine C → List ℕ → Call → ℕ → Type 0
HasGeneration m party c g = IsGenerationOf m (written_by m party c) g

-- a thing of this kind has an id: no factory has, and no loan
abbrev pub has_id : Kind → Bool → Bool
has_id kind.Factory is_lent = false
has_id (kind.Reader port) is_lent = true
has_id (kind.Writer port) is_lent = true
has_id (kind.ReadHandle i) is_lent = true
has_id (kind.WriteHandle i port) is_lent = not is_lent

-- the thing of this kind that a party holds under a name
abbrev pub thing_held : {C : Type 0} → BoardMachine C → ThingKind → List ℕ → List ℕ → Option Held
thing_held m kind party name = of_kind kind (thing_of m.domain.tables.things party name)

-- ---- checks

-- the task is what the call has to do
abbrev pub IsTaskFor : Task → Option Request → Type 0
IsTaskFor t None = ⊥
IsTaskFor t (Some q) = IsTaskOf t q []

-- what a call uses is this, or it is unknown
abbrev pub IsUsed : {T : Type 0} → Option T → Result T Reason → Type 0
IsUsed found (Ok x) = found ≡ Some x
IsUsed found (Err why) = (found ≡ None) × (why ≡ reason.Unknown)

-- what a call requires holds, or the call is refused for it
abbrev pub IsRequired : Bool → Reason → Result ⊤ Reason → Type 0
IsRequired holds refusal (Ok done) = holds ≡ true
IsRequired holds refusal (Err why) = (holds ≡ false) × (why ≡ refusal)

-- begun, or refused with the reason that there is; where memory was refused there is none
abbrev pub IsChecked : Option Reason → Option Request → Result Task NotBegun → Type 0
IsChecked reason request (Ok t) = (reason ≡ None) × IsTaskFor t request
IsChecked reason request (Err (not_begun.Refused why)) = reason ≡ Some why
IsChecked reason request (Err not_begun.OutOfMemory) = reason ≡ None

-- a call of the party is looked at so, in each state that the machine stands for
abbrev pub Checks : {C : Type 0} → BoardMachine C → List ℕ → Call → Result Task NotBegun → Type 0
Checks m party c result =
    OfEach m (λ s. Sound s → IsChecked (call_reason s.standing party c (request_of s.standing s.published party c)) (request_of s.standing s.published party c) result)

-- ---- what names have nothing to do with

-- the reason, where it is that something isn't held
abbrev pub past_names : Reason → Option Reason
past_names reason.Unknown = Some reason.Unknown
past_names why = None

-- a free party finds all that a call uses
abbrev pub finds_all : Party → Option Request → Bool
finds_all free request = is_some request
finds_all (running r) request = false
finds_all gone request = false

-- the call is refused so, whatever names are held, or it finds all that it uses
abbrev pub IsPastNames : State → List ℕ → Call → Option Reason → Type 0
IsPastNames s party c (Some why) =
    (finds_all (s.parties party) (request_of s.standing s.published party c) ≡ false) × (IsLine (line.Begin party c) → IsRight s (line.Begin party c) (answer.Refused why))
IsPastNames s party c None = finds_all (s.parties party) (request_of s.standing s.published party c) ≡ true

-- so it is in each state that the machine stands for
abbrev pub LooksPastNames : {C : Type 0} → BoardMachine C → List ℕ → Call → Option Reason → Type 0
LooksPastNames m party c told = OfEach m (λ s. IsReached s → IsPastNames s party c told)
