-- What a caller prints of a step: the access with the kind and the name of its event.
use Rattle.std.proofs.Common.{◌≡◌, ℕ, List, refl, sym, ap, subst, ◌∙◌, Option, Some, None}
use Rattle.std.specs.Prelude.{IsSome, IsSomeAnd}
use Rattle.board_event_model.specs.declared.access.EventAccess.{EventAccess}
use Rattle.board_event_model.specs.declared.access.EventAnswer.{EventAnswer}
use Rattle.board_event_model.specs.declared.kind.EventKind.{EventKind}
use Rattle.board_event_model.specs.EventMemory.{Event, kind_of_access}
use Rattle.board_event_core.specs.EventTable.{event_at}
use Rattle.script_model.specs.declared.reply.EventReply.{EventReply}
use Rattle.script_model.specs.ScriptAnswers.{IsScriptAnswer, ScriptAnswer, of_ask, of_event}
use Rattle.script_model.specs.ScriptEvents.{IsStepOf, ScriptEvents, step_made}
use Rattle.script_events.specs.declared.party_events.PartyEvents.{PartyEvents}
use Rattle.script_events.specs.declared.step.Stepped.TheVariants as stepped
use Rattle.script_events.specs.PartyEvents.{IsStepped, Represents}

-- an answer is right, and what follows is stood for
pub record IsShown (new : PartyEvents) (x : ScriptEvents) (party : List ℕ) (a : ScriptAnswer) : Type 0 where
  pub right : IsStepOf x (x.asked party) (x.session.doing party) a
  pub represents : Represents new (step_made x party (x.asked party) a)

-- what was asked for
pub ask_shown : (new : PartyEvents) (x : ScriptEvents) (party : List ℕ) (told : EventReply) → IsStepped new x party (stepped.Asked told) → IsShown new x party (of_ask told)
ask_shown new x party told s = subst (IsShown new x party) s.told_is (record { right = s.right; represents = s.represents })

some_of : (P : Event → Type 0) (o : Option Event) → IsSomeAnd o P → IsSome o
some_of P None h = absurd h
some_of P (Some e) h = refl

-- the event of an access stands
pub event_stands : (new : PartyEvents) (x : ScriptEvents) (party : List ℕ) (event : ℕ) (access : EventAccess) (answer : EventAnswer) (told : Option EventReply) → IsStepped new x party (stepped.Acted event access answer told) → IsSome (event_at new.events event)
event_stands new x party event access answer told s = some_of _ (event_at new.events event) s.told_is

shown_by : (a : ScriptAnswer) (kind : EventKind) (name : List ℕ) (access : EventAccess) (answer : EventAnswer) (told : Option EventReply) (o : Option Event) → IsSomeAnd o (λ e. a ≡ of_event e.kind e.name access answer told) → IsSomeAnd o (λ e. kind ≡ e.kind) → IsSomeAnd o (λ e. name ≡ e.name)
    → a ≡ of_event kind name access answer told
shown_by a kind name access answer told None h k n = absurd h
shown_by a kind name access answer told (Some e) h k n = h ∙ ap (λ (j : EventKind). of_event j e.name access answer told) (sym k) ∙ ap (λ (m : List ℕ). of_event kind m access answer told) (sym n)

kind_by : (a : ScriptAnswer) (kind : EventKind) (access : EventAccess) (answer : EventAnswer) (told : Option EventReply) (o : Option Event) → kind ≡ kind_of_access access → IsScriptAnswer a → IsSomeAnd o (λ e. a ≡ of_event e.kind e.name access answer told) → IsSomeAnd o (λ e. kind ≡ e.kind)
kind_by a kind access answer told None is formed h = absurd h
kind_by a kind access answer told (Some e) is formed h = is ∙ sym (subst IsScriptAnswer h formed).0

-- its kind is that of the access, where the answer is one of the grammar
pub kind_shown : (new : PartyEvents) (x : ScriptEvents) (party : List ℕ) (event : ℕ) (access : EventAccess) (answer : EventAnswer) (told : Option EventReply) (kind : EventKind) → kind ≡ kind_of_access access → (s : IsStepped new x party (stepped.Acted event access answer told)) → IsScriptAnswer s.answer
    → IsSomeAnd (event_at new.events event) (λ e. kind ≡ e.kind)
kind_shown new x party event access answer told kind is s formed = kind_by s.answer kind access answer told (event_at new.events event) is formed s.told_is

-- this kind and this name are those of the answer, where they are the event's
pub access_shown : (new : PartyEvents) (x : ScriptEvents) (party : List ℕ) (event : ℕ) (access : EventAccess) (answer : EventAnswer) (told : Option EventReply) (kind : EventKind) (name : List ℕ) → IsStepped new x party (stepped.Acted event access answer told)
    → IsSomeAnd (event_at new.events event) (λ e. kind ≡ e.kind) → IsSomeAnd (event_at new.events event) (λ e. name ≡ e.name) → IsShown new x party (of_event kind name access answer told)
access_shown new x party event access answer told kind name s k n =
    subst (IsShown new x party) (shown_by s.answer kind name access answer told (event_at new.events event) s.told_is k n) (record { right = s.right; represents = s.represents })
