-- What is true of the events of a script after each of them changed.
use Rattle.std.proofs.Common.{◌≡◌, ℕ, ◌+◌, Bool, true, false, eqb, refl, sym, ◌∙◌, ap, inl, inr, arith, Some, None, Option, List, [], ◌∷◌}
use Rattle.std.specs.Prelude.{if◌then◌else◌, ◌==◌, not, ◌||◌, IsSome, IsSomeAnd, nat_lt, length, ◌++◌}
use Rattle.std.proofs.lemmas.Bool.{false≢true}
use Rattle.board_event_model.specs.declared.access.EventAccess.{EventAccess}
use Rattle.board_event_model.specs.declared.access.EventAccess.TheVariants as access
use Rattle.board_event_model.specs.declared.kind.EventKind.{EventKind}
use Rattle.board_event_model.specs.declared.kind.EventKind.TheVariants as kind
use Rattle.board_event_model.specs.EventMemory.{Event, after, holds_name}
use Rattle.board_event_model.specs.EventSessions.{StandingEvent, gone_with}
use Rattle.board_event_model.proofs.QuietLemmas.{eqb_self, eqb_true}
use Rattle.board_event_model.proofs.SetLemmas.{either}
use Rattle.board_event_model.proofs.SoundLemmas.{none_some, some_same}
use Rattle.script_model.specs.ScriptGrammar.{is_event_name}
use Rattle.script_model.specs.SoundEvents.{IsFormedEvent, IsListening, IsNamed}

-- ---- a table in which each event changed

-- what stands after each changed so
abbrev pub each : (StandingEvent → StandingEvent) → Option StandingEvent → Option StandingEvent
each g o = elim o [ None ↦ None | Some st ↦ Some (g st) ]

-- the event that stands
abbrev pub event_in : Option StandingEvent → Option Event
event_in o = elim o [ None ↦ None | Some st ↦ Some st.event ]

-- event n changed
abbrev pub one_changed : ℕ → (Event → Event) → ℕ → StandingEvent → StandingEvent
one_changed n f m st = record st { event = if m == n then f st.event else st.event }

pub record WasThere (g : StandingEvent → StandingEvent) (o : Option StandingEvent) (st : StandingEvent) : Type 0 where
  pub old : StandingEvent
  pub was : o ≡ Some old
  pub is : st ≡ g old

pub each_was : (g : StandingEvent → StandingEvent) (o : Option StandingEvent) (st : StandingEvent) → each g o ≡ Some st → WasThere g o st
each_was g None st h = absurd (none_some st h)
each_was g (Some old) st h = record { old = old; was = refl; is = sym (some_same _ st h) }

pub each_some : (g : StandingEvent → StandingEvent) (o : Option StandingEvent) → IsSome o → IsSome (each g o)
each_some g None h = h
each_some g (Some st) h = h

pub each_and : (P Q : StandingEvent → Type 0) (g : StandingEvent → StandingEvent) (o : Option StandingEvent) → ((st : StandingEvent) → P st → Q (g st)) → IsSomeAnd o P → IsSomeAnd (each g o) Q
each_and P Q g None f h = h
each_and P Q g (Some st) f h = f st h

pub each_event : (P Q : Event → Type 0) (g : StandingEvent → StandingEvent) (o : Option StandingEvent) → ((st : StandingEvent) → P st.event → Q (g st).event) → IsSomeAnd (event_in o) P → IsSomeAnd (event_in (each g o)) Q
each_event P Q g None f h = h
each_event P Q g (Some st) f h = f st h

-- ---- a change that keeps what an event is and who holds it

-- the kind, the name, the greatest id and the holders stay
pub record IsSameEvent (e f : Event) : Type 0 where
  pub kind : f.kind ≡ e.kind
  pub name : f.name ≡ e.name
  pub max : f.max ≡ e.max
  pub held : f.held ≡ e.held
  pub notifiers : f.notifiers ≡ e.notifiers

pub same_event : (e : Event) → IsSameEvent e e
same_event e = record { kind = refl; name = refl; max = refl; held = refl; notifiers = refl }

push_same : (e : Event) (id : ℕ) (b c : Bool) → IsSameEvent e (if b then e else if c then record e { queue = e.queue ++ id ∷ [] } else e)
push_same e id true c = same_event e
push_same e id false true = record { kind = refl; name = refl; max = refl; held = refl; notifiers = refl }
push_same e id false false = same_event e

pub after_same : (e : Event) (a : EventAccess) → IsSameEvent e (after e a)
after_same e access.Listener = same_event e
after_same e (access.Set id) = record { kind = refl; name = refl; max = refl; held = refl; notifiers = refl }
after_same e access.Post = record { kind = refl; name = refl; max = refl; held = refl; notifiers = refl }
after_same e (access.Push id) = push_same e id (not e.held || e.gone) (nat_lt (length e.queue) 512)
after_same e access.Signal = record { kind = refl; name = refl; max = refl; held = refl; notifiers = refl }
after_same e (access.Scan k) = same_event e
after_same e (access.Clear id) = record { kind = refl; name = refl; max = refl; held = refl; notifiers = refl }
after_same e (access.Swap k) = record { kind = refl; name = refl; max = refl; held = refl; notifiers = refl }
after_same e access.Pop = record { kind = refl; name = refl; max = refl; held = refl; notifiers = refl }

-- whether the name is held, by the parts
abbrev held_by : EventKind → Bool → ℕ → Bool
held_by k held notifiers = elim k [ kind.Bits ↦ held || nat_lt 0 notifiers | kind.Queue ↦ held ]

pub same_named : (k : EventKind) (name : List ℕ) (e f : Event) → IsSameEvent e f → IsNamed k name e → IsNamed k name f
same_named k name e f s h = record {
  kind = s.kind ∙ h.kind;
  name_is = s.name ∙ h.name_is;
  held = ap (λ (x : EventKind). held_by x f.held f.notifiers) s.kind ∙ ap (λ (x : Bool). held_by e.kind x f.notifiers) s.held ∙ ap (λ (x : ℕ). held_by e.kind e.held x) s.notifiers ∙ h.held;
}

pub same_holds : (e f : Event) → IsSameEvent e f → holds_name f ≡ holds_name e
same_holds e f s = ap (λ (x : EventKind). held_by x f.held f.notifiers) s.kind ∙ ap (λ (x : Bool). held_by e.kind x f.notifiers) s.held ∙ ap (λ (x : ℕ). held_by e.kind e.held x) s.notifiers

pub same_formed : (n : ℕ) (e f : Event) → IsSameEvent e f → IsFormedEvent n e → IsFormedEvent (n + 1) f
same_formed n e f s h = record {
  text = ap is_event_name s.name ∙ h.text;
  max = (let e = s.max in let l = h.max in omega arith);
  notifiers = (let e = s.notifiers in let l = h.notifiers in omega arith);
}

-- the same of an event that stands, whose listener stays
pub record IsSameStanding (st su : StandingEvent) : Type 0 where
  pub event : IsSameEvent st.event su.event
  pub listener : su.listener ≡ st.listener

pub same_listening : (p : List ℕ) (st su : StandingEvent) → IsSameStanding st su → IsListening p st → IsListening p su
same_listening p st su s h = record { owner = s.listener ∙ h.owner; held = s.event.held ∙ h.held }

pub gone_same : (p : List ℕ) (st : StandingEvent) → IsSameStanding st (gone_with p st)
gone_same p st = record { event = record { kind = refl; name = refl; max = refl; held = refl; notifiers = refl }; listener = refl }

pub changed_same : (n m : ℕ) (f : Event → Event) (st : StandingEvent) → ((e : Event) → IsSameEvent e (f e)) → IsSameStanding st (one_changed n f m st)
changed_same n m f st h = record {
  event = elim (m == n) as (λ b. IsSameEvent st.event (if b then f st.event else st.event)) [ true ↦ h st.event | false ↦ same_event st.event ];
  listener = refl;
}

-- ---- one event changed

-- what holds of the event changed, and of each other, holds of all
pub changed_holds : (Q : StandingEvent → Type 0) (n m : ℕ) (f : Event → Event) (st : StandingEvent) → (m ≡ n → Q (record st { event = f st.event })) → ((m ≡ n → ⊥) → Q st) → Q (one_changed n f m st)
changed_holds Q n m f st here there =
    elim (either (m == n)) [
      | inl same ↦ rw same (here (eqb_true m n same))
      | inr apart ↦ rw apart (there (λ e. false≢true (sym apart ∙ ap (eqb m) (sym e) ∙ eqb_self m)))
    ]
