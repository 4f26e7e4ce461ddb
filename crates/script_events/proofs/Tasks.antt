-- What the parties have still to do, and the calls that it stands for.
use Rattle.std.proofs.Common.{◌≡◌, ℕ, Bool, false, List, refl, ap, subst, ◌∙◌, Option, Some, None, inl, inr}
use Rattle.std.specs.Prelude.{if◌then◌else◌, is_some, ◌||◌}
use Rattle.std.specs.Str.{bytes_eq}
use Rattle.board_model.proofs.ListLemmas.{same_bytes}
use Rattle.board_model.proofs.ThingLemmas.{same_to_itself}
use Rattle.board_event_model.specs.EventSessions.{PartyCall, do_at}
use Rattle.script_model.specs.ScriptEvents.{EventAsk, with_ask}
use Rattle.script_events.specs.declared.rows.CallTask.{CallTask}
use Rattle.script_events.specs.Left.{HasTask}
use Rattle.script_events.specs.PartyEvents.{AreCalls, IsCall}
use Rattle.script_events.proofs.Options.{either, replaced, turned}

-- ---- one party's task

-- no call, no task
pub no_task : (t : Option CallTask) (q : Option EventAsk) (d : Option PartyCall) → q ≡ None → d ≡ None → IsCall t q d → t ≡ None
no_task None q d e f h = refl
no_task (Some t) None None e f h = absurd h
no_task (Some t) None (Some d) e f h = absurd cc
no_task (Some t) (Some q) d e f h = absurd cc

-- a task is there where a call runs
pub is_running : (t : Option CallTask) (q : Option EventAsk) (d : Option PartyCall) → IsCall t q d → is_some t ≡ (is_some q || is_some d)
is_running None q d h = rw (h.0, h.1) refl
is_running (Some t) None None h = absurd h
is_running (Some t) None (Some d) h = refl
is_running (Some t) (Some q) d h = refl

-- no call runs
pub not_running : (q : Option EventAsk) (d : Option PartyCall) → (is_some q || is_some d) ≡ false → (q ≡ None) × (d ≡ None)
not_running None None e = (refl, refl)
not_running None (Some d) e = absurd cc
not_running (Some q) d e = absurd cc

-- told by other words
pub alike : (t u : Option CallTask) (q r : Option EventAsk) (d c : Option PartyCall) → t ≡ u → q ≡ r → d ≡ c → IsCall u r c → IsCall t q d
alike t u q r d c e f g h = rw (e, f, g) h

-- a task that changed and ended has ended
pub changed_ended : (tasks mid new : List ℕ → Option CallTask) (party : List ℕ) (t : Option CallTask) → HasTask tasks mid party t → HasTask mid new party None → HasTask tasks new party None
changed_ended tasks mid new party t first second p = second p ∙ replaced (bytes_eq party p) t None (tasks p) (mid p) (first p)

-- ---- changes of one party's task

-- the calls of other parties are the same
abbrev pub AreOthers : List ℕ → (List ℕ → Option EventAsk) → (List ℕ → Option EventAsk) → (List ℕ → Option PartyCall) → (List ℕ → Option PartyCall) → Type 0
AreOthers party asked asked' doing doing' = (p : List ℕ) → bytes_eq p party ≡ false → (asked' p ≡ asked p) × (doing' p ≡ doing p)

module _ (tasks tasks' : List ℕ → Option CallTask) (party : List ℕ) (t : Option CallTask) (has : HasTask tasks tasks' party t) (asked : List ℕ → Option EventAsk) (doing : List ℕ → Option PartyCall) (are : AreCalls tasks asked doing) where
  -- a party's call begins, goes on or ends
  pub task_changed : (asked' : List ℕ → Option EventAsk) (doing' : List ℕ → Option PartyCall) → AreOthers party asked asked' doing doing' → IsCall t (asked' party) (doing' party) → AreCalls tasks' asked' doing'
  task_changed asked' doing' others one p = elim (either (bytes_eq party p)) [
    | inl f ↦ (let here : tasks' party ≡ t = has party ∙ ap (λ (b : Bool). if b then t else tasks party) (same_to_itself party) in
        subst (λ (r : List ℕ). IsCall (tasks' r) (asked' r) (doing' r)) (same_bytes party p f) (alike (tasks' party) t (asked' party) (asked' party) (doing' party) (doing' party) here refl refl one))
    | inr f ↦ (let o = others p (turned p party ∙ f) in
        let there : tasks' p ≡ tasks p = has p ∙ ap (λ (b : Bool). if b then t else tasks p) f in
        alike (tasks' p) (tasks p) (asked' p) (asked p) (doing' p) (doing p) there o.0 o.1 (are p))
  ]

  -- what it asks for
  pub ask_changed : (q : Option EventAsk) → IsCall t q (doing party) → AreCalls tasks' (with_ask asked party q) doing
  ask_changed q one = task_changed (with_ask asked party q) doing (λ p f. (rw f refl, refl)) (rw (same_to_itself party) one)

  -- what it does
  pub call_changed : (d : Option PartyCall) → IsCall t (asked party) d → AreCalls tasks' asked (do_at doing party d)
  call_changed d one = task_changed asked (do_at doing party d) (λ p f. (refl, rw f refl)) (rw (same_to_itself party) one)

-- all that it runs ends
pub task_ended : (tasks tasks' : List ℕ → Option CallTask) (party : List ℕ) → HasTask tasks tasks' party None → (asked : List ℕ → Option EventAsk) (doing : List ℕ → Option PartyCall) → AreCalls tasks asked doing
    → AreCalls tasks' (with_ask asked party None) (do_at doing party None)
task_ended tasks tasks' party has asked doing are = task_changed tasks tasks' party None has asked doing are (with_ask asked party None) (do_at doing party None)
    (λ p f. (rw f refl, rw f refl)) (rw (same_to_itself party) (refl, refl))
