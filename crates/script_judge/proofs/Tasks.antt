-- What a party runs, by what is kept of it.
use Rattle.std.proofs.Common.{◌≡◌, ℕ, Bool, true, false, List, refl, sym, ap, subst, ◌∙◌, Option, Some, None, ◌⊎◌, inl, inr, cond}
use Rattle.std.specs.Prelude.{◌||◌, if◌then◌else◌, is_some}
use Rattle.std.specs.Str.{bytes_eq}
use Rattle.board_cell_model.specs.declared.access.Access.{Access}
use Rattle.board_cell_model.specs.declared.access.Access.TheVariants as access
use Rattle.board_event_model.specs.EventSessions.{PartyCall}
use Rattle.board_model.specs.declared.answer.Reason.{Reason}
use Rattle.board_model.specs.declared.answer.Reason.TheVariants as reason
use Rattle.board_model.specs.LawfulSession.{free_reason}
use Rattle.board_model.specs.Parties.{Party, Running, free, gone, notice, running}
use Rattle.script_model.specs.ScriptEvents.{EventAsk}
use Rattle.script_model.specs.ScriptTurns.{ScriptState}
use Rattle.script_model.proofs.TurnLemmas.{other_text, same_text, text_itself}
use Rattle.script_board_tables.specs.Calls.{HasCome, IsFor}
use Rattle.script_board_tables.specs.declared.calls.BoardCall.{BoardCall}
use Rattle.script_event_rows.specs.declared.event_call.EventCall.{EventCall}
use Rattle.script_event_rows.specs.EventCalls.{IsKeptOf}
use Rattle.script_judge.specs.declared.task.Ask.{Ask}
use Rattle.script_judge.specs.declared.task.Task.{Task}
use Rattle.script_judge.specs.declared.task.Task.TheVariants as task
use Rattle.script_judge.specs.Judges.{IsTaskOf, ask_in, refusal_by}
use Rattle.script_judge.proofs.Lines.{IsQuiet, IsUnfree, quiet}
use Rattle.script_judge.proofs.FreeLines.{IsFree}

-- ---- each kind of task

-- what the party runs in this state
abbrev pub IsTaskIn : ScriptState → List ℕ → Option Task → Type 0
IsTaskIn s p o = IsTaskOf o (s.boards.parties p) (s.events.asked p) (s.events.session.doing p)

-- nothing is kept of a free party
none_kept : (p : Party) (q : Option EventAsk) (d : Option PartyCall) → IsTaskOf None p q d → (p ≡ free) × (q ≡ None) × (d ≡ None)
none_kept free None None h = (refl, refl, refl)
none_kept free None (Some d) h = absurd h
none_kept free (Some q) d h = absurd h
none_kept (running r) q d h = absurd h
none_kept gone q d h = absurd h

gone_kept : (p : Party) (q : Option EventAsk) (d : Option PartyCall) → IsTaskOf (Some task.Gone) p q d → (p ≡ gone) × (q ≡ None) × (d ≡ None)
gone_kept free q d h = absurd h
gone_kept (running r) q d h = absurd h
gone_kept gone None None h = (refl, refl, refl)
gone_kept gone None (Some d) h = absurd h
gone_kept gone (Some q) d h = absurd h

-- a call on boards that runs
pub record RunsOnBoards (c : BoardCall) (p : Party) (q : Option EventAsk) (d : Option PartyCall) : Type 0 where
  pub running_call : Running
  pub party : p ≡ running running_call
  pub asked : q ≡ None
  pub doing : d ≡ None
  pub call : IsFor c running_call.request
  pub come : HasCome c running_call.so_far

runs_kept : (c : BoardCall) (p : Party) (q : Option EventAsk) (d : Option PartyCall) → IsTaskOf (Some (task.OnBoards c)) p q d → RunsOnBoards c p q d
runs_kept c free q d h = absurd h
runs_kept c (running r) None None h = record { running_call = r; party = refl; asked = refl; doing = refl; call = h.0; come = h.1 }
runs_kept c (running r) None (Some d) h = absurd h
runs_kept c (running r) (Some q) d h = absurd h
runs_kept c gone q d h = absurd h

asks_kept : (a : Ask) (p : Party) (q : Option EventAsk) (d : Option PartyCall) → IsTaskOf (Some (task.Asks a)) p q d → (p ≡ free) × (q ≡ Some (ask_in a)) × (d ≡ None)
asks_kept a free (Some q) None h = (refl, ap (λ (x : EventAsk). Some x) h, refl)
asks_kept a free (Some q) (Some d) h = absurd h
asks_kept a free None d h = absurd h
asks_kept a (running r) q d h = absurd h
asks_kept a gone q d h = absurd h

-- a call on an event that runs
pub record RunsOnEvent (n : ℕ) (c : EventCall) (p : Party) (q : Option EventAsk) (d : Option PartyCall) : Type 0 where
  pub running_call : PartyCall
  pub party : p ≡ free
  pub asked : q ≡ None
  pub doing : d ≡ Some running_call
  pub on : n ≡ running_call.on
  pub kept : IsKeptOf c running_call.call

acts_kept : (n : ℕ) (c : EventCall) (p : Party) (q : Option EventAsk) (d : Option PartyCall) → IsTaskOf (Some (task.OnEvent n c)) p q d → RunsOnEvent n c p q d
acts_kept n c free None (Some d) h = record { running_call = d; party = refl; asked = refl; doing = refl; on = h.0; kept = h.1 }
acts_kept n c free None None h = absurd h
acts_kept n c free (Some q) d h = absurd h
acts_kept n c (running r) q d h = absurd h
acts_kept n c gone q d h = absurd h

module _ (s : ScriptState) (party : List ℕ) where
  pub free_by : IsTaskIn s party None → IsFree s party
  free_by h = (let k = none_kept (s.boards.parties party) (s.events.asked party) (s.events.session.doing party) h in record { is_free = k.0; quiet = record { asked = k.1; doing = k.2 } })

  pub gone_by : IsTaskIn s party (Some task.Gone) → (s.boards.parties party ≡ gone) × IsQuiet s party
  gone_by h = (let k = gone_kept (s.boards.parties party) (s.events.asked party) (s.events.session.doing party) h in (k.0, record { asked = k.1; doing = k.2 }))

  pub runs_by : (c : BoardCall) → IsTaskIn s party (Some (task.OnBoards c)) → RunsOnBoards c (s.boards.parties party) (s.events.asked party) (s.events.session.doing party)
  runs_by c h = runs_kept c (s.boards.parties party) (s.events.asked party) (s.events.session.doing party) h

  pub asks_by : (a : Ask) → IsTaskIn s party (Some (task.Asks a)) → (s.boards.parties party ≡ free) × (s.events.asked party ≡ Some (ask_in a)) × (s.events.session.doing party ≡ None)
  asks_by a h = asks_kept a (s.boards.parties party) (s.events.asked party) (s.events.session.doing party) h

  pub acts_by : (n : ℕ) (c : EventCall) → IsTaskIn s party (Some (task.OnEvent n c)) → RunsOnEvent n c (s.boards.parties party) (s.events.asked party) (s.events.session.doing party)
  acts_by n c h = acts_kept n c (s.boards.parties party) (s.events.asked party) (s.events.session.doing party) h

  -- a party that isn't free
  pub unfree_by : (o : Option Task) (why : Reason) → IsTaskIn s party o → refusal_by o ≡ Some why → IsUnfree s party why
  unfree_by None why h e = absurd cc
  unfree_by (Some task.Gone) why h e =
      let k = gone_by h in
      inr (quiet s party k.1, ap (λ (p : Party). free_reason p None) k.0 ∙ e)
  unfree_by (Some (task.OnBoards c)) why h e =
      let k = runs_by c h in
      inr (quiet s party (record { asked = k.asked; doing = k.doing }), ap (λ (p : Party). free_reason p None) k.party ∙ e)
  unfree_by (Some (task.Asks a)) why h e =
      let k = asks_by a h in
      inl (ap (λ (o : Option EventAsk). is_some o || is_some (s.events.session.doing party)) k.1, (let w : why ≡ reason.Busy = cc in w))
  unfree_by (Some (task.OnEvent n c)) why h e =
      let k = acts_by n c h in
      inl (ap (λ (o : Option EventAsk). is_some o || is_some (s.events.session.doing party)) k.asked ∙ ap (λ (o : Option PartyCall). is_some o) k.doing, (let w : why ≡ reason.Busy = cc in w))

  pub free_unless : (o : Option Task) → IsTaskIn s party o → refusal_by o ≡ None → IsFree s party
  free_unless None h e = free_by h
  free_unless (Some task.Gone) h e = absurd cc
  free_unless (Some (task.OnBoards c)) h e = absurd cc
  free_unless (Some (task.Asks a)) h e = absurd cc
  free_unless (Some (task.OnEvent n c)) h e = absurd cc

-- ---- what is kept after a line

-- an access of another party is noticed by a get, which stays the same call and as far
notice_keeps : (a : Access) (o : Option Task) (p : Party) (q : Option EventAsk) (d : Option PartyCall) → IsTaskOf o p q d → IsTaskOf o (notice a p) q d
notice_keeps (access.Write board word value) None free q d h = h
notice_keeps (access.Write board word value) None (running r) q d h = absurd h
notice_keeps (access.Write board word value) None gone q d h = absurd h
notice_keeps (access.Write board word value) (Some task.Gone) free q d h = h
notice_keeps (access.Write board word value) (Some task.Gone) (running r) q d h = absurd h
notice_keeps (access.Write board word value) (Some task.Gone) gone q d h = h
notice_keeps (access.Write board word value) (Some (task.OnBoards c)) free q d h = h
notice_keeps (access.Write board word value) (Some (task.OnBoards c)) (running r) None None h = h
notice_keeps (access.Write board word value) (Some (task.OnBoards c)) (running r) None (Some d) h = absurd h
notice_keeps (access.Write board word value) (Some (task.OnBoards c)) (running r) (Some q) d h = absurd h
notice_keeps (access.Write board word value) (Some (task.OnBoards c)) gone q d h = h
notice_keeps (access.Write board word value) (Some (task.Asks x)) free q d h = h
notice_keeps (access.Write board word value) (Some (task.Asks x)) (running r) q d h = absurd h
notice_keeps (access.Write board word value) (Some (task.Asks x)) gone q d h = h
notice_keeps (access.Write board word value) (Some (task.OnEvent n c)) free q d h = h
notice_keeps (access.Write board word value) (Some (task.OnEvent n c)) (running r) q d h = absurd h
notice_keeps (access.Write board word value) (Some (task.OnEvent n c)) gone q d h = h
notice_keeps (access.Read board word value) o p q d h = h
notice_keeps access.Table o p q d h = h

-- each party's task is kept
abbrev pub AreTasks : (List ℕ → Option Task) → ScriptState → Type 0
AreTasks tasks s = (p : List ℕ) → IsTaskIn s p (tasks p)

-- but for one
abbrev pub AreTasksBut : (List ℕ → Option Task) → List ℕ → ScriptState → Type 0
AreTasksBut tasks party s = (p : List ℕ) → bytes_eq party p ≡ false → IsTaskIn s p (tasks p)

-- the task of one party was put, or taken out
abbrev pub IsPut : (List ℕ → Option Task) → (List ℕ → Option Task) → List ℕ → Option Task → Type 0
IsPut old new party o = (p : List ℕ) → new p ≡ cond (bytes_eq party p) o (old p)

-- what other parties run stays, so far as it is kept
abbrev pub OthersStay : ScriptState → ScriptState → List ℕ → Type 0
OthersStay s t party = (p : List ℕ) (o : Option Task) → bytes_eq p party ≡ false → IsTaskIn s p o → IsTaskIn t p o

either : (b : Bool) → (b ≡ true) ⊎ (b ≡ false)
either true = inl refl
either false = inr refl

turned_text : (a b : List ℕ) → bytes_eq a b ≡ false → bytes_eq b a ≡ false
turned_text a b h = other_text b a (λ e. (let k : bytes_eq a b ≡ true = ap (bytes_eq a) e ∙ text_itself a in let z : true ≡ false = sym k ∙ h in absurd cc))

pub text_turned : (a b : List ℕ) → bytes_eq a b ≡ bytes_eq b a
text_turned a b =
    elim (either (bytes_eq a b)) [
      | inl same ↦ (let e : a ≡ b = same_text a b same in ap (λ (x : List ℕ). bytes_eq x b) e ∙ ap (bytes_eq b) (sym e))
      | inr apart ↦ apart ∙ sym (turned_text a b apart)
    ]

-- so each party's task is kept after a line of one party
pub tasks_put : (old new : List ℕ → Option Task) (party : List ℕ) (o : Option Task) (s t : ScriptState) → IsPut old new party o → AreTasksBut old party s → OthersStay s t party → IsTaskIn t party o → AreTasks new t
tasks_put old new party o s t put but stay is p =
    elim (either (bytes_eq party p)) [
      | inl same ↦ (
          let e : party ≡ p = same_text party p same in
          let n : new p ≡ o = put p ∙ ap (λ (b : Bool). cond b o (old p)) same in
          subst (IsTaskIn t p) (sym n) (subst (λ (x : List ℕ). IsTaskIn t x o) e is))
      | inr apart ↦ (
          let n : new p ≡ old p = put p ∙ ap (λ (b : Bool). cond b o (old p)) apart in
          subst (IsTaskIn t p) (sym n) (stay p (old p) (turned_text party p apart) (but p apart)))
    ]

-- the same where what the party runs was put by its outcome
pub tasks_put_at : (old new : List ℕ → Option Task) (party : List ℕ) (s t : ScriptState) → ((p : List ℕ) → bytes_eq party p ≡ false → new p ≡ old p) → AreTasksBut old party s → OthersStay s t party → IsTaskIn t party (new party) → AreTasks new t
tasks_put_at old new party s t same but stay is p =
    elim (either (bytes_eq party p)) [
      | inl e ↦ subst (λ (x : List ℕ). IsTaskIn t x (new x)) (same_text party p e) is
      | inr apart ↦ subst (IsTaskIn t p) (sym (same p apart)) (stay p (old p) (turned_text party p apart) (but p apart))
    ]

-- where a task is taken out, the others' stay
pub tasks_out : (old new : List ℕ → Option Task) (party : List ℕ) (s : ScriptState) → IsPut old new party None → AreTasks old s → AreTasksBut new party s
tasks_out old new party s put are p apart =
    let n : new p ≡ old p = put p ∙ ap (λ (b : Bool). cond b None (old p)) apart in
    subst (IsTaskIn s p) (sym n) (are p)

pub task_out : (old new : List ℕ → Option Task) (party : List ℕ) → IsPut old new party None → new party ≡ None
task_out old new party put = put party ∙ ap (λ (b : Bool). cond b None (old party)) (text_itself party)

pub out_put : (tasks : List ℕ → Option Task) (party : List ℕ) → tasks party ≡ None → IsPut tasks tasks party None
out_put tasks party out p =
    elim (either (bytes_eq party p)) [
      | inl same ↦ (let e : tasks p ≡ None = ap tasks (sym (same_text party p same)) ∙ out in e ∙ ap (λ (b : Bool). cond b None (tasks p)) (sym same))
      | inr apart ↦ ap (λ (b : Bool). cond b None (tasks p)) (sym apart)
    ]

-- what was put at once anew is what was there
pub put_again : (old mid new : List ℕ → Option Task) (party : List ℕ) (o : Option Task) → IsPut old mid party None → IsPut mid new party o → old party ≡ o → (p : List ℕ) → new p ≡ old p
put_again old mid new party o out put was p =
    elim (either (bytes_eq party p)) [
      | inl same ↦ (
          let n : new p ≡ o = put p ∙ ap (λ (b : Bool). cond b o (mid p)) same in
          n ∙ sym was ∙ ap old (same_text party p same))
      | inr apart ↦ (
          let n : new p ≡ mid p = put p ∙ ap (λ (b : Bool). cond b o (mid p)) apart in
          let m : mid p ≡ old p = out p ∙ ap (λ (b : Bool). cond b None (old p)) apart in
          n ∙ m)
    ]

pub tasks_same : (old new : List ℕ → Option Task) (s : ScriptState) → ((p : List ℕ) → new p ≡ old p) → AreTasks old s → AreTasks new s
tasks_same old new s same are p = subst (IsTaskIn s p) (sym (same p)) (are p)

-- ---- what others run stays

pub others_with_party : (s : ScriptState) (t : ScriptState) (party : List ℕ) (x : Party) → (t.boards.parties ≡ (λ p. if bytes_eq p party then x else s.boards.parties p)) → t.events.asked ≡ s.events.asked → t.events.session.doing ≡ s.events.session.doing → OthersStay s t party
others_with_party s t party x parties asked doing p o apart h =
    let e : t.boards.parties p ≡ s.boards.parties p = ap (λ (f : List ℕ → Party). f p) parties ∙ ap (λ (b : Bool). if b then x else s.boards.parties p) apart in
    subst (λ (f : List ℕ → Option EventAsk). IsTaskOf o (t.boards.parties p) (f p) (t.events.session.doing p)) (sym asked)
    (subst (λ (f : List ℕ → Option PartyCall). IsTaskOf o (t.boards.parties p) (s.events.asked p) (f p)) (sym doing)
    (subst (λ (y : Party). IsTaskOf o y (s.events.asked p) (s.events.session.doing p)) (sym e) h))

pub others_notice : (s : ScriptState) (t : ScriptState) (party : List ℕ) (a : Access) (x : Party) → (t.boards.parties ≡ (λ p. if bytes_eq p party then x else notice a (s.boards.parties p))) → t.events.asked ≡ s.events.asked → t.events.session.doing ≡ s.events.session.doing → OthersStay s t party
others_notice s t party a x parties asked doing p o apart h =
    let e : t.boards.parties p ≡ notice a (s.boards.parties p) = ap (λ (f : List ℕ → Party). f p) parties ∙ ap (λ (b : Bool). if b then x else notice a (s.boards.parties p)) apart in
    subst (λ (f : List ℕ → Option EventAsk). IsTaskOf o (t.boards.parties p) (f p) (t.events.session.doing p)) (sym asked)
    (subst (λ (f : List ℕ → Option PartyCall). IsTaskOf o (t.boards.parties p) (s.events.asked p) (f p)) (sym doing)
    (subst (λ (y : Party). IsTaskOf o y (s.events.asked p) (s.events.session.doing p)) (sym e) (notice_keeps a o (s.boards.parties p) (s.events.asked p) (s.events.session.doing p) h)))

-- where only events change
pub others_on_events : (s t : ScriptState) (party : List ℕ) → t.boards.parties ≡ s.boards.parties → ((p : List ℕ) → bytes_eq p party ≡ false → t.events.asked p ≡ s.events.asked p) → ((p : List ℕ) → bytes_eq p party ≡ false → t.events.session.doing p ≡ s.events.session.doing p) → OthersStay s t party
others_on_events s t party parties asked doing p o apart h =
    let e : t.boards.parties p ≡ s.boards.parties p = ap (λ (f : List ℕ → Party). f p) parties in
    subst (λ (y : Party). IsTaskOf o y (t.events.asked p) (t.events.session.doing p)) (sym e)
    (subst (λ (y : Option EventAsk). IsTaskOf o (s.boards.parties p) y (t.events.session.doing p)) (sym (asked p apart))
    (subst (λ (y : Option PartyCall). IsTaskOf o (s.boards.parties p) (s.events.asked p) y) (sym (doing p apart)) h))
