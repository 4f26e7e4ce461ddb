-- The pair that began a notify, and what an event keeps along a session.
use Rattle.std.proofs.Common.{arith, ◌≡◌, ℕ, ◌+◌, ◌≤◌, Bool, true, false, List, [], ◌∷◌, ◌++◌, refl, sym, ap, subst, ◌∙◌, Option, Some, None, ◌⊎◌, inl, inr, eqb, append_assoc}
use Rattle.std.specs.Prelude.{◌==◌, if◌then◌else◌}
use Rattle.board_event_model.specs.declared.access.EventAccess.{EventAccess}
use Rattle.board_event_model.specs.declared.access.EventAccess.TheVariants as access
use Rattle.board_event_model.specs.declared.access.EventAnswer.{EventAnswer}
use Rattle.board_event_model.specs.declared.call.NotifyStage.{NotifyStage}
use Rattle.board_event_model.specs.declared.call.NotifyStage.TheVariants as notify
use Rattle.board_event_model.specs.declared.call.WaitStage.{WaitStage}
use Rattle.board_event_model.specs.declared.call.WaitStage.TheVariants as wait
use Rattle.board_event_model.specs.declared.kind.EventKind.{EventKind}
use Rattle.board_event_model.specs.EventMemory.{Event, after as memory_after, new_event}
use Rattle.board_event_model.specs.NotifyCalls.{Notify, notify_owed, notify_turn}
use Rattle.board_event_model.specs.WaitCalls.{Wait, wait_owed, wait_turn}
use Rattle.board_event_model.specs.EventCalls.{EventCall, a_notify, a_wait, answered, RunningCall, call_of, is_last, new_call, owed, turn, went_on}
use Rattle.board_event_model.specs.EventSessions.{EventLine, EventSession, PartyCall, StandingEvent, abandon_of, begin_on, change_at, doing_on, event_of, expire_of, gone_with, listen, next_session, notifiers_of, release_of, session_of, step_of, stepped_on, took_step}
use Rattle.board_event_model.proofs.QuietLemmas.{eqb_true}
use Rattle.board_event_model.proofs.SetLemmas.{either}
use Rattle.board_event_model.proofs.SoundLemmas.{none_some, some_same}
use Rattle.script_model.specs.ScriptSession.{IsLawful, Session, start}
use Rattle.script_model.specs.LawsOfComposition.{BeginsNotify, MakesPending, Pair, state_met}
use Rattle.script_model.specs.Parts.{event_part}
use Rattle.script_model.proofs.EachLemmas.{IsSameEvent, after_same}
use Rattle.script_model.proofs.EventPartLemmas.{events_law_holds}
use Rattle.script_model.proofs.TurnLemmas.{put_cases}
use Rattle.script_moments.proofs.EventPairLemmas.{AreLines, IsOneLine, along, along_from, last_pair, lines_of, part_more}

-- ---- the session of events with one pair more

-- it is as it was, or it goes on by one line
abbrev IsSessionMore : Session → Pair → EventSession → Type 0
IsSessionMore done pair x = (x ≡ (state_met done).events.session) ⊎ ((l : EventLine) × IsOneLine (state_met done) pair l × (x ≡ next_session (state_met done).events.session l))

session_more : (done : Session) (pair : Pair) → IsLawful (done ++ pair ∷ []) → IsSessionMore done pair (state_met (done ++ pair ∷ [])).events.session
session_more done pair ok =
    let k = last_pair done pair ok in
    at (lines_of (state_met done) pair) refl k.lines (events_law_holds done k.before).state (events_law_holds (done ++ pair ∷ []) ok).state
  where
    at : (ls : List EventLine) → lines_of (state_met done) pair ≡ ls → AreLines (state_met done) pair ls → session_of (event_part start done) ≡ (state_met done).events.session
        → session_of (event_part start (done ++ pair ∷ [])) ≡ (state_met (done ++ pair ∷ [])).events.session → IsSessionMore done pair (state_met (done ++ pair ∷ [])).events.session
    at [] e h was now = inl (sym now ∙ ap session_of (part_more done pair [] e) ∙ was)
    at (l ∷ []) e h was now = inr (l, h, sym now ∙ ap session_of (part_more done pair (l ∷ []) e) ∙ ap (λ (x : EventSession). next_session x l) was)
    at (l ∷ m ∷ ls) e h was now = absurd h

-- ---- the begin of a notify that runs

-- a pair began the party's notify of the id, and what came before and since
pub record IsBegun (done : Session) (party : List ℕ) (n id number : ℕ) : Type 0 where
  pub before : Session
  pub pair : Pair
  pub since : Session
  pub whole : done ≡ before ++ pair ∷ since
  pub begun : BeginsNotify (state_met before) pair party n id number

begun_more : (done : Session) (pair : Pair) (party : List ℕ) (n id number : ℕ) → IsBegun done party n id number → IsBegun (done ++ pair ∷ []) party n id number
begun_more done pair party n id number h = record {
  before = h.before;
  pair = h.pair;
  since = h.since ++ pair ∷ [];
  whole = ap (λ (xs : Session). xs ++ pair ∷ []) h.whole ∙ append_assoc h.before (h.pair ∷ h.since) (pair ∷ []);
  begun = h.begun;
}

-- each notify of this session was begun so
abbrev AreBegunIn : Session → EventSession → Type 0
AreBegunIn done x = (party : List ℕ) (d : PartyCall) (c : Notify) → x.doing party ≡ Some d → d.call.first ≡ a_notify c → IsBegun done party d.on c.id d.call.number

abbrev AreBegun : Session → Type 0
AreBegun done = AreBegunIn done (state_met done).events.session

went_same : (r : RunningCall) (e : Event) (a : EventAccess) (b : EventAnswer) (f : RunningCall) → went_on r e a b ≡ Some f → (f.first ≡ r.first) × (f.number ≡ r.number)
went_same r e a b f = by (is_last (turn (call_of r) b).0) _ refl refl
  where
    by : (z : Bool) (g : RunningCall) → g.first ≡ r.first → g.number ≡ r.number → (if z then None else Some g) ≡ Some f → (f.first ≡ r.first) × (f.number ≡ r.number)
    by true g first number h = absurd (none_some f h)
    by false g first number h =
        let same : g ≡ f = some_same g f h in
        (ap (λ (x : RunningCall). x.first) (sym same) ∙ first, ap (λ (x : RunningCall). x.number) (sym same) ∙ number)

doing_is : (n : ℕ) (o : Option RunningCall) (d : PartyCall) → doing_on n o ≡ Some d → (d.on ≡ n) × (o ≡ Some d.call)
doing_is n None d h = absurd (none_some d h)
doing_is n (Some r) d h =
    let same : record { on = n; call = r } ≡ d = some_same _ d h in
    (ap (λ (x : PartyCall). x.on) (sym same), ap (λ (x : PartyCall). Some x.call) same)

-- after a step of a call
steps_begin : (done : Session) (pair : Pair) (p : List ℕ) (a : EventAccess) (b : EventAnswer) → AreBegun done → AreBegunIn (done ++ pair ∷ []) (next_session (state_met done).events.session (step_of p a b))
steps_begin done pair p a b h = stepped ((state_met done).events.session.doing p) refl
  where
    old : (party : List ℕ) (d : PartyCall) (c : Notify) → (state_met done).events.session.doing party ≡ Some d → d.call.first ≡ a_notify c → IsBegun (done ++ pair ∷ []) party d.on c.id d.call.number
    old party d c runs first = begun_more done pair party d.on c.id d.call.number (h party d c runs first)

    took : (e : PartyCall) (o : Option Event) → (state_met done).events.session.doing p ≡ Some e → AreBegunIn (done ++ pair ∷ []) (took_step (state_met done).events.session p a b e o)
    took e None ran party d c runs first = old party d c runs first
    took e (Some ev) ran party d c runs first =
        elim (put_cases (state_met done).events.session.doing p (doing_on e.on (went_on e.call ev a b)) party (Some d) runs) [
          | inl here ↦ (
              let w = doing_is e.on (went_on e.call ev a b) d here.1 in
              let g = went_same e.call ev a b d.call w.1 in
              let k = old p e c ran (sym g.0 ∙ first) in
              subst (λ (q : List ℕ). IsBegun (done ++ pair ∷ []) q d.on c.id d.call.number) (sym here.0)
              (subst (λ (m : ℕ). IsBegun (done ++ pair ∷ []) p m c.id d.call.number) (sym w.0)
              (subst (λ (m : ℕ). IsBegun (done ++ pair ∷ []) p e.on c.id m) (sym g.1) k)))
          | inr there ↦ old party d c there.1 first
        ]

    stepped : (o : Option PartyCall) → (state_met done).events.session.doing p ≡ o → AreBegunIn (done ++ pair ∷ []) (stepped_on (state_met done).events.session p a b o)
    stepped None ran = λ party d c runs first. old party d c runs first
    stepped (Some e) ran = took e (event_of (state_met done).events.session.stands e.on) ran

line_begins : (done : Session) (pair : Pair) (l : EventLine) → IsOneLine (state_met done) pair l → AreBegun done → AreBegunIn (done ++ pair ∷ []) (next_session (state_met done).events.session l)
line_begins done pair (listen p k name max) is h party d c runs first = begun_more done pair party d.on c.id d.call.number (h party d c runs first)
line_begins done pair (begin_on p m f) is h party d c runs first =
    let x : EventSession = (state_met done).events.session in
    elim (put_cases x.doing p (Some (record { on = m; call = new_call x.begun f })) party (Some d) runs) [
      | inl here ↦ (
          let same : record { on = m; call = new_call x.begun f } ≡ d = some_same _ d here.1 in
          let begun : BeginsNotify (state_met done) pair p m c.id x.begun = is.1 c (ap (λ (e : PartyCall). e.call.first) same ∙ first) in
          record {
            before = done;
            pair = pair;
            since = [];
            whole = refl;
            begun = subst (λ (e : PartyCall). BeginsNotify (state_met done) pair party e.on c.id e.call.number) same (subst (λ (q : List ℕ). BeginsNotify (state_met done) pair q m c.id x.begun) (sym here.0) begun);
          })
      | inr there ↦ begun_more done pair party d.on c.id d.call.number (h party d c there.1 first)
    ]
line_begins done pair (step_of p a b) is h party d c runs first = steps_begin done pair p a b h party d c runs first
line_begins done pair (expire_of p) is h party d c runs first =
    elim (put_cases (state_met done).events.session.doing p None party (Some d) runs) [
      | inl here ↦ absurd (none_some d here.1)
      | inr there ↦ begun_more done pair party d.on c.id d.call.number (h party d c there.1 first)
    ]
line_begins done pair (abandon_of p) is h party d c runs first =
    elim (put_cases (state_met done).events.session.doing p None party (Some d) runs) [
      | inl here ↦ absurd (none_some d here.1)
      | inr there ↦ begun_more done pair party d.on c.id d.call.number (h party d c there.1 first)
    ]
line_begins done pair (release_of n) is h party d c runs first = begun_more done pair party d.on c.id d.call.number (h party d c runs first)
line_begins done pair (notifiers_of n k) is h party d c runs first = begun_more done pair party d.on c.id d.call.number (h party d c runs first)

begun_step : (done : Session) (pair : Pair) → IsLawful (done ++ pair ∷ []) → AreBegun done → AreBegun (done ++ pair ∷ [])
begun_step done pair ok h =
    elim (session_more done pair ok) [
      | inl same ↦ subst (AreBegunIn (done ++ pair ∷ [])) (sym same) (λ party d c runs first. begun_more done pair party d.on c.id d.call.number (h party d c runs first))
      | inr more ↦ subst (AreBegunIn (done ++ pair ∷ [])) (sym more.2) (line_begins done pair more.0 more.1 h)
    ]

-- each notify that runs was begun
pub all_begun : (pairs : Session) → IsLawful pairs → AreBegun pairs
all_begun = along AreBegun (λ party d c runs first. absurd (none_some d runs)) begun_step

-- ---- a call that makes an id pending is a notify of it

notify_answered : (c : Notify) (l : List EventAnswer) → (d : Notify) × (answered (a_notify c) l ≡ a_notify d) × (d.id ≡ c.id)
notify_answered c [] = (c, refl, refl)
notify_answered c (a ∷ l) =
    let k = notify_answered c l in
    (record k.0 { stage = (notify_turn k.0 k.0.stage a).1 }, ap (λ (f : EventCall). (turn f a).1) k.1, k.2)

wait_answered : (w : Wait) (l : List EventAnswer) → (v : Wait) × (answered (a_wait w) l ≡ a_wait v)
wait_answered w [] = (w, refl)
wait_answered w (a ∷ l) =
    let k = wait_answered w l in
    (record k.0 { stage = (wait_turn k.0 k.0.stage a).1 }, ap (λ (f : EventCall). (turn f a).1) k.1)

no_wait : (stage : WaitStage) (b : EventAnswer) (id : ℕ) → MakesPending (wait_owed stage) b id → ⊥
no_wait wait.Drain b id h = elim h [ inl e ↦ cc | inr e ↦ (let f = e.0 in cc) ]
no_wait (wait.Scan k) b id h = elim h [ inl e ↦ cc | inr e ↦ (let f = e.0 in cc) ]
no_wait (wait.Clear i) b id h = elim h [ inl e ↦ cc | inr e ↦ (let f = e.0 in cc) ]
no_wait (wait.Swap k some) b id h = elim h [ inl e ↦ cc | inr e ↦ (let f = e.0 in cc) ]
no_wait wait.Look b id h = elim h [ inl e ↦ cc | inr e ↦ (let f = e.0 in cc) ]
no_wait (wait.Pop n) b id h = elim h [ inl e ↦ cc | inr e ↦ (let f = e.0 in cc) ]
no_wait wait.Finished b id h = elim h [ inl e ↦ cc | inr e ↦ (let f = e.0 in cc) ]

same_set : (i id : ℕ) → access.Set i ≡ access.Set id → i ≡ id
same_set i id e = cc

same_push : (i id : ℕ) → access.Push i ≡ access.Push id → i ≡ id
same_push i id e = cc

notify_makes : (i : ℕ) (stage : NotifyStage) (b : EventAnswer) (id : ℕ) → MakesPending (notify_owed i stage) b id → i ≡ id
notify_makes i notify.Look b id h = elim h [ inl e ↦ absurd cc | inr e ↦ absurd (let f = e.0 in cc) ]
notify_makes i notify.Set b id h = elim h [ inl e ↦ same_set i id e | inr e ↦ absurd (let f = e.0 in cc) ]
notify_makes i notify.Post b id h = elim h [ inl e ↦ absurd cc | inr e ↦ absurd (let f = e.0 in cc) ]
notify_makes i notify.Push b id h = elim h [ inl e ↦ absurd cc | inr e ↦ same_push i id e.0 ]
notify_makes i notify.Finished b id h = elim h [ inl e ↦ absurd cc | inr e ↦ absurd (let f = e.0 in cc) ]

pub first_notify : (f : EventCall) (l : List EventAnswer) (b : EventAnswer) (id : ℕ) → MakesPending (owed (answered f l)) b id → (c : Notify) × (f ≡ a_notify c) × (c.id ≡ id)
first_notify (a_notify c) l b id h =
    let k = notify_answered c l in
    (c, refl, sym k.2 ∙ notify_makes k.0.id k.0.stage b id (subst (λ (f : EventCall). MakesPending (owed f) b id) k.1 h))
first_notify (a_wait w) l b id h =
    let k = wait_answered w l in
    absurd (no_wait k.0.stage b id (subst (λ (f : EventCall). MakesPending (owed f) b id) k.1 h))

-- ---- an event keeps its kind and its name

-- event n stands, of this kind and name
pub record IsEventOf (x : EventSession) (n : ℕ) (k : EventKind) (name : List ℕ) : Type 0 where
  pub standing : StandingEvent
  pub stands : x.stands n ≡ Some standing
  pub kind_is : standing.event.kind ≡ k
  pub name_is : standing.event.name ≡ name

-- another table, in which the event is the same
keeps : (x y : EventSession) (n : ℕ) (k : EventKind) (name : List ℕ) (h : IsEventOf x n k name) (st : StandingEvent) → y.stands n ≡ Some st → IsSameEvent h.standing.event st.event → IsEventOf y n k name
keeps x y n k name h st stands same = record { standing = st; stands = stands; kind_is = same.kind ∙ h.kind_is; name_is = same.name ∙ h.name_is }

changed_keeps : (x y : EventSession) (m n : ℕ) (f : Event → Event) (k : EventKind) (name : List ℕ) → y.stands ≡ change_at x.stands m f → ((e : Event) → IsSameEvent e (f e) ⊎ ((f e).kind ≡ e.kind) × ((f e).name ≡ e.name)) → IsEventOf x n k name → IsEventOf y n k name
changed_keeps x y m n f k name same each h =
    let e : Event = h.standing.event in
    let st : StandingEvent = record h.standing { event = if n == m then f e else e } in
    let there : y.stands n ≡ Some st = ap (λ (s : ℕ → Option StandingEvent). s n) same ∙ ap (λ (o : Option StandingEvent). elim o [ None ↦ None | Some s ↦ Some (record s { event = if n == m then f s.event else s.event }) ]) h.stands in
    let kinds = by (n == m) e in
    record { standing = st; stands = there; kind_is = kinds.0 ∙ h.kind_is; name_is = kinds.1 ∙ h.name_is }
  where
    here : (e : Event) → IsSameEvent e (f e) ⊎ ((f e).kind ≡ e.kind) × ((f e).name ≡ e.name) → ((f e).kind ≡ e.kind) × ((f e).name ≡ e.name)
    here e (inl s) = (s.kind, s.name)
    here e (inr s) = s

    by : (b : Bool) (e : Event) → ((if b then f e else e).kind ≡ e.kind) × ((if b then f e else e).name ≡ e.name)
    by true e = here e (each e)
    by false e = (refl, refl)

-- a step changes what stands by its access
step_keeps : (x : EventSession) (p : List ℕ) (a : EventAccess) (b : EventAnswer) (n : ℕ) (k : EventKind) (name : List ℕ) (o : Option PartyCall) → IsEventOf x n k name → IsEventOf (stepped_on x p a b o) n k name
step_keeps x p a b n k name None h = h
step_keeps x p a b n k name (Some d) h = at (event_of x.stands d.on)
  where
    at : (o : Option Event) → IsEventOf (took_step x p a b d o) n k name
    at None = h
    at (Some e) = changed_keeps x (took_step x p a b d (Some e)) d.on n (λ (f : Event). memory_after f a) k name refl (λ f. inl (after_same f a)) h

other_number : (n count : ℕ) → n ≤ count → eqb n (count + 1) ≡ false
other_number n count low =
    elim (either (eqb n (count + 1))) [
      | inl same ↦ absurd (let e = eqb_true n (count + 1) same in omega arith)
      | inr apart ↦ apart
    ]

line_keeps : (x : EventSession) (l : EventLine) (n : ℕ) (k : EventKind) (name : List ℕ) → n ≤ x.count → IsEventOf x n k name → IsEventOf (next_session x l) n k name
line_keeps x (listen p j text max) n k name low h = record {
  standing = h.standing;
  stands = ap (λ (b : Bool). if b then Some (record { event = new_event j text max; listener = p }) else x.stands n) (other_number n x.count low) ∙ h.stands;
  kind_is = h.kind_is;
  name_is = h.name_is;
}
line_keeps x (begin_on p m c) n k name low h = record { standing = h.standing; stands = h.stands; kind_is = h.kind_is; name_is = h.name_is }
line_keeps x (step_of p a b) n k name low h = step_keeps x p a b n k name (x.doing p) h
line_keeps x (expire_of p) n k name low h = record { standing = h.standing; stands = h.stands; kind_is = h.kind_is; name_is = h.name_is }
line_keeps x (abandon_of p) n k name low h = record {
  standing = gone_with p h.standing;
  stands = ap (λ (o : Option StandingEvent). elim o [ None ↦ None | Some st ↦ Some (gone_with p st) ]) h.stands;
  kind_is = h.kind_is;
  name_is = h.name_is;
}
line_keeps x (release_of m) n k name low h = changed_keeps x (next_session x (release_of m)) m n (λ (e : Event). record e { held = false }) k name refl (λ e. inr (refl, refl)) h
line_keeps x (notifiers_of m j) n k name low h = changed_keeps x (next_session x (notifiers_of m j)) m n (λ (e : Event). record e { notifiers = j }) k name refl (λ e. inr (refl, refl)) h

abbrev IsEventIn : ℕ → EventKind → List ℕ → Session → Type 0
IsEventIn n k name done = IsEventOf (state_met done).events.session n k name

event_step : (n : ℕ) (k : EventKind) (name : List ℕ) (done : Session) (pair : Pair) → IsLawful (done ++ pair ∷ []) → IsEventIn n k name done → IsEventIn n k name (done ++ pair ∷ [])
event_step n k name done pair ok h =
    elim (session_more done pair ok) [
      | inl same ↦ subst (λ (x : EventSession). IsEventOf x n k name) (sym same) h
      | inr more ↦ subst (λ (x : EventSession). IsEventOf x n k name) (sym more.2) (line_keeps (state_met done).events.session more.0 n k name ((last_pair done pair ok).sound.events.numbered n h.standing h.stands) h)
    ]

pub event_kept : (done rest : Session) → IsLawful (done ++ rest) → (n : ℕ) (k : EventKind) (name : List ℕ) → IsEventIn n k name done → IsEventIn n k name (done ++ rest)
event_kept done rest ok n k name h = along_from (IsEventIn n k name) (event_step n k name) rest done ok h
