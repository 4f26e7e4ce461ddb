-- What of a session concerns one event is a run on it.
use Rattle.std.proofs.Common.{◌≡◌, ℕ, zero, suc, ◌+◌, ◌<◌, ◌≤◌, true, false, eqb, refl, sym, ◌∙◌, ap, inl, inr, arith, rules, subst, Some, None, Option, List, [], ◌∷◌, ◌++◌}
use Rattle.std.specs.Prelude.{if◌then◌else◌, ◌==◌, is_some, IsSomeAnd}
use Rattle.std.proofs.lemmas.Bool.{false≢true}
use Rattle.std.specs.Str.{bytes_eq}
use Rattle.std.proofs.lemmas.Slice.Eq.{bytes_eq-Decides}
use Rattle.board_event_model.specs.declared.kind.EventKind.{EventKind}
use Rattle.board_event_model.specs.declared.access.EventAccess.{EventAccess}
use Rattle.board_event_model.specs.declared.access.EventAnswer.{EventAnswer}
use Rattle.board_event_model.specs.EventMemory.{Event, IsRight, after, new_event}
use Rattle.board_event_model.specs.EventCalls.{EventCall, is_last, is_timed, owed, turn, PartyName, RunningCall, TakenAccess, call_of, new_call, went_on}
use Rattle.board_event_model.specs.EventRuns.{EventMove, IsAllowed, IsCallOf, IsReached, IsReachedBy, Moment, abandon, begin, elsewhere, expire, listened, moved, notifiers, put, release_listener, step, stepped}
use Rattle.board_event_model.specs.EventSessions.{EventLine, EventSession, IsEventLine, IsEventSession, MayTake, PartyCall, StandingEvent, abandon_of, begin_on, do_at, doing_on, event_of, expire_of, gone_with, history_on, is_on, listen, moves_at, moves_before, moves_of, moves_on, next_session, notifiers_of, release_of, running_on, session_of, step_of, stepped_on, took_step, view}
use Rattle.board_event_model.specs.LawsOfSessions.{SessionLaw}
use Rattle.board_event_model.proofs.SetLemmas.{either, is_false}
use Rattle.board_event_model.proofs.QuietLemmas.{eqb_true, eqb_self}
use Rattle.board_event_model.proofs.SoundLemmas.{some_same, none_some}

-- two functions that agree are equal
funext : {A B : Type 0} (f g : A → B) → ((x : A) → f x ≡ g x) → f ≡ g
funext f g h = λ i x. h x i

reach_more : (ms : List EventMove) (now : Moment) (m : EventMove) → IsReachedBy ms now → IsAllowed now m → IsReachedBy (m ∷ ms) (moved now m)
reach_more ms now m by ok =
    let w = by.reached in
    record {
      reached = record {
        kind = w.kind;
        name = w.name;
        max = w.max;
        listener = w.listener;
        moves = m ∷ w.moves;
        run = (w.run, subst (λ (x : Moment). IsAllowed x m) w.is ok);
        is = ap (λ (x : Moment). moved x m) w.is;
      };
      moves_are = ap (λ (xs : List EventMove). m ∷ xs) by.moves_are;
    }

-- the same moment, with an equal table of calls
same_now : (ms : List EventMove) (a : Moment) (running : PartyName → Option RunningCall) → ((p : PartyName) → a.running p ≡ running p) → IsReachedBy ms a → IsReachedBy ms (record a { running = running })
same_now ms a running h w = subst (λ (r : PartyName → Option RunningCall). IsReachedBy ms (record a { running = r })) (funext a.running running h) w

-- the moves of so many calls elsewhere
abbrev calls_elsewhere : ℕ → List EventMove
calls_elsewhere zero = []
calls_elsewhere (suc b) = elsewhere ∷ calls_elsewhere b

one_call_more : (b : ℕ) → elsewhere ∷ calls_elsewhere b ≡ calls_elsewhere (b + 1)
one_call_more b = let e : suc b ≡ b + 1 = omega arith in ap calls_elsewhere e

-- a new event, after so many calls elsewhere
after_calls : (k : EventKind) (name : List ℕ) (max : ℕ) (l : PartyName) (b : ℕ) → IsReachedBy (calls_elsewhere b) (record (listened k name max l) { begun = b })
after_calls k name max l zero = record { reached = record { kind = k; name = name; max = max; listener = l; moves = []; run = search rules; is = refl }; moves_are = refl }
after_calls k name max l (suc b) =
    subst (λ (x : ℕ). IsReachedBy (calls_elsewhere (suc b)) (record (listened k name max l) { begun = x })) (omega arith)
    (reach_more (calls_elsewhere b) (record (listened k name max l) { begun = b }) elsewhere (after_calls k name max l b) (search rules))

-- ---- the moves of one line

-- the moves with those of a line more
abbrev moves_more : EventSession → EventLine → (ℕ → List EventMove) → ℕ → List EventMove
moves_more s l ms n = moves_of n s l ++ ms n

-- on an event that stands
here : (s : EventSession) (l : EventLine) (ms : ℕ → List EventMove) (n : ℕ) (st : StandingEvent) (now : Moment) (xs : List EventMove) → s.stands n ≡ Some st → moves_at n s l ≡ xs → IsReachedBy (xs ++ ms n) now → IsReachedBy (moves_more s l ms n) now
here s l ms n st now xs e is w =
    subst (λ (ys : List EventMove). IsReachedBy (ys ++ ms n) now) (sym (ap (λ (o : Option StandingEvent). if is_some o then moves_at n s l else moves_before l) e ∙ is)) w

-- on one that isn't made yet
early_moves : (s : EventSession) (l : EventLine) (ms : ℕ → List EventMove) (n : ℕ) → s.stands n ≡ None → moves_more s l ms n ≡ moves_before l ++ ms n
early_moves s l ms n e = ap (λ (o : Option StandingEvent). (if is_some o then moves_at n s l else moves_before l) ++ ms n) e

-- of a party's call on the event, and on another one
is_here : (n : ℕ) (x : Option PartyCall) (d : PartyCall) (m : EventMove) → x ≡ Some d → eqb d.on n ≡ true → (if is_on n x then m ∷ [] else []) ≡ m ∷ []
is_here n x d m e same = ap (λ (o : Option PartyCall). if is_on n o then m ∷ [] else []) e ∙ rw same refl

is_there : (n : ℕ) (x : Option PartyCall) (d : PartyCall) (m : EventMove) → x ≡ Some d → eqb d.on n ≡ false → (if is_on n x then m ∷ [] else []) ≡ []
is_there n x d m e apart = ap (λ (o : Option PartyCall). if is_on n o then m ∷ [] else []) e ∙ rw apart refl

swap_eqb : (a b : ℕ) → eqb a b ≡ false → eqb b a ≡ false
swap_eqb a b h = elim (either (eqb b a)) [ inl y ↦ absurd (false≢true (sym h ∙ ap (eqb a) (eqb_true b a y) ∙ eqb_self a)) | inr n ↦ n ]

turn_eqb : (a b : ℕ) → eqb a b ≡ true → eqb b a ≡ true
turn_eqb a b h = ap (eqb b) (eqb_true a b h) ∙ eqb_self b

-- ---- what a changed table held before

record Held (stands : ℕ → Option StandingEvent) (m : ℕ) (change : StandingEvent → StandingEvent) (st : StandingEvent) : Type 0 where
  old : StandingEvent
  was : stands m ≡ Some old
  is : st ≡ change old

abbrev changed : ℕ → (Event → Event) → ℕ → StandingEvent → StandingEvent
changed n f m st = record st { event = if m == n then f st.event else st.event }

held_change : (stands : ℕ → Option StandingEvent) (n : ℕ) (f : Event → Event) (m : ℕ) (st : StandingEvent) (x : Option StandingEvent) → stands m ≡ x → elim x [ None ↦ None | Some o ↦ Some (changed n f m o) ] ≡ Some st → Held stands m (changed n f m) st
held_change stands n f m st None e h = absurd (none_some st h)
held_change stands n f m st (Some o) e h = record { old = o; was = e; is = sym (some_same _ st h) }

held_gone : (stands : ℕ → Option StandingEvent) (p : PartyName) (m : ℕ) (st : StandingEvent) (x : Option StandingEvent) → stands m ≡ x → elim x [ None ↦ None | Some o ↦ Some (gone_with p o) ] ≡ Some st → Held stands m (gone_with p) st
held_gone stands p m st None e h = absurd (none_some st h)
held_gone stands p m st (Some o) e h = record { old = o; was = e; is = sym (some_same _ st h) }

-- ---- what every session keeps

record Good (s : EventSession) (ms : ℕ → List EventMove) : Type 0 where
  views : (n : ℕ) (st : StandingEvent) → s.stands n ≡ Some st → IsReachedBy (ms n) (view s n st)
  low : (n : ℕ) (st : StandingEvent) → s.stands n ≡ Some st → n ≤ s.count
  made : (p : PartyName) (d : PartyCall) → s.doing p ≡ Some d → d.on ≤ s.count
  fresh : (n : ℕ) → s.count < n → history_on n s.history ≡ []
  early : (n : ℕ) → s.count < n → ms n ≡ calls_elsewhere s.begun

none_there : (s : EventSession) (ms : ℕ → List EventMove) → Good s ms → (n : ℕ) → s.count < n → s.stands n ≡ None
none_there s ms good n lt = of (s.stands n) refl
  where
    of : (x : Option StandingEvent) → s.stands n ≡ x → x ≡ None
    of None e = refl
    of (Some st) e = absurd (let l = good.low n st e in omega arith)

-- a line that begins no call
early_kept : (s : EventSession) (ms : ℕ → List EventMove) (l : EventLine) → Good s ms → moves_before l ≡ [] → (n : ℕ) → s.count < n → moves_more s l ms n ≡ calls_elsewhere s.begun
early_kept s ms l good quiet n lt = early_moves s l ms n (none_there s ms good n lt) ∙ ap (λ (xs : List EventMove). xs ++ ms n) quiet ∙ good.early n lt

not_on : (s : EventSession) (n : ℕ) (x : Option PartyCall) → ((d : PartyCall) → x ≡ Some d → d.on ≤ s.count) → s.count < n → running_on n x ≡ None
not_on s n None h low = refl
not_on s n (Some d) h low =
    elim (either (eqb d.on n)) [
      | inl same ↦ absurd (let a = h d refl in let b = eqb_true d.on n same in omega arith)
      | inr apart ↦ rw apart refl
    ]

listen_good : (s : EventSession) (ms : ℕ → List EventMove) (p : PartyName) (k : EventKind) (name : List ℕ) (max : ℕ) → Good s ms → Good (next_session s (listen p k name max)) (moves_more s (listen p k name max) ms)
listen_good s ms p k name max good = record {
  views = λ n st h. elim (either (eqb n (s.count + 1))) [
    | inl same ↦ (
        let is : record { event = new_event k name max; listener = p } ≡ st = some_same _ st (rw same at h) in
        let at = eqb_true n (s.count + 1) same in
        let later : s.count < n = omega (arith, at) in
        subst (λ (ys : List EventMove). IsReachedBy ys (view s n st)) (sym (early_kept s ms (listen p k name max) good refl n later)) (
        subst (λ (x : StandingEvent). IsReachedBy (calls_elsewhere s.begun) (view s n x)) is (
        subst (λ (hs : List TakenAccess). IsReachedBy (calls_elsewhere s.begun) (record (view s n (record { event = new_event k name max; listener = p })) { history = hs })) (sym (good.fresh n later))
        (same_now (calls_elsewhere s.begun) (record (listened k name max p) { begun = s.begun }) (λ q. running_on n (s.doing q)) (λ q. sym (not_on s n (s.doing q) (good.made q) later)) (after_calls k name max p s.begun)))))
    | inr apart ↦ here s (listen p k name max) ms n st (view s n st) [] (rw apart at h) refl (good.views n st (rw apart at h))
  ];
  low = λ n st h. elim (either (eqb n (s.count + 1))) [
    | inl same ↦ (let e = eqb_true n (s.count + 1) same in omega arith)
    | inr apart ↦ (let l = good.low n st (rw apart at h) in omega arith)
  ];
  made = λ q d h. let l = good.made q d h in omega arith;
  fresh = λ n l. good.fresh n (omega arith);
  early = λ n l. early_kept s ms (listen p k name max) good refl n (omega arith);
}

-- a party that does nothing here
idle_here : (n : ℕ) (x : Option PartyCall) (d : PartyCall) → x ≡ Some d → eqb d.on n ≡ false → running_on n x ≡ None
idle_here n x d e apart = ap (running_on n) e ∙ rw apart refl

busy_here : (n : ℕ) (x : Option PartyCall) (d : PartyCall) → x ≡ Some d → eqb d.on n ≡ true → running_on n x ≡ Some d.call
busy_here n x d e same = ap (running_on n) e ∙ rw same refl

-- the table of one event's calls after a party's call changed
put_view : (s : EventSession) (n : ℕ) (p : PartyName) (x : Option PartyCall) (y : Option RunningCall) → running_on n x ≡ y → (q : PartyName) → put (λ r. running_on n (s.doing r)) p y q ≡ running_on n (do_at s.doing p x q)
put_view s n p x y e q =
    elim (bytes_eq q p) as (λ b. (if b then y else running_on n (s.doing q)) ≡ running_on n (if b then x else s.doing q)) [ true ↦ sym e | false ↦ refl ]

-- nothing changed here: what the party does now isn't here, nor was what it did
keep_view : (s : EventSession) (n : ℕ) (p : PartyName) (x : Option PartyCall) → running_on n (s.doing p) ≡ None → running_on n x ≡ None → (q : PartyName) → running_on n (s.doing q) ≡ running_on n (do_at s.doing p x q)
keep_view s n p x was is q =
    elim (either (bytes_eq q p)) [
      | inl same ↦ rw same (ap (λ (r : PartyName). running_on n (s.doing r)) ((bytes_eq-Decides q p).0 same) ∙ was ∙ sym is)
      | inr apart ↦ rw apart refl
    ]

some_and : {A : Type 0} (P : A → Type 0) (x : Option A) (y : A) → x ≡ Some y → IsSomeAnd x P → P y
some_and P x y e h = subst (λ (z : Option _). IsSomeAnd z P) e h

-- what is done afterwards was done before, or is the new
do_made : (s : EventSession) (p : PartyName) (x : Option PartyCall) → ((q : PartyName) (d : PartyCall) → s.doing q ≡ Some d → d.on ≤ s.count) → ((d : PartyCall) → x ≡ Some d → d.on ≤ s.count) → (q : PartyName) (d : PartyCall) → do_at s.doing p x q ≡ Some d → d.on ≤ s.count
do_made s p x old new q d =
    elim (bytes_eq q p) as (λ b. (if b then x else s.doing q) ≡ Some d → d.on ≤ s.count) [ true ↦ λ e. new d e | false ↦ λ e. old q d e ]

stands_low : (P : StandingEvent → Type 0) (s : EventSession) (n : ℕ) (x : Option StandingEvent) → s.stands n ≡ x → ((m : ℕ) (st : StandingEvent) → s.stands m ≡ Some st → m ≤ s.count) → IsSomeAnd x P → n ≤ s.count
stands_low P s n None e low h = absurd h
stands_low P s n (Some st) e low h = low n st e

begin_good : (s : EventSession) (ms : ℕ → List EventMove) (p : PartyName) (n : ℕ) (c : EventCall) → Good s ms → IsEventLine s (begin_on p n c) → Good (next_session s (begin_on p n c)) (moves_more s (begin_on p n c) ms)
begin_good s ms p n c good ok = record {
  views = λ m st h. elim (either (eqb n m)) [
    | inl same ↦ (
        let e = eqb_true n m same in
        let call : IsCallOf st.event st.listener p c = some_and (λ (x : StandingEvent). IsCallOf x.event x.listener p c) (s.stands n) st (ap s.stands e ∙ h) ok.1 in
        here s (begin_on p n c) ms m st _ (begin p c ∷ []) h (rw same refl)
        (same_now (begin p c ∷ ms m) (moved (view s m st) (begin p c)) _ (put_view s m p (Some (record { on = n; call = new_call s.begun c })) (Some (new_call s.begun c)) (rw same refl))
        (reach_more (ms m) (view s m st) (begin p c) (good.views m st h) (ap (running_on m) ok.0, call))))
    | inr apart ↦
        here s (begin_on p n c) ms m st _ (elsewhere ∷ []) h (rw apart refl)
        (same_now (elsewhere ∷ ms m) (moved (view s m st) elsewhere) _ (keep_view s m p (Some (record { on = n; call = new_call s.begun c })) (ap (running_on m) ok.0) (rw apart refl))
        (reach_more (ms m) (view s m st) elsewhere (good.views m st h) (search rules)))
  ];
  low = good.low;
  made = λ q d h. do_made s p (Some (record { on = n; call = new_call s.begun c })) good.made (λ d e. subst (λ (x : PartyCall). x.on ≤ s.count) (some_same _ _ e) (stands_low (λ st. IsCallOf st.event st.listener p c) s n (s.stands n) refl good.low ok.1)) q d h;
  fresh = good.fresh;
  early = λ m l. early_moves s (begin_on p n c) ms m (none_there s ms good m l) ∙ ap (λ (xs : List EventMove). elsewhere ∷ xs) (good.early m l) ∙ one_call_more s.begun;
}

other_event : (m n : ℕ) (f : Event → Event) (o : StandingEvent) → eqb m n ≡ false → changed n f m o ≡ o
other_event m n f o apart = rw apart refl

that_event : (m n : ℕ) (f : Event → Event) (o : StandingEvent) → eqb m n ≡ true → changed n f m o ≡ record o { event = f o.event }
that_event m n f o same = rw same refl

-- an expire, where it is and elsewhere
end_good : (s : EventSession) (ms : ℕ → List EventMove) (p : PartyName) (d : PartyCall) → s.doing p ≡ Some d → (is_timed (call_of d.call) ≡ true) × (d.call.waited ≡ true) → Good s ms → Good (next_session s (expire_of p)) (moves_more s (expire_of p) ms)
end_good s ms p d e ok good = record {
  views = λ m st h. elim (either (eqb d.on m)) [
    | inl same ↦
        here s (expire_of p) ms m st _ (expire p ∷ []) h (is_here m (s.doing p) d (expire p) e same)
        (same_now (expire p ∷ ms m) (moved (view s m st) (expire p)) _ (put_view s m p None None refl)
        (reach_more (ms m) (view s m st) (expire p) (good.views m st h) (subst (λ (x : Option RunningCall). IsSomeAnd x (λ r. (is_timed (call_of r) ≡ true) × (r.waited ≡ true))) (sym (busy_here m (s.doing p) d e same)) ok)))
    | inr apart ↦
        here s (expire_of p) ms m st _ [] h (is_there m (s.doing p) d (expire p) e apart)
        (same_now (ms m) (view s m st) _ (keep_view s m p None (idle_here m (s.doing p) d e apart) refl) (good.views m st h))
  ];
  low = good.low;
  made = λ q x h. do_made s p None good.made (λ y n. absurd (none_some _ n)) q x h;
  fresh = good.fresh;
  early = early_kept s ms (expire_of p) good refl;
}

some_end : (s : EventSession) (ms : ℕ → List EventMove) (p : PartyName) (x : Option PartyCall) → s.doing p ≡ x → IsSomeAnd x (λ d. (is_timed (call_of d.call) ≡ true) × (d.call.waited ≡ true)) → Good s ms → Good (next_session s (expire_of p)) (moves_more s (expire_of p) ms)
some_end s ms p None e h good = absurd h
some_end s ms p (Some d) e h good = end_good s ms p d e h good

abandon_good : (s : EventSession) (ms : ℕ → List EventMove) (p : PartyName) → Good s ms → Good (next_session s (abandon_of p)) (moves_more s (abandon_of p) ms)
abandon_good s ms p good = record {
  views = λ m st h. (
      let o = held_gone s.stands p m st (s.stands m) refl h in
      here s (abandon_of p) ms m o.old _ (abandon p ∷ []) o.was refl (
      subst (λ (x : StandingEvent). IsReachedBy (abandon p ∷ ms m) (view (next_session s (abandon_of p)) m x)) (sym o.is)
      (same_now (abandon p ∷ ms m) (moved (view s m o.old) (abandon p)) _ (put_view s m p None None refl)
      (reach_more (ms m) (view s m o.old) (abandon p) (good.views m o.old o.was) (search rules)))));
  low = λ m st h. (let o = held_gone s.stands p m st (s.stands m) refl h in good.low m o.old o.was);
  made = λ q x h. do_made s p None good.made (λ y n. absurd (none_some _ n)) q x h;
  fresh = good.fresh;
  early = early_kept s ms (abandon_of p) good refl;
}

release_good : (s : EventSession) (ms : ℕ → List EventMove) (n : ℕ) → IsEventLine s (release_of n) → Good s ms → Good (next_session s (release_of n)) (moves_more s (release_of n) ms)
release_good s ms n ok good = record {
  views = λ m st h. (
      let o = held_change s.stands n (λ e. record e { held = false }) m st (s.stands m) refl h in
      subst (λ (x : StandingEvent). IsReachedBy (moves_more s (release_of n) ms m) (view (next_session s (release_of n)) m x)) (sym o.is) (elim (either (eqb m n)) [
        | inl same ↦ (
            let at = eqb_true m n same in
            let free : s.doing o.old.listener ≡ None = some_and (λ (x : StandingEvent). s.doing x.listener ≡ None) (s.stands n) o.old (ap s.stands (sym at) ∙ o.was) ok in
            here s (release_of n) ms m o.old _ (release_listener ∷ []) o.was (rw (turn_eqb m n same) refl) (
            subst (λ (x : StandingEvent). IsReachedBy (release_listener ∷ ms m) (view s m x)) (sym (that_event m n (λ e. record e { held = false }) o.old same))
            (reach_more (ms m) (view s m o.old) release_listener (good.views m o.old o.was) (ap (running_on m) free))))
        | inr apart ↦
            here s (release_of n) ms m o.old _ [] o.was (rw (swap_eqb m n apart) refl)
            (subst (λ (x : StandingEvent). IsReachedBy (ms m) (view s m x)) (sym (other_event m n (λ e. record e { held = false }) o.old apart)) (good.views m o.old o.was))
      ]));
  low = λ m st h. (let o = held_change s.stands n (λ e. record e { held = false }) m st (s.stands m) refl h in good.low m o.old o.was);
  made = good.made;
  fresh = good.fresh;
  early = early_kept s ms (release_of n) good refl;
}

notifiers_good : (s : EventSession) (ms : ℕ → List EventMove) (n k : ℕ) → Good s ms → Good (next_session s (notifiers_of n k)) (moves_more s (notifiers_of n k) ms)
notifiers_good s ms n k good = record {
  views = λ m st h. (
      let o = held_change s.stands n (λ e. record e { notifiers = k }) m st (s.stands m) refl h in
      subst (λ (x : StandingEvent). IsReachedBy (moves_more s (notifiers_of n k) ms m) (view (next_session s (notifiers_of n k)) m x)) (sym o.is) (elim (either (eqb m n)) [
        | inl same ↦
            here s (notifiers_of n k) ms m o.old _ (notifiers k ∷ []) o.was (rw (turn_eqb m n same) refl) (
            subst (λ (x : StandingEvent). IsReachedBy (notifiers k ∷ ms m) (view s m x)) (sym (that_event m n (λ e. record e { notifiers = k }) o.old same))
            (reach_more (ms m) (view s m o.old) (notifiers k) (good.views m o.old o.was) (search rules)))
        | inr apart ↦
            here s (notifiers_of n k) ms m o.old _ [] o.was (rw (swap_eqb m n apart) refl)
            (subst (λ (x : StandingEvent). IsReachedBy (ms m) (view s m x)) (sym (other_event m n (λ e. record e { notifiers = k }) o.old apart)) (good.views m o.old o.was))
      ]));
  low = λ m st h. (let o = held_change s.stands n (λ e. record e { notifiers = k }) m st (s.stands m) refl h in good.low m o.old o.was);
  made = good.made;
  fresh = good.fresh;
  early = early_kept s ms (notifiers_of n k) good refl;
}

-- ---- a step

stepped_some : (now : Moment) (p : PartyName) (a : EventAccess) (b : EventAnswer) (r : RunningCall) → now.running p ≡ Some r → moved now (step p a b) ≡ stepped now p a b (Some r)
stepped_some now p a b r e = ap (stepped now p a b) e

on_none : (n m : ℕ) (x : Option RunningCall) → eqb n m ≡ false → running_on m (doing_on n x) ≡ None
on_none n m None apart = refl
on_none n m (Some r) apart = rw apart refl

on_same : (n m : ℕ) (x : Option RunningCall) → eqb n m ≡ true → running_on m (doing_on n x) ≡ x
on_same n m None same = refl
on_same n m (Some r) same = rw same refl

doing_low : (s : EventSession) (n : ℕ) (x : Option RunningCall) (d : PartyCall) → n ≤ s.count → doing_on n x ≡ Some d → d.on ≤ s.count
doing_low s n None d low h = absurd (none_some _ h)
doing_low s n (Some r) d low h = subst (λ (x : PartyCall). x.on ≤ s.count) (some_same _ d h) low

-- the view after a step here
abbrev view_after : EventSession → PartyName → EventAccess → EventAnswer → PartyCall → StandingEvent → ℕ → StandingEvent → Moment
view_after s p a b d on m st = record {
  event = after st.event a;
  listener = st.listener;
  running = λ q. running_on m (do_at s.doing p (doing_on d.on (went_on d.call on.event a b)) q);
  begun = s.begun;
  history = record { call = d.call.number; access = a; last = is_last (turn (call_of d.call) b).0 } ∷ history_on m s.history;
}

step_there : (s : EventSession) (ms : List EventMove) (p : PartyName) (a : EventAccess) (b : EventAnswer) (d : PartyCall) (on : StandingEvent) (m : ℕ) (st : StandingEvent) → eqb d.on m ≡ false → s.doing p ≡ Some d → IsReachedBy ms (view s m st) → IsReachedBy ms (view (took_step s p a b d (Some on.event)) m (changed d.on (λ x. after x a) m st))
step_there s ms p a b d on m st apart e w =
    subst (λ (x : StandingEvent). IsReachedBy ms (view (took_step s p a b d (Some on.event)) m x)) (sym (other_event m d.on (λ x. after x a) st (swap_eqb d.on m apart)))
    (rw apart (same_now ms (view s m st) _ (keep_view s m p (doing_on d.on (went_on d.call on.event a b)) (idle_here m (s.doing p) d e apart) (on_none d.on m _ apart)) w))

step_here : (s : EventSession) (ms : List EventMove) (p : PartyName) (a : EventAccess) (b : EventAnswer) (d : PartyCall) (on : StandingEvent) (m : ℕ) (st : StandingEvent) → on ≡ st → d.on ≡ m → running_on m (s.doing p) ≡ Some d.call → (a ≡ owed (call_of d.call)) × IsRight on.event a b → IsReachedBy ms (view s m st) → IsReachedBy (step p a b ∷ ms) (view (took_step s p a b d (Some on.event)) m (changed d.on (λ x. after x a) m st))
step_here s ms p a b d on m st that at runs ok w =
    let same : eqb d.on m ≡ true = ap (eqb d.on) (sym at) ∙ eqb_self d.on in
    let back : eqb m d.on ≡ true = ap (eqb m) at ∙ eqb_self m in
    let may : IsAllowed (view s m st) (step p a b) = subst (λ (x : Option RunningCall). IsSomeAnd x (λ r. (a ≡ owed (call_of r)) × IsRight st.event a b)) (sym runs) (subst (λ (x : StandingEvent). (a ≡ owed (call_of d.call)) × IsRight x.event a b) that ok) in
    let reached = subst (IsReachedBy (step p a b ∷ ms)) (stepped_some (view s m st) p a b d.call runs) (reach_more ms (view s m st) (step p a b) w may) in
    subst (λ (x : StandingEvent). IsReachedBy (step p a b ∷ ms) (view (took_step s p a b d (Some on.event)) m x)) (sym (that_event m d.on (λ x. after x a) st back))
    (rw same (subst (λ (z : StandingEvent). IsReachedBy (step p a b ∷ ms) (view_after s p a b d z m st)) (sym that) (same_now (step p a b ∷ ms) (stepped (view s m st) p a b (Some d.call)) _ (put_view s m p (doing_on d.on (went_on d.call st.event a b)) (went_on d.call st.event a b) (on_same d.on m _ same)) reached)))

step_good : (s : EventSession) (ms : ℕ → List EventMove) (p : PartyName) (a : EventAccess) (b : EventAnswer) (d : PartyCall) (on : StandingEvent) → s.doing p ≡ Some d → s.stands d.on ≡ Some on → (a ≡ owed (call_of d.call)) × IsRight on.event a b → Good s ms → Good (took_step s p a b d (Some on.event)) (moves_more s (step_of p a b) ms)
step_good s ms p a b d on e found ok good = record {
  views = λ m st h. (
      let o = held_change s.stands d.on (λ x. after x a) m st (s.stands m) refl h in
      subst (λ (x : StandingEvent). IsReachedBy (moves_more s (step_of p a b) ms m) (view (took_step s p a b d (Some on.event)) m x)) (sym o.is) (elim (either (eqb d.on m)) [
        | inl same ↦ (
            let at = eqb_true d.on m same in
            let that : on ≡ o.old = some_same _ _ (sym found ∙ ap s.stands at ∙ o.was) in
            let runs = busy_here m (s.doing p) d e same in
            here s (step_of p a b) ms m o.old _ (step p a b ∷ []) o.was (is_here m (s.doing p) d (step p a b) e same)
            (step_here s (ms m) p a b d on m o.old that at runs ok (good.views m o.old o.was)))
        | inr apart ↦
            here s (step_of p a b) ms m o.old _ [] o.was (is_there m (s.doing p) d (step p a b) e apart)
            (step_there s (ms m) p a b d on m o.old apart e (good.views m o.old o.was))
      ]));
  low = λ m st h. (let o = held_change s.stands d.on (λ x. after x a) m st (s.stands m) refl h in good.low m o.old o.was);
  made = λ q x h. do_made s p (doing_on d.on (went_on d.call on.event a b)) good.made (λ y g. doing_low s d.on _ y (good.made p d e) g) q x h;
  fresh = λ n l. (
      let apart : eqb d.on n ≡ false = is_false _ (λ f. let g = eqb_true d.on n f in let k = good.made p d e in omega arith) in
      rw apart (good.fresh n l));
  early = early_kept s ms (step_of p a b) good refl;
}

found_step : (s : EventSession) (ms : ℕ → List EventMove) (p : PartyName) (a : EventAccess) (b : EventAnswer) (d : PartyCall) → s.doing p ≡ Some d → Good s ms → (x : Option StandingEvent) → s.stands d.on ≡ x → IsSomeAnd x (λ st. (a ≡ owed (call_of d.call)) × IsRight st.event a b) → Good (took_step s p a b d (event_of s.stands d.on)) (moves_more s (step_of p a b) ms)
found_step s ms p a b d e good None found h = absurd h
found_step s ms p a b d e good (Some on) found h =
    subst (λ (x : Option Event). Good (took_step s p a b d x) (moves_more s (step_of p a b) ms)) (sym (ap (λ (x : Option StandingEvent). elim x [ None ↦ None | Some st ↦ Some st.event ]) found)) (step_good s ms p a b d on e found h good)

some_good : (s : EventSession) (ms : ℕ → List EventMove) (p : PartyName) (a : EventAccess) (b : EventAnswer) → Good s ms → (x : Option PartyCall) → s.doing p ≡ x → IsSomeAnd x (MayTake s a b) → Good (stepped_on s p a b x) (moves_more s (step_of p a b) ms)
some_good s ms p a b good None e h = absurd h
some_good s ms p a b good (Some d) e h = found_step s ms p a b d e good (s.stands d.on) refl h

line_good : (s : EventSession) (ms : ℕ → List EventMove) (l : EventLine) → Good s ms → IsEventLine s l → Good (next_session s l) (moves_more s l ms)
line_good s ms (listen p k name max) good ok = listen_good s ms p k name max good
line_good s ms (begin_on p n c) good ok = begin_good s ms p n c good ok
line_good s ms (step_of p a b) good ok = some_good s ms p a b good (s.doing p) refl ok
line_good s ms (expire_of p) good ok = some_end s ms p (s.doing p) refl ok good
line_good s ms (abandon_of p) good ok = abandon_good s ms p good
line_good s ms (release_of n) good ok = release_good s ms n ok good
line_good s ms (notifiers_of n k) good ok = notifiers_good s ms n k good

session_good : (ls : List EventLine) → IsEventSession ls → Good (session_of ls) (λ n. moves_on n ls)
session_good [] ok = record {
  views = λ n st h. absurd (none_some _ h);
  low = λ n st h. absurd (none_some _ h);
  made = λ p d h. absurd (none_some _ h);
  fresh = λ n l. refl;
  early = λ n l. refl;
}
session_good (l ∷ ls) ok = line_good (session_of ls) (λ n. moves_on n ls) l (session_good ls ok.0) ok.1

pub session_law_holds : SessionLaw
session_law_holds lines ok = (session_good lines ok).views

-- some run leads to what a session has of an event
pub session_reached : (lines : List EventLine) → IsEventSession lines → (n : ℕ) (st : StandingEvent) → (session_of lines).stands n ≡ Some st → IsReached (view (session_of lines) n st)
session_reached lines ok n st e = (session_law_holds lines ok n st e).reached
