-- What is kept of a watcher stands for what the definitions say, line by line.
use Rattle.std.proofs.Common.{◌≡◌, ℕ, zero, suc, ◌+◌, ◌<◌, ◌≤◌, Bool, true, false, eqb, List, [], ◌∷◌, ◌++◌, length, length-append, get_or, arith, refl, sym, ap, subst, ◌∙◌, inl, inr, nat_lt, Option, Some, None}
use Rattle.std.specs.Prelude.{if◌then◌else◌, unwrap_or}
use Rattle.std.specs.List.{AllByRecursion}
use Rattle.std.specs.Str.{bytes_eq}
use Rattle.std.proofs.lemmas.Bool.{eqb-true, eqb-false, false≢true}
use Rattle.board_event_model.specs.declared.call.WaitMode.TheVariants as mode
use Rattle.board_model.specs.LineGrammar.{is_name, spell}
use Rattle.board_model.specs.declared.line.Call.TheVariants as call
use Rattle.board_model.specs.declared.line.Line.TheVariants as board_line
use Rattle.script_model.specs.declared.line.EventRequest.TheVariants as request
use Rattle.script_model.specs.declared.line.ScriptLine.TheVariants as line
use Rattle.script_model.specs.ScriptAnswers.{ScriptAnswer, is_refused, script_answer_line, script_answer_text}
use Rattle.script_model.specs.ScriptGrammar.{script_spell}
use Rattle.script_model.specs.ScriptSession.{Session}
use Rattle.script_moments.specs.Moments.{Moment}
use Rattle.script_moments.specs.Gets.{Get, Round, ended_get}
use Rattle.script_moments.specs.Watchers.{AskedId, OpenTurn, Waited, getting, idle, waiting}
use Rattle.script_exchanges.specs.DrivenParties.{Got, got_by}
use Rattle.script_feed.specs.AnswerLooks.{EndsGet, GoesOnGet, HasGot}
use Rattle.script_feed.specs.KeptOf.{kept_of}
use Rattle.script_watches.specs.Watchings.{Report, Watching, after_gets, called_by, ended, goes_on, highest_of, ids_by, last_generation, line_at, moment_of, new_watching, next_handle, next_line, reports, reports_through, stepped_get, stepped_wait, taken, taken_on, turn_ended, turn_so}
use Rattle.script_watches.proofs.ReportedLemmas.{last_more, through_more}
use Rattle.script_watchers.specs.declared.watch.Phase.{Phase}
use Rattle.script_watchers.specs.declared.watch.Phase.TheVariants.{Called, Gets, Idle, Waits}
use Rattle.script_watchers.specs.declared.watch.Progress.{Progress}
use Rattle.script_watchers.specs.declared.watch.Progress.TheVariants.{GoesOn, Refused, Reports}
use Rattle.script_watchers.specs.declared.watch.Watch.{Watch}
use Rattle.script_watchers.specs.Calls.{collected, rows_of}
use Rattle.script_watchers.specs.ToldIds.{told_ids}
use Rattle.script_watchers.specs.Watches.{AreReported, Fits, FitsGet, FitsRest, FollowsReport, IsCalled, IsNoted, IsPhase, IsProgress, Keeps, SaysReport, phase_after}
use Rattle.script_watchers.proofs.CallLemmas.{collected_calls, eq_sym}

-- ---- small facts

pub above : (a b : ℕ) → a < b → nat_lt a b ≡ true
above a b lt = at (nat_lt a b) refl
  where
    at : (c : Bool) → nat_lt a b ≡ c → c ≡ true
    at true e = refl
    at false e = absurd (grind (arith, e, lt))

not_above : (n : ℕ) → nat_lt n n ≡ false
not_above n = at (nat_lt n n) refl
  where
    at : (c : Bool) → nat_lt n n ≡ c → c ≡ false
    at false e = refl
    at true e = absurd (grind (arith, e))

-- ---- what it does next says which turn runs

pub idle_rest : (c : Watch) (x : Watching) (o : OpenTurn) → IsPhase c x o → c.phase ≡ Idle → o ≡ idle
idle_rest c x idle k e = refl
idle_rest c x (waiting begun steps) k e = absurd cc
idle_rest c x (getting w gets None) k e = absurd (let f = k.phase_is in cc)
idle_rest c x (getting w gets (Some get)) k e = absurd (let f = k.phase_is in cc)

pub record IsWaitingAt (o : OpenTurn) : Type 0 where
  pub begun : Moment
  pub steps : List Moment
  pub is : o ≡ waiting begun steps

pub waits_rest : (c : Watch) (x : Watching) (o : OpenTurn) → IsPhase c x o → c.phase ≡ Waits → IsWaitingAt o
waits_rest c x idle k e = absurd cc
waits_rest c x (waiting begun steps) k e = record { begun = begun; steps = steps; is = refl }
waits_rest c x (getting w gets None) k e = absurd (let f = k.phase_is in cc)
waits_rest c x (getting w gets (Some get)) k e = absurd (let f = k.phase_is in cc)

pub record IsCalledAt (c : Watch) (x : Watching) (o : OpenTurn) : Type 0 where
  pub wait : Waited
  pub gets : Round
  pub is : o ≡ getting wait gets None
  pub called : IsCalled c x wait gets Called

pub called_rest : (c : Watch) (x : Watching) (o : OpenTurn) → IsPhase c x o → c.phase ≡ Called → IsCalledAt c x o
called_rest c x idle k e = absurd cc
called_rest c x (waiting begun steps) k e = absurd cc
called_rest c x (getting w gets None) k e = record { wait = w; gets = gets; is = refl; called = k }
called_rest c x (getting w gets (Some get)) k e = absurd (let f = k.phase_is in cc)

pub record IsGettingAt (c : Watch) (x : Watching) (o : OpenTurn) : Type 0 where
  pub wait : Waited
  pub gets : Round
  pub get : Moment × List Moment
  pub is : o ≡ getting wait gets (Some get)
  pub called : IsCalled c x wait gets Gets

pub gets_rest : (c : Watch) (x : Watching) (o : OpenTurn) → IsPhase c x o → c.phase ≡ Gets → IsGettingAt c x o
gets_rest c x idle k e = absurd cc
gets_rest c x (waiting begun steps) k e = absurd cc
gets_rest c x (getting w gets None) k e = absurd (let f = k.phase_is in cc)
gets_rest c x (getting w gets (Some get)) k e = record { wait = w; gets = gets; get = get; is = refl; called = k }

-- ---- a new watcher

pub new_keeps : (c : Watch) (listener : List ℕ) (handles : List (List ℕ)) (before : Session) (asked : List AskedId) → is_name listener ≡ true → AllByRecursion (λ n. is_name n ≡ true) handles → c.listener ≡ listener → c.rows.items ≡ rows_of handles asked → c.phase ≡ Idle → ((h : List ℕ) → kept_of c.reported h ≡ None) → Keeps c (new_watching listener handles before asked)
new_keeps c listener handles before asked named all l r p none = record {
  listener = l;
  rows = r;
  named = named;
  handles = all;
  phase = p;
  reported = λ h. ap (λ (o : Option ℕ). unwrap_or o 0) (none h);
}

-- ---- the next line

module _ (c : Watch) (x : Watching) (party bytes : List ℕ) (k : Keeps c x) where
  line_so : (o : OpenTurn) → x.watcher.rest ≡ o → script_spell (line_at party x o) ≡ script_spell (next_line party x)
  line_so o e = ap (λ (r : OpenTurn). script_spell (line_at party x r)) (sym e)

  pub idle_line : c.phase ≡ Idle → bytes ≡ script_spell (line.Event party (request.Wait c.listener true mode.Try)) → bytes ≡ script_spell (next_line party x)
  idle_line p e = e ∙ ap (λ (l : List ℕ). script_spell (line.Event party (request.Wait l true mode.Try))) k.listener ∙ line_so idle (idle_rest c x x.watcher.rest k.phase p)

  pub waits_line : c.phase ≡ Waits → bytes ≡ spell (board_line.Step party) → bytes ≡ script_spell (next_line party x)
  waits_line p e = let r = waits_rest c x x.watcher.rest k.phase p in e ∙ line_so (waiting r.begun r.steps) r.is

  pub gets_line : c.phase ≡ Gets → bytes ≡ spell (board_line.Step party) → bytes ≡ script_spell (next_line party x)
  gets_line p e = let r = gets_rest c x x.watcher.rest k.phase p in e ∙ line_so (getting r.wait r.gets (Some r.get)) r.is

  get_any : (hs : List (List ℕ)) (n : ℕ) (d e : List ℕ) → n < length hs → get_or hs n d ≡ get_or hs n e
  get_any [] n d e lt = absurd (omega arith)
  get_any (h ∷ hs) zero d e lt = refl
  get_any (h ∷ hs) (suc n) d e lt = get_any hs n d e (omega arith)

  -- the handle at the place of the next get
  pub handle_is : (w : Waited) (gets : Round) (phase : Phase) (handle : List ℕ) → IsCalled c x w gets phase → c.got < length c.calls.items → handle ≡ get_or c.calls.items c.got handle → handle ≡ next_handle x w gets
  handle_is w gets phase handle i lt at = at ∙ get_any c.calls.items c.got handle [] lt ∙ ap (λ (n : ℕ). get_or c.calls.items n []) i.got ∙ ap (λ (hs : List (List ℕ)). get_or hs (length gets) []) i.calls

  pub called_line : (handle : List ℕ) → c.phase ≡ Called → c.got < length c.calls.items → handle ≡ get_or c.calls.items c.got handle → bytes ≡ spell (board_line.Begin party (call.Get handle None)) → bytes ≡ script_spell (next_line party x)
  called_line handle p lt at e =
      let r = called_rest c x x.watcher.rest k.phase p in
      e ∙ ap (λ (h : List ℕ). spell (board_line.Begin party (call.Get h None))) (handle_is r.wait r.gets Called handle r.called lt at) ∙ line_so (getting r.wait r.gets None) r.is

-- ---- what is kept on

-- of a turn that runs
pub keeps_so : (old new : Watch) (x : Watching) (o : OpenTurn) → Keeps old x → new.listener ≡ old.listener → new.rows.items ≡ old.rows.items → new.reported ≡ old.reported → IsPhase new (turn_so x o) o → Keeps new (turn_so x o)
keeps_so old new x o k l r reported p = record {
  listener = l ∙ k.listener;
  rows = r ∙ k.rows;
  named = k.named;
  handles = k.handles;
  phase = p;
  reported = λ h. ap (λ m. unwrap_or (kept_of m h) 0) reported ∙ k.reported h;
}

-- behind a wait or a get
module _ (old new : Watch) (x : Watching) (w : Waited) (gets : Round) (k : Keeps old x) (l : new.listener ≡ old.listener) (r : new.rows.items ≡ old.rows.items) (calls : new.calls.items ≡ called_by x w) (got : new.got ≡ length gets) (le : length gets ≤ length (called_by x w)) (phase : new.phase ≡ phase_after (length gets) (length (called_by x w))) where
  abbrev After : Bool → Watching
  After b = if b then turn_ended x (record { wait = w; gets = gets }) else turn_so x (getting w gets None)

  phase_is : (b : Bool) → eqb (length gets) (length (called_by x w)) ≡ b → new.phase ≡ (if b then Idle else Called)
  phase_is true e =
      let same : length gets ≡ length (called_by x w) = eqb-true (length gets) (length (called_by x w)) e in
      phase ∙ ap (λ (b : Bool). if b then Called else Idle) (ap (λ (n : ℕ). nat_lt n (length (called_by x w))) same ∙ not_above (length (called_by x w)))
  phase_is false e =
      let apart = eqb-false (length gets) (length (called_by x w)) e in
      phase ∙ ap (λ (b : Bool). if b then Called else Idle) (above (length gets) (length (called_by x w)) (omega (arith, le, apart)))

  pub after_keeps : AreReported new x → Keeps new (after_gets x w gets)
  after_keeps reported = at (eqb (length gets) (length (called_by x w))) (phase_is (eqb (length gets) (length (called_by x w))) refl)
    where
      at : (b : Bool) → new.phase ≡ (if b then Idle else Called) → Keeps new (After b)
      at true p = record { listener = l ∙ k.listener; rows = r ∙ k.rows; named = k.named; handles = k.handles; phase = p; reported = reported }
      at false p = record { listener = l ∙ k.listener; rows = r ∙ k.rows; named = k.named; handles = k.handles; phase = record { phase_is = p; calls = calls; got = got }; reported = reported }

  pub after_reports : (rs : List Report) → AreReported new (record x { reported = rs }) → Keeps new (record (after_gets x w gets) { reported = rs })
  after_reports rs reported = at (eqb (length gets) (length (called_by x w))) (phase_is (eqb (length gets) (length (called_by x w))) refl)
    where
      at : (b : Bool) → new.phase ≡ (if b then Idle else Called) → Keeps new (record (After b) { reported = rs })
      at true p = record { listener = l ∙ k.listener; rows = r ∙ k.rows; named = k.named; handles = k.handles; phase = p; reported = reported }
      at false p = record { listener = l ∙ k.listener; rows = r ∙ k.rows; named = k.named; handles = k.handles; phase = record { phase_is = p; calls = calls; got = got }; reported = reported }

  -- what was got is reported, or not
  pub noted_progress : (p : Progress) (q : Report) (b : Bool) → IsNoted new p x q b → IsProgress new p (if b then reports (record (after_gets x w gets) { reported = x.reported ++ q ∷ [] }) q else goes_on (after_gets x w gets))
  noted_progress GoesOn q false n = after_keeps n
  noted_progress GoesOn q true n = absurd n
  noted_progress Reports q true n = (after_reports (x.reported ++ q ∷ []) n.0, n.1)
  noted_progress Reports q false n = absurd n
  noted_progress Refused q b n = absurd n

-- ---- a report

-- it is none
pub not_noted : (c : Watch) (x : Watching) (q : Report) → AreReported c x → nat_lt (highest_of x q.handle) q.got.generation ≡ false → IsNoted c GoesOn x q (nat_lt (highest_of x q.handle) q.got.generation)
not_noted c x q reported e = subst (IsNoted c GoesOn x q) (sym e) reported

pub is_noted : (old new : Watch) (x : Watching) (q : Report) → AreReported old x → ((h : List ℕ) → kept_of new.reported h ≡ (if bytes_eq h q.handle then Some q.got.generation else kept_of old.reported h)) → SaysReport new q → nat_lt (highest_of x q.handle) q.got.generation ≡ true
    → IsNoted new Reports x q (nat_lt (highest_of x q.handle) q.got.generation)
is_noted old new x q reported kept says e = subst (IsNoted new Reports x q) (sym e) (now, says)
  where
    at : (h : List ℕ) (b : Bool) → bytes_eq h q.handle ≡ b → unwrap_or (if b then Some q.got.generation else kept_of old.reported h) 0 ≡ last_generation 0 (if b then reports_through h x.reported ++ q.got ∷ [] else reports_through h x.reported)
    at h true f = sym (last_more 0 (reports_through h x.reported) q.got)
    at h false f = reported h

    now : AreReported new (record x { reported = x.reported ++ q ∷ [] })
    now h =
        ap (λ (o : Option ℕ). unwrap_or o 0) (kept h) ∙ at h (bytes_eq h q.handle) refl
        ∙ ap (λ (b : Bool). last_generation 0 (if b then reports_through h x.reported ++ q.got ∷ [] else reports_through h x.reported)) (eq_sym h q.handle)
        ∙ sym (ap (last_generation 0) (through_more h x.reported q))

-- ---- a wait that ends

pub waited_so : (old new : Watch) (x : Watching) (begun : Moment) (steps : List Moment) (m : Moment) (a : ScriptAnswer) (ids : List ℕ) → Keeps old x → ids_by a ≡ Some ids → new.listener ≡ old.listener → new.rows.items ≡ old.rows.items → new.reported ≡ old.reported → new.calls.items ≡ collected ids [] old.rows.items → new.got ≡ 0 → new.phase ≡ phase_after 0 (length new.calls.items)
    → IsProgress new GoesOn (stepped_wait x begun steps m (ids_by a))
waited_so old new x begun steps m a ids k some l r reported calls got phase =
    let w : Waited = record { begun = begun; steps = steps; ended = m; ids = ids } in
    let are : new.calls.items ≡ called_by x w = calls ∙ ap (collected ids []) k.rows ∙ collected_calls ids x.handles x.watcher.asked in
    subst (λ (o : Option (List ℕ)). IsProgress new GoesOn (stepped_wait x begun steps m o)) (sym some)
    (after_keeps old new x w [] k l r are got (omega arith) (phase ∙ ap (λ (l : List (List ℕ)). phase_after 0 (length l)) are) (λ h. ap (λ m. unwrap_or (kept_of m h) 0) reported ∙ k.reported h))

-- ---- a get that ends

pub got_so : (old mid new : Watch) (handle text : List ℕ) (n : ℕ) (p : Progress) (got : Got) → FollowsReport mid new handle text n p → HasGot text n got → old.got < length old.calls.items → handle ≡ get_or old.calls.items old.got handle
    → mid.listener ≡ old.listener → mid.rows ≡ old.rows → mid.calls ≡ old.calls → mid.reported ≡ old.reported → mid.got ≡ old.got + 1 → mid.phase ≡ phase_after mid.got (length mid.calls.items)
    → (x : Watching) (w : Waited) (gets : Round) (get : Moment × List Moment) (m : Moment) → Keeps old x → x.watcher.rest ≡ getting w gets (Some get) → IsProgress new p (stepped_get x w gets get m (Some got))
got_so old mid new handle text n p got h is lt at l r calls reported count phase x w gets get m k e =
    let i : IsCalled old x w gets Gets = subst (IsPhase old x) e k.phase in
    let next : handle ≡ next_handle x w gets = handle_is old x [] [] k w gets Gets handle i lt at in
    let g : Get = ended_get get.0 get.1 m got.type got.words got.generation in
    let are : new.calls.items ≡ called_by x w = ap (λ v. v.items) (h.calls ∙ calls) ∙ i.calls in
    let longer : length (gets ++ g ∷ []) ≡ length gets + 1 = length-append gets (g ∷ []) in
    let counted : new.got ≡ length (gets ++ g ∷ []) = h.got ∙ count ∙ ap (λ (j : ℕ). j + 1) i.got ∙ sym longer in
    let le : length (gets ++ g ∷ []) ≤ length (called_by x w) = omega (arith, longer, lt, i.got, ap (λ (hs : List (List ℕ)). length hs) i.calls) in
    let phased : new.phase ≡ phase_after (length (gets ++ g ∷ [])) (length (called_by x w)) =
    h.phase ∙ phase ∙ ap (λ (j : ℕ). phase_after j (length mid.calls.items)) (sym h.got ∙ counted) ∙ ap (λ (hs : List (List ℕ)). phase_after (length (gets ++ g ∷ [])) (length hs)) (ap (λ v. v.items) calls ∙ i.calls) in
    let noted = h.noted x got is (λ hh. ap (λ v. unwrap_or (kept_of v hh) 0) reported ∙ k.reported hh) in
    let here : IsNoted new p x (record { handle = next_handle x w gets; got = got }) (nat_lt (highest_of x (next_handle x w gets)) got.generation) =
    subst (λ (name : List ℕ). IsNoted new p x (record { handle = name; got = got }) (nat_lt (highest_of x name) got.generation)) next noted in
    noted_progress old new x w (gets ++ g ∷ []) k (h.listener ∙ l) (ap (λ v. v.items) (h.rows ∙ r)) are counted le phased p (record { handle = next_handle x w gets; got = got }) (nat_lt (highest_of x (next_handle x w gets)) got.generation) here

-- ---- with an answer

module _ (old new : Watch) (fed : Session) (party : List ℕ) (x : Watching) (a : ScriptAnswer) (k : Keeps old x) (fits : Fits x a) where
  pub took_refused : is_refused a ≡ true → IsProgress new Refused (taken fed party x a)
  took_refused e = subst (λ (b : Bool). IsProgress new Refused (if b then ended else taken_on x x.watcher.rest (moment_of fed party x a) a)) (sym e) tt

  accepted : (p : Progress) (o : OpenTurn) → is_refused a ≡ false → x.watcher.rest ≡ o → IsProgress new p (taken_on x o (moment_of fed party x a) a) → IsProgress new p (taken fed party x a)
  accepted p o e r h =
      subst (λ (b : Bool). IsProgress new p (if b then ended else taken_on x x.watcher.rest (moment_of fed party x a) a)) (sym e)
      (subst (λ (q : OpenTurn). IsProgress new p (taken_on x q (moment_of fed party x a) a)) (sym r) h)

  fits_at : (o : OpenTurn) → is_refused a ≡ false → x.watcher.rest ≡ o → FitsRest o a
  fits_at o e r = subst (λ (q : OpenTurn). FitsRest q a) r (rest fits)
    where
      rest : Fits x a → FitsRest x.watcher.rest a
      rest (inl f) = absurd (false≢true (sym e ∙ f))
      rest (inr f) = f.1

  pub took_idle : is_refused a ≡ false → old.phase ≡ Idle → new.listener ≡ old.listener → new.rows.items ≡ old.rows.items → new.reported ≡ old.reported → new.phase ≡ Waits → IsProgress new GoesOn (taken fed party x a)
  took_idle e p l r reported q = accepted GoesOn idle e (idle_rest old x x.watcher.rest k.phase p) (keeps_so old new x (waiting (moment_of fed party x a) []) k l r reported q)

  pub took_called : is_refused a ≡ false → old.phase ≡ Called → new.listener ≡ old.listener → new.rows.items ≡ old.rows.items → new.reported ≡ old.reported → new.calls.items ≡ old.calls.items → new.got ≡ old.got → new.phase ≡ Gets → IsProgress new GoesOn (taken fed party x a)
  took_called e p l r reported calls got q =
      let c = called_rest old x x.watcher.rest k.phase p in
      accepted GoesOn (getting c.wait c.gets None) e c.is (keeps_so old new x (getting c.wait c.gets (Some (moment_of fed party x a, []))) k l r reported (record { phase_is = q; calls = calls ∙ c.called.calls; got = got ∙ c.called.got }))

  pub took_waits : is_refused a ≡ false → old.phase ≡ Waits → ((begun : Moment) (steps : List Moment) (m : Moment) → x.watcher.rest ≡ waiting begun steps → told_ids (script_answer_text a) ≡ ids_by a → IsProgress new GoesOn (stepped_wait x begun steps m (ids_by a))) → IsProgress new GoesOn (taken fed party x a)
  took_waits e p h =
      let w = waits_rest old x x.watcher.rest k.phase p in
      accepted GoesOn (waiting w.begun w.steps) e w.is (h w.begun w.steps (moment_of fed party x a) w.is (fits_at (waiting w.begun w.steps) e w.is))

  -- a get goes on
  pub took_goes : is_refused a ≡ false → old.phase ≡ Gets → ((got : Got) → EndsGet (script_answer_line a) got → ⊥) → new ≡ old → IsProgress new GoesOn (taken fed party x a)
  took_goes e p none same =
      let g = gets_rest old x x.watcher.rest k.phase p in
      accepted GoesOn (getting g.wait g.gets (Some g.get)) e g.is (by g (fits_at (getting g.wait g.gets (Some g.get)) e g.is))
    where
      by : (g : IsGettingAt old x x.watcher.rest) → FitsGet a → IsProgress new GoesOn (stepped_get x g.wait g.gets g.get (moment_of fed party x a) (got_by a))
      by g (inl f) =
          subst (λ (o : Option Got). IsProgress new GoesOn (stepped_get x g.wait g.gets g.get (moment_of fed party x a) o)) (sym f.0)
          (subst (λ (c : Watch). Keeps c (turn_so x (getting g.wait g.gets (Some (g.get.0, g.get.1 ++ moment_of fed party x a ∷ []))))) (sym same)
          (keeps_so old old x (getting g.wait g.gets (Some (g.get.0, g.get.1 ++ moment_of fed party x a ∷ []))) k refl refl refl (record { phase_is = p; calls = g.called.calls; got = g.called.got })))
      by g (inr f) = absurd (none f.0 f.2)

  -- it ends
  pub took_got : (p : Progress) (text : List ℕ) (n : ℕ) → is_refused a ≡ false → old.phase ≡ Gets → (GoesOnGet (script_answer_line a) → ⊥) → ((got : Got) → EndsGet (script_answer_line a) got → HasGot text n got)
      → ((got : Got) → HasGot text n got → (y : Watching) (w : Waited) (gets : Round) (get : Moment × List Moment) (m : Moment) → Keeps old y → y.watcher.rest ≡ getting w gets (Some get) → IsProgress new p (stepped_get y w gets get m (Some got))) → IsProgress new p (taken fed party x a)
  took_got p text n e ph some has follows =
      let g = gets_rest old x x.watcher.rest k.phase ph in
      accepted p (getting g.wait g.gets (Some g.get)) e g.is (by g (fits_at (getting g.wait g.gets (Some g.get)) e g.is))
    where
      by : (g : IsGettingAt old x x.watcher.rest) → FitsGet a → IsProgress new p (stepped_get x g.wait g.gets g.get (moment_of fed party x a) (got_by a))
      by g (inl f) = absurd (some f.1)
      by g (inr f) = subst (λ (o : Option Got). IsProgress new p (stepped_get x g.wait g.gets g.get (moment_of fed party x a) o)) (sym f.1) (follows f.0 (has f.0 f.2) x g.wait g.gets g.get (moment_of fed party x a) k g.is)
