-- A watcher goes on line by line: what holds of it after each.
use Rattle.std.proofs.Common.{◌≡◌, ℕ, zero, suc, ◌<◌, ◌≤◌, Bool, true, false, eqb, List, [], ◌∷◌, ◌++◌, length, get_or, arith, refl, sym, ap, subst, ◌∙◌, append_assoc, inl, inr, Option, Some, None}
use Rattle.std.specs.Prelude.{◌⊎◌, if◌then◌else◌, nat_lt, slice_get, ⊤}
use Rattle.std.proofs.lemmas.Bool.{eqb-true, eqb-false, false≢true}
use Rattle.std.proofs.lemmas.List.{length-append}
use Rattle.board_event_model.specs.declared.call.WaitMode.TheVariants as mode
use Rattle.board_model.specs.declared.answer.Answer.TheVariants as answer
use Rattle.board_model.specs.declared.answer.Reason.{Reason}
use Rattle.board_model.specs.declared.answer.Reply.TheVariants as reply
use Rattle.board_model.specs.declared.line.Call.TheVariants as call
use Rattle.board_model.specs.declared.line.Line.TheVariants as board_line
use Rattle.board_model.specs.declared.value.ValueType.{ValueType}
use Rattle.board_model.specs.LawfulSession as boards
use Rattle.script_model.specs.declared.line.EventRequest.TheVariants as request
use Rattle.script_model.specs.declared.line.ScriptLine.{ScriptLine}
use Rattle.script_model.specs.declared.line.ScriptLine.TheVariants as line
use Rattle.script_model.specs.declared.reply.EventReply.{EventReply}
use Rattle.script_model.specs.declared.reply.EventReply.TheVariants as event_reply
use Rattle.script_model.specs.ScriptAnswers.{ScriptAnswer, is_refused, of_boards}
use Rattle.script_model.specs.ScriptTurns.{ScriptState}
use Rattle.script_model.specs.ScriptSession.{IsLawful, IsRight, Session}
use Rattle.script_model.specs.LawsOfComposition.{Pair, state_met}
use Rattle.script_model.specs.LawsOfEvents.{TellsIds}
use Rattle.script_model.specs.LawsOfLines.{names}
use Rattle.script_moments.specs.Moments.{Moment, left}
use Rattle.script_moments.specs.Gets.{Ends, Get, GoesOn, IsBegin, Round, ended_get}
use Rattle.script_moments.specs.LawsOfTurns.{StepsOn}
use Rattle.script_moments.specs.Watchers.{AskedId, IsWaitBegin, IsWatcher, OpenTurn, StepsOnEvent, Turn, WaitGoesOn, Waited, getting, idle, turn_begun, waiting}
use Rattle.script_moments.specs.WatcherLines.{watcher_at}
use Rattle.script_moments.proofs.TurnLemmas.{begun_or_refused, pair_is, watchers_step}
use Rattle.script_moments.proofs.WaitLemmas.{events_begun_or_refused, waits_step}
use Rattle.script_moments.proofs.WatcherLineLemmas.{watchers_go_on}
use Rattle.script_exchanges.specs.DrivenParties.{Got, got_by}
use Rattle.script_snapshots.proofs.AliveLemmas.{IsAlive, IsThere, abandon_accepted, begin_alive, others_leave_alive, step_alive}
use Rattle.script_snapshots.proofs.FedLemmas.{met_more}
use Rattle.script_watches.specs.Watchings.{Outcome, Report, Watching, after_get, after_gets, called_by, ended, goes_on, highest_of, ids_by, line_at, moment_of, next_handle, next_line, reports, stepped_get, stepped_wait, taken, taken_on, turn_ended, turn_so}
use Rattle.script_watches.proofs.ReportedLemmas.{IsTold, report_of, told_keeps, told_more, told_none, told_same}
use Rattle.script_watches.proofs.StandingLemmas.{call_leaves, step_leaves}

-- ---- what holds of a watcher

-- a handle that is called for is left, while it gets
abbrev pub HasRoom : Watching → OpenTurn → Type 0
HasRoom x idle = ⊤
HasRoom x (waiting begun steps) = ⊤
HasRoom x (getting w gets get) = length gets < length (called_by x w)

pub record IsSound (fed : Session) (party : List ℕ) (x : Watching) : Type 0 where
  pub since : Session
  pub fed_is : fed ≡ x.before ++ since
  pub watcher : IsWatcher x.before since party x.listener x.handles x.watcher
  pub room : HasRoom x x.watcher.rest
  pub alive : IsAlive fed party
  pub told : (handle : List ℕ) → IsTold x handle

abbrev pub IsOutcome : Session → List ℕ → Outcome → Type 0
IsOutcome fed party (goes_on x) = IsSound fed party x
IsOutcome fed party (reports x r) = IsSound fed party x
IsOutcome fed party ended = ⊤

-- ---- lines of others, and refused abandonments

pub others_sound : (fed : Session) (party : List ℕ) (x : Watching) (pair : Pair) → IsLawful fed → IsRight (state_met fed) pair.0 pair.1 → names party pair.0 ≡ false → IsSound fed party x → IsSound (fed ++ pair ∷ []) party x
others_sound fed party x pair ok right off h = record {
  since = h.since ++ pair ∷ [];
  fed_is = ap (λ (s : Session). s ++ pair ∷ []) h.fed_is ∙ append_assoc x.before h.since (pair ∷ []);
  watcher = watchers_go_on.others x.before h.since party x.listener x.handles x.watcher pair h.watcher (subst (λ (s : Session). IsRight (state_met s) pair.0 pair.1) h.fed_is right) off;
  room = h.room;
  alive = others_leave_alive fed party pair ok right off h.alive;
  told = h.told;
}

-- the abandonment of a watched party isn't refused
pub never_refused : (fed : Session) (party : List ℕ) (x : Watching) (a : ScriptAnswer) → IsRight (state_met fed) (line.Board (board_line.Abandon party)) a → is_refused a ≡ true → IsSound fed party x → ⊥
never_refused fed party x a right refusal h = false≢true (sym (abandon_accepted (state_met fed) party a right h.alive) ∙ refusal)

-- ---- small facts

-- an accepted begin has begun
pub accepted_begin : (a : ScriptAnswer) → (a ≡ of_boards answer.Begun) ⊎ ((why : Reason) × (a ≡ of_boards (answer.Refused why))) → is_refused a ≡ false → a ≡ of_boards answer.Begun
accepted_begin a (inl e) accepts = e
accepted_begin a (inr e) accepts = absurd (false≢true (sym accepts ∙ ap is_refused e.1))

slice_is : (hs : List (List ℕ)) (n : ℕ) → n < length hs → slice_get hs n ≡ Some (get_or hs n [])
slice_is [] n lt = absurd (omega arith)
slice_is (h ∷ hs) zero lt = refl
slice_is (h ∷ hs) (suc n) lt = slice_is hs n (omega arith)

-- the ids that a wait is told
ids_told : (told : EventReply) (ids : List ℕ) (m : Moment) (party : List ℕ) → (k : StepsOnEvent party m (Some told)) → TellsIds true told ids → ids_by m.pair.1 ≡ Some ids
ids_told event_reply.Done ids m party k t = absurd t
ids_told (event_reply.Id id) ids m party k t = absurd (false≢true (sym t.0))
ids_told (event_reply.Ids told) ids m party k t = ap (λ (p : Pair). ids_by p.1) k.is ∙ ap (λ (l : List ℕ). Some l) (sym t.1)
ids_told event_reply.Nothing ids m party k t = ap (λ (p : Pair). ids_by p.1) k.is ∙ ap (λ (l : List ℕ). Some l) (sym t)
ids_told event_reply.AlreadyExists ids m party k t = absurd t
ids_told event_reply.DoesNotExist ids m party k t = absurd t
ids_told (event_reply.NotNotified e) ids m party k t = absurd t

-- the pair of its next line
abbrev pub next_pair : List ℕ → Watching → ScriptAnswer → Pair
next_pair party x a = (next_line party x, a)

module _ (party : List ℕ) (x : Watching) (a : ScriptAnswer) (since : Session) (k : IsWatcher x.before since party x.listener x.handles x.watcher) (right : IsRight (state_met (x.before ++ since)) (next_line party x) a) (alive : IsAlive (x.before ++ since) party) (told : (handle : List ℕ) → IsTold x handle) where
  abbrev Now : Session
  Now = (x.before ++ since) ++ next_pair party x a ∷ []

  abbrev More : Session
  More = since ++ next_pair party x a ∷ []

  abbrev Here : Moment
  Here = moment_of (x.before ++ since) party x a

  abbrev asked : List AskedId
  asked = x.watcher.asked

  abbrev turns : List Turn
  turns = x.watcher.turns

  -- it stands so
  at_rest : (o : OpenTurn) → x.watcher.rest ≡ o → IsWatcher x.before since party x.listener x.handles (watcher_at asked turns o)
  at_rest o e = subst (λ (r : OpenTurn). IsWatcher x.before since party x.listener x.handles (watcher_at asked turns r)) e k

  line_is : (o : OpenTurn) → x.watcher.rest ≡ o → next_line party x ≡ line_at party x o
  line_is o e = ap (line_at party x) e

  right_at : (o : OpenTurn) → x.watcher.rest ≡ o → IsRight (state_met (x.before ++ since)) (line_at party x o) a
  right_at o e = subst (λ (l : ScriptLine). IsRight (state_met (x.before ++ since)) l a) (line_is o e) right

  sound_at : (y : Watching) → y.before ≡ x.before → IsWatcher x.before More party y.listener y.handles y.watcher → HasRoom y y.watcher.rest → IsThere ((left Here).boards.parties party) → ((handle : List ℕ) → IsTold y handle) → IsSound Now party y
  sound_at y e w room there tells = record {
    since = More;
    fed_is = append_assoc x.before since (next_pair party x a ∷ []) ∙ ap (λ (b : Session). b ++ More) (sym e);
    watcher = subst (λ (b : Session). IsWatcher b More party y.listener y.handles y.watcher) (sym e) w;
    room = room;
    alive = subst (λ (t : ScriptState). IsThere (t.boards.parties party)) (sym (met_more (x.before ++ since) (next_pair party x a))) there;
    told = tells;
  }

  -- behind a get, or behind a wait: after the last get the turn has ended
  abbrev AfterGets : Waited → Round → Bool → Watching
  AfterGets w gets b = if b then turn_ended x (record { wait = w; gets = gets }) else turn_so x (getting w gets None)

  module _ (w : Waited) (gets : Round) (le : length gets ≤ length (called_by x w)) (h : IsWatcher x.before More party x.listener x.handles (watcher_at asked turns (getting w gets None))) (there : IsThere ((left Here).boards.parties party)) where
    done : length gets ≡ length (called_by x w) → IsWatcher x.before More party x.listener x.handles (watcher_at asked (turns ++ record { wait = w; gets = gets } ∷ []) idle)
    done e = (watchers_go_on.gets x.before More party x.listener x.handles asked turns w gets).turn h e

    room_left : eqb (length gets) (length (called_by x w)) ≡ false → length gets < length (called_by x w)
    room_left e = let apart = eqb-false (length gets) (length (called_by x w)) e in omega (arith, le, apart)

    gets_sound : ((handle : List ℕ) → IsTold (after_gets x w gets) handle) → IsSound Now party (after_gets x w gets)
    gets_sound tells = at (eqb (length gets) (length (called_by x w))) refl tells
      where
        at : (b : Bool) → eqb (length gets) (length (called_by x w)) ≡ b → ((handle : List ℕ) → IsTold (AfterGets w gets b) handle) → IsSound Now party (AfterGets w gets b)
        at true e t = sound_at (turn_ended x (record { wait = w; gets = gets })) refl (done (eqb-true (length gets) (length (called_by x w)) e)) tt there t
        at false e t = sound_at (turn_so x (getting w gets None)) refl h (room_left e) there t

    -- with this reported
    gets_reported : (reported : List Report) → ((handle : List ℕ) → IsTold (record (after_gets x w gets) { reported = reported }) handle) → IsSound Now party (record (after_gets x w gets) { reported = reported })
    gets_reported reported tells = at (eqb (length gets) (length (called_by x w))) refl tells
      where
        at : (b : Bool) → eqb (length gets) (length (called_by x w)) ≡ b → ((handle : List ℕ) → IsTold (record (AfterGets w gets b) { reported = reported }) handle) → IsSound Now party (record (AfterGets w gets b) { reported = reported })
        at true e t = sound_at (record (turn_ended x (record { wait = w; gets = gets })) { reported = reported }) refl (done (eqb-true (length gets) (length (called_by x w)) e)) tt there t
        at false e t = sound_at (record (turn_so x (getting w gets None)) { reported = reported }) refl h (room_left e) there t

  -- ---- a wait

  begins_wait : x.watcher.rest ≡ idle → is_refused a ≡ false → IsSound Now party (turn_so x (waiting Here []))
  begins_wait e accepts =
      let begun : a ≡ of_boards answer.Begun = accepted_begin a (events_begun_or_refused (state_met (x.before ++ since)) party (request.Wait x.listener true mode.Try) a (right_at idle e)) accepts in
      let b : IsWaitBegin party x.listener Here = pair_is (next_pair party x a) (line.Event party (request.Wait x.listener true mode.Try)) (of_boards answer.Begun) (line_is idle e) begun in
      sound_at (turn_so x (waiting Here [])) refl ((watchers_go_on.waits x.before since party x.listener x.handles asked turns).begins (next_pair party x a) (at_rest idle e) right b) tt
      (subst (λ (s : boards.State). IsThere (s.parties party)) (sym (call_leaves Here party (request.Wait x.listener true mode.Try) (of_boards answer.Begun) b)) alive)
      (λ handle. told_keeps handle x (waiting Here []) (sym (ap turn_begun e)) (told handle))

  steps_wait : (begun : Moment) (steps : List Moment) → x.watcher.rest ≡ waiting begun steps → IsOutcome Now party (stepped_wait x begun steps Here (ids_by a))
  steps_wait begun steps e = by (waits_step x.before since party x.listener x.handles asked turns begun steps (next_pair party x a) (at_rest (waiting begun steps) e) right (line_is (waiting begun steps) e))
    where
      there : (o : Option EventReply) → StepsOnEvent party Here o → IsThere ((left Here).boards.parties party)
      there o s = subst (λ (t : boards.State). IsThere (t.parties party)) (sym (step_leaves Here party s.kind s.name s.access s.answer o s.is right)) alive

      by : WaitGoesOn party Here ⊎ ((told : EventReply) × (ids : List ℕ) × StepsOnEvent party Here (Some told) × TellsIds true told ids) → IsOutcome Now party (stepped_wait x begun steps Here (ids_by a))
      by (inl g) =
          let none : ids_by a ≡ None = ap (λ (p : Pair). ids_by p.1) g.is in
          subst (λ (o : Option (List ℕ)). IsOutcome Now party (stepped_wait x begun steps Here o)) (sym none)
          (sound_at (turn_so x (waiting begun (steps ++ Here ∷ []))) refl ((watchers_go_on.waits x.before since party x.listener x.handles asked turns).goes_on begun steps (next_pair party x a) (at_rest (waiting begun steps) e) right g) tt (there None g)
          (λ handle. told_keeps handle x (waiting begun (steps ++ Here ∷ [])) (sym (ap turn_begun e)) (told handle)))
      by (inr g) =
          let some : ids_by a ≡ Some g.1 = ids_told g.0 g.1 Here party g.2 g.3 in
          let w : Waited = record { begun = begun; steps = steps; ended = Here; ids = g.1 } in
          subst (λ (o : Option (List ℕ)). IsOutcome Now party (stepped_wait x begun steps Here o)) (sym some)
          (gets_sound w [] (omega arith) ((watchers_go_on.waits x.before since party x.listener x.handles asked turns).ends begun steps (next_pair party x a) g.0 g.1 (at_rest (waiting begun steps) e) right g.2 g.3) (there (Some g.0) g.2)
          (λ handle. told_none handle x w (ap turn_begun e) (told handle)))

  -- ---- gets

  begins_get : (w : Waited) (gets : Round) → x.watcher.rest ≡ getting w gets None → length gets < length (called_by x w) → is_refused a ≡ false → IsSound Now party (turn_so x (getting w gets (Some (Here, []))))
  begins_get w gets e room accepts =
      let o : OpenTurn = getting w gets None in
      let begun : a ≡ of_boards answer.Begun = accepted_begin a (begun_or_refused (state_met (x.before ++ since)) party (call.Get (next_handle x w gets) None) a (right_at o e)) accepts in
      let b : IsBegin party (next_handle x w gets) Here = pair_is (next_pair party x a) (line.Board (board_line.Begin party (call.Get (next_handle x w gets) None))) (of_boards answer.Begun) (line_is o e) begun in
      sound_at (turn_so x (getting w gets (Some (Here, [])))) refl
      ((watchers_go_on.gets x.before since party x.listener x.handles asked turns w gets).begins (next_handle x w gets) (next_pair party x a) (at_rest o e) right (slice_is (called_by x w) (length gets) room) b) room
      (begin_alive Here party (next_handle x w gets) b right)
      (λ handle. told_keeps handle x (getting w gets (Some (Here, []))) (sym (ap turn_begun e)) (told handle))

  -- what was got is reported, or not
  report_so : (w : Waited) (gets : Round) (get : Option (Moment × List Moment)) → x.watcher.rest ≡ getting w gets get → length gets < length (called_by x w) → (n : Get)
      → IsWatcher x.before More party x.listener x.handles (watcher_at asked turns (getting w (gets ++ n ∷ []) None)) → IsThere ((left Here).boards.parties party) → IsOutcome Now party (after_get x (after_gets x w (gets ++ n ∷ [])) (report_of x w gets n))
  report_so w gets get e room n h there = at (nat_lt (highest_of x (next_handle x w gets)) n.generation) refl
    where
      le : length (gets ++ n ∷ []) ≤ length (called_by x w)
      le = omega (arith, length-append gets (n ∷ []), room)

      at : (b : Bool) → nat_lt (highest_of x (next_handle x w gets)) n.generation ≡ b
          → IsOutcome Now party (if b then reports (record (after_gets x w (gets ++ n ∷ [])) { reported = x.reported ++ report_of x w gets n ∷ [] }) (report_of x w gets n) else goes_on (after_gets x w (gets ++ n ∷ [])))
      at true f = gets_reported w (gets ++ n ∷ []) le h there (x.reported ++ report_of x w gets n ∷ []) (told_more x w gets get e room n f told)
      at false f = gets_sound w (gets ++ n ∷ []) le h there (told_same x w gets get e room n f told)

  steps_get : (w : Waited) (gets : Round) (get : Moment × List Moment) → x.watcher.rest ≡ getting w gets (Some get) → length gets < length (called_by x w) → IsOutcome Now party (stepped_get x w gets get Here (got_by a))
  steps_get w gets get e room = by (watchers_step x.before since party x.listener x.handles asked turns w gets get.0 get.1 (next_pair party x a) (at_rest (getting w gets (Some get)) e) right (line_is (getting w gets (Some get)) e))
    where
      goes : GoesOn party Here → IsOutcome Now party (stepped_get x w gets get Here None)
      goes g = sound_at (turn_so x (getting w gets (Some (get.0, get.1 ++ Here ∷ [])))) refl
          ((watchers_go_on.gets x.before since party x.listener x.handles asked turns w gets).goes_on get.0 get.1 (next_pair party x a) (at_rest (getting w gets (Some get)) e) right g) room
          (step_alive Here party g.0 None g.1 right alive)
          (λ handle. told_keeps handle x (getting w gets (Some (get.0, get.1 ++ Here ∷ []))) (sym (ap turn_begun e)) (told handle))

      got : (type : ValueType) (words : List ℕ) (g : ℕ) → Ends party Here type words g → IsOutcome Now party (stepped_get x w gets get Here (Some (record { type = type; words = words; generation = g })))
      got type words g s =
          let n : Get = ended_get get.0 get.1 Here type words g in
          report_so w gets (Some get) e room n
          ((watchers_go_on.gets x.before since party x.listener x.handles asked turns w gets).ends get.0 get.1 (next_pair party x a) type words g (at_rest (getting w gets (Some get)) e) right s)
          (step_alive Here party s.0 (Some (reply.Got type words g)) s.1 right alive)

      by : StepsOn party Here → IsOutcome Now party (stepped_get x w gets get Here (got_by a))
      by (inl g) =
          let none : got_by a ≡ None = ap (λ (p : Pair). got_by p.1) g.1 in
          subst (λ (r : Option Got). IsOutcome Now party (stepped_get x w gets get Here r)) (sym none) (goes g)
      by (inr g) =
          let some : got_by a ≡ Some (record { type = g.0; words = g.1; generation = g.2 }) = ap (λ (p : Pair). got_by p.1) g.3.1 in
          subst (λ (r : Option Got). IsOutcome Now party (stepped_get x w gets get Here r)) (sym some) (got g.0 g.1 g.2 g.3)

  -- ---- with the answer

  taken_so : (o : OpenTurn) → x.watcher.rest ≡ o → HasRoom x o → is_refused a ≡ false → IsOutcome Now party (taken_on x o Here a)
  taken_so idle e room accepts = begins_wait e accepts
  taken_so (waiting begun steps) e room accepts = steps_wait begun steps e
  taken_so (getting w gets None) e room accepts = begins_get w gets e room accepts
  taken_so (getting w gets (Some get)) e room accepts = steps_get w gets get e room

  taken_if : (refused : Bool) → is_refused a ≡ refused → HasRoom x x.watcher.rest → IsOutcome Now party (if refused then ended else taken_on x x.watcher.rest Here a)
  taken_if true e room = tt
  taken_if false e room = taken_so x.watcher.rest refl room e

-- what becomes of a sound watcher is sound
pub outcome : (fed : Session) (party : List ℕ) (x : Watching) (a : ScriptAnswer) → IsSound fed party x → IsRight (state_met fed) (next_line party x) a → IsOutcome (fed ++ next_pair party x a ∷ []) party (taken fed party x a)
outcome fed party x a h right =
    let core = taken_if party x a h.since h.watcher (subst (λ (s : Session). IsRight (state_met s) (next_line party x) a) h.fed_is right) (subst (λ (s : Session). IsAlive s party) h.fed_is h.alive) h.told (is_refused a) refl h.room in
    subst (λ (s : Session). IsOutcome (s ++ next_pair party x a ∷ []) party (taken s party x a)) (sym h.fed_is) core
