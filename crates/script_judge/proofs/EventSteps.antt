-- Calls on events: what is asked for, what goes, and steps.
use Rattle.std.proofs.Common.{◌≡◌, ℕ, Bool, true, false, List, [], ◌++◌, refl, sym, ap, subst, ◌∙◌, Option, Some, None, ◌⊎◌, inl, inr, arith}
use Rattle.std.specs.Prelude.{◌&&◌, ◌||◌, if◌then◌else◌, is_some, IsSomeAnd, option_map}
use Rattle.std.specs.Str.{bytes_eq}
use Rattle.board_event_model.specs.declared.access.EventAccess.{EventAccess}
use Rattle.board_event_model.specs.declared.access.EventAnswer.{EventAnswer}
use Rattle.board_event_model.specs.declared.kind.EventKind.{EventKind}
use Rattle.board_event_model.specs.EventCalls as calls
use Rattle.board_event_model.specs.EventCalls.{RunningCall, call_of, new_call, owed, turn, went_on}
use Rattle.board_event_model.specs.EventMemory.{CanPerform, Event, IsRight, without_listener, without_notifier}
use Rattle.board_event_model.specs.EventMemory as memory
use Rattle.board_event_model.specs.EventSessions.{EventSession, PartyCall, StandingEvent, change_at, doing_on, event_of, next_session, step_of, stepped_on, took_step}
use Rattle.board_model.specs.declared.answer.Reason.{Reason}
use Rattle.board_model.specs.declared.answer.Reason.TheVariants as reason
use Rattle.board_model.specs.Parties.{free}
use Rattle.board_model.specs.Requests.{and_then}
use Rattle.board_model.specs.Things.{with_at}
use Rattle.board_model.specs.declared.line.Line.TheVariants as board_line
use Rattle.script_model.specs.declared.line.ScriptLine.TheVariants as line
use Rattle.script_model.specs.declared.line.EventRequest.{EventRequest}
use Rattle.script_model.specs.declared.reply.EventReply.{EventReply}
use Rattle.script_model.specs.declared.reply.EventReply.TheVariants as reply
use Rattle.script_model.specs.ScriptAnswers.{ScriptAnswer, of_ask, of_event, script_answer_line}
use Rattle.script_model.specs.ScriptEvents as events
use Rattle.script_model.specs.ScriptEvents.{ScriptEvents, ask_told, event_let_go, let_go_from, listener, notifier, opened_told, opened_with, runs_on_events, step_made, step_told, with_ask, with_listener}
use Rattle.script_model.specs.ScriptGrammar.{IsScriptLine}
use Rattle.script_model.specs.ScriptTurns.{IsTurnAnswer, ScriptState, board_turn, steps}
use Rattle.script_model.proofs.EachLemmas.{after_same}
use Rattle.script_model.proofs.FormedLemmas.{step_formed_so}
use Rattle.script_model.proofs.OwedLemmas.{call_stands, can_perform}
use Rattle.script_model.proofs.TurnLemmas.{text_itself}
use Rattle.script_board_tables.specs.declared.tables.BoardTables.{BoardTables}
use Rattle.script_board_tables.specs.Tables.{Has}
use Rattle.script_event_rows.specs.declared.event_call.EventCall.{EventCall}
use Rattle.script_event_rows.specs.declared.event_call.Took.TheVariants as took
use Rattle.script_event_rows.specs.declared.event_row.EventRow.{EventRow}
use Rattle.script_event_rows.specs.EventCalls.{HasTaken, IsKeptOf}
use Rattle.script_event_rows.specs.EventRows.{IsOf, StandsFor}
use Rattle.script_event_tables.specs.declared.event_table.EventTable.{EventTable}
use Rattle.script_event_tables.specs.EventTables.{AreEvents, EventsThatStand, HasListened, HasNotified, IsMade, IsSoundTable, IsUnlistened, OfEvent, OfSomeEvent, with_changed, with_released}
use Rattle.script_judge.specs.declared.judge.Judge.{Judge}
use Rattle.script_judge.specs.declared.task.Ask.{Ask}
use Rattle.script_judge.specs.declared.task.Ask.TheVariants as ask_is
use Rattle.script_judge.specs.declared.task.EventThing.{EventThing}
use Rattle.script_judge.specs.declared.task.EventThing.TheVariants as thing
use Rattle.script_judge.specs.declared.task.Task.{Task}
use Rattle.script_judge.specs.declared.task.Task.TheVariants as task
use Rattle.script_judge.specs.Judges.{HasGoneOn, IsExpiry, IsLed, IsLeftOf, IsOnEvent, IsOut, IsReached, IsTaskFound, IsTaskOf, IsTaskPut, IsTelling, IsThingPut, Represents, RepresentsBut, ask_in, asked_made, task_of, thing_at, thing_in}
use Rattle.script_judge.proofs.EventLemmas.{changed_event, found_event, holds_some, kept_of, listener_went, made_by, notifier_came, notifier_went, some_holds, thing_stands}
use Rattle.script_judge.proofs.EventLemmas as lemmas
use Rattle.script_judge.proofs.Lines.{told_turn}
use Rattle.script_judge.proofs.Stands.{task_is, telling}
use Rattle.script_judge.proofs.Tasks.{AreTasks, IsPut, IsTaskIn, OthersStay, acts_by, asks_by, others_on_events, out_put, tasks_put, tasks_put_at, text_turned}

either : (b : Bool) → (b ≡ true) ⊎ (b ≡ false)
either true = inl refl
either false = inr refl

-- ---- things

-- what is held after something was put or taken
pub things_put : (old new : List ℕ → List ℕ → Option EventThing) (party name : List ℕ) (o : Option EventThing) (f : List ℕ → List ℕ → Option events.EventThing)
    → ((p n : List ℕ) → new p n ≡ (if bytes_eq party p && bytes_eq name n then o else old p n)) → ((p n : List ℕ) → option_map thing_in (old p n) ≡ f p n)
    → (p n : List ℕ) → option_map thing_in (new p n) ≡ with_at f party name (option_map thing_in o) p n
things_put old new party name o f put are p n =
    let turned : (bytes_eq party p && bytes_eq name n) ≡ (bytes_eq p party && bytes_eq n name) = ap (λ (b : Bool). b && bytes_eq name n) (text_turned party p) ∙ ap (λ (b : Bool). bytes_eq p party && b) (text_turned name n) in
    let new_is : new p n ≡ (if bytes_eq p party && bytes_eq n name then o else old p n) = put p n ∙ ap (λ (b : Bool). if b then o else old p n) turned in
    ap (option_map thing_in) new_is ∙ at (bytes_eq p party && bytes_eq n name)
  where
    at : (b : Bool) → option_map thing_in (if b then o else old p n) ≡ (if b then option_map thing_in o else f p n)
    at true = refl
    at false = are p n

-- the number of its event
abbrev pub number_in : EventThing → ℕ
number_in (thing.Listener n) = n
number_in (thing.Notifier n) = n

number_same : (t : EventThing) → events.event_number (thing_in t) ≡ number_in t
number_same (thing.Listener n) = refl
number_same (thing.Notifier n) = refl

-- a thing of the judge's is one of the state's, and its event stands
pub record IsHeldThing (s : ScriptState) (party name : List ℕ) (t : EventThing) : Type 0 where
  pub found : s.events.things party name ≡ Some (thing_in t)
  pub st : StandingEvent
  pub stands : s.events.session.stands (number_in t) ≡ Some st

pub held_thing : (j : Judge) (s : ScriptState) (count : ℕ) (party name : List ℕ) (t : EventThing) → Represents j s → IsReached s count → thing_at j party name ≡ Some t → IsHeldThing s party name t
held_thing j s count party name t rep reached is =
    let found : s.events.things party name ≡ Some (thing_in t) = sym (rep.things party name) ∙ ap (option_map thing_in) is in
    let st = thing_stands s.events count reached.script.events party name (thing_in t) found in
    record { found = found; st = st.0; stands = ap s.events.session.stands (sym (number_same t)) ∙ st.1 }

pub thing_made : (j : Judge) (led : IsLed j) (party name : List ℕ) (t : EventThing) → thing_at j party name ≡ Some t → IsMade j.events (number_in t)
thing_made j led party name t is =
    let h = held_thing j led.state led.count party name t led.represents led.reached is in
    made_by led.state.events led.count led.reached.script.events j.events led.represents.events (number_in t) h.st h.stands

-- ---- what goes

others_same : (s : ScriptState) (x : ScriptEvents) (party : List ℕ) → x.asked ≡ s.events.asked → x.session.doing ≡ s.events.session.doing → (p : List ℕ) (o : Option Task) → IsTaskIn s p o → IsTaskIn (record s { events = x }) p o
others_same s x party asked doing p o h =
    task_is o (s.boards.parties p) (s.boards.parties p) (s.events.asked p) (x.asked p) (s.events.session.doing p) (x.session.doing p) refl (ap (λ (f : List ℕ → Option events.EventAsk). f p) asked) (ap (λ (f : List ℕ → Option PartyCall). f p) doing) h

-- the judge stands for a state in which only events changed
pub stands_on_events : (old new : Judge) (s : ScriptState) (x : ScriptEvents) → new.boards ≡ old.boards → Has old.boards s.boards.standing s.boards.memory s.boards.published → AreEvents new.events (kept_of x) → ((p n : List ℕ) → option_map thing_in (thing_at new p n) ≡ x.things p n) → AreTasks (task_of new) (record s { events = x })
    → Represents new (record s { events = x })
stands_on_events old new s x boards has are things tasks = record {
  boards = subst (λ (b : BoardTables). Has b s.boards.standing s.boards.memory s.boards.published) (sym boards) has;
  events = are;
  things = things;
  tasks = tasks;
}

module _ (old mid new : Judge) (party name : List ℕ) (s : ScriptState) (count : ℕ) (rep : Represents old s) (reached : IsReached s count) (boards : mid.boards ≡ old.boards) (things : (p n : List ℕ) → thing_at mid p n ≡ thing_at old p n) (tasks : (p : List ℕ) → task_of mid p ≡ task_of old p) (put : IsThingPut mid new party name None) where
  gone_things : (p n : List ℕ) → option_map thing_in (thing_at new p n) ≡ with_at s.events.things party name None p n
  gone_things = things_put (thing_at mid) (thing_at new) party name None s.events.things put.things (λ p n. ap (option_map thing_in) (things p n) ∙ rep.things p n)

  gone_tasks : (x : ScriptEvents) → x.asked ≡ s.events.asked → x.session.doing ≡ s.events.session.doing → AreTasks (task_of new) (record s { events = x })
  gone_tasks x asked doing p = subst (IsTaskIn (record s { events = x }) p) (sym (put.tasks p ∙ tasks p)) (others_same s x party asked doing p (task_of old p) (rep.tasks p))

  goes : (x : ScriptEvents) → x ≡ event_let_go s.events party name (s.events.things party name) → Represents new (record s { events = x }) → Represents new (record s { events = event_let_go s.events party name (s.events.things party name) })
  goes x e h = subst (λ (y : ScriptEvents). Represents new (record s { events = y })) e h

  went_is : (t : events.EventThing) (e : Event) → s.events.things party name ≡ Some t → event_of s.events.session.stands (events.event_number t) ≡ Some e → let_go_from s.events party name t (Some e) ≡ event_let_go s.events party name (s.events.things party name)
  went_is t e found there = ap (λ (o : Option Event). let_go_from s.events party name t o) (sym there) ∙ ap (event_let_go s.events party name) (sym found)

  pub listener_goes : (n : ℕ) → thing_at old party name ≡ Some (thing.Listener n) → ((x : EventsThatStand) → AreEvents old.events x → AreEvents mid.events (with_released n without_listener x)) → Represents new (record s { events = event_let_go s.events party name (s.events.things party name) })
  listener_goes n is are =
      let h = held_thing old s count party name (thing.Listener n) rep reached is in
      let there : event_of s.events.session.stands n ≡ Some h.st.event = found_event s.events.session.stands n h.st h.stands in
      let x : ScriptEvents = let_go_from s.events party name (listener n) (Some h.st.event) in
      goes x (went_is (listener n) h.st.event h.found there)
      (stands_on_events old new s x (put.boards ∙ boards) rep.boards
      (subst (λ (t : EventTable). AreEvents t (kept_of x)) (sym put.events) (listener_went mid.events s.events party name n h.st.event there (are (kept_of s.events) rep.events)))
      gone_things (gone_tasks x refl refl))

  pub notifier_goes : (n : ℕ) → thing_at old party name ≡ Some (thing.Notifier n) → ((x : EventsThatStand) → AreEvents old.events x → AreEvents mid.events (with_released n without_notifier x)) → Represents new (record s { events = event_let_go s.events party name (s.events.things party name) })
  notifier_goes n is are =
      let h = held_thing old s count party name (thing.Notifier n) rep reached is in
      let there : event_of s.events.session.stands n ≡ Some h.st.event = found_event s.events.session.stands n h.st h.stands in
      let x : ScriptEvents = let_go_from s.events party name (notifier n) (Some h.st.event) in
      goes x (went_is (notifier n) h.st.event h.found there)
      (stands_on_events old new s x (put.boards ∙ boards) rep.boards
      (subst (λ (t : EventTable). AreEvents t (kept_of x)) (sym put.events) (notifier_went mid.events s.events party name n h.st.event there (are (kept_of s.events) rep.events)))
      gone_things (gone_tasks x refl refl))

-- ---- what is asked for

-- of the party itself what was put
ask_here : (f : List ℕ → Option events.EventAsk) (party : List ℕ) (x : Option events.EventAsk) → with_ask f party x party ≡ x
ask_here f party x = ap (λ (b : Bool). if b then x else f party) (text_itself party)

module _ (old new : Judge) (party : List ℕ) (a : Ask) (s : ScriptState) (count : ℕ) (rep : RepresentsBut old party s) (out : IsOut (task.Asks a) party s) (boards : new.boards ≡ old.boards) (tasks : (p : List ℕ) → task_of new p ≡ task_of old p) where
  made_tasks : (y : ScriptEvents) → y.asked ≡ s.events.asked → y.session.doing ≡ s.events.session.doing → AreTasks (task_of new) (record s { events = record y { asked = with_ask y.asked party None } })
  made_tasks y asked doing =
      let k = asks_by s party a out in
      let t : ScriptState = record s { events = record y { asked = with_ask y.asked party None } } in
      let rests : IsTaskIn t party None =
      task_is None free (s.boards.parties party) None (with_ask y.asked party None party) None (y.session.doing party) k.0 (ask_here y.asked party None) (ap (λ (f : List ℕ → Option PartyCall). f party) doing ∙ k.2) tt in
      let stay : OthersStay s t party = others_on_events s t party refl
      (λ p apart. ap (λ (b : Bool). if b then None else y.asked p) apart ∙ ap (λ (f : List ℕ → Option events.EventAsk). f p) asked)
      (λ p apart. ap (λ (f : List ℕ → Option PartyCall). f p) doing) in
      let put : IsPut (task_of old) (task_of new) party None = λ p. tasks p ∙ out_put (task_of old) party rep.out p in
      tasks_put (task_of old) (task_of new) party None s t put rep.others stay rests

  pub asked_stands : (y : ScriptEvents) → y.asked ≡ s.events.asked → y.session.doing ≡ s.events.session.doing → AreEvents new.events (kept_of y) → ((p n : List ℕ) → option_map thing_in (thing_at new p n) ≡ y.things p n) → Represents new (record s { events = record y { asked = with_ask y.asked party None } })
  asked_stands y asked doing are things = stands_on_events old new s (record y { asked = with_ask y.asked party None }) boards rep.boards are things (made_tasks y asked doing)

-- a listener that was asked for and made, or refused
module _ (old mid new : Judge) (party name : List ℕ) (k : EventKind) (event : List ℕ) (max : ℕ) (s : ScriptState) (count : ℕ) (rep : RepresentsBut old party s) (out : IsOut (task.Asks (ask_is.Listen name k event max)) party s) where
  told_listener : (b : Bool) (x y : EventReply) → b ≡ true → (if b then x else y) ≡ x
  told_listener b x y e = ap (λ (c : Bool). if c then x else y) e

  made_listener : (b : Bool) (x y : ScriptEvents) → b ≡ true → (if b then x else y) ≡ x
  made_listener b x y e = ap (λ (c : Bool). if c then x else y) e

  pub listener_refused : HasListened old.events new.events party k event max None → new.boards ≡ old.boards → ((p n : List ℕ) → thing_at new p n ≡ thing_at old p n) → ((p : List ℕ) → task_of new p ≡ task_of old p)
      → (reply.AlreadyExists ≡ ask_told s.events (ask_in (ask_is.Listen name k event max))) × Represents new (record s { events = asked_made s.events party (ask_in (ask_is.Listen name k event max)) })
  listener_refused h boards things tasks =
      let g = h (kept_of s.events) rep.events in (
        sym (told_listener (is_some (s.events.names k event)) reply.AlreadyExists reply.Done g.0),
        subst (λ (y : ScriptEvents). Represents new (record s { events = record y { asked = with_ask y.asked party None } })) (sym (made_listener (is_some (s.events.names k event)) s.events (with_listener s.events party name k event max) g.0))
            (asked_stands old new party (ask_is.Listen name k event max) s count rep out boards tasks s.events refl refl g.1 (λ p n. ap (option_map thing_in) (things p n) ∙ rep.things p n)),
      )

  pub listener_made : (n : ℕ) → HasListened old.events mid.events party k event max (Some n) → mid.boards ≡ old.boards → ((p m : List ℕ) → thing_at mid p m ≡ thing_at old p m) → ((p : List ℕ) → task_of mid p ≡ task_of old p) → IsThingPut mid new party name (Some (thing.Listener n))
      → (reply.Done ≡ ask_told s.events (ask_in (ask_is.Listen name k event max))) × Represents new (record s { events = asked_made s.events party (ask_in (ask_is.Listen name k event max)) })
  listener_made n h boards things tasks put =
      let g = h (kept_of s.events) rep.events in
      let free_name : is_some (s.events.names k event) ≡ false = ap (λ (o : Option ℕ). is_some o) g.0 in
      let y : ScriptEvents = with_listener s.events party name k event max in
      let things_are : (p m : List ℕ) → option_map thing_in (thing_at new p m) ≡ y.things p m = λ p m.
      things_put (thing_at mid) (thing_at new) party name (Some (thing.Listener n)) s.events.things put.things (λ p m. ap (option_map thing_in) (things p m) ∙ rep.things p m) p m
      ∙ ap (λ (i : ℕ). with_at s.events.things party name (Some (listener i)) p m) g.1 in (
        sym (ap (λ (b : Bool). if b then reply.AlreadyExists else reply.Done) free_name),
        subst (λ (z : ScriptEvents). Represents new (record s { events = record z { asked = with_ask z.asked party None } })) (sym (ap (λ (b : Bool). if b then s.events else y) free_name))
            (asked_stands old new party (ask_is.Listen name k event max) s count rep out (put.boards ∙ boards) (λ p. put.tasks p ∙ tasks p) y refl refl (subst (λ (t : EventTable). AreEvents t (kept_of y)) (sym put.events) g.2) things_are),
      )

-- a notifier that was asked for
module _ (old mid new : Judge) (party name : List ℕ) (k : EventKind) (event : List ℕ) (s : ScriptState) (count : ℕ) (rep : RepresentsBut old party s) (out : IsOut (task.Asks (ask_is.Notify name k event)) party s) where
  unlistened_told : (o : Option Event) → IsUnlistened o → opened_told o ≡ reply.DoesNotExist
  unlistened_told None h = refl
  unlistened_told (Some e) h = ap (λ (b : Bool). if b then reply.Done else reply.DoesNotExist) h

  unlistened_with : (n : ℕ) (o : Option Event) → IsUnlistened o → opened_with s.events party name n o ≡ s.events
  unlistened_with n None h = refl
  unlistened_with n (Some e) h = ap (λ (b : Bool). if b then events.notifier_more s.events party name n e else s.events) h

  unlistened_made : (o : Option ℕ) → IsUnlistened (and_then o (event_of s.events.session.stands)) → events.opened s.events party name o ≡ s.events
  unlistened_made None h = refl
  unlistened_made (Some n) h = unlistened_with n (event_of s.events.session.stands n) h

  pub notifier_refused : HasNotified old.events new.events k event None → new.boards ≡ old.boards → ((p n : List ℕ) → thing_at new p n ≡ thing_at old p n) → ((p : List ℕ) → task_of new p ≡ task_of old p)
      → (reply.DoesNotExist ≡ ask_told s.events (ask_in (ask_is.Notify name k event))) × Represents new (record s { events = asked_made s.events party (ask_in (ask_is.Notify name k event)) })
  notifier_refused h boards things tasks =
      let g = h (kept_of s.events) rep.events in (
        sym (unlistened_told (and_then (s.events.names k event) (event_of s.events.session.stands)) g.0),
        subst (λ (y : ScriptEvents). Represents new (record s { events = record y { asked = with_ask y.asked party None } })) (sym (unlistened_made (s.events.names k event) g.0))
            (asked_stands old new party (ask_is.Notify name k event) s count rep out boards tasks s.events refl refl g.1 (λ p n. ap (option_map thing_in) (things p n) ∙ rep.things p n)),
      )

  pub notifier_made : (n : ℕ) → HasNotified old.events mid.events k event (Some n) → mid.boards ≡ old.boards → ((p m : List ℕ) → thing_at mid p m ≡ thing_at old p m) → ((p : List ℕ) → task_of mid p ≡ task_of old p) → IsThingPut mid new party name (Some (thing.Notifier n))
      → (reply.Done ≡ ask_told s.events (ask_in (ask_is.Notify name k event))) × Represents new (record s { events = asked_made s.events party (ask_in (ask_is.Notify name k event)) })
  notifier_made n h boards things tasks put =
      let g = h (kept_of s.events) rep.events in
      let e = some_holds s.events.session.stands n (λ x. x.held ≡ true) g.1 in
      let y : ScriptEvents = events.notifier_more s.events party name n e.0 in
      let told : opened_told (Some e.0) ≡ reply.Done = ap (λ (b : Bool). if b then reply.Done else reply.DoesNotExist) e.2 in
      let found : and_then (s.events.names k event) (event_of s.events.session.stands) ≡ Some e.0 = ap (λ (o : Option ℕ). and_then o (event_of s.events.session.stands)) g.0 ∙ e.1 in
      let made : events.opened s.events party name (s.events.names k event) ≡ y =
      ap (events.opened s.events party name) g.0 ∙ ap (opened_with s.events party name n) e.1 ∙ ap (λ (b : Bool). if b then y else s.events) e.2 in (
        sym (ap opened_told found ∙ told),
        subst (λ (z : ScriptEvents). Represents new (record s { events = record z { asked = with_ask z.asked party None } })) (sym made)
            (asked_stands old new party (ask_is.Notify name k event) s count rep out (put.boards ∙ boards) (λ p. put.tasks p ∙ tasks p) y refl refl
            (subst (λ (t : EventTable). AreEvents t (kept_of y)) (sym put.events) (notifier_came mid.events s.events party name n e.0 e.1 g.2))
            (things_put (thing_at mid) (thing_at new) party name (Some (thing.Notifier n)) s.events.things put.things (λ p m. ap (option_map thing_in) (things p m) ∙ rep.things p m))),
      )

pub sound_table : (j : Judge) (party : List ℕ) (t : Task) (s : ScriptState) (count : ℕ) → RepresentsBut j party s → IsReached s count → IsSoundTable j.events
sound_table j party t s count rep reached = (kept_of s.events, rep.events, lemmas.fits s.events count reached.script.events reached.few)

-- the step of a party that asks is told right
pub ask_step : (new : Judge) (party : List ℕ) (a : Ask) (r : EventReply) (s : ScriptState) (count : ℕ) (text : List ℕ) → IsOut (task.Asks a) party s → IsReached s count → IsScriptLine (line.Board (board_line.Step party)) → r ≡ ask_told s.events (ask_in a) → Represents new (record s { events = asked_made s.events party (ask_in a) })
    → text ≡ script_answer_line (of_ask r) → IsTelling new (line.Board (board_line.Step party)) text s
ask_step new party a r s count text out reached formed is stands told =
    let k = asks_by s party a out in
    let runs : runs_on_events s.events party ≡ true = ap (λ (o : Option events.EventAsk). is_some o || is_some (s.events.session.doing party)) k.1 in
    let turn_is : board_turn s (board_line.Step party) ≡ Some (steps party) = ap (λ (b : Bool). if b then Some (steps party) else None) runs in
    let right : IsTurnAnswer s.events (steps party) (of_ask r) = subst (λ (o : Option events.EventAsk). events.IsStepOf s.events o (s.events.session.doing party) (of_ask r)) (sym k.1) (ap of_ask is) in
    telling new s (line.Board (board_line.Step party)) text
    (told_turn (Represents new) s (line.Board (board_line.Step party)) (steps party) (of_ask r) text turn_is formed right (step_formed_so s (line.Board (board_line.Step party)) count party (of_ask r) reached.script reached.few right)
    (subst (λ (o : Option events.EventAsk). Represents new (record s { events = step_made s.events party o (of_ask r) })) (sym k.1) stands) told)

-- ---- a step of a call on an event

-- what is kept of a call that went on
left_is : (n on : ℕ) → n ≡ on → (o : Option RunningCall) (t : Option Task) → IsLeftOf n o t → IsTaskOf t free None (doing_on on o)
left_is n on e None t h = subst (λ (x : Option Task). IsTaskOf x free None None) (sym h) tt
left_is n on e (Some r) None h = absurd h
left_is n on e (Some r) (Some (task.OnEvent m k)) h = (h.0 ∙ e, h.1)
left_is n on e (Some r) (Some task.Gone) h = absurd h
left_is n on e (Some r) (Some (task.OnBoards c)) h = absurd h
left_is n on e (Some r) (Some (task.Asks a)) h = absurd h

module _ (old : Judge) (party : List ℕ) (n : ℕ) (c : EventCall) (s : ScriptState) (count : ℕ) (rep : RepresentsBut old party s) (out : IsOut (task.OnEvent n c) party s) (reached : IsReached s count) where
  there : (st : StandingEvent) × (s.events.session.stands n ≡ Some st)
  there = (let k = acts_by s party n c out in let st = call_stands s.events count reached.script.events party k.running_call k.doing in (st.0, ap s.events.session.stands k.on ∙ st.1))

  pub event_made : IsMade old.events n
  event_made = (let st = there in made_by s.events count reached.script.events old.events rep.events n st.0 st.1)

  pub event_can : (a : EventAccess) → ((r : RunningCall) → IsKeptOf c r → a ≡ owed (call_of r)) → OfSomeEvent old.events n (λ e. CanPerform e a)
  event_can a is =
      let k = acts_by s party n c out in
      let st = there in
      let here : s.events.session.stands k.running_call.on ≡ Some st.0 = ap s.events.session.stands (sym k.on) ∙ st.1 in
      let can : CanPerform st.0.event (owed (call_of k.running_call.call)) = can_perform s.events count reached.script.events reached.few party k.running_call st.0 k.doing here in
      (kept_of s.events, rep.events, holds_some (event_of s.events.session.stands n) (λ e. CanPerform e a) st.0.event (found_event s.events.session.stands n st.0 st.1) (subst (CanPerform st.0.event) (sym (is k.running_call.call k.kept)) can))

  -- the table still stands for events of which n was made
  pub event_made_after : (t : EventTable) (f : Event → Event) → AreEvents t (with_changed n f (kept_of s.events)) → IsMade t n
  event_made_after t f are =
      let m = event_made in
      let low = m.last in
      let old_count = rep.events.count in
      let new_count = are.count in
      record { first = m.first; last = omega (arith, low, old_count, new_count) }

  module _ (mid new : Judge) (a : EventAccess) (found : EventAnswer) (told : Option EventReply) (text : List ℕ)
      (owes : (r : RunningCall) → IsKeptOf c r → a ≡ owed (call_of r))
      (right : (x : EventsThatStand) → AreEvents old.events x → IsSomeAnd (event_of x.stands n) (λ e. IsRight e a found))
      (are : (x : EventsThatStand) → AreEvents old.events x → AreEvents mid.events (with_changed n (λ e. memory.after e a) x))
      (boards : mid.boards ≡ old.boards) (things : (p m : List ℕ) → thing_at mid p m ≡ thing_at old p m) (tasks : (p : List ℕ) → task_of mid p ≡ task_of old p)
      (gone : (r : RunningCall) → IsKeptOf c r → HasGoneOn mid new party n found told r)
      (told_is : (x : EventsThatStand) → AreEvents new.events x → IsSomeAnd (event_of x.stands n) (λ e. text ≡ script_answer_line (of_event e.kind e.name a found told)))
      (formed : IsScriptLine (line.Board (board_line.Step party))) where
    pub event_step : IsTelling new (line.Board (board_line.Step party)) text s
    event_step =
        let k = acts_by s party n c out in
        let d : PartyCall = k.running_call in
        let st = there in
        let e : Event = st.0.event in
        let at_n : event_of s.events.session.stands n ≡ Some e = found_event s.events.session.stands n st.0 st.1 in
        let at_on : event_of s.events.session.stands d.on ≡ Some e = ap (event_of s.events.session.stands) (sym k.on) ∙ at_n in
        let a_is : a ≡ owed (call_of d.call) = owes d.call k.kept in
        let g : HasGoneOn mid new party n found told d.call = gone d.call k.kept in
        let right_n : IsSomeAnd (event_of s.events.session.stands n) (λ y. IsRight y a found) = right (kept_of s.events) rep.events in
        let right_e : IsRight e a found = subst (λ (o : Option Event). IsSomeAnd o (λ y. IsRight y a found)) at_n right_n in
        let answer_is : ScriptAnswer = of_event e.kind e.name a found told in
        let access : events.IsEventAccess e d.call answer_is = record {
          answer = found;
          right = subst (λ (x : EventAccess). IsRight e x found) a_is right_e;
          printed = ap (λ (x : EventAccess). of_event e.kind e.name x found told) a_is ∙ ap (λ (x : Option EventReply). of_event e.kind e.name (owed (call_of d.call)) found x) g.told_is;
        } in
        let on_event : events.IsEventStep s.events d answer_is = subst (λ (o : Option Event). IsSomeAnd o (λ y. events.IsEventAccess y d.call answer_is)) (sym at_on) access in
        let stepped : IsTurnAnswer s.events (steps party) answer_is =
        subst (λ (o : Option events.EventAsk). events.IsStepOf s.events o (s.events.session.doing party) answer_is) (sym k.asked)
        (subst (λ (o : Option PartyCall). events.IsStepOf s.events None o answer_is) (sym k.doing) on_event) in
        let runs : runs_on_events s.events party ≡ true = ap (λ (o : Option events.EventAsk). is_some o || is_some (s.events.session.doing party)) k.asked ∙ ap (λ (o : Option PartyCall). is_some o) k.doing in
        let turn_is : board_turn s (board_line.Step party) ≡ Some (steps party) = ap (λ (b : Bool). if b then Some (steps party) else None) runs in
        -- the events after the access
        let left : Option RunningCall = went_on d.call e a found in
        let session : EventSession = took_step s.events.session party a found d (Some e) in
        let session_is : next_session s.events.session (step_of party a found) ≡ session =
        ap (stepped_on s.events.session party a found) k.doing ∙ ap (took_step s.events.session party a found d) at_on in
        let x : ScriptEvents = record s.events { session = session } in
        let made_is : step_made s.events party (s.events.asked party) answer_is ≡ x =
        ap (λ (o : Option events.EventAsk). step_made s.events party o answer_is) k.asked ∙ ap (λ (y : EventSession). record s.events { session = y }) session_is in
        let are_mid : AreEvents mid.events (kept_of x) = subst (λ (i : ℕ). AreEvents mid.events (record { stands = change_at s.events.session.stands i (λ y. memory.after y a); count = s.events.session.count; names = s.events.names })) k.on (are (kept_of s.events) rep.events) in
        let are_new : AreEvents new.events (kept_of x) = subst (λ (t : EventTable). AreEvents t (kept_of x)) (sym g.events) are_mid in
        let t : ScriptState = record s { events = x } in
        let doing_here : x.session.doing party ≡ doing_on d.on (went_on d.call e a found) = ap (λ (b : Bool). if b then doing_on d.on (went_on d.call e a found) else s.events.session.doing party) (text_itself party) in
        let rests : IsTaskIn t party (task_of new party) =
        task_is (task_of new party) free (s.boards.parties party) None (s.events.asked party) (doing_on d.on (went_on d.call e a found)) (x.session.doing party) k.party k.asked doing_here
        (left_is n d.on k.on (went_on d.call e a found) (task_of new party) (g.left e a)) in
        let stay : OthersStay s t party = others_on_events s t party refl (λ p apart. refl) (λ p apart. ap (λ (b : Bool). if b then doing_on d.on (went_on d.call e a found) else s.events.session.doing p) apart) in
        let all : AreTasks (task_of new) t = tasks_put_at (task_of old) (task_of new) party s t (λ p apart. g.others p apart ∙ tasks p) rep.others stay rests in
        let changed : event_of x.session.stands n ≡ Some (memory.after e a) = ap (event_of x.session.stands) k.on ∙ changed_event s.events.session.stands d.on e (λ y. memory.after y a) at_on in
        let said : IsSomeAnd (event_of x.session.stands n) (λ y. text ≡ script_answer_line (of_event y.kind y.name a found told)) = told_is (kept_of x) are_new in
        let at_after : text ≡ script_answer_line (of_event (memory.after e a).kind (memory.after e a).name a found told) = subst (λ (o : Option Event). IsSomeAnd o (λ y. text ≡ script_answer_line (of_event y.kind y.name a found told))) changed said in
        let same = after_same e a in
        let text_is : text ≡ script_answer_line answer_is =
        at_after ∙ ap (λ (i : EventKind). script_answer_line (of_event i (memory.after e a).name a found told)) same.kind ∙ ap (λ (i : List ℕ). script_answer_line (of_event e.kind i a found told)) same.name in
        telling new s (line.Board (board_line.Step party)) text
        (told_turn (Represents new) s (line.Board (board_line.Step party)) (steps party) answer_is text turn_is formed stepped (step_formed_so s (line.Board (board_line.Step party)) count party answer_is reached.script reached.few stepped)
        (subst (λ (y : ScriptEvents). Represents new (record s { events = y })) (sym made_is)
        (stands_on_events old new s x (g.boards ∙ boards) rep.boards are_new (λ p m. ap (option_map thing_in) (g.things p m ∙ things p m) ∙ rep.things p m) all)) text_is)

  -- and event n was made
  pub made_then : (mid new : Judge) (a : EventAccess) (found : EventAnswer) (told : Option EventReply)
      → ((x : EventsThatStand) → AreEvents old.events x → AreEvents mid.events (with_changed n (λ e. memory.after e a) x))
      → ((r : RunningCall) → IsKeptOf c r → HasGoneOn mid new party n found told r) → IsMade new.events n
  made_then mid new a found told are gone =
      let k = acts_by s party n c out in
      let g : HasGoneOn mid new party n found told k.running_call.call = gone k.running_call.call k.kept in
      event_made_after new.events (λ e. memory.after e a) (subst (λ (t : EventTable). AreEvents t (with_changed n (λ e. memory.after e a) (kept_of s.events))) (sym g.events) (are (kept_of s.events) rep.events))

-- ---- what a call comes to

either_text : (party p : List ℕ) (o : Option Task) (x : Option Task) → bytes_eq party p ≡ false → (if bytes_eq party p then o else x) ≡ x
either_text party p o x apart = ap (λ (b : Bool). if b then o else x) apart

kept_left : (n : ℕ) (k : EventCall) (o : Option RunningCall) (t : Option Task) → t ≡ Some (task.OnEvent n k) → IsSomeAnd o (IsKeptOf k) → IsLeftOf n o t
kept_left n k None t is h = absurd h
kept_left n k (Some r) t is h = subst (λ (x : Option Task). IsSomeAnd x (IsOnEvent n r)) (sym is) (refl, h)

pub goes_on_kept : (old new : Judge) (party : List ℕ) (n : ℕ) (answer : EventAnswer) (k : EventCall) (r : RunningCall) → HasTaken answer r (took.GoesOn k) → IsTaskPut old new party (Some (task.OnEvent n k)) → HasGoneOn old new party n answer None r
goes_on_kept old new party n answer k r h put = record {
  boards = put.boards;
  events = put.events;
  things = put.things;
  others = λ p apart. put.tasks p ∙ either_text party p (Some (task.OnEvent n k)) (task_of old p) apart;
  told_is = sym h.0;
  left = λ e a. kept_left n k (went_on r e a answer) (task_of new party) (put.tasks party ∙ ap (λ (b : Bool). if b then Some (task.OnEvent n k) else task_of old party) (text_itself party)) (h.1 e a);
}

none_left : (n : ℕ) (o : Option RunningCall) (t : Option Task) → o ≡ None → t ≡ None → IsLeftOf n o t
none_left n o t e f = subst (λ (x : Option RunningCall). IsLeftOf n x t) (sym e) f

pub ended_kept : (old : Judge) (party : List ℕ) (n : ℕ) (answer : EventAnswer) (told : EventReply) (r : RunningCall) → HasTaken answer r (took.Ended told) → task_of old party ≡ None → HasGoneOn old old party n answer (Some told) r
ended_kept old party n answer told r h none = record {
  boards = refl;
  events = refl;
  things = λ p m. refl;
  others = λ p apart. refl;
  told_is = sym h.0;
  left = λ e a. none_left n (went_on r e a answer) (task_of old party) (h.1 e a) none;
}

-- ---- what is printed

pub holds_so : (o : Option Event) (P Q : Event → Type 0) → ((e : Event) → P e → Q e) → IsSomeAnd o P → IsSomeAnd o Q
holds_so None P Q f h = absurd h
holds_so (Some e) P Q f h = f e h

pub access_told : (t : EventTable) (n : ℕ) (row : EventRow) (k : EventKind) (name name' : List ℕ) (a : EventAccess) (found : EventAnswer) (told told' : Option EventReply) (out old : List ℕ)
    → OfEvent t n (StandsFor row) → IsOf row (λ e. e.kind) k → IsOf row (λ e. e.name) name → name' ≡ name → told' ≡ told → out ≡ old ++ script_answer_line (of_event k name' a found told') → OfEvent t n (λ e. out ≡ old ++ script_answer_line (of_event e.kind e.name a found told))
access_told t n row k name name' a found told told' out old stands kind name_of name_is told_is text x are =
    holds_so (event_of x.stands n) (StandsFor row) (λ e. out ≡ old ++ script_answer_line (of_event e.kind e.name a found told)) (λ e h.
    text ∙ ap (λ (i : EventKind). old ++ script_answer_line (of_event i name' a found told')) (kind e h)
    ∙ ap (λ (i : List ℕ). old ++ script_answer_line (of_event e.kind i a found told')) (name_is ∙ name_of e h)
    ∙ ap (λ (i : Option EventReply). old ++ script_answer_line (of_event e.kind e.name a found i)) told_is) (stands x are)

pub from_empty : (t : EventTable) (n : ℕ) (out old : List ℕ) (a : EventAccess) (found : EventAnswer) (told : Option EventReply) → old ≡ [] → OfEvent t n (λ e. out ≡ old ++ script_answer_line (of_event e.kind e.name a found told))
    → OfEvent t n (λ e. out ≡ script_answer_line (of_event e.kind e.name a found told))
from_empty t n out old a found told empty h x are =
    holds_so (event_of x.stands n) (λ e. out ≡ old ++ script_answer_line (of_event e.kind e.name a found told)) (λ e. out ≡ script_answer_line (of_event e.kind e.name a found told))
    (λ e f. f ∙ ap (λ (i : List ℕ). i ++ script_answer_line (of_event e.kind e.name a found told)) empty) (h x are)

-- ---- requests and expiries

pub of_request : (x : ScriptEvents) (party : List ℕ) (q r : EventRequest) (t : Option Task) → q ≡ r → IsTaskFound (events.task_of x party r) t → IsTaskFound (events.task_of x party q) t
of_request x party q r t e h = subst (λ (y : EventRequest). IsTaskFound (events.task_of x party y) t) (sym e) h

pub expiry_of : (o p : Option Task) (r : Option Reason) → o ≡ p → IsExpiry p r → IsExpiry o r
expiry_of o p r e h = subst (λ (x : Option Task). IsExpiry x r) (sym e) h

pub may_expire_so : (b : Bool) (r : RunningCall) → b ≡ (calls.is_timed (call_of r) && r.waited) → (c : Bool) → b ≡ c → (if c then None else Some reason.NotWaiting) ≡ (if calls.is_timed (call_of r) && r.waited then None else Some reason.NotWaiting)
may_expire_so b r h c e = ap (λ (x : Bool). if x then None else Some reason.NotWaiting) (sym e ∙ h)
