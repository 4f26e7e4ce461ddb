-- What was found for a call, drops, abandonments, listings, expiries and calls on events that begin.
use Rattle.std.proofs.Common.{◌≡◌, ℕ, Bool, true, false, List, refl, sym, ap, subst, ◌∙◌, Option, Some, None}
use Rattle.std.specs.Prelude.{if◌then◌else◌, is_some, IsSomeAnd, not, option_map, Ok}
use Rattle.board_cell_model.specs.declared.access.Access.TheVariants as access
use Rattle.board_event_model.specs.declared.call.WaitMode.{WaitMode}
use Rattle.board_event_model.specs.EventCalls.{new_call}
use Rattle.board_event_model.specs.EventMemory.{Event}
use Rattle.board_event_model.specs.EventSessions.{PartyCall, event_of, expire_of, next_session}
use Rattle.board_model.specs.declared.answer.Answer.TheVariants as answer
use Rattle.board_model.specs.declared.answer.Reason.{Reason}
use Rattle.board_model.specs.declared.answer.Reason.TheVariants as reason
use Rattle.board_model.specs.declared.answer.Reply.TheVariants as reply
use Rattle.board_model.specs.declared.line.Line.TheVariants as board_line
use Rattle.board_model.specs.AnswerGrammar.{answer_line}
use Rattle.board_model.specs.LawfulSession.{abandon_reason, is_filled, is_indexed}
use Rattle.board_model.specs.LineGrammar.{IsLine}
use Rattle.board_model.specs.Parties.{free, gone, with_party}
use Rattle.board_model.specs.Replies.{dropped}
use Rattle.board_model.specs.Requests.{Request, and_then}
use Rattle.board_model.specs.Tables.{board_at}
use Rattle.board_model.specs.Things as held
use Rattle.board_model.specs.Things.{Standing}
use Rattle.script_model.specs.declared.line.EventRequest.{EventRequest}
use Rattle.script_model.specs.declared.line.EventRequest.TheVariants as request
use Rattle.script_model.specs.declared.line.ScriptLine.TheVariants as line
use Rattle.script_model.specs.ScriptAnswers.{expired, script_answer_line}
use Rattle.script_model.specs.ScriptEvents as events
use Rattle.script_model.specs.ScriptEvents.{ScriptEvents, events_abandoned, holds_event, name_made, runs_on_events, with_ask}
use Rattle.script_model.specs.ScriptGrammar.{IsScriptLine}
use Rattle.script_model.specs.ScriptTurns.{ScriptState, may_expire, task_begun}
use Rattle.script_model.proofs.TurnLemmas.{text_itself}
use Rattle.script_board_tables.specs.declared.requests.Found.{Found}
use Rattle.script_board_tables.specs.declared.tables.BoardTables.{BoardTables}
use Rattle.script_board_tables.specs.Calls.{IsFound, IsFoundFor}
use Rattle.script_board_tables.specs.Tables.{Has, memory_of, published_of, standing_of, tables_of}
use Rattle.script_event_rows.specs.declared.event_call.EventCall.{EventCall}
use Rattle.script_event_rows.specs.declared.event_row.EventRow.{EventRow}
use Rattle.script_event_rows.specs.EventCalls.{IsKeptOf}
use Rattle.script_event_rows.specs.EventRows.{StandsFor}
use Rattle.script_event_tables.specs.declared.event_table.EventTable.{EventTable}
use Rattle.script_event_tables.specs.EventTables.{AreEvents, EventsThatStand, with_abandoned}
use Rattle.script_judge.specs.declared.judge.Judge.{Judge}
use Rattle.script_judge.specs.declared.task.EventThing.{EventThing}
use Rattle.script_judge.specs.declared.task.EventThing.TheVariants as thing
use Rattle.script_judge.specs.declared.task.Task.{Task}
use Rattle.script_judge.specs.declared.task.Task.TheVariants as task
use Rattle.script_judge.specs.Judges.{IsBegun, IsBegunAs, IsExpiry, IsReached, IsTaskFound, IsTaskPut, IsTelling, Represents, name_taken, refusal_by, refusal_of, task_of, thing_at, thing_in}
use Rattle.script_judge.proofs.EventLemmas.{kept_of, some_holds}
use Rattle.script_judge.proofs.FreeLines.{IsFree, abandons, abandons_gone, asks_begins, asks_taken, asks_unknown, drops_event, drops_nothing, drops_thing, expires_asking, expires_early, expires_gone, expires_idle, expires_running, expires_waiting, lists, lists_none, steps_gone, steps_idle}
use Rattle.script_judge.proofs.Lines.{Told, unfree_asks, unfree_releases}
use Rattle.script_judge.proofs.Stands.{holds_is, name_is, put_here, stands_with, task_is, telling}
use Rattle.script_judge.proofs.Tasks.{IsTaskIn, OthersStay, acts_by, asks_by, free_by, free_unless, gone_by, others_on_events, put_again, runs_by, tasks_put, tasks_same, unfree_by}

-- ---- what was found for a call on boards

pub not_true : (b : Bool) → not b ≡ true → b ≡ false
not_true true e = absurd cc
not_true false e = refl

pub not_false : (b : Bool) → not b ≡ false → b ≡ true
not_false true e = refl
not_false false e = absurd cc

module _ (st : Standing) (t : Bool) (q : Option Request) (f : Found) where
  abbrev IsOne : Type 0
  IsOne = (r : Request) × (q ≡ Some r) × IsFoundFor st f r

  pub found_one : (o : Option Found) → IsFound st o q → o ≡ Some f → IsOne
  found_one o h is = at q refl (subst (λ (x : Option Found). IsFound st x q) is h)
    where
      at : (p : Option Request) → q ≡ p → IsFound st (Some f) q → IsOne
      at None e h = absurd (subst (λ (x : Option Request). IsFound st (Some f) x) e h)
      at (Some r) e h = (r, e, subst (λ (x : Option Request). IsFound st (Some f) x) e h)

  pub nothing_found : (o : Option Found) → IsFound st o q → o ≡ None → refusal_of st t q ≡ Some reason.Unknown
  nothing_found o h is = at q (subst (λ (x : Option Found). IsFound st x q) is h)
    where
      at : (p : Option Request) → IsFound st None p → refusal_of st t p ≡ Some reason.Unknown
      at None h = refl
      at (Some r) h = absurd h

  module _ (o : Option Found) (h : IsFound st o q) (is : o ≡ Some f) where
    pub taken_found : t ≡ true → refusal_of st t q ≡ Some reason.Taken
    taken_found e = (let k = found_one o h is in ap (refusal_of st t) k.1 ∙ ap (λ (b : Bool). refusal_of st b (Some k.0)) e)

    module _ (e : t ≡ false) where
      tests_are : (k : IsOne) → refusal_of st t q ≡ (if not f.typed then Some reason.Type else if not f.indexed then Some reason.Index else if not f.filled then Some reason.Unfilled else None)
      tests_are k =
          ap (refusal_of st t) k.1 ∙ ap (λ (b : Bool). refusal_of st b (Some k.0)) e
          ∙ ap (λ (b : Bool). if not b then Some reason.Type else if not (is_indexed k.0) then Some reason.Index else if not (is_filled k.0) then Some reason.Unfilled else None) (sym k.2.typed)
          ∙ ap (λ (b : Bool). if not f.typed then Some reason.Type else if not b then Some reason.Index else if not (is_filled k.0) then Some reason.Unfilled else None) (sym k.2.indexed)
          ∙ ap (λ (b : Bool). if not f.typed then Some reason.Type else if not f.indexed then Some reason.Index else if not b then Some reason.Unfilled else None) (sym k.2.filled)

      pub untyped_found : f.typed ≡ false → refusal_of st t q ≡ Some reason.Type
      untyped_found a = tests_are (found_one o h is) ∙ ap (λ (b : Bool). if not b then Some reason.Type else if not f.indexed then Some reason.Index else if not f.filled then Some reason.Unfilled else None) a

      pub unindexed_found : f.typed ≡ true → f.indexed ≡ false → refusal_of st t q ≡ Some reason.Index
      unindexed_found a i =
          tests_are (found_one o h is) ∙ ap (λ (b : Bool). if not b then Some reason.Type else if not f.indexed then Some reason.Index else if not f.filled then Some reason.Unfilled else None) a
          ∙ ap (λ (b : Bool). if not b then Some reason.Index else if not f.filled then Some reason.Unfilled else None) i

      pub unfilled_found : f.typed ≡ true → f.indexed ≡ true → f.filled ≡ false → refusal_of st t q ≡ Some reason.Unfilled
      unfilled_found a i l =
          tests_are (found_one o h is) ∙ ap (λ (b : Bool). if not b then Some reason.Type else if not f.indexed then Some reason.Index else if not f.filled then Some reason.Unfilled else None) a
          ∙ ap (λ (b : Bool). if not b then Some reason.Index else if not f.filled then Some reason.Unfilled else None) i ∙ ap (λ (b : Bool). if not b then Some reason.Unfilled else None) l

      pub call_found : f.typed ≡ true → f.indexed ≡ true → f.filled ≡ true → IsBegun st t q (Ok f.call)
      call_found a i l =
          let k = found_one o h is in (
            tests_are k ∙ ap (λ (b : Bool). if not b then Some reason.Type else if not f.indexed then Some reason.Index else if not f.filled then Some reason.Unfilled else None) a
                ∙ ap (λ (b : Bool). if not b then Some reason.Index else if not f.filled then Some reason.Unfilled else None) i ∙ ap (λ (b : Bool). if not b then Some reason.Unfilled else None) l,
            subst (λ (p : Option Request). IsBegunAs f.call p) (sym k.1) (k.2.request, k.2.come),
          )

-- ---- drops

module _ (j : Judge) (s : ScriptState) (count : ℕ) (rep : Represents j s) (reached : IsReached s count) (party : List ℕ) (text : List ℕ) where
  module _ (name : List ℕ) (formed : IsLine (board_line.Release party name)) where
    pub release_unfree : (why : Reason) → Some why ≡ refusal_by (task_of j party) → text ≡ answer_line (answer.Refused why) → IsTelling j (line.Board (board_line.Release party name)) text s
    release_unfree why h told =
        telling j s (line.Board (board_line.Release party name)) text (unfree_releases (Represents j) s party why text rep told name (unfree_by s party (task_of j party) why (rep.tasks party) (sym h)) formed)

    module _ (unrefused : None ≡ refusal_by (task_of j party)) where
      is_free : IsFree s party
      is_free = free_unless s party (task_of j party) (rep.tasks party) (sym unrefused)

      pub release_event : (new : Judge) (t : EventThing) → thing_at j party name ≡ Some t → Represents new (record s { events = events.event_let_go s.events party name (s.events.things party name) }) → text ≡ answer_line (answer.Step access.Table (Some reply.Done)) → IsTelling new (line.Board (board_line.Release party name)) text s
      release_event new t is stands told =
          telling new s (line.Board (board_line.Release party name)) text
          (drops_event (Represents new) s party is_free text name formed (sym (holds_is j s rep party name) ∙ ap (λ (o : Option EventThing). is_some o) is) stands told (tt, tt))

      module _ (none : None ≡ thing_at j party name) where
        holds_none : holds_event s.events party name ≡ false
        holds_none = sym (holds_is j s rep party name) ∙ ap (λ (o : Option EventThing). is_some o) (sym none)

        held_is : (b : Bool) → b ≡ held.is_held (standing_of j.boards) party name → held.is_held s.boards.standing party name ≡ b
        held_is b h = sym (h ∙ ap (λ (x : Standing). held.is_held x party name) rep.boards.standing)

        pub release_nothing : (b : Bool) → b ≡ held.is_held (standing_of j.boards) party name → b ≡ false → text ≡ answer_line (answer.Refused reason.Unknown) → IsTelling j (line.Board (board_line.Release party name)) text s
        release_nothing b h e told = telling j s (line.Board (board_line.Release party name)) text (drops_nothing (Represents j) s party is_free text name formed holds_none (held_is b h ∙ e) rep told)

        pub release_thing : (mid : BoardTables) (b : Bool) → b ≡ held.is_held (standing_of j.boards) party name → b ≡ true → Has mid (dropped (standing_of j.boards) party name) (memory_of j.boards) (published_of j.boards) → text ≡ answer_line (answer.Step access.Table (Some reply.Done)) → IsTelling (record j { boards = mid }) (line.Board (board_line.Release party name)) text s
        release_thing mid b h e has told =
            telling (record j { boards = mid }) s (line.Board (board_line.Release party name)) text
            (drops_thing (Represents (record j { boards = mid })) s party is_free text name formed holds_none (held_is b h ∙ e)
            (record {
              boards = record {
                standing = has.standing ∙ ap (λ (x : Standing). dropped x party name) rep.boards.standing;
                memory = has.memory ∙ rep.boards.memory;
                lists = has.lists ∙ rep.boards.lists;
              };
              events = rep.events;
              things = rep.things;
              tasks = rep.tasks;
            }) told (tt, tt))

  -- ---- steps and abandonments

  pub step_free : (mid : Judge) (o : Option Task) → IsTaskPut j mid party None → o ≡ task_of j party → o ≡ None → IsLine (board_line.Step party) → text ≡ answer_line (answer.Refused reason.Idle) → IsTelling mid (line.Board (board_line.Step party)) text s
  step_free mid o put found is formed told =
      let none : task_of j party ≡ None = sym found ∙ is in
      let free_party : IsFree s party = free_by s party (subst (IsTaskIn s party) none (rep.tasks party)) in
      telling mid s (line.Board (board_line.Step party)) text
      (steps_idle (Represents mid) s party free_party text formed
      (stands_with j mid s s put.boards put.events put.things rep refl refl refl refl refl
      (tasks_put (task_of j) (task_of mid) party None s s put.tasks (λ p apart. rep.tasks p) (λ p x apart h. h) (subst (IsTaskIn s party) none (rep.tasks party)))) told)

  pub step_gone : (mid new : Judge) (o : Option Task) → IsTaskPut j mid party None → IsTaskPut mid new party (Some task.Gone) → o ≡ task_of j party → o ≡ Some task.Gone → IsLine (board_line.Step party) → text ≡ answer_line (answer.Refused reason.Abandoned) → IsTelling new (line.Board (board_line.Step party)) text s
  step_gone mid new o out put found is formed told =
      let was : task_of j party ≡ Some task.Gone = sym found ∙ is in
      let k = gone_by s party (subst (IsTaskIn s party) was (rep.tasks party)) in
      telling new s (line.Board (board_line.Step party)) text
      (steps_gone (Represents new) s party k.0 text
      (stands_with j new s s (put.boards ∙ out.boards) (put.events ∙ out.events) (λ p n. put.things p n ∙ out.things p n) rep refl refl refl refl refl
      (tasks_same (task_of j) (task_of new) s (put_again (task_of j) (task_of mid) (task_of new) party (Some task.Gone) out.tasks put.tasks was) rep.tasks)) told k.1 formed)

  not_gone : (o : Option Task) → IsTaskIn s party o → (refusal_by o ≡ Some reason.Abandoned → ⊥) → abandon_reason (s.boards.parties party) ≡ None
  not_gone None h n = ap abandon_reason (free_by s party h).is_free
  not_gone (Some task.Gone) h n = absurd (n refl)
  not_gone (Some (task.OnBoards c)) h n = ap abandon_reason (runs_by s party c h).party
  not_gone (Some (task.Asks a)) h n = ap abandon_reason (asks_by s party a h).0
  not_gone (Some (task.OnEvent m c)) h n = ap abandon_reason (acts_by s party m c h).party

  was_gone : (o : Option Task) → IsTaskIn s party o → refusal_by o ≡ Some reason.Abandoned → s.boards.parties party ≡ gone
  was_gone None h e = absurd cc
  was_gone (Some task.Gone) h e = (gone_by s party h).0
  was_gone (Some (task.OnBoards c)) h e = absurd cc
  was_gone (Some (task.Asks a)) h e = absurd cc
  was_gone (Some (task.OnEvent m c)) h e = absurd cc

  pub abandon_again : refusal_by (task_of j party) ≡ Some reason.Abandoned → IsLine (board_line.Abandon party) → text ≡ answer_line (answer.Refused reason.Abandoned) → IsTelling j (line.Board (board_line.Abandon party)) text s
  abandon_again is formed told = telling j s (line.Board (board_line.Abandon party)) text (abandons_gone (Represents j) s party (was_gone (task_of j party) (rep.tasks party) is) text rep told formed)

  pub abandon_first : (mid : Judge) (table : EventTable) → IsTaskPut j mid party (Some task.Gone) → ((x : EventsThatStand) → AreEvents mid.events x → AreEvents table (with_abandoned party x)) → (refusal_by (task_of j party) ≡ Some reason.Abandoned → ⊥) → IsLine (board_line.Abandon party) → text ≡ answer_line answer.Gone
      → IsTelling (record mid { events = table }) (line.Board (board_line.Abandon party)) text s
  abandon_first mid table put are not_yet formed told =
      let t : ScriptState = record { boards = record s.boards { parties = with_party s.boards.parties party gone }; events = events_abandoned s.events party } in
      let new : Judge = record mid { events = table } in
      let is_gone : IsTaskIn t party (Some task.Gone) =
      task_is (Some task.Gone) gone (t.boards.parties party) None (t.events.asked party) None (t.events.session.doing party)
      (put_here s.boards.parties party gone) (ap (λ (b : Bool). if b then None else s.events.asked party) (text_itself party)) (ap (λ (b : Bool). if b then None else s.events.session.doing party) (text_itself party)) tt in
      let stay : OthersStay s t party = λ p o apart h.
      task_is o (s.boards.parties p) (t.boards.parties p) (s.events.asked p) (t.events.asked p) (s.events.session.doing p) (t.events.session.doing p)
      (ap (λ (b : Bool). if b then gone else s.boards.parties p) apart) (ap (λ (b : Bool). if b then None else s.events.asked p) apart) (ap (λ (b : Bool). if b then None else s.events.session.doing p) apart) h in
      telling new s (line.Board (board_line.Abandon party)) text
      (abandons (Represents new) s text party (not_gone (task_of j party) (rep.tasks party) not_yet) formed
      (record {
        boards = subst (λ (b : BoardTables). Has b s.boards.standing s.boards.memory s.boards.published) (sym put.boards) rep.boards;
        events = are (kept_of s.events) (subst (λ (x : EventTable). AreEvents x (kept_of s.events)) (sym put.events) rep.events);
        things = λ p n. ap (option_map thing_in) (put.things p n) ∙ rep.things p n;
        tasks = tasks_put (task_of j) (task_of mid) party (Some task.Gone) s t put.tasks (λ p apart. rep.tasks p) stay is_gone;
      }) told)

  -- ---- expiries

  module _ (formed : IsScriptLine (line.Expire party)) where
    expire_at : (why : Reason) (o : Option Task) → IsTaskIn s party o → IsExpiry o (Some why) → text ≡ answer_line (answer.Refused why) → Told (Represents j) s (line.Expire party) text
    expire_at why None h e told =
        let w : why ≡ reason.Idle = cc in
        expires_idle (Represents j) s party (free_by s party h) text formed rep (told ∙ ap (λ (x : Reason). answer_line (answer.Refused x)) w)
    expire_at why (Some task.Gone) h e told =
        let w : why ≡ reason.Abandoned = cc in
        expires_gone (Represents j) s party (gone_by s party h).0 text rep (told ∙ ap (λ (x : Reason). answer_line (answer.Refused x)) w) formed
    expire_at why (Some (task.OnBoards c)) h e told =
        let w : why ≡ reason.NotWaiting = cc in
        let k = runs_by s party c h in
        expires_running (Represents j) s text party formed k.running_call k.party rep (told ∙ ap (λ (x : Reason). answer_line (answer.Refused x)) w)
    expire_at why (Some (task.Asks a)) h e told =
        let w : why ≡ reason.NotWaiting = cc in
        let k = asks_by s party a h in
        expires_asking (Represents j) s text party formed _ k.0 k.1 rep (told ∙ ap (λ (x : Reason). answer_line (answer.Refused x)) w)
    expire_at why (Some (task.OnEvent m c)) h e told =
        let k = acts_by s party m c h in
        let f = e k.running_call.call k.kept in
        early (may_expire k.running_call) refl f
      where
        early : (b : Bool) → may_expire (acts_by s party m c h).running_call ≡ b → Some why ≡ (if may_expire (acts_by s party m c h).running_call then None else Some reason.NotWaiting) → Told (Represents j) s (line.Expire party) text
        early true may f = absurd (let z : Some why ≡ None = f ∙ ap (λ (b : Bool). if b then None else Some reason.NotWaiting) may in cc)
        early false may f =
            let k = acts_by s party m c h in
            let z : Some why ≡ Some reason.NotWaiting = f ∙ ap (λ (b : Bool). if b then None else Some reason.NotWaiting) may in
            let w : why ≡ reason.NotWaiting = cc in
            expires_early (Represents j) s text party formed k.running_call k.party k.asked k.doing may rep (told ∙ ap (λ (x : Reason). answer_line (answer.Refused x)) w)

    pub expire_refused : (why : Reason) (o : Option Reason) → IsExpiry (task_of j party) o → o ≡ Some why → text ≡ answer_line (answer.Refused why) → IsTelling j (line.Expire party) text s
    expire_refused why o e is told = telling j s (line.Expire party) text (expire_at why (task_of j party) (rep.tasks party) (subst (IsExpiry (task_of j party)) is e) told)

    done_at : (new : Judge) (o : Option Task) → task_of j party ≡ o → IsTaskPut j new party None → IsTaskIn s party o → IsExpiry o None → text ≡ script_answer_line expired → Told (Represents new) s (line.Expire party) text
    done_at new None was put h e told = absurd cc
    done_at new (Some task.Gone) was put h e told = absurd cc
    done_at new (Some (task.OnBoards c)) was put h e told = absurd cc
    done_at new (Some (task.Asks a)) was put h e told = absurd cc
    done_at new (Some (task.OnEvent m c)) was put h e told =
        let k = acts_by s party m c h in
        late (may_expire k.running_call) refl (e k.running_call.call k.kept)
      where
        late : (b : Bool) → may_expire (acts_by s party m c h).running_call ≡ b → None ≡ (if may_expire (acts_by s party m c h).running_call then None else Some reason.NotWaiting) → Told (Represents new) s (line.Expire party) text
        late false may f = absurd (let z : None ≡ Some reason.NotWaiting = f ∙ ap (λ (b : Bool). if b then None else Some reason.NotWaiting) may in cc)
        late true may f =
            let k = acts_by s party m c h in
            let x : ScriptEvents = record s.events { session = next_session s.events.session (expire_of party) } in
            let t : ScriptState = record s { events = x } in
            let rests : IsTaskIn t party None =
            task_is None free (s.boards.parties party) None (s.events.asked party) None (x.session.doing party) k.party k.asked (ap (λ (b : Bool). if b then None else s.events.session.doing party) (text_itself party)) tt in
            let stay : OthersStay s t party = others_on_events s t party refl (λ p apart. refl) (λ p apart. ap (λ (b : Bool). if b then None else s.events.session.doing p) apart) in
            expires_waiting (Represents new) s text party formed k.running_call k.party k.asked k.doing may
            (stands_with j new s t put.boards put.events put.things rep refl refl refl refl refl
            (tasks_put (task_of j) (task_of new) party None s t put.tasks (λ p apart. rep.tasks p) stay rests)) told

    pub expire_done : (new : Judge) (o : Option Reason) → IsExpiry (task_of j party) o → o ≡ None → IsTaskPut j new party None → text ≡ script_answer_line expired → IsTelling new (line.Expire party) text s
    expire_done new o e is put told = telling new s (line.Expire party) text (done_at new (task_of j party) refl put (rep.tasks party) (subst (IsExpiry (task_of j party)) is e) told)

  -- ---- calls on events

  module _ (q : EventRequest) (formed : IsScriptLine (line.Event party q)) where
    pub ask_unfree : (why : Reason) → Some why ≡ refusal_by (task_of j party) → text ≡ answer_line (answer.Refused why) → IsTelling j (line.Event party q) text s
    ask_unfree why h told =
        telling j s (line.Event party q) text (unfree_asks (Represents j) s party why text rep told q (unfree_by s party (task_of j party) why (rep.tasks party) (sym h)) formed)

    module _ (unrefused : None ≡ refusal_by (task_of j party)) where
      free_now : IsFree s party
      free_now = free_unless s party (task_of j party) (rep.tasks party) (sym unrefused)

      none_is : (o : Option events.EventTask) → IsTaskFound o None → o ≡ None
      none_is None h = refl
      none_is (Some (events.ask x)) h = absurd h
      none_is (Some (events.act n c)) h = absurd h

      some_is : (o : Option events.EventTask) (t : Task) → IsTaskFound o (Some t) → (x : events.EventTask) × (o ≡ Some x) × IsTaskFound (Some x) (Some t)
      some_is None task.Gone h = absurd h
      some_is None (task.OnBoards c) h = absurd h
      some_is None (task.Asks a) h = absurd h
      some_is None (task.OnEvent n c) h = absurd h
      some_is (Some x) t h = (x, refl, h)

      pub ask_unknown : (o : Option Task) → IsTaskFound (events.task_of s.events party q) o → o ≡ None → text ≡ answer_line (answer.Refused reason.Unknown) → IsTelling j (line.Event party q) text s
      ask_unknown o h is told =
          telling j s (line.Event party q) text
          (asks_unknown (Represents j) s party free_now text q formed (none_is (events.task_of s.events party q) (subst (IsTaskFound (events.task_of s.events party q)) is h)) rep told)

      pub ask_taken : (o : Option Task) (t : Task) → IsTaskFound (events.task_of s.events party q) o → o ≡ Some t → (b : Bool) → b ≡ name_taken j party (name_made q) → b ≡ true → text ≡ answer_line (answer.Refused reason.Taken) → IsTelling j (line.Event party q) text s
      ask_taken o t h is b e f told =
          let k = some_is (events.task_of s.events party q) t (subst (IsTaskFound (events.task_of s.events party q)) is h) in
          telling j s (line.Event party q) text
          (asks_taken (Represents j) s party free_now text q formed k.0 k.1 (sym (name_is j s rep party (name_made q)) ∙ sym e ∙ f) rep told)

      begun_at : (new : Judge) (x : events.EventTask) (t : Task) → IsTaskFound (Some x) (Some t) → IsTaskPut j new party (Some t) → Represents new (record s { events = task_begun s.events party x })
      begun_at new (events.ask y) (task.Asks a) h put =
          let z : ScriptEvents = task_begun s.events party (events.ask y) in
          let u : ScriptState = record s { events = z } in
          let runs : IsTaskIn u party (Some (task.Asks a)) =
          task_is (Some (task.Asks a)) free (s.boards.parties party) (Some y) (z.asked party) None (s.events.session.doing party) free_now.is_free (ap (λ (b : Bool). if b then Some y else s.events.asked party) (text_itself party)) free_now.quiet.doing h in
          stands_with j new s u put.boards put.events put.things rep refl refl refl refl refl
          (tasks_put (task_of j) (task_of new) party (Some (task.Asks a)) s u put.tasks (λ p apart. rep.tasks p) (others_on_events s u party refl (λ p apart. ap (λ (b : Bool). if b then Some y else s.events.asked p) apart) (λ p apart. refl)) runs)
      begun_at new (events.act n c) (task.OnEvent m k) h put =
          let z : ScriptEvents = task_begun s.events party (events.act n c) in
          let u : ScriptState = record s { events = z } in
          let d : PartyCall = record { on = n; call = new_call s.events.session.begun c } in
          let runs : IsTaskIn u party (Some (task.OnEvent m k)) =
          task_is (Some (task.OnEvent m k)) free (s.boards.parties party) None (s.events.asked party) (Some d) (z.session.doing party) free_now.is_free free_now.quiet.asked (ap (λ (b : Bool). if b then Some d else s.events.session.doing party) (text_itself party)) (h.0, h.1 s.events.session.begun) in
          stands_with j new s u put.boards put.events put.things rep refl refl refl refl refl
          (tasks_put (task_of j) (task_of new) party (Some (task.OnEvent m k)) s u put.tasks (λ p apart. rep.tasks p) (others_on_events s u party refl (λ p apart. refl) (λ p apart. ap (λ (b : Bool). if b then Some d else s.events.session.doing p) apart)) runs)
      begun_at new (events.ask y) task.Gone h put = absurd h
      begun_at new (events.ask y) (task.OnBoards c) h put = absurd h
      begun_at new (events.ask y) (task.OnEvent m k) h put = absurd h
      begun_at new (events.act n c) task.Gone h put = absurd h
      begun_at new (events.act n c) (task.OnBoards k) h put = absurd h
      begun_at new (events.act n c) (task.Asks a) h put = absurd h

      pub ask_begun : (new : Judge) (o : Option Task) (t : Task) → IsTaskFound (events.task_of s.events party q) o → o ≡ Some t → (b : Bool) → b ≡ name_taken j party (name_made q) → b ≡ false → IsTaskPut j new party (Some t) → text ≡ answer_line answer.Begun → IsTelling new (line.Event party q) text s
      ask_begun new o t h is b e f put told =
          let k = some_is (events.task_of s.events party q) t (subst (IsTaskFound (events.task_of s.events party q)) is h) in
          telling new s (line.Event party q) text
          (asks_begins (Represents new) s party free_now text q formed k.0 k.1 (sym (name_is j s rep party (name_made q)) ∙ sym e ∙ f) (begun_at new k.0 t k.2 put) told)

  -- what a party's call uses was found
  pub notify_found : (name : List ℕ) (id n : ℕ) (row : EventRow) (k : EventCall) → thing_at j party name ≡ Some (thing.Notifier n) → IsSomeAnd (event_of s.events.session.stands n) (StandsFor row)
      → ((e : Event) (number : ℕ) → StandsFor row e → IsKeptOf k (new_call number (events.notify_call e id))) → IsTaskFound (events.task_of s.events party (request.Notify name id)) (Some (task.OnEvent n k))
  notify_found name id n row k is stands new =
      let e = some_holds s.events.session.stands n (StandsFor row) stands in
      let thing_is : s.events.things party name ≡ Some (events.notifier n) = sym (rep.things party name) ∙ ap (option_map thing_in) is in
      let found : events.task_of s.events party (request.Notify name id) ≡ Some (events.act n (events.notify_call e.0 id)) =
      ap (λ (o : Option events.EventThing). and_then (events.notified o) (events.on_event s.events (λ x. events.notify_call x id))) thing_is
      ∙ ap (λ (o : Option Event). and_then o (λ x. Some (events.act n (events.notify_call x id)))) e.1 in
      subst (λ (o : Option events.EventTask). IsTaskFound o (Some (task.OnEvent n k))) (sym found) (refl, λ number. new e.0 number e.2)

  pub wait_found : (name : List ℕ) (many : Bool) (mode : WaitMode) (n : ℕ) (row : EventRow) (k : EventCall) → thing_at j party name ≡ Some (thing.Listener n) → IsSomeAnd (event_of s.events.session.stands n) (StandsFor row)
      → ((e : Event) (number : ℕ) → StandsFor row e → IsKeptOf k (new_call number (events.wait_call e many mode))) → IsTaskFound (events.task_of s.events party (request.Wait name many mode)) (Some (task.OnEvent n k))
  wait_found name many mode n row k is stands new =
      let e = some_holds s.events.session.stands n (StandsFor row) stands in
      let thing_is : s.events.things party name ≡ Some (events.listener n) = sym (rep.things party name) ∙ ap (option_map thing_in) is in
      let found : events.task_of s.events party (request.Wait name many mode) ≡ Some (events.act n (events.wait_call e.0 many mode)) =
      ap (λ (o : Option events.EventThing). and_then (events.listened_event o) (events.on_event s.events (λ x. events.wait_call x many mode))) thing_is
      ∙ ap (λ (o : Option Event). and_then o (λ x. Some (events.act n (events.wait_call x many mode)))) e.1 in
      subst (λ (o : Option events.EventTask). IsTaskFound o (Some (task.OnEvent n k))) (sym found) (refl, λ number. new e.0 number e.2)

  -- and nothing where the party holds nothing of that kind under the name
  pub no_notify : (name : List ℕ) (id : ℕ) → ((n : ℕ) → thing_at j party name ≡ Some (thing.Notifier n) → ⊥) → IsTaskFound (events.task_of s.events party (request.Notify name id)) None
  no_notify name id h = at (thing_at j party name) refl
    where
      at : (o : Option EventThing) → thing_at j party name ≡ o → IsTaskFound (events.task_of s.events party (request.Notify name id)) None
      at None e = (
          let f : s.events.things party name ≡ None = sym (rep.things party name) ∙ ap (option_map thing_in) e in
          subst (λ (o : Option events.EventThing). IsTaskFound (and_then (events.notified o) (events.on_event s.events (λ x. events.notify_call x id))) None) (sym f) tt)
      at (Some (thing.Listener n)) e = (
          let f : s.events.things party name ≡ Some (events.listener n) = sym (rep.things party name) ∙ ap (option_map thing_in) e in
          subst (λ (o : Option events.EventThing). IsTaskFound (and_then (events.notified o) (events.on_event s.events (λ x. events.notify_call x id))) None) (sym f) tt)
      at (Some (thing.Notifier n)) e = absurd (h n e)

  pub no_wait : (name : List ℕ) (many : Bool) (mode : WaitMode) → ((n : ℕ) → thing_at j party name ≡ Some (thing.Listener n) → ⊥) → IsTaskFound (events.task_of s.events party (request.Wait name many mode)) None
  no_wait name many mode h = at (thing_at j party name) refl
    where
      at : (o : Option EventThing) → thing_at j party name ≡ o → IsTaskFound (events.task_of s.events party (request.Wait name many mode)) None
      at None e = (
          let f : s.events.things party name ≡ None = sym (rep.things party name) ∙ ap (option_map thing_in) e in
          subst (λ (o : Option events.EventThing). IsTaskFound (and_then (events.listened_event o) (events.on_event s.events (λ x. events.wait_call x many mode))) None) (sym f) tt)
      at (Some (thing.Notifier n)) e = (
          let f : s.events.things party name ≡ Some (events.notifier n) = sym (rep.things party name) ∙ ap (option_map thing_in) e in
          subst (λ (o : Option events.EventThing). IsTaskFound (and_then (events.listened_event o) (events.on_event s.events (λ x. events.wait_call x many mode))) None) (sym f) tt)
      at (Some (thing.Listener n)) e = absurd (h n e)

-- ---- listings

module _ (j : Judge) (s : ScriptState) (count : ℕ) (rep : Represents j s) (reached : IsReached s count) (n : ℕ) (formed : IsLine (board_line.Words n)) (text : List ℕ) (b : Bool) (told_b : b ≡ is_some (board_at (tables_of j.boards) n)) where
  board_is : is_some (board_at s.boards.standing.tables n) ≡ b
  board_is = sym (told_b ∙ ap (λ (x : Standing). is_some (board_at x.tables n)) rep.boards.standing)

  pub words_none : b ≡ false → text ≡ answer_line (answer.Refused reason.NoBoard) → IsTelling j (line.Board (board_line.Words n)) text s
  words_none e told = telling j s (line.Board (board_line.Words n)) text (lists_none (Represents j) s text n (board_is ∙ e) formed rep told)

  pub words_told : (words : List ℕ) → b ≡ true → words ≡ memory_of j.boards n → text ≡ answer_line (answer.Words words) → IsTelling j (line.Board (board_line.Words n)) text s
  words_told words e is told =
      telling j s (line.Board (board_line.Words n)) text
      (lists (Represents j) s text n words (board_is ∙ e) (is ∙ ap (λ (m : ℕ → List ℕ). m n) rep.boards.memory) formed (λ a h. reached.form (board_line.Words n) a h) rep told)
