-- What a line of a free party is told, and what lines that any party may have are.
use Rattle.std.proofs.Common.{◌≡◌, ℕ, Bool, true, false, List, refl, sym, ap, subst, ◌∙◌, Option, Some, None}
use Rattle.std.specs.Prelude.{◌&&◌, is_some}
use Rattle.board_cell_model.specs.declared.access.Access.{Access}
use Rattle.board_cell_model.specs.declared.access.Access.TheVariants as access
use Rattle.board_cell_model.specs.OwedAccesses.{owed_of}
use Rattle.board_event_model.specs.EventSessions.{PartyCall, expire_of, next_session}
use Rattle.board_model.specs.declared.answer.Answer.{Answer}
use Rattle.board_model.specs.declared.answer.Answer.TheVariants as answer
use Rattle.board_model.specs.declared.answer.Reason.{Reason}
use Rattle.board_model.specs.declared.answer.Reason.TheVariants as reason
use Rattle.board_model.specs.declared.answer.Reply.{Reply}
use Rattle.board_model.specs.declared.answer.Reply.TheVariants as reply
use Rattle.board_model.specs.declared.line.Call.{Call}
use Rattle.board_model.specs.declared.line.Line.TheVariants as board_line
use Rattle.board_model.specs.AnswerGrammar.{IsAnswer, answer_line}
use Rattle.board_model.specs.LineGrammar.{IsLine}
use Rattle.board_model.specs.LawsOfForms.{IsRightButForm}
use Rattle.board_model.specs.Memory.{IsStanding}
use Rattle.board_model.specs.Parties.{Party, Running, begun, free, gone, owed, running, with_party}
use Rattle.board_model.specs.Replies.{dropped}
use Rattle.board_model.specs.Requests.{Request, new_name, request_of}
use Rattle.board_model.specs.Tables.{board_at}
use Rattle.board_model.specs.Things.{is_held}
use Rattle.board_model.specs.LawfulSession as boards
use Rattle.board_model.specs.LawfulSession.{IsReasoned, IsTold, State, abandon_reason, call_reason, free_reason, reason_of, stepped}
use Rattle.script_model.specs.declared.line.EventRequest.{EventRequest}
use Rattle.script_model.specs.declared.line.ScriptLine.TheVariants as line
use Rattle.script_model.specs.ScriptAnswers.{expired, of_boards, script_answer_line}
use Rattle.script_model.specs.ScriptEvents.{EventAsk, EventTask, event_let_go, events_abandoned, holds_event, name_made, task_of}
use Rattle.script_model.specs.ScriptGrammar.{IsScriptLine}
use Rattle.script_model.specs.ScriptTurns.{EventTurn, ScriptState, begins, board_turn, drops, expires, is_name_taken, may_expire, refused, takes_event_name, task_begun, task_turn, turn_of}
use Rattle.script_judge.proofs.Lines.{IsQuiet, Told, board_refused, quiet, told_alone, told_refused, told_turn}

-- a free party, that runs nothing
pub record IsFree (s : ScriptState) (party : List ℕ) : Type 0 where
  pub is_free : s.boards.parties party ≡ free
  pub quiet : IsQuiet s party

-- ---- calls on boards

module _ (R : ScriptState → Type 0) (s : ScriptState) (party : List ℕ) (h : IsFree s party) (text : List ℕ) where
  module _ (c : Call) (formed : IsLine (board_line.Begin party c)) where
    abbrev pub request : Option Request
    request = request_of s.boards.standing s.boards.published party c

    abbrev pub takes : Bool
    takes = takes_event_name s.events party (new_name c)

    begin_alone : (is_some request && takes) ≡ false → board_turn s (board_line.Begin party c) ≡ None
    begin_alone e = rw (quiet s party h.quiet, h.is_free, e) refl

    begin_reason : reason_of s.boards (board_line.Begin party c) ≡ call_reason s.boards.standing party c request
    begin_reason = rw h.is_free refl

    pub begins_refused : (why : Reason) → (is_some request && takes) ≡ false → call_reason s.boards.standing party c request ≡ Some why → R s → text ≡ answer_line (answer.Refused why) → Told R s (line.Board (board_line.Begin party c)) text
    begins_refused why e is stands told = board_refused R s (board_line.Begin party c) why text (begin_alone e) (begin_reason ∙ is) formed stands told

    pub begins_taken : (is_some request && takes) ≡ true → R s → text ≡ answer_line (answer.Refused reason.Taken) → Told R s (line.Board (board_line.Begin party c)) text
    begins_taken e stands told =
        let turn : board_turn s (board_line.Begin party c) ≡ Some (refused reason.Taken) = rw (quiet s party h.quiet, h.is_free, e) refl in
        told_refused R s (line.Board (board_line.Begin party c)) reason.Taken text turn formed stands told

    pub begins_board : (is_some request && takes) ≡ false → call_reason s.boards.standing party c request ≡ None → R (record s { boards = record s.boards { parties = with_party s.boards.parties party (begun request) } }) → text ≡ answer_line answer.Begun → Told R s (line.Board (board_line.Begin party c)) text
    begins_board e is stands told =
        let none : reason_of s.boards (board_line.Begin party c) ≡ None = begin_reason ∙ is in
        told_alone R s (board_line.Begin party c) answer.Begun text (begin_alone e) (record {
          line = formed;
          answer = tt;
          reason = subst (λ (o : Option Reason). IsReasoned o answer.Begun) (sym none) tt;
          owed = λ e. refl;
          word = λ e. tt;
          reply = λ e. tt;
        }) stands told

  -- ---- drops

  module _ (name : List ℕ) (formed : IsLine (board_line.Release party name)) where
    pub drops_event : holds_event s.events party name ≡ true → R (record s { events = event_let_go s.events party name (s.events.things party name) }) → text ≡ answer_line (answer.Step access.Table (Some reply.Done)) → IsAnswer (answer.Step access.Table (Some reply.Done)) → Told R s (line.Board (board_line.Release party name)) text
    drops_event holds stands told form =
        let turn : board_turn s (board_line.Release party name) ≡ Some (drops party name) = rw (quiet s party h.quiet, h.is_free, holds) refl in
        told_turn R s (line.Board (board_line.Release party name)) (drops party name) (of_boards (answer.Step access.Table (Some reply.Done))) text turn formed refl form stands told

    drop_alone : holds_event s.events party name ≡ false → board_turn s (board_line.Release party name) ≡ None
    drop_alone holds = rw (quiet s party h.quiet, h.is_free, holds) refl

    pub drops_nothing : holds_event s.events party name ≡ false → is_held s.boards.standing party name ≡ false → R s → text ≡ answer_line (answer.Refused reason.Unknown) → Told R s (line.Board (board_line.Release party name)) text
    drops_nothing holds held stands told = board_refused R s (board_line.Release party name) reason.Unknown text (drop_alone holds) (rw (h.is_free, held) refl) formed stands told

    pub drops_thing : holds_event s.events party name ≡ false → is_held s.boards.standing party name ≡ true → R (record s { boards = record s.boards { standing = dropped s.boards.standing party name } }) → text ≡ answer_line (answer.Step access.Table (Some reply.Done)) → IsAnswer (answer.Step access.Table (Some reply.Done)) → Told R s (line.Board (board_line.Release party name)) text
    drops_thing holds held stands told form =
        let none : reason_of s.boards (board_line.Release party name) ≡ None = rw (h.is_free, held) refl in
        told_alone R s (board_line.Release party name) (answer.Step access.Table (Some reply.Done)) text (drop_alone holds) (record {
          line = formed;
          answer = form;
          reason = subst (λ (o : Option Reason). IsReasoned o (answer.Step access.Table (Some reply.Done))) (sym none) tt;
          owed = λ e. refl;
          word = λ e. tt;
          reply = λ e. tt;
        }) stands told

  -- ---- calls on events

  module _ (q : EventRequest) (formed : IsScriptLine (line.Event party q)) where
    ask_turn : turn_of s (line.Event party q) ≡ Some (task_turn s party q (task_of s.events party q))
    ask_turn = rw (quiet s party h.quiet, h.is_free) refl

    pub asks_unknown : task_of s.events party q ≡ None → R s → text ≡ answer_line (answer.Refused reason.Unknown) → Told R s (line.Event party q) text
    asks_unknown none stands told =
        told_refused R s (line.Event party q) reason.Unknown text (ask_turn ∙ ap (λ (o : Option EventTask). Some (task_turn s party q o)) none) formed stands told

    pub asks_taken : (t : EventTask) → task_of s.events party q ≡ Some t → is_name_taken s party (name_made q) ≡ true → R s → text ≡ answer_line (answer.Refused reason.Taken) → Told R s (line.Event party q) text
    asks_taken t found taken stands told =
        let turn : task_turn s party q (Some t) ≡ refused reason.Taken = rw taken refl in
        told_refused R s (line.Event party q) reason.Taken text (ask_turn ∙ ap (λ (o : Option EventTask). Some (task_turn s party q o)) found ∙ ap (λ (x : EventTurn). Some x) turn) formed stands told

    pub asks_begins : (t : EventTask) → task_of s.events party q ≡ Some t → is_name_taken s party (name_made q) ≡ false → R (record s { events = task_begun s.events party t }) → text ≡ answer_line answer.Begun → Told R s (line.Event party q) text
    asks_begins t found taken stands told =
        let turn : task_turn s party q (Some t) ≡ begins party t = rw taken refl in
        told_turn R s (line.Event party q) (begins party t) (of_boards answer.Begun) text (ask_turn ∙ ap (λ (o : Option EventTask). Some (task_turn s party q o)) found ∙ ap (λ (x : EventTurn). Some x) turn) formed refl tt stands told

  -- ---- steps

  pub steps_idle : IsLine (board_line.Step party) → R s → text ≡ answer_line (answer.Refused reason.Idle) → Told R s (line.Board (board_line.Step party)) text
  steps_idle formed stands told = board_refused R s (board_line.Step party) reason.Idle text (rw (quiet s party h.quiet) refl) (rw h.is_free refl) formed stands told

  pub expires_idle : IsScriptLine (line.Expire party) → R s → text ≡ answer_line (answer.Refused reason.Idle) → Told R s (line.Expire party) text
  expires_idle formed stands told = told_refused R s (line.Expire party) reason.Idle text (rw (h.is_free, h.quiet.asked, h.quiet.doing) refl) formed stands told

-- ---- a party that is gone

module _ (R : ScriptState → Type 0) (s : ScriptState) (party : List ℕ) (is_gone : s.boards.parties party ≡ gone) (text : List ℕ) (stands : R s) (told : text ≡ answer_line (answer.Refused reason.Abandoned)) where
  pub steps_gone : IsQuiet s party → IsLine (board_line.Step party) → Told R s (line.Board (board_line.Step party)) text
  steps_gone q formed = board_refused R s (board_line.Step party) reason.Abandoned text (rw (quiet s party q) refl) (rw is_gone refl) formed stands told

  pub abandons_gone : IsLine (board_line.Abandon party) → Told R s (line.Board (board_line.Abandon party)) text
  abandons_gone formed = board_refused R s (board_line.Abandon party) reason.Abandoned text refl (rw is_gone refl) formed stands told

  pub expires_gone : IsScriptLine (line.Expire party) → Told R s (line.Expire party) text
  expires_gone formed = told_refused R s (line.Expire party) reason.Abandoned text (rw is_gone refl) formed stands told

-- ---- abandonments, listings, expiries

module _ (R : ScriptState → Type 0) (s : ScriptState) (text : List ℕ) where
  pub abandons : (party : List ℕ) → abandon_reason (s.boards.parties party) ≡ None → IsLine (board_line.Abandon party) → R (record { boards = record s.boards { parties = with_party s.boards.parties party gone }; events = events_abandoned s.events party }) → text ≡ answer_line answer.Gone → Told R s (line.Board (board_line.Abandon party)) text
  abandons party none formed stands told =
      told_alone R s (board_line.Abandon party) answer.Gone text refl (record {
        line = formed;
        answer = tt;
        reason = subst (λ (o : Option Reason). IsReasoned o answer.Gone) (sym none) tt;
        owed = λ e. refl;
        word = λ e. tt;
        reply = λ e. tt;
      }) stands told

  pub lists : (n : ℕ) (words : List ℕ) → is_some (board_at s.boards.standing.tables n) ≡ true → words ≡ s.boards.memory n → IsLine (board_line.Words n) → ((a : Answer) → IsRightButForm s.boards (board_line.Words n) a → IsAnswer a) → R s → text ≡ answer_line (answer.Words words) → Told R s (line.Board (board_line.Words n)) text
  lists n words there is formed form stands told =
      let none : reason_of s.boards (board_line.Words n) ≡ None = rw there refl in
      let reasoned : IsReasoned (reason_of s.boards (board_line.Words n)) (answer.Words words) = subst (λ (o : Option Reason). IsReasoned o (answer.Words words)) (sym none) tt in
      let rules : IsRightButForm s.boards (board_line.Words n) (answer.Words words) = record { line = formed; reason = reasoned; owed = λ e. tt; word = λ e. is; reply = λ e. tt } in
      told_alone R s (board_line.Words n) (answer.Words words) text refl (record {
        line = formed;
        answer = form (answer.Words words) rules;
        reason = reasoned;
        owed = λ e. tt;
        word = λ e. is;
        reply = λ e. tt;
      }) stands told

  pub lists_none : (n : ℕ) → is_some (board_at s.boards.standing.tables n) ≡ false → IsLine (board_line.Words n) → R s → text ≡ answer_line (answer.Refused reason.NoBoard) → Told R s (line.Board (board_line.Words n)) text
  lists_none n none formed stands told = board_refused R s (board_line.Words n) reason.NoBoard text refl (rw none refl) formed stands told

  module _ (party : List ℕ) (formed : IsScriptLine (line.Expire party)) where
    pub expires_running : (r : Running) → s.boards.parties party ≡ running r → R s → text ≡ answer_line (answer.Refused reason.NotWaiting) → Told R s (line.Expire party) text
    expires_running r runs stands told = told_refused R s (line.Expire party) reason.NotWaiting text (rw runs refl) formed stands told

    pub expires_asking : (q : EventAsk) → s.boards.parties party ≡ free → s.events.asked party ≡ Some q → R s → text ≡ answer_line (answer.Refused reason.NotWaiting) → Told R s (line.Expire party) text
    expires_asking q is asked stands told = told_refused R s (line.Expire party) reason.NotWaiting text (rw (is, asked) refl) formed stands told

    module _ (d : PartyCall) (is : s.boards.parties party ≡ free) (asked : s.events.asked party ≡ None) (doing : s.events.session.doing party ≡ Some d) where
      pub expires_early : may_expire d ≡ false → R s → text ≡ answer_line (answer.Refused reason.NotWaiting) → Told R s (line.Expire party) text
      expires_early may stands told = told_refused R s (line.Expire party) reason.NotWaiting text (rw (is, asked, doing, may) refl) formed stands told

      pub expires_waiting : may_expire d ≡ true → R (record s { events = record s.events { session = next_session s.events.session (expire_of party) } }) → text ≡ script_answer_line expired → Told R s (line.Expire party) text
      expires_waiting may stands told =
          let turn : turn_of s (line.Expire party) ≡ Some (expires party) = rw (is, asked, doing, may) refl in
          told_turn R s (line.Expire party) (expires party) expired text turn formed refl tt stands told

-- ---- steps of calls on boards

module _ (R : ScriptState → Type 0) (s : ScriptState) (party : List ℕ) (r : Running) (runs : s.boards.parties party ≡ running r) (q : IsQuiet s party) (text : List ℕ) where
  -- the step makes the owed access, reads what stands, and is told what is due
  pub steps_board : (a : Access) (told : Option Reply) → owed_of a ≡ owed r.request r.so_far → IsStanding s.boards.memory a → IsTold s.boards party r a told → IsLine (board_line.Step party)
      → ((x : Answer) → IsRightButForm s.boards (board_line.Step party) x → IsAnswer x) → R (record s { boards = stepped s.boards party r a told }) → text ≡ answer_line (answer.Step a told) → Told R s (line.Board (board_line.Step party)) text
  steps_board a told owes standing due formed form stands text_is =
      let none : reason_of s.boards (board_line.Step party) ≡ None = rw runs refl in
      let reasoned : IsReasoned (reason_of s.boards (board_line.Step party)) (answer.Step a told) = subst (λ (o : Option Reason). IsReasoned o (answer.Step a told)) (sym none) tt in
      let owed_is : boards.IsOwed s.boards (board_line.Step party) (answer.Step a told) = subst (λ (p : Party). boards.IsOwedStep p (answer.Step a told)) (sym runs) owes in
      let replied : boards.IsReplied s.boards (board_line.Step party) (answer.Step a told) = subst (λ (p : Party). boards.IsToldStep s.boards party p (answer.Step a told)) (sym runs) due in
      let rules : IsRightButForm s.boards (board_line.Step party) (answer.Step a told) = record { line = formed; reason = reasoned; owed = λ e. owed_is; word = λ e. standing; reply = λ e. replied } in
      told_alone R s (board_line.Step party) (answer.Step a told) text (rw (quiet s party q) refl) (record {
        line = formed;
        answer = form (answer.Step a told) rules;
        reason = reasoned;
        owed = λ e. owed_is;
        word = λ e. standing;
        reply = λ e. replied;
      }) (subst (λ (p : Party). R (record s { boards = boards.after_step s.boards party p a told })) (sym runs) stands) text_is
