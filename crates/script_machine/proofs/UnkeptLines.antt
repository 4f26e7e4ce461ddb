-- Why a line is refused of which only so much is known as a refusal depends on.
use Rattle.std.proofs.Common.{◌≡◌, ℕ, Bool, true, false, List, refl, sym, subst, ◌∙◌, Option, Some, None}
use Rattle.std.specs.Prelude.{◌||◌, if◌then◌else◌, not, Result, Ok, Err, OnErr}
use Rattle.std.specs.Global.{Vec}
use Rattle.std.specs.List.{list_all}
use Rattle.board_event_model.specs.declared.kind.EventKind.TheVariants as kind
use Rattle.board_model.specs.declared.answer.Answer.TheVariants as answer
use Rattle.board_model.specs.declared.answer.Reason.{Reason}
use Rattle.board_model.specs.declared.answer.Reason.TheVariants as reason
use Rattle.board_model.specs.declared.line.Call.{Call}
use Rattle.board_model.specs.declared.line.Call.TheVariants as call
use Rattle.board_model.specs.declared.line.Line.{Line}
use Rattle.board_model.specs.declared.line.Line.TheVariants as board_line
use Rattle.board_model.specs.AnswerGrammar.{answer_line}
use Rattle.board_model.specs.LawfulSession.{free_reason, has_key_type, reason_of}
use Rattle.board_model.specs.Parties.{Party, free, gone, running}
use Rattle.board_model.specs.Things.{is_held}
use Rattle.script_events.specs.PartyEvents.{refusal_of}
use Rattle.script_model.specs.declared.line.EventRequest.{EventRequest}
use Rattle.script_model.specs.declared.line.EventRequest.TheVariants as request
use Rattle.script_model.specs.declared.line.ScriptLine.{ScriptLine}
use Rattle.script_model.specs.declared.line.ScriptLine.TheVariants as line
use Rattle.script_model.specs.ScriptAnswers.{of_boards}
use Rattle.script_model.specs.ScriptSession.{IsRight}
use Rattle.script_model.specs.ScriptEvents.{EventTask, ask, holds_event, runs_on_events, to_listen, to_notify}
use Rattle.script_model.specs.ScriptTurns.{ScriptState, begin_turn, begins, free_turn, is_name_taken, refused}
use Rattle.script_parse.specs.declared.unkept.Made.{Made}
use Rattle.script_parse.specs.declared.unkept.Unkept.{Unkept}
use Rattle.script_parse.specs.Kept.{board_made, event_made, made_as, unkept, unkept_of}
use Rattle.script_print.specs.Room.{LacksRoomFor}
use Rattle.script_machine.specs.declared.machine.Machine.{Machine}
use Rattle.script_machine.specs.ScriptMachine.{OfEachState}
use Rattle.script_machine.specs.Unkept.{OfEachLine}
use Rattle.script_machine.specs.Wants.{LineTakes, MayWant, refusal, refusal_at}
use Rattle.script_machine.proofs.Wants.{refused_wants}

-- the reasons in their order, by what is looked at for each
abbrev refusal_by : (runs : Bool) → Option Reason → (held typed : Bool) → Option Reason
refusal_by true why held typed = Some reason.Busy
refusal_by false (Some why) held typed = Some why
refusal_by false None true typed = Some reason.Taken
refusal_by false None false false = Some reason.Type
refusal_by false None false true = None

-- a call on boards
on_boards : (s : ScriptState) (l : Line) (runs by_event by_board typed : Bool) (p : Party)
    → reason_of s.boards l ≡ free_reason p (if by_board then Some reason.Taken else if not typed then Some reason.Type else None)
    → refusal_at s (line.Board l) (if runs then Some (refused reason.Busy) else begin_turn p by_event) ≡ refusal_by runs (free_reason p None) (by_board || by_event) typed
on_boards s l true by_event by_board typed p h = refl
on_boards s l false true true typed free h = refl
on_boards s l false true false typed free h = refl
on_boards s l false false true typed free h = h
on_boards s l false false false true free h = h
on_boards s l false false false false free h = h
on_boards s l false by_event by_board typed (running r) h = h
on_boards s l false by_event by_board typed gone h = h

-- a call on events
on_events : (runs held : Bool) (p : Party) (party : List ℕ) (t : EventTask)
    → refusal_of (if runs then refused reason.Busy else free_turn p (if held then refused reason.Taken else begins party t)) ≡ refusal_by runs (free_reason p None) held true
on_events true held p party t = refl
on_events false true free party t = refl
on_events false false free party t = refl
on_events false held (running r) party t = refl
on_events false held gone party t = refl

abbrev some_line : Unkept → Option Unkept
some_line u = Some u

module _ (s : ScriptState) where
  -- what is looked at
  abbrev looked_at : Unkept → Option Reason
  looked_at u = refusal_by (runs_on_events s.events u.party) (free_reason (s.boards.parties u.party) None) (is_name_taken s u.party (Some u.made.name)) u.made.is_typed

  known : (l : ScriptLine) (party : List ℕ) (m : Made) (u : Unkept) → some_line (record { party = party; made = m }) ≡ Some u → refusal s l ≡ looked_at (record { party = party; made = m }) → refusal s l ≡ looked_at u
  known l party m u e h = (let same : record { party = party; made = m } ≡ u = cc in subst (λ (x : Unkept). refusal s l ≡ looked_at x) same h)

  on_board_call : (party : List ℕ) (c : Call) (u : Unkept) → unkept party (board_made c) ≡ Some u → refusal s (line.Board (board_line.Begin party c)) ≡ looked_at u
  on_board_call party (call.Create f n k limits attributes entries) u e =
      let l : Line = board_line.Begin party (call.Create f n k limits attributes entries) in
      known (line.Board l) party (record { name = f; is_typed = list_all (has_key_type k) entries }) u e
      (on_boards s l (runs_on_events s.events party) (holds_event s.events party f) (is_held s.boards.standing party f) (list_all (has_key_type k) entries) (s.boards.parties party) refl)
  on_board_call party (call.Open f n k limits needs) u e =
      let l : Line = board_line.Begin party (call.Open f n k limits needs) in
      known (line.Board l) party (made_as f) u e (on_boards s l (runs_on_events s.events party) (holds_event s.events party f) (is_held s.boards.standing party f) true (s.boards.parties party) refl)
  on_board_call party c u e = absurd cc

  on_event_call : (party : List ℕ) (q : EventRequest) (u : Unkept) → unkept party (event_made q) ≡ Some u → refusal s (line.Event party q) ≡ looked_at u
  on_event_call party (request.ListenBits name event max) u e =
      known (line.Event party (request.ListenBits name event max)) party (made_as name) u e
      (on_events (runs_on_events s.events party) (is_name_taken s party (Some name)) (s.boards.parties party) party (ask (to_listen name kind.Bits event max)))
  on_event_call party (request.ListenQueue name event) u e =
      known (line.Event party (request.ListenQueue name event)) party (made_as name) u e
      (on_events (runs_on_events s.events party) (is_name_taken s party (Some name)) (s.boards.parties party) party (ask (to_listen name kind.Queue event 0)))
  on_event_call party (request.Notifier name k event) u e =
      known (line.Event party (request.Notifier name k event)) party (made_as name) u e
      (on_events (runs_on_events s.events party) (is_name_taken s party (Some name)) (s.boards.parties party) party (ask (to_notify name k event)))
  on_event_call party (request.Notify name id) u e = absurd cc
  on_event_call party (request.Wait name many mode) u e = absurd cc

  -- that is all that the refusal depends on
  by_looks : (l : ScriptLine) (u : Unkept) → unkept_of l ≡ Some u → refusal s l ≡ looked_at u
  by_looks (line.Board (board_line.Begin party c)) u e = on_board_call party c u e
  by_looks (line.Board (board_line.Step party)) u e = absurd cc
  by_looks (line.Board (board_line.Release party name)) u e = absurd cc
  by_looks (line.Board (board_line.Abandon party)) u e = absurd cc
  by_looks (line.Board (board_line.Words n)) u e = absurd cc
  by_looks (line.Event party q) u e = on_event_call party q u e
  by_looks (line.Expire party) u e = absurd cc

  module _ (l : ScriptLine) (u : Unkept) (e : unkept_of l ≡ Some u) where
    pub told_busy : runs_on_events s.events u.party ≡ true → Some reason.Busy ≡ refusal s l
    told_busy runs = sym (by_looks l u e ∙ (rw runs refl))

    pub told_unfree : (why : Reason) → runs_on_events s.events u.party ≡ false → free_reason (s.boards.parties u.party) None ≡ Some why → Some why ≡ refusal s l
    told_unfree why runs unfree = sym (by_looks l u e ∙ (rw (runs, unfree) refl))

    module _ (runs : runs_on_events s.events u.party ≡ false) (is_free : free_reason (s.boards.parties u.party) None ≡ None) where
      pub told_taken : is_name_taken s u.party (Some u.made.name) ≡ true → Some reason.Taken ≡ refusal s l
      told_taken taken = sym (by_looks l u e ∙ (rw (runs, is_free, taken) refl))

      pub told_untyped : is_name_taken s u.party (Some u.made.name) ≡ false → u.made.is_typed ≡ false → Some reason.Type ≡ refusal s l
      told_untyped taken typed = sym (by_looks l u e ∙ (rw (runs, is_free, taken, typed) refl))

      pub told_unrefused : is_name_taken s u.party (Some u.made.name) ≡ false → u.made.is_typed ≡ true → None ≡ refusal s l
      told_unrefused taken typed = sym (by_looks l u e ∙ (rw (runs, is_free, taken, typed) refl))

  -- such a line takes memory where it isn't refused
  pub takes_unrefused : (l : ScriptLine) (u : Unkept) → unkept_of l ≡ Some u → refusal s l ≡ None → LineTakes s l
  takes_unrefused (line.Board (board_line.Begin party c)) u e none = none
  takes_unrefused (line.Board (board_line.Step party)) u e none = absurd cc
  takes_unrefused (line.Board (board_line.Release party name)) u e none = absurd cc
  takes_unrefused (line.Board (board_line.Abandon party)) u e none = absurd cc
  takes_unrefused (line.Board (board_line.Words n)) u e none = absurd cc
  takes_unrefused (line.Event party q) u e none = none
  takes_unrefused (line.Expire party) u e none = absurd cc

-- a refusal that was told of such a line
pub each_refused_wants : {C T E : Type 0} (r : Result T E) (m : Machine C) (u : Unkept) (out : Vec ℕ) (why : Reason) → OnErr r (LacksRoomFor out (answer_line (answer.Refused why))) → OfEachLine u (λ l. OfEachState m (λ s. IsRight s l (of_boards (answer.Refused why))))
    → OnErr r (OfEachLine u (λ l. MayWant m l out))
each_refused_wants (Ok x) m u out why lacks right = tt
each_refused_wants {T = T} (Err e) m u out why lacks right = λ l formed known. refused_wants {T = T} (Err e) m l out why lacks (right l formed known)
