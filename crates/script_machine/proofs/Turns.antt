-- What a line is on account of events, and the machine after its answer.
use Rattle.std.proofs.Common.{◌≡◌, ℕ, Bool, true, false, List, [], ◌++◌, refl, sym, ap, subst, ◌∙◌, Option, Some, None}
use Rattle.std.specs.Prelude.{◌&&◌, if◌then◌else◌, is_some}
use Rattle.std.specs.List.{AllByRecursion}
use Rattle.board_model.specs.Tables.{board_at}
use Rattle.board_model.specs.declared.answer.Answer.{Answer}
use Rattle.board_model.specs.declared.answer.Answer.TheVariants as answer
use Rattle.board_model.specs.declared.answer.Reason.{Reason}
use Rattle.board_model.specs.declared.answer.Reason.TheVariants as reason
use Rattle.board_model.specs.declared.line.Call.{Call}
use Rattle.board_model.specs.declared.line.Line.{Line}
use Rattle.board_model.specs.declared.line.Line.TheVariants as board_line
use Rattle.board_model.specs.AnswerGrammar.{answer_line}
use Rattle.board_model.specs.LineGrammar.{IsLine, IsNumber}
use Rattle.board_model.specs.Parties.{Party, free, gone, running}
use Rattle.board_model.specs.Requests.{Request, new_name, request_of}
use Rattle.board_model.specs.LawfulSession as rules
use Rattle.board_model.specs.LawfulSession.{free_reason}
use Rattle.script_boards.specs.Begins.{finds_all}
use Rattle.script_boards.specs.declared.machine.BoardMachine.{BoardMachine}
use Rattle.script_boards.specs.Machine as boards
use Rattle.script_events.specs.PartyEvents as events
use Rattle.board_event_model.specs.EventSessions.{PartyCall}
use Rattle.script_model.specs.declared.line.EventRequest.{EventRequest}
use Rattle.script_model.specs.declared.line.ScriptLine.{ScriptLine}
use Rattle.script_model.specs.declared.line.ScriptLine.TheVariants as line
use Rattle.script_model.specs.ScriptAnswers.{IsScriptAnswer, ScriptAnswer, expired, of_boards, script_answer_line}
use Rattle.script_model.specs.ScriptEvents.{EventAsk, EventTask, ScriptEvents, events_abandoned, holds_event, name_made, runs_on_events, task_of}
use Rattle.script_model.specs.ScriptGrammar.{IsScriptLine}
use Rattle.script_model.specs.ScriptSession.{after_boards, after_turn}
use Rattle.script_model.specs.ScriptTurns.{EventTurn, IsTurnAnswer, ScriptState, begin_turn, begins, board_turn, drop_turn, drops, expire_of_call, expires, free_turn, is_name_taken, may_expire, refused, steps, takes_event_name, task_turn, turn_of, turned}
use Rattle.script_model.proofs.RuleLemmas.{right_on_boards, right_on_events}
use Rattle.script_machine.specs.declared.machine.Machine.{Machine}
use Rattle.script_machine.specs.ScriptMachine.{IsTelling, Represents, is_gone_answer, no_wait}

-- ---- answers

-- what is added to nothing is all
pub from_nothing : (old new more : List ℕ) → old ≡ [] → new ≡ old ++ more → new ≡ more
from_nothing old new more e f = f ∙ ap (λ (xs : List ℕ). xs ++ more) e

-- a line that is the boards' alone was answered by their rules
pub told_alone : {C : Type 0} (new : Machine C) (s : ScriptState) (l : Line) (a : Answer) (text : List ℕ) → board_turn s l ≡ None → IsLine l → rules.IsRight s.boards l a
    → Represents new (record { boards = rules.after s.boards l a; events = after_boards s.events l a }) → text ≡ answer_line a → IsTelling new (line.Board l) text s
told_alone new s l a text turn formed right represents told = record {
  answer = of_boards a;
  right = right_on_boards s l a turn right;
  represents = subst (λ (t : Option EventTurn). Represents new (after_turn s (line.Board l) (of_boards a) t)) (sym turn) represents;
  told = told;
}

-- a line that events have to do with was answered by theirs
pub told_turn : {C : Type 0} (new : Machine C) (s : ScriptState) (l : ScriptLine) (t : EventTurn) (a : ScriptAnswer) (text : List ℕ) → turn_of s l ≡ Some t → IsScriptLine l → IsTurnAnswer s.events t a → IsScriptAnswer a
    → Represents new (record s { events = turned s.events t a }) → text ≡ script_answer_line a → IsTelling new l text s
told_turn new s l t a text turn formed right grammar represents told = record {
  answer = a;
  right = right_on_events s l t a turn formed right grammar;
  represents = subst (λ (x : Option EventTurn). Represents new (after_turn s l a x)) (sym turn) represents;
  told = told;
}

-- a line was refused on their account
pub told_refused : {C : Type 0} (m : Machine C) (s : ScriptState) (l : ScriptLine) (why : Reason) (text : List ℕ) → turn_of s l ≡ Some (refused why) → IsScriptLine l
    → Represents m s → text ≡ answer_line (answer.Refused why) → IsTelling m l text s
told_refused m s l why text turn formed represents told = told_turn m s l (refused why) (of_boards (answer.Refused why)) text turn formed refl tt represents told

-- where there is none
pub none_is : {A : Type 0} (o : Option A) → is_some o ≡ false → None ≡ o
none_is None h = refl
none_is (Some x) h = absurd cc

pub never_some : {A : Type 0} (o : Option A) → ((x : A) → o ≡ Some x → ⊥) → None ≡ o
never_some None h = refl
never_some (Some x) h = absurd (h x refl)

-- ---- the machine

-- its machine of boards is the same
pub same_boards : {C : Type 0} (m : Machine C) (s : ScriptState) (b : BoardMachine C) → b ≡ m.boards → Represents m s → Represents (record m { boards = b }) s
same_boards m s b e rep = record { alive = rep.alive; boards = subst (λ x. boards.Represents x s.boards) (sym e) rep.boards; events = rep.events }

-- ---- calls on boards

module _ (s : ScriptState) (party : List ℕ) (c : Call) where
  abbrev request : Option Request
  request = request_of s.boards.standing s.boards.published party c

  abbrev takes : Bool
  takes = takes_event_name s.events party (new_name c)

  pub begin_busy : runs_on_events s.events party ≡ true → board_turn s (board_line.Begin party c) ≡ Some (refused reason.Busy)
  begin_busy h = rw h refl

  found_free : (p : Party) (q : Option Request) (t : Bool) → finds_all p q ≡ true → t ≡ true → begin_turn p (is_some q && t) ≡ Some (refused reason.Taken)
  found_free free (Some q) true f e = refl
  found_free free (Some q) false f e = absurd cc
  found_free free None t f e = absurd cc
  found_free (running r) q t f e = absurd cc
  found_free gone q t f e = absurd cc

  not_found : (p : Party) (q : Option Request) (t : Bool) → finds_all p q ≡ false → begin_turn p (is_some q && t) ≡ None
  not_found free (Some q) t f = absurd cc
  not_found free None t f = refl
  not_found (running r) q t f = refl
  not_found gone q t f = refl

  not_taken : (p : Party) (q : Option Request) (t : Bool) → t ≡ false → begin_turn p (is_some q && t) ≡ None
  not_taken free (Some q) false e = refl
  not_taken free (Some q) true e = absurd cc
  not_taken free None t e = refl
  not_taken (running r) q t e = refl
  not_taken gone q t e = refl

  pub begin_taken : runs_on_events s.events party ≡ false → takes ≡ true → finds_all (s.boards.parties party) request ≡ true → board_turn s (board_line.Begin party c) ≡ Some (refused reason.Taken)
  begin_taken h t f = rw h (found_free (s.boards.parties party) request takes f t)

  pub begin_unfound : runs_on_events s.events party ≡ false → finds_all (s.boards.parties party) request ≡ false → board_turn s (board_line.Begin party c) ≡ None
  begin_unfound h f = rw h (not_found (s.boards.parties party) request takes f)

  pub begin_alone : runs_on_events s.events party ≡ false → takes ≡ false → board_turn s (board_line.Begin party c) ≡ None
  begin_alone h t = rw h (not_taken (s.boards.parties party) request takes t)

-- ---- steps and drops

module _ (s : ScriptState) (party : List ℕ) where
  pub step_taken : runs_on_events s.events party ≡ true → board_turn s (board_line.Step party) ≡ Some (steps party)
  step_taken h = rw h refl

  pub step_alone : runs_on_events s.events party ≡ false → board_turn s (board_line.Step party) ≡ None
  step_alone h = rw h refl

  abbrev why_not_free : Option Reason
  why_not_free = free_reason (s.boards.parties party) None

  -- a party for which there is no refusal is free
  pub is_free : (p : Party) → None ≡ free_reason p None → p ≡ free
  is_free free e = refl
  is_free (running r) e = absurd cc
  is_free gone e = absurd cc

  drop_busy : (p : Party) (held : Bool) (name : List ℕ) → is_some (free_reason p None) ≡ true → drop_turn p held party name ≡ None
  drop_busy free held name e = absurd cc
  drop_busy (running r) held name e = refl
  drop_busy gone held name e = refl

  drop_unheld : (p : Party) (held : Bool) (name : List ℕ) → held ≡ false → drop_turn p held party name ≡ None
  drop_unheld free false name e = refl
  drop_unheld free true name e = absurd cc
  drop_unheld (running r) held name e = refl
  drop_unheld gone held name e = refl

  module _ (name : List ℕ) where
    pub release_busy : runs_on_events s.events party ≡ true → board_turn s (board_line.Release party name) ≡ Some (refused reason.Busy)
    release_busy h = rw h refl

    pub release_held : runs_on_events s.events party ≡ false → None ≡ why_not_free → holds_event s.events party name ≡ true → board_turn s (board_line.Release party name) ≡ Some (drops party name)
    release_held h f e = rw (h, is_free (s.boards.parties party) f, e) refl

    pub release_unfree : runs_on_events s.events party ≡ false → is_some why_not_free ≡ true → board_turn s (board_line.Release party name) ≡ None
    release_unfree h f = rw h (drop_busy (s.boards.parties party) (holds_event s.events party name) name f)

    pub release_unheld : runs_on_events s.events party ≡ false → holds_event s.events party name ≡ false → board_turn s (board_line.Release party name) ≡ None
    release_unheld h e = rw h (drop_unheld (s.boards.parties party) (holds_event s.events party name) name e)

  -- ---- calls on events

  some_refusal : (p : Party) (why : Reason) (t : EventTurn) → Some why ≡ free_reason p None → free_turn p t ≡ refused why
  some_refusal free why t e = absurd cc
  some_refusal (running r) why t e = (let w : why ≡ reason.Busy = cc in ap refused (sym w))
  some_refusal gone why t e = (let w : why ≡ reason.Abandoned = cc in ap refused (sym w))

  module _ (q : EventRequest) where
    pub event_busy : runs_on_events s.events party ≡ true → turn_of s (line.Event party q) ≡ Some (refused reason.Busy)
    event_busy h = rw h refl

    pub event_unfree : (why : Reason) → runs_on_events s.events party ≡ false → Some why ≡ why_not_free → turn_of s (line.Event party q) ≡ Some (refused why)
    event_unfree why h f = rw h (ap (λ (t : EventTurn). Some t) (some_refusal (s.boards.parties party) why (task_turn s party q (task_of s.events party q)) f))

    pub event_turn : runs_on_events s.events party ≡ false → None ≡ why_not_free → turn_of s (line.Event party q) ≡ Some (task_turn s party q (task_of s.events party q))
    event_turn h f = rw (h, is_free (s.boards.parties party) f) refl

  -- ---- expiries

  pub expire_unfree : (why : Reason) → Some why ≡ why_not_free → turn_of s (line.Expire party) ≡ Some (refused (no_wait why))
  expire_unfree why f = at (s.boards.parties party) refl
    where
      at : (p : Party) → s.boards.parties party ≡ p → turn_of s (line.Expire party) ≡ Some (refused (no_wait why))
      at free h = absurd (let g : Some why ≡ free_reason free None = f ∙ ap (λ (p : Party). free_reason p None) h in cc)
      at (running r) h = (let g : Some why ≡ free_reason (running r) None = f ∙ ap (λ (p : Party). free_reason p None) h in let w : why ≡ reason.Busy = cc in rw (h, w) refl)
      at gone h = (let g : Some why ≡ free_reason gone None = f ∙ ap (λ (p : Party). free_reason p None) h in let w : why ≡ reason.Abandoned = cc in rw (h, w) refl)

  pub expire_free : None ≡ why_not_free → turn_of s (line.Expire party) ≡ Some (expire_of_call party (s.events.asked party) (s.events.session.doing party))
  expire_free f = rw (is_free (s.boards.parties party) f) refl

-- ---- abandonments

-- an answer that tells of an abandonment is this one
the_gone : (a : Answer) → is_gone_answer a ≡ true → a ≡ answer.Gone
the_gone answer.Begun e = absurd cc
the_gone (answer.Refused why) e = absurd cc
the_gone (answer.Step x told) e = absurd cc
the_gone answer.Gone e = refl
the_gone (answer.Words words) e = absurd cc

pub gone_with : (x : ScriptEvents) (party : List ℕ) (a : Answer) → is_gone_answer a ≡ true → after_boards x (board_line.Abandon party) a ≡ events_abandoned x party
gone_with x party a e = rw (the_gone a e) refl

pub gone_without : (x : ScriptEvents) (party : List ℕ) (a : Answer) → is_gone_answer a ≡ false → after_boards x (board_line.Abandon party) a ≡ x
gone_without x party answer.Begun e = refl
gone_without x party (answer.Refused why) e = refl
gone_without x party (answer.Step b told) e = refl
gone_without x party answer.Gone e = absurd cc
gone_without x party (answer.Words words) e = refl

-- ---- listings

pub listed_right : (s : rules.State) (n : ℕ) (words : List ℕ) → is_some (board_at s.standing.tables n) ≡ true → words ≡ s.memory n → AllByRecursion IsNumber words → IsLine (board_line.Words n) → rules.IsRight s (board_line.Words n) (answer.Words words)
listed_right s n words stands is small l = record {
  line = l;
  answer = small;
  reason = rw stands tt;
  owed = λ _. tt;
  word = λ _. is;
  reply = λ _. tt;
}

pub unlisted_right : (s : rules.State) (n : ℕ) → is_some (board_at s.standing.tables n) ≡ false → IsLine (board_line.Words n) → rules.IsRight s (board_line.Words n) (answer.Refused reason.NoBoard)
unlisted_right s n missing l = record {
  line = l;
  answer = tt;
  reason = rw missing refl;
  owed = rw missing (λ h. absurd cc);
  word = λ _. tt;
  reply = λ _. tt;
}

-- ---- what the machine of events told

-- a line that events refused
pub refusal_told : {C : Type 0} (new : Machine C) (s : ScriptState) (l : ScriptLine) (t : EventTurn) (why : Reason) (text : List ℕ) → turn_of s l ≡ Some t → IsScriptLine l → Some why ≡ events.refusal_of t
    → ((a : ScriptAnswer) → Represents new (record s { events = turned s.events t a })) → text ≡ answer_line (answer.Refused why) → IsTelling new l text s
refusal_told new s l (refused other) why text turn formed told represents text_is = (let w : other ≡ why = cc in told_turn new s l (refused other) (of_boards (answer.Refused why)) text turn formed (ap (λ (x : Reason). of_boards (answer.Refused x)) (sym w)) tt (represents (of_boards (answer.Refused why))) text_is)
refusal_told new s l (begins p t) why text turn formed told represents text_is = absurd cc
refusal_told new s l (steps p) why text turn formed told represents text_is = absurd cc
refusal_told new s l (drops p n) why text turn formed told represents text_is = absurd cc
refusal_told new s l (expires p) why text turn formed told represents text_is = absurd cc

-- a call that began
pub begun_told : {C : Type 0} (new : Machine C) (s : ScriptState) (l : ScriptLine) (party : List ℕ) (q : EventRequest) (text : List ℕ) → turn_of s l ≡ Some (task_turn s party q (task_of s.events party q)) → IsScriptLine l → None ≡ events.refusal_of (task_turn s party q (task_of s.events party q))
    → ((a : ScriptAnswer) → Represents new (record s { events = turned s.events (task_turn s party q (task_of s.events party q)) a })) → text ≡ answer_line answer.Begun → IsTelling new l text s
begun_told new s l party q text turn formed told represents text_is = at (task_turn s party q (task_of s.events party q)) (begun_turn (task_of s.events party q)) turn told represents
  where
    BeginsOr : EventTurn → Type 0
    BeginsOr (begins p t) = Unit {0}
    BeginsOr (refused why) = Unit {0}
    BeginsOr t = ⊥

    begun_turn : (t : Option EventTask) → BeginsOr (task_turn s party q t)
    begun_turn None = tt
    begun_turn (Some t) = elim (is_name_taken s party (name_made q)) as (λ b. BeginsOr (if b then refused reason.Taken else begins party t)) [ true ↦ tt | false ↦ tt ]

    at : (t : EventTurn) → BeginsOr t → turn_of s l ≡ Some t → None ≡ events.refusal_of t → ((a : ScriptAnswer) → Represents new (record s { events = turned s.events t a })) → IsTelling new l text s
    at (begins p t) k turn told represents = told_turn new s l (begins p t) (of_boards answer.Begun) text turn formed refl tt (represents (of_boards answer.Begun)) text_is
    at (refused why) k turn told represents = absurd cc
    at (steps p) k turn told represents = absurd k
    at (drops p n) k turn told represents = absurd k
    at (expires p) k turn told represents = absurd k

-- a wait that expired
pub expired_told : {C : Type 0} (new : Machine C) (s : ScriptState) (party : List ℕ) (text : List ℕ) → (f : turn_of s (line.Expire party) ≡ Some (expire_of_call party (s.events.asked party) (s.events.session.doing party))) → IsScriptLine (line.Expire party) → None ≡ events.refusal_of (expire_of_call party (s.events.asked party) (s.events.session.doing party))
    → ((a : ScriptAnswer) → Represents new (record s { events = turned s.events (expire_of_call party (s.events.asked party) (s.events.session.doing party)) a })) → text ≡ script_answer_line expired → IsTelling new (line.Expire party) text s
expired_told new s party text turn formed told represents text_is = at (expire_of_call party (s.events.asked party) (s.events.session.doing party)) (expiry (s.events.asked party) (s.events.session.doing party)) turn told represents
  where
    ExpiresOr : EventTurn → Type 0
    ExpiresOr (expires p) = Unit {0}
    ExpiresOr (refused why) = Unit {0}
    ExpiresOr t = ⊥

    expiry : (q : Option EventAsk) (d : Option PartyCall) → ExpiresOr (expire_of_call party q d)
    expiry (Some q) d = tt
    expiry None None = tt
    expiry None (Some d) = elim (may_expire d) as (λ b. ExpiresOr (if b then expires party else refused reason.NotWaiting)) [ true ↦ tt | false ↦ tt ]

    at : (t : EventTurn) → ExpiresOr t → turn_of s (line.Expire party) ≡ Some t → None ≡ events.refusal_of t → ((a : ScriptAnswer) → Represents new (record s { events = turned s.events t a })) → IsTelling new (line.Expire party) text s
    at (expires p) k turn told represents = told_turn new s (line.Expire party) (expires p) expired text turn formed refl tt (represents expired) text_is
    at (refused why) k turn told represents = absurd cc
    at (begins p t) k turn told represents = absurd k
    at (steps p) k turn told represents = absurd k
    at (drops p n) k turn told represents = absurd k
