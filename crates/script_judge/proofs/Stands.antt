-- A judge that stands for a state, and what a line of a party is to it.
use Rattle.std.proofs.Common.{◌≡◌, ℕ, Bool, true, false, List, [], ◌++◌, refl, sym, ap, subst, ◌∙◌, Option, Some, None, ◌⊎◌, inl, inr}
use Rattle.std.specs.Prelude.{◌&&◌, ◌||◌, if◌then◌else◌, is_some, option_map, Result, Ok, Err, OnOk}
use Rattle.board_model.specs.declared.answer.Answer.TheVariants as answer
use Rattle.board_model.specs.declared.answer.Reason.{Reason}
use Rattle.board_model.specs.declared.answer.Reason.TheVariants as reason
use Rattle.board_model.specs.declared.line.Call.{Call}
use Rattle.board_model.specs.declared.line.Line.TheVariants as board_line
use Rattle.board_model.specs.AnswerGrammar.{answer_line}
use Rattle.board_model.specs.LawfulSession.{call_reason, is_taken}
use Rattle.board_model.specs.LineGrammar.{IsLine}
use Rattle.board_event_model.specs.EventSessions.{PartyCall}
use Rattle.board_model.specs.Parties.{Party, begun, with_party}
use Rattle.board_model.specs.Requests.{Published, Request, new_name, request_of}
use Rattle.board_model.specs.Things as held
use Rattle.board_model.specs.Things.{Standing}
use Rattle.script_model.specs.declared.line.ScriptLine.{ScriptLine}
use Rattle.script_model.specs.declared.line.ScriptLine.TheVariants as line
use Rattle.script_model.specs.ScriptEvents as events
use Rattle.script_model.specs.ScriptEvents.{holds_event, runs_on_events}
use Rattle.script_model.specs.ScriptTurns.{ScriptState, is_name_taken, takes_event_name}
use Rattle.script_model.proofs.TaskLemmas.{or_false}
use Rattle.script_model.proofs.TurnLemmas.{text_itself}
use Rattle.script_board_tables.specs.declared.calls.BoardCall.{BoardCall}
use Rattle.script_board_tables.specs.Tables.{memory_of, published_of, standing_of}
use Rattle.script_event_tables.specs.declared.event_table.EventTable.{EventTable}
use Rattle.script_event_tables.specs.EventTables.{AreEvents}
use Rattle.script_judge.specs.declared.judge.Judge.{Judge}
use Rattle.script_judge.specs.declared.task.Task.{Task}
use Rattle.script_judge.specs.declared.task.Task.TheVariants as task
use Rattle.script_judge.specs.Judges.{IsBegun, IsTaskOf, IsTaskPut, IsTelling, Represents, name_taken, refusal_by, refusal_of, task_of, thing_at, thing_in}
use Rattle.script_judge.proofs.EventLemmas.{kept_of}
use Rattle.script_judge.proofs.FreeLines.{IsFree, begins_board, begins_refused, begins_taken}
use Rattle.script_judge.proofs.Lines.{Told, unfree_begins}
use Rattle.script_judge.proofs.Tasks.{AreTasks, IsTaskIn, free_unless, others_with_party, tasks_put, unfree_by}

either : (b : Bool) → (b ≡ true) ⊎ (b ≡ false)
either true = inl refl
either false = inr refl

pub telling : (new : Judge) (s : ScriptState) (l : ScriptLine) (text : List ℕ) → Told (Represents new) s l text → IsTelling new l text s
telling new s l text t = record { answer = t.answer; right = t.right; represents = t.stands; told = t.told }

-- what is added to nothing is all
pub from_nothing : (old new more : List ℕ) → old ≡ [] → new ≡ old ++ more → new ≡ more
from_nothing old new more e f = f ∙ ap (λ (xs : List ℕ). xs ++ more) e

pub on_ok : {T E : Type 0} {P Q : Type 0} → (P → Q) → (r : Result T E) → OnOk r P → OnOk r Q
on_ok f (Ok x) h = f h
on_ok f (Err e) h = tt

-- the judge stands for a state in which only parties changed
pub stands_with : (old new : Judge) (s t : ScriptState) → new.boards ≡ old.boards → new.events ≡ old.events → ((p n : List ℕ) → thing_at new p n ≡ thing_at old p n) → Represents old s → t.boards.standing ≡ s.boards.standing → t.boards.memory ≡ s.boards.memory → t.boards.published ≡ s.boards.published
    → kept_of t.events ≡ kept_of s.events → t.events.things ≡ s.events.things → AreTasks (task_of new) t → Represents new t
stands_with old new s t boards events_same things_same rep standing memory published kept things tasks = record {
  boards = record {
    standing = ap standing_of boards ∙ rep.boards.standing ∙ sym standing;
    memory = ap memory_of boards ∙ rep.boards.memory ∙ sym memory;
    lists = ap published_of boards ∙ rep.boards.lists ∙ sym published;
  };
  events = subst (λ (x : EventTable). AreEvents x (kept_of t.events)) (sym events_same) (subst (AreEvents old.events) (sym kept) rep.events);
  things = λ p n. ap (option_map thing_in) (things_same p n) ∙ rep.things p n ∙ ap (λ (f : List ℕ → List ℕ → Option events.EventThing). f p n) (sym things);
  tasks = tasks;
}

-- ---- names

some_mapped : {A B : Type 0} (f : A → B) (o : Option A) → is_some (option_map f o) ≡ is_some o
some_mapped f None = refl
some_mapped f (Some x) = refl

module _ (j : Judge) (s : ScriptState) (rep : Represents j s) (party : List ℕ) where
  pub holds_is : (name : List ℕ) → is_some (thing_at j party name) ≡ holds_event s.events party name
  holds_is name = sym (some_mapped thing_in (thing_at j party name)) ∙ ap (λ (o : Option events.EventThing). is_some o) (rep.things party name)

  pub taken_is : (o : Option (List ℕ)) → name_taken j party o ≡ (is_taken s.boards.standing party o || takes_event_name s.events party o)
  taken_is None = refl
  taken_is (Some name) =
      ap (λ (st : Standing). held.is_held st party name || is_some (thing_at j party name)) rep.boards.standing
      ∙ ap (λ (b : Bool). held.is_held s.boards.standing party name || b) (holds_is name)

  pub name_is : (o : Option (List ℕ)) → name_taken j party o ≡ is_name_taken s party o
  name_is None = refl
  name_is (Some name) = taken_is (Some name)

-- ---- begins

or_none : (x b : Bool) → b ≡ false → (x || b) ≡ x
or_none true b e = refl
or_none false b e = e

or_some : (x b : Bool) → b ≡ true → (x || b) ≡ true
or_some true b e = refl
or_some false b e = e

and_none : (x b : Bool) → b ≡ false → (x && b) ≡ false
and_none true b e = e
and_none false b e = refl

-- where no listener or notifier has the name, the reasons are the boards'
refusal_same : (st : Standing) (party : List ℕ) (c : Call) (t b : Bool) (q : Option Request) → t ≡ (is_taken st party (new_name c) || b) → b ≡ false → refusal_of st t q ≡ call_reason st party c q
refusal_same st party c t b None e f = refl
refusal_same st party c t b (Some q) e f = ap (λ (x : Bool). refusal_of st x (Some q)) (e ∙ or_none (is_taken st party (new_name c)) b f)

untaken : (st : Standing) (t : Bool) (q : Request) → refusal_of st t (Some q) ≡ None → t ≡ false
untaken st true q h = absurd cc
untaken st false q h = refl

taken_refused : (st : Standing) (t : Bool) (q : Request) (why : Reason) → t ≡ true → refusal_of st t (Some q) ≡ Some why → why ≡ reason.Taken
taken_refused st true q why e h = (let k : why ≡ reason.Taken = cc in k)
taken_refused st false q why e h = absurd cc

pub task_is : (o : Option Task) (p p' : Party) (q q' : Option events.EventAsk) (d d' : Option PartyCall) → p' ≡ p → q' ≡ q → d' ≡ d → IsTaskOf o p q d → IsTaskOf o p' q' d'
task_is o p p' q q' d d' e f g h =
    subst (λ (x : Party). IsTaskOf o x q' d') (sym e) (subst (λ (x : Option events.EventAsk). IsTaskOf o p x d') (sym f) (subst (λ (x : Option PartyCall). IsTaskOf o p q x) (sym g) h))

-- of the party itself what was put
pub put_here : (f : List ℕ → Party) (party : List ℕ) (x : Party) → with_party f party x party ≡ x
put_here f party x = ap (λ (b : Bool). if b then x else f party) (text_itself party)

module _ (j : Judge) (s : ScriptState) (rep : Represents j s) (party : List ℕ) (c : Call) (formed : IsLine (board_line.Begin party c)) (text : List ℕ) where
  pub begin_unfree : (why : Reason) → Some why ≡ refusal_by (task_of j party) → text ≡ answer_line (answer.Refused why) → IsTelling j (line.Board (board_line.Begin party c)) text s
  begin_unfree why h told =
      telling j s (line.Board (board_line.Begin party c)) text (unfree_begins (Represents j) s party why text rep told c (unfree_by s party (task_of j party) why (rep.tasks party) (sym h)) formed)

  module _ (unrefused : None ≡ refusal_by (task_of j party)) where
    is_free : IsFree s party
    is_free = free_unless s party (task_of j party) (rep.tasks party) (sym unrefused)

    request : Option Request
    request = request_of s.boards.standing s.boards.published party c

    takes : Bool
    takes = takes_event_name s.events party (new_name c)

    -- what was found by the judge's tables was found by the state's
    begun_is : (r : Result BoardCall Reason) → IsBegun (standing_of j.boards) (name_taken j party (new_name c)) (request_of (standing_of j.boards) (published_of j.boards) party c) r
        → IsBegun s.boards.standing (name_taken j party (new_name c)) (request_of s.boards.standing s.boards.published party c) r
    begun_is r h =
        subst (λ (l : Published). IsBegun s.boards.standing (name_taken j party (new_name c)) (request_of s.boards.standing l party c) r) rep.boards.lists
        (subst (λ (st : Standing). IsBegun st (name_taken j party (new_name c)) (request_of st (published_of j.boards) party c) r) rep.boards.standing h)

    err_at : (why : Reason) (q : Option Request) → request_of s.boards.standing s.boards.published party c ≡ q → refusal_of s.boards.standing (name_taken j party (new_name c)) q ≡ Some why → text ≡ answer_line (answer.Refused why) → Told (Represents j) s (line.Board (board_line.Begin party c)) text
    err_at why q is h told =
        elim (either (takes_event_name s.events party (new_name c))) [
          | inl takes_it ↦ with_name why q is h told takes_it
          | inr free ↦ begins_refused (Represents j) s party is_free text c formed why
              (and_none (is_some (request_of s.boards.standing s.boards.published party c)) (takes_event_name s.events party (new_name c)) free)
              (ap (call_reason s.boards.standing party c) is ∙ sym (refusal_same s.boards.standing party c (name_taken j party (new_name c)) (takes_event_name s.events party (new_name c)) q (taken_is j s rep party (new_name c)) free) ∙ h) rep told
        ]
      where
        with_name : (why : Reason) (q : Option Request) → request_of s.boards.standing s.boards.published party c ≡ q → refusal_of s.boards.standing (name_taken j party (new_name c)) q ≡ Some why → text ≡ answer_line (answer.Refused why) → takes_event_name s.events party (new_name c) ≡ true → Told (Represents j) s (line.Board (board_line.Begin party c)) text
        with_name why None is h told takes_it =
            begins_refused (Represents j) s party is_free text c formed why (ap (λ (o : Option Request). is_some o && takes_event_name s.events party (new_name c)) is)
            (ap (call_reason s.boards.standing party c) is ∙ h) rep told
        with_name why (Some q) is h told takes_it =
            let t : name_taken j party (new_name c) ≡ true = taken_is j s rep party (new_name c) ∙ or_some (is_taken s.boards.standing party (new_name c)) (takes_event_name s.events party (new_name c)) takes_it in
            let w : why ≡ reason.Taken = taken_refused s.boards.standing (name_taken j party (new_name c)) q why t h in
            begins_taken (Represents j) s party is_free text c formed (ap (λ (o : Option Request). is_some o && takes_event_name s.events party (new_name c)) is ∙ takes_it) rep (told ∙ ap (λ (x : Reason). answer_line (answer.Refused x)) w)

    pub begin_refused : (why : Reason) → IsBegun (standing_of j.boards) (name_taken j party (new_name c)) (request_of (standing_of j.boards) (published_of j.boards) party c) (Err why) → text ≡ answer_line (answer.Refused why) → IsTelling j (line.Board (board_line.Begin party c)) text s
    begin_refused why h told = telling j s (line.Board (board_line.Begin party c)) text (err_at why (request_of s.boards.standing s.boards.published party c) refl (begun_is (Err why) h) told)

    ok_at : (new : Judge) (k : BoardCall) (q : Option Request) → IsTaskPut j new party (Some (task.OnBoards k)) → request_of s.boards.standing s.boards.published party c ≡ q
        → IsBegun s.boards.standing (name_taken j party (new_name c)) q (Ok k) → text ≡ answer_line answer.Begun → Told (Represents new) s (line.Board (board_line.Begin party c)) text
    ok_at new k None put is h told = absurd (let z = h.0 in cc)
    ok_at new k (Some q) put is h told =
        let t : name_taken j party (new_name c) ≡ false = untaken s.boards.standing (name_taken j party (new_name c)) q h.0 in
        let w = or_false (is_taken s.boards.standing party (new_name c)) (takes_event_name s.events party (new_name c)) (sym (taken_is j s rep party (new_name c)) ∙ t) in
        let after : ScriptState = record s { boards = record s.boards { parties = with_party s.boards.parties party (begun (request_of s.boards.standing s.boards.published party c)) } } in
        let runs : IsTaskIn after party (Some (task.OnBoards k)) =
        task_is (Some (task.OnBoards k)) (begun (Some q)) (after.boards.parties party) None (s.events.asked party) None (s.events.session.doing party)
        (put_here s.boards.parties party (begun (request_of s.boards.standing s.boards.published party c)) ∙ ap begun is) is_free.quiet.asked is_free.quiet.doing h.1 in
        begins_board (Represents new) s party is_free text c formed
        (and_none (is_some (request_of s.boards.standing s.boards.published party c)) (takes_event_name s.events party (new_name c)) w.1)
        (ap (call_reason s.boards.standing party c) is ∙ sym (refusal_same s.boards.standing party c (name_taken j party (new_name c)) (takes_event_name s.events party (new_name c)) (Some q) (taken_is j s rep party (new_name c)) w.1) ∙ h.0)
        (stands_with j new s after put.boards put.events put.things rep refl refl refl refl refl
        (tasks_put (task_of j) (task_of new) party (Some (task.OnBoards k)) s after put.tasks (λ p apart. rep.tasks p)
        (others_with_party s after party (begun (request_of s.boards.standing s.boards.published party c)) refl refl refl) runs)) told

    pub begin_begun : (new : Judge) (k : BoardCall) → IsTaskPut j new party (Some (task.OnBoards k))
        → IsBegun (standing_of j.boards) (name_taken j party (new_name c)) (request_of (standing_of j.boards) (published_of j.boards) party c) (Ok k) → text ≡ answer_line answer.Begun → IsTelling new (line.Board (board_line.Begin party c)) text s
    begin_begun new k put h told = telling new s (line.Board (board_line.Begin party c)) text (ok_at new k (request_of s.boards.standing s.boards.published party c) put refl (begun_is (Ok k) h) told)
