-- Steps that want memory take some.
use Rattle.std.proofs.Common.{◌≡◌, ℕ, ◌+◌, Bool, true, false, List, length, refl, sym, ap, subst, ◌∙◌, Option, Some, None, inl, inr, ◌⊎◌}
use Rattle.std.specs.Prelude.{◌==◌, is_none, is_some, slice_index, OnErr, Result, Ok, Err}
use Rattle.board_layout.specs.declared.shape.CellShape.{CellShape}
use Rattle.board_cell_model.specs.declared.access.Access.{Access}
use Rattle.board_cell_model.specs.OwedAccesses.{Reading, finished, hear, is_finished, opening, owed_read, to_read, trying}
use Rattle.board_model.specs.declared.answer.Reply.{Reply}
use Rattle.board_model.specs.declared.answer.Reply.TheVariants as reply
use Rattle.board_model.specs.declared.line.Line.{Line}
use Rattle.board_model.specs.declared.line.Line.TheVariants as line
use Rattle.board_model.specs.LawfulSession.{State, abandon_reason, reason_of, step_reason}
use Rattle.board_model.specs.Parties.{Party, Running, free, gone, owed, reading, running}
use Rattle.board_model.specs.Replies.{ask, number_or}
use Rattle.board_model.specs.Requests.{Fetch, Request}
use Rattle.board_model.specs.Sound.{BoardTables}
use Rattle.board_model.specs.TableCalls.{asked, created, id_of, joined, number_of, with_read_handle, with_reader, with_write_handle, with_writer}
use Rattle.board_model.specs.Tables.{Tables, board_named}
use Rattle.board_model.specs.TypeTable.{key_detail}
use Rattle.script_parties.specs.Parties.{Parties}
use Rattle.script_parties.specs.Refusals.{added, create_refusal, entry_mut_refusal, entry_refusal, entry_wanted, open_refusal, reader_refusal, writer_refusal}
use Rattle.script_boards.specs.declared.machine.BoardMachine.{BoardMachine}
use Rattle.script_boards.specs.declared.machine.TableTask.{TableTask}
use Rattle.script_boards.specs.declared.machine.TableTask.TheVariants as table_task
use Rattle.script_boards.specs.declared.machine.Task.{Task}
use Rattle.script_boards.specs.declared.machine.Task.TheVariants as task
use Rattle.script_boards.specs.declared.step.OwedAccess.TheVariants as owed_access
use Rattle.script_boards.specs.declared.step.OwedRead.{OwedRead}
use Rattle.script_boards.specs.Machine.{IsTableTask, IsTaskOf, tables_of}
use Rattle.script_boards.specs.Steps.{CanGoOn, IsOwedBy, ends_call, ticked}
use Rattle.script_boards.specs.TaskWants.{TaskMayWant, keeps_value}
use Rattle.script_boards.specs.Wants.{ends_next, is_free, is_number, next_takes, step_takes, takes_memory}
use Rattle.script_boards.proofs.ReadSteps.{board_read, read_step}

-- ---- calls on the tables

-- a call that nothing refuses is told a number
number_told : {E : Type 0} (error : E → Reply) (o : Option E) (n : ℕ) (after before : Tables (List ℕ) (List ℕ)) → o ≡ None → is_number (number_or error (asked o n after before).0) ≡ true
number_told {E} error o n after before e = subst (λ (p : Option E). is_number (number_or error (asked p n after before).0) ≡ true) (sym e) refl

module _ {C : Type 0} (mid : BoardMachine C) (s : State) (tables : s.standing.tables ≡ tables_of mid) (party : List ℕ) (so_far : List Access) where
  abbrev Takes : Request → Type 0
  Takes q = next_takes s.memory q so_far (ask s.standing s.published party q).reply ≡ true

  -- the tables of the machine are those of the state
  abbrev here : BoardTables → Parties
  here t = record mid.domain { tables = t }

  -- what refuses a call there refuses it here
  same : {E : Type 0} (refusal : Parties → Option E) → refusal (here (tables_of mid)) ≡ None → refusal (here s.standing.tables) ≡ None
  same refusal h = ap (λ t. refusal (here t)) tables ∙ h

  -- a call on the tables that wants memory takes some
  pub task_takes : (t : TableTask) (q : Request) → IsTableTask t q → TaskMayWant mid party t → Takes q
  task_takes (table_task.Create f n k l attributes entries) q is h =
      let x = s.standing.tables in
      let e = same (λ p. create_refusal p n k entries) h in
      subst Takes (sym is) (number_told (λ e. reply.CreateError e) (create_refusal (here x) n k entries) (x.last_board + 1) (created x party f n (key_detail k) l attributes (added entries)) x e)
  task_takes (table_task.Open f n k l needs) q is h =
      let x = s.standing.tables in
      let b = board_named x n in
      let e = same (λ p. open_refusal p party n k l needs) h in
      subst Takes (sym is) (number_told (λ e. reply.OpenError e) (open_refusal (here x) party n k l needs) (number_of b) (joined x party f b) x e)
  task_takes (table_task.Reader n y) q is h =
      let x = s.standing.tables in
      let e = same (λ p. reader_refusal p y) h in
      subst Takes (sym is) (number_told (λ e. reply.ReaderError e) (reader_refusal (here x) y) (x.last_port + 1) (with_reader x y n) x e)
  task_takes (table_task.Writer n y) q is h =
      let x = s.standing.tables in
      let e = same (λ p. writer_refusal p y) h in
      subst Takes (sym is) (number_told (λ e. reply.WriterError e) (writer_refusal (here x) y) (x.last_port + 1) (with_writer x y n) x e)
  task_takes (table_task.Entry n y k type) q is h =
      let x = s.standing.tables in
      let f = entry_wanted (here x) y k type in
      let e = same (λ p. entry_refusal p y k type) h in
      subst Takes (sym is) (number_told (λ e. reply.EntryError e) (entry_refusal (here x) y k type) (id_of f) (with_read_handle x y n f) x e)
  task_takes (table_task.EntryMut n y k type) q is h =
      let x = s.standing.tables in
      let f = entry_wanted (here x) y k type in
      let e = same (λ p. entry_mut_refusal p y k type) h in
      subst Takes (sym is) (number_told (λ e. reply.EntryMutError e) (entry_mut_refusal (here x) y k type) (id_of f) (with_write_handle x y n f) x e)
  task_takes (table_task.Loan handle lent words) q is h = subst Takes (sym is.request) refl
  task_takes (table_task.Discard lent handle) q is h = absurd h
  task_takes (table_task.Keys x) q is h = subst Takes (sym is) refl
  task_takes (table_task.Nodes x) q is h = subst Takes (sym is) refl
  task_takes (table_task.Info x) q is h = subst Takes (sym is) refl
  task_takes (table_task.Id x) q is h = absurd h
  task_takes (table_task.Gen x) q is h = absurd h

-- ---- gets that keep their value

-- what holds anyway
pub anyway : {T E : Type 0} (r : Result T E) (X : Type 0) → X → OnErr r X
anyway (Ok a) X x = tt
anyway (Err e) X x = x

wrong : {A : Type 0} → false ≡ true → A
wrong e = absurd cc

either : (b : Bool) → (b ≡ true) ⊎ (b ≡ false)
either true = inl refl
either false = inr refl

-- a get that is finished by a word had all words of its try, and hears the counter as it was
finishes : (c : CellShape) (memory : List ℕ) (y : Reading) (board on word v : ℕ) → to_read on word ≡ owed_read board c y → v ≡ slice_index memory word → is_finished y ≡ false → is_finished (hear c.words y v) ≡ true → ends_next c memory y ≡ true
finishes c memory opening board on word v next stands h k = wrong k
finishes c memory (trying counter words) board on word v next stands h k = elim (either (length words == c.words)) [
  | inl f ↦ elim (either (v == counter)) [
    | inl g ↦ (let e : to_read on word ≡ to_read board c.first = rw f at next in let first : word ≡ c.first = cc in let there : slice_index memory c.first ≡ v = sym (stands ∙ ap (λ (n : ℕ). slice_index memory n) first) in rw (f, there) g)
    | inr g ↦ wrong (rw (f, g) at k)
  ]
  | inr f ↦ wrong (rw f at k)
]
finishes c memory (finished counter words) board on word v next stands h k = wrong (sym h)

-- the last step of a get takes memory where its value is kept
pub get_takes : (memory : ℕ → List ℕ) (told : Reply) (r : Running) (t : Task) (x : OwedRead) (v : ℕ) → IsTaskOf t r.request r.so_far → IsOwedBy t (owed_access.Read x) → v ≡ slice_index (memory x.board) x.word → keeps_value (ticked t v) ≡ true → CanGoOn t → ends_call t v ≡ true
    → next_takes memory r.request r.so_far told ≡ true
get_takes memory told r (task.Table t) x v is o word keeps goes ends = wrong keeps
get_takes memory told r (task.Get board call type name) x v is o word keeps goes ends =
    let f : Fetch = is.fetch in
    let y = reading f.shape.words r.so_far in
    let h = read_step (task.Get board call type name) r x is o in
    let next : to_read x.board x.word ≡ owed_read f.board f.shape y = h.next ∙ ap (λ (q : Request). owed q r.so_far) is.request in
    let on : x.board ≡ f.board = h.board ∙ ap board_read is.request in
    let stands : v ≡ slice_index (memory f.board) x.word = word ∙ ap (λ (n : ℕ). slice_index (memory n) x.word) on in
    let named : is_some f.name ≡ true = ap (λ (n : Option (List ℕ)). is_some n) (sym is.name_is) ∙ keeps in
    let runs : is_finished y ≡ false = rw is.call_is at goes in
    let last : is_finished (hear f.shape.words y v) ≡ true = rw is.call_is at ends in
    subst (λ (p : Request). next_takes memory p r.so_far told ≡ true) (sym is.request) (rw (named, finishes f.shape (memory f.board) y f.board x.board x.word v next stands runs last) refl)
get_takes memory told r (task.Fresh board call) x v is o word keeps goes ends = wrong keeps
get_takes memory told r (task.Update board call) x v is o word keeps goes ends = wrong keeps
get_takes memory told r (task.Put board call loan index word) x v is o at keeps goes ends = wrong keeps
get_takes memory told r (task.Publish board call loan handle) x v is o word keeps goes ends = wrong keeps
get_takes memory told r (task.Fill board call loan handle) x v is o word keeps goes ends = wrong keeps
get_takes memory told r task.Gone x v is o word keeps goes ends = wrong keeps

-- ---- a line that takes memory isn't refused

none_of : {A : Type 0} (o : Option A) → is_none o ≡ true → o ≡ None
none_of None h = refl
none_of (Some x) h = wrong h

step_unrefused : (s : State) (party : List ℕ) (p : Party) → step_takes s party p ≡ true → step_reason p ≡ None
step_unrefused s party free h = wrong h
step_unrefused s party (running r) h = refl
step_unrefused s party gone h = wrong h

free_unrefused : (p : Party) → is_free p ≡ true → abandon_reason p ≡ None
free_unrefused free h = refl
free_unrefused (running r) h = wrong h
free_unrefused gone h = wrong h

pub takes_unrefused : (s : State) (l : Line) → takes_memory s l ≡ true → reason_of s l ≡ None
takes_unrefused s (line.Begin party c) h = none_of (reason_of s (line.Begin party c)) h
takes_unrefused s (line.Step party) h = step_unrefused s party (s.parties party) h
takes_unrefused s (line.Release party name) h = wrong h
takes_unrefused s (line.Abandon party) h = free_unrefused (s.parties party) h
takes_unrefused s (line.Words board) h = none_of (reason_of s (line.Words board)) h
