-- A step by the short way is right, and the machine stands for what follows.
use Rattle.std.proofs.Common.{◌≡◌, ℕ, ◌<◌, ◌≤◌, ◌^◌, Bool, true, false, cond, List, length, refl, sym, ap, subst, ◌∙◌, Option, Some, None}
use Rattle.std.specs.Prelude.{nat_lt, not}
use Rattle.std.specs.Str.{bytes_eq}
use Rattle.board_cell.specs.Calls.{Updating}
use Rattle.board_cell_model.specs.declared.access.Access.{Access}
use Rattle.board_cell_model.specs.declared.access.Access.TheVariants as access
use Rattle.board_cell_model.specs.OwedAccesses.{owed_write, to_write}
use Rattle.board_model.specs.LawfulSession.{State}
use Rattle.script_parties.specs.Parties.{Parties, words_of_boards}
use Rattle.script_boards.specs.declared.machine.BoardMachine.{BoardMachine}
use Rattle.script_boards.specs.declared.machine.Task.{Task}
use Rattle.script_boards.specs.declared.machine.Task.TheVariants as task
use Rattle.script_boards.specs.declared.short_steps.ShortStep.{ShortStep}
use Rattle.script_boards.specs.declared.short_steps.ShortWay.TheVariants as way
use Rattle.script_boards.specs.declared.step.OwedAccess.TheVariants as owed
use Rattle.script_boards.specs.declared.step.OwedWrite.{OwedWrite}
use Rattle.script_boards.specs.LoanCalls.{IsSettled}
use Rattle.script_boards.specs.Loans.{lent_words}
use Rattle.script_boards.specs.Machine.{IsKeptOf, IsLed, Represents, kept, task_of}
use Rattle.script_boards.specs.ShortSteps.{HasOwedWords, IsAccessOf, IsReadOf, IsShortWay, IsUpdateTask, IsWriteOf, MakesAccess}
use Rattle.script_boards.specs.Steps.{CanGoOn, IsOwedWrite, IsPut, IsSame, is_gone}
use Rattle.script_boards.proofs.OwedAccesses.{last_write}
use Rattle.script_boards.proofs.OwedTasks.{owed_runs}
use Rattle.script_boards.proofs.OwedWords.{task_goes_on}
use Rattle.script_boards.proofs.PartyTasks.{is_running}
use Rattle.script_boards.proofs.ReadSteps.{read_goes_on, task_has_read}
use Rattle.script_boards.proofs.Seats.{of_name}
use Rattle.script_boards.proofs.WriteSteps.{task_has_word, write_ends, write_goes_on}

-- the write that a publication owes
pub owed_write_of : (board : ℕ) (call : Updating) (word value : ℕ) → call.written ≤ length call.words → to_write board word value ≡ owed_write board call.shape call.generation call.words call.written
    → IsOwedWrite board call (record { board = board; word = word; value = value; is_last = not (nat_lt call.written (length call.words)) })
owed_write_of board call word value le e = record { board_is = refl; access = e; last = last_write call.written (length call.words) le }

-- ---- the machine

module _ {C : Type 0} (m : BoardMachine C) (party : List ℕ) (own : Task) (stands : task_of m party ≡ Some own) where
  module _ (led : IsLed m) where
    -- the call goes on
    pub own_goes_on : is_gone own ≡ false → CanGoOn own
    own_goes_on stays = task_goes_on led.state led.reached.sound party own (is_running (task_of m) led.state.parties led.represents.parties party own stands stays)

    -- the words that it may owe are of their boards
    pub own_words : HasOwedWords m.domain own
    own_words = record {
      reads = λ r o. task_has_read m led.state led.represents led.reached.sound party own (owed_runs m party (owed.Read r) (record { task = own; stands = stands; owes = o }) led.state led.represents) r o;
      writes = λ w o. task_has_word m led.state led.represents led.reached.sound party own (owed_runs m party (owed.Write w) (record { task = own; stands = stands; owes = o }) led.state led.represents) w o;
    }

  module _ (new : BoardMachine C) (after : Task) (values : kept new ≡ kept m) (loans : lent_words new ≡ lent_words m) where
    -- the party's task from now on, or none where the call is done
    abbrev left_with : Bool → Option Task
    left_with is_done = cond is_done None (Some after)

    written : (board word value : ℕ) (is_done : Bool) → IsWriteOf m.domain new.domain own after board word value is_done → IsPut (task_of m) (task_of new) party (left_with is_done)
        → IsShortWay m new party (way.Made (record { access = access.Write board word value; is_done = is_done }))
    written board word value true h put = λ s rep reached l.
        let w : OwedWrite = record { board = board; word = word; value = value; is_last = true } in
        let stored : BoardMachine C = record m { domain = new.domain } in
        write_ends m s rep reached.sound party own (owed_runs m party (owed.Write w) (record { task = own; stands = stands; owes = h.owed }) s rep) w h.owed
        stored (record { stored = h.stored; rest = record { parties = refl; values = refl; loans = refl } })
        (record { board = h.numbers.0; word = h.numbers.1; value = h.numbers.2 }) l new new refl refl values loans put refl (settled own (h.ends refl))
      where
        settled : (t : Task) → IsUpdateTask t → IsSettled new new party t
        settled (task.Table t) u = absurd u
        settled (task.Get b c type name) u = absurd u
        settled (task.Fresh b c) u = absurd u
        settled (task.Update b c) u = refl
        settled (task.Put b c loan index w) u = absurd u
        settled (task.Publish b c loan handle) u = absurd u
        settled (task.Fill b c loan handle) u = absurd u
        settled task.Gone u = absurd u
    written board word value false h put = λ s rep reached l.
        let w : OwedWrite = record { board = board; word = word; value = value; is_last = false } in
        let stored : BoardMachine C = record m { domain = new.domain } in
        write_goes_on m s rep reached.sound party own (owed_runs m party (owed.Write w) (record { task = own; stands = stands; owes = h.owed }) s rep) w h.owed
        stored (record { stored = h.stored; rest = record { parties = refl; values = refl; loans = refl } })
        (record { board = h.numbers.0; word = h.numbers.1; value = h.numbers.2 }) l new refl refl values loans refl
        (subst (λ (t : Task). IsPut (task_of m) (task_of new) party (Some t)) h.after_is put)

    was_read : (board word value : ℕ) (is_done : Bool) → IsReadOf m.domain new.domain own after board word value is_done → IsPut (task_of m) (task_of new) party (left_with is_done)
        → IsShortWay m new party (way.Made (record { access = access.Read board word value; is_done = is_done }))
    was_read board word value true h put = absurd (let no : true ≡ false = h.goes_on in cc)
    was_read board word value false h put = λ s rep reached l.
        read_goes_on m s rep reached.sound party own (owed_runs m party (owed.Read (record { board = board; word = word })) (record { task = own; stands = stands; owes = h.owed }) s rep) (record { board = board; word = word }) h.owed value h.loaded
        h.numbers.0 h.numbers.1 h.numbers.2 l new (ap (λ (d : Parties). d.tables) h.same) (ap (λ (d : Parties). d.words) h.same) values loans
        (record { more = h.more; tasks = subst (λ (t : Task). IsPut (task_of m) (task_of new) party (Some t)) h.after_is put })

    made_by : (a : Access) (is_done : Bool) → IsAccessOf m.domain new.domain own after a is_done → IsPut (task_of m) (task_of new) party (left_with is_done) → IsShortWay m new party (way.Made (record { access = a; is_done = is_done }))
    made_by access.Table is_done h put = absurd h
    made_by (access.Read board word value) is_done h put = was_read board word value is_done h put
    made_by (access.Write board word value) is_done h put = written board word value is_done h put

    -- what the task made is the step's answer
    pub some_made : (made : ShortStep) → MakesAccess m.domain new.domain own after (Some made) → IsPut (task_of m) (task_of new) party (left_with made.is_done) → IsShortWay m new party (way.Made made)
    some_made made h put = made_by made.access made.is_done h put

-- a task that was put and then taken out
pub put_and_taken : (tasks mid new : List ℕ → Option Task) (party : List ℕ) (t : Option Task) → IsPut tasks mid party t → IsPut mid new party None → IsPut tasks new party None
put_and_taken tasks mid new party t put taken p = taken p ∙ at (bytes_eq party p) (put p)
  where
    at : (b : Bool) → mid p ≡ cond b t (tasks p) → cond b None (mid p) ≡ cond b None (tasks p)
    at true e = refl
    at false e = e

-- a machine that has the same domain, tasks, values and loans stands for the same states
pub alike_represents : {C : Type 0} (m new : BoardMachine C) → new.domain ≡ m.domain → ((p : List ℕ) → task_of new p ≡ task_of m p) → kept new ≡ kept m → lent_words new ≡ lent_words m → (s : State) → Represents m s → Represents new s
alike_represents m new domain tasks values loans s rep = record {
  tables = rep.tables ∙ sym (ap (λ (d : Parties). d.tables) domain);
  words = ap (λ (d : Parties). d.words) domain ∙ rep.words ∙ ap (λ (d : Parties). words_of_boards s.memory d.tables.boards) (sym domain);
  parties = λ p. subst (λ (o : Option Task). IsKeptOf o (s.parties p)) (sym (tasks p)) (rep.parties p);
  loans = λ p n. rep.loans p n ∙ sym (of_name loans p n);
  values = λ p n. rep.values p n ∙ sym (of_name values p n);
}

-- ---- nothing changed

module _ {C : Type 0} (m new : BoardMachine C) (same : IsSame m new) where
  -- it stands for the same states
  pub same_represents : (s : State) → Represents m s → Represents new s
  same_represents s rep = alike_represents m new same.domain (λ p. ap (λ (f : List ℕ → Option Task). f p) same.rest.parties) same.rest.values same.rest.loans s rep

  -- and is led as before
  pub same_led : IsLed m → IsLed new
  same_led led = record {
    state = led.state;
    represents = same_represents led.state led.represents;
    reached = led.reached;
    few = subst (λ (d : Parties). d.drawn < 2 ^ 63) (sym same.domain) led.few;
  }
