-- A step of a get that keeps no value is right, and the machine stands for what follows.
use Rattle.std.proofs.Common.{◌≡◌, ℕ, Bool, true, false, List, refl, sym, ap, subst, ◌∙◌, Option, Some, None}
use Rattle.std.specs.Prelude.{IfSome}
use Rattle.board_cell.specs.declared.access.Progress.{Progress}
use Rattle.board_cell.specs.declared.access.Progress.TheVariants as progress
use Rattle.board_cell.specs.Calls.{Getting, progress_of}
use Rattle.board_cell_model.specs.OwedAccesses.{is_finished}
use Rattle.board_cell_model.specs.declared.access.Access.{Access}
use Rattle.board_model.specs.AnswerGrammar.{IsReply}
use Rattle.board_model.specs.declared.answer.Answer.TheVariants as answer
use Rattle.board_model.specs.declared.answer.Reply.{Reply}
use Rattle.board_model.specs.declared.line.Line.TheVariants as line
use Rattle.board_model.specs.declared.value.ValueType.{ValueType}
use Rattle.script_parties.specs.Parties.{Parties}
use Rattle.script_boards.specs.declared.machine.BoardMachine.{BoardMachine}
use Rattle.script_boards.specs.declared.machine.Task.{Task}
use Rattle.script_boards.specs.declared.machine.Task.TheVariants as task
use Rattle.script_boards.specs.declared.step.OwedAccess.TheVariants as owed
use Rattle.script_boards.specs.declared.step.OwedRead.{OwedRead}
use Rattle.script_boards.specs.GetSteps.{RunsPlainGet}
use Rattle.script_boards.specs.Loans.{lent_words}
use Rattle.script_boards.specs.Machine.{Serves, kept, task_of}
use Rattle.script_boards.specs.ShortSteps.{IsWordRead}
use Rattle.script_boards.specs.Steps.{IsPut, ends_call, read_told, ticked}
use Rattle.script_boards.proofs.OwedTasks.{owed_runs}
use Rattle.script_boards.proofs.PartyTasks.{a_task, one_task}
use Rattle.script_boards.proofs.ReadSteps.{read_ends, read_goes_on}

-- what the party runs is a get with no name
pub record IsNamelessAt {C : Type 0} (m : BoardMachine C) (party : List ℕ) (board : ℕ) (call : Getting) (type : ValueType) (name : Option (List ℕ)) : Type 0 where
  pub none : name ≡ None
  pub stands : task_of m party ≡ Some (task.Get board call type None)

no_name : (b c : ℕ) (x y : Getting) (t u : ValueType) (name : Option (List ℕ)) → task.Get b x t name ≡ task.Get c y u None → name ≡ None
no_name b c x y t u name e = cc

pub plain_get : {C : Type 0} (m : BoardMachine C) (party : List ℕ) (runs : RunsPlainGet m party) (own : Task) → task_of m party ≡ Some own → (board : ℕ) (call : Getting) (type : ValueType) (name : Option (List ℕ)) → own ≡ task.Get board call type name
    → IsNamelessAt m party board call type name
plain_get m party runs own stands board call type name is =
    let same : own ≡ runs.task = one_task own runs.task (sym stands ∙ runs.stands) in
    let none : name ≡ None = no_name board runs.is_plain.board call runs.is_plain.call type runs.is_plain.type name (sym is ∙ same ∙ runs.is_plain.task_is) in
    record { none = none; stands = stands ∙ ap a_task is ∙ ap (λ (n : Option (List ℕ)). a_task (task.Get board call type n)) none }

-- what a get that ended told
pub told_of : (t : Task) (ended : Option Task) → ended ≡ Some t → (told : Reply) → IfSome ended (λ x. read_told x ≡ Some told) → read_told t ≡ Some told
told_of t ended e told h = subst (λ (o : Option Task). IfSome o (λ x. read_told x ≡ Some told)) e h

-- a call that doesn't go on is done
pub progress_is_done : (p : Progress) (b : Bool) → p ≡ progress_of b → (p ≡ progress.More → ⊥) → b ≡ true
progress_is_done p true e h = refl
progress_is_done p false e h = absurd (h e)

module _ {C : Type 0} (m : BoardMachine C) (party : List ℕ) (board : ℕ) (call : Getting) (type : ValueType) where
  abbrev own : Task
  own = task.Get board call type None

  module _ (stands : task_of m party ≡ Some own) (new : BoardMachine C) (values : kept new ≡ kept m) (loans : lent_words new ≡ lent_words m) (heard : Getting) (made : Access)
      (read : IsWordRead m.domain new.domain board call heard made) where
    abbrev x : OwedRead
    x = record { board = board; word = read.word }

    -- what is left of the call
    abbrev left : Getting → Task
    left g = task.Get board g type None

    left_is : left heard ≡ ticked own read.value
    left_is = ap left read.heard_is

    finished_is : (b : Bool) → is_finished heard.reading ≡ b → ends_call own read.value ≡ b
    finished_is b e = ap (λ (g : Getting). is_finished g.reading) (sym read.heard_is) ∙ e

    -- the get goes on
    pub get_goes_on : is_finished heard.reading ≡ false → IsPut (task_of m) (task_of new) party (Some (left heard)) → Serves m new (line.Step party) (answer.Step made None)
    get_goes_on more put = subst (λ (a : Access). Serves m new (line.Step party) (answer.Step a None)) (sym read.made_is) (λ s rep reached l.
        read_goes_on m s rep reached.sound party own (owed_runs m party (owed.Read x) (record { task = own; stands = stands; owes = read.owed }) s rep) x read.owed read.value read.loaded
        read.numbers.0 read.numbers.1 read.numbers.2 l new (ap (λ (d : Parties). d.tables) read.same) (ap (λ (d : Parties). d.words) read.same) values loans
        (record { more = finished_is false more; tasks = subst (λ (t : Task). IsPut (task_of m) (task_of new) party (Some t)) left_is put }))

    -- the get has made its last read
    pub get_ends : is_finished heard.reading ≡ true → IsPut (task_of m) (task_of new) party None → (told : Reply) → read_told (left heard) ≡ Some told → IsReply told → Serves m new (line.Step party) (answer.Step made (Some told))
    get_ends last put told is reply = subst (λ (a : Access). Serves m new (line.Step party) (answer.Step a (Some told))) (sym read.made_is) (λ s rep reached l.
        read_ends m s rep reached.sound party own (owed_runs m party (owed.Read x) (record { task = own; stands = stands; owes = read.owed }) s rep) x read.owed read.value read.loaded
        read.numbers.0 read.numbers.1 read.numbers.2 l new new (ap (λ (d : Parties). d.tables) read.same) (ap (λ (d : Parties). d.words) read.same) values loans
        (left heard) (record { last = finished_is true last; task = left_is; tasks = put }) told
        (record { told_is = is; values = refl; domain = refl; parties = refl; loans = refl }) reply)
