-- What a call on the machine's domain leaves of the machine.
use Rattle.std.specs.Prelude.{◌≡◌}
use Rattle.script_boards.specs.declared.machine.BoardMachine.{BoardMachine}
use Rattle.script_boards.specs.Loans.{lent_words}
use Rattle.script_boards.specs.Machine.{kept, task_of}

-- all but the domain stays
pub record IsRest {C : Type 0} (old new : BoardMachine C) : Type 0 where
  pub parties : task_of new ≡ task_of old
  pub values : kept new ≡ kept old
  pub loans : lent_words new ≡ lent_words old
