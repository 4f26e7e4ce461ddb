-- Where the parts of a step may want memory. No clause of a public call cites what follows.
use Rattle.std.specs.Prelude.{ℕ, Bool, false, List, is_some}
use Rattle.script_parties.specs.Refusals.{IsUnrefused, create_refusal, entry_mut_refusal, entry_refusal, open_refusal, reader_refusal, writer_refusal}
use Rattle.script_boards.specs.declared.machine.BoardMachine.{BoardMachine}
use Rattle.script_boards.specs.declared.machine.TableTask.{TableTask}
use Rattle.script_boards.specs.declared.machine.TableTask.TheVariants as table_task
use Rattle.script_boards.specs.declared.machine.Task.{Task}
use Rattle.script_boards.specs.declared.machine.Task.TheVariants as task

-- a call on the tables that takes memory: nothing refuses what it makes, or it lends, or tells a list
abbrev pub TaskMayWant : {C : Type 0} → BoardMachine C → List ℕ → TableTask → Type 0
TaskMayWant m party (table_task.Create f n k l attributes entries) = IsUnrefused (create_refusal m.domain n k entries)
TaskMayWant m party (table_task.Open f n k l needs) = IsUnrefused (open_refusal m.domain party n k l needs)
TaskMayWant m party (table_task.Reader n x) = IsUnrefused (reader_refusal m.domain x)
TaskMayWant m party (table_task.Writer n x) = IsUnrefused (writer_refusal m.domain x)
TaskMayWant m party (table_task.Entry n x k type) = IsUnrefused (entry_refusal m.domain x k type)
TaskMayWant m party (table_task.EntryMut n x k type) = IsUnrefused (entry_mut_refusal m.domain x k type)
TaskMayWant m party (table_task.Loan handle loan words) = Unit {0}
TaskMayWant m party (table_task.Discard loan handle) = ⊥
TaskMayWant m party (table_task.Keys x) = Unit {0}
TaskMayWant m party (table_task.Nodes x) = Unit {0}
TaskMayWant m party (table_task.Info x) = Unit {0}
TaskMayWant m party (table_task.Id x) = ⊥
TaskMayWant m party (table_task.Gen x) = ⊥

-- a get whose value is kept
abbrev pub keeps_value : Task → Bool
keeps_value (task.Table t) = false
keeps_value (task.Get board call type name) = is_some name
keeps_value (task.Fresh board call) = false
keeps_value (task.Update board call) = false
keeps_value (task.Put board call loan index word) = false
keeps_value (task.Publish board call loan handle) = false
keeps_value (task.Fill board call loan handle) = false
keeps_value task.Gone = false
