-- Steps of gets that keep no value.
use Rattle.std.specs.Prelude.{◌≡◌, ℕ, List, Some, None, option_map}
use Rattle.board_cell.specs.Calls.{Getting}
use Rattle.board_model.specs.declared.answer.Answer.{Answer}
use Rattle.board_model.specs.declared.answer.Answer.TheVariants as answer
use Rattle.board_model.specs.declared.answer.Reply.{Reply}
use Rattle.board_model.specs.declared.answer.Reply.TheVariants as reply
use Rattle.board_model.specs.declared.value.ValueType.{ValueType}
use Rattle.script_boards.specs.declared.get_steps.GetStep.{GetStep}
use Rattle.script_boards.specs.declared.get_steps.ReadValue.{ReadValue}
use Rattle.script_boards.specs.declared.machine.BoardMachine.{BoardMachine}
use Rattle.script_boards.specs.declared.machine.Task.{Task}
use Rattle.script_boards.specs.declared.machine.Task.TheVariants as task
use Rattle.script_boards.specs.Machine.{task_of}

-- it is a get that keeps no value
pub record IsPlainGet (t : Task) : Type 0 where
  pub board : ℕ
  pub call : Getting
  pub type : ValueType
  pub task_is : t ≡ task.Get board call type None

-- the party runs a get that keeps no value
pub record RunsPlainGet {C : Type 0} (m : BoardMachine C) (party : List ℕ) : Type 0 where
  pub task : Task
  pub stands : task_of m party ≡ Some task
  pub is_plain : IsPlainGet task

-- what is told of a value that was read
abbrev pub value_told : ReadValue → Reply
value_told v = reply.Got v.value_type v.words v.generation

-- the answer of such a step
abbrev pub get_answer : GetStep → Answer
get_answer step = answer.Step step.access (option_map value_told step.told)
