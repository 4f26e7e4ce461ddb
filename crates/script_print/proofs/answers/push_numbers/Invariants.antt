use Rattle.std.proofs.Common.{◌≡◌, ◌≤◌, ◌++◌, take}
use Rattle.std.specs.Prelude.{vec_capacity}
use Rattle.std.specs.List.{flat_map}
use Rattle.board_model.specs.AnswerGrammar.{number_text}
use Rattle.script_print.proofs.answers.push_numbers.Given as goal

abbrev pub invariant-loop-number : goal.invariant-loop-number
invariant-loop-number l = record {
  written : l.out.items ≡ l.fn.out.items ++ flat_map number_text (take l.number-index l.numbers);
  grows : vec_capacity l.fn.out ≤ vec_capacity l.out;
}
