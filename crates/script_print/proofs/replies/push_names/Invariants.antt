use Rattle.std.proofs.Common.{◌≡◌, ◌≤◌, ◌++◌, take}
use Rattle.std.specs.Prelude.{vec_capacity}
use Rattle.std.specs.List.{flat_map}
use Rattle.board_model.specs.AnswerGrammar.{name_item_text}
use Rattle.script_print.proofs.replies.push_names.Given as goal

abbrev pub invariant-loop-name : goal.invariant-loop-name
invariant-loop-name l = record {
  written : l.out.items ≡ l.fn.out.items ++ flat_map name_item_text (take l.name-index l.names);
  grows : vec_capacity l.fn.out ≤ vec_capacity l.out;
}
