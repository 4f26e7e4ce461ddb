use Rattle.std.proofs.Common.{◌≡◌, ◌≤◌, ◌++◌, take}
use Rattle.std.specs.Prelude.{vec_capacity}
use Rattle.std.specs.List.{flat_map}
use Rattle.board_model.specs.AnswerGrammar.{key_item_text}
use Rattle.script_print.proofs.replies.push_keys.Given as goal

abbrev pub invariant-loop-key : goal.invariant-loop-key
invariant-loop-key l = record {
  written : l.out.items ≡ l.fn.out.items ++ flat_map key_item_text (take l.key-index l.keys);
  grows : vec_capacity l.fn.out ≤ vec_capacity l.out;
}
