use Rattle.std.proofs.Common.{◌≡◌, ◌≤◌, ◌++◌, take}
use Rattle.std.specs.Prelude.{vec_capacity}
use Rattle.std.specs.List.{flat_map}
use Rattle.script_print.specs.Texts.{comma_text}
use Rattle.script_print.proofs.replies.push_behind_commas.Given as goal

abbrev pub invariant-loop-number : goal.invariant-loop-number
invariant-loop-number l = record {
  written : l.out.items ≡ l.fn.out.items ++ flat_map comma_text (take l.number-index l.numbers);
  grows : vec_capacity l.fn.out ≤ vec_capacity l.out;
}
