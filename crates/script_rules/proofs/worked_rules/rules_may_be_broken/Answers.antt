use Rattle.std.proofs.Common.{refl}
use Rattle.script_rules.proofs.worked_rules.rules_may_be_broken.Goals as goal

pub returns : goal.returns
returns c = record {
  reason = refl;
  refused = refl;
  accepted = refl;
  owed = refl;
  written = refl;
  form = refl;
  id = refl;
  dropped = refl;
  told = refl;
  word = refl;
  read_first = refl;
  listed = refl;
  longer = refl;
  event = refl;
  popped = refl;
  swapped = refl;
  reply = refl;
  pushed = refl;
  early = refl;
  owed_before_word = refl;
  owed_before_event = refl;
  none = refl;
}
