use Rattle.script_model.proofs.FormedLemmas.{turns_right}
use Rattle.script_model.proofs.rule_laws.turns_are_right.Goals as goal

pub returns : goal.returns
returns c = turns_right
