use Rattle.script_rules.proofs.WorkedPairLemmas.{worked_pairs}
use Rattle.script_rules.proofs.worked_rules.pairs_may_be_judged.Goals as goal

pub returns : goal.returns
returns c = worked_pairs
