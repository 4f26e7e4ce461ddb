use Rattle.script_rules.proofs.PairLemmas.{each_judged}
use Rattle.script_rules.proofs.session_laws.each_pair_is_judged.Goals as goal

pub returns : goal.returns
returns c = each_judged
