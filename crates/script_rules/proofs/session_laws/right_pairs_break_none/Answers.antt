use Rattle.script_rules.proofs.PairLemmas.{right_none}
use Rattle.script_rules.proofs.session_laws.right_pairs_break_none.Goals as goal

pub returns : goal.returns
returns c = right_none
