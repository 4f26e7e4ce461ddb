use Rattle.script_rules.proofs.GroupLemmas.{none_where_right}
use Rattle.script_rules.proofs.rule_laws.breaks_none_where_right.Goals as goal

pub returns : goal.returns
returns c = none_where_right
