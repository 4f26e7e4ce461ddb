use Rattle.script_grammar.proofs.NumeralLemmas.{spelled_once}
use Rattle.script_grammar.proofs.number_laws.numbers_are_spelled_once.Goals as goal

pub returns : goal.returns
returns c = spelled_once
