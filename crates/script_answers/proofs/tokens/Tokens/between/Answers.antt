use Rattle.script_answers.proofs.CountLemmas.{all_parts}
use Rattle.script_answers.proofs.tokens.Tokens.between.Goals as goal

pub returns : goal.returns
returns c = all_parts c.args.separator c.args.text.now
