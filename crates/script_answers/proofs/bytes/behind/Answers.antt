use Rattle.std.proofs.lemmas.Slice.Eq.{strip_prefix_is}
use Rattle.std.proofs.Common.{rules}
use Rattle.script_parse.proofs.TokenLemmas.{behind_given}
use Rattle.script_answers.proofs.bytes.behind.Goals as goal

pub returns : goal.returns
returns c = behind_given c.args.prefix.now c.args.text.now c.strip_prefix.result (strip_prefix_is (search rules) c.args.text.now c.args.prefix.now c.strip_prefix.result c.strip_prefix.ensures.cases)
