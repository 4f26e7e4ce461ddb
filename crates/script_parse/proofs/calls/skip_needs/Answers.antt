use Rattle.script_parse.proofs.PartLemmas.{needs_left}
use Rattle.script_parse.proofs.calls.skip_needs.Goals as goal

pub returns : goal.returns
returns c = needs_left c.args.tokens.now c.skip_parts.new.tokens _ c.if-not-skip_parts.ensures c.skip_parts-2.ensures
