use Rattle.script_parse.proofs.ShortLemmas.{step_spelled}
use Rattle.script_parse.proofs.short.step_of.Goals as goal

pub returns : goal.returns
returns c = step_spelled c.args.bytes.now c.in_ok-rest.rest.now c.in_ok-party.party c.in_ok-rest.ensures c.in_ok-party.ensures
