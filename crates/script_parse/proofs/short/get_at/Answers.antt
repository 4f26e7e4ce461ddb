use Rattle.script_parse.proofs.ShortLemmas.{get_spelled}
use Rattle.script_parse.proofs.short.get_at.Goals as goal

pub returns : goal.returns
returns c = get_spelled c.args.bytes.now c.args.front.now c.args.asked.now c.in_ok-text.text.now c.in_ok-party.party c.in_ok-handle.handle c.requires c.if-bytes-gt-MOST_BYTES.false c.in_ok-text.ensures c.in_ok-party.ensures c.in_ok-handle.ensures
