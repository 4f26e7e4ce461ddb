use Rattle.script_parse.proofs.ShortLemmas.{update_spelled}
use Rattle.script_parse.proofs.short.update_at.Goals as goal

pub returns : goal.returns
returns c =
    update_spelled c.args.bytes.now c.args.front.now c.args.asked.now c.in_ok-text.text.now c.in_ok-party.party _ _ c.in_ok-handle.handle c.in_ok-value.value c.requires c.if-bytes-gt-MOST_BYTES.false
    c.in_ok-text.ensures c.in_ok-party.ensures c.in_ok-name.ensures c.in_ok-handle.ensures c.in_ok-value.ensures
