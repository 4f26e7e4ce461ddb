use Rattle.script_parse.proofs.ShortLemmas.{wait_spelled}
use Rattle.script_parse.proofs.short.wait_at.Goals as goal

pub returns : goal.returns
returns c =
    wait_spelled c.args.bytes.now c.args.front.now c.args.asked.now c.in_ok-text.text.now c.in_ok-party.party _ _ c.in_ok-listener.listener _ _ c.in_ok-many.many c.in_ok-mode.mode c.requires c.if-bytes-gt-MOST_BYTES.false
    c.in_ok-text.ensures c.in_ok-party.ensures c.in_ok-name.ensures c.in_ok-listener.ensures c.in_ok-count.ensures c.in_ok-many.ensures c.in_ok-mode.ensures
