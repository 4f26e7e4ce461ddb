use Rattle.script_parse.proofs.ShortLemmas.{notify_spelled}
use Rattle.script_parse.proofs.short.notify_at.Goals as goal

pub returns : goal.returns
returns c =
    notify_spelled c.args.bytes.now c.args.front.now c.args.asked.now c.in_ok-text.text.now c.in_ok-party.party _ _ c.in_ok-notifier.notifier c.in_ok-id.id c.requires c.if-bytes-gt-MOST_BYTES.false
    c.in_ok-text.ensures c.in_ok-party.ensures c.in_ok-name.ensures c.in_ok-notifier.ensures c.in_ok-id.ensures
