use Rattle.script_print.proofs.ReplyLemmas.{err_then, ok_then, parted, parted_lacks}
use Rattle.script_print.proofs.replies.push_parted.Goals as goal

pub returns-in_ok-push_digits-in-len1-up-clause-ok : goal.returns-in_ok-push_digits-in-len1-up-clause-ok
returns-in_ok-push_digits-in-len1-up-clause-ok c =
    ok_then c.push_behind_commas.result c.push_behind_commas.ensures.ok
    (parted c.args.numbers.now c.args.out.now.items c.push_digits.new.out.items c.push_behind_commas.new.out.items c.in-len1-up.len_at_least c.in_ok-push_digits-in-len1-up.ensures.ok)

pub returns-in_ok-push_digits-in-len1-up-clause-room : goal.returns-in_ok-push_digits-in-len1-up-clause-room
returns-in_ok-push_digits-in-len1-up-clause-room c =
    err_then c.push_behind_commas.result c.push_behind_commas.ensures.room
    (parted_lacks c.args.numbers.now c.args.out.now c.push_digits.new.out c.in-len1-up.len_at_least c.in_ok-push_digits-in-len1-up.ensures.ok c.in_ok-push_digits-in-len1-up.ensures.grows)
