use Rattle.std.proofs.Common.{length, sym, ap, ◌∙◌}
use Rattle.script_answers.proofs.CountLemmas.{is_before, is_behind}
use Rattle.script_answers.proofs.GroupParts.{finds_other, reads_word}
use Rattle.script_answers.proofs.groups.groups_of_step.Goals as goal

pub owed_tokens-owed-requires : goal.owed_tokens-owed-requires
owed_tokens-owed-requires c =
    let access = is_before c.args.tokens.now c.first-access.result c.count_before_reply-count.result c.count_before_reply-count.ensures c.first-access.ensures in
    c.count_before_reply-count.ensures ∙ ap length (sym access)

pub returns-then-begins_with : goal.returns-then-begins_with
returns-then-begins_with c =
    let access = is_before c.args.tokens.now c.first-access.result c.count_before_reply-count.result c.count_before_reply-count.ensures c.first-access.ensures in
    let reply = is_behind c.args.tokens.now c.behind-reply.result c.count_before_reply-count.result c.count_before_reply-count.ensures c.behind-reply.ensures in
    reads_word c.args.tokens.now c.first-access.result c.behind-reply.result c.first.result c.behind-found.result c.none.result c.owed_tokens-owed.result access reply c.owed_tokens-owed.ensures c.first.ensures c.behind-found.ensures c.none.ensures (sym c.begins_with.ensures ∙ c.if-begins_with.true)

pub returns : goal.returns
returns c =
    let access = is_before c.args.tokens.now c.first-access.result c.count_before_reply-count.result c.count_before_reply-count.ensures c.first-access.ensures in
    let reply = is_behind c.args.tokens.now c.behind-reply.result c.count_before_reply-count.result c.count_before_reply-count.ensures c.behind-reply.ensures in
    finds_other c.args.tokens.now c.first-access.result c.behind-reply.result c.first-2.result c.behind-found.result c.none-2.result c.owed_tokens-owed.result access reply c.owed_tokens-owed.ensures c.first-2.ensures c.behind-found.ensures c.none-2.ensures (sym c.begins_with.ensures ∙ c.if-begins_with.false)
