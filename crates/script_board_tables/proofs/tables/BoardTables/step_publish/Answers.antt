use Rattle.std.proofs.Common.{◌≡◌, ◌<◌, length, map, rules, subst, sym}
use Rattle.board_model.specs.Replies.{word_put}
use Rattle.board_model.specs.Requests.{Published}
use Rattle.script_board_tables.proofs.StepLemmas.{publishes}
use Rattle.script_board_tables.proofs.tables.BoardTables.step_publish.Goals as goal

pub publish-requires : goal.publish-requires
publish-requires c = subst (λ (l : Published). 0 < length (l c.args.lent.now.board c.args.lent.now.entry)) (sym c.write.ensures.lists) c.requires.listed

pub returns : goal.returns
returns c =
    let words : c.in_ok-words.words ≡ map word_put c.args.lent.now.words = search rules in
    publishes c.args.self.now c.write.new.self c.args.lent.now c.write.ensures c.publish.new.self c.give_back.new.self c.args.party.now c.in_ok-words.words words c.in_ok-publish.ensures c.in_ok-give_back.ensures
