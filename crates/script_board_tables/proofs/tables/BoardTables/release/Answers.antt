use Rattle.std.proofs.Common.{None}
use Rattle.board_model.specs.Replies.{released_thing}
use Rattle.board_model.specs.Things.{Standing, thing_of, with_at}
use Rattle.script_board_tables.proofs.TableLemmas.{then}
use Rattle.script_board_tables.proofs.tables.BoardTables.release.Goals as goal

pub returns : goal.returns
returns c =
    let party = c.args.party.now in
    let name = c.args.name.now in
    then c.forget_value.new.self _ _ _ _ (λ (s : Standing). record s { tables = released_thing s.tables party name (thing_of s.tables.things party name) })
    (then c.forget_words.new.self c.forget_value.new.self _ _ _ (λ (s : Standing). record s { values = with_at s.values party name None }) c.forget_words.ensures c.forget_value.ensures) c.let_go.ensures
