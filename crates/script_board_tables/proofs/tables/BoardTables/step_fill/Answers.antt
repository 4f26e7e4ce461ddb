use Rattle.std.proofs.Common.{◌<◌, length, subst, sym}
use Rattle.board_model.specs.Requests.{Published}
use Rattle.script_board_tables.proofs.StepLemmas.{fills_last, fills_on}
use Rattle.script_board_tables.proofs.tables.BoardTables.step_fill.Goals as goal

pub publish-requires : goal.publish-requires
publish-requires c = subst (λ (l : Published). 0 < length (l c.args.publishing.board c.args.publishing.entry)) (sym c.write_next-access.ensures.has.lists) c.requires.listed

pub returns-then-is_unwritten : goal.returns-then-is_unwritten
returns-then-is_unwritten c = fills_on c.args.self.now c.write_next-access.new.self c.args.publishing c.write_next-access.result c.write_next-access.ensures.access c.write_next-access.ensures.stands c.write_next-access.ensures.has c.args.loan c.args.handle c.args.party.now (c.is_unwritten.ensures.some c.if-is_unwritten.true)

pub returns : goal.returns
returns c = fills_last c.args.self.now c.write_next-access.new.self c.args.publishing c.write_next-access.result c.write_next-access.ensures.access c.write_next-access.ensures.stands c.write_next-access.ensures.has c.args.loan c.args.handle c.publish.new.self c.give_back.new.self c.args.party.now (c.is_unwritten.ensures.none c.if-is_unwritten.false) c.in_ok-publish.ensures c.in_ok-give_back.ensures
