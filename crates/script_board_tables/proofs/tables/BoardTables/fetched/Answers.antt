use Rattle.script_board_tables.proofs.StepLemmas.{fetches}
use Rattle.script_board_tables.proofs.tables.BoardTables.fetched.Goals as goal

pub returns : goal.returns
returns c = fetches c.args.self.now c.keep_fetched.new.self c.args.party.now c.args.fetch.now c.in_ok-words.words c.generation-generation.result c.in_ok-keep_fetched.ensures c.in_ok-words.ensures c.generation-generation.ensures
