use Rattle.script_board_tables.proofs.StepLemmas.{reads_last, reads_on}
use Rattle.script_board_tables.proofs.tables.BoardTables.step_get.Goals as goal

pub returns-in-Some : goal.returns-in-Some
returns-in-Some c = reads_on c.args.self.now c.args.fetch c.args.reading c.word_to_read-word.result c.read-value.result c.word_to_read-word.ensures c.read-value.ensures c.args.party.now c.in-Some.reading c.in-Some.ensures.hears

pub returns-in_ok-reply-in-None : goal.returns-in_ok-reply-in-None
returns-in_ok-reply-in-None c = reads_last c.args.self.now c.args.fetch c.args.reading c.word_to_read-word.result c.read-value.result c.word_to_read-word.ensures c.read-value.ensures c.fetched.new.self c.args.party.now c.in_ok-reply-in-None.reply c.in-None.ensures.hears c.in_ok-reply-in-None.ensures
