use Rattle.script_event_rows.proofs.IdWordLemmas.{becomes_emptied}
use Rattle.script_event_rows.proofs.id_words.empty_word.Goals as goal

pub returns : goal.returns
returns c = becomes_emptied c.args.words.now.items c.args.word c.requires
