use Rattle.script_event_rows.proofs.IdWordLemmas.{becomes_put}
use Rattle.script_event_rows.proofs.id_words.put_id.Goals as goal

pub returns : goal.returns
returns c = becomes_put c.args.words.now.items c.args.id _ c.requires c.index_mut.ensures.value
