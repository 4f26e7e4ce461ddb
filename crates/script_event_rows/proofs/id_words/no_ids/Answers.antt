use Rattle.script_event_rows.proofs.IdWordLemmas.{none_in}
use Rattle.script_event_rows.proofs.id_words.no_ids.Goals as goal

pub returns-clause-ids : goal.returns-clause-ids
returns-clause-ids c = none_in _ c.args.count (c.in_ok-words.ensures.items_if_clones_equal (λ y h. h))
