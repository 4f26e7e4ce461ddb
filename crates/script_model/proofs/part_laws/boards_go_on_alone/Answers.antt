use Rattle.script_model.proofs.PartLemmas.{boards_law_from}
use Rattle.script_model.proofs.part_laws.boards_go_on_alone.Goals as goal

pub returns : goal.returns
returns c = boards_law_from
