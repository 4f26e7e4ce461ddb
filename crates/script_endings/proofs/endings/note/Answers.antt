use Rattle.script_endings.proofs.Notes.{noted}
use Rattle.script_endings.proofs.endings.note.Goals as goal

pub returns : goal.returns
returns g c = noted c.write_whole.result _ c.args.text.now c.write_whole.ensures.ok c.write_whole.ensures.err c.write_whole.ensures.cause c.write_whole.ensures.told c.write_whole.ensures.once
