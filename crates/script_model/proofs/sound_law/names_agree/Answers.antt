use Rattle.script_model.proofs.ScriptSoundLemmas.{names_agree}
use Rattle.script_model.proofs.sound_law.names_agree.Goals as goal

pub returns : goal.returns
returns c = names_agree
