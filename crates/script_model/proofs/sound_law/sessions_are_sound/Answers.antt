use Rattle.script_model.proofs.ScriptSoundLemmas.{sessions_sound}
use Rattle.script_model.proofs.sound_law.sessions_are_sound.Goals as goal

pub returns : goal.returns
returns c = sessions_sound
