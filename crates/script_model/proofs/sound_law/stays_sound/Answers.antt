use Rattle.script_model.proofs.ScriptSoundLemmas.{stays_sound}
use Rattle.script_model.proofs.sound_law.stays_sound.Goals as goal

pub returns : goal.returns
returns c = stays_sound
