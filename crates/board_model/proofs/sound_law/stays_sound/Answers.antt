use Rattle.board_model.proofs.sound_law.stays_sound.Goals as goal
use Rattle.board_model.proofs.SoundLemmas.{sound_after, sound_session, sound_start}

pub returns : goal.returns
returns c = record { at_start = sound_start; after = sound_after; session = sound_session }
