use Rattle.std.proofs.Common.{refl}
use Rattle.script_shots.proofs.ShotLemmas.{new_keeps}
use Rattle.script_shots.proofs.shot.Shot.new.Goals as goal

pub returns : goal.returns
returns c = new_keeps _ c.args.handles c.requires.named c.into_vec-handles.ensures refl refl c.in_ok-generations.ensures.items c.new.ensures.items
