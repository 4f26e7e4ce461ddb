use Rattle.std.proofs.Common.{arith}
use Rattle.board_event_core.proofs.BitLemmas.{clear_view, id_low}
use Rattle.board_event_core.proofs.bit_set.BitSet.clear.Goals as goal

pub index_mut-requires : goal.index_mut-requires
index_mut-requires c =
    let l = id_low c.self.inside.words.items c.self.inside.max c.args.id c.args.self.now c.self.view_is c.requires in
    omega (arith, c.self.inside.words.ok.0)

pub returns : goal.returns
returns c = clear_view c.self.inside.words.items c.self.inside.max c.args.id _ c.args.self.now c.self.view_is c.requires c.index_mut.ensures.value
