use Rattle.board_event_core.proofs.BitLemmas.{set_view}
use Rattle.board_event_core.proofs.bit_set.BitSet.set.Goals as goal

pub returns : goal.returns
returns c = set_view c.self.inside.words.items c.self.inside.max c.args.id _ c.args.self.now c.self.view_is c.self.invariant c.requires c.index_mut.ensures.value
