use Rattle.std.proofs.Common.{arith}
use Rattle.board_event_core.proofs.BitLemmas.{scan_view}
use Rattle.board_event_core.proofs.bit_set.BitSet.scan.Goals as goal

pub returns : goal.returns
returns c = scan_view c.self.inside.words.items c.self.inside.max c.args.word _ c.args.self.now c.self.view_is c.self.invariant c.requires c.index.ensures (omega arith)
