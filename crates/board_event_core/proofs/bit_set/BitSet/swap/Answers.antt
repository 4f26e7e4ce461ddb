use Rattle.std.proofs.Common.{arith}
use Rattle.board_event_core.proofs.BitLemmas.{scan_view, swap_view}
use Rattle.board_event_core.proofs.bit_set.BitSet.swap.Goals as goal

pub returns-clause-taken : goal.returns-clause-taken
returns-clause-taken c = scan_view c.self.inside.words.items c.self.inside.max c.args.word _ c.args.self.now c.self.view_is c.self.invariant c.requires c.index-bits.ensures (omega arith)

pub returns-clause-left : goal.returns-clause-left
returns-clause-left c = swap_view c.self.inside.words.items c.self.inside.max c.args.word c.args.self.now c.self.view_is c.self.invariant c.requires
