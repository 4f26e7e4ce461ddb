use Rattle.std.proofs.Common.{arith}
use Rattle.board_event_core.proofs.BitLemmas.{has_view, past_view}
use Rattle.board_event_core.proofs.bit_set.BitSet.contains.Goals as goal

pub returns : goal.returns
returns c = has_view c.self.inside.words.items c.self.inside.max c.args.id _ c.args.self.now c.self.view_is (omega (arith, c.self.inside.words.ok.0)) c.index.ensures

pub returns-then-at-len : goal.returns-then-at-len
returns-then-at-len c = past_view c.self.inside.words.items c.self.inside.max c.args.id c.args.self.now c.self.view_is (omega (arith, c.self.inside.words.ok.0))
