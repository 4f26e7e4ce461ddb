use Rattle.std.proofs.Common.{sym}
use Rattle.board_concepts.proofs.arc_sync_policy.SingleThreadedArcSyncPolicy.with.Goals as goal

pub returns : goal.returns
returns g c = (c.deref.result, sym c.deref.ensures, c.f.ensures)
