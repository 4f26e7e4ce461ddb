use Rattle.std.proofs.Common.{subst}
use Rattle.board_event_model.specs.declared.access.EventAccess.{EventAccess}
use Rattle.board_event_model.specs.EventMemory.{CanPerform}
use Rattle.script_event_rows.specs.EventRows.{OfSome}
use Rattle.script_event_rows.proofs.event_row.EventRow.perform.Goals as goal

pub set-requires : goal.set-requires
set-requires c = subst (λ (a : EventAccess). OfSome c.args.self.now (λ e. CanPerform e a)) c.in-Set.is c.requires

pub post-requires : goal.post-requires
post-requires c = subst (λ (a : EventAccess). OfSome c.args.self.now (λ e. CanPerform e a)) c.in-Post.is c.requires

pub scan-requires : goal.scan-requires
scan-requires c = subst (λ (a : EventAccess). OfSome c.args.self.now (λ e. CanPerform e a)) c.in-Scan.is c.requires

pub clear-requires : goal.clear-requires
clear-requires c = subst (λ (a : EventAccess). OfSome c.args.self.now (λ e. CanPerform e a)) c.in-Clear.is c.requires

pub swap-requires : goal.swap-requires
swap-requires c = subst (λ (a : EventAccess). OfSome c.args.self.now (λ e. CanPerform e a)) c.in-Swap.is c.requires
