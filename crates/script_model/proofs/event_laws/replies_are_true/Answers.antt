use Rattle.script_model.proofs.ReplyLaws.{replies_true}
use Rattle.script_model.proofs.event_laws.replies_are_true.Goals as goal

pub returns : goal.returns
returns c = replies_true
