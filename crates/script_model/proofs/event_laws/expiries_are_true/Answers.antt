use Rattle.script_model.proofs.ReplyLaws.{expiries_true}
use Rattle.script_model.proofs.event_laws.expiries_are_true.Goals as goal

pub returns : goal.returns
returns c = expiries_true
