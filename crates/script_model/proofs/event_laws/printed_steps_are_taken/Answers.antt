use Rattle.script_model.proofs.ReplyLaws.{printed_taken}
use Rattle.script_model.proofs.event_laws.printed_steps_are_taken.Goals as goal

pub returns : goal.returns
returns c = printed_taken
