use Rattle.std.proofs.Common.{rules}
use Rattle.script_boards.proofs.get_steps.value_read.Goals as goal

pub returns-clause-is_reply : goal.returns-clause-is_reply
returns-clause-is_reply c = search rules
