use Rattle.script_moments.proofs.WorkedTake.{second_lawful, second_notified, second_taken}
use Rattle.script_moments.proofs.worked_takes.a_second_take_is_of_the_second_notify.Goals as goal

pub returns-clause-lawful : goal.returns-clause-lawful
returns-clause-lawful c = second_lawful

pub returns-clause-taken : goal.returns-clause-taken
returns-clause-taken c = second_taken

pub returns-clause-notified : goal.returns-clause-notified
returns-clause-notified c = second_notified
