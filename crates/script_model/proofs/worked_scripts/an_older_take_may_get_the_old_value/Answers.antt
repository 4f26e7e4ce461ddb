use Rattle.script_model.proofs.WorkedOlder.{asked, got, lawful, notified, place, published, taken}
use Rattle.script_model.proofs.worked_scripts.an_older_take_may_get_the_old_value.Goals as goal

pub returns-clause-lawful : goal.returns-clause-lawful
returns-clause-lawful c = lawful

pub returns-clause-id : goal.returns-clause-id
returns-clause-id c = place

pub returns-clause-taken : goal.returns-clause-taken
returns-clause-taken c = taken

pub returns-clause-asked : goal.returns-clause-asked
returns-clause-asked c = asked

pub returns-clause-got : goal.returns-clause-got
returns-clause-got c = got

pub returns-clause-published : goal.returns-clause-published
returns-clause-published c = published

pub returns-clause-notified : goal.returns-clause-notified
returns-clause-notified c = notified
