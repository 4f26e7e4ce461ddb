use Rattle.std.proofs.Common.{subst}
use Rattle.script_boards.specs.declared.machine.Task.{Task}
use Rattle.script_boards.specs.Steps.{CanGoOn}
use Rattle.script_boards.proofs.OwedAccesses.{fill_owes, fresh_owes, get_owes, publish_owes, put_owes, update_owes}
use Rattle.script_boards.proofs.machine.Task.owed.Goals as goal

pub returns-in-Get : goal.returns-in-Get
returns-in-Get c = rw (c.in-Get.is, c.owed_on.ensures) (get_owes c.in-Get.board c.in-Get.call c.in-Get.value_type c.in-Get.value c.next.result c.next.ensures)

pub returns-in-Fresh : goal.returns-in-Fresh
returns-in-Fresh c = rw (c.in-Fresh.is, c.owed_on-in-Fresh.ensures) (fresh_owes c.in-Fresh.board c.in-Fresh.call c.next-in-Fresh.result c.next-in-Fresh.ensures)

pub returns-in-Update : goal.returns-in-Update
returns-in-Update c =
    rw (c.in-Update.is, c.owed_on-in-Update.ensures, c.owes_word.ensures)
    (update_owes c.in-Update.board c.in-Update.call c.next-in-Update.result (subst (λ (t : Task). CanGoOn t) c.in-Update.is c.requires) c.next-in-Update.ensures)

pub returns-in-Put : goal.returns-in-Put
returns-in-Put c = rw (c.in-Put.is, c.owed_on-in-Put.ensures) (put_owes c.in-Put.board c.in-Put.call c.in-Put.loan c.in-Put.index c.in-Put.word c.next-in-Put.result c.next-in-Put.ensures)

pub returns-in-Publish : goal.returns-in-Publish
returns-in-Publish c = rw (c.in-Publish.is, c.owed_on-in-Publish.ensures) (publish_owes c.in-Publish.board c.in-Publish.call c.in-Publish.loan c.in-Publish.handle c.next-in-Publish.result c.next-in-Publish.ensures)

pub returns-in-Fill : goal.returns-in-Fill
returns-in-Fill c =
    rw (c.in-Fill.is, c.owed_on-in-Fill.ensures, c.owes_word-in-Fill.ensures)
    (fill_owes c.in-Fill.board c.in-Fill.call c.next-in-Fill.result (subst (λ (t : Task). CanGoOn t) c.in-Fill.is c.requires) c.next-in-Fill.ensures c.in-Fill.loan c.in-Fill.handle)
