use Rattle.std.proofs.Common.{◌≤◌, length, rules, sym, subst}
use Rattle.std.specs.Prelude.{nat_lt, not}
use Rattle.script_boards.specs.declared.machine.Task.{Task}
use Rattle.script_boards.specs.declared.step.OwedAccess.TheVariants as owed
use Rattle.script_boards.specs.declared.step.OwedRead.{OwedRead}
use Rattle.script_boards.specs.declared.step.OwedWrite.{OwedWrite}
use Rattle.script_boards.specs.Steps.{IsOwedBy}
use Rattle.script_boards.proofs.ShortSteps.{owed_write_of}
use Rattle.script_boards.proofs.machine.Task.make_access.Goals as goal

pub read_word-access-requires-clause-word : goal.read_word-access-requires-clause-word
read_word-access-requires-clause-word g c = λ word e.
    let r : OwedRead = record { board = c.in-Get.board; word = word } in
    c.requires.words.reads r (subst (λ (t : Task). IsOwedBy t (owed.Read r)) (sym c.in-Get.is) e)

pub write_word-requires-clause-word : goal.write_word-requires-clause-word
write_word-requires-clause-word g c = λ word value e.
    let call = c.in-Update.call in
    let w : OwedWrite = record { board = c.in-Update.board; word = word; value = value; is_last = not (nat_lt call.written (length call.words)) } in
    let le : call.written ≤ length call.words = search rules in
    c.requires.words.writes w (subst (λ (t : Task). IsOwedBy t (owed.Write w)) (sym c.in-Update.is) (owed_write_of c.in-Update.board call word value le e))

pub write_word-requires-in-Fill-clause-word : goal.write_word-requires-in-Fill-clause-word
write_word-requires-in-Fill-clause-word g c = λ word value e.
    let call = c.in-Fill.call in
    let w : OwedWrite = record { board = c.in-Fill.board; word = word; value = value; is_last = not (nat_lt call.written (length call.words)) } in
    let le : call.written ≤ length call.words = search rules in
    c.requires.words.writes w (subst (λ (t : Task). IsOwedBy t (owed.Write w)) (sym c.in-Fill.is) (owed_write_of c.in-Fill.board call word value le e))
