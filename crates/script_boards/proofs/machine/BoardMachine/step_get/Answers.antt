use Rattle.std.proofs.Common.{◌≡◌, ℕ, List, Option, Some, None, refl, sym, ap, subst, ◌∙◌}
use Rattle.std.specs.HashMap.{get}
use Rattle.std.specs.Option.{option_flatten}
use Rattle.std.specs.Prelude.{is_some}
use Rattle.std.specs.Str.{bytes_eq}
use Rattle.board_cell_model.specs.OwedAccesses.{is_finished}
use Rattle.script_boards.specs.declared.machine.Task.{Task}
use Rattle.script_boards.specs.declared.machine.Task.TheVariants as task
use Rattle.script_boards.specs.declared.step.OwedAccess.TheVariants as owed
use Rattle.script_boards.specs.declared.step.OwedRead.{OwedRead}
use Rattle.script_boards.specs.GetSteps.{value_told}
use Rattle.script_boards.specs.Machine.{task_of}
use Rattle.script_boards.specs.Steps.{CanGoOn, IsOwedBy, IsPut, is_gone}
use Rattle.script_boards.proofs.GetSteps.{get_ends, get_goes_on, plain_get, progress_is_done, told_of}
use Rattle.script_boards.proofs.PartyTasks.{a_task, placed, progress_more, put_there, some_place}
use Rattle.script_boards.proofs.ShortSteps.{own_goes_on, own_words, put_and_taken}
use Rattle.script_boards.proofs.machine.BoardMachine.step_get.Goals as goal

pub read_word-access-requires-clause-goes_on : goal.read_word-access-requires-clause-goes_on
read_word-access-requires-clause-goes_on g c =
    let m = c.args.self.now in
    let party = c.args.party.now in
    let own = c.in-Some-place.task in
    let stands : task_of m party ≡ Some own = ap option_flatten (sym c.in-Some.ensures.value ∙ ap some_place c.in-Some-place.is) in
    subst CanGoOn c.in-Get.is (own_goes_on m party own stands c.requires.led (ap is_gone c.in-Get.is))

pub read_word-access-requires-clause-word : goal.read_word-access-requires-clause-word
read_word-access-requires-clause-word g c = λ word e.
    let m = c.args.self.now in
    let party = c.args.party.now in
    let own = c.in-Some-place.task in
    let stands : task_of m party ≡ Some own = ap option_flatten (sym c.in-Some.ensures.value ∙ ap some_place c.in-Some-place.is) in
    let r : OwedRead = record { board = c.in-Get.board; word = word } in
    (own_words m party own stands c.requires.led).reads r (subst (λ (t : Task). IsOwedBy t (owed.Read r)) (sym c.in-Get.is) e)

pub returns-in-More-clause-serves : goal.returns-in-More-clause-serves
returns-in-More-clause-serves g c =
    let m = c.args.self.now in
    let party = c.args.party.now in
    let own = c.in-Some-place.task in
    let board = c.in-Get.board in
    let call = c.in-Get.call in
    let type = c.in-Get.value_type in
    let heard = c.read_word-access.new.call in
    let found : get bytes_eq m.parties.places party ≡ some_place (Some own) = sym c.in-Some.ensures.value ∙ ap some_place c.in-Some-place.is in
    let plain = plain_get m party c.requires.get own (ap option_flatten found) board call type c.in-Get.value c.in-Get.is in
    let left : Task = task.Get board heard type c.in-Get.value in
    let new = record m { domain = c.read_word-access.new.domain; parties = record { places = c.get_mut.follows.lender (Some left) } } in
    let put = ((c.get_mut.follows.holds (Some left)).3 (ap is_some found)).0 in
    let tasks : IsPut (task_of m) (task_of new) party (Some left) = placed (λ p. get bytes_eq m.parties.places p) (λ p. get bytes_eq new.parties.places p) party (Some left) put in
    get_goes_on m party board call type plain.stands new refl refl heard c.read_word-access.result.0 c.read_word-access.ensures.read
    (progress_more (is_finished heard.reading) (sym c.read_word-access.ensures.progress ∙ c.in-More.is))
    (subst (λ (v : Option (List ℕ)). IsPut (task_of m) (task_of new) party (Some (task.Get board heard type v))) plain.none tasks)

pub returns-then-keeps_place-clause-serves : goal.returns-then-keeps_place-clause-serves
returns-then-keeps_place-clause-serves g c =
    let m = c.args.self.now in
    let party = c.args.party.now in
    let own = c.in-Some-place.task in
    let board = c.in-Get.board in
    let call = c.in-Get.call in
    let type = c.in-Get.value_type in
    let heard = c.read_word-access.new.call in
    let found : get bytes_eq m.parties.places party ≡ some_place (Some own) = sym c.in-Some.ensures.value ∙ ap some_place c.in-Some-place.is in
    let plain = plain_get m party c.requires.get own (ap option_flatten found) board call type c.in-Get.value c.in-Get.is in
    let empty : Option Task = c.take.new.self in
    let new = record m { domain = c.read_word-access.new.domain; parties = record { places = c.get_mut.follows.lender empty } } in
    let put = ((c.get_mut.follows.holds empty).3 (ap is_some found)).0 in
    let tasks : IsPut (task_of m) (task_of new) party empty = placed (λ p. get bytes_eq m.parties.places p) (λ p. get bytes_eq new.parties.places p) party empty put in
    let ended : c.take.result ≡ Some (task.Get board heard type None) = c.take.ensures.value ∙ ap (λ (v : Option (List ℕ)). a_task (task.Get board heard type v)) plain.none in
    let told = told_of (task.Get board heard type None) c.take.result ended (value_told c.value_read.result) c.value_read.ensures.told in
    get_ends m party board call type plain.stands new refl refl heard c.read_word-access.result.0 c.read_word-access.ensures.read
    (progress_is_done c.read_word-access.result.1 (is_finished heard.reading) c.read_word-access.ensures.progress c.in_default-progress.not-More)
    (subst (λ (o : Option Task). IsPut (task_of m) (task_of new) party o) c.take.ensures.after tasks) (value_told c.value_read.result) told c.value_read.ensures.is_reply

pub returns-clause-serves : goal.returns-clause-serves
returns-clause-serves g c =
    let m = c.args.self.now in
    let party = c.args.party.now in
    let own = c.in-Some-place.task in
    let board = c.in-Get.board in
    let call = c.in-Get.call in
    let type = c.in-Get.value_type in
    let heard = c.read_word-access.new.call in
    let found : get bytes_eq m.parties.places party ≡ some_place (Some own) = sym c.in-Some.ensures.value ∙ ap some_place c.in-Some-place.is in
    let plain = plain_get m party c.requires.get own (ap option_flatten found) board call type c.in-Get.value c.in-Get.is in
    let left : Task = task.Get board heard type c.in-Get.value in
    let mid = record m { parties = record { places = c.get_mut.follows.lender (Some left) } } in
    let new = record m { domain = c.read_word-access.new.domain; parties = c.take-2.new.self } in
    let put = ((c.get_mut.follows.holds (Some left)).3 (ap is_some found)).0 in
    let tasks : IsPut (task_of m) (task_of mid) party (Some left) = placed (λ p. get bytes_eq m.parties.places p) (λ p. get bytes_eq mid.parties.places p) party (Some left) put in
    let there : c.take-2.result ≡ Some left = c.take-2.ensures.task ∙ put_there (task_of m) (task_of mid) party (Some left) tasks in
    let ended : c.take-2.result ≡ Some (task.Get board heard type None) = there ∙ ap (λ (v : Option (List ℕ)). a_task (task.Get board heard type v)) plain.none in
    let told = told_of (task.Get board heard type None) c.take-2.result ended (value_told c.value_read-2.result) c.value_read-2.ensures.told in
    get_ends m party board call type plain.stands new refl refl heard c.read_word-access.result.0 c.read_word-access.ensures.read
    (progress_is_done c.read_word-access.result.1 (is_finished heard.reading) c.read_word-access.ensures.progress c.in_default-progress.not-More)
    (put_and_taken (task_of m) (task_of mid) (task_of new) party (Some left) tasks c.take-2.ensures.rest) (value_told c.value_read-2.result) told c.value_read-2.ensures.is_reply
