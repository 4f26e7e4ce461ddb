use Rattle.std.proofs.Common.{rules, ◌≡◌, is_some, false}
use Rattle.board_layout.proofs.AnswerLemmas.{Refuses-value}
use Rattle.board_names.specs.Table.{at}
use Rattle.board_names.proofs.TableLemmas.{taking-free}
use Rattle.board_names.specs.declared.errors.static_storage.StaticStorageCreateError.TheVariants.{AlreadyExists}
use Rattle.board_store.proofs.statics.Statics.create_locked.Goals as goal

pub returns-clause-refused : goal.returns-clause-refused
returns-clause-refused c =
    let free : is_some (at c.args.self.now c.args.name.now) ≡ false = search rules in
    Refuses-value _ _ tt (taking-free tt AlreadyExists _ free)
