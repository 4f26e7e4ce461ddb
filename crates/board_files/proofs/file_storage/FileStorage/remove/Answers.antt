use Rattle.std.proofs.Common.{sym, subst, Ok}
use Rattle.std.specs.Prelude.{IfSome, is_some}
use Rattle.board_names.specs.Configuration.{full_name}
use Rattle.board_names.specs.Table.{at}
use Rattle.board_names.specs.declared.errors.concept.NamedConceptRemoveError.TheVariants.{InternalError, OutOfMemory}
use Rattle.board_files.specs.Files.{Removes}
use Rattle.board_files.specs.Storage.{AnswersOr}
use Rattle.board_files.proofs.ReadLemmas.{remove-answer}
use Rattle.board_files.proofs.file_storage.FileStorage.remove.Goals as goal

pub returns-clause-answer : goal.returns-clause-answer
returns-clause-answer g c =
    let old = g.F.Files.told c.args.files.now in
    let new = g.F.Files.told c.remove-had.new.self in
    let path = full_name c.args.cfg.now c.args.name.now in
    let removes = subst (λ p. Removes p old new c.remove-had.result) c.path_for.ensures c.remove-had.ensures.files in
    subst (λ r. IfSome old (λ t. AnswersOr r InternalError OutOfMemory (Ok (is_some (at t.files path))))) (sym c.removal.ensures.value)
    (remove-answer path old new c.remove-had.result removes)
