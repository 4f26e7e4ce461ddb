use Rattle.std.proofs.Common.{rules, ◌≡◌, subst}
use Rattle.board_layout.specs.Answer.{Answers, Refuses}
use Rattle.board_names.specs.Concept.{path_of}
use Rattle.board_names.specs.Table.{at}
use Rattle.board_names.proofs.TableLemmas.{taking-passed, taking-kept}
use Rattle.board_names.specs.declared.errors.static_storage.StaticStorageCreateError.TheVariants.{AlreadyExists, OutOfMemory}
use Rattle.board_store.specs.Statics.{create_answer}
use Rattle.board_store.proofs.builder.Builder.create_locked_in.Goals as goal

pub returns-in_err-create_locked-clause-refused : goal.returns-in_err-create_locked-clause-refused
returns-in_err-create_locked-clause-refused c =
    let path : c.path.result.now ≡ path_of c.args.self.named = search rules in
    let refused = subst (λ p. Refuses c.create_locked.result (create_answer (at c.args.state.now p))) path c.create_locked.ensures.refused in
    taking-passed tt _ AlreadyExists (at c.args.state.now (path_of c.args.self.named)) c.create_locked.result _ c.in_err-create_locked.field-0.0 refused c.in_err-create_locked.was (search rules)

pub returns-clause-refused : goal.returns-clause-refused
returns-clause-refused c =
    let path : c.path.result.now ≡ path_of c.args.self.named = search rules in
    let answer = subst (λ p. Answers c.create_locked.result OutOfMemory (create_answer (at c.args.state.now p))) path c.create_locked.ensures.answer in
    taking-kept tt _ AlreadyExists (at c.args.state.now (path_of c.args.self.named)) c.create_locked.result _ tt OutOfMemory answer c.in_ok-create_locked.was
