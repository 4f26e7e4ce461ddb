use Rattle.std.proofs.Common.{rules, ◌≡◌, subst}
use Rattle.board_layout.specs.Answer.{Answers, Refuses}
use Rattle.board_layout.proofs.AnswerLemmas.{Refuses-passed, Refuses-kept}
use Rattle.board_store.specs.Statics.{unlock_answer, locked_of}
use Rattle.board_names.specs.declared.errors.static_storage.StaticStorageUnlockError.TheVariants.{OutOfMemory}
use Rattle.board_store.proofs.locked.Locked.unlock_in.Goals as goal

pub returns-in_err-content-clause-refused : goal.returns-in_err-content-clause-refused
returns-in_err-content-clause-refused c =
    let path : c.path.result.now ≡ c.args.self.place.path = search rules in
    let refused = subst (λ p. Refuses c.unlock.result (unlock_answer c.args.contents.now (locked_of c.args.state.now p))) path c.unlock.ensures.refused in
    Refuses-passed _ c.unlock.result (unlock_answer c.args.contents.now (locked_of c.args.state.now c.args.self.place.path)) _ c.in_err-content.field-0.0 refused c.in_err-content.was (search rules)

pub returns-clause-refused : goal.returns-clause-refused
returns-clause-refused c =
    let path : c.path.result.now ≡ c.args.self.place.path = search rules in
    let answer = subst (λ p. Answers c.unlock.result OutOfMemory (unlock_answer c.args.contents.now (locked_of c.args.state.now p))) path c.unlock.ensures.answer in
    Refuses-kept _ c.unlock.result (unlock_answer c.args.contents.now (locked_of c.args.state.now c.args.self.place.path)) _ c.in_ok-content.content OutOfMemory answer c.in_ok-content.was
