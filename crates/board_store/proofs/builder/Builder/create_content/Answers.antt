use Rattle.std.proofs.Common.{rules, ◌≡◌, subst}
use Rattle.board_layout.specs.Answer.{Refuses}
use Rattle.board_names.specs.Concept.{path_of}
use Rattle.board_names.specs.Table.{at}
use Rattle.board_store.specs.Statics.{whole_answer}
use Rattle.board_store.proofs.builder.Builder.create_content.Goals as goal

pub returns-clause-refused : goal.returns-clause-refused
returns-clause-refused c =
    let path : c.path.result ≡ path_of c.args.self.now.named = search rules in
    subst (λ p. Refuses c.create.result (whole_answer c.args.contents.now (at c.args.state.now p))) path c.create.ensures.refused
