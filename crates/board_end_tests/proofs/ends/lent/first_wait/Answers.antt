use Rattle.std.specs.Prelude.{◌≡◌, Ok, None}
use Rattle.std.proofs.Common.{sym, ◌∙◌}
use Rattle.board_names.specs.Concept.{path_of}
use Rattle.board_event_core.specs.EventTable.{answer_to_listen}
use Rattle.board_event.specs.Ends.{create_answer}
use Rattle.board_event.proofs.CallerLemmas.{first_gives_none, max_of}
use Rattle.board_end_tests.proofs.ends.lent.first_wait.Goals as goal

pub returns-in-Ok-try_wait_one_in : goal.returns-in-Ok-try_wait_one_in
returns-in-Ok-try_wait_one_in g c =
    let made : Ok c.in-Ok.listener ≡ create_answer g.K.KindOfEvents.which c.args.builder c.args.state.now = sym c.in-Ok.is ∙ c.create_in.ensures.answer (λ h. cc (sym c.in-Ok.is ∙ h)) in
    let same = max_of c.args.builder c.in-Ok.listener (answer_to_listen c.args.state.now g.K.KindOfEvents.which (path_of c.args.builder.named)) made in
    let given = first_gives_none g.K.KindOfEvents.which c.args.builder c.create_in.new.state c.in-Ok.listener c.try_wait_one_in.result c.in-Ok.ensures.stands same c.try_wait_one_in.ensures.none in
    cc (sym c.in-Ok-try_wait_one_in.is ∙ given)
