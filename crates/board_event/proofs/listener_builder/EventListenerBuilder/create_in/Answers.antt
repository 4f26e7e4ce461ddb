use Rattle.std.proofs.Common.{rules, ◌≡◌}
use Rattle.board_layout.specs.Answer.{Answers, Refuses}
use Rattle.board_layout.proofs.AnswerLemmas.{Refuses-passed, Refuses-kept}
use Rattle.board_names.specs.Concept.{path_of}
use Rattle.board_names.specs.declared.errors.event.ListenerCreateError.TheVariants.{OutOfMemory}
use Rattle.board_event_core.specs.EventTable.{answer_to_listen}
use Rattle.board_event.specs.Ends.{end_of}
use Rattle.board_event.proofs.listener_builder.EventListenerBuilder.create_in.Goals as goal

pub returns-in_err-event-clause-refused : goal.returns-in_err-event-clause-refused
returns-in_err-event-clause-refused g c =
    let path : c.path-path.result ≡ path_of c.args.self.named = search rules in
    let refused : Refuses c.listen.result (answer_to_listen c.args.state.now g.K.KindOfEvents.which (path_of c.args.self.named)) = rw (← path, ← c.state.view_is, ← c.kind.ensures) c.listen.ensures.refused in
    Refuses-passed (end_of c.args.self.named c.args.self.max) c.listen.result (answer_to_listen c.args.state.now g.K.KindOfEvents.which (path_of c.args.self.named)) _ c.in_err-event.field-0.0 refused c.in_err-event.was (search rules)

pub returns-clause-refused : goal.returns-clause-refused
returns-clause-refused g c =
    let path : c.path-path.result ≡ path_of c.args.self.named = search rules in
    let answer : Answers c.listen.result OutOfMemory (answer_to_listen c.args.state.now g.K.KindOfEvents.which (path_of c.args.self.named)) = rw (← path, ← c.state.view_is, ← c.kind.ensures) c.listen.ensures.answer in
    Refuses-kept (end_of c.args.self.named c.args.self.max) c.listen.result (answer_to_listen c.args.state.now g.K.KindOfEvents.which (path_of c.args.self.named)) _ c.in_ok-event.event OutOfMemory answer c.in_ok-event.was
