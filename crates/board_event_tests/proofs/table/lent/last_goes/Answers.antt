use Rattle.std.proofs.lemmas.Bool.{false≢true}
use Rattle.board_event_tests.proofs.LentTables.{listens_alone}
use Rattle.board_event_tests.proofs.table.lent.last_goes.Goals as goal

pub release_listener-requires : goal.release_listener-requires
release_listener-requires c = listens_alone c.args.events.now c.args.event c.table_stands.ensures.kept c.requires (λ some. false≢true (c.if-has_notifier.ensures.1 some))
