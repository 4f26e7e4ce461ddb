use Rattle.std.specs.Prelude.{◌≡◌, Bool, true, false, not}
use Rattle.std.proofs.lemmas.Bool.{false≢true}
use Rattle.board_event_tests.proofs.LentTables.{none_unheld}
use Rattle.board_event_tests.proofs.table.lent.is_unheld.Goals as goal

not_both : (b : Bool) → not b ≡ true → b ≡ true → ⊥
not_both true absent held = false≢true absent
not_both false absent held = false≢true held

pub returns-then-not-has_listener : goal.returns-then-not-has_listener
returns-then-not-has_listener c = λ nobody. none_unheld c.args.events.now c.args.event c.table_stands.ensures.kept (λ held. false≢true (c.if-not-has_listener.ensures.1 held))
    (λ some. not_both c.has_notifier.result nobody (c.has_notifier.ensures.1 some))
