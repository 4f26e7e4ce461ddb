use Rattle.std.proofs.Common.{sym, ◌∙◌}
use Rattle.board_event_core.specs.EventTable.{event_at}
use Rattle.board_event_core.specs.Passing.{ids_at}
use Rattle.board_event_core.proofs.PassLemmas.{passes_over}
use Rattle.board_event_core.proofs.steps.pass_empty_words.Goals as goal

pub returns-then-allows-clause-passes : goal.returns-then-allows-clause-passes
returns-then-allows-clause-passes c =
    passes_over (ids_at (event_at c.args.events.now c.args.event)) c.args.call.now c.go_on_to.new.self c.in-Some.word c.next_word.result (sym c.word.ensures ∙ c.in-Some.is) c.next_word.ensures.none c.go_on_to.ensures.to
