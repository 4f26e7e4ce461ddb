use Rattle.std.proofs.Common.{sym, ◌∙◌, None}
use Rattle.board_model.specs.declared.line.Call.TheVariants as call
use Rattle.script_boards.proofs.PastNames.{past_party}
use Rattle.script_boards.proofs.machine.BoardMachine.begin_get.Goals as goal

pub returns-in-Some-clause-serves : goal.returns-in-Some-clause-serves
returns-in-Some-clause-serves g c =
    λ s rep reached l. ((past_party s c.args.party (call.Get c.args.handle None) c.in-Some.why (sym c.in-Some.is ∙ c.refusal_of_party.ensures.reason s rep)).1 l, rep)
