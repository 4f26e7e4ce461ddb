use Rattle.std.proofs.Common.{sym, ◌∙◌, inl}
use Rattle.script_boards.proofs.Listings.{on_ok}
use Rattle.script_machine.proofs.Refusals.{refused_right, refused_telling}
use Rattle.script_machine.proofs.Turns.{from_nothing}
use Rattle.script_machine.proofs.UnkeptLines.{each_refused_wants, takes_unrefused}
use Rattle.script_machine.proofs.machine.Machine.answer_unkept.Goals as goal

pub returns-in-Some-clause-tells : goal.returns-in-Some-clause-tells
returns-in-Some-clause-tells g c = on_ok (λ e l formed known s count rep reached.
    refused_telling s c.in-Some.why c.args.self.now l _ (sym c.in-Some.is ∙ c.refusal_of.ensures s count rep reached l formed known) formed rep (from_nothing _ _ _ c.requires e)) c.push_refused.result c.push_refused.ensures.ok

pub returns-in-Some-clause-memory : goal.returns-in-Some-clause-memory
returns-in-Some-clause-memory g c =
    each_refused_wants c.push_refused.result c.args.self.now c.args.line.now c.args.out.now c.in-Some.why c.push_refused.ensures.room (λ l formed known s count rep reached.
    refused_right s c.in-Some.why l (sym c.in-Some.is ∙ c.refusal_of.ensures s count rep reached l formed known) formed)

pub returns-in-None-clause-memory : goal.returns-in-None-clause-memory
returns-in-None-clause-memory g c = λ l formed known room fits s count rep reached.
    inl (takes_unrefused s l c.args.line.now known (sym (c.refusal_of.ensures s count rep reached l formed known) ∙ c.in-None.is))
