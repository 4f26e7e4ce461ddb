use Rattle.std.proofs.Common.{◌∙◌, ap, sym}
use Rattle.board_names.specs.Table.{at}
use Rattle.board_names.proofs.TableLemmas.{at-without-before}
use Rattle.board_event_core.proofs.event_rows.remove.Goals as goal

pub returns-clause-left : goal.returns-clause-left
returns-clause-left c = λ q n h.
    at-without-before c.args.names.now.entries c.args.name.now q n (sym (ap (λ names. at names c.args.name.now) c.remove.ensures.after) ∙ c.remove.ensures.gone)
    (sym (ap (λ names. at names q) c.remove.ensures.after) ∙ h)
