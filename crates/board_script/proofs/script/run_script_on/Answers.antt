use Rattle.std.proofs.Common.{arith}
use Rattle.script_loop.proofs.CompleteLemmas.{complete}
use Rattle.script_loop.proofs.GoingOn.{stops_so}
use Rattle.script_machine.specs.Wants.{SpellsTakingAfter}
use Rattle.script_machine.proofs.Sessions.{taking_after}
use Rattle.board_script.proofs.script.run_script_on.Goals as goal

pub returns-clause-runs : goal.returns-clause-runs
returns-clause-runs g c =
    let it = c.run_lines.ensures in
    record {
      runs = it.runs;
      read = it.reads;
      written = it.writes;
      complete = λ sure room takes fits. complete _ _ _ c.run_lines.result it.runs (it.reads sure) (it.writes room takes fits.output) fits.script;
      memory = λ refused. stops_so _ SpellsTakingAfter c.args.limit _ _ (λ session bytes lawful few wants. taking_after session bytes lawful (omega (arith, few, c.requires)) wants) (it.memory refused);
    }
