use Rattle.std.proofs.lemmas.Result.{on_ok_weaker}
use Rattle.script_shots.proofs.MachineLemmas.{now_of, script_so, stands_for, tells}
use Rattle.script_shots.proofs.machine.SnapshotMachineDrives.script.Goals as goal

pub script-requires-clause-stands : goal.script-requires-clause-stands
script-requires-clause-stands g c = (c.requires.work.1.state.state.fed, stands_for g.M.RunsLines.stands c.args.self.now.driven c.requires.work.0 c.requires.work.1.state.state (now_of g.M.RunsLines.stands c.args.self.now c.requires.work.0 c.requires.work.1))

pub returns : goal.returns
returns g c = on_ok_weaker c.script.result (λ a. tells g.M.RunsLines.stands c.args.self.now _ _ c.script.new.told.items (λ xs s h. script_so g.M.RunsLines.stands c.args.self.now.driven _ xs s c.args.parsed c.args.line.now c.script.new.told.items h c.requires.spelled (rw c.requires.empty at a))) c.script.ensures
