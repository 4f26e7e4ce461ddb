use Rattle.std.proofs.Common.{refl}
use Rattle.script_loop.proofs.HandLemmas.{drop_between, fits}
use Rattle.script_pairs.proofs.pair_lines.PairLines.skip.Goals as goal

pub returns-clause-hand : goal.returns-clause-hand
returns-clause-hand c =
    let r = c.args.self.now in
    drop_between r.bytes.items r.start r.end c.args.count _ (fits r.bytes.items r.start r.end c.args.count r.ordered c.requires) refl
