use Rattle.std.proofs.Common.{◌≤◌, ◌+◌, arith, rules}
use Rattle.script_loop.proofs.HandLemmas.{drop_between}
use Rattle.script_loop.proofs.line_reader.LineReader.give.Goals as goal

pub returns-clause-hand : goal.returns-clause-hand
returns-clause-hand c =
    let r = c.args.self.now in
    let le : r.start + (c.args.len + c.args.dropped) ≤ r.end = search rules in
    drop_between r.bytes.items r.start r.end (c.args.len + c.args.dropped) (r.start + c.args.len + c.args.dropped) le (omega arith)
