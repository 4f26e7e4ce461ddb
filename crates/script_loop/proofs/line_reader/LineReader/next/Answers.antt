use Rattle.std.proofs.Common.{◌<◌, arith, rules}
use Rattle.script_loop.specs.Reader.{in_hand}
use Rattle.script_loop.proofs.LineLemmas.{gave_line, gave_last, is_long}
use Rattle.script_loop.proofs.line_reader.LineReader.next.Goals as goal

pub returns-in-Some-clause-fetched : goal.returns-in-Some-clause-fetched
returns-in-Some-clause-fetched g c =
    gave_line _ _ _ (in_hand c.loop-at.self) _ _ c.in-Some.at c.loop-at.invariant.kept c.in-Some.ensures.inside c.in-Some.ensures.found c.give.ensures.line c.give.ensures.hand

pub returns-then-searched-gt4096-clause-fetched : goal.returns-then-searched-gt4096-clause-fetched
returns-then-searched-gt4096-clause-fetched g c =
    is_long _ _ (in_hand c.loop-at.self) c.loop-at.invariant.kept c.in_default.ensures.none (omega (arith, c.hand_len-searched.ensures.len, c.if-searched-gt4096.true))

pub returns-then-self-clause-fetched : goal.returns-then-self-clause-fetched
returns-then-self-clause-fetched g c =
    let some : 0 < c.hand_len-searched.result = search rules in
    gave_last _ _ _ (in_hand c.loop-at.self) _ _ c.hand_len-searched.result (search rules) c.loop-at.invariant.kept (c.loop-at.invariant.one_source c.if-self.true) c.hand_len-searched.ensures.len some c.give-then-self.ensures.line c.give-then-self.ensures.hand
