use Rattle.std.proofs.Common.{Bool, arith, subst, sym, ◌∙◌}
use Rattle.script_pairs.specs.PairLines.{TakesAll, TakesPart, TakesWhole, in_hand}
use Rattle.script_pairs.proofs.FirstLines.{last_found, line_found, long_found, more_behind}
use Rattle.script_pairs.proofs.pair_lines.PairLines.next.Goals as goal

pub returns-then-len-most-clause-found : goal.returns-then-len-most-clause-found
returns-then-len-most-clause-found g c =
    let hand = in_hand c.refill.new.self in
    let line = c.look.line.items in
    let kept = more_behind _ _ _ line _ hand c.look.invariant.kept c.refill.ensures.kept in
    long_found c.args.most line hand (in_hand c.take_part.new.self) c.take_part.new.line.items c.look.invariant.one c.in_ok-whole.whole _ _ kept c.in_ok-whole.ensures.taken (omega arith)

pub returns-then-whole-clause-found : goal.returns-then-whole-clause-found
returns-then-whole-clause-found g c =
    let hand = in_hand c.refill.new.self in
    let line = c.look.line.items in
    let rest = in_hand c.take_part.new.self in
    let longer = c.take_part.new.line.items in
    let kept = more_behind _ _ _ line _ hand c.look.invariant.kept c.refill.ensures.kept in
    let taken : TakesWhole hand rest line longer = subst (λ (w : Bool). TakesPart w hand rest line longer) c.if-whole.true c.in_ok-whole.ensures.taken in
    (line_found c.args.most line hand rest longer c.look.invariant.one _ _ kept taken, omega arith)

pub returns-then-self-clause-found : goal.returns-then-self-clause-found
returns-then-self-clause-found g c =
    let hand = in_hand c.refill.new.self in
    let line = c.look.line.items in
    let rest = in_hand c.take_part.new.self in
    let longer = c.take_part.new.line.items in
    let kept = more_behind _ _ _ line _ hand c.look.invariant.kept c.refill.ensures.kept in
    let taken : TakesAll hand rest line longer = subst (λ (w : Bool). TakesPart w hand rest line longer) c.if-whole.false c.in_ok-whole.ensures.taken in
    let end = c.in-Ok.ensures.one_source (sym c.in_ok-whole.ensures.ended ∙ c.if-self.true) in
    last_found c.args.most line hand rest longer c.look.invariant.one c.last_of.result _ _ kept taken end (omega arith) (rw c.deref.ensures.value at c.last_of.ensures.line) (rw c.deref.ensures.value at c.last_of.ensures.end)
