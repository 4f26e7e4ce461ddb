use Rattle.std.proofs.Common.{arith, ap, ◌∙◌}
use Rattle.std.specs.Prelude.{not}
use Rattle.script_parse.proofs.PartLemmas.{none_taken, skips_all, skips_last, skips_none, skips_one, some_taken}
use Rattle.script_parse.proofs.options.skip_parts.Goals as goal

pub returns-then-not-take_word : goal.returns-then-not-take_word
returns-then-not-take_word g c =
    rw c.if-not-take_word.ensures.rest (skips_last c.args.word.now g.P.Part.read c.loop-n._n c.loop-n.tokens c.args.tokens.now c.if-not-take_word.ensures.begins c.loop-n.invariant)

pub returns-then-is_none : goal.returns-then-is_none
returns-then-is_none g c =
    let none = none_taken c.take.result c.take.new.tokens _ c.take.ensures (c.is_none.ensures ∙ ap not c.if-is_none.true) in
    skips_none c.args.word.now g.P.Part.read c.loop-n._n c.loop-n.tokens c.take_word.new.self c.args.tokens.now (omega arith) c.if-not-take_word.ensures.begins c.if-not-take_word.ensures.rest none c.loop-n.invariant

pub loop-n-preserved : goal.loop-n-preserved
loop-n-preserved g c =
    let some = some_taken c.take.result c.take.new.tokens _ c.take.ensures (c.is_none.ensures ∙ ap not c.if-is_none.false) in
    skips_one c.args.word.now g.P.Part.read c.loop-n._n some.0 c.loop-n.tokens c.take_word.new.self c.take.new.tokens c.args.tokens.now (omega arith) c.if-not-take_word.ensures.begins c.if-not-take_word.ensures.rest some.1 c.loop-n.invariant

pub returns : goal.returns
returns g c = skips_all c.args.word.now g.P.Part.read c.loop-n._n c.loop-n.tokens c.args.tokens.now (omega arith) c.loop-n.invariant
