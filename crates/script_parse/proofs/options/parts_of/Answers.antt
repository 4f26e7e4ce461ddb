use Rattle.std.proofs.Common.{arith}
use Rattle.script_parse.proofs.PartLemmas.{stops, goes_on, is_full, is_last}
use Rattle.script_parse.proofs.options.parts_of.Goals.{else-loop-tokens-test, then-loop-tokens-test+then-not-take_word}
use Rattle.script_parse.proofs.options.parts_of.Goals as goal

pub returns-in_default : goal.returns-in_default
returns-in_default g c =
    stops c.args.word.now g.P.Part.read c.loop-tokens.parts.items c.loop-tokens.tokens c.take_word.new.self c.args.tokens.now
    (omega (arith, c.loop-tokens-test.true, c.len.ensures)) c.if-not-take_word.ensures.begins c.if-not-take_word.ensures.rest c.in_default.ensures c.loop-tokens.invariant

pub loop-tokens-preserved : goal.loop-tokens-preserved
loop-tokens-preserved g c =
    rw c.in_ok-push.ensures.items
    (goes_on c.args.word.now g.P.Part.read c.loop-tokens.parts.items c.in-Some.part c.loop-tokens.tokens c.take_word.new.self c.take.new.tokens c.args.tokens.now
    (omega (arith, c.loop-tokens-test.true, c.len.ensures)) c.if-not-take_word.ensures.begins c.if-not-take_word.ensures.rest c.in-Some.ensures c.loop-tokens.invariant)

pub returns : goal.returns
returns g c =
    elim c.loop-tokens-test.branch [
      | else-loop-tokens-test w ↦
          rw w.tokens-is
          (is_full c.args.word.now g.P.Part.read c.loop-tokens.parts.items c.loop-tokens.tokens c.args.tokens.now (omega (arith, w.loop-tokens-test.false, c.len.ensures)) c.loop-tokens.invariant)
      | then-loop-tokens-test+then-not-take_word w ↦
          rw (w.tokens-is, w.if-not-take_word.ensures.rest)
          (is_last c.args.word.now g.P.Part.read c.loop-tokens.parts.items c.loop-tokens.tokens c.args.tokens.now w.if-not-take_word.ensures.begins c.loop-tokens.invariant)
    ]
