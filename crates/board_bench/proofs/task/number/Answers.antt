use Rattle.std.proofs.Common.{rules, ◌≡◌, Some, ap, sym, ◌∙◌}
use Rattle.std.specs.Fmt.{decimal}
use Rattle.std.proofs.lemmas.Fmt.{parse-decimal}
use Rattle.board_bench.proofs.task.number.Goals.{then-eq, else-eq}
use Rattle.board_bench.proofs.task.number.Goals as goal

pub returns-in_default-clause-found : goal.returns-in_default-clause-found
returns-in_default-clause-found c n small e = absurd (c.in_default.not-Ok n (parse-decimal 64 n c.args.word.now c.parse.result small small e c.parse.ensures.value.0))

pub returns-clause-found : goal.returns-clause-found
returns-clause-found c n small e =
    let p = parse-decimal 64 n c.args.word.now c.parse.result small small e c.parse.ensures.value.0 in
    let q : c.in-Ok.n ≡ n = search (rules, p, c.in-Ok.is) in
    let f : c.args.word.now ≡ decimal c.in-Ok.n = e ∙ ap decimal (sym q) in
    elim c.if-eq.branch [ then-eq w ↦ w.result-is ∙ ap Some q | else-eq w ↦ search (rules, f) ]
