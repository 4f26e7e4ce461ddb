use Rattle.std.proofs.Common.{◌++◌, ℕ, List, [], ◌∷◌, length, arith, sym, ap, ◌∙◌}
use Rattle.std.proofs.lemmas.Fmt.{decimal_digit}
use Rattle.script_print.proofs.ReplyLemmas.{on_any}
use Rattle.script_print.proofs.answers.push_digits.Goals as goal

pub returns-then-n-lt10-clause-ok : goal.returns-then-n-lt10-clause-ok
returns-then-n-lt10-clause-ok c =
    c.in_ok-push.ensures.items
    ∙ ap (λ (digits : List ℕ). c.args.out.now.items ++ digits) (ap (λ (d : ℕ). d ∷ []) c.digit.ensures ∙ sym (decimal_digit c.args.n c.if-n-lt10.true))

pub returns-in_err-push-clause-room : goal.returns-in_err-push-clause-room
returns-in_err-push-clause-room c = on_any c.from_residual.result _ (omega (arith, ap length (decimal_digit c.args.n c.if-n-lt10.true), c.in_err-push.ensures.full))
