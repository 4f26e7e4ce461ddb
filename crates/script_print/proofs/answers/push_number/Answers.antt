use Rattle.std.proofs.Common.{◌≡◌, ℕ, List, [], ◌∷◌, ap, sym, ◌∙◌}
use Rattle.std.specs.Prelude.{decimal}
use Rattle.std.proofs.lemmas.Fmt.{decimal_digit}
use Rattle.script_print.proofs.ReplyLemmas.{added, lacking}
use Rattle.script_print.proofs.answers.push_number.Goals as goal

pub returns-then-n-lt10-clause-ok : goal.returns-then-n-lt10-clause-ok
returns-then-n-lt10-clause-ok c =
    let both : 32 ∷ c.digit.result ∷ [] ≡ 32 ∷ decimal c.args.n = ap (λ (d : ℕ). 32 ∷ d ∷ []) c.digit.ensures ∙ ap (λ (ds : List ℕ). 32 ∷ ds) (sym (decimal_digit c.args.n c.if-n-lt10.true)) in
    added c.extend_from_slice.result _ _ _ _ both c.extend_from_slice.ensures.items

pub returns-then-n-lt10-clause-room : goal.returns-then-n-lt10-clause-room
returns-then-n-lt10-clause-room c =
    let both : 32 ∷ c.digit.result ∷ [] ≡ 32 ∷ decimal c.args.n = ap (λ (d : ℕ). 32 ∷ d ∷ []) c.digit.ensures ∙ ap (λ (ds : List ℕ). 32 ∷ ds) (sym (decimal_digit c.args.n c.if-n-lt10.true)) in
    lacking c.extend_from_slice.result c.args.out.now _ _ both c.extend_from_slice.ensures.full
