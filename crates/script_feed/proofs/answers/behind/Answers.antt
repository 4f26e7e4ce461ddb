use Rattle.std.proofs.Common.{◌+◌, ◌≤◌, length, arith}
use Rattle.std.proofs.lemmas.List.{take_rest}
use Rattle.script_feed.proofs.AnswerLemmas.{IsPlace, behind_fits, behind_is, has_place}
use Rattle.script_feed.proofs.answers.behind.Goals as goal

pub returns-in_err-at-clause-there : goal.returns-in_err-at-clause-there
returns-in_err-at-clause-there c = λ a s b h n e. absurd (has_place c.args.byte c.args.text.now a _ e c.in_err-at.ensures.none)

pub returns-then-text-at-clause-there : goal.returns-then-text-at-clause-there
returns-then-text-at-clause-there c = λ a s b h n e.
    let p : IsPlace c.args.byte c.args.text.now c.in_ok-at.at = record { inside = c.in_ok-at.ensures.inside; found = c.in_ok-at.ensures.found; first = c.in_ok-at.ensures.first } in
    let fits : c.in_ok-at.at + c.args.skipped ≤ length c.args.text.now = behind_fits c.args.byte c.args.text.now a s b c.in_ok-at.at c.args.skipped h n e p in
    omega (arith, fits)

pub returns-clause-there : goal.returns-clause-there
returns-clause-there c = λ a s b h n e.
    let p : IsPlace c.args.byte c.args.text.now c.in_ok-at.at = record { inside = c.in_ok-at.ensures.inside; found = c.in_ok-at.ensures.found; first = c.in_ok-at.ensures.first } in
    rw take_rest (behind_is c.args.byte c.args.text.now a s b c.in_ok-at.at c.args.skipped h n e p)
