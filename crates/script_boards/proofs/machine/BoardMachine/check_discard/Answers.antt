use Rattle.std.proofs.Common.{◌≡◌, true, false, rules, Some}
use Rattle.board_model.specs.declared.answer.Reason.TheVariants as reason
use Rattle.script_boards.specs.Begins.{holds, loan_held}
use Rattle.script_boards.proofs.CallChecks.{not_false, refused_for}
use Rattle.script_boards.proofs.LoanChecks.{a_loan, discard_begins, discard_taken, loan_entry}
use Rattle.script_boards.proofs.machine.BoardMachine.check_discard.Goals as goal

pub returns-in_err-require_free : goal.returns-in_err-require_free
returns-in_err-require_free g c =
    let m = c.args.self.now in
    let party = c.args.party.now in
    let x = c.in-Some.field-0.0 in
    let words = c.in-Some.field-0.1.now.items in
    let held : loan_held m party c.args.loan ≡ a_loan x words = search rules in
    let taken : holds m party c.args.handle ≡ true = not_false (holds m party c.args.handle) c.in_err-require_free.ensures.0 in
    let refused = refused_for c.from_residual.result c.in_err-require_free.field-0.0 reason.Taken c.from_residual.ensures.1 c.in_err-require_free.ensures.1 in
    λ s rep sound.
    let e = loan_entry m s rep party sound x c.args.loan words held in
    rw refused (discard_taken m s rep party sound x e.0 e.1 c.args.loan words held c.args.handle taken)

pub returns : goal.returns
returns g c =
    let m = c.args.self.now in
    let party = c.args.party.now in
    let x = c.in-Some.field-0.0 in
    let words = c.in-Some.field-0.1.now.items in
    let held : loan_held m party c.args.loan ≡ a_loan x words = search rules in
    let untaken : holds m party c.args.handle ≡ false = search rules in
    λ s rep sound.
    let e = loan_entry m s rep party sound x c.args.loan words held in
    discard_begins m s rep party sound x e.0 e.1 c.args.loan words held c.args.handle untaken
