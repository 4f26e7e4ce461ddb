use Rattle.std.proofs.Common.{◌≡◌, ℕ, ◌+◌, ◌<◌, ◌^◌, List, rules, sym, ap, subst, ◌∙◌, Option, true, false}
use Rattle.board_layout.specs.declared.shape.CellShape.{CellShape}
use Rattle.board_model.specs.Tables.{entry_of}
use Rattle.board_model.specs.LawfulSession.{all_put}
use Rattle.script_boards.specs.Begins.{holds, loan_held}
use Rattle.script_boards.proofs.Bounds.{bounded}
use Rattle.script_boards.proofs.CallChecks.{counter_is_low}
use Rattle.script_boards.proofs.LoanChecks.{a_loan, lent_width, loan_counter, publish_begins}
use Rattle.board_ports.specs.EntryCalls.{publish_of}
use Rattle.board_ports.specs.Loans.{LoanSeen}
use Rattle.script_boards.proofs.machine.BoardMachine.check_publish.Goals as goal

pub lent-core-requires : goal.lent-core-requires
lent-core-requires g c =
    let held : loan_held c.args.self.now c.args.party.now c.args.loan ≡ a_loan c.in-Some.found c.in-Some.words.now.items = search rules in
    lent_width c.args.self.now c.args.party.now c.requires.led c.requires.free c.in-Some.found c.entry_held-entry.result.now c.entry_held-entry.ensures c.args.loan c.in-Some.words.now.items held
    _ c.write_core.ensures.shape

pub publish-requires-clause-room : goal.publish-requires-clause-room
publish-requires-clause-room g c =
    let held : loan_held c.args.self.now c.args.party.now c.args.loan ≡ a_loan c.in-Some.found c.in-Some.words.now.items = search rules in
    let led = c.requires.led in
    subst (λ (g : ℕ). g + 1 < 2 ^ 64) (sym (ap (λ (l : LoanSeen). l.handle.generation) c.lent-core.ensures ∙ c.write_core.ensures.generation))
    (counter_is_low c.args.self.now led.state led.represents led.reached.sound c.in-Some.found.board (entry_of c.in-Some.found.kind) c.entry_held-entry.result.now c.entry_held-entry.ensures c.args.generation (bounded led.state led.reached)
    (loan_counter c.args.self.now c.args.party.now c.args.loan c.in-Some.found c.in-Some.words.now.items held c.args.generation c.requires.generation))

pub returns : goal.returns
returns g c =
    let m = c.args.self.now in
    let party = c.args.party.now in
    let x = c.in-Some.found in
    let entry = c.entry_held-entry.result.now in
    let words = c.in-Some.words.now.items in
    let held : loan_held m party c.args.loan ≡ a_loan x words = search rules in
    let counter = loan_counter m party c.args.loan x words held c.args.generation c.requires.generation in
    let untaken : holds m party c.args.handle ≡ false = search rules in
    let filled : all_put c.lent-core.result.words ≡ true = search rules in
    let all : all_put words ≡ true = subst (λ (ws : List (Option ℕ)). all_put ws ≡ true) (ap (λ (l : LoanSeen). l.words) c.lent-core.ensures) filled in
    λ s rep sound.
    publish_begins m s rep party sound x entry c.entry_held-entry.ensures c.args.loan words held c.args.handle untaken all c.args.generation counter c.publish.result
    (c.publish.ensures ∙ ap (λ (g : ℕ). publish_of c.lent-core.result.handle.shape g) (ap (λ (l : LoanSeen). l.handle.generation) c.lent-core.ensures ∙ c.write_core.ensures.generation)
    ∙ ap (λ (y : CellShape). publish_of y c.args.generation) (ap (λ (l : LoanSeen). l.handle.shape) c.lent-core.ensures ∙ c.write_core.ensures.shape))
