use Rattle.std.proofs.Common.{◌≡◌, ℕ, zero, suc, ◌<◌, ◌≤◌, ◌^◌, rules, arith, sym, ap, subst, ◌∙◌, Some, None}
use Rattle.board_layout.specs.declared.shape.CellShape.{CellShape}
use Rattle.board_layout.specs.Layout.{cell_end}
use Rattle.board_cell.specs.Calls.{Putting, put_at}
use Rattle.board_model.specs.Tables.{entry_of}
use Rattle.script_boards.specs.Begins.{loan_held}
use Rattle.script_boards.proofs.CallChecks.{cell_is_low}
use Rattle.script_boards.proofs.LoanChecks.{a_loan, lent_width, loan_counter, put_begins}
use Rattle.board_ports.specs.Loans.{LoanSeen}
use Rattle.script_boards.proofs.machine.BoardMachine.check_put.Goals as goal

pub lent-core-requires : goal.lent-core-requires
lent-core-requires g c =
    let held : loan_held c.args.self.now c.args.party.now c.args.loan ≡ a_loan c.in-Some.found c.in-Some.words.now.items = search rules in
    lent_width c.args.self.now c.args.party.now c.requires.led c.requires.free c.in-Some.found c.entry_held-entry.result.now c.entry_held-entry.ensures c.args.loan c.in-Some.words.now.items held
    _ c.write_core.ensures.shape

pub put-requires : goal.put-requires
put-requires g c =
    let led = c.requires.led in
    record {
      shape = subst (λ (x : CellShape). cell_end x < 2 ^ 64) (sym (ap (λ (l : LoanSeen). l.handle.shape) c.lent-core.ensures ∙ c.write_core.ensures.shape))
          (cell_is_low c.args.self.now led.state led.represents led.reached.sound c.in-Some.found.board (entry_of c.in-Some.found.kind) c.entry_held-entry.result.now c.entry_held-entry.ensures);
    }

below_width : (i w : ℕ) → (w ≤ i → ⊥) → i < w
below_width i zero h = absurd (h (omega arith))
below_width zero (suc w) h = omega arith
below_width (suc i) (suc w) h = omega (arith, below_width i w (λ le. h (omega (arith, le))))

some_call : (x : Putting) → Some x ≡ None → ⊥
some_call x e = absurd cc

pub returns : goal.returns
returns g c =
    let m = c.args.self.now in
    let party = c.args.party.now in
    let x = c.in-Some.found in
    let entry = c.entry_held-entry.result.now in
    let words = c.in-Some.words.now.items in
    let held : loan_held m party c.args.loan ≡ a_loan x words = search rules in
    let counter = loan_counter m party c.args.loan x words held c.args.generation c.requires.generation in
    let inside = below_width c.args.index c.lent-core.result.handle.shape.words (λ le. some_call c.in-Some-put.call (c.in-Some-put.ensures.beyond.1 le)) in
    let below : c.args.index < entry.cell.words = subst (λ (y : CellShape). c.args.index < y.words) (ap (λ (l : LoanSeen). l.handle.shape) c.lent-core.ensures ∙ c.write_core.ensures.shape) inside in
    λ s rep sound.
    put_begins m s rep party sound x entry c.entry_held-entry.ensures c.args.loan words held c.args.index c.args.word below c.args.generation counter c.in-Some-put.call
    (c.in-Some-put.ensures.call ∙ ap (λ (g : ℕ). put_at c.lent-core.result.handle.shape g c.args.index c.args.word) (ap (λ (l : LoanSeen). l.handle.generation) c.lent-core.ensures ∙ c.write_core.ensures.generation)
    ∙ ap (λ (y : CellShape). put_at y c.args.generation c.args.index c.args.word) (ap (λ (l : LoanSeen). l.handle.shape) c.lent-core.ensures ∙ c.write_core.ensures.shape))
