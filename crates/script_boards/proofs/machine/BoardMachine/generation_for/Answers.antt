use Rattle.std.proofs.Common.{◌≡◌, ℕ, sym, subst, rules, Option, Some}
use Rattle.board_model.specs.Tables.{entry_at, entry_of}
use Rattle.board_model.specs.Things.{Held}
use Rattle.script_boards.specs.Begins.{written_by}
use Rattle.script_boards.specs.Machine.{tables_of}
use Rattle.script_boards.specs.Steps.{HasCounter}
use Rattle.script_boards.proofs.CallChecks.{entry_has_counter, entry_stands}
use Rattle.script_boards.proofs.LoanChecks.{written_handle}
use Rattle.script_boards.proofs.TableSteps.{some_entry}
use Rattle.script_boards.proofs.machine.BoardMachine.generation_for.Goals as goal

abbrev a_thing : Held → Option Held
a_thing x = Some x

pub counter-requires : goal.counter-requires
counter-requires g c =
    let m = c.args.self.now in
    let x = c.in-Some.found in
    let led = c.requires in
    let found : written_by m c.args.party.now c.args.call.now ≡ a_thing x = search rules in
    let stands = entry_stands m led.state led.represents led.reached.sound x (written_handle m c.args.party.now c.args.call.now x found) in
    let entry = some_entry (entry_at (tables_of m) x.board (entry_of x.kind)) stands in
    subst (λ (k : ℕ). HasCounter m x.board k) (sym c.entry.ensures)
    (entry_has_counter m led.state led.represents led.reached.sound x.board (entry_of x.kind) entry.0 entry.1)
