use Rattle.std.proofs.Common.{◌≡◌, true, Option, Some, None, ap, rules, sym, ◌∙◌}
use Rattle.std.specs.Prelude.{is_some}
use Rattle.board_model.specs.declared.tables.Entry.{Entry}
use Rattle.board_model.specs.Tables.{entry_at, entry_of}
use Rattle.script_parties.specs.declared.lookups.FoundThing.{FoundThing}
use Rattle.script_boards.specs.Machine.{tables_of}
use Rattle.script_boards.proofs.CallChecks.{entry_stands}
use Rattle.script_boards.proofs.machine.BoardMachine.entry_found.Goals as goal

none_stands : (o : Option Entry) → o ≡ None → is_some o ≡ true → ⊥
none_stands None e h = absurd cc
none_stands (Some x) e h = absurd cc

pub unreachable-requires : goal.unreachable-requires
unreachable-requires g c =
    let m = c.args.self.now in
    let led = c.requires.led in
    let held = c.requires.held in
    let none : entry_at (tables_of m) c.args.handle.now.board (entry_of c.args.handle.now.kind) ≡ None = search rules in
    let of_thing : entry_at (tables_of m) held.thing.board (entry_of held.thing.kind) ≡ None = ap (λ (f : FoundThing). entry_at (tables_of m) f.board (entry_of f.kind)) (sym held.found) ∙ none in
    none_stands (entry_at (tables_of m) held.thing.board (entry_of held.thing.kind)) of_thing (entry_stands m led.state led.represents led.reached.sound held.thing held.handle)
