use Rattle.std.proofs.Common.{◌≡◌, ◌<◌, ◌^◌, rules, refl, sym, ap, subst, ◌∙◌, Option, Some, true}
use Rattle.board_layout.specs.declared.shape.CellShape.{CellShape}
use Rattle.board_layout.specs.Layout.{cell_end, cell_shape}
use Rattle.board_cell.specs.Calls.{publication}
use Rattle.board_model.specs.declared.tables.Entry.{Entry}
use Rattle.board_model.specs.Tables.{entry_of}
use Rattle.board_model.specs.Things.{Held}
use Rattle.board_model.specs.TypeTable.{same_type, type_of, value_detail, value_words}
use Rattle.script_boards.specs.Begins.{IsGenerationOf, handle_held}
use Rattle.script_boards.proofs.Bounds.{bounded}
use Rattle.script_boards.proofs.CallChecks.{cell_is_low, counter_is_low, update_begins, unlent_handle, value_fits}
use Rattle.script_boards.proofs.machine.BoardMachine.check_update.Goals as goal

abbrev a_thing : Held → Option Held
a_thing x = Some x

pub new-requires-clause-width : goal.new-requires-clause-width
new-requires-clause-width g c =
    let t : same_type (value_detail (type_of c.args.value)) c.entry_held-entry.result.now.value ≡ true = search rules in
    let led = c.requires.led in
    value_fits c.args.self.now led.state led.represents led.reached.sound c.in_ok-found.found.board (entry_of c.in_ok-found.found.kind) c.entry_held-entry.result.now c.entry_held-entry.ensures c.args.value t
    ∙ ap (λ (x : CellShape). x.words) (sym (c.shape.ensures ∙ ap (λ (e : Entry). cell_shape e.cell) c.entry.view_is))

pub new-requires-clause-shape : goal.new-requires-clause-shape
new-requires-clause-shape g c =
    let led = c.requires.led in
    subst (λ (x : CellShape). cell_end x < 2 ^ 64) (sym (c.shape.ensures ∙ ap (λ (e : Entry). cell_shape e.cell) c.entry.view_is))
    (cell_is_low c.args.self.now led.state led.represents led.reached.sound c.in_ok-found.found.board (entry_of c.in_ok-found.found.kind) c.entry_held-entry.result.now c.entry_held-entry.ensures)

pub new-requires-clause-room : goal.new-requires-clause-room
new-requires-clause-room g c =
    let h : handle_held c.args.self.now c.args.party.now c.args.handle.now ≡ a_thing c.in_ok-found.found = sym c.requires.found ∙ c.in_ok-found.ensures in
    let led = c.requires.led in
    counter_is_low c.args.self.now led.state led.represents led.reached.sound c.in_ok-found.found.board (entry_of c.in_ok-found.found.kind) c.entry_held-entry.result.now c.entry_held-entry.ensures c.args.generation (bounded led.state led.reached)
    (subst (λ (o : Option Held). IsGenerationOf c.args.self.now o c.args.generation) h c.requires.generation)

pub returns : goal.returns
returns g c =
    let t : same_type (value_detail (type_of c.args.value)) c.entry_held-entry.result.now.value ≡ true = search rules in
    let h : handle_held c.args.self.now c.args.party.now c.args.handle.now ≡ a_thing c.in_ok-found.found = sym c.requires.found ∙ c.in_ok-found.ensures in
    λ s rep sound. update_begins c.args.self.now s rep sound c.in_ok-found.found.board (entry_of c.in_ok-found.found.kind) c.entry_held-entry.result.now c.entry_held-entry.ensures c.args.party.now c.args.handle.now c.in_ok-found.found c.args.value c.args.generation (value_words c.args.value) c.new.result
    (c.new.ensures ∙ ap (λ (x : CellShape). publication x c.args.generation (value_words c.args.value)) (c.shape.ensures ∙ ap (λ (e : Entry). cell_shape e.cell) c.entry.view_is)) refl refl h t
    (subst (λ (o : Option Held). IsGenerationOf c.args.self.now o c.args.generation) h c.requires.generation) refl

pub entry_held-entry-requires-clause-held : goal.entry_held-entry-requires-clause-held
entry_held-entry-requires-clause-held g c =
    let h : handle_held c.args.self.now c.args.party.now c.args.handle.now ≡ a_thing c.in_ok-found.found = sym c.requires.found ∙ c.in_ok-found.ensures in
    unlent_handle c.args.self.now c.args.party.now c.args.handle.now c.in_ok-found.found h
