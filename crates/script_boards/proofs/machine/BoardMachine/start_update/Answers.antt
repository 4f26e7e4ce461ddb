use Rattle.std.proofs.Common.{◌≡◌, ◌<◌, ◌^◌, rules, refl, sym, ap, subst, ◌∙◌, true}
use Rattle.board_layout.specs.declared.shape.CellShape.{CellShape}
use Rattle.board_layout.specs.Layout.{cell_end, cell_shape}
use Rattle.board_cell.specs.Calls.{publication}
use Rattle.board_model.specs.declared.tables.Entry.{Entry}
use Rattle.board_model.specs.Tables.{entry_of}
use Rattle.board_model.specs.TypeTable.{same_type, type_of, value_detail, value_words}
use Rattle.script_parties.specs.declared.lookups.FoundThing.{FoundThing}
use Rattle.script_boards.specs.Begins.{handle_held}
use Rattle.script_boards.proofs.Bounds.{bounded}
use Rattle.script_boards.proofs.CallChecks.{cell_is_low, counter_is_low, entry_has_counter, found_in, unlent_handle, update_begins, value_fits}
use Rattle.script_boards.proofs.LoadedCounters.{has_counter_word, is_counter}
use Rattle.script_boards.proofs.machine.BoardMachine.start_update.Goals as goal

pub load-generation-requires : goal.load-generation-requires
load-generation-requires g c =
    let m = c.args.self.now in
    let x = c.in-Some.found in
    let e = c.entry_found-entry.result.now in
    let led = c.requires in
    has_counter_word m x.board (entry_of x.kind) e c.entry_found-entry.ensures (entry_has_counter m led.state led.represents led.reached.sound x.board (entry_of x.kind) e c.entry_found-entry.ensures) c.shape-shape.result (c.shape-shape.ensures ∙ ap (λ (e : Entry). cell_shape e.cell) c.entry.view_is)

pub new-requires-clause-width : goal.new-requires-clause-width
new-requires-clause-width g c =
    let t : same_type (value_detail (type_of c.args.value)) c.entry_found-entry.result.now.value ≡ true = search rules in
    let led = c.requires in
    value_fits c.args.self.now led.state led.represents led.reached.sound c.in-Some.found.board (entry_of c.in-Some.found.kind) c.entry_found-entry.result.now c.entry_found-entry.ensures c.args.value t
    ∙ ap (λ (x : CellShape). x.words) (sym (c.shape-shape.ensures ∙ ap (λ (e : Entry). cell_shape e.cell) c.entry.view_is))

pub new-requires-clause-shape : goal.new-requires-clause-shape
new-requires-clause-shape g c =
    let led = c.requires in
    subst (λ (x : CellShape). cell_end x < 2 ^ 64) (sym (c.shape-shape.ensures ∙ ap (λ (e : Entry). cell_shape e.cell) c.entry.view_is))
    (cell_is_low c.args.self.now led.state led.represents led.reached.sound c.in-Some.found.board (entry_of c.in-Some.found.kind) c.entry_found-entry.result.now c.entry_found-entry.ensures)

pub new-requires-clause-room : goal.new-requires-clause-room
new-requires-clause-room g c =
    let m = c.args.self.now in
    let x = c.in-Some.found in
    let e = c.entry_found-entry.result.now in
    let led = c.requires in
    counter_is_low m led.state led.represents led.reached.sound x.board (entry_of x.kind) e c.entry_found-entry.ensures c.load-generation.result (bounded led.state led.reached)
    (is_counter m x.board (entry_of x.kind) e c.entry_found-entry.ensures c.shape-shape.result (c.shape-shape.ensures ∙ ap (λ (e : Entry). cell_shape e.cell) c.entry.view_is) c.load-generation.result c.load-generation.ensures.value)

pub returns-clause-checks : goal.returns-clause-checks
returns-clause-checks g c =
    let m = c.args.self.now in
    let x = c.in-Some.found in
    let e = c.entry_found-entry.result.now in
    let t : same_type (value_detail (type_of c.args.value)) e.value ≡ true = search rules in
    let it = found_in (handle_held m c.args.party.now c.args.handle.now) x (sym c.handle_found.ensures ∙ c.in-Some.is) in
    λ s rep sound. update_begins m s rep sound x.board (entry_of x.kind) e c.entry_found-entry.ensures c.args.party.now c.args.handle.now it.thing c.args.value c.load-generation.result (value_words c.args.value) c.new.result
    (c.new.ensures ∙ ap (λ (y : CellShape). publication y c.load-generation.result (value_words c.args.value)) (c.shape-shape.ensures ∙ ap (λ (e : Entry). cell_shape e.cell) c.entry.view_is)) (ap (λ (y : FoundThing). y.board) it.is) (ap (λ (y : FoundThing). entry_of y.kind) it.is) it.there t
    (is_counter m x.board (entry_of x.kind) e c.entry_found-entry.ensures c.shape-shape.result (c.shape-shape.ensures ∙ ap (λ (e : Entry). cell_shape e.cell) c.entry.view_is) c.load-generation.result c.load-generation.ensures.value) refl

pub entry_found-entry-requires-clause-held : goal.entry_found-entry-requires-clause-held
entry_found-entry-requires-clause-held g c =
    let m = c.args.self.now in
    let it = found_in (handle_held m c.args.party.now c.args.handle.now) c.in-Some.found (sym c.handle_found.ensures ∙ c.in-Some.is) in
    record { thing = it.thing; handle = unlent_handle m c.args.party.now c.args.handle.now it.thing it.there; found = it.is }
