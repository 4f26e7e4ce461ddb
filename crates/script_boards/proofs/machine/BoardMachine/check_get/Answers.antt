use Rattle.std.proofs.Common.{◌≡◌, ◌<◌, ◌^◌, rules, refl, sym, ap, subst, ◌∙◌, true, false}
use Rattle.board_layout.specs.declared.shape.CellShape.{CellShape}
use Rattle.board_layout.specs.Layout.{cell_end, cell_shape}
use Rattle.board_model.specs.TypeTable.{value_type_of}
use Rattle.board_cell_model.specs.OwedAccesses.{opening}
use Rattle.board_cell.specs.Calls.{Getting}
use Rattle.board_model.specs.declared.answer.Reason.TheVariants as reason
use Rattle.board_model.specs.declared.tables.Entry.{Entry}
use Rattle.board_model.specs.declared.tables.ThingKind.TheVariants as thing_kind
use Rattle.board_model.specs.Tables.{entry_of}
use Rattle.board_model.specs.Things.{of_kind, thing_of}
use Rattle.script_parties.specs.declared.lookups.FoundThing.{FoundThing}
use Rattle.script_boards.specs.Begins.{holds_any}
use Rattle.script_boards.proofs.CallChecks.{cell_is_low, found_in, get_begins, get_taken, not_false, read_handle, refused_for, wanted_by}
use Rattle.script_boards.proofs.machine.BoardMachine.check_get.Goals as goal

abbrev a_get : CellShape → Getting
a_get x = record { shape = x; reading = opening }

pub returns-in_err-require : goal.returns-in_err-require
returns-in_err-require g c =
    let m = c.args.self.now in
    let f = c.in-Some.found in
    let it = found_in (of_kind thing_kind.ReadHandle (thing_of m.domain.tables.things c.args.party.now c.args.handle.now)) f (sym c.found_of_kind.ensures ∙ c.in-Some.is) in
    let t : holds_any m c.args.party.now c.args.value ≡ true = sym c.holds_any.ensures ∙ not_false c.holds_any.result c.in_err-require.ensures.0 in
    let refused = refused_for c.from_residual.result c.in_err-require.field-0.0 reason.Taken c.from_residual.ensures.1 c.in_err-require.ensures.1 in
    λ s rep sound. rw refused
    (get_taken m s rep sound f.board (entry_of f.kind) c.entry_found-entry.result.now c.entry_found-entry.ensures c.args.party.now c.args.handle.now it.thing
    (ap (λ (x : FoundThing). x.board) it.is) (ap (λ (x : FoundThing). entry_of x.kind) it.is) it.there c.args.value t)

pub get-requires-clause-shape : goal.get-requires-clause-shape
get-requires-clause-shape g c =
    let led = c.requires in
    subst (λ (x : CellShape). cell_end x < 2 ^ 64) (sym c.read_core-core.ensures)
    (cell_is_low c.args.self.now led.state led.represents led.reached.sound c.in-Some.found.board (entry_of c.in-Some.found.kind) c.entry_found-entry.result.now c.entry_found-entry.ensures)

pub returns : goal.returns
returns g c =
    let m = c.args.self.now in
    let f = c.in-Some.found in
    let it = found_in (of_kind thing_kind.ReadHandle (thing_of m.domain.tables.things c.args.party.now c.args.handle.now)) f (sym c.found_of_kind.ensures ∙ c.in-Some.is) in
    let free : holds_any m c.args.party.now c.args.value ≡ false = search rules in
    λ s rep sound. get_begins m s rep sound f.board (entry_of f.kind) c.entry_found-entry.result.now c.entry_found-entry.ensures c.args.party.now c.args.handle.now it.thing
    (ap (λ (x : FoundThing). x.board) it.is) (ap (λ (x : FoundThing). entry_of x.kind) it.is) it.there c.args.value c.get.result c.value_type_of.result
    (c.get.ensures ∙ ap (λ (x : CellShape). a_get x) c.read_core-core.ensures) free (c.value_type_of.ensures ∙ ap (λ (e : Entry). value_type_of e.value) c.entry.view_is)

pub entry_found-entry-requires-clause-held : goal.entry_found-entry-requires-clause-held
entry_found-entry-requires-clause-held g c =
    let m = c.args.self.now in
    let it = found_in (of_kind thing_kind.ReadHandle (thing_of m.domain.tables.things c.args.party.now c.args.handle.now)) c.in-Some.found (sym c.found_of_kind.ensures ∙ c.in-Some.is) in
    record { thing = it.thing; handle = read_handle m c.args.party.now c.args.handle.now it.thing it.there; found = it.is }

pub returns-in_err-buffer : goal.returns-in_err-buffer
returns-in_err-buffer g c =
    let m = c.args.self.now in
    let f = c.in-Some.found in
    let e = c.entry_found-entry.result.now in
    let it = found_in (of_kind thing_kind.ReadHandle (thing_of m.domain.tables.things c.args.party.now c.args.handle.now)) f (sym c.found_of_kind.ensures ∙ c.in-Some.is) in
    let free : holds_any m c.args.party.now c.args.value ≡ false = search rules in
    let wanted = wanted_by c.from_residual-in_err-buffer.result c.from_residual-in_err-buffer.ensures.1 in
    λ s rep sound.
    rw wanted (get_begins m s rep sound f.board (entry_of f.kind) e c.entry_found-entry.ensures c.args.party.now c.args.handle.now it.thing
    (ap (λ (x : FoundThing). x.board) it.is) (ap (λ (x : FoundThing). entry_of x.kind) it.is) it.there c.args.value (a_get (cell_shape e.cell)) (value_type_of e.value) refl free refl).0
