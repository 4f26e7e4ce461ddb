use Rattle.std.proofs.Common.{◌≡◌, ℕ, Option, Some, true, rules, sym, ◌∙◌}
use Rattle.board_event_model.specs.EventMemory.{Event}
use Rattle.board_event_model.specs.EventSessions.{event_of}
use Rattle.script_event_rows.specs.EventRows.{StandsFor}
use Rattle.script_event_tables.specs.EventTables.{kept_at}
use Rattle.script_event_tables.proofs.Settling.{holds_of, some_is, there, was_made}
use Rattle.script_event_tables.proofs.event_table.EventTable.notifier.Goals as goal

abbrev a_number : ℕ → Option ℕ
a_number n = Some n

pub get-requires-2 : goal.get-requires-2
get-requires-2 c =
    let s = c.requires.0 in
    let are = c.requires.1 in
    let fit = c.requires.2 in
    let kept : kept_at c.args.self.now.names c.args.kind c.args.name.now ≡ a_number c.in_ok-number.number = search rules in
    let found = some_is (event_of s.stands c.in_ok-number.number) (fit.named c.args.kind c.args.name.now c.in_ok-number.number (sym (are.names c.args.kind c.args.name.now) ∙ kept)) in
    was_made c.args.self.now s c.in_ok-number.number found.0 are fit found.1

pub returns : goal.returns
returns c =
    let kept : kept_at c.args.self.now.names c.args.kind c.args.name.now ≡ a_number c.in_ok-number.number = search rules in
    λ s are.
    let found = there (event_of s.stands c.in_ok-number.number) (StandsFor c.get-2.result.now) (c.get-2.ensures s are) in (
      sym (are.names c.args.kind c.args.name.now) ∙ kept,
      holds_of (event_of s.stands c.in_ok-number.number) (λ (e : Event). e.held ≡ true) found.0 found.1 (sym (c.is_held.ensures found.0 found.2) ∙ c.if-not-is_held.false),
      c.count_notifier.ensures s are,
    )
