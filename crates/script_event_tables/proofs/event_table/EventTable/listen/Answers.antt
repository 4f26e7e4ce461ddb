use Rattle.std.proofs.Common.{◌≡◌, ℕ, ◌+◌, List, [], ◌∷◌, ◌++◌, length, Some, sym, ap, ◌∙◌, subst, arith}
use Rattle.std.proofs.lemmas.List.{length_push}
use Rattle.board_event_model.specs.EventMemory.{new_event}
use Rattle.script_model.specs.ScriptEvents.{name_held}
use Rattle.script_event_rows.specs.declared.event_row.EventRow.{EventRow}
use Rattle.script_event_tables.specs.EventTables.{AreNames}
use Rattle.script_event_tables.proofs.TableLemmas.{AreOwners, AreRows, grown_owners, grown_rows, none_of, on_err, with_more}
use Rattle.script_event_tables.proofs.event_table.EventTable.listen.Goals as goal

pub returns-in_err-reserve-2-clause-err : goal.returns-in_err-reserve-2-clause-err
returns-in_err-reserve-2-clause-err c = on_err c.from_residual-in_err-reserve-2.result (λ s are. record {
  count = ap length c.in_ok-reserve.ensures.items ∙ are.count;
  rows = subst (λ (rows : List EventRow). AreRows rows s.stands) (sym c.in_ok-reserve.ensures.items) are.rows;
  names = c.in_err-reserve-2.ensures.names s.names are.names;
  each = are.each;
  owners = are.owners;
})

pub returns-in_err-push-clause-err : goal.returns-in_err-push-clause-err
returns-in_err-push-clause-err c = on_err c.from_residual-in_err-push.result (λ s are. record {
  count = ap length c.in_ok-reserve.ensures.items ∙ are.count;
  rows = subst (λ (rows : List EventRow). AreRows rows s.stands) (sym c.in_ok-reserve.ensures.items) are.rows;
  names = c.in_ok-reserve-2.ensures.names s.names are.names;
  each = ap length c.in_err-push.ensures.err ∙ are.each;
  owners = subst (λ (listeners : List (List ℕ)). AreOwners listeners s.stands) (sym c.in_err-push.ensures.err) are.owners;
})

pub returns-clause-told : goal.returns-clause-told
returns-clause-told c = λ s are.
    let old = c.args.self.now.rows.items in
    let row = c.in_ok-row.row in
    let party = c.args.party.now in
    let number : c.len.result + 1 ≡ s.count + 1 = omega (arith, c.len.ensures, c.reserve.new.self.ok.0, ap length c.in_ok-reserve.ensures.items, are.count) in
    let more : c.push_reserved.new.self.items ≡ old ++ row ∷ [] = c.push_reserved.ensures.items ∙ ap (λ (rows : List EventRow). rows ++ row ∷ []) c.in_ok-reserve.ensures.items in
    let owned : c.push.new.self ≡ c.args.self.now.listeners ++ party ∷ [] = c.in_ok-push.ensures.ok in (
      sym (are.names c.args.kind c.args.name.now) ∙ sym c.get.ensures ∙ none_of c.get.result (sym c.is_some.ensures ∙ c.if-is_some.false),
      number,
      record {
        count = ap length more ∙ length_push old row ∙ ap (λ (n : ℕ). n + 1) are.count;
        rows = subst (λ (rows : List EventRow). AreRows rows (with_more s.stands s.count (record { event = new_event c.args.kind c.args.name.now c.args.max; listener = party }))) (sym more)
            (grown_rows old s.stands row (record { event = new_event c.args.kind c.args.name.now c.args.max; listener = party }) s.count are.count are.rows c.in_ok-row.ensures);
        names = subst (λ (n : ℕ). AreNames c.hold.new.self (name_held s.names c.args.kind c.args.name.now (Some n))) number (c.hold.ensures s.names (c.in_ok-reserve-2.ensures.names s.names are.names));
        each = ap length owned ∙ length_push c.args.self.now.listeners party ∙ ap (λ (n : ℕ). n + 1) are.each;
        owners = subst (λ (listeners : List (List ℕ)). AreOwners listeners (with_more s.stands s.count (record { event = new_event c.args.kind c.args.name.now c.args.max; listener = party }))) (sym owned)
            (grown_owners c.args.self.now.listeners s.stands party (new_event c.args.kind c.args.name.now c.args.max) s.count are.each are.owners);
      },
    )
