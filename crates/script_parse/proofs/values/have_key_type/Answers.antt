use Rattle.board_model.specs.declared.value.AddedEntry.{AddedEntry}
use Rattle.script_parse.proofs.EntryLemmas.{types_and, types_end, types_go_on, types_not, types_one, types_stop, types_two}
use Rattle.script_parse.proofs.values.have_key_type.Goals as goal

pub returns-in_err-key : goal.returns-in_err-key
returns-in_err-key c = rw c.from_residual.ensures (types_one _ _ _ _ _ _ c.in-Some.ensures c.in_err-key.ensures c.loop-word.invariant)

pub returns-in_err-value : goal.returns-in_err-value
returns-in_err-value c = rw c.from_residual-in_err-value.ensures (types_two _ _ _ _ _ _ _ _ c.in-Some.ensures c.in_ok-key.ensures c.in_err-value.ensures c.loop-word.invariant)

pub returns-in_err-key-2 : goal.returns-in_err-key-2
returns-in_err-key-2 c =
    rw c.from_residual-in_err-key-2.ensures (types_stop _ _ _ _ _ _ _ _ _ _ c.in-Some.ensures c.in_ok-key.ensures c.in_ok-value.ensures c.in_err-key-2.ensures c.loop-word.invariant)

pub loop-word-preserved-then-are_typed : goal.loop-word-preserved-then-are_typed
loop-word-preserved-then-are_typed c =
    let e : AddedEntry = record { key = c.in_ok-key-2.key; value = c.in_ok-key-2._value } in
    let more = types_go_on _ _ e _ _ _ _ _ _ _ _ c.in-Some.ensures c.in_ok-key.ensures c.in_ok-value.ensures c.in_ok-key-2.ensures c.loop-word.invariant in
    types_and _ _ _ _ e _ _ c.if-are_typed.true c.type_of_key.ensures c.same_key_type-are_typed.ensures more

pub loop-word-preserved : goal.loop-word-preserved
loop-word-preserved c =
    let e : AddedEntry = record { key = c.in_ok-key-2.key; value = c.in_ok-key-2._value } in
    let more = types_go_on _ _ e _ _ _ _ _ _ _ _ c.in-Some.ensures c.in_ok-key.ensures c.in_ok-value.ensures c.in_ok-key-2.ensures c.loop-word.invariant in
    types_not _ _ e _ _ c.if-are_typed.false more

pub returns : goal.returns
returns c = types_end _ _ _ _ c.in_default.ensures c.loop-word.invariant
