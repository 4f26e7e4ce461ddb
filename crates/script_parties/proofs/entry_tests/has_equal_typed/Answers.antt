use Rattle.std.proofs.Common.{◌≡◌, subst, sym}
use Rattle.std.specs.Option.{IfSome}
use Rattle.board_model.specs.declared.value.KeyType.TheVariants as key_type
use Rattle.board_model.specs.Tables.{has_equal_keys}
use Rattle.board_model.specs.TypeTable.{same_key}
use Rattle.script_parties.specs.Refusals.{added}
use Rattle.script_parties.proofs.KeyTests.{same_numbers, same_texts}
use Rattle.script_parties.proofs.entry_tests.has_equal_typed.Goals as goal

pub returns-in-U64 : goal.returns-in-U64
returns-in-U64 c =
    subst (λ k. IfSome c.has_equal_hashed.result (λ equal. equal ≡ has_equal_keys (same_key k) (added c.args.entries.now))) (sym c.in-U64.is)
    (c.has_equal_hashed.ensures (same_key key_type.U64) same_numbers)

pub returns-in-F8 : goal.returns-in-F8
returns-in-F8 c =
    subst (λ k. IfSome c.has_equal_hashed-in-F8.result (λ equal. equal ≡ has_equal_keys (same_key k) (added c.args.entries.now))) (sym c.in-F8.is)
    (c.has_equal_hashed-in-F8.ensures (same_key key_type.F8) same_texts)
