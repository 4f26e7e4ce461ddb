use Rattle.std.proofs.Common.{List, ℕ, sym, ap, ◌≡◌, ◌∙◌}
use Rattle.board_model.specs.TypeTable as types
use Rattle.board_model.specs.declared.value.KeyType.{KeyType}
use Rattle.board_model.specs.declared.value.KeyType.TheVariants as key_type
use Rattle.script_parties.proofs.KeyTests.{same_numbers, same_texts}
use Rattle.script_parties.proofs.entry_tests.is_same_key.Goals as goal

of_type : (k j : KeyType) (a b x y : List ℕ) → k ≡ j → x ≡ a → y ≡ b → types.same_key j x y ≡ types.same_key k a b
of_type k j a b x y e f g = ap (λ (i : KeyType). types.same_key i x y) (sym e) ∙ ap (λ (z : List ℕ). types.same_key k z y) f ∙ ap (λ (z : List ℕ). types.same_key k a z) g

pub returns-in-U64 : goal.returns-in-U64
returns-in-U64 c =
    c.same_keys.ensures ∙ same_numbers c.key_bytes-a.result.bytes c.key_bytes-b.result.bytes c.key_bytes-a.ensures.short c.key_bytes-b.ensures.short
    ∙ of_type c.args.key_type key_type.U64 (types.key_bytes c.args.a.now) (types.key_bytes c.args.b.now) _ _ c.in-U64.is c.key_bytes-a.ensures.bytes c.key_bytes-b.ensures.bytes

pub returns-in-F8 : goal.returns-in-F8
returns-in-F8 c =
    c.same_keys-in-F8.ensures ∙ same_texts c.key_bytes-a.result.bytes c.key_bytes-b.result.bytes c.key_bytes-a.ensures.short c.key_bytes-b.ensures.short
    ∙ of_type c.args.key_type key_type.F8 (types.key_bytes c.args.a.now) (types.key_bytes c.args.b.now) _ _ c.in-F8.is c.key_bytes-a.ensures.bytes c.key_bytes-b.ensures.bytes
