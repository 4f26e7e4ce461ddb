use Rattle.std.proofs.Common.{map, sym, ap, ◌∙◌}
use Rattle.board_model.specs.TypeTable as types
use Rattle.board_model.specs.declared.value.KeyType.TheVariants as key_type
use Rattle.board_model.specs.declared.value.KeyType.{KeyType}
use Rattle.board_service.specs.Domain as domain
use Rattle.board_service.specs.Entries.{as_added}
use Rattle.script_parties.proofs.KeyTests.{same_numbers, same_texts}
use Rattle.script_parties.proofs.KeyedCalls.{create_same}
use Rattle.script_parties.proofs.typed_calls.create_in.Goals as goal

pub returns-in-U64-clause-answer : goal.returns-in-U64-clause-answer
returns-in-U64-clause-answer g c = λ h. c.create.ensures.answer h ∙ create_same c.args.core.now _ (types.same_key key_type.U64) same_numbers c.args.name.now _ c.requires.keys ∙ ap (λ (k : KeyType). domain.create_answer c.args.core.now (types.same_key k) c.args.name.now (map as_added c.args.entries.items)) (sym c.in-U64.is)

pub returns-in-F8-clause-answer : goal.returns-in-F8-clause-answer
returns-in-F8-clause-answer g c = λ h. c.create-in-F8.ensures.answer h ∙ create_same c.args.core.now _ (types.same_key key_type.F8) same_texts c.args.name.now _ c.requires.keys ∙ ap (λ (k : KeyType). domain.create_answer c.args.core.now (types.same_key k) c.args.name.now (map as_added c.args.entries.items)) (sym c.in-F8.is)
