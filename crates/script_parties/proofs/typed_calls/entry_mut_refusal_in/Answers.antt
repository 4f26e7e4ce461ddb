use Rattle.std.proofs.Common.{ℕ, ap, ◌∙◌, Option, rules}
use Rattle.board_model.specs.declared.tables.Entry.{Entry}
use Rattle.board_model.specs.TableCalls.{first_of}
use Rattle.board_service.specs.Domain as domain
use Rattle.script_parties.proofs.KeyedCalls.{found_by_number, found_by_text}
use Rattle.script_parties.proofs.typed_calls.entry_mut_refusal_in.Goals as goal

pub returns-in-U64 : goal.returns-in-U64
returns-in-U64 g c = c.entry_mut_refusal.ensures
    ∙ ap (λ (o : Option (ℕ × Entry)). first_of (domain.entry_mut_list c.args.core.now (domain.held c.args.core.now c.args.writer) o)) (found_by_number c.args.core.now c.requires.keys c.in-U64.n (search rules) c.args.key.now c.in-U64.is (domain.held c.args.core.now c.args.writer) c.args.value.now)

pub returns-in-F8 : goal.returns-in-F8
returns-in-F8 g c = c.entry_mut_refusal-in-F8.ensures
    ∙ ap (λ (o : Option (ℕ × Entry)). first_of (domain.entry_mut_list c.args.core.now (domain.held c.args.core.now c.args.writer) o)) (found_by_text c.args.core.now c.requires.keys c.in-F8.text c.f8_of.result (search rules) c.f8_of.ensures c.args.key.now c.in-F8.is (domain.held c.args.core.now c.args.writer) c.args.value.now)
