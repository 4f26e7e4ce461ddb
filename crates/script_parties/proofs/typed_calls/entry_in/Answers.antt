use Rattle.std.proofs.Common.{◌≡◌, ℕ, ap, subst, ◌∙◌, Option, rules}
use Rattle.std.specs.Prelude.{OnOk}
use Rattle.board_model.specs.declared.tables.Entry.{Entry}
use Rattle.board_service.specs.Domain as domain
use Rattle.script_parties.proofs.KeyedCalls.{found_by_number, found_by_text}
use Rattle.script_parties.proofs.typed_calls.entry_in.Goals as goal

pub returns-in-U64-clause-answer : goal.returns-in-U64-clause-answer
returns-in-U64-clause-answer g c = λ h. c.entry.ensures.answer h
    ∙ ap (λ (o : Option (ℕ × Entry)). domain.entry_answer c.args.core.now o) (found_by_number c.args.core.now c.requires.keys c.in-U64.n (search rules) c.args.key.now c.in-U64.is (domain.held c.args.core.now c.args.reader) c.args.value.now)

pub returns-in-U64-clause-ok : goal.returns-in-U64-clause-ok
returns-in-U64-clause-ok g c = subst (λ (o : Option (ℕ × Entry)). OnOk c.entry.result (c.entry.new.self ≡ domain.after_entry c.args.core.now (domain.held c.args.core.now c.args.reader) o))
    (found_by_number c.args.core.now c.requires.keys c.in-U64.n (search rules) c.args.key.now c.in-U64.is (domain.held c.args.core.now c.args.reader) c.args.value.now) c.entry.ensures.ok

pub returns-in-F8-clause-answer : goal.returns-in-F8-clause-answer
returns-in-F8-clause-answer g c = λ h. c.entry-in-F8.ensures.answer h
    ∙ ap (λ (o : Option (ℕ × Entry)). domain.entry_answer c.args.core.now o) (found_by_text c.args.core.now c.requires.keys c.in-F8.text c.f8_of.result (search rules) c.f8_of.ensures c.args.key.now c.in-F8.is (domain.held c.args.core.now c.args.reader) c.args.value.now)

pub returns-in-F8-clause-ok : goal.returns-in-F8-clause-ok
returns-in-F8-clause-ok g c = subst (λ (o : Option (ℕ × Entry)). OnOk c.entry-in-F8.result (c.entry-in-F8.new.self ≡ domain.after_entry c.args.core.now (domain.held c.args.core.now c.args.reader) o))
    (found_by_text c.args.core.now c.requires.keys c.in-F8.text c.f8_of.result (search rules) c.f8_of.ensures c.args.key.now c.in-F8.is (domain.held c.args.core.now c.args.reader) c.args.value.now) c.entry-in-F8.ensures.ok
