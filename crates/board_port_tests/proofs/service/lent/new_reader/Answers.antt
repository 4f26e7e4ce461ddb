use Rattle.std.proofs.Common.{◌≡◌, ◌∙◌, ◌+◌, ℕ, Option, Some, None, find, refl, sym, ap, arith}
use Rattle.std.specs.Prelude.{Ok, Err}
use Rattle.board_model.specs.TableCalls.{answer_of, first_of}
use Rattle.board_service.specs.Domain.{held, is_thing, made, reader_list}
use Rattle.board_service.specs.Facts.{thing_number}
use Rattle.board_service.specs.declared.made.Made.{Made}
use Rattle.board_service.proofs.DrawnLemmas.{none_above}
use Rattle.board_port_tests.proofs.service.lent.new_reader.Goals as goal

number_of_made : {E : Type 0} (o : Option E) (m x : Made) → Ok m ≡ answer_of o x → m.thing ≡ x.thing
number_of_made None m x is = let same : m ≡ x = cc in ap (λ (d : Made). d.thing) same
number_of_made (Some e) m x is = absurd cc

-- the number that was drawn is above all that stand
pub returns-in-Ok : goal.returns-in-Ok
returns-in-Ok g c = ap (λ n. find (is_thing n) c.args.core.now.tables.things) number
    ∙ none_above thing_number is_thing (λ n t. refl) c.args.core.now.last_thing (c.args.core.now.last_thing + 1) c.args.core.now.tables.things c.facts.ensures.tables.things (grind (arith))
  where
    number : c.in-Ok.made.thing ≡ c.args.core.now.last_thing + 1
    number = number_of_made (first_of (reader_list c.args.core.now (held c.args.core.now c.args.factory))) c.in-Ok.made (made c.args.core.now (c.args.core.now.tables.last_port + 1))
        (sym c.in-Ok.is ∙ c.reader.ensures.answer (λ e. absurd (let no : Ok c.in-Ok.made ≡ Err _ = sym c.in-Ok.is ∙ e in cc)))
