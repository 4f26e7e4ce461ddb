use Rattle.std.proofs.Common.{refl}
use Rattle.script_generator.proofs.GeneratorEnds.{opening_has, opening_run}
use Rattle.script_boards.proofs.Listings.{on_ok}
use Rattle.script_generator.proofs.generator.Generator.open.Goals as goal

pub returns-clause-run : goal.returns-clause-run
returns-clause-run c =
    on_ok (λ h. opening_run c.args.self.now c.open_writer.new.self c.open_reader.new.self c.open_reader-2.new.self c.requires c.in_ok-open_writer.ensures c.in_ok-open_reader.ensures h)
    c.open_reader-2.result c.open_reader-2.ensures

pub returns-clause-first : goal.returns-clause-first
returns-clause-first c = on_ok (λ h. opening_has c.open_reader-2.new.self h 0 refl) c.open_reader-2.result (returns-clause-run c)

pub returns-clause-second : goal.returns-clause-second
returns-clause-second c = on_ok (λ h. opening_has c.open_reader-2.new.self h 1 refl) c.open_reader-2.result (returns-clause-run c)
