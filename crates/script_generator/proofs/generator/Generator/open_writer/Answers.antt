use Rattle.std.proofs.Common.{arith}
use Rattle.script_generator.proofs.GeneratedBytes.{asks_create, asks_first_write, asks_second_write, asks_writer}
use Rattle.script_generator.proofs.GeneratorRuns.{ran_both, runs_on}
use Rattle.script_boards.proofs.Listings.{on_ok}
use Rattle.script_generator.proofs.generator.Generator.open_writer.Goals as goal

pub ask-requires-clause-asked : goal.ask-requires-clause-asked
ask-requires-clause-asked c = (_, asks_create)

pub ask-requires-2-clause-room : goal.ask-requires-2-clause-room
ask-requires-2-clause-room c =
    runs_on c.args.self.now c.ask.new.self 8 2 _ c.requires (c.in_ok-ask.ensures _ asks_create) (omega arith)

pub ask-requires-2-clause-asked : goal.ask-requires-2-clause-asked
ask-requires-2-clause-asked c = (_, asks_writer)

pub ask-requires-3-clause-room : goal.ask-requires-3-clause-room
ask-requires-3-clause-room c =
    let one = runs_on c.args.self.now c.ask.new.self 8 6 _ c.requires (c.in_ok-ask.ensures _ asks_create) (omega arith) in
    runs_on c.ask.new.self c.ask-2.new.self 6 2 _ one (c.in_ok-ask-2.ensures _ asks_writer) (omega arith)

pub ask-requires-3-clause-asked : goal.ask-requires-3-clause-asked
ask-requires-3-clause-asked c = (_, asks_first_write)

pub ask-requires-4-clause-room : goal.ask-requires-4-clause-room
ask-requires-4-clause-room c =
    let one = runs_on c.args.self.now c.ask.new.self 8 6 _ c.requires (c.in_ok-ask.ensures _ asks_create) (omega arith) in
    let two = runs_on c.ask.new.self c.ask-2.new.self 6 4 _ one (c.in_ok-ask-2.ensures _ asks_writer) (omega arith) in
    runs_on c.ask-2.new.self c.ask-3.new.self 4 2 _ two (c.in_ok-ask-3.ensures _ asks_first_write) (omega arith)

pub ask-requires-4-clause-asked : goal.ask-requires-4-clause-asked
ask-requires-4-clause-asked c = (_, asks_second_write)

pub returns : goal.returns
returns c =
    on_ok (λ h.
    ran_both _ _ _ _ _ (c.in_ok-ask.ensures _ asks_create)
    (ran_both _ _ _ _ _ (c.in_ok-ask-2.ensures _ asks_writer)
    (ran_both _ _ _ _ _ (c.in_ok-ask-3.ensures _ asks_first_write) (h _ asks_second_write))))
    c.ask-4.result c.ask-4.ensures
