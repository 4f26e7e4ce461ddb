use Rattle.script_machine.proofs.CounterLemmas.{counter_is_length, counter_stands}
use Rattle.script_machine.proofs.machine.Machine.counter.Goals as goal

pub counter-requires : goal.counter-requires
counter-requires g c = counter_stands c.args.self.now c.requires.stands.0 c.requires.stands.1 c.args.board c.args.entry c.requires.entry

pub returns-clause-value : goal.returns-clause-value
returns-clause-value g c =
    λ session h. counter_is_length c.args.self.now session h c.args.board c.args.entry c.requires.entry c.counter.result c.counter.ensures.value
