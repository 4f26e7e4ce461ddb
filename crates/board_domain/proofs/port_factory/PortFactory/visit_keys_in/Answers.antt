use Rattle.board_layout.specs.Bytes.{details}
use Rattle.board_model.specs.declared.tables.ThingKind.TheVariants.{Factory}
use Rattle.board_domain.proofs.HeldLemmas.{held_short}
use Rattle.board_domain.proofs.port_factory.PortFactory.visit_keys_in.Goals as goal

pub visit_keys-requires-clause-size : goal.visit_keys-requires-clause-size
visit_keys-requires-clause-size g c =
    let K = g.K.ZeroCopySend in
    held_short c.args.state.now.tables (details K.type_bytes K.SIZE K.ALIGNMENT) c.self.inside.made.thing Factory c.facts.ensures c.if-not-is_held.ensures.value
