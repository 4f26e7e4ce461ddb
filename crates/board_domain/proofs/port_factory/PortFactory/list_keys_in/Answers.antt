use Rattle.std.specs.Fn.{CalledAt}
use Rattle.board_domain.proofs.WalkLemmas.{walks_on}
use Rattle.board_domain.proofs.port_factory.PortFactory.list_keys_in.Goals as goal

pub returns : goal.returns
returns g c = walks_on (CalledAt g.F.FnMut) c.args.callback _ _ c.visit_keys_in.ensures
