use Rattle.std.proofs.Common.{List, sym, subst}
use Rattle.board_concepts.specs.Attributes as concepts
use Rattle.board_model.specs.declared.attributes.Attribute.{Attribute}
use Rattle.script_parties.proofs.Attributes.{attributes_of}
use Rattle.script_parties.proofs.adding.attributes_for.Goals as goal

pub from_vec-requires : goal.from_vec-requires
from_vec-requires c = subst (λ (xs : List Attribute). concepts.AreAttributes xs) (sym c.into_vec.ensures) (attributes_of c.args.attributes c.requires)
