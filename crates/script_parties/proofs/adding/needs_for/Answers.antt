use Rattle.std.proofs.Common.{List, ℕ, sym, subst}
use Rattle.board_concepts.specs.Attributes as concepts
use Rattle.script_parties.proofs.Attributes.{keys_of}
use Rattle.script_parties.proofs.adding.needs_for.Goals as goal

pub from_lists-requires : goal.from_lists-requires
from_lists-requires c = subst (λ (xs : List (List ℕ)). concepts.AreKeys xs) (sym c.into_vec.ensures) (keys_of c.args.needs.keys c.requires.few c.requires.each)
