use Rattle.std.proofs.Common.{rules, ◌≡◌, ℕ, refl, [], ◌∷◌, ◌++◌}
use Rattle.board_cell_model.specs.declared.access.Access.TheVariants as access
use Rattle.std.specs.Prelude.{codes}
use Rattle.script_model.specs.ScriptSession.{IsLawful, Session}
use Rattle.script_model.specs.LawsOfComposition.{state_met}
use Rattle.script_moments.specs.Moments.{moments, own}
use Rattle.script_moments.specs.Gets.{IsGet}
use Rattle.script_moments.specs.OneRound.{b}
use Rattle.script_moments.specs.Snapshots.{moments_of_snapshot}
use Rattle.script_moments.specs.WorkedSnapshots.{a_snapshot, before_it, since_it, the_get, to_three, to_two}
use Rattle.script_moments.proofs.worked_snapshots.a_snapshot_may_be_written.Goals as goal

lawful : IsLawful (before_it ++ since_it)
lawful = search rules

own_is : own b (moments (state_met before_it) since_it) ≡ moments_of_snapshot a_snapshot
own_is = refl

-- a get of the three
a_get : (done : Session) (g place word : ℕ) → IsGet b (codes "h") (the_get done g place word)
a_get done g place word = record {
  begun = refl;
  steps = ((access.Read 1 0 g, refl), ((access.Read 1 place word, refl), tt));
  ended = (access.Read 1 0 g, refl);
}

pub returns : goal.returns
returns c = record {
  snapshot = record {
    lawful = lawful;
    own = own_is;
    rounds = ((a_get [] 1 2 7, tt), ((a_get to_two 2 3 9, tt), tt));
    unlike = (λ e. absurd cc, tt);
    part = (a_get to_three 2 3 9, tt);
  };
  none = refl;
  whole = (a_get to_three 2 3 9, tt);
  earlier = (the_get [] 1 2 7 ∷ []) ∷ [];
  one = the_get to_two 2 3 9 ∷ [];
  rounds = refl;
  alike = refl;
}
