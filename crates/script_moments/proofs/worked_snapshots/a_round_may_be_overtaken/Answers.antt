use Rattle.std.proofs.Common.{rules, ℕ, refl, List, [], ◌++◌}
use Rattle.std.specs.Prelude.{codes}
use Rattle.board_cell_model.specs.declared.access.Access.TheVariants as access
use Rattle.script_model.specs.ScriptSession.{IsLawful, Session}
use Rattle.script_moments.specs.Gets.{IsGet}
use Rattle.script_moments.specs.OneRound.{b, one_round, the_get, to_second, two_entries}
use Rattle.script_moments.proofs.worked_snapshots.a_round_may_be_overtaken.Goals as goal

-- a get of the round
a_get : (done : Session) (handle : List ℕ) (counter place g word : ℕ) → IsGet b handle (the_get done handle counter place g word)
a_get done handle counter place g word = record {
  begun = refl;
  steps = ((access.Read 1 counter g, refl), ((access.Read 1 place word, refl), tt));
  ended = (access.Read 1 counter g, refl);
}

lawful : IsLawful (two_entries ++ one_round)
lawful = search rules

pub returns-clause-lawful : goal.returns-clause-lawful
returns-clause-lawful c = lawful

pub returns-clause-own : goal.returns-clause-own
returns-clause-own c = refl

pub returns-clause-round : goal.returns-clause-round
returns-clause-round c = (a_get [] (codes "h") 0 2 1 7, (a_get to_second (codes "k") 4 7 2 10, tt))
