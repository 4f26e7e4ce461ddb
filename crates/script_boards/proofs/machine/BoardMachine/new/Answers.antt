use Rattle.std.proofs.Common.{ap, rules, sym}
use Rattle.std.specs.Prelude.{option_map}
use Rattle.script_parties.specs.Parties.{Parties}
use Rattle.script_boards.specs.Machine.{kept_of}
use Rattle.script_boards.proofs.EmptyMaps.{none_under}
use Rattle.script_boards.proofs.machine.BoardMachine.new.Goals as goal

pub returns-clause-state : goal.returns-clause-state
returns-clause-state g c = record {
  tables = sym (ap (λ (d : Parties). d.tables) c.new.ensures);
  words = search rules;
  parties = c.new-2.ensures;
  loans = λ p n. ap (option_map (λ ws. ws.items)) (sym (none_under c.new-4.result c.new-4.ensures.len (record { party = p; name = n })));
  values = λ p n. ap (option_map kept_of) (sym (none_under c.new-3.result c.new-3.ensures.len (record { party = p; name = n })));
}
