use Rattle.std.proofs.Common.{◌≡◌, length, rules, sym, ap}
use Rattle.std.specs.Prelude.{option_map}
use Rattle.script_boards.proofs.EmptyMaps.{none_under}
use Rattle.script_boards.proofs.machine.BoardMachine.words_lent.Goals as goal

pub returns-then-is_empty : goal.returns-then-is_empty
returns-then-is_empty g c =
    let m = c.args.self.now in
    let empty : length m.loans.entries ≡ 0 = search rules in
    ap (option_map (λ ws. ws.items)) (sym (none_under m.loans empty (record { party = c.args.party.now; name = c.args.name.now })))
