use Rattle.std.proofs.Common.{None, refl}
use Rattle.script_boards.proofs.Seats.{put_under}
use Rattle.script_boards.proofs.machine.BoardMachine.give_back.Goals as goal

pub returns : goal.returns
returns g c = record {
  domain = c.rename.ensures;
  loans = put_under c.args.self.now.loans c.forget.new.map (λ ws. ws.items) c.args.party.now c.args.loan.now None c.forget.ensures;
  parties = refl;
  values = refl;
}
