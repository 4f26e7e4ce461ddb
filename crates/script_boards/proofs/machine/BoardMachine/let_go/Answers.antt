use Rattle.std.proofs.Common.{None, refl}
use Rattle.script_boards.specs.Machine.{kept_of}
use Rattle.script_boards.proofs.Seats.{put_under}
use Rattle.script_boards.proofs.machine.BoardMachine.let_go.Goals as goal

pub returns : goal.returns
returns g c =
    let m = c.args.self.now in
    record {
      domain = c.release.ensures;
      values = put_under m.values c.forget.new.map kept_of c.args.party.now c.args.name.now None c.forget.ensures;
      loans = put_under m.loans c.forget-2.new.map (λ ws. ws.items) c.args.party.now c.args.name.now None c.forget-2.ensures;
      parties = refl;
    }
