use Rattle.std.proofs.Common.{Some, refl}
use Rattle.script_boards.specs.Machine.{kept_of}
use Rattle.script_boards.proofs.Seats.{put_under}
use Rattle.script_boards.proofs.machine.BoardMachine.keep.Goals as goal

pub returns : goal.returns
returns g c = record {
  values = put_under c.args.self.now.values c.put.new.map kept_of c.args.party c.args.name (Some c.args.value) c.in_ok-put.ensures;
  domain = refl;
  parties = refl;
  loans = refl;
}
