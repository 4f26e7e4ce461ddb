use Rattle.std.proofs.Common.{arith, refl, [], None}
use Rattle.script_loop.specs.Machines.{StandsFor}
use Rattle.script_loop.proofs.RunLemmas.{goes_on, starts}
use Rattle.board_rows.proofs.row.answers_each_line.Goals as goal

pub loop-n-init : goal.loop-n-init
loop-n-init g c = starts _ _ None None [] refl c.requires

pub line-requires : goal.line-requires
line-requires g c =
    let r = c.loop-n.invariant in
    (r.session, record { lawful = r.lawful; few = omega arith; state = r.state })

pub loop-n-preserved : goal.loop-n-preserved
loop-n-preserved g c =
    let r = c.loop-n.invariant in
    let s : StandsFor g.M.RunsLines.stands c.loop-n.machine r.session = record { lawful = r.lawful; few = omega arith; state = r.state } in
    goes_on _ _ _ _ None None None None None None _ _ r tt (c.in-Ok.ensures.ok r.session s) tt
