use Rattle.std.proofs.Common.{ℕ, ◌+◌, ◌-◌, Option, refl, sym, subst, arith, of_calls}
use denote.Param.Always.{always_mut}
use Rattle.board_model.specs.Tables.{board_at}
use Rattle.board_service.specs.Told.{node_in}
use Rattle.board_domain.specs.Walks.{WalksTo, at_places}
use Rattle.board_domain.proofs.WalkLemmas.{walks_none, walks_stopped, walks_more, one_here, none_here, none_left}
use Rattle.board_domain.proofs.walks.visit_nodes.Goals.{in-Some+in-Continue, in_default}
use Rattle.board_domain.proofs.walks.visit_nodes.Goals as goal

pub returns-in-Stop : goal.returns-in-Stop
returns-in-Stop g c =
    let d = c.args.tables.now.tables in
    let at : ℕ → Option ℕ = λ i. node_in i d.things (board_at d c.args.board) in
    let place = c.loop-place.place in
    c.loop-place.invariant.2 _
    (walks_stopped (λ f x r h. goal.F-step g f x r h) c.loop-place.callback c.callback.new.self c.in-Some.node
    (at_places at (c.args.count - (place + 1)) (place + 1)) _
    (one_here at place c.args.count c.loop-place-test.true c.in-Some.node (sym c.in-Some.ensures)) c.in-Stop.ensures)

pub loop-place-preserved : goal.loop-place-preserved
loop-place-preserved g c =
    let d = c.args.tables.now.tables in
    let at : ℕ → Option ℕ = λ i. node_in i d.things (board_at d c.args.board) in
    let place = c.loop-place.place in
    let below = c.loop-place-test.true in
    let behind = at_places at (c.args.count - (place + 1)) (place + 1) in
    elim c.match-node_at.branch [
      | in-Some+in-Continue w ↦ (
        omega (arith, below),
        subst (always_mut g.F.FnMut) (sym w.callback-is) (search of_calls),
        λ last rest. c.loop-place.invariant.2 last
            (walks_more (λ f x r h. goal.F-step g f x r h) c.loop-place.callback w.callback.new.self last w.in-Some.node behind _
            (one_here at place c.args.count below w.in-Some.node (sym w.in-Some.ensures)) w.in-Continue.ensures
            (subst (λ q. WalksTo (λ f x r h. goal.F-step g f x r h) q behind last) w.callback-is rest)),
      )
      | in_default w ↦ (
        omega (arith, below),
        subst (always_mut g.F.FnMut) (sym w.callback-is) c.loop-place.invariant.1,
        λ last rest. c.loop-place.invariant.2 last
            (subst (λ ns. WalksTo (λ f x r h. goal.F-step g f x r h) c.loop-place.callback ns last) (sym (none_here at place c.args.count below (sym w.in_default.ensures)))
            (subst (λ q. WalksTo (λ f x r h. goal.F-step g f x r h) q behind last) w.callback-is rest)),
      )
    ]

pub returns : goal.returns
returns g c =
    let d = c.args.tables.now.tables in
    c.loop-place.invariant.2 _ (walks_none (λ f x r h. goal.F-step g f x r h) c.loop-place.callback _ _
    (none_left (λ i. node_in i d.things (board_at d c.args.board)) c.loop-place.place c.args.count c.loop-place-test.false) refl)
