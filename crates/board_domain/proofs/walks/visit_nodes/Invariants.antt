use Rattle.std.proofs.Common.{◌-◌, ◌≤◌}
use denote.Param.Always.{always_mut}
use Rattle.board_model.specs.Tables.{board_at}
use Rattle.board_service.specs.Told.{node_in}
use Rattle.board_domain.specs.Walks.{WalksTo, at_places}
use Rattle.board_domain.proofs.walks.visit_nodes.Given as goal

-- a walk over what is left makes a walk over all
abbrev pub invariant-loop-place : goal.invariant-loop-place
invariant-loop-place g l =
    (l.place ≤ l.count) × always_mut g.F.FnMut l.callback
    × ((last : _) → WalksTo (λ f x r h. goal.F-step g f x r h) l.callback (at_places (λ i. node_in i l.tables.tables.things (board_at l.tables.tables l.board)) (l.count - l.place) l.place) last
    → WalksTo (λ f x r h. goal.F-step g f x r h) l.fn.callback (at_places (λ i. node_in i l.fn.tables.tables.things (board_at l.fn.tables.tables l.fn.board)) l.fn.count 0) last)

abbrev pub decreases-loop-place : goal.decreases-loop-place
decreases-loop-place g l = l.count - l.place
