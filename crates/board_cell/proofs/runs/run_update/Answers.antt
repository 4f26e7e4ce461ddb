use Rattle.std.proofs.Common.{rules, ◌∙◌, ap, ◌++◌, [], ◌∷◌, map}
use Rattle.std.proofs.lemmas.List.{map-append}
use Rattle.board_cell.specs.Calls.{on_board}
use Rattle.board_cell.specs.Runs.{owed_writes}
use Rattle.board_cell.proofs.Writing.{update_steps}
use Rattle.board_cell.proofs.runs.run_update.Goals as goal

pub loop-call-preserved : goal.loop-call-preserved
loop-call-preserved c = (
  search rules,
  search rules,
  λ board. update_steps board c.args.call.now c.loop-call.call c.took.new.self (map (on_board board) c.args.accesses.now.items ++ owed_writes board c.args.call.now.shape c.args.call.now.generation c.args.call.now.words c.args.call.now.written) (map (on_board board) c.loop-call.accesses.items) (map (on_board board) c.push.new.self.items) c.loop-call.invariant.0 c.took.ensures.call c.loop-call.invariant.1 (ap (map (on_board board)) c.in_ok-push.ensures.items ∙ map-append (on_board board) c.loop-call.accesses.items (c.next.result ∷ []) ∙ ap (λ o. map (on_board board) c.loop-call.accesses.items ++ o ∷ []) (c.next.ensures board)) (c.loop-call.invariant.2 board),
)
