use Rattle.std.proofs.Common.{rules, ◌∙◌, ap, ◌++◌, [], ◌∷◌, map}
use Rattle.std.proofs.lemmas.List.{map-append}
use Rattle.board_cell_model.specs.OwedAccesses.{owed_read}
use Rattle.board_cell.specs.Calls.{on_board}
use Rattle.board_cell.proofs.Hearing.{run_owes}
use Rattle.board_cell.proofs.runs.run_get.Goals as goal

pub returns-in-Done-clause-accesses : goal.returns-in-Done-clause-accesses
returns-in-Done-clause-accesses c board = ap (map (on_board board)) c.in_ok-push.ensures.items ∙ map-append (on_board board) c.loop-word.accesses.items (c.next.result ∷ []) ∙ ap (λ o. map (on_board board) c.loop-word.accesses.items ++ o ∷ []) (c.next.ensures board ∙ ap (λ k. owed_read board k c.loop-word.call.reading) c.loop-word.invariant.1) ∙ run_owes board c.args.call.now.shape c.args.call.now.reading c.loop-word.call.reading c.args.words.now c.loop-word.word-index (map (on_board board) c.args.accesses.now.items) (map (on_board board) c.loop-word.accesses.items) (search rules) c.loop-word.invariant.0 (search rules) (c.loop-word.invariant.3 board)
