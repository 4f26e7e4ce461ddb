use Rattle.std.proofs.Common.{rules, ◌≡◌, ℕ, List, length, sym, ap, ◌∙◌, subst, arith}
use Rattle.std.specs.Prelude.{slice_get}
use Rattle.std.specs.List.{All}
use Rattle.std.proofs.lemmas.Option.{slice_get_within}
use mathlib.Core.Logic.{dite}
use native.Mathlib.Decide.{ℕ_discrete}
use Rattle.board_cell.specs.Passes.{ReaderSeen, notes_of, Stands, NotesRise}
use Rattle.board_cell.proofs.Histories.{publishes_once, legal, reads_once, set_read, read_is, slice_get_map, all_stand_in}
use Rattle.board_cell.proofs.threaded.cell.ThreadedCell.gather.Goals as goal

pub loop-i-preserved : goal.loop-i-preserved
loop-i-preserved c =
    let m = c.meet.ensures in
    let i = c.loop-i.invariant in (
      m.kept.0 ∙ i.0,
      set_read _ _ _ _ c.index_mut.ensures.value m.kept.1 ∙ i.1,
      λ k r l e. dite (ℕ_discrete k c.loop-i.i)
          (λ here. let is = read_is _ c.loop-i.i _ r c.index_mut.ensures.value (ap (λ xs. slice_get xs c.loop-i.i) i.1 ∙ (ap (λ (j : ℕ). slice_get c.args.readers.now.items j) (sym here) ∙ e)) in
          subst (λ (z : ReaderSeen). All (Stands c.args.writer.now.published) z.notes × NotesRise z.notes) is (subst (λ (z : List (List ℕ)). All (Stands z) c.index_mut.result.now.notes) (ap (λ p. p.published) i.0) m.notes, m.rises))
          (λ other. i.2 k r (omega arith) e),
    )

pub returns-clause-legal : goal.returns-clause-legal
returns-clause-legal c = let i = c.loop-i.invariant in let past = c.loop-i-test.false in let len : c.len-i-end.result ≡ length c.args.readers.now.items = search rules in
    legal _ _ (all_stand_in _ _ (λ k r e. let inside = slice_get_within _ k r e in (i.2 k r (omega arith) e).0))

pub returns-clause-publishes : goal.returns-clause-publishes
returns-clause-publishes c = publishes_once _ _

pub returns-clause-reads : goal.returns-clause-reads
returns-clause-reads c k r e = let i = c.loop-i.invariant in let past = c.loop-i-test.false in let len : c.len-i-end.result ≡ length c.args.readers.now.items = search rules in
    let inside = slice_get_within _ k r e in let f = i.2 k r (omega arith) e in
    reads_once _ _ k r.notes (slice_get_map notes_of _ k r e) f.1 f.0
