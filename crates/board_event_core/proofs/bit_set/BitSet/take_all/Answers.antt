use Rattle.std.proofs.Common.{ℕ, [], ◌∷◌, refl, subst, ap, sym, ◌∙◌, ◌<◌}
use Rattle.std.specs.FinSet as set
use denote.Param.Always.{mut_next}
use Rattle.board_event_core.specs.IdSets.{IdSet, IsListOf}
use Rattle.board_event_core.proofs.BitLemmas.{list_none, list_more, empty_is, fewer, id_set}
use Rattle.board_event_core.proofs.bit_set.BitSet.take_all.Goals as goal

pub loop-id-smaller : goal.loop-id-smaller
loop-id-smaller g c = subst (λ (s : IdSet). set.len s.ids < set.len c.loop-id.self.ids) (sym c.in-Some.ensures.1) (fewer c.loop-id.self.ids c.in-Some.id c.in-Some.ensures.0.member)

pub loop-id-preserved : goal.loop-id-preserved
loop-id-preserved g c =
    let inv = c.loop-id.invariant in (
      mut_next g.F.FnMut c.loop-id.callback (c.in-Some.id, tt) tt _ _ c.callback.ensures refl inv.0,
      ap (λ (s : IdSet). s.max) c.in-Some.ensures.1 ∙ inv.1,
      λ rest last is folds. inv.2 (c.in-Some.id ∷ rest) last
          (list_more c.loop-id.self.ids c.in-Some.id rest c.in-Some.ensures.0 (subst (λ (s : IdSet). IsListOf rest s.ids) c.in-Some.ensures.1 is))
          (c.callback.new.self, c.callback.ensures, folds),
    )

pub returns-clause-calls : goal.returns-clause-calls
returns-clause-calls g c =
    let all = c.loop-id.invariant.2 [] c.loop-id.callback (list_none c.loop-id.self.ids c.in_default.ensures.0) refl in
    (all.0, all.1, c.loop-id.callback, all.2)

pub returns-clause-left : goal.returns-clause-left
returns-clause-left g c = c.in_default.ensures.1 ∙ ap (id_set c.loop-id.self.max) (empty_is c.loop-id.self.ids c.in_default.ensures.0) ∙ ap (λ (m : ℕ). id_set m set.empty) c.loop-id.invariant.1
