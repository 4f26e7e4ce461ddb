use Rattle.std.proofs.Common.{ℕ, List, Some, None, refl, subst}
use Rattle.board_event_core.specs.IdSets.{IsLeastIn}
use Rattle.board_event_core.proofs.BitLemmas.{least_view, none_view}
use Rattle.board_event_core.proofs.bit_set.BitSet.take_least.Goals as goal

pub clear-requires : goal.clear-requires
clear-requires c = (least_view c.self.inside.words.items c.self.inside.max c.args.self.now c.in-Some.id c.self.view_is (subst (λ (ws : List ℕ). IsLeastIn ws (Some c.in-Some.id)) c.as_slice.ensures.value c.in-Some.ensures)).member

pub returns-in-None : goal.returns-in-None
returns-in-None c = (none_view c.self.inside.words.items c.self.inside.max c.args.self.now c.self.view_is (subst (λ (ws : List ℕ). IsLeastIn ws None) c.as_slice.ensures.value c.in-None.ensures), refl)

pub returns-in-Some : goal.returns-in-Some
returns-in-Some c = (least_view c.self.inside.words.items c.self.inside.max c.args.self.now c.in-Some.id c.self.view_is (subst (λ (ws : List ℕ). IsLeastIn ws (Some c.in-Some.id)) c.as_slice.ensures.value c.in-Some.ensures), c.clear.ensures)
