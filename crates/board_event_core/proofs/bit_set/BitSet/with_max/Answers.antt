use Rattle.std.proofs.Common.{◌+◌, ◌/◌, ap, ◌∙◌, List, ℕ}
use Rattle.board_event_core.specs.IdSets.{ids_of}
use Rattle.board_event_core.proofs.BitLemmas.{id_set, ids_none}
use Rattle.board_event_core.proofs.bit_set.BitSet.with_max.Goals as goal

pub returns : goal.returns
returns c =
    ap (λ (ws : List ℕ). id_set c.args.max (ids_of ws)) (c.in_ok-words.ensures.items_if_clones_equal (λ y h. h))
    ∙ ap (id_set c.args.max) (ids_none (c.args.max / 64 + 1))
