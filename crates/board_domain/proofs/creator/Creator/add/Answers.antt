use Rattle.board_domain.proofs.EntryLemmas.{all_more, widths_more}
use Rattle.board_domain.proofs.creator.Creator.add.Goals as goal

pub invariant_of-more : goal.invariant_of-more
invariant_of-more g c = (
  all_more c.more.inside.asked.entries.items c.push.new.self.items c.in-Ok.added c.more.invariant.0 c.in-Ok.ensures.shape c.in-Ok-push.ensures.items,
  λ _. c.in-Ok.ensures.size,
  widths_more c.more.inside.asked.entries.items c.push.new.self.items c.in-Ok.added c.more.invariant.2 c.in-Ok.ensures.width c.in-Ok-push.ensures.items,
)
