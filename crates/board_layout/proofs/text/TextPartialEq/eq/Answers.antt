use Rattle.board_layout.proofs.ShortTexts.{equal_arrays}
use Rattle.board_layout.proofs.text.TextPartialEq.eq.Goals as goal

pub returns-then-self-other : goal.returns-then-self-other
returns-then-self-other g c =
    rw (← c.self.view_is, ← c.other.view_is)
    (equal_arrays g.row.N c.self.inside.len c.other.inside.len c.self.inside.bytes c.other.inside.bytes c.are_same_words.result
    c.if-self-other.true c.self.invariant c.other.invariant c.are_same_words.ensures)
