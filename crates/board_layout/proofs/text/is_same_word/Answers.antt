use Rattle.std.proofs.Common.{rules, sym, ◌∙◌}
use Rattle.board_layout.proofs.ShortTexts.{same_word}
use Rattle.board_layout.proofs.text.is_same_word.Goals as goal

pub returns : goal.returns
returns c = (
  (λ h.
      sym c.in-Some-Some.ensures.cases.same
      ∙ same_word c.in-Some-Some.left.now c.in-Some-Some.right.now c.from_le_bytes.result c.from_le_bytes-2.result (search rules) (search rules) (λ i. search rules) (λ i. search rules) c.from_le_bytes.ensures c.from_le_bytes-2.ensures (search (rules, h))
      ∙ c.in-Some-Some.ensures'.cases.same),
  (λ h. search (rules, h)),
)
