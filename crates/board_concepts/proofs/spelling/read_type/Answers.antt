use Rattle.std.proofs.Common.{subst, arith}
use Rattle.std.proofs.lemmas.Grind.{common_steps}
use Rattle.board_concepts.specs.Spelling.{Spelled, SpelledText}
use Rattle.board_concepts.proofs.spelling.read_type.Goals as goal

pub returns-clause-found : goal.returns-clause-found
returns-clause-found c = (
  record { name = c.in_ok-variant.bytes.now; size = c.in_ok-type_name.bytes.now; alignment = c.in_ok-size.bytes.now },
  record {
    variant = subst (λ n. Spelled n c.args.bytes.now c.in_ok-variant.bytes.now) (grind (arith, common_steps)) c.in_ok-variant.ensures.found;
    name = subst (λ t. SpelledText t c.in_ok-variant.bytes.now c.in_ok-type_name.bytes.now) (grind (arith, common_steps)) c.in_ok-type_name.ensures.found;
    size = c.in_ok-size.ensures.found;
    alignment = c.in_ok-alignment.ensures.found;
  },
)
