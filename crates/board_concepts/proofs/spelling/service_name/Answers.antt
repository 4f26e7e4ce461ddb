use Rattle.board_concepts.proofs.TextLemmas.{IsUtf8-service_name}
use Rattle.board_concepts.proofs.spelling.service_name.Goals as goal

pub returns-in-Err-clause-accepted : goal.returns-in-Err-clause-accepted
returns-in-Err-clause-accepted c = λ is_name. absurd (c.in-Err.ensures.cases.0 (IsUtf8-service_name c.args.bytes.now is_name))
