use Rattle.std.proofs.Common.{List, ℕ, ap, ◌∙◌}
use Rattle.board_model.specs.Requests.{and_then}
use Rattle.script_grammar.specs.LineReading.{read_create}
use Rattle.script_parse.specs.Kept.{board_made}
use Rattle.script_parse.proofs.KeptLemmas.{create_makes}
use Rattle.script_parse.proofs.calls.create_of.Goals as goal

pub returns-in-None-clause-read : goal.returns-in-None-clause-read
returns-in-None-clause-read c = create_makes c.args.tokens.now (c.in-None.ensures ∙ ap (λ (ts : List (List ℕ)). and_then (read_create ts) board_made) c.again-again.ensures)
