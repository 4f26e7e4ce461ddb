use Rattle.std.proofs.Common.{List, ℕ, ap, ◌∙◌}
use Rattle.board_model.specs.Requests.{and_then}
use Rattle.script_grammar.specs.LineReading.{read_open}
use Rattle.script_parse.specs.Kept.{board_made}
use Rattle.script_parse.proofs.KeptLemmas.{open_makes}
use Rattle.script_parse.proofs.calls.open_of.Goals as goal

pub returns-in-None-clause-read : goal.returns-in-None-clause-read
returns-in-None-clause-read c = open_makes c.args.tokens.now (c.in-None.ensures ∙ ap (λ (ts : List (List ℕ)). and_then (read_open ts) board_made) c.again-again.ensures)
