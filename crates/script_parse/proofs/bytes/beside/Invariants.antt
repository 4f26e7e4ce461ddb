use Rattle.std.proofs.Common.{◌≡◌, drop, map}
use Rattle.script_grammar.specs.TokenReading.{beside}
use Rattle.script_parse.proofs.bytes.beside.Given as goal

abbrev pub invariant-loop-entry : goal.invariant-loop-entry
invariant-loop-entry g l = beside l.word (map (λ entry. (entry.0.now, entry.1)) (drop l.entry-index l.table)) ≡ beside l.word (map (λ entry. (entry.0.now, entry.1)) l.table)
