use Rattle.std.proofs.Common.{◌≡◌, ℕ, ◌≤◌, List, length, refl, Option, Some, None}
use Rattle.std.specs.Prelude.{Result, Ok, Err, IfOk, IfSome, IfNone, IfErr}
use Rattle.board_model.specs.Requests.{and_then}
use Rattle.script_grammar.specs.TokenReading.{split_tokens}
use Rattle.script_model.specs.declared.line.ScriptLine.{ScriptLine}
use Rattle.script_model.specs.ScriptGrammar.{SpellsLine}
use Rattle.script_grammar.specs.EventReading.{read_script_line}
use Rattle.script_parse.specs.declared.unkept.Unkept.{Unkept}
use Rattle.script_parse.specs.Kept.{SpellsUnkept, unkept_of}
use Rattle.script_grammar.proofs.ScriptLineLemmas.{is_found, is_only}
use Rattle.script_parse.proofs.parse.line_or_unkept.Goals as goal

found : {E : Type 0} (bytes : List ℕ) (r : Result (Option ScriptLine) E) → length bytes ≤ 4096 → IfOk r (λ o. o ≡ read_script_line (split_tokens bytes)) → IfOk r (λ o. IfSome o (λ l. SpellsLine bytes l))
found bytes (Ok o) le e = is_found bytes o le e
found bytes (Err x) le e = tt

only : {E : Type 0} (bytes : List ℕ) (r : Result (Option ScriptLine) E) → IfOk r (λ o. o ≡ read_script_line (split_tokens bytes)) → IfOk r (λ o. IfNone o ((l : ScriptLine) → SpellsLine bytes l → ⊥))
only bytes (Ok o) e = is_only bytes o e
only bytes (Err x) e = tt

-- the line of which this is known is spelled
spelled : (bytes : List ℕ) (o : Option ScriptLine) (u : Unkept) → length bytes ≤ 4096 → o ≡ read_script_line (split_tokens bytes) → and_then o unkept_of ≡ Some u → SpellsUnkept bytes u
spelled bytes None u le e h = absurd cc
spelled bytes (Some l) u le e h = (l, is_found bytes (Some l) le e, h)

wants : {A : Type 0} (bytes : List ℕ) (r : Result A Unkept) → length bytes ≤ 4096 → IfErr r (λ u. and_then (read_script_line (split_tokens bytes)) unkept_of ≡ Some u) → IfErr r (λ u. SpellsUnkept bytes u)
wants bytes (Ok o) le h = tt
wants bytes (Err u) le h = spelled bytes (read_script_line (split_tokens bytes)) u le refl h

pub returns-clause-found : goal.returns-clause-found
returns-clause-found c = found c.args.bytes.now c.script_line_of.result c.if-bytes-gt-MOST_BYTES.false c.script_line_of.ensures.read

pub returns-clause-only : goal.returns-clause-only
returns-clause-only c = only c.args.bytes.now c.script_line_of.result c.script_line_of.ensures.read

pub returns-clause-memory : goal.returns-clause-memory
returns-clause-memory c = wants c.args.bytes.now c.script_line_of.result c.if-bytes-gt-MOST_BYTES.false c.script_line_of.ensures.memory
