-- The lines of a script, those of events included, are read back from their bytes, and what is read is spelled so.
use Rattle.std.proofs.Common.{◌≡◌, ℕ, ◌≤◌, true, List, length, Option, Some, None, refl, sym, ap, subst, ◌∙◌}
use Rattle.std.specs.Prelude.{IfSome, IfNone}
use Rattle.std.specs.List.{join_with_byte}
use Rattle.std.proofs.lemmas.List.Splits.{join_with_byte-slice_split}
use Rattle.board_model.specs.declared.line.Line.{Line}
use Rattle.board_model.specs.LineGrammar.{is_name}
use Rattle.script_model.specs.declared.line.EventRequest.{EventRequest}
use Rattle.script_model.specs.declared.line.EventRequest.TheVariants as request
use Rattle.script_model.specs.declared.line.ScriptLine.{ScriptLine}
use Rattle.script_model.specs.declared.line.ScriptLine.TheVariants as line
use Rattle.script_model.specs.ScriptGrammar.{IsScriptLine, SpellsLine, request_tokens, script_tokens}
use Rattle.script_grammar.specs.TokenReading.{split_tokens}
use Rattle.script_grammar.specs.LineReading.{read_begin, read_call, read_line, read_named_call, read_plain_call, read_plain_line}
use Rattle.script_grammar.specs.EventReading.{board_line_first, read_event_line, read_script_line}
use Rattle.script_grammar.specs.LawsOfScriptLines.{BytesSpellOneLine}
use Rattle.script_grammar.proofs.ReaderLemmas.{some_is}
use Rattle.script_grammar.proofs.TokenLemmas.{name_again}
use Rattle.script_grammar.proofs.BoardLineLemmas.{line_again, line_takes}
use Rattle.script_grammar.proofs.EventLineLemmas.{TakesScriptLine, event_again, event_line_takes, expire_again}
use Rattle.script_grammar.proofs.SpaceLemmas.{split_script}

-- ---- lines from tokens

either_takes : (ts : List (List ℕ)) (a : Option Line) (b : Option ScriptLine) (l : ScriptLine) → read_line ts ≡ a → read_event_line ts ≡ b → board_line_first a b ≡ Some l → TakesScriptLine ts l
unfolding board_line_first
either_takes ts (Some k) b l ea eb e =
    let t = line_takes ts k ea in
    subst (TakesScriptLine ts) (some_is (line.Board k) l e) (record { tokens = t.tokens; is = t.is })
either_takes ts None b l ea eb e = event_line_takes ts l (eb ∙ e)

-- what is read has these tokens
script_line_takes : (ts : List (List ℕ)) (l : ScriptLine) → read_script_line ts ≡ Some l → TakesScriptLine ts l
unfolding read_script_line
script_line_takes ts l e = either_takes ts _ _ l refl refl e

-- a call on events is none on boards
no_call : (q : EventRequest) → read_call (request_tokens q) ≡ None
unfolding read_call read_plain_call read_named_call
no_call (request.ListenBits e event max) = refl
no_call (request.ListenQueue e event) = refl
no_call (request.Notifier n k event) = refl
no_call (request.Notify n id) = refl
no_call (request.Wait e many m) = refl

-- a line of events is none of boards
no_board_line : (p : List ℕ) (q : EventRequest) → is_name p ≡ true → read_line (script_tokens (line.Event p q)) ≡ None
unfolding read_line read_begin
no_board_line p q h = rw (name_again p h, no_call q) refl

no_board_expire : (p : List ℕ) → read_line (script_tokens (line.Expire p)) ≡ None
unfolding read_line read_plain_line
no_board_expire p = refl

-- the tokens of a line are read as that line
script_line_again : (l : ScriptLine) → IsScriptLine l → read_script_line (script_tokens l) ≡ Some l
unfolding read_script_line board_line_first
script_line_again (line.Board l) h = rw (line_again l h) refl
script_line_again (line.Event p q) h = rw (no_board_line p q h.0) (event_again p q h.0 h.1)
script_line_again (line.Expire p) h = rw (no_board_expire p) (expire_again p h)

-- ---- lines from bytes

is_read : (bytes : List ℕ) (l : ScriptLine) → SpellsLine bytes l → read_script_line (split_tokens bytes) ≡ Some l
is_read bytes l h = ap (λ (b : List ℕ). read_script_line (split_tokens b)) h.bytes ∙ ap read_script_line (split_script l h.line) ∙ script_line_again l h.line

pub one_line : BytesSpellOneLine
one_line bytes k l hk hl = some_is k l (sym (is_read bytes k hk) ∙ is_read bytes l hl)

-- what is read of bytes that are few enough is a line that they spell
pub is_found : (bytes : List ℕ) (o : Option ScriptLine) → length bytes ≤ 4096 → o ≡ read_script_line (split_tokens bytes) → IfSome o (λ l. SpellsLine bytes l)
is_found bytes None le e = tt
is_found bytes (Some l) le e =
    let t = script_line_takes (split_tokens bytes) l (sym e) in
    record { line = t.is; bytes = sym (join_with_byte-slice_split 32 bytes) ∙ ap (join_with_byte 32) t.tokens; short = le }

-- bytes of which nothing is read spell no line
pub is_only : (bytes : List ℕ) (o : Option ScriptLine) → o ≡ read_script_line (split_tokens bytes) → IfNone o ((l : ScriptLine) → SpellsLine bytes l → ⊥)
is_only bytes None e = λ l h. absurd (let s = e ∙ is_read bytes l h in cc)
is_only bytes (Some l) e = tt
