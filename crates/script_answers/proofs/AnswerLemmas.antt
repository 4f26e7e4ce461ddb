-- A text is read as an answer exactly where it is one.
use Rattle.std.proofs.Common.{◌≡◌, ℕ, ◌+◌, ◌*◌, ◌<◌, ◌≤◌, Bool, true, false, List, length, arith, None, refl, sym, ap, subst, ◌∙◌}
use Rattle.std.specs.Prelude.{◌↔◌, IsTrue}
use Rattle.std.proofs.lemmas.List.Splits.{join_with_byte-slice_split}
use Rattle.script_grammar.proofs.SplitLemmas.{split_free}
use Rattle.script_rules.specs.AnswerGroups.{tokens_of}
use Rattle.script_model.specs.declared.line.ScriptLine.{ScriptLine}
use Rattle.script_rules.specs.BrokenRules.{broken_rule}
use Rattle.script_rules.specs.PrintedAnswers.{SpellsAnswer}
use Rattle.script_rules.proofs.GroupLemmas.{self_none}
use Rattle.script_answers.specs.AnswerReading.{reads_answer}
use Rattle.script_answers.proofs.AnswerTexts.{answer_read}
use Rattle.script_answers.proofs.AnswerTokens.{IsAnswerText, answer_of}

pub is_read : (n : ℕ) (text : List ℕ) → SpellsAnswer n text → reads_answer (tokens_of text) ≡ true
is_read n text h =
    let k = answer_read h.printed h.formed in
    let e : tokens_of text ≡ k.parts = ap tokens_of (h.bytes ∙ k.joined) ∙ split_free 32 refl k.parts k.some k.free in
    ap reads_answer e ∙ k.read

pub spells : (n : ℕ) (text : List ℕ) → length text ≤ 1048576 + 17 * n → reads_answer (tokens_of text) ≡ true → SpellsAnswer n text
spells n text short h =
    let k : IsAnswerText text = subst IsAnswerText (join_with_byte-slice_split 32 text) (answer_of (tokens_of text) h) in
    record { printed = k.printed; formed = k.formed; bytes = k.same; short = short }

-- an answer that is short enough
pub read_where_spelled : (n : ℕ) (text : List ℕ) (r : Bool) → length text ≤ 1048576 + 17 * n → r ≡ reads_answer (tokens_of text) → IsTrue r ↔ SpellsAnswer n text
read_where_spelled n text true short e = (λ h. spells n text short (sym e), λ h. refl)
read_where_spelled n text false short e = (λ h. absurd cc, λ h. let k : false ≡ true = e ∙ is_read n text h in absurd cc)

-- one that is too long
pub long_spells_none : (n : ℕ) (text : List ℕ) → 1048576 + 17 * n < length text → IsTrue false ↔ SpellsAnswer n text
long_spells_none n text long = (λ h. absurd cc, λ h. absurd (omega (arith, h.short, long)))

-- ---- the rule that an answer breaks

pub same_breaks_none : (l : ScriptLine) (right text : List ℕ) → right ≡ text → None ≡ broken_rule l right text
same_breaks_none l right text e = sym (ap (λ (x : List ℕ). broken_rule l x text) e ∙ self_none l text)
