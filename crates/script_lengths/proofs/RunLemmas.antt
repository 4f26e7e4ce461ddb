-- The lines of a run and its output are a lawful session of pairs.
use Rattle.std.proofs.Common.{◌≡◌, ℕ, ◌+◌, ◌<◌, ◌≤◌, ◌^◌, List, [], ◌∷◌, ◌++◌, eqb, length, length-append, map, arith, refl, sym, ap, subst, ◌∙◌, append_assoc}
use Rattle.std.specs.List.{slice_split}
use Rattle.std.proofs.lemmas.List.Splits.{length-slice_split, slice_split_at}
use Rattle.board_model.specs.Lines.{IsOneLine, lines_of, whole_parts}
use Rattle.script_model.specs.declared.line.ScriptLine.{ScriptLine}
use Rattle.script_model.specs.ScriptGrammar.{script_spell}
use Rattle.script_model.specs.ScriptAnswers.{ScriptAnswer, script_answer_text}
use Rattle.script_model.specs.ScriptTurns.{ScriptState}
use Rattle.script_model.specs.ScriptSession.{IsLawful, IsLawfulFrom, Session, after, start, state_after}
use Rattle.script_model.specs.ScriptOutput.{SpellsAll, output_of}
use Rattle.script_model.specs.SoundEvents.{IsSoundScript}
use Rattle.script_grammar.proofs.ScriptAnswerLemmas.{right_is_one_line}
use Rattle.script_model.proofs.ScriptSoundLemmas.{script_after, script_start}
use Rattle.script_rules.specs.SessionPairs.{SpellsPairs}
use Rattle.script_rules.proofs.VerdictLemmas.{lawful_push}
use Rattle.script_lengths.specs.CheckedRuns.{AreSpelledFrom, RunsAreLawful, SessionsAreSpelled, in_turn}
use Rattle.script_lengths.specs.ScriptLengths.{HasShortLines}
use Rattle.script_lengths.proofs.ScriptLengthLemmas.{right_spelled}

-- ---- each answer in its place

state_append : (xs ys : Session) (s : ScriptState) → state_after s (xs ++ ys) ≡ state_after (state_after s xs) ys
state_append [] ys s = refl
state_append (x ∷ xs) ys s = state_append xs ys (after s x.0 x.1)

short_push : (xs : Session) (x : ScriptLine × ScriptAnswer) → HasShortLines xs → length (script_spell x.0) ≤ 4096 → HasShortLines (xs ++ x ∷ [])
short_push [] x h k = (k, tt)
short_push (y ∷ ys) x h k = (h.0, short_push ys x h.1 k)

spelled_from : (before more : Session) → IsLawful before → IsLawfulFrom (state_after start before) more → length before + length more < 2 ^ 63 → HasShortLines before → HasShortLines more → AreSpelledFrom (length before + 1) more
spelled_from before [] h k few z y = tt
spelled_from before (x ∷ xs) h k few z y =
    let one = right_spelled before x.0 x.1 h (omega (arith, few)) z k.0 in
    let at : state_after start (before ++ x ∷ []) ≡ after (state_after start before) x.0 x.1 = state_append before (x ∷ []) start in
    let count : length (before ++ x ∷ []) ≡ length before + 1 = length-append before (x ∷ []) in
    let rest = spelled_from (before ++ x ∷ []) xs (lawful_push before start x h k.0) (subst (λ (s : ScriptState). IsLawfulFrom s xs) (sym at) k.1) (omega (arith, count, few)) (short_push before x z y.0) y.1 in
    (one, subst (λ (n : ℕ). AreSpelledFrom (n + 1) xs) count rest)

pub session_spelled : SessionsAreSpelled
session_spelled pairs ok few z = spelled_from [] pairs tt ok (omega (arith, few)) tt z

-- ---- the lines of an output

whole_more : (l : List ℕ) (parts : List (List ℕ)) → 0 < length parts → whole_parts (l ∷ parts) ≡ l ∷ whole_parts parts
whole_more l [] lt = absurd (omega arith)
whole_more l (p ∷ ps) lt = refl

lines_more : (l rest : List ℕ) → IsOneLine l → lines_of (l ++ 10 ∷ rest) ≡ l ∷ lines_of rest
lines_more l rest h = ap whole_parts (slice_split_at (λ b. eqb b 10) l 10 rest h refl) ∙ whole_more l (slice_split (λ b. eqb b 10) rest) (omega (arith, length-slice_split (λ b. eqb b 10) rest))

abbrev texts_of : Session → List (List ℕ)
texts_of pairs = map (λ (pair : ScriptLine × ScriptAnswer). script_answer_text pair.1) pairs

output_lines : (pairs : Session) (s : ScriptState) (n : ℕ) → IsSoundScript s n → IsLawfulFrom s pairs → lines_of (output_of pairs) ≡ texts_of pairs
output_lines [] s n sound ok = refl
output_lines (x ∷ xs) s n sound ok =
    let assoc : output_of (x ∷ xs) ≡ script_answer_text x.1 ++ 10 ∷ output_of xs = append_assoc (script_answer_text x.1) (10 ∷ []) (output_of xs) in
    ap lines_of assoc ∙ lines_more (script_answer_text x.1) (output_of xs) (right_is_one_line s x.0 x.1 n sound ok.0)
    ∙ ap (λ (ls : List (List ℕ)). script_answer_text x.1 ∷ ls) (output_lines xs (after s x.0 x.1) (n + 1) (script_after s x.0 x.1 n ok.0 sound) ok.1)

-- ---- pairs

spelled_short : (lines : List (List ℕ)) (pairs : Session) → SpellsAll lines pairs → HasShortLines pairs
spelled_short [] [] h = tt
spelled_short [] (x ∷ xs) h = absurd h
spelled_short (l ∷ ls) [] h = absurd h
spelled_short (l ∷ ls) (x ∷ xs) h = (subst (λ (t : List ℕ). length t ≤ 4096) h.0.bytes h.0.short, spelled_short ls xs h.1)

spelled_count : (lines : List (List ℕ)) (pairs : Session) → SpellsAll lines pairs → length pairs ≡ length lines
spelled_count [] [] h = refl
spelled_count [] (x ∷ xs) h = absurd h
spelled_count (l ∷ ls) [] h = absurd h
spelled_count (l ∷ ls) (x ∷ xs) h = omega (arith, spelled_count ls xs h.1)

pairs_spelled : (n : ℕ) (lines : List (List ℕ)) (pairs : Session) → SpellsAll lines pairs → AreSpelledFrom n pairs → SpellsPairs n (in_turn lines (texts_of pairs)) pairs
pairs_spelled n [] [] h k = tt
pairs_spelled n [] (x ∷ xs) h k = absurd h
pairs_spelled n (l ∷ ls) [] h k = absurd h
pairs_spelled n (l ∷ ls) (x ∷ xs) h k = (h.0, refl, k.0, pairs_spelled (n + 1) ls xs h.1 k.1)

pub run_lawful : RunsAreLawful
run_lawful input output h few =
    let count : length h.session ≡ length (lines_of input) = spelled_count (lines_of input) h.session h.lines in
    let spelled = session_spelled h.session h.lawful (omega (arith, count, few)) (spelled_short (lines_of input) h.session h.lines) in
    let lines : lines_of output ≡ texts_of h.session = ap lines_of h.bytes ∙ output_lines h.session start 0 script_start h.lawful in
    record {
      session = h.session;
      lawful = h.lawful;
      spelled = subst (λ (ls : List (List ℕ)). SpellsPairs 1 (in_turn (lines_of input) ls) h.session) (sym lines) (pairs_spelled 1 (lines_of input) h.session h.lines spelled);
      counted = count;
    }
