-- The lines of an input fix its session and so its output, and where they are of the grammar there is one.
use Rattle.std.proofs.Common.{◌≡◌, ℕ, List, [], ◌∷◌, length, arith, refl, sym, ap, subst, ◌∙◌}
use Rattle.std.specs.List.{AllByRecursion}
use Rattle.board_model.specs.Lines.{lines_of}
use Rattle.script_model.specs.declared.line.ScriptLine.{ScriptLine}
use Rattle.script_model.specs.ScriptGrammar.{IsScriptLine, SpellsLine}
use Rattle.script_model.specs.ScriptSession.{Session}
use Rattle.script_model.specs.ScriptSession.{asked_lines as session_lines}
use Rattle.script_model.specs.ScriptOutput.{SpellsAll, output_of}
use Rattle.script_model.proofs.AnswerLaws.{one_session}
use Rattle.script_model.proofs.EachLaws.{each_script_run}
use Rattle.script_grammar.specs.LawsOfOutputs.{InputsHaveOneOutput, InputsHaveOneSession, ScriptsHaveAnOutput}
use Rattle.script_grammar.proofs.ScriptLineLemmas.{one_line}

-- ---- one session, and one output

both_heads : (k l : ScriptLine) (ks ls : List ScriptLine) → k ≡ l → ks ≡ ls → k ∷ ks ≡ l ∷ ls
both_heads k l ks ls e f = cc

same_lines : (bytes : List (List ℕ)) (xs ys : Session) → SpellsAll bytes xs → SpellsAll bytes ys → session_lines xs ≡ session_lines ys
same_lines [] [] [] h k = refl
same_lines [] [] (y ∷ ys) h k = absurd k
same_lines [] (x ∷ xs) ys h k = absurd h
same_lines (b ∷ bs) [] ys h k = absurd h
same_lines (b ∷ bs) (x ∷ xs) [] h k = absurd k
same_lines (b ∷ bs) (x ∷ xs) (y ∷ ys) h k = both_heads x.0 y.0 (session_lines xs) (session_lines ys) (one_line b x.0 y.0 h.0 k.0) (same_lines bs xs ys h.1 k.1)

pub one_session_of : InputsHaveOneSession
one_session_of bytes xs ys lawful_xs lawful_ys h k = one_session xs ys lawful_xs lawful_ys (same_lines bytes xs ys h k)

pub one_output : InputsHaveOneOutput
one_output input one two h k = h.bytes ∙ ap output_of (one_session_of (lines_of input) h.session k.session h.lawful k.lawful h.lines k.lines) ∙ sym k.bytes

-- ---- a session, and an output

-- the lines that texts spell
record AreRead (texts : List (List ℕ)) : Type 0 where
  pub read : List ScriptLine
  pub are : AllByRecursion IsScriptLine read
  pub count : length read ≡ length texts
  pub spelled : (pairs : Session) → session_lines pairs ≡ read → SpellsAll texts pairs

abbrev IsSpelled : List ℕ → Type 0
IsSpelled text = (l : ScriptLine) × SpellsLine text l

read_all : (texts : List (List ℕ)) → AllByRecursion IsSpelled texts → AreRead texts
read_all [] h = record { read = []; are = tt; count = refl; spelled = none }
  where
    none : (pairs : Session) → session_lines pairs ≡ [] → SpellsAll [] pairs
    none [] e = tt
    none (x ∷ xs) e = absurd cc
read_all (t ∷ ts) h = more (read_all ts h.1)
  where
    more : AreRead ts → AreRead (t ∷ ts)
    more k = record { read = h.0.0 ∷ k.read; are = (h.0.1.line, k.are); count = omega (arith, k.count); spelled = at }
      where
        at : (pairs : Session) → session_lines pairs ≡ h.0.0 ∷ k.read → SpellsAll (t ∷ ts) pairs
        at [] e = absurd cc
        at (x ∷ xs) e =
            let p : x.0 ≡ h.0.0 = cc (e) in
            let q : session_lines xs ≡ k.read = cc (e) in
            (subst (λ (l : ScriptLine). SpellsLine t l) (sym p) h.0.1, k.spelled xs q)

-- a script of lines of the grammar has a session, and so an output
pub each_output : ScriptsHaveAnOutput
each_output input h =
    let r = read_all (lines_of input) h.each in
    let s = each_script_run r.read r.are (omega (arith, r.count, h.few)) in
    (output_of s.0, record { session = s.0; lawful = s.1; lines = r.spelled s.0 s.2; bytes = refl })
