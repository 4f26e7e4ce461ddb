-- What is written for the first lines of a script is a front of its output.
use Rattle.std.proofs.Common.{◌≡◌, ℕ, ◌≤◌, List, [], ◌∷◌, ◌++◌, length, arith, refl, sym, ap, subst, ◌∙◌, Option, Some}
use Rattle.std.proofs.lemmas.Grind.{flat_map-append}
use Rattle.std.proofs.lemmas.List.{length-append}
use Rattle.std.specs.List.{flat_map}
use Rattle.board_model.specs.Lines.{lines_of}
use Rattle.script_model.specs.declared.line.ScriptLine.{ScriptLine}
use Rattle.script_model.specs.ScriptAnswers.{ScriptAnswer, script_answer_line}
use Rattle.script_model.specs.ScriptOutput.{BeginsWith, IsOutputOf, IsScript, SpellsAll, output_of}
use Rattle.script_model.specs.ScriptSession.{Session, IsLawful, IsLawfulFrom, after, start}
use Rattle.script_model.specs.ScriptTurns.{ScriptState}
use Rattle.script_loop.specs.Runs.{FitsInto, IsRunnable}
use Rattle.script_grammar.proofs.SessionLemmas.{each_output, one_session_of}
use Rattle.board_script.specs.Whole.{FitsRoom}

-- a session whose first pairs are those of these lines
record HasFront (lines : List (List ℕ)) (session : Session) : Type 0 where
  pub front : Session
  pub back : Session
  pub is : session ≡ front ++ back
  pub spelled : SpellsAll lines front

front_of : (lines more : List (List ℕ)) (session : Session) → SpellsAll (lines ++ more) session → HasFront lines session
front_of [] more session h = record { front = []; back = session; is = refl; spelled = tt }
front_of (l ∷ lines) more [] h = absurd h
front_of (l ∷ lines) more (p ∷ session) h =
    let f = front_of lines more session h.1 in
    record { front = p ∷ f.front; back = f.back; is = ap (λ (x : Session). p ∷ x) f.is; spelled = (h.0, f.spelled) }

lawful_front : (s : ScriptState) (front back : Session) → IsLawfulFrom s (front ++ back) → IsLawfulFrom s front
lawful_front s [] back h = tt
lawful_front s (p ∷ front) back h = (h.0, lawful_front (after s p.0 p.1) front back h.1)

front_fits : (front back : Session) → length (output_of front) ≤ length (output_of (front ++ back))
front_fits front back =
    let e : output_of (front ++ back) ≡ output_of front ++ output_of back = flat_map-append (λ (p : ScriptLine × ScriptAnswer). script_answer_line p.1) front back in
    omega (arith, ap length e, length-append (output_of front) (output_of back))

-- the first lines have the first answers of the whole session
fits : (room limit : ℕ) (input : List ℕ) (whole : Session) → IsLawful whole → SpellsAll (lines_of input) whole → length (output_of whole) ≤ room → FitsInto room limit (Some input)
fits room limit input whole lawful spelled most = λ session right begins few.
    let f = front_of begins.1.lines begins.0 whole (subst (λ (ls : List (List ℕ)). SpellsAll ls whole) begins.1.all spelled) in
    let both : IsLawful (f.front ++ f.back) = subst IsLawful f.is lawful in
    let same : session ≡ f.front = one_session_of begins.1.lines session f.front right (lawful_front start f.front f.back both) begins.1.spelled f.spelled in
    let all : length (output_of whole) ≡ length (output_of (f.front ++ f.back)) = ap (λ (x : Session). length (output_of x)) f.is in
    let one : length (output_of session) ≡ length (output_of f.front) = ap (λ (x : Session). length (output_of x)) same in
    omega (arith, all, one, most, front_fits f.front f.back)

-- fewer lines are allowed where more are
more_allowed : (input : List ℕ) (few many : ℕ) → few ≤ many → IsScript few input → IsScript many input
more_allowed input few many le h = record { each = h.each; few = omega (arith, le, h.few) }

pub runnable : (room : ℕ) (script : List ℕ) → FitsRoom room script → IsRunnable room 4294967295 (Some script)
runnable room script h =
    let o = each_output script (more_allowed script 4294967295 _ (omega arith) h.script) in
    let out = o.1 in
    let most : length (output_of out.session) ≤ room = omega (arith, h.output o.0 out, ap length out.bytes) in
    record { script = h.script; output = fits room 4294967295 script out.session out.lawful out.lines most }
