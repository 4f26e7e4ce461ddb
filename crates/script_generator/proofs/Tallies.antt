-- Counts of a session with one more line.
use Rattle.std.proofs.Common.{◌≡◌, ℕ, ◌+◌, ◌≤◌, ◌<◌, ◌^◌, Bool, true, false, [], ◌∷◌, ◌++◌, length, arith, refl, ap, ◌∙◌}
use Rattle.std.specs.Prelude.{if◌then◌else◌}
use Rattle.std.proofs.lemmas.List.{length-append}
use Rattle.board_model.specs.declared.answer.Answer.{Answer}
use Rattle.board_model.specs.declared.line.Line.{Line}
use Rattle.board_model.specs.LawfulSession as boards
use Rattle.script_model.specs.declared.line.ScriptLine.{ScriptLine}
use Rattle.script_model.specs.declared.line.ScriptLine.TheVariants as script_line
use Rattle.script_model.specs.ScriptAnswers.{ScriptAnswer, is_refused, of_boards}
use Rattle.script_model.specs.ScriptSession.{Session, after, start, state_after}
use Rattle.script_model.specs.ScriptTurns.{ScriptState}
use Rattle.script_generator.specs.declared.summary.Counts.{Counts}
use Rattle.script_generator.specs.Counting.{AreLow, RunsPlain, counted_with, is_plain_line, one_more}
use Rattle.script_generator.specs.Summary.{count_from, counts_of, call_ended, is_get, is_step, is_update}
use Rattle.script_generator.proofs.PlainCalls.{ends_told}

count_more : (is : ScriptState → ScriptLine → ScriptAnswer → Bool) (s : ScriptState) (ps : Session) (p : ScriptLine × ScriptAnswer) → count_from is s (ps ++ p ∷ []) ≡ one_more (count_from is s ps) (is (state_after s ps) p.0 p.1)
count_more is s [] p = at (is s p.0 p.1)
  where
    at : (b : Bool) → (if b then 1 else 0) + 0 ≡ one_more 0 b
    at true = refl
    at false = refl
count_more is s (q ∷ ps) p =
    ap (λ (k : ℕ). (if is s q.0 q.1 then 1 else 0) + k) (count_more is (after s q.0 q.1) ps p)
    ∙ at (is (state_after (after s q.0 q.1) ps) p.0 p.1) (if is s q.0 q.1 then 1 else 0) (count_from is (after s q.0 q.1) ps)
  where
    at : (b : Bool) (m n : ℕ) → m + one_more n b ≡ one_more (m + n) b
    at true m n = omega arith
    at false m n = refl

count_within : (is : ScriptState → ScriptLine → ScriptAnswer → Bool) (s : ScriptState) (ps : Session) → count_from is s ps ≤ length ps
count_within is s [] = omega arith
count_within is s (q ∷ ps) = at (is s q.0 q.1) (count_within is (after s q.0 q.1) ps)
  where
    at : (b : Bool) → count_from is (after s q.0 q.1) ps ≤ length ps → (if b then 1 else 0) + count_from is (after s q.0 q.1) ps ≤ length (q ∷ ps)
    at true h = omega (arith, h)
    at false h = omega (arith, h)

-- counts of a short session are low
pub counts_low : (ps : Session) (c : Counts) → length ps < 2 ^ 63 → c ≡ counts_of ps → AreLow c
counts_low ps c lt e = rw e (record {
  lines = lt;
  refused = omega (arith, lt, count_within (λ s l a. is_refused a) start ps);
  steps = omega (arith, lt, count_within (λ s l a. is_step a) start ps);
  updates = omega (arith, lt, count_within (λ s l a. is_update (call_ended s l a)) start ps);
  gets = omega (arith, lt, count_within (λ s l a. is_get (call_ended s l a)) start ps);
})

abbrev make : ℕ → ℕ → ℕ → ℕ → ℕ → Counts
make l r s u g = record { lines = l; refused = r; steps = s; updates = u; gets = g }

same_counts : (a b : Counts) → a.lines ≡ b.lines → a.refused ≡ b.refused → a.steps ≡ b.steps → a.updates ≡ b.updates → a.gets ≡ b.gets → a ≡ b
same_counts a b e f g h i =
    ap (λ (n : ℕ). make n a.refused a.steps a.updates a.gets) e
    ∙ (ap (λ (n : ℕ). make b.lines n a.steps a.updates a.gets) f
    ∙ (ap (λ (n : ℕ). make b.lines b.refused n a.updates a.gets) g
    ∙ (ap (λ (n : ℕ). make b.lines b.refused b.steps n a.gets) h
    ∙ ap (λ (n : ℕ). make b.lines b.refused b.steps b.updates n) i)))

-- a line more is counted by its answer
pub counts_more : (ps : Session) (l : Line) (a : Answer) → RunsPlain (state_after start ps).boards → is_plain_line l ≡ true → boards.IsRight (state_after start ps).boards l a → counts_of (ps ++ (script_line.Board l, of_boards a) ∷ []) ≡ counted_with (counts_of ps) a
counts_more ps l a plain p h =
    let ends = ends_told (state_after start ps) l a plain p h in
    let pair : ScriptLine × ScriptAnswer = (script_line.Board l, of_boards a) in
    same_counts (counts_of (ps ++ pair ∷ [])) (counted_with (counts_of ps) a)
    (length-append ps (pair ∷ []))
    (count_more (λ s l a. is_refused a) start ps pair)
    (count_more (λ s l a. is_step a) start ps pair)
    (count_more (λ s l a. is_update (call_ended s l a)) start ps pair ∙ ap (λ (b : Bool). one_more (count_from (λ s l a. is_update (call_ended s l a)) start ps) b) ends.update)
    (count_more (λ s l a. is_get (call_ended s l a)) start ps pair ∙ ap (λ (b : Bool). one_more (count_from (λ s l a. is_get (call_ended s l a)) start ps) b) ends.get)
