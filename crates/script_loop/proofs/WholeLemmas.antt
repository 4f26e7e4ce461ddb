-- Lines that were whole, one after another.
use Rattle.std.proofs.Common.{◌≡◌, ℕ, false, List, [], ◌∷◌, ◌++◌, sym, ap, subst, ◌∙◌, append_assoc, inl, inr, Option, Some, None}
use Rattle.std.specs.List.{AllByRecursion}
use Rattle.std.specs.Io.KnownBytes.{Keeps, prepend_known}
use Rattle.std.proofs.lemmas.List.{append-nil}
use Rattle.board_model.specs.Lines.{IsOneLine}
use Rattle.script_model.specs.declared.line.ScriptLine.{ScriptLine}
use Rattle.script_model.specs.ScriptAnswers.{ScriptAnswer}
use Rattle.script_model.specs.ScriptGrammar.{SpellsLine}
use Rattle.script_model.specs.ScriptSession.{Session}
use Rattle.script_loop.specs.WholeLines.{HasWholeLines, LosesLine, with_newlines}
use Rattle.script_loop.proofs.RunLemmas.{spells_more}

all_more : (P : List ℕ → Type 0) (ls : List (List ℕ)) (b : List ℕ) → AllByRecursion P ls → P b → AllByRecursion P (ls ++ b ∷ [])
all_more P [] b h one = (one, tt)
all_more P (l ∷ ls) b h one = (h.0, all_more P ls b h.1 one)

newlines_more : (ls : List (List ℕ)) (b rest : List ℕ) → with_newlines (ls ++ b ∷ []) ++ rest ≡ with_newlines ls ++ (b ++ 10 ∷ rest)
newlines_more [] b rest = ap (λ (x : List ℕ). x ++ rest) (append-nil (b ++ 10 ∷ [])) ∙ append_assoc b (10 ∷ []) rest
newlines_more (l ∷ ls) b rest =
    append_assoc (l ++ 10 ∷ []) (with_newlines (ls ++ b ∷ [])) rest ∙ ap (λ (x : List ℕ). (l ++ 10 ∷ []) ++ x) (newlines_more ls b rest)
    ∙ sym (append_assoc (l ++ 10 ∷ []) (with_newlines ls) (b ++ 10 ∷ rest))

-- nothing was read
pub whole_start : (input : Option (List ℕ)) (hand : List ℕ) → hand ≡ [] → HasWholeLines input (prepend_known hand input) []
whole_start None hand e = tt
whole_start (Some i) hand e = record { lines = []; bytes = sym (ap (λ (x : List ℕ). x ++ i) e); whole = tt; spelled = tt }

-- one more line was read with its newline
pub whole_more : (input left rest : Option (List ℕ)) (ps : Session) (b : List ℕ) (p : ScriptLine × ScriptAnswer) → HasWholeLines input left ps → LosesLine false left rest b → IsOneLine b → SpellsLine b p.0 → HasWholeLines input rest (ps ++ p ∷ [])
whole_more None left rest ps b p f t one s = tt
whole_more (Some i) None rest ps b p f t one s = absurd f
whole_more (Some i) (Some l) None ps b p f t one s = absurd t
whole_more (Some i) (Some l) (Some r) ps b p f (inl e) one s = record {
  lines = f.lines ++ b ∷ [];
  bytes = f.bytes ∙ ap (λ (x : List ℕ). with_newlines f.lines ++ x) e ∙ sym (newlines_more f.lines b r);
  whole = all_more IsOneLine f.lines b f.whole one;
  spelled = spells_more f.lines ps b p f.spelled s;
}
whole_more (Some i) (Some l) (Some r) ps b p f (inr last) one s = let told = last.told in absurd cc

pub whole_kept : (input left now : Option (List ℕ)) (ps : Session) → HasWholeLines input left ps → Keeps left now → HasWholeLines input now ps
whole_kept None left now ps f k = tt
whole_kept (Some i) None now ps f k = absurd f
whole_kept (Some i) (Some l) None ps f k = absurd k
whole_kept (Some i) (Some l) (Some n) ps f k = subst (λ (x : List ℕ). HasWholeLines (Some i) (Some x) ps) (sym k) f
