-- Lines that were given to the machine of scripts, and the names in them.
use Rattle.std.proofs.Common.{◌≡◌, ℕ, zero, suc, ◌+◌, ◌<◌, ◌≤◌, true, eqb, List, [], ◌∷◌, ◌++◌, length, length-append, get_or, arith, sym, ap, subst, ◌∙◌}
use Rattle.std.specs.Prelude.{◌&&◌, nat_le, not}
use Rattle.std.specs.List.{AllByRecursion, list_all}
use Rattle.std.proofs.lemmas.Bool.{leb-true}
use Rattle.board_model.specs.LineGrammar.{is_name, is_name_byte}
use Rattle.script_model.specs.declared.line.ScriptLine.{ScriptLine}
use Rattle.script_model.specs.ScriptAnswers.{ScriptAnswer, script_answer_line}
use Rattle.script_model.specs.ScriptGrammar.{SpellsLine, script_spell}
use Rattle.script_model.specs.ScriptSession.{IsRight, Session, after, start}
use Rattle.script_model.specs.ScriptTurns.{ScriptState}
use Rattle.script_model.specs.LawsOfComposition.{state_met}
use Rattle.script_grammar.proofs.ReaderLemmas.{both}
use Rattle.script_grammar.proofs.ScriptLineLemmas.{one_line}
use Rattle.script_loop.specs.Machines.{HasAnswered}
use Rattle.script_loop.proofs.RunLemmas.{state_more}
use Rattle.script_feed.specs.Given.{given_text}
use Rattle.script_exchanges.specs.Exchanges.{given, told_text}

-- ---- names

pub named_at : (hs : List (List ℕ)) (n : ℕ) → AllByRecursion (λ h. is_name h ≡ true) hs → n < length hs → is_name (get_or hs n []) ≡ true
named_at [] n h lt = absurd (omega arith)
named_at (x ∷ xs) zero h lt = h.0
named_at (x ∷ xs) (suc n) h lt = named_at xs n h.1 (omega arith)

pub short_name : (n : List ℕ) → is_name n ≡ true → length n ≤ 16
short_name n h = leb-true (length n) 16 (both (not (eqb (length n) 0)) (nat_le (length n) 16) (both (not (eqb (length n) 0) && nat_le (length n) 16) (list_all is_name_byte n) h).0).1

-- ---- what was given

module _ {M : Type 0} (stands : M → ℕ → ScriptState → Type 0) where
  stands_more : (m : M) (fed : Session) (l : ScriptLine) (a : ScriptAnswer) → stands m (length fed + 1) (after (state_met fed) l a) → stands m (length (fed ++ (l, a) ∷ [])) (state_met (fed ++ (l, a) ∷ []))
  stands_more m fed l a h =
      subst (λ (n : ℕ). stands m n (state_met (fed ++ (l, a) ∷ []))) (sym (length-append fed ((l, a) ∷ [])))
      (subst (λ (t : ScriptState). stands m (length fed + 1) t) (sym (state_more start fed (l, a))) h)

  -- the answer to this line
  pub record HasGiven (m : M) (fed : Session) (l : ScriptLine) (line text : List ℕ) : Type 0 where
    pub answer : ScriptAnswer
    pub right : IsRight (state_met fed) l answer
    pub machine : stands m (length (fed ++ (l, answer) ∷ [])) (state_met (fed ++ (l, answer) ∷ []))
    pub text_is : text ≡ script_answer_line answer
    pub told : given_text line text ≡ told_text (given (l, answer))

  pub has_given : (m : M) (fed : Session) (l : ScriptLine) (line text : List ℕ) → SpellsLine line l → HasAnswered stands m fed line text → HasGiven m fed l line text
  has_given m fed l line text spelled h =
      let same : h.line ≡ l = one_line line h.line l h.spelled spelled in
      record {
        answer = h.answer;
        right = subst (λ (k : ScriptLine). IsRight (state_met fed) k h.answer) same h.right;
        machine = stands_more m fed l h.answer (subst (λ (k : ScriptLine). stands m (length fed + 1) (after (state_met fed) k h.answer)) same h.state);
        text_is = h.told;
        told = ap (λ (b : List ℕ). given_text b text) spelled.bytes ∙ ap (λ (t : List ℕ). given_text (script_spell l) t) h.told;
      }
