-- One verdict on a pair.
use Rattle.std.proofs.Common.{◌≡◌, ℕ, List, refl, sym, ap, subst, ◌∙◌, Option, Some, None, inl, inr}
use Rattle.std.specs.Prelude.{◌⊎◌}
use Rattle.script_model.specs.declared.line.ScriptLine.{ScriptLine}
use Rattle.script_model.specs.ScriptAnswers.{ScriptAnswer, script_answer_text}
use Rattle.script_model.specs.ScriptTurns.{ScriptState}
use Rattle.script_model.specs.ScriptSession.{IsRight, start, state_after}
use Rattle.script_model.proofs.AnswerLaws.{one_answer}
use Rattle.script_model.proofs.EachLaws.{each_line_answered}
use Rattle.script_grammar.proofs.ScriptLineLemmas.{one_line}
use Rattle.script_rules.specs.declared.rule.Rule.{Rule}
use Rattle.script_rules.specs.declared.rule.Rule.TheVariants as rule
use Rattle.script_rules.specs.BrokenRules.{Breaks, Differs, IsAnswerText, IsLineText, IsRightPair, broken_rule}
use Rattle.script_rules.specs.LawsOfPairs.{EachPairIsJudged, OneRuleIsBroken, RightPairsBreakNone}
use Rattle.script_rules.proofs.GroupLemmas.{none_same, not_answer, not_line, self_none}

-- a broken rule, by kind
Judged : ScriptState → ℕ → List ℕ → Option (List ℕ) → Rule → Type 0
Judged s n text answer r = ((r ≡ rule.Line) × (IsLineText text → ⊥)) ⊎ (((r ≡ rule.Answer) × IsLineText text × (IsAnswerText n answer → ⊥)) ⊎ Differs s n text answer r)

judged : (s : ScriptState) (n : ℕ) (text : List ℕ) (answer : Option (List ℕ)) (r : Rule) → Breaks s n text answer r → Judged s n text answer r
unfolding Judged
judged s n text answer rule.Line h = inl (refl, h)
judged s n text answer rule.Answer h = inr (inl (refl, h.0, h.1))
judged s n text answer rule.Reason h = inr (inr h)
judged s n text answer rule.Owed h = inr (inr h)
judged s n text answer rule.Word h = inr (inr h)
judged s n text answer rule.Event h = inr (inr h)
judged s n text answer rule.Reply h = inr (inr h)

same_some : (x y : List ℕ) → Some x ≡ Some y → x ≡ y
same_some x y e = cc

same_rule : (r q : Rule) → Some r ≡ Some q → r ≡ q
same_rule r q e = cc

both_differ : (s : ScriptState) (n : ℕ) (text : List ℕ) (answer : Option (List ℕ)) (r q : Rule) → Differs s n text answer r → Differs s n text answer q → r ≡ q
both_differ s n text answer r q h k =
    let l : h.line ≡ k.line = one_line text h.line k.line h.spelled k.spelled in
    let a : h.right ≡ k.right = one_answer s k.line h.right k.right (subst (λ (x : ScriptLine). IsRight s x h.right) l h.is_right) k.is_right in
    let p : h.printed ≡ k.printed = same_some h.printed k.printed (sym h.is ∙ k.is) in
    let e : broken_rule h.line (script_answer_text h.right) h.printed ≡ broken_rule k.line (script_answer_text k.right) k.printed = rw (l, a, p) refl in
    same_rule r q (sym h.broken ∙ e ∙ k.broken)

pub one_rule : OneRuleIsBroken
unfolding Judged
one_rule s n text answer r q h k = at (judged s n text answer r h) (judged s n text answer q k)
  where
    at : Judged s n text answer r → Judged s n text answer q → r ≡ q
    at (inl x) (inl y) = x.0 ∙ sym y.0
    at (inl x) (inr (inl y)) = absurd (x.1 y.1)
    at (inl x) (inr (inr y)) = absurd (x.1 (y.line, y.spelled))
    at (inr (inl x)) (inl y) = absurd (y.1 x.1)
    at (inr (inl x)) (inr (inl y)) = x.0 ∙ sym y.0
    at (inr (inl x)) (inr (inr y)) = absurd (x.2 y.formed)
    at (inr (inr x)) (inl y) = absurd (y.1 (x.line, x.spelled))
    at (inr (inr x)) (inr (inl y)) = absurd (y.2 x.formed)
    at (inr (inr x)) (inr (inr y)) = both_differ s n text answer r q x y

right_differs : (s : ScriptState) (n : ℕ) (text : List ℕ) (answer : Option (List ℕ)) (r : Rule) → IsRightPair s text answer → Differs s n text answer r → ⊥
right_differs s n text answer r h k =
    let l : h.line ≡ k.line = one_line text h.line k.line h.spelled k.spelled in
    let a : h.right ≡ k.right = one_answer s k.line h.right k.right (subst (λ (x : ScriptLine). IsRight s x h.right) l h.is_right) k.is_right in
    let p : script_answer_text h.right ≡ k.printed = same_some (script_answer_text h.right) k.printed (sym h.is ∙ k.is) in
    let q : script_answer_text k.right ≡ k.printed = ap script_answer_text (sym a) ∙ p in
    let none : broken_rule k.line (script_answer_text k.right) k.printed ≡ None = ap (λ (t : List ℕ). broken_rule k.line t k.printed) q ∙ self_none k.line k.printed in
    let e : None ≡ Some r = sym none ∙ k.broken in
    cc

pub right_none : RightPairsBreakNone
unfolding Judged
right_none s n text answer r h formed k = at (judged s n text answer r k)
  where
    at : Judged s n text answer r → ⊥
    at (inl x) = x.1 (h.line, h.spelled)
    at (inr (inl x)) = x.2 formed
    at (inr (inr x)) = right_differs s n text answer r h x

-- where the answer differs it breaks that rule
differs_breaks : (s : ScriptState) (n : ℕ) (text : List ℕ) (answer : Option (List ℕ)) (r : Rule) → Differs s n text answer r → Breaks s n text answer r
differs_breaks s n text answer rule.Line h = absurd (not_line h.line (script_answer_text h.right) h.printed h.broken)
differs_breaks s n text answer rule.Answer h = absurd (not_answer h.line (script_answer_text h.right) h.printed h.broken)
differs_breaks s n text answer rule.Reason h = h
differs_breaks s n text answer rule.Owed h = h
differs_breaks s n text answer rule.Word h = h
differs_breaks s n text answer rule.Event h = h
differs_breaks s n text answer rule.Reply h = h

pub each_judged : EachPairIsJudged
each_judged pairs n text None ok short l formed = absurd formed
each_judged pairs n text (Some printed) ok short l formed =
    let a = each_line_answered pairs l.0 ok short l.1.line in
    at a.0 a.1 (broken_rule l.0 (script_answer_text a.0) printed) refl
  where
    at : (right : ScriptAnswer) → IsRight (state_after start pairs) l.0 right → (o : Option Rule) → broken_rule l.0 (script_answer_text right) printed ≡ o → IsRightPair (state_after start pairs) text (Some printed) ⊎ ((r : Rule) × Breaks (state_after start pairs) n text (Some printed) r)
    at right h None e = inl (record { line = l.0; spelled = l.1; right = right; is_right = h; is = ap (λ (t : List ℕ). Some t) (sym (none_same l.0 (script_answer_text right) printed e)) })
    at right h (Some r) e = inr (r, differs_breaks (state_after start pairs) n text (Some printed) r (record { line = l.0; spelled = l.1; formed = formed; right = right; is_right = h; printed = printed; is = refl; broken = e }))
