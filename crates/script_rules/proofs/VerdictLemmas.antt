-- One verdict on a session of pairs.
use Rattle.std.proofs.Common.{◌≡◌, ℕ, suc, ◌+◌, ◌*◌, List, [], ◌∷◌, ◌++◌, length, arith, refl, sym, ap, subst, ◌∙◌, Option, Some}
use Rattle.script_model.specs.declared.line.ScriptLine.{ScriptLine}
use Rattle.script_model.specs.ScriptGrammar.{SpellsLine}
use Rattle.script_model.specs.ScriptAnswers.{ScriptAnswer, script_answer_text}
use Rattle.script_model.specs.ScriptTurns.{ScriptState}
use Rattle.script_model.specs.ScriptSession.{IsLawfulFrom, IsRight, Session, after, start, state_after}
use Rattle.script_model.proofs.AnswerLaws.{one_answer}
use Rattle.script_grammar.proofs.ScriptLineLemmas.{one_line}
use Rattle.script_rules.specs.declared.rule.Rule.{Rule}
use Rattle.script_rules.specs.PrintedAnswers.{SpellsAnswer}
use Rattle.script_rules.specs.BrokenRules.{Breaks, IsRightPair}
use Rattle.script_rules.specs.SessionPairs.{SpellsPairs, next_line}
use Rattle.script_rules.specs.LawsOfPairs.{OneVerdict, SessionsGoOn}
use Rattle.script_rules.proofs.PairLemmas.{one_rule, right_none}

-- ---- pairs that are spelled

-- the first pair of a session that is spelled is right
spelled_right : (s : ScriptState) (text answer : List ℕ) (x : ScriptLine × ScriptAnswer) → IsRight s x.0 x.1 → SpellsLine text x.0 → answer ≡ script_answer_text x.1 → IsRightPair s text (Some answer)
spelled_right s text answer x ok l e = record { line = x.0; spelled = l; right = x.1; is_right = ok; is = ap (λ (t : List ℕ). Some t) e }

heads : (x y : List ℕ) (xs ys : List (List ℕ)) → x ∷ xs ≡ y ∷ ys → (x ≡ y) × (xs ≡ ys)
heads x y xs ys e = (cc, cc)

same_pair : (x y : ScriptLine × ScriptAnswer) → x.0 ≡ y.0 → x.1 ≡ y.1 → x ≡ y
same_pair (l, a) (m, b) e f = cc (e, f)

-- two right pairs with the same line are the same
right_same : (s : ScriptState) (t u : List ℕ) (x y : ScriptLine × ScriptAnswer) → t ≡ u → IsRight s x.0 x.1 → IsRight s y.0 y.1 → SpellsLine t x.0 → SpellsLine u y.0 → x ≡ y
right_same s t u x y e h k p q =
    let l : x.0 ≡ y.0 = one_line t x.0 y.0 p (subst (λ (z : List ℕ). SpellsLine z y.0) (sym e) q) in
    same_pair x y l (one_answer s y.0 x.1 y.1 (subst (λ (z : ScriptLine). IsRight s z x.1) l h) k)

-- a pair that is spelled in one session is broken in no other
meets : (s : ScriptState) (n : ℕ) (text t a : List ℕ) (more rest : List (List ℕ)) (y : ScriptLine × ScriptAnswer) (r : Rule) → text ∷ rest ≡ t ∷ a ∷ more → IsRight s y.0 y.1 → SpellsLine t y.0 → a ≡ script_answer_text y.1 → SpellsAnswer n a → Breaks s n text (next_line rest) r → ⊥
meets s n text t a more rest y r e ok l f formed b =
    let h = heads text t rest (a ∷ more) e in
    let right : IsRightPair s text (Some a) = spelled_right s text a y ok (subst (λ (z : List ℕ). SpellsLine z y.0) (sym h.0) l) f in
    let next : next_line rest ≡ Some a = ap next_line h.1 in
    right_none s n text (Some a) r right formed (subst (λ (o : Option (List ℕ)). Breaks s n text o r) next b)

same_verdict : (n : ℕ) (s : ScriptState) (one two : List (List ℕ)) (t u : List ℕ) (rest more : List (List ℕ)) (xs ys : Session) (r q : Rule) → one ++ t ∷ rest ≡ two ++ u ∷ more → IsLawfulFrom s xs → IsLawfulFrom s ys → SpellsPairs n one xs → SpellsPairs n two ys
    → Breaks (state_after s xs) (n + length xs) t (next_line rest) r → Breaks (state_after s ys) (n + length ys) u (next_line more) q → (length xs ≡ length ys) × (r ≡ q)
same_verdict n s [] [] t u rest more [] [] r q e h k p o b d =
    let x = heads t u rest more e in
    let d' : Breaks s (n + 0) t (next_line rest) q = subst (λ (z : List ℕ). Breaks s (n + 0) z (next_line rest) q) (sym x.0) (subst (λ (z : List (List ℕ)). Breaks s (n + 0) u (next_line z) q) (sym x.1) d) in
    (refl, one_rule s (n + 0) t (next_line rest) r q b d')
same_verdict n s [] two t u rest more (x ∷ xs) ys r q e h k p o b d = absurd p
same_verdict n s one [] t u rest more xs (y ∷ ys) r q e h k p o b d = absurd o
same_verdict n s (c ∷ []) two t u rest more xs ys r q e h k p o b d = absurd p
same_verdict n s one (c ∷ []) t u rest more xs ys r q e h k p o b d = absurd o
same_verdict n s (c ∷ a ∷ cs) two t u rest more [] ys r q e h k p o b d = absurd p
same_verdict n s one (c ∷ a ∷ cs) t u rest more xs [] r q e h k p o b d = absurd o
same_verdict n s [] (c ∷ a ∷ cs) t u rest more [] (y ∷ ys) r q e h k p o b d =
    let zero : n + 0 ≡ n = omega arith in
    absurd (meets s n t c a (cs ++ u ∷ more) rest y r e k.0 o.0 o.1 o.2 (subst (λ (m : ℕ). Breaks s m t (next_line rest) r) zero b))
same_verdict n s (c ∷ a ∷ cs) [] t u rest more (x ∷ xs) [] r q e h k p o b d =
    let zero : n + 0 ≡ n = omega arith in
    absurd (meets s n u c a (cs ++ t ∷ rest) more x q (sym e) h.0 p.0 p.1 p.2 (subst (λ (m : ℕ). Breaks s m u (next_line more) q) zero d))
same_verdict n s (c ∷ a ∷ cs) (c' ∷ a' ∷ cs') t u rest more (x ∷ xs) (y ∷ ys) r q e h k p o b d =
    let e1 = heads c c' (a ∷ (cs ++ t ∷ rest)) (a' ∷ (cs' ++ u ∷ more)) e in
    let e2 = heads a a' (cs ++ t ∷ rest) (cs' ++ u ∷ more) e1.1 in
    let same = right_same s c c' x y e1.0 h.0 k.0 p.0 o.0 in
    let next : after s y.0 y.1 ≡ after s x.0 x.1 = ap (λ (z : ScriptLine × ScriptAnswer). after s z.0 z.1) (sym same) in
    let k' : IsLawfulFrom (after s x.0 x.1) ys = subst (λ (z : ScriptState). IsLawfulFrom z ys) next k.1 in
    let count : (zs : Session) (z : ScriptLine × ScriptAnswer) → n + length (z ∷ zs) ≡ (n + 1) + length zs = λ (zs : Session) (z : ScriptLine × ScriptAnswer). omega arith in
    let b' : Breaks (state_after (after s x.0 x.1) xs) ((n + 1) + length xs) t (next_line rest) r = subst (λ (m : ℕ). Breaks (state_after (after s x.0 x.1) xs) m t (next_line rest) r) (count xs x) b in
    let d1 : Breaks (state_after (after s y.0 y.1) ys) ((n + 1) + length ys) u (next_line more) q = subst (λ (m : ℕ). Breaks (state_after (after s y.0 y.1) ys) m u (next_line more) q) (count ys y) d in
    let d' : Breaks (state_after (after s x.0 x.1) ys) ((n + 1) + length ys) u (next_line more) q = subst (λ (z : ScriptState). Breaks (state_after z ys) ((n + 1) + length ys) u (next_line more) q) next d1 in
    let rec = same_verdict (n + 1) (after s x.0 x.1) cs cs' t u rest more xs ys r q e2.1 h.1 k' p.3 o.3 b' d' in
    (ap suc rec.0, rec.1)

-- a session and a pair that breaks a rule
no_verdict : (n : ℕ) (s : ScriptState) (lines one : List (List ℕ)) (t : List ℕ) (rest : List (List ℕ)) (xs ys : Session) (r : Rule) → lines ≡ one ++ t ∷ rest → IsLawfulFrom s xs → IsLawfulFrom s ys → SpellsPairs n lines xs → SpellsPairs n one ys → Breaks (state_after s ys) (n + length ys) t (next_line rest) r → ⊥
no_verdict n s [] one t rest [] ys r e h k p o b = empty one e
  where
    empty : (one : List (List ℕ)) → [] ≡ one ++ t ∷ rest → ⊥
    empty [] f = cc
    empty (c ∷ cs) f = cc
no_verdict n s [] one t rest (x ∷ xs) ys r e h k p o b = absurd p
no_verdict n s (c ∷ []) one t rest xs ys r e h k p o b = absurd p
no_verdict n s (c ∷ a ∷ cs) one t rest [] ys r e h k p o b = absurd p
no_verdict n s (c ∷ a ∷ cs) [] t rest (x ∷ xs) [] r e h k p o b =
    let zero : n + 0 ≡ n = omega arith in
    meets s n t c a cs rest x r (sym e) h.0 p.0 p.1 p.2 (subst (λ (m : ℕ). Breaks s m t (next_line rest) r) zero b)
no_verdict n s (c ∷ a ∷ cs) [] t rest (x ∷ xs) (y ∷ ys) r e h k p o b = absurd o
no_verdict n s (c ∷ a ∷ cs) (d ∷ []) t rest (x ∷ xs) ys r e h k p o b = absurd o
no_verdict n s (c ∷ a ∷ cs) (d ∷ f ∷ ds) t rest (x ∷ xs) [] r e h k p o b = absurd o
no_verdict n s (c ∷ a ∷ cs) (d ∷ f ∷ ds) t rest (x ∷ xs) (y ∷ ys) r e h k p o b =
    let e1 = heads c d (a ∷ cs) (f ∷ (ds ++ t ∷ rest)) e in
    let e2 = heads a f cs (ds ++ t ∷ rest) e1.1 in
    let same = right_same s c d x y e1.0 h.0 k.0 p.0 o.0 in
    let next : after s y.0 y.1 ≡ after s x.0 x.1 = ap (λ (z : ScriptLine × ScriptAnswer). after s z.0 z.1) (sym same) in
    let count : n + length (y ∷ ys) ≡ (n + 1) + length ys = omega arith in
    let b1 : Breaks (state_after (after s y.0 y.1) ys) ((n + 1) + length ys) t (next_line rest) r = subst (λ (m : ℕ). Breaks (state_after (after s y.0 y.1) ys) m t (next_line rest) r) count b in
    no_verdict (n + 1) (after s x.0 x.1) cs ds t rest xs ys r e2.1 h.1 (subst (λ (z : ScriptState). IsLawfulFrom z ys) next k.1) p.3 o.3 (subst (λ (z : ScriptState). Breaks (state_after z ys) ((n + 1) + length ys) t (next_line rest) r) next b1)

spelled_length : (n : ℕ) (lines : List (List ℕ)) (xs : Session) → SpellsPairs n lines xs → length lines ≡ 2 * length xs
spelled_length n [] [] p = refl
spelled_length n [] (x ∷ xs) p = absurd p
spelled_length n (c ∷ []) xs p = absurd p
spelled_length n (c ∷ a ∷ cs) [] p = absurd p
spelled_length n (c ∷ a ∷ cs) (x ∷ xs) p =
    let k = spelled_length (n + 1) cs xs p.3 in
    omega (arith, k)

pub verdict : OneVerdict
verdict = record {
  broken = λ lines m n r q h k.
      let count : (i j : ℕ) → i ≡ j + 1 → i ≡ 1 + j = λ (i j : ℕ) (e : i ≡ j + 1). omega (arith, e) in
      let v = same_verdict 1 start h.before k.before h.text k.text h.rest k.rest h.session k.session r q (sym h.cut ∙ k.cut) h.lawful k.lawful h.spelled k.spelled
      (subst (λ (i : ℕ). Breaks (state_after start h.session) i h.text (next_line h.rest) r) (count m (length h.session) h.number) h.breaks)
      (subst (λ (i : ℕ). Breaks (state_after start k.session) i k.text (next_line k.rest) q) (count n (length k.session) k.number) k.breaks) in
      (omega (arith, h.number, k.number, v.0), v.1);
  lawful = λ lines m n h k. omega (arith, spelled_length 1 lines h.session h.spelled, spelled_length 1 lines k.session k.spelled, h.counted, k.counted);
  apart = λ lines m n r h k.
      let count : n ≡ 1 + length k.session = omega (arith, k.number) in
      no_verdict 1 start lines k.before k.text k.rest h.session k.session r k.cut h.lawful k.lawful h.spelled k.spelled (subst (λ (i : ℕ). Breaks (state_after start k.session) i k.text (next_line k.rest) r) count k.breaks);
}

-- ---- one pair more

pub lawful_push : (xs : Session) (s : ScriptState) (y : ScriptLine × ScriptAnswer) → IsLawfulFrom s xs → IsRight (state_after s xs) y.0 y.1 → IsLawfulFrom s (xs ++ y ∷ [])
lawful_push [] s y ok h = (h, tt)
lawful_push (x ∷ xs) s y ok h = (ok.0, lawful_push xs (after s x.0 x.1) y ok.1 h)

pairs_push : (n : ℕ) (lines : List (List ℕ)) (pairs : Session) (text answer : List ℕ) (x : ScriptLine × ScriptAnswer) → SpellsPairs n lines pairs → SpellsLine text x.0 → answer ≡ script_answer_text x.1 → SpellsAnswer (n + length pairs) answer → SpellsPairs n (lines ++ text ∷ answer ∷ []) (pairs ++ x ∷ [])
pairs_push n [] [] text answer x p l e k =
    let zero : n + 0 ≡ n = omega arith in
    (l, e, subst (λ (m : ℕ). SpellsAnswer m answer) zero k, tt)
pairs_push n [] (y ∷ ys) text answer x p l e k = absurd p
pairs_push n (c ∷ []) ys text answer x p l e k = absurd p
pairs_push n (c ∷ a ∷ cs) [] text answer x p l e k = absurd p
pairs_push n (c ∷ a ∷ cs) (y ∷ ys) text answer x p l e k =
    let count : n + length (y ∷ ys) ≡ (n + 1) + length ys = omega arith in
    (p.0, p.1, p.2, pairs_push (n + 1) cs ys text answer x p.3 l e (subst (λ (m : ℕ). SpellsAnswer m answer) count k))

pub sessions_go_on : SessionsGoOn
sessions_go_on n lines pairs text answer l right ok p s h e k = (lawful_push pairs start (l, right) ok h, pairs_push n lines pairs text answer (l, right) p s e k)
