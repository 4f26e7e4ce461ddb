-- A verdict that is true is the only one.
use Rattle.std.proofs.Common.{◌≡◌, ℕ, ◌+◌, ◌*◌, ◌≤◌, List, [], ◌∷◌, ◌++◌, length, arith, refl, sym, ap, subst, ◌∙◌, Option, Some, None, Result, Ok, Err, IfOk, IsErrOf}
use Rattle.std.proofs.lemmas.List.{length-append}
use Rattle.board_model.specs.Lines.{lines_of}
use Rattle.script_model.specs.ScriptSession.{Session}
use Rattle.script_rules.specs.declared.rule.Rule.{Rule}
use Rattle.script_rules.specs.SessionPairs.{AreLawful, BreaksAt, SpellsPairs, next_line}
use Rattle.script_rules.proofs.VerdictLemmas.{verdict}
use Rattle.script_rules.specs.BrokenRules.{Breaks}
use Rattle.script_model.specs.ScriptSession.{start, state_after}
use Rattle.script_pairs.specs.declared.verdict.Verdict.{Verdict}
use Rattle.script_pairs.specs.declared.verdict.Verdict.TheVariants.{Lawful, No}
use Rattle.script_pairs.specs.declared.verdict.CheckError.{CheckError}
use Rattle.script_pairs.specs.declared.verdict.CheckError.TheVariants.{ReadFault, TooLong, OutOfMemory}
use Rattle.script_pairs.specs.Checks.{Checks, GoOnAfter, GoesOnIn, IsVerdict}

-- ---- lengths

twice : (n : ℕ) (lines : List (List ℕ)) (xs : Session) → SpellsPairs n lines xs → length lines ≡ 2 * length xs
twice n [] [] p = refl
twice n [] (x ∷ xs) p = absurd p
twice n (c ∷ []) xs p = absurd p
twice n (c ∷ a ∷ cs) [] p = absurd p
twice n (c ∷ a ∷ cs) (x ∷ xs) p = omega (arith, twice (n + 1) cs xs p.3)

lawful_lines : (lines : List (List ℕ)) (n : ℕ) → AreLawful lines n → length lines ≡ 2 * n
lawful_lines lines n h = omega (arith, twice 1 lines h.session h.spelled, h.counted)

past_not_lawful : (lines : List (List ℕ)) (limit n : ℕ) → n ≤ limit → GoOnAfter limit lines → AreLawful lines n → ⊥
past_not_lawful lines limit n le g h =
    omega (arith, le, lawful_lines lines n h, lawful_lines g.before limit g.lawful, ap length g.cut, length-append g.before (g.next ∷ g.more))

past_not_few : (lines : List (List ℕ)) (limit : ℕ) → length lines ≤ 2 * limit → GoOnAfter limit lines → ⊥
past_not_few lines limit few g =
    omega (arith, few, lawful_lines g.before limit g.lawful, ap length g.cut, length-append g.before (g.next ∷ g.more))

-- ---- a pair that breaks a rule stands in the pairs before too

-- a front of a list that ends at least two items before another front
record IsInside (front whole : List (List ℕ)) (item : List ℕ) (rest tail : List (List ℕ)) : Type 0 where
  next : List ℕ
  more : List (List ℕ)
  whole_is : whole ≡ front ++ item ∷ next ∷ more
  rest_is : rest ≡ next ∷ (more ++ tail)

two_heads : (x y : List ℕ) (xs ys : List (List ℕ)) → x ∷ xs ≡ y ∷ ys → (x ≡ y) × (xs ≡ ys)
two_heads x y xs ys e = (cc, cc)

inside : (front whole : List (List ℕ)) (item : List ℕ) (rest tail : List (List ℕ)) → front ++ item ∷ rest ≡ whole ++ tail → length front + 2 ≤ length whole → IsInside front whole item rest tail
inside [] [] item rest tail e le = absurd (omega arith)
inside [] (b ∷ []) item rest tail e le = absurd (omega arith)
inside [] (b ∷ a ∷ more) item rest tail e le =
    let h = two_heads item b rest (a ∷ (more ++ tail)) e in
    record { next = a; more = more; whole_is = ap (λ (x : List ℕ). x ∷ a ∷ more) (sym h.0); rest_is = h.1 }
inside (p ∷ ps) [] item rest tail e le = absurd (omega arith)
inside (p ∷ ps) (b ∷ bs) item rest tail e le =
    let h = two_heads p b (ps ++ item ∷ rest) (bs ++ tail) e in
    let k = inside ps bs item rest tail h.1 (omega arith) in
    record { next = k.next; more = k.more; whole_is = ap (λ (x : List ℕ). x ∷ bs) (sym h.0) ∙ ap (λ (xs : List (List ℕ)). p ∷ xs) k.whole_is; rest_is = k.rest_is }

past_not_broken : (lines : List (List ℕ)) (limit n : ℕ) (r : Rule) → n ≤ limit → GoOnAfter limit lines → BreaksAt lines n r → ⊥
past_not_broken lines limit n r le g h =
    let short : length h.before + 2 ≤ length g.before = omega (arith, le, h.number, twice 1 h.before h.session h.spelled, lawful_lines g.before limit g.lawful) in
    let k = inside h.before g.before h.text h.rest (g.next ∷ g.more) (sym h.cut ∙ g.cut) short in
    let b : BreaksAt g.before n r = record {
      before = h.before;
      text = h.text;
      rest = k.next ∷ k.more;
      cut = k.whole_is;
      session = h.session;
      lawful = h.lawful;
      spelled = h.spelled;
      number = h.number;
      breaks = subst (λ (o : Option (List ℕ)). Breaks (state_after start h.session) n h.text o r) (ap next_line k.rest_is) h.breaks;
    } in
    verdict.apart g.before limit n r g.lawful b

-- ---- all that is told

same_lawful : (m n : ℕ) → m ≡ n → Lawful m ≡ Lawful n
same_lawful m n e = ap Lawful e

same_no : (m n : ℕ) (q r : Rule) → m ≡ n → q ≡ r → No m q ≡ No n r
same_no m n q r e f = cc

known : (limit : ℕ) (bs : List ℕ) (result : Result Verdict CheckError) → IfOk result (IsVerdict limit (Some bs)) → (IsErrOf result TooLong → GoesOnIn limit (Some bs)) → Checks limit (Some bs) result
known limit bs (Ok (Lawful m)) h past = record {
  verdict = h;
  too_long = past;
  lawful = λ n le k. same_lawful m n (verdict.lawful (lines_of bs) m n h.1 k);
  broken = λ n r le k. absurd (verdict.apart (lines_of bs) m n r h.1 k);
  goes_on = λ k. absurd (past_not_lawful (lines_of bs) limit m h.0 k h.1);
  few = λ k e. absurd cc;
}
known limit bs (Ok (No m q)) h past = record {
  verdict = h;
  too_long = past;
  lawful = λ n le k. absurd (verdict.apart (lines_of bs) n m q k h.1);
  broken = λ n r le k. let e = verdict.broken (lines_of bs) m n q r h.1 k in same_no m n q r e.0 e.1;
  goes_on = λ k. absurd (past_not_broken (lines_of bs) limit m q h.0 k h.1);
  few = λ k e. absurd cc;
}
known limit bs (Err ReadFault) h past = record {
  verdict = h;
  too_long = past;
  lawful = λ n le k e. cc;
  broken = λ n r le k e. cc;
  goes_on = λ k. refl;
  few = λ k e. absurd cc;
}
known limit bs (Err OutOfMemory) h past = record {
  verdict = h;
  too_long = past;
  lawful = λ n le k e. cc;
  broken = λ n r le k e. cc;
  goes_on = λ k. refl;
  few = λ k e. absurd cc;
}
known limit bs (Err TooLong) h past = record {
  verdict = h;
  too_long = past;
  lawful = λ n le k. absurd (past_not_lawful (lines_of bs) limit n le (past refl) k);
  broken = λ n r le k. absurd (past_not_broken (lines_of bs) limit n r le (past refl) k);
  goes_on = λ k. refl;
  few = λ k e. past_not_few (lines_of bs) limit k (past refl);
}

pub both_ways : (limit : ℕ) (bytes : Option (List ℕ)) (result : Result Verdict CheckError) → IfOk result (IsVerdict limit bytes) → (IsErrOf result TooLong → GoesOnIn limit bytes) → Checks limit bytes result
both_ways limit None result h past = record {
  verdict = h;
  too_long = past;
  lawful = λ n le k. absurd k;
  broken = λ n r le k. absurd k;
  goes_on = λ k. absurd k;
  few = λ k. absurd k;
}
both_ways limit (Some bs) result h past = known limit bs result h past

pub told_ok : (limit : ℕ) (bytes : Option (List ℕ)) (v : Verdict) → IsVerdict limit bytes v → Checks limit bytes (Ok v)
told_ok limit bytes v h = both_ways limit bytes (Ok v) h (λ e. absurd cc)

pub told_past : (limit : ℕ) (bytes : Option (List ℕ)) → GoesOnIn limit bytes → Checks limit bytes (Err TooLong)
told_past limit bytes h = both_ways limit bytes (Err TooLong) tt (λ e. h)
