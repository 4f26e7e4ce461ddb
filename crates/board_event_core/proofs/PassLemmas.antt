-- Looks at words without ids that are left out.
use Rattle.std.proofs.Common.{◌≡◌, ℕ, zero, suc, ◌+◌, ◌-◌, ◌<◌, ◌≤◌, Bool, true, false, refl, sym, ap, ◌∙◌, subst, arith, eqb}
use Rattle.std.specs.Prelude.{◌||◌, Some}
use Rattle.board_event_model.specs.declared.access.EventAnswer.TheVariants as answer
use Rattle.board_event_model.specs.declared.call.WaitStage.{WaitStage}
use Rattle.board_event_model.specs.declared.call.WaitStage.TheVariants as wait
use Rattle.board_event_model.specs.Ids.{Ids}
use Rattle.board_event_model.specs.WaitCalls.{Wait}
use Rattle.board_event_core.specs.Turns.{wait_went_on}
use Rattle.board_event_core.specs.Passing.{GoesOnTo, NoneBetween, PassesOver, passed, word_at, word_of}

-- the wait at a stage
abbrev pub at : Wait → WaitStage → Wait
at w stage = record w { stage = stage }

or_false : (b : Bool) → (b || false) ≡ b
or_false true = refl
or_false false = refl

one_scan : (k : ℕ) (w : Wait) → k + 1 < w.words → wait_went_on (at w (wait.Scan k)) (answer.Word 0) ≡ at w (wait.Scan (k + 1))
one_scan k w low = let on : eqb (k + 1) w.words ≡ false = grind (arith, low) in rw on refl

one_swap : (k : ℕ) (some : Bool) (w : Wait) → k + 1 < w.words → wait_went_on (at w (wait.Swap k some)) (answer.Word 0) ≡ at w (wait.Swap (k + 1) some)
one_swap k some w low = let on : eqb (k + 1) w.words ≡ false = grind (arith, low) in rw on (ap (λ (b : Bool). at w (wait.Swap (k + 1) b)) (or_false some))

pass_scan : (n k : ℕ) (w : Wait) → k + n < w.words → passed n (at w (wait.Scan k)) ≡ at w (wait.Scan (k + n))
pass_scan zero k w low = ap (λ (m : ℕ). at w (wait.Scan m)) (omega arith)
pass_scan (suc n) k w low =
    ap (passed n) (one_scan k w (omega (arith, low))) ∙ pass_scan n (k + 1) w (omega (arith, low)) ∙ ap (λ (m : ℕ). at w (wait.Scan m)) (omega arith)

pass_swap : (n k : ℕ) (some : Bool) (w : Wait) → k + n < w.words → passed n (at w (wait.Swap k some)) ≡ at w (wait.Swap (k + n) some)
pass_swap zero k some w low = ap (λ (m : ℕ). at w (wait.Swap m some)) (omega arith)
pass_swap (suc n) k some w low =
    ap (passed n) (one_swap k some w (omega (arith, low))) ∙ pass_swap n (k + 1) some w (omega (arith, low)) ∙ ap (λ (m : ℕ). at w (wait.Swap m some)) (omega arith)

-- from a scan or a swap to that of a later word
pub goes_to_scan : (w v : Wait) (k other to : ℕ) → w ≡ v → w.stage ≡ wait.Scan k → k ≤ to → to ≤ other → to < w.words → GoesOnTo other v (at w (wait.Scan to))
goes_to_scan w v k other to same is from within low = subst (λ (x : Wait). GoesOnTo other x (at w (wait.Scan to))) same (record {
  count = to - k;
  within = rw is (omega (arith, from, within));
  after = sym (ap (passed (to - k)) (ap (at w) is) ∙ pass_scan (to - k) k w (omega (arith, from, low)) ∙ ap (λ (m : ℕ). at w (wait.Scan m)) (omega (arith, from)));
})

pub goes_to_swap : (w v : Wait) (k other to : ℕ) (some : Bool) → w ≡ v → w.stage ≡ wait.Swap k some → k ≤ to → to ≤ other → to < w.words → GoesOnTo other v (at w (wait.Swap to some))
goes_to_swap w v k other to some same is from within low = subst (λ (x : Wait). GoesOnTo other x (at w (wait.Swap to some))) same (record {
  count = to - k;
  within = rw is (omega (arith, from, within));
  after = sym (ap (passed (to - k)) (ap (at w) is) ∙ pass_swap (to - k) k some w (omega (arith, from, low)) ∙ ap (λ (m : ℕ). at w (wait.Swap m some)) (omega (arith, from)));
})

-- the word that it is to look at
word_is : (stage : WaitStage) (word : ℕ) → word_of stage ≡ Some word → word_at stage ≡ word
word_is (wait.Scan k) word is = cc is
word_is (wait.Swap k some) word is = cc is
word_is wait.Drain word is = absurd (cc is)
word_is (wait.Clear id) word is = absurd (cc is)
word_is wait.Look word is = absurd (cc is)
word_is (wait.Pop n) word is = absurd (cc is)
word_is wait.Finished word is = absurd (cc is)

-- words without ids up to another one, and a wait that goes on to that one at most
pub passes_over : (ids : Ids) (call next : Wait) (word other : ℕ) → word_of call.stage ≡ Some word → NoneBetween ids word other → GoesOnTo other call next → PassesOver ids call next
passes_over ids call next word other is none to =
    let same = word_is call.stage word is in
    record {
      count = to.count;
      none = λ k from low. none k (omega (arith, same, from)) (omega (arith, low, to.within));
      after = to.after;
    }
