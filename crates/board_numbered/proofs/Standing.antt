-- What stands under numbers, in their order: what is found there, and what comes and goes.
use Rattle.std.proofs.Common.{◌≡◌, ◌≢◌, ℕ, zero, suc, ◌+◌, ◌≤◌, ◌<◌, Bool, true, false, ◌==◌, List, [], ◌∷◌, ◌++◌, length, Option, Some, None, refl, sym, ap, subst, ◌∙◌, arith}
use Rattle.std.specs.Prelude.{find}
use Rattle.std.specs.List.{cons_option}
use Rattle.board_model.specs.Tables.{without_first}
use Rattle.board_numbered.specs.Standing.{standing, standing_from}

pub is_same : (n k : ℕ) → (n == k) ≡ true → n ≡ k
is_same n k h = grind (arith, h)

pub is_other : (n k : ℕ) → (n == k) ≡ false → n ≢ k
is_other n k h s = (let t : (n == k) ≡ true = grind (arith, s) in absurd cc)

module _ {X : Type 0} where
  pub same_from : (under new : ℕ → Option X) (first n : ℕ) → ((k : ℕ) → first ≤ k → k < first + n → new k ≡ under k) → standing_from new first n ≡ standing_from under first n
  same_from under new first zero h = refl
  same_from under new first (suc n) h =
      let rest = same_from under new (suc first) n (λ k low below. h k (omega (arith, low)) (omega (arith, below))) in
      rw (h first (omega arith) (omega arith), rest) refl

  from_more : (under : ℕ → Option X) (first n : ℕ) → standing_from under first (suc n) ≡ standing_from under first n ++ cons_option (under (first + n)) []
  from_more under first zero = ap (λ (k : ℕ). cons_option (under k) []) (let e : first ≡ first + 0 = omega arith in e)
  from_more under first (suc n) =
      let e : ◌≡◌ {A = ℕ} (suc first + n) (first + suc n) = omega arith in
      behind (under first) _ _ _ (from_more under (suc first) n ∙ ap (λ (k : ℕ). standing_from under (suc first) n ++ cons_option (under k) []) e)
    where
      behind : (o : Option X) (xs ys zs : List X) → xs ≡ ys ++ zs → cons_option o xs ≡ cons_option o ys ++ zs
      behind None xs ys zs e = e
      behind (Some x) xs ys zs e = ap (λ (l : List X). x ∷ l) e

  -- the same stands under each number
  pub standing_same : (under new : ℕ → Option X) (last : ℕ) → ((n : ℕ) → new n ≡ under n) → standing new last ≡ standing under last
  standing_same under new last h = same_from under new 1 last (λ n low below. h n)

  -- what comes under the next number stands behind the others
  pub standing_more : (under new : ℕ → Option X) (last next : ℕ) (x : X) → next ≡ last + 1 → new next ≡ Some x → ((n : ℕ) → n ≢ next → new n ≡ under n) → standing new next ≡ standing under last ++ x ∷ []
  standing_more under new last next x e there others =
      let longer : next ≡ suc last = omega (arith, e) in
      let place : next ≡ 1 + last = omega (arith, e) in
      let same : standing_from new 1 last ≡ standing_from under 1 last = same_from under new 1 last (λ n low below. others n (λ s. absurd (omega (arith, below, s, e)))) in
      let found : new (1 + last) ≡ Some x = subst (λ (n : ℕ). new n ≡ Some x) place there in
      ap (λ (n : ℕ). standing_from new 1 n) longer ∙ from_more new 1 last ∙ ap (λ (xs : List X). xs ++ cons_option (new (1 + last)) []) same ∙ ap (λ (o : Option X). standing_from under 1 last ++ cons_option o []) found

  -- no more stand than numbers were drawn
  few_from : (under : ℕ → Option X) (first n : ℕ) → length (standing_from under first n) ≤ n
  few_from under first zero = omega arith
  few_from under first (suc n) = by (under first) (few_from under (suc first) n)
    where
      by : (o : Option X) → length (standing_from under (suc first) n) ≤ n → length (cons_option o (standing_from under (suc first) n)) ≤ suc n
      by None le = omega (arith, le)
      by (Some x) le = omega (arith, le)

  pub few : (under : ℕ → Option X) (last : ℕ) → length (standing under last) ≤ last
  few under last = few_from under 1 last

  none_from : (p : X → Bool) (under : ℕ → Option X) (first n : ℕ) → ((k : ℕ) (x : X) → first ≤ k → under k ≡ Some x → p x ≡ false) → find p (standing_from under first n) ≡ None
  none_from p under first zero h = refl
  none_from p under first (suc n) h = by (under first) refl (none_from p under (suc first) n (λ k x low e. h k x (omega (arith, low)) e))
    where
      by : (o : Option X) → under first ≡ o → find p (standing_from under (suc first) n) ≡ None → find p (cons_option o (standing_from under (suc first) n)) ≡ None
      by None e rest = rest
      by (Some x) e rest = rw (h first x (omega arith) e) rest

  -- what passes nowhere isn't found
  pub none_standing : (p : X → Bool) (under : ℕ → Option X) (last : ℕ) → ((k : ℕ) (x : X) → under k ≡ Some x → p x ≡ false) → find p (standing under last) ≡ None
  none_standing p under last h = none_from p under 1 last (λ k x low e. h k x e)

  module _ (p : X → Bool) (k : ℕ) where
    -- the test passes what stands under k, and nothing else
    abbrev pub Picks : (ℕ → Option X) → Type 0
    Picks under = (n : ℕ) (x : X) → under n ≡ Some x → p x ≡ (n == k)

    pub passes_not : (under : ℕ → Option X) → Picks under → (n : ℕ) (x : X) → under n ≡ Some x → n ≢ k → p x ≡ false
    passes_not under picks n x e other = picks n x e ∙ (let f : (n == k) ≡ false = grind (arith, other) in f)

    pub passes : (under : ℕ → Option X) → Picks under → (n : ℕ) (x : X) → under n ≡ Some x → n ≡ k → p x ≡ true
    passes under picks n x e same = picks n x e ∙ (let t : (n == k) ≡ true = grind (arith, same) in t)

    none_past : (under : ℕ → Option X) → Picks under → (first n : ℕ) → k < first → find p (standing_from under first n) ≡ None
    none_past under picks first n lt = none_from p under first n (λ m x low e. passes_not under picks m x e (λ s. absurd (omega (arith, lt, low, s))))

    found_from : (under : ℕ → Option X) → Picks under → (first n : ℕ) → first ≤ k → (first + n ≤ k → under k ≡ None) → find p (standing_from under first n) ≡ under k
    found_from under picks first zero low past = sym (past (omega (arith, low)))
    found_from under picks first (suc n) low past =
        by (under first) refl (first == k) refl (λ other. found_from under picks (suc first) n (omega (arith, low, other)) (λ q. past (omega (arith, q))))
      where
        by : (o : Option X) → under first ≡ o → (b : Bool) → (first == k) ≡ b → (first ≢ k → find p (standing_from under (suc first) n) ≡ under k)
            → find p (cons_option o (standing_from under (suc first) n)) ≡ under k
        by None e true h rest =
            let s : first ≡ k = is_same first k h in
            none_past under picks (suc first) n (omega (arith, s)) ∙ sym (subst (λ (m : ℕ). under m ≡ None) s e)
        by None e false h rest = rest (is_other first k h)
        by (Some x) e true h rest =
            let s : first ≡ k = is_same first k h in
            rw (passes under picks first x e s) (sym (subst (λ (m : ℕ). under m ≡ Some x) s e))
        by (Some x) e false h rest = rw (passes_not under picks first x e (is_other first k h)) (rest (is_other first k h))

    -- what is found is what stands under k, where nothing stands under 0 and behind the last
    pub found_standing : (under : ℕ → Option X) (last : ℕ) → Picks under → under 0 ≡ None → ((n : ℕ) → last < n → under n ≡ None) → find p (standing under last) ≡ under k
    found_standing under last picks zero_free above_free = by k refl
      where
        by : (n : ℕ) → k ≡ n → find p (standing under last) ≡ under k
        by zero e = none_past under picks 1 last (omega (arith, e)) ∙ sym (ap under e ∙ zero_free)
        by (suc n) e = found_from under picks 1 last (omega (arith, e)) (λ q. above_free k (omega (arith, q)))

    without_from : (under new : ℕ → Option X) → Picks under → new k ≡ None → ((n : ℕ) → n ≢ k → new n ≡ under n) → (first n : ℕ) → without_first p (standing_from under first n) ≡ standing_from new first n
    without_from under new picks gone others first zero = refl
    without_from under new picks gone others first (suc n) = by (under first) refl (first == k) refl (without_from under new picks gone others (suc first) n)
      where
        by : (o : Option X) → under first ≡ o → (b : Bool) → (first == k) ≡ b → without_first p (standing_from under (suc first) n) ≡ standing_from new (suc first) n
            → without_first p (cons_option o (standing_from under (suc first) n)) ≡ cons_option (new first) (standing_from new (suc first) n)
        by None e true h rest = rw (subst (λ (m : ℕ). new m ≡ None) (sym (is_same first k h)) gone) rest
        by None e false h rest = rw (others first (is_other first k h) ∙ e) rest
        by (Some x) e true h rest =
            let s : first ≡ k = is_same first k h in
            let same = same_from under new (suc first) n (λ m low below. others m (λ q. absurd (omega (arith, s, low, q)))) in
            rw (passes under picks first x e s, subst (λ (m : ℕ). new m ≡ None) (sym s) gone) (sym same)
        by (Some x) e false h rest =
            rw (passes_not under picks first x e (is_other first k h), others first (is_other first k h) ∙ e) (ap (λ (l : List X). x ∷ l) rest)

    -- without what stands under k
    pub without_standing : (under new : ℕ → Option X) (last : ℕ) → Picks under → new k ≡ None → ((n : ℕ) → n ≢ k → new n ≡ under n) → without_first p (standing under last) ≡ standing new last
    without_standing under new last picks gone others = without_from under new picks gone others 1 last
