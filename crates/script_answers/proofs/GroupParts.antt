-- The groups of an access, as they are cut from a text.
use Rattle.std.proofs.Common.{◌≡◌, ℕ, Bool, true, false, List, [], ◌∷◌, take, drop, refl, sym, ap, ◌∙◌}
use Rattle.std.specs.Prelude.{codes, if◌then◌else◌}
use Rattle.script_grammar.specs.LineReading as line
use Rattle.script_rules.specs.AnswerGroups.{access_groups, begins_with, before_reply, from_reply, owed_tokens}
use Rattle.script_answers.specs.TokenGroups.{AreGroups}

-- what a test chooses
where_true : (b : Bool) (x y z : List (List ℕ)) → b ≡ true → z ≡ x → z ≡ (if b then x else y)
where_true true x y z e f = f
where_true false x y z e f = absurd cc

where_false : (b : Bool) (x y z : List (List ℕ)) → b ≡ false → z ≡ y → z ≡ (if b then x else y)
where_false true x y z e f = absurd cc
where_false false x y z e f = f

-- the first token is the word, said in either order
same_begin : (word : List ℕ) (ts : List (List ℕ)) → line.begins_with word ts ≡ begins_with ts word
same_begin word [] = refl
same_begin word (t ∷ ts) = refl

module _ (ts access reply owed found none : List (List ℕ)) (n : ℕ) (is : access ≡ before_reply ts) (told : reply ≡ from_reply ts) (count : n ≡ owed_tokens access) (first : owed ≡ take n access) (behind : found ≡ drop n access) (nothing : none ≡ []) where
  owed_is : owed ≡ take (owed_tokens (before_reply ts)) (before_reply ts)
  owed_is = first ∙ ap (λ (k : ℕ). take k access) count ∙ ap (λ (x : List (List ℕ)). take (owed_tokens x) x) is

  found_is : found ≡ drop (owed_tokens (before_reply ts)) (before_reply ts)
  found_is = behind ∙ ap (λ (k : ℕ). drop k access) count ∙ ap (λ (x : List (List ℕ)). drop (owed_tokens x) x) is

  pub reads_word : line.begins_with (codes "read") access ≡ true → AreGroups (record { owed = owed; word = found; event = none; reply = reply }) (access_groups (before_reply ts) (from_reply ts))
  reads_word e =
      let b : begins_with (before_reply ts) (codes "read") ≡ true = sym (ap (λ (x : List (List ℕ)). begins_with x (codes "read")) is) ∙ sym (same_begin (codes "read") access) ∙ e in
      record { owed = owed_is; word = where_true _ _ _ found b found_is; event = where_true _ _ _ none b nothing; reply = told }

  pub finds_other : line.begins_with (codes "read") access ≡ false → AreGroups (record { owed = owed; word = none; event = found; reply = reply }) (access_groups (before_reply ts) (from_reply ts))
  finds_other e =
      let b : begins_with (before_reply ts) (codes "read") ≡ false = sym (ap (λ (x : List (List ℕ)). begins_with x (codes "read")) is) ∙ sym (same_begin (codes "read") access) ∙ e in
      record { owed = owed_is; word = where_false _ _ _ none b nothing; event = where_false _ _ _ found b found_is; reply = told }
