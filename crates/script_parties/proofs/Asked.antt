-- What a call is told, from what the core answers.
use Rattle.std.proofs.Common.{arith, ◌≡◌, ◌≢◌, ℕ, ◌+◌, ◌≤◌, Bool, false, cond, List, [], ◌∷◌, ◌++◌, refl, sym, ap, ◌∙◌, subst, Option, Some, None, inl, inr}
use Rattle.std.specs.Prelude.{Result, Ok, Err}
use Rattle.board_layout.specs.Answer.{Answers}
use Rattle.board_model.specs.declared.answer.Reply.{Reply}
use Rattle.board_model.specs.declared.answer.Reply.TheVariants as reply
use Rattle.board_model.specs.Tables.{Tables}
use Rattle.board_model.specs.TableCalls.{answer_of, asked, first_of}
use Rattle.script_parties.specs.Parties.{IsAsked, Parties}
use Rattle.script_parties.proofs.Places.{chosen}

-- the two answers, of types that are known
abbrev pub ok_of : {M E : Type 0} → M → Result M E
ok_of m = Ok m

abbrev pub err_of : {M E : Type 0} → E → Result M E
err_of e = Err e

-- ---- what the core answers

-- no refusal came, and this was made
pub record IsMade {M E : Type 0} (rs : List (Bool × E)) (m made : M) : Type 0 where
  pub none : first_of rs ≡ None
  pub same : m ≡ made

first_none : {E : Type 0} (rs : List (Bool × E)) (last : Bool × E) → first_of (rs ++ last ∷ []) ≡ None → first_of rs ≡ None
first_none [] last e = refl
first_none (r ∷ rs) last e =
    elim (chosen r.0 (Some r.1) (first_of (rs ++ last ∷ [])) None e) [
      | inl h ↦ absurd (let s : Some r.1 ≡ None = h.1 in cc)
      | inr h ↦ rw h.0 (first_none rs last h.1)
    ]

made_by : {M E : Type 0} (o : Option E) (memory : E) (m made : M) → Answers (ok_of m) memory (answer_of o made) → (o ≡ None) × (m ≡ made)
made_by {M} {E} None memory m made a = (refl, let q : ok_of {M = M} {E = E} m ≡ ok_of made = a (λ e. cc) in cc)
made_by {M} {E} (Some e) memory m made a = absurd (let q : ok_of {M = M} {E = E} m ≡ err_of e = a (λ e. cc) in cc)

pub answered_made : {M E : Type 0} (rs : List (Bool × E)) (last : Bool × E) (memory : E) (m made : M) → Answers (ok_of m) memory (answer_of (first_of (rs ++ last ∷ [])) made) → IsMade rs m made
answered_made rs last memory m made a =
    let by = made_by (first_of (rs ++ last ∷ [])) memory m made a in
    record { none = first_none rs last by.0; same = by.1 }

pub unspent : {E : Type 0} (rs : List (Bool × E)) (last : Bool × E) → last.0 ≡ false → first_of (rs ++ last ∷ []) ≡ first_of rs
unspent {E} [] last h = ap (λ c. let none : Option E = None in cond c (Some last.1) none) h
unspent (r ∷ rs) last h = ap (λ o. cond r.0 (Some r.1) o) (unspent rs last h)

refused_by : {M E : Type 0} (o : Option E) (memory e : E) (made : M) → e ≢ memory → Answers (err_of e) memory (answer_of o made) → o ≡ Some e
refused_by {M} {E} None memory e made h a = absurd (let q : err_of {M = M} {E = E} e ≡ ok_of made = a (λ f. h cc) in cc)
refused_by {M} {E} (Some f) memory e made h a = let q : err_of {M = M} {E = E} e ≡ err_of f = a (λ f. h cc) in cc

-- a refusal came, other than that no number is left
pub answered_refused : {M E : Type 0} (rs : List (Bool × E)) (last : Bool × E) (memory e : E) (made : M) → last.0 ≡ false → e ≢ memory
    → Answers (err_of e) memory (answer_of (first_of (rs ++ last ∷ [])) made) → first_of rs ≡ Some e
answered_refused rs last memory e made b h a = sym (unspent rs last b) ∙ refused_by (first_of (rs ++ last ∷ [])) memory e made h a

-- ---- what is told

pub told_made : {E : Type 0} (old new : Parties) (error : E → Reply) (o : Option E) (n : ℕ) (after : Tables (List ℕ) (List ℕ)) → o ≡ None → new.tables ≡ after → new.words ≡ old.words → new.drawn ≤ old.drawn + 1
    → IsAsked old new error (asked o n after old.tables) (reply.Number n)
told_made {E} old new error o n after e t w d =
    subst (λ (p : Option E). IsAsked old new error (asked p n after old.tables) (reply.Number n)) (sym e) (record { told_is = refl; tables = t; words = w; drawn = d })

pub told_refused : {E : Type 0} (old : Parties) (error : E → Reply) (o : Option E) (n : ℕ) (after : Tables (List ℕ) (List ℕ)) (why : E) → o ≡ Some why
    → IsAsked old old error (asked o n after old.tables) (error why)
told_refused {E} old error o n after why e =
    subst (λ (p : Option E). IsAsked old old error (asked p n after old.tables) (error why)) (sym e) (record { told_is = refl; tables = refl; words = refl; drawn = omega arith })

-- what holds of a value and a list holds of those that are equal to them
pub carried : {A B : Type 0} (P : A → B → Type 0) (x y : A) (xs ys : B) → x ≡ y → ys ≡ xs → P x xs → P y ys
carried P x y xs ys e f h = subst (λ a. P a ys) e (subst (λ b. P x b) (sym f) h)
