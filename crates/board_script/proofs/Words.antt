-- The words of the command line.
use Rattle.std.proofs.Common.{◌≡◌, ℕ, ◌<◌, ◌≤◌, Bool, true, false, List, [], ◌∷◌, length, map, get_or, arith, refl, sym, ap, subst, ◌∙◌, Option, Some, None, inl, inr}
use Rattle.std.specs.Prelude.{codes, decimal, ◌≢◌, ◌⊎◌, not, IfNone, OnOk, Result, Ok, Err}
use Rattle.std.specs.Str.{bytes_eq}
use Rattle.std.proofs.lemmas.Slice.Eq.{bytes_eq-Decides}
use Rattle.script_grammar.specs.TokenReading.{read_number}
use Rattle.script_grammar.proofs.NumeralLemmas.{number_again, number_takes}
use Rattle.script_loop.specs.declared.error.ScriptError.{ScriptError}
use Rattle.script_loop.specs.declared.error.ScriptError.TheVariants as error
use Rattle.script_loop.specs.Runs.{Stream}
use Rattle.script_generator.specs.Summary.{IsGenerated, IsSummed}
use Rattle.board_script.specs.Top.{AreGenWords, IsNoted, IsSummedUp, note_of, status_of}

pub same_text : (a b : List ℕ) → false ≡ not (bytes_eq a b) → a ≡ b
same_text a b e = at (bytes_eq a b) refl e
  where
    at : (t : Bool) → bytes_eq a b ≡ t → false ≡ not t → a ≡ b
    at true f e = (bytes_eq-Decides a b).0 f
    at false f e = absurd cc

-- the texts of two words
pub two : {A : Type 0} (f : A → List ℕ) (ws : List A) (x y : A) → length ws ≡ 2 → x ≡ get_or ws 0 x → y ≡ get_or ws 1 y → map f ws ≡ f x ∷ f y ∷ []
two f [] x y l e g = absurd cc
two f (a ∷ []) x y l e g = absurd (omega arith)
two f (a ∷ b ∷ []) x y l e g = rw (e, g) refl
two f (a ∷ b ∷ c ∷ more) x y l e g = absurd (omega arith)

-- the second word is the number's spelling
pub spelled : (a b : List ℕ) (n : ℕ) → AreGenWords (a ∷ b ∷ []) n → read_number b ≡ Some n
spelled a b n h =
    let e : b ≡ decimal n = let f = h.words_are in cc f in
    ap (λ (x : List ℕ). read_number x) e ∙ number_again n (omega (arith, h.most))

pub is_gen : (a b : List ℕ) (n : ℕ) → a ≡ codes "gen" → read_number b ≡ Some n → 1 ≤ n → n ≤ 1000000 → AreGenWords (a ∷ b ∷ []) n
is_gen a b n e f least most = record {
  words_are = let g = (number_takes b n f).0 in cc (e, g);
  least = least;
  most = most;
}

-- the words have one number
pub one_number : (words : List (List ℕ)) (n m : ℕ) → AreGenWords words n → AreGenWords words m → n ≡ m
one_number words n m h k =
    let a = h.words_are in
    let b = k.words_are in
    let e : decimal n ≡ decimal m = cc (a, b) in
    let f : Some n ≡ Some m = sym (number_again n (omega (arith, h.most))) ∙ ap (λ (x : List ℕ). read_number x) e ∙ number_again m (omega (arith, k.most)) in
    cc f

-- a number that isn't read is none
pub unread : (words : List (List ℕ)) (a b : List ℕ) → words ≡ a ∷ b ∷ [] → read_number b ≡ None → (n : ℕ) → AreGenWords words n → ⊥
unread words a b e r n h =
    let f : Some n ≡ None = sym (spelled a b n (subst (λ (ws : List (List ℕ)). AreGenWords ws n) e h)) ∙ r in
    absurd cc

pub unread_none : (o : Option ℕ) (words : List (List ℕ)) (a b : List ℕ) → words ≡ a ∷ b ∷ [] → read_number b ≡ None → IfNone o ((n : ℕ) → AreGenWords words n → ⊥)
unread_none None words a b e r = unread words a b e r
unread_none (Some x) words a b e r = tt

-- a number that is read is the words' own
pub read_is : (words : List (List ℕ)) (a b : List ℕ) (k : ℕ) → words ≡ a ∷ b ∷ [] → read_number b ≡ Some k → (n : ℕ) → AreGenWords words n → k ≡ n
read_is words a b k e r n h =
    let f : Some k ≡ Some n = sym r ∙ spelled a b n (subst (λ (ws : List (List ℕ)). AreGenWords ws n) e h) in
    cc f

-- and so a number outside the range is none
pub no_other : (words : List (List ℕ)) (a b : List ℕ) (k : ℕ) → words ≡ a ∷ b ∷ [] → read_number b ≡ Some k → (k < 1) ⊎ ((1 ≤ k) × (1000000 < k)) → (n : ℕ) → AreGenWords words n → ⊥
no_other words a b k e r (inl l) n h = let i = read_is words a b k e r n h in absurd (omega (arith, i, l, h.least))
no_other words a b k e r (inr l) n h = let i = read_is words a b k e r n h in absurd (omega (arith, i, l.1, h.most))

-- ---- runs

pub summed_up : (answer : Result (Unit {0}) ScriptError) (k n status : ℕ) (takes : ℕ → Type 0) (sink notes : Stream) → k ≡ n → IsGenerated k takes sink answer → status ≡ status_of answer → IsNoted notes (note_of answer) → IsSummedUp status n takes sink notes
summed_up answer k n status takes sink notes same run is note = record { answer = answer; run = subst (λ (j : ℕ). IsGenerated j takes sink answer) same run; is = is; note = note }

summed_at : (answer : Result (Unit {0}) ScriptError) (n status : ℕ) (sink : Stream) → OnOk answer (IsSummed n sink) → status ≡ status_of answer → status ≡ 0 → IsSummed n sink
summed_at (Ok x) n status sink ok is zero = ok
summed_at (Err error.ReadFault) n status sink ok is zero = absurd cc
summed_at (Err error.WriteFault) n status sink ok is zero = absurd cc
summed_at (Err (error.BadLine k)) n status sink ok is zero = absurd cc
summed_at (Err error.TooLong) n status sink ok is zero = absurd cc
summed_at (Err error.OutOfMemory) n status sink ok is zero = absurd cc

pub summed : (answer : Result (Unit {0}) ScriptError) (k n status : ℕ) (takes : ℕ → Type 0) (sink : Stream) → k ≡ n → IsGenerated k takes sink answer → status ≡ status_of answer → status ≡ 0 → IsSummed n sink
summed answer k n status takes sink same run is zero = subst (λ (j : ℕ). IsSummed j sink) same (summed_at answer k status sink run.ok is zero)

-- a generated script is read from nowhere
pub no_read_fault : (answer : Result (Unit {0}) ScriptError) (n : ℕ) (takes : ℕ → Type 0) (sink : Stream) → IsGenerated n takes sink answer → answer ≢ Err error.ReadFault
no_read_fault (Ok x) n takes sink run same = absurd cc
no_read_fault (Err error.ReadFault) n takes sink run same = run.err
no_read_fault (Err error.WriteFault) n takes sink run same = absurd cc
no_read_fault (Err (error.BadLine k)) n takes sink run same = absurd cc
no_read_fault (Err error.TooLong) n takes sink run same = absurd cc
no_read_fault (Err error.OutOfMemory) n takes sink run same = absurd cc
