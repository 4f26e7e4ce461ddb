-- Statuses of runs, and the words of a command line.
use Rattle.std.proofs.Common.{◌≡◌, ℕ, ◌≤◌, List, [], ◌∷◌, length, map, arith, refl, ap, ◌∙◌, inl, inr}
use Rattle.std.specs.Prelude.{◌≢◌, ◌⊎◌, IfErr, IsOk, Result, Ok, Err}
use Rattle.script_loop.specs.declared.error.ScriptError.{ScriptError}
use Rattle.script_loop.specs.declared.error.ScriptError.TheVariants as error
use Rattle.script_endings.specs.Endings.{status_of}

-- no texts are those of no words
pub no_words : {A : Type 0} (f : A → List ℕ) (ws : List A) → map f ws ≡ [] → length ws ≡ 0
no_words f [] e = refl
no_words f (w ∷ ws) e = absurd cc

-- without a fault and outside no grammar the status is 0 or 7
pub run_through : (answer : Result (Unit {0}) ScriptError) (status : ℕ) → status ≡ status_of answer → IfErr answer (λ e. e ≡ error.OutOfMemory) → (status ≡ 0) ⊎ (status ≡ 7)
run_through (Ok x) status is h = inl is
run_through (Err e) status is h = inr (is ∙ ap (λ (w : ScriptError). status_of (Err w)) h)

-- status 0 is that of no error
pub went_well : (answer : Result (Unit {0}) ScriptError) (status : ℕ) → status ≡ status_of answer → status ≡ 0 → IsOk answer
went_well (Ok x) status is none = refl
went_well (Err error.ReadFault) status is none = absurd (omega (arith, is, none))
went_well (Err error.WriteFault) status is none = absurd (omega (arith, is, none))
went_well (Err (error.BadLine line)) status is none = absurd (omega (arith, is, none))
went_well (Err error.TooLong) status is none = absurd (omega (arith, is, none))
went_well (Err error.OutOfMemory) status is none = absurd (omega (arith, is, none))

-- each error has a status above 2
pub bad_status : (e : ScriptError) (n : ℕ) → n ≤ 2 → status_of (Err e) ≡ n → ⊥
bad_status error.ReadFault n few e = omega (arith, few, e)
bad_status error.WriteFault n few e = omega (arith, few, e)
bad_status (error.BadLine line) n few e = omega (arith, few, e)
bad_status error.TooLong n few e = omega (arith, few, e)
bad_status error.OutOfMemory n few e = omega (arith, few, e)

-- the status is 3 after a read fault alone
pub not_three : (answer : Result (Unit {0}) ScriptError) (status : ℕ) → status ≡ status_of answer → answer ≢ Err error.ReadFault → status ≢ 3
not_three (Ok x) status is sure same = omega (arith, is, same)
not_three (Err error.ReadFault) status is sure same = sure refl
not_three (Err error.WriteFault) status is sure same = omega (arith, is, same)
not_three (Err (error.BadLine line)) status is sure same = omega (arith, is, same)
not_three (Err error.TooLong) status is sure same = omega (arith, is, same)
not_three (Err error.OutOfMemory) status is sure same = omega (arith, is, same)

-- and 4 after a write fault alone
pub not_four : (answer : Result (Unit {0}) ScriptError) (status : ℕ) → status ≡ status_of answer → answer ≢ Err error.WriteFault → status ≢ 4
not_four (Ok x) status is sure same = omega (arith, is, same)
not_four (Err error.ReadFault) status is sure same = omega (arith, is, same)
not_four (Err error.WriteFault) status is sure same = sure refl
not_four (Err (error.BadLine line)) status is sure same = omega (arith, is, same)
not_four (Err error.TooLong) status is sure same = omega (arith, is, same)
not_four (Err error.OutOfMemory) status is sure same = omega (arith, is, same)
