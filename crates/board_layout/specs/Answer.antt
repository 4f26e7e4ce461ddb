-- What a call that may want memory answers.
use Rattle.std.specs.Prelude.{◌≡◌, ◌≢◌, Result, Ok, Err}

-- the expected answer, or want of memory
abbrev pub Answers : {T E : Type 0} → Result T E → E → Result T E → Type 0
Answers result out_of_memory answer = result ≢ Err out_of_memory → result ≡ answer

-- where a refusal is expected it comes, and no want of memory in its place
abbrev pub Refuses : {T E : Type 0} → Result T E → Result T E → Type 0
Refuses {T} {E} result answer = (e : E) → answer ≡ Err e → result ≡ Err e

-- the answer with another value, and its refusals as they are
abbrev pub with_value : {T U E : Type 0} → (T → U) → Result T E → Result U E
with_value f (Ok value) = Ok (f value)
with_value f (Err e) = Err e
