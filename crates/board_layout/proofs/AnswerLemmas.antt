-- When a call refuses as expected.
use Rattle.std.specs.Prelude.{◌≡◌, Result, Ok, Err}
use Rattle.std.proofs.Common.{◌∙◌, refl}
use Rattle.board_layout.specs.Answer.{Answers, Refuses, with_value}

-- the answer is the expected one
pub Refuses-same : {T E : Type 0} (result answer : Result T E) → result ≡ answer → Refuses result answer
Refuses-same result answer same = λ e refused. same ∙ refused

-- no refusal is expected
pub Refuses-value : {T E : Type 0} (result answer : Result T E) (value : T) → answer ≡ Ok value → Refuses result answer
Refuses-value result answer value ok = λ e refused. cc (ok, refused)

-- the refusal of a call that was made is handed on
pub Refuses-passed : {T U E : Type 0} (f : T → U) (made answer : Result T E) (result : Result U E) (e : E) →
    Refuses made answer → made ≡ Err e → result ≡ Err e → Refuses result (with_value f answer)
Refuses-passed f made (Ok value) result e refuses is passed = λ d refused. cc refused
Refuses-passed f made (Err x) result e refuses is passed = λ d refused. let met = refuses x refl in cc (met, is, passed, refused)

-- the call that was made had its value, so no refusal is expected
pub Refuses-kept : {T U E : Type 0} (f : T → U) (made answer : Result T E) (result : Result U E) (value : T) (out_of_memory : E) →
    Answers made out_of_memory answer → made ≡ Ok value → Refuses result (with_value f answer)
Refuses-kept f made (Ok value) result v m answers is = λ d refused. cc refused
Refuses-kept f made (Err x) result v m answers is = λ d refused. let same : made ≡ Err x = answers (λ e. cc (e, is)) in cc (same, is)
