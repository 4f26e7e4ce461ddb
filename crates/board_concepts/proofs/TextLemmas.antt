-- Printable texts are ASCII.
use Rattle.std.proofs.Common.{◌≡◌, ℕ, ◌<◌, ◌≤◌, List, length, get_or, Bool, true, false, refl, ⊎_elim, arith, leb}
use Rattle.std.specs.Prelude.{IsTrue, ◌&&◌, IsUtf8}
use Rattle.std.specs.List.{list_all}
use Rattle.std.specs.Str.{IsAscii}
use Rattle.std.proofs.lemmas.Bool.{cases_lt, lt-leb, both_ways}
use Rattle.std.proofs.lemmas.List.{get_or_past}
use Rattle.std.proofs.lemmas.List.Folds.{list_all_at}
use Rattle.std.proofs.lemmas.Str.{IsUtf8-from_ascii}
use Rattle.board_layout.specs.Types.{is_printable}
use Rattle.board_names.specs.Names.{IsServiceName}

and_false : (x : Bool) → (x && false) ≡ false
and_false true = refl
and_false false = refl

unprinted : (b : ℕ) → 128 ≤ b → is_printable b ≡ false
unprinted b h = let e : leb b 126 ≡ false = lt-leb b 126 (omega (arith, h)) in rw e (and_false (leb 32 b))

pub IsAscii-printed : (bytes : List ℕ) → IsTrue (list_all is_printable bytes) → IsAscii bytes
IsAscii-printed bytes h i = ⊎_elim
    (λ (lt : i < length bytes). ⊎_elim
    (λ (low : get_or bytes i 0 < 128). low)
    (λ (high : 128 ≤ get_or bytes i 0). absurd (both_ways (list_all is_printable bytes) (list_all_at is_printable bytes i 0 lt (unprinted (get_or bytes i 0) high)) h))
    (cases_lt (get_or bytes i 0) 128))
    (λ (ge : length bytes ≤ i). let e : get_or bytes i 0 ≡ 0 = get_or_past bytes i 0 ge in omega (arith, e))
    (cases_lt i (length bytes))

-- the bytes of a service's name are a text
pub IsUtf8-service_name : (bytes : List ℕ) → IsServiceName bytes → IsUtf8 bytes
IsUtf8-service_name bytes h = IsUtf8-from_ascii bytes (IsAscii-printed bytes h.bytes)
