-- A newline that a search for a byte found, or didn't.
use Rattle.std.proofs.Common.{◌≡◌, ℕ, ◌<◌, Bool, true, false, List, length, take, get_or, arith, refl, subst, eqb, IfNone, IfSome, Option, Some, None}
use Rattle.std.proofs.lemmas.Bool.{eqb-true}
use Rattle.std.proofs.lemmas.List.{take_all}
use Rattle.memchr.specs.Find.{IsFirstByte, is_byte}
use Rattle.board_model.specs.Lines.{IsOneLine}
use Rattle.script_parse.proofs.TokenLemmas as tokens

is_false : (b : Bool) → (b ≡ true → ⊥) → b ≡ false
is_false true h = absurd (h refl)
is_false false h = refl

pub nowhere : (bytes : List ℕ) (o : Option ℕ) → IsFirstByte (is_byte 10) bytes o → IfNone o (IsOneLine bytes)
nowhere bytes (Some at) h = tt
nowhere bytes None h =
    subst IsOneLine (take_all (length bytes) bytes (omega arith)) (tokens.front_lacks 10 bytes (length bytes) (λ k lt. is_false (eqb (get_or bytes k 0) 10) (h k (omega arith) lt)) (omega arith))

pub inside : (bytes : List ℕ) (o : Option ℕ) → IsFirstByte (is_byte 10) bytes o → IfSome o (λ at. at < length bytes)
inside bytes None h = tt
inside bytes (Some at) h = h.0.high

pub found : (bytes : List ℕ) (o : Option ℕ) → IsFirstByte (is_byte 10) bytes o → IfSome o (λ at. get_or bytes at 0 ≡ 10)
found bytes None h = tt
found bytes (Some at) h = eqb-true (get_or bytes at 0) 10 h.1

pub first : (bytes : List ℕ) (o : Option ℕ) → IsFirstByte (is_byte 10) bytes o → IfSome o (λ at. IsOneLine (take at bytes))
first bytes None h = tt
first bytes (Some at) h =
    tokens.front_lacks 10 bytes at (λ k lt. is_false (eqb (get_or bytes k 0) 10) (h.0.before k (omega arith) lt)) (omega (arith, h.0.high))
