-- The names of boards are names of services.
use Rattle.std.proofs.Common.{◌≡◌, ℕ, ◌<◌, ◌≤◌, true, List, [], ◌∷◌, length, refl, arith}
use Rattle.std.specs.Prelude.{◌&&◌, ◌==◌, not, nat_le}
use Rattle.std.specs.List.{list_all}
use Rattle.std.proofs.lemmas.Bool.{and_from, and_parts, le-leb, leb-true}
use Rattle.board_model.specs.LineGrammar.{is_board_name, is_visible_byte}
use Rattle.board_layout.specs.Types.{is_printable}
use Rattle.board_names.specs.Names.{IsServiceName}

printable : (b : ℕ) → is_visible_byte b ≡ true → is_printable b ≡ true
printable b h =
    let p = and_parts (nat_le 33 b) (nat_le b 126) h in
    let low : 33 ≤ b = leb-true 33 b p.0 in
    and_from (nat_le 32 b) (nat_le b 126) (le-leb 32 b (omega arith)) p.1

all_printable : (text : List ℕ) → list_all is_visible_byte text ≡ true → list_all is_printable text ≡ true
all_printable [] h = refl
all_printable (b ∷ text) h =
    let p = and_parts (is_visible_byte b) (list_all is_visible_byte text) h in
    and_from (is_printable b) (list_all is_printable text) (printable b p.0) (all_printable text p.1)

some_byte : (text : List ℕ) → not (length text == 0) ≡ true → 0 < length text
some_byte [] h = absurd cc
some_byte (b ∷ text) h = omega arith

pub service_name : (text : List ℕ) → is_board_name text ≡ true → IsServiceName text
service_name text h =
    let p = and_parts (not (length text == 0) && nat_le (length text) 255) (list_all is_visible_byte text) h in
    let q = and_parts (not (length text == 0)) (nat_le (length text) 255) p.0 in
    record { fits = leb-true (length text) 255 q.1; some = some_byte text q.0; bytes = all_printable text p.1 }
