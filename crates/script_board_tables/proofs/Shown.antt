-- Keys are told as the entries keep them.
use Rattle.std.proofs.Common.{◌≡◌, ℕ, zero, suc, ◌≤◌, Bool, true, false, cond, List, [], ◌∷◌, length, map, take, arith, refl, sym, ap, subst, ◌∙◌, Some}
use Rattle.std.specs.Prelude.{◌==◌, ◌&&◌, find, nat_le, not}
use Rattle.std.specs.List.{AllByRecursion, list_all}
use Rattle.std.proofs.lemmas.Bool.{and_parts, leb-true}
use Rattle.board_model.specs.declared.tables.Board.{Board}
use Rattle.board_model.specs.declared.tables.Entry.{Entry}
use Rattle.board_model.specs.declared.value.Key.{Key}
use Rattle.board_model.specs.declared.value.Key.TheVariants as key
use Rattle.board_model.specs.declared.value.KeyType.{KeyType}
use Rattle.board_model.specs.LineGrammar.{IsKey, is_visible, is_visible_byte}
use Rattle.board_model.specs.LawsOfForms.{IsFormedBoard, IsFormedEntry}
use Rattle.board_model.specs.Replies.{keys_in, keys_of}
use Rattle.board_model.specs.Tables.{is_numbered}
use Rattle.board_model.specs.TypeTable.{key_bytes, key_of, key_shown, key_type_of, type_of_key, up_to_zero}
use Rattle.board_model.proofs.KeptKeyLemmas.{told_as_added}
use Rattle.board_model.proofs.ThingLemmas.{all_found}

none_left : (xs : List ℕ) → length xs ≤ 0 → [] ≡ xs
none_left [] h = refl
none_left (x ∷ xs) h = absurd (omega (arith, h))

-- where the first zero comes early, the front tells all
cut : (k : ℕ) (xs : List ℕ) → length (up_to_zero xs) ≤ k → up_to_zero (take k xs) ≡ up_to_zero xs
cut zero xs h = none_left (up_to_zero xs) h
cut (suc k) [] h = refl
cut (suc k) (b ∷ xs) h = at (b == 0) (cut k xs) h
  where
    at : (z : Bool) → (length (up_to_zero xs) ≤ k → up_to_zero (take k xs) ≡ up_to_zero xs) → length (cond z [] (b ∷ up_to_zero xs)) ≤ suc k → cond z [] (b ∷ up_to_zero (take k xs)) ≡ cond z [] (b ∷ up_to_zero xs)
    at true ih l = refl
    at false ih l = ap (λ (t : List ℕ). b ∷ t) (ih (omega (arith, l)))

short_text : (text : List ℕ) → is_visible 8 text ≡ true → length text ≤ 8
short_text text h =
    let p = and_parts (not (length text == 0) && nat_le (length text) 8) (list_all is_visible_byte text) h in
    leb-true (length text) 8 (and_parts (not (length text == 0)) (nat_le (length text) 8) p.0).1

same_text : (x y : List ℕ) → key.F8 x ≡ key.F8 y → x ≡ y
same_text x y e = cc

added_shown : (a : Key) → IsKey a → key_of (type_of_key a) (take 8 (key_bytes a)) ≡ key_of (type_of_key a) (key_bytes a)
added_shown (key.U64 n) h = refl
added_shown (key.F8 text) h =
    let e = same_text (up_to_zero (key_bytes (key.F8 text))) text (told_as_added (key.F8 text) h) in
    ap (λ (t : List ℕ). key.F8 t) (cut 8 (key_bytes (key.F8 text)) (subst (λ (t : List ℕ). length t ≤ 8) (sym e) (short_text text h)))

entry_shown : (k : KeyType) (e : Entry) → IsFormedEntry k e → key_shown k e ≡ key_of k e.key.bytes
entry_shown k e h =
    ap (λ (bytes : List ℕ). key_of k (take 8 bytes)) h.bytes
    ∙ subst (λ (t : KeyType). key_of t (take 8 (key_bytes h.added)) ≡ key_of t (key_bytes h.added)) h.type (added_shown h.added h.key)
    ∙ ap (λ (bytes : List ℕ). key_of k bytes) (sym h.bytes)

pub entries_shown : (k : KeyType) (es : List Entry) → AllByRecursion (IsFormedEntry k) es → map (key_shown k) es ≡ keys_of k es
entries_shown k [] h = refl
entries_shown k (e ∷ es) h =
    ap (λ (x : Key). x ∷ map (key_shown k) es) (entry_shown k e h.0)
    ∙ ap (λ (xs : List Key). key_of k e.key.bytes ∷ xs) (entries_shown k es h.1)

-- those of a board
pub board_shown : (n : ℕ) (boards : List Board) (b : Board) → AllByRecursion IsFormedBoard boards → find (is_numbered n) boards ≡ Some b → map (key_shown (key_type_of b.key)) b.entries ≡ keys_in (find (is_numbered n) boards)
board_shown n boards b h e =
    let f = all_found IsFormedBoard (is_numbered n) boards b h e in
    entries_shown (key_type_of b.key) b.entries f.keys ∙ ap keys_in (sym e)
