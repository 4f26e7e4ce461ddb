-- Keys, values, types and names are read back from their tokens.
use Rattle.std.proofs.Common.{◌≡◌, ℕ, Bool, true, false, List, [], ◌∷◌, ◌++◌, Option, Some, None, refl, sym, ap, subst, ◌∙◌, eqb}
use Rattle.std.specs.Prelude.{codes, decimal}
use Rattle.std.specs.List.{slice_split, join_with_byte}
use Rattle.std.proofs.lemmas.Bool.{eqb-true}
use Rattle.std.proofs.lemmas.List.Splits.{join_with_byte-slice_split}
use Rattle.board_model.specs.declared.value.KeyType.{KeyType}
use Rattle.board_model.specs.declared.value.KeyType.TheVariants as key_type
use Rattle.board_model.specs.declared.value.ValueType.{ValueType}
use Rattle.board_model.specs.declared.value.ValueType.TheVariants as type
use Rattle.board_model.specs.declared.value.Key.{Key}
use Rattle.board_model.specs.declared.value.Key.TheVariants as key
use Rattle.board_model.specs.declared.value.Value.{Value}
use Rattle.board_model.specs.declared.value.Value.TheVariants as value
use Rattle.board_model.specs.LineGrammar.{is_name, is_visible, is_board_name, is_attribute_key, is_attribute_value, key_type_text, value_type_text, key_text, value_text, IsKey, IsValue, IsNumber}
use Rattle.script_grammar.specs.TokenReading.{first_by, guard, read_attribute_key, read_attribute_value, is_end, behind, read_number, read_name, read_board_name, read_key_type, key_type_words, read_value_type, value_type_words, read_key_behind, read_key, read_four, read_words_behind, read_value}
use Rattle.script_grammar.proofs.ReaderLemmas.{some_is, bind_some, guard_some, by_word, beside_takes, first_takes, end_takes, token_before}
use Rattle.script_grammar.proofs.NumeralLemmas.{number_again, number_takes}
use Rattle.script_grammar.proofs.SplitLemmas.{split_four}

-- ---- what follows a prefix

pub behind_is : (prefix text rest : List ℕ) → behind prefix text ≡ Some rest → text ≡ prefix ++ rest
behind_is [] text rest e = some_is text rest e
behind_is (p ∷ prefix) [] rest e = absurd cc
behind_is (p ∷ prefix) (b ∷ text) rest e =
    let g = guard_some (eqb b p) (behind prefix text) rest e in
    rw (eqb-true b p g.0, behind_is prefix text rest g.1) refl

-- ---- names

-- a text that passed its test
pub record IsTakenName (is : List ℕ → Bool) (t n : List ℕ) : Type 0 where
  pub token : t ≡ n
  pub named : is n ≡ true

pub named_takes : (is : List ℕ → Bool) (t n : List ℕ) → guard (is t) (Some t) ≡ Some n → IsTakenName is t n
named_takes is t n e =
    let g = guard_some (is t) (Some t) n e in
    let s : t ≡ n = some_is t n g.1 in
    record { token = s; named = subst (λ (x : List ℕ). is x ≡ true) s g.0 }

pub name_again : (n : List ℕ) → is_name n ≡ true → read_name n ≡ Some n
unfolding read_name
name_again n h = rw h refl

pub name_takes : (t n : List ℕ) → read_name t ≡ Some n → IsTakenName is_name t n
unfolding read_name
name_takes t n e = named_takes is_name t n e

pub board_name_again : (n : List ℕ) → is_board_name n ≡ true → read_board_name n ≡ Some n
unfolding read_board_name
board_name_again n h = rw h refl

pub board_name_takes : (t n : List ℕ) → read_board_name t ≡ Some n → IsTakenName is_board_name t n
unfolding read_board_name
board_name_takes t n e = named_takes is_board_name t n e

pub attribute_key_again : (n : List ℕ) → is_attribute_key n ≡ true → read_attribute_key n ≡ Some n
unfolding read_attribute_key
attribute_key_again n h = rw h refl

pub attribute_key_takes : (t n : List ℕ) → read_attribute_key t ≡ Some n → IsTakenName is_attribute_key t n
unfolding read_attribute_key
attribute_key_takes t n e = named_takes is_attribute_key t n e

pub attribute_value_again : (n : List ℕ) → is_attribute_value n ≡ true → read_attribute_value n ≡ Some n
unfolding read_attribute_value
attribute_value_again n h = rw h refl

pub attribute_value_takes : (t n : List ℕ) → read_attribute_value t ≡ Some n → IsTakenName is_attribute_value t n
unfolding read_attribute_value
attribute_value_takes t n e = named_takes is_attribute_value t n e

-- ---- types

pub key_type_again : (k : KeyType) → read_key_type (key_type_text k) ≡ Some k
unfolding read_key_type
key_type_again key_type.U64 = refl
key_type_again key_type.F8 = refl

pub key_type_takes : (t : List ℕ) (k : KeyType) → read_key_type t ≡ Some k → t ≡ key_type_text k
unfolding read_key_type
key_type_takes t k e = beside_takes key_type_text key_type_words t k e (refl, (refl, tt))

pub value_type_again : (v : ValueType) → read_value_type (value_type_text v) ≡ Some v
unfolding read_value_type
value_type_again type.Bool = refl
value_type_again type.U64 = refl
value_type_again type.Q4 = refl

pub value_type_takes : (t : List ℕ) (v : ValueType) → read_value_type t ≡ Some v → t ≡ value_type_text v
unfolding read_value_type
value_type_takes t v e = beside_takes value_type_text value_type_words t v e (refl, (refl, (refl, tt)))

-- ---- keys

pub key_again : (k : Key) → IsKey k → read_key (key_text k) ≡ Some k
unfolding read_key read_key_behind
key_again (key.U64 n) h = rw (number_again n h) refl
key_again (key.F8 text) h = rw h refl

pub record IsTakenKey (t : List ℕ) (k : Key) : Type 0 where
  pub token : t ≡ key_text k
  pub is : IsKey k

key_behind_takes : (t : List ℕ) (a b : Option (List ℕ)) (k : Key) → behind (codes "u64:") t ≡ a → behind (codes "f8:") t ≡ b → read_key_behind a b ≡ Some k → IsTakenKey t k
unfolding read_key_behind
key_behind_takes t (Some digits) b k ea eb e =
    let n = bind_some (read_number digits) (λ n. Some (key.U64 n)) k e in
    let d = number_takes digits n.0 n.1 in
    subst (IsTakenKey t) (some_is (key.U64 n.0) k n.2) (record { token = behind_is (codes "u64:") t digits ea ∙ ap (λ (x : List ℕ). codes "u64:" ++ x) d.0; is = d.1 })
key_behind_takes t None (Some text) k ea eb e =
    let g = guard_some (is_visible 8 text) (Some (key.F8 text)) k e in
    subst (IsTakenKey t) (some_is (key.F8 text) k g.1) (record { token = behind_is (codes "f8:") t text eb; is = g.0 })
key_behind_takes t None None k ea eb e = absurd cc

pub key_takes : (t : List ℕ) (k : Key) → read_key t ≡ Some k → IsTakenKey t k
unfolding read_key
key_takes t k e = key_behind_takes t _ _ k refl refl e

-- ---- values

pub value_again : (v : Value) → IsValue v → read_value (value_text v) ≡ Some v
unfolding read_value read_words_behind read_four
value_again (value.Bool true) h = refl
value_again (value.Bool false) h = refl
value_again (value.U64 n) h = rw (number_again n h) refl
value_again (value.Q4 a b c d) h = ap read_four (split_four a b c d h.0 h.1 h.2 h.3) ∙ rw (number_again a h.0, number_again b h.1, number_again c h.2, number_again d h.3) refl

pub record IsTakenValue (t : List ℕ) (v : Value) : Type 0 where
  pub token : t ≡ value_text v
  pub is : IsValue v

abbrev FourParts : List (List ℕ) → Value → Type 0
FourParts parts v = (a : ℕ) × (b : ℕ) × (c : ℕ) × (d : ℕ) × (value.Q4 a b c d ≡ v) × (parts ≡ decimal a ∷ decimal b ∷ decimal c ∷ decimal d ∷ []) × IsNumber a × IsNumber b × IsNumber c × IsNumber d

four_takes : (parts : List (List ℕ)) (v : Value) → read_four parts ≡ Some v → FourParts parts v
unfolding read_four
four_takes parts v e =
    let a = bind_some (first_by read_number parts) _ v e in
    let b = bind_some (first_by read_number a.0.1) _ v a.2 in
    let c = bind_some (first_by read_number b.0.1) _ v b.2 in
    let d = bind_some (first_by read_number c.0.1) _ v c.2 in
    let g = guard_some (is_end d.0.1) (Some (value.Q4 a.0.0 b.0.0 c.0.0 d.0.0)) v d.2 in
    let ta = first_takes read_number parts a.0 a.1 in
    let tb = first_takes read_number a.0.1 b.0 b.1 in
    let tc = first_takes read_number b.0.1 c.0 c.1 in
    let td = first_takes read_number c.0.1 d.0 d.1 in
    let na = number_takes ta.token a.0.0 ta.is in
    let nb = number_takes tb.token b.0.0 tb.is in
    let nc = number_takes tc.token c.0.0 tc.is in
    let nd = number_takes td.token d.0.0 td.is in (
      a.0.0,
      b.0.0,
      c.0.0,
      d.0.0,
      some_is (value.Q4 a.0.0 b.0.0 c.0.0 d.0.0) v g.1,
      token_before ta.all na.0 (token_before tb.all nb.0 (token_before tc.all nc.0 (token_before td.all nd.0 (end_takes d.0.1 g.0)))),
      na.1,
      nb.1,
      nc.1,
      nd.1,
    )

words_behind_takes : (t : List ℕ) (a b : Option (List ℕ)) (v : Value) → behind (codes "u64:") t ≡ a → behind (codes "q4:") t ≡ b → read_words_behind a b ≡ Some v → IsTakenValue t v
unfolding read_words_behind
words_behind_takes t (Some digits) b v ea eb e =
    let n = bind_some (read_number digits) (λ n. Some (value.U64 n)) v e in
    let d = number_takes digits n.0 n.1 in
    subst (IsTakenValue t) (some_is (value.U64 n.0) v n.2) (record { token = behind_is (codes "u64:") t digits ea ∙ ap (λ (x : List ℕ). codes "u64:" ++ x) d.0; is = d.1 })
words_behind_takes t None (Some text) v ea eb e =
    let f = four_takes (slice_split (λ b. eqb b 44) text) v e in
    let joined : text ≡ join_with_byte 44 (decimal f.0 ∷ decimal f.1 ∷ decimal f.2 ∷ decimal f.3 ∷ []) = sym (join_with_byte-slice_split 44 text) ∙ ap (join_with_byte 44) f.5 in
    subst (IsTakenValue t) f.4 (record { token = behind_is (codes "q4:") t text eb ∙ ap (λ (x : List ℕ). codes "q4:" ++ x) joined; is = (f.6, f.7, f.8, f.9) })
words_behind_takes t None None v ea eb e = absurd cc

pub value_takes : (t : List ℕ) (v : Value) → read_value t ≡ Some v → IsTakenValue t v
unfolding read_value
value_takes t v e =
    by_word (λ t. IsTakenValue t v) t (codes "bool:true") _ _ v e
    (λ h. subst (IsTakenValue (codes "bool:true")) (some_is (value.Bool true) v h) (record { token = refl; is = tt }))
    (λ i. by_word (λ t. IsTakenValue t v) t (codes "bool:false") _ _ v i
    (λ h. subst (IsTakenValue (codes "bool:false")) (some_is (value.Bool false) v h) (record { token = refl; is = tt }))
    (λ h. words_behind_takes t _ _ v refl refl h))
