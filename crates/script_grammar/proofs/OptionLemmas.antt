-- The optional parts of a call are read back from their tokens.
use Rattle.std.proofs.Common.{◌≡◌, ℕ, zero, suc, ◌≤◌, arith, true, false, List, [], ◌∷◌, ◌++◌, length, drop, Option, Some, None, refl, sym, ap, subst, ◌∙◌, inl, inr, append_assoc}
use Rattle.std.specs.Prelude.{codes}
use Rattle.std.specs.Str.{bytes_eq}
use Rattle.std.specs.List.{flat_map, AllByRecursion}
use Rattle.std.proofs.lemmas.List.{append-nil}
use Rattle.std.proofs.lemmas.List.Concat.{flat_map-cons}
use Rattle.board_model.specs.declared.attributes.Attribute.{Attribute}
use Rattle.board_model.specs.declared.attributes.Requirements.{Requirements}
use Rattle.board_model.specs.declared.tables.Limits.{Limits}
use Rattle.board_model.specs.LineGrammar.{is_attribute_key, limit_tokens, limits_tokens, pair_tokens, needed_key_tokens, IsNumberIfAny, IsAttribute, AreLimits, AreAttributes, AreRequirements}
use Rattle.script_grammar.specs.TokenReading.{first_by, read_number, read_attribute_key, read_attribute_value}
use Rattle.script_grammar.specs.LineReading.{begins_with, read_limit, read_limits, read_parts, read_pair, read_needs}
use Rattle.script_grammar.proofs.ReaderLemmas.{some_is, bind_some, chosen, word_is, first_takes, token_before}
use Rattle.script_grammar.proofs.NumeralLemmas.{number_again, number_takes}
use Rattle.script_grammar.proofs.TokenLemmas.{attribute_key_again, attribute_key_takes, attribute_value_again, attribute_value_takes}

-- ---- the word that comes next

begun : (word : List ℕ) (ts : List (List ℕ)) → begins_with word ts ≡ true → ts ≡ word ∷ drop 1 ts
begun word [] e = absurd cc
begun word (t ∷ ts) e = ap (λ (x : List ℕ). x ∷ ts) (word_is t word e)

grouped : {A : Type 0} (g : A → List (List ℕ)) (x : A) (xs : List A) (rest : List (List ℕ)) → flat_map g (x ∷ xs) ++ rest ≡ g x ++ (flat_map g xs ++ rest)
grouped g x xs rest = ap (λ (z : List (List ℕ)). z ++ rest) (flat_map-cons g x xs) ∙ append_assoc (g x) (flat_map g xs) rest

-- the word does not come where no part begins with it
pub begins_not : {A : Type 0} (word : List ℕ) (g : A → List (List ℕ)) → ((x : A) (rest : List (List ℕ)) → begins_with word (g x ++ rest) ≡ false) → (xs : List A) (rest : List (List ℕ)) → begins_with word rest ≡ false → begins_with word (flat_map g xs ++ rest) ≡ false
begins_not word g other [] rest h = h
begins_not word g other (x ∷ xs) rest h = ap (begins_with word) (grouped g x xs rest) ∙ other x (flat_map g xs ++ rest)

pub begins_no_part : {A : Type 0} (word : List ℕ) (g : A → List (List ℕ)) → ((x : A) (rest : List (List ℕ)) → begins_with word (g x ++ rest) ≡ false) → (xs : List A) → begins_with word (flat_map g xs) ≡ false
begins_no_part word g other xs = ap (begins_with word) (sym (append-nil (flat_map g xs))) ∙ begins_not word g other xs [] refl

-- ---- limits

pub limit_again : (word : List ℕ) → bytes_eq word word ≡ true → (n : Option ℕ) → IsNumberIfAny n → (rest : List (List ℕ)) → begins_with word rest ≡ false → read_limit word (limit_tokens word n ++ rest) ≡ Some (n, rest)
unfolding read_limit
limit_again word same None h rest other = rw other refl
limit_again word same (Some n) h rest other = rw (same, number_again n h) refl

pub record IsTakenLimit (word : List ℕ) (ts : List (List ℕ)) (p : Option ℕ × List (List ℕ)) : Type 0 where
  pub tokens : ts ≡ limit_tokens word p.0 ++ p.1
  pub is : IsNumberIfAny p.0

pub limit_takes : (word : List ℕ) (ts : List (List ℕ)) (p : Option ℕ × List (List ℕ)) → read_limit word ts ≡ Some p → IsTakenLimit word ts p
unfolding read_limit
limit_takes word ts p e =
    elim (chosen (begins_with word ts) _ _ _ e) [
      | inl h ↦
          let n = bind_some (first_by read_number (drop 1 ts)) _ p h.1 in
          let t = first_takes read_number (drop 1 ts) n.0 n.1 in
          let d = number_takes t.token n.0.0 t.is in
          subst (IsTakenLimit word ts) (some_is (Some n.0.0, n.0.1) p n.2)
          (record { tokens = begun word ts h.0 ∙ ap (λ (x : List (List ℕ)). word ∷ x) (t.all ∙ ap (λ (x : List ℕ). x ∷ n.0.1) d.0); is = d.1 })
      | inr h ↦ subst (IsTakenLimit word ts) (some_is (None, ts) p h.1) (record { tokens = refl; is = tt })
    ]

-- a word doesn't come before a limit of another word
pub begins_no_limit : (word other : List ℕ) → bytes_eq other word ≡ false → (n : Option ℕ) (rest : List (List ℕ)) → begins_with word rest ≡ false → begins_with word (limit_tokens other n ++ rest) ≡ false
begins_no_limit word other differ None rest h = h
begins_no_limit word other differ (Some n) rest h = differ

pub limits_again : (l : Limits) → AreLimits l → (rest : List (List ℕ)) → begins_with (codes "readers") rest ≡ false → begins_with (codes "nodes") rest ≡ false → read_limits (limits_tokens l ++ rest) ≡ Some (l, rest)
unfolding read_limits
limits_again l h rest other last =
    ap read_limits (append_assoc (limit_tokens (codes "readers") l.max_readers) (limit_tokens (codes "nodes") l.max_nodes) rest)
    ∙ rw (
      limit_again (codes "readers") refl l.max_readers h.readers (limit_tokens (codes "nodes") l.max_nodes ++ rest) (begins_no_limit (codes "readers") (codes "nodes") refl l.max_nodes rest other),
      limit_again (codes "nodes") refl l.max_nodes h.nodes rest last,
    ) refl

pub record AreTakenLimits (ts : List (List ℕ)) (p : Limits × List (List ℕ)) : Type 0 where
  pub tokens : ts ≡ limits_tokens p.0 ++ p.1
  pub are : AreLimits p.0

pub limits_take : (ts : List (List ℕ)) (p : Limits × List (List ℕ)) → read_limits ts ≡ Some p → AreTakenLimits ts p
unfolding read_limits
limits_take ts p e =
    let r = bind_some (read_limit (codes "readers") ts) _ p e in
    let n = bind_some (read_limit (codes "nodes") r.0.1) _ p r.2 in
    let tr = limit_takes (codes "readers") ts r.0 r.1 in
    let tn = limit_takes (codes "nodes") r.0.1 n.0 n.1 in
    let made : Limits = record { max_readers = r.0.0; max_nodes = n.0.0 } in
    subst (AreTakenLimits ts) (some_is (made, n.0.1) p n.2) (record {
      tokens = tr.tokens
          ∙ ap (λ (x : List (List ℕ)). limit_tokens (codes "readers") r.0.0 ++ x) tn.tokens
          ∙ sym (append_assoc (limit_tokens (codes "readers") r.0.0) (limit_tokens (codes "nodes") n.0.0) n.0.1);
      are = record { readers = tr.is; nodes = tn.is };
    })

-- ---- parts that may come many times

-- a part is read back behind its word
abbrev ReadsBack : {A : Type 0} → (List (List ℕ) → Option (A × List (List ℕ))) → (A → List (List ℕ)) → (A → Type 0) → Type 0
ReadsBack {A = A} read text Is = (x : A) → Is x → (rest : List (List ℕ)) → read (text x ++ rest) ≡ Some (x, rest)

pub parts_again : {A : Type 0} (word : List ℕ) → bytes_eq word word ≡ true → (read : List (List ℕ) → Option (A × List (List ℕ))) (text : A → List (List ℕ)) (Is : A → Type 0) → ReadsBack read text Is → (most : ℕ) (xs : List A) → length xs ≤ most → AllByRecursion Is xs → (rest : List (List ℕ)) → begins_with word rest ≡ false → read_parts most word read (flat_map (λ x. word ∷ text x) xs ++ rest) ≡ Some (xs, rest)
unfolding read_parts
parts_again word same read text Is back zero [] le h rest other = refl
parts_again word same read text Is back zero (x ∷ xs) le h rest other = absurd (omega arith)
parts_again word same read text Is back (suc most) [] le h rest other = rw other refl
parts_again word same read text Is back (suc most) (x ∷ xs) le h rest other =
    ap (read_parts (suc most) word read) (grouped (λ x. word ∷ text x) x xs rest)
    ∙ rw (same, back x h.0 (flat_map (λ x. word ∷ text x) xs ++ rest), parts_again word same read text Is back most xs (omega arith) h.1 rest other) refl

-- what was read of one part
pub record IsTakenPart {A : Type 0} (text : A → List (List ℕ)) (Is : A → Type 0) (ts : List (List ℕ)) (p : A × List (List ℕ)) : Type 0 where
  pub tokens : ts ≡ text p.0 ++ p.1
  pub is : Is p.0

abbrev Takes : {A : Type 0} → (List (List ℕ) → Option (A × List (List ℕ))) → (A → List (List ℕ)) → (A → Type 0) → Type 0
Takes {A = A} read text Is = (ts : List (List ℕ)) (p : A × List (List ℕ)) → read ts ≡ Some p → IsTakenPart text Is ts p

pub record AreTakenParts {A : Type 0} (word : List ℕ) (text : A → List (List ℕ)) (Is : A → Type 0) (most : ℕ) (ts : List (List ℕ)) (p : List A × List (List ℕ)) : Type 0 where
  pub tokens : ts ≡ flat_map (λ x. word ∷ text x) p.0 ++ p.1
  pub few : length p.0 ≤ most
  pub each : AllByRecursion Is p.0

pub parts_take : {A : Type 0} (word : List ℕ) (read : List (List ℕ) → Option (A × List (List ℕ))) (text : A → List (List ℕ)) (Is : A → Type 0) → Takes read text Is → (most : ℕ) (ts : List (List ℕ)) (p : List A × List (List ℕ)) → read_parts most word read ts ≡ Some p → AreTakenParts word text Is most ts p
unfolding read_parts
parts_take word read text Is take zero ts p e = subst (AreTakenParts word text Is zero ts) (some_is ([], ts) p e) (record { tokens = refl; few = omega arith; each = tt })
parts_take word read text Is take (suc most) ts p e =
    elim (chosen (begins_with word ts) _ _ _ e) [
      | inl h ↦
          let x = bind_some (read (drop 1 ts)) _ p h.1 in
          let xs = bind_some (read_parts most word read x.0.1) _ p x.2 in
          let one = take (drop 1 ts) x.0 x.1 in
          let more = parts_take word read text Is take most x.0.1 xs.0 xs.1 in
          subst (AreTakenParts word text Is (suc most) ts) (some_is (x.0.0 ∷ xs.0.0, xs.0.1) p xs.2) (record {
            tokens = begun word ts h.0
                ∙ ap (λ (z : List (List ℕ)). word ∷ z) (one.tokens ∙ ap (λ (z : List (List ℕ)). text x.0.0 ++ z) more.tokens)
                ∙ sym (grouped (λ x. word ∷ text x) x.0.0 xs.0.0 xs.0.1);
            few = let le = more.few in omega arith;
            each = (one.is, more.each);
          })
      | inr h ↦ subst (AreTakenParts word text Is (suc most) ts) (some_is ([], ts) p h.1) (record { tokens = refl; few = omega arith; each = tt })
    ]

-- ---- attributes

abbrev pair_text : Attribute → List (List ℕ)
pair_text a = a.key ∷ a.value ∷ []

pair_again : ReadsBack read_pair pair_text IsAttribute
unfolding read_pair
pair_again a h rest = rw (attribute_key_again a.key h.key, attribute_value_again a.value h.value) refl

pair_takes : Takes read_pair pair_text IsAttribute
unfolding read_pair
pair_takes ts p e =
    let k = bind_some (first_by read_attribute_key ts) _ p e in
    let v = bind_some (first_by read_attribute_value k.0.1) _ p k.2 in
    let tk = first_takes read_attribute_key ts k.0 k.1 in
    let tv = first_takes read_attribute_value k.0.1 v.0 v.1 in
    let nk = attribute_key_takes tk.token k.0.0 tk.is in
    let nv = attribute_value_takes tv.token v.0.0 tv.is in
    let made : Attribute = record { key = k.0.0; value = v.0.0 } in
    subst (IsTakenPart pair_text IsAttribute ts) (some_is (made, v.0.1) p v.2)
    (record { tokens = token_before tk.all nk.token (token_before tv.all nv.token refl); is = record { key = nk.named; value = nv.named } })

pub pairs_again : (word : List ℕ) → bytes_eq word word ≡ true → (attributes : List Attribute) → AreAttributes attributes → (rest : List (List ℕ)) → begins_with word rest ≡ false → read_parts 8 word read_pair (flat_map (pair_tokens word) attributes ++ rest) ≡ Some (attributes, rest)
pairs_again word same attributes h rest other = parts_again word same read_pair pair_text IsAttribute pair_again 8 attributes h.few h.each rest other

pub record AreTakenPairs (word : List ℕ) (ts : List (List ℕ)) (p : List Attribute × List (List ℕ)) : Type 0 where
  pub tokens : ts ≡ flat_map (pair_tokens word) p.0 ++ p.1
  pub are : AreAttributes p.0

pub pairs_take : (word : List ℕ) (ts : List (List ℕ)) (p : List Attribute × List (List ℕ)) → read_parts 8 word read_pair ts ≡ Some p → AreTakenPairs word ts p
pairs_take word ts p e =
    let t = parts_take word read_pair pair_text IsAttribute pair_takes 8 ts p e in
    record { tokens = t.tokens; are = record { few = t.few; each = t.each } }

-- ---- what an opener needs

abbrev IsKeyText : List ℕ → Type 0
IsKeyText k = is_attribute_key k ≡ true

abbrev alone : List ℕ → List (List ℕ)
alone k = k ∷ []

needed_key_again : ReadsBack (first_by read_attribute_key) alone IsKeyText
needed_key_again k h rest = rw (attribute_key_again k h) refl

needed_key_takes : Takes (first_by read_attribute_key) alone IsKeyText
needed_key_takes ts p e =
    let t = first_takes read_attribute_key ts p e in
    let k = attribute_key_takes t.token p.0 t.is in
    record { tokens = t.all ∙ ap (λ (x : List ℕ). x ∷ p.1) k.token; is = k.named }

pub needs_again : (needs : Requirements) → AreRequirements needs → read_needs (flat_map (pair_tokens (codes "need")) needs.pairs ++ flat_map needed_key_tokens needs.keys) ≡ Some (needs, [])
unfolding read_needs
needs_again needs h =
    let keys : read_parts 8 (codes "needkey") (first_by read_attribute_key) (flat_map needed_key_tokens needs.keys) ≡ Some (needs.keys, []) =
    ap (read_parts 8 (codes "needkey") (first_by read_attribute_key)) (sym (append-nil (flat_map needed_key_tokens needs.keys)))
    ∙ parts_again (codes "needkey") refl (first_by read_attribute_key) alone IsKeyText needed_key_again 8 needs.keys h.few h.each [] refl in
    rw (pairs_again (codes "need") refl needs.pairs h.pairs (flat_map needed_key_tokens needs.keys) (begins_no_part (codes "need") needed_key_tokens (λ k rest. refl) needs.keys), keys) refl

pub record AreTakenNeeds (ts : List (List ℕ)) (p : Requirements × List (List ℕ)) : Type 0 where
  pub tokens : ts ≡ flat_map (pair_tokens (codes "need")) p.0.pairs ++ (flat_map needed_key_tokens p.0.keys ++ p.1)
  pub are : AreRequirements p.0

pub needs_take : (ts : List (List ℕ)) (p : Requirements × List (List ℕ)) → read_needs ts ≡ Some p → AreTakenNeeds ts p
unfolding read_needs
needs_take ts p e =
    let pairs = bind_some (read_parts 8 (codes "need") read_pair ts) _ p e in
    let keys = bind_some (read_parts 8 (codes "needkey") (first_by read_attribute_key) pairs.0.1) _ p pairs.2 in
    let tp = pairs_take (codes "need") ts pairs.0 pairs.1 in
    let tk = parts_take (codes "needkey") (first_by read_attribute_key) alone IsKeyText needed_key_takes 8 pairs.0.1 keys.0 keys.1 in
    let made : Requirements = record { pairs = pairs.0.0; keys = keys.0.0 } in
    subst (AreTakenNeeds ts) (some_is (made, keys.0.1) p keys.2)
    (record { tokens = tp.tokens ∙ ap (λ (x : List (List ℕ)). flat_map (pair_tokens (codes "need")) pairs.0.0 ++ x) tk.tokens; are = record { pairs = tp.are; few = tk.few; each = tk.each } })
