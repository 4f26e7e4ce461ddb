-- Tokens by themselves, both ways.
use Rattle.std.proofs.Common.{◌≡◌, ℕ, Bool, true, false, List, [], ◌∷◌, ◌++◌, drop, length, arith, refl, sym, ap, ◌∙◌, eqb, Option, Some, None, ◌⊎◌, inl, inr, lit<, map}
use Rattle.std.specs.Prelude.{◌||◌, codes, decimal, if◌then◌else◌, slice_index}
use Rattle.std.specs.Option.{is_some}
use Rattle.std.specs.List.{join_with_byte, slice_split, AllByRecursion}
use Rattle.std.specs.Str.{bytes_eq}
use Rattle.std.proofs.lemmas.List.Splits.{join_with_byte-slice_split}
use Rattle.board_model.specs.declared.value.Key.{Key}
use Rattle.board_model.specs.declared.value.Key.TheVariants as key
use Rattle.board_model.specs.declared.value.KeyType.{KeyType}
use Rattle.board_model.specs.declared.value.KeyType.TheVariants as key_type
use Rattle.board_model.specs.declared.value.ValueType.{ValueType}
use Rattle.board_model.specs.declared.value.ValueType.TheVariants as type
use Rattle.board_model.specs.LineGrammar.{IsKey, IsNumber, key_text, key_type_text}
use Rattle.board_model.specs.AnswerGrammar.{words_text}
use Rattle.board_model.specs.TypeTable.{word_count}
use Rattle.script_model.specs.ScriptGrammar.{is_event_name}
use Rattle.script_grammar.specs.TokenReading.{behind, read_number}
use Rattle.script_grammar.proofs.NumeralLemmas.{number_again, number_takes}
use Rattle.script_grammar.proofs.ReaderLemmas.{both, end_takes}
use Rattle.script_grammar.proofs.SplitLemmas.{IsFree, free_append, free_joined, free_number, free_visible, split_free, split_four}
use Rattle.script_grammar.proofs.TokenLemmas.{behind_is}
use Rattle.script_rules.specs.StepGroups.{place_token}
use Rattle.script_answers.specs.AnswerReading.{are_four, are_two, first_is, is_event, is_event_behind, is_key, is_key_behind, is_number, is_place, is_value, is_value_behind}
use Rattle.script_answers.proofs.Choices.{either, either_word, has_first}
use Rattle.script_answers.proofs.Joined.{AreFree, free_each}

-- ---- numbers

pub number_taken : (n : ℕ) → IsNumber n → is_number (decimal n) ≡ true
number_taken n h = rw (number_again n h) refl

-- a number, where `none` would do too
pub number_or : (n : ℕ) → IsNumber n → (bytes_eq (decimal n) (codes "none") || is_number (decimal n)) ≡ true
number_or n h = rw (number_taken n h) (at (bytes_eq (decimal n) (codes "none")))
  where
    at : (b : Bool) → (b || true) ≡ true
    at true = refl
    at false = refl

-- the token of a number
pub record IsNumeral (t : List ℕ) : Type 0 where
  pub value : ℕ
  pub token : t ≡ decimal value
  pub fits : IsNumber value

numeral_at : (t : List ℕ) (o : Option ℕ) → read_number t ≡ o → is_some o ≡ true → IsNumeral t
numeral_at t None e h = absurd cc
numeral_at t (Some n) e h = let k = number_takes t n e in record { value = n; token = k.0; fits = k.1 }

pub numeral : (t : List ℕ) → is_number t ≡ true → IsNumeral t
numeral t h = numeral_at t (read_number t) refl h

pub free_numeral : (n : ℕ) → IsNumber n → IsFree 32 (decimal n)
free_numeral n h = free_number 32 refl n h

-- ---- places

pub place_taken : (b w : ℕ) → IsNumber b → IsNumber w → is_place (place_token b w) ≡ true
unfolding is_place are_two
place_taken b w h k =
    let s : slice_split (λ x. eqb x 58) (place_token b w) ≡ decimal b ∷ decimal w ∷ [] = split_free 58 refl (decimal b ∷ decimal w ∷ []) (omega arith) (free_number 58 refl b h, (free_number 58 refl w k, tt)) in
    rw (s, number_taken b h, number_taken w k) refl

-- the token of a place
pub record IsPlaceToken (t : List ℕ) : Type 0 where
  pub board : ℕ
  pub word : ℕ
  pub token : t ≡ place_token board word
  pub board_fits : IsNumber board
  pub word_fits : IsNumber word

abbrev TwoNumbers : List (List ℕ) → Type 0
TwoNumbers ts = (a : ℕ) × (b : ℕ) × (ts ≡ decimal a ∷ decimal b ∷ []) × IsNumber a × IsNumber b

put_first : (ts us vs : List (List ℕ)) (t u : List ℕ) → ts ≡ t ∷ us → t ≡ u → us ≡ vs → ts ≡ u ∷ vs
put_first ts us vs t u e f g = cc

two_numbers : (ts : List (List ℕ)) → are_two ts ≡ true → TwoNumbers ts
unfolding are_two
two_numbers ts e =
    let p = both _ _ e in
    let q = both _ _ p.1 in
    let a = has_first is_number ts p.0 in
    let b = has_first is_number (drop 1 ts) q.0 in
    let x = numeral a.first a.passes in
    let y = numeral b.first b.passes in
    let end : drop 1 (drop 1 ts) ≡ [] = end_takes (drop 1 (drop 1 ts)) q.1 in
    (x.value, y.value, put_first ts (drop 1 ts) (decimal y.value ∷ []) a.first (decimal x.value) a.all x.token (put_first (drop 1 ts) (drop 1 (drop 1 ts)) [] b.first (decimal y.value) b.all y.token end), x.fits, y.fits)

pub place_token_of : (t : List ℕ) → is_place t ≡ true → IsPlaceToken t
unfolding is_place
place_token_of t h =
    let k = two_numbers (slice_split (λ x. eqb x 58) t) h in
    record {
      board = k.0;
      word = k.1;
      token = sym (join_with_byte-slice_split 58 t) ∙ ap (join_with_byte 58) k.2;
      board_fits = k.3;
      word_fits = k.4;
    }

pub free_place : (b w : ℕ) → IsNumber b → IsNumber w → IsFree 32 (place_token b w)
free_place b w h k = free_append 32 (decimal b) (58 ∷ decimal w) (free_numeral b h) (free_numeral w k)

-- ---- events

pub bits_taken : (name : List ℕ) → is_event_name name ≡ true → is_event (codes "bits:") (codes "bits:" ++ name) ≡ true
unfolding is_event
bits_taken name h = h

pub queue_taken : (name : List ℕ) → is_event_name name ≡ true → is_event (codes "queue:") (codes "queue:" ++ name) ≡ true
unfolding is_event
queue_taken name h = h

-- a name behind its kind
pub record IsEventToken (prefix t : List ℕ) : Type 0 where
  pub name : List ℕ
  pub token : t ≡ prefix ++ name
  pub named : is_event_name name ≡ true

event_at : (prefix t : List ℕ) (o : Option (List ℕ)) → behind prefix t ≡ o → is_event_behind o ≡ true → IsEventToken prefix t
event_at prefix t None e h = absurd cc
event_at prefix t (Some name) e h = record { name = name; token = behind_is prefix t name e; named = h }

pub event_token_of : (prefix t : List ℕ) → is_event prefix t ≡ true → IsEventToken prefix t
unfolding is_event
event_token_of prefix t h = event_at prefix t (behind prefix t) refl h

-- ---- keys

pub key_taken : (k : Key) → IsKey k → is_key (key_text k) ≡ true
unfolding is_key is_key_behind
key_taken (key.U64 n) h = number_taken n h
key_taken (key.F8 text) h = h

pub record IsKeyToken (t : List ℕ) : Type 0 where
  pub key : Key
  pub token : t ≡ key_text key
  pub is : IsKey key

key_at : (t : List ℕ) (a b : Option (List ℕ)) → behind (codes "u64:") t ≡ a → behind (codes "f8:") t ≡ b → is_key_behind a b ≡ true → IsKeyToken t
unfolding is_key_behind
key_at t (Some digits) b ea eb h =
    let n = numeral digits h in
    record { key = key.U64 n.value; token = behind_is (codes "u64:") t digits ea ∙ ap (λ (x : List ℕ). codes "u64:" ++ x) n.token; is = n.fits }
key_at t None (Some text) ea eb h = record { key = key.F8 text; token = behind_is (codes "f8:") t text eb; is = h }
key_at t None None ea eb h = absurd cc

pub key_token_of : (t : List ℕ) → is_key t ≡ true → IsKeyToken t
unfolding is_key
key_token_of t h = key_at t (behind (codes "u64:") t) (behind (codes "f8:") t) refl refl h

pub free_key : (k : Key) → IsKey k → IsFree 32 (key_text k)
free_key (key.U64 n) h = free_numeral n h
free_key (key.F8 text) h = free_visible 32 8 refl text h

-- ---- types of keys

pub key_type_taken : (k : KeyType) → (bytes_eq (key_type_text k) (codes "u64") || bytes_eq (key_type_text k) (codes "f8")) ≡ true
key_type_taken key_type.U64 = refl
key_type_taken key_type.F8 = refl

pub key_type_of : (t : List ℕ) → (bytes_eq t (codes "u64") || bytes_eq t (codes "f8")) ≡ true → (k : KeyType) × (t ≡ key_type_text k)
key_type_of t h = at (either_word t (codes "u64") (codes "f8") h)
  where
    at : (t ≡ codes "u64") ⊎ (t ≡ codes "f8") → (k : KeyType) × (t ≡ key_type_text k)
    at (inl e) = (key_type.U64, e)
    at (inr e) = (key_type.F8, e)

pub free_key_type : (k : KeyType) → IsFree 32 (key_type_text k)
free_key_type key_type.U64 = refl
free_key_type key_type.F8 = refl

-- ---- values

abbrev bool_text : Bool → List ℕ
bool_text b = codes "bool:" ++ (if b then codes "false" else codes "true")

bool_taken : (b : Bool) → is_value (bool_text b) ≡ true
unfolding is_value
bool_taken true = refl
bool_taken false = refl

bool_free : (b : Bool) → IsFree 32 (bool_text b)
bool_free true = refl
bool_free false = refl

-- a value that was read, as it is printed
pub record IsWhole (t : ValueType) (words : List ℕ) : Type 0 where
  pub count : length words ≡ word_count t
  pub fit : AllByRecursion IsNumber words

pub words_taken : (t : ValueType) (words : List ℕ) → IsWhole t words → is_value (words_text t words) ≡ true
unfolding is_value is_value_behind are_four
words_taken type.Bool words h = bool_taken (eqb (slice_index words 0) 0)
words_taken type.U64 [] h = absurd (omega (arith, h.count))
words_taken type.U64 (a ∷ []) h = number_taken a h.fit.0
words_taken type.U64 (a ∷ b ∷ ws) h = absurd (omega (arith, h.count))
words_taken type.Q4 [] h = absurd (omega (arith, h.count))
words_taken type.Q4 (a ∷ []) h = absurd (omega (arith, h.count))
words_taken type.Q4 (a ∷ b ∷ []) h = absurd (omega (arith, h.count))
words_taken type.Q4 (a ∷ b ∷ c ∷ []) h = absurd (omega (arith, h.count))
words_taken type.Q4 (a ∷ b ∷ c ∷ d ∷ []) h =
    rw (split_four a b c d h.fit.0 h.fit.1.0 h.fit.1.1.0 h.fit.1.1.1.0, number_taken a h.fit.0, number_taken b h.fit.1.0, number_taken c h.fit.1.1.0, number_taken d h.fit.1.1.1.0) refl
words_taken type.Q4 (a ∷ b ∷ c ∷ d ∷ e ∷ ws) h = absurd (omega (arith, h.count))

pub free_decimals : (ns : List ℕ) → AllByRecursion IsNumber ns → AreFree (map decimal ns)
free_decimals ns h = free_each IsNumber decimal free_numeral ns h

pub free_words : (t : ValueType) (words : List ℕ) → AllByRecursion IsNumber words → IsFree 32 (words_text t words)
free_words type.Bool words h = bool_free (eqb (slice_index words 0) 0)
free_words type.U64 words h = free_joined 32 44 refl (map decimal words) (free_decimals words h)
free_words type.Q4 words h = free_joined 32 44 refl (map decimal words) (free_decimals words h)

-- the token of a value
pub record IsValueToken (t : List ℕ) : Type 0 where
  pub type : ValueType
  pub words : List ℕ
  pub token : t ≡ words_text type words
  pub whole : IsWhole type words

abbrev FourNumbers : List (List ℕ) → Type 0
FourNumbers ts = (a : ℕ) × (b : ℕ) × (c : ℕ) × (d : ℕ) × (ts ≡ decimal a ∷ decimal b ∷ decimal c ∷ decimal d ∷ []) × IsNumber a × IsNumber b × IsNumber c × IsNumber d

four_numbers : (ts : List (List ℕ)) → are_four ts ≡ true → FourNumbers ts
unfolding are_four
four_numbers ts e =
    let us : List (List ℕ) = drop 1 ts in
    let vs : List (List ℕ) = drop 1 us in
    let ws : List (List ℕ) = drop 1 vs in
    let p = both (first_is is_number ts) _ e in
    let q = both (first_is is_number us) _ p.1 in
    let r = both (first_is is_number vs) _ q.1 in
    let s = both (first_is is_number ws) _ r.1 in
    let a = has_first is_number ts p.0 in
    let b = has_first is_number us q.0 in
    let c = has_first is_number vs r.0 in
    let d = has_first is_number ws s.0 in
    let x = numeral a.first a.passes in
    let y = numeral b.first b.passes in
    let z = numeral c.first c.passes in
    let w = numeral d.first d.passes in
    let end : drop 1 ws ≡ [] = end_takes (drop 1 ws) s.1 in
    let four : ws ≡ decimal w.value ∷ [] = put_first ws (drop 1 ws) [] d.first (decimal w.value) d.all w.token end in
    let three : vs ≡ decimal z.value ∷ decimal w.value ∷ [] = put_first vs ws _ c.first (decimal z.value) c.all z.token four in
    let two : us ≡ decimal y.value ∷ decimal z.value ∷ decimal w.value ∷ [] = put_first us vs _ b.first (decimal y.value) b.all y.token three in
    (x.value, y.value, z.value, w.value, put_first ts us _ a.first (decimal x.value) a.all x.token two, x.fits, y.fits, z.fits, w.fits)

value_at : (t : List ℕ) (a b : Option (List ℕ)) → behind (codes "u64:") t ≡ a → behind (codes "q4:") t ≡ b → is_value_behind a b ≡ true → IsValueToken t
unfolding is_value_behind
value_at t (Some digits) b ea eb h =
    let n = numeral digits h in
    record {
      type = type.U64;
      words = n.value ∷ [];
      token = behind_is (codes "u64:") t digits ea ∙ ap (λ (x : List ℕ). codes "u64:" ++ x) n.token;
      whole = record { count = refl; fit = (n.fits, tt) };
    }
value_at t None (Some text) ea eb h =
    let f = four_numbers (slice_split (λ b. eqb b 44) text) h in
    let joined : text ≡ join_with_byte 44 (decimal f.0 ∷ decimal f.1 ∷ decimal f.2 ∷ decimal f.3 ∷ []) = sym (join_with_byte-slice_split 44 text) ∙ ap (join_with_byte 44) f.4 in
    record {
      type = type.Q4;
      words = f.0 ∷ f.1 ∷ f.2 ∷ f.3 ∷ [];
      token = behind_is (codes "q4:") t text eb ∙ ap (λ (x : List ℕ). codes "q4:" ++ x) joined;
      whole = record { count = refl; fit = (f.5, (f.6, (f.7, (f.8, tt)))) };
    }
value_at t None None ea eb h = absurd cc

pub value_token_of : (t : List ℕ) → is_value t ≡ true → IsValueToken t
unfolding is_value
value_token_of t h = at (either (bytes_eq t (codes "bool:true") || bytes_eq t (codes "bool:false")) (is_value_behind (behind (codes "u64:") t) (behind (codes "q4:") t)) h)
  where
    at : ((bytes_eq t (codes "bool:true") || bytes_eq t (codes "bool:false")) ≡ true) ⊎ (is_value_behind (behind (codes "u64:") t) (behind (codes "q4:") t) ≡ true) → IsValueToken t
    at (inr e) = value_at t (behind (codes "u64:") t) (behind (codes "q4:") t) refl refl e
    at (inl e) = which (either_word t (codes "bool:true") (codes "bool:false") e)
      where
        which : (t ≡ codes "bool:true") ⊎ (t ≡ codes "bool:false") → IsValueToken t
        which (inl f) = record { type = type.Bool; words = 1 ∷ []; token = f; whole = record { count = refl; fit = (lit< tt, tt) } }
        which (inr f) = record { type = type.Bool; words = 0 ∷ []; token = f; whole = record { count = refl; fit = (lit< tt, tt) } }
