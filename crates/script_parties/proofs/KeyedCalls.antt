-- Calls that compare keys answer alike where their tests of keys agree.
use Rattle.std.proofs.Common.{◌≡◌, ℕ, ◌+◌, ◌^◌, ◌<◌, ◌≤◌, Bool, cond, List, [], ◌∷◌, length, refl, sym, ap, ◌∙◌, Option, Some, None}
use Rattle.std.specs.Prelude.{find, nat_eq, ◌||◌}
use Rattle.std.specs.Cmp.Lexicographic.{pointwise}
use Rattle.std.specs.Ordering.{on}
use Rattle.std.specs.List.{AllByRecursion}
use Rattle.board_layout.specs.declared.f8.F8.{F8}
use Rattle.board_layout.specs.Keys.{is_key}
use Rattle.board_layout.specs.Bytes.{padded}
use Rattle.board_layout.specs.declared.type_detail.TypeDetail.{TypeDetail}
use Rattle.board_model.specs.declared.tables.Board.{Board}
use Rattle.board_model.specs.declared.tables.Entry.{Entry}
use Rattle.board_model.specs.declared.tables.Thing.{Thing}
use Rattle.board_model.specs.declared.value.Key.{Key}
use Rattle.board_model.specs.declared.value.Key.TheVariants as key
use Rattle.board_model.specs.Replies as replies
use Rattle.board_model.specs.Tables.{Added, Tables, board_at, entry_found, entry_from, has_equal_keys, has_key, is_numbered, of_type}
use Rattle.board_model.proofs.ThingLemmas.{all_found}
use Rattle.board_service.specs.Domain.{Domain, create_answer, entry_for}
use Rattle.script_parties.proofs.KeyTests.{first_text, first_word, is_number, is_text, lowered}
use Rattle.script_parties.specs.Keyed.{AgreeOnPairs}
use Rattle.script_parties.specs.Named.{HasShortKey, HasShortKeys}
use Rattle.board_model.specs.ShortKeys.{IsShortKey}

-- the tests agree on short keys
abbrev pub Agree : (List ℕ → Bool) → (List ℕ → Bool) → Type 0
Agree s t = (a : List ℕ) → IsShortKey a → s a ≡ t a

-- ---- new entries

pub has_key_same : (s t : List ℕ → List ℕ → Bool) → AgreeOnPairs s t → (k : List ℕ) → IsShortKey k → (es : List Added) → AllByRecursion HasShortKey es → has_key s k es ≡ has_key t k es
has_key_same s t agree k h [] es = refl
has_key_same s t agree k h (e ∷ more) es =
    ap (λ (b : Bool). b || has_key s k more) (agree e.key k es.0 h) ∙ ap (λ (b : Bool). t e.key k || b) (has_key_same s t agree k h more es.1)

pub equal_keys_same : (s t : List ℕ → List ℕ → Bool) → AgreeOnPairs s t → (es : List Added) → AllByRecursion HasShortKey es → has_equal_keys s es ≡ has_equal_keys t es
equal_keys_same s t agree [] es = refl
equal_keys_same s t agree (e ∷ more) es =
    ap (λ (b : Bool). b || has_equal_keys s more) (has_key_same s t agree e.key es.0 more es.1) ∙ ap (λ (b : Bool). has_key t e.key more || b) (equal_keys_same s t agree more es.1)

pub create_same : {C : Type 0} (d : Domain C) (s t : List ℕ → List ℕ → Bool) → AgreeOnPairs s t → (name : List ℕ) (es : List Added) → AllByRecursion HasShortKey es → create_answer d s name es ≡ create_answer d t name es
create_same d s t agree name es h = rw (equal_keys_same s t agree es h) refl

-- ---- entries that stand

entry_from_same : (s t : List ℕ → Bool) → Agree s t → (i : ℕ) (es : List Entry) → AllByRecursion (λ (e : Entry). IsShortKey e.key.bytes) es → entry_from i s es ≡ entry_from i t es
entry_from_same s t agree i [] h = refl
entry_from_same s t agree i (e ∷ es) h =
    ap (λ (b : Bool). cond b (Some (i, e)) (entry_from (i + 1) s es)) (agree e.key.bytes h.0) ∙ ap (λ (o : Option (ℕ × Entry)). cond (t e.key.bytes) (Some (i, e)) o) (entry_from_same s t agree (i + 1) es h.1)

found_same : (s t : List ℕ → Bool) → Agree s t → (boards : List Board) → AllByRecursion HasShortKeys boards → (p : Board → Bool) (value : TypeDetail) → entry_found (find p boards) s value ≡ entry_found (find p boards) t value
found_same s t agree boards h p value = at (find p boards) refl
  where
    at : (b : Option Board) → find p boards ≡ b → entry_found b s value ≡ entry_found b t value
    at None e = refl
    at (Some b) e = ap (λ (o : Option (ℕ × Entry)). of_type value o) (entry_from_same s t agree 0 b.entries (all_found HasShortKeys p boards b h e))

-- the entry that is looked up is the same
pub entry_same : {H N : Type 0} (t : Tables H N) → AllByRecursion HasShortKeys t.boards → (p q : List ℕ → Bool) → Agree p q → (number : ℕ) (value : TypeDetail) → entry_found (board_at t number) p value ≡ entry_found (board_at t number) q value
entry_same t h p q agree number value = found_same p q agree t.boards h (is_numbered number) value

-- with a key that is a number
pub found_by_number : {C : Type 0} (d : Domain C) → AllByRecursion HasShortKeys d.tables.boards → (n : ℕ) → n < 2 ^ 64 → (k : Key) → k ≡ key.U64 n → (of : Thing ℕ ℕ) (value : TypeDetail)
    → entry_for d of (is_key nat_eq first_word 8 1 n) value ≡ entry_for d of (replies.keeps_key k) value
found_by_number d h n small k e of value =
    entry_same d.tables h (is_key nat_eq first_word 8 1 n) (replies.keeps_key (key.U64 n)) (is_number n small) of.board value
    ∙ ap (λ (x : Key). entry_for d of (replies.keeps_key x) value) (sym e)

-- with a key that is a text
pub found_by_text : {C : Type 0} (d : Domain C) → AllByRecursion HasShortKeys d.tables.boards → (text : List ℕ) (f : F8) → length text ≤ 8 → f.bytes ≡ padded 8 text → (k : Key) → k ≡ key.F8 text → (of : Thing ℕ ℕ) (value : TypeDetail)
    → entry_for d of (is_key (on lowered (pointwise nat_eq)) first_text 8 1 f) value ≡ entry_for d of (replies.keeps_key k) value
found_by_text d h text f most b k e of value =
    entry_same d.tables h (is_key (on lowered (pointwise nat_eq)) first_text 8 1 f) (replies.keeps_key (key.F8 text)) (is_text text f most b) of.board value
    ∙ ap (λ (x : Key). entry_for d of (replies.keeps_key x) value) (sym e)
