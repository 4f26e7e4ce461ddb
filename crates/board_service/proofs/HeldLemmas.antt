-- Who held a thing holds it after one more was made, and holds that one.
use Rattle.std.proofs.Common.{◌≡◌, ℕ, ◌+◌, Bool, true, false, cond, List, [], ◌∷◌, ◌++◌, refl, sym, ap, subst, ◌∙◌, Option, Some, None, arith}
use Rattle.std.specs.Prelude.{◌&&◌, ◌==◌, find, is_some}
use Rattle.std.proofs.lemmas.List.{append-nil}
use Rattle.board_layout.specs.declared.type_detail.TypeDetail.{TypeDetail}
use Rattle.board_model.specs.declared.tables.Board.{Board}
use Rattle.board_model.specs.declared.tables.Thing.{Thing}
use Rattle.board_model.specs.declared.tables.Kind.{Kind}
use Rattle.board_model.specs.declared.tables.Kind.TheVariants as kind
use Rattle.board_model.specs.declared.tables.ThingKind.{ThingKind}
use Rattle.board_model.specs.declared.tables.ThingKind.TheVariants as thing_kind
use Rattle.board_model.specs.Tables.{board_at, holds_at, is_numbered, kind_of, same_kind}
use Rattle.board_model.specs.TypeTable.{same_type, same_variant}
use Rattle.board_layout.specs.declared.type_detail.TypeVariant.{TypeVariant}
use Rattle.board_layout.specs.declared.type_detail.TypeVariant.TheVariants.{FixedSize, Dynamic}
use Rattle.std.specs.Str.{bytes_eq}
use Rattle.std.proofs.lemmas.Slice.Eq.{bytes_eq-Decides}
use Rattle.board_service.specs.Domain.{Domain, Stands, held, is_thing, next_thing, stands_as, thing_or_none, with_next, with_next_port}
use Rattle.board_service.specs.Facts.{IsDomain, IsHeldAs, IsHeldBeside, KeepsHeld, board_number, thing_number}
use Rattle.board_service.proofs.DrawnLemmas.{find-push, none_above}

-- the board that was found has keys of this type
abbrev has_keys : List Board → ℕ → TypeDetail → Bool
has_keys boards board key = holds_at (find (is_numbered board) boards) (λ b. same_type b.key key)

-- what holds of what is found holds of it with more behind
found_kept : {X : Type 0} (p f g : X → Bool) (xs more : List X) → ((x : X) → f x ≡ true → g x ≡ true) → holds_at (find p xs) f ≡ true → holds_at (find p (xs ++ more)) g ≡ true
found_kept p f g [] more leads h = absurd cc
found_kept {X = X} p f g (x ∷ xs) more leads h = at (p x) (found_kept p f g xs more leads) h
  where
    at : (c : Bool) → (holds_at (find p xs) f ≡ true → holds_at (find p (xs ++ more)) g ≡ true) → holds_at (cond c (Some x) (find p xs)) f ≡ true → holds_at (cond c (Some x) (find p (xs ++ more))) g ≡ true
    at true ih k = leads x k
    at false ih k = ih k

both_kept : (a b c : Bool) → (b ≡ true → c ≡ true) → (a && b) ≡ true → (a && c) ≡ true
both_kept true b c leads h = leads h
both_kept false b c leads h = h

stands_kept : {X : Type 0} (p : X → Bool) (xs more : List X) → is_some (find p xs) ≡ true → is_some (find p (xs ++ more)) ≡ true
stands_kept p [] more h = absurd cc
stands_kept {X = X} p (x ∷ xs) more h = at (p x) (stands_kept p xs more) h
  where
    at : (c : Bool) → (is_some (find p xs) ≡ true → is_some (find p (xs ++ more)) ≡ true) → is_some (cond c (Some x) (find p xs)) ≡ true → is_some (cond c (Some x) (find p (xs ++ more))) ≡ true
    at true ih k = refl
    at false ih k = ih k

-- with boards and things behind the others
kinds_more : {C : Type 0} (old new : Domain C) (boards : List Board) (things : List (Thing ℕ ℕ)) → new.tables.boards ≡ old.tables.boards ++ boards → new.tables.things ≡ old.tables.things ++ things
    → (key : TypeDetail) (thing : ℕ) (k : ThingKind) → stands_as old key thing k ≡ true → stands_as new key thing k ≡ true
kinds_more old new boards things boards_are things_are key thing k h =
    let leads : (t : Thing ℕ ℕ) → (same_kind (kind_of t.kind) k && has_keys old.tables.boards t.board key) ≡ true → (same_kind (kind_of t.kind) k && has_keys (old.tables.boards ++ boards) t.board key) ≡ true =
    λ t. both_kept (same_kind (kind_of t.kind) k) (has_keys old.tables.boards t.board key) (has_keys (old.tables.boards ++ boards) t.board key)
    (found_kept (is_numbered t.board) (λ b. same_type b.key key) (λ b. same_type b.key key) old.tables.boards boards (λ b e. e)) in
    let kept = found_kept (is_thing thing) (λ t. same_kind (kind_of t.kind) k && has_keys old.tables.boards t.board key) (λ t. same_kind (kind_of t.kind) k && has_keys (old.tables.boards ++ boards) t.board key) old.tables.things things leads h in
    rw (boards_are, things_are) kept

pub held_more : {C : Type 0} (old new : Domain C) (boards : List Board) (things : List (Thing ℕ ℕ)) → new.tables.boards ≡ old.tables.boards ++ boards → new.tables.things ≡ old.tables.things ++ things → KeepsHeld old new
held_more old new boards things boards_are things_are = record {
  as_kind = λ key thing k h. kinds_more old new boards things boards_are things_are key thing k h;
  stands = λ thing h. rw things_are (stands_kept (is_thing thing) old.tables.things things h);
}

-- with one thing behind the others
pub held_next : {C : Type 0} (old new : Domain C) (x : Thing ℕ ℕ) → new.tables.boards ≡ old.tables.boards → new.tables.things ≡ old.tables.things ++ x ∷ [] → KeepsHeld old new
held_next old new x boards_are things_are = held_more old new [] (x ∷ []) (boards_are ∙ sym (append-nil old.tables.boards)) things_are

-- where nothing changed
pub held_same : {C : Type 0} (old new : Domain C) → new ≡ old → KeepsHeld old new
held_same old new same = record {
  as_kind = λ key thing k h. rw same h;
  stands = λ thing h. rw same h;
}

-- the board of a thing that is held has the keys
keys_of_held : (key : TypeDetail) (k : ThingKind) (boards : List Board) (o : Option (Thing ℕ ℕ)) → holds_at o (λ t. same_kind (kind_of t.kind) k && has_keys boards t.board key) ≡ true → has_keys boards (thing_or_none o).board key ≡ true
keys_of_held key k boards None h = absurd cc
keys_of_held key k boards (Some t) h = at (same_kind (kind_of t.kind) k) h
  where
    at : (c : Bool) → (c && has_keys boards t.board key) ≡ true → has_keys boards t.board key ≡ true
    at true e = e
    at false e = absurd cc

-- the next thing is found under its number
pub next_found : {C : Type 0} (old : Domain C) (x : Thing ℕ ℕ) → IsDomain old → x.name ≡ old.last_thing + 1 → find (is_thing (old.last_thing + 1)) (old.tables.things ++ x ∷ []) ≡ Some x
next_found old x is named =
    let none = none_above thing_number is_thing (λ n y. refl) old.last_thing (old.last_thing + 1) old.tables.things is.tables.things (omega arith) in
    find-push thing_number is_thing (λ n y. refl) (old.last_thing + 1) old.tables.things x (sym named) none

-- the next thing stands
pub next_stands : {C : Type 0} (old new : Domain C) (x : Thing ℕ ℕ) (thing : ℕ) → IsDomain old → new.tables.things ≡ old.tables.things ++ x ∷ [] → x.name ≡ old.last_thing + 1 → thing ≡ old.last_thing + 1 → Stands new thing
next_stands old new x thing is things_are named number =
    let found = next_found old x is named in
    rw (number, things_are, found) refl

-- the next thing is held, where its board has the keys
pub next_held : {C : Type 0} (old new : Domain C) (x : Thing ℕ ℕ) (thing : ℕ) (key : TypeDetail) (k : ThingKind) → IsDomain old → new.tables.things ≡ old.tables.things ++ x ∷ [] → x.name ≡ old.last_thing + 1 → thing ≡ old.last_thing + 1
    → same_kind (kind_of x.kind) k ≡ true → holds_at (board_at new.tables x.board) (λ b. same_type b.key key) ≡ true → IsHeldAs new key thing k
next_held old new x thing key k is things_are named number same keys =
    let found = next_found old x is named in
    record {
      as_kind = rw (number, things_are, found, same) keys;
      stands = next_stands old new x thing is things_are named number;
    }

-- the next thing is of the board of one that is held
pub next_beside : {C : Type 0} (old new : Domain C) (of : ℕ) (x : Thing ℕ ℕ) (thing : ℕ) (k : ThingKind) → IsDomain old → new.tables.boards ≡ old.tables.boards → new.tables.things ≡ old.tables.things ++ x ∷ []
    → x.name ≡ old.last_thing + 1 → thing ≡ old.last_thing + 1 → x.board ≡ (held old of).board → same_kind (kind_of x.kind) k ≡ true → IsHeldBeside old new of thing k
next_beside old new of x thing k is boards_are things_are named number board same = record {
  as_kind = λ key was h.
      let keys = keys_of_held key was old.tables.boards (find (is_thing of) old.tables.things) h in
      let there : has_keys old.tables.boards x.board key ≡ true = subst (λ (n : ℕ). has_keys old.tables.boards n key ≡ true) (sym board) keys in
      let here : has_keys new.tables.boards x.board key ≡ true = subst (λ (bs : List Board). has_keys bs x.board key ≡ true) (sym boards_are) there in
      (next_held old new x thing key k is things_are named number same here).as_kind;
  stands = next_stands old new x thing is things_are named number;
}

-- a type is its own
pub same_type-refl : (d : TypeDetail) → same_type d d ≡ true
same_type-refl d =
    let variant = same_variant-refl d.variant in
    let name : bytes_eq d.type_name d.type_name ≡ true = (bytes_eq-Decides d.type_name d.type_name).1 refl in
    let size : (d.size == d.size) ≡ true = grind arith in
    let alignment : (d.alignment == d.alignment) ≡ true = grind arith in
    rw (variant, name, size, alignment) refl
  where
    same_variant-refl : (v : TypeVariant) → same_variant v v ≡ true
    same_variant-refl FixedSize = refl
    same_variant-refl Dynamic = refl

-- ---- after the next thing was added

pub kept_next : {C : Type 0} (old new : Domain C) (holder board : ℕ) (k : Kind) → new ≡ with_next old holder board k → KeepsHeld old new
kept_next {C = C} old new holder board k is = held_next old new (next_thing old holder board k) (ap (λ (d : Domain C). d.tables.boards) is) (ap (λ (d : Domain C). d.tables.things) is)

pub kept_next_port : {C : Type 0} (old new : Domain C) (holder board : ℕ) (k : Kind) → new ≡ with_next_port old holder board k → KeepsHeld old new
kept_next_port {C = C} old new holder board k is = held_next old new (next_thing old holder board k) (ap (λ (d : Domain C). d.tables.boards) is) (ap (λ (d : Domain C). d.tables.things) is)

pub beside_next : {C : Type 0} (old new : Domain C) (of : ℕ) (t : Thing ℕ ℕ) (k : Kind) (as_kind : ThingKind) (thing : ℕ) → IsDomain old → t ≡ held old of → new ≡ with_next old t.holder t.board k
    → thing ≡ old.last_thing + 1 → same_kind (kind_of k) as_kind ≡ true → IsHeldBeside old new of thing as_kind
beside_next {C = C} old new of t k as_kind thing known is added number same =
    next_beside old new of (next_thing old t.holder t.board k) thing as_kind known (ap (λ (d : Domain C). d.tables.boards) added) (ap (λ (d : Domain C). d.tables.things) added)
    refl number (ap (λ (x : Thing ℕ ℕ). x.board) is) same

pub beside_next_port : {C : Type 0} (old new : Domain C) (of : ℕ) (t : Thing ℕ ℕ) (k : Kind) (as_kind : ThingKind) (thing : ℕ) → IsDomain old → t ≡ held old of → new ≡ with_next_port old t.holder t.board k
    → thing ≡ old.last_thing + 1 → same_kind (kind_of k) as_kind ≡ true → IsHeldBeside old new of thing as_kind
beside_next_port {C = C} old new of t k as_kind thing known is added number same =
    next_beside old new of (next_thing old t.holder t.board k) thing as_kind known (ap (λ (d : Domain C). d.tables.boards) added) (ap (λ (d : Domain C). d.tables.things) added)
    refl number (ap (λ (x : Thing ℕ ℕ). x.board) is) same

-- ---- after a board was made

-- what was read before, and pushed to
pub kept_created : {C : Type 0} (old new : Domain C) (b : Board) (x : Thing ℕ ℕ) (boards : List Board) (things : List (Thing ℕ ℕ)) → new.tables.boards ≡ boards ++ b ∷ [] → boards ≡ old.tables.boards
    → new.tables.things ≡ things ++ x ∷ [] → things ≡ old.tables.things → KeepsHeld old new
kept_created old new b x boards things boards_are boards_were things_are things_were =
    held_more old new (b ∷ []) (x ∷ []) (boards_are ∙ ap (λ (bs : List Board). bs ++ b ∷ []) boards_were) (things_are ∙ ap (λ (ts : List (Thing ℕ ℕ)). ts ++ x ∷ []) things_were)

-- the factory of the new board
pub factory_held : {C : Type 0} (old new : Domain C) (b : Board) (x : Thing ℕ ℕ) (boards : List Board) (things : List (Thing ℕ ℕ)) (thing : ℕ) (key : TypeDetail) → IsDomain old → new.tables.boards ≡ boards ++ b ∷ [] → boards ≡ old.tables.boards
    → new.tables.things ≡ things ++ x ∷ [] → things ≡ old.tables.things → b.number ≡ old.tables.last_board + 1 → x.board ≡ old.tables.last_board + 1 → x.name ≡ old.last_thing + 1 → x.kind ≡ kind.Factory
    → b.key ≡ key → thing ≡ old.last_thing + 1 → IsHeldAs new key thing thing_kind.Factory
factory_held old new b x boards things thing key is boards_are boards_were things_are things_were numbered of named factory keyed number =
    let all_boards = boards_are ∙ ap (λ (bs : List Board). bs ++ b ∷ []) boards_were in
    let all_things = things_are ∙ ap (λ (ts : List (Thing ℕ ℕ)). ts ++ x ∷ []) things_were in
    let none = none_above board_number is_numbered (λ n y. refl) old.tables.last_board (old.tables.last_board + 1) old.tables.boards is.tables.boards (omega arith) in
    let found = find-push board_number is_numbered (λ n y. refl) (old.tables.last_board + 1) old.tables.boards b (sym numbered) none in
    let own : same_type b.key key ≡ true = subst (λ (k : TypeDetail). same_type b.key k ≡ true) keyed (same_type-refl b.key) in
    let keys : holds_at (board_at new.tables x.board) (λ c. same_type c.key key) ≡ true = rw (of, all_boards, found) own in
    let as_factory : same_kind (kind_of x.kind) thing_kind.Factory ≡ true = rw factory refl in
    next_held old new x thing key thing_kind.Factory is all_things named number as_factory keys
