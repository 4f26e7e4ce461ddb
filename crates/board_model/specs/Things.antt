-- What the parties of a script hold: things of boards, words of loans, and values.
use Rattle.std.specs.Prelude.{ℕ, Bool, ◌&&◌, if◌then◌else◌, List, map, find, Option, Some, None, is_some, ◌||◌}
use Rattle.std.specs.Str.{bytes_eq}
use Rattle.board_model.specs.declared.tables.Thing.{Thing}
use Rattle.board_model.specs.declared.tables.ThingKind.{ThingKind}
use Rattle.board_model.specs.declared.value.ValueType.{ValueType}
use Rattle.board_model.specs.Tables.{Tables, kind_of, same_kind}

-- a thing of a board, under a party and a name
abbrev pub Held : Type 0
Held = Thing (List ℕ) (List ℕ)

-- a value that a party kept; it is of no board
pub record Kept : Type 0 where
  pub type : ValueType
  pub words : List ℕ
  pub generation : ℕ

-- a loan is a write handle with words of its own: none where a word was not put
pub record Standing : Type 0 where
  pub tables : Tables (List ℕ) (List ℕ)
  pub loans : List ℕ → List ℕ → Option (List (Option ℕ))
  pub values : List ℕ → List ℕ → Option Kept

-- ---- looking up

-- the thing belongs to the party and goes by the name
abbrev pub is_held_as : List ℕ → List ℕ → Held → Bool
is_held_as party name t = bytes_eq t.holder party && bytes_eq t.name name

-- the thing of a board that a party holds under a name
abbrev pub thing_of : List Held → List ℕ → List ℕ → Option Held
thing_of things party name = find (is_held_as party name) things

-- where it is of this kind
abbrev pub of_kind : ThingKind → Option Held → Option Held
of_kind k None = None
of_kind k (Some t) = if same_kind (kind_of t.kind) k then Some t else None

-- the thing that a party holds under a name, if it is of this kind
abbrev pub held_of_kind : Standing → ThingKind → List ℕ → List ℕ → Option Held
held_of_kind s k party name = of_kind k (thing_of s.tables.things party name)

-- a party holds something under the name
abbrev pub is_held : Standing → List ℕ → List ℕ → Bool
is_held s party name = is_some (thing_of s.tables.things party name) || is_some (s.values party name)

-- ---- changes

-- what stands under a party and a name is this from now on
abbrev pub with_at : {A : Type 0} → (List ℕ → List ℕ → Option A) → List ℕ → List ℕ → Option A → List ℕ → List ℕ → Option A
with_at f party name x p n = if bytes_eq p party && bytes_eq n name then x else f p n

-- a thing after one of the party's got a new name
abbrev pub named_anew : List ℕ → List ℕ → List ℕ → Held → Held
named_anew party old new t = if is_held_as party old t then record t { name = new } else t

-- the party's thing has another name
abbrev pub with_name : Tables (List ℕ) (List ℕ) → List ℕ → List ℕ → List ℕ → Tables (List ℕ) (List ℕ)
with_name t party old new = record t { things = map (named_anew party old new) t.things }
