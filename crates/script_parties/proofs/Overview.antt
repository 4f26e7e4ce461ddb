-- What is told of a board, and things that take other names.
use Rattle.std.proofs.Common.{◌≡◌, ℕ, Bool, true, false, cond, List, [], ◌∷◌, length, map, refl, ap, ◌∙◌, Option, Some, None}
use Rattle.std.specs.Prelude.{nat_eq, option_map}
use Rattle.std.specs.Str.{bytes_eq}
use Rattle.std.proofs.lemmas.Option.{same_Some}
use Rattle.board_model.specs.declared.answer.Info.{Info}
use Rattle.board_model.specs.declared.attributes.Attribute.{Attribute}
use Rattle.board_model.specs.declared.tables.Board.{Board}
use Rattle.board_model.specs.declared.tables.Thing.{Thing}
use Rattle.board_model.specs.declared.value.KeyType.{KeyType}
use Rattle.board_model.specs.Replies.{info_of}
use Rattle.board_model.specs.Tables.{nodes_taken, reader_slots, rename, writer_slots}
use Rattle.board_model.specs.Things.{Held, is_held_as, named_anew}
use Rattle.board_model.specs.TypeTable.{key_type_of}
use Rattle.board_service.specs.declared.told.DynamicConfig.{DynamicConfig}
use Rattle.board_service.specs.declared.told.StaticConfig.{StaticConfig}
use Rattle.board_service.specs.Told as told
use Rattle.script_parties.specs.Named.{nameless, own}

-- ---- info

-- as much is taken of each board
pub record TakeAlike (xs : List Held) (ts : List (Thing ℕ ℕ)) : Type 0 where
  pub readers : (n : ℕ) → reader_slots n xs ≡ reader_slots n ts
  pub writers : (n : ℕ) → writer_slots n xs ≡ writer_slots n ts
  pub nodes : (n : ℕ) → nodes_taken bytes_eq n xs ≡ nodes_taken nat_eq n ts

-- what a core tells of the board
pub record IsTold (ts : List (Thing ℕ ℕ)) (board : Option Board) (name : List ℕ) (config : StaticConfig) (attributes : List Attribute) (taken : DynamicConfig) : Type 0 where
  pub name_is : Some name ≡ option_map (λ (b : Board). b.name) board
  pub config_is : Some config ≡ option_map told.config board
  pub attributes_are : Some attributes ≡ option_map (λ (b : Board). b.attributes) board
  pub taken_is : Some taken ≡ option_map (told.use_in ts) board

pub info_told : (xs : List Held) (ts : List (Thing ℕ ℕ)) (board : Option Board) (name : List ℕ) (config : StaticConfig) (attributes : List Attribute) (taken : DynamicConfig) → TakeAlike xs ts → IsTold ts board name config attributes taken
    → (text : List ℕ) (key : KeyType) (count : ℕ) → text ≡ name → key ≡ key_type_of config.type_details → count ≡ length attributes
    → ◌≡◌ {A = Info} (record { name = text; key_type = key; max_readers = config.max_readers; max_nodes = config.max_nodes; max_writers = config.max_writers; entries = config.entries; attributes = count; readers = taken.readers; writers = taken.writers; nodes = taken.nodes }) (info_of xs board)
info_told xs ts None name config attributes taken alike h text key count e k n = absurd (let x = h.name_is in cc)
info_told xs ts (Some b) name config attributes taken alike h text key count e k n =
    let name_is : name ≡ b.name = same_Some name b.name h.name_is in
    let config_is : config ≡ told.config b = same_Some config (told.config b) h.config_is in
    let attributes_are : attributes ≡ b.attributes = same_Some attributes b.attributes h.attributes_are in
    let taken_is : taken ≡ told.use_in ts b = same_Some taken (told.use_in ts b) h.taken_is in
    rw (e, k, n, name_is, config_is, attributes_are, taken_is, alike.readers b.number, alike.writers b.number, alike.nodes b.number) refl

-- ---- other names

unnamed : (party old new : List ℕ) (x : Held) → rename own nameless (named_anew party old new x) ≡ rename own nameless x
unnamed party old new x = at (is_held_as party old x)
  where
    at : (b : Bool) → rename own nameless (cond b (record x { name = new }) x) ≡ rename own nameless x
    at true = refl
    at false = refl

-- a new name changes only the name
pub renamed_alike : (party old new : List ℕ) (xs : List Held) → map (rename own nameless) (map (named_anew party old new) xs) ≡ map (rename own nameless) xs
renamed_alike party old new [] = refl
renamed_alike party old new (x ∷ xs) =
    ap (λ (y : Held). y ∷ map (rename own nameless) (map (named_anew party old new) xs)) (unnamed party old new x) ∙ ap (λ (ys : List Held). rename own nameless x ∷ ys) (renamed_alike party old new xs)
