-- The things of a domain under their numbers, as contracts see them.
use Rattle.std.specs.Prelude.{ℕ, Bool, ◌==◌, find, List, Option, Some, None, IsSome}
use Rattle.board_model.specs.declared.tables.Thing.{Thing}
use Rattle.board_model.specs.declared.tables.Kind.{Kind}
use Rattle.board_model.specs.declared.tables.Kind.TheVariants as kind

-- the things, the number that was drawn last, and for how many more things there is memory
pub record Numbered : Type 0 where
  pub things : List (Thing ℕ ℕ)
  pub last : ℕ
  pub room : ℕ

abbrev pub is_thing : ℕ → Thing ℕ ℕ → Bool
is_thing number t = t.name == number

abbrev pub thing_or_none : Option (Thing ℕ ℕ) → Thing ℕ ℕ
thing_or_none None = record { holder = 0; name = 0; board = 0; kind = kind.Factory }
thing_or_none (Some t) = t

-- the thing with the number, where it stands
abbrev pub thing_numbered : ℕ → List (Thing ℕ ℕ) → Thing ℕ ℕ
thing_numbered number things = thing_or_none (find (is_thing number) things)

-- a thing with the number stands
abbrev pub HasThing : Numbered → ℕ → Type 0
HasThing n number = IsSome (find (is_thing number) n.things)

-- a thing under a number
abbrev pub new_thing : ℕ → ℕ → ℕ → Kind → Thing ℕ ℕ
new_thing number holder board k = record { holder = holder; name = number; board = board; kind = k }
