-- Things under numbers, and the index of the parties and names that they stand under.
use Rattle.std.specs.Prelude.{◌≡◌, ℕ, ◌<◌, Bool, true, false, ◌&&◌, if◌then◌else◌, nat_eq, List, Option, Some, None}
use Rattle.std.specs.Str.{bytes_eq}
use Rattle.std.specs.HashMap.{get, spare}
use Rattle.board_model.specs.Tables.{holds_at}
use Rattle.board_model.specs.Things.{Held, is_held_as}
use Rattle.script_seats.specs.declared.seats.Seat.{Seat}
use Rattle.script_seats.specs.declared.seats.Seats.{Seats}
use Rattle.script_seats.specs.declared.seats.Seats.TheVariants as seats
use Rattle.script_seats.specs.declared.seats.Sought.{Sought}
use Rattle.script_seats.specs.declared.seats.Sought.TheVariants as sought

-- ---- a party's name

abbrev pub SeatOf : Type 0
SeatOf = Seat

-- two parties' names under which something is kept are the same
abbrev pub same_seat : Seat → Seat → Bool
same_seat a b = bytes_eq a.party b.party && bytes_eq a.name b.name

-- the party's name that a thing is under
abbrev pub seat_of : Held → Seat
seat_of t = record { party = t.holder; name = t.name }

-- the thing is under this one
abbrev pub is_at : Seat → Held → Bool
is_at s t = is_held_as s.party s.name t

-- the thing by another name
abbrev pub called : List ℕ → Held → Held
called name t = record t { name = name }

-- ---- things under numbers

module _ {X : Type 0} where
  -- no things
  abbrev pub nothing : ℕ → Option X
  nothing n = None

  -- the things, where this one or none stands under a number
  abbrev pub put : ℕ → Option X → (ℕ → Option X) → ℕ → Option X
  put number x things n = if nat_eq number n then x else things n

  -- nothing that stands passes the test
  abbrev pub IsNowhere : (X → Bool) → (ℕ → Option X) → Type 0
  IsNowhere p things = (n : ℕ) → holds_at (things n) p ≡ false

  -- what stands under this number passes, and nothing else does
  pub record IsOnlyAt (p : X → Bool) (things : ℕ → Option X) (number : ℕ) : Type 0 where
    pub passes : holds_at (things number) p ≡ true
    pub others : (n : ℕ) → nat_eq number n ≡ false → holds_at (things n) p ≡ false

  -- the number of the only one that passes, if one does
  abbrev pub IsNumberOf : (X → Bool) → (ℕ → Option X) → Option ℕ → Type 0
  IsNumberOf p things None = IsNowhere p things
  IsNumberOf p things (Some n) = IsOnlyAt p things n

-- ---- the index

-- under each party's name stands one thing at most, and its number is kept; or nothing is known
abbrev pub IsIndex : Seats → (ℕ → Option Held) → Type 0
IsIndex (seats.Single m) things = (s : Seat) → IsNumberOf (is_at s) things (get same_seat m s)
IsIndex seats.Unknown things = Unit {0}

-- numbers are kept, and not given up
abbrev pub is_kept : Seats → Bool
is_kept (seats.Single m) = true
is_kept seats.Unknown = false

-- what is known of a name was told
abbrev pub is_told : Sought → Bool
is_told sought.Nothing = true
is_told (sought.Only n) = true
is_told sought.Unknown = false

-- there is memory for one more
abbrev pub HasRoom : Seats → Type 0
HasRoom (seats.Single m) = 0 < spare m
HasRoom seats.Unknown = Unit {0}

-- what stands under a name
abbrev pub Finds : (Held → Bool) → (ℕ → Option Held) → Sought → Type 0
Finds p things sought.Nothing = IsNowhere p things
Finds p things (sought.Only n) = IsOnlyAt p things n
Finds p things sought.Unknown = Unit {0}

-- the one thing under a name goes
abbrev pub Takes : (Held → Bool) → (ℕ → Option Held) → Seats → Sought → Type 0
Takes p things new sought.Nothing = IsNowhere p things × IsIndex new things
Takes p things new (sought.Only n) = IsOnlyAt p things n × IsIndex new (put n None things)
Takes p things new sought.Unknown = new ≡ seats.Unknown

-- the one thing under a name has this number, and the index is right once it has the other name
pub record IsRenamedAt (things : ℕ → Option Held) (from to : Seat) (new : Seats) (n : ℕ) : Type 0 where
  pub only : IsOnlyAt (is_at from) things n
  pub index : (t : Held) → things n ≡ Some t → IsIndex new (put n (Some (called to.name t)) things)

-- a name goes over into another one
abbrev pub Renames : (ℕ → Option Held) → Seat → Seat → Seats → Sought → Type 0
Renames things from to new sought.Nothing = IsNowhere (is_at from) things × IsIndex new things
Renames things from to new (sought.Only n) = IsRenamedAt things from to new n
Renames things from to new sought.Unknown = new ≡ seats.Unknown
