-- The names of things by the things' numbers, with the index of parties and names. No public clause speaks of this.
use Rattle.std.specs.Prelude.{◌≡◌, ℕ, ◌<◌, Bool, true, false, ◌&&◌, find, if◌then◌else◌, nat_eq, nat_lt, option_map, List, [], ◌∷◌, Option, Some, None}
use Rattle.std.specs.HashMap.{get}
use Rattle.board_model.specs.declared.tables.Thing.{Thing}
use Rattle.board_model.specs.Tables.{holds_at}
use Rattle.board_model.specs.Things.{Held}
use Rattle.board_service.specs.Domain.{Domain, is_thing}
use Rattle.script_parties.specs.declared.named.NamedThings.{NamedThings}
use Rattle.script_seats.specs.Seats.{SeatOf, put, same_seat, seat_of}
use Rattle.script_seats.specs.Seats as seats

-- ---- names

-- the party and its name for a thing are these
abbrev pub is_seat : SeatOf → SeatOf → Bool
is_seat s r = same_seat r s

-- the party has this name for the thing in place of another
abbrev pub renamed_seat : List ℕ → SeatOf → SeatOf
renamed_seat name s = record s { name = name }

-- so where party and name are those, and as it was elsewhere
abbrev pub seat_anew : SeatOf → List ℕ → SeatOf → SeatOf
seat_anew from new s = if is_seat from s then renamed_seat new s else s

-- the name of the thing with the number
abbrev pub seat_at : NamedThings → ℕ → Option SeatOf
seat_at t number = get nat_eq t.names number

-- these are the names of the things
abbrev pub AreNames : (ℕ → Option SeatOf) → (ℕ → Option Held) → Type 0
AreNames names things = (n : ℕ) → names n ≡ option_map seat_of (things n)

-- the names are those of these things, and the index is right for them
pub record IsNames (t : NamedThings) (things : ℕ → Option Held) : Type 0 where
  pub index : seats.IsIndex t.seats things
  pub names : AreNames (seat_at t) things

-- the names are those of these things without the one with the number, if there is a number
abbrev pub IsNamesOf : NamedThings → (ℕ → Option Held) → Option ℕ → Type 0
IsNamesOf t things None = IsNames t things
IsNamesOf t things (Some number) = IsNames t (put number None things)

-- ---- things, each told by its name and by the core

-- a thing of the core under a party's name
abbrev pub under : SeatOf → Thing ℕ ℕ → Held
under s t = record { holder = s.party; name = s.name; board = t.board; kind = t.kind }

-- where both are there
abbrev pub both : Option SeatOf → Option (Thing ℕ ℕ) → Option Held
both None t = None
both (Some s) None = None
both (Some s) (Some t) = Some (under s t)

-- the thing under a number
abbrev pub things_by : {C : Type 0} → (ℕ → Option SeatOf) → Domain C → ℕ → Option Held
things_by names d n = both (names n) (find (is_thing n) d.tables.things)

-- the thing under a number, if there is a number
abbrev pub thing_at : (ℕ → Option Held) → Option ℕ → Option Held
thing_at things None = None
thing_at things (Some n) = things n

-- ---- the first thing that passes a test

abbrev pub is_before : ℕ → Option ℕ → Bool
is_before n None = true
is_before n (Some first) = nat_lt n first

module _ {X : Type 0} (p : X → Bool) (things : ℕ → Option X) where
  -- what stands under the number passes, and nothing below it does
  pub record IsLeast (number : ℕ) : Type 0 where
    pub passes : holds_at (things number) p ≡ true
    pub below : (n : ℕ) → n < number → holds_at (things n) p ≡ false

  -- the least number of what passes, if anything does
  abbrev pub IsFirst : Option ℕ → Type 0
  IsFirst None = seats.IsNowhere p things
  IsFirst (Some n) = IsLeast n

  -- the first so far, after one number more
  abbrev pub earlier : Option ℕ → ℕ → Option ℕ
  earlier first n = if holds_at (things n) p && is_before n first then Some n else first

  -- the first of those so far and these
  abbrev pub earliest : Option ℕ → List ℕ → Option ℕ
  earliest first [] = first
  earliest first (n ∷ ns) = earliest (earlier first n) ns
