-- The parties of listeners, and where one party's stand.
use Rattle.std.specs.Prelude.{◌≡◌, ℕ, zero, suc, ◌<◌, Bool, false, if◌then◌else◌, List, [], length, Option, None, Some, slice_get, slice_index_or}
use Rattle.std.specs.HashMap.{HashMap, get}
use Rattle.std.specs.Str.{bytes_eq}

-- the listener that was looked up is the party's
abbrev pub is_party : Option (List ℕ) → List ℕ → Bool
is_party None party = false
is_party (Some listener) party = bytes_eq party listener

-- where the party's last listener of the first n stands
abbrev pub last_of : List ℕ → List (List ℕ) → ℕ → Option ℕ
last_of party listeners zero = None
last_of party listeners (suc n) = if is_party (slice_get listeners n) party then Some n else last_of party listeners n

-- each party's last listener is kept, and for each listener the party's one before it
pub record AreChained {S : Type 0} (last : HashMap (List ℕ) ℕ S) (parties : List (List ℕ)) (before : List (Option ℕ)) : Type 0 where
  pub ends : (party : List ℕ) → get bytes_eq last party ≡ last_of party parties (length parties)
  pub each : length before ≡ length parties
  pub links : (i : ℕ) (d : Option ℕ) → i < length parties → slice_index_or before i d ≡ last_of (slice_index_or parties i []) parties i
