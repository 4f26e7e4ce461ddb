-- The room that a buffer has.
use Rattle.std.specs.Prelude.{ℕ, ◌+◌, ◌<◌, List, length, vec_capacity, vec_len}
use Rattle.std.specs.Global.{Vec}

-- the buffer has no room for these bytes behind what it holds
abbrev pub LacksRoomFor : Vec ℕ → List ℕ → Type 0
LacksRoomFor out bytes = vec_capacity out < vec_len out + length bytes
