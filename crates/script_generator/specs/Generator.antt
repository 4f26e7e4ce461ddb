-- The script that the words `gen N` make.
use Rattle.std.specs.Prelude.{ℕ, zero, suc, ◌+◌, ◌*◌, ◌/◌, ◌%◌, ◌^◌, ◌==◌, nat_le, if◌then◌else◌, List, [], ◌∷◌, ◌++◌, codes, decimal, None}
use Rattle.std.specs.List.{flat_map, join_with_byte}
use Rattle.board_model.specs.TableCalls.{no_limits}
use Rattle.board_model.specs.declared.line.Call.{Call}
use Rattle.board_model.specs.declared.line.Call.TheVariants as call
use Rattle.board_model.specs.declared.line.Line.{Line}
use Rattle.board_model.specs.declared.line.Line.TheVariants as line
use Rattle.board_model.specs.declared.value.Key.TheVariants as key
use Rattle.board_model.specs.declared.value.KeyType.TheVariants as key_type
use Rattle.board_model.specs.declared.value.Value.TheVariants as value
use Rattle.board_model.specs.declared.value.ValueType.TheVariants as type
use Rattle.board_model.specs.WorkedSessions.{added, no_needs, unlimited}

-- ---- the opening: a board of two entries, with one writer and two readers

-- the party begins the call, and takes its one step
abbrev pub asked_once : List ℕ → Call → List Line
asked_once party c = line.Begin party c ∷ line.Step party ∷ []

-- so it does with each call
abbrev pub asked_by : List ℕ → List Call → List Line
asked_by party calls = flat_map (λ c. asked_once party c) calls

-- the board `gen` is made, of one word and of four
abbrev pub create_board : Call
create_board = call.Create (codes "f") (codes "gen") key_type.U64 unlimited [] (added (key.U64 0) (value.U64 0) ∷ added (key.U64 1) (value.Q4 0 0 0 0) ∷ [])

-- the board is opened
abbrev pub open_board : Call
open_board = call.Open (codes "f") (codes "gen") key_type.U64 no_limits no_needs

-- the board is made, and each entry gets a write handle
abbrev pub writer_calls : List Call
writer_calls =
    create_board
    ∷ call.Writer (codes "p") (codes "f")
    ∷ call.EntryMut (codes "m0") (codes "p") (key.U64 0) type.U64
    ∷ call.EntryMut (codes "m1") (codes "p") (key.U64 1) type.Q4
    ∷ []

-- the board is opened, and each entry gets a read handle
abbrev pub reader_calls : List Call
reader_calls =
    open_board
    ∷ call.Reader (codes "r") (codes "f")
    ∷ call.Entry (codes "h0") (codes "r") (key.U64 0) type.U64
    ∷ call.Entry (codes "h1") (codes "r") (key.U64 1) type.Q4
    ∷ []

-- 24 lines
abbrev pub opening : List Line
opening = asked_by (codes "w") writer_calls ++ (asked_by (codes "a") reader_calls ++ asked_by (codes "b") reader_calls)

-- ---- the lines that are drawn

-- the number after x
abbrev pub number_after : ℕ → ℕ
number_after x = (x * 6364136223846793005 + 1442695040888963407) % 2 ^ 64

-- the number that is drawn for line k; n itself is the one before the first
abbrev pub number_drawn : ℕ → ℕ → ℕ
number_drawn n zero = n
number_drawn n (suc k) = number_after (number_drawn n k)

-- the four bits of a number from bit 32 on
abbrev pub choice : ℕ → ℕ
choice x = (x / 2 ^ 32) % 16

-- a number four times, with commas between
abbrev pub four_times : ℕ → List ℕ
four_times k = join_with_byte 44 (decimal k ∷ decimal k ∷ decimal k ∷ decimal k ∷ [])

-- line k for a choice: an update, a get, or a step
abbrev pub line_for : ℕ → ℕ → Line
line_for c k =
    if c == 0 then line.Begin (codes "w") (call.Update (codes "m0") (value.U64 k)) else
    if c == 1 then line.Begin (codes "w") (call.Update (codes "m1") (value.Q4 k k k k)) else
    if c == 2 then line.Begin (codes "a") (call.Get (codes "h0") None) else
    if c == 3 then line.Begin (codes "a") (call.Get (codes "h1") None) else
    if c == 4 then line.Begin (codes "b") (call.Get (codes "h0") None) else
    if c == 5 then line.Begin (codes "b") (call.Get (codes "h1") None) else
    if nat_le c 9 then line.Step (codes "w") else
    if nat_le c 12 then line.Step (codes "a") else
    line.Step (codes "b")

-- the first k lines
abbrev pub drawn : ℕ → ℕ → List Line
drawn n zero = []
drawn n (suc k) = drawn n k ++ line_for (choice (number_drawn n (suc k))) (suc k) ∷ []

-- the opening and n lines more
abbrev pub generated : ℕ → List Line
generated n = opening ++ drawn n n
