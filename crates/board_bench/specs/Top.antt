-- What the program writes.
use Rattle.std.specs.Prelude.{ℕ, ◌++◌, List, codes}
use Rattle.std.specs.Fmt.{decimal}
use Rattle.board_bench.specs.Done.{counted_of, told_of}
use Rattle.board_bench.specs.declared.done.Done.{Done}

-- of what was done: what was counted, and how many
abbrev pub line_of : Done → List ℕ
line_of done = counted_of done ++ codes " " ++ decimal (told_of done) ++ codes "\n"

-- how it is called
abbrev pub usage_note : List ℕ
usage_note = codes "usage: board_bench solo|typed 1|4|32 get|try_get|update COUNT, board_bench event bits|queue COUNT, or board_bench shared 1|4|32 1|2|3 UPDATES\n"
