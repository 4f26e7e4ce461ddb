-- A reader of the lines by which parties are driven, from the words behind the first one.
use Rattle.std.specs.Prelude.{ℕ, ◌+◌, Bool, ◌&&◌, nat_le, List, length, Option, Some}
use Rattle.std.specs.List.{list_all}
use Rattle.board_model.specs.LineGrammar.{is_name}
use Rattle.script_model.specs.ScriptGrammar.{SpellsLine}
use Rattle.script_exchanges.specs.declared.line.Drive.{Drive}
use Rattle.script_exchanges.specs.declared.line.DriveLine.{DriveLine}
use Rattle.script_exchanges.specs.declared.line.DriveLine.TheVariants.{Script, Start, Turn}
use Rattle.script_exchanges.specs.DriveGrammar.{least_things, most_things}
use Rattle.script_grammar.specs.TokenReading.{◌>>=◌, first_by, guard, is_end, read_name}

-- so many things may be named
abbrev pub has_place_for : Drive → ℕ → Bool
has_place_for d n = nat_le (least_things d) n && nat_le n (most_things d)

-- behind so many names these words are names, and all of them as many as may be
abbrev pub are_things : Drive → ℕ → List (List ℕ) → Bool
are_things d n words = list_all is_name words && has_place_for d (n + length words)

-- a party, and nothing behind it
abbrev pub read_turn : List (List ℕ) → Option DriveLine
read_turn words = first_by read_name words >>= λ p. guard (is_end p.1) (Some (Turn p.0))

-- a party, and the things behind it
abbrev pub read_start : Drive → List (List ℕ) → Option DriveLine
read_start d words = first_by read_name words >>= λ p. guard (are_things d 0 p.1) (Some (Start p.0 p.1))

-- the bytes spell it as a line of a plain script
abbrev pub IsPlainLine : List ℕ → DriveLine → Type 0
IsPlainLine bytes (Script l) = SpellsLine bytes l
IsPlainLine bytes (Start party things) = ⊥
IsPlainLine bytes (Turn party) = ⊥
