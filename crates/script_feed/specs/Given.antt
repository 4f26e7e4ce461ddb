-- How a line that is given to the machine is written with its answer.
use Rattle.std.specs.Prelude.{ℕ, List, ◌∷◌, ◌++◌, codes}

-- the line behind `> `, and the answer, which ends with its newline
abbrev pub given_text : List ℕ → List ℕ → List ℕ
given_text line answer = codes "> " ++ (line ++ 10 ∷ answer)
