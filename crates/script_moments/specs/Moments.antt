-- The pairs of a session, each with the state that it met, and those whose lines name a party.
use Rattle.std.specs.Prelude.{ℕ, if◌then◌else◌, List, [], ◌∷◌, ◌++◌}
use Rattle.script_model.specs.ScriptTurns.{ScriptState}
use Rattle.script_model.specs.ScriptSession.{Session, after}
use Rattle.script_model.specs.LawsOfComposition.{Pair, state_met}
use Rattle.script_model.specs.LawsOfLines.{names}

-- a pair of a session, with the state that it met
pub record Moment : Type 0 where
  pub met : ScriptState
  pub pair : Pair

-- the state that it left
abbrev pub left : Moment → ScriptState
left m = after m.met m.pair.0 m.pair.1

-- the moments of a session from this state on
abbrev pub moments : ScriptState → Session → List Moment
moments s [] = []
moments s (pair ∷ pairs) = record { met = s; pair = pair } ∷ moments (after s pair.0 pair.1) pairs

-- the party's own moments: those whose lines name it
abbrev pub own : List ℕ → List Moment → List Moment
own party [] = []
own party (m ∷ ms) = if names party m.pair.0 then m ∷ own party ms else own party ms

-- the state after the last of these moments, which began in this one
abbrev pub end_of : ScriptState → List Moment → ScriptState
end_of s [] = s
end_of s (m ∷ ms) = end_of (left m) ms

-- the moment of one pair more
abbrev pub next_moment : Session → Session → Pair → Moment
next_moment before since pair = record { met = state_met (before ++ since); pair = pair }
