-- Gets of a party, and rounds of them: a get for each handle, in their order.
use Rattle.std.specs.Prelude.{◌≡◌, ℕ, ◌+◌, List, [], ◌∷◌, ◌++◌, length, map, Option, Some, None, ⊤}
use Rattle.std.specs.List.{AllByRecursion, flat_map, sum_by}
use Rattle.board_cell_model.specs.declared.access.Access.{Access}
use Rattle.board_model.specs.declared.answer.Answer.TheVariants as answer
use Rattle.board_model.specs.declared.answer.Reply.TheVariants as reply
use Rattle.board_model.specs.declared.line.Call.TheVariants as call
use Rattle.board_model.specs.declared.line.Line.TheVariants as board_line
use Rattle.board_model.specs.declared.tables.Entry.{Entry}
use Rattle.board_model.specs.declared.tables.ThingKind.TheVariants as thing_kind
use Rattle.board_model.specs.declared.value.ValueType.{ValueType}
use Rattle.board_model.specs.Requests.{handled}
use Rattle.board_model.specs.Tables.{entry_of}
use Rattle.board_model.specs.Things.{Held, Standing, held_of_kind}
use Rattle.script_model.specs.ScriptTurns.{ScriptState}
use Rattle.script_model.specs.LawsOfComposition.{of_pair}
use Rattle.script_moments.specs.Moments.{Moment}

-- ---- the entry that a handle names

-- an entry: its board, its place there, and how many words it has
pub record NamedEntry : Type 0 where
  pub board : ℕ
  pub entry : ℕ
  pub words : ℕ

-- how many words the entry has; 0 without one
abbrev pub words_in : Option Entry → ℕ
words_in None = 0
words_in (Some e) = e.cell.words

-- the entry of a handle; of none, that of no board
abbrev pub named_by : Standing → Option Held → NamedEntry
named_by s None = record { board = 0; entry = 0; words = 0 }
named_by s (Some t) = record { board = t.board; entry = entry_of t.kind; words = words_in (handled s t) }

-- the entry that the party's handle names
abbrev pub named_entry : ScriptState → List ℕ → List ℕ → NamedEntry
named_entry s party handle = named_by s.boards.standing (held_of_kind s.boards.standing thing_kind.ReadHandle party handle)

-- ---- gets

-- a get: the moment that begins it, those of the steps that go on, and the one that ends it; and what it is told
pub record Get : Type 0 where
  pub begun : Moment
  pub steps : List Moment
  pub ended : Moment
  pub type : ValueType
  pub words : List ℕ
  pub generation : ℕ

-- the party begins to get the entry of the handle
abbrev pub IsBegin : List ℕ → List ℕ → Moment → Type 0
IsBegin party handle m = m.pair ≡ of_pair (board_line.Begin party (call.Get handle None), answer.Begun)

-- the party steps, and its call goes on
abbrev pub GoesOn : List ℕ → Moment → Type 0
GoesOn party m = (a : Access) × (m.pair ≡ of_pair (board_line.Step party, answer.Step a None))

-- the party steps, and is told a value and its generation
abbrev pub Ends : List ℕ → Moment → ValueType → List ℕ → ℕ → Type 0
Ends party m type words g = (a : Access) × (m.pair ≡ of_pair (board_line.Step party, answer.Step a (Some (reply.Got type words g))))

-- the get is the party's, through the handle
pub record IsGet (party handle : List ℕ) (x : Get) : Type 0 where
  pub begun : IsBegin party handle x.begun
  pub steps : AllByRecursion (GoesOn party) x.steps
  pub ended : Ends party x.ended x.type x.words x.generation

-- its moments, in order
abbrev pub moments_of_get : Get → List Moment
moments_of_get x = x.begun ∷ (x.steps ++ x.ended ∷ [])

-- how many steps it took
abbrev pub steps_of_get : Get → ℕ
steps_of_get x = length x.steps + 1

-- a get that began and stepped so, and ended in this moment
abbrev pub ended_get : Moment → List Moment → Moment → ValueType → List ℕ → ℕ → Get
ended_get begun steps ended type words g = record { begun = begun; steps = steps; ended = ended; type = type; words = words; generation = g }

-- ---- a get that runs: its begin, and its steps so far

-- its moments, if one runs
abbrev pub moments_of_open : Option (Moment × List Moment) → List Moment
moments_of_open None = []
moments_of_open (Some o) = o.0 ∷ o.1

-- how many steps it has taken
abbrev pub steps_of_open : Option (Moment × List Moment) → ℕ
steps_of_open None = 0
steps_of_open (Some o) = length o.1

-- it goes through the handle
pub record IsOpen (party handle : List ℕ) (o : Moment × List Moment) : Type 0 where
  pub begun : IsBegin party handle o.0
  pub steps : AllByRecursion (GoesOn party) o.1

-- ---- rounds

-- one get after another
abbrev pub Round : Type 0
Round = List Get

-- a get for each handle, in their order
abbrev pub IsRound : List ℕ → List (List ℕ) → Round → Type 0
IsRound party [] [] = ⊤
IsRound party [] (x ∷ xs) = ⊥
IsRound party (h ∷ hs) [] = ⊥
IsRound party (h ∷ hs) (x ∷ xs) = IsGet party h x × IsRound party hs xs

-- gets for the first of the handles, in their order, and one that runs for the next, if one does
abbrev pub IsPart : List ℕ → List (List ℕ) → Round → Option (Moment × List Moment) → Type 0
IsPart party hs [] None = ⊤
IsPart party [] [] (Some o) = ⊥
IsPart party (h ∷ hs) [] (Some o) = IsOpen party h o
IsPart party [] (x ∷ xs) o = ⊥
IsPart party (h ∷ hs) (x ∷ xs) o = IsGet party h x × IsPart party hs xs o

-- its moments, in order
abbrev pub moments_of : Round → List Moment
moments_of round = flat_map moments_of_get round

-- the generations that it gave
abbrev pub generations : Round → List ℕ
generations round = map (λ (x : Get). x.generation) round

-- how many steps it took
abbrev pub steps_of : Round → ℕ
steps_of round = sum_by steps_of_get round
