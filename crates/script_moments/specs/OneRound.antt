-- A snapshot that is written after its first round: both entries are published between its two gets, so it is not that of its begin, its middle or its end.
use Rattle.std.specs.Prelude.{ℕ, List, [], ◌∷◌, ◌++◌, codes, map, None}
use Rattle.board_cell_model.specs.declared.access.Access.TheVariants as access
use Rattle.board_model.specs.declared.answer.Reply.TheVariants as reply
use Rattle.board_model.specs.declared.line.Call.TheVariants as call
use Rattle.board_model.specs.declared.value.Key.TheVariants as key
use Rattle.board_model.specs.declared.value.KeyType.TheVariants as key_type
use Rattle.board_model.specs.declared.value.Value.TheVariants as value
use Rattle.board_model.specs.declared.value.ValueType.TheVariants as type
use Rattle.board_model.specs.TableCalls.{no_limits}
use Rattle.board_model.specs.WorkedSessions as boards
use Rattle.script_model.specs.ScriptSession.{Session}
use Rattle.script_model.specs.LawsOfComposition.{Pair, of_pair}
use Rattle.script_moments.specs.Moments.{next_moment}
use Rattle.script_moments.specs.Gets.{Get, Round}

abbrev pub a : List ℕ
a = codes "a"

abbrev pub b : List ℕ
b = codes "b"

-- a has write handles of two entries, and b has read handles of them
abbrev pub two_entries : Session
two_entries = map of_pair (
    boards.accepted a (call.Create (codes "f") (codes "b") key_type.U64 boards.unlimited [] (boards.added (key.U64 1) (value.U64 7) ∷ boards.added (key.U64 2) (value.U64 8) ∷ []))
    ∷ boards.last_step a access.Table (reply.Number 1)
    ∷ boards.accepted a (call.Writer (codes "w") (codes "f"))
    ∷ boards.last_step a access.Table (reply.Number 1)
    ∷ boards.accepted a (call.EntryMut (codes "m") (codes "w") (key.U64 1) type.U64)
    ∷ boards.last_step a access.Table (reply.Number 0)
    ∷ boards.accepted a (call.EntryMut (codes "n") (codes "w") (key.U64 2) type.U64)
    ∷ boards.last_step a access.Table (reply.Number 32)
    ∷ boards.accepted b (call.Open (codes "f") (codes "b") key_type.U64 no_limits boards.no_needs)
    ∷ boards.last_step b access.Table (reply.Number 1)
    ∷ boards.accepted b (call.Reader (codes "r") (codes "f"))
    ∷ boards.last_step b access.Table (reply.Number 2)
    ∷ boards.accepted b (call.Entry (codes "h") (codes "r") (key.U64 1) type.U64)
    ∷ boards.last_step b access.Table (reply.Number 0)
    ∷ boards.accepted b (call.Entry (codes "k") (codes "r") (key.U64 2) type.U64)
    ∷ boards.last_step b access.Table (reply.Number 32)
    ∷ [])

-- b's handles of both
abbrev pub both : List (List ℕ)
both = codes "h" ∷ codes "k" ∷ []

-- the pairs of a get of one word, at this counter and place
abbrev pub get_begins : List ℕ → Pair
get_begins handle = of_pair (boards.accepted b (call.Get handle None))

abbrev pub word_read : ℕ → ℕ → Pair
word_read place word = of_pair (boards.one_step b (access.Read 1 place word))

abbrev pub value_got : ℕ → ℕ → ℕ → Pair
value_got counter g word = of_pair (boards.last_step b (access.Read 1 counter g) (reply.Got type.U64 (word ∷ []) g))

abbrev pub a_get : List ℕ → ℕ → ℕ → ℕ → ℕ → Session
a_get handle counter place g word = get_begins handle ∷ word_read counter g ∷ word_read place word ∷ value_got counter g word ∷ []

-- an update of one word
abbrev pub an_update : List ℕ → ℕ → ℕ → ℕ → Session
an_update handle counter place word = map of_pair (
    boards.accepted a (call.Update handle (value.U64 word))
    ∷ boards.one_step a (access.Write 1 place word)
    ∷ boards.last_step a (access.Write 1 counter 2) reply.Done
    ∷ [])

abbrev pub to_second : Session
to_second = a_get (codes "h") 0 2 1 7 ++ (an_update (codes "m") 0 3 9 ++ an_update (codes "n") 4 7 10)

abbrev pub one_round : Session
one_round = to_second ++ a_get (codes "k") 4 7 2 10

-- its gets, after these pairs
abbrev pub the_get : Session → List ℕ → ℕ → ℕ → ℕ → ℕ → Get
the_get done handle counter place g word = record {
  begun = next_moment two_entries done (get_begins handle);
  steps = next_moment two_entries (done ++ get_begins handle ∷ []) (word_read counter g) ∷ next_moment two_entries (done ++ get_begins handle ∷ word_read counter g ∷ []) (word_read place word) ∷ [];
  ended = next_moment two_entries (done ++ get_begins handle ∷ word_read counter g ∷ word_read place word ∷ []) (value_got counter g word);
  type = type.U64;
  words = word ∷ [];
  generation = g;
}

abbrev pub hasty : Round
hasty = the_get [] (codes "h") 0 2 1 7 ∷ the_get to_second (codes "k") 4 7 2 10 ∷ []
