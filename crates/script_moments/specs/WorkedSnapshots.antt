-- A snapshot that was worked out by hand: b gets an entry in three rounds, since a updates it after the first one.
use Rattle.std.specs.Prelude.{◌≡◌, ℕ, [], ◌∷◌, ◌++◌, codes, map, None}
use Rattle.board_cell_model.specs.declared.access.Access.TheVariants as access
use Rattle.board_model.specs.declared.answer.Reply.TheVariants as reply
use Rattle.board_model.specs.declared.line.Call.TheVariants as call
use Rattle.board_model.specs.declared.value.Value.TheVariants as value
use Rattle.board_model.specs.declared.value.ValueType.TheVariants as type
use Rattle.board_model.specs.WorkedSessions as boards
use Rattle.script_model.specs.ScriptSession.{Session}
use Rattle.script_model.specs.LawsOfComposition.{Pair, state_met, of_pair}
use Rattle.script_moments.specs.Moments.{moments, next_moment}
use Rattle.script_moments.specs.Gets.{Get, named_entry}
use Rattle.script_moments.specs.OneRound.{b, word_read}
use Rattle.script_moments.specs.Snapshots.{Snapshot, steps_of_snapshot}
use Rattle.script_moments.specs.LawsOfSnapshots.{published_of, steps_again, steps_alone}

-- a has the write handle "m" of an entry, and b the read handle "h"
abbrev pub before_it : Session
before_it = map of_pair (boards.set_up type.U64 (value.U64 7))

-- the pairs of a get of one word, at this counter and place
abbrev pub get_begins : Pair
get_begins = of_pair (boards.accepted b (call.Get (codes "h") None))

abbrev pub first_read : ℕ → Pair
first_read g = of_pair (boards.one_step b (access.Read 1 0 g))

abbrev pub last_read : ℕ → ℕ → Pair
last_read g word = of_pair (boards.last_step b (access.Read 1 0 g) (reply.Got type.U64 (word ∷ []) g))

abbrev pub an_update : Session
an_update = map of_pair (boards.accepted (codes "a") (call.Update (codes "m") (value.U64 9)) ∷ boards.one_step (codes "a") (access.Write 1 3 9) ∷ boards.last_step (codes "a") (access.Write 1 0 2) reply.Done ∷ [])

abbrev pub a_round : ℕ → ℕ → ℕ → Session
a_round g place word = get_begins ∷ first_read g ∷ word_read place word ∷ last_read g word ∷ []

abbrev pub one : Session
one = a_round 1 2 7

abbrev pub to_two : Session
to_two = one ++ an_update

abbrev pub to_three : Session
to_three = to_two ++ a_round 2 3 9

abbrev pub since_it : Session
since_it = to_three ++ a_round 2 3 9

-- the get of a round, after these pairs
abbrev pub the_get : Session → ℕ → ℕ → ℕ → Get
the_get done g place word = record {
  begun = next_moment before_it done get_begins;
  steps = next_moment before_it (done ++ get_begins ∷ []) (first_read g) ∷ next_moment before_it (done ++ get_begins ∷ first_read g ∷ []) (word_read place word) ∷ [];
  ended = next_moment before_it (done ++ get_begins ∷ first_read g ∷ word_read place word ∷ []) (last_read g word);
  type = type.U64;
  words = word ∷ [];
  generation = g;
}

abbrev pub a_snapshot : Snapshot
a_snapshot = record {
  rounds = (the_get [] 1 2 7 ∷ []) ∷ (the_get to_two 2 3 9 ∷ []) ∷ [];
  gets = the_get to_three 2 3 9 ∷ [];
  begun = None;
}

-- it took nine steps, where one publication came between its first and its last step; the bound is eleven
pub record WorkedCounts : Type 0 where
  pub steps : steps_of_snapshot a_snapshot ≡ 9
  pub published : published_of b (moments (state_met before_it) since_it) (map (named_entry (state_met before_it) b) (codes "h" ∷ [])) ≡ 1
  pub alone : steps_alone (map (named_entry (state_met before_it) b) (codes "h" ∷ [])) ≡ 3
  pub again : steps_again b (moments (state_met before_it) since_it) (map (named_entry (state_met before_it) b) (codes "h" ∷ [])) ≡ 2
