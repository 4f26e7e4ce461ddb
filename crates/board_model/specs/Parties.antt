-- The parties of a script, and the accesses that a running call owes.
use Rattle.std.specs.Prelude.{ℕ, ◌+◌, Bool, false, not, ◌&&◌, ◌==◌, nat_le, if◌then◌else◌, List, [], ◌∷◌, length, map, Option, Some, None}
use Rattle.std.specs.Str.{bytes_eq}
use Rattle.board_layout.specs.declared.type_detail.TypeDetail.{TypeDetail}
use Rattle.board_cell_model.specs.declared.access.Access.{Access}
use Rattle.board_cell_model.specs.declared.access.Access.TheVariants as access
use Rattle.board_model.specs.declared.answer.Reply.{Reply}
use Rattle.board_model.specs.declared.answer.Reply.TheVariants as reply
use Rattle.board_cell_model.specs.OwedAccesses.{spare_at}
use Rattle.board_cell_model.specs.OwedAccesses.{Owed, Reading, finished, heard, is_finished, opening, owed_read, owed_write, reading_from, to_read, to_table, to_write, trying}
use Rattle.board_model.specs.TypeTable.{value_type_of, value_words}
use Rattle.board_model.specs.Requests.{Request, fill, fresh, get, publish, put, table, update}

-- a call that runs: its accesses so far, and how often the counter that a get reads was written since its first one
pub record Running : Type 0 where
  pub request : Request
  pub so_far : List Access
  pub passed : ℕ

-- a party is free for a call, runs one, or was abandoned
pub data Party : Type 0 where
  free : Party
  running : Running → Party
  gone : Party

-- ---- the accesses of a call

-- how far a get of w words is, by its accesses so far
abbrev pub reading : ℕ → List Access → Reading
reading w so_far = reading_from w opening (map heard so_far)

-- the access that a call owes next
abbrev pub owed : Request → List Access → Owed
owed (table c) so_far = to_table
owed (get f) so_far = owed_read f.board f.shape (reading f.shape.words so_far)
owed (fresh l) so_far = to_read l.board l.shape.first
owed (update u) so_far = owed_write u.board u.shape u.generation (value_words u.value) (length so_far)
owed (put l i w) so_far = to_write l.board (spare_at l.shape l.generation + i) w
owed (publish l) so_far = to_write l.board l.shape.first (l.generation + 1)
owed (fill l v) so_far = owed_write l.board l.shape l.generation (value_words v) (length so_far)

-- these accesses are all of the call's
abbrev pub is_done : Request → List Access → Bool
is_done (table c) so_far = nat_le 1 (length so_far)
is_done (get f) so_far = is_finished (reading f.shape.words so_far)
is_done (fresh l) so_far = nat_le 1 (length so_far)
is_done (update u) so_far = nat_le (length (value_words u.value) + 1) (length so_far)
is_done (put l i w) so_far = nat_le 1 (length so_far)
is_done (publish l) so_far = nat_le 1 (length so_far)
is_done (fill l v) so_far = nat_le (length (value_words v) + 1) (length so_far)

-- ---- what a call has read

-- the words of a get's last try, with its counter
abbrev pub reply_of_reading : TypeDetail → Reading → Option Reply
reply_of_reading type opening = None
reply_of_reading type (trying c words) = None
reply_of_reading type (finished c words) = Some (reply.Got (value_type_of type) words c)

-- whether the counter is the generation
abbrev pub reply_of_look : ℕ → List ℕ → Option Reply
reply_of_look g [] = None
reply_of_look g (v ∷ vs) = Some (reply.Fresh (g == v))

-- the reply that the words read give
abbrev pub reply_read : Request → List Access → Option Reply
reply_read (get f) so_far = reply_of_reading f.type (reading f.shape.words so_far)
reply_read (fresh l) so_far = reply_of_look l.generation (map heard so_far)
reply_read request so_far = None

-- ---- changes

-- the party is this from now on, and the others stay as they are
abbrev pub with_party : (List ℕ → Party) → List ℕ → Party → List ℕ → Party
with_party parties party x p = if bytes_eq p party then x else parties p

-- a party whose call has just begun; free where there was none to run
abbrev pub begun : Option Request → Party
begun None = free
begun (Some request) = running (record { request = request; so_far = []; passed = 0 })

-- the word is the counter of the entry that the call gets
abbrev pub is_counter_of : Request → ℕ → ℕ → Bool
is_counter_of (get f) board word = (f.board == board) && (f.shape.first == word)
is_counter_of request board word = false

-- a get that has begun to read counts the writes of its counter
abbrev pub count_write : Running → ℕ → ℕ → ℕ
count_write r board word = if is_counter_of r.request board word && not (length r.so_far == 0) then r.passed + 1 else r.passed

-- a party after an access: a get takes note when its counter is written
abbrev pub notice : Access → Party → Party
notice (access.Write board word value) (running r) = running (record r { passed = count_write r board word })
notice a x = x
