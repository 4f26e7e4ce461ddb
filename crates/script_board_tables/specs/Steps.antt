-- What the step of a call needs, and what it comes to.
use Rattle.std.specs.Prelude.{◌≡◌, ℕ, ◌+◌, ◌-◌, ◌<◌, ◌≤◌, ◌^◌, true, false, List, [], ◌∷◌, ◌++◌, length, ⊤}
use Rattle.std.specs.List.{AllByRecursion}
use Rattle.board_cell_model.specs.declared.access.Access.{Access}
use Rattle.board_cell_model.specs.OwedAccesses.{owed_of, owed_write, spare_at}
use Rattle.board_model.specs.declared.answer.Reply.{Reply}
use Rattle.board_model.specs.Memory.{IsStanding, after_access, memory_after}
use Rattle.board_model.specs.Parties.{is_done, owed}
use Rattle.board_model.specs.Replies.{ask, lists_after}
use Rattle.board_model.specs.Requests.{Request}
use Rattle.board_model.specs.LawsOfForms.{IsFormedBoard}
use Rattle.script_board_rows.specs.CellCalls.{IsSmall, IsWithin, OwesRead, OwesWrite}
use Rattle.script_board_rows.specs.declared.cell_calls.Reading.{Reading}
use Rattle.script_board_tables.specs.declared.calls.Fetch.{Fetch}
use Rattle.script_board_tables.specs.declared.calls.Look.{Look}
use Rattle.script_board_tables.specs.declared.calls.Lent.{Lent}
use Rattle.script_board_tables.specs.declared.calls.Publishing.{Publishing}
use Rattle.script_board_tables.specs.declared.calls.BoardCall.{BoardCall}
use Rattle.script_board_tables.specs.declared.calls.BoardCall.TheVariants as call
use Rattle.script_board_tables.specs.declared.step.Stepped.{Stepped}
use Rattle.script_board_tables.specs.declared.step.Stepped.TheVariants.{GoesOn, Ends}
use Rattle.script_board_tables.specs.declared.tables.BoardTables.{BoardTables}
use Rattle.script_board_tables.specs.Tables.{Has, memory_of, published_of, standing_of}
use Rattle.script_board_tables.specs.Calls.{HasCome, IsFor}

-- ---- what a step needs

-- more numbers of boards and ports are left, and the boards are those of a script
pub record CanAsk (t : BoardTables) : Type 0 where
  pub boards : t.boards.last < 2 ^ 64 - 1
  pub ports : t.last_port < 2 ^ 64 - 1
  pub formed : AllByRecursion IsFormedBoard t.boards.boards

-- the word that the get owes is one of its board
pub record CanRead (t : BoardTables) (f : Fetch) (r : Reading) : Type 0 where
  pub small : IsSmall f.shape
  pub within : IsWithin f.shape r
  pub inside : (word : ℕ) → OwesRead f.shape r word → word < length (memory_of t f.board)

-- the counter is a word of its board
pub record CanLook (t : BoardTables) (l : Look) : Type 0 where
  pub inside : l.shape.first < length (memory_of t l.board)

-- a value of the entry was published, and the word that is owed is one of its board
pub record CanPublish (t : BoardTables) (p : Publishing) : Type 0 where
  pub small : IsSmall p.shape
  pub room : p.generation < 2 ^ 64 - 1
  pub within : p.written ≤ length p.words
  pub words : length p.words ≤ p.shape.words
  pub inside : (word value : ℕ) → OwesWrite p.shape p.generation p.words p.written word value → word < length (memory_of t p.board)
  pub listed : 0 < length (published_of t p.board p.entry)

-- the word of the spare copy is one of its board
pub record CanPut (t : BoardTables) (l : Lent) (i : ℕ) : Type 0 where
  pub small : IsSmall l.shape
  pub low : i < l.shape.words
  pub inside : spare_at l.shape l.generation + i < length (memory_of t l.board)

-- the counter is one of its board
pub record CanRaise (t : BoardTables) (l : Lent) : Type 0 where
  pub room : l.generation < 2 ^ 64 - 1
  pub inside : l.shape.first < length (memory_of t l.board)
  pub listed : 0 < length (published_of t l.board l.entry)

-- the next access of the call can be made
abbrev pub CanStep : BoardTables → BoardCall → Type 0
CanStep t (call.Table c) = CanAsk t
CanStep t (call.Loan l) = ⊤
CanStep t (call.Discard l) = ⊤
CanStep t (call.Get f r) = CanRead t f r
CanStep t (call.Fresh l) = CanLook t l
CanStep t (call.Update p) = CanPublish t p
CanStep t (call.Put l i w) = CanPut t l i
CanStep t (call.Publish l) = CanRaise t l
CanStep t (call.Fill p loan handle) = CanPublish t p

-- ---- what it comes to

-- the access is the one that is owed, a word that was read is the one that stands, and the call goes on
pub record GoesOnAs (old new : BoardTables) (c : BoardCall) (a : Access) (q : Request) (so_far : List Access) : Type 0 where
  pub owed : owed_of a ≡ owed q so_far
  pub stands : IsStanding (memory_of old) a
  pub goes_on : is_done q (so_far ++ a ∷ []) ≡ false
  pub request : IsFor c q
  pub come : HasCome c (so_far ++ a ∷ [])
  pub has : Has new (standing_of old) (after_access (memory_of old) a) (published_of old)

-- the same of the last access; the call is told what the board asked one call at a time tells, and leaves what that leaves
pub record EndsAs (old new : BoardTables) (party : List ℕ) (a : Access) (told : Reply) (q : Request) (so_far : List Access) : Type 0 where
  pub owed : owed_of a ≡ owed q so_far
  pub stands : IsStanding (memory_of old) a
  pub done : is_done q (so_far ++ a ∷ []) ≡ true
  pub reply : told ≡ (ask (standing_of old) (published_of old) party q).reply
  pub has : Has new (ask (standing_of old) (published_of old) party q).standing (memory_after (after_access (memory_of old) a) q told) (lists_after (published_of old) q told)

-- what a step of the request came to
abbrev pub IsStep : BoardTables → BoardTables → List ℕ → Stepped → Request → List Access → Type 0
IsStep old new party (GoesOn a c) q so_far = GoesOnAs old new c a q so_far
IsStep old new party (Ends a told) q so_far = EndsAs old new party a told q so_far

-- so it is for each request that the call may be
abbrev pub Steps : BoardTables → BoardTables → List ℕ → BoardCall → Stepped → Type 0
Steps old new party c told = (q : Request) (so_far : List Access) → IsFor c q → HasCome c so_far → IsStep old new party told q so_far

-- what a call on the tables, or on a loan, is told at its one step on the tables, and what it leaves
pub record Asks (old new : BoardTables) (party : List ℕ) (q : Request) (told : Reply) : Type 0 where
  pub reply : told ≡ (ask (standing_of old) (published_of old) party q).reply
  pub has : Has new (ask (standing_of old) (published_of old) party q).standing (memory_after (memory_of old) q told) (lists_after (published_of old) q told)

-- the access writes what the publication owes to write next
abbrev pub WritesNext : Publishing → Access → Type 0
WritesNext p a = owed_of a ≡ owed_write p.board p.shape p.generation p.words p.written
