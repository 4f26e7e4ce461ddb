-- Laws of how many steps a call takes.
use Rattle.std.specs.Prelude.{◌≡◌, ℕ, ◌+◌, ◌-◌, ◌*◌, ◌<◌, ◌≤◌, ◌==◌, ◌&&◌, ◌||◌, Bool, true, false, if◌then◌else◌, List, [], ◌∷◌, ◌++◌, length, Option, Some, None}
use Rattle.std.specs.Str.{bytes_eq}
use Rattle.board_cell_model.specs.declared.access.Access.{Access}
use Rattle.board_cell_model.specs.declared.access.Access.TheVariants as access
use Rattle.board_cell_model.specs.OwedAccesses.{heard}
use Rattle.board_model.specs.declared.answer.Answer.{Answer}
use Rattle.board_model.specs.declared.answer.Answer.TheVariants as answer
use Rattle.board_model.specs.declared.line.Line.{Line}
use Rattle.board_model.specs.declared.line.Line.TheVariants as line
use Rattle.board_model.specs.declared.value.Value.{Value}
use Rattle.board_model.specs.Requests.{Fetch, Lending, Publication, Request, fill, get, update}
use Rattle.board_model.specs.Parties.{Running, is_done, running}
use Rattle.board_model.specs.LawfulSession.{IsLawful, IsLawfulFrom, Session, State, start, state_after}
use Rattle.board_model.specs.Sound.{Sound}
use Rattle.board_model.specs.LawsOfReads.{IsTaking}

-- ---- the writes of a counter

-- the answer prints a write of the word
abbrev pub is_write_to : ℕ → ℕ → Answer → Bool
is_write_to board word (answer.Step (access.Write b w value) told) = (board == b) && (word == w)
is_write_to board word a = false

-- how many answers print one
abbrev pub writes_in : Session → ℕ → ℕ → ℕ
writes_in [] board word = 0
writes_in (pair ∷ pairs) board word = (if is_write_to board word pair.1 then 1 else 0) + writes_in pairs board word

-- a call of the party begins
abbrev pub begins : List ℕ → Line → Answer → Bool
begins party (line.Begin p c) answer.Begun = bytes_eq party p
begins party l a = false

-- a call of the party begins somewhere in the session
abbrev pub begins_in : List ℕ → Session → Bool
begins_in party [] = false
begins_in party (pair ∷ pairs) = begins party pair.0 pair.1 || begins_in party pairs

-- from its first step on, what a running get has passed are the writes of its counter that were printed
abbrev pub PassedWritesArePrinted : Type 0
PassedWritesArePrinted = (s : State) (pairs : Session) (party : List ℕ) (r later : Running) (f : Fetch)
    → IsLawfulFrom s pairs → s.parties party ≡ running r → r.request ≡ get f → 0 < length r.so_far
    → begins_in party pairs ≡ false → (state_after s pairs).parties party ≡ running later
    → later.passed ≡ r.passed + writes_in pairs f.board f.shape.first

-- and before it a call has passed none
abbrev pub NothingIsPassedAtFirst : Type 0
NothingIsPassedAtFirst = (pairs : Session) (party : List ℕ) (r : Running) → IsLawful pairs → (state_after start pairs).parties party ≡ running r
    → length r.so_far ≡ 0 → r.passed ≡ 0

-- ---- the steps of a call; with p writes passed and w words in the entry

-- it ends with this access
pub record IsLast (s : State) (party : List ℕ) (r : Running) (a : Access) : Type 0 where
  pub takes : IsTaking s party r a
  pub done : is_done r.request (r.so_far ++ a ∷ []) ≡ true

-- a running get has taken fewer than 1 + (p + 1)(w + 1)
abbrev pub RunningGetsAreShort : Type 0
RunningGetsAreShort = (s : State) (party : List ℕ) (r : Running) (f : Fetch) → Sound s → s.parties party ≡ running r → r.request ≡ get f
    → length r.so_far < 1 + (r.passed + 1) * (f.shape.words + 1)

-- and a finished one at most that many
abbrev pub FinishedGetsAreShort : Type 0
FinishedGetsAreShort = (s : State) (party : List ℕ) (r : Running) (a : Access) (f : Fetch) → IsLast s party r a → r.request ≡ get f
    → length (r.so_far ++ a ∷ []) ≤ 1 + (r.passed + 1) * (f.shape.words + 1)

-- where nothing was published meanwhile, it ends with step w + 2 and not before
abbrev pub GetsAloneTakeTheirWords : Type 0
GetsAloneTakeTheirWords = (s : State) (party : List ℕ) (r : Running) (a : Access) (f : Fetch) → IsLast s party r a → r.request ≡ get f → r.passed ≡ 0
    → length (r.so_far ++ a ∷ []) ≡ f.shape.words + 2

-- an update and a fill end with step w + 1
abbrev pub UpdatesTakeTheirWords : Type 0
UpdatesTakeTheirWords = (s : State) (party : List ℕ) (r : Running) (a : Access) (u : Publication) → IsLast s party r a → r.request ≡ update u
    → length (r.so_far ++ a ∷ []) ≡ u.shape.words + 1

-- a fill takes as many steps as an update of the same size
abbrev pub FillsTakeTheirWords : Type 0
FillsTakeTheirWords = (s : State) (party : List ℕ) (r : Running) (a : Access) (l : Lending) (v : Value) → IsLast s party r a → r.request ≡ fill l v
    → length (r.so_far ++ a ∷ []) ≡ l.shape.words + 1

-- the calls that may take more than one step
abbrev pub is_long : Request → Bool
is_long (get f) = true
is_long (update u) = true
is_long (fill l v) = true
is_long request = false

-- each other call ends with its first step
abbrev pub OtherCallsTakeOneStep : Type 0
OtherCallsTakeOneStep = (s : State) (party : List ℕ) (r : Running) (a : Access) → IsTaking s party r a → is_long r.request ≡ false
    → (is_done r.request (r.so_far ++ a ∷ []) ≡ true) × (length (r.so_far ++ a ∷ []) ≡ 1)

-- ---- the steps of a get, by how far its list grew

-- the counter that a get has read first
abbrev pub first_counter : List Access → Option ℕ
first_counter [] = None
first_counter (a ∷ more) = Some (heard a)

-- it is the length of its list at its first step
abbrev pub FirstCountersAreLengths : Type 0
FirstCountersAreLengths = (s : State) (party : List ℕ) (r : Running) (a : Access) (f : Fetch) → IsTaking s party r a → r.request ≡ get f → length r.so_far ≡ 0
    → first_counter (r.so_far ++ a ∷ []) ≡ Some (length (s.published f.board f.entry))

-- and it stays while the call runs
abbrev pub FirstCountersStay : Type 0
FirstCountersStay = (s : State) (pairs : Session) (party : List ℕ) (r later : Running) → IsLawfulFrom s pairs → s.parties party ≡ running r → 0 < length r.so_far
    → begins_in party pairs ≡ false → (state_after s pairs).parties party ≡ running later → first_counter later.so_far ≡ first_counter r.so_far

-- a get whose list had this length at its first step, and has this one at its last: w + 2 steps, and w + 1 more for each value that was published meanwhile
pub record IsShortFor (low high words steps : ℕ) : Type 0 where
  pub grown : low ≤ high
  pub least : words + 2 ≤ steps
  pub most : steps ≤ words + 2 + (high - low) * (words + 1)

-- so many steps take the gets of a lawful session
abbrev pub GetsAreShortByGrowth : Type 0
GetsAreShortByGrowth = (pairs : Session) (party : List ℕ) (r : Running) (a : Access) (f : Fetch) (low : ℕ) → IsLawful pairs
    → IsLast (state_after start pairs) party r a → r.request ≡ get f → first_counter (r.so_far ++ a ∷ []) ≡ Some low
    → IsShortFor low (length ((state_after start pairs).published f.board f.entry)) f.shape.words (length (r.so_far ++ a ∷ []))
