-- Laws of whole sessions: what gets and looks tell beside what was published.
use Rattle.std.specs.Prelude.{◌≡◌, ℕ, ◌+◌, ◌≤◌, ◌==◌, ◌&&◌, Bool, false, if◌then◌else◌, List, [], ◌∷◌, ◌++◌, length, map, Option, Some}
use Rattle.std.specs.List.{count_by}
use Rattle.board_cell_model.specs.declared.access.Access.{Access}
use Rattle.board_model.specs.declared.answer.Answer.{Answer}
use Rattle.board_model.specs.declared.answer.Answer.TheVariants as answer
use Rattle.board_model.specs.declared.answer.Reply.{Reply}
use Rattle.board_model.specs.declared.answer.Reply.TheVariants as reply
use Rattle.board_model.specs.declared.line.Line.{Line}
use Rattle.board_model.specs.declared.line.Line.TheVariants as line
use Rattle.board_model.specs.TypeTable.{value_type_of, value_words}
use Rattle.board_model.specs.Tables.{is_write_handle}
use Rattle.board_model.specs.Requests.{Fetch, Look, Request, fill, fresh, get, publish, update}
use Rattle.board_model.specs.Replies.{word_put}
use Rattle.board_model.specs.Parties.{Party, Running, running}
use Rattle.board_model.specs.LawfulSession.{IsLawful, Session, State, after, start, state_after}

-- ---- pairs of a line and its answer; an entry is meant by its board's number, which is never used again, and its place

-- the pair ends a get of the entry, with these words and this generation
pub record IsGot (s : State) (pair : Line × Answer) (b i : ℕ) (words : List ℕ) (g : ℕ) : Type 0 where
  pub party : List ℕ
  pub call : Running
  pub fetch : Fetch
  pub access : Access
  pub runs : s.parties party ≡ running call
  pub request : call.request ≡ get fetch
  pub board : fetch.board ≡ b
  pub place : fetch.entry ≡ i
  pub line : pair.0 ≡ line.Step party
  pub answer : pair.1 ≡ answer.Step access (Some (reply.Got (value_type_of fetch.type) words g))

-- an update, publish or fill of these words in the entry, after which the counter is g
abbrev pub IsPublicationOf : Request → ℕ → ℕ → List ℕ → ℕ → Type 0
IsPublicationOf (update u) b i words g = (u.board ≡ b) × (u.entry ≡ i) × (value_words u.value ≡ words) × (g ≡ u.generation + 1)
IsPublicationOf (publish l) b i words g = (l.board ≡ b) × (l.entry ≡ i) × (map word_put l.words ≡ words) × (g ≡ l.generation + 1)
IsPublicationOf (fill l v) b i words g = (l.board ≡ b) × (l.entry ≡ i) × (value_words v ≡ words) × (g ≡ l.generation + 1)
IsPublicationOf request b i words g = ⊥

-- the pair ends such a call
pub record IsPublished (s : State) (pair : Line × Answer) (b i : ℕ) (words : List ℕ) (g : ℕ) : Type 0 where
  pub party : List ℕ
  pub call : Running
  pub access : Access
  pub told : Reply
  pub runs : s.parties party ≡ running call
  pub request : IsPublicationOf call.request b i words g
  pub line : pair.0 ≡ line.Step party
  pub answer : pair.1 ≡ answer.Step access (Some told)

-- the pair ends a look whether a value of generation g is still the entry's last one
pub record IsLooked (s : State) (pair : Line × Answer) (b i g : ℕ) (still : Bool) : Type 0 where
  pub party : List ℕ
  pub call : Running
  pub look : Look
  pub access : Access
  pub runs : s.parties party ≡ running call
  pub request : call.request ≡ fresh look
  pub board : look.board ≡ b
  pub place : look.entry ≡ i
  pub value : look.generation ≡ g
  pub line : pair.0 ≡ line.Step party
  pub answer : pair.1 ≡ answer.Step access (Some (reply.Fresh still))

-- ---- how many pairs end a publication of the entry

-- a call that gives the entry a new value once it ends
abbrev pub is_publication : Request → ℕ → ℕ → Bool
is_publication (update u) b i = (u.board == b) && (u.entry == i)
is_publication (publish l) b i = (l.board == b) && (l.entry == i)
is_publication (fill l v) b i = (l.board == b) && (l.entry == i)
is_publication request b i = false

-- the party's call is such a one, and ends here with a reply
abbrev pub publishes_by : Party → Option Reply → ℕ → ℕ → Bool
publishes_by (running r) (Some t) b i = is_publication r.request b i
publishes_by party told b i = false

-- the line and its answer end a publication of the entry
abbrev pub publishes_entry : State → Line → Answer → ℕ → ℕ → Bool
publishes_entry s (line.Step party) (answer.Step a told) b i = publishes_by (s.parties party) told b i
publishes_entry s l a b i = false

-- how many values of the entry a session publishes from this state on
abbrev pub publications_in : State → Session → ℕ → ℕ → ℕ
publications_in s [] b i = 0
publications_in s (pair ∷ pairs) b i = (if publishes_entry s pair.0 pair.1 b i then 1 else 0) + publications_in (after s pair.0 pair.1) pairs b i

-- ---- two pairs of a lawful session, one after the other

-- two moments of one lawful session, and all that came before and between
pub record Pairs : Type 0 where
  pub before : Session
  pub one : Line × Answer
  pub between : Session
  pub two : Line × Answer
  pub lawful : IsLawful (before ++ (one ∷ (between ++ two ∷ [])))

-- the states before the two
abbrev pub at_one : Pairs → State
at_one p = state_after start p.before

-- the state that the second pair met
abbrev pub at_two : Pairs → State
at_two p = state_after start (p.before ++ (p.one ∷ p.between))

-- ---- the laws

-- two gets of one entry with the same generation carry equal values
abbrev pub OneGenerationOneValue : Type 0
OneGenerationOneValue = (p : Pairs) (b i g : ℕ) (words later : List ℕ) → IsGot (at_one p) p.one b i words g → IsGot (at_two p) p.two b i later g → words ≡ later

-- generations never fall
abbrev pub GenerationsNeverFall : Type 0
GenerationsNeverFall = (p : Pairs) (b i g h : ℕ) (words later : List ℕ) → IsGot (at_one p) p.one b i words g → IsGot (at_two p) p.two b i later h → g ≤ h

-- after a publication each get gives its value or a later one
abbrev pub NoGetIsStale : Type 0
NoGetIsStale = (p : Pairs) (b i g h : ℕ) (words later : List ℕ) → IsPublished (at_one p) p.one b i words g → IsGot (at_two p) p.two b i later h
    → (g ≤ h) × (g ≡ h → words ≡ later)

-- a value is still the last one exactly where nothing was published since
abbrev pub FreshMeansUnpublished : Type 0
FreshMeansUnpublished = (p : Pairs) (b i g : ℕ) (words : List ℕ) (still : Bool) → IsGot (at_one p) p.one b i words g → IsLooked (at_two p) p.two b i g still
    → still ≡ (publications_in (after (at_one p) p.one.0 p.one.1) p.between b i == 0)

-- what was published before a pair stays, and each publication since is one value more
abbrev pub ListsOnlyGrow : Type 0
ListsOnlyGrow = (p : Pairs) (b i : ℕ) → b ≤ (at_one p).standing.tables.last_board
    → (more : List (List ℕ)) × ((at_two p).published b i ≡ (at_one p).published b i ++ more) × (length more ≡ publications_in (at_one p) (p.one ∷ p.between) b i)

-- at most one write handle or loan of an entry is a thing at any moment
abbrev pub OneWriteHandle : Type 0
OneWriteHandle = (pairs : Session) (b i : ℕ) → IsLawful pairs → count_by (is_write_handle b i) (state_after start pairs).standing.tables.things ≤ 1
