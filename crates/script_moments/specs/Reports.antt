-- What a watcher reports: of the gets of one handle those with a generation above all that were reported before.
use Rattle.std.specs.Prelude.{◌≡◌, ℕ, ◌-◌, ◌<◌, nat_lt, if◌then◌else◌, List, [], ◌∷◌, ◌++◌, slice_get, Some}
use Rattle.script_model.specs.ScriptTurns.{ScriptState}
use Rattle.script_model.specs.ScriptSession.{IsLawful, Session}
use Rattle.script_model.specs.LawsOfComposition.{BeginsNotify, EndsPublication, IsIdOf, IsUntaken, Notifies, Pair, TakesId, past, state_met}
use Rattle.script_moments.specs.Moments.{Moment, moments, own}
use Rattle.script_moments.specs.Gets.{Get, IsGet, NamedEntry, moments_of_get, named_entry}

-- ---- reports

-- those of these gets that are reported, where this was the last generation that was
abbrev pub reports_above : ℕ → List Get → List Get
reports_above top [] = []
reports_above top (x ∷ xs) = if nat_lt top x.generation then x ∷ reports_above x.generation xs else reports_above top xs

-- a watcher that has reported nothing yet
abbrev pub reports : List Get → List Get
reports gets = reports_above 0 gets

-- the generation that was reported last; this one where none was
abbrev pub last_report : ℕ → List Get → ℕ
last_report top [] = top
last_report top (x ∷ xs) = last_report x.generation xs

-- ---- a get of a party

-- one of the party's gets through the handle since these pairs
pub record IsOwnGet (before since : Session) (party handle : List ℕ) (x : Get) : Type 0 where
  pub lawful : IsLawful (before ++ since)
  pub earlier : List Moment
  pub later : List Moment
  pub own : own party (moments (state_met before) since) ≡ earlier ++ (moments_of_get x ++ later)
  pub is : IsGet party handle x

-- the entry of the handle at the begin of the get
abbrev pub entry_got : List ℕ → List ℕ → Get → NamedEntry
entry_got party handle x = named_entry x.begun.met party handle

-- the get is of entry i of board b
pub record IsOfEntry (party handle : List ℕ) (x : Get) (b i : ℕ) : Type 0 where
  pub board : (entry_got party handle x).board ≡ b
  pub entry : (entry_got party handle x).entry ≡ i

-- the value is an item of the entry's list, at its generation
pub record IsItem (s : ScriptState) (n : NamedEntry) (x : Get) : Type 0 where
  pub some : 0 < x.generation
  pub item : slice_get (s.boards.published n.board n.entry) (x.generation - 1) ≡ Some x.words

-- ---- a take of an id that answers a notify

-- a session that was cut at four pairs
pub record Take : Type 0 where
  pub before_published : Session
  pub published : Pair
  pub before_begun : Session
  pub begun : Pair
  pub before_notified : Session
  pub notified : Pair
  pub before_taken : Session
  pub taken : Pair

-- before the notify began
abbrev pub to_begun : Take → Session
to_begun c = c.before_published ++ c.published ∷ c.before_begun

-- before it made its id pending
abbrev pub to_notified : Take → Session
to_notified c = to_begun c ++ c.begun ∷ c.before_notified

-- before the id was taken
abbrev pub to_taken : Take → Session
to_taken c = to_notified c ++ c.notified ∷ c.before_taken

-- words were published in an entry; then a party began to notify event n of the entry's id, and made it pending; then a wait took it, the first one since
pub record IsAnsweredTake (c : Take) (b i n id g : ℕ) (words : List ℕ) : Type 0 where
  pub bell : List ℕ
  pub number : ℕ
  pub published : EndsPublication (state_met c.before_published) c.published b i words g
  pub id_is : IsIdOf (state_met (to_begun c)) b i id
  pub begun : BeginsNotify (state_met (to_begun c)) c.begun bell n id number
  pub notified : Notifies (state_met (to_notified c)) c.notified bell n id number
  pub untaken : IsUntaken (past (to_notified c) c.notified) c.before_taken n id
  pub taken : TakesId (state_met (to_taken c)) c.taken n id
