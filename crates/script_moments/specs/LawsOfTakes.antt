-- Takes and notifies: an id that a wait took was made pending by a notify, since the last take of it; and what a get after the take gives.
use Rattle.std.specs.Prelude.{◌≡◌, ℕ, ◌≤◌, true, false, List, [], ◌∷◌, ◌++◌, ⊤}
use Rattle.board_event_model.specs.declared.kind.EventKind.{EventKind}
use Rattle.board_event_model.specs.EventMemory.{is_bits}
use Rattle.board_event_model.specs.EventRuns.{EventMove}
use Rattle.board_event_model.specs.EventSessions.{moves_on}
use Rattle.board_event_model.specs.LawsOfIds.{popped_in, pushed_in}
use Rattle.script_model.specs.Parts.{event_part}
use Rattle.script_model.specs.ScriptTurns.{ScriptState}
use Rattle.script_model.specs.ScriptSession.{IsLawful, Session, after, start}
use Rattle.script_model.specs.LawsOfComposition.{BeginsGet, BeginsNotify, EndsGet, EndsPublication, IsIdOf, IsUntaken, Notifies, Pair, RunsOn, TakesId, past, state_met}
use Rattle.script_model.specs.LawsOfEvents.{Last, at_last}

-- ---- what was done with an event

-- the moves on event n of a session, the last one first
abbrev pub moves_in : ℕ → Session → List EventMove
moves_in n pairs = moves_on n (event_part start pairs)

-- the ids that the printed pushes of a session added to the queue of event n, in their order
abbrev pub pushed_on : ℕ → Session → List ℕ
pushed_on n pairs = pushed_in (moves_in n pairs)

-- and those that the printed pops took from it
abbrev pub popped_on : ℕ → Session → List ℕ
popped_on n pairs = popped_in (moves_in n pairs)

-- none of these pairs makes the id pending on event n
abbrev pub IsUnnotified : ScriptState → Session → ℕ → ℕ → Type 0
IsUnnotified s [] n id = ⊤
IsUnnotified s (pair ∷ pairs) n id = ((party : List ℕ) (number : ℕ) → Notifies s pair party n id number → ⊥) × IsUnnotified (after s pair.0 pair.1) pairs n id

-- ---- the notify that a take answers

-- a session that was cut at the begin of a notify, and at its set or push
pub record NotifyCut : Type 0 where
  pub before_begun : Session
  pub begun : Pair
  pub before_notified : Session
  pub notified : Pair
  pub since : Session

-- what came before the set or push
abbrev pub to_notified : NotifyCut → Session
to_notified c = c.before_begun ++ c.begun ∷ c.before_notified

-- the whole of it
abbrev pub to_end : NotifyCut → Session
to_end c = to_notified c ++ c.notified ∷ c.since

-- a party began to notify event n, of this kind and name, of the id, and that call made the id pending.
-- Of a set, this is the last set of the id, and no wait has taken the id since. Of a queue, the ids that were pushed before this push are
-- those that have been popped by the end, so a pop that comes next gives the id of this push
pub record IsNotifyAt (c : NotifyCut) (kind : EventKind) (name : List ℕ) (n id : ℕ) : Type 0 where
  pub party : List ℕ
  pub number : ℕ
  pub begun : BeginsNotify (state_met c.before_begun) c.begun party n id number
  pub notified : Notifies (state_met (to_notified c)) c.notified party n id number
  pub kind_is : notified.step.kind ≡ kind
  pub name_is : notified.step.name ≡ name
  pub newest : is_bits kind ≡ true → IsUnnotified (past (to_notified c) c.notified) c.since n id
  pub untaken : is_bits kind ≡ true → IsUntaken (past (to_notified c) c.notified) c.since n id
  pub in_turn : is_bits kind ≡ false → pushed_on n (to_notified c) ≡ popped_on n (to_end c)

-- there is such a notify in these pairs
pub record IsNotified (pairs : Session) (kind : EventKind) (name : List ℕ) (n id : ℕ) : Type 0 where
  pub cut : NotifyCut
  pub whole : to_end cut ≡ pairs
  pub is : IsNotifyAt cut kind name n id

-- where a pair of a lawful session takes an id out of an event, a notify had made it pending
abbrev pub TakenIdsWereNotified : Type 0
TakenIdsWereNotified = (l : Last) (n id : ℕ) (t : TakesId (at_last l) l.pair n id) → IsNotified l.before t.step.kind t.step.name n id

-- ---- a get after the take

-- a session that was cut at a take, and at the begin and the end of a get
pub record GetCut : Type 0 where
  pub before_taken : Session
  pub taken : Pair
  pub before_asked : Session
  pub asked : Pair
  pub before_got : Session
  pub got : Pair

-- what came before the begin of the get
abbrev pub to_asked : GetCut → Session
to_asked c = c.before_taken ++ c.taken ∷ c.before_asked

-- before its end
abbrev pub to_got : GetCut → Session
to_got c = to_asked c ++ c.asked ∷ c.before_got

-- in one lawful session a wait took the id of an entry out of event n; then a get of the entry began, which ended with the later words
pub record IsGetAfterTake (c : GetCut) (b i n id h : ℕ) (later : List ℕ) : Type 0 where
  pub reader : List ℕ
  pub lawful : IsLawful (to_got c ++ c.got ∷ [])
  pub id_is : IsIdOf (state_met c.before_taken) b i id
  pub taken : TakesId (state_met c.before_taken) c.taken n id
  pub asked : BeginsGet (state_met (to_asked c)) c.asked reader b i
  pub runs_on : RunsOn (past (to_asked c) c.asked) c.before_got reader
  pub got : EndsGet (state_met (to_got c)) c.got reader b i later h

-- the words are those that each publication of the entry in these pairs gave it, or later ones
abbrev pub AreFresh : Session → ℕ → ℕ → ℕ → List ℕ → Type 0
AreFresh pairs b i h later =
    (before behind : Session) (published : Pair) (words : List ℕ) (g : ℕ) → pairs ≡ before ++ published ∷ behind
    → EndsPublication (state_met before) published b i words g → (g ≤ h) × (g ≡ h → words ≡ later)

-- a notify had made the id pending that was taken, and the get gives what was published before that notify began, or later words
pub record IsNotifiedAndFresh (c : GetCut) (kind : EventKind) (name : List ℕ) (b i n id h : ℕ) (later : List ℕ) : Type 0 where
  pub notify : IsNotified c.before_taken kind name n id
  pub fresh : AreFresh notify.cut.before_begun b i h later

-- so it is with each get of an entry that begins after a take of the entry's id
abbrev pub GetsAfterTakesAreNotified : Type 0
GetsAfterTakesAreNotified = (c : GetCut) (b i n id h : ℕ) (later : List ℕ) (k : IsGetAfterTake c b i n id h later)
    → IsNotifiedAndFresh c k.taken.step.kind k.taken.step.name b i n id h later
