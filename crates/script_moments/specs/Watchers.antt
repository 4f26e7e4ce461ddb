-- Watchers: a party waits for ids, and gets the entries of its handles whose ids it took.
use Rattle.std.specs.Prelude.{◌≡◌, ℕ, ◌==◌, true, not, if◌then◌else◌, List, [], ◌∷◌, ◌++◌, filter, Option, Some, None, ⊤}
use Rattle.std.specs.List.{AllByRecursion, flat_map, list_any}
use Rattle.std.specs.Str.{bytes_eq}
use Rattle.board_cell_model.specs.declared.access.Access.TheVariants as access
use Rattle.board_event_model.specs.declared.access.EventAccess.{EventAccess}
use Rattle.board_event_model.specs.declared.access.EventAnswer.{EventAnswer}
use Rattle.board_event_model.specs.declared.call.WaitMode.TheVariants as mode
use Rattle.board_event_model.specs.declared.kind.EventKind.{EventKind}
use Rattle.board_model.specs.declared.answer.Answer.TheVariants as answer
use Rattle.board_model.specs.declared.answer.Reply.TheVariants as reply
use Rattle.board_model.specs.declared.line.Call.TheVariants as call
use Rattle.board_model.specs.declared.line.Line.TheVariants as board_line
use Rattle.script_model.specs.declared.line.EventRequest.TheVariants as request
use Rattle.script_model.specs.declared.line.ScriptLine.TheVariants as line
use Rattle.script_model.specs.declared.reply.EventReply.{EventReply}
use Rattle.script_model.specs.ScriptAnswers.{of_boards, of_event}
use Rattle.script_model.specs.ScriptSession.{IsLawful, Session}
use Rattle.script_model.specs.LawsOfComposition.{of_pair, state_met}
use Rattle.script_model.specs.LawsOfEvents.{TellsIds}
use Rattle.script_moments.specs.Moments.{Moment, moments, own}
use Rattle.script_moments.specs.Gets.{Get, IsPart, IsRound, Round, moments_of, moments_of_open}
use Rattle.script_moments.specs.Reports.{reports}

-- ---- the ids of the handles

-- the moments at which a handle's id is asked for and told, and the id
pub record AskedId : Type 0 where
  pub begun : Moment
  pub ended : Moment
  pub id : ℕ

-- the party begins to ask for the id of the handle's entry
abbrev pub IsIdBegin : List ℕ → List ℕ → Moment → Type 0
IsIdBegin party handle m = m.pair ≡ of_pair (board_line.Begin party (call.Id handle), answer.Begun)

-- the party steps, and is told an id
abbrev pub IsIdTold : List ℕ → Moment → ℕ → Type 0
IsIdTold party m id = m.pair ≡ of_pair (board_line.Step party, answer.Step access.Table (Some (reply.Id id)))

pub record IsAskedId (party handle : List ℕ) (x : AskedId) : Type 0 where
  pub begun : IsIdBegin party handle x.begun
  pub ended : IsIdTold party x.ended x.id

-- one for each handle, in their order
abbrev pub AreAskedIds : List ℕ → List (List ℕ) → List AskedId → Type 0
AreAskedIds party [] [] = ⊤
AreAskedIds party [] (x ∷ xs) = ⊥
AreAskedIds party (h ∷ hs) [] = ⊥
AreAskedIds party (h ∷ hs) (x ∷ xs) = IsAskedId party h x × AreAskedIds party hs xs

abbrev pub moments_of_id : AskedId → List Moment
moments_of_id x = x.begun ∷ x.ended ∷ []

-- ---- a watcher that opens

-- the ids that were told so far, and the moment that began to ask for one, if the party does
pub record Opening : Type 0 where
  pub asked : List AskedId
  pub begun : Option Moment

-- for the first of the handles, in their order, and for the next, if the party asks
abbrev pub AreFirstIds : List ℕ → List (List ℕ) → List AskedId → Option Moment → Type 0
AreFirstIds party hs [] None = ⊤
AreFirstIds party [] [] (Some m) = ⊥
AreFirstIds party (h ∷ hs) [] (Some m) = IsIdBegin party h m
AreFirstIds party [] (x ∷ xs) o = ⊥
AreFirstIds party (h ∷ hs) (x ∷ xs) o = IsAskedId party h x × AreFirstIds party hs xs o

abbrev pub moments_of_asking : Option Moment → List Moment
moments_of_asking None = []
moments_of_asking (Some m) = m ∷ []

abbrev pub moments_of_opening : Opening → List Moment
moments_of_opening x = flat_map moments_of_id x.asked ++ moments_of_asking x.begun

-- since it began to open the party's own lines are those that ask for the ids
pub record IsOpening (before since : Session) (party : List ℕ) (handles : List (List ℕ)) (x : Opening) : Type 0 where
  pub lawful : IsLawful (before ++ since)
  pub own : own party (moments (state_met before) since) ≡ moments_of_opening x
  pub asked : AreFirstIds party handles x.asked x.begun

-- ---- waits

-- the party steps with an access to an event, and is told this
pub record StepsOnEvent (party : List ℕ) (m : Moment) (told : Option EventReply) : Type 0 where
  pub kind : EventKind
  pub name : List ℕ
  pub access : EventAccess
  pub answer : EventAnswer
  pub is : m.pair ≡ (line.Board (board_line.Step party), of_event kind name access answer told)

-- the moments of a wait, and the ids that it was told
pub record Waited : Type 0 where
  pub begun : Moment
  pub steps : List Moment
  pub ended : Moment
  pub ids : List ℕ

-- the party begins to wait for all ids, without blocking
abbrev pub IsWaitBegin : List ℕ → List ℕ → Moment → Type 0
IsWaitBegin party listener m = m.pair ≡ (line.Event party (request.Wait listener true mode.Try), of_boards answer.Begun)

-- the wait goes on
abbrev pub WaitGoesOn : List ℕ → Moment → Type 0
WaitGoesOn party m = StepsOnEvent party m None

pub record IsWaited (party listener : List ℕ) (x : Waited) : Type 0 where
  pub begun : IsWaitBegin party listener x.begun
  pub steps : AllByRecursion (WaitGoesOn party) x.steps
  pub told : EventReply
  pub ended : StepsOnEvent party x.ended (Some told)
  pub tells : TellsIds true told x.ids

abbrev pub moments_of_wait : Waited → List Moment
moments_of_wait x = x.begun ∷ (x.steps ++ x.ended ∷ [])

-- ---- turns

-- the handles whose id is among these, in the line's order
abbrev pub called : List (List ℕ) → List AskedId → List ℕ → List (List ℕ)
called [] xs ids = []
called (h ∷ hs) [] ids = []
called (h ∷ hs) (x ∷ xs) ids = if list_any (λ n. n == x.id) ids then h ∷ called hs xs ids else called hs xs ids

-- each name once, where it stands first
abbrev pub each_once : List (List ℕ) → List (List ℕ)
each_once [] = []
each_once (h ∷ hs) = h ∷ filter (λ g. not (bytes_eq g h)) (each_once hs)

-- the handles whose entries a wait calls for
abbrev pub calls : List (List ℕ) → List AskedId → List ℕ → List (List ℕ)
calls hs xs ids = each_once (called hs xs ids)

-- a wait, and the gets that it calls for
pub record Turn : Type 0 where
  pub wait : Waited
  pub gets : Round

pub record IsTurn (party listener : List ℕ) (handles : List (List ℕ)) (asked : List AskedId) (t : Turn) : Type 0 where
  pub wait : IsWaited party listener t.wait
  pub gets : IsRound party (calls handles asked t.wait.ids) t.gets

abbrev pub moments_of_turn : Turn → List Moment
moments_of_turn t = moments_of_wait t.wait ++ moments_of t.gets

-- a turn that has not ended: none, a wait that runs, or gets, of which one may run
pub data OpenTurn : Type 0 where
  idle : OpenTurn
  waiting : (begun : Moment) (steps : List Moment) → OpenTurn
  getting : (wait : Waited) (gets : Round) (begun : Option (Moment × List Moment)) → OpenTurn

abbrev pub IsOpenTurn : List ℕ → List ℕ → List (List ℕ) → List AskedId → OpenTurn → Type 0
IsOpenTurn party listener hs xs idle = ⊤
IsOpenTurn party listener hs xs (waiting m ms) = IsWaitBegin party listener m × AllByRecursion (WaitGoesOn party) ms
IsOpenTurn party listener hs xs (getting w gets o) = IsWaited party listener w × IsPart party (calls hs xs w.ids) gets o

abbrev pub moments_of_open_turn : OpenTurn → List Moment
moments_of_open_turn idle = []
moments_of_open_turn (waiting m ms) = m ∷ ms
moments_of_open_turn (getting w gets o) = moments_of_wait w ++ (moments_of gets ++ moments_of_open o)

-- ---- watchers

-- a watcher so far: the ids of its handles, the turns that ended, and the one that runs
pub record Watcher : Type 0 where
  pub asked : List AskedId
  pub turns : List Turn
  pub rest : OpenTurn

abbrev pub moments_of_watcher : Watcher → List Moment
moments_of_watcher x = flat_map moments_of_id x.asked ++ (flat_map moments_of_turn x.turns ++ moments_of_open_turn x.rest)

-- since the watcher began the party's own lines are those that ask for the ids, and those of its turns
pub record IsWatcher (before since : Session) (party listener : List ℕ) (handles : List (List ℕ)) (x : Watcher) : Type 0 where
  pub lawful : IsLawful (before ++ since)
  pub own : own party (moments (state_met before) since) ≡ moments_of_watcher x
  pub asked : AreAskedIds party handles x.asked
  pub turns : AllByRecursion (IsTurn party listener handles x.asked) x.turns
  pub rest : IsOpenTurn party listener handles x.asked x.rest

-- ---- what is reported of a handle

-- the wait that ended in a turn that runs, and the gets since
abbrev pub turn_begun : OpenTurn → List Turn
turn_begun idle = []
turn_begun (waiting m ms) = []
turn_begun (getting w gets o) = record { wait = w; gets = gets } ∷ []

-- all turns whose wait has ended
abbrev pub turns_of : Watcher → List Turn
turns_of x = x.turns ++ turn_begun x.rest

-- the gets of this handle among those of these handles
abbrev pub gets_of_handle : List ℕ → List (List ℕ) → Round → List Get
gets_of_handle handle [] xs = []
gets_of_handle handle (h ∷ hs) [] = []
gets_of_handle handle (h ∷ hs) (x ∷ xs) = if bytes_eq h handle then x ∷ gets_of_handle handle hs xs else gets_of_handle handle hs xs

abbrev pub gets_in_turn : List ℕ → List (List ℕ) → List AskedId → Turn → List Get
gets_in_turn handle hs asked t = gets_of_handle handle (calls hs asked t.wait.ids) t.gets

-- all gets of a handle that ended, in order
abbrev pub gets_of : List ℕ → List (List ℕ) → Watcher → List Get
gets_of handle hs x = flat_map (gets_in_turn handle hs x.asked) (turns_of x)

-- and what is reported of them
abbrev pub reports_of : List ℕ → List (List ℕ) → Watcher → List Get
reports_of handle hs x = reports (gets_of handle hs x)
