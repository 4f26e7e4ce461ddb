-- How a watcher is kept.
use Rattle.std.specs.Prelude.{◌≡◌, ℕ, ◌<◌, nat_lt, if◌then◌else◌, Bool, true, false, List, [], ◌∷◌, ◌++◌, length, codes, Some, None, unwrap_or, ◌⊎◌, ⊤}
use Rattle.std.specs.List.{AllByRecursion}
use Rattle.board_model.specs.AnswerGrammar.{reply_text}
use Rattle.board_model.specs.declared.answer.Reply.TheVariants as reply
use Rattle.board_model.specs.LineGrammar.{is_name}
use Rattle.script_model.specs.ScriptAnswers.{ScriptAnswer, is_refused, script_answer_line, script_answer_text}
use Rattle.script_model.specs.ScriptSession.{Session}
use Rattle.script_moments.specs.Moments.{Moment}
use Rattle.script_moments.specs.Gets.{Round}
use Rattle.script_moments.specs.Watchers.{OpenTurn, Waited, getting, idle, waiting}
use Rattle.script_exchanges.specs.DrivenParties.{Got, got_by}
use Rattle.script_feed.specs.AnswerLooks.{EndsGet, GoesOnGet, HasGot}
use Rattle.script_feed.specs.KeptOf.{kept_of}
use Rattle.script_watches.specs.Watchings.{Outcome, Report, Watching, called_by, ended, goes_on, highest_of, ids_by, reports, stepped_get, stepped_wait, taken}
use Rattle.script_watchers.specs.declared.watch.Phase.{Phase}
use Rattle.script_watchers.specs.declared.watch.Phase.TheVariants.{Called, Gets, Idle, Waits}
use Rattle.script_watchers.specs.declared.watch.Progress.{Progress}
use Rattle.script_watchers.specs.declared.watch.Progress.TheVariants.{GoesOn, Refused, Reports}
use Rattle.script_watchers.specs.declared.watch.Watch.{Watch}
use Rattle.script_watchers.specs.Calls.{rows_of}
use Rattle.script_watchers.specs.ToldIds.{told_ids}

-- ---- what is kept

-- so many of the handles that are called for were got
pub record IsCalled (c : Watch) (x : Watching) (w : Waited) (gets : Round) (phase : Phase) : Type 0 where
  pub phase_is : c.phase ≡ phase
  pub calls : c.calls.items ≡ called_by x w
  pub got : c.got ≡ length gets

-- what it does next
abbrev pub IsPhase : Watch → Watching → OpenTurn → Type 0
IsPhase c x idle = c.phase ≡ Idle
IsPhase c x (waiting begun steps) = c.phase ≡ Waits
IsPhase c x (getting w gets None) = IsCalled c x w gets Called
IsPhase c x (getting w gets (Some get)) = IsCalled c x w gets Gets

-- the last generation of each handle
abbrev pub AreReported : Watch → Watching → Type 0
AreReported c x = (handle : List ℕ) → unwrap_or (kept_of c.reported handle) 0 ≡ highest_of x handle

-- the watcher is kept so
pub record Keeps (c : Watch) (x : Watching) : Type 0 where
  pub listener : c.listener ≡ x.listener
  pub rows : c.rows.items ≡ rows_of x.handles x.watcher.asked
  pub named : is_name x.listener ≡ true
  pub handles : AllByRecursion (λ n. is_name n ≡ true) x.handles
  pub phase : IsPhase c x x.watcher.rest
  pub reported : AreReported c x

-- after so many of the handles that are called for: the next one, or it is idle
abbrev pub phase_after : ℕ → ℕ → Phase
phase_after got calls = if nat_lt got calls then Called else Idle

-- a handle that is called for is left, while it gets
abbrev pub HasNextAt : Phase → ℕ → ℕ → Type 0
HasNextAt Idle got calls = ⊤
HasNextAt Waits got calls = ⊤
HasNextAt Called got calls = got < calls
HasNextAt Gets got calls = got < calls

abbrev pub HasNext : Watch → Type 0
HasNext c = HasNextAt c.phase c.got (length c.calls.items)

-- ---- what became of it

-- what is written of the last report
abbrev pub SaysReport : Watch → Report → Type 0
SaysReport c r = c.told.items ≡ codes " " ++ (r.handle ++ (codes " " ++ reply_text (reply.Got r.got.type r.got.words r.got.generation)))

abbrev pub IsProgress : Watch → Progress → Outcome → Type 0
IsProgress c GoesOn (goes_on y) = Keeps c y
IsProgress c GoesOn (reports y r) = ⊥
IsProgress c GoesOn ended = ⊥
IsProgress c Reports (goes_on y) = ⊥
IsProgress c Reports (reports y r) = Keeps c y × SaysReport c r
IsProgress c Reports ended = ⊥
IsProgress c Refused (goes_on y) = ⊥
IsProgress c Refused (reports y r) = ⊥
IsProgress c Refused ended = ⊤

-- ---- the answers that it may be given

-- a step of its get goes on, or ends it
abbrev pub FitsGet : ScriptAnswer → Type 0
FitsGet a = ((got_by a ≡ None) × GoesOnGet (script_answer_line a)) ⊎ ((got : Got) × (got_by a ≡ Some got) × EndsGet (script_answer_line a) got)

-- an accepted line
abbrev pub FitsRest : OpenTurn → ScriptAnswer → Type 0
FitsRest idle a = ⊤
FitsRest (waiting begun steps) a = told_ids (script_answer_text a) ≡ ids_by a
FitsRest (getting w gets None) a = ⊤
FitsRest (getting w gets (Some get)) a = FitsGet a

abbrev pub Fits : Watching → ScriptAnswer → Type 0
Fits x a = (is_refused a ≡ true) ⊎ ((is_refused a ≡ false) × FitsRest x.watcher.rest a)

-- ---- what its calls do

-- with the answer the watcher becomes what the definitions say
abbrev pub Follows : Watch → Watch → List ℕ → Progress → Type 0
Follows old new bytes p =
    (fed : Session) (party : List ℕ) (x : Watching) (a : ScriptAnswer) → Keeps old x → Fits x a → bytes ≡ script_answer_line a → IsProgress new p (taken fed party x a)

-- so does a wait that runs
abbrev pub FollowsWait : Watch → Watch → List ℕ → Type 0
FollowsWait old new bytes =
    (x : Watching) (begun : Moment) (steps : List Moment) (m : Moment) (a : ScriptAnswer) → Keeps old x → x.watcher.rest ≡ waiting begun steps → told_ids (script_answer_text a) ≡ ids_by a → bytes ≡ script_answer_line a
    → IsProgress new GoesOn (stepped_wait x begun steps m (ids_by a))

-- and a get that has ended with this
abbrev pub FollowsGot : Watch → Watch → Got → Progress → Type 0
FollowsGot old new got p =
    (x : Watching) (w : Waited) (gets : Round) (get : Moment × List Moment) (m : Moment) → Keeps old x → x.watcher.rest ≡ getting w gets (Some get) → IsProgress new p (stepped_get x w gets get m (Some got))

-- the report was noted exactly where it is one
abbrev pub IsNoted : Watch → Progress → Watching → Report → Bool → Type 0
IsNoted c GoesOn x r false = AreReported c x
IsNoted c GoesOn x r true = ⊥
IsNoted c Reports x r true = AreReported c (record x { reported = x.reported ++ r ∷ [] }) × SaysReport c r
IsNoted c Reports x r false = ⊥
IsNoted c Refused x r b = ⊥

pub record FollowsReport (old new : Watch) (handle text : List ℕ) (generation : ℕ) (p : Progress) : Type 0 where
  pub listener : new.listener ≡ old.listener
  pub rows : new.rows ≡ old.rows
  pub phase : new.phase ≡ old.phase
  pub calls : new.calls ≡ old.calls
  pub got : new.got ≡ old.got
  pub noted : (x : Watching) (got : Got) → HasGot text generation got → AreReported old x → IsNoted new p x (record { handle = handle; got = got }) (nat_lt (highest_of x handle) got.generation)
