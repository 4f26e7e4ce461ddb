-- Laws of scripts whose parties can be watchers: the fed session is lawful, and what is reported rises, is an item of its list, and is fresh.
use Rattle.std.specs.Prelude.{◌≡◌, ℕ, ◌<◌, ◌≤◌, List, [], ◌∷◌, ◌++◌, map, Some, ⊤}
use Rattle.std.specs.List.{AllByRecursion}
use Rattle.script_model.specs.ScriptSession as script
use Rattle.script_model.specs.ScriptSession.{Session}
use Rattle.script_model.specs.LawsOfComposition.{state_met}
use Rattle.script_model.specs.ScriptTurns.{ScriptState}
use Rattle.script_moments.specs.Gets.{Get, named_entry}
use Rattle.script_moments.specs.LawsOfWatchers.{IsGetOf, IsTakenIn}
use Rattle.script_moments.specs.Reports.{IsAnsweredTake, IsItem, IsOfEntry, Take}
use Rattle.script_moments.specs.Watchers.{IsWatcher, Turn, reports_of}
use Rattle.script_exchanges.specs.DrivenParties.{Got}
use Rattle.script_exchanges.specs.Exchanges.{Exchanges, fed_session}
use Rattle.script_watches.specs.Watchings.{Watching, highest_of, reports_through}
use Rattle.script_watches.specs.WatchExchanges.{Leads, Watchings, no_watchings}

-- the lines that were given have the answers of a lawful session
pub record FedSessionsAreLawful : Type 0 where
  pub fed : (xs : Exchanges) (s : Watchings) → Leads no_watchings xs s → s.fed ≡ fed_session xs
  pub lawful : (xs : Exchanges) (s : Watchings) → Leads no_watchings xs s → script.IsLawful s.fed

-- ---- watchers

-- since it asked for the first id the party's own lines are those that asked for the ids of the handles, and those of its waits and gets
pub record IsWatched (fed : Session) (party : List ℕ) (x : Watching) : Type 0 where
  pub since : Session
  pub fed_is : fed ≡ x.before ++ since
  pub watcher : IsWatcher x.before since party x.listener x.handles x.watcher

-- so it is of each party that is watched
abbrev pub WatchedPartiesHaveWatchers : Type 0
WatchedPartiesHaveWatchers = (xs : Exchanges) (s : Watchings) → Leads no_watchings xs s → (party : List ℕ) (x : Watching) → s.of party ≡ Some x → IsWatched s.fed party x

-- ---- reports

-- each generation is above the one before it
abbrev pub Rise : ℕ → List Got → Type 0
Rise top [] = ⊤
Rise top (x ∷ xs) = (top < x.generation) × Rise x.generation xs

-- the generations that one watcher reports for one handle rise
abbrev pub ReportedGenerationsRise : Type 0
ReportedGenerationsRise = (xs : Exchanges) (s : Watchings) → Leads no_watchings xs s → (party : List ℕ) (x : Watching) → s.of party ≡ Some x → (handle : List ℕ) → Rise 0 (reports_through handle x.reported)

-- the last of them is the highest
abbrev pub NoReportIsAboveTheLast : Type 0
NoReportIsAboveTheLast =
    (xs : Exchanges) (s : Watchings) → Leads no_watchings xs s → (party : List ℕ) (x : Watching) → s.of party ≡ Some x
    → (handle : List ℕ) → AllByRecursion (λ (r : Got). r.generation ≤ highest_of x handle) (reports_through handle x.reported)

-- what a get was told
abbrev pub got_of : Get → Got
got_of x = record { type = x.type; words = x.words; generation = x.generation }

-- the reports of the handle are those of its gets whose generations are above all before; and each is an item, at its generation, of the list of the one entry that the handle named when the watcher began
pub record AreItems (s : ScriptState) (party handle : List ℕ) (x : Watching) : Type 0 where
  pub gets : reports_through handle x.reported ≡ map got_of (reports_of handle x.handles x.watcher)
  pub items : AllByRecursion (λ (r : Get). IsItem s (named_entry (state_met x.before) party handle) r) (reports_of handle x.handles x.watcher)

abbrev pub ReportsAreItems : Type 0
ReportsAreItems = (xs : Exchanges) (s : Watchings) → Leads no_watchings xs s → (party : List ℕ) (x : Watching) → s.of party ≡ Some x → (handle : List ℕ) → AreItems (state_met s.fed) party handle x

-- ---- what a taken id calls for

-- the session since the watcher asked for its first id; the wait of this turn takes the id that answers the notify; and this get of the turn, through the handle, is of the notified entry
pub record IsCalledGet (fed : Session) (party handle : List ℕ) (x : Watching) (c : Take) (b i n id g : ℕ) (words : List ℕ) : Type 0 where
  pub since : Session
  pub fed_is : fed ≡ x.before ++ since
  pub earlier : List Turn
  pub later : List Turn
  pub turn : Turn
  pub behind : Session
  pub taken : IsTakenIn x.before since party x.watcher earlier later turn c behind
  pub answers : IsAnsweredTake c b i n id g words
  pub get : Get
  pub of_turn : IsGetOf party handle turn get
  pub of_entry : IsOfEntry party handle get b i

-- once a get that a taken id called for has ended, the last report of its handle has at least the generation of what was published before the notify of that id began
abbrev pub ReportsAreFresh : Type 0
ReportsAreFresh =
    (xs : Exchanges) (s : Watchings) → Leads no_watchings xs s → (party : List ℕ) (x : Watching) → s.of party ≡ Some x
    → (handle : List ℕ) (c : Take) (b i n id g : ℕ) (words : List ℕ) → IsCalledGet s.fed party handle x c b i n id g words → g ≤ highest_of x handle
