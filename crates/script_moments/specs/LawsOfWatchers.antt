-- Laws of watchers: what they report is an item of its list, and after a take it is fresh.
use Rattle.std.specs.Prelude.{◌≡◌, ℕ, ◌≤◌, ◌==◌, true, List, ◌∷◌, ◌++◌}
use Rattle.std.specs.List.{AllByRecursion, flat_map, list_any}
use Rattle.script_model.specs.ScriptSession.{Session}
use Rattle.script_model.specs.LawsOfComposition.{TakesId, state_met}
use Rattle.script_model.specs.LawsOfLines.{names}
use Rattle.script_moments.specs.Moments.{Moment, moments, own}
use Rattle.script_moments.specs.Gets.{Get, IsGet, Round, named_entry}
use Rattle.script_moments.specs.Reports.{IsAnsweredTake, IsItem, IsOfEntry, Take, entry_got, last_report, to_taken}
use Rattle.script_moments.specs.LawsOfReports.{Rise}
use Rattle.script_moments.specs.Watchers.{IsWatcher, Turn, Watcher, gets_of, moments_of_id, moments_of_turn, moments_of_wait, reports_of, turns_of}

-- the generations that a watcher reports for a handle rise
abbrev pub WatchersReportsRise : Type 0
WatchersReportsRise = (handle : List ℕ) (handles : List (List ℕ)) (x : Watcher) → Rise 0 (reports_of handle handles x)

-- each report of a watcher is an item of its entry's list
abbrev pub WatchersReportItems : Type 0
WatchersReportItems =
    (before since : Session) (party listener : List ℕ) (handles : List (List ℕ)) (x : Watcher) → IsWatcher before since party listener handles x
    → (handle : List ℕ) → AllByRecursion (λ (r : Get). IsItem (state_met (before ++ since)) (entry_got party handle r) r) (reports_of handle handles x)

-- each get of a watcher is of the entry that its handle named when the watcher began
abbrev pub WatchersKeepEntries : Type 0
WatchersKeepEntries =
    (before since : Session) (party listener : List ℕ) (handles : List (List ℕ)) (x : Watcher) → IsWatcher before since party listener handles x
    → (handle : List ℕ) → AllByRecursion (λ (r : Get). entry_got party handle r ≡ named_entry (state_met before) party handle) (gets_of handle handles x)

-- ---- what a taken id calls for

-- the wait of this turn makes the take, at one of its own moments
pub record IsTakenIn (before since : Session) (party : List ℕ) (x : Watcher) (earlier later : List Turn) (t : Turn) (c : Take) (behind : Session) : Type 0 where
  pub turns : turns_of x ≡ earlier ++ t ∷ later
  pub pre : Session
  pub upto : before ++ pre ≡ to_taken c
  pub whole : since ≡ pre ++ c.taken ∷ behind
  pub names_it : names party c.taken.0 ≡ true
  pub done : List Moment
  pub still : List Moment
  pub wait : moments_of_wait t.wait ≡ done ++ record { met = state_met (to_taken c); pair = c.taken } ∷ still
  pub own : own party (moments (state_met before) pre) ≡ flat_map moments_of_id x.asked ++ (flat_map moments_of_turn earlier ++ done)

-- the wait is told what it took, so the handles of that id are called for
abbrev pub TakenIdsAreTold : Type 0
TakenIdsAreTold =
    (before since : Session) (party listener : List ℕ) (handles : List (List ℕ)) (x : Watcher) → IsWatcher before since party listener handles x
    → (earlier later : List Turn) (t : Turn) (c : Take) (behind : Session) → IsTakenIn before since party x earlier later t c behind
    → (n id : ℕ) → TakesId (state_met (to_taken c)) c.taken n id → list_any (λ y. y == id) t.wait.ids ≡ true

-- this get of the turn is through the handle
pub record IsGetOf (party handle : List ℕ) (t : Turn) (r : Get) : Type 0 where
  pub ones : Round
  pub others : Round
  pub gets : t.gets ≡ ones ++ r ∷ others
  pub is : IsGet party handle r

-- once a get that a taken id called for has ended, the last report of its handle has at least the generation of what was published before the notify of that id began
abbrev pub WatchersAreFresh : Type 0
WatchersAreFresh =
    (before since : Session) (party listener : List ℕ) (handles : List (List ℕ)) (x : Watcher) → IsWatcher before since party listener handles x
    → (earlier later : List Turn) (t : Turn) (c : Take) (behind : Session) → IsTakenIn before since party x earlier later t c behind
    → (b i n id g : ℕ) (words : List ℕ) → IsAnsweredTake c b i n id g words
    → (handle : List ℕ) (r : Get) → IsGetOf party handle t r → IsOfEntry party handle r b i
    → g ≤ last_report 0 (reports_of handle handles x)
