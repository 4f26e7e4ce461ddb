-- What becomes of a watcher with an answer: it stays the same one, and what it has reported grows by what is said.
use Rattle.std.proofs.Common.{◌≡◌, ℕ, Bool, true, false, List, [], ◌∷◌, ◌++◌, length, refl, sym, subst, Option, Some, None}
use Rattle.std.specs.Prelude.{◌==◌, nat_lt, if◌then◌else◌}
use Rattle.std.specs.Str.{bytes_eq}
use Rattle.std.proofs.lemmas.List.{append-nil}
use Rattle.board_model.proofs.ListLemmas.{same_bytes}
use Rattle.script_model.specs.ScriptAnswers.{ScriptAnswer, is_refused}
use Rattle.script_model.specs.ScriptSession.{Session}
use Rattle.script_moments.specs.Gets.{Round}
use Rattle.script_moments.specs.Moments.{Moment}
use Rattle.script_moments.specs.Watchers.{OpenTurn, Waited, getting, idle, waiting}
use Rattle.script_exchanges.specs.DrivenParties.{Got, got_by, kept_with, let_go}
use Rattle.script_watches.specs.Watchings.{Outcome, Report, Watching, after_get, after_gets, called_by, ended, goes_on, highest_of, ids_by, moment_of, next_handle, reports, stepped_get, stepped_wait, taken, taken_on, turn_ended, turn_so}

-- ---- one watcher

-- it has the listener and the handles of the other, began where that began, and has reported this more
pub record Becomes (x : Watching) (more : List Report) (y : Watching) : Type 0 where
  pub listener : y.listener ≡ x.listener
  pub handles : y.handles ≡ x.handles
  pub before : y.before ≡ x.before
  pub reported : y.reported ≡ x.reported ++ more

-- the report is of a handle that a wait of the watcher calls for
pub record IsOfCalled (x : Watching) (r : Report) : Type 0 where
  pub wait : Waited
  pub gets : Round
  pub handle : r.handle ≡ next_handle x wait gets

-- what becomes of it
abbrev pub IsNext : Watching → Outcome → Type 0
IsNext x (goes_on y) = Becomes x [] y
IsNext x (reports y r) = Becomes x (r ∷ []) y × IsOfCalled x r
IsNext x ended = Unit {0}

pub stays : (x : Watching) → Becomes x [] x
stays x = record { listener = refl; handles = refl; before = refl; reported = sym (append-nil x.reported) }

turn_next : (x : Watching) (rest : OpenTurn) → Becomes x [] (turn_so x rest)
turn_next x rest = record { listener = refl; handles = refl; before = refl; reported = sym (append-nil x.reported) }

gets_next : (x : Watching) (w : Waited) (gets : Round) → Becomes x [] (after_gets x w gets)
gets_next x w gets = at (length gets == length (called_by x w))
  where
    at : (b : Bool) → Becomes x [] (if b then turn_ended x (record { wait = w; gets = gets }) else turn_so x (getting w gets None))
    at true = record { listener = refl; handles = refl; before = refl; reported = sym (append-nil x.reported) }
    at false = turn_next x (getting w gets None)

report_next : (x y : Watching) (r : Report) → Becomes x [] y → IsOfCalled x r → IsNext x (after_get x y r)
report_next x y r h k = at (nat_lt (highest_of x r.handle) r.got.generation)
  where
    at : (b : Bool) → IsNext x (if b then reports (record y { reported = x.reported ++ r ∷ [] }) r else goes_on y)
    at true = (record { listener = h.listener; handles = h.handles; before = h.before; reported = refl }, k)
    at false = h

wait_next : (x : Watching) (begun : Moment) (steps : List Moment) (m : Moment) (ids : Option (List ℕ)) → IsNext x (stepped_wait x begun steps m ids)
wait_next x begun steps m None = turn_next x _
wait_next x begun steps m (Some ids) = gets_next x _ []

get_next : (x : Watching) (w : Waited) (gets : Round) (get : Moment × List Moment) (m : Moment) (got : Option Got) → IsNext x (stepped_get x w gets get m got)
get_next x w gets get m None = turn_next x _
get_next x w gets get m (Some got) = report_next x _ _ (gets_next x w _) (record { wait = w; gets = gets; handle = refl })

on_next : (x : Watching) (rest : OpenTurn) (m : Moment) (a : ScriptAnswer) → IsNext x (taken_on x rest m a)
on_next x idle m a = turn_next x _
on_next x (waiting begun steps) m a = wait_next x begun steps m (ids_by a)
on_next x (getting w gets None) m a = turn_next x _
on_next x (getting w gets (Some get)) m a = get_next x w gets get m (got_by a)

pub taken_next : (fed : Session) (party : List ℕ) (x : Watching) (a : ScriptAnswer) → IsNext x (taken fed party x a)
taken_next fed party x a = at (is_refused a)
  where
    at : (b : Bool) → IsNext x (if b then ended else taken_on x x.watcher.rest (moment_of fed party x a) a)
    at true = tt
    at false = on_next x x.watcher.rest (moment_of fed party x a) a

-- ---- of one party and of others

pub some_is : {A : Type 0} (y x : A) → Some y ≡ Some x → y ≡ x
some_is y x e = cc

-- what holds of all others, and of what is kept of this one, holds of each
pub kept_so : (P : List ℕ → Watching → Type 0) (of : List ℕ → Option Watching) (q : List ℕ) (o : Option Watching)
    → ((p : List ℕ) (x : Watching) → bytes_eq p q ≡ false → of p ≡ Some x → P p x) → ((x : Watching) → o ≡ Some x → P q x)
    → (p : List ℕ) (x : Watching) → kept_with of q o p ≡ Some x → P p x
kept_so P of q o h k p x = at (bytes_eq p q) refl
  where
    at : (b : Bool) → bytes_eq p q ≡ b → (if b then o else of p) ≡ Some x → P p x
    at true same e = subst (λ (r : List ℕ). P r x) (sym (same_bytes p q same)) (k x e)
    at false apart e = h p x apart e

-- what holds of all holds of those that are left, whether one was let go or not
pub let_go_so : (P : List ℕ → Watching → Type 0) (of : List ℕ → Option Watching) (o : Option (List ℕ)) (refused : Bool)
    → ((p : List ℕ) (x : Watching) → of p ≡ Some x → P p x) → (p : List ℕ) (x : Watching) → let_go of o refused p ≡ Some x → P p x
let_go_so P of None refused h p x e = h p x e
let_go_so P of (Some q) true h p x e = h p x e
let_go_so P of (Some q) false h p x e = kept_so P of q None (λ r y apart k. h r y k) (λ y k. absurd cc) p x e
