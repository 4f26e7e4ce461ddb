-- What is reported, one get more.
use Rattle.std.proofs.Common.{◌≡◌, ℕ, ◌<◌, Bool, true, false, List, [], ◌∷◌, ◌++◌, length, get_or, arith, eqb, refl, sym, ap, ◌∙◌, append_assoc, Option, None}
use Rattle.std.specs.Prelude.{if◌then◌else◌, map, nat_lt}
use Rattle.std.specs.List.{flat_map}
use Rattle.std.specs.Str.{bytes_eq}
use Rattle.std.proofs.lemmas.List.{append-nil, map-append}
use Rattle.std.proofs.lemmas.List.Concat.{flat_map-append}
use Rattle.board_model.proofs.ListLemmas.{same_bytes}
use Rattle.script_moments.specs.Moments.{Moment}
use Rattle.script_moments.specs.Gets.{Get, Round}
use Rattle.script_moments.specs.Reports.{last_report, reports, reports_above}
use Rattle.script_moments.specs.Watchers.{OpenTurn, Turn, Waited, getting, gets_in_turn, gets_of, gets_of_handle, reports_of, turn_begun}
use Rattle.script_moments.specs.WatcherLines.{watcher_at}
use Rattle.script_exchanges.specs.DrivenParties.{Got}
use Rattle.script_watches.specs.Watchings.{Report, Watching, after_gets, called_by, highest_of, last_generation, next_handle, reports_through, turn_ended, turn_so}
use Rattle.script_watches.specs.LawsOfWatches.{got_of}

-- ---- lists

pub through_more : (handle : List ℕ) (rs : List Report) (r : Report) → reports_through handle (rs ++ r ∷ []) ≡ (if bytes_eq r.handle handle then reports_through handle rs ++ r.got ∷ [] else reports_through handle rs)
through_more handle [] r = at (bytes_eq r.handle handle)
  where
    at : (b : Bool) → (if b then r.got ∷ [] else []) ≡ (if b then [] ++ r.got ∷ [] else [])
    at true = refl
    at false = refl
through_more handle (q ∷ rs) r = ap (λ (gs : List Got). if bytes_eq q.handle handle then q.got ∷ gs else gs) (through_more handle rs r) ∙ at (bytes_eq q.handle handle) (bytes_eq r.handle handle) (reports_through handle rs)
  where
    at : (b c : Bool) (gs : List Got) → (if b then q.got ∷ (if c then gs ++ r.got ∷ [] else gs) else (if c then gs ++ r.got ∷ [] else gs)) ≡ (if c then (if b then q.got ∷ gs else gs) ++ r.got ∷ [] else (if b then q.got ∷ gs else gs))
    at true true gs = refl
    at true false gs = refl
    at false true gs = refl
    at false false gs = refl

pub last_more : (top : ℕ) (xs : List Got) (x : Got) → last_generation top (xs ++ x ∷ []) ≡ x.generation
last_more top [] x = refl
last_more top (y ∷ ys) x = last_more y.generation ys x

pub last_is : (top : ℕ) (xs : List Get) → last_generation top (map got_of xs) ≡ last_report top xs
last_is top [] = refl
last_is top (x ∷ xs) = last_is x.generation xs

pub above_more : (top : ℕ) (xs : List Get) (x : Get) → reports_above top (xs ++ x ∷ []) ≡ (if nat_lt (last_report top (reports_above top xs)) x.generation then reports_above top xs ++ x ∷ [] else reports_above top xs)
above_more top [] x = at (nat_lt top x.generation)
  where
    at : (b : Bool) → (if b then x ∷ [] else []) ≡ (if b then [] ++ x ∷ [] else [])
    at true = refl
    at false = refl
above_more top (y ∷ ys) x = at (nat_lt top y.generation) (above_more y.generation ys x) (above_more top ys x)
  where
    behind : (c : Bool) (gs : List Get) → y ∷ (if c then gs ++ x ∷ [] else gs) ≡ (if c then (y ∷ gs) ++ x ∷ [] else y ∷ gs)
    behind true gs = refl
    behind false gs = refl

    at : (b : Bool)
        → reports_above y.generation (ys ++ x ∷ []) ≡ (if nat_lt (last_report y.generation (reports_above y.generation ys)) x.generation then reports_above y.generation ys ++ x ∷ [] else reports_above y.generation ys)
        → reports_above top (ys ++ x ∷ []) ≡ (if nat_lt (last_report top (reports_above top ys)) x.generation then reports_above top ys ++ x ∷ [] else reports_above top ys)
        → (if b then y ∷ reports_above y.generation (ys ++ x ∷ []) else reports_above top (ys ++ x ∷ []))
        ≡ (if nat_lt (last_report top (if b then y ∷ reports_above y.generation ys else reports_above top ys)) x.generation then (if b then y ∷ reports_above y.generation ys else reports_above top ys) ++ x ∷ [] else (if b then y ∷ reports_above y.generation ys else reports_above top ys))
    at true e f = ap (λ (gs : List Get). y ∷ gs) e ∙ behind (nat_lt (last_report y.generation (reports_above y.generation ys)) x.generation) (reports_above y.generation ys)
    at false e f = f

pub handle_more : (handle : List ℕ) (hs : List (List ℕ)) (gs : Round) (x : Get) → length gs < length hs → gets_of_handle handle hs (gs ++ x ∷ []) ≡ (if bytes_eq (get_or hs (length gs) []) handle then gets_of_handle handle hs gs ++ x ∷ [] else gets_of_handle handle hs gs)
handle_more handle [] gs x lt = absurd (omega arith)
handle_more handle (h ∷ []) [] x lt = at (bytes_eq h handle)
  where
    at : (b : Bool) → (if b then x ∷ [] else []) ≡ (if b then [] ++ x ∷ [] else [])
    at true = refl
    at false = refl
handle_more handle (h ∷ i ∷ hs) [] x lt = at (bytes_eq h handle)
  where
    at : (b : Bool) → (if b then x ∷ [] else []) ≡ (if b then [] ++ x ∷ [] else [])
    at true = refl
    at false = refl
handle_more handle (h ∷ hs) (g ∷ gs) x lt = ap (λ (r : List Get). if bytes_eq h handle then g ∷ r else r) (handle_more handle hs gs x (omega arith)) ∙ at (bytes_eq h handle) (bytes_eq (get_or hs (length gs) []) handle) (gets_of_handle handle hs gs)
  where
    at : (b c : Bool) (r : List Get) → (if b then g ∷ (if c then r ++ x ∷ [] else r) else (if c then r ++ x ∷ [] else r)) ≡ (if c then (if b then g ∷ r else r) ++ x ∷ [] else (if b then g ∷ r else r))
    at true true r = refl
    at true false r = refl
    at false true r = refl
    at false false r = refl

pub handle_none : (handle : List ℕ) (hs : List (List ℕ)) → gets_of_handle handle hs [] ≡ []
handle_none handle [] = refl
handle_none handle (h ∷ hs) = refl

-- ---- the gets of a watcher

-- what it reports of the handle is what it says
abbrev pub IsTold : Watching → List ℕ → Type 0
IsTold x handle = reports_through handle x.reported ≡ map got_of (reports_of handle x.handles x.watcher)

-- the gets of turns that ended
abbrev pub gets_before : List ℕ → Watching → List Get
gets_before handle x = flat_map (gets_in_turn handle x.handles x.watcher.asked) x.watcher.turns

gets_with : (handle : List ℕ) (x : Watching) (w : Waited) (gets : Round) → flat_map (gets_in_turn handle x.handles x.watcher.asked) (x.watcher.turns ++ record { wait = w; gets = gets } ∷ []) ≡ gets_before handle x ++ gets_of_handle handle (called_by x w) gets
gets_with handle x w gets =
    flat_map-append (gets_in_turn handle x.handles x.watcher.asked) x.watcher.turns (record { wait = w; gets = gets } ∷ [])
    ∙ ap (λ (gs : List Get). gets_before handle x ++ gs) (append-nil (gets_of_handle handle (called_by x w) gets))

-- with a turn that runs
pub gets_at : (handle : List ℕ) (x : Watching) (w : Waited) (gets : Round) (o : Option (Moment × List Moment)) → gets_of handle x.handles (watcher_at x.watcher.asked x.watcher.turns (getting w gets o)) ≡ gets_before handle x ++ gets_of_handle handle (called_by x w) gets
gets_at handle x w gets o = gets_with handle x w gets

-- behind a get, whether it was the last one or not
abbrev gets_now : List ℕ → List (List ℕ) → Watching → List Get
gets_now handle hs y = gets_of handle hs y.watcher

pub gets_after : (handle : List ℕ) (x : Watching) (w : Waited) (gets : Round) → gets_now handle x.handles (after_gets x w gets) ≡ gets_before handle x ++ gets_of_handle handle (called_by x w) gets
gets_after handle x w gets = at (eqb (length gets) (length (called_by x w)))
  where
    at : (b : Bool) → gets_now handle x.handles (if b then turn_ended x (record { wait = w; gets = gets }) else turn_so x (getting w gets None)) ≡ gets_before handle x ++ gets_of_handle handle (called_by x w) gets
    at true = ap (λ (ts : List Turn). flat_map (gets_in_turn handle x.handles x.watcher.asked) ts) (append-nil (x.watcher.turns ++ record { wait = w; gets = gets } ∷ [])) ∙ gets_with handle x w gets
    at false = gets_with handle x w gets

-- what stays of a watcher
abbrev handles_of : Watching → List (List ℕ)
handles_of y = y.handles

abbrev reported_of : Watching → List Report
reported_of y = y.reported

pub after_handles : (x : Watching) (w : Waited) (gets : Round) → (after_gets x w gets).handles ≡ x.handles
after_handles x w gets = at (eqb (length gets) (length (called_by x w)))
  where
    at : (b : Bool) → handles_of (if b then turn_ended x (record { wait = w; gets = gets }) else turn_so x (getting w gets None)) ≡ x.handles
    at true = refl
    at false = refl

pub after_reported : (x : Watching) (w : Waited) (gets : Round) → (after_gets x w gets).reported ≡ x.reported
after_reported x w gets = at (eqb (length gets) (length (called_by x w)))
  where
    at : (b : Bool) → reported_of (if b then turn_ended x (record { wait = w; gets = gets }) else turn_so x (getting w gets None)) ≡ x.reported
    at true = refl
    at false = refl

-- ---- a watcher goes on

-- with no get more
pub told_keeps : (handle : List ℕ) (x : Watching) (o : OpenTurn) → turn_begun o ≡ turn_begun x.watcher.rest → IsTold x handle → IsTold (turn_so x o) handle
told_keeps handle x o e h = h ∙ ap (λ (ts : List Turn). map got_of (reports (flat_map (gets_in_turn handle x.handles x.watcher.asked) (x.watcher.turns ++ ts)))) (sym e)

-- where its wait has ended
pub told_none : (handle : List ℕ) (x : Watching) (w : Waited) → turn_begun x.watcher.rest ≡ [] → IsTold x handle → IsTold (after_gets x w []) handle
told_none handle x w e h =
    ap (reports_through handle) (after_reported x w []) ∙ h
    ∙ ap (λ (gs : List Get). map got_of (reports gs)) (before ∙ sym (gets_after handle x w [] ∙ ap (λ (gs : List Get). gets_before handle x ++ gs) (handle_none handle (called_by x w)) ∙ append-nil (gets_before handle x)))
    ∙ ap (λ (hs : List (List ℕ)). map got_of (reports (gets_now handle hs (after_gets x w [])))) (sym (after_handles x w []))
  where
    before : gets_of handle x.handles x.watcher ≡ gets_before handle x
    before = ap (λ (ts : List Turn). flat_map (gets_in_turn handle x.handles x.watcher.asked) (x.watcher.turns ++ ts)) e ∙ ap (λ (ts : List Turn). flat_map (gets_in_turn handle x.handles x.watcher.asked) ts) (append-nil x.watcher.turns)

pub highest_is : (handle : List ℕ) (x : Watching) → IsTold x handle → highest_of x handle ≡ last_report 0 (reports_of handle x.handles x.watcher)
highest_is handle x h = ap (last_generation 0) h ∙ last_is 0 (reports_of handle x.handles x.watcher)

-- what the get of the handle at the next place has to report
abbrev pub report_of : Watching → Waited → Round → Get → Report
report_of x w gets n = record { handle = next_handle x w gets; got = got_of n }

-- with one get more of the handle at the next place
module _ (x : Watching) (w : Waited) (gets : Round) (get : Option (Moment × List Moment)) (at_rest : x.watcher.rest ≡ getting w gets get) (room : length gets < length (called_by x w)) (n : Get) where
  -- its gets before and now
  gets_old : (handle : List ℕ) → gets_of handle x.handles x.watcher ≡ gets_before handle x ++ gets_of_handle handle (called_by x w) gets
  gets_old handle = ap (λ (o : OpenTurn). gets_of handle x.handles (watcher_at x.watcher.asked x.watcher.turns o)) at_rest ∙ gets_at handle x w gets get

  one_more : (handle : List ℕ) (b : Bool) → bytes_eq (next_handle x w gets) handle ≡ b → gets_now handle x.handles (after_gets x w (gets ++ n ∷ [])) ≡ (if b then gets_of handle x.handles x.watcher ++ n ∷ [] else gets_of handle x.handles x.watcher)
  one_more handle true e =
      gets_after handle x w (gets ++ n ∷ []) ∙ ap (λ (gs : List Get). gets_before handle x ++ gs) (handle_more handle (called_by x w) gets n room ∙ ap (λ (b : Bool). if b then gets_of_handle handle (called_by x w) gets ++ n ∷ [] else gets_of_handle handle (called_by x w) gets) e)
      ∙ sym (append_assoc (gets_before handle x) (gets_of_handle handle (called_by x w) gets) (n ∷ [])) ∙ ap (λ (gs : List Get). gs ++ n ∷ []) (sym (gets_old handle))
  one_more handle false e =
      gets_after handle x w (gets ++ n ∷ []) ∙ ap (λ (gs : List Get). gets_before handle x ++ gs) (handle_more handle (called_by x w) gets n room ∙ ap (λ (b : Bool). if b then gets_of_handle handle (called_by x w) gets ++ n ∷ [] else gets_of_handle handle (called_by x w) gets) e)
      ∙ sym (gets_old handle)

  -- what is reported now
  abbrev reports_now : List ℕ → List Get
  reports_now handle = reports (gets_now handle x.handles (after_gets x w (gets ++ n ∷ [])))

  reported_now : (handle : List ℕ) (c : Bool) → bytes_eq (next_handle x w gets) handle ≡ true → IsTold x handle → nat_lt (highest_of x handle) n.generation ≡ c
      → reports_now handle ≡ (if c then reports_of handle x.handles x.watcher ++ n ∷ [] else reports_of handle x.handles x.watcher)
  reported_now handle c e told f =
      ap reports (one_more handle true e) ∙ above_more 0 (gets_of handle x.handles x.watcher) n
      ∙ ap (λ (top : ℕ). if nat_lt top n.generation then reports_of handle x.handles x.watcher ++ n ∷ [] else reports_of handle x.handles x.watcher) (sym (highest_is handle x told))
      ∙ ap (λ (b : Bool). if b then reports_of handle x.handles x.watcher ++ n ∷ [] else reports_of handle x.handles x.watcher) f

  abbrev the_report : Report
  the_report = report_of x w gets n

  -- where it is reported
  pub told_more : nat_lt (highest_of x (next_handle x w gets)) n.generation ≡ true → ((h : List ℕ) → IsTold x h) → (handle : List ℕ) → IsTold (record (after_gets x w (gets ++ n ∷ [])) { reported = x.reported ++ the_report ∷ [] }) handle
  told_more above told handle =
      through_more handle x.reported the_report ∙ at (bytes_eq (next_handle x w gets) handle) refl
      ∙ ap (λ (hs : List (List ℕ)). map got_of (reports (gets_now handle hs (after_gets x w (gets ++ n ∷ []))))) (sym (after_handles x w (gets ++ n ∷ [])))
    where
      at : (b : Bool) → bytes_eq (next_handle x w gets) handle ≡ b → (if b then reports_through handle x.reported ++ got_of n ∷ [] else reports_through handle x.reported) ≡ map got_of (reports_now handle)
      at true e =
          let here : nat_lt (highest_of x handle) n.generation ≡ true = ap (λ (h : List ℕ). nat_lt (highest_of x h) n.generation) (sym (same_bytes (next_handle x w gets) handle e)) ∙ above in
          ap (λ (gs : List Got). gs ++ got_of n ∷ []) (told handle) ∙ sym (map-append got_of (reports_of handle x.handles x.watcher) (n ∷ [])) ∙ ap (λ (gs : List Get). map got_of gs) (sym (reported_now handle true e (told handle) here))
      at false e = told handle ∙ ap (λ (gs : List Get). map got_of gs) (sym (ap reports (one_more handle false e)))

  -- where it is not
  pub told_same : nat_lt (highest_of x (next_handle x w gets)) n.generation ≡ false → ((h : List ℕ) → IsTold x h) → (handle : List ℕ) → IsTold (after_gets x w (gets ++ n ∷ [])) handle
  told_same below told handle =
      ap (reports_through handle) (after_reported x w (gets ++ n ∷ [])) ∙ told handle ∙ ap (λ (gs : List Get). map got_of gs) (at (bytes_eq (next_handle x w gets) handle) refl)
      ∙ ap (λ (hs : List (List ℕ)). map got_of (reports (gets_now handle hs (after_gets x w (gets ++ n ∷ []))))) (sym (after_handles x w (gets ++ n ∷ [])))
    where
      at : (b : Bool) → bytes_eq (next_handle x w gets) handle ≡ b → reports_of handle x.handles x.watcher ≡ reports_now handle
      at true e =
          let here : nat_lt (highest_of x handle) n.generation ≡ false = ap (λ (h : List ℕ). nat_lt (highest_of x h) n.generation) (sym (same_bytes (next_handle x w gets) handle e)) ∙ below in
          sym (reported_now handle false e (told handle) here)
      at false e = sym (ap reports (one_more handle false e))
