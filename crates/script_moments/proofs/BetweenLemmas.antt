-- Publications between the first and the last step of a party, and the lists at these steps.
use Rattle.std.proofs.Common.{◌≡◌, ℕ, ◌+◌, ◌≤◌, Bool, true, false, cond, List, [], ◌∷◌, ◌++◌, length, arith, refl, sym, ap, ◌∙◌}
use Rattle.std.specs.Prelude.{if◌then◌else◌, ◌||◌}
use Rattle.std.specs.List.{count_by}
use Rattle.std.proofs.lemmas.List.{length-append}
use Rattle.std.proofs.lemmas.List.Sums.{sum_by-cons}
use Rattle.board_model.specs.declared.line.Line.TheVariants as board_line
use Rattle.board_model.specs.LawfulSession as boards
use Rattle.board_model.specs.Sound.{Sound}
use Rattle.script_model.specs.declared.line.ScriptLine.{ScriptLine}
use Rattle.script_model.specs.declared.line.ScriptLine.TheVariants as line
use Rattle.script_model.specs.ScriptAnswers.{ScriptAnswer}
use Rattle.script_model.specs.ScriptTurns.{ScriptState}
use Rattle.script_model.specs.ScriptSession.{IsLawfulFrom, IsRight, Session, after}
use Rattle.script_model.specs.LawsOfLines.{names, publishes}
use Rattle.script_model.proofs.LineLaws.{lines_lengthen}
use Rattle.script_moments.specs.Moments.{Moment, left, moments, own}
use Rattle.script_moments.specs.Gets.{NamedEntry}
use Rattle.script_moments.specs.LawsOfSnapshots.{from_first_step, has_step, publishes_here, is_step, published_between, to_last_step}
use Rattle.script_moments.proofs.ChainLemmas.{Chain, Grows, grows_more, grows_same, link_grows}
use Rattle.script_moments.proofs.GetWalks.{pair_grows}

-- ---- one pair, and how long a list is

abbrev pub len : boards.State → NamedEntry → ℕ
len s n = length (s.published n.board n.entry)

abbrev counts : Bool → ℕ
counts b = cond b 1 0

-- a line makes the list longer exactly where it ends a publication of the entry
pub pair_length : (s : ScriptState) (l : ScriptLine) (a : ScriptAnswer) (n : NamedEntry) → n.board ≤ s.boards.standing.tables.last_board → IsRight s l a → len (after s l a).boards n ≡ len s.boards n + counts (publishes s l a n.board n.entry)
pair_length s l a n le ok =
    let k = lines_lengthen s l a n.board n.entry le ok in
    ap length k.1 ∙ length-append (s.boards.published n.board n.entry) k.0 ∙ ap (λ (m : ℕ). len s.boards n + m) k.2

-- ---- the states that the first and the last step met

abbrev pub steps_in : List ℕ → Moment → Bool
steps_in party m = is_step party m.pair.0

pub first_met : List ℕ → boards.State → List Moment → boards.State
first_met party d [] = d
first_met party d (m ∷ ms) = if steps_in party m then m.met.boards else first_met party d ms

pub last_met : List ℕ → boards.State → List Moment → boards.State
last_met party d [] = d
last_met party d (m ∷ ms) = last_met party (if steps_in party m then m.met.boards else d) ms

-- without a step they are what they were said to be
last_met_none : (party : List ℕ) (d : boards.State) (ms : List Moment) → has_step party ms ≡ false → last_met party d ms ≡ d
unfolding last_met
last_met_none party d [] e = refl
last_met_none party d (m ∷ ms) e = at (steps_in party m) (has_step party ms) e (last_met_none party d ms)
  where
    at : (x y : Bool) → (x || y) ≡ false → (y ≡ false → last_met party d ms ≡ d) → last_met party (if x then m.met.boards else d) ms ≡ d
    at true y e ih = absurd cc
    at false true e ih = absurd cc
    at false false e ih = ih refl

count_cons : (n : NamedEntry) (m : Moment) (ms : List Moment) → count_by (publishes_here n) (m ∷ ms) ≡ counts (publishes_here n m) + count_by (publishes_here n) ms
count_cons n m ms = sum_by-cons (λ (x : Moment). cond (publishes_here n x) 1 0) m ms

-- the moments after a pair, and its own
abbrev rest_of : ScriptState → ScriptLine × ScriptAnswer → Session → List Moment
rest_of s x xs = moments (after s x.0 x.1) xs

abbrev moment_of : ScriptState → ScriptLine × ScriptAnswer → Moment
moment_of s x = record { met = s; pair = x }

zero_plus : (n : ℕ) → 0 + n ≡ n
zero_plus n = omega arith

-- up to the last step
to_last_counts : (party : List ℕ) (n : NamedEntry) (xs : Session) (s : ScriptState) (d : boards.State) → IsLawfulFrom s xs → Sound s.boards → n.board ≤ s.boards.standing.tables.last_board → has_step party (moments s xs) ≡ true
    → count_by (publishes_here n) (to_last_step party (moments s xs)) + len s.boards n ≡ len (last_met party d (moments s xs)) n
unfolding last_met
to_last_counts party n [] s d ok sound le e = absurd cc
to_last_counts party n (x ∷ xs) s d ok sound le e =
    let g = pair_grows s x.0 x.1 ok.0 sound in
    at (has_step party (rest_of s x xs)) refl (steps_in party (moment_of s x)) e
    (λ d' h. to_last_counts party n xs (after s x.0 x.1) d' ok.1 g.sound (omega (arith, g.drawn)) h)
    (pair_length s x.0 x.1 n le ok.0)
  where
    at : (y : Bool) → has_step party (rest_of s x xs) ≡ y → (z : Bool) → (z || y) ≡ true
        → ((d : boards.State) → has_step party (rest_of s x xs) ≡ true → count_by (publishes_here n) (to_last_step party (rest_of s x xs)) + len (after s x.0 x.1).boards n ≡ len (last_met party d (rest_of s x xs)) n)
        → len (after s x.0 x.1).boards n ≡ len s.boards n + counts (publishes s x.0 x.1 n.board n.entry)
        → count_by (publishes_here n) (if y then record { met = s; pair = x } ∷ to_last_step party (rest_of s x xs) else []) + len s.boards n ≡ len (last_met party (if z then s.boards else d) (rest_of s x xs)) n
    at true h z e ih more =
        let k = ih (if z then s.boards else d) h in
        let c = count_cons n (record { met = s; pair = x }) (to_last_step party (rest_of s x xs)) in
        sym (sym k ∙ omega (arith, more, c))
    at false h true e ih more = zero_plus (len s.boards n) ∙ ap (λ (t : boards.State). len t n) (sym (last_met_none party s.boards (rest_of s x xs) h))
    at false h false e ih more = absurd cc

-- between the first and the last step
pub between_counts : (party : List ℕ) (n : NamedEntry) (xs : Session) (s : ScriptState) (d : boards.State) → IsLawfulFrom s xs → Sound s.boards → n.board ≤ s.boards.standing.tables.last_board
    → published_between party (moments s xs) n + len (first_met party d (moments s xs)) n ≡ len (last_met party d (moments s xs)) n
unfolding first_met last_met
between_counts party n [] s d ok sound le = omega arith
between_counts party n (x ∷ xs) s d ok sound le =
    let g = pair_grows s x.0 x.1 ok.0 sound in
    let ih = between_counts party n xs (after s x.0 x.1) d ok.1 g.sound (omega (arith, g.drawn)) in
    at (steps_in party (record { met = s; pair = x })) refl ih
    (λ e. to_last_counts party n (x ∷ xs) s d ok sound le e)
  where
    at : (z : Bool) → steps_in party (moment_of s x) ≡ z
        → count_by (publishes_here n) (to_last_step party (from_first_step party (rest_of s x xs))) + len (first_met party d (rest_of s x xs)) n ≡ len (last_met party d (rest_of s x xs)) n
        → (has_step party ((moment_of s x) ∷ (rest_of s x xs)) ≡ true → count_by (publishes_here n) (to_last_step party ((moment_of s x) ∷ (rest_of s x xs))) + len s.boards n ≡ len (last_met party d ((moment_of s x) ∷ (rest_of s x xs))) n)
        → count_by (publishes_here n) (to_last_step party (if z then (moment_of s x) ∷ (rest_of s x xs) else from_first_step party (rest_of s x xs))) + len (if z then s.boards else first_met party d (rest_of s x xs)) n ≡ len (last_met party (if z then s.boards else d) (rest_of s x xs)) n
    at true e ih k =
        let h : has_step party ((moment_of s x) ∷ (rest_of s x xs)) ≡ true = ap (λ (y : Bool). y || has_step party (rest_of s x xs)) e in
        k h ∙ ap (λ (y : Bool). len (last_met party (if y then s.boards else d) (rest_of s x xs)) n) e
    at false e ih k = ih

-- ---- the own moments have the same steps

step_names : (party : List ℕ) (l : ScriptLine) → names party l ≡ false → is_step party l ≡ false
step_names party (line.Board (board_line.Begin p c)) e = refl
step_names party (line.Board (board_line.Step p)) e = e
step_names party (line.Board (board_line.Release p n)) e = refl
step_names party (line.Board (board_line.Abandon p)) e = refl
step_names party (line.Board (board_line.Words m)) e = refl
step_names party (line.Event p q) e = refl
step_names party (line.Expire p) e = refl

pub first_own : (party : List ℕ) (d : boards.State) (ms : List Moment) → first_met party d (own party ms) ≡ first_met party d ms
unfolding first_met
first_own party d [] = refl
first_own party d (m ∷ ms) = at (names party m.pair.0) refl (first_own party d ms)
  where
    at : (z : Bool) → names party m.pair.0 ≡ z → first_met party d (own party ms) ≡ first_met party d ms → first_met party d (if z then m ∷ own party ms else own party ms) ≡ (if steps_in party m then m.met.boards else first_met party d ms)
    at true e ih = ap (λ (t : boards.State). if steps_in party m then m.met.boards else t) ih
    at false e ih = ih ∙ ap (λ (z : Bool). if z then m.met.boards else first_met party d ms) (sym (step_names party m.pair.0 e))

pub last_own : (party : List ℕ) (ms : List Moment) (d : boards.State) → last_met party d (own party ms) ≡ last_met party d ms
unfolding last_met
last_own party [] d = refl
last_own party (m ∷ ms) d = at (names party m.pair.0) refl (last_own party ms)
  where
    at : (z : Bool) → names party m.pair.0 ≡ z → ((d : boards.State) → last_met party d (own party ms) ≡ last_met party d ms) → last_met party d (if z then m ∷ own party ms else own party ms) ≡ last_met party (if steps_in party m then m.met.boards else d) ms
    at true e ih = ih (if steps_in party m then m.met.boards else d)
    at false e ih = ih d ∙ ap (λ (z : Bool). last_met party (if z then m.met.boards else d) ms) (sym (step_names party m.pair.0 e))

-- ---- steps after a state, and before one

abbrev pub AllFrom : List ℕ → boards.State → List Moment → Type 0
AllFrom party d [] = Unit {0}
AllFrom party d (m ∷ ms) = (steps_in party m ≡ true → Grows d m.met.boards) × AllFrom party d ms

abbrev pub AllTo : List ℕ → boards.State → List Moment → Type 0
AllTo party t [] = Unit {0}
AllTo party t (m ∷ ms) = (steps_in party m ≡ true → Grows m.met.boards t) × AllTo party t ms

pub all_from_split : (party : List ℕ) (d : boards.State) (xs ys : List Moment) → AllFrom party d (xs ++ ys) → AllFrom party d xs × AllFrom party d ys
all_from_split party d [] ys h = (tt, h)
all_from_split party d (x ∷ xs) ys h =
    let k = all_from_split party d xs ys h.1 in
    ((h.0, k.0), k.1)

pub all_to_split : (party : List ℕ) (t : boards.State) (xs ys : List Moment) → AllTo party t (xs ++ ys) → AllTo party t xs × AllTo party t ys
all_to_split party t [] ys h = (tt, h)
all_to_split party t (x ∷ xs) ys h =
    let k = all_to_split party t xs ys h.1 in
    ((h.0, k.0), k.1)

pub chain_from : (party : List ℕ) (ms : List Moment) (d : boards.State) (s : ScriptState) → Chain party s ms → Grows d s.boards → AllFrom party d ms
chain_from party [] d s c g = tt
chain_from party (m ∷ ms) d s c g =
    let a = grows_more d s.boards m.met.boards g (link_grows party s.boards m.met.boards c.0 g.sound) in
    let b = grows_more d m.met.boards (left m).boards a (pair_grows m.met m.pair.0 m.pair.1 c.1 a.sound) in
    (λ e. a, chain_from party ms d (left m) c.2 b)

record IsMetSo (party : List ℕ) (s d : boards.State) (m : Moment) (ms : List Moment) : Type 0 where
  grows : Grows s d
  steps : AllFrom party d (m ∷ ms)

record IsLastSo (party : List ℕ) (d t : boards.State) (m : Moment) (ms : List Moment) : Type 0 where
  grows : Grows d t
  steps : AllTo party t (m ∷ ms)

-- all steps come after the first one
pub record IsFirstMet (party : List ℕ) (s d : boards.State) (ms : List Moment) : Type 0 where
  pub grows : Grows s (first_met party d ms)
  pub steps : AllFrom party (first_met party d ms) ms

pub from_first : (party : List ℕ) (ms : List Moment) (r : boards.State) (s : ScriptState) → Sound r → Chain party s ms → Grows r s.boards → IsFirstMet party r r ms
unfolding first_met
from_first party [] r s sound c g = record { grows = grows_same r sound; steps = tt }
from_first party (m ∷ ms) r s sound c g =
    let a = grows_more r s.boards m.met.boards g (link_grows party s.boards m.met.boards c.0 g.sound) in
    let b : Grows m.met.boards (left m).boards = pair_grows m.met m.pair.0 m.pair.1 c.1 a.sound in
    let k = at (steps_in party m) refl a (chain_from party ms m.met.boards (left m) c.2 b) (from_first party ms r (left m) sound c.2 (grows_more r m.met.boards (left m).boards a b)) in
    record { grows = k.grows; steps = k.steps }
  where
    at : (z : Bool) → steps_in party m ≡ z → Grows r m.met.boards → AllFrom party m.met.boards ms → IsFirstMet party r r ms → IsMetSo party r (if z then m.met.boards else first_met party r ms) m ms
    at true e a f ih = record { grows = a; steps = (λ q. grows_same m.met.boards a.sound, f) }
    at false e a f ih = record { grows = ih.grows; steps = (λ q. absurd cc, ih.steps) }

-- all steps come before the last one
pub record IsLastMet (party : List ℕ) (d : boards.State) (ms : List Moment) : Type 0 where
  pub grows : Grows d (last_met party d ms)
  pub steps : AllTo party (last_met party d ms) ms

pub to_last : (party : List ℕ) (ms : List Moment) (d : boards.State) (s : ScriptState) → Sound d → Chain party s ms → Grows d s.boards → IsLastMet party d ms
unfolding last_met
to_last party [] d s sound c g = record { grows = grows_same d sound; steps = tt }
to_last party (m ∷ ms) d s sound c g =
    let a = grows_more d s.boards m.met.boards g (link_grows party s.boards m.met.boards c.0 g.sound) in
    let b : Grows m.met.boards (left m).boards = pair_grows m.met m.pair.0 m.pair.1 c.1 a.sound in
    let k = at (steps_in party m) refl a (to_last party ms m.met.boards (left m) a.sound c.2 b) (to_last party ms d (left m) sound c.2 (grows_more d m.met.boards (left m).boards a b)) in
    record { grows = k.grows; steps = k.steps }
  where
    at : (z : Bool) → steps_in party m ≡ z → Grows d m.met.boards → IsLastMet party m.met.boards ms → IsLastMet party d ms → IsLastSo party d (last_met party (if z then m.met.boards else d) ms) m ms
    at true e a k ih = record { grows = grows_more d m.met.boards _ a k.grows; steps = (λ q. k.grows, k.steps) }
    at false e a k ih = record { grows = ih.grows; steps = (λ q. absurd cc, ih.steps) }
