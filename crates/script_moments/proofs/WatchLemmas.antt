-- Watchers: the gets that a taken id calls for, and what is reported.
use Rattle.std.proofs.Common.{◌≡◌, ℕ, ◌≤◌, Bool, true, false, List, [], ◌∷◌, ◌++◌, refl, sym, ap, subst, ◌∙◌, Option, None, append_assoc}
use Rattle.std.specs.Prelude.{if◌then◌else◌, nat_lt}
use Rattle.std.specs.List.{AllByRecursion, flat_map}
use Rattle.std.specs.Str.{bytes_eq}
use Rattle.std.proofs.lemmas.List.{append_cancel_left, append-nil}
use Rattle.std.proofs.lemmas.List.Concat.{flat_map-append}
use Rattle.board_model.proofs.ListLemmas.{same_bytes}
use Rattle.board_model.specs.declared.answer.Answer.TheVariants as answer
use Rattle.board_model.specs.declared.line.Call.TheVariants as call
use Rattle.board_model.specs.declared.line.Line.TheVariants as board_line
use Rattle.board_model.proofs.ThingLemmas.{same_to_itself}
use Rattle.script_model.specs.declared.line.ScriptLine.TheVariants as line
use Rattle.script_model.specs.ScriptTurns.{ScriptState}
use Rattle.script_model.specs.ScriptSession.{IsLawful, Session, after, start, state_after}
use Rattle.script_model.specs.LawsOfComposition.{Pair, of_pair, state_met}
use Rattle.script_model.specs.LawsOfLines.{names}
use Rattle.script_moments.specs.Moments.{Moment, moments, own}
use Rattle.script_moments.specs.Gets.{Get, IsGet, IsPart, IsRound, Round, moments_of, moments_of_get, moments_of_open}
use Rattle.script_moments.specs.Reports.{IsItem, entry_got, last_report, reports, reports_above, to_taken}
use Rattle.script_moments.specs.Watchers.{AskedId, IsOpenTurn, IsTurn, IsWaited, OpenTurn, Turn, Watcher, calls, getting, gets_in_turn, gets_of, gets_of_handle, idle, moments_of_id, moments_of_open_turn, moments_of_turn, moments_of_wait, moments_of_watcher, turn_begun, turns_of, waiting}
use Rattle.script_moments.specs.LawsOfWatchers.{WatchersAreFresh, WatchersReportItems}
use Rattle.script_moments.proofs.ReportLemmas.{gets_items, last_fresh}
use Rattle.script_moments.proofs.SessionLemmas.{moments_append, own_append, state_append}

-- ---- the moments of a watcher

heads : (x y : Moment) (xs ys : List Moment) → x ∷ xs ≡ y ∷ ys → xs ≡ ys
heads x y xs ys e = cc

-- the own moments past one of them
own_past : (party : List ℕ) (s : ScriptState) (since pre behind : Session) (y : Pair) (early late : List Moment) (m : Moment) → since ≡ pre ++ y ∷ behind → names party y.0 ≡ true → own party (moments s pre) ≡ early → own party (moments s since) ≡ early ++ m ∷ late
    → own party (moments (after (state_after s pre) y.0 y.1) behind) ≡ late
own_past party s since pre behind y early late m e on k h =
    let t : ScriptState = state_after s pre in
    let rest : List Moment = own party (moments (after t y.0 y.1) behind) in
    let first : own party (moments t (y ∷ behind)) ≡ record { met = t; pair = y } ∷ rest = ap (λ (b : Bool). if b then record { met = t; pair = y } ∷ rest else rest) on in
    let all : own party (moments s since) ≡ early ++ record { met = t; pair = y } ∷ rest =
    ap (λ (xs : Session). own party (moments s xs)) e ∙ ap (own party) (moments_append pre (y ∷ behind) s) ∙ own_append party (moments s pre) (moments t (y ∷ behind)) ∙ ap (λ (ms : List Moment). ms ++ own party (moments t (y ∷ behind))) k ∙ ap (λ (ms : List Moment). early ++ ms) first in
    heads (record { met = t; pair = y }) m rest late (append_cancel_left early (record { met = t; pair = y } ∷ rest) (m ∷ late) (sym all ∙ h))

-- what of a turn that runs is behind its wait and its gets
abbrev pub tail_of : OpenTurn → List Moment
tail_of idle = []
tail_of (waiting m ms) = m ∷ ms
tail_of (getting w gets o) = moments_of_open o

open_moments : (o : OpenTurn) → moments_of_open_turn o ≡ flat_map moments_of_turn (turn_begun o) ++ tail_of o
open_moments idle = refl
open_moments (waiting m ms) = refl
open_moments (getting w gets o) =
    sym (append_assoc (moments_of_wait w) (moments_of gets) (moments_of_open o))
    ∙ ap (λ (ms : List Moment). ms ++ moments_of_open o) (sym (append-nil (moments_of_wait w ++ moments_of gets)))

pub watcher_moments : (x : Watcher) → moments_of_watcher x ≡ flat_map moments_of_id x.asked ++ (flat_map moments_of_turn (turns_of x) ++ tail_of x.rest)
watcher_moments x =
    let ids : List Moment = flat_map moments_of_id x.asked in
    let done : List Moment = flat_map moments_of_turn x.turns in
    let begun : List Moment = flat_map moments_of_turn (turn_begun x.rest) in
    ap (λ (ms : List Moment). ids ++ (done ++ ms)) (open_moments x.rest)
    ∙ ap (λ (ms : List Moment). ids ++ ms) (sym (append_assoc done begun (tail_of x.rest)))
    ∙ ap (λ (ms : List Moment). ids ++ (ms ++ tail_of x.rest)) (sym (flat_map-append moments_of_turn x.turns (turn_begun x.rest)))

-- ---- the turns whose wait has ended

-- the wait of such a turn has ended, and its gets are the first of those that it calls for
pub record HasPart (party : List ℕ) (hs : List (List ℕ)) (asked : List AskedId) (t : Turn) : Type 0 where
  pub listener : List ℕ
  pub wait : IsWaited party listener t.wait
  pub runs : Option (Moment × List Moment)
  pub part : IsPart party (calls hs asked t.wait.ids) t.gets runs

round_part : (party : List ℕ) (hs : List (List ℕ)) (xs : Round) → IsRound party hs xs → IsPart party hs xs None
round_part party [] [] k = tt
round_part party [] (x ∷ xs) k = absurd k
round_part party (h ∷ hs) [] k = absurd k
round_part party (h ∷ hs) (x ∷ xs) k = (k.0, round_part party hs xs k.1)

pub ended_parts : (party listener : List ℕ) (hs : List (List ℕ)) (asked : List AskedId) (ts : List Turn) (o : OpenTurn) → AllByRecursion (IsTurn party listener hs asked) ts → IsOpenTurn party listener hs asked o → AllByRecursion (HasPart party hs asked) (ts ++ turn_begun o)
ended_parts party listener hs asked [] idle k r = tt
ended_parts party listener hs asked [] (waiting m ms) k r = tt
ended_parts party listener hs asked [] (getting w gets p) k r = (record { listener = listener; wait = r.0; runs = p; part = r.1 }, tt)
ended_parts party listener hs asked (t ∷ ts) o k r =
    (record { listener = listener; wait = k.0.wait; runs = None; part = round_part party (calls hs asked t.wait.ids) t.gets k.0.gets }, ended_parts party listener hs asked ts o k.1 r)

pub turn_at : (P : Turn → Type 0) (earlier later : List Turn) (t : Turn) → AllByRecursion P (earlier ++ t ∷ later) → P t
turn_at P [] later t h = h.0
turn_at P (u ∷ us) later t h = turn_at P us later t h.1

-- ---- a get among those of its handle

record IsAmong (r : Get) (xs : List Get) : Type 0 where
  before : List Get
  after : List Get
  is : xs ≡ before ++ r ∷ after

get_heads : (x y : Get) (xs ys : Round) → x ∷ xs ≡ y ∷ ys → (x ≡ y) × (xs ≡ ys)
get_heads x y xs ys e = (cc, cc)

none_among : (ones others : Round) (r : Get) → [] ≡ ones ++ r ∷ others → ⊥
none_among [] others r e = cc
none_among (x ∷ xs) others r e = cc

begun_same : (party h handle : List ℕ) → of_pair (board_line.Begin party (call.Get h None), answer.Begun) ≡ of_pair (board_line.Begin party (call.Get handle None), answer.Begun) → h ≡ handle
begun_same party h handle e =
    let f : line.Board (board_line.Begin party (call.Get h None)) ≡ line.Board (board_line.Begin party (call.Get handle None)) = ap (λ (p : Pair). p.0) e in
    cc

same_handle : (party h handle : List ℕ) (r : Get) → IsGet party h r → IsGet party handle r → h ≡ handle
same_handle party h handle r k g = begun_same party h handle (sym k.begun ∙ g.begun)

among_here : (b : Bool) (x r : Get) (rest : List Get) → b ≡ true → x ≡ r → IsAmong r (if b then x ∷ rest else rest)
among_here true x r rest on e = record { before = []; after = rest; is = ap (λ (y : Get). y ∷ rest) e }
among_here false x r rest on e = absurd cc

among_later : (b : Bool) (x r : Get) (rest : List Get) → IsAmong r rest → IsAmong r (if b then x ∷ rest else rest)
among_later true x r rest a = record { before = x ∷ a.before; after = a.after; is = ap (λ (ys : List Get). x ∷ ys) a.is }
among_later false x r rest a = a

among_part : (party handle : List ℕ) (hs : List (List ℕ)) (xs ones others : Round) (r : Get) (o : Option (Moment × List Moment)) → IsPart party hs xs o → xs ≡ ones ++ r ∷ others → IsGet party handle r → IsAmong r (gets_of_handle handle hs xs)
among_part party handle [] [] ones others r o k e g = absurd (none_among ones others r e)
among_part party handle (h ∷ hs) [] ones others r o k e g = absurd (none_among ones others r e)
among_part party handle [] (x ∷ xs) ones others r o k e g = absurd k
among_part party handle (h ∷ hs) (x ∷ xs) [] others r o k e g =
    let first = get_heads x r xs others e in
    let same = same_handle party h handle r (subst (IsGet party h) first.0 k.0) g in
    among_here (bytes_eq h handle) x r (gets_of_handle handle hs xs) (ap (λ (n : List ℕ). bytes_eq n handle) same ∙ same_to_itself handle) first.0
among_part party handle (h ∷ hs) (x ∷ xs) (y ∷ ys) others r o k e g =
    among_later (bytes_eq h handle) x r (gets_of_handle handle hs xs) (among_part party handle hs xs ys others r o k.1 (get_heads x y xs (ys ++ r ∷ others) e).1 g)

among_turns : (f : Turn → List Get) (ts earlier later : List Turn) (t : Turn) (r : Get) → ts ≡ earlier ++ t ∷ later → IsAmong r (f t) → IsAmong r (flat_map f ts)
among_turns f ts earlier later t r e a =
    record {
      before = flat_map f earlier ++ a.before;
      after = a.after ++ flat_map f later;
      is = ap (flat_map f) e ∙ flat_map-append f earlier (t ∷ later) ∙ ap (λ (xs : List Get). flat_map f earlier ++ (xs ++ flat_map f later)) a.is ∙ spread (flat_map f earlier) a.before r a.after (flat_map f later);
    }
  where
    spread : (a b : List Get) (x : Get) (c d : List Get) → a ++ ((b ++ x ∷ c) ++ d) ≡ (a ++ b) ++ x ∷ (c ++ d)
    spread a b x c d = simp append_assoc

-- ---- the gets that a taken id calls for

pub fresh : WatchersAreFresh
fresh before since party listener hs x w earlier later t c behind k b i n id g words answered handle r of is_at =
    let m : Moment = record { met = state_met (to_taken c); pair = c.taken } in
    let tail : List Moment = flat_map moments_of_turn later ++ tail_of x.rest in
    let turns : flat_map moments_of_turn (turns_of x) ≡ flat_map moments_of_turn earlier ++ (moments_of_turn t ++ flat_map moments_of_turn later) = ap (flat_map moments_of_turn) k.turns ∙ flat_map-append moments_of_turn earlier (t ∷ later) in
    let early : List Moment = flat_map moments_of_id x.asked ++ (flat_map moments_of_turn earlier ++ k.done) in
    let late : List Moment = k.still ++ (moments_of t.gets ++ tail) in
    let wait : moments_of_turn t ≡ (k.done ++ m ∷ k.still) ++ moments_of t.gets = ap (λ (ms : List Moment). ms ++ moments_of t.gets) k.wait in
    let all : moments_of_watcher x ≡ early ++ m ∷ late =
    watcher_moments x
    ∙ ap (λ (ms : List Moment). flat_map moments_of_id x.asked ++ (ms ++ tail_of x.rest)) turns
    ∙ ap (λ (ms : List Moment). flat_map moments_of_id x.asked ++ ((flat_map moments_of_turn earlier ++ (ms ++ flat_map moments_of_turn later)) ++ tail_of x.rest)) wait
    ∙ regroup (flat_map moments_of_id x.asked) (flat_map moments_of_turn earlier) k.done m k.still (moments_of t.gets) (flat_map moments_of_turn later) (tail_of x.rest) in
    let past = own_past party (state_met before) since k.pre behind c.taken early late m k.whole k.names_it k.own (w.own ∙ all) in
    let state : after (state_after (state_met before) k.pre) c.taken.0 c.taken.1 ≡ state_met (to_taken c ++ c.taken ∷ []) =
    ap (λ (s : ScriptState). after s c.taken.0 c.taken.1) (sym (state_append before k.pre start) ∙ ap state_met k.upto) ∙ sym (state_append (to_taken c) (c.taken ∷ []) start) in
    let gots : moments_of t.gets ≡ moments_of of.ones ++ (moments_of_get r ++ moments_of of.others) = ap moments_of of.gets ∙ flat_map-append moments_of_get of.ones (r ∷ of.others) in
    let place : late ≡ (k.still ++ moments_of of.ones) ++ (moments_of_get r ++ (moments_of of.others ++ tail)) = ap (λ (ms : List Moment). k.still ++ (ms ++ tail)) gots ∙ spread k.still (moments_of of.ones) (moments_of_get r) (moments_of of.others) tail in
    let whole : before ++ since ≡ (to_taken c ++ c.taken ∷ []) ++ behind =
    ap (λ (xs : Session). before ++ xs) k.whole ∙ sym (append_assoc before k.pre (c.taken ∷ behind)) ∙ ap (λ (xs : Session). xs ++ c.taken ∷ behind) k.upto ∙ sym (append_assoc (to_taken c) (c.taken ∷ []) behind) in
    let parts : AllByRecursion (HasPart party hs x.asked) (earlier ++ t ∷ later) = subst (AllByRecursion (HasPart party hs x.asked)) k.turns (ended_parts party listener hs x.asked x.turns x.rest w.turns w.rest) in
    let part = turn_at (HasPart party hs x.asked) earlier later t parts in
    let in_turn = among_part party handle (calls hs x.asked t.wait.ids) t.gets of.ones of.others r part.runs part.part of.gets of.is in
    let among = among_turns (gets_in_turn handle hs x.asked) (turns_of x) earlier later t r k.turns in_turn in
    let last = last_fresh c behind b i n id g words party handle r among.before among.after answered (record {
      lawful = subst IsLawful whole w.lawful;
      earlier = k.still ++ moments_of of.ones;
      later = moments_of of.others ++ tail;
      own = ap (λ (s : ScriptState). own party (moments s behind)) (sym state) ∙ past ∙ place;
      is = of.is;
    }) is_at in
    subst (λ (gs : List Get). g ≤ last_report 0 (reports gs)) (sym among.is) last
  where
    regroup : (a b d : List Moment) (m : Moment) (e f g h : List Moment) → a ++ ((b ++ (((d ++ m ∷ e) ++ f) ++ g)) ++ h) ≡ (a ++ (b ++ d)) ++ m ∷ (e ++ (f ++ (g ++ h)))
    regroup a b d m e f g h = simp append_assoc

    spread : (a b c d e : List Moment) → a ++ ((b ++ (c ++ d)) ++ e) ≡ (a ++ b) ++ (c ++ (d ++ e))
    spread a b c d e = simp append_assoc

-- ---- what is reported

pub all_reports : (P : Get → Type 0) (top : ℕ) (xs : List Get) → AllByRecursion P xs → AllByRecursion P (reports_above top xs)
all_reports P top [] h = tt
all_reports P top (x ∷ xs) h = at (nat_lt top x.generation) (all_reports P top xs h.1) (all_reports P x.generation xs h.1)
  where
    at : (b : Bool) → AllByRecursion P (reports_above top xs) → AllByRecursion P (reports_above x.generation xs) → AllByRecursion P (if b then x ∷ reports_above x.generation xs else reports_above top xs)
    at true k l = (h.0, l)
    at false k l = k

pub all_append : (P : Get → Type 0) (xs ys : List Get) → AllByRecursion P xs → AllByRecursion P ys → AllByRecursion P (xs ++ ys)
all_append P [] ys h k = k
all_append P (x ∷ xs) ys h k = (h.0, all_append P xs ys h.1 k)

module _ (P : Get → Type 0) (party handle : List ℕ) where
  pub one_get : (b : Bool) (h : List ℕ) (x : Get) (rest : List Get) → (b ≡ true → h ≡ handle) → IsGet party h x → (IsGet party handle x → P x) → AllByRecursion P rest → AllByRecursion P (if b then x ∷ rest else rest)
  one_get true h x rest e k f r = (f (subst (λ (n : List ℕ). IsGet party n x) (e refl) k), r)
  one_get false h x rest e k f r = r

  -- each get of the handle has a place among them
  part_gets : (hs : List (List ℕ)) (xs : Round) (o : Option (Moment × List Moment)) → IsPart party hs xs o → ((ones others : Round) (r : Get) → xs ≡ ones ++ r ∷ others → IsGet party handle r → P r) → AllByRecursion P (gets_of_handle handle hs xs)
  part_gets [] xs o k f = tt
  part_gets (h ∷ hs) [] o k f = tt
  part_gets (h ∷ hs) (x ∷ xs) o k f =
      one_get (bytes_eq h handle) h x (gets_of_handle handle hs xs) (same_bytes h handle) k.0 (λ g. f [] xs x refl g)
      (part_gets hs xs o k.1 (λ ones others r e g. f (x ∷ ones) others r (ap (λ (ys : Round). x ∷ ys) e) g))

  turn_gets : (hs : List (List ℕ)) (asked : List AskedId) (ts : List Turn) → AllByRecursion (HasPart party hs asked) ts
      → ((earlier later : List Turn) (t : Turn) (ones others : Round) (r : Get) → ts ≡ earlier ++ t ∷ later → t.gets ≡ ones ++ r ∷ others → IsGet party handle r → P r) → AllByRecursion P (flat_map (gets_in_turn handle hs asked) ts)
  turn_gets hs asked [] k f = tt
  turn_gets hs asked (t ∷ ts) k f =
      all_append P (gets_in_turn handle hs asked t) (flat_map (gets_in_turn handle hs asked) ts)
      (part_gets (calls hs asked t.wait.ids) t.gets k.0.runs k.0.part (λ ones others r e g. f [] ts t ones others r refl e g))
      (turn_gets hs asked ts k.1 (λ earlier later u ones others r e d g. f (t ∷ earlier) later u ones others r (ap (λ (us : List Turn). t ∷ us) e) d g))

-- a get of the watcher has a place among its moments
record HasPlace (x : Watcher) (r : Get) : Type 0 where
  early : List Moment
  late : List Moment
  is : moments_of_watcher x ≡ early ++ (moments_of_get r ++ late)

in_turn : (a b c d e f g h : List Moment) → a ++ ((b ++ ((c ++ (d ++ (e ++ f))) ++ g)) ++ h) ≡ ((a ++ (b ++ c)) ++ d) ++ (e ++ (f ++ (g ++ h)))
in_turn a b c d e f g h = simp append_assoc

gets_cut : (gets ones others : Round) (r : Get) → gets ≡ ones ++ r ∷ others → moments_of gets ≡ moments_of ones ++ (moments_of_get r ++ moments_of others)
gets_cut gets ones others r d = ap moments_of d ∙ flat_map-append moments_of_get ones (r ∷ others)

turn_place : (x : Watcher) (earlier later : List Turn) (t : Turn) (ones others : Round) (r : Get) → turns_of x ≡ earlier ++ t ∷ later → t.gets ≡ ones ++ r ∷ others → HasPlace x r
turn_place x earlier later t ones others r e d =
    let ids : List Moment = flat_map moments_of_id x.asked in
    let tail : List Moment = tail_of x.rest in
    let turns : flat_map moments_of_turn (turns_of x) ≡ flat_map moments_of_turn earlier ++ (moments_of_turn t ++ flat_map moments_of_turn later) = ap (flat_map moments_of_turn) e ∙ flat_map-append moments_of_turn earlier (t ∷ later) in
    record {
      early = (ids ++ (flat_map moments_of_turn earlier ++ moments_of_wait t.wait)) ++ moments_of ones;
      late = moments_of others ++ (flat_map moments_of_turn later ++ tail);
      is = watcher_moments x
          ∙ ap (λ (ms : List Moment). ids ++ (ms ++ tail)) turns
          ∙ ap (λ (ms : List Moment). ids ++ ((flat_map moments_of_turn earlier ++ ((moments_of_wait t.wait ++ ms) ++ flat_map moments_of_turn later)) ++ tail)) (gets_cut t.gets ones others r d)
          ∙ in_turn ids (flat_map moments_of_turn earlier) (moments_of_wait t.wait) (moments_of ones) (moments_of_get r) (moments_of others) (flat_map moments_of_turn later) tail;
    }

pub report_items : WatchersReportItems
report_items before since party listener handles x w handle =
    let P = λ (r : Get). IsItem (state_met (before ++ since)) (entry_got party handle r) r in
    all_reports P 0 (gets_of handle handles x)
    (turn_gets P party handle handles x.asked (turns_of x) (ended_parts party listener handles x.asked x.turns x.rest w.turns w.rest) (λ earlier later t ones others r e d g. item r g (turn_place x earlier later t ones others r e d)))
  where
    item : (r : Get) → IsGet party handle r → HasPlace x r → IsItem (state_met (before ++ since)) (entry_got party handle r) r
    item r g k = gets_items before since party handle r (record { lawful = w.lawful; earlier = k.early; later = k.late; own = w.own ∙ k.is; is = g })
