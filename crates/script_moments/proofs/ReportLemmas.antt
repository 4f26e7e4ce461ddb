-- What a watcher reports.
use Rattle.std.proofs.Common.{◌≡◌, ℕ, ◌-◌, ◌<◌, ◌≤◌, Bool, true, false, cond, List, [], ◌∷◌, ◌++◌, length, arith, refl, sym, ap, subst, ◌∙◌, Some, append_assoc, get_or}
use Rattle.std.specs.Prelude.{nat_lt, if◌then◌else◌, slice_get}
use Rattle.std.specs.List.{AllByRecursion}
use Rattle.std.proofs.lemmas.Bool.{ltb-true, ltb-false}
use Rattle.std.proofs.lemmas.List.{get_or_append_left, length-append}
use Rattle.std.proofs.lemmas.Option.{slice_get-get_or}
use Rattle.board_model.specs.LawfulSession as boards
use Rattle.board_model.specs.Replies.{latest}
use Rattle.board_model.specs.Sound.{Sound}
use Rattle.script_model.specs.ScriptTurns.{ScriptState}
use Rattle.script_model.specs.ScriptSession.{IsLawful, IsLawfulFrom, IsRight, Session, after, start, state_after}
use Rattle.script_model.specs.LawsOfComposition.{EndsGet, Pair, state_met}
use Rattle.script_model.proofs.CompositionLemmas.{GoesPast, lawful_split, past_more, script_later}
use Rattle.script_moments.proofs.SessionLemmas.{state_append}
use Rattle.script_model.proofs.PartLemmas.{board_part_leads}
use Rattle.script_model.specs.LawsOfLines.{names}
use Rattle.script_moments.specs.Moments.{Moment, end_of, left, moments, own}
use Rattle.script_moments.specs.Gets.{Get, moments_of_get, NamedEntry, named_entry}
use Rattle.script_moments.specs.LawsOfReports.{GetsAfterTakesAreFresh, GetsAreItems, LastReportsAreFresh, LastReportsAreHighest, ReportsRise, Rise}
use Rattle.script_moments.specs.Reports.{IsOwnGet, Take, last_report, reports, reports_above, to_begun, to_notified, to_taken}
use Rattle.script_moments.specs.LawsOfWatchers.{WatchersReportsRise}
use Rattle.script_moments.specs.Watchers.{gets_of}
use Rattle.script_moments.proofs.ChainLemmas.{Chain, Grows, chain_split, grows_by, grows_same, own_chain}
use Rattle.script_moments.proofs.GetWalks.{IsWalk, chain_grows, get_walk}
use Rattle.script_moments.proofs.RoundLemmas.{sound_at}
use Rattle.script_moments.proofs.CountLemmas.{IsNamedBy, named_drawn, named_is}

-- ---- reports

rise_above : (top : ℕ) (gets : List Get) → Rise top (reports_above top gets)
rise_above top [] = tt
rise_above top (x ∷ xs) = at (nat_lt top x.generation) (ltb-true top x.generation) (rise_above top xs) (rise_above x.generation xs)
  where
    at : (b : Bool) → (b ≡ true → top < x.generation) → Rise top (reports_above top xs) → Rise x.generation (reports_above x.generation xs) → Rise top (if b then x ∷ reports_above x.generation xs else reports_above top xs)
    at true t h k = (t refl, k)
    at false t h k = h

pub reports_rise : ReportsRise
reports_rise gets = rise_above 0 gets

pub watchers_rise : WatchersReportsRise
watchers_rise handle handles x = rise_above 0 (gets_of handle handles x)

-- the last report is above what was there, and above each get
record AreHigh (top : ℕ) (gets : List Get) (last : ℕ) : Type 0 where
  above : top ≤ last
  each : AllByRecursion (λ (x : Get). x.generation ≤ last) gets

high_above : (top : ℕ) (gets : List Get) → AreHigh top gets (last_report top (reports_above top gets))
high_above top [] = record { above = omega arith; each = tt }
high_above top (x ∷ xs) = at (nat_lt top x.generation) (ltb-true top x.generation) (ltb-false top x.generation) (high_above top xs) (high_above x.generation xs)
  where
    at : (b : Bool) → (b ≡ true → top < x.generation) → (b ≡ false → x.generation ≤ top) → AreHigh top xs (last_report top (reports_above top xs)) → AreHigh x.generation xs (last_report x.generation (reports_above x.generation xs))
        → AreHigh top (x ∷ xs) (last_report top (if b then x ∷ reports_above x.generation xs else reports_above top xs))
    at true t f h k = record { above = omega (arith, t refl, k.above); each = (k.above, k.each) }
    at false t f h k = record { above = h.above; each = (omega (arith, f refl, h.above), h.each) }

pub last_highest : LastReportsAreHighest
last_highest gets = (high_above 0 gets).each

-- ---- a moment of the party's own, in the session

-- the session is cut at it
pub record IsCutAt (s : ScriptState) (xs : Session) (e : Moment) : Type 0 where
  pub pre : Session
  pub post : Session
  pub cut : xs ≡ pre ++ e.pair ∷ post
  pub met : e.met ≡ state_after s pre

heads : (x y : Moment) (xs ys : List Moment) → x ∷ xs ≡ y ∷ ys → (x ≡ y) × (xs ≡ ys)
heads x y xs ys e = (cc, cc)

pub cut_at : (party : List ℕ) (xs : Session) (s : ScriptState) (early : List Moment) (e : Moment) (late : List Moment) → own party (moments s xs) ≡ early ++ e ∷ late → IsCutAt s xs e
cut_at party [] s early e late h = absurd (empty early h)
  where
    empty : (early : List Moment) → [] ≡ early ++ e ∷ late → ⊥
    empty [] k = cc
    empty (m ∷ ms) k = cc
cut_at party (x ∷ xs) s early e late h = at (names party x.0) early h (λ ms k. cut_at party xs (after s x.0 x.1) ms e late k)
  where
    more : IsCutAt (after s x.0 x.1) xs e → IsCutAt s (x ∷ xs) e
    more k = record { pre = x ∷ k.pre; post = k.post; cut = ap (λ (zs : Session). x ∷ zs) k.cut; met = k.met }

    at : (z : Bool) (early : List Moment) → cond z (record { met = s; pair = x } ∷ own party (moments (after s x.0 x.1) xs)) (own party (moments (after s x.0 x.1) xs)) ≡ early ++ e ∷ late
        → ((ms : List Moment) → own party (moments (after s x.0 x.1) xs) ≡ ms ++ e ∷ late → IsCutAt (after s x.0 x.1) xs e) → IsCutAt s (x ∷ xs) e
    at true [] k ih =
        let q = heads (record { met = s; pair = x }) e (own party (moments (after s x.0 x.1) xs)) late k in
        record { pre = []; post = xs; cut = ap (λ (m : Moment). m.pair ∷ xs) q.0; met = ap (λ (m : Moment). m.met) (sym q.0) }
    at true (m ∷ ms) k ih = more (ih ms (heads (record { met = s; pair = x }) m (own party (moments (after s x.0 x.1) xs)) (ms ++ e ∷ late) k).1)
    at false early k ih = more (ih early k)

-- ---- a get of the party, in the session

session_grows : (s : ScriptState) (xs : Session) → IsLawfulFrom s xs → Sound s.boards → Grows s.boards (state_after s xs).boards
session_grows s xs ok sound =
    let l = board_part_leads s xs ok in
    subst (λ (t : boards.State). Grows s.boards t) l.state (grows_by _ s.boards l.lawful sound)

-- what is known of such a get
record IsGotIn (before since : Session) (party handle : List ℕ) (x : Get) : Type 0 where
  from : ScriptState
  grows : Grows (state_met before).boards from.boards
  walk : IsWalk party handle from x
  cut : IsCutAt (state_met before) since x.ended
  lawful : IsLawfulFrom (state_met before) since
  pair_right : IsRight x.ended.met x.ended.pair.0 x.ended.pair.1

got_in : (before since : Session) (party handle : List ℕ) (x : Get) → IsOwnGet before since party handle x → IsGotIn before since party handle x
got_in before since party handle x h =
    let l = lawful_split before since start h.lawful in
    let sound = sound_at before l.0 in
    let c = subst (Chain party (state_met before)) h.own (own_chain party since (state_met before) l.1) in
    let c1 = chain_split party h.earlier (moments_of_get x ++ h.later) (state_met before) c in
    let s : ScriptState = end_of (state_met before) h.earlier in
    let g = chain_grows party h.earlier (state_met before) c1.0 sound in
    let c2 = chain_split party (moments_of_get x) h.later s c1.1 in
    let last = chain_split party x.steps (x.ended ∷ []) (left x.begun) c2.0.2 in
    let place : h.earlier ++ (moments_of_get x ++ h.later) ≡ (h.earlier ++ (x.begun ∷ x.steps)) ++ x.ended ∷ h.later =
    ap (λ (ms : List Moment). h.earlier ++ x.begun ∷ ms) (append_assoc x.steps (x.ended ∷ []) h.later) ∙ sym (append_assoc h.earlier (x.begun ∷ x.steps) (x.ended ∷ h.later)) in
    record {
      from = s;
      grows = g;
      walk = get_walk party handle s x c2.0 h.is g.sound;
      cut = cut_at party since (state_met before) (h.earlier ++ (x.begun ∷ x.steps)) x.ended h.later (h.own ∙ place);
      lawful = l.1;
      pair_right = last.1.1;
    }

-- the entry of the get
got_named : (party handle : List ℕ) (s : ScriptState) (x : Get) → (w : IsWalk party handle s x) → IsNamedBy (named_entry x.begun.met party handle) w.fetch
got_named party handle s x w = named_is x.begun.met party handle x.begun.met.boards w.fetch w.to_begin.sound (grows_same x.begun.met.boards w.to_begin.sound) (λ name. refl) w.asked

-- an item of a list that grew
item_stays : (list more : List (List ℕ)) (g : ℕ) (words : List ℕ) → 0 < g → g ≡ length list → words ≡ latest list → slice_get (list ++ more) (g - 1) ≡ Some words
item_stays list more g words some e w =
    let lt : g - 1 < length list = omega arith in
    let lt2 : g - 1 < length (list ++ more) = omega (arith, length-append list more) in
    let i : g - 1 ≡ length list - 1 = omega arith in
    slice_get-get_or (list ++ more) (g - 1) [] lt2
    ∙ ap (λ (y : List ℕ). Some y) (get_or_append_left list more [] (g - 1) lt ∙ ap (λ (k : ℕ). get_or list k []) i ∙ sym w)

pub gets_items : GetsAreItems
gets_items before since party handle x h =
    let k = got_in before since party handle x h in
    let w = k.walk in
    let n : NamedEntry = named_entry x.begun.met party handle in
    let is = got_named party handle k.from x w in
    let got = w.got 0 (omega arith) in
    let e : ScriptState = x.ended.met in
    let sound : Sound e.boards = w.to_end.sound in
    let l = lawful_split k.cut.pre (x.ended.pair ∷ k.cut.post) (state_met before) (subst (IsLawfulFrom (state_met before)) k.cut.cut k.lawful) in
    let rest : IsLawfulFrom e (x.ended.pair ∷ k.cut.post) = subst (λ (s : ScriptState). IsLawfulFrom s (x.ended.pair ∷ k.cut.post)) (sym k.cut.met) l.1 in
    let all : state_met (before ++ since) ≡ state_after e (x.ended.pair ∷ k.cut.post) =
    state_append before since start ∙ ap (state_after (state_met before)) k.cut.cut ∙ state_append k.cut.pre (x.ended.pair ∷ k.cut.post) (state_met before) ∙ ap (λ (s : ScriptState). state_after s (x.ended.pair ∷ k.cut.post)) (sym k.cut.met) in
    let g = session_grows e (x.ended.pair ∷ k.cut.post) rest sound in
    let drawn : n.board ≤ e.boards.standing.tables.last_board = omega (arith, named_drawn x.begun.met party handle w.to_begin.sound, w.on.drawn) in
    let m = g.more n.board n.entry drawn in
    let list : e.boards.published w.fetch.board w.fetch.entry ≡ e.boards.published n.board n.entry = rw (is.board, is.entry) refl in
    let item = item_stays (e.boards.published n.board n.entry) m.0 x.generation x.words got.some (got.generation ∙ ap length list) (got.words ∙ ap latest list) in
    record {
      some = got.some;
      item = ap (λ (s : ScriptState). slice_get (s.boards.published n.board n.entry) (x.generation - 1)) all ∙ ap (λ (ls : List (List ℕ)). slice_get ls (x.generation - 1)) m.1 ∙ item;
    }

-- ---- gets after takes

take_past : (c : Take) (pre : Session) → GoesPast c.before_published c.published ((to_taken c ++ c.taken ∷ []) ++ pre)
take_past c pre =
    past_more c.before_published c.published (to_taken c ++ c.taken ∷ []) pre
    (past_more c.before_published c.published (to_taken c) (c.taken ∷ [])
    (past_more c.before_published c.published (to_notified c) (c.notified ∷ c.before_taken)
    (past_more c.before_published c.published (to_begun c) (c.begun ∷ c.before_notified)
    (record { rest = c.before_begun; is = refl }))))

regroup : (before behind pre : Session) (e : Pair) (post : Session) → behind ≡ pre ++ e ∷ post → before ++ behind ≡ ((before ++ pre) ++ e ∷ []) ++ post
regroup before behind pre e post q = ap (λ (s : Session). before ++ s) q ∙ sym (append_assoc (before ++ pre) (e ∷ []) post ∙ append_assoc before pre (e ∷ post))

pub gets_fresh : GetsAfterTakesAreFresh
gets_fresh c behind b i n id g words party handle x t h of =
    let before : Session = to_taken c ++ c.taken ∷ [] in
    let k = got_in before behind party handle x h in
    let w = k.walk in
    let is = got_named party handle k.from x w in
    let pre : Session = k.cut.pre in
    let up = take_past c pre in
    let upto : Session = c.before_published ++ c.published ∷ up.rest in
    let met : x.ended.met ≡ state_met upto = k.cut.met ∙ sym (state_append before pre start) ∙ ap state_met up.is in
    let l = lawful_split ((before ++ pre) ++ x.ended.pair ∷ []) k.cut.post start (subst IsLawful (regroup before behind pre x.ended.pair k.cut.post k.cut.cut) h.lawful) in
    let whole : IsLawful (upto ++ x.ended.pair ∷ []) = subst (λ (s : Session). IsLawful (s ++ x.ended.pair ∷ [])) up.is l.0 in
    let ends : EndsGet (state_met upto) x.ended.pair party b i x.words x.generation =
    subst (λ (s : ScriptState). EndsGet s x.ended.pair party b i x.words x.generation) met
    (subst (λ (m : ℕ). EndsGet x.ended.met x.ended.pair party b m x.words x.generation) (is.entry ∙ of.entry)
    (subst (λ (m : ℕ). EndsGet x.ended.met x.ended.pair party m w.fetch.entry x.words x.generation) (is.board ∙ of.board) w.ends)) in
    script_later c.before_published up.rest c.published x.ended.pair b i g x.generation words x.words party whole t.published ends

-- one of the gets
one_high : (before after : List Get) (x : Get) (last : ℕ) → AllByRecursion (λ (y : Get). y.generation ≤ last) (before ++ x ∷ after) → x.generation ≤ last
one_high [] after x last h = h.0
one_high (y ∷ ys) after x last h = one_high ys after x last h.1

pub last_fresh : LastReportsAreFresh
last_fresh c behind b i n id g words party handle x before after t h of =
    let k = gets_fresh c behind b i n id g words party handle x t h of in
    let l = one_high before after x (last_report 0 (reports (before ++ x ∷ after))) (last_highest (before ++ x ∷ after)) in
    omega (arith, k.0, l)
