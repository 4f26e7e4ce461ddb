-- Rounds of gets: what each get gives beside the lists before and after the round.
use Rattle.std.proofs.Common.{◌≡◌, ℕ, ◌≤◌, Bool, true, false, List, [], ◌∷◌, ◌++◌, length, arith, refl, sym, ap, subst, ◌∙◌, Option, Some, None}
use Rattle.std.specs.Prelude.{if◌then◌else◌, is_some}
use Rattle.std.specs.List.{AllByRecursion, flat_map}
use Rattle.std.proofs.lemmas.List.{append-nil, length-append, nil_from_length}
use Rattle.std.proofs.lemmas.List.Concat.{flat_map-append}
use Rattle.board_model.specs.declared.tables.Board.{Board}
use Rattle.board_model.specs.declared.tables.ThingKind.{ThingKind}
use Rattle.board_model.specs.declared.tables.ThingKind.TheVariants as thing_kind
use Rattle.board_model.specs.LawfulSession as boards
use Rattle.board_model.specs.Replies.{latest}
use Rattle.board_model.specs.Requests.{Fetch}
use Rattle.board_model.specs.Sound.{HasBoard, Sound}
use Rattle.board_model.specs.Tables.{board_at, entry_of, kind_of, same_kind}
use Rattle.board_model.specs.Things.{Held, held_of_kind, is_held_as, of_kind, thing_of}
use Rattle.board_model.proofs.ThingLemmas.{all_found}
use Rattle.board_model.proofs.SoundLemmas.{sound_start}
use Rattle.script_model.specs.ScriptTurns.{ScriptState}
use Rattle.script_model.specs.ScriptSession.{IsLawful, Session, start}
use Rattle.script_model.specs.LawsOfComposition.{state_met}
use Rattle.script_model.proofs.CompositionLemmas.{lawful_split}
use Rattle.script_model.proofs.PartLemmas.{board_part_leads}
use Rattle.script_moments.specs.Moments.{Moment, end_of, left}
use Rattle.script_moments.specs.Gets.{Get, IsRound, Round, generations, moments_of, moments_of_get, moments_of_open}
use Rattle.script_moments.specs.Snapshots.{IsSnapshot, Snapshot, moments_of_snapshot}
use Rattle.script_moments.specs.LawsOfSnapshots.{AreLastValues, SnapshotsAreOfOneMoment}
use Rattle.script_moments.proofs.ChainLemmas.{Chain, Grows, chain_split, end_append, grows_by, grows_more, grows_same, length_grows, own_chain}
use Rattle.script_moments.proofs.GetWalks.{IsWalk, SameThings, chain_grows, get_walk}

-- ---- the board of what a party holds was drawn

thing_from : (k : ThingKind) (o : Option Held) (t : Held) → of_kind k o ≡ Some t → o ≡ Some t
thing_from k None t e = absurd cc
thing_from k (Some x) t e = at (same_kind (kind_of x.kind) k) e
  where
    at : (b : Bool) → (if b then Some x else None) ≡ Some t → Some x ≡ Some t
    at true q = q
    at false q = absurd cc

pub held_drawn : (s : boards.State) (party h : List ℕ) (k : ThingKind) (t : Held) → Sound s → held_of_kind s.standing k party h ≡ Some t → t.board ≤ s.standing.tables.last_board
held_drawn s party h k t sound e =
    let f = thing_from k (thing_of s.standing.tables.things party h) t e in
    let b : is_some (board_at s.standing.tables t.board) ≡ true = all_found (HasBoard s.standing.tables) (is_held_as party h) s.standing.tables.things t sound.things.standing f in
    at (board_at s.standing.tables t.board) refl b
  where
    at : (o : Option Board) → board_at s.standing.tables t.board ≡ o → is_some o ≡ true → t.board ≤ s.standing.tables.last_board
    at None q r = absurd cc
    at (Some x) q r = sound.boards.numbered t.board x q

-- ---- a get beside the lists of its entry before and after

pub record IsOver (party h : List ℕ) (s t : boards.State) (x : Get) : Type 0 where
  pub thing : Held
  pub held : held_of_kind s.standing thing_kind.ReadHandle party h ≡ Some thing
  pub after : held_of_kind t.standing thing_kind.ReadHandle party h ≡ Some thing
  pub low : length (s.published thing.board (entry_of thing.kind)) ≤ x.generation
  pub high : x.generation ≤ length (t.published thing.board (entry_of thing.kind))
  pub words : x.generation ≡ length (s.published thing.board (entry_of thing.kind)) → x.words ≡ latest (s.published thing.board (entry_of thing.kind))

-- a list that grew and is as long is the same
same_list : (s t : boards.State) (b i : ℕ) → Grows s t → b ≤ s.standing.tables.last_board → length (t.published b i) ≤ length (s.published b i) → t.published b i ≡ s.published b i
same_list s t b i g le h =
    let m = g.more b i le in
    let z : length m.0 ≡ 0 = omega (arith, h, ap length m.1, length-append (s.published b i) m.0) in
    m.1 ∙ ap (λ (l : List (List ℕ)). s.published b i ++ l) (nil_from_length m.0 z) ∙ append-nil (s.published b i)

walk_over : (party h : List ℕ) (s : ScriptState) (x : Get) → Sound s.boards → IsWalk party h s x → IsOver party h s.boards (left x.ended).boards x
walk_over party h s x sound w =
    let t : Held = w.asked.thing in
    let b : ℕ = t.board in
    let i : ℕ = entry_of t.kind in
    let drawn = held_drawn s.boards party h thing_kind.ReadHandle t sound w.held in
    let at_b : w.fetch.board ≡ b = ap (λ (f : Fetch). f.board) w.asked.is in
    let at_i : w.fetch.entry ≡ i = ap (λ (f : Fetch). f.entry) w.asked.is in
    let got = w.got 0 (omega arith) in
    let list : x.ended.met.boards.published w.fetch.board w.fetch.entry ≡ x.ended.met.boards.published b i = rw (at_b, at_i) refl in
    let gen : x.generation ≡ length (x.ended.met.boards.published b i) = got.generation ∙ ap length list in
    let below = length_grows s.boards x.ended.met.boards b i w.to_end drawn in
    let over : (left x.ended).boards.published b i ≡ x.ended.met.boards.published b i = (rw (sym at_b, sym at_i) refl) ∙ got.lists ∙ list in
    record {
      thing = t;
      held = w.held;
      after = ap (of_kind thing_kind.ReadHandle) (w.things h) ∙ w.held;
      low = omega (arith, gen, below);
      high = omega (arith, gen, ap length over);
      words = λ e.
          let same = same_list s.boards x.ended.met.boards b i w.to_end drawn (omega (arith, gen, e)) in
          got.words ∙ ap latest (list ∙ same);
    }

-- what lies before and behind makes it no less so
over_wider : (party h : List ℕ) (r s t u : boards.State) (x : Get) → Sound r → Grows r s → SameThings party r s → Grows t u → SameThings party t u → Sound t → IsOver party h s t x → IsOver party h r u x
over_wider party h r s t u x sound g same g2 same2 sound2 o =
    let b : ℕ = o.thing.board in
    let i : ℕ = entry_of o.thing.kind in
    let held : held_of_kind r.standing thing_kind.ReadHandle party h ≡ Some o.thing = ap (of_kind thing_kind.ReadHandle) (sym (same h)) ∙ o.held in
    let drawn = held_drawn r party h thing_kind.ReadHandle o.thing sound held in
    let drawn2 = held_drawn t party h thing_kind.ReadHandle o.thing sound2 o.after in
    let low = length_grows r s b i g drawn in
    let high = length_grows t u b i g2 drawn2 in
    record {
      thing = o.thing;
      held = held;
      after = ap (of_kind thing_kind.ReadHandle) (same2 h) ∙ o.after;
      low = omega (arith, low, o.low);
      high = omega (arith, high, o.high);
      words = λ e.
          let l = same_list r s b i g drawn (omega (arith, low, o.low, e)) in
          o.words (e ∙ ap length (sym l)) ∙ ap latest l;
    }

-- ---- rounds

abbrev pub AreOver : List ℕ → List (List ℕ) → boards.State → boards.State → Round → Type 0
AreOver party [] s t [] = Unit {0}
AreOver party [] s t (x ∷ xs) = ⊥
AreOver party (h ∷ hs) s t [] = ⊥
AreOver party (h ∷ hs) s t (x ∷ xs) = IsOver party h s t x × AreOver party hs s t xs

all_wider : (party : List ℕ) (hs : List (List ℕ)) (r s t : boards.State) (xs : Round) → Sound r → Grows r s → SameThings party r s → Sound t → AreOver party hs s t xs → AreOver party hs r t xs
all_wider party [] r s t [] sound g same sound2 o = tt
all_wider party [] r s t (x ∷ xs) sound g same sound2 o = absurd o
all_wider party (h ∷ hs) r s t [] sound g same sound2 o = absurd o
all_wider party (h ∷ hs) r s t (x ∷ xs) sound g same sound2 o = (over_wider party h r s t t x sound g same (grows_same t sound2) (λ name. refl) sound2 o.0, all_wider party hs r s t xs sound g same sound2 o.1)

pub record IsRoundOver (party : List ℕ) (hs : List (List ℕ)) (s : ScriptState) (xs : Round) : Type 0 where
  pub grows : Grows s.boards (end_of s (moments_of xs)).boards
  pub things : SameThings party s.boards (end_of s (moments_of xs)).boards
  pub gets : AreOver party hs s.boards (end_of s (moments_of xs)).boards xs

-- the same, up to a state that is named_entry
pub record IsRoundOverTo (party : List ℕ) (hs : List (List ℕ)) (s t : ScriptState) (xs : Round) : Type 0 where
  pub grows : Grows s.boards t.boards
  pub things : SameThings party s.boards t.boards
  pub gets : AreOver party hs s.boards t.boards xs

pub end_of_get : (x : Get) (s : ScriptState) → end_of s (moments_of_get x) ≡ left x.ended
end_of_get x s = end_append x.steps (x.ended ∷ []) (left x.begun)

pub round_over : (party : List ℕ) (hs : List (List ℕ)) (xs : Round) (s : ScriptState) → Chain party s (moments_of xs) → IsRound party hs xs → Sound s.boards → IsRoundOver party hs s xs
round_over party [] [] s c k sound = record { grows = grows_same s.boards sound; things = λ name. refl; gets = tt }
round_over party [] (x ∷ xs) s c k sound = absurd k
round_over party (h ∷ hs) [] s c k sound = absurd k
round_over party (h ∷ hs) (x ∷ xs) s c k sound =
    let parts = chain_split party (moments_of_get x) (moments_of xs) s c in
    let w = get_walk party h s x parts.0 k.0 sound in
    let e = end_of_get x s in
    let mid : ScriptState = left x.ended in
    let rest = round_over party hs xs mid (subst (λ (u : ScriptState). Chain party u (moments_of xs)) e parts.1) k.1 w.past.sound in
    let end : end_of s (moments_of (x ∷ xs)) ≡ end_of mid (moments_of xs) = end_append (moments_of_get x) (moments_of xs) s ∙ ap (λ (u : ScriptState). end_of u (moments_of xs)) e in
    let t : ScriptState = end_of mid (moments_of xs) in
    let all : IsRoundOverTo party (h ∷ hs) s t (x ∷ xs) = record {
      grows = grows_more s.boards mid.boards t.boards w.past rest.grows;
      things = λ name. rest.things name ∙ w.things name;
      gets = (
        over_wider party h s.boards s.boards mid.boards t.boards x sound (grows_same s.boards sound) (λ name. refl) rest.grows rest.things w.past.sound (walk_over party h s x sound w),
        all_wider party hs s.boards mid.boards t.boards xs sound w.past w.things rest.grows.sound rest.gets,
      );
    } in
    let all' = subst (λ (u : ScriptState). IsRoundOverTo party (h ∷ hs) s u (x ∷ xs)) (sym end) all in
    record { grows = all'.grows; things = all'.things; gets = all'.gets }

-- ---- two rounds with the same generations

same_cons : (x y : ℕ) (xs ys : List ℕ) → x ∷ xs ≡ y ∷ ys → (x ≡ y) × (xs ≡ ys)
same_cons x y xs ys e = (cc, cc)

same_some : (x y : Held) → Some x ≡ Some y → x ≡ y
same_some x y e = cc

two_last : (m : ScriptState) (party : List ℕ) (hs : List (List ℕ)) (s t : boards.State) (ones twos : Round) → AreOver party hs s m.boards ones → AreOver party hs m.boards t twos → generations ones ≡ generations twos → AreLastValues m party hs twos
two_last m party [] s t [] [] o p e = tt
two_last m party [] s t [] (y ∷ ys) o p e = absurd p
two_last m party [] s t (x ∷ xs) ys o p e = absurd o
two_last m party (h ∷ hs) s t [] ys o p e = absurd o
two_last m party (h ∷ hs) s t (x ∷ xs) [] o p e = absurd p
two_last m party (h ∷ hs) s t (x ∷ xs) (y ∷ ys) o p e =
    let q = same_cons x.generation y.generation (generations xs) (generations ys) e in
    let one : o.0.thing ≡ p.0.thing = same_some o.0.thing p.0.thing (sym o.0.after ∙ p.0.held) in
    let high : x.generation ≤ length (m.boards.published p.0.thing.board (entry_of p.0.thing.kind)) = subst (λ (t : Held). x.generation ≤ length (m.boards.published t.board (entry_of t.kind))) one o.0.high in
    let same : y.generation ≡ length (m.boards.published p.0.thing.board (entry_of p.0.thing.kind)) = omega (arith, high, p.0.low, q.0) in
    (record { thing = p.0.thing; found = p.0.held; generation = same; words = p.0.words same }, two_last m party hs s t xs ys o.1 p.1 q.1)

-- ---- the law

pub sound_at : (pairs : Session) → IsLawful pairs → Sound (state_met pairs).boards
sound_at pairs ok =
    let l = board_part_leads start pairs ok in
    subst Sound l.state (grows_by _ boards.start l.lawful sound_start).sound

-- the own moments of a snapshot, in a chain
pub snapshot_chain : (before since : Session) (party : List ℕ) (hs : List (List ℕ)) (x : Snapshot) → IsSnapshot before since party hs x → Sound (state_met before).boards × Chain party (state_met before) (moments_of_snapshot x)
snapshot_chain before since party hs x h =
    let l = lawful_split before since start h.lawful in
    (sound_at before l.0, subst (Chain party (state_met before)) h.own (own_chain party since (state_met before) l.1))

pub of_one_moment : SnapshotsAreOfOneMoment
of_one_moment before since party hs x h =
    let c = snapshot_chain before since party hs x h.snapshot in
    let early : List Moment = flat_map moments_of h.earlier in
    let cut : flat_map moments_of x.rounds ≡ early ++ moments_of h.one = ap (flat_map moments_of) h.rounds ∙ flat_map-append moments_of h.earlier (h.one ∷ []) ∙ ap (λ (ms : List Moment). early ++ ms) (append-nil (moments_of h.one)) in
    let rest : moments_of x.gets ++ moments_of_open x.begun ≡ moments_of x.gets = ap (λ (o : Option (Moment × List Moment)). moments_of x.gets ++ moments_of_open o) h.none ∙ append-nil (moments_of x.gets) in
    let c1 = chain_split party (flat_map moments_of x.rounds) (moments_of x.gets ++ moments_of_open x.begun) (state_met before) c.1 in
    let c2 = chain_split party early (moments_of h.one) (state_met before) (subst (Chain party (state_met before)) cut c1.0) in
    let s : ScriptState = end_of (state_met before) early in
    let m : ScriptState = end_of s (moments_of h.one) in
    let end : end_of (state_met before) (flat_map moments_of x.rounds) ≡ m = ap (end_of (state_met before)) cut ∙ end_append early (moments_of h.one) (state_met before) in
    let c3 = subst (λ (u : ScriptState). Chain party u (moments_of x.gets)) end (subst (Chain party (end_of (state_met before) (flat_map moments_of x.rounds))) rest c1.1) in
    let g1 = chain_grows party early (state_met before) c2.0 c.0 in
    let o = round_over party hs h.one s c2.1 (last_one h.earlier h.one (subst (AllByRecursion (IsRound party hs)) h.rounds h.snapshot.rounds)) g1.sound in
    let p = round_over party hs x.gets m c3 h.whole o.grows.sound in
    subst (λ (u : ScriptState). AreLastValues u party hs x.gets) (sym end) (two_last m party hs s.boards (end_of m (moments_of x.gets)).boards h.one x.gets o.gets p.gets h.alike)
  where
    last_one : (earlier : List Round) (one : Round) → AllByRecursion (IsRound party hs) (earlier ++ one ∷ []) → IsRound party hs one
    last_one [] one k = k.0
    last_one (y ∷ ys) one k = last_one ys one k.1
