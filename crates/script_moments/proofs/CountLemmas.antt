-- How many steps a snapshot takes.
use Rattle.std.proofs.Common.{◌≡◌, ℕ, suc, ◌+◌, ◌-◌, ◌*◌, ◌≤◌, true, List, [], ◌∷◌, ◌++◌, length, map, arith, refl, sym, ap, subst, ◌∙◌, Option, Some, None, append_assoc}
use Rattle.std.specs.List.{AllByRecursion, flat_map, sum}
use Rattle.std.proofs.lemmas.List.{length_push}
use Rattle.std.proofs.lemmas.List.Sums.{sum_by-cons}
use Rattle.std.proofs.Math.Nat.{mul-le-mul_right}
use Rattle.board_cell_model.specs.declared.access.Access.{Access}
use Rattle.board_model.specs.declared.answer.Answer.TheVariants as answer
use Rattle.board_model.specs.declared.answer.Reply.{Reply}
use Rattle.board_model.specs.declared.line.Line.TheVariants as board_line
use Rattle.board_model.specs.declared.tables.Board.{Board}
use Rattle.board_model.specs.declared.tables.Entry.{Entry}
use Rattle.board_model.specs.declared.tables.ThingKind.TheVariants as thing_kind
use Rattle.board_model.specs.LawfulSession as boards
use Rattle.board_cell_model.specs.OwedAccesses.{Reading, finished, opening, trying}
use Rattle.board_model.specs.Parties.{Party, Running, reading, running}
use Rattle.board_model.specs.Requests.{Fetch, get, handled}
use Rattle.board_model.specs.Sound.{IsReading, Sound}
use Rattle.board_model.specs.Tables.{board_at, entry_in, entry_of}
use Rattle.board_model.specs.Things.{Held, held_of_kind, of_kind}
use Rattle.board_model.proofs.RunningLemmas.{runs}
use Rattle.board_model.proofs.ThingLemmas.{same_to_itself}
use Rattle.script_model.specs.ScriptTurns.{ScriptState}
use Rattle.script_model.specs.ScriptSession.{Session, start}
use Rattle.script_model.specs.LawsOfComposition.{Pair, state_met, of_pair}
use Rattle.script_model.proofs.CompositionLemmas.{lawful_split}
use Rattle.script_moments.specs.Moments.{Moment, end_of, left, moments}
use Rattle.script_moments.specs.Gets.{Get, GoesOn, IsGet, IsOpen, IsPart, IsRound, Round, generations, moments_of, moments_of_get, moments_of_open, NamedEntry, named_entry, named_by, words_in}
use Rattle.script_moments.specs.Snapshots.{IsSnapshot, Snapshot, moments_of_snapshot, steps_of_snapshot}
use Rattle.script_moments.specs.LawsOfSnapshots.{SnapshotsAloneTakeTwoRounds, SnapshotsAreShort, is_step, published_between, published_of, steps_again, steps_alone}
use Rattle.script_moments.proofs.ChainLemmas.{Chain, Grows, chain_split, end_append, grows_more, grows_same, length_grows, link_grows, link_leaves}
use Rattle.script_moments.proofs.WalkLemmas.{IsFetch, IsRun, IsSlow, run_begun, run_link, run_step}
use Rattle.script_moments.proofs.GetWalks.{IsWalk, SameThings, chain_grows, first_step, get_walk, own_begin, own_step, pair_grows}
use Rattle.script_moments.proofs.RoundLemmas.{end_of_get, held_drawn, snapshot_chain}
use Rattle.script_moments.proofs.VectorLemmas.{AreCounted, Below, IsCounted, PartCounted, RoundsCounted, below_sum, gain, gain_more, last_of, part_few, part_many, rounds_below, rounds_few, rounds_many, rounds_rise}
use Rattle.script_moments.proofs.BetweenLemmas.{AllFrom, AllTo, all_from_split, all_to_split, between_counts, chain_from, first_met, first_own, from_first, last_met, last_own, len, steps_in, to_last}

-- ---- the entry that a get goes to

pub record IsNamedBy (n : NamedEntry) (f : Fetch) : Type 0 where
  pub board : f.board ≡ n.board
  pub entry : f.entry ≡ n.entry
  pub words : f.shape.words ≡ n.words

words_there : (o : Option Board) (p : Option Board) (i : ℕ) (e : Entry) → ((b : Board) → o ≡ Some b → p ≡ Some b) → entry_in o i ≡ Some e → words_in (entry_in p i) ≡ e.cell.words
words_there None p i e keep h = absurd cc
words_there (Some b) p i e keep h = ap (λ (q : Option Board). words_in (entry_in q i)) (keep b refl) ∙ ap words_in h

pub named_is : (s0 : ScriptState) (party h : List ℕ) (t : boards.State) (f : Fetch) → Sound s0.boards → Grows s0.boards t → SameThings party s0.boards t → IsFetch t party h f → IsNamedBy (named_entry s0 party h) f
named_is s0 party h t f sound g same k =
    let held : held_of_kind s0.boards.standing thing_kind.ReadHandle party h ≡ Some k.thing = ap (of_kind thing_kind.ReadHandle) (sym (same h)) ∙ k.held in
    let drawn = held_drawn s0.boards party h thing_kind.ReadHandle k.thing sound held in
    let w : words_in (handled s0.boards.standing k.thing) ≡ k.entry.cell.words = words_there (board_at t.standing.tables k.thing.board) (board_at s0.boards.standing.tables k.thing.board) (entry_of k.thing.kind) k.entry (λ b e. g.boards k.thing.board b drawn e) k.there in
    let n : named_entry s0 party h ≡ named_by s0.boards.standing (Some k.thing) = ap (named_by s0.boards.standing) held in
    record {
      board = ap (λ (y : Fetch). y.board) k.is ∙ ap (λ (m : NamedEntry). m.board) (sym n);
      entry = ap (λ (y : Fetch). y.entry) k.is ∙ ap (λ (m : NamedEntry). m.entry) (sym n);
      words = ap (λ (y : Fetch). y.shape.words) k.is ∙ sym w ∙ ap (λ (m : NamedEntry). m.words) (sym n);
    }

pub named_drawn : (s0 : ScriptState) (party h : List ℕ) → Sound s0.boards → (named_entry s0 party h).board ≤ s0.boards.standing.tables.last_board
named_drawn s0 party h sound = at (held_of_kind s0.boards.standing thing_kind.ReadHandle party h) refl
  where
    at : (o : Option Held) → held_of_kind s0.boards.standing thing_kind.ReadHandle party h ≡ o → (named_by s0.boards.standing o).board ≤ s0.boards.standing.tables.last_board
    at None e = omega arith
    at (Some t) e = held_drawn s0.boards party h thing_kind.ReadHandle t sound e

-- ---- steps of a get

is_own_step : (party : List ℕ) (m : Moment) (a : Access) (told : Option Reply) → m.pair ≡ of_pair (board_line.Step party, answer.Step a told) → steps_in party m ≡ true
is_own_step party m a told e = ap (λ (p : Pair). is_step party p.0) e ∙ same_to_itself party

first_from : (party : List ℕ) (d : boards.State) (steps : List Moment) (e : Moment) → AllByRecursion (GoesOn party) steps → steps_in party e ≡ true → AllFrom party d (steps ++ e ∷ []) → Grows d (first_step steps e).met.boards
first_from party d [] e go is h = h.0 is
first_from party d (m ∷ ms) e go is h = h.0 (is_own_step party m go.0.0 None go.0.1)

end_to : (party : List ℕ) (t : boards.State) (steps : List Moment) (e : Moment) → steps_in party e ≡ true → AllTo party t (steps ++ e ∷ []) → Grows e.met.boards t
end_to party t steps e is h = (all_to_split party t steps (e ∷ []) h).1.0 is

module _ (s0 : ScriptState) (sound0 : Sound s0.boards) (party : List ℕ) where
  pub get_counted : (h : List ℕ) (s : ScriptState) (x : Get) (d t : boards.State) (a : ℕ) → Grows s0.boards s.boards → SameThings party s0.boards s.boards → IsGet party h x → IsWalk party h s x → Grows s0.boards d → a ≤ len d (named_entry s0 party h)
      → AllFrom party d (moments_of_get x) → AllTo party t (moments_of_get x) → IsCounted (named_entry s0 party h) a x × (x.generation ≤ len t (named_entry s0 party h))
  get_counted h s x d t a g same k w gd le from to =
      let n : NamedEntry = named_entry s0 party h in
      let drawn = named_drawn s0 party h sound0 in
      let ended = is_own_step party x.ended k.ended.0 _ k.ended.1 in
      let to_begin = grows_more s0.boards s.boards x.begun.met.boards g w.to_begin in
      let to_end = grows_more s0.boards s.boards x.ended.met.boards g w.to_end in
      let is = named_is s0 party h x.begun.met.boards w.fetch sound0 to_begin (λ name. same_at s x w same name) w.asked in
      let first = first_from party d x.steps x.ended k.steps ended from.1 in
      let last = end_to party t x.steps x.ended ended to.1 in
      let low = length_grows d (first_step x.steps x.ended).met.boards n.board n.entry first (omega (arith, drawn, gd.drawn)) in
      let high = length_grows x.ended.met.boards t n.board n.entry last (omega (arith, drawn, to_end.drawn)) in
      let list : (u : boards.State) → u.published w.fetch.board w.fetch.entry ≡ u.published n.board n.entry = λ (u : boards.State). rw (is.board, is.entry) refl in
      let got = w.got a (omega (arith, le, low, ap length (list (first_step x.steps x.ended).met.boards))) in (
        record {
          above = got.above;
          few = subst (λ (m : ℕ). length x.steps + 1 ≤ m + 2 + (x.generation - a) * (m + 1)) is.words got.few;
          many = subst (λ (m : ℕ). m + 2 ≤ length x.steps + 1) is.words got.many;
        },
        omega (arith, got.generation, ap length (list x.ended.met.boards), high),
      )
    where
      same_at : (s : ScriptState) (x : Get) → IsWalk party h s x → SameThings party s0.boards s.boards → SameThings party s0.boards x.begun.met.boards
      same_at s x w same name = w.before name ∙ same name

-- ---- rounds

abbrev pub lens : boards.State → List NamedEntry → List ℕ
lens s ns = map (len s) ns

-- the end of own moments comes after all of their steps
chain_to : (party : List ℕ) (ms : List Moment) (s : ScriptState) → Chain party s ms → Sound s.boards → AllTo party (end_of s ms).boards ms
chain_to party [] s c sound = tt
chain_to party (m ∷ ms) s c sound =
    let a = link_grows party s.boards m.met.boards c.0 sound in
    let b : Grows m.met.boards (left m).boards = pair_grows m.met m.pair.0 m.pair.1 c.1 a.sound in
    let e = chain_grows party ms (left m) c.2 b.sound in
    (λ q. grows_more m.met.boards (left m).boards _ b e, chain_to party ms (left m) c.2 b.sound)

module _ (s0 : ScriptState) (sound0 : Sound s0.boards) (party : List ℕ) where
  abbrev pub all_named : List (List ℕ) → List NamedEntry
  all_named hs = map (named_entry s0 party) hs

  -- a round and what it leaves
  pub record IsRoundCounted (hs : List (List ℕ)) (xs : List ℕ) (t : boards.State) (s e : ScriptState) (zs : Round) : Type 0 where
    pub counted : AreCounted (all_named hs) xs zs
    pub under : Below (generations zs) (lens t (all_named hs))
    pub grows : Grows s0.boards e.boards
    pub things : SameThings party s0.boards e.boards

  round_counted : (hs : List (List ℕ)) (zs : Round) (xs : List ℕ) (d t : boards.State) (s : ScriptState) → Chain party s (moments_of zs) → IsRound party hs zs → Grows s0.boards s.boards → SameThings party s0.boards s.boards → Grows s0.boards d
      → Below xs (lens d (all_named hs)) → AllFrom party d (moments_of zs) → AllTo party t (moments_of zs) → IsRoundCounted hs xs t s (end_of s (moments_of zs)) zs
  round_counted [] [] [] d t s c k g same gd le from to = record { counted = tt; under = tt; grows = g; things = same }
  round_counted [] [] (x ∷ xs) d t s c k g same gd le from to = absurd le
  round_counted [] (z ∷ zs) xs d t s c k g same gd le from to = absurd k
  round_counted (h ∷ hs) [] xs d t s c k g same gd le from to = absurd k
  round_counted (h ∷ hs) (z ∷ zs) [] d t s c k g same gd le from to = absurd le
  round_counted (h ∷ hs) (z ∷ zs) (x ∷ xs) d t s c k g same gd le from to =
      let parts = chain_split party (moments_of_get z) (moments_of zs) s c in
      let w = get_walk party h s z parts.0 k.0 g.sound in
      let from2 = all_from_split party d (moments_of_get z) (moments_of zs) from in
      let to2 = all_to_split party t (moments_of_get z) (moments_of zs) to in
      let one = get_counted s0 sound0 party h s z d t x g same k.0 w gd le.0 from2.0 to2.0 in
      let e = end_of_get z s in
      let mid : ScriptState = left z.ended in
      let gm = grows_more s0.boards s.boards mid.boards g w.past in
      let rest = round_counted hs zs xs d t mid (subst (λ (u : ScriptState). Chain party u (moments_of zs)) e parts.1) k.1 gm (λ name. w.things name ∙ same name) gd le.1 from2.1 to2.1 in
      let end : end_of s (moments_of (z ∷ zs)) ≡ end_of mid (moments_of zs) = end_append (moments_of_get z) (moments_of zs) s ∙ ap (λ (u : ScriptState). end_of u (moments_of zs)) e in
      record {
        counted = (one.0, rest.counted);
        under = (one.1, rest.under);
        grows = subst (λ (u : ScriptState). Grows s0.boards u.boards) (sym end) rest.grows;
        things = subst (λ (u : ScriptState). SameThings party s0.boards u.boards) (sym end) rest.things;
      }

  -- rounds, one after another, and what follows them
  pub record AreRoundsCounted (hs : List (List ℕ)) (xs : List ℕ) (t : boards.State) (rs : List Round) (rest : List Moment) : Type 0 where
    pub counted : RoundsCounted (all_named hs) xs rs
    pub under : Below (last_of xs rs) (lens t (all_named hs))
    pub e : ScriptState
    pub chain : Chain party e rest
    pub grows : Grows s0.boards e.boards
    pub things : SameThings party s0.boards e.boards
    pub floor : boards.State
    pub above : Grows s0.boards floor
    pub low : Below (last_of xs rs) (lens floor (all_named hs))
    pub from : AllFrom party floor rest
    pub to : AllTo party t rest

  rounds_counted : (hs : List (List ℕ)) (rs : List Round) (rest : List Moment) (xs : List ℕ) (d t : boards.State) (s : ScriptState) → Chain party s (flat_map moments_of rs ++ rest) → AllByRecursion (IsRound party hs) rs → Grows s0.boards s.boards → SameThings party s0.boards s.boards → Grows s0.boards d
      → Below xs (lens d (all_named hs)) → Below xs (lens t (all_named hs)) → AllFrom party d (flat_map moments_of rs ++ rest) → AllTo party t (flat_map moments_of rs ++ rest) → AreRoundsCounted hs xs t rs rest
  rounds_counted hs [] rest xs d t s c k g same gd le under from to = record { counted = tt; under = under; e = s; chain = c; grows = g; things = same; floor = d; above = gd; low = le; from = from; to = to }
  rounds_counted hs (r ∷ rs) rest xs d t s c k g same gd le under from to =
      let more : List Moment = flat_map moments_of rs ++ rest in
      let cut : flat_map moments_of (r ∷ rs) ++ rest ≡ moments_of r ++ more = append_assoc (moments_of r) (flat_map moments_of rs) rest in
      let parts = chain_split party (moments_of r) more s (subst (Chain party s) cut c) in
      let from2 = all_from_split party d (moments_of r) more (subst (AllFrom party d) cut from) in
      let to2 = all_to_split party t (moments_of r) more (subst (AllTo party t) cut to) in
      let e : ScriptState = end_of s (moments_of r) in
      let one = round_counted hs r xs d t s parts.0 k.0 g same gd le from2.0 to2.0 in
      let high = round_counted hs r xs d e.boards s parts.0 k.0 g same gd le from2.0 (chain_to party (moments_of r) s parts.0 g.sound) in
      let next = rounds_counted hs rs rest (generations r) e.boards t e parts.1 k.1 one.grows one.things one.grows high.under one.under (chain_from party more e.boards e parts.1 (grows_same e.boards one.grows.sound)) to2.1 in
      record { counted = (one.counted, next.counted); under = next.under; e = next.e; chain = next.chain; grows = next.grows; things = next.things; floor = next.floor; above = next.above; low = next.low; from = next.from; to = next.to }

-- ---- a get that runs

slow_few : (w low n c top : ℕ) (ws : List ℕ) → low ≤ c → n ≤ 1 + (c - low) * (w + 1) + length ws → length ws ≤ w → c ≤ top → n ≤ w + 2 + (top - low) * (w + 1)
slow_few w low n c top ws le most size up =
    let l : (c - low) * (w + 1) ≤ (top - low) * (w + 1) = mul-le-mul_right (w + 1) (omega arith) in
    omega (arith, l)

reading_few : (list : List (List ℕ)) (w low n p top : ℕ) (r : Reading) → IsReading list w n p r → IsSlow w low n r → length list ≤ top → n ≤ w + 2 + (top - low) * (w + 1)
reading_few list w low n p top opening h k up = omega (arith, k)
reading_few list w low n p top (trying c ws) h k up = slow_few w low n c top ws k.0 k.1 h.size (omega (arith, h.below))
reading_few list w low n p top (finished c ws) h k up = absurd k

run_few : (party : List ℕ) (f : Fetch) (low n top : ℕ) (s : boards.State) → IsRun party f low n s → length (s.published f.board f.entry) ≤ top → n ≤ f.shape.words + 2 + (top - low) * (f.shape.words + 1)
run_few party f low n top s r up =
    let g = runs s party r.call (get f) r.sound r.runs r.request in
    let reads : IsReading (s.published f.board f.entry) f.shape.words n r.call.passed (reading f.shape.words r.call.so_far) = subst (λ (m : ℕ). IsReading (s.published f.board f.entry) f.shape.words m r.call.passed (reading f.shape.words r.call.so_far)) r.count g.try in
    reading_few (s.published f.board f.entry) f.shape.words low n r.call.passed top (reading f.shape.words r.call.so_far) reads r.slow up

-- the first of the steps, if there is one
abbrev FirstAbove : ℕ → ℕ → Fetch → List Moment → Type 0
FirstAbove low n f [] = Unit {0}
FirstAbove low n f (m ∷ ms) = n ≡ 0 → low ≤ length (m.met.boards.published f.board f.entry)

later_above : (low n : ℕ) (f : Fetch) (ms : List Moment) → FirstAbove low (n + 1) f ms
later_above low n f [] = tt
later_above low n f (m ∷ ms) = λ z. absurd (omega arith)

open_walk : (party : List ℕ) (f : Fetch) (low bound : ℕ) (t : boards.State) (steps : List Moment) (s : ScriptState) (n : ℕ) → IsRun party f low n s.boards → Chain party s steps → AllByRecursion (GoesOn party) steps → FirstAbove low n f steps → AllTo party t steps
    → ((u : boards.State) → Grows s.boards u → Grows u t → length (u.published f.board f.entry) ≤ length (t.published f.board f.entry))
    → bound ≡ f.shape.words + 2 + (length (t.published f.board f.entry) - low) * (f.shape.words + 1) → n ≤ bound → n + length steps ≤ bound
open_walk party f low bound t [] s n r c go above to up is le = omega arith
open_walk party f low bound t (m ∷ ms) s n r c go above to up is le =
    let own = own_step m party go.0.0 None go.0.1 c.1 in
    let a = link_grows party s.boards m.met.boards c.0 r.sound in
    let run = run_link party f low n s.boards m.met.boards c.0 r in
    let next : IsRun party f low (n + 1) (left m).boards = subst (IsRun party f low (n + 1)) (sym own.state) (run_step party f low n m.met.boards go.0.0 run above own.right) in
    let b : Grows m.met.boards (left m).boards = pair_grows m.met m.pair.0 m.pair.1 c.1 a.sound in
    let ab : Grows s.boards (left m).boards = grows_more s.boards m.met.boards (left m).boards a b in
    let lists : length ((left m).boards.published f.board f.entry) ≡ length (m.met.boards.published f.board f.entry) = ap (λ (u : boards.State). length (u.published f.board f.entry)) (own.state ∙ stepped_is m.met.boards party run.call go.0.0 run.runs) in
    let high = up m.met.boards a (to.0 (is_own_step party m go.0.0 None go.0.1)) in
    let few = run_few party f low (n + 1) (length (t.published f.board f.entry)) (left m).boards next (omega (arith, lists, high)) in
    let rest = open_walk party f low bound t ms (left m) (n + 1) next c.2 go.1 (later_above low n f ms) to.1 (λ u g k. up u (grows_more s.boards (left m).boards u ab g) k) is (omega (arith, few, is)) in
    omega (arith, rest)
  where
    stepped_is : (s : boards.State) (party : List ℕ) (r : Running) (a : Access) → s.parties party ≡ running r → boards.after s (board_line.Step party) (answer.Step a None) ≡ boards.stepped s party r a None
    stepped_is s party r a e = ap (λ (y : Party). boards.after_step s party y a None) e

module _ (s0 : ScriptState) (sound0 : Sound s0.boards) (party : List ℕ) where
  open_counted : (h : List ℕ) (o : Moment × List Moment) (x : ℕ) (d t : boards.State) (s : ScriptState) → Chain party s (o.0 ∷ o.1) → IsOpen party h o → Grows s0.boards s.boards → SameThings party s0.boards s.boards → Grows s0.boards d
      → x ≤ len d (named_entry s0 party h) → AllFrom party d (o.0 ∷ o.1) → AllTo party t (o.0 ∷ o.1)
      → length o.1 ≤ (named_entry s0 party h).words + 2 + (len t (named_entry s0 party h) - x) * ((named_entry s0 party h).words + 1)
  open_counted h o x d t s c k g same gd le from to =
      let n : NamedEntry = named_entry s0 party h in
      let drawn = named_drawn s0 party h sound0 in
      let own = own_begin o.0 party h k.begun c.1 in
      let keeps = link_leaves party s.boards o.0.met.boards c.0 g.sound in
      let a = link_grows party s.boards o.0.met.boards c.0 g.sound in
      let ga = grows_more s0.boards s.boards o.0.met.boards g a in
      let run0 = run_begun party h o.0.met.boards a.sound own.right in
      let f : Fetch = run0.fetch in
      let run : IsRun party f x 0 (left o.0).boards = subst (IsRun party f x 0) (sym own.state) (run0.run x) in
      let b : Grows o.0.met.boards (left o.0).boards = pair_grows o.0.met o.0.pair.0 o.0.pair.1 c.1 a.sound in
      let gb = grows_more s0.boards o.0.met.boards (left o.0).boards ga b in
      let is = named_is s0 party h o.0.met.boards f sound0 ga (λ name. keeps.holds.things name ∙ same name) run0.asked in
      let list : (u : boards.State) → u.published f.board f.entry ≡ u.published n.board n.entry = λ (u : boards.State). rw (is.board, is.entry) refl in
      let top : length (t.published f.board f.entry) ≡ len t n = ap length (list t) in
      let above : FirstAbove x 0 f o.1 = first_above o.1 d x f n k.steps from.1 le (λ u. ap length (list u)) (omega (arith, drawn, gd.drawn)) in
      let all = open_walk party f x (f.shape.words + 2 + (length (t.published f.board f.entry) - x) * (f.shape.words + 1)) t o.1 (left o.0) 0 run c.2 k.steps above to.1
      (λ u g1 g2. length_grows u t f.board f.entry g2 (omega (arith, is.board, drawn, gb.drawn, g1.drawn))) refl (omega arith) in
      let all' : length o.1 ≤ f.shape.words + 2 + (length (t.published f.board f.entry) - x) * (f.shape.words + 1) = omega (arith, all) in
      subst (λ (m : ℕ). length o.1 ≤ n.words + 2 + (m - x) * (n.words + 1)) top
      (subst (λ (m : ℕ). length o.1 ≤ m + 2 + (length (t.published f.board f.entry) - x) * (m + 1)) is.words all')
    where
      first_above : (ms : List Moment) (d : boards.State) (x : ℕ) (f : Fetch) (n : NamedEntry) → AllByRecursion (GoesOn party) ms → AllFrom party d ms → x ≤ len d n → ((u : boards.State) → length (u.published f.board f.entry) ≡ len u n) → n.board ≤ d.standing.tables.last_board → FirstAbove x 0 f ms
      first_above [] d x f n go from le list drawn = tt
      first_above (m ∷ ms) d x f n go from le list drawn = λ z.
          let g = from.0 (is_own_step party m go.0.0 None go.0.1) in
          let l = length_grows d m.met.boards n.board n.entry g drawn in
          omega (arith, le, l, list m.met.boards)

  part_counted : (hs : List (List ℕ)) (zs : Round) (o : Option (Moment × List Moment)) (xs : List ℕ) (d t : boards.State) (s : ScriptState) → Chain party s (moments_of zs ++ moments_of_open o) → IsPart party hs zs o → Grows s0.boards s.boards → SameThings party s0.boards s.boards → Grows s0.boards d
      → Below xs (lens d (all_named s0 sound0 party hs)) → AllFrom party d (moments_of zs ++ moments_of_open o) → AllTo party t (moments_of zs ++ moments_of_open o) → PartCounted (all_named s0 sound0 party hs) xs (lens t (all_named s0 sound0 party hs)) zs o
  part_counted hs [] None xs d t s c k g same gd le from to = tt
  part_counted [] [] (Some o) xs d t s c k g same gd le from to = absurd k
  part_counted (h ∷ hs) [] (Some o) [] d t s c k g same gd le from to = absurd le
  part_counted (h ∷ hs) [] (Some o) (x ∷ xs) d t s c k g same gd le from to = open_counted h o x d t s c k g same gd le.0 from to
  part_counted [] (z ∷ zs) o xs d t s c k g same gd le from to = absurd k
  part_counted (h ∷ hs) (z ∷ zs) o [] d t s c k g same gd le from to = absurd le
  part_counted (h ∷ hs) (z ∷ zs) o (x ∷ xs) d t s c k g same gd le from to =
      let more : List Moment = moments_of zs ++ moments_of_open o in
      let cut : moments_of (z ∷ zs) ++ moments_of_open o ≡ moments_of_get z ++ more = append_assoc (moments_of_get z) (moments_of zs) (moments_of_open o) in
      let parts = chain_split party (moments_of_get z) more s (subst (Chain party s) cut c) in
      let from2 = all_from_split party d (moments_of_get z) more (subst (AllFrom party d) cut from) in
      let to2 = all_to_split party t (moments_of_get z) more (subst (AllTo party t) cut to) in
      let w = get_walk party h s z parts.0 k.0 g.sound in
      let one = get_counted s0 sound0 party h s z d t x g same k.0 w gd le.0 from2.0 to2.0 in
      let mid : ScriptState = left z.ended in
      let rest = part_counted hs zs o xs d t mid (subst (λ (u : ScriptState). Chain party u more) (end_of_get z s) parts.1) k.1 (grows_more s0.boards s.boards mid.boards g w.past) (λ name. w.things name ∙ same name) gd le.1 from2.1 to2.1 in
      (one.0, one.1, rest)

-- ---- the lists at the first and at the last step

again_cons : (party : List ℕ) (ms : List Moment) (n : NamedEntry) (ns : List NamedEntry) → steps_again party ms (n ∷ ns) ≡ published_between party ms n * (n.words + 1) + steps_again party ms ns
again_cons party ms n ns = sum_by-cons (λ (m : NamedEntry). published_between party ms m * (m.words + 1)) n ns

published_cons : (party : List ℕ) (ms : List Moment) (n : NamedEntry) (ns : List NamedEntry) → published_of party ms (n ∷ ns) ≡ published_between party ms n + published_of party ms ns
published_cons party ms n ns = sum_by-cons (published_between party ms) n ns

sum_cons : (x : ℕ) (xs : List ℕ) → sum (x ∷ xs) ≡ x + sum xs
sum_cons x xs = sum_by-cons (λ (y : ℕ). y) x xs

pub record AreBetween (party : List ℕ) (ms : List Moment) (ns : List NamedEntry) (d t : boards.State) : Type 0 where
  pub below : Below (lens d ns) (lens t ns)
  pub sums : sum (lens d ns) + published_of party ms ns ≡ sum (lens t ns)
  pub gains : gain ns (lens d ns) (lens t ns) ≡ steps_again party ms ns

all_between : (party : List ℕ) (ms : List Moment) (d t : boards.State) (ns : List NamedEntry) → AllByRecursion (λ (n : NamedEntry). published_between party ms n + len d n ≡ len t n) ns → AreBetween party ms ns d t
unfolding gain
all_between party ms d t [] h = record { below = tt; sums = refl; gains = refl }
all_between party ms d t (n ∷ ns) h =
    let k = all_between party ms d t ns h.1 in
    let e : len t n - len d n ≡ published_between party ms n = omega (arith, h.0) in
    let f : (len t n - len d n) * (n.words + 1) ≡ published_between party ms n * (n.words + 1) = ap (λ (m : ℕ). m * (n.words + 1)) e in
    record {
      below = (omega (arith, h.0), k.below);
      sums = omega (arith, h.0, k.sums, sum_cons (len d n) (lens d ns), sum_cons (len t n) (lens t ns), published_cons party ms n ns);
      gains = omega (arith, f, k.gains, again_cons party ms n ns);
    }

-- ---- the whole snapshot

record IsSnapshotCounted (ns : List NamedEntry) (party : List ℕ) (ms : List Moment) (d t : boards.State) (x : Snapshot) : Type 0 where
  between : AreBetween party ms ns d t
  rounds : RoundsCounted ns (lens d ns) x.rounds
  under : Below (last_of (lens d ns) x.rounds) (lens t ns)
  part : PartCounted ns (last_of (lens d ns) x.rounds) (lens t ns) x.gets x.begun

snapshot_counted : (before since : Session) (party : List ℕ) (hs : List (List ℕ)) (x : Snapshot) → IsSnapshot before since party hs x
    → (d : boards.State) × (t : boards.State) × IsSnapshotCounted (map (named_entry (state_met before) party) hs) party (moments (state_met before) since) d t x
snapshot_counted before since party hs x h =
    let l = lawful_split before since start h.lawful in
    let c = snapshot_chain before since party hs x h in
    let s : ScriptState = state_met before in
    let ms : List Moment = moments s since in
    let mine : List Moment = moments_of_snapshot x in
    let d : boards.State = first_met party s.boards mine in
    let t : boards.State = last_met party s.boards mine in
    let same = grows_same s.boards c.0 in
    let f = from_first party mine s.boards s c.0 c.1 same in
    let g = to_last party mine s.boards s c.0 c.1 same in
    let first : d ≡ first_met party s.boards ms = ap (first_met party s.boards) (sym h.own) ∙ first_own party s.boards ms in
    let last : t ≡ last_met party s.boards ms = ap (last_met party s.boards) (sym h.own) ∙ last_own party ms s.boards in
    let each : (k : List ℕ) → published_between party ms (named_entry s party k) + len d (named_entry s party k) ≡ len t (named_entry s party k) =
    λ (k : List ℕ).
    ap (λ (u : boards.State). published_between party ms (named_entry s party k) + len u (named_entry s party k)) first
    ∙ between_counts party (named_entry s party k) since s s.boards l.1 c.0 (named_drawn s party k c.0)
    ∙ ap (λ (u : boards.State). len u (named_entry s party k)) (sym last) in
    let b = all_between party ms d t (map (named_entry s party) hs) (for_all s ms d t each hs) in
    let r = rounds_counted s c.0 party hs x.rounds (moments_of x.gets ++ moments_of_open x.begun) (lens d (map (named_entry s party) hs)) d t s c.1 h.rounds same (λ name. refl) f.grows (below_itself (lens d (map (named_entry s party) hs))) b.below f.steps g.steps in
    let p = part_counted s c.0 party hs x.gets x.begun (last_of (lens d (map (named_entry s party) hs)) x.rounds) r.floor t r.e r.chain h.part r.grows r.things r.above r.low r.from r.to in
    (d, t, record { between = b; rounds = r.counted; under = r.under; part = p })
  where
    below_itself : (xs : List ℕ) → Below xs xs
    below_itself [] = tt
    below_itself (x ∷ xs) = (omega arith, below_itself xs)

    for_all : (s : ScriptState) (ms : List Moment) (d t : boards.State) → ((k : List ℕ) → published_between party ms (named_entry s party k) + len d (named_entry s party k) ≡ len t (named_entry s party k)) → (hs : List (List ℕ)) → AllByRecursion (λ (n : NamedEntry). published_between party ms n + len d n ≡ len t n) (map (named_entry s party) hs)
    for_all s ms d t each [] = tt
    for_all s ms d t each (h ∷ hs) = (each h, for_all s ms d t each hs)

short_of : (party : List ℕ) (ms : List Moment) (ns : List NamedEntry) (d t : boards.State) (x : Snapshot) → IsSnapshotCounted ns party ms d t x → sum (lens d ns) + length x.rounds ≤ sum (last_of (lens d ns) x.rounds) + 1
    → steps_of_snapshot x ≤ (published_of party ms ns + 2) * steps_alone ns + steps_again party ms ns
short_of party ms ns d t x h rise =
    let rounds = rounds_few ns (lens d ns) x.rounds h.rounds in
    let part = part_few ns (last_of (lens d ns) x.rounds) (lens t ns) x.gets x.begun h.part in
    let gains = gain_more ns (lens d ns) (last_of (lens d ns) x.rounds) (lens t ns) (rounds_below ns (lens d ns) x.rounds h.rounds) h.under in
    let top = below_sum (last_of (lens d ns) x.rounds) (lens t ns) h.under in
    let few : length x.rounds + 1 ≤ published_of party ms ns + 2 = omega (arith, rise, top, h.between.sums) in
    let all : (length x.rounds + 1) * steps_alone ns ≤ (published_of party ms ns + 2) * steps_alone ns = mul-le-mul_right (steps_alone ns) few in
    omega (arith, rounds, part, gains, h.between.gains, all)

pub are_short : SnapshotsAreShort
are_short before since party hs x h =
    let k = snapshot_counted before since party hs x h in
    short_of party (moments (state_met before) since) (map (named_entry (state_met before) party) hs) k.0 k.1 x k.2 (rounds_rise (map (named_entry (state_met before) party) hs) (lens k.0 (map (named_entry (state_met before) party) hs)) x.rounds k.2.rounds h.unlike)

-- ---- a snapshot that nothing disturbs

none_again : (party : List ℕ) (ms : List Moment) (ns : List NamedEntry) → published_of party ms ns ≡ 0 → steps_again party ms ns ≡ 0
none_again party ms [] e = refl
none_again party ms (n ∷ ns) e =
    let z : published_between party ms n ≡ 0 = omega (arith, e, published_cons party ms n ns) in
    let f : published_between party ms n * (n.words + 1) ≡ 0 = ap (λ (m : ℕ). m * (n.words + 1)) z ∙ omega arith in
    let rest = none_again party ms ns (omega (arith, e, published_cons party ms n ns)) in
    omega (arith, f, rest, again_cons party ms n ns)

round_length : (party : List ℕ) (f : List ℕ → NamedEntry) (hs : List (List ℕ)) (zs : Round) → IsRound party hs zs → length (map f hs) ≡ length zs
round_length party f [] [] k = refl
round_length party f [] (z ∷ zs) k = absurd k
round_length party f (h ∷ hs) [] k = absurd k
round_length party f (h ∷ hs) (z ∷ zs) k = ap suc (round_length party f hs zs k.1)

pub alone_two : SnapshotsAloneTakeTwoRounds
alone_two before since party hs x h none =
    let ms : List Moment = moments (state_met before) since in
    let ns : List NamedEntry = map (named_entry (state_met before) party) hs in
    let k = snapshot_counted before since party hs x h.snapshot in
    let high = are_short before since party hs x h.snapshot in
    let z = none_again party ms ns none in
    let rounds = rounds_many ns (lens k.0 ns) x.rounds k.2.rounds in
    let some : 1 ≤ length x.rounds = omega (arith, ap length h.rounds, length_push h.earlier h.one) in
    let one : 1 * steps_alone ns ≤ length x.rounds * steps_alone ns = mul-le-mul_right (steps_alone ns) some in
    let last = part_many ns (last_of (lens k.0 ns) x.rounds) (lens k.1 ns) x.gets x.begun (round_length party (named_entry (state_met before) party) hs x.gets h.whole) k.2.part in
    let two : (published_of party ms ns + 2) * steps_alone ns ≡ 2 * steps_alone ns = ap (λ (m : ℕ). (m + 2) * steps_alone ns) none ∙ omega arith in
    omega (arith, high, z, rounds, one, last, two)
