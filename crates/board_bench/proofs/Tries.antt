-- What a pass knows to be reached behind gets of one try.
use Rattle.std.proofs.Common.{◌≡◌, ◌+◌, ◌∙◌, ◌<◌, ◌≤◌, ℕ, List, [], ◌∷◌, ◌++◌, ap, arith, length, length-append}
use Rattle.board_cell.specs.Passes.{ClimbsFrom, GetsWithin, GivesUp, ReaderSeen, last_from}
use Rattle.board_bench.specs.Watchers.{MetUpdate}

climbs_up : (x : ℕ) (ys : List ℕ) → ClimbsFrom x ys → x ≤ last_from x ys
climbs_up x [] climbs = omega arith
climbs_up x (y ∷ ys) climbs = let up = climbs_up y ys climbs.1 in omega (arith, climbs.0, up)

-- an accepted get knows no less to be reached than was known before
pub no_older : (start most g : ℕ) (words : List ℕ) (old new : ReaderSeen) → start ≤ old.reached → GetsWithin most g words old new → start ≤ new.reached
no_older start most g words old new from h =
    let loads = h.gets.loads in
    let up = climbs_up loads.first loads.rest loads.climbs in
    omega (arith, from, loads.begins, up, loads.ends, h.gets.reached)

-- a get of one try loads the counter before the words and behind them
pub loads_of_one : (g : ℕ) (words : List ℕ) (old new : ReaderSeen) → GetsWithin 1 g words old new → length new.loads ≡ length old.loads + 2
loads_of_one g words old new h =
    let all = length-append old.loads (h.gets.loads.first ∷ (h.gets.loads.rest ++ g ∷ [])) in
    let tail = length-append h.gets.loads.rest (g ∷ []) in
    ap length h.gets.loads.gained ∙ omega (arith, all, tail, h.few)

-- the two counters of the one try
once : (first before after : ℕ) (rest : List ℕ) → length rest + 1 ≡ 1 → ClimbsFrom first (rest ++ after ∷ []) → last_from first rest ≡ before → (first ≡ before) × (first < after)
once first before after [] all climbs ends = (ends, climbs.0)
once first before after (r ∷ rest) all climbs ends = absurd (omega (arith, all))

-- a get of one try that wasn't accepted met an update
pub gave_up : (start before after : ℕ) (old new : ReaderSeen) → start ≤ old.reached → GivesUp 1 before after old new → MetUpdate start before after new
gave_up start before after old new from h =
    let two = once h.first before after h.rest h.all h.climbs h.ends in
    record {
      begins = omega (arith, from, h.begins, two.0);
      rose = omega (arith, two.0, two.1);
      last = old;
      gave_up = h;
    }
