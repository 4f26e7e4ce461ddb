-- The opening of a watcher: its ids are asked for one after another, and then its party is watched.
use Rattle.std.proofs.Common.{◌≡◌, ℕ, ◌*◌, ◌<◌, Bool, true, false, List, [], ◌∷◌, ◌++◌, length, arith, refl, sym, ap, subst, ◌∙◌, append_assoc}
use Rattle.std.specs.Prelude.{if◌then◌else◌}
use Rattle.std.specs.List.{flat_map}
use Rattle.std.proofs.lemmas.Bool.{false≢true}
use Rattle.std.proofs.lemmas.List.{append-nil}
use Rattle.std.proofs.lemmas.List.Concat.{flat_map-append}
use Rattle.board_cell_model.specs.declared.access.Access.TheVariants as access
use Rattle.board_model.proofs.ThingLemmas.{same_to_itself}
use Rattle.script_model.specs.ScriptTurns.{ScriptState}
use Rattle.script_model.specs.ScriptSession.{IsLawful, IsRight, Session, after, start}
use Rattle.script_model.specs.LawsOfComposition.{Pair, state_met}
use Rattle.script_model.specs.LawsOfLines.{names}
use Rattle.script_moments.specs.Moments.{Moment, left, moments, own}
use Rattle.script_moments.specs.Watchers.{AreAskedIds, AskedId, moments_of_id}
use Rattle.script_moments.proofs.SessionLemmas.{state_append}
use Rattle.script_snapshots.proofs.AliveLemmas.{IsAlive, IsThere, step_alive}
use Rattle.script_snapshots.proofs.FedLemmas.{fed_lawful, met_more}
use Rattle.script_watches.specs.Watchings.{new_watching}
use Rattle.script_watches.specs.WatchExchanges.{AreToldIds, IsToldId, pairs_of_id, pairs_of_ids}
use Rattle.script_watches.proofs.StandingLemmas.{id_alive}
use Rattle.script_watches.proofs.WatchingLemmas.{IsSound}

-- ---- one id

two_more : (fed : Session) (x : AskedId) → (fed ++ x.begun.pair ∷ []) ++ x.ended.pair ∷ [] ≡ fed ++ pairs_of_id x
two_more fed x = append_assoc fed (x.begun.pair ∷ []) (x.ended.pair ∷ [])

pub id_lawful : (fed : Session) (party h : List ℕ) (x : AskedId) → IsLawful fed → IsToldId fed party h x → IsLawful (fed ++ pairs_of_id x)
id_lawful fed party h x ok t = subst IsLawful (two_more fed x) (fed_lawful (fed ++ x.begun.pair ∷ []) x.ended.pair (fed_lawful fed x.begun.pair ok t.begun_right) t.ended_right)

-- the party isn't gone afterwards
id_there : (fed : Session) (party h : List ℕ) (x : AskedId) → IsToldId fed party h x → IsAlive (fed ++ pairs_of_id x) party
id_there fed party h x t =
    let begun_right : IsRight x.begun.met x.begun.pair.0 x.begun.pair.1 = subst (λ (s : ScriptState). IsRight s x.begun.pair.0 x.begun.pair.1) (sym t.begun_met) t.begun_right in
    let there : IsThere ((left x.begun).boards.parties party) = id_alive x.begun party h t.is.begun begun_right in
    let met : left x.begun ≡ x.ended.met = ap (λ (s : ScriptState). left (record { met = s; pair = x.begun.pair })) t.begun_met ∙ sym (met_more fed x.begun.pair) ∙ sym t.ended_met in
    let ended_right : IsRight x.ended.met x.ended.pair.0 x.ended.pair.1 = subst (λ (s : ScriptState). IsRight s x.ended.pair.0 x.ended.pair.1) (sym t.ended_met) t.ended_right in
    let after : IsThere ((left x.ended).boards.parties party) = step_alive x.ended party access.Table _ t.is.ended ended_right (subst (λ (s : ScriptState). IsThere (s.boards.parties party)) met there) in
    let state : left x.ended ≡ state_met (fed ++ pairs_of_id x) =
    ap (λ (s : ScriptState). left (record { met = s; pair = x.ended.pair })) t.ended_met ∙ sym (met_more (fed ++ x.begun.pair ∷ []) x.ended.pair) ∙ ap state_met (two_more fed x) in
    subst (λ (s : ScriptState). IsThere (s.boards.parties party)) state after

-- its moments are the party's own
both_own : (b c : Bool) (first second : Moment) (rest : List Moment) → b ≡ true → c ≡ true → (if b then first ∷ (if c then second ∷ rest else rest) else (if c then second ∷ rest else rest)) ≡ first ∷ second ∷ rest
both_own true true first second rest e f = refl
both_own true false first second rest e f = absurd (false≢true f)
both_own false c first second rest e f = absurd (false≢true e)

id_own : (party h : List ℕ) (x : AskedId) (fed more : Session) → IsToldId fed party h x → own party (moments (state_met fed) (pairs_of_id x ++ more)) ≡ moments_of_id x ++ own party (moments (state_met (fed ++ pairs_of_id x)) more)
id_own party h x fed more t =
    let begins : names party x.begun.pair.0 ≡ true = ap (λ (p : Pair). names party p.0) t.is.begun ∙ same_to_itself party in
    let ends : names party x.ended.pair.0 ≡ true = ap (λ (p : Pair). names party p.0) t.is.ended ∙ same_to_itself party in
    let s2 : ScriptState = after (state_met fed) x.begun.pair.0 x.begun.pair.1 in
    let s3 : ScriptState = after s2 x.ended.pair.0 x.ended.pair.1 in
    let second : state_met (fed ++ x.begun.pair ∷ []) ≡ s2 = met_more fed x.begun.pair in
    let third : state_met (fed ++ pairs_of_id x) ≡ s3 = state_append fed (pairs_of_id x) start in
    let rest : List Moment = own party (moments s3 more) in
    both_own (names party x.begun.pair.0) (names party x.ended.pair.0) (record { met = state_met fed; pair = x.begun.pair }) (record { met = s2; pair = x.ended.pair }) rest begins ends
    ∙ ap (λ (s : ScriptState). record { met = s; pair = x.begun.pair } ∷ record { met = s2; pair = x.ended.pair } ∷ rest) (sym t.begun_met)
    ∙ ap (λ (s : ScriptState). x.begun ∷ record { met = s; pair = x.ended.pair } ∷ rest) (sym second ∙ sym t.ended_met)
    ∙ ap (λ (s : ScriptState). x.begun ∷ x.ended ∷ own party (moments s more)) (sym third)

-- ---- ids, one after another

pub ids_lawful : (hs : List (List ℕ)) (xs : List AskedId) (fed : Session) (party : List ℕ) → IsLawful fed → AreToldIds fed party hs xs → IsLawful (fed ++ pairs_of_ids xs)
ids_lawful [] [] fed party ok t = subst IsLawful (sym (append-nil fed)) ok
ids_lawful [] (x ∷ xs) fed party ok t = absurd t
ids_lawful (h ∷ hs) [] fed party ok t = absurd t
ids_lawful (h ∷ hs) (x ∷ xs) fed party ok t = subst IsLawful (append_assoc fed (pairs_of_id x) (pairs_of_ids xs)) (ids_lawful hs xs (fed ++ pairs_of_id x) party (id_lawful fed party h x ok t.0) t.1)

ids_there : (hs : List (List ℕ)) (xs : List AskedId) (fed : Session) (party : List ℕ) → IsAlive fed party → AreToldIds fed party hs xs → IsAlive (fed ++ pairs_of_ids xs) party
ids_there [] [] fed party there t = subst (λ (s : Session). IsAlive s party) (sym (append-nil fed)) there
ids_there [] (x ∷ xs) fed party there t = absurd t
ids_there (h ∷ hs) [] fed party there t = absurd t
ids_there (h ∷ hs) (x ∷ xs) fed party there t = subst (λ (s : Session). IsAlive s party) (append_assoc fed (pairs_of_id x) (pairs_of_ids xs)) (ids_there hs xs (fed ++ pairs_of_id x) party (id_there fed party h x t.0) t.1)

-- of at least one handle
some_there : (hs : List (List ℕ)) (xs : List AskedId) (fed : Session) (party : List ℕ) → 0 < length hs → AreToldIds fed party hs xs → IsAlive (fed ++ pairs_of_ids xs) party
some_there [] xs fed party lt t = absurd (omega arith)
some_there (h ∷ hs) [] fed party lt t = absurd t
some_there (h ∷ hs) (x ∷ xs) fed party lt t = subst (λ (s : Session). IsAlive s party) (append_assoc fed (pairs_of_id x) (pairs_of_ids xs)) (ids_there hs xs (fed ++ pairs_of_id x) party (id_there fed party h x t.0) t.1)

ids_own : (hs : List (List ℕ)) (xs : List AskedId) (fed : Session) (party : List ℕ) → AreToldIds fed party hs xs → own party (moments (state_met fed) (pairs_of_ids xs)) ≡ flat_map moments_of_id xs
ids_own [] [] fed party t = refl
ids_own [] (x ∷ xs) fed party t = absurd t
ids_own (h ∷ hs) [] fed party t = absurd t
ids_own (h ∷ hs) (x ∷ xs) fed party t = id_own party h x fed (pairs_of_ids xs) t.0 ∙ ap (λ (ms : List Moment). moments_of_id x ++ ms) (ids_own hs xs (fed ++ pairs_of_id x) party t.1)

ids_asked : (hs : List (List ℕ)) (xs : List AskedId) (fed : Session) (party : List ℕ) → AreToldIds fed party hs xs → AreAskedIds party hs xs
ids_asked [] [] fed party t = tt
ids_asked [] (x ∷ xs) fed party t = absurd t
ids_asked (h ∷ hs) [] fed party t = absurd t
ids_asked (h ∷ hs) (x ∷ xs) fed party t = (t.0.is, ids_asked hs xs (fed ++ pairs_of_id x) party t.1)

-- as many pairs as two for each handle
pub ids_count : (hs : List (List ℕ)) (xs : List AskedId) (fed : Session) (party : List ℕ) → AreToldIds fed party hs xs → length (pairs_of_ids xs) ≡ 2 * length hs
ids_count [] [] fed party t = refl
ids_count [] (x ∷ xs) fed party t = absurd t
ids_count (h ∷ hs) [] fed party t = absurd t
ids_count (h ∷ hs) (x ∷ xs) fed party t = omega (arith, ids_count hs xs (fed ++ pairs_of_id x) party t.1)

-- and one more
pub ids_more : (hs : List (List ℕ)) (xs : List AskedId) (fed : Session) (party h : List ℕ) (x : AskedId) → AreToldIds fed party hs xs → IsToldId (fed ++ pairs_of_ids xs) party h x → AreToldIds fed party (hs ++ h ∷ []) (xs ++ x ∷ [])
ids_more [] [] fed party h x t k = (subst (λ (s : Session). IsToldId s party h x) (append-nil fed) k, tt)
ids_more [] (y ∷ ys) fed party h x t k = absurd t
ids_more (g ∷ hs) [] fed party h x t k = absurd t
ids_more (g ∷ hs) (y ∷ ys) fed party h x t k = (t.0, ids_more hs ys (fed ++ pairs_of_id y) party h x t.1 (subst (λ (s : Session). IsToldId s party h x) (sym (append_assoc fed (pairs_of_id y) (pairs_of_ids ys))) k))

pub pairs_more : (xs : List AskedId) (x : AskedId) → pairs_of_ids (xs ++ x ∷ []) ≡ pairs_of_ids xs ++ pairs_of_id x
pairs_more xs x = flat_map-append pairs_of_id xs (x ∷ [])

-- ---- a watcher that has opened

pub opened_sound : (fed : Session) (party listener : List ℕ) (handles : List (List ℕ)) (asked : List AskedId) → IsLawful fed → 0 < length handles → AreToldIds fed party handles asked → IsSound (fed ++ pairs_of_ids asked) party (new_watching listener handles fed asked)
opened_sound fed party listener handles asked ok some t = record {
  since = pairs_of_ids asked;
  fed_is = refl;
  watcher = record {
    lawful = ids_lawful handles asked fed party ok t;
    own = ids_own handles asked fed party t ∙ sym (append-nil (flat_map moments_of_id asked));
    asked = ids_asked handles asked fed party t;
    turns = tt;
    rest = tt;
  };
  room = tt;
  alive = some_there handles asked fed party some t;
  told = λ handle. refl;
}
