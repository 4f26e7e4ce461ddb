-- How a watcher goes on, line by line.
use Rattle.std.proofs.Common.{◌≡◌, ℕ, true, List, [], ◌∷◌, ◌++◌, arith, refl, sym, ap, subst, ◌∙◌, Some, None, append_assoc}
use Rattle.std.specs.Prelude.{length, slice_get}
use Rattle.std.specs.List.{flat_map}
use Rattle.std.proofs.lemmas.List.{append-nil}
use Rattle.std.proofs.lemmas.List.Concat.{flat_map-append}
use Rattle.board_model.proofs.ThingLemmas.{all_push, same_to_itself}
use Rattle.script_model.specs.ScriptSession.{IsLawful, IsRight, Session}
use Rattle.script_model.specs.LawsOfComposition.{Pair, state_met}
use Rattle.script_model.specs.LawsOfLines.{names}
use Rattle.script_moments.specs.Moments.{Moment, next_moment}
use Rattle.script_moments.specs.Gets.{ended_get, Get, Round, moments_of, moments_of_get}
use Rattle.script_moments.specs.Watchers.{AreAskedIds, AreFirstIds, IsIdBegin, IsIdTold, moments_of_opening, AskedId, IsOpenTurn, IsTurn, IsWaitBegin, IsWatcher, OpenTurn, Turn, WaitGoesOn, Waited, calls, getting, idle, moments_of_id, moments_of_open_turn, moments_of_turn, moments_of_wait, moments_of_watcher, waiting}
use Rattle.script_moments.specs.WatcherLines.{GetsGoOn, OpeningsGoOn, OthersLeaveOpenings, OthersLeaveWatchers, WaitsGoOn, WatchersGoOn, WatchersOpen, watcher_at}
use Rattle.script_moments.proofs.SessionLemmas.{all_lawful, own_more, own_same}
use Rattle.script_moments.proofs.LineLemmas.{part_begins, part_ends, part_goes, part_round}

others_leave : OthersLeaveWatchers
others_leave before since party listener hs x pair h ok off = record {
  lawful = all_lawful before since pair h.lawful ok;
  own = own_same before since party pair (moments_of_watcher x) off h.own;
  asked = h.asked;
  turns = h.turns;
  rest = h.rest;
}

module _ (before since : Session) (party listener : List ℕ) (handles : List (List ℕ)) (asked : List AskedId) (turns : List Turn) where
  -- one own moment more, in the turn that runs
  more : (pair : Pair) (o p : OpenTurn) → IsWatcher before since party listener handles (watcher_at asked turns o) → IsRight (state_met (before ++ since)) pair.0 pair.1 → names party pair.0 ≡ true
      → moments_of_open_turn p ≡ moments_of_open_turn o ++ next_moment before since pair ∷ [] → IsOpenTurn party listener handles asked p → IsWatcher before (since ++ pair ∷ []) party listener handles (watcher_at asked turns p)
  more pair o p h ok on e k =
      let ids : List Moment = flat_map moments_of_id asked in
      let done : List Moment = flat_map moments_of_turn turns in
      let m : Moment = next_moment before since pair in
      record {
        lawful = all_lawful before since pair h.lawful ok;
        own = own_more before since party pair (moments_of_watcher (watcher_at asked turns o)) on h.own
            ∙ append_assoc ids (done ++ moments_of_open_turn o) (m ∷ [])
            ∙ ap (λ (ms : List Moment). ids ++ ms) (append_assoc done (moments_of_open_turn o) (m ∷ []))
            ∙ ap (λ (ms : List Moment). ids ++ (done ++ ms)) (sym e);
        asked = h.asked;
        turns = h.turns;
        rest = k;
      }

  on_begin : (listener : List ℕ) (pair : Pair) → IsWaitBegin party listener (next_moment before since pair) → names party pair.0 ≡ true
  on_begin listener pair b = ap (λ (p : Pair). names party p.0) b ∙ same_to_itself party

  pub waits_go_on : WaitsGoOn before since party listener handles asked turns
  waits_go_on = record {
    begins = λ pair h ok b. more pair idle (waiting (next_moment before since pair) []) h ok (on_begin listener pair b) refl (b, tt);
    goes_on = λ m steps pair h ok k. more pair (waiting m steps) (waiting m (steps ++ next_moment before since pair ∷ [])) h ok (ap (λ (p : Pair). names party p.0) k.is ∙ same_to_itself party) refl (h.rest.0, all_push (WaitGoesOn party) steps (next_moment before since pair) h.rest.1 k);
    ends = λ m steps pair told ids h ok k t.
        let w : Waited = record { begun = m; steps = steps; ended = next_moment before since pair; ids = ids } in
        more pair (waiting m steps) (getting w [] None) h ok (ap (λ (p : Pair). names party p.0) k.is ∙ same_to_itself party) (append-nil (moments_of_wait w)) (record { begun = h.rest.0; steps = h.rest.1; told = told; ended = k; tells = t }, tt);
  }

  module _ (w : Waited) (gets : Round) where
    open_more : (m : Moment) (steps : List Moment) (n : Moment) → moments_of_wait w ++ (moments_of gets ++ m ∷ (steps ++ n ∷ [])) ≡ (moments_of_wait w ++ (moments_of gets ++ m ∷ steps)) ++ n ∷ []
    open_more m steps n = sym (append_assoc (moments_of_wait w) (moments_of gets ++ m ∷ steps) (n ∷ []) ∙ ap (λ (ms : List Moment). moments_of_wait w ++ ms) (append_assoc (moments_of gets) (m ∷ steps) (n ∷ [])))

    pub gets_go_on : GetsGoOn before since party listener handles asked turns w gets
    gets_go_on = record {
      begins = λ handle pair h ok e b.
          let m : Moment = next_moment before since pair in
          let first : moments_of_wait w ++ (moments_of gets ++ m ∷ []) ≡ (moments_of_wait w ++ (moments_of gets ++ [])) ++ m ∷ [] =
          sym (append_assoc (moments_of_wait w) (moments_of gets ++ []) (m ∷ []) ∙ ap (λ (ms : List Moment). moments_of_wait w ++ (ms ++ m ∷ [])) (append-nil (moments_of gets))) in
          more pair (getting w gets None) (getting w gets (Some (m, []))) h ok (ap (λ (p : Pair). names party p.0) b ∙ same_to_itself party) first
          (h.rest.0, part_begins party handle (calls handles asked w.ids) gets (m, []) e (record { begun = b; steps = tt }) h.rest.1);
      goes_on = λ m steps pair h ok k. more pair (getting w gets (Some (m, steps))) (getting w gets (Some (m, steps ++ next_moment before since pair ∷ []))) h ok (ap (λ (p : Pair). names party p.0) k.1 ∙ same_to_itself party) (open_more m steps (next_moment before since pair))
          (h.rest.0, part_goes party (calls handles asked w.ids) gets m (next_moment before since pair) steps k h.rest.1);
      ends = λ m steps pair type words g h ok k.
          let n : Moment = next_moment before since pair in
          let x : Get = ended_get m steps n type words g in
          let one : moments_of (gets ++ x ∷ []) ++ [] ≡ moments_of gets ++ m ∷ (steps ++ n ∷ []) = append-nil (moments_of (gets ++ x ∷ [])) ∙ flat_map-append moments_of_get gets (x ∷ []) ∙ ap (λ (ms : List Moment). moments_of gets ++ ms) (append-nil (moments_of_get x)) in
          more pair (getting w gets (Some (m, steps))) (getting w (gets ++ x ∷ []) None) h ok (ap (λ (p : Pair). names party p.0) k.1 ∙ same_to_itself party)
          (ap (λ (ms : List Moment). moments_of_wait w ++ ms) one ∙ open_more m steps n)
          (h.rest.0, part_ends party (calls handles asked w.ids) gets m steps x refl refl k h.rest.1);
      turn = λ h e.
          let ids : List Moment = flat_map moments_of_id asked in
          let done : List Moment = flat_map moments_of_turn turns in
          let t : Turn = record { wait = w; gets = gets } in
          let all : done ++ (moments_of_wait w ++ (moments_of gets ++ [])) ≡ flat_map moments_of_turn (turns ++ t ∷ []) ++ [] =
          ap (λ (ms : List Moment). done ++ (moments_of_wait w ++ ms)) (append-nil (moments_of gets)) ∙ ap (λ (ms : List Moment). done ++ ms) (sym (append-nil (moments_of_turn t))) ∙ sym (flat_map-append moments_of_turn turns (t ∷ [])) ∙ sym (append-nil (flat_map moments_of_turn (turns ++ t ∷ []))) in
          record {
            lawful = h.lawful;
            own = h.own ∙ ap (λ (ms : List Moment). ids ++ ms) all;
            asked = h.asked;
            turns = all_push (IsTurn party listener handles asked) turns t h.turns (record { wait = h.rest.0; gets = part_round party (calls handles asked w.ids) gets e h.rest.1 });
            rest = tt;
          };
    }

pub watchers_go_on : WatchersGoOn
watchers_go_on = record { others = others_leave; waits = waits_go_on; gets = gets_go_on }

-- ---- the opening

first_begins : (party h : List ℕ) (hs : List (List ℕ)) (asked : List AskedId) (m : Moment) → slice_get hs (length asked) ≡ Some h → IsIdBegin party h m → AreFirstIds party hs asked None → AreFirstIds party hs asked (Some m)
first_begins party h [] [] m e k p = absurd cc
first_begins party h (g ∷ hs) [] m e k p =
    let q : g ≡ h = cc in
    subst (λ (n : List ℕ). IsIdBegin party n m) (sym q) k
first_begins party h [] (x ∷ xs) m e k p = absurd p
first_begins party h (g ∷ hs) (x ∷ xs) m e k p = (p.0, first_begins party h hs xs m e k p.1)

first_ends : (party : List ℕ) (hs : List (List ℕ)) (asked : List AskedId) (m n : Moment) (id : ℕ) → IsIdTold party n id → AreFirstIds party hs asked (Some m) → AreFirstIds party hs (asked ++ record { begun = m; ended = n; id = id } ∷ []) None
first_ends party [] [] m n id k p = absurd p
first_ends party (h ∷ hs) [] m n id k p = (record { begun = p; ended = k }, tt)
first_ends party [] (x ∷ xs) m n id k p = absurd p
first_ends party (h ∷ hs) (x ∷ xs) m n id k p = (p.0, first_ends party hs xs m n id k p.1)

all_asked : (party : List ℕ) (hs : List (List ℕ)) (asked : List AskedId) → length asked ≡ length hs → AreFirstIds party hs asked None → AreAskedIds party hs asked
all_asked party [] [] e p = tt
all_asked party (h ∷ hs) [] e p = absurd (omega arith)
all_asked party [] (x ∷ xs) e p = absurd p
all_asked party (h ∷ hs) (x ∷ xs) e p = (p.0, all_asked party hs xs (omega arith) p.1)

openings_left : OthersLeaveOpenings
openings_left before since party hs x pair h ok off = record {
  lawful = all_lawful before since pair h.lawful ok;
  own = own_same before since party pair (moments_of_opening x) off h.own;
  asked = h.asked;
}

openings_go_on : (before since : Session) (party : List ℕ) (handles : List (List ℕ)) (asked : List AskedId) → OpeningsGoOn before since party handles asked
openings_go_on before since party hs asked = record {
  begins = λ handle pair h ok e b.
      let m : Moment = next_moment before since pair in
      let ids : List Moment = flat_map moments_of_id asked in
      record {
        lawful = all_lawful before since pair h.lawful ok;
        own = own_more before since party pair (ids ++ []) (ap (λ (p : Pair). names party p.0) b ∙ same_to_itself party) h.own ∙ append_assoc ids [] (m ∷ []);
        asked = first_begins party handle hs asked m e b h.asked;
      };
  ends = λ m pair id h ok t.
      let n : Moment = next_moment before since pair in
      let ids : List Moment = flat_map moments_of_id asked in
      let x : AskedId = record { begun = m; ended = n; id = id } in
      record {
        lawful = all_lawful before since pair h.lawful ok;
        own = own_more before since party pair (ids ++ m ∷ []) (ap (λ (p : Pair). names party p.0) t ∙ same_to_itself party) h.own
            ∙ append_assoc ids (m ∷ []) (n ∷ [])
            ∙ sym (append-nil (flat_map moments_of_id (asked ++ x ∷ [])) ∙ flat_map-append moments_of_id asked (x ∷ []));
        asked = first_ends party hs asked m n id t h.asked;
      };
  opened = λ listener h e. record { lawful = h.lawful; own = h.own; asked = all_asked party hs asked e h.asked; turns = tt; rest = tt };
}

pub watchers_open : WatchersOpen
watchers_open = record {
  start = λ before party handles ok. record { lawful = subst IsLawful (sym (append-nil before)) ok; own = refl; asked = tt };
  others = openings_left;
  ids = openings_go_on;
}
