-- How many steps a get takes, by how far its list grew.
use Rattle.std.proofs.Common.{◌≡◌, ℕ, ◌+◌, ◌-◌, ◌*◌, ◌≤◌, Bool, true, false, cond, List, [], ◌∷◌, ◌++◌, length, arith, refl, sym, ap, subst, ◌∙◌, Option, Some, None}
use Rattle.std.specs.Prelude.{◌==◌, if◌then◌else◌}
use Rattle.std.specs.Str.{bytes_eq}
use Rattle.std.proofs.lemmas.Bool.{eqb-false, eqb-true}
use Rattle.std.proofs.lemmas.List.{length_push}
use Rattle.std.proofs.Math.Nat.{mul-le-mul_right}
use Rattle.board_layout.specs.declared.shape.CellShape.{CellShape}
use Rattle.board_cell_model.specs.declared.access.Access.{Access}
use Rattle.board_cell_model.specs.declared.access.Access.TheVariants as access
use Rattle.board_cell_model.specs.OwedAccesses.{Reading, current_at, finished, hear, heard, is_finished, opening, owed_of, owed_read, to_read, trying}
use Rattle.board_model.specs.declared.answer.Answer.{Answer}
use Rattle.board_model.specs.declared.line.Line.{Line}
use Rattle.board_model.specs.Requests.{Fetch, Request, fill, fresh, get, publish, put, request_of, table, update}
use Rattle.board_model.specs.Parties.{Party, Running, begun, free, gone, is_done, notice, owed, reading, running, with_party}
use Rattle.board_model.specs.LawfulSession.{IsLawfulFrom, IsRight, Session, State, after, start, state_after}
use Rattle.board_model.specs.Sound.{IsCell, IsReading, Sound}
use Rattle.board_model.specs.LawsOfCounts.{FirstCountersAreLengths, GetsAreShortByGrowth, first_counter}
use Rattle.board_model.proofs.GetLemmas.{IsRead, is_counter, reading_push}
use Rattle.board_model.proofs.RunningLemmas.{get_ended, get_read, own_cell, runs}
use Rattle.board_model.proofs.LineCases.{IsStepOf, after_cases}
use Rattle.board_model.proofs.SoundLemmas.{sound_after, sound_start}
use Rattle.board_model.proofs.CountLaws.{finished_is}

-- ---- after n steps a get has tried again only where the list had grown

abbrev IsSlow : ℕ → ℕ → ℕ → Reading → Type 0
IsSlow w low n opening = n ≡ 0
IsSlow w low n (trying c ws) = (low ≤ c) × (n ≤ 1 + (c - low) * (w + 1) + length ws)
IsSlow w low n (finished c ws) = ⊥

opens_slow : (w low n v : ℕ) → n ≡ 0 → low ≡ v → IsSlow w low (n + 1) (trying v [])
opens_slow w low n v z e = (omega arith, omega arith)

again_slow : (w low n v c len : ℕ) (ws : List ℕ) → v ≡ len → c ≤ len → (v ≡ c → ⊥) → length ws ≡ w → low ≤ c → n ≤ 1 + (c - low) * (w + 1) + length ws → IsSlow w low (n + 1) (trying v [])
again_slow w low n v c len ws e below ne full le most =
    let l : (c - low + 1) * (w + 1) ≤ (v - low) * (w + 1) = mul-le-mul_right (w + 1) (omega arith) in
    (omega arith, omega (arith, l))

more_slow : (w low n v c : ℕ) (ws : List ℕ) → low ≤ c → n ≤ 1 + (c - low) * (w + 1) + length ws → IsSlow w low (n + 1) (trying c (ws ++ v ∷ []))
more_slow w low n v c ws le most = (le, omega (arith, length_push ws v))

-- one word more
slow_on : (words : List ℕ) (c : CellShape) (list : List (List ℕ)) (low n p v : ℕ) (r : Reading) → IsCell words c list → IsReading list c.words n p r → IsRead words c r v → is_finished (hear c.words r v) ≡ false → (n ≡ 0 → low ≡ v) → IsSlow c.words low n r
    → IsSlow c.words low (n + 1) (hear c.words r v)
slow_on words c list low n p v opening cell h rd f le k = opens_slow c.words low n v k (le k)
slow_on words c list low n p v (trying counter ws) cell h rd f le k = at (length ws == c.words) (λ q. eqb-true (length ws) c.words q) rd.next f
  where
    shut : (b : Bool) → (b ≡ false → v ≡ counter → ⊥) → is_finished (cond b (finished counter ws) (trying v [])) ≡ false → v ≡ length list → length ws ≡ c.words → IsSlow c.words low (n + 1) (cond b (finished counter ws) (trying v []))
    shut true ne f' e full = absurd cc
    shut false ne f' e full = again_slow c.words low n v counter (length list) ws e h.below (ne refl) full k.0 k.1

    at : (b : Bool) → (b ≡ true → length ws ≡ c.words)
        → to_read rd.board rd.i ≡ to_read rd.of (if b then c.first else current_at c counter + length ws)
        → is_finished (if b then (if v == counter then finished counter ws else trying v []) else trying counter (ws ++ v ∷ [])) ≡ false
        → IsSlow c.words low (n + 1) (if b then (if v == counter then finished counter ws else trying v []) else trying counter (ws ++ v ∷ []))
    at true t nx f' =
        let i : rd.i ≡ c.first = cc (nx) in
        shut (v == counter) (eqb-false v counter) f' (is_counter words c list v rd.i cell i rd.word) (t refl)
    at false t nx f' = more_slow c.words low n v counter ws k.0 k.1
slow_on words c list low n p v (finished counter ws) cell h rd f le k = absurd k

-- the last word
slow_end : (w low n v : ℕ) (r : Reading) (c : ℕ) (ws : List ℕ) → hear w r v ≡ finished c ws → IsSlow w low n r → (low ≤ c) × (n ≤ 1 + (c - low) * (w + 1) + length ws)
slow_end w low n v opening c ws e k = absurd cc
slow_end w low n v (trying counter vs) c ws e k = at (length vs == w) (v == counter) e
  where
    at : (b d : Bool) → (if b then (if d then finished counter vs else trying v []) else trying counter (vs ++ v ∷ [])) ≡ finished c ws → (low ≤ c) × (n ≤ 1 + (c - low) * (w + 1) + length ws)
    at true true q =
        let x : counter ≡ c = cc in
        let y : vs ≡ ws = cc in
        (omega (arith, x, k.0), subst (λ (z : List ℕ). n ≤ 1 + (c - low) * (w + 1) + length z) y (subst (λ (z : ℕ). n ≤ 1 + (z - low) * (w + 1) + length vs) x k.1))
    at true false q = absurd cc
    at false d q = absurd cc
slow_end w low n v (finished counter vs) c ws e k = absurd k

-- ---- running calls

-- the counter that was read first, or any where none was
abbrev low_of : List Access → ℕ
low_of [] = 0
low_of (a ∷ more) = heard a

low_stays : (xs : List Access) (a : Access) → (length xs ≡ 0 → ⊥) → low_of (xs ++ a ∷ []) ≡ low_of xs
low_stays [] a some = absurd (some refl)
low_stays (x ∷ xs) a some = refl

low_new : (xs : List Access) (a : Access) → length xs ≡ 0 → low_of (xs ++ a ∷ []) ≡ heard a
low_new [] a none = refl
low_new (x ∷ xs) a none = absurd (omega arith)

abbrev IsSlowCall : List Access → Request → Type 0
IsSlowCall so_far (table c) = Unit {0}
IsSlowCall so_far (get f) = IsSlow f.shape.words (low_of so_far) (length so_far) (reading f.shape.words so_far)
IsSlowCall so_far (fresh l) = Unit {0}
IsSlowCall so_far (update u) = Unit {0}
IsSlowCall so_far (put l i w) = Unit {0}
IsSlowCall so_far (publish l) = Unit {0}
IsSlowCall so_far (fill l v) = Unit {0}

abbrev IsSlowParty : Party → Type 0
IsSlowParty free = Unit {0}
IsSlowParty (running r) = IsSlowCall r.so_far r.request
IsSlowParty gone = Unit {0}

abbrev AreSlow : State → Type 0
AreSlow s = (p : List ℕ) → IsSlowParty (s.parties p)

slow_with : (ps : List ℕ → Party) (p party : List ℕ) (x : Party) → IsSlowParty x → IsSlowParty (ps party) → IsSlowParty (with_party ps p x party)
slow_with ps p party x h k = at (bytes_eq party p)
  where
    at : (z : Bool) → IsSlowParty (cond z x (ps party))
    at true = h
    at false = k

slow_new : (q : Request) → IsSlowCall [] q
slow_new (table c) = tt
slow_new (get f) = refl
slow_new (fresh l) = tt
slow_new (update u) = tt
slow_new (put l i w) = tt
slow_new (publish l) = tt
slow_new (fill l v) = tt

slow_begun : (q : Option Request) → IsSlowParty (begun q)
slow_begun None = tt
slow_begun (Some q) = slow_new q

slow_noticed : (a : Access) (x : Party) → IsSlowParty x → IsSlowParty (notice a x)
slow_noticed access.Table x h = h
slow_noticed (access.Read b w v) x h = h
slow_noticed (access.Write b w v) free h = tt
slow_noticed (access.Write b w v) (running q) h = h
slow_noticed (access.Write b w v) gone h = tt

-- a step that goes on, of a get
slow_get : (s : State) (party : List ℕ) (r : Running) (a : Access) (f : Fetch) → Sound s → s.parties party ≡ running r → r.request ≡ get f → IsStepOf s party r a None → IsSlowCall r.so_far (get f) → IsSlowCall (r.so_far ++ a ∷ []) (get f)
slow_get s party r a f sound run rq st h =
    let g = runs s party r (get f) sound run rq in
    let next : owed_of a ≡ owed_read f.board f.shape (reading f.shape.words r.so_far) = st.next ∙ ap (λ (q : Request). owed q r.so_far) rq in
    let x = get_read s f r.so_far a next st.word in
    let hears : reading f.shape.words (r.so_far ++ a ∷ []) ≡ hear f.shape.words (reading f.shape.words r.so_far) x.v = reading_push f.shape.words r.so_far a ∙ ap (hear f.shape.words (reading f.shape.words r.so_far)) x.heard in
    let last : is_finished (reading f.shape.words (r.so_far ++ a ∷ [])) ≡ false = ap (λ (q : Request). is_done q (r.so_far ++ a ∷ [])) (sym rq) ∙ sym st.reply.last in
    let open_still : is_finished (hear f.shape.words (reading f.shape.words r.so_far) x.v) ≡ false = ap is_finished (sym hears) ∙ last in
    let cell = own_cell s sound f.board f.entry f.shape g.place in
    let low : ℕ = low_of (r.so_far ++ a ∷ []) in
    let start_low : length r.so_far ≡ 0 → low ≡ x.v = λ z. low_new r.so_far a z ∙ x.heard in
    let before : IsSlow f.shape.words low (length r.so_far) (reading f.shape.words r.so_far) = keeps r.so_far refl in
    let on = slow_on (s.memory f.board) f.shape (s.published f.board f.entry) low (length r.so_far) r.passed x.v (reading f.shape.words r.so_far) cell g.try x.read open_still start_low before in
    subst (λ (n : ℕ). IsSlow f.shape.words low n (reading f.shape.words (r.so_far ++ a ∷ []))) (sym (length_push r.so_far a)) (subst (IsSlow f.shape.words low (length r.so_far + 1)) (sym hears) on)
  where
    keeps : (xs : List Access) → r.so_far ≡ xs → IsSlow f.shape.words (low_of (r.so_far ++ a ∷ [])) (length r.so_far) (reading f.shape.words r.so_far)
    keeps [] e = subst (λ (ys : List Access). IsSlow f.shape.words (low_of (ys ++ a ∷ [])) (length ys) (reading f.shape.words ys)) (sym e) refl
    keeps (y ∷ ys) e = subst (λ (zs : List Access). IsSlow f.shape.words (low_of (zs ++ a ∷ [])) (length zs) (reading f.shape.words zs)) (sym e) (subst (λ (zs : List Access). IsSlowCall zs (get f)) e h)

slow_step : (s : State) (party : List ℕ) (r : Running) (a : Access) → Sound s → s.parties party ≡ running r → IsStepOf s party r a None → (q : Request) → r.request ≡ q → IsSlowCall r.so_far q → IsSlowCall (r.so_far ++ a ∷ []) q
slow_step s party r a sound run st (table c) rq h = tt
slow_step s party r a sound run st (get f) rq h = slow_get s party r a f sound run rq st h
slow_step s party r a sound run st (fresh l) rq h = tt
slow_step s party r a sound run st (update u) rq h = tt
slow_step s party r a sound run st (put l i w) rq h = tt
slow_step s party r a sound run st (publish l) rq h = tt
slow_step s party r a sound run st (fill l v) rq h = tt

slow_after : (s : State) (l : Line) (a : Answer) → Sound s → IsRight s l a → AreSlow s → AreSlow (after s l a)
slow_after s l a sound h k = after_cases AreSlow s l a h k
    (λ party c _ _ p. slow_with s.parties party p (begun (request_of s.standing s.published party c)) (slow_begun (request_of s.standing s.published party c)) (k p))
    (λ party p. slow_with s.parties party p gone tt (k p))
    (λ party name _. k)
    (λ party r x run st p. slow_with (λ q. notice x (s.parties q)) party p (running (record r { so_far = r.so_far ++ x ∷ [] }))
    (slow_step s party r x sound run st r.request refl (subst IsSlowParty run (k party))) (slow_noticed x (s.parties p) (k p)))
    (λ party r x t _ _ p. slow_with (λ q. notice x (s.parties q)) party p free tt (slow_noticed x (s.parties p) (k p)))

slow_session : (pairs : Session) (s : State) → Sound s → IsLawfulFrom s pairs → AreSlow s → AreSlow (state_after s pairs)
slow_session [] s sound h k = k
slow_session (x ∷ xs) s sound h k = slow_session xs (after s x.0 x.1) (sound_after s x.0 x.1 h.0 sound) h.1 (slow_after s x.0 x.1 sound h.0 k)

-- ---- the laws

first_is : (xs : List Access) (a : Access) → length xs ≡ 0 → first_counter (xs ++ a ∷ []) ≡ Some (heard a)
first_is [] a e = refl
first_is (x ∷ xs) a e = absurd (omega arith)

opens_at : (words : List ℕ) (c : CellShape) (list : List (List ℕ)) (n p v : ℕ) (r : Reading) → IsCell words c list → IsReading list c.words n p r → IsRead words c r v → n ≡ 0 → v ≡ length list
opens_at words c list n p v opening cell h rd z = let i : rd.i ≡ c.first = cc (rd.next) in is_counter words c list v rd.i cell i rd.word
opens_at words c list n p v (trying counter ws) cell h rd z = absurd (omega (arith, h.least))
opens_at words c list n p v (finished counter ws) cell h rd z = absurd h

pub first_counters : FirstCountersAreLengths
first_counters s party r a f t rq z =
    let g = runs s party r (get f) t.sound t.runs rq in
    let x = get_read s f r.so_far a (t.next ∙ ap (λ (q : Request). owed q r.so_far) rq) t.word in
    let v = opens_at (s.memory f.board) f.shape (s.published f.board f.entry) (length r.so_far) r.passed x.v (reading f.shape.words r.so_far) (own_cell s t.sound f.board f.entry f.shape g.place) g.try x.read z in
    first_is r.so_far a z ∙ ap (λ (n : ℕ). Some n) (x.heard ∙ v)

some_number : (m n : ℕ) → Some m ≡ Some n → m ≡ n
some_number m n e = cc

low_is : (xs : List Access) (a : Access) (low : ℕ) → (length xs ≡ 0 → ⊥) → first_counter (xs ++ a ∷ []) ≡ Some low → low_of xs ≡ low
low_is [] a low some e = absurd (some refl)
low_is (x ∷ xs) a low some e = some_number (heard x) low e

pub short_by_growth : GetsAreShortByGrowth
short_by_growth pairs party r a f low lawful h rq first =
    let s : State = state_after start pairs in
    let done : is_finished (reading f.shape.words (r.so_far ++ a ∷ [])) ≡ true = ap (λ (q : Request). is_done q (r.so_far ++ a ∷ [])) (sym rq) ∙ h.done in
    let end = finished_is (reading f.shape.words (r.so_far ++ a ∷ [])) done in
    let ended = get_ended s party r a f end.0 end.1 h.takes rq end.2 in
    let heard_end : hear f.shape.words (reading f.shape.words r.so_far) (heard a) ≡ finished end.0 end.1 = sym (reading_push f.shape.words r.so_far a) ∙ end.2 in
    let slow : IsSlow f.shape.words (low_of r.so_far) (length r.so_far) (reading f.shape.words r.so_far) =
    subst (IsSlowCall r.so_far) rq (subst IsSlowParty h.takes.runs (slow_session pairs start sound_start lawful (λ p. tt) party)) in
    let some : (length r.so_far ≡ 0 → ⊥) = λ z. omega (arith, ended.tried.least, z) in
    let least = ended.tried.least in
    let k = slow_end f.shape.words (low_of r.so_far) (length r.so_far) (heard a) (reading f.shape.words r.so_far) end.0 end.1 heard_end slow in
    let is : low_of r.so_far ≡ low = low_is r.so_far a low some first in
    let most : length r.so_far ≤ 1 + (length (s.published f.board f.entry) - low) * (f.shape.words + 1) + length end.1 =
    subst (λ (c : ℕ). length r.so_far ≤ 1 + (c - low) * (f.shape.words + 1) + length end.1) ended.counter (subst (λ (m : ℕ). length r.so_far ≤ 1 + (end.0 - m) * (f.shape.words + 1) + length end.1) is k.1) in
    record {
      grown = omega (arith, k.0, is, ended.counter);
      least = omega (arith, length_push r.so_far a, ended.tried.least, ended.full);
      most = omega (arith, length_push r.so_far a, most, ended.full);
    }
