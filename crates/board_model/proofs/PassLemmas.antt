-- The writes that a running get has passed.
use Rattle.std.proofs.Common.{◌≡◌, ℕ, ◌+◌, ◌<◌, Bool, true, false, cond, List, [], ◌∷◌, ◌++◌, length, arith, refl, sym, ap, subst, ◌∙◌, Option, Some, None}
use Rattle.std.specs.Prelude.{◌==◌, ◌&&◌, not, if◌then◌else◌}
use Rattle.std.specs.Str.{bytes_eq}
use Rattle.std.proofs.lemmas.Bool.{eq-eqb, ne_eqb, or_parts}
use Rattle.std.proofs.lemmas.List.{length_push}
use Rattle.std.proofs.lemmas.Slice.Eq.{bytes_eq-Decides}
use Rattle.board_cell_model.specs.declared.access.Access.{Access}
use Rattle.board_cell_model.specs.declared.access.Access.TheVariants as access
use Rattle.board_model.specs.declared.answer.Answer.{Answer}
use Rattle.board_model.specs.declared.answer.Answer.TheVariants as answer
use Rattle.board_model.specs.declared.answer.Reason.TheVariants as reason
use Rattle.board_model.specs.declared.answer.Reply.{Reply}
use Rattle.board_model.specs.declared.answer.Reply.TheVariants as reply
use Rattle.board_model.specs.declared.line.Line.{Line}
use Rattle.board_model.specs.declared.line.Line.TheVariants as line
use Rattle.board_model.specs.Requests.{Fetch, Request, get, request_of}
use Rattle.board_model.specs.Parties.{Party, Running, begun, count_write, free, gone, is_counter_of, notice, owed, reading, running, with_party}
use Rattle.board_model.specs.LawfulSession.{IsLawfulFrom, IsReasoned, IsRight, Session, State, after, after_step, reason_of, start, state_after, step_reason, stepped}
use Rattle.board_model.specs.LawsOfCounts.{NothingIsPassedAtFirst, PassedWritesArePrinted, begins, begins_in, is_write_to, writes_in}
use Rattle.board_model.proofs.ListLemmas.{same_bytes}
use Rattle.board_model.proofs.RunningLemmas.{owed_read_is, read_is, read_word}
use Rattle.board_model.proofs.LineCases.{IsStepOf, accepted, after_cases, step_of}

-- the party runs the get, and has passed n writes; or it runs nothing
abbrev IsOn : Fetch → ℕ → Party → Type 0
IsOn f n free = Unit {0}
IsOn f n (running q) = (q.request ≡ get f) × (0 < length q.so_far) × (q.passed ≡ n)
IsOn f n gone = Unit {0}

self : (p : List ℕ) → bytes_eq p p ≡ true
self p = (bytes_eq-Decides p p).1 refl

abbrev counted : Fetch → Answer → ℕ
counted f a = if is_write_to f.board f.shape.first a then 1 else 0

-- what another party's access does to it
noticed : (f : Fetch) (n : ℕ) (a : Access) (told : Option Reply) (x : Party) → IsOn f n x → IsOn f (n + counted f (answer.Step a told)) (notice a x)
noticed f n access.Table told free h = tt
noticed f n access.Table told gone h = tt
noticed f n access.Table told (running q) h = (h.0, h.1, omega (arith, h.2))
noticed f n (access.Read b w v) told free h = tt
noticed f n (access.Read b w v) told gone h = tt
noticed f n (access.Read b w v) told (running q) h = (h.0, h.1, omega (arith, h.2))
noticed f n (access.Write b w v) told free h = tt
noticed f n (access.Write b w v) told gone h = tt
noticed f n (access.Write b w v) told (running q) h =
    let z : (length q.so_far == 0) ≡ false = ne_eqb (length q.so_far) 0 (λ e. absurd (omega (arith, h.1))) in
    let c : is_counter_of q.request b w ≡ ((f.board == b) && (f.shape.first == w)) = ap (λ (y : Request). is_counter_of y b w) h.0 in
    let d : count_write q b w ≡ cond (((f.board == b) && (f.shape.first == w)) && true) (q.passed + 1) q.passed = ap (λ (y : Bool). cond (y && not (length q.so_far == 0)) (q.passed + 1) q.passed) c ∙ ap (λ (y : Bool). cond (((f.board == b) && (f.shape.first == w)) && not y) (q.passed + 1) q.passed) z in
    (h.0, h.1, d ∙ at ((f.board == b) && (f.shape.first == w)))
  where
    at : (y : Bool) → cond (y && true) (q.passed + 1) q.passed ≡ n + cond y 1 0
    at true = omega (arith, h.2)
    at false = omega (arith, h.2)

-- its own access is a read
own_read : (s : State) (p : List ℕ) (f : Fetch) (r : Running) (a : Access) (told : Option Reply) → r.request ≡ get f → IsStepOf s p r a told → is_write_to f.board f.shape.first (answer.Step a told) ≡ false
own_read s p f r a told rq st =
    let o = st.next ∙ ap (λ (q : Request). owed q r.so_far) rq ∙ owed_read_is f.board f.shape (reading f.shape.words r.so_far) in
    let x = read_is a f.board (read_word f.shape (reading f.shape.words r.so_far)) o in
    ap (λ (y : Access). is_write_to f.board f.shape.first (answer.Step y told)) x.1

own_step : (s : State) (p : List ℕ) (f : Fetch) (n : ℕ) (r : Running) (a : Access) (told : Option Reply) → IsOn f n (running r) → IsStepOf s p r a told → IsOn f (n + counted f (answer.Step a told)) ((stepped s p r a told).parties p)
own_step s p f n r a None h st =
    let w : ◌≡◌ {A = ℕ} (counted f (answer.Step a None)) 0 = ap (λ (y : Bool). if y then 1 else 0) (own_read s p f r a None h.0 st) in
    let e : bytes_eq p p ≡ true = self p in
    subst (λ (z : Bool). IsOn f (n + counted f (answer.Step a None)) (cond z (running (record r { so_far = r.so_far ++ a ∷ [] })) (notice a (s.parties p)))) (sym e)
    (h.0, omega (arith, length_push r.so_far a), omega (arith, h.2, w))
own_step s p f n r a (Some t) h st =
    let e : bytes_eq p p ≡ true = self p in
    subst (λ (z : Bool). IsOn f (n + counted f (answer.Step a (Some t))) (cond z free (notice a (s.parties p)))) (sym e) tt

-- a step of one party, as another one, or the same, sees it
step_on : (s : State) (p party : List ℕ) (f : Fetch) (n : ℕ) (x : Party) → s.parties p ≡ x → (a : Access) (told : Option Reply) → IsRight s (line.Step p) (answer.Step a told)
    → IsOn f n (s.parties party) → IsOn f (n + counted f (answer.Step a told)) ((after_step s p x a told).parties party)
step_on s p party f n free e a told h k =
    let q : answer.Step a told ≡ answer.Refused reason.Idle = subst (λ (y : Party). IsReasoned (step_reason y) (answer.Step a told)) e h.reason in
    absurd cc
step_on s p party f n gone e a told h k =
    let q : answer.Step a told ≡ answer.Refused reason.Abandoned = subst (λ (y : Party). IsReasoned (step_reason y) (answer.Step a told)) e h.reason in
    absurd cc
step_on s p party f n (running r) e a told h k = at told (step_of s p r a told e h) (bytes_eq party p) refl (same_bytes party p)
  where
    at : (told : Option Reply) → IsStepOf s p r a told → (z : Bool) → bytes_eq party p ≡ z → (z ≡ true → party ≡ p) → IsOn f (n + counted f (answer.Step a told)) ((stepped s p r a told).parties party)
    at told st true t q =
        let i : party ≡ p = q refl in
        let k' : IsOn f n (running r) = subst (λ (y : Party). IsOn f n y) e (subst (λ (y : List ℕ). IsOn f n (s.parties y)) i k) in
        subst (λ (y : List ℕ). IsOn f (n + counted f (answer.Step a told)) ((stepped s p r a told).parties y)) (sym i) (own_step s p f n r a told k' st)
    at None st false t q = subst (λ (z : Bool). IsOn f (n + counted f (answer.Step a None)) (cond z (running (record r { so_far = r.so_far ++ a ∷ [] })) (notice a (s.parties party)))) (sym t) (noticed f n a None (s.parties party) k)
    at (Some x) st false t q = subst (λ (z : Bool). IsOn f (n + counted f (answer.Step a (Some x))) (cond z free (notice a (s.parties party)))) (sym t) (noticed f n a (Some x) (s.parties party) k)

with_on : (f : Fetch) (n : ℕ) (ps : List ℕ → Party) (p party : List ℕ) (x : Party) → (bytes_eq party p ≡ true → IsOn f n x) → IsOn f n (ps party) → IsOn f n (with_party ps p x party)
with_on f n ps p party x h k = at (bytes_eq party p) h
  where
    at : (z : Bool) → (z ≡ true → IsOn f n x) → IsOn f n (cond z x (ps party))
    at true i = i refl
    at false i = k

same_on : (f : Fetch) (n : ℕ) (x : Party) → IsOn f n x → IsOn f (n + 0) x
same_on f n free h = tt
same_on f n gone h = tt
same_on f n (running q) h = (h.0, h.1, omega (arith, h.2))

abbrev IsOnAfter : Fetch → ℕ → State → Line → Answer → List ℕ → Type 0
IsOnAfter f n s l a party = IsOn f (n + counted f a) ((after s l a).parties party)

line_on : (s : State) (l : Line) (a : Answer) (party : List ℕ) (f : Fetch) (n : ℕ) → IsRight s l a → begins party l a ≡ false → IsOn f n (s.parties party) → IsOnAfter f n s l a party
line_on s (line.Begin p c) answer.Begun party f n r b k = with_on f (n + 0) s.parties p party (begun (request_of s.standing s.published p c)) (λ t. absurd (cc (b, t))) (same_on f n (s.parties party) k)
line_on s (line.Begin p c) (answer.Refused why) party f n r b k = same_on f n (s.parties party) k
line_on s (line.Begin p c) (answer.Step a told) party f n r b k = absurd (cc (r.owed (accepted (reason_of s (line.Begin p c)) (answer.Step a told) refl r.reason)))
line_on s (line.Begin p c) answer.Gone party f n r b k = same_on f n (s.parties party) k
line_on s (line.Begin p c) (answer.Words ws) party f n r b k = same_on f n (s.parties party) k
line_on s (line.Step p) answer.Begun party f n r b k = same_on f n (s.parties party) k
line_on s (line.Step p) (answer.Refused why) party f n r b k = same_on f n (s.parties party) k
line_on s (line.Step p) (answer.Step a told) party f n r b k = step_on s p party f n (s.parties p) refl a told r k
line_on s (line.Step p) answer.Gone party f n r b k = same_on f n (s.parties party) k
line_on s (line.Step p) (answer.Words ws) party f n r b k = same_on f n (s.parties party) k
line_on s (line.Release p t) answer.Begun party f n r b k = same_on f n (s.parties party) k
line_on s (line.Release p t) (answer.Refused why) party f n r b k = same_on f n (s.parties party) k
line_on s (line.Release p t) (answer.Step a told) party f n r b k =
    let e : answer.Step a told ≡ answer.Step access.Table (Some reply.Done) = r.owed (accepted (reason_of s (line.Release p t)) (answer.Step a told) refl r.reason) in
    subst (λ (y : Answer). IsOn f (n + counted f y) (s.parties party)) (sym e) (same_on f n (s.parties party) k)
line_on s (line.Release p t) answer.Gone party f n r b k = same_on f n (s.parties party) k
line_on s (line.Release p t) (answer.Words ws) party f n r b k = same_on f n (s.parties party) k
line_on s (line.Abandon p) answer.Begun party f n r b k = same_on f n (s.parties party) k
line_on s (line.Abandon p) (answer.Refused why) party f n r b k = same_on f n (s.parties party) k
line_on s (line.Abandon p) (answer.Step a told) party f n r b k = absurd (cc (r.owed (accepted (reason_of s (line.Abandon p)) (answer.Step a told) refl r.reason)))
line_on s (line.Abandon p) answer.Gone party f n r b k = with_on f (n + 0) s.parties p party gone (λ _. tt) (same_on f n (s.parties party) k)
line_on s (line.Abandon p) (answer.Words ws) party f n r b k = same_on f n (s.parties party) k
line_on s (line.Words m) answer.Begun party f n r b k = same_on f n (s.parties party) k
line_on s (line.Words m) (answer.Refused why) party f n r b k = same_on f n (s.parties party) k
line_on s (line.Words m) (answer.Step a told) party f n r b k = absurd (r.owed (accepted (reason_of s (line.Words m)) (answer.Step a told) refl r.reason))
line_on s (line.Words m) answer.Gone party f n r b k = same_on f n (s.parties party) k
line_on s (line.Words m) (answer.Words ws) party f n r b k = same_on f n (s.parties party) k

on_session : (pairs : Session) (s : State) (party : List ℕ) (f : Fetch) (n : ℕ) → IsLawfulFrom s pairs → begins_in party pairs ≡ false → IsOn f n (s.parties party) → IsOn f (n + writes_in pairs f.board f.shape.first) ((state_after s pairs).parties party)
on_session [] s party f n h b k = same_on f n (s.parties party) k
on_session (x ∷ xs) s party f n h b k =
    let c = or_parts (begins party x.0 x.1) (begins_in party xs) b in
    let w : ℕ = counted f x.1 in
    let o = line_on s x.0 x.1 party f n h.0 c.0 k in
    subst (λ (m : ℕ). IsOn f m ((state_after (after s x.0 x.1) xs).parties party)) (omega arith) (on_session xs (after s x.0 x.1) party f (n + w) h.1 c.1 o)

pub passed : PassedWritesArePrinted
passed s xs party r q f h run rq n b run2 =
    let k : IsOn f r.passed (s.parties party) = subst (λ (x : Party). IsOn f r.passed x) (sym run) (rq, n, refl) in
    let o : IsOn f (r.passed + writes_in xs f.board f.shape.first) (running q) = subst (λ (x : Party). IsOn f (r.passed + writes_in xs f.board f.shape.first) x) run2 (on_session xs s party f r.passed h b k) in
    o.2

-- ---- before the first step

-- a call that has taken no access has passed nothing
abbrev IsFirst : Party → Type 0
IsFirst free = Unit {0}
IsFirst (running r) = length r.so_far ≡ 0 → r.passed ≡ 0
IsFirst gone = Unit {0}

abbrev AreFirst : State → Type 0
AreFirst s = (p : List ℕ) → IsFirst (s.parties p)

first_with : (ps : List ℕ → Party) (p party : List ℕ) (x : Party) → IsFirst x → IsFirst (ps party) → IsFirst (with_party ps p x party)
first_with ps p party x h k = at (bytes_eq party p)
  where
    at : (z : Bool) → IsFirst (cond z x (ps party))
    at true = h
    at false = k

first_begun : (q : Option Request) → IsFirst (begun q)
first_begun None = tt
first_begun (Some q) = λ e. refl

first_noticed : (a : Access) (x : Party) → IsFirst x → IsFirst (notice a x)
first_noticed access.Table free h = tt
first_noticed access.Table (running q) h = h
first_noticed access.Table gone h = tt
first_noticed (access.Read b w v) free h = tt
first_noticed (access.Read b w v) (running q) h = h
first_noticed (access.Read b w v) gone h = tt
first_noticed (access.Write b w v) free h = tt
first_noticed (access.Write b w v) gone h = tt
first_noticed (access.Write b w v) (running q) h = λ e. at (is_counter_of q.request b w) (length q.so_far == 0) (eq-eqb (length q.so_far) 0 e) (h e)
  where
    at : (y z : Bool) → z ≡ true → q.passed ≡ 0 → cond (y && not z) (q.passed + 1) q.passed ≡ 0
    at true true e k = k
    at true false e k = absurd cc
    at false z e k = k

first_stepped : (a : Access) (so_far : List Access) (r : Running) → IsFirst (running (record r { so_far = so_far ++ a ∷ [] }))
first_stepped a so_far r = λ e. absurd (omega (arith, length_push so_far a, e))

first_after : (s : State) (l : Line) (a : Answer) → IsRight s l a → AreFirst s → AreFirst (after s l a)
first_after s l a h k = after_cases AreFirst s l a h k
    (λ party c _ _ p. first_with s.parties party p (begun (request_of s.standing s.published party c)) (first_begun (request_of s.standing s.published party c)) (k p))
    (λ party p. first_with s.parties party p gone tt (k p))
    (λ party name _. k)
    (λ party r x _ _ p. first_with (λ q. notice x (s.parties q)) party p (running (record r { so_far = r.so_far ++ x ∷ [] })) (first_stepped x r.so_far r) (first_noticed x (s.parties p) (k p)))
    (λ party r x t _ _ p. first_with (λ q. notice x (s.parties q)) party p free tt (first_noticed x (s.parties p) (k p)))

first_session : (pairs : Session) (s : State) → IsLawfulFrom s pairs → AreFirst s → AreFirst (state_after s pairs)
first_session [] s h k = k
first_session (x ∷ xs) s h k = first_session xs (after s x.0 x.1) h.1 (first_after s x.0 x.1 h.0 k)

pub nothing_at_first : NothingIsPassedAtFirst
nothing_at_first pairs party r h run e = subst IsFirst run (first_session pairs start h (λ p. tt) party) e
