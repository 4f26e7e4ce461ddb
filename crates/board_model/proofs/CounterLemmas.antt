-- The counter that a running call has read first stays.
use Rattle.std.proofs.Common.{◌≡◌, ℕ, ◌<◌, Bool, true, false, cond, List, [], ◌∷◌, ◌++◌, length, arith, refl, sym, ap, subst, ◌∙◌, Option, Some, None}
use Rattle.std.specs.Str.{bytes_eq}
use Rattle.std.proofs.lemmas.Bool.{or_parts}
use Rattle.std.proofs.lemmas.List.{length_push}
use Rattle.board_cell_model.specs.declared.access.Access.{Access}
use Rattle.board_cell_model.specs.declared.access.Access.TheVariants as access
use Rattle.board_model.specs.declared.answer.Answer.{Answer}
use Rattle.board_model.specs.declared.answer.Answer.TheVariants as answer
use Rattle.board_model.specs.declared.answer.Reply.{Reply}
use Rattle.board_model.specs.declared.line.Line.{Line}
use Rattle.board_model.specs.declared.line.Line.TheVariants as line
use Rattle.board_model.specs.Requests.{request_of}
use Rattle.board_model.specs.Parties.{Party, Running, begun, free, gone, notice, running, with_party}
use Rattle.board_model.specs.LawfulSession.{Session, State, after, after_step, state_after}
use Rattle.board_model.specs.LawsOfCounts.{FirstCountersStay, begins, begins_in, first_counter}
use Rattle.board_model.proofs.ListLemmas.{same_bytes}

-- the party runs a call that has read this counter first; or it runs nothing
abbrev IsFrom : Option ℕ → Party → Type 0
IsFrom c free = Unit {0}
IsFrom c (running q) = (0 < length q.so_far) × (first_counter q.so_far ≡ c)
IsFrom c gone = Unit {0}

first_kept : (so_far : List Access) (a : Access) → 0 < length so_far → first_counter (so_far ++ a ∷ []) ≡ first_counter so_far
first_kept [] a some = absurd (omega (arith, some))
first_kept (x ∷ xs) a some = refl

-- its own access comes behind those so far
own_from : (c : Option ℕ) (r : Running) (a : Access) → IsFrom c (running r) → IsFrom c (running (record r { so_far = r.so_far ++ a ∷ [] }))
own_from c r a h = (omega (arith, length_push r.so_far a), first_kept r.so_far a h.0 ∙ h.1)

-- another party's leaves them
noticed_from : (c : Option ℕ) (a : Access) (x : Party) → IsFrom c x → IsFrom c (notice a x)
noticed_from c access.Table x h = h
noticed_from c (access.Read b w v) x h = h
noticed_from c (access.Write b w v) free h = tt
noticed_from c (access.Write b w v) (running q) h = h
noticed_from c (access.Write b w v) gone h = tt

with_from : (c : Option ℕ) (ps : List ℕ → Party) (p party : List ℕ) (x : Party) → (bytes_eq party p ≡ true → IsFrom c x) → IsFrom c (ps party) → IsFrom c (with_party ps p x party)
with_from c ps p party x h k = at (bytes_eq party p) h
  where
    at : (z : Bool) → (z ≡ true → IsFrom c x) → IsFrom c (cond z x (ps party))
    at true i = i refl
    at false i = k

step_from : (s : State) (p party : List ℕ) (c : Option ℕ) (x : Party) → s.parties p ≡ x → (a : Access) (told : Option Reply) → IsFrom c (s.parties party) → IsFrom c ((after_step s p x a told).parties party)
step_from s p party c free e a told k = k
step_from s p party c gone e a told k = k
step_from s p party c (running r) e a (Some t) k = with_from c (λ q. notice a (s.parties q)) p party free (λ _. tt) (noticed_from c a (s.parties party) k)
step_from s p party c (running r) e a None k = with_from c (λ q. notice a (s.parties q)) p party (running (record r { so_far = r.so_far ++ a ∷ [] })) (λ t. own_from c r a (own t)) (noticed_from c a (s.parties party) k)
  where
    own : bytes_eq party p ≡ true → IsFrom c (running r)
    own t = subst (IsFrom c) (ap (λ (q : List ℕ). s.parties q) (same_bytes party p t) ∙ e) k

line_from : (s : State) (l : Line) (a : Answer) (party : List ℕ) (c : Option ℕ) → begins party l a ≡ false → IsFrom c (s.parties party) → IsFrom c ((after s l a).parties party)
line_from s (line.Begin p x) answer.Begun party c b k = with_from c s.parties p party (begun (request_of s.standing s.published p x)) (λ t. absurd (cc (b, t))) k
line_from s (line.Begin p x) (answer.Refused why) party c b k = k
line_from s (line.Begin p x) (answer.Step a told) party c b k = k
line_from s (line.Begin p x) answer.Gone party c b k = k
line_from s (line.Begin p x) (answer.Words ws) party c b k = k
line_from s (line.Step p) answer.Begun party c b k = k
line_from s (line.Step p) (answer.Refused why) party c b k = k
line_from s (line.Step p) (answer.Step a told) party c b k = step_from s p party c (s.parties p) refl a told k
line_from s (line.Step p) answer.Gone party c b k = k
line_from s (line.Step p) (answer.Words ws) party c b k = k
line_from s (line.Release p t) answer.Begun party c b k = k
line_from s (line.Release p t) (answer.Refused why) party c b k = k
line_from s (line.Release p t) (answer.Step a told) party c b k = k
line_from s (line.Release p t) answer.Gone party c b k = k
line_from s (line.Release p t) (answer.Words ws) party c b k = k
line_from s (line.Abandon p) answer.Begun party c b k = k
line_from s (line.Abandon p) (answer.Refused why) party c b k = k
line_from s (line.Abandon p) (answer.Step a told) party c b k = k
line_from s (line.Abandon p) answer.Gone party c b k = with_from c s.parties p party gone (λ _. tt) k
line_from s (line.Abandon p) (answer.Words ws) party c b k = k
line_from s (line.Words m) answer.Begun party c b k = k
line_from s (line.Words m) (answer.Refused why) party c b k = k
line_from s (line.Words m) (answer.Step a told) party c b k = k
line_from s (line.Words m) answer.Gone party c b k = k
line_from s (line.Words m) (answer.Words ws) party c b k = k

session_from : (pairs : Session) (s : State) (party : List ℕ) (c : Option ℕ) → begins_in party pairs ≡ false → IsFrom c (s.parties party) → IsFrom c ((state_after s pairs).parties party)
session_from [] s party c b k = k
session_from (x ∷ xs) s party c b k =
    let parts = or_parts (begins party x.0 x.1) (begins_in party xs) b in
    session_from xs (after s x.0 x.1) party c parts.1 (line_from s x.0 x.1 party c parts.0 k)

pub first_stays : FirstCountersStay
first_stays s pairs party r later lawful run some b run2 =
    let k : IsFrom (first_counter r.so_far) (s.parties party) = subst (λ (x : Party). IsFrom (first_counter r.so_far) x) (sym run) (some, refl) in
    let o : IsFrom (first_counter r.so_far) (running later) = subst (λ (x : Party). IsFrom (first_counter r.so_far) x) run2 (session_from pairs s party (first_counter r.so_far) b k) in
    o.1
