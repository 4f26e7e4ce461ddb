-- Sessions and their moments, in parts and with one pair more.
use Rattle.std.proofs.Common.{◌≡◌, Bool, true, false, cond, ℕ, List, [], ◌∷◌, ◌++◌, refl, sym, ap, subst, ◌∙◌, append_assoc}
use Rattle.std.specs.Prelude.{if◌then◌else◌}
use Rattle.std.proofs.lemmas.List.{append-nil}
use Rattle.script_model.specs.ScriptTurns.{ScriptState}
use Rattle.script_model.specs.ScriptSession.{IsLawful, IsLawfulFrom, IsRight, Session, after, start, state_after}
use Rattle.script_model.specs.LawsOfComposition.{Pair, state_met}
use Rattle.script_model.specs.LawsOfLines.{names}
use Rattle.script_moments.specs.Moments.{Moment, moments, next_moment, own}

pub state_append : (xs ys : Session) (s : ScriptState) → state_after s (xs ++ ys) ≡ state_after (state_after s xs) ys
state_append [] ys s = refl
state_append (x ∷ xs) ys s = state_append xs ys (after s x.0 x.1)

pub moments_append : (xs ys : Session) (s : ScriptState) → moments s (xs ++ ys) ≡ moments s xs ++ moments (state_after s xs) ys
moments_append [] ys s = refl
moments_append (x ∷ xs) ys s = ap (λ (ms : List Moment). record { met = s; pair = x } ∷ ms) (moments_append xs ys (after s x.0 x.1))

pub own_append : (party : List ℕ) (xs ys : List Moment) → own party (xs ++ ys) ≡ own party xs ++ own party ys
own_append party [] ys = refl
own_append party (x ∷ xs) ys = at (names party x.pair.0) (own_append party xs ys)
  where
    at : (b : Bool) → own party (xs ++ ys) ≡ own party xs ++ own party ys → (if b then x ∷ own party (xs ++ ys) else own party (xs ++ ys)) ≡ (if b then x ∷ own party xs else own party xs) ++ own party ys
    at true e = ap (λ (ms : List Moment). x ∷ ms) e
    at false e = e

-- ---- one pair more

pub lawful_push : (xs : Session) (s : ScriptState) (y : Pair) → IsLawfulFrom s xs → IsRight (state_after s xs) y.0 y.1 → IsLawfulFrom s (xs ++ y ∷ [])
lawful_push [] s y ok h = (h, tt)
lawful_push (x ∷ xs) s y ok h = (ok.0, lawful_push xs (after s x.0 x.1) y ok.1 h)

pub all_lawful : (before since : Session) (pair : Pair) → IsLawful (before ++ since) → IsRight (state_met (before ++ since)) pair.0 pair.1 → IsLawful (before ++ (since ++ pair ∷ []))
all_lawful before since pair ok h = subst IsLawful (append_assoc before since (pair ∷ [])) (lawful_push (before ++ since) start pair ok h)

own_other : (party : List ℕ) (ms : List Moment) (m : Moment) → names party m.pair.0 ≡ false → own party (ms ++ m ∷ []) ≡ own party ms
own_other party ms m off = own_append party ms (m ∷ []) ∙ ap (λ (b : Bool). own party ms ++ cond b (m ∷ []) []) off ∙ append-nil (own party ms)

own_push : (party : List ℕ) (ms : List Moment) (m : Moment) → names party m.pair.0 ≡ true → own party (ms ++ m ∷ []) ≡ own party ms ++ m ∷ []
own_push party ms m on = own_append party ms (m ∷ []) ∙ ap (λ (b : Bool). own party ms ++ cond b (m ∷ []) []) on

-- the moments since the party was driven, with one more
since_push : (before since : Session) (pair : Pair) → moments (state_met before) (since ++ pair ∷ []) ≡ moments (state_met before) since ++ next_moment before since pair ∷ []
since_push before since pair =
    moments_append since (pair ∷ []) (state_met before)
    ∙ ap (λ (s : ScriptState). moments (state_met before) since ++ record { met = s; pair = pair } ∷ []) (sym (state_append before since start))

-- a line of others is none of its own
pub own_same : (before since : Session) (party : List ℕ) (pair : Pair) (ms : List Moment) → names party pair.0 ≡ false → own party (moments (state_met before) since) ≡ ms → own party (moments (state_met before) (since ++ pair ∷ [])) ≡ ms
own_same before since party pair ms off h = ap (own party) (since_push before since pair) ∙ own_other party (moments (state_met before) since) (next_moment before since pair) off ∙ h

-- an own line more
pub own_more : (before since : Session) (party : List ℕ) (pair : Pair) (ms : List Moment) → names party pair.0 ≡ true → own party (moments (state_met before) since) ≡ ms → own party (moments (state_met before) (since ++ pair ∷ [])) ≡ ms ++ next_moment before since pair ∷ []
own_more before since party pair ms on h = ap (own party) (since_push before since pair) ∙ own_push party (moments (state_met before) since) (next_moment before since pair) on ∙ ap (λ (ns : List Moment). ns ++ next_moment before since pair ∷ []) h
