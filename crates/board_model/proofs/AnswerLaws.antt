-- A line has at most one right answer.
use Rattle.std.proofs.Common.{◌≡◌, ℕ, List, [], ◌∷◌, refl, sym, ap, subst, ◌∙◌, Option, Some, None}
use Rattle.std.specs.Prelude.{slice_get, is_some, IfSome}
use Rattle.board_cell_model.specs.declared.access.Access.{Access}
use Rattle.board_cell_model.specs.declared.access.Access.TheVariants as access
use Rattle.board_model.specs.declared.answer.Answer.{Answer}
use Rattle.board_model.specs.declared.answer.Answer.TheVariants as answer
use Rattle.board_model.specs.declared.answer.Reason.{Reason}
use Rattle.board_model.specs.declared.answer.Reply.{Reply}
use Rattle.board_model.specs.declared.line.Line.{Line}
use Rattle.board_model.specs.declared.line.Line.TheVariants as line
use Rattle.board_cell_model.specs.OwedAccesses.{owed_of}
use Rattle.board_model.specs.Memory.{IsStanding}
use Rattle.board_model.specs.Parties.{Party, free, gone, running}
use Rattle.board_model.specs.LawfulSession.{IsLawfulFrom, IsOwed, IsOwedStep, IsReasoned, IsRight, IsTold, IsToldStep, IsWord, Session, State, after, reason_of, start}
use Rattle.board_model.specs.LawsOfAnswers.{OneLawfulSession, OneRightAnswer, lines_asked}

-- ---- one step

same_word : (o p : Option ℕ) (v w : ℕ) → o ≡ Some v → p ≡ Some w → o ≡ p → v ≡ w
same_word o p v w e f q = cc

same_access : (memory : ℕ → List ℕ) (a b : Access) → owed_of a ≡ owed_of b → IsStanding memory a → IsStanding memory b → a ≡ b
same_access memory access.Table access.Table e h k = refl
same_access memory access.Table (access.Read c j w) e h k = absurd cc
same_access memory access.Table (access.Write c j w) e h k = absurd cc
same_access memory (access.Read c j v) access.Table e h k = absurd cc
same_access memory (access.Read b i v) (access.Read c j w) e h k =
    let p : b ≡ c = cc (e) in
    let q : i ≡ j = cc (e) in
    let x : slice_get (memory b) i ≡ slice_get (memory c) j = rw (p, q) refl in
    let y : v ≡ w = same_word (slice_get (memory b) i) (slice_get (memory c) j) v w h k x in
    cc (p, q, y)
same_access memory (access.Read c j v) (access.Write d k w) e h z = absurd cc
same_access memory (access.Write c j v) access.Table e h k = absurd cc
same_access memory (access.Write c j v) (access.Read d k w) e h z = absurd cc
same_access memory (access.Write c j v) (access.Write d k w) e h z = cc (e)

same_told : (t u : Option Reply) (r : Reply) → is_some t ≡ is_some u → IfSome t (λ x. x ≡ r) → IfSome u (λ x. x ≡ r) → t ≡ u
same_told None None r e h k = refl
same_told None (Some y) r e h k = absurd cc
same_told (Some x) None r e h k = absurd cc
same_told (Some x) (Some y) r e h k = cc (h, k)

-- the three rules of a step
record IsStepRight (s : State) (party : List ℕ) (x : Party) (a : Answer) : Type 0 where
  pub owes : IsOwedStep x a
  pub word : IsWord s (line.Step party) a
  pub reply : IsToldStep s party x a

same_step : (s : State) (party : List ℕ) (x : Party) (a b : Answer) → IsStepRight s party x a → IsStepRight s party x b → a ≡ b
same_step s party free a b h k = absurd (h.owes)
same_step s party gone a b h k = absurd (h.owes)
same_step s party (running r) answer.Begun b h k = absurd (h.owes)
same_step s party (running r) (answer.Refused why) b h k = absurd (h.owes)
same_step s party (running r) answer.Gone b h k = absurd (h.owes)
same_step s party (running r) (answer.Words ws) b h k = absurd (h.owes)
same_step s party (running r) (answer.Step x t) answer.Begun h k = absurd (k.owes)
same_step s party (running r) (answer.Step x t) (answer.Refused why) h k = absurd (k.owes)
same_step s party (running r) (answer.Step x t) answer.Gone h k = absurd (k.owes)
same_step s party (running r) (answer.Step x t) (answer.Words ws) h k = absurd (k.owes)
same_step s party (running r) (answer.Step x t) (answer.Step y u) h k =
    let e : x ≡ y = same_access s.memory x y (h.owes ∙ sym k.owes) h.word k.word in
    let l : IsTold s party r x u = subst (λ (z : Access). IsTold s party r z u) (sym e) k.reply in
    let f : t ≡ u = same_told t u _ (h.reply.last ∙ sym l.last) h.reply.reply l.reply in
    cc (e, f)

-- ---- one line

same_listed : (s : State) (n : ℕ) (a b : Answer) → IsOwed s (line.Words n) a → IsWord s (line.Words n) a → IsOwed s (line.Words n) b → IsWord s (line.Words n) b → a ≡ b
same_listed s n answer.Begun b h w k v = absurd h
same_listed s n (answer.Refused why) b h w k v = absurd h
same_listed s n (answer.Step x t) b h w k v = absurd h
same_listed s n answer.Gone b h w k v = absurd h
same_listed s n (answer.Words ws) answer.Begun h w k v = absurd k
same_listed s n (answer.Words ws) (answer.Refused why) h w k v = absurd k
same_listed s n (answer.Words ws) (answer.Step x t) h w k v = absurd k
same_listed s n (answer.Words ws) answer.Gone h w k v = absurd k
same_listed s n (answer.Words ws) (answer.Words vs) h w k v = ap (λ (x : List ℕ). answer.Words x) (w ∙ sym v)

same_accepted : (s : State) (l : Line) (a b : Answer) → IsRight s l a → IsRight s l b → reason_of s l ≡ None → a ≡ b
same_accepted s (line.Begin party c) a b h k n = h.owed n ∙ sym (k.owed n)
same_accepted s (line.Step party) a b h k n =
    same_step s party (s.parties party) a b (record { owes = h.owed n; word = h.word n; reply = h.reply n }) (record { owes = k.owed n; word = k.word n; reply = k.reply n })
same_accepted s (line.Release party name) a b h k n = h.owed n ∙ sym (k.owed n)
same_accepted s (line.Abandon party) a b h k n = h.owed n ∙ sym (k.owed n)
same_accepted s (line.Words m) a b h k n = same_listed s m a b (h.owed n) (h.word n) (k.owed n) (k.word n)

pub one_answer : OneRightAnswer
one_answer s l a b h k = at (reason_of s l) refl
  where
    at : (o : Option Reason) → reason_of s l ≡ o → a ≡ b
    at (Some why) e =
        let p : a ≡ answer.Refused why = subst (λ (x : Option Reason). IsReasoned x a) e h.reason in
        let q : b ≡ answer.Refused why = subst (λ (x : Option Reason). IsReasoned x b) e k.reason in
        p ∙ sym q
    at None e = same_accepted s l a b h k e

-- ---- one session

same_pair : (x y : Line × Answer) → x.0 ≡ y.0 → x.1 ≡ y.1 → x ≡ y
same_pair (l, a) (m, b) e f = cc (e, f)

same_from : (xs ys : Session) (s : State) → IsLawfulFrom s xs → IsLawfulFrom s ys → lines_asked xs ≡ lines_asked ys → xs ≡ ys
same_from [] [] s h k e = refl
same_from [] (y ∷ ys) s h k e = absurd cc
same_from (x ∷ xs) [] s h k e = absurd cc
same_from (x ∷ xs) (y ∷ ys) s h k e =
    let l : x.0 ≡ y.0 = cc (e) in
    let m : lines_asked xs ≡ lines_asked ys = cc (e) in
    let a : x.1 ≡ y.1 = one_answer s x.0 x.1 y.1 h.0 (subst (λ (z : Line). IsRight s z y.1) (sym l) k.0) in
    let p : x ≡ y = same_pair x y l a in
    let r : IsLawfulFrom (after s x.0 x.1) ys = subst (λ (z : Line × Answer). IsLawfulFrom (after s z.0 z.1) ys) (sym p) k.1 in
    let q : xs ≡ ys = same_from xs ys (after s x.0 x.1) h.1 r m in
    cc (p, q)

pub one_session : OneLawfulSession
one_session xs ys h k e = same_from xs ys start h k e
