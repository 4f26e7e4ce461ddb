-- A line of a script has at most one right answer.
use Rattle.std.proofs.Common.{◌≡◌, ℕ, [], ◌∷◌, Option, Some, None, IsSomeAnd, refl, sym, ap, subst, ◌∙◌}
use Rattle.std.proofs.lemmas.Nat.Bits.{same_from_bits_below}
use Rattle.board_event_model.specs.declared.access.EventAccess.{EventAccess}
use Rattle.board_event_model.specs.declared.access.EventAccess.TheVariants as access
use Rattle.board_event_model.specs.declared.access.EventAnswer.{EventAnswer}
use Rattle.board_event_model.specs.declared.access.EventAnswer.TheVariants as event_answer
use Rattle.board_event_model.specs.Ids.{Ids, IsWord}
use Rattle.board_event_model.specs.EventMemory.{Event, IsWordAnswer}
use Rattle.board_event_model.specs.EventMemory as memory
use Rattle.board_event_model.specs.EventCalls.{owed, turn, RunningCall, call_of}
use Rattle.board_event_model.specs.EventSessions.{PartyCall, event_of}
use Rattle.board_model.proofs.AnswerLaws.{one_answer as one_board_answer}
use Rattle.script_model.specs.declared.line.ScriptLine.{ScriptLine}
use Rattle.script_model.specs.declared.line.ScriptLine.TheVariants as line
use Rattle.script_model.specs.ScriptAnswers.{ScriptAnswer, of_boards, of_event}
use Rattle.script_model.specs.ScriptEvents.{EventAsk, IsEventAccess, IsStepOf, ScriptEvents, step_told}
use Rattle.script_model.specs.ScriptTurns.{EventTurn, IsTurnAnswer, ScriptState, begins, drops, expires, refused, steps, turn_of}
use Rattle.script_model.specs.LawsOfRules.{IsRuled}
use Rattle.script_model.specs.ScriptSession.{IsLawfulFrom, IsRight, Session, after, asked_lines, start}
use Rattle.script_model.specs.LawsOfAnswers.{OneLawfulSession, OneRightAnswer}
use Rattle.script_model.proofs.RuleLemmas.{ruled}

-- ---- the answer of an access

same_word : (ids : Ids) (k v w : ℕ) → IsWord ids k v → IsWord ids k w → v ≡ w
same_word ids k v w h g = same_from_bits_below 64 v w h.small g.small (λ i low. h.bits i low ∙ sym (g.bits i low))

same_word_answer : (ids : Ids) (k : ℕ) (a b : EventAnswer) → IsWordAnswer ids k a → IsWordAnswer ids k b → a ≡ b
same_word_answer ids k a b h g = h.1 ∙ ap (λ (v : ℕ). event_answer.Word v) (same_word ids k h.0 g.0 h.2 g.2) ∙ sym g.1

same_event_answer : (e : Event) (x : EventAccess) (a b : EventAnswer) → memory.IsRight e x a → memory.IsRight e x b → a ≡ b
same_event_answer e access.Listener a b h k = h ∙ sym k
same_event_answer e (access.Set id) a b h k = h ∙ sym k
same_event_answer e access.Post a b h k = h ∙ sym k
same_event_answer e (access.Push id) a b h k = h ∙ sym k
same_event_answer e access.Signal a b h k = h ∙ sym k
same_event_answer e (access.Scan n) a b h k = same_word_answer e.pending n a b h k
same_event_answer e (access.Clear id) a b h k = h.0 ∙ sym k.0
same_event_answer e (access.Swap n) a b h k = same_word_answer e.pending n a b h k
same_event_answer e access.Pop a b h k = h ∙ sym k

same_access : (e : Event) (r : RunningCall) (a b : ScriptAnswer) → IsEventAccess e r a → IsEventAccess e r b → a ≡ b
same_access e r a b h k =
    h.printed
    ∙ ap (λ (x : EventAnswer). of_event e.kind e.name (owed (call_of r)) x (step_told r (turn (call_of r) x).0)) (same_event_answer e (owed (call_of r)) h.answer k.answer h.right k.right)
    ∙ sym k.printed

-- ---- one line

same_on : (o : Option Event) (r : RunningCall) (a b : ScriptAnswer) → IsSomeAnd o (λ e. IsEventAccess e r a) → IsSomeAnd o (λ e. IsEventAccess e r b) → a ≡ b
same_on None r a b h k = absurd h
same_on (Some e) r a b h k = same_access e r a b h k

same_step : (x : ScriptEvents) (asked : Option EventAsk) (doing : Option PartyCall) (a b : ScriptAnswer) → IsStepOf x asked doing a → IsStepOf x asked doing b → a ≡ b
same_step x (Some q) doing a b h k = h ∙ sym k
same_step x None None a b h k = absurd h
same_step x None (Some d) a b h k = same_on (event_of x.session.stands d.on) d.call a b h k

same_turn : (x : ScriptEvents) (t : EventTurn) (a b : ScriptAnswer) → IsTurnAnswer x t a → IsTurnAnswer x t b → a ≡ b
same_turn x (refused why) a b h k = h ∙ sym k
same_turn x (begins party t) a b h k = h ∙ sym k
same_turn x (steps party) a b h k = same_step x (x.asked party) (x.session.doing party) a b h k
same_turn x (drops party name) a b h k = h ∙ sym k
same_turn x (expires party) a b h k = h ∙ sym k

same_ruled : (s : ScriptState) (l : ScriptLine) (a b : ScriptAnswer) (t : Option EventTurn) → IsRuled s l a t → IsRuled s l b t → a ≡ b
same_ruled s l a b (Some t) h k = same_turn s.events t a b h k
same_ruled s (line.Board l) a b None h k = h.is ∙ ap of_boards (one_board_answer s.boards l h.answer k.answer h.right k.right) ∙ sym k.is
same_ruled s (line.Event party q) a b None h k = absurd h
same_ruled s (line.Expire party) a b None h k = absurd h

pub one_answer : OneRightAnswer
one_answer s l a b h k = same_ruled s l a b (turn_of s l) (ruled s l a h) (ruled s l b k)

-- ---- one session

same_pair : (x y : ScriptLine × ScriptAnswer) → x.0 ≡ y.0 → x.1 ≡ y.1 → x ≡ y
same_pair (l, a) (m, b) e f = cc (e, f)

same_from : (xs ys : Session) (s : ScriptState) → IsLawfulFrom s xs → IsLawfulFrom s ys → asked_lines xs ≡ asked_lines ys → xs ≡ ys
same_from [] [] s h k e = refl
same_from [] (y ∷ ys) s h k e = absurd cc
same_from (x ∷ xs) [] s h k e = absurd cc
same_from (x ∷ xs) (y ∷ ys) s h k e =
    let l : x.0 ≡ y.0 = cc (e) in
    let m : asked_lines xs ≡ asked_lines ys = cc (e) in
    let a : x.1 ≡ y.1 = one_answer s x.0 x.1 y.1 h.0 (subst (λ (z : ScriptLine). IsRight s z y.1) (sym l) k.0) in
    let p : x ≡ y = same_pair x y l a in
    let r : IsLawfulFrom (after s x.0 x.1) ys = subst (λ (z : ScriptLine × ScriptAnswer). IsLawfulFrom (after s z.0 z.1) ys) (sym p) k.1 in
    let q : xs ≡ ys = same_from xs ys (after s x.0 x.1) h.1 r m in
    cc (p, q)

pub one_session : OneLawfulSession
one_session xs ys h k e = same_from xs ys start h k e
