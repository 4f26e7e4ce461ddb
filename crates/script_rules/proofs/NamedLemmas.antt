-- An answer that keeps a rule and those before it agrees with the right one in the groups of these rules.
use Rattle.std.proofs.Common.{◌≡◌, ℕ, Bool, true, false, List, [], ◌∷◌, ◌++◌, arith, refl, sym, ap, subst, ◌∙◌, Option, Some, None, IsSomeAnd}
use Rattle.std.specs.Prelude.{codes, decimal, if◌then◌else◌, not, slice_get, ◌==◌}
use Rattle.std.specs.List.{flat_map}
use Rattle.std.proofs.lemmas.List.Splits.{slice_split_at}
use Rattle.board_cell_model.specs.declared.access.Access.{Access}
use Rattle.board_cell_model.specs.declared.access.Access.TheVariants as access
use Rattle.board_cell_model.specs.OwedAccesses.{owed_of}
use Rattle.board_event_model.specs.declared.access.EventAccess.{EventAccess}
use Rattle.board_event_model.specs.declared.access.EventAnswer.{EventAnswer}
use Rattle.board_event_model.specs.declared.kind.EventKind.{EventKind}
use Rattle.board_event_model.specs.EventCalls.{call_of, owed}
use Rattle.board_event_model.specs.EventMemory as events
use Rattle.board_event_model.specs.EventMemory.{Event}
use Rattle.board_event_model.specs.EventSessions.{PartyCall, event_of}
use Rattle.board_model.specs.declared.answer.Answer.{Answer}
use Rattle.board_model.specs.declared.answer.Answer.TheVariants as answer
use Rattle.board_model.specs.declared.answer.Reason.{Reason}
use Rattle.board_model.specs.declared.answer.Reason.TheVariants as reason
use Rattle.board_model.specs.declared.answer.Reply.{Reply}
use Rattle.board_model.specs.declared.answer.Reply.TheVariants as reply
use Rattle.board_model.specs.declared.line.Line.TheVariants as board_line
use Rattle.board_model.specs.AnswerGrammar.{number_text}
use Rattle.board_model.specs.LawfulSession as boards
use Rattle.board_model.specs.Memory.{IsStanding}
use Rattle.board_model.specs.Parties.{Party, free, gone, owed as boards_owed, running}
use Rattle.script_model.specs.declared.line.EventRequest.{EventRequest}
use Rattle.script_model.specs.declared.line.ScriptLine.{ScriptLine}
use Rattle.script_model.specs.declared.line.ScriptLine.TheVariants as line
use Rattle.script_model.specs.declared.reply.EventReply.{EventReply}
use Rattle.script_model.specs.ScriptAnswers.{IsScriptAnswer, ScriptAnswer, expired, of_ask, of_boards, of_event, script_answer_text}
use Rattle.script_model.specs.ScriptEvents.{EventAsk, EventTask, ScriptEvents, name_made, runs_on_events, task_of}
use Rattle.script_model.specs.ScriptRules.{IsEvent, IsOfEvent, IsOwed, IsOwedAccess, IsOwedStep, IsReasoned, IsWord, OfBoards, reason_in_turn, script_reason, turn_reason}
use Rattle.script_model.specs.ScriptTurns.{EventTurn, ScriptState, begin_turn, begins, drop_turn, drops, expire_of_call, expire_turn, expires, free_turn, is_name_taken, may_expire, refused, request_turn, steps, task_turn, turn_of}
use Rattle.script_model.specs.ScriptSession.{IsRight}
use Rattle.script_model.proofs.AnswerLaws.{one_answer}
use Rattle.script_rules.proofs.EventAnswerLemmas.{same_event_answer}
use Rattle.script_grammar.proofs.SplitLemmas.{free_lacks}
use Rattle.script_rules.specs.declared.rule.Rule.{Rule}
use Rattle.script_rules.specs.declared.rule.Rule.TheVariants as rule
use Rattle.script_rules.specs.PrintedAnswers.{IsStepAccess, StepAccess, StepReply, a_step, board_access, event_access, events_reply, printed_of, printed_text, told_by_boards, told_by_events}
use Rattle.script_rules.specs.AnswerGroups.{Groups, groups_of, refusal_of, same_tokens, tokens_of}
use Rattle.script_rules.specs.BrokenRules.{broken_rule, first_group}
use Rattle.script_rules.specs.StepGroups.{event_found, owed_access, step_groups, word_read}
use Rattle.script_rules.specs.NamedRules.{BrokenRulesAreNamed, KeepsRule, RightAnswersKeepAll}
use Rattle.script_rules.proofs.GroupLemmas.{not_answer, not_line, same_self, self_none}
use Rattle.script_rules.proofs.PrintedLemmas.{HasStepAccess, access_printed, text_printed}
use Rattle.script_rules.proofs.StepGroupLemmas.{step_grouped}

-- ---- groups that agree

-- the first groups of two answers are the same, up to what this rule speaks of
abbrev AgreeIn : Rule → Groups → Groups → Type 0
AgreeIn rule.Owed x y = x.owed ≡ y.owed
AgreeIn rule.Word x y = x.word ≡ y.word
AgreeIn rule.Event x y = x.event ≡ y.event
AgreeIn rule.Reply x y = x.reply ≡ y.reply
AgreeIn r x y = Unit {0}

same_true : (xs ys : List (List ℕ)) → xs ≡ ys → same_tokens xs ys ≡ true
same_true xs ys e = ap (same_tokens xs) (sym e) ∙ same_self xs

by_tests : (a b c d : Bool) (r : Rule) → (if not a then Some rule.Owed else if not b then Some rule.Word else if not c then Some rule.Event else if not d then Some rule.Reply else None) ≡ Some r
    → (r ≡ rule.Owed → a ≡ true) → (r ≡ rule.Word → b ≡ true) → (r ≡ rule.Event → c ≡ true) → (r ≡ rule.Reply → d ≡ true) → ⊥
by_tests false b c d r e p q u v =
    let k : rule.Owed ≡ r = cc (e) in
    let h = p (sym k) in
    cc
by_tests true false c d r e p q u v =
    let k : rule.Word ≡ r = cc (e) in
    let h = q (sym k) in
    cc
by_tests true true false d r e p q u v =
    let k : rule.Event ≡ r = cc (e) in
    let h = u (sym k) in
    cc
by_tests true true true false r e p q u v =
    let k : rule.Reply ≡ r = cc (e) in
    let h = v (sym k) in
    cc
by_tests true true true true r e p q u v = cc

-- the rule of the first group that differs isn't one in which they agree
agreed : (x y : Groups) (r : Rule) → first_group x y ≡ Some r → AgreeIn r x y → ⊥
agreed x y r e h = by_tests (same_tokens x.owed y.owed) (same_tokens x.word y.word) (same_tokens x.event y.event) (same_tokens x.reply y.reply) r e
    (λ k. same_true x.owed y.owed (subst (λ (q : Rule). AgreeIn q x y) k h))
    (λ k. same_true x.word y.word (subst (λ (q : Rule). AgreeIn q x y) k h))
    (λ k. same_true x.event y.event (subst (λ (q : Rule). AgreeIn q x y) k h))
    (λ k. same_true x.reply y.reply (subst (λ (q : Rule). AgreeIn q x y) k h))

-- ---- refusals

-- the tokens begin so
record BeginsSo (t : List ℕ) (ts : List (List ℕ)) : Type 0 where
  rest : List (List ℕ)
  is : ts ≡ t ∷ rest

words_begin : (ws : List ℕ) → BeginsSo (codes "words") (tokens_of (codes "words" ++ flat_map number_text ws))
words_begin [] = record { rest = []; is = refl }
words_begin (w ∷ ws) = record { rest = tokens_of (decimal w ++ flat_map number_text ws); is = slice_split_at (λ b. b == 32) (codes "words") 32 (decimal w ++ flat_map number_text ws) (free_lacks 32 (codes "words") refl) refl }

step_kept : (a : ScriptAnswer) (x : StepAccess) (told : Option StepReply) → IsScriptAnswer a → printed_of a ≡ a_step x told → (script_answer_text a ≡ printed_text (a_step x told)) × IsStepAccess x
step_kept a x told h e = (text_printed a ∙ ap printed_text e, subst HasStepAccess e (access_printed a h))

step_groups_of : (party : List ℕ) (a : ScriptAnswer) (x : StepAccess) (told : Option StepReply) → IsScriptAnswer a → printed_of a ≡ a_step x told → groups_of (line.Board (board_line.Step party)) (tokens_of (script_answer_text a)) ≡ step_groups x told
step_groups_of party a x told h e =
    let k = step_kept a x told h e in
    ap (λ (t : List ℕ). groups_of (line.Board (board_line.Step party)) (tokens_of t)) k.0 ∙ (step_grouped party x told k.1).groups

step_refuses : (a : ScriptAnswer) (x : StepAccess) (told : Option StepReply) → IsScriptAnswer a → printed_of a ≡ a_step x told → refusal_of (tokens_of (script_answer_text a)) ≡ []
step_refuses a x told h e =
    let k = step_kept a x told h e in
    ap (λ (t : List ℕ). refusal_of (tokens_of t)) k.0 ∙ (step_grouped [] x told k.1).refusal

-- an answer to an accepted line refuses nothing
pub refuses_none : (a : ScriptAnswer) → IsScriptAnswer a → IsReasoned None a → refusal_of (tokens_of (script_answer_text a)) ≡ []
refuses_none (of_boards answer.Begun) h k = refl
refuses_none (of_boards (answer.Refused why)) h k = absurd k
refuses_none (of_boards (answer.Step a told)) h k = step_refuses (of_boards (answer.Step a told)) (board_access a) (told_by_boards told) h refl
refuses_none (of_boards answer.Gone) h k = refl
refuses_none (of_boards (answer.Words ws)) h k = ap refusal_of (words_begin ws).is
refuses_none (of_ask r) h k = step_refuses (of_ask r) (board_access access.Table) (Some (events_reply r)) h refl
refuses_none (of_event kind name a b told) h k = step_refuses (of_event kind name a b told) (event_access kind name a b) (told_by_events told) h refl
refuses_none expired h k = refl

same_refusal : (o : Option Reason) (right a : ScriptAnswer) → IsScriptAnswer right → IsScriptAnswer a → IsReasoned o right → IsReasoned o a → same_tokens (refusal_of (tokens_of (script_answer_text right))) (refusal_of (tokens_of (script_answer_text a))) ≡ true
same_refusal (Some why) right a f g h k = same_true _ _ (ap (λ (x : ScriptAnswer). refusal_of (tokens_of (script_answer_text x))) (h ∙ sym k))
same_refusal None right a f g h k = same_true _ _ (refuses_none right f h ∙ sym (refuses_none a g k))

-- ---- lines that aren't steps

abbrev NeverSteps : Option EventTurn → Type 0
NeverSteps (Some (steps party)) = ⊥
NeverSteps t = Unit {0}

turn_if : (b : Bool) (t u : EventTurn) → NeverSteps (Some t) → NeverSteps (Some u) → NeverSteps (Some (if b then t else u))
turn_if true t u h k = h
turn_if false t u h k = k

maybe_if : (b : Bool) (t u : Option EventTurn) → NeverSteps t → NeverSteps u → NeverSteps (if b then t else u)
maybe_if true t u h k = h
maybe_if false t u h k = k

begin_never : (y : Party) (b : Bool) → NeverSteps (begin_turn y b)
begin_never free true = tt
begin_never free false = tt
begin_never (running r) b = tt
begin_never gone b = tt

drop_never : (y : Party) (b : Bool) (party name : List ℕ) → NeverSteps (drop_turn y b party name)
drop_never free true party name = tt
drop_never free false party name = tt
drop_never (running r) b party name = tt
drop_never gone b party name = tt

free_never : (y : Party) (t : EventTurn) → NeverSteps (Some t) → NeverSteps (Some (free_turn y t))
free_never free t h = h
free_never (running r) t h = tt
free_never gone t h = tt

expire_never : (s : ScriptState) (party : List ℕ) (y : Party) → NeverSteps (Some (expire_turn s party y))
expire_never s party free = by_call (s.events.asked party) (s.events.session.doing party)
  where
    by_call : (o : Option EventAsk) (d : Option PartyCall) → NeverSteps (Some (expire_of_call party o d))
    by_call (Some q) d = tt
    by_call None None = tt
    by_call None (Some d) = turn_if (may_expire d) (expires party) (refused reason.NotWaiting) tt tt
expire_never s party (running r) = tt
expire_never s party gone = tt

request_never : (s : ScriptState) (party : List ℕ) (q : EventRequest) → NeverSteps (Some (request_turn s party q))
request_never s party q =
    turn_if (runs_on_events s.events party) (refused reason.Busy) (free_turn (s.boards.parties party) (task_turn s party q (task_of s.events party q))) tt
    (free_never (s.boards.parties party) (task_turn s party q (task_of s.events party q)) (by_task (task_of s.events party q)))
  where
    by_task : (o : Option EventTask) → NeverSteps (Some (task_turn s party q o))
    by_task None = tt
    by_task (Some t) = turn_if (is_name_taken s party (name_made q)) (refused reason.Taken) (begins party t) tt tt

-- ---- answers that the form of their line settles

once_turn : (s : ScriptState) (l : ScriptLine) (t : EventTurn) (a b : ScriptAnswer) → NeverSteps (Some t) → turn_reason t ≡ None → IsOwed s l (Some t) a → IsOwed s l (Some t) b → a ≡ b
once_turn s l (refused why) a b n e h k = absurd cc
once_turn s l (begins party t) a b n e h k = h ∙ sym k
once_turn s l (steps party) a b n e h k = absurd n
once_turn s l (drops party name) a b n e h k = h ∙ sym k
once_turn s l (expires party) a b n e h k = h ∙ sym k

once_boards : (P : Answer → Type 0) (z : Answer) → ((x : Answer) → P x → x ≡ z) → (a b : ScriptAnswer) → OfBoards P a → OfBoards P b → a ≡ b
once_boards P z f (of_boards x) (of_boards y) h k = ap of_boards (f x h ∙ sym (f y k))
once_boards P z f (of_boards x) (of_ask r) h k = absurd k
once_boards P z f (of_boards x) (of_event kind name y c told) h k = absurd k
once_boards P z f (of_boards x) expired h k = absurd k
once_boards P z f (of_ask r) b h k = absurd h
once_boards P z f (of_event kind name y c told) b h k = absurd h
once_boards P z f expired b h k = absurd h

once_in : (s : ScriptState) (l : ScriptLine) (a b : ScriptAnswer) (o : Option EventTurn) → NeverSteps o → reason_in_turn s l o ≡ None → (IsOwed s l None a → IsOwed s l None b → a ≡ b) → IsOwed s l o a → IsOwed s l o b → a ≡ b
once_in s l a b (Some t) n e f h k = once_turn s l t a b n e h k
once_in s l a b None n e f h k = f h k

-- ---- steps of calls on boards

OwesAccess : Party → Access → Type 0
OwesAccess free x = ⊥
OwesAccess (running r) x = owed_of x ≡ boards_owed r.request r.so_far
OwesAccess gone x = ⊥

-- an answer of boards to a step
record IsBoardStep (y : Party) (a : ScriptAnswer) : Type 0 where
  taken : Access
  told : Option Reply
  is : a ≡ of_boards (answer.Step taken told)
  owes : OwesAccess y taken

board_step_of : (y : Party) (a : ScriptAnswer) → OfBoards (boards.IsOwedStep y) a → IsBoardStep y a
unfolding OwesAccess
board_step_of free (of_boards a) h = absurd h
board_step_of gone (of_boards a) h = absurd h
board_step_of (running r) (of_boards answer.Begun) h = absurd h
board_step_of (running r) (of_boards (answer.Refused why)) h = absurd h
board_step_of (running r) (of_boards (answer.Step x told)) h = record { taken = x; told = told; is = refl; owes = h }
board_step_of (running r) (of_boards answer.Gone) h = absurd h
board_step_of (running r) (of_boards (answer.Words ws)) h = absurd h
board_step_of y (of_ask r) h = absurd h
board_step_of y (of_event kind name x b told) h = absurd h
board_step_of y expired h = absurd h

same_owed : (y : Party) (a b : Access) → OwesAccess y a → OwesAccess y b → owed_of a ≡ owed_of b
unfolding OwesAccess
same_owed free a b h k = absurd h
same_owed (running r) a b h k = h ∙ sym k
same_owed gone a b h k = absurd h

same_access : (a b : Access) → owed_of a ≡ owed_of b → owed_access a ≡ owed_access b
same_access access.Table access.Table e = refl
same_access access.Table (access.Read c j w) e = absurd cc
same_access access.Table (access.Write c j w) e = absurd cc
same_access (access.Read b i v) access.Table e = absurd cc
same_access (access.Read b i v) (access.Read c j w) e =
    let p : b ≡ c = cc (e) in
    let q : i ≡ j = cc (e) in
    rw (p, q) refl
same_access (access.Read b i v) (access.Write c j w) e = absurd cc
same_access (access.Write b i v) access.Table e = absurd cc
same_access (access.Write b i v) (access.Read c j w) e = absurd cc
same_access (access.Write b i v) (access.Write c j w) e =
    let p : b ≡ c = cc (e) in
    let q : i ≡ j = cc (e) in
    let x : v ≡ w = cc (e) in
    rw (p, q, x) refl

found_word : (o p : Option ℕ) (v w : ℕ) → o ≡ Some v → p ≡ Some w → o ≡ p → v ≡ w
found_word o p v w e f q = cc

same_read : (memory : ℕ → List ℕ) (a b : Access) → owed_of a ≡ owed_of b → IsStanding memory a → IsStanding memory b → word_read a ≡ word_read b
same_read memory access.Table access.Table e h k = refl
same_read memory access.Table (access.Read c j w) e h k = absurd cc
same_read memory access.Table (access.Write c j w) e h k = refl
same_read memory (access.Read b i v) access.Table e h k = absurd cc
same_read memory (access.Read b i v) (access.Read c j w) e h k =
    let p : b ≡ c = cc (e) in
    let q : i ≡ j = cc (e) in
    let x : slice_get (memory b) i ≡ slice_get (memory c) j = rw (p, q) refl in
    let y : v ≡ w = found_word (slice_get (memory b) i) (slice_get (memory c) j) v w h k x in
    rw y refl
same_read memory (access.Read b i v) (access.Write c j w) e h k = absurd cc
same_read memory (access.Write b i v) access.Table e h k = refl
same_read memory (access.Write b i v) (access.Read c j w) e h k = absurd cc
same_read memory (access.Write b i v) (access.Write c j w) e h k = refl

-- ---- what agrees

agree_self : (r : Rule) (x : Groups) → AgreeIn r x x
agree_self rule.Line x = tt
agree_self rule.Answer x = tt
agree_self rule.Reason x = tt
agree_self rule.Owed x = refl
agree_self rule.Word x = refl
agree_self rule.Event x = refl
agree_self rule.Reply x = refl

agree_by : (r : Rule) (x y v w : Groups) → x ≡ v → y ≡ w → AgreeIn r v w → AgreeIn r x y
agree_by r x y v w e f h = subst (λ (z : Groups). AgreeIn r z y) (sym e) (subst (λ (z : Groups). AgreeIn r v z) (sym f) h)

groups_in : ScriptLine → ScriptAnswer → Groups
groups_in l a = groups_of l (tokens_of (script_answer_text a))

same_answer : (l : ScriptLine) (right a : ScriptAnswer) (r : Rule) → right ≡ a → AgreeIn r (groups_in l right) (groups_in l a)
same_answer l right a r e = subst (λ (x : ScriptAnswer). AgreeIn r (groups_in l right) (groups_in l x)) e (agree_self r (groups_in l right))

-- accesses to boards
board_agree : (memory : ℕ → List ℕ) (x y : Access) (due told : Option StepReply) (r : Rule) → owed_of x ≡ owed_of y → IsStanding memory x → (r ≡ rule.Word → IsStanding memory y) → (r ≡ rule.Reply → ⊥)
    → AgreeIn r (step_groups (board_access x) due) (step_groups (board_access y) told)
board_agree memory x y due told rule.Line e h k n = tt
board_agree memory x y due told rule.Answer e h k n = tt
board_agree memory x y due told rule.Reason e h k n = tt
board_agree memory x y due told rule.Owed e h k n = same_access x y e
board_agree memory x y due told rule.Word e h k n = same_read memory x y e h (k refl)
board_agree memory x y due told rule.Event e h k n = refl
board_agree memory x y due told rule.Reply e h k n = absurd (n refl)

-- an answer of a board to a step, by its groups
board_groups : (party : List ℕ) (y : Party) (a : ScriptAnswer) → IsScriptAnswer a → (k : IsBoardStep y a) → groups_in (line.Board (board_line.Step party)) a ≡ step_groups (board_access k.taken) (told_by_boards k.told)
unfolding groups_in
board_groups party y a h k = step_groups_of party a (board_access k.taken) (told_by_boards k.told) h (ap printed_of k.is)

board_word : (s : ScriptState) (party : List ℕ) (y : Party) (a : ScriptAnswer) (k : IsBoardStep y a) → IsWord s (line.Board (board_line.Step party)) None a → IsStanding s.boards.memory k.taken
board_word s party y a k h = subst (λ (x : ScriptAnswer). IsWord s (line.Board (board_line.Step party)) None x) k.is h

boards_agree : (s : ScriptState) (party : List ℕ) (y : Party) (right a : ScriptAnswer) (r : Rule) → IsScriptAnswer right → IsScriptAnswer a → OfBoards (boards.IsOwedStep y) right → OfBoards (boards.IsOwedStep y) a
    → IsWord s (line.Board (board_line.Step party)) None right → (r ≡ rule.Word → IsWord s (line.Board (board_line.Step party)) None a) → (r ≡ rule.Reply → ⊥)
    → AgreeIn r (groups_in (line.Board (board_line.Step party)) right) (groups_in (line.Board (board_line.Step party)) a)
boards_agree s party y right a r f g h k w v n =
    let one = board_step_of y right h in
    let two = board_step_of y a k in
    agree_by r _ _ (step_groups (board_access one.taken) (told_by_boards one.told)) (step_groups (board_access two.taken) (told_by_boards two.told))
    (board_groups party y right f one) (board_groups party y a g two)
    (board_agree s.boards.memory one.taken two.taken (told_by_boards one.told) (told_by_boards two.told) r (same_owed y one.taken two.taken one.owes two.owes)
    (board_word s party y right one w) (λ e. board_word s party y a two (v e)) n)

-- ---- steps of calls on events

event_agree : (e : Event) (kind : EventKind) (name : List ℕ) (x : EventAccess) (b c : EventAnswer) (due told : Option StepReply) (r : Rule) → events.IsRight e x b → (r ≡ rule.Event → events.IsRight e x c) → (r ≡ rule.Reply → ⊥)
    → AgreeIn r (step_groups (event_access kind name x b) due) (step_groups (event_access kind name x c) told)
event_agree e kind name x b c due told rule.Line h k n = tt
event_agree e kind name x b c due told rule.Answer h k n = tt
event_agree e kind name x b c due told rule.Reason h k n = tt
event_agree e kind name x b c due told rule.Owed h k n = refl
event_agree e kind name x b c due told rule.Word h k n = refl
event_agree e kind name x b c due told rule.Event h k n = ap (event_found x) (same_event_answer e x b c h (k refl))
event_agree e kind name x b c due told rule.Reply h k n = absurd (n refl)

ask_agree : (due told : Option StepReply) (r : Rule) → (r ≡ rule.Reply → ⊥) → AgreeIn r (step_groups (board_access access.Table) due) (step_groups (board_access access.Table) told)
ask_agree due told rule.Line n = tt
ask_agree due told rule.Answer n = tt
ask_agree due told rule.Reason n = tt
ask_agree due told rule.Owed n = refl
ask_agree due told rule.Word n = refl
ask_agree due told rule.Event n = refl
ask_agree due told rule.Reply n = absurd (n refl)

events_agree : (x : ScriptEvents) (party : List ℕ) (q : Option EventAsk) (d : Option PartyCall) (right a : ScriptAnswer) (r : Rule) → IsScriptAnswer right → IsScriptAnswer a → IsOwedStep x q d right → IsOwedStep x q d a
    → IsOfEvent x d right → (r ≡ rule.Event → IsOfEvent x d a) → (r ≡ rule.Reply → ⊥)
    → AgreeIn r (groups_in (line.Board (board_line.Step party)) right) (groups_in (line.Board (board_line.Step party)) a)
unfolding groups_in
events_agree x party (Some q) d right a r f g h k v w n =
    agree_by r _ _ (step_groups (board_access access.Table) (Some (events_reply h.0))) (step_groups (board_access access.Table) (Some (events_reply k.0)))
    (step_groups_of party right (board_access access.Table) (Some (events_reply h.0)) f (ap printed_of h.1))
    (step_groups_of party a (board_access access.Table) (Some (events_reply k.0)) g (ap printed_of k.1))
    (ask_agree (Some (events_reply h.0)) (Some (events_reply k.0)) r n)
events_agree x party None None right a r f g h k v w n = absurd h
events_agree x party None (Some d) right a r f g h k v w n = at (event_of x.session.stands d.on) refl h k
  where
    at : (o : Option Event) → event_of x.session.stands d.on ≡ o → IsSomeAnd o (λ e. IsOwedAccess e d.call right) → IsSomeAnd o (λ e. IsOwedAccess e d.call a)
        → AgreeIn r (groups_in (line.Board (board_line.Step party)) right) (groups_in (line.Board (board_line.Step party)) a)
    at None e i j = absurd i
    at (Some z) e i j =
        let found : (b : EventAnswer) (told : Option EventReply) → IsOfEvent x (Some d) (of_event z.kind z.name (owed (call_of d.call)) b told) → events.IsRight z (owed (call_of d.call)) b =
        λ b told y. subst (λ (p : Option Event). IsSomeAnd p (λ u. events.IsRight u (owed (call_of d.call)) b)) e y in
        let one : events.IsRight z (owed (call_of d.call)) i.answer = found i.answer i.told (subst (λ (y : ScriptAnswer). IsOfEvent x (Some d) y) i.printed v) in
        let two : r ≡ rule.Event → events.IsRight z (owed (call_of d.call)) j.answer = λ c. found j.answer j.told (subst (λ (y : ScriptAnswer). IsOfEvent x (Some d) y) j.printed (w c)) in
        agree_by r _ _ (step_groups (event_access z.kind z.name (owed (call_of d.call)) i.answer) (told_by_events i.told)) (step_groups (event_access z.kind z.name (owed (call_of d.call)) j.answer) (told_by_events j.told))
        (step_groups_of party right (event_access z.kind z.name (owed (call_of d.call)) i.answer) (told_by_events i.told) f (ap printed_of i.printed))
        (step_groups_of party a (event_access z.kind z.name (owed (call_of d.call)) j.answer) (told_by_events j.told) g (ap printed_of j.printed))
        (event_agree z z.kind z.name (owed (call_of d.call)) i.answer j.answer (told_by_events i.told) (told_by_events j.told) r one two n)

-- ---- lists of words

record IsWordList (a : ScriptAnswer) : Type 0 where
  words : List ℕ
  is : a ≡ of_boards (answer.Words words)

word_list : (s : ScriptState) (board : ℕ) (a : ScriptAnswer) → OfBoards (boards.IsOwed s.boards (board_line.Words board)) a → IsWordList a
word_list s board (of_boards answer.Begun) h = absurd h
word_list s board (of_boards (answer.Refused why)) h = absurd h
word_list s board (of_boards (answer.Step x told)) h = absurd h
word_list s board (of_boards answer.Gone) h = absurd h
word_list s board (of_boards (answer.Words ws)) h = record { words = ws; is = refl }
word_list s board (of_ask r) h = absurd h
word_list s board (of_event kind name x b told) h = absurd h
word_list s board expired h = absurd h

list_owed : (board : ℕ) (ws : List ℕ) → (groups_of (line.Board (board_line.Words board)) (tokens_of (codes "words" ++ flat_map number_text ws))).owed ≡ codes "words" ∷ []
list_owed board ws = ap (λ (ts : List (List ℕ)). (groups_of (line.Board (board_line.Words board)) ts).owed) (words_begin ws).is

list_word : (s : ScriptState) (board : ℕ) (a : ScriptAnswer) (k : IsWordList a) → IsWord s (line.Board (board_line.Words board)) None a → k.words ≡ s.boards.memory board
list_word s board a k h = subst (λ (x : ScriptAnswer). IsWord s (line.Board (board_line.Words board)) None x) k.is h

lists_agree : (s : ScriptState) (board : ℕ) (right a : ScriptAnswer) (r : Rule) → OfBoards (boards.IsOwed s.boards (board_line.Words board)) right → OfBoards (boards.IsOwed s.boards (board_line.Words board)) a
    → IsWord s (line.Board (board_line.Words board)) None right → (r ≡ rule.Word → IsWord s (line.Board (board_line.Words board)) None a) → (r ≡ rule.Reply → ⊥)
    → AgreeIn r (groups_in (line.Board (board_line.Words board)) right) (groups_in (line.Board (board_line.Words board)) a)
unfolding groups_in
lists_agree s board right a rule.Line h k w v n = tt
lists_agree s board right a rule.Answer h k w v n = tt
lists_agree s board right a rule.Reason h k w v n = tt
lists_agree s board right a rule.Owed h k w v n =
    let one = word_list s board right h in
    let two = word_list s board a k in
    ap (λ (x : ScriptAnswer). (groups_in (line.Board (board_line.Words board)) x).owed) one.is ∙ list_owed board one.words
    ∙ sym (list_owed board two.words) ∙ sym (ap (λ (x : ScriptAnswer). (groups_in (line.Board (board_line.Words board)) x).owed) two.is)
lists_agree s board right a rule.Word h k w v n =
    let one = word_list s board right h in
    let two = word_list s board a k in
    let e : one.words ≡ two.words = list_word s board right one w ∙ sym (list_word s board a two (v refl)) in
    same_answer (line.Board (board_line.Words board)) right a rule.Word (one.is ∙ ap (λ (ws : List ℕ). of_boards (answer.Words ws)) e ∙ sym two.is)
lists_agree s board right a rule.Event h k w v n = refl
lists_agree s board right a rule.Reply h k w v n = absurd (n refl)

-- ---- any line

-- what is known of an answer to an accepted line that keeps the rules up to one
record Keeps (s : ScriptState) (l : ScriptLine) (o : Option EventTurn) (a : ScriptAnswer) (r : Rule) : Type 0 where
  owed : IsOwed s l o a
  word : r ≡ rule.Word → IsWord s l o a
  event : r ≡ rule.Event → IsEvent s o a

settled : (s : ScriptState) (l : ScriptLine) (right a : ScriptAnswer) (r : Rule) (o : Option EventTurn) → NeverSteps o → reason_in_turn s l o ≡ None → (IsOwed s l None right → IsOwed s l None a → right ≡ a) → IsOwed s l o right → Keeps s l o a r
    → AgreeIn r (groups_in l right) (groups_in l a)
settled s l right a r o n e f h k = same_answer l right a r (once_in s l right a o n e f h k.owed)

step_agree : (s : ScriptState) (party : List ℕ) (right a : ScriptAnswer) (r : Rule) → IsScriptAnswer right → IsScriptAnswer a → (r ≡ rule.Reply → ⊥) → (b : Bool)
    → IsOwed s (line.Board (board_line.Step party)) (if b then Some (steps party) else None) right → IsWord s (line.Board (board_line.Step party)) (if b then Some (steps party) else None) right
    → IsEvent s (if b then Some (steps party) else None) right → Keeps s (line.Board (board_line.Step party)) (if b then Some (steps party) else None) a r
    → AgreeIn r (groups_in (line.Board (board_line.Step party)) right) (groups_in (line.Board (board_line.Step party)) a)
step_agree s party right a r f g n true h w v k = events_agree s.events party (s.events.asked party) (s.events.session.doing party) right a r f g h k.owed v k.event n
step_agree s party right a r f g n false h w v k = boards_agree s party (s.boards.parties party) right a r f g h k.owed w k.word n

line_agree : (s : ScriptState) (l : ScriptLine) (right a : ScriptAnswer) (r : Rule) → script_reason s l ≡ None → IsScriptAnswer right → IsScriptAnswer a → (r ≡ rule.Reply → ⊥)
    → IsOwed s l (turn_of s l) right → IsWord s l (turn_of s l) right → IsEvent s (turn_of s l) right → Keeps s l (turn_of s l) a r → AgreeIn r (groups_in l right) (groups_in l a)
line_agree s (line.Board (board_line.Begin p c)) right a r e f g n h w v k =
    settled s (line.Board (board_line.Begin p c)) right a r (turn_of s (line.Board (board_line.Begin p c)))
    (maybe_if (runs_on_events s.events p) (Some (refused reason.Busy)) (begin_turn (s.boards.parties p) _) tt (begin_never (s.boards.parties p) _)) e
    (once_boards (boards.IsOwed s.boards (board_line.Begin p c)) answer.Begun (λ x i. i) right a) h k
line_agree s (line.Board (board_line.Step p)) right a r e f g n h w v k = step_agree s p right a r f g n (runs_on_events s.events p) h w v k
line_agree s (line.Board (board_line.Release p name)) right a r e f g n h w v k =
    settled s (line.Board (board_line.Release p name)) right a r (turn_of s (line.Board (board_line.Release p name)))
    (maybe_if (runs_on_events s.events p) (Some (refused reason.Busy)) (drop_turn (s.boards.parties p) _ p name) tt (drop_never (s.boards.parties p) _ p name)) e
    (once_boards (boards.IsOwed s.boards (board_line.Release p name)) (answer.Step access.Table (Some reply.Done)) (λ x i. i) right a) h k
line_agree s (line.Board (board_line.Abandon p)) right a r e f g n h w v k =
    settled s (line.Board (board_line.Abandon p)) right a r None tt e (once_boards (boards.IsOwed s.boards (board_line.Abandon p)) answer.Gone (λ x i. i) right a) h k
line_agree s (line.Board (board_line.Words board)) right a r e f g n h w v k = lists_agree s board right a r h k.owed w k.word n
line_agree s (line.Event p q) right a r e f g n h w v k = settled s (line.Event p q) right a r (turn_of s (line.Event p q)) (request_never s p q) e (λ x y. absurd x) h k
line_agree s (line.Expire p) right a r e f g n h w v k = settled s (line.Expire p) right a r (turn_of s (line.Expire p)) (expire_never s p (s.boards.parties p)) e (λ x y. absurd x) h k

-- ---- the laws

past_reason : (b : Bool) (o : Option Rule) (r : Rule) → b ≡ true → (if not b then Some rule.Reason else o) ≡ Some r → o ≡ Some r
past_reason true o r e h = h
past_reason false o r e h = absurd cc

none_some : (r : Rule) → None ≡ Some r → ⊥
none_some r e = cc

-- the right answer's own text breaks nothing
not_same : (l : ScriptLine) (right a : ScriptAnswer) (r : Rule) → right ≡ a → broken_rule l (script_answer_text right) (script_answer_text a) ≡ Some r → ⊥
not_same l right a r e h = none_some r (sym (self_none l (script_answer_text a)) ∙ sym (ap (λ (x : ScriptAnswer). broken_rule l (script_answer_text x) (script_answer_text a)) e) ∙ h)

same_reasoned : (why : Reason) (right a : ScriptAnswer) → IsReasoned (Some why) right → IsReasoned (Some why) a → right ≡ a
same_reasoned why right a h k = h ∙ sym k

middle : (s : ScriptState) (l : ScriptLine) (right a : ScriptAnswer) (r : Rule) → IsRight s l right → IsScriptAnswer a → IsReasoned (script_reason s l) a → (r ≡ rule.Reply → ⊥) → (script_reason s l ≡ None → Keeps s l (turn_of s l) a r)
    → broken_rule l (script_answer_text right) (script_answer_text a) ≡ Some r → ⊥
unfolding groups_in
middle s l right a r ok g reasoned n keeps e = at (script_reason s l) refl
  where
    rest : first_group (groups_of l (tokens_of (script_answer_text right))) (groups_of l (tokens_of (script_answer_text a))) ≡ Some r
    rest = past_reason _ _ r (same_refusal (script_reason s l) right a ok.answer g ok.reason reasoned) e

    at : (o : Option Reason) → script_reason s l ≡ o → ⊥
    at None i = agreed (groups_in l right) (groups_in l a) r rest (line_agree s l right a r i ok.answer g n (ok.owed i) (ok.word i) (ok.event i) (keeps i))
    at (Some why) i = not_same l right a r (same_reasoned why right a (subst (λ (o : Option Reason). IsReasoned o right) i ok.reason) (subst (λ (o : Option Reason). IsReasoned o a) i reasoned)) e

keeps_all : (s : ScriptState) (l : ScriptLine) (a : ScriptAnswer) (r : Rule) → IsRight s l a → KeepsRule s l a r
keeps_all s l a rule.Line h = h.line
keeps_all s l a rule.Answer h = h.answer
keeps_all s l a rule.Reason h = h.reason
keeps_all s l a rule.Owed h = h.owed
keeps_all s l a rule.Word h = h.word
keeps_all s l a rule.Event h = h.event
keeps_all s l a rule.Reply h = h.reply

pub right_keeps : RightAnswersKeepAll
right_keeps = record {
  keeps = keeps_all;
  right = λ s l a k. record { line = k rule.Line; answer = k rule.Answer; reason = k rule.Reason; owed = k rule.Owed; word = k rule.Word; event = k rule.Event; reply = k rule.Reply };
}

pub broken_named : BrokenRulesAreNamed
broken_named s l right a rule.Line ok e k = not_line l (script_answer_text right) (script_answer_text a) e
broken_named s l right a rule.Answer ok e k = not_answer l (script_answer_text right) (script_answer_text a) e
broken_named s l right a rule.Reason ok e k =
    let g = k rule.Answer (omega arith) in
    agreed (groups_of l (tokens_of (script_answer_text right))) (groups_of l (tokens_of (script_answer_text a))) rule.Reason
    (past_reason _ _ rule.Reason (same_refusal (script_reason s l) right a ok.answer g ok.reason (k rule.Reason (omega arith))) e) tt
broken_named s l right a rule.Owed ok e k =
    middle s l right a rule.Owed ok (k rule.Answer (omega arith)) (k rule.Reason (omega arith)) (λ x. cc) (λ i. record { owed = k rule.Owed (omega arith) i; word = λ x. absurd cc; event = λ x. absurd cc }) e
broken_named s l right a rule.Word ok e k =
    middle s l right a rule.Word ok (k rule.Answer (omega arith)) (k rule.Reason (omega arith)) (λ x. cc) (λ i. record { owed = k rule.Owed (omega arith) i; word = λ x. k rule.Word (omega arith) i; event = λ x. absurd cc }) e
broken_named s l right a rule.Event ok e k =
    middle s l right a rule.Event ok (k rule.Answer (omega arith)) (k rule.Reason (omega arith)) (λ x. cc) (λ i. record { owed = k rule.Owed (omega arith) i; word = λ x. absurd cc; event = λ x. k rule.Event (omega arith) i }) e
broken_named s l right a rule.Reply ok e k =
    let same : IsRight s l a = record {
      line = k rule.Line (omega arith);
      answer = k rule.Answer (omega arith);
      reason = k rule.Reason (omega arith);
      owed = k rule.Owed (omega arith);
      word = k rule.Word (omega arith);
      event = k rule.Event (omega arith);
      reply = k rule.Reply (omega arith);
    } in
    not_same l right a rule.Reply (one_answer s l right a ok same) e
