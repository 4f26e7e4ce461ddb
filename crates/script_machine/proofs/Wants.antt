-- Lines that want memory take some.
use Rattle.std.proofs.Common.{◌≡◌, ℕ, ◌<◌, ◌≤◌, true, false, List, length, refl, sym, ap, subst, Option, Some, None, arith, inl, inr}
use Rattle.std.specs.Prelude.{◌⊎◌, Bool, OnErr, Result, Ok, Err, if◌then◌else◌, nat_lt}
use Rattle.std.proofs.lemmas.Bool.{ltb-false, ltb-true}
use Rattle.std.specs.Global.{Vec}
use Rattle.board_event_model.specs.EventSessions.{PartyCall}
use Rattle.board_model.specs.declared.answer.Answer.{Answer}
use Rattle.board_model.specs.declared.answer.Answer.TheVariants as answer
use Rattle.board_model.specs.declared.answer.Reason.{Reason}
use Rattle.board_model.specs.declared.answer.Reason.TheVariants as reason
use Rattle.board_model.specs.declared.line.Line.{Line}
use Rattle.board_model.specs.declared.line.Line.TheVariants as board_line
use Rattle.board_model.specs.AnswerGrammar.{answer_line}
use Rattle.board_model.specs.LawfulSession as boards
use Rattle.board_model.specs.LawfulSession.{IsReasoned, State, reason_of}
use Rattle.script_events.specs.PartyEvents.{refusal_of}
use Rattle.script_model.specs.declared.line.ScriptLine.{ScriptLine}
use Rattle.script_model.specs.declared.line.ScriptLine.TheVariants as line
use Rattle.script_loop.specs.Machines.{short_room}
use Rattle.script_model.specs.ScriptGrammar.{IsScriptLine}
use Rattle.script_model.specs.ScriptSession.{IsRight}
use Rattle.script_model.specs.ScriptTurns.{EventTurn, ScriptState, begins, board_turn, drops, expire_of_call, expires, may_expire, refused, steps, turn_of}
use Rattle.script_model.proofs.RuleLemmas.{right_on_boards, right_on_events}
use Rattle.script_lengths.specs.ShortAnswers.{IsShortAnswer, IsShortScriptAnswer}
use Rattle.script_lengths.proofs.ShortLemmas.{short_fits}
use Rattle.script_model.specs.ScriptAnswers.{ScriptAnswer, expired, of_boards, script_answer_line}
use Rattle.script_model.specs.ScriptEvents.{EventAsk, runs_on_events}
use Rattle.script_print.specs.Room.{LacksRoomFor}
use Rattle.script_machine.specs.declared.machine.Machine.{Machine}
use Rattle.script_machine.specs.ScriptMachine.{OfEachState}
use Rattle.script_machine.specs.Wants.{BoardMayWant, IsCramped, LineTakes, MayWant, SpellsTaking, SpellsWanting, StepTakesAt, TakesMemory, refusal, refusal_at}

-- a line whose right answer has no room takes memory, or the answer is short
cramped : (s : ScriptState) (l : ScriptLine) (room : ℕ) (a : ScriptAnswer) → IsRight s l a → room < length (script_answer_line a) → (short_room < length (script_answer_line a) → LineTakes s l) → LineTakes s l ⊎ IsCramped s l room
cramped s l room a right long takes =
    let n = length (script_answer_line a) in
    elim (nat_lt short_room n) as (λ b. nat_lt short_room n ≡ b → LineTakes s l ⊎ IsCramped s l room) [
      | true ↦ λ e. inl (takes (ltb-true short_room n e))
      | false ↦ λ e. inr (record { answer = a; right = right; short = ltb-false short_room n e; long = long })
    ] refl

-- an answer that was told: it has no room, or the line takes memory
pub long_wants : {C T E : Type 0} (r : Result T E) (m : Machine C) (l : ScriptLine) (out : Vec ℕ) (a : ScriptAnswer) → OnErr r (LacksRoomFor out (script_answer_line a)) → OfEachState m (λ s. IsRight s l a)
    → OfEachState m (λ s. short_room < length (script_answer_line a) → LineTakes s l) → OnErr r (MayWant m l out)
long_wants (Ok t) m l out a lacks right takes = tt
long_wants (Err e) m l out a lacks right takes = λ room fits s count rep reached.
    cramped s l room a (right s count rep reached) (omega (arith, lacks, fits)) (takes s count rep reached)

-- the same of one that is long where it isn't short
pub told_wants : {C T E : Type 0} (r : Result T E) (m : Machine C) (l : ScriptLine) (out : Vec ℕ) (a : ScriptAnswer) → OnErr r (LacksRoomFor out (script_answer_line a)) → OfEachState m (λ s. IsRight s l a)
    → OfEachState m (λ s. (IsShortScriptAnswer a → ⊥) → LineTakes s l) → OnErr r (MayWant m l out)
told_wants r m l out a lacks right takes = long_wants r m l out a lacks right (λ s count rep reached long.
    takes s count rep reached (λ short. absurd (omega (arith, long, short_fits a (right s count rep reached).answer short))))

-- a refusal that was told
pub refused_wants : {C T E : Type 0} (r : Result T E) (m : Machine C) (l : ScriptLine) (out : Vec ℕ) (why : Reason) → OnErr r (LacksRoomFor out (answer_line (answer.Refused why))) → OfEachState m (λ s. IsRight s l (of_boards (answer.Refused why)))
    → OnErr r (MayWant m l out)
refused_wants r m l out why lacks right = told_wants r m l out (of_boards (answer.Refused why)) lacks right (λ s count rep reached no. absurd (no tt))

-- what the machine of boards answered, where events have nothing to do with the line
pub answered_wants : {C T E : Type 0} (r : Result T E) (m : Machine C) (l : Line) (out : Vec ℕ) (a : Answer) → OnErr r (LacksRoomFor out (answer_line a)) → OfEachState m (λ s. board_turn s l ≡ None) → OfEachState m (λ s. boards.IsRight s.boards l a)
    → OfEachState m (λ s. (IsShortAnswer a → ⊥) → LineTakes s (line.Board l)) → OnErr r (BoardMayWant m l out)
answered_wants r m l out a lacks alone right takes =
    told_wants r m (line.Board l) out (of_boards a) lacks (λ s count rep reached. right_on_boards s l a (alone s count rep reached) (right s count rep reached)) takes

-- what holds anyway
pub anyway : {T E : Type 0} (r : Result T E) (X : Type 0) → X → OnErr r X
anyway (Ok t) X x = tt
anyway (Err e) X x = x

-- a line that takes memory
pub takes_anyway : {C T E : Type 0} (r : Result T E) (m : Machine C) (l : ScriptLine) (out : Vec ℕ) → TakesMemory m l → OnErr r (MayWant m l out)
takes_anyway (Ok t) m l out takes = tt
takes_anyway (Err e) m l out takes = λ room fits s count rep reached. inl (takes s count rep reached)

-- where there is room for 400 bytes, it takes memory
pub roomy : {C : Type 0} (m : Machine C) (bytes : List ℕ) (room : ℕ) → short_room ≤ room → SpellsWanting m bytes room → SpellsTaking m bytes
roomy m bytes room fits w =
    (w.0, w.1, λ s count rep reached. roomy_at s w.0 room fits (w.2 s count rep reached))
  where
    roomy_at : (s : ScriptState) (l : ScriptLine) (room : ℕ) → short_room ≤ room → LineTakes s l ⊎ IsCramped s l room → LineTakes s l
    roomy_at s l room fits (inl takes) = takes
    roomy_at s l room fits (inr k) = absurd (omega (arith, k.short, k.long, fits))

-- a line that events have to do with is refused rightly on their account
pub refusal_right : (s : ScriptState) (l : ScriptLine) (t : EventTurn) (why : Reason) → turn_of s l ≡ Some t → IsScriptLine l → Some why ≡ refusal_of t → IsRight s l (of_boards (answer.Refused why))
refusal_right s l (refused other) why turn formed told = (let w : other ≡ why = cc in right_on_events s l (refused other) (of_boards (answer.Refused why)) turn formed (ap (λ (x : Reason). of_boards (answer.Refused x)) (sym w)) tt)
refusal_right s l (begins p t) why turn formed told = absurd cc
refusal_right s l (steps p) why turn formed told = absurd cc
refusal_right s l (drops p n) why turn formed told = absurd cc
refusal_right s l (expires p) why turn formed told = absurd cc

-- and an expiry that is granted is answered rightly
pub expired_right : (s : ScriptState) (party : List ℕ) → turn_of s (line.Expire party) ≡ Some (expire_of_call party (s.events.asked party) (s.events.session.doing party)) → IsScriptLine (line.Expire party)
    → None ≡ refusal_of (expire_of_call party (s.events.asked party) (s.events.session.doing party)) → IsRight s (line.Expire party) expired
expired_right s party turn formed told = at (expire_of_call party (s.events.asked party) (s.events.session.doing party)) (expiry (s.events.asked party) (s.events.session.doing party)) turn told
  where
    ExpiresOr : EventTurn → Type 0
    ExpiresOr (expires p) = Unit {0}
    ExpiresOr (refused why) = Unit {0}
    ExpiresOr t = ⊥

    expiry : (q : Option EventAsk) (d : Option PartyCall) → ExpiresOr (expire_of_call party q d)
    expiry (Some q) d = tt
    expiry None None = tt
    expiry None (Some d) = elim (may_expire d) as (λ b. ExpiresOr (if b then expires party else refused reason.NotWaiting)) [ true ↦ tt | false ↦ tt ]

    at : (t : EventTurn) → ExpiresOr t → turn_of s (line.Expire party) ≡ Some t → None ≡ refusal_of t → IsRight s (line.Expire party) expired
    at (expires p) k turn told = right_on_events s (line.Expire party) (expires p) expired turn formed refl tt
    at (refused why) k turn told = absurd cc
    at (begins p t) k turn told = absurd k
    at (steps p) k turn told = absurd k
    at (drops p n) k turn told = absurd k

-- a line whose answer isn't short has no reason to be refused
pub accepted : (o : Option Reason) (a : Answer) → IsReasoned o a → (IsShortAnswer a → ⊥) → o ≡ None
accepted None a h n = refl
accepted (Some why) a h n = absurd (n (subst (λ (x : Answer). IsShortAnswer x) (sym h) tt))

-- a line that is the boards' alone isn't refused
pub alone_accepted : (s : ScriptState) (l : Line) → board_turn s l ≡ None → reason_of s.boards l ≡ None → refusal s (line.Board l) ≡ None
alone_accepted s l turn h = subst (λ (t : Option EventTurn). refusal_at s (line.Board l) t ≡ None) (sym turn) h

-- a line that events have to do with isn't refused
pub turn_accepted : (s : ScriptState) (l : ScriptLine) (t : EventTurn) → turn_of s l ≡ Some t → refusal_of t ≡ None → refusal s l ≡ None
turn_accepted s l t turn h = subst (λ (x : Option EventTurn). refusal_at s l x ≡ None) (sym turn) h

-- a step takes memory as that of the party's call does
pub step_takes_at : (s : ScriptState) (party : List ℕ) (b : Bool) → runs_on_events s.events party ≡ b → StepTakesAt b s party → StepTakesAt (runs_on_events s.events party) s party
step_takes_at s party b e h = subst (λ (x : Bool). StepTakesAt x s party) (sym e) h

-- a refusal is short, and so is what is answered where nothing refuses
pub short_by : (o : Option Reason) (a : Answer) → IsReasoned o a → (o ≡ None → IsShortAnswer a) → IsShortAnswer a
short_by None a h k = k refl
short_by (Some why) a h k = subst (λ (x : Answer). IsShortAnswer x) (sym h) tt

-- the answer to a drop is short
pub dropped_short : (s : State) (party name : List ℕ) (a : Answer) → boards.IsRight s (board_line.Release party name) a → IsShortAnswer a
dropped_short s party name a right =
    short_by (reason_of s (board_line.Release party name)) a right.reason (λ none. subst (λ (x : Answer). IsShortAnswer x) (sym (right.owed none)) tt)

-- so is that to an abandonment
pub gone_short : (s : State) (party : List ℕ) (a : Answer) → boards.IsRight s (board_line.Abandon party) a → IsShortAnswer a
gone_short s party a right =
    short_by (reason_of s (board_line.Abandon party)) a right.reason (λ none. subst (λ (x : Answer). IsShortAnswer x) (sym (right.owed none)) tt)
