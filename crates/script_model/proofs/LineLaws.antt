-- What a line leaves of other parties, where it lengthens a list, and two pairs of boards in a script.
use Rattle.std.proofs.Common.{◌≡◌, ℕ, ◌≤◌, Bool, true, false, List, [], ◌∷◌, ◌++◌, length, refl, sym, ap, subst, ◌∙◌, append_assoc, Option, Some, None, ◌+◌, arith, length-append}
use Rattle.std.specs.Prelude.{if◌then◌else◌, is_some, IsSomeAnd}
use Rattle.std.specs.Str.{bytes_eq}
use Rattle.std.proofs.lemmas.Bool.{false≢true}
use Rattle.std.proofs.lemmas.List.{append-nil}
use Rattle.board_event_model.specs.EventMemory.{Event}
use Rattle.board_event_model.specs.EventSessions.{PartyCall, event_of}
use Rattle.board_model.specs.declared.answer.Answer.{Answer}
use Rattle.board_model.specs.declared.answer.Answer.TheVariants as answer
use Rattle.board_model.specs.declared.line.Line.{Line}
use Rattle.board_model.specs.declared.line.Line.TheVariants as board_line
use Rattle.board_model.specs.LawfulSession as boards
use Rattle.board_model.specs.LawsOfOthers.{IsLeft}
use Rattle.board_model.specs.LawsOfSessions.{publications_in}
use Rattle.board_model.specs.Parties.{Party, free, gone, running}
use Rattle.board_model.proofs.GrowthLemmas.{line_growth}
use Rattle.board_model.proofs.OtherLemmas.{left_same, line_left}
use Rattle.script_model.specs.declared.line.EventRequest.{EventRequest}
use Rattle.script_model.specs.declared.line.ScriptLine.{ScriptLine}
use Rattle.script_model.specs.declared.line.ScriptLine.TheVariants as line
use Rattle.script_model.specs.ScriptAnswers.{ScriptAnswer, expired, of_ask, of_boards, of_event}
use Rattle.script_model.specs.ScriptEvents.{EventAsk, EventTask, EventThing, IsEventAccess, IsStepOf, ScriptEvents, act, ask, ask_made, event_let_go, event_number, events_abandoned, let_go_from, listener, name_made, notifier, notifier_more, opened, opened_with, runs_on_events, step_made, task_of, to_listen, to_notify, with_listener}
use Rattle.script_model.specs.ScriptTurns.{EventTurn, IsTurnAnswer, ScriptState, begin_turn, begins, drop_turn, drops, expire_of_call, expire_turn, expires, free_turn, is_name_taken, may_expire, refused, steps, task_begun, task_turn, turn_of, turned}
use Rattle.script_model.specs.ScriptSession.{IsRight, Session, after, after_boards, after_turn, start, IsLawfulFrom, state_after}
use Rattle.script_model.specs.LawsOfRules.{IsRuled}
use Rattle.script_model.specs.LawsOfComposition.{of_pair}
use Rattle.script_model.specs.LawsOfLines.{BoardStepsAreAlone, IsLeftAlone, LinesLeaveParties, LinesLengthenLists, PairsAreOfBoards, PartsJoin, PublicationsAreOfBoards, at_one, at_two, names, publishes, SessionsLengthenLists, publications}
use Rattle.script_model.specs.Parts.{board_part, part_of}
use Rattle.script_model.proofs.CompositionLemmas.{alone_step, lawful_split, part_append}
use Rattle.script_model.proofs.PartLemmas.{board_part_leads, boards_law_holds}
use Rattle.script_model.proofs.RuleLemmas.{ruled}
use Rattle.script_model.proofs.ScriptSoundLemmas.{ask_doing, step_doing}
use Rattle.script_model.proofs.TurnLemmas.{at_other, put_other, text_itself}

apart_from : (a b : List ℕ) → bytes_eq a b ≡ false → a ≡ b → ⊥
apart_from a b off e = false≢true (sym off ∙ ap (bytes_eq a) (sym e) ∙ text_itself a)

-- ---- whose turn it is

abbrev OfParty : List ℕ → Option EventTurn → Type 0
OfParty p None = Unit {0}
OfParty p (Some (refused why)) = Unit {0}
OfParty p (Some (begins party t)) = party ≡ p
OfParty p (Some (steps party)) = party ≡ p
OfParty p (Some (drops party name)) = party ≡ p
OfParty p (Some (expires party)) = party ≡ p

turn_if : (p : List ℕ) (b : Bool) (t u : EventTurn) → OfParty p (Some t) → OfParty p (Some u) → OfParty p (Some (if b then t else u))
turn_if p true t u h k = h
turn_if p false t u h k = k

maybe_if : (p : List ℕ) (b : Bool) (t u : Option EventTurn) → OfParty p t → OfParty p u → OfParty p (if b then t else u)
maybe_if p true t u h k = h
maybe_if p false t u h k = k

begin_of : (p : List ℕ) (y : Party) (b : Bool) → OfParty p (begin_turn y b)
begin_of p free true = tt
begin_of p free false = tt
begin_of p (running r) b = tt
begin_of p gone b = tt

drop_of : (p name : List ℕ) (y : Party) (b : Bool) → OfParty p (drop_turn y b p name)
drop_of p name free true = refl
drop_of p name free false = tt
drop_of p name (running r) b = tt
drop_of p name gone b = tt

task_is : (s : ScriptState) (p : List ℕ) (q : EventRequest) (o : Option EventTask) → OfParty p (Some (task_turn s p q o))
task_is s p q None = tt
task_is s p q (Some t) = turn_if p (is_name_taken s p (name_made q)) (refused _) (begins p t) tt refl

free_is : (p : List ℕ) (y : Party) (t : EventTurn) → OfParty p (Some t) → OfParty p (Some (free_turn y t))
free_is p free t h = h
free_is p (running r) t h = tt
free_is p gone t h = tt

call_expires : (p : List ℕ) (q : Option EventAsk) (d : Option PartyCall) → OfParty p (Some (expire_of_call p q d))
call_expires p (Some q) d = tt
call_expires p None None = tt
call_expires p None (Some d) = turn_if p (may_expire d) (expires p) (refused _) refl tt

expire_is : (s : ScriptState) (p : List ℕ) (y : Party) → OfParty p (Some (expire_turn s p y))
expire_is s p free = call_expires p (s.events.asked p) (s.events.session.doing p)
expire_is s p (running r) = tt
expire_is s p gone = tt

-- a turn is that of the party whom the line names
other_turn : (s : ScriptState) (l : ScriptLine) (party : List ℕ) → names party l ≡ false → (t : EventTurn) → turn_of s l ≡ Some t → (p : List ℕ) × OfParty p (Some t) × (party ≡ p → ⊥)
other_turn s (line.Board (board_line.Begin p c)) party off t e = (p, subst (OfParty p) e (maybe_if p (runs_on_events s.events p) _ (begin_turn (s.boards.parties p) _) tt (begin_of p (s.boards.parties p) _)), apart_from party p off)
other_turn s (line.Board (board_line.Step p)) party off t e = (p, subst (OfParty p) e (maybe_if p (runs_on_events s.events p) (Some (steps p)) None refl tt), apart_from party p off)
other_turn s (line.Board (board_line.Release p name)) party off t e = (p, subst (OfParty p) e (maybe_if p (runs_on_events s.events p) _ (drop_turn (s.boards.parties p) _ p name) tt (drop_of p name (s.boards.parties p) _)), apart_from party p off)
other_turn s (line.Board (board_line.Abandon p)) party off t e = absurd cc
other_turn s (line.Board (board_line.Words n)) party off t e = absurd cc
other_turn s (line.Event p q) party off t e =
    (p, subst (OfParty p) e (turn_if p (runs_on_events s.events p) (refused _) (free_turn (s.boards.parties p) (task_turn s p q (task_of s.events p q))) tt (free_is p (s.boards.parties p) _ (task_is s p q (task_of s.events p q)))), apart_from party p off)
other_turn s (line.Expire p) party off t e = (p, subst (OfParty p) e (expire_is s p (s.boards.parties p)), apart_from party p off)

-- ---- what a turn leaves of another party's

record LeavesEvents (x y : ScriptEvents) (party : List ℕ) : Type 0 where
  things : (name : List ℕ) → y.things party name ≡ x.things party name
  asked : y.asked party ≡ x.asked party
  doing : y.session.doing party ≡ x.session.doing party

leaves_all : (x : ScriptEvents) (party : List ℕ) → LeavesEvents x x party
leaves_all x party = record { things = λ name. refl; asked = refl; doing = refl }

module _ (x : ScriptEvents) (p party : List ℕ) (apart : party ≡ p → ⊥) where
  opened_with_things : (name : List ℕ) (n : ℕ) (o : Option Event) (m : List ℕ) → (opened_with x p name n o).things party m ≡ x.things party m
  opened_with_things name n None m = refl
  opened_with_things name n (Some e) m =
      elim e.held as (λ b. (if b then notifier_more x p name n e else x).things party m ≡ x.things party m) [ true ↦ at_other x.things p name (Some (notifier n)) party m apart | false ↦ refl ]

  opened_things : (name : List ℕ) (o : Option ℕ) (m : List ℕ) → (opened x p name o).things party m ≡ x.things party m
  opened_things name None m = refl
  opened_things name (Some n) m = opened_with_things name n (event_of x.session.stands n) m

  ask_things : (q : EventAsk) (m : List ℕ) → (ask_made x p q).things party m ≡ x.things party m
  ask_things (to_listen name k event max) m =
      elim (is_some (x.names k event)) as (λ b. (if b then x else with_listener x p name k event max).things party m ≡ x.things party m) [ true ↦ refl | false ↦ at_other x.things p name _ party m apart ]
  ask_things (to_notify name k event) m = opened_things name (x.names k event) m

  step_leaves : (o : Option EventAsk) (a : ScriptAnswer) → LeavesEvents x (step_made x p o a) party
  step_leaves (Some q) a =
      let d = ask_doing x p q in
      record {
        things = λ m. ask_things q m;
        asked = put_other (ask_made x p q).asked p None party apart ∙ ap (λ (f : List ℕ → Option EventAsk). f party) d.1;
        doing = ap (λ (f : List ℕ → Option PartyCall). f party) d.0;
      }
  step_leaves None (of_event kind name access b told) = record { things = λ m. refl; asked = refl; doing = step_doing x.session p access b (x.session.doing p) party apart }
  step_leaves None (of_boards a) = leaves_all x party
  step_leaves None (of_ask r) = leaves_all x party
  step_leaves None expired = leaves_all x party

  let_go_leaves : (name : List ℕ) (t : EventThing) (o : Option Event) → LeavesEvents x (let_go_from x p name t o) party
  let_go_leaves name t None = leaves_all x party
  let_go_leaves name (listener n) (Some e) = record { things = λ m. at_other x.things p name None party m apart; asked = refl; doing = refl }
  let_go_leaves name (notifier n) (Some e) = record { things = λ m. at_other x.things p name None party m apart; asked = refl; doing = refl }

  drop_leaves : (name : List ℕ) (o : Option EventThing) → LeavesEvents x (event_let_go x p name o) party
  drop_leaves name None = leaves_all x party
  drop_leaves name (Some t) = let_go_leaves name t (event_of x.session.stands (event_number t))

  task_leaves : (t : EventTask) → LeavesEvents x (task_begun x p t) party
  task_leaves (ask q) = record { things = λ m. refl; asked = put_other x.asked p (Some q) party apart; doing = refl }
  task_leaves (act n c) = record { things = λ m. refl; asked = refl; doing = put_other x.session.doing p _ party apart }

  abandon_leaves : LeavesEvents x (events_abandoned x p) party
  abandon_leaves = record { things = λ m. refl; asked = put_other x.asked p None party apart; doing = put_other x.session.doing p None party apart }

turn_leaves : (x : ScriptEvents) (p party : List ℕ) (t : EventTurn) (a : ScriptAnswer) → OfParty p (Some t) → (party ≡ p → ⊥) → LeavesEvents x (turned x t a) party
turn_leaves x p party (refused why) a of apart = leaves_all x party
turn_leaves x p party (begins q t) a of apart = task_leaves x q party (λ e. apart (e ∙ of)) t
turn_leaves x p party (steps q) a of apart = step_leaves x q party (λ e. apart (e ∙ of)) (x.asked q) a
turn_leaves x p party (drops q name) a of apart = drop_leaves x q party (λ e. apart (e ∙ of)) name (x.things q name)
turn_leaves x p party (expires q) a of apart = record { things = λ m. refl; asked = refl; doing = put_other x.session.doing q None party (λ e. apart (e ∙ of)) }

boards_leave : (x : ScriptEvents) (l : Line) (a : Answer) (party : List ℕ) → names party (line.Board l) ≡ false → LeavesEvents x (after_boards x l a) party
boards_leave x (board_line.Begin p c) a party off = leaves_all x party
boards_leave x (board_line.Step p) a party off = leaves_all x party
boards_leave x (board_line.Release p name) a party off = leaves_all x party
boards_leave x (board_line.Abandon p) answer.Begun party off = leaves_all x party
boards_leave x (board_line.Abandon p) (answer.Refused why) party off = leaves_all x party
boards_leave x (board_line.Abandon p) (answer.Step b told) party off = leaves_all x party
boards_leave x (board_line.Abandon p) answer.Gone party off = abandon_leaves x p party (apart_from party p off)
boards_leave x (board_line.Abandon p) (answer.Words ws) party off = leaves_all x party
boards_leave x (board_line.Words n) a party off = leaves_all x party

left_alone : (s new : ScriptState) (party : List ℕ) → IsLeft s.boards new.boards party → LeavesEvents s.events new.events party → IsLeftAlone s new party
left_alone s new party b e = record { boards = b; things = e.things; asked = e.asked; doing = e.doing }

pub lines_leave : LinesLeaveParties
lines_leave s l a party sound ok off = at l a (turn_of s l) (other_turn s l party off) off (ruled s l a ok)
  where
    at : (l : ScriptLine) (a : ScriptAnswer) (o : Option EventTurn) → ((t : EventTurn) → o ≡ Some t → (p : List ℕ) × OfParty p (Some t) × (party ≡ p → ⊥)) → names party l ≡ false → IsRuled s l a o → IsLeftAlone s (after_turn s l a o) party
    at l a (Some t) whose off r = let k = whose t refl in left_alone s _ party (left_same s.boards party) (turn_leaves s.events k.0 party t a k.1 k.2)
    at (line.Board l) a None whose off r =
        subst (λ (b : ScriptAnswer). IsLeftAlone s (after_turn s (line.Board l) b None) party) (sym r.is)
        (left_alone s _ party (line_left s.boards l r.answer party sound off) (boards_leave s.events l r.answer party off))
    at (line.Event p q) a None whose off r = absurd r
    at (line.Expire p) a None whose off r = absurd r

-- ---- published lists

record Longer (s : ScriptState) (new : ScriptState) (b i n : ℕ) : Type 0 where
  drawn : s.boards.standing.tables.last_board ≤ new.boards.standing.tables.last_board
  more : List (List ℕ)
  list : new.boards.published b i ≡ s.boards.published b i ++ more
  count : length more ≡ n

abbrev counted : Bool → ℕ
counted b = if b then 1 else 0

-- an answer of events publishes nothing
unpublished : (s : ScriptState) (l : Line) (a : ScriptAnswer) (b i : ℕ) → ((x : Answer) → a ≡ of_boards x → ⊥) → publishes s (line.Board l) a b i ≡ false
unpublished s l (of_boards x) b i off = absurd (off x refl)
unpublished s l (of_ask r) b i off = refl
unpublished s l (of_event k name x y told) b i off = refl
unpublished s l expired b i off = refl

printed_not : (o : Option Event) (d : PartyCall) (a : ScriptAnswer) → IsSomeAnd o (λ e. IsEventAccess e d.call a) → (x : Answer) → a ≡ of_boards x → ⊥
printed_not None d a h x e = h
printed_not (Some f) d a h x e = let k = sym h.printed ∙ e in absurd cc

step_not : (x : ScriptEvents) (q : Option EventAsk) (d : Option PartyCall) (a : ScriptAnswer) → IsStepOf x q d a → (y : Answer) → a ≡ of_boards y → ⊥
step_not x (Some q) d a h y e = let k = sym h ∙ e in absurd cc
step_not x None None a h y e = h
step_not x None (Some d) a h y e = printed_not (event_of x.session.stands d.on) d a h y e

-- a line that events have to do with publishes nothing
turn_publishes : (s : ScriptState) (l : ScriptLine) (a : ScriptAnswer) (b i : ℕ) (t : EventTurn) → turn_of s l ≡ Some t → IsTurnAnswer s.events t a → publishes s l a b i ≡ false
turn_publishes s (line.Board (board_line.Begin p c)) (of_boards x) b i t turn h = refl
turn_publishes s (line.Board (board_line.Begin p c)) (of_ask r) b i t turn h = refl
turn_publishes s (line.Board (board_line.Begin p c)) (of_event k name y z told) b i t turn h = refl
turn_publishes s (line.Board (board_line.Begin p c)) expired b i t turn h = refl
turn_publishes s (line.Board (board_line.Step p)) a b i t turn h = at (runs_on_events s.events p) turn
  where
    same_turn : (u : EventTurn) → Some u ≡ Some t → u ≡ t
    same_turn u e = cc

    at : (y : Bool) → (if y then Some (steps p) else None) ≡ Some t → publishes s (line.Board (board_line.Step p)) a b i ≡ false
    at true e =
        let k : IsStepOf s.events (s.events.asked p) (s.events.session.doing p) a = subst (λ (u : EventTurn). IsTurnAnswer s.events u a) (sym (same_turn (steps p) e)) h in
        unpublished s (board_line.Step p) a b i (step_not s.events (s.events.asked p) (s.events.session.doing p) a k)
    at false e = absurd cc
turn_publishes s (line.Board (board_line.Release p name)) (of_boards x) b i t turn h = refl
turn_publishes s (line.Board (board_line.Release p name)) (of_ask r) b i t turn h = refl
turn_publishes s (line.Board (board_line.Release p name)) (of_event k n y z told) b i t turn h = refl
turn_publishes s (line.Board (board_line.Release p name)) expired b i t turn h = refl
turn_publishes s (line.Board (board_line.Abandon p)) a b i t turn h = absurd cc
turn_publishes s (line.Board (board_line.Words n)) a b i t turn h = absurd cc
turn_publishes s (line.Event p q) a b i t turn h = refl
turn_publishes s (line.Expire p) a b i t turn h = refl

longer : (s : ScriptState) (l : ScriptLine) (a : ScriptAnswer) (b i : ℕ) → b ≤ s.boards.standing.tables.last_board → IsRight s l a → Longer s (after s l a) b i (counted (publishes s l a b i))
longer s l a b i le ok = at l a (turn_of s l) (turn_publishes s l a b i) (ruled s l a ok)
  where
    at : (l : ScriptLine) (a : ScriptAnswer) (o : Option EventTurn) → ((t : EventTurn) → o ≡ Some t → IsTurnAnswer s.events t a → publishes s l a b i ≡ false) → IsRuled s l a o → Longer s (after_turn s l a o) b i (counted (publishes s l a b i))
    at l a (Some t) none r = record { drawn = omega arith; more = []; list = sym (append-nil (s.boards.published b i)); count = ap counted (sym (none t refl r)) }
    at (line.Board l) a None none r =
        subst (λ (x : ScriptAnswer). Longer s (after_turn s (line.Board l) x None) b i (counted (publishes s (line.Board l) x b i))) (sym r.is) (
        let g = line_growth s.boards l r.answer b i le r.right in
        record { drawn = g.drawn; more = g.more; list = g.list; count = g.count })
    at (line.Event p q) a None none r = absurd r
    at (line.Expire p) a None none r = absurd r

pub lines_lengthen : LinesLengthenLists
lines_lengthen s l a b i le ok = let k = longer s l a b i le ok in (k.more, k.list, k.count)

session_longer : (pairs : Session) (s : ScriptState) (b i : ℕ) → b ≤ s.boards.standing.tables.last_board → IsLawfulFrom s pairs → Longer s (state_after s pairs) b i (publications s pairs b i)
session_longer [] s b i le ok = record { drawn = omega arith; more = []; list = sym (append-nil (s.boards.published b i)); count = refl }
session_longer (x ∷ xs) s b i le ok =
    let one = longer s x.0 x.1 b i le ok.0 in
    let rest = session_longer xs (after s x.0 x.1) b i (omega (arith, one.drawn)) ok.1 in
    record {
      drawn = omega (arith, one.drawn, rest.drawn);
      more = one.more ++ rest.more;
      list = rest.list ∙ ap (λ (l : List (List ℕ)). l ++ rest.more) one.list ∙ append_assoc (s.boards.published b i) one.more rest.more;
      count = length-append one.more rest.more ∙ ap (λ (n : ℕ). n + length rest.more) one.count ∙ ap (λ (n : ℕ). counted (publishes s x.0 x.1 b i) + n) rest.count;
    }

pub sessions_lengthen : SessionsLengthenLists
sessions_lengthen s pairs b i le ok = let k = session_longer pairs s b i le ok in (k.more, k.list, k.count)

-- ---- sessions of boards in a script

-- one line more
part_publications : (s : ScriptState) (l : ScriptLine) (a : ScriptAnswer) (o : Option EventTurn) (rest : boards.Session) (b i n : ℕ) → ((t : EventTurn) → o ≡ Some t → IsTurnAnswer s.events t a → publishes s l a b i ≡ false) → IsRuled s l a o
    → n ≡ publications_in (after_turn s l a o).boards rest b i → counted (publishes s l a b i) + n ≡ publications_in s.boards (part_of o l a ++ rest) b i
part_publications s l a (Some t) rest b i n none ok h =
    let nothing : counted false + n ≡ n = omega arith in
    ap (λ (x : Bool). counted x + n) (none t refl ok) ∙ nothing ∙ h
part_publications s (line.Board l) a None rest b i n none ok h =
    subst (λ (x : ScriptAnswer). counted (publishes s (line.Board l) x b i) + n ≡ publications_in s.boards (part_of None (line.Board l) x ++ rest) b i) (sym ok.is)
    (ap (λ (m : ℕ). counted (publishes s (line.Board l) (of_boards ok.answer) b i) + m) (h ∙ ap (λ (x : ScriptAnswer). publications_in (after_turn s (line.Board l) x None).boards rest b i) ok.is))
part_publications s (line.Event p q) a None rest b i n none ok h = absurd ok
part_publications s (line.Expire p) a None rest b i n none ok h = absurd ok

pub publications_of_boards : PublicationsAreOfBoards
publications_of_boards s [] b i ok = refl
publications_of_boards s (x ∷ xs) b i ok =
    part_publications s x.0 x.1 (turn_of s x.0) (board_part (after s x.0 x.1) xs) b i (publications (after s x.0 x.1) xs b i) (turn_publishes s x.0 x.1 b i) (ruled s x.0 x.1 ok.0) (publications_of_boards (after s x.0 x.1) xs b i ok.1)

pub parts_join : PartsJoin
parts_join s xs ys = part_append xs ys s

pub steps_alone : BoardStepsAreAlone
steps_alone s count party r sound run = alone_step s count party r sound run

-- a pair that is the boards' alone is one of their part
alone_part : (s : ScriptState) (x : Line × Answer) (rest : Session) → turn_of s (line.Board x.0) ≡ None → board_part s (of_pair x ∷ rest) ≡ x ∷ board_part (after s (line.Board x.0) (of_boards x.1)) rest
alone_part s x rest alone = ap (λ (o : Option EventTurn). part_of o (line.Board x.0) (of_boards x.1) ++ board_part (after s (line.Board x.0) (of_boards x.1)) rest) alone

pub pairs_of_boards : PairsAreOfBoards
pairs_of_boards p one_alone two_alone =
    let xs : Session = p.before in
    let upto_two : Session = xs ++ of_pair p.one ∷ p.between in
    let whole = lawful_split upto_two (of_pair p.two ∷ []) start p.lawful in
    let first = lawful_split xs (of_pair p.one ∷ p.between) start whole.0 in
    let between : boards.Session = board_part (after (at_one p) (line.Board p.one.0) (of_boards p.one.1)) p.between in
    let upto : board_part start upto_two ≡ board_part start xs ++ p.one ∷ between = part_append xs (of_pair p.one ∷ p.between) start ∙ ap (λ (zs : boards.Session). board_part start xs ++ zs) (alone_part (at_one p) p.one p.between one_alone) in
    let all : board_part start (upto_two ++ of_pair p.two ∷ []) ≡ board_part start xs ++ (p.one ∷ (between ++ p.two ∷ [])) =
    part_append upto_two (of_pair p.two ∷ []) start
    ∙ ap (λ (zs : boards.Session). board_part start upto_two ++ zs) (alone_part (at_two p) p.two [] two_alone)
    ∙ ap (λ (zs : boards.Session). zs ++ p.two ∷ []) upto
    ∙ append_assoc (board_part start xs) (p.one ∷ between) (p.two ∷ []) in
    record {
      pairs = record {
        before = board_part start xs;
        one = p.one;
        between = between;
        two = p.two;
        lawful = subst boards.IsLawful all (boards_law_holds (upto_two ++ of_pair p.two ∷ []) p.lawful).lawful;
      };
      before = refl;
      one = refl;
      between = refl;
      two = refl;
      met_one = (board_part_leads start xs first.0).state;
      met_two = ap (boards.state_after boards.start) (sym upto) ∙ (board_part_leads start upto_two whole.0).state;
    }
