-- Each line of a script has a right answer, and each list of lines a lawful session.
use Rattle.std.proofs.Common.{◌≡◌, ℕ, ◌+◌, ◌<◌, ◌≤◌, ◌^◌, Bool, true, false, List, [], ◌∷◌, ◌++◌, length, arith, Option, Some, None, refl, sym, ap, subst, append_assoc}
use Rattle.std.specs.Prelude.{◌&&◌, if◌then◌else◌, is_some}
use Rattle.std.specs.List.{AllByRecursion}
use Rattle.std.proofs.lemmas.List.{append-nil, length_push}
use Rattle.board_event_model.specs.EventSessions.{PartyCall}
use Rattle.board_model.specs.declared.answer.Answer.{Answer}
use Rattle.board_model.specs.declared.answer.Answer.TheVariants as answer
use Rattle.board_model.specs.declared.answer.Reason.{Reason}
use Rattle.board_model.specs.declared.answer.Reason.TheVariants as reason
use Rattle.board_model.specs.declared.line.Line.{Line}
use Rattle.board_model.specs.declared.line.Line.TheVariants as board_line
use Rattle.board_model.specs.Parties.{Party, free, gone, running}
use Rattle.board_model.specs.Requests.{new_name, request_of}
use Rattle.board_model.specs.LawfulSession as boards
use Rattle.board_model.proofs.FormLaws.{each_line as each_board_line}
use Rattle.script_model.specs.declared.line.EventRequest.{EventRequest}
use Rattle.script_model.specs.declared.line.ScriptLine.{ScriptLine}
use Rattle.script_model.specs.declared.line.ScriptLine.TheVariants as line
use Rattle.script_model.specs.ScriptGrammar.{IsScriptLine}
use Rattle.script_model.specs.ScriptAnswers.{ScriptAnswer, expired, of_boards}
use Rattle.script_model.specs.ScriptEvents.{EventAsk, EventTask, holds_event, name_made, runs_on_events, task_of}
use Rattle.script_model.specs.ScriptTurns.{EventTurn, ScriptState, begin_turn, begins, board_turn, drop_turn, expire_of_call, expire_turn, free_turn, is_name_taken, may_expire, refused, request_turn, steps, takes_event_name, task_turn, turn_of}
use Rattle.script_model.specs.LawsOfRules.{IsRuled}
use Rattle.script_model.specs.ScriptSession.{IsLawful, IsLawfulFrom, Session, after, asked_lines, start, state_after}
use Rattle.script_model.specs.SoundEvents.{IsSoundScript}
use Rattle.script_model.specs.LawsOfSound.{SessionsAreSound}
use Rattle.script_model.specs.LawsOfForms.{EachLineHasAnAnswer, EachScriptHasASession}
use Rattle.script_model.proofs.FormedLemmas.{turns_right}
use Rattle.script_model.proofs.OwedLemmas.{step_answer}

-- ---- answers by the rules

abbrev HasRule : ScriptState → ScriptLine → Option EventTurn → Type 0
HasRule s l t = (a : ScriptAnswer) × IsRuled s l a t

abbrev HasBoardAnswer : ScriptState → Line → Type 0
HasBoardAnswer s l = (a : Answer) × boards.IsRight s.boards l a

board_rule : (s : ScriptState) (l : Line) → HasBoardAnswer s l → HasRule s (line.Board l) None
board_rule s l k = (of_boards k.0, record { answer = k.0; right = k.1; is = refl })

refused_rule : (s : ScriptState) (l : ScriptLine) (why : Reason) → HasRule s l (Some (refused why))
refused_rule s l why = (of_boards (answer.Refused why), refl)

if_rule : (s : ScriptState) (l : ScriptLine) (b : Bool) (t u : Option EventTurn) → HasRule s l t → HasRule s l u → HasRule s l (if b then t else u)
if_rule s l true t u h k = h
if_rule s l false t u h k = k

if_turn : (s : ScriptState) (l : ScriptLine) (b : Bool) (t u : EventTurn) → HasRule s l (Some t) → HasRule s l (Some u) → HasRule s l (Some (if b then t else u))
if_turn s l true t u h k = h
if_turn s l false t u h k = k

-- ---- lines of boards

begin_rule : (s : ScriptState) (l : Line) → HasBoardAnswer s l → (party : Party) (taken : Bool) → HasRule s (line.Board l) (begin_turn party taken)
begin_rule s l k free true = refused_rule s (line.Board l) reason.Taken
begin_rule s l k free false = board_rule s l k
begin_rule s l k (running r) taken = board_rule s l k
begin_rule s l k gone taken = board_rule s l k

drop_rule : (s : ScriptState) (l : Line) → HasBoardAnswer s l → (party : Party) (is : Bool) (holder name : List ℕ) → HasRule s (line.Board l) (drop_turn party is holder name)
drop_rule s l k free true holder name = (_, refl)
drop_rule s l k free false holder name = board_rule s l k
drop_rule s l k (running r) is holder name = board_rule s l k
drop_rule s l k gone is holder name = board_rule s l k

step_rule : (s : ScriptState) (n : ℕ) → IsSoundScript s n → n < 2 ^ 63 → (party : List ℕ) → HasBoardAnswer s (board_line.Step party) → (b : Bool) → runs_on_events s.events party ≡ b
    → HasRule s (line.Board (board_line.Step party)) (if b then Some (steps party) else None)
step_rule s n sound few party k true e = step_answer s.events n sound.events few party e
step_rule s n sound few party k false e = board_rule s (board_line.Step party) k

board_line_rule : (s : ScriptState) (n : ℕ) → IsSoundScript s n → n < 2 ^ 63 → (l : Line) → HasBoardAnswer s l → HasRule s (line.Board l) (board_turn s l)
board_line_rule s n sound few (board_line.Begin party c) k =
    if_rule s (line.Board (board_line.Begin party c)) (runs_on_events s.events party) _ _ (refused_rule s (line.Board (board_line.Begin party c)) reason.Busy)
    (begin_rule s (board_line.Begin party c) k (s.boards.parties party) (is_some (request_of s.boards.standing s.boards.published party c) && takes_event_name s.events party (new_name c)))
board_line_rule s n sound few (board_line.Step party) k = step_rule s n sound few party k (runs_on_events s.events party) refl
board_line_rule s n sound few (board_line.Release party name) k =
    if_rule s (line.Board (board_line.Release party name)) (runs_on_events s.events party) _ _ (refused_rule s (line.Board (board_line.Release party name)) reason.Busy)
    (drop_rule s (board_line.Release party name) k (s.boards.parties party) (holds_event s.events party name) party name)
board_line_rule s n sound few (board_line.Abandon party) k = board_rule s (board_line.Abandon party) k
board_line_rule s n sound few (board_line.Words b) k = board_rule s (board_line.Words b) k

-- ---- lines of events

task_rule : (s : ScriptState) (l : ScriptLine) (party : List ℕ) (q : EventRequest) (o : Option EventTask) → HasRule s l (Some (task_turn s party q o))
task_rule s l party q None = refused_rule s l reason.Unknown
task_rule s l party q (Some t) = if_turn s l (is_name_taken s party (name_made q)) _ (begins party t) (refused_rule s l reason.Taken) (of_boards answer.Begun, refl)

free_rule : (s : ScriptState) (l : ScriptLine) (party : Party) (t : EventTurn) → HasRule s l (Some t) → HasRule s l (Some (free_turn party t))
free_rule s l free t h = h
free_rule s l (running r) t h = refused_rule s l reason.Busy
free_rule s l gone t h = refused_rule s l reason.Abandoned

request_rule : (s : ScriptState) (l : ScriptLine) (party : List ℕ) (q : EventRequest) → HasRule s l (Some (request_turn s party q))
request_rule s l party q =
    if_turn s l (runs_on_events s.events party) _ _ (refused_rule s l reason.Busy)
    (free_rule s l (s.boards.parties party) (task_turn s party q (task_of s.events party q)) (task_rule s l party q (task_of s.events party q)))

expire_call_rule : (s : ScriptState) (l : ScriptLine) (party : List ℕ) (asked : Option EventAsk) (doing : Option PartyCall) → HasRule s l (Some (expire_of_call party asked doing))
expire_call_rule s l party (Some q) doing = refused_rule s l reason.NotWaiting
expire_call_rule s l party None None = refused_rule s l reason.Idle
expire_call_rule s l party None (Some d) = if_turn s l (may_expire d) _ _ (expired, refl) (refused_rule s l reason.NotWaiting)

expire_rule : (s : ScriptState) (l : ScriptLine) (party : List ℕ) (x : Party) → HasRule s l (Some (expire_turn s party x))
expire_rule s l party free = expire_call_rule s l party (s.events.asked party) (s.events.session.doing party)
expire_rule s l party (running r) = refused_rule s l reason.NotWaiting
expire_rule s l party gone = refused_rule s l reason.Abandoned

-- ---- a line

-- the boards of a session are those of a lawful session of boards of no more lines
abbrev pub BoardsAreLawful : Type 0
BoardsAreLawful = (pairs : Session) → IsLawful pairs → (part : boards.Session) × boards.IsLawful part × (boards.state_after boards.start part ≡ (state_after start pairs).boards) × (length part ≤ length pairs)

each_rule : (s : ScriptState) (n : ℕ) → IsSoundScript s n → n < 2 ^ 63 → (l : ScriptLine) → IsScriptLine l → ((k : Line) → line.Board k ≡ l → HasBoardAnswer s k) → HasRule s l (turn_of s l)
each_rule s n sound few (line.Board l) h board = board_line_rule s n sound few l (board l refl)
each_rule s n sound few (line.Event party q) h board = request_rule s (line.Event party q) party q
each_rule s n sound few (line.Expire party) h board = expire_rule s (line.Expire party) party (s.boards.parties party)

board_answer : BoardsAreLawful → (pairs : Session) → IsLawful pairs → length pairs < 2 ^ 63 → (l : ScriptLine) → IsScriptLine l → (k : Line) → line.Board k ≡ l → HasBoardAnswer (state_after start pairs) k
board_answer law pairs h few l is k e =
    let b = law pairs h in
    let short = b.3 in
    let a = each_board_line b.0 k b.1 (omega (arith, short, few)) (subst IsScriptLine (sym e) is) in
    (a.0, subst (λ (x : boards.State). boards.IsRight x k a.0) b.2 a.1)

-- each line has a right answer, where sessions are sound and their boards' part is lawful
pub each_line : SessionsAreSound → BoardsAreLawful → EachLineHasAnAnswer
each_line sound law pairs l h few is =
    let a = each_rule (state_after start pairs) (length pairs) (sound pairs h) few l is (board_answer law pairs h few l is) in
    (a.0, turns_right (state_after start pairs) l a.0 (length pairs) (sound pairs h) few (record { line = is; rule = a.1 }))

-- ---- a session

lawful_join : (xs ys : Session) (s : ScriptState) → IsLawfulFrom s xs → IsLawfulFrom (state_after s xs) ys → IsLawfulFrom s (xs ++ ys)
lawful_join [] ys s h k = k
lawful_join (x ∷ xs) ys s h k = (h.0, lawful_join xs ys (after s x.0 x.1) h.1 k)

abbrev GoesOn : Session → List ScriptLine → Type 0
GoesOn pairs lines = (more : Session) × IsLawful (pairs ++ more) × (asked_lines more ≡ lines)

goes_on : EachLineHasAnAnswer → (lines : List ScriptLine) (pairs : Session) → IsLawful pairs → length pairs + length lines < 2 ^ 63 → AllByRecursion IsScriptLine lines → GoesOn pairs lines
goes_on each [] pairs h lt a = ([], subst IsLawful (sym (append-nil pairs)) h, refl)
goes_on each (l ∷ ls) pairs h lt a =
    let x = each pairs l h (omega (arith, lt)) a.0 in
    let next : IsLawful (pairs ++ (l, x.0) ∷ []) = lawful_join pairs ((l, x.0) ∷ []) start h (x.1, tt) in
    let n : length (pairs ++ (l, x.0) ∷ []) ≡ length pairs + 1 = length_push pairs (l, x.0) in
    let k = goes_on each ls (pairs ++ (l, x.0) ∷ []) next (omega (arith, n, lt)) a.1 in
    ((l, x.0) ∷ k.0, subst IsLawful (append_assoc pairs ((l, x.0) ∷ []) k.0) k.1, ap (λ (z : List ScriptLine). l ∷ z) k.2)

-- where each line has an answer, each script has a session
pub each_script : EachLineHasAnAnswer → EachScriptHasASession
each_script each lines a lt = goes_on each lines [] tt (omega (arith, lt)) a
