-- Scripts without events: each line is the boards' alone.
use Rattle.std.proofs.Common.{◌≡◌, ℕ, Bool, true, false, List, [], ◌∷◌, refl, sym, ap, subst, ◌∙◌, Option, Some, None}
use Rattle.std.specs.Prelude.{◌&&◌, is_some}
use Rattle.std.specs.List.{list_all}
use Rattle.board_model.specs.declared.answer.Answer.{Answer}
use Rattle.board_model.specs.declared.line.Line.{Line}
use Rattle.board_model.specs.declared.line.Line.TheVariants as line
use Rattle.board_model.specs.LawfulSession as boards
use Rattle.board_model.specs.LawfulSession.{State}
use Rattle.board_model.specs.Parties.{Party, free, gone, running}
use Rattle.board_model.specs.Requests.{new_name, request_of}
use Rattle.script_grammar.proofs.ReaderLemmas.{both}
use Rattle.script_model.specs.declared.line.ScriptLine.TheVariants as script_line
use Rattle.script_model.specs.ScriptAnswers.{ScriptAnswer, of_boards}
use Rattle.script_model.specs.ScriptEvents.{ScriptEvents, no_events}
use Rattle.script_model.specs.LawsOfRules.{IsBoardAnswer, IsRuled}
use Rattle.script_model.specs.ScriptSession.{IsLawfulFrom, IsRight, after, after_boards, after_turn, state_after}
use Rattle.script_model.specs.ScriptTurns.{EventTurn, ScriptState, begin_turn, takes_event_name, turn_of}
use Rattle.script_model.proofs.RuleLemmas.{right_on_boards, ruled}
use Rattle.script_generator.specs.Counting.{is_plain_line}
use Rattle.script_generator.specs.WorkedGenerator.{on_boards}

-- ---- one line

-- a state in which there is no event
abbrev pub quiet : State → ScriptState
quiet b = record { boards = b; events = no_events }

is_quiet : (s : ScriptState) → s.events ≡ no_events → s ≡ quiet s.boards
is_quiet s e = ap (λ (x : ScriptEvents). record { boards = s.boards; events = x }) e

untaken : (x : Party) → begin_turn x false ≡ None
untaken free = refl
untaken (running r) = refl
untaken gone = refl

begins : (party : List ℕ) (x : Party) (finds : Bool) (name : Option (List ℕ)) → begin_turn x (finds && takes_event_name no_events party name) ≡ None
begins party x false name = untaken x
begins party x true None = untaken x
begins party x true (Some n) = untaken x

no_turn : (b : State) (l : Line) → is_plain_line l ≡ true → turn_of (quiet b) (script_line.Board l) ≡ None
no_turn b (line.Begin party c) h = begins party (b.parties party) (is_some (request_of b.standing b.published party c)) (new_name c)
no_turn b (line.Step party) h = refl
no_turn b (line.Release party name) h = absurd cc
no_turn b (line.Abandon party) h = absurd cc
no_turn b (line.Words board) h = absurd cc

untouched : (l : Line) (a : Answer) → is_plain_line l ≡ true → after_boards no_events l a ≡ no_events
untouched (line.Begin party c) a h = refl
untouched (line.Step party) a h = refl
untouched (line.Release party name) a h = absurd cc
untouched (line.Abandon party) a h = absurd cc
untouched (line.Words board) a h = absurd cc

after_quiet : (b : State) (l : Line) (a : Answer) → is_plain_line l ≡ true → after (quiet b) (script_line.Board l) (of_boards a) ≡ quiet (boards.after b l a)
after_quiet b l a h =
    ap (λ (o : Option EventTurn). after_turn (quiet b) (script_line.Board l) (of_boards a) o) (no_turn b l h)
    ∙ ap (λ (x : ScriptEvents). record { boards = boards.after b l a; events = x }) (untouched l a h)

-- a right answer is one of boards, right by their rules
pub board_answer : (s : ScriptState) → s.events ≡ no_events → (l : Line) (a : ScriptAnswer) → is_plain_line l ≡ true → IsRight s (script_line.Board l) a → IsBoardAnswer s l a
board_answer s e l a h r =
    let none : turn_of s (script_line.Board l) ≡ None = subst (λ (x : ScriptState). turn_of x (script_line.Board l) ≡ None) (sym (is_quiet s e)) (no_turn s.boards l h) in
    subst (λ (o : Option EventTurn). IsRuled s (script_line.Board l) a o) none (ruled s (script_line.Board l) a r)

-- what follows has no event either
pub quiet_after : (s : ScriptState) → s.events ≡ no_events → (l : Line) (a : Answer) → is_plain_line l ≡ true → after s (script_line.Board l) (of_boards a) ≡ quiet (boards.after s.boards l a)
quiet_after s e l a h =
    subst (λ (x : ScriptState). after x (script_line.Board l) (of_boards a) ≡ quiet (boards.after x.boards l a)) (sym (is_quiet s e)) (after_quiet s.boards l a h)

-- ---- sessions

right_again : (b : State) (l : Line) (a : Answer) → is_plain_line l ≡ true → boards.IsRight b l a → IsRight (quiet b) (script_line.Board l) (of_boards a)
right_again b l a h r = right_on_boards (quiet b) l a (no_turn b l h) r

abbrev pub are_plain : boards.Session → Bool
are_plain ps = list_all (λ (p : Line × Answer). is_plain_line p.0) ps

-- a lawful session of boards is one in a script
pub lawful_on_boards : (b : State) (ps : boards.Session) → are_plain ps ≡ true → boards.IsLawfulFrom b ps → IsLawfulFrom (quiet b) (on_boards ps)
lawful_on_boards b [] h l = tt
lawful_on_boards b (p ∷ ps) h l =
    let s = both (is_plain_line p.0) (are_plain ps) h in
    (right_again b p.0 p.1 s.0 l.0, subst (λ (x : ScriptState). IsLawfulFrom x (on_boards ps)) (sym (after_quiet b p.0 p.1 s.0)) (lawful_on_boards (boards.after b p.0 p.1) ps s.1 l.1))

-- and leads to the same boards
pub state_on_boards : (b : State) (ps : boards.Session) → are_plain ps ≡ true → state_after (quiet b) (on_boards ps) ≡ quiet (boards.state_after b ps)
state_on_boards b [] h = refl
state_on_boards b (p ∷ ps) h =
    let s = both (is_plain_line p.0) (are_plain ps) h in
    ap (λ (x : ScriptState). state_after x (on_boards ps)) (after_quiet b p.0 p.1 s.0) ∙ state_on_boards (boards.after b p.0 p.1) ps s.1
