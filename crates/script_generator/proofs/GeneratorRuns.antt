-- Runs of a generator that go on.
use Rattle.std.proofs.Common.{◌≡◌, ℕ, ◌+◌, ◌<◌, ◌≤◌, ◌^◌, List, [], ◌∷◌, ◌++◌, length, arith, refl, sym, ap, subst, ◌∙◌, append_assoc, Some}
use Rattle.std.proofs.lemmas.List.{length-append, length-map, map-append}
use Rattle.board_model.specs.declared.answer.Answer.{Answer}
use Rattle.board_model.specs.declared.line.Line.{Line}
use Rattle.board_model.specs.AnswerGrammar.{answer_line}
use Rattle.board_model.specs.LawfulSession as boards
use Rattle.board_model.specs.Tables.{entry_at}
use Rattle.script_model.specs.declared.line.ScriptLine.{ScriptLine}
use Rattle.script_model.specs.declared.line.ScriptLine.TheVariants as script_line
use Rattle.script_model.specs.ScriptAnswers.{ScriptAnswer, of_boards, script_answer_line}
use Rattle.script_model.specs.ScriptSession.{IsLawfulFrom, IsRight, Session, after, start, state_after}
use Rattle.script_model.specs.ScriptTurns.{ScriptState}
use Rattle.script_grammar.proofs.ScriptLineLemmas.{one_line}
use Rattle.script_loop.specs.Machines.{HasAnswered, StandsFor}
use Rattle.script_machine.specs.Counters.{EntryStands}
use Rattle.script_machine.specs.ScriptMachine.{StandsAfter}
use Rattle.script_generator.specs.declared.generator.Generator.{Generator}
use Rattle.script_generator.specs.declared.summary.Counts.{Counts}
use Rattle.script_generator.specs.Counting.{AreLow, HasCounted, IsRunning, OfAnswer, RanMore, RunsPlain, SpellsPlain, counted_with}
use Rattle.script_generator.proofs.EntriesStay.{entry_stays}
use Rattle.script_generator.proofs.PlainCalls.{plain_after}
use Rattle.script_generator.proofs.QuietScripts.{board_answer, quiet, quiet_after}
use Rattle.script_generator.proofs.Tallies.{counts_low, counts_more}

lawful_more : (s : ScriptState) (ps : Session) (p : ScriptLine × ScriptAnswer) → IsLawfulFrom s ps → IsRight (state_after s ps) p.0 p.1 → IsLawfulFrom s (ps ++ p ∷ [])
lawful_more s [] p h r = (r, tt)
lawful_more s (q ∷ ps) p h r = (h.0, lawful_more (after s q.0 q.1) ps p h.1 r)

state_more : (s : ScriptState) (ps : Session) (p : ScriptLine × ScriptAnswer) → state_after s (ps ++ p ∷ []) ≡ after (state_after s ps) p.0 p.1
state_more s [] p = refl
state_more s (q ∷ ps) p = state_more (after s q.0 q.1) ps p

-- as many lines as pairs
run_length : (g : Generator) (lines : List Line) (h : HasCounted g lines) → length h.session ≡ length lines
run_length g lines h = sym (length-map h.session (λ (p : ScriptLine × ScriptAnswer). p.0)) ∙ (ap length h.lines_are ∙ length-map lines script_line.Board)

-- the machine of a run stands for a session
pub run_stands : (g : Generator) (room : ℕ) → IsRunning g room → (session : Session) × StandsFor StandsAfter g.machine session
run_stands g room h = (h.run.session, h.run.stands)

-- and its counts are low
pub run_low : (g : Generator) (room : ℕ) → IsRunning g room → AreLow g.counts
run_low g room h = counts_low h.run.session g.counts h.run.stands.few h.run.counts

-- ---- one line more

module _ (old new : Generator) (bytes text : List ℕ) (answered : (session : Session) → StandsFor StandsAfter old.machine session → HasAnswered StandsAfter new.machine session bytes text)
    (counts : OfAnswer text (λ a. new.counts ≡ counted_with old.counts a)) (l : Line) (spells : SpellsPlain bytes l) where
  -- the answer behind a run is one of boards
  record IsAnswered (session : Session) : Type 0 where
    answer : Answer
    script_right : IsRight (state_after start session) (script_line.Board l) (of_boards answer)
    right : boards.IsRight (state_after start session).boards l answer
    text_is : text ≡ answer_line answer
    state : StandsAfter new.machine (length session + 1) (after (state_after start session) (script_line.Board l) (of_boards answer))

  answer_behind : (lines : List Line) (h : HasCounted old lines) → IsAnswered h.session
  answer_behind lines h =
      let s = state_after start h.session in
      let a = answered h.session h.stands in
      let same : a.line ≡ script_line.Board l = one_line bytes a.line (script_line.Board l) a.spelled spells.spelled in
      let right : IsRight s (script_line.Board l) a.answer = subst (λ (x : ScriptLine). IsRight s x a.answer) same a.right in
      let b = board_answer s h.quiet l a.answer spells.plain right in
      record {
        answer = b.answer;
        script_right = subst (λ (x : ScriptAnswer). IsRight s (script_line.Board l) x) b.is right;
        right = b.right;
        text_is = a.told ∙ ap script_answer_line b.is;
        state = subst (λ (x : ScriptAnswer). StandsAfter new.machine (length h.session + 1) (after s (script_line.Board l) x)) b.is
            (subst (λ (x : ScriptLine). StandsAfter new.machine (length h.session + 1) (after s x a.answer)) same a.state);
      }

  ran_behind : (lines : List Line) → length (lines ++ l ∷ []) < 2 ^ 62 → HasCounted old lines → HasCounted new (lines ++ l ∷ [])
  ran_behind lines lt h =
      let s = state_after start h.session in
      let a = answer_behind lines h in
      let pair : ScriptLine × ScriptAnswer = (script_line.Board l, of_boards a.answer) in
      let all : length (h.session ++ pair ∷ []) ≡ length h.session + 1 = length-append h.session (pair ∷ []) in
      let more : state_after start (h.session ++ pair ∷ []) ≡ after s (script_line.Board l) (of_boards a.answer) = state_more start h.session pair in
      let still : state_after start (h.session ++ pair ∷ []) ≡ quiet (boards.after s.boards l a.answer) = more ∙ quiet_after s h.quiet l a.answer spells.plain in
      record {
        session = h.session ++ pair ∷ [];
        lines_are = map-append _ h.session (pair ∷ []) ∙ (ap (λ (ls : List ScriptLine). ls ++ script_line.Board l ∷ []) h.lines_are ∙ sym (map-append script_line.Board lines (l ∷ [])));
        stands = record {
          lawful = lawful_more start h.session pair h.stands.lawful a.script_right;
          few = omega (arith, all, run_length old lines h, length-append lines (l ∷ []), lt);
          state = subst (λ (n : ℕ). StandsAfter new.machine n (state_after start (h.session ++ pair ∷ []))) (sym all) (subst (λ (x : ScriptState). StandsAfter new.machine (length h.session + 1) x) (sym more) a.state);
        };
        quiet = ap (λ (x : ScriptState). x.events) still;
        plain = subst (λ (x : ScriptState). RunsPlain x.boards) (sym still) (plain_after s.boards l a.answer spells.plain h.plain);
        counts = counts a.answer a.right.answer a.text_is ∙ (ap (λ (c : Counts). counted_with c a.answer) h.counts ∙ sym (counts_more h.session l a.answer h.plain spells.plain a.right));
      }

  kept_behind : (lines : List Line) (h : HasCounted old lines) (board i : ℕ) → EntryStands old.machine board i → EntryStands new.machine board i
  kept_behind lines h board i e =
      let s = state_after start h.session in
      let a = answer_behind lines h in
      let before : entry_at s.boards.standing.tables board i ≡ Some e.0 = ap (λ t. entry_at t board i) h.stands.state.represents.boards.tables ∙ e.1 in
      let later : entry_at (boards.after s.boards l a.answer).standing.tables board i ≡ Some e.0 = entry_stays s.boards l a.answer spells.plain board i e.0 before in
      let tables = ap (λ (x : ScriptState). x.boards.standing.tables) (quiet_after s h.quiet l a.answer spells.plain) in
      (e.0, ap (λ t. entry_at t board i) (sym a.state.represents.boards.tables ∙ tables) ∙ later)

  -- a line that was answered is one line more
  pub ran_line : (room : ℕ) → IsRunning old room → RanMore old new (l ∷ [])
  ran_line room here = record { run = ran_behind; entries = kept_behind here.lines here.run }

-- ---- more lines

-- one run behind another
pub ran_both : (a b c : Generator) (xs ys : List Line) → RanMore a b xs → RanMore b c ys → RanMore a c (xs ++ ys)
ran_both a b c xs ys h k = record { run = run; entries = λ board i e. k.entries board i (h.entries board i e) }
  where
    run : (lines : List Line) → length (lines ++ (xs ++ ys)) < 2 ^ 62 → HasCounted a lines → HasCounted c (lines ++ (xs ++ ys))
    run lines lt r =
        let all : (lines ++ xs) ++ ys ≡ lines ++ (xs ++ ys) = append_assoc lines xs ys in
        let few : length ((lines ++ xs) ++ ys) < 2 ^ 62 = subst (λ (ls : List Line). length ls < 2 ^ 62) (sym all) lt in
        let less : length (lines ++ xs) < 2 ^ 62 = omega (arith, length-append (lines ++ xs) ys, few) in
        subst (HasCounted c) all (k.run (lines ++ xs) few (h.run lines less r))

-- there is room for what follows
pub runs_on : (a b : Generator) (room rest : ℕ) (xs : List Line) → IsRunning a room → RanMore a b xs → length xs + rest ≤ room → IsRunning b rest
runs_on a b room rest xs h k fits =
    let few : length (h.lines ++ xs) + rest < 2 ^ 62 = omega (arith, length-append h.lines xs, h.few, fits) in
    record { lines = h.lines ++ xs; few = few; run = k.run h.lines (omega (arith, few)) h.run }
