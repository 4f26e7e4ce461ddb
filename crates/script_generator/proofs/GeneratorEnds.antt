-- What a generator has run at its ends.
use Rattle.std.proofs.Common.{◌≡◌, ℕ, zero, suc, add-one, ◌+◌, Bool, true, false, cond, List, [], ◌∷◌, ◌++◌, length, rules, arith, refl, sym, ap, ◌∙◌, append_assoc, Option, Some, None}
use Rattle.std.specs.Prelude.{◌==◌, codes, is_some, nat_le}
use Rattle.std.proofs.lemmas.List.{length-append}
use Rattle.board_model.specs.declared.line.Line.{Line}
use Rattle.board_model.specs.declared.tables.Entry.{Entry}
use Rattle.board_model.specs.LawfulSession as boards
use Rattle.board_model.specs.Tables.{entry_at}
use Rattle.script_model.specs.ScriptSession.{Session, start, state_after}
use Rattle.script_model.specs.ScriptTurns.{ScriptState}
use Rattle.script_model.proofs.AnswerLaws.{one_session}
use Rattle.script_boards.specs.Machine.{tables_of}
use Rattle.script_machine.specs.Counters.{EntryStands}
use Rattle.script_generator.specs.declared.generator.Generator.{Generator}
use Rattle.script_generator.specs.declared.summary.Counts.{Counts}
use Rattle.script_generator.specs.Counting.{HasCounted, IsSummaryOf, RanMore, is_plain_line}
use Rattle.script_generator.specs.Generator.{asked_by, choice, drawn, line_for, number_after, number_drawn, opening, reader_calls, writer_calls}
use Rattle.script_generator.specs.Summary.{counts_of, generation_of, summary_text}
use Rattle.script_generator.specs.WorkedGenerator.{on_boards, opening_session}
use Rattle.script_generator.proofs.GeneratorRuns.{ran_both}
use Rattle.script_generator.proofs.QuietScripts.{lawful_on_boards, state_on_boards}

-- ---- the opening

pub opened_is_lawful : boards.IsLawful opening_session
opened_is_lawful = search rules

some_entry : (o : Option Entry) → is_some o ≡ true → (e : Entry) × (o ≡ Some e)
some_entry None e = absurd cc
some_entry (Some x) e = (x, refl)

-- an entry that stands after the worked opening stands after the opening
pub opening_has : (g : Generator) → HasCounted g opening → (i : ℕ) → is_some (entry_at (boards.state_after boards.start opening_session).standing.tables 1 i) ≡ true → EntryStands g.machine 1 i
opening_has g h i e =
    let same : h.session ≡ on_boards opening_session = one_session h.session (on_boards opening_session) h.stands.lawful (lawful_on_boards boards.start opening_session refl opened_is_lawful) h.lines_are in
    let found = some_entry (entry_at (boards.state_after boards.start opening_session).standing.tables 1 i) e in
    let tables : (boards.state_after boards.start opening_session).standing.tables ≡ tables_of g.machine.boards =
    ap (λ (x : ScriptState). x.boards.standing.tables) (sym (state_on_boards boards.start opening_session refl))
    ∙ (ap (λ (x : Session). (state_after start x).boards.standing.tables) (sym same) ∙ h.stands.state.represents.boards.tables) in
    (found.0, ap (λ t. entry_at t 1 i) (sym tables) ∙ found.1)

-- the opening was run
pub opening_run : (a b c d : Generator) → HasCounted a [] → RanMore a b (asked_by (codes "w") writer_calls) → RanMore b c (asked_by (codes "a") reader_calls) → RanMore c d (asked_by (codes "b") reader_calls) → HasCounted d opening
opening_run a b c d h one two three = (ran_both a b d _ _ one (ran_both b c d _ _ two three)).run [] (omega arith) h

-- ---- the lines that are drawn

pub length_drawn : (n k : ℕ) → length (drawn n k) ≡ k
length_drawn n zero = refl
length_drawn n (suc k) = length-append (drawn n k) (line_for (choice (number_drawn n (suc k))) (suc k) ∷ []) ∙ ap (λ (j : ℕ). j + 1) (length_drawn n k) ∙ add-one k

-- line k + 1 is the one behind the first k
pub drawn_more : (n k x : ℕ) → x ≡ number_after (number_drawn n k) → (opening ++ drawn n k) ++ line_for (choice x) (k + 1) ∷ [] ≡ opening ++ drawn n (k + 1)
drawn_more n k x e =
    let is : line_for (choice x) (k + 1) ≡ line_for (choice (number_drawn n (suc k))) (suc k) = ap (λ (y : ℕ). line_for (choice y) (k + 1)) e ∙ ap (λ (j : ℕ). line_for (choice (number_drawn n (suc k))) j) (add-one k) in
    append_assoc opening (drawn n k) (line_for (choice x) (k + 1) ∷ [])
    ∙ (ap (λ (z : Line). opening ++ (drawn n k ++ z ∷ [])) is
    ∙ ap (λ (j : ℕ). opening ++ drawn n j) (sym (add-one k)))

pub number_more : (n k x : ℕ) → x ≡ number_after (number_drawn n k) → x ≡ number_drawn n (k + 1)
number_more n k x e = e ∙ ap (λ (j : ℕ). number_drawn n j) (sym (add-one k))

-- the opening has 24 lines
pub length_run : (n k : ℕ) → length (opening ++ drawn n k) ≡ 24 + k
length_run n k = length-append opening (drawn n k) ∙ ap (λ (j : ℕ). 24 + j) (length_drawn n k)

either : (b : Bool) (x y : Line) → is_plain_line x ≡ true → is_plain_line y ≡ true → is_plain_line (cond b x y) ≡ true
either true x y h k = h
either false x y h k = k

pub line_is_plain : (c k : ℕ) → is_plain_line (line_for c k) ≡ true
line_is_plain c k =
    either (c == 0) _ _ refl
    (either (c == 1) _ _ refl
    (either (c == 2) _ _ refl
    (either (c == 3) _ _ refl
    (either (c == 4) _ _ refl
    (either (c == 5) _ _ refl
    (either (nat_le c 9) _ _ refl
    (either (nat_le c 12) _ _ refl refl)))))))

-- ---- the summary

pub summary_told : (g : Generator) (lines : List Line) (h : HasCounted g lines) (first second : ℕ) → first ≡ generation_of h.session 0 → second ≡ generation_of h.session 1
    → (text : List ℕ) → text ≡ summary_text g.counts first second → IsSummaryOf lines text
summary_told g lines h first second a b text t = record {
  session = h.session;
  lawful = h.stands.lawful;
  lines_are = h.lines_are;
  text_is = t ∙ ap (λ (c : Counts). summary_text c first second) h.counts
      ∙ ap (λ (k : ℕ). summary_text (counts_of h.session) k second) a
      ∙ ap (λ (k : ℕ). summary_text (counts_of h.session) (generation_of h.session 0) k) b;
}
