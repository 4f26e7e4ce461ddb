-- Lines with their answers, judged.
use Rattle.std.proofs.Common.{rules, ◌≡◌, ℕ, ◌+◌, ◌<◌, ◌≤◌, List, [], ◌∷◌, ◌++◌, length, arith, refl, sym, ap, ◌∙◌, Some, None}
use Rattle.std.specs.Prelude.{codes, decimal}
use Rattle.std.proofs.lemmas.Fmt.{decimal_digit}
use Rattle.board_cell_model.specs.declared.access.Access.TheVariants as access
use Rattle.board_event_model.specs.declared.access.EventAccess.TheVariants as events
use Rattle.board_event_model.specs.declared.access.EventAnswer.TheVariants as event_answer
use Rattle.board_event_model.specs.declared.kind.EventKind.TheVariants as kind
use Rattle.board_model.specs.declared.answer.Answer.TheVariants as answer
use Rattle.board_model.specs.declared.answer.Reason.TheVariants as reason
use Rattle.board_model.specs.declared.answer.Reply.TheVariants as reply
use Rattle.board_model.specs.declared.line.Line.TheVariants as board_line
use Rattle.board_model.specs.WorkedSessions as boards
use Rattle.script_model.specs.declared.line.ScriptLine.{ScriptLine}
use Rattle.script_model.specs.declared.line.ScriptLine.TheVariants as line
use Rattle.script_model.specs.declared.reply.EventReply.TheVariants as event_reply
use Rattle.script_model.specs.LawsOfComposition.{of_pair}
use Rattle.script_model.specs.ScriptGrammar.{IsScriptLine, SpellsLine, script_spell}
use Rattle.script_model.specs.ScriptAnswers.{of_boards, of_event, script_answer_text}
use Rattle.script_model.specs.ScriptSession.{IsLawful, IsRight, Session, start, state_after}
use Rattle.script_grammar.specs.EventReading.{board_line_first, read_event_line, read_script_line}
use Rattle.script_grammar.specs.LineReading.{read_line, read_one_name, read_plain_line}
use Rattle.script_grammar.proofs.ScriptLineLemmas.{is_only}
use Rattle.script_rules.specs.declared.rule.Rule.TheVariants as rule
use Rattle.script_rules.specs.PrintedAnswers.{IsPrinted, Printed, SpellsAnswer, a_list, a_refusal, a_step, an_end, a_begin, board_access, board_reply, event_access, events_reply, printed_text}
use Rattle.script_rules.specs.BrokenRules.{IsLineText, broken_rule}
use Rattle.script_rules.specs.SessionPairs.{BreaksAt, SpellsPairs}
use Rattle.script_rules.specs.WorkedPairs.{WorkedPairs, a_board, a_board_begins, a_wait_begins, an_update_begins, board_begun, board_made, new_board, new_handle, new_update, update_begun, wait_begun}

spells : (text : List ℕ) (l : ScriptLine) → IsScriptLine l → text ≡ script_spell l → length text ≤ 4096 → SpellsLine text l
spells text l h e short = record { line = h; bytes = e; short = short }

prints : (n : ℕ) (text : List ℕ) (p : Printed) → IsPrinted p → text ≡ printed_text p → length text ≤ 1048576 → SpellsAnswer n text
prints n text p h e short = record { printed = p; formed = h; bytes = e; short = omega (arith, short) }

-- ---- sessions

abandoned : Session
abandoned = of_pair (boards.left (codes "a")) ∷ []

abandon_line : ScriptLine
abandon_line = line.Board (board_line.Abandon (codes "a"))

step_line : ScriptLine
step_line = line.Board (board_line.Step (codes "a"))

spells_step : SpellsLine (codes "step a") step_line
unfolding step_line
spells_step = spells _ _ refl refl (omega arith)

spells_abandon : SpellsLine (codes "abandon a") abandon_line
unfolding abandon_line
spells_abandon = spells _ _ refl refl (omega arith)

abandoned_lawful : IsLawful abandoned
unfolding abandoned
abandoned_lawful = search rules

abandoned_pairs : SpellsPairs 1 (codes "abandon a" ∷ codes "gone" ∷ []) abandoned
unfolding abandoned abandon_line
abandoned_pairs = (spells_abandon, refl, prints 1 _ an_end tt refl (omega arith), tt)

refused_gone : IsRight (state_after start abandoned) step_line (of_boards (answer.Refused reason.Abandoned))
unfolding abandoned step_line
refused_gone = search rules

board_begun_lawful : IsLawful board_begun
board_begun_lawful = search rules

board_made_lawful : IsLawful board_made
board_made_lawful = search rules

update_begun_lawful : IsLawful update_begun
update_begun_lawful = search rules

-- ---- texts with numbers

digit : (n : ℕ) → n < 10 → decimal n ≡ (48 + n) ∷ []
digit n h = decimal_digit n h

-- one number in a text, and two
one_number : (f : List ℕ → List ℕ) (n : ℕ) → n < 10 → f (decimal n) ≡ f ((48 + n) ∷ [])
one_number f n h = ap f (digit n h)

two_numbers : (f : List ℕ → List ℕ → List ℕ) (m n : ℕ) → m < 10 → n < 10 → f (decimal m) (decimal n) ≡ f ((48 + m) ∷ []) ((48 + n) ∷ [])
two_numbers f m n h k = ap (λ x. f x (decimal n)) (digit m h) ∙ ap (f ((48 + m) ∷ [])) (digit n k)

board_text : script_spell (line.Board (board_line.Begin (codes "a") new_board)) ≡ codes "begin a create f b u64 add u64:1 u64:7"
board_text = two_numbers (λ x y. codes "begin a create f b u64 add u64:" ++ (x ++ (codes " u64:" ++ y))) 1 7 (omega arith) (omega arith)

handle_text : script_spell (line.Board (board_line.Begin (codes "a") new_handle)) ≡ codes "begin a entrymut m w u64:1 u64"
handle_text = one_number (λ x. codes "begin a entrymut m w u64:" ++ (x ++ codes " u64")) 1 (omega arith)

update_text : script_spell (line.Board (board_line.Begin (codes "a") new_update)) ≡ codes "begin a update m u64:9"
update_text = one_number (λ x. codes "begin a update m u64:" ++ x) 9 (omega arith)

words_text : script_spell (line.Board (board_line.Words 1)) ≡ codes "words 1"
words_text = one_number (λ x. codes "words " ++ x) 1 (omega arith)

told_text : (n : ℕ) → n < 10 → script_answer_text (of_boards (answer.Step access.Table (Some (reply.Number n)))) ≡ codes "table = ok " ++ (48 + n) ∷ []
told_text n h = one_number (λ x. codes "table = ok " ++ x) n h

list_text : (n : ℕ) → n < 10 → script_answer_text (of_boards (answer.Words (1 ∷ 0 ∷ n ∷ 0 ∷ []))) ≡ codes "words 1 0 " ++ (48 + n) ∷ codes " 0"
list_text n h =
    two_numbers (λ x y. codes "words " ++ (x ++ (32 ∷ (y ++ (32 ∷ (decimal n ++ (32 ∷ (y ++ [])))))))) 1 0 (omega arith) (omega arith)
    ∙ one_number (λ x. codes "words 1 0 " ++ (x ++ codes " 0")) n h

write_text : (n : ℕ) → n < 10 → script_answer_text (of_boards (answer.Step (access.Write 1 n 9) None)) ≡ codes "write 1:" ++ (48 + n) ∷ codes " 9"
write_text n h =
    two_numbers (λ x y. codes "write " ++ ((x ++ (58 ∷ (decimal n ++ (32 ∷ y)))) ++ [])) 1 9 (omega arith) (omega arith)
    ∙ one_number (λ x. codes "write 1:" ++ ((x ++ codes " 9") ++ [])) n h

-- ---- their pairs

told_number : (k n : ℕ) → n < 10 → SpellsAnswer k (codes "table = ok " ++ (48 + n) ∷ [])
told_number k n h = prints k _ (a_step (board_access access.Table) (Some (board_reply (reply.Number n)))) (tt, (omega (arith, h), tt)) (sym (told_text n h)) (omega arith)

begun_pairs : SpellsPairs 1 a_board_begins board_begun
begun_pairs = (spells _ _ (search rules) (sym board_text) (omega arith), refl, prints 1 _ a_begin tt refl (omega arith), tt)

made_pairs : SpellsPairs 1 a_board board_made
made_pairs = (
  spells _ _ (search rules) (sym board_text) (omega arith),
  refl,
  prints 1 _ a_begin tt refl (omega arith),
  (spells _ _ (search rules) refl (omega arith), sym (told_text 1 (omega arith)), told_number 2 1 (omega arith), tt),
)

update_pairs : SpellsPairs 1 an_update_begins update_begun
update_pairs = (
  spells _ _ (search rules) (sym board_text) (omega arith),
  refl,
  prints 1 _ a_begin tt refl (omega arith),
  (
    spells _ _ (search rules) refl (omega arith),
    sym (told_text 1 (omega arith)),
    told_number 2 1 (omega arith),
    (
      spells _ _ (search rules) refl (omega arith),
      refl,
      prints 3 _ a_begin tt refl (omega arith),
      (
        spells _ _ (search rules) refl (omega arith),
        sym (told_text 1 (omega arith)),
        told_number 4 1 (omega arith),
        (
          spells _ _ (search rules) (sym handle_text) (omega arith),
          refl,
          prints 5 _ a_begin tt refl (omega arith),
          (
            spells _ _ (search rules) refl (omega arith),
            sym (told_text 0 (omega arith)),
            told_number 6 0 (omega arith),
            (spells _ _ (search rules) (sym update_text) (omega arith), refl, prints 7 _ a_begin tt refl (omega arith), tt),
          ),
        ),
      ),
    ),
  ),
)

-- ---- what is broken

no_line : (text : List ℕ) → IsLineText text → ((l : ScriptLine) → SpellsLine text l → ⊥) → ⊥
no_line text h f = f h.0 h.1

reason_broken : BreaksAt (codes "abandon a" ∷ codes "gone" ∷ codes "step a" ∷ codes "refused idle" ∷ []) 2 rule.Reason
unfolding abandoned step_line
reason_broken = record {
  before = codes "abandon a" ∷ codes "gone" ∷ [];
  text = codes "step a";
  rest = codes "refused idle" ∷ [];
  cut = refl;
  session = abandoned;
  lawful = abandoned_lawful;
  spelled = abandoned_pairs;
  number = refl;
  breaks = record { line = step_line; spelled = spells_step; formed = prints 2 _ (a_refusal reason.Idle) tt refl (omega arith); right = of_boards (answer.Refused reason.Abandoned); is_right = refused_gone; printed = codes "refused idle"; is = refl; broken = refl };
}

answer_broken : BreaksAt (codes "abandon a" ∷ []) 1 rule.Answer
answer_broken = record { before = []; text = codes "abandon a"; rest = []; cut = refl; session = []; lawful = tt; spelled = tt; number = refl; breaks = ((abandon_line, spells_abandon), λ h. h) }

line_broken : BreaksAt (codes "abandon" ∷ codes "gone" ∷ []) 1 rule.Line
unfolding read_script_line board_line_first read_line read_plain_line read_one_name read_event_line
line_broken = record { before = []; text = codes "abandon"; rest = codes "gone" ∷ []; cut = refl; session = []; lawful = tt; spelled = tt; number = refl; breaks = λ h. no_line (codes "abandon") h (is_only (codes "abandon") None refl) }

reply_broken : BreaksAt (a_board_begins ++ codes "step a" ∷ codes "table = ok 2" ∷ []) 2 rule.Reply
unfolding step_line
reply_broken = record {
  before = a_board_begins;
  text = codes "step a";
  rest = codes "table = ok 2" ∷ [];
  cut = refl;
  session = board_begun;
  lawful = board_begun_lawful;
  spelled = begun_pairs;
  number = refl;
  breaks = record { line = step_line; spelled = spells_step; formed = told_number 2 2 (omega arith); right = of_boards (answer.Step access.Table (Some (reply.Number 1))); is_right = search rules; printed = codes "table = ok 2"; is = refl; broken = ap (λ t. broken_rule step_line t (codes "table = ok 2")) (told_text 1 (omega arith)) };
}

word_broken : BreaksAt (a_board ++ codes "words 1" ∷ codes "words 1 0 8 0" ∷ []) 3 rule.Word
word_broken = record {
  before = a_board;
  text = codes "words 1";
  rest = codes "words 1 0 8 0" ∷ [];
  cut = refl;
  session = board_made;
  lawful = board_made_lawful;
  spelled = made_pairs;
  number = refl;
  breaks = record { line = line.Board (board_line.Words 1); spelled = spells _ _ (search rules) (sym words_text) (omega arith); formed = prints 3 _ (a_list (1 ∷ 0 ∷ 8 ∷ 0 ∷ [])) (omega arith, (omega arith, (omega arith, (omega arith, tt)))) (sym (list_text 8 (omega arith))) (omega arith); right = of_boards (answer.Words (1 ∷ 0 ∷ 7 ∷ 0 ∷ [])); is_right = search rules; printed = codes "words 1 0 8 0"; is = refl; broken = ap (λ t. broken_rule (line.Board (board_line.Words 1)) t (codes "words 1 0 8 0")) (list_text 7 (omega arith)) };
}

owed_broken : BreaksAt (an_update_begins ++ codes "step a" ∷ codes "write 1:2 9" ∷ []) 8 rule.Owed
unfolding step_line
owed_broken = record {
  before = an_update_begins;
  text = codes "step a";
  rest = codes "write 1:2 9" ∷ [];
  cut = refl;
  session = update_begun;
  lawful = update_begun_lawful;
  spelled = update_pairs;
  number = refl;
  breaks = record { line = step_line; spelled = spells_step; formed = prints 8 _ (a_step (board_access (access.Write 1 2 9)) None) ((omega arith, omega arith, omega arith), tt) (sym (write_text 2 (omega arith))) (omega arith); right = of_boards (answer.Step (access.Write 1 3 9) None); is_right = search rules; printed = codes "write 1:2 9"; is = refl; broken = ap (λ t. broken_rule step_line t (codes "write 1:2 9")) (write_text 3 (omega arith)) };
}

wait_begun_lawful : IsLawful wait_begun
wait_begun_lawful = search rules

wait_pairs : SpellsPairs 1 a_wait_begins wait_begun
wait_pairs = (
  spells _ _ (search rules) refl (omega arith),
  refl,
  prints 1 _ a_begin tt refl (omega arith),
  (
    spells _ _ (search rules) refl (omega arith),
    refl,
    prints 2 _ (a_step (board_access access.Table) (Some (events_reply event_reply.Done))) (tt, (tt, tt)) refl (omega arith),
    (spells _ _ (search rules) refl (omega arith), refl, prints 3 _ a_begin tt refl (omega arith), tt),
  ),
)

popped : Printed
popped = a_step (event_access kind.Queue (codes "q") events.Pop (event_answer.Id 5)) (Some (events_reply (event_reply.Id 5)))

popped_text : printed_text popped ≡ codes "pop queue:q 5 = id 5"
unfolding popped
popped_text = one_number (λ x. codes "pop queue:q " ++ (x ++ (codes " = id " ++ x))) 5 (omega arith)

popped_formed : IsPrinted popped
unfolding popped
popped_formed = ((refl, record { text = refl; numbers = tt; answers = omega arith; reply = tt }), (omega arith, tt))

event_broken : BreaksAt (a_wait_begins ++ codes "step a" ∷ codes "pop queue:q 5 = id 5" ∷ []) 4 rule.Event
unfolding step_line
event_broken = record {
  before = a_wait_begins;
  text = codes "step a";
  rest = codes "pop queue:q 5 = id 5" ∷ [];
  cut = refl;
  session = wait_begun;
  lawful = wait_begun_lawful;
  spelled = wait_pairs;
  number = refl;
  breaks = record { line = step_line; spelled = spells_step; formed = prints 4 _ popped popped_formed (sym popped_text) (omega arith); right = of_event kind.Queue (codes "q") events.Pop event_answer.Empty (Some event_reply.Nothing); is_right = search rules; printed = codes "pop queue:q 5 = id 5"; is = refl; broken = refl };
}

pub worked_pairs : WorkedPairs
unfolding abandoned
worked_pairs = record {
  empty = record { session = []; lawful = tt; spelled = tt; counted = refl };
  gone = record { session = abandoned; lawful = abandoned_lawful; spelled = abandoned_pairs; counted = refl };
  reason = reason_broken;
  answer = answer_broken;
  line = line_broken;
  reply = reply_broken;
  word = word_broken;
  owed = owed_broken;
  event = event_broken;
}
