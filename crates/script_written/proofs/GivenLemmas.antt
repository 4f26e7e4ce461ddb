-- Lines that are given are found again in what is told, and all that is told is.
use Rattle.std.proofs.Common.{◌≡◌, ℕ, false, List, [], ◌∷◌, ◌++◌, map, refl, sym, ap, ◌∙◌, append_assoc}
use Rattle.std.specs.Prelude.{◌==◌}
use Rattle.std.proofs.lemmas.List.{map-append}
use Rattle.std.proofs.lemmas.List.Elements.{All-cons}
use Rattle.board_cell_model.specs.declared.access.Access.TheVariants as board_access
use Rattle.board_event_model.specs.declared.access.EventAccess.{EventAccess}
use Rattle.board_event_model.specs.declared.access.EventAccess.TheVariants as access
use Rattle.board_event_model.specs.declared.access.EventAnswer.{EventAnswer}
use Rattle.board_event_model.specs.declared.kind.EventKind.{EventKind}
use Rattle.board_model.specs.declared.answer.Answer.{Answer}
use Rattle.board_model.specs.declared.answer.Answer.TheVariants as answer
use Rattle.board_model.specs.Lines.{IsOneLine, lines_of}
use Rattle.script_model.specs.LawsOfComposition.{Pair}
use Rattle.script_model.specs.ScriptAnswers.{ScriptAnswer, event_access_text, event_told_text, expired, of_ask, of_boards, of_event, script_answer_text}
use Rattle.script_model.specs.ScriptGrammar.{script_spell}
use Rattle.script_loop.proofs.LineLemmas.{lines_more}
use Rattle.script_exchanges.specs.Exchanges.{Told, fed_by, fed_session, given, output_of, said, text_of, told_text}
use Rattle.script_written.specs.GivenLines.{AreClear, FedSessionsAreFound, IsClear, OutputsAreReadBack, Written, alone, given_lines, is_given, pair_texts, read_lines, texts_of, told_of}

-- ---- answers don't begin as given lines do

board_answer_clear : (a : Answer) → is_given (script_answer_text (of_boards a)) ≡ false
board_answer_clear answer.Begun = refl
board_answer_clear (answer.Refused why) = refl
board_answer_clear (answer.Step board_access.Table told) = refl
board_answer_clear (answer.Step (board_access.Read b w v) told) = refl
board_answer_clear (answer.Step (board_access.Write b w v) told) = refl
board_answer_clear answer.Gone = refl
board_answer_clear (answer.Words ws) = refl

event_answer_clear : (k : EventKind) (name : List ℕ) (x : EventAccess) (a : EventAnswer) (told : List ℕ) → is_given (event_access_text k name x a ++ told) ≡ false
event_answer_clear k name access.Listener a told = refl
event_answer_clear k name (access.Set id) a told = refl
event_answer_clear k name access.Post a told = refl
event_answer_clear k name (access.Push id) a told = refl
event_answer_clear k name access.Signal a told = refl
event_answer_clear k name (access.Scan word) a told = refl
event_answer_clear k name (access.Clear id) a told = refl
event_answer_clear k name (access.Swap word) a told = refl
event_answer_clear k name access.Pop a told = refl

answer_clear : (a : ScriptAnswer) → is_given (script_answer_text a) ≡ false
answer_clear (of_boards a) = board_answer_clear a
answer_clear (of_ask r) = refl
answer_clear (of_event k name x a told) = event_answer_clear k name x a (event_told_text told)
answer_clear expired = refl

-- ---- the lines of what is told

marked : (s : List ℕ) → IsOneLine s → IsOneLine (62 ∷ 32 ∷ s)
marked s h = All-cons (λ b. (b == 10) ≡ false) 62 (32 ∷ s) refl (All-cons (λ b. (b == 10) ≡ false) 32 s refl h)

-- a line that was given, and its answer
pair_lines : (p : Pair) (rest : List ℕ) → IsClear (given p) → lines_of (told_text (given p) ++ rest) ≡ (62 ∷ 32 ∷ script_spell p.0) ∷ script_answer_text p.1 ∷ lines_of rest
pair_lines p rest h =
    let s = script_spell p.0 in
    let a = script_answer_text p.1 in
    let parts : (s ++ 10 ∷ (a ++ 10 ∷ [])) ++ rest ≡ s ++ 10 ∷ (a ++ 10 ∷ rest) = append_assoc s (10 ∷ (a ++ 10 ∷ [])) rest ∙ ap (λ (x : List ℕ). s ++ 10 ∷ x) (append_assoc a (10 ∷ []) rest) in
    ap (λ (b : List ℕ). lines_of (62 ∷ 32 ∷ b)) parts
    ∙ lines_more (62 ∷ 32 ∷ s) (a ++ 10 ∷ rest) (marked s h.0)
    ∙ ap (λ (ls : List (List ℕ)). (62 ∷ 32 ∷ s) ∷ ls) (lines_more a rest h.1)

-- a line that is said
said_line : (x rest : List ℕ) → IsClear (said x) → lines_of (told_text (said x) ++ rest) ≡ x ∷ lines_of rest
said_line x rest h = ap lines_of (append_assoc x (10 ∷ []) rest) ∙ lines_more x rest h.0

-- what is told first stands before the rest
told_first : (t : Told) (ts : List Told) (rest : List ℕ) → lines_of (text_of (t ∷ ts) ++ rest) ≡ lines_of (told_text t ++ (text_of ts ++ rest))
told_first t ts rest = ap lines_of (append_assoc (told_text t) (text_of ts) rest)

-- ---- the lines that were given

skips : (x : List ℕ) (rest : List (List ℕ)) → is_given x ≡ false → given_lines (x ∷ rest) ≡ given_lines rest
skips x [] e = refl
skips x (y ∷ more) e = rw e refl

takes : (p : Pair) (rest : List (List ℕ)) → given_lines ((62 ∷ 32 ∷ script_spell p.0) ∷ script_answer_text p.1 ∷ rest) ≡ pair_texts p ∷ given_lines rest
takes p rest = ap (λ (r : List (List ℕ × List ℕ)). pair_texts p ∷ r) (skips (script_answer_text p.1) rest (answer_clear p.1))

told_found : (ts : List Told) (rest : List ℕ) → AreClear ts → given_lines (lines_of (text_of ts ++ rest)) ≡ map pair_texts (fed_by ts) ++ given_lines (lines_of rest)
told_found [] rest h = refl
told_found (given p ∷ ts) rest h =
    ap given_lines (told_first (given p) ts rest ∙ pair_lines p (text_of ts ++ rest) h.0)
    ∙ takes p (lines_of (text_of ts ++ rest))
    ∙ ap (λ (r : List (List ℕ × List ℕ)). pair_texts p ∷ r) (told_found ts rest h.1)
told_found (said x ∷ ts) rest h =
    ap given_lines (told_first (said x) ts rest ∙ said_line x (text_of ts ++ rest) h.0)
    ∙ skips x (lines_of (text_of ts ++ rest)) h.0.1
    ∙ told_found ts rest h.1

pub all_found : FedSessionsAreFound
all_found [] h = refl
all_found (x ∷ xs) h =
    told_found x.1 (output_of xs) h.0
    ∙ ap (λ (r : List (List ℕ × List ℕ)). map pair_texts (fed_by x.1) ++ r) (all_found xs h.1)
    ∙ sym (map-append pair_texts (fed_by x.1) (fed_session xs))

-- ---- all that is told

passes : (x : List ℕ) (rest : List (List ℕ)) → is_given x ≡ false → read_lines (x ∷ rest) ≡ alone x ∷ read_lines rest
passes x [] e = refl
passes x (y ∷ more) e = rw e refl

told_read : (ts : List Told) (rest : List ℕ) → AreClear ts → read_lines (lines_of (text_of ts ++ rest)) ≡ map texts_of ts ++ read_lines (lines_of rest)
told_read [] rest h = refl
told_read (given p ∷ ts) rest h =
    ap read_lines (told_first (given p) ts rest ∙ pair_lines p (text_of ts ++ rest) h.0)
    ∙ ap (λ (r : List Written). texts_of (given p) ∷ r) (told_read ts rest h.1)
told_read (said x ∷ ts) rest h =
    ap read_lines (told_first (said x) ts rest ∙ said_line x (text_of ts ++ rest) h.0)
    ∙ passes x (lines_of (text_of ts ++ rest)) h.0.1
    ∙ ap (λ (r : List Written). alone x ∷ r) (told_read ts rest h.1)

pub all_read : OutputsAreReadBack
all_read [] h = refl
all_read (x ∷ xs) h =
    told_read x.1 (output_of xs) h.0
    ∙ ap (λ (r : List Written). map texts_of x.1 ++ r) (all_read xs h.1)
    ∙ sym (map-append texts_of x.1 (told_of xs))
