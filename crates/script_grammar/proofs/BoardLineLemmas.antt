-- Board lines are read back from their tokens, and what is read has these tokens; so their bytes tell them apart.
use Rattle.std.proofs.Common.{◌≡◌, ℕ, true, List, [], ◌∷◌, Some, refl, sym, ap, subst, ◌∙◌}
use Rattle.std.specs.Prelude.{codes}
use Rattle.board_model.specs.declared.line.Line.{Line}
use Rattle.board_model.specs.declared.line.Line.TheVariants as line
use Rattle.board_model.specs.LineGrammar.{is_name, tokens, spell, IsLine}
use Rattle.script_grammar.specs.TokenReading.{◌>>=◌, guard, first_by, is_end, read_number, read_name, split_tokens}
use Rattle.script_grammar.specs.LineReading.{read_call, read_one_name, read_two_names, read_begin, read_words, read_plain_line, read_line}
use Rattle.script_grammar.specs.LawsOfBoardLines.{BytesSpellOneBoardLine, FormsAreSpelledApart}
use Rattle.script_grammar.proofs.ReaderLemmas.{some_is, bind_some, guard_some, by_word, no_word, first_takes, end_takes, token_before, word_before}
use Rattle.script_grammar.proofs.NumeralLemmas.{number_again, number_takes}
use Rattle.script_grammar.proofs.TokenLemmas.{name_again, name_takes}
use Rattle.script_grammar.proofs.CallLemmas.{call_takes, call_again, one_again, one_takes, two_again, two_take}
use Rattle.script_grammar.proofs.SpaceLemmas.{split_spell}

-- ---- lines from tokens

pub record TakesLine (ts : List (List ℕ)) (l : Line) : Type 0 where
  pub tokens : ts ≡ tokens l
  pub is : IsLine l

begin_takes : (ts : List (List ℕ)) (l : Line) → read_begin ts ≡ Some l → TakesLine (codes "begin" ∷ ts) l
unfolding read_begin
begin_takes ts l e =
    let p = bind_some (first_by read_name ts) _ l e in
    let c = bind_some (read_call p.0.1) (λ c. Some (line.Begin p.0.0 c)) l p.2 in
    let tp = first_takes read_name ts p.0 p.1 in
    let np = name_takes tp.token p.0.0 tp.is in
    let tc = call_takes p.0.1 c.0 c.1 in
    subst (TakesLine (codes "begin" ∷ ts)) (some_is (line.Begin p.0.0 c.0) l c.2)
    (record { tokens = word_before (codes "begin") (token_before tp.all np.token tc.tokens); is = (np.named, tc.is) })

-- a line of a party alone
of_party : (word : List ℕ) (make : List ℕ → Line) → ((p : List ℕ) → is_name p ≡ true → TakesLine (word ∷ p ∷ []) (make p)) → (ts : List (List ℕ)) (l : Line) → (read_one_name ts >>= λ p. Some (make p)) ≡ Some l → TakesLine (word ∷ ts) l
of_party word make made ts l e =
    let p = bind_some (read_one_name ts) (λ p. Some (make p)) l e in
    let t = one_takes ts p.0 p.1 in
    let m = made p.0 t.named in
    subst (TakesLine (word ∷ ts)) (some_is (make p.0) l p.2) (record { tokens = word_before word t.tokens ∙ m.tokens; is = m.is })

drop_takes : (ts : List (List ℕ)) (l : Line) → (read_two_names ts >>= λ p. Some (line.Release p.0 p.1)) ≡ Some l → TakesLine (codes "drop" ∷ ts) l
drop_takes ts l e =
    let p = bind_some (read_two_names ts) (λ p. Some (line.Release p.0 p.1)) l e in
    let t = two_take ts p.0 p.1 in
    subst (TakesLine (codes "drop" ∷ ts)) (some_is (line.Release p.0.0 p.0.1) l p.2)
    (record { tokens = ap (λ (x : List (List ℕ)). codes "drop" ∷ x) t.tokens; is = (t.first, t.second) })

words_takes : (ts : List (List ℕ)) (l : Line) → read_words ts ≡ Some l → TakesLine (codes "words" ∷ ts) l
unfolding read_words
words_takes ts l e =
    let n = bind_some (first_by read_number ts) (λ n. guard (is_end n.1) (Some (line.Words n.0))) l e in
    let g = guard_some (is_end n.0.1) (Some (line.Words n.0.0)) l n.2 in
    let t = first_takes read_number ts n.0 n.1 in
    let d = number_takes t.token n.0.0 t.is in
    subst (TakesLine (codes "words" ∷ ts)) (some_is (line.Words n.0.0) l g.1)
    (record { tokens = word_before (codes "words") (token_before t.all d.0 (end_takes n.0.1 g.0)); is = d.1 })

plain_line_takes : (word : List ℕ) (ts : List (List ℕ)) (l : Line) → read_plain_line word ts ≡ Some l → TakesLine (word ∷ ts) l
unfolding read_plain_line
plain_line_takes word ts l e =
    by_word (λ w. TakesLine (w ∷ ts) l) word (codes "step") _ _ l e (of_party (codes "step") (λ p. line.Step p) (λ p h. record { tokens = refl; is = h }) ts l)
    (λ e. by_word (λ w. TakesLine (w ∷ ts) l) word (codes "drop") _ _ l e (drop_takes ts l)
    (λ e. by_word (λ w. TakesLine (w ∷ ts) l) word (codes "abandon") _ _ l e (of_party (codes "abandon") (λ p. line.Abandon p) (λ p h. record { tokens = refl; is = h }) ts l)
    (λ e. by_word (λ w. TakesLine (w ∷ ts) l) word (codes "words") _ _ l e (words_takes ts l)
    (no_word (TakesLine (word ∷ ts) l) l))))

-- what is read has these tokens
pub line_takes : (ts : List (List ℕ)) (l : Line) → read_line ts ≡ Some l → TakesLine ts l
unfolding read_line
line_takes [] l e = absurd cc
line_takes (word ∷ ts) l e = by_word (λ w. TakesLine (w ∷ ts) l) word (codes "begin") _ _ l e (begin_takes ts l) (plain_line_takes word ts l)

-- the tokens of a line are read as that line
pub line_again : (l : Line) → IsLine l → read_line (tokens l) ≡ Some l
unfolding read_line read_plain_line read_words read_begin
line_again (line.Begin p c) h = rw (name_again p h.0, call_again c h.1) refl
line_again (line.Step p) h = rw (one_again p h) refl
line_again (line.Words b) h = rw (number_again b h) refl
line_again (line.Release p t) h = rw (two_again p t h.0 h.1) refl
line_again (line.Abandon p) h = rw (one_again p h) refl

-- ---- lines from bytes

is_read : (l : Line) → IsLine l → read_line (split_tokens (spell l)) ≡ Some l
is_read l h = ap read_line (split_spell l h) ∙ line_again l h

-- lines of any form are told apart by their bytes
pub forms_apart : FormsAreSpelledApart
forms_apart k l hk hl e = some_is k l (sym (is_read k hk) ∙ ap (λ (bytes : List ℕ). read_line (split_tokens bytes)) e ∙ is_read l hl)

pub one_board_line : BytesSpellOneBoardLine
one_board_line bytes k l hk hl = forms_apart k l hk.line hl.line (sym hk.bytes ∙ hl.bytes)
