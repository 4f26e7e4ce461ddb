use Rattle.std.proofs.Common.{ℕ, List, ap, sym, subst, ◌∙◌, map}
use Rattle.std.specs.String.{string_bytes}
use Rattle.script_grammar.specs.TokenReading.{read_number}
use Rattle.board_script.specs.Top.{AreGenWords}
use Rattle.board_script.proofs.Words.{is_gen, no_other, same_text, two, unread_none}
use Rattle.board_script.proofs.top.generated_by.Goals as goal

pub returns-in_err-n-clause-none : goal.returns-in_err-n-clause-none
returns-in_err-n-clause-none c =
    let words = two string_bytes c.args.words.now c.index-words-0.result c.index-words-1.result c.if-words-ne2.false c.index-words-0.is c.index-words-1.is in
    let read = ap (λ (x : List ℕ). read_number x) (sym c.as_bytes-2.ensures.value) ∙ (sym c.number_of.ensures ∙ c.in_err-n.was) in
    unread_none c.from_residual.result (map string_bytes c.args.words.now) _ _ words read

pub returns-then-n-lt1-clause-none : goal.returns-then-n-lt1-clause-none
returns-then-n-lt1-clause-none c =
    let words = two string_bytes c.args.words.now c.index-words-0.result c.index-words-1.result c.if-words-ne2.false c.index-words-0.is c.index-words-1.is in
    let read = ap (λ (x : List ℕ). read_number x) (sym c.as_bytes-2.ensures.value) ∙ (sym c.number_of.ensures ∙ c.in_ok-n.was) in
    no_other (map string_bytes c.args.words.now) _ _ c.in_ok-n.n words read c.then-n-lt1.either

pub returns-clause-some : goal.returns-clause-some
returns-clause-some c =
    let words = two string_bytes c.args.words.now c.index-words-0.result c.index-words-1.result c.if-words-ne2.false c.index-words-0.is c.index-words-1.is in
    let read = ap (λ (x : List ℕ). read_number x) (sym c.as_bytes-2.ensures.value) ∙ (sym c.number_of.ensures ∙ c.in_ok-n.was) in
    let first = sym c.as_bytes.ensures.value ∙ (same_text c.as_bytes.result.now c.as_slice.result.now c.if-ne.ensures ∙ c.as_slice.ensures) in
    subst (λ (ws : List (List ℕ)). AreGenWords ws c.in_ok-n.n) (sym words) (is_gen _ _ c.in_ok-n.n first read c.if-n-lt1.false c.if-n-gt1000000.false)
