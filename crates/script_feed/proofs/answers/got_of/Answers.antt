use Rattle.std.proofs.Common.{◌≡◌, ℕ, List, ◌∷◌, ◌++◌, [], ap, ◌∙◌, arith, Some, None}
use Rattle.std.specs.Prelude.{codes, decimal}
use Rattle.board_model.specs.AnswerGrammar.{words_text}
use Rattle.script_grammar.specs.TokenReading.{read_number}
use Rattle.script_feed.proofs.AnswerLemmas.{before_lacks, before_reply, ending_is, going_lacks, number_is, told_is, told_of, words_lack}
use Rattle.script_feed.proofs.answers.got_of.Goals as goal

pub returns-in_err-told-clause-ends : goal.returns-in_err-told-clause-ends
returns-in_err-told-clause-ends c = λ got e.
    absurd (c.in_err-told.ensures.there (before_reply e.0) (codes " ") (told_of got ++ 10 ∷ []) (before_lacks e.0 e.1.0) (omega arith) (ending_is c.args.answer.now got e))

pub returns-in_err-text-clause-ends : goal.returns-in_err-text-clause-ends
returns-in_err-text-clause-ends c = λ got e.
    let told : c.in_ok-told.told.now ≡ told_of got ++ 10 ∷ [] = c.in_ok-told.ensures.there (before_reply e.0) (codes " ") (told_of got ++ 10 ∷ []) (before_lacks e.0 e.1.0) (omega arith) (ending_is c.args.answer.now got e) in
    absurd (c.in_err-text.ensures (told_of got) 10 told)

pub returns-in_err-digits-clause-ends : goal.returns-in_err-digits-clause-ends
returns-in_err-digits-clause-ends c = λ got e.
    let told : c.in_ok-told.told.now ≡ told_of got ++ 10 ∷ [] = c.in_ok-told.ensures.there (before_reply e.0) (codes " ") (told_of got ++ 10 ∷ []) (before_lacks e.0 e.1.0) (omega arith) (ending_is c.args.answer.now got e) in
    let text : c.in_ok-text.text.now ≡ told_of got = c.in_ok-text.ensures (told_of got) 10 told in
    absurd (c.in_err-digits.ensures.there (words_text got.type got.words) (codes "gen ") (decimal got.generation) (words_lack got.type got.words e.1.1.0) (omega arith) (text ∙ told_is got))

pub returns-in_err-generation-clause-ends : goal.returns-in_err-generation-clause-ends
returns-in_err-generation-clause-ends c = λ got e.
    let told : c.in_ok-told.told.now ≡ told_of got ++ 10 ∷ [] = c.in_ok-told.ensures.there (before_reply e.0) (codes " ") (told_of got ++ 10 ∷ []) (before_lacks e.0 e.1.0) (omega arith) (ending_is c.args.answer.now got e) in
    let text : c.in_ok-text.text.now ≡ told_of got = c.in_ok-text.ensures (told_of got) 10 told in
    let digits : c.in_ok-digits.digits.now ≡ decimal got.generation = c.in_ok-digits.ensures.there (words_text got.type got.words) (codes "gen ") (decimal got.generation) (words_lack got.type got.words e.1.1.0) (omega arith) (text ∙ told_is got) in
    let read : read_number c.in_ok-digits.digits.now ≡ Some got.generation = ap (λ (t : List ℕ). read_number t) digits ∙ number_is got.generation e.1.1.1 in
    let was : c.number_of.result ≡ None = c.in_err-generation.was in
    let is : c.number_of.result ≡ Some got.generation = c.number_of.ensures ∙ read in
    absurd cc

pub returns-clause-goes_on : goal.returns-clause-goes_on
returns-clause-goes_on c = λ g. c.in_ok-told.ensures.none (going_lacks c.args.answer.now g)

pub returns-clause-ends : goal.returns-clause-ends
returns-clause-ends c = λ got e.
    let told : c.in_ok-told.told.now ≡ told_of got ++ 10 ∷ [] = c.in_ok-told.ensures.there (before_reply e.0) (codes " ") (told_of got ++ 10 ∷ []) (before_lacks e.0 e.1.0) (omega arith) (ending_is c.args.answer.now got e) in
    let text : c.in_ok-text.text.now ≡ told_of got = c.in_ok-text.ensures (told_of got) 10 told in
    let digits : c.in_ok-digits.digits.now ≡ decimal got.generation = c.in_ok-digits.ensures.there (words_text got.type got.words) (codes "gen ") (decimal got.generation) (words_lack got.type got.words e.1.1.0) (omega arith) (text ∙ told_is got) in
    let read : read_number c.in_ok-digits.digits.now ≡ Some got.generation = ap (λ (t : List ℕ). read_number t) digits ∙ number_is got.generation e.1.1.1 in
    let was : c.number_of.result ≡ Some c.in_ok-generation.generation = c.in_ok-generation.was in
    let is : c.number_of.result ≡ Some got.generation = c.number_of.ensures ∙ read in
    record { text_is = text; generation_is = cc }
