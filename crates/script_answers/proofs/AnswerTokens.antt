-- What is read as an answer is one.
use Rattle.std.proofs.Common.{◌≡◌, ℕ, true, List, [], ◌∷◌, ◌++◌, drop, refl, sym, ap, subst, ◌∙◌, append_assoc, None, ◌⊎◌, inl, inr}
use Rattle.std.specs.Prelude.{codes, decimal, ◌&&◌}
use Rattle.std.specs.List.{join_with_byte, list_all, AllByRecursion}
use Rattle.std.specs.Str.{bytes_eq}
use Rattle.board_cell_model.specs.declared.access.Access.TheVariants as access
use Rattle.board_event_model.specs.declared.access.EventAccess.{EventAccess}
use Rattle.board_event_model.specs.declared.access.EventAccess.TheVariants as event_access
use Rattle.board_event_model.specs.declared.access.EventAnswer.{EventAnswer}
use Rattle.board_event_model.specs.declared.access.EventAnswer.TheVariants as event_answer
use Rattle.board_event_model.specs.EventMemory.{kind_of_access}
use Rattle.board_model.specs.declared.answer.Reason.TheVariants as reason
use Rattle.board_model.specs.LineGrammar.{IsNumber}
use Rattle.script_model.specs.ScriptGrammar.{is_event_name}
use Rattle.script_model.specs.ScriptAnswers.{IsFormedAccess, event_access_text}
use Rattle.script_rules.specs.PrintedAnswers.{IsPrinted, IsStepAccess, Printed, StepAccess, a_begin, a_list, a_refusal, a_step, an_end, an_expiry, board_access, event_access, printed_text, step_access_text, step_told_text}
use Rattle.script_rules.specs.StepGroups.{place_token}
use Rattle.script_grammar.specs.LineReading.{begins_with}
use Rattle.script_grammar.specs.TokenReading.{is_end}
use Rattle.script_grammar.proofs.ReaderLemmas.{both, end_takes, word_is}
use Rattle.script_answers.specs.declared.item.Item.{Item}
use Rattle.script_answers.specs.declared.item.Item.TheVariants as item
use Rattle.script_answers.specs.AnswerReading.{begins_so, is_item, is_number, is_reason, reads_answer, reads_event_step, reads_last, reads_one, reads_step, reads_told, reads_two, reason_words}
use Rattle.script_answers.proofs.Choices.{among_at, either, either_word, has_first, has_word, word_at, words_at}
use Rattle.script_answers.proofs.Joined.{joined_each}
use Rattle.script_answers.proofs.ItemLemmas.{event_token_of, numeral, place_token_of}
use Rattle.script_answers.proofs.ReplyTokens.{IsTold, numbers_left, told_of}

-- the text is that of an answer
pub record IsAnswerText (text : List ℕ) : Type 0 where
  pub printed : Printed
  pub formed : IsPrinted printed
  pub same : text ≡ printed_text printed

abbrev AreAnswerTokens : List (List ℕ) → Type 0
AreAnswerTokens ts = IsAnswerText (join_with_byte 32 ts)

of_word : (t v : List ℕ) (ts : List (List ℕ)) → t ≡ v → AreAnswerTokens (v ∷ ts) → AreAnswerTokens (t ∷ ts)
of_word t v ts e h = subst (λ (x : List ℕ). AreAnswerTokens (x ∷ ts)) (sym e) h

of_rest : (t : List ℕ) (ts us : List (List ℕ)) → ts ≡ us → AreAnswerTokens (t ∷ us) → AreAnswerTokens (t ∷ ts)
of_rest t ts us e h = subst (λ (x : List (List ℕ)). AreAnswerTokens (t ∷ x)) (sym e) h

printed_is : (p : Printed) → IsPrinted p → IsAnswerText (printed_text p)
printed_is p h = record { printed = p; formed = h; same = refl }

-- ---- steps

-- an access of these tokens, with what is told behind it
step_with : (a : StepAccess) (t : List ℕ) (us rest : List (List ℕ)) → IsStepAccess a → step_access_text a ≡ join_with_byte 32 (t ∷ us) → IsTold rest → AreAnswerTokens ((t ∷ us) ++ rest)
step_with a t us rest h e k = record { printed = a_step a k.told; formed = (h, k.is); same = k.joined t us ∙ ap (λ (x : List ℕ). x ++ step_told_text k.told) (sym e) }

-- one token, and what is told behind it
record HasOne (i : Item) (ts : List (List ℕ)) : Type 0 where
  one : List ℕ
  is : is_item i one ≡ true
  rest : List (List ℕ)
  all : ts ≡ one ∷ rest
  told : IsTold rest

has_one : (i : Item) (ts : List (List ℕ)) → reads_one i ts ≡ true → HasOne i ts
unfolding reads_one
has_one i ts h =
    let p = both (begins_so i ts) (reads_told (drop 1 ts)) h in
    let a = has_first (is_item i) ts p.0 in
    record { one = a.first; is = a.passes; rest = drop 1 ts; all = a.all; told = told_of (drop 1 ts) p.1 }

-- two tokens, and what is told behind them
record HasTwo (i j : Item) (ts : List (List ℕ)) : Type 0 where
  one : List ℕ
  two : List ℕ
  is : is_item i one ≡ true
  is_two : is_item j two ≡ true
  rest : List (List ℕ)
  all : ts ≡ one ∷ two ∷ rest
  told : IsTold rest

has_two : (i j : Item) (ts : List (List ℕ)) → reads_two i j ts ≡ true → HasTwo i j ts
unfolding reads_two
has_two i j ts h =
    let p = both (begins_so i ts) (reads_one j (drop 1 ts)) h in
    let a = has_first (is_item i) ts p.0 in
    let b = has_one j (drop 1 ts) p.1 in
    record { one = a.first; two = b.one; is = a.passes; is_two = b.is; rest = b.rest; all = a.all ∙ ap (λ (x : List (List ℕ)). a.first ∷ x) b.all; told = b.told }

-- ---- accesses to boards

swapped : (word p n : List ℕ) (q m : List ℕ) (ts rest : List (List ℕ)) → ts ≡ p ∷ n ∷ rest → p ≡ q → n ≡ m → AreAnswerTokens (word ∷ q ∷ m ∷ rest) → AreAnswerTokens (word ∷ ts)
swapped word p n q m ts rest e f g h = of_rest word ts (q ∷ m ∷ rest) (cc) h

place_text_is : (word : List ℕ) (b w v : ℕ) → word ++ 32 ∷ (decimal b ++ (58 ∷ (decimal w ++ (32 ∷ decimal v)))) ≡ word ++ 32 ∷ (place_token b w ++ 32 ∷ decimal v)
place_text_is word b w v = ap (λ (x : List ℕ). word ++ 32 ∷ x) (sym (append_assoc (decimal b) (58 ∷ decimal w) (32 ∷ decimal v)))

read_of : (ts : List (List ℕ)) → reads_two item.Place item.Number ts ≡ true → AreAnswerTokens (codes "read" ∷ ts)
read_of ts h =
    let k = has_two item.Place item.Number ts h in
    let p = place_token_of k.one k.is in
    let n = numeral k.two k.is_two in
    swapped (codes "read") k.one k.two (place_token p.board p.word) (decimal n.value) ts k.rest k.all p.token n.token
    (step_with (board_access (access.Read p.board p.word n.value)) (codes "read") (place_token p.board p.word ∷ decimal n.value ∷ []) k.rest (p.board_fits, p.word_fits, n.fits) (place_text_is (codes "read") p.board p.word n.value) k.told)

write_of : (ts : List (List ℕ)) → reads_two item.Place item.Number ts ≡ true → AreAnswerTokens (codes "write" ∷ ts)
write_of ts h =
    let k = has_two item.Place item.Number ts h in
    let p = place_token_of k.one k.is in
    let n = numeral k.two k.is_two in
    swapped (codes "write") k.one k.two (place_token p.board p.word) (decimal n.value) ts k.rest k.all p.token n.token
    (step_with (board_access (access.Write p.board p.word n.value)) (codes "write") (place_token p.board p.word ∷ decimal n.value ∷ []) k.rest (p.board_fits, p.word_fits, n.fits) (place_text_is (codes "write") p.board p.word n.value) k.told)

table_of : (ts : List (List ℕ)) → reads_told ts ≡ true → AreAnswerTokens (codes "table" ∷ ts)
table_of ts h = step_with (board_access access.Table) (codes "table") [] ts tt refl (told_of ts h)

-- ---- accesses to events

-- an access to the event that is formed
event_with : (name : List ℕ) (a : EventAccess) (b : EventAnswer) (t : List ℕ) (us rest : List (List ℕ)) → IsFormedAccess name a b None → event_access_text (kind_of_access a) name a b ≡ join_with_byte 32 (t ∷ us) → IsTold rest → AreAnswerTokens ((t ∷ us) ++ rest)
event_with name a b t us rest h e k = step_with (event_access (kind_of_access a) name a b) t us rest (refl, h) e k

abbrev bits : List ℕ → List ℕ
bits name = codes "bits:" ++ name

abbrev queue : List ℕ → List ℕ
queue name = codes "queue:" ++ name

yes_or_no : (word : List ℕ) (ts : List (List ℕ)) → ((name : List ℕ) (rest : List (List ℕ)) → is_event_name name ≡ true → IsTold rest → AreAnswerTokens (word ∷ bits name ∷ codes "yes" ∷ rest)) → ((name : List ℕ) (rest : List (List ℕ)) → is_event_name name ≡ true → IsTold rest → AreAnswerTokens (word ∷ bits name ∷ codes "no" ∷ rest)) → reads_two item.BitsEvent item.YesOrNo ts ≡ true → AreAnswerTokens (word ∷ ts)
yes_or_no word ts for_yes for_no h =
    let k = has_two item.BitsEvent item.YesOrNo ts h in
    let e = event_token_of (codes "bits:") k.one k.is in
    elim (either_word k.two (codes "yes") (codes "no") k.is_two) [
      | inl y ↦ swapped word k.one k.two (bits e.name) (codes "yes") ts k.rest k.all e.token y (for_yes e.name k.rest e.named k.told)
      | inr y ↦ swapped word k.one k.two (bits e.name) (codes "no") ts k.rest k.all e.token y (for_no e.name k.rest e.named k.told)
    ]

listener_of : (ts : List (List ℕ)) → reads_two item.BitsEvent item.YesOrNo ts ≡ true → AreAnswerTokens (codes "listener" ∷ ts)
listener_of ts h =
    yes_or_no (codes "listener") ts
    (λ name rest named k. event_with name event_access.Listener event_answer.Yes (codes "listener") (bits name ∷ codes "yes" ∷ []) rest (record { text = named; numbers = tt; answers = tt; reply = tt }) refl k)
    (λ name rest named k. event_with name event_access.Listener event_answer.No (codes "listener") (bits name ∷ codes "no" ∷ []) rest (record { text = named; numbers = tt; answers = tt; reply = tt }) refl k) h

signal_of : (ts : List (List ℕ)) → reads_two item.BitsEvent item.YesOrNo ts ≡ true → AreAnswerTokens (codes "signal" ∷ ts)
signal_of ts h =
    yes_or_no (codes "signal") ts
    (λ name rest named k. event_with name event_access.Signal event_answer.Yes (codes "signal") (bits name ∷ codes "yes" ∷ []) rest (record { text = named; numbers = tt; answers = tt; reply = tt }) refl k)
    (λ name rest named k. event_with name event_access.Signal event_answer.No (codes "signal") (bits name ∷ codes "no" ∷ []) rest (record { text = named; numbers = tt; answers = tt; reply = tt }) refl k) h

set_of : (ts : List (List ℕ)) → reads_two item.BitsEvent item.Number ts ≡ true → AreAnswerTokens (codes "set" ∷ ts)
set_of ts h =
    let k = has_two item.BitsEvent item.Number ts h in
    let e = event_token_of (codes "bits:") k.one k.is in
    let n = numeral k.two k.is_two in
    swapped (codes "set") k.one k.two (bits e.name) (decimal n.value) ts k.rest k.all e.token n.token
    (event_with e.name (event_access.Set n.value) event_answer.Done (codes "set") (bits e.name ∷ decimal n.value ∷ []) k.rest (record { text = e.named; numbers = n.fits; answers = tt; reply = tt }) refl k.told)

clear_of : (ts : List (List ℕ)) → reads_two item.BitsEvent item.Number ts ≡ true → AreAnswerTokens (codes "clear" ∷ ts)
clear_of ts h =
    let k = has_two item.BitsEvent item.Number ts h in
    let e = event_token_of (codes "bits:") k.one k.is in
    let n = numeral k.two k.is_two in
    swapped (codes "clear") k.one k.two (bits e.name) (decimal n.value) ts k.rest k.all e.token n.token
    (event_with e.name (event_access.Clear n.value) event_answer.Done (codes "clear") (bits e.name ∷ decimal n.value ∷ []) k.rest (record { text = e.named; numbers = n.fits; answers = tt; reply = tt }) refl k.told)

-- an event, then two numbers
two_numbers : (word : List ℕ) (ts : List (List ℕ)) → ((name : List ℕ) (w v : ℕ) (rest : List (List ℕ)) → is_event_name name ≡ true → IsNumber w → IsNumber v → IsTold rest → AreAnswerTokens (word ∷ bits name ∷ decimal w ∷ decimal v ∷ rest)) → (begins_so item.BitsEvent ts && reads_two item.Number item.Number (drop 1 ts)) ≡ true → AreAnswerTokens (word ∷ ts)
two_numbers word ts made h =
    let p = both (begins_so item.BitsEvent ts) (reads_two item.Number item.Number (drop 1 ts)) h in
    let a = has_first (is_item item.BitsEvent) ts p.0 in
    let e = event_token_of (codes "bits:") a.first a.passes in
    let k = has_two item.Number item.Number (drop 1 ts) p.1 in
    let w = numeral k.one k.is in
    let v = numeral k.two k.is_two in
    let numbers : drop 1 ts ≡ decimal w.value ∷ decimal v.value ∷ k.rest = three k.one k.two (decimal w.value) (decimal v.value) (drop 1 ts) k.rest k.all w.token v.token in
    of_rest word ts (bits e.name ∷ decimal w.value ∷ decimal v.value ∷ k.rest) (two_heads ts (drop 1 ts) _ a.first (bits e.name) a.all e.token numbers) (made e.name w.value v.value k.rest e.named w.fits v.fits k.told)
  where
    three : (p n q m : List ℕ) (ts rest : List (List ℕ)) → ts ≡ p ∷ n ∷ rest → p ≡ q → n ≡ m → ts ≡ q ∷ m ∷ rest
    three p n q m ts rest e f g = cc

    two_heads : (ts us vs : List (List ℕ)) (t u : List ℕ) → ts ≡ t ∷ us → t ≡ u → us ≡ vs → ts ≡ u ∷ vs
    two_heads ts us vs t u e f g = cc

scan_of : (ts : List (List ℕ)) → (begins_so item.BitsEvent ts && reads_two item.Number item.Number (drop 1 ts)) ≡ true → AreAnswerTokens (codes "scan" ∷ ts)
scan_of ts h =
    two_numbers (codes "scan") ts
    (λ name w v rest named hw hv k. event_with name (event_access.Scan w) (event_answer.Word v) (codes "scan") (bits name ∷ decimal w ∷ decimal v ∷ []) rest (record { text = named; numbers = hw; answers = hv; reply = tt }) refl k) h

swap_of : (ts : List (List ℕ)) → (begins_so item.BitsEvent ts && reads_two item.Number item.Number (drop 1 ts)) ≡ true → AreAnswerTokens (codes "swap" ∷ ts)
swap_of ts h =
    two_numbers (codes "swap") ts
    (λ name w v rest named hw hv k. event_with name (event_access.Swap w) (event_answer.Word v) (codes "swap") (bits name ∷ decimal w ∷ decimal v ∷ []) rest (record { text = named; numbers = hw; answers = hv; reply = tt }) refl k) h

-- an event alone
one_event : (prefix word : List ℕ) (i : Item) (ts : List (List ℕ)) → ((t : List ℕ) → is_item i t ≡ true → (name : List ℕ) × (t ≡ prefix ++ name) × (is_event_name name ≡ true)) → ((name : List ℕ) (rest : List (List ℕ)) → is_event_name name ≡ true → IsTold rest → AreAnswerTokens (word ∷ (prefix ++ name) ∷ rest)) → reads_one i ts ≡ true → AreAnswerTokens (word ∷ ts)
one_event prefix word i ts token made h =
    let k = has_one i ts h in
    let e = token k.one k.is in
    of_rest word ts ((prefix ++ e.0) ∷ k.rest) (k.all ∙ ap (λ (x : List ℕ). x ∷ k.rest) e.1) (made e.0 k.rest e.2 k.told)

post_of : (ts : List (List ℕ)) → reads_one item.BitsEvent ts ≡ true → AreAnswerTokens (codes "post" ∷ ts)
post_of ts h =
    one_event (codes "bits:") (codes "post") item.BitsEvent ts (λ t e. let x = event_token_of (codes "bits:") t e in (x.name, x.token, x.named))
    (λ name rest named k. event_with name event_access.Post event_answer.Done (codes "post") (bits name ∷ []) rest (record { text = named; numbers = tt; answers = tt; reply = tt }) refl k) h

push_of : (ts : List (List ℕ)) → reads_one item.QueueEvent ts ≡ true → AreAnswerTokens (codes "push" ∷ ts)
push_of ts h =
    one_event (codes "queue:") (codes "push") item.QueueEvent ts (λ t e. let x = event_token_of (codes "queue:") t e in (x.name, x.token, x.named))
    (λ name rest named k. event_with name (event_access.Push 0) event_answer.Done (codes "push") (queue name ∷ []) rest (record { text = named; numbers = tt; answers = tt; reply = tt }) refl k) h

pop_of : (ts : List (List ℕ)) → reads_two item.QueueEvent item.NumberOrNone ts ≡ true → AreAnswerTokens (codes "pop" ∷ ts)
pop_of ts h =
    let k = has_two item.QueueEvent item.NumberOrNone ts h in
    let e = event_token_of (codes "queue:") k.one k.is in
    elim (either (bytes_eq k.two (codes "none")) (is_number k.two) k.is_two) [
      | inl y ↦
          swapped (codes "pop") k.one k.two (queue e.name) (codes "none") ts k.rest k.all e.token (word_is k.two (codes "none") y)
          (event_with e.name event_access.Pop event_answer.Empty (codes "pop") (queue e.name ∷ codes "none" ∷ []) k.rest (record { text = e.named; numbers = tt; answers = tt; reply = tt }) refl k.told)
      | inr y ↦
          let n = numeral k.two y in
          swapped (codes "pop") k.one k.two (queue e.name) (decimal n.value) ts k.rest k.all e.token n.token
          (event_with e.name event_access.Pop (event_answer.Id n.value) (codes "pop") (queue e.name ∷ decimal n.value ∷ []) k.rest (record { text = e.named; numbers = tt; answers = n.fits; reply = tt }) refl k.told)
    ]

module _ (word : List ℕ) (ts : List (List ℕ)) where
  abbrev Words : Type 0
  Words = AreAnswerTokens (word ∷ ts)

  -- one of two words
  by_either : (v w : List ℕ) → (word ≡ v) ⊎ (word ≡ w) → AreAnswerTokens (v ∷ ts) → AreAnswerTokens (w ∷ ts) → Words
  by_either v w (inl e) x y = of_word word v ts e x
  by_either v w (inr e) x y = of_word word w ts e y

  event_step_of : reads_event_step word ts ≡ true → Words
  unfolding reads_event_step
  event_step_of h =
      elim (words_at word (codes "listener") (codes "signal") _ _ h) [
        | inl e ↦ by_either (codes "listener") (codes "signal") e.0 (listener_of ts e.1) (signal_of ts e.1)
        | inr h1 ↦ elim (words_at word (codes "set") (codes "clear") _ _ h1) [
          | inl e ↦ by_either (codes "set") (codes "clear") e.0 (set_of ts e.1) (clear_of ts e.1)
          | inr h2 ↦ elim (words_at word (codes "scan") (codes "swap") _ _ h2) [
            | inl e ↦ by_either (codes "scan") (codes "swap") e.0 (scan_of ts e.1) (swap_of ts e.1)
            | inr h3 ↦ elim (word_at word (codes "post") _ _ h3) [
              | inl e ↦ of_word word (codes "post") ts e.0 (post_of ts e.1)
              | inr h4 ↦ elim (word_at word (codes "push") _ _ h4) [
                | inl e ↦ of_word word (codes "push") ts e.0 (push_of ts e.1)
                | inr h5 ↦
                    let p = both (bytes_eq word (codes "pop")) (reads_two item.QueueEvent item.NumberOrNone ts) h5 in
                    of_word word (codes "pop") ts (word_is word (codes "pop") p.0) (pop_of ts p.1)
              ]
            ]
          ]
        ]
      ]

  step_of : reads_step word ts ≡ true → Words
  unfolding reads_step
  step_of h =
      elim (word_at word (codes "table") _ _ h) [
        | inl e ↦ of_word word (codes "table") ts e.0 (table_of ts e.1)
        | inr h1 ↦ elim (words_at word (codes "read") (codes "write") _ _ h1) [
          | inl e ↦ by_either (codes "read") (codes "write") e.0 (read_of ts e.1) (write_of ts e.1)
          | inr h2 ↦ event_step_of h2
        ]
      ]

-- ---- refusals

-- the word of a reason
abbrev IsReasonText : List ℕ → Type 0
IsReasonText t = AreAnswerTokens (codes "refused" ∷ t ∷ [])

each_reason : AllByRecursion IsReasonText reason_words
each_reason = (
  printed_is (a_refusal reason.Abandoned) tt,
  (
    printed_is (a_refusal reason.Busy) tt,
    (
      printed_is (a_refusal reason.Idle) tt,
      (
        printed_is (a_refusal reason.Unknown) tt,
        (
          printed_is (a_refusal reason.Taken) tt,
          (
            printed_is (a_refusal reason.Type) tt,
            (
              printed_is (a_refusal reason.Index) tt,
              (
                printed_is (a_refusal reason.Unfilled) tt,
                (
                  printed_is (a_refusal reason.NotWaiting) tt,
                  (printed_is (a_refusal reason.NoBoard) tt, tt),
                ),
              ),
            ),
          ),
        ),
      ),
    ),
  ),
)

reason_of : (t : List ℕ) → is_reason t ≡ true → IsReasonText t
unfolding is_reason
reason_of t h = among_at IsReasonText t reason_words each_reason h

refusal_of : (ts : List (List ℕ)) → reads_last item.Reason ts ≡ true → AreAnswerTokens (codes "refused" ∷ ts)
unfolding reads_last
refusal_of ts h =
    let p = both (begins_so item.Reason ts) (is_end (drop 1 ts)) h in
    let a = has_first (is_item item.Reason) ts p.0 in
    of_rest (codes "refused") ts (a.first ∷ []) (a.all ∙ ap (λ (x : List (List ℕ)). a.first ∷ x) (end_takes (drop 1 ts) p.1)) (reason_of a.first a.passes)

-- ---- all answers

list_of : (ts : List (List ℕ)) → list_all is_number ts ≡ true → AreAnswerTokens (codes "words" ∷ ts)
list_of ts h =
    let k = numbers_left ts h in
    record {
      printed = a_list k.numbers;
      formed = k.fit;
      same = ap (λ (x : List (List ℕ)). join_with_byte 32 (codes "words" ∷ x)) k.all ∙ sym (joined_each decimal (codes "words") k.numbers);
    }

expiry_of : (ts : List (List ℕ)) → (begins_with (codes "none") ts && is_end (drop 1 ts)) ≡ true → AreAnswerTokens (codes "=" ∷ ts)
expiry_of ts h =
    let p = both (begins_with (codes "none") ts) (is_end (drop 1 ts)) h in
    of_rest (codes "=") ts (codes "none" ∷ []) (has_word (codes "none") ts p.0 ∙ ap (λ (x : List (List ℕ)). codes "none" ∷ x) (end_takes (drop 1 ts) p.1)) (printed_is an_expiry tt)

ended : (word : List ℕ) (ts : List (List ℕ)) → (word ≡ codes "ok") ⊎ (word ≡ codes "gone") → is_end ts ≡ true → AreAnswerTokens (word ∷ ts)
ended word ts (inl e) h = of_word word (codes "ok") ts e (of_rest (codes "ok") ts [] (end_takes ts h) (printed_is a_begin tt))
ended word ts (inr e) h = of_word word (codes "gone") ts e (of_rest (codes "gone") ts [] (end_takes ts h) (printed_is an_end tt))

pub answer_of : (ts : List (List ℕ)) → reads_answer ts ≡ true → AreAnswerTokens ts
unfolding reads_answer
answer_of [] h = absurd cc
answer_of (word ∷ ts) h =
    elim (words_at word (codes "ok") (codes "gone") _ _ h) [
      | inl e ↦ ended word ts e.0 e.1
      | inr h1 ↦ elim (word_at word (codes "refused") _ _ h1) [
        | inl e ↦ of_word word (codes "refused") ts e.0 (refusal_of ts e.1)
        | inr h2 ↦ elim (word_at word (codes "words") _ _ h2) [
          | inl e ↦ of_word word (codes "words") ts e.0 (list_of ts e.1)
          | inr h3 ↦ elim (word_at word (codes "=") _ _ h3) [
            | inl e ↦ of_word word (codes "=") ts e.0 (expiry_of ts e.1)
            | inr h4 ↦ step_of word ts h4
          ]
        ]
      ]
    ]
