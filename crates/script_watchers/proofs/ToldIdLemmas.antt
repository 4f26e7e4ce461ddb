-- The ids that answers tell are read back from their texts.
use Rattle.std.proofs.Common.{◌≡◌, ℕ, Bool, true, false, List, [], ◌∷◌, ◌++◌, refl, sym, ap, subst, ◌∙◌, append_assoc, eqb, Option, Some, None}
use Rattle.std.specs.Prelude.{codes, decimal, if◌then◌else◌, map}
use Rattle.std.specs.List.{AllByRecursion, flat_map}
use Rattle.std.specs.Str.{bytes_eq}
use Rattle.std.proofs.lemmas.Bool.{false≢true}
use Rattle.std.proofs.lemmas.List.{append-nil}
use Rattle.std.proofs.lemmas.List.Splits.{slice_split_at, slice_split_none}
use Rattle.board_cell_model.specs.declared.access.Access.TheVariants as board_access
use Rattle.board_event_model.specs.declared.access.EventAccess.{EventAccess}
use Rattle.board_event_model.specs.declared.access.EventAccess.TheVariants as access
use Rattle.board_event_model.specs.declared.access.EventAnswer.{EventAnswer}
use Rattle.board_event_model.specs.declared.access.EventAnswer.TheVariants as event_answer
use Rattle.board_event_model.specs.declared.kind.EventKind.{EventKind}
use Rattle.board_event_model.specs.declared.kind.EventKind.TheVariants as kind
use Rattle.board_model.specs.declared.answer.Answer.TheVariants as answer
use Rattle.board_model.specs.declared.answer.Reply.TheVariants as board_reply
use Rattle.board_model.specs.AnswerGrammar.{number_text}
use Rattle.board_model.specs.LineGrammar.{IsNumber}
use Rattle.board_model.proofs.ListLemmas.{same_bytes}
use Rattle.script_model.specs.declared.reply.EventReply.{EventReply}
use Rattle.script_model.specs.declared.reply.EventReply.TheVariants as reply
use Rattle.script_model.specs.ScriptAnswers.{IsAnswerTo, IsFormedAccess, IsScriptAnswer, event_access_text, event_reply_text, event_text, of_boards, of_event, script_answer_text}
use Rattle.script_model.specs.ScriptGrammar.{is_event_name}
use Rattle.script_model.specs.LawsOfEvents.{TellsIds}
use Rattle.script_grammar.specs.TokenReading.{◌>>=◌, read_number, split_tokens}
use Rattle.script_grammar.proofs.NumeralLemmas.{number_again}
use Rattle.script_grammar.proofs.SplitLemmas.{IsFree, free_append, free_event_name, free_lacks, free_number}
use Rattle.script_watches.specs.Watchings.{ids_by}
use Rattle.script_watchers.specs.ToldIds.{behind_equals, ids_in, id_in, numbers_in, reply_words, told_id, told_ids}

-- ---- words that stand before a reply

-- no space stands in the word, and it isn't the equals sign
record IsBefore (t : List ℕ) : Type 0 where
  free : IsFree 32 t
  other : bytes_eq t (codes "=") ≡ false

split_more : (t rest : List ℕ) → IsFree 32 t → split_tokens (t ++ 32 ∷ rest) ≡ t ∷ split_tokens rest
split_more t rest h = slice_split_at (λ b. eqb b 32) t 32 rest (free_lacks 32 t h) refl

split_last : (t : List ℕ) → IsFree 32 t → split_tokens t ≡ t ∷ []
split_last t h = slice_split_none (λ b. eqb b 32) t (free_lacks 32 t h)

pass_word : (t rest : List ℕ) → IsBefore t → reply_words (t ++ 32 ∷ rest) ≡ reply_words rest
pass_word t rest h = ap behind_equals (split_more t rest h.free) ∙ ap (λ (b : Bool). if b then Some (split_tokens rest) else behind_equals (split_tokens rest)) h.other

at_equals : (rest : List ℕ) → reply_words (codes "= " ++ rest) ≡ Some (split_tokens rest)
at_equals rest = ap behind_equals (split_more (codes "=") rest refl)

-- words, each behind a space
abbrev tail_text : List (List ℕ) → List ℕ
tail_text [] = []
tail_text (t ∷ []) = 32 ∷ t
tail_text (t ∷ u ∷ us) = 32 ∷ (t ++ tail_text (u ∷ us))

pass_all : (t : List ℕ) (ts : List (List ℕ)) (rest : List ℕ) → IsBefore t → AllByRecursion IsBefore ts → reply_words ((t ++ tail_text ts) ++ 32 ∷ rest) ≡ reply_words rest
pass_all t [] rest h hs = ap (λ (x : List ℕ). reply_words (x ++ 32 ∷ rest)) (append-nil t) ∙ pass_word t rest h
pass_all t (u ∷ []) rest h hs = ap reply_words (append_assoc t (32 ∷ u) (32 ∷ rest)) ∙ pass_word t (u ++ 32 ∷ rest) h ∙ pass_word u rest hs.0
pass_all t (u ∷ v ∷ vs) rest h hs = ap reply_words (append_assoc t (32 ∷ (u ++ tail_text (v ∷ vs))) (32 ∷ rest)) ∙ pass_word t ((u ++ tail_text (v ∷ vs)) ++ 32 ∷ rest) h ∙ pass_all u (v ∷ vs) rest hs.0 hs.1

none_word : (t : List ℕ) → IsBefore t → reply_words t ≡ None
none_word t h = ap behind_equals (split_last t h.free) ∙ ap (λ (b : Bool). if b then Some [] else None) h.other

none_all : (t : List ℕ) (ts : List (List ℕ)) → IsBefore t → AllByRecursion IsBefore ts → reply_words (t ++ tail_text ts) ≡ None
none_all t [] h hs = ap reply_words (append-nil t) ∙ none_word t h
none_all t (u ∷ []) h hs = pass_word t u h ∙ none_word u hs.0
none_all t (u ∷ v ∷ vs) h hs = pass_word t (u ++ tail_text (v ∷ vs)) h ∙ none_all u (v ∷ vs) hs.0 hs.1

-- ---- accesses

not_equals : (t : List ℕ) → IsFree 61 t → bytes_eq t (codes "=") ≡ false
not_equals t h = at (bytes_eq t (codes "=")) refl
  where
    at : (b : Bool) → bytes_eq t (codes "=") ≡ b → b ≡ false
    at false e = refl
    at true e = absurd (false≢true (subst (IsFree 61) (same_bytes t (codes "=") e) h))

number_before : (n : ℕ) → IsNumber n → IsBefore (decimal n)
number_before n h = record { free = free_number 32 refl n h; other = not_equals (decimal n) (free_number 61 refl n h) }

event_before : (k : EventKind) (name : List ℕ) → is_event_name name ≡ true → IsBefore (event_text k name)
event_before kind.Bits name h = record { free = free_append 32 (codes "bits:") name refl (free_event_name 32 refl name h); other = refl }
event_before kind.Queue name h = record { free = free_append 32 (codes "queue:") name refl (free_event_name 32 refl name h); other = refl }

-- the words of an access
record IsWorded (text : List ℕ) : Type 0 where
  first : List ℕ
  others : List (List ℕ)
  is : text ≡ first ++ tail_text others
  first_before : IsBefore first
  others_before : AllByRecursion IsBefore others

worded : (k : EventKind) (name : List ℕ) (a : EventAccess) (b : EventAnswer) (told : Option EventReply) → IsFormedAccess name a b told → IsAnswerTo a b → IsWorded (event_access_text k name a b)
worded k name access.Listener event_answer.Yes told h g = record { first = codes "listener"; others = event_text k name ∷ codes "yes" ∷ []; is = refl; first_before = record { free = refl; other = refl }; others_before = (event_before k name h.text, (record { free = refl; other = refl }, tt)) }
worded k name access.Listener event_answer.No told h g = record { first = codes "listener"; others = event_text k name ∷ codes "no" ∷ []; is = refl; first_before = record { free = refl; other = refl }; others_before = (event_before k name h.text, (record { free = refl; other = refl }, tt)) }
worded k name (access.Set id) b told h g = record { first = codes "set"; others = event_text k name ∷ decimal id ∷ []; is = refl; first_before = record { free = refl; other = refl }; others_before = (event_before k name h.text, (number_before id h.numbers, tt)) }
worded k name access.Post b told h g = record { first = codes "post"; others = event_text k name ∷ []; is = refl; first_before = record { free = refl; other = refl }; others_before = (event_before k name h.text, tt) }
worded k name (access.Push id) b told h g = record { first = codes "push"; others = event_text k name ∷ []; is = refl; first_before = record { free = refl; other = refl }; others_before = (event_before k name h.text, tt) }
worded k name access.Signal event_answer.Yes told h g = record { first = codes "signal"; others = event_text k name ∷ codes "yes" ∷ []; is = refl; first_before = record { free = refl; other = refl }; others_before = (event_before k name h.text, (record { free = refl; other = refl }, tt)) }
worded k name access.Signal event_answer.No told h g = record { first = codes "signal"; others = event_text k name ∷ codes "no" ∷ []; is = refl; first_before = record { free = refl; other = refl }; others_before = (event_before k name h.text, (record { free = refl; other = refl }, tt)) }
worded k name (access.Clear id) b told h g = record { first = codes "clear"; others = event_text k name ∷ decimal id ∷ []; is = refl; first_before = record { free = refl; other = refl }; others_before = (event_before k name h.text, (number_before id h.numbers, tt)) }
worded k name (access.Scan w) (event_answer.Word v) told h g = record { first = codes "scan"; others = event_text k name ∷ decimal w ∷ decimal v ∷ []; is = refl; first_before = record { free = refl; other = refl }; others_before = (event_before k name h.text, (number_before w h.numbers, (number_before v g, tt))) }
worded k name (access.Swap w) (event_answer.Word v) told h g = record { first = codes "swap"; others = event_text k name ∷ decimal w ∷ decimal v ∷ []; is = refl; first_before = record { free = refl; other = refl }; others_before = (event_before k name h.text, (number_before w h.numbers, (number_before v g, tt))) }
worded k name access.Pop (event_answer.Id id) told h g = record { first = codes "pop"; others = event_text k name ∷ decimal id ∷ []; is = refl; first_before = record { free = refl; other = refl }; others_before = (event_before k name h.text, (number_before id g, tt)) }
worded k name access.Pop event_answer.Empty told h g = record { first = codes "pop"; others = event_text k name ∷ codes "none" ∷ []; is = refl; first_before = record { free = refl; other = refl }; others_before = (event_before k name h.text, (record { free = refl; other = refl }, tt)) }
worded k name a b told h g = absurd g

-- ---- replies

split_numbers : (t : List ℕ) (ns : List ℕ) → IsFree 32 t → AllByRecursion IsNumber ns → split_tokens (t ++ flat_map number_text ns) ≡ t ∷ map decimal ns
split_numbers t [] h hs = ap split_tokens (append-nil t) ∙ split_last t h
split_numbers t (n ∷ ns) h hs = split_more t (decimal n ++ flat_map number_text ns) h ∙ ap (λ (ts : List (List ℕ)). t ∷ ts) (split_numbers (decimal n) ns (free_number 32 refl n hs.0) hs.1)

numbers_again : (ns : List ℕ) → AllByRecursion IsNumber ns → numbers_in (map decimal ns) ≡ Some ns
numbers_again [] h = refl
numbers_again (n ∷ ns) h = rw (number_again n h.0, numbers_again ns h.1) refl

ids_again : (ids : List ℕ) → AllByRecursion IsNumber ids → ids_in (split_tokens (event_reply_text (reply.Ids ids))) ≡ Some ids
ids_again ids h = ap ids_in (split_numbers (codes "ids") ids refl h) ∙ numbers_again ids h

nothing_again : ids_in (split_tokens (event_reply_text reply.Nothing)) ≡ Some []
nothing_again = ap ids_in (split_last (codes "none") refl)

-- ---- what the last step of a wait is told

module _ (k : EventKind) (name : List ℕ) (a : EventAccess) (b : EventAnswer) where
  told_behind : (r : EventReply) → IsFormedAccess name a b (Some r) → reply_words (script_answer_text (of_event k name a b (Some r))) ≡ Some (split_tokens (event_reply_text r))
  told_behind r h =
      let w = worded k name a b (Some r) h h.answers in
      ap (λ (t : List ℕ). reply_words (t ++ (codes " = " ++ event_reply_text r))) w.is ∙ pass_all w.first w.others (codes "= " ++ event_reply_text r) w.first_before w.others_before ∙ at_equals (event_reply_text r)

  pub wait_goes : IsScriptAnswer (of_event k name a b None) → told_ids (script_answer_text (of_event k name a b None)) ≡ None
  wait_goes h =
      let w = worded k name a b None h.1 h.1.answers in
      ap (λ (o : Option (List (List ℕ))). o >>= ids_in) (ap reply_words (append-nil (event_access_text k name a b) ∙ w.is) ∙ none_all w.first w.others w.first_before w.others_before)

  pub wait_told : (r : EventReply) (ids : List ℕ) → IsScriptAnswer (of_event k name a b (Some r)) → TellsIds true r ids → told_ids (script_answer_text (of_event k name a b (Some r))) ≡ ids_by (of_event k name a b (Some r))
  wait_told reply.Done ids h t = absurd t
  wait_told (reply.Id id) ids h t = absurd (false≢true (sym t.0))
  wait_told (reply.Ids told) ids h t = ap (λ (o : Option (List (List ℕ))). o >>= ids_in) (told_behind (reply.Ids told) h.1) ∙ ids_again told h.1.reply
  wait_told reply.Nothing ids h t = ap (λ (o : Option (List (List ℕ))). o >>= ids_in) (told_behind reply.Nothing h.1) ∙ nothing_again
  wait_told reply.AlreadyExists ids h t = absurd t
  wait_told reply.DoesNotExist ids h t = absurd t
  wait_told (reply.NotNotified e) ids h t = absurd t

-- ---- what is told of a handle's id

pub id_again : (n : ℕ) → IsNumber n → told_id (script_answer_text (of_boards (answer.Step board_access.Table (Some (board_reply.Id n))))) ≡ Some n
id_again n h =
    let words : reply_words (codes "table = id " ++ decimal n) ≡ Some (codes "id" ∷ decimal n ∷ []) =
    pass_word (codes "table") (codes "= id " ++ decimal n) (record { free = refl; other = refl }) ∙ at_equals (codes "id " ++ decimal n)
    ∙ ap (λ (ts : List (List ℕ)). Some ts) (split_more (codes "id") (decimal n) refl ∙ ap (λ (ts : List (List ℕ)). codes "id" ∷ ts) (split_last (decimal n) (free_number 32 refl n h))) in
    ap (λ (o : Option (List (List ℕ))). o >>= id_in) words ∙ number_again n h

-- ---- numbers, one by one

-- these stand before them
abbrev pub with_front : List ℕ → Option (List ℕ) → Option (List ℕ)
with_front front None = None
with_front front (Some ns) = Some (front ++ ns)

pub front_none : (o : Option (List ℕ)) → o ≡ with_front [] o
front_none None = refl
front_none (Some ns) = refl

number_on : (front : List ℕ) (n : ℕ) (o : Option (List ℕ)) → with_front front (o >>= λ ns. Some (n ∷ ns)) ≡ with_front (front ++ n ∷ []) o
number_on front n None = refl
number_on front n (Some ns) = ap (λ (l : List ℕ). Some l) (sym (append_assoc front (n ∷ []) ns))

pub number_more : (front word : List ℕ) (n : ℕ) (old rest : List (List ℕ)) → old ≡ word ∷ rest → read_number word ≡ Some n → with_front front (numbers_in old) ≡ with_front (front ++ n ∷ []) (numbers_in rest)
number_more front word n old rest e r =
    ap (λ (ts : List (List ℕ)). with_front front (numbers_in ts)) e ∙ ap (λ (o : Option ℕ). with_front front (o >>= λ m. numbers_in rest >>= λ ns. Some (m ∷ ns))) r ∙ number_on front n (numbers_in rest)

pub no_number : (front word : List ℕ) (old rest : List (List ℕ)) → old ≡ word ∷ rest → read_number word ≡ None → with_front front (numbers_in old) ≡ None
no_number front word old rest e r = ap (λ (ts : List (List ℕ)). with_front front (numbers_in ts)) e ∙ ap (λ (o : Option ℕ). with_front front (o >>= λ m. numbers_in rest >>= λ ns. Some (m ∷ ns))) r

pub no_more : (front : List ℕ) (old : List (List ℕ)) → old ≡ [] → with_front front (numbers_in old) ≡ Some front
no_more front old e = ap (λ (ts : List (List ℕ)). with_front front (numbers_in ts)) e ∙ ap (λ (l : List ℕ). Some l) (append-nil front)
