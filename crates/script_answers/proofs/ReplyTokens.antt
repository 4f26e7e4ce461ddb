-- What is read as a reply is one.
use Rattle.std.proofs.Common.{◌≡◌, ℕ, Bool, true, false, List, [], ◌∷◌, ◌++◌, drop, arith, refl, sym, ap, subst, ◌∙◌, map, Option, Some, None, ◌⊎◌, inl, inr}
use Rattle.std.specs.Prelude.{codes, decimal, IfSome, ◌&&◌, ◌||◌}
use Rattle.std.specs.List.{join_with_byte, list_all, AllByRecursion}
use Rattle.std.proofs.lemmas.List.{append-nil}
use Rattle.board_model.specs.declared.answer.Reply.TheVariants as reply
use Rattle.board_model.specs.declared.answer.Info.{Info}
use Rattle.board_model.specs.LineGrammar.{IsKey, IsNumber, is_board_name, is_name, key_text, key_type_text}
use Rattle.board_names.specs.declared.errors.boards.BlackboardCreateError.TheVariants as create_error
use Rattle.board_names.specs.declared.errors.boards.BlackboardOpenError.TheVariants as open_error
use Rattle.board_names.specs.declared.errors.boards.ReaderCreateError.TheVariants as reader_error
use Rattle.board_names.specs.declared.errors.boards.WriterCreateError.TheVariants as writer_error
use Rattle.board_names.specs.declared.errors.boards.EntryHandleError.TheVariants as entry_error
use Rattle.board_names.specs.declared.errors.boards.EntryHandleMutError.TheVariants as entry_mut_error
use Rattle.board_names.specs.declared.errors.event.NotifierNotifyError.TheVariants as notify_error
use Rattle.script_model.specs.declared.reply.EventReply.TheVariants as event_reply
use Rattle.script_rules.specs.PrintedAnswers.{IsStepReply, StepReply, board_reply, events_reply, step_reply_text, step_told_text}
use Rattle.script_grammar.specs.LineReading.{begins_with}
use Rattle.script_grammar.specs.TokenReading.{is_end}
use Rattle.script_grammar.proofs.ReaderLemmas.{both, end_takes}
use Rattle.script_answers.specs.declared.item.Item.TheVariants as item
use Rattle.script_answers.specs.AnswerReading.{begins_so, first_is, is_item, is_key, is_number, is_value, is_whole_reply, labelled, reads_counts, reads_got, reads_info, reads_last_reply, reads_limits, reads_number, reads_reply, reads_reply_of, reads_told, reply_words}
use Rattle.script_answers.proofs.Choices.{among_at, either, has_first, has_word, test_at, word_at, words_at}
use Rattle.script_answers.proofs.Joined.{joined_append, joined_each}
use Rattle.script_answers.proofs.ItemLemmas.{key_token_of, key_type_of, numeral, value_token_of}

-- the text is that of a reply
pub record IsReplyText (text : List ℕ) : Type 0 where
  pub reply : StepReply
  pub is : IsStepReply reply
  pub same : text ≡ step_reply_text reply

abbrev AreReplyTokens : List (List ℕ) → Type 0
AreReplyTokens ts = IsReplyText (join_with_byte 32 ts)

-- ---- words alone

by_reply : (r : StepReply) → IsStepReply r → IsReplyText (step_reply_text r)
by_reply r h = record { reply = r; is = h; same = refl }

each_word : AllByRecursion IsReplyText reply_words
each_word = (
  by_reply (board_reply (reply.Fresh true)) (tt, tt),
  (
    by_reply (board_reply (reply.Fresh false)) (tt, tt),
    (
      by_reply (events_reply event_reply.Nothing) (tt, tt),
      (
        by_reply (board_reply (reply.CreateError create_error.AlreadyExists)) (refl, tt),
        (
          by_reply (board_reply (reply.CreateError create_error.NoEntriesProvided)) (refl, tt),
          (
            by_reply (board_reply (reply.CreateError create_error.ServiceInCorruptedState)) (refl, tt),
            (
              by_reply (board_reply (reply.OpenError open_error.DoesNotExist)) (refl, tt),
              (
                by_reply (board_reply (reply.OpenError open_error.IncompatibleKeys)) (refl, tt),
                (
                  by_reply (board_reply (reply.OpenError open_error.IncompatibleAttributes)) (refl, tt),
                  (
                    by_reply (board_reply (reply.OpenError open_error.DoesNotSupportRequestedAmountOfReaders)) (refl, tt),
                    (
                      by_reply (board_reply (reply.OpenError open_error.DoesNotSupportRequestedAmountOfNodes)) (refl, tt),
                      (
                        by_reply (board_reply (reply.OpenError open_error.ExceedsMaxNumberOfNodes)) (refl, tt),
                        (
                          by_reply (board_reply (reply.ReaderError reader_error.ExceedsMaxSupportedReaders)) (refl, tt),
                          (
                            by_reply (board_reply (reply.WriterError writer_error.ExceedsMaxSupportedWriters)) (refl, tt),
                            (
                              by_reply (board_reply (reply.EntryError entry_error.EntryDoesNotExist)) (refl, tt),
                              (
                                by_reply (board_reply (reply.EntryMutError entry_mut_error.EntryDoesNotExist)) (refl, tt),
                                (
                                  by_reply (board_reply (reply.EntryMutError entry_mut_error.HandleAlreadyExists)) (refl, tt),
                                  (
                                    by_reply (events_reply event_reply.AlreadyExists) (tt, tt),
                                    (
                                      by_reply (events_reply event_reply.DoesNotExist) (tt, tt),
                                      (
                                        by_reply (events_reply (event_reply.NotNotified notify_error.FailedToDeliverSignal)) (tt, refl),
                                        (
                                          by_reply (events_reply (event_reply.NotNotified notify_error.TriggerIdOutOfBounds)) (tt, refl),
                                          (by_reply (events_reply (event_reply.NotNotified notify_error.Disconnected)) (tt, refl), tt),
                                        ),
                                      ),
                                    ),
                                  ),
                                ),
                              ),
                            ),
                          ),
                        ),
                      ),
                    ),
                  ),
                ),
              ),
            ),
          ),
        ),
      ),
    ),
  ),
)

whole_reply : (t : List ℕ) → is_whole_reply t ≡ true → IsReplyText t
unfolding is_whole_reply
whole_reply t h = among_at IsReplyText t reply_words each_word h

-- ---- a word and a number

pub record IsNumberLeft (ts : List (List ℕ)) : Type 0 where
  pub value : ℕ
  pub all : ts ≡ decimal value ∷ []
  pub fits : IsNumber value

heads : (ts us vs : List (List ℕ)) (t u : List ℕ) → ts ≡ t ∷ us → t ≡ u → us ≡ vs → ts ≡ u ∷ vs
heads ts us vs t u e f g = cc

pub number_left : (ts : List (List ℕ)) → reads_number ts ≡ true → IsNumberLeft ts
unfolding reads_number
number_left ts h =
    let p = both (first_is is_number ts) (is_end (drop 1 ts)) h in
    let a = has_first is_number ts p.0 in
    let n = numeral a.first a.passes in
    record { value = n.value; all = heads ts (drop 1 ts) [] a.first (decimal n.value) a.all n.token (end_takes (drop 1 ts) p.1); fits = n.fits }

-- a word and a number, and what is behind them
pub record IsLabelled (word : List ℕ) (ts : List (List ℕ)) : Type 0 where
  pub value : ℕ
  pub all : ts ≡ word ∷ decimal value ∷ drop 1 (drop 1 ts)
  pub fits : IsNumber value

pub labelled_number : (word : List ℕ) (ts : List (List ℕ)) → labelled word ts ≡ true → IsLabelled word ts
unfolding labelled
labelled_number word ts h =
    let p = both (begins_with word ts) (first_is is_number (drop 1 ts)) h in
    let a = has_first is_number (drop 1 ts) p.1 in
    let n = numeral a.first a.passes in
    record { value = n.value; all = heads ts (drop 1 ts) _ word word (has_word word ts p.0) refl (heads (drop 1 ts) (drop 1 (drop 1 ts)) _ a.first (decimal n.value) a.all n.token refl); fits = n.fits }

-- ---- lists

-- the items that tokens stand for
record AreItems {A : Type 0} (Is : A → Type 0) (f : A → List ℕ) (ts : List (List ℕ)) : Type 0 where
  items : List A
  all : ts ≡ map f items
  are : AllByRecursion Is items

items_of : {A : Type 0} (Is : A → Type 0) (f : A → List ℕ) (test : List ℕ → Bool) → ((t : List ℕ) → test t ≡ true → (x : A) × (t ≡ f x) × Is x) → (ts : List (List ℕ)) → list_all test ts ≡ true → AreItems Is f ts
items_of Is f test one [] h = record { items = []; all = refl; are = tt }
items_of Is f test one (t ∷ ts) h =
    let p = both (test t) (list_all test ts) h in
    let x = one t p.0 in
    let xs = items_of Is f test one ts p.1 in
    record { items = x.0 ∷ xs.items; all = heads (t ∷ ts) ts _ t (f x.0) refl x.1 xs.all; are = (x.2, xs.are) }

keys_reply : (ts : List (List ℕ)) → list_all is_key ts ≡ true → AreReplyTokens (codes "keys" ∷ ts)
keys_reply ts h =
    let k = items_of IsKey key_text is_key (λ t e. let x = key_token_of t e in (x.key, x.token, x.is)) ts h in
    record {
      reply = board_reply (reply.Keys k.items);
      is = (k.are, tt);
      same = ap (λ (x : List (List ℕ)). join_with_byte 32 (codes "keys" ∷ x)) k.all ∙ sym (joined_each key_text (codes "keys") k.items);
    }

nodes_reply : (ts : List (List ℕ)) → list_all is_name ts ≡ true → AreReplyTokens (codes "nodes" ∷ ts)
nodes_reply ts h =
    let same : List ℕ → List ℕ = λ (x : List ℕ). x in
    let k = items_of (λ n. is_name n ≡ true) same is_name (λ t e. (t, refl, e)) ts h in
    record {
      reply = board_reply (reply.Nodes k.items);
      is = (k.are, tt);
      same = ap (λ (x : List (List ℕ)). join_with_byte 32 (codes "nodes" ∷ x)) k.all ∙ sym (joined_each same (codes "nodes") k.items);
    }

-- numbers that are left
pub record AreNumbers (ts : List (List ℕ)) : Type 0 where
  pub numbers : List ℕ
  pub all : ts ≡ map decimal numbers
  pub fit : AllByRecursion IsNumber numbers

pub numbers_left : (ts : List (List ℕ)) → list_all is_number ts ≡ true → AreNumbers ts
numbers_left ts h =
    let k = items_of IsNumber decimal is_number (λ t e. let x = numeral t e in (x.value, x.token, x.fits)) ts h in
    record { numbers = k.items; all = k.all; fit = k.are }

ids_reply : (ts : List (List ℕ)) → list_all is_number ts ≡ true → AreReplyTokens (codes "ids" ∷ ts)
ids_reply ts h =
    let k = numbers_left ts h in
    record {
      reply = events_reply (event_reply.Ids k.numbers);
      is = (k.fit, tt);
      same = ap (λ (x : List (List ℕ)). join_with_byte 32 (codes "ids" ∷ x)) k.all ∙ sym (joined_each decimal (codes "ids") k.numbers);
    }

-- ---- what is told of a board

record AreCounts (ts : List (List ℕ)) : Type 0 where
  entries : ℕ
  attributes : ℕ
  readers : ℕ
  writers : ℕ
  nodes : ℕ
  all : ts ≡ codes "entries" ∷ decimal entries ∷ codes "attrs" ∷ decimal attributes ∷ codes "taken" ∷ decimal readers ∷ decimal writers ∷ decimal nodes ∷ []
  entries_fit : IsNumber entries
  attributes_fit : IsNumber attributes
  readers_fit : IsNumber readers
  writers_fit : IsNumber writers
  nodes_fit : IsNumber nodes

behind_labelled : (word : List ℕ) (ts us : List (List ℕ)) (n : ℕ) → ts ≡ word ∷ decimal n ∷ drop 1 (drop 1 ts) → drop 1 (drop 1 ts) ≡ us → ts ≡ word ∷ decimal n ∷ us
behind_labelled word ts us n e f = e ∙ ap (λ (x : List (List ℕ)). word ∷ decimal n ∷ x) f

counts_of : (ts : List (List ℕ)) → reads_counts ts ≡ true → AreCounts ts
unfolding reads_counts
counts_of ts h =
    let us : List (List ℕ) = drop 1 (drop 1 ts) in
    let vs : List (List ℕ) = drop 1 (drop 1 us) in
    let ws : List (List ℕ) = drop 1 (drop 1 vs) in
    let p = both (labelled (codes "entries") ts) _ h in
    let q = both (labelled (codes "attrs") us) _ p.1 in
    let r = both (labelled (codes "taken") vs) _ q.1 in
    let s = both (first_is is_number ws) _ r.1 in
    let a = labelled_number (codes "entries") ts p.0 in
    let b = labelled_number (codes "attrs") us q.0 in
    let c = labelled_number (codes "taken") vs r.0 in
    let d = has_first is_number ws s.0 in
    let x = numeral d.first d.passes in
    let e = number_left (drop 1 ws) s.1 in
    let last : ws ≡ decimal x.value ∷ decimal e.value ∷ [] = heads ws (drop 1 ws) _ d.first (decimal x.value) d.all x.token e.all in
    let taken = behind_labelled (codes "taken") vs _ c.value c.all last in
    let attributes = behind_labelled (codes "attrs") us _ b.value b.all taken in
    record {
      entries = a.value;
      attributes = b.value;
      readers = c.value;
      writers = x.value;
      nodes = e.value;
      all = behind_labelled (codes "entries") ts _ a.value a.all attributes;
      entries_fit = a.fits;
      attributes_fit = b.fits;
      readers_fit = c.fits;
      writers_fit = x.fits;
      nodes_fit = e.fits;
    }

record AreLimitsTokens (ts : List (List ℕ)) : Type 0 where
  readers : ℕ
  nodes : ℕ
  writers : ℕ
  rest : List (List ℕ)
  all : ts ≡ codes "readers" ∷ decimal readers ∷ codes "nodes" ∷ decimal nodes ∷ codes "writers" ∷ decimal writers ∷ rest
  counts : AreCounts rest
  readers_fit : IsNumber readers
  nodes_fit : IsNumber nodes
  writers_fit : IsNumber writers

limits_of : (ts : List (List ℕ)) → reads_limits ts ≡ true → AreLimitsTokens ts
unfolding reads_limits
limits_of ts h =
    let us : List (List ℕ) = drop 1 (drop 1 ts) in
    let vs : List (List ℕ) = drop 1 (drop 1 us) in
    let p = both (labelled (codes "readers") ts) _ h in
    let q = both (labelled (codes "nodes") us) _ p.1 in
    let r = both (labelled (codes "writers") vs) _ q.1 in
    let a = labelled_number (codes "readers") ts p.0 in
    let b = labelled_number (codes "nodes") us q.0 in
    let c = labelled_number (codes "writers") vs r.0 in
    record {
      readers = a.value;
      nodes = b.value;
      writers = c.value;
      rest = drop 1 (drop 1 vs);
      all = behind_labelled (codes "readers") ts _ a.value a.all (behind_labelled (codes "nodes") us _ b.value b.all c.all);
      counts = counts_of (drop 1 (drop 1 vs)) r.1;
      readers_fit = a.fits;
      nodes_fit = b.fits;
      writers_fit = c.fits;
    }

info_reply : (ts : List (List ℕ)) → reads_info ts ≡ true → AreReplyTokens (codes "info" ∷ ts)
unfolding reads_info
info_reply ts h =
    let p = both (begins_so item.BoardName ts) _ h in
    let q = both (begins_so item.KeyType (drop 1 ts)) _ p.1 in
    let a = has_first is_board_name ts p.0 in
    let b = has_first (is_item item.KeyType) (drop 1 ts) q.0 in
    let k = key_type_of b.first b.passes in
    let l = limits_of (drop 1 (drop 1 ts)) q.1 in
    let i : Info = record {
      name = a.first;
      key_type = k.0;
      max_readers = l.readers;
      max_nodes = l.nodes;
      max_writers = l.writers;
      entries = l.counts.entries;
      attributes = l.counts.attributes;
      readers = l.counts.readers;
      writers = l.counts.writers;
      nodes = l.counts.nodes;
    } in
    let tail : drop 1 (drop 1 ts) ≡ codes "readers" ∷ decimal l.readers ∷ codes "nodes" ∷ decimal l.nodes ∷ codes "writers" ∷ decimal l.writers
    ∷ codes "entries" ∷ decimal l.counts.entries ∷ codes "attrs" ∷ decimal l.counts.attributes ∷ codes "taken" ∷ decimal l.counts.readers ∷ decimal l.counts.writers ∷ decimal l.counts.nodes ∷ []
    = l.all ∙ ap (λ (x : List (List ℕ)). codes "readers" ∷ decimal l.readers ∷ codes "nodes" ∷ decimal l.nodes ∷ codes "writers" ∷ decimal l.writers ∷ x) l.counts.all in
    let all = heads ts (drop 1 ts) _ a.first a.first a.all refl (heads (drop 1 ts) (drop 1 (drop 1 ts)) _ b.first (key_type_text k.0) b.all k.1 tail) in
    record {
      reply = board_reply (reply.Info i);
      is = (
        record {
          name = a.passes;
          max_readers = l.readers_fit;
          max_nodes = l.nodes_fit;
          max_writers = l.writers_fit;
          entries = l.counts.entries_fit;
          attributes = l.counts.attributes_fit;
          readers = l.counts.readers_fit;
          writers = l.counts.writers_fit;
          nodes = l.counts.nodes_fit;
        },
        tt,
      );
      same = ap (λ (x : List (List ℕ)). join_with_byte 32 (codes "info" ∷ x)) all;
    }

-- ---- values

got_reply : (word : List ℕ) (ts : List (List ℕ)) → is_value word ≡ true → reads_got ts ≡ true → AreReplyTokens (word ∷ ts)
unfolding reads_got
got_reply word ts h k =
    let p = both (labelled (codes "gen") ts) (is_end (drop 1 (drop 1 ts))) k in
    let g = labelled_number (codes "gen") ts p.0 in
    let v = value_token_of word h in
    let all : ts ≡ codes "gen" ∷ decimal g.value ∷ [] = behind_labelled (codes "gen") ts [] g.value g.all (end_takes (drop 1 (drop 1 ts)) p.1) in
    record {
      reply = board_reply (reply.Got v.type v.words g.value);
      is = ((v.whole.fit, g.fits), v.whole.count);
      same = ap (λ (x : List (List ℕ)). join_with_byte 32 (word ∷ x)) all ∙ ap (λ (x : List ℕ). join_with_byte 32 (x ∷ codes "gen" ∷ decimal g.value ∷ [])) v.token;
    }

-- ---- all replies

of_word : (t v : List ℕ) (ts : List (List ℕ)) → t ≡ v → AreReplyTokens (v ∷ ts) → AreReplyTokens (t ∷ ts)
of_word t v ts e h = subst (λ (x : List ℕ). AreReplyTokens (x ∷ ts)) (sym e) h

of_rest : (t : List ℕ) (ts us : List (List ℕ)) → ts ≡ us → AreReplyTokens (t ∷ us) → AreReplyTokens (t ∷ ts)
of_rest t ts us e h = subst (λ (x : List (List ℕ)). AreReplyTokens (t ∷ x)) (sym e) h

done_reply : (ts : List (List ℕ)) → (is_end ts || reads_number ts) ≡ true → AreReplyTokens (codes "ok" ∷ ts)
done_reply ts h = at (either (is_end ts) (reads_number ts) h)
  where
    at : (is_end ts ≡ true) ⊎ (reads_number ts ≡ true) → AreReplyTokens (codes "ok" ∷ ts)
    at (inl e) = of_rest (codes "ok") ts [] (end_takes ts e) (by_reply (board_reply reply.Done) (tt, tt))
    at (inr e) = let n = number_left ts e in of_rest (codes "ok") ts (decimal n.value ∷ []) n.all (by_reply (board_reply (reply.Number n.value)) (n.fits, tt))

last_reply : (word : List ℕ) (ts : List (List ℕ)) → reads_last_reply word ts ≡ true → AreReplyTokens (word ∷ ts)
unfolding reads_last_reply
last_reply word ts h = at (test_at (is_end ts) (is_whole_reply word) (is_value word && reads_got ts) h)
  where
    at : ((is_end ts ≡ true) × (is_whole_reply word ≡ true)) ⊎ ((is_value word && reads_got ts) ≡ true) → AreReplyTokens (word ∷ ts)
    at (inl e) = of_rest word ts [] (end_takes ts e.0) (whole_reply word e.1)
    at (inr e) = let p = both (is_value word) (reads_got ts) e in got_reply word ts p.0 p.1

module _ (word : List ℕ) (ts : List (List ℕ)) where
  abbrev Words : Type 0
  Words = AreReplyTokens (word ∷ ts)

  id_reply : (word ≡ codes "id") ⊎ (word ≡ codes "gen") → reads_number ts ≡ true → Words
  id_reply (inl e) h = let n = number_left ts h in of_word word (codes "id") ts e (of_rest (codes "id") ts (decimal n.value ∷ []) n.all (by_reply (board_reply (reply.Id n.value)) (n.fits, tt)))
  id_reply (inr e) h = let n = number_left ts h in of_word word (codes "gen") ts e (of_rest (codes "gen") ts (decimal n.value ∷ []) n.all (by_reply (board_reply (reply.Generation n.value)) (n.fits, tt)))

  reply_of_word : reads_reply_of word ts ≡ true → Words
  unfolding reads_reply_of
  reply_of_word h =
      elim (word_at word (codes "ok") _ _ h) [
        | inl e ↦ of_word word (codes "ok") ts e.0 (done_reply ts e.1)
        | inr h1 ↦ elim (word_at word (codes "keys") _ _ h1) [
          | inl e ↦ of_word word (codes "keys") ts e.0 (keys_reply ts e.1)
          | inr h2 ↦ elim (word_at word (codes "nodes") _ _ h2) [
            | inl e ↦ of_word word (codes "nodes") ts e.0 (nodes_reply ts e.1)
            | inr h3 ↦ elim (word_at word (codes "ids") _ _ h3) [
              | inl e ↦ of_word word (codes "ids") ts e.0 (ids_reply ts e.1)
              | inr h4 ↦ elim (words_at word (codes "id") (codes "gen") _ _ h4) [
                | inl e ↦ id_reply e.0 e.1
                | inr h5 ↦ elim (word_at word (codes "info") _ _ h5) [
                  | inl e ↦ of_word word (codes "info") ts e.0 (info_reply ts e.1)
                  | inr h6 ↦ last_reply word ts h6
                ]
              ]
            ]
          ]
        ]
      ]

-- what is read as a reply is one
pub record IsReply (ts : List (List ℕ)) : Type 0 where
  pub some : (t : List ℕ) → join_with_byte 32 (t ∷ ts) ≡ t ++ 32 ∷ join_with_byte 32 ts
  pub text : IsReplyText (join_with_byte 32 ts)

pub reply_of : (ts : List (List ℕ)) → reads_reply ts ≡ true → IsReply ts
unfolding reads_reply
reply_of [] h = absurd cc
reply_of (word ∷ ts) h = record { some = λ t. refl; text = reply_of_word word ts h }

-- ---- replies behind an access

-- what the tokens tell, behind others
pub record IsTold (ts : List (List ℕ)) : Type 0 where
  pub told : Option StepReply
  pub is : IfSome told IsStepReply
  pub joined : (t : List ℕ) (us : List (List ℕ)) → join_with_byte 32 ((t ∷ us) ++ ts) ≡ join_with_byte 32 (t ∷ us) ++ step_told_text told

none_told : IsTold []
none_told = record { told = None; is = tt; joined = λ t us. ap (join_with_byte 32) (append-nil (t ∷ us)) ∙ sym (append-nil (join_with_byte 32 (t ∷ us))) }

some_told : (ts : List (List ℕ)) → IsReply ts → IsTold (codes "=" ∷ ts)
some_told ts h = record {
  told = Some h.text.reply;
  is = h.text.is;
  joined = λ t us.
      sym (joined_append t us (codes "=" ∷ ts) (omega arith))
      ∙ ap (λ (x : List ℕ). join_with_byte 32 (t ∷ us) ++ 32 ∷ x) (h.some (codes "="))
      ∙ ap (λ (x : List ℕ). join_with_byte 32 (t ∷ us) ++ 32 ∷ 61 ∷ 32 ∷ x) h.text.same;
}

pub told_of : (ts : List (List ℕ)) → reads_told ts ≡ true → IsTold ts
unfolding reads_told
told_of ts h = at (either (is_end ts) (begins_with (codes "=") ts && reads_reply (drop 1 ts)) h)
  where
    at : (is_end ts ≡ true) ⊎ ((begins_with (codes "=") ts && reads_reply (drop 1 ts)) ≡ true) → IsTold ts
    at (inl e) = subst IsTold (sym (end_takes ts e)) none_told
    at (inr e) =
        let p = both (begins_with (codes "=") ts) (reads_reply (drop 1 ts)) e in
        subst IsTold (sym (has_word (codes "=") ts p.0)) (some_told (drop 1 ts) (reply_of (drop 1 ts) p.1))
