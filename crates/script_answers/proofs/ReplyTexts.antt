-- Each reply is read.
use Rattle.std.proofs.Common.{◌≡◌, ℕ, Bool, true, false, List, [], ◌∷◌, ◌++◌, arith, refl, sym, ap, ◌∙◌, map, Option, Some, None}
use Rattle.std.specs.Prelude.{codes, decimal, IfSome, if◌then◌else◌, slice_index, ◌==◌}
use Rattle.std.proofs.lemmas.List.{append-nil}
use Rattle.board_model.specs.declared.value.ValueType.{ValueType}
use Rattle.board_model.specs.declared.value.ValueType.TheVariants as type
use Rattle.std.specs.List.{join_with_byte, list_all, AllByRecursion}
use Rattle.board_model.specs.declared.answer.Reply.{Reply}
use Rattle.board_model.specs.declared.answer.Reply.TheVariants as reply
use Rattle.board_model.specs.declared.answer.Info.{Info}
use Rattle.board_model.specs.LineGrammar.{IsKey, IsNumber, is_name, key_text, key_type_text}
use Rattle.board_model.specs.AnswerGrammar.{IsInfo, IsReply, create_error_text, entry_error_text, entry_mut_error_text, info_text, is_create_reply, is_entry_mut_reply, is_entry_reply, is_open_reply, is_reader_reply, is_writer_reply, open_error_text, reader_error_text, reply_text, words_text, writer_error_text}
use Rattle.board_names.specs.declared.errors.boards.BlackboardCreateError.{BlackboardCreateError}
use Rattle.board_names.specs.declared.errors.boards.BlackboardCreateError.TheVariants as create_error
use Rattle.board_names.specs.declared.errors.boards.BlackboardOpenError.{BlackboardOpenError}
use Rattle.board_names.specs.declared.errors.boards.BlackboardOpenError.TheVariants as open_error
use Rattle.board_names.specs.declared.errors.boards.ReaderCreateError.{ReaderCreateError}
use Rattle.board_names.specs.declared.errors.boards.ReaderCreateError.TheVariants as reader_error
use Rattle.board_names.specs.declared.errors.boards.WriterCreateError.{WriterCreateError}
use Rattle.board_names.specs.declared.errors.boards.WriterCreateError.TheVariants as writer_error
use Rattle.board_names.specs.declared.errors.boards.EntryHandleError.{EntryHandleError}
use Rattle.board_names.specs.declared.errors.boards.EntryHandleError.TheVariants as entry_error
use Rattle.board_names.specs.declared.errors.boards.EntryHandleMutError.{EntryHandleMutError}
use Rattle.board_names.specs.declared.errors.boards.EntryHandleMutError.TheVariants as entry_mut_error
use Rattle.board_names.specs.declared.errors.event.NotifierNotifyError.{NotifierNotifyError}
use Rattle.board_names.specs.declared.errors.event.NotifierNotifyError.TheVariants as notify_error
use Rattle.script_model.specs.declared.reply.EventReply.{EventReply}
use Rattle.script_model.specs.declared.reply.EventReply.TheVariants as event_reply
use Rattle.script_model.specs.ScriptAnswers.{IsFormedReply, event_reply_text, notify_error_text}
use Rattle.script_rules.specs.PrintedAnswers.{IsGivenReply, IsStepReply, IsWholeReply, StepReply, board_reply, events_reply, is_notify_reply, step_reply_text, step_told_text}
use Rattle.script_grammar.proofs.SplitLemmas.{IsFree, free_name, free_visible}
use Rattle.script_answers.specs.AnswerReading.{is_key, is_number, is_whole_reply, labelled, reads_counts, reads_got, reads_info, reads_limits, reads_number, reads_reply, reads_told, is_value, reads_last_reply, reads_reply_of}
use Rattle.script_answers.proofs.Joined.{AreFree, IsTaken, free_each, joined_append, joined_cons, joined_each}
use Rattle.script_answers.proofs.ItemLemmas.{IsWhole, free_key, free_key_type, free_numeral, free_words, key_taken, key_type_taken, number_taken, words_taken}

-- a reply that is read
abbrev IsReadReply : List ℕ → Type 0
IsReadReply text = IsTaken reads_reply text

-- ---- words alone

one_word : (t : List ℕ) → IsFree 32 t → reads_reply (t ∷ []) ≡ true → IsReadReply t
one_word t f r = record { parts = t ∷ []; some = omega arith; joined = refl; free = (f, tt); read = r }

create_read : (e : BlackboardCreateError) → is_create_reply e ≡ true → IsReadReply (codes "BlackboardCreateError::" ++ create_error_text e)
unfolding reads_reply reads_reply_of reads_last_reply is_whole_reply
create_read create_error.AlreadyExists h = one_word _ refl refl
create_read create_error.NoEntriesProvided h = one_word _ refl refl
create_read create_error.ServiceInCorruptedState h = one_word _ refl refl
create_read e h = absurd cc

open_read : (e : BlackboardOpenError) → is_open_reply e ≡ true → IsReadReply (codes "BlackboardOpenError::" ++ open_error_text e)
unfolding reads_reply reads_reply_of reads_last_reply is_whole_reply
open_read open_error.DoesNotExist h = one_word _ refl refl
open_read open_error.IncompatibleKeys h = one_word _ refl refl
open_read open_error.IncompatibleAttributes h = one_word _ refl refl
open_read open_error.DoesNotSupportRequestedAmountOfReaders h = one_word _ refl refl
open_read open_error.DoesNotSupportRequestedAmountOfNodes h = one_word _ refl refl
open_read open_error.ExceedsMaxNumberOfNodes h = one_word _ refl refl
open_read e h = absurd cc

reader_read : (e : ReaderCreateError) → is_reader_reply e ≡ true → IsReadReply (codes "ReaderCreateError::" ++ reader_error_text e)
unfolding reads_reply reads_reply_of reads_last_reply is_whole_reply
reader_read reader_error.ExceedsMaxSupportedReaders h = one_word _ refl refl
reader_read e h = absurd cc

writer_read : (e : WriterCreateError) → is_writer_reply e ≡ true → IsReadReply (codes "WriterCreateError::" ++ writer_error_text e)
unfolding reads_reply reads_reply_of reads_last_reply is_whole_reply
writer_read writer_error.ExceedsMaxSupportedWriters h = one_word _ refl refl
writer_read e h = absurd cc

entry_read : (e : EntryHandleError) → is_entry_reply e ≡ true → IsReadReply (codes "EntryHandleError::" ++ entry_error_text e)
unfolding reads_reply reads_reply_of reads_last_reply is_whole_reply
entry_read entry_error.EntryDoesNotExist h = one_word _ refl refl
entry_read e h = absurd cc

entry_mut_read : (e : EntryHandleMutError) → is_entry_mut_reply e ≡ true → IsReadReply (codes "EntryHandleMutError::" ++ entry_mut_error_text e)
unfolding reads_reply reads_reply_of reads_last_reply is_whole_reply
entry_mut_read entry_mut_error.EntryDoesNotExist h = one_word _ refl refl
entry_mut_read entry_mut_error.HandleAlreadyExists h = one_word _ refl refl
entry_mut_read e h = absurd cc

notify_read : (e : NotifierNotifyError) → is_notify_reply e ≡ true → IsReadReply (codes "NotifierNotifyError::" ++ notify_error_text e)
unfolding reads_reply reads_reply_of reads_last_reply is_whole_reply
notify_read notify_error.FailedToDeliverSignal h = one_word _ refl refl
notify_read notify_error.TriggerIdOutOfBounds h = one_word _ refl refl
notify_read notify_error.Disconnected h = one_word _ refl refl
notify_read e h = absurd cc

-- ---- a word and a number

numbered_read : (n : ℕ) → IsNumber n → IsReadReply (codes "ok" ++ (32 ∷ decimal n))
unfolding reads_reply reads_reply_of reads_number
numbered_read n h = record { parts = codes "ok" ∷ decimal n ∷ []; some = omega arith; joined = refl; free = (refl, (free_numeral n h, tt)); read = rw (number_taken n h) refl }

id_read : (n : ℕ) → IsNumber n → IsReadReply (codes "id" ++ (32 ∷ decimal n))
unfolding reads_reply reads_reply_of reads_number
id_read n h = record { parts = codes "id" ∷ decimal n ∷ []; some = omega arith; joined = refl; free = (refl, (free_numeral n h, tt)); read = rw (number_taken n h) refl }

generation_read : (n : ℕ) → IsNumber n → IsReadReply (codes "gen" ++ (32 ∷ decimal n))
unfolding reads_reply reads_reply_of reads_number
generation_read n h = record { parts = codes "gen" ∷ decimal n ∷ []; some = omega arith; joined = refl; free = (refl, (free_numeral n h, tt)); read = rw (number_taken n h) refl }

-- ---- values

bool_got : (b : Bool) (g : ℕ) → IsNumber g → reads_reply ((codes "bool:" ++ (if b then codes "false" else codes "true")) ∷ codes "gen" ∷ decimal g ∷ []) ≡ true
unfolding reads_reply reads_reply_of reads_last_reply reads_got labelled is_value
bool_got true g k = rw (number_taken g k) refl
bool_got false g k = rw (number_taken g k) refl

got_parts : (t : ValueType) (words : List ℕ) (g : ℕ) → IsWhole t words → IsNumber g → reads_reply (words_text t words ∷ codes "gen" ∷ decimal g ∷ []) ≡ true
unfolding reads_reply reads_reply_of reads_last_reply reads_got labelled
got_parts type.Bool words g h k = bool_got (slice_index words 0 == 0) g k
got_parts type.U64 words g h k = rw (words_taken type.U64 words h, number_taken g k) refl
got_parts type.Q4 words g h k = rw (words_taken type.Q4 words h, number_taken g k) refl

got_read : (t : ValueType) (words : List ℕ) (g : ℕ) → IsWhole t words → IsNumber g → IsReadReply (words_text t words ++ (codes " gen" ++ (32 ∷ decimal g)))
got_read t words g h k = record {
  parts = words_text t words ∷ codes "gen" ∷ decimal g ∷ [];
  some = omega arith;
  joined = refl;
  free = (free_words t words h.fit, (refl, (free_numeral g k, tt)));
  read = got_parts t words g h k;
}

-- ---- lists

pub all_pass : {A : Type 0} (Is : A → Type 0) (f : A → List ℕ) (test : List ℕ → Bool) → ((x : A) → Is x → test (f x) ≡ true) → (xs : List A) → AllByRecursion Is xs → list_all test (map f xs) ≡ true
all_pass Is f test one [] h = refl
all_pass Is f test one (x ∷ xs) h = rw (one x h.0, all_pass Is f test one xs h.1) refl

-- the word of a list with its items
listed : {A : Type 0} (word : List ℕ) (Is : A → Type 0) (f : A → List ℕ) (xs : List A) (text : List ℕ) → IsFree 32 word → text ≡ join_with_byte 32 (word ∷ map f xs) → ((x : A) → Is x → IsFree 32 (f x)) → AllByRecursion Is xs → reads_reply (word ∷ map f xs) ≡ true → IsReadReply text
listed word Is f xs text w e free h r = record { parts = word ∷ map f xs; some = omega arith; joined = e; free = (w, free_each Is f free xs h); read = r }

-- ---- what is told of a board

counts_read : (i : Info) → IsInfo i → reads_counts (codes "entries" ∷ decimal i.entries ∷ codes "attrs" ∷ decimal i.attributes ∷ codes "taken" ∷ decimal i.readers ∷ decimal i.writers ∷ decimal i.nodes ∷ []) ≡ true
unfolding reads_counts labelled reads_number
counts_read i h = rw (number_taken i.entries h.entries, number_taken i.attributes h.attributes, number_taken i.readers h.readers, number_taken i.writers h.writers, number_taken i.nodes h.nodes) refl

limits_read : (i : Info) (ts : List (List ℕ)) → IsInfo i → reads_counts ts ≡ true → reads_limits (codes "readers" ∷ decimal i.max_readers ∷ codes "nodes" ∷ decimal i.max_nodes ∷ codes "writers" ∷ decimal i.max_writers ∷ ts) ≡ true
unfolding reads_limits labelled
limits_read i ts h more = rw (number_taken i.max_readers h.max_readers, number_taken i.max_nodes h.max_nodes, number_taken i.max_writers h.max_writers, more) refl

-- the tokens behind the word
abbrev info_parts : Info → List (List ℕ)
info_parts i =
    i.name ∷ key_type_text i.key_type
    ∷ codes "readers" ∷ decimal i.max_readers ∷ codes "nodes" ∷ decimal i.max_nodes ∷ codes "writers" ∷ decimal i.max_writers
    ∷ codes "entries" ∷ decimal i.entries ∷ codes "attrs" ∷ decimal i.attributes ∷ codes "taken" ∷ decimal i.readers ∷ decimal i.writers ∷ decimal i.nodes ∷ []

parts_read : (i : Info) → IsInfo i → reads_info (info_parts i) ≡ true
unfolding reads_info
parts_read i h = rw (h.name, key_type_taken i.key_type, limits_read i _ h (counts_read i h)) refl

info_read : (i : Info) → IsInfo i → IsReadReply (info_text i)
unfolding reads_reply reads_reply_of
info_read i h = record {
  parts = codes "info" ∷ info_parts i;
  some = omega arith;
  joined = refl;
  free = (
    refl,
    (
      free_visible 32 255 refl i.name h.name,
      (
        free_key_type i.key_type,
        (
          refl,
          (
            free_numeral i.max_readers h.max_readers,
            (
              refl,
              (
                free_numeral i.max_nodes h.max_nodes,
                (
                  refl,
                  (
                    free_numeral i.max_writers h.max_writers,
                    (
                      refl,
                      (
                        free_numeral i.entries h.entries,
                        (
                          refl,
                          (
                            free_numeral i.attributes h.attributes,
                            (
                              refl,
                              (
                                free_numeral i.readers h.readers,
                                (free_numeral i.writers h.writers, (free_numeral i.nodes h.nodes, tt)),
                              ),
                            ),
                          ),
                        ),
                      ),
                    ),
                  ),
                ),
              ),
            ),
          ),
        ),
      ),
    ),
  );
  read = parts_read i h;
}

-- ---- all replies

board_reply_read : (r : Reply) → IsReply r → IsWholeReply r → IsReadReply (reply_text r)
unfolding reads_reply reads_reply_of reads_last_reply reads_got labelled is_whole_reply
board_reply_read reply.Done h k = one_word (codes "ok") refl refl
board_reply_read (reply.Number n) h k = numbered_read n h
board_reply_read (reply.Got t words g) h k = got_read t words g (record { count = k; fit = h.0 }) h.1
board_reply_read (reply.Fresh true) h k = one_word (codes "true") refl refl
board_reply_read (reply.Fresh false) h k = one_word (codes "false") refl refl
board_reply_read (reply.Keys keys) h k =
    listed (codes "keys") IsKey key_text keys _ refl (joined_each key_text (codes "keys") keys) free_key h (all_pass IsKey key_text is_key key_taken keys h)
board_reply_read (reply.Nodes names) h k =
    let same : List ℕ → List ℕ = λ (x : List ℕ). x in
    listed (codes "nodes") (λ n. is_name n ≡ true) same names _ refl (joined_each same (codes "nodes") names) (λ n e. free_name 32 refl n e) h (all_pass (λ n. is_name n ≡ true) same is_name (λ n e. e) names h)
board_reply_read (reply.Info i) h k = info_read i h
board_reply_read (reply.Id n) h k = id_read n h
board_reply_read (reply.Generation g) h k = generation_read g h
board_reply_read (reply.CreateError e) h k = create_read e h
board_reply_read (reply.OpenError e) h k = open_read e h
board_reply_read (reply.ReaderError e) h k = reader_read e h
board_reply_read (reply.WriterError e) h k = writer_read e h
board_reply_read (reply.EntryError e) h k = entry_read e h
board_reply_read (reply.EntryMutError e) h k = entry_mut_read e h

event_reply_read : (r : EventReply) → IsFormedReply r → IsGivenReply r → IsReadReply (event_reply_text r)
unfolding reads_reply reads_reply_of reads_last_reply is_whole_reply
event_reply_read event_reply.Done h k = one_word (codes "ok") refl refl
event_reply_read (event_reply.Id n) h k = id_read n h
event_reply_read (event_reply.Ids ids) h k =
    listed (codes "ids") IsNumber decimal ids _ refl (joined_each decimal (codes "ids") ids) free_numeral h (all_pass IsNumber decimal is_number number_taken ids h)
event_reply_read event_reply.Nothing h k = one_word (codes "none") refl refl
event_reply_read event_reply.AlreadyExists h k = one_word (codes "ListenerCreateError::AlreadyExists") refl refl
event_reply_read event_reply.DoesNotExist h k = one_word (codes "NotifierCreateError::DoesNotExist") refl refl
event_reply_read (event_reply.NotNotified e) h k = notify_read e k

reply_read : (r : StepReply) → IsStepReply r → IsReadReply (step_reply_text r)
reply_read (board_reply r) h = board_reply_read r h.0 h.1
reply_read (events_reply r) h = event_reply_read r h.0 h.1

-- ---- replies behind an access

-- what is told, as tokens behind others
pub record IsReadTold (told : Option StepReply) : Type 0 where
  pub parts : List (List ℕ)
  pub joined : (t : List ℕ) (ts : List (List ℕ)) → join_with_byte 32 (t ∷ ts) ++ step_told_text told ≡ join_with_byte 32 ((t ∷ ts) ++ parts)
  pub free : AreFree parts
  pub read : reads_told parts ≡ true

pub told_read : (told : Option StepReply) → IfSome told IsStepReply → IsReadTold told
unfolding reads_told
told_read None h = record {
  parts = [];
  joined = λ t ts. append-nil (join_with_byte 32 (t ∷ ts)) ∙ ap (join_with_byte 32) (sym (append-nil (t ∷ ts)));
  free = tt;
  read = refl;
}
told_read (Some r) h = behind (reply_read r h)
  where
    behind : IsReadReply (step_reply_text r) → IsReadTold (Some r)
    behind k = record {
      parts = codes "=" ∷ k.parts;
      joined = λ t ts.
          ap (λ (x : List ℕ). join_with_byte 32 (t ∷ ts) ++ 32 ∷ 61 ∷ 32 ∷ x) k.joined
          ∙ ap (λ (x : List ℕ). join_with_byte 32 (t ∷ ts) ++ 32 ∷ x) (sym (joined_cons (codes "=") k.parts k.some))
          ∙ joined_append t ts (codes "=" ∷ k.parts) (omega arith);
      free = (refl, k.free);
      read = k.read;
    }
