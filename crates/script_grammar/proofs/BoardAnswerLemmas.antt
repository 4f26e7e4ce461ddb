-- The text of an answer to a board line holds no newline.
use Rattle.std.proofs.Common.{◌≡◌, ℕ, zero, suc, ◌/◌, ◌%◌, ◌<◌, arith, Bool, true, false, List, [], ◌∷◌, ◌++◌, Option, Some, None, refl, sym, subst, eqb, cond, map}
use Rattle.std.specs.Prelude.{codes, decimal, slice_index, IfSome}
use Rattle.std.specs.Fmt.{digit_glyph, digits, digits_onto}
use Rattle.std.specs.List.{flat_map, AllByRecursion}
use Rattle.std.proofs.lemmas.List.Concat.{flat_map-cons}
use Rattle.board_cell_model.specs.declared.access.Access.{Access}
use Rattle.board_cell_model.specs.declared.access.Access.TheVariants as access
use Rattle.board_model.specs.declared.answer.Reason.{Reason}
use Rattle.board_model.specs.declared.answer.Reason.TheVariants as reason
use Rattle.board_model.specs.declared.answer.Reply.{Reply}
use Rattle.board_model.specs.declared.answer.Reply.TheVariants as reply
use Rattle.board_model.specs.declared.answer.Info.{Info}
use Rattle.board_model.specs.declared.answer.Answer.{Answer}
use Rattle.board_model.specs.declared.answer.Answer.TheVariants as answer
use Rattle.board_model.specs.declared.value.Key.{Key}
use Rattle.board_model.specs.declared.value.Key.TheVariants as key
use Rattle.board_model.specs.declared.value.KeyType.{KeyType}
use Rattle.board_model.specs.declared.value.KeyType.TheVariants as key_type
use Rattle.board_model.specs.declared.value.ValueType.{ValueType}
use Rattle.board_model.specs.declared.value.ValueType.TheVariants as type
use Rattle.board_names.specs.declared.errors.boards.BlackboardCreateError.{BlackboardCreateError}
use Rattle.board_names.specs.declared.errors.boards.BlackboardCreateError.TheVariants as create_error
use Rattle.board_names.specs.declared.errors.boards.BlackboardOpenError.{BlackboardOpenError}
use Rattle.board_names.specs.declared.errors.boards.BlackboardOpenError.TheVariants as open_error
use Rattle.board_names.specs.declared.errors.boards.ReaderCreateError.{ReaderCreateError}
use Rattle.board_names.specs.declared.errors.boards.ReaderCreateError.TheVariants as reader_error
use Rattle.board_names.specs.declared.errors.boards.WriterCreateError.{WriterCreateError}
use Rattle.board_names.specs.declared.errors.boards.WriterCreateError.TheVariants as writer_error
use Rattle.board_names.specs.declared.errors.boards.EntryHandleError.{EntryHandleError}
use Rattle.board_names.specs.declared.errors.boards.EntryHandleError.TheVariants as entry_error
use Rattle.board_names.specs.declared.errors.boards.EntryHandleMutError.{EntryHandleMutError}
use Rattle.board_names.specs.declared.errors.boards.EntryHandleMutError.TheVariants as entry_mut_error
use Rattle.board_model.specs.LineGrammar.{IsKey, is_name, key_type_text}
use Rattle.board_model.specs.AnswerGrammar.{place_text, access_text, words_text, create_error_text, open_error_text, reader_error_text, writer_error_text, entry_error_text, entry_mut_error_text, number_text, key_item_text, name_item_text, info_text, reply_text, reason_text, told_text, answer_text, IsInfo, IsReply, IsAnswer}
use Rattle.board_model.specs.Lines.{IsOneLine}
use Rattle.script_grammar.proofs.SplitLemmas.{IsFree, free_append, free_joined, free_lacks, free_name, free_visible}

-- ---- numbers of any size

abbrev pub IsFlat : List ℕ → Type 0
IsFlat text = IsFree 10 text

flat_glyph : (d : ℕ) → d < 10 → (rest : List ℕ) → IsFlat rest → IsFlat (digit_glyph false d ∷ rest)
flat_glyph d low rest h = grind arith

either_flat : (b : Bool) (x y : List ℕ) → IsFlat x → IsFlat y → IsFlat (cond b x y)
either_flat true x y h k = h
either_flat false x y h k = k

flat_onto : (k n : ℕ) (rest : List ℕ) → IsFlat rest → IsFlat (digits_onto k 10 false n rest)
flat_onto zero n rest h = h
flat_onto (suc k) n rest h =
    let more = flat_glyph (n % 10) (omega arith) rest h in
    either_flat (eqb (n / 10) 0) _ _ more (flat_onto k (n / 10) (digit_glyph false (n % 10) ∷ rest) more)

flat_decimal : (n : ℕ) → IsFlat (decimal n)
unfolding digits
flat_decimal n = flat_onto 64 n [] refl

pub flat_number : (n : ℕ) → IsFlat (number_text n)
flat_number n = flat_decimal n

pub flat_numbers : (ns : List ℕ) → IsFlat (flat_map number_text ns)
flat_numbers [] = refl
flat_numbers (n ∷ ns) = subst IsFlat (sym (flat_map-cons number_text n ns)) (free_append 10 (number_text n) (flat_map number_text ns) (flat_number n) (flat_numbers ns))

-- ---- what a step prints

flat_append : (a b : List ℕ) → IsFlat a → IsFlat b → IsFlat (a ++ b)
flat_append a b ha hb = free_append 10 a b ha hb

flat_place : (board word value : ℕ) → IsFlat (place_text board word value)
flat_place board word value =
    flat_append (decimal board) (codes ":" ++ (decimal word ++ (codes " " ++ decimal value))) (flat_decimal board)
    (flat_append (decimal word) (codes " " ++ decimal value) (flat_decimal word) (flat_decimal value))

flat_access : (a : Access) → IsFlat (access_text a)
flat_access access.Table = refl
flat_access (access.Read board word value) = flat_place board word value
flat_access (access.Write board word value) = flat_place board word value

flat_each : {A : Type 0} (Is : A → Type 0) (f : A → List ℕ) → ((x : A) → Is x → IsFlat (f x)) → (xs : List A) → AllByRecursion Is xs → IsFlat (flat_map f xs)
flat_each Is f one [] h = refl
flat_each Is f one (x ∷ xs) h = subst IsFlat (sym (flat_map-cons f x xs)) (flat_append (f x) (flat_map f xs) (one x h.0) (flat_each Is f one xs h.1))

flat_decimals : (ws : List ℕ) → AllByRecursion (IsFree 10) (map decimal ws)
flat_decimals [] = tt
flat_decimals (w ∷ ws) = (flat_decimal w, flat_decimals ws)

flat_bool : (b : Bool) → IsFlat (codes "bool:" ++ cond b (codes "false") (codes "true"))
flat_bool true = refl
flat_bool false = refl

flat_words : (t : ValueType) (ws : List ℕ) → IsFlat (words_text t ws)
flat_words type.Bool ws = flat_bool (eqb (slice_index ws 0) 0)
flat_words type.U64 ws = free_joined 10 44 refl (map decimal ws) (flat_decimals ws)
flat_words type.Q4 ws = free_joined 10 44 refl (map decimal ws) (flat_decimals ws)

flat_create_error : (e : BlackboardCreateError) → IsFlat (create_error_text e)
flat_create_error create_error.AlreadyExists = refl
flat_create_error create_error.IsBeingCreatedByAnotherInstance = refl
flat_create_error create_error.InternalFailure = refl
flat_create_error create_error.InsufficientPermissions = refl
flat_create_error create_error.ServiceInCorruptedState = refl
flat_create_error create_error.HangsInCreation = refl
flat_create_error create_error.NoEntriesProvided = refl
flat_create_error create_error.NumbersSpent = refl
flat_create_error create_error.OutOfMemory = refl

flat_open_error : (e : BlackboardOpenError) → IsFlat (open_error_text e)
flat_open_error open_error.DoesNotExist = refl
flat_open_error open_error.ServiceInCorruptedState = refl
flat_open_error open_error.IncompatibleKeys = refl
flat_open_error open_error.InternalFailure = refl
flat_open_error open_error.IncompatibleAttributes = refl
flat_open_error open_error.IncompatibleMessagingPattern = refl
flat_open_error open_error.DoesNotSupportRequestedAmountOfReaders = refl
flat_open_error open_error.InsufficientPermissions = refl
flat_open_error open_error.HangsInCreation = refl
flat_open_error open_error.IsMarkedForDestruction = refl
flat_open_error open_error.ExceedsMaxNumberOfNodes = refl
flat_open_error open_error.DoesNotSupportRequestedAmountOfNodes = refl
flat_open_error open_error.NumbersSpent = refl
flat_open_error open_error.OutOfMemory = refl

flat_reader_error : (e : ReaderCreateError) → IsFlat (reader_error_text e)
flat_reader_error reader_error.ExceedsMaxSupportedReaders = refl
flat_reader_error reader_error.FailedToDeployThreadsafetyPolicy = refl
flat_reader_error reader_error.UnableToCreatePortTag = refl
flat_reader_error (reader_error.ThingUnknown thing) = refl
flat_reader_error reader_error.NumbersSpent = refl
flat_reader_error reader_error.OutOfMemory = refl

flat_writer_error : (e : WriterCreateError) → IsFlat (writer_error_text e)
flat_writer_error writer_error.ExceedsMaxSupportedWriters = refl
flat_writer_error writer_error.InternalFailure = refl
flat_writer_error writer_error.FailedToDeployThreadsafetyPolicy = refl
flat_writer_error writer_error.UnableToCreatePortTag = refl
flat_writer_error (writer_error.ThingUnknown thing) = refl
flat_writer_error writer_error.NumbersSpent = refl
flat_writer_error writer_error.OutOfMemory = refl

flat_entry_error : (e : EntryHandleError) → IsFlat (entry_error_text e)
flat_entry_error entry_error.EntryDoesNotExist = refl
flat_entry_error (entry_error.ThingUnknown thing) = refl
flat_entry_error entry_error.NumbersSpent = refl
flat_entry_error entry_error.OutOfMemory = refl

flat_entry_mut_error : (e : EntryHandleMutError) → IsFlat (entry_mut_error_text e)
flat_entry_mut_error entry_mut_error.EntryDoesNotExist = refl
flat_entry_mut_error entry_mut_error.HandleAlreadyExists = refl
flat_entry_mut_error (entry_mut_error.ThingUnknown thing) = refl
flat_entry_mut_error entry_mut_error.NumbersSpent = refl
flat_entry_mut_error entry_mut_error.OutOfMemory = refl

flat_key : (k : Key) → IsKey k → IsFlat (key_item_text k)
flat_key (key.U64 n) h = flat_decimal n
flat_key (key.F8 text) h = free_visible 10 8 refl text h

flat_name : (n : List ℕ) → is_name n ≡ true → IsFlat (name_item_text n)
flat_name n h = free_name 10 refl n h

flat_key_type : (k : KeyType) → IsFlat (key_type_text k)
flat_key_type key_type.U64 = refl
flat_key_type key_type.F8 = refl

flat_info : (i : Info) → IsInfo i → IsFlat (info_text i)
flat_info i h =
    flat_append i.name _ (free_visible 10 255 refl i.name h.name)
    (flat_append (key_type_text i.key_type) _ (flat_key_type i.key_type)
    (flat_append (decimal i.max_readers) _ (flat_decimal i.max_readers)
    (flat_append (decimal i.max_nodes) _ (flat_decimal i.max_nodes)
    (flat_append (decimal i.max_writers) _ (flat_decimal i.max_writers)
    (flat_append (decimal i.entries) _ (flat_decimal i.entries)
    (flat_append (decimal i.attributes) _ (flat_decimal i.attributes)
    (flat_append (decimal i.readers) _ (flat_decimal i.readers)
    (flat_append (decimal i.writers) _ (flat_decimal i.writers)
    (flat_decimal i.nodes)))))))))

flat_reply : (r : Reply) → IsReply r → IsFlat (reply_text r)
flat_reply reply.Done h = refl
flat_reply (reply.Number n) h = flat_number n
flat_reply (reply.Got t ws g) h = flat_append (words_text t ws) (codes " gen" ++ number_text g) (flat_words t ws) (flat_number g)
flat_reply (reply.Fresh true) h = refl
flat_reply (reply.Fresh false) h = refl
flat_reply (reply.Keys keys) h = flat_each IsKey key_item_text flat_key keys h
flat_reply (reply.Nodes names) h = flat_each (λ n. is_name n ≡ true) name_item_text flat_name names h
flat_reply (reply.Info i) h = flat_info i h
flat_reply (reply.Id n) h = flat_number n
flat_reply (reply.Generation g) h = flat_number g
flat_reply (reply.CreateError e) h = flat_create_error e
flat_reply (reply.OpenError e) h = flat_open_error e
flat_reply (reply.ReaderError e) h = flat_reader_error e
flat_reply (reply.WriterError e) h = flat_writer_error e
flat_reply (reply.EntryError e) h = flat_entry_error e
flat_reply (reply.EntryMutError e) h = flat_entry_mut_error e

flat_reason : (r : Reason) → IsFlat (reason_text r)
flat_reason reason.Abandoned = refl
flat_reason reason.Busy = refl
flat_reason reason.Idle = refl
flat_reason reason.Unknown = refl
flat_reason reason.Taken = refl
flat_reason reason.Type = refl
flat_reason reason.Index = refl
flat_reason reason.Unfilled = refl
flat_reason reason.NotWaiting = refl
flat_reason reason.NoBoard = refl

flat_told : (told : Option Reply) → IfSome told IsReply → IsFlat (told_text told)
flat_told None h = refl
flat_told (Some r) h = flat_reply r h

flat_answer : (a : Answer) → IsAnswer a → IsFlat (answer_text a)
flat_answer answer.Begun h = refl
flat_answer (answer.Refused why) h = flat_reason why
flat_answer (answer.Step a told) h = flat_append (access_text a) (told_text told) (flat_access a) (flat_told told h.1)
flat_answer answer.Gone h = refl
flat_answer (answer.Words ws) h = flat_numbers ws

pub answer_free : (a : Answer) → IsAnswer a → IsOneLine (answer_text a)
answer_free a h = free_lacks 10 (answer_text a) (flat_answer a h)
