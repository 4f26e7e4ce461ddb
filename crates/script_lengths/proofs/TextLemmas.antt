-- How long the texts of answers are.
use Rattle.std.proofs.Common.{◌≡◌, ℕ, ◌+◌, ◌*◌, ◌≤◌, Bool, true, false, List, [], ◌∷◌, ◌++◌, length, length-append, map, arith, Option, Some, None}
use Rattle.std.specs.Prelude.{codes, decimal, IfSome, if◌then◌else◌, ◌==◌, ◌&&◌, not, nat_le, slice_index}
use Rattle.std.specs.List.{AllByRecursion, flat_map, join_with_byte, list_all}
use Rattle.std.proofs.lemmas.Bool.{and_parts, leb-true}
use Rattle.std.proofs.lemmas.Fmt.{length-decimal-le}
use Rattle.board_cell_model.specs.declared.access.Access.{Access}
use Rattle.board_cell_model.specs.declared.access.Access.TheVariants as access
use Rattle.board_model.specs.declared.answer.Answer.TheVariants as answer
use Rattle.board_model.specs.declared.answer.Info.{Info}
use Rattle.board_model.specs.declared.answer.Reason.{Reason}
use Rattle.board_model.specs.declared.answer.Reason.TheVariants as reason
use Rattle.board_model.specs.declared.answer.Reply.{Reply}
use Rattle.board_model.specs.declared.answer.Reply.TheVariants as reply
use Rattle.board_names.specs.declared.errors.boards.BlackboardCreateError.{BlackboardCreateError}
use Rattle.board_names.specs.declared.errors.boards.BlackboardCreateError.TheVariants as create_error
use Rattle.board_names.specs.declared.errors.boards.BlackboardOpenError.{BlackboardOpenError}
use Rattle.board_names.specs.declared.errors.boards.BlackboardOpenError.TheVariants as open_error
use Rattle.board_names.specs.declared.errors.boards.EntryHandleError.{EntryHandleError}
use Rattle.board_names.specs.declared.errors.boards.EntryHandleError.TheVariants as entry_error
use Rattle.board_names.specs.declared.errors.boards.EntryHandleMutError.{EntryHandleMutError}
use Rattle.board_names.specs.declared.errors.boards.EntryHandleMutError.TheVariants as entry_mut_error
use Rattle.board_names.specs.declared.errors.boards.ReaderCreateError.{ReaderCreateError}
use Rattle.board_names.specs.declared.errors.boards.ReaderCreateError.TheVariants as reader_error
use Rattle.board_names.specs.declared.errors.boards.WriterCreateError.{WriterCreateError}
use Rattle.board_names.specs.declared.errors.boards.WriterCreateError.TheVariants as writer_error
use Rattle.board_model.specs.declared.value.Key.{Key}
use Rattle.board_model.specs.declared.value.Key.TheVariants as key
use Rattle.board_model.specs.declared.value.KeyType.{KeyType}
use Rattle.board_model.specs.declared.value.KeyType.TheVariants as key_type
use Rattle.board_model.specs.declared.value.ValueType.{ValueType}
use Rattle.board_model.specs.declared.value.ValueType.TheVariants as type
use Rattle.board_model.specs.LineGrammar.{IsKey, IsNumber, is_name, is_name_byte, is_visible, is_visible_byte, key_text, key_type_text}
use Rattle.board_model.specs.AnswerGrammar.{IsAccess, IsInfo, IsReply, access_text, create_error_text, entry_error_text, entry_mut_error_text, info_text, key_item_text, name_item_text, number_text, open_error_text, place_text, reader_error_text, reason_text, reply_text, told_text, words_text, writer_error_text}
use Rattle.script_lengths.specs.SizedAnswers.{AnswersAreShort, IsSizedReply, RepliesAreShort}

-- ---- parts

-- two texts, one behind the other
pub joined : (xs ys : List ℕ) (m n : ℕ) → length xs ≤ m → length ys ≤ n → length (xs ++ ys) ≤ m + n
joined xs ys m n h k =
    let e = length-append xs ys in
    omega (arith, e, h, k)

-- a text that is short, as a type from which the text can be read
pub record Fits (text : List ℕ) (most : ℕ) : Type 0 where
  pub few : length text ≤ most

pub fits : (text : List ℕ) (most : ℕ) → length text ≤ most → Fits text most
fits text most h = record { few = h }

pub behind : {xs ys : List ℕ} {m n : ℕ} → Fits xs m → Fits ys n → Fits (xs ++ ys) (m + n)
behind {xs = xs} {ys = ys} {m = m} {n = n} h k = record { few = joined xs ys m n h.few k.few }

pub digits_few : (n : ℕ) → IsNumber n → length (decimal n) ≤ 20
digits_few n h = length-decimal-le 20 n (omega arith) (omega (arith, h)) h

pub item_few : (n : ℕ) → IsNumber n → length (number_text n) ≤ 21
item_few n h = omega (arith, digits_few n h)

pub visible_few : (most : ℕ) (text : List ℕ) → is_visible most text ≡ true → length text ≤ most
visible_few most text e =
    let p = and_parts (not (length text == 0) && nat_le (length text) most) (list_all is_visible_byte text) e in
    let q = and_parts (not (length text == 0)) (nat_le (length text) most) p.0 in
    leb-true (length text) most q.1

pub name_few : (text : List ℕ) → is_name text ≡ true → length text ≤ 16
name_few text e =
    let p = and_parts (not (length text == 0) && nat_le (length text) 16) (list_all is_name_byte text) e in
    let q = and_parts (not (length text == 0)) (nat_le (length text) 16) p.0 in
    leb-true (length text) 16 q.1

key_few : (k : Key) → IsKey k → length (key_text k) ≤ 24
key_few (key.U64 n) h = omega (arith, digits_few n h)
key_few (key.F8 text) h = omega (arith, visible_few 8 text h)

-- ---- lists

pub numbers_short : (xs : List ℕ) → AllByRecursion IsNumber xs → length (flat_map number_text xs) ≤ 21 * length xs
numbers_short [] h = omega arith
numbers_short (x ∷ xs) h =
    let k = joined (number_text x) (flat_map number_text xs) 21 (21 * length xs) (item_few x h.0) (numbers_short xs h.1) in
    omega (arith, k)

keys_short : (xs : List Key) → AllByRecursion IsKey xs → length (flat_map key_item_text xs) ≤ 25 * length xs
keys_short [] h = omega arith
keys_short (x ∷ xs) h =
    let one : length (key_item_text x) ≤ 25 = omega (arith, key_few x h.0) in
    let k = joined (key_item_text x) (flat_map key_item_text xs) 25 (25 * length xs) one (keys_short xs h.1) in
    omega (arith, k)

names_short : (xs : List (List ℕ)) → AllByRecursion (λ (n : List ℕ). is_name n ≡ true) xs → length (flat_map name_item_text xs) ≤ 17 * length xs
names_short [] h = omega arith
names_short (x ∷ xs) h =
    let one : length (name_item_text x) ≤ 17 = omega (arith, name_few x h.0) in
    let k = joined (name_item_text x) (flat_map name_item_text xs) 17 (17 * length xs) one (names_short xs h.1) in
    omega (arith, k)

pub listed_short : (xs : List ℕ) → AllByRecursion IsNumber xs → length (join_with_byte 44 (map decimal xs)) ≤ 21 * length xs
listed_short [] h = omega arith
listed_short (x ∷ []) h = omega (arith, digits_few x h.0)
listed_short (x ∷ y ∷ xs) h =
    let k = joined (decimal x) (44 ∷ join_with_byte 44 (map decimal (y ∷ xs))) 20 (1 + 21 * length (y ∷ xs)) (digits_few x h.0) (omega (arith, listed_short (y ∷ xs) h.1)) in
    omega (arith, k)

-- ---- errors and reasons

pub create_few : (e : BlackboardCreateError) → length (create_error_text e) ≤ 40
create_few create_error.AlreadyExists = omega arith
create_few create_error.IsBeingCreatedByAnotherInstance = omega arith
create_few create_error.InternalFailure = omega arith
create_few create_error.InsufficientPermissions = omega arith
create_few create_error.ServiceInCorruptedState = omega arith
create_few create_error.HangsInCreation = omega arith
create_few create_error.NoEntriesProvided = omega arith
create_few create_error.NumbersSpent = omega arith
create_few create_error.OutOfMemory = omega arith

pub open_few : (e : BlackboardOpenError) → length (open_error_text e) ≤ 40
open_few open_error.DoesNotExist = omega arith
open_few open_error.ServiceInCorruptedState = omega arith
open_few open_error.IncompatibleKeys = omega arith
open_few open_error.InternalFailure = omega arith
open_few open_error.IncompatibleAttributes = omega arith
open_few open_error.IncompatibleMessagingPattern = omega arith
open_few open_error.DoesNotSupportRequestedAmountOfReaders = omega arith
open_few open_error.InsufficientPermissions = omega arith
open_few open_error.HangsInCreation = omega arith
open_few open_error.IsMarkedForDestruction = omega arith
open_few open_error.ExceedsMaxNumberOfNodes = omega arith
open_few open_error.DoesNotSupportRequestedAmountOfNodes = omega arith
open_few open_error.NumbersSpent = omega arith
open_few open_error.OutOfMemory = omega arith

pub reader_few : (e : ReaderCreateError) → length (reader_error_text e) ≤ 40
reader_few reader_error.ExceedsMaxSupportedReaders = omega arith
reader_few reader_error.FailedToDeployThreadsafetyPolicy = omega arith
reader_few reader_error.UnableToCreatePortTag = omega arith
reader_few (reader_error.ThingUnknown thing) = omega arith
reader_few reader_error.NumbersSpent = omega arith
reader_few reader_error.OutOfMemory = omega arith

pub writer_few : (e : WriterCreateError) → length (writer_error_text e) ≤ 40
writer_few writer_error.ExceedsMaxSupportedWriters = omega arith
writer_few writer_error.InternalFailure = omega arith
writer_few writer_error.FailedToDeployThreadsafetyPolicy = omega arith
writer_few writer_error.UnableToCreatePortTag = omega arith
writer_few (writer_error.ThingUnknown thing) = omega arith
writer_few writer_error.NumbersSpent = omega arith
writer_few writer_error.OutOfMemory = omega arith

pub entry_few : (e : EntryHandleError) → length (entry_error_text e) ≤ 40
entry_few entry_error.EntryDoesNotExist = omega arith
entry_few (entry_error.ThingUnknown thing) = omega arith
entry_few entry_error.NumbersSpent = omega arith
entry_few entry_error.OutOfMemory = omega arith

pub entry_mut_few : (e : EntryHandleMutError) → length (entry_mut_error_text e) ≤ 40
entry_mut_few entry_mut_error.EntryDoesNotExist = omega arith
entry_mut_few entry_mut_error.HandleAlreadyExists = omega arith
entry_mut_few (entry_mut_error.ThingUnknown thing) = omega arith
entry_mut_few entry_mut_error.NumbersSpent = omega arith
entry_mut_few entry_mut_error.OutOfMemory = omega arith

pub reason_few : (why : Reason) → length (reason_text why) ≤ 12
reason_few reason.Abandoned = omega arith
reason_few reason.Busy = omega arith
reason_few reason.Idle = omega arith
reason_few reason.Unknown = omega arith
reason_few reason.Taken = omega arith
reason_few reason.Type = omega arith
reason_few reason.Index = omega arith
reason_few reason.Unfilled = omega arith
reason_few reason.NotWaiting = omega arith
reason_few reason.NoBoard = omega arith

-- ---- replies

key_type_few : (k : KeyType) → length (key_type_text k) ≤ 3
key_type_few key_type.U64 = omega arith
key_type_few key_type.F8 = omega arith

info_short : (i : Info) → IsInfo i → Fits (info_text i) 474
info_short i h =
    let item = λ (n : ℕ) (k : IsNumber n). fits (number_text n) 21 (item_few n k) in
    behind (fits (codes "info ") 5 (omega arith)) (behind (fits i.name 255 (visible_few 255 i.name h.name))
    (behind (fits (codes " ") 1 (omega arith)) (behind (fits (key_type_text i.key_type) 3 (key_type_few i.key_type))
    (behind (fits (codes " readers") 8 (omega arith)) (behind (item i.max_readers h.max_readers)
    (behind (fits (codes " nodes") 6 (omega arith)) (behind (item i.max_nodes h.max_nodes)
    (behind (fits (codes " writers") 8 (omega arith)) (behind (item i.max_writers h.max_writers)
    (behind (fits (codes " entries") 8 (omega arith)) (behind (item i.entries h.entries)
    (behind (fits (codes " attrs") 6 (omega arith)) (behind (item i.attributes h.attributes)
    (behind (fits (codes " taken") 6 (omega arith)) (behind (item i.readers h.readers) (behind (item i.writers h.writers) (item i.nodes h.nodes)))))))))))))))))

pub truth_few : (b : Bool) → length (if b then codes "false" else codes "true") ≤ 5
truth_few true = omega arith
truth_few false = omega arith

words_short : (t : ValueType) (xs : List ℕ) → AllByRecursion IsNumber xs → length xs ≤ 1483 → length (words_text t xs) ≤ 31147
words_short type.Bool xs h le =
    let k = joined (codes "bool:") (if slice_index xs 0 == 0 then codes "false" else codes "true") 5 5 (omega arith) (truth_few (slice_index xs 0 == 0)) in
    omega (arith, k)
words_short type.U64 xs h le =
    let k = joined (codes "u64:") (join_with_byte 44 (map decimal xs)) 4 (21 * length xs) (omega arith) (listed_short xs h) in
    omega (arith, k, le)
words_short type.Q4 xs h le =
    let k = joined (codes "q4:") (join_with_byte 44 (map decimal xs)) 3 (21 * length xs) (omega arith) (listed_short xs h) in
    omega (arith, k, le)

pub replies_short : RepliesAreShort
replies_short n reply.Done h z = omega arith
replies_short n (reply.Number x) h z =
    let k = joined (codes "ok") (number_text x) 2 21 (omega arith) (item_few x h) in
    omega (arith, k)
replies_short n (reply.Got t xs g) h z =
    let a = joined (codes " gen") (number_text g) 4 21 (omega arith) (item_few g h.1) in
    let k = joined (words_text t xs) (codes " gen" ++ number_text g) 31147 25 (words_short t xs h.0 z) a in
    omega (arith, k)
replies_short n (reply.Fresh true) h z = omega arith
replies_short n (reply.Fresh false) h z = omega arith
replies_short n (reply.Keys xs) h z =
    let k = joined (codes "keys") (flat_map key_item_text xs) 4 (25 * length xs) (omega arith) (keys_short xs h) in
    omega (arith, k, z)
replies_short n (reply.Nodes xs) h z =
    let k = joined (codes "nodes") (flat_map name_item_text xs) 5 (17 * length xs) (omega arith) (names_short xs h) in
    omega (arith, k, z)
replies_short n (reply.Info i) h z = (
    let k = (info_short i h).few in
    omega (arith, k))
replies_short n (reply.Id x) h z =
    let k = joined (codes "id") (number_text x) 2 21 (omega arith) (item_few x h) in
    omega (arith, k)
replies_short n (reply.Generation g) h z =
    let k = joined (codes "gen") (number_text g) 3 21 (omega arith) (item_few g h) in
    omega (arith, k)
replies_short n (reply.CreateError e) h z =
    let k = joined (codes "BlackboardCreateError::") (create_error_text e) 23 40 (omega arith) (create_few e) in
    omega (arith, k)
replies_short n (reply.OpenError e) h z =
    let k = joined (codes "BlackboardOpenError::") (open_error_text e) 23 40 (omega arith) (open_few e) in
    omega (arith, k)
replies_short n (reply.ReaderError e) h z =
    let k = joined (codes "ReaderCreateError::") (reader_error_text e) 23 40 (omega arith) (reader_few e) in
    omega (arith, k)
replies_short n (reply.WriterError e) h z =
    let k = joined (codes "WriterCreateError::") (writer_error_text e) 23 40 (omega arith) (writer_few e) in
    omega (arith, k)
replies_short n (reply.EntryError e) h z =
    let k = joined (codes "EntryHandleError::") (entry_error_text e) 23 40 (omega arith) (entry_few e) in
    omega (arith, k)
replies_short n (reply.EntryMutError e) h z =
    let k = joined (codes "EntryHandleMutError::") (entry_mut_error_text e) 23 40 (omega arith) (entry_mut_few e) in
    omega (arith, k)

-- ---- answers

place_short : (b w v : ℕ) → IsNumber b → IsNumber w → IsNumber v → length (place_text b w v) ≤ 62
place_short b w v h j k =
    let digits = λ (n : ℕ) (l : IsNumber n). fits (decimal n) 20 (digits_few n l) in
    let all = behind (digits b h) (behind (fits (codes ":") 1 (omega arith)) (behind (digits w j) (behind (fits (codes " ") 1 (omega arith)) (digits v k)))) in
    all.few

pub access_short : (a : Access) → IsAccess a → length (access_text a) ≤ 68
access_short access.Table h = omega arith
access_short (access.Read b w v) h =
    let k = joined (codes "read ") (place_text b w v) 6 62 (omega arith) (place_short b w v h.0 h.1 h.2) in
    omega (arith, k)
access_short (access.Write b w v) h =
    let k = joined (codes "write ") (place_text b w v) 6 62 (omega arith) (place_short b w v h.0 h.1 h.2) in
    omega (arith, k)

told_short : (n : ℕ) (told : Option Reply) → IfSome told IsReply → IfSome told (IsSizedReply n) → length (told_text told) ≤ 31203 + 17 * n
told_short n None h z = omega arith
told_short n (Some r) h z =
    let k = joined (codes " = ") (reply_text r) 3 (31200 + 17 * n) (omega arith) (replies_short n r h z) in
    omega (arith, k)

pub answers_short : AnswersAreShort
answers_short n answer.Begun h z = omega arith
answers_short n (answer.Refused why) h z =
    let k = joined (codes "refused ") (reason_text why) 8 12 (omega arith) (reason_few why) in
    omega (arith, k)
answers_short n (answer.Step a told) h z =
    let k = joined (access_text a) (told_text told) 68 (31203 + 17 * n) (access_short a h.0) (told_short n told h.1 z) in
    omega (arith, k)
answers_short n answer.Gone h z = omega arith
answers_short n (answer.Words xs) h z =
    let k = joined (codes "words") (flat_map number_text xs) 5 (21 * length xs) (omega arith) (numbers_short xs h) in
    omega (arith, k, z)
