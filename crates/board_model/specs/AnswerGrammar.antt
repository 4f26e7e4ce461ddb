-- The answers to the lines of a script and their bytes.
use Rattle.std.specs.Prelude.{◌≡◌, ℕ, Bool, true, false, ◌==◌, if◌then◌else◌, List, [], ◌∷◌, ◌++◌, map, slice_index, codes, decimal, Option, Some, None, IfSome}
use Rattle.std.specs.List.{join_with_byte, flat_map, AllByRecursion}
use Rattle.board_cell_model.specs.declared.access.Access.{Access}
use Rattle.board_cell_model.specs.declared.access.Access.TheVariants as access
use Rattle.board_model.specs.declared.answer.Reason.{Reason}
use Rattle.board_model.specs.declared.answer.Reason.TheVariants as reason
use Rattle.board_model.specs.declared.answer.Reply.{Reply}
use Rattle.board_model.specs.declared.answer.Reply.TheVariants as reply
use Rattle.board_model.specs.declared.answer.Info.{Info}
use Rattle.board_model.specs.declared.answer.Answer.{Answer}
use Rattle.board_model.specs.declared.answer.Answer.TheVariants as answer
use Rattle.board_model.specs.declared.value.Key.{Key}
use Rattle.board_model.specs.declared.value.ValueType.{ValueType}
use Rattle.board_model.specs.declared.value.ValueType.TheVariants as type
use Rattle.board_names.specs.declared.errors.boards.BlackboardCreateError.{BlackboardCreateError}
use Rattle.board_names.specs.declared.errors.boards.BlackboardCreateError.TheVariants as create_error
use Rattle.board_names.specs.declared.errors.boards.BlackboardOpenError.{BlackboardOpenError}
use Rattle.board_names.specs.declared.errors.boards.BlackboardOpenError.TheVariants as open_error
use Rattle.board_names.specs.declared.errors.boards.ReaderCreateError.{ReaderCreateError}
use Rattle.board_names.specs.declared.errors.boards.ReaderCreateError.TheVariants as reader_error
use Rattle.board_names.specs.declared.errors.boards.WriterCreateError.{WriterCreateError}
use Rattle.board_names.specs.declared.errors.boards.WriterCreateError.TheVariants as writer_error
use Rattle.board_names.specs.declared.errors.boards.EntryHandleError.{EntryHandleError}
use Rattle.board_names.specs.declared.errors.boards.EntryHandleError.TheVariants as entry_error
use Rattle.board_names.specs.declared.errors.boards.EntryHandleMutError.{EntryHandleMutError}
use Rattle.board_names.specs.declared.errors.boards.EntryHandleMutError.TheVariants as entry_mut_error
use Rattle.board_model.specs.LineGrammar.{IsKey, IsNumber, is_board_name, is_name, key_text, key_type_text}

-- ---- texts

-- a word of a board and its value, as an access prints them
abbrev pub place_text : ℕ → ℕ → ℕ → List ℕ
place_text board word value = decimal board ++ (codes ":" ++ (decimal word ++ (codes " " ++ decimal value)))

-- what a step prints of the access that it took
abbrev pub access_text : Access → List ℕ
access_text access.Table = codes "table"
access_text (access.Read board word value) = codes "read " ++ place_text board word value
access_text (access.Write board word value) = codes "write " ++ place_text board word value

-- a value of a type, by its words
abbrev pub words_text : ValueType → List ℕ → List ℕ
words_text type.Bool words = codes "bool:" ++ (if slice_index words 0 == 0 then codes "false" else codes "true")
words_text type.U64 words = codes "u64:" ++ join_with_byte 44 (map decimal words)
words_text type.Q4 words = codes "q4:" ++ join_with_byte 44 (map decimal words)

-- how an error of creating a board is written
abbrev pub create_error_text : BlackboardCreateError → List ℕ
create_error_text create_error.AlreadyExists = codes "AlreadyExists"
create_error_text create_error.IsBeingCreatedByAnotherInstance = codes "IsBeingCreatedByAnotherInstance"
create_error_text create_error.InternalFailure = codes "InternalFailure"
create_error_text create_error.InsufficientPermissions = codes "InsufficientPermissions"
create_error_text create_error.ServiceInCorruptedState = codes "ServiceInCorruptedState"
create_error_text create_error.HangsInCreation = codes "HangsInCreation"
create_error_text create_error.NoEntriesProvided = codes "NoEntriesProvided"
create_error_text create_error.NumbersSpent = codes "NumbersSpent"
create_error_text create_error.OutOfMemory = codes "OutOfMemory"

-- how an error of opening a board is written
abbrev pub open_error_text : BlackboardOpenError → List ℕ
open_error_text open_error.DoesNotExist = codes "DoesNotExist"
open_error_text open_error.ServiceInCorruptedState = codes "ServiceInCorruptedState"
open_error_text open_error.IncompatibleKeys = codes "IncompatibleKeys"
open_error_text open_error.InternalFailure = codes "InternalFailure"
open_error_text open_error.IncompatibleAttributes = codes "IncompatibleAttributes"
open_error_text open_error.IncompatibleMessagingPattern = codes "IncompatibleMessagingPattern"
open_error_text open_error.DoesNotSupportRequestedAmountOfReaders = codes "DoesNotSupportRequestedAmountOfReaders"
open_error_text open_error.InsufficientPermissions = codes "InsufficientPermissions"
open_error_text open_error.HangsInCreation = codes "HangsInCreation"
open_error_text open_error.IsMarkedForDestruction = codes "IsMarkedForDestruction"
open_error_text open_error.ExceedsMaxNumberOfNodes = codes "ExceedsMaxNumberOfNodes"
open_error_text open_error.DoesNotSupportRequestedAmountOfNodes = codes "DoesNotSupportRequestedAmountOfNodes"
open_error_text open_error.NumbersSpent = codes "NumbersSpent"
open_error_text open_error.OutOfMemory = codes "OutOfMemory"

-- how an error of making a reader is written
abbrev pub reader_error_text : ReaderCreateError → List ℕ
reader_error_text reader_error.ExceedsMaxSupportedReaders = codes "ExceedsMaxSupportedReaders"
reader_error_text reader_error.FailedToDeployThreadsafetyPolicy = codes "FailedToDeployThreadsafetyPolicy"
reader_error_text reader_error.UnableToCreatePortTag = codes "UnableToCreatePortTag"
reader_error_text (reader_error.ThingUnknown thing) = codes "ThingUnknown"
reader_error_text reader_error.NumbersSpent = codes "NumbersSpent"
reader_error_text reader_error.OutOfMemory = codes "OutOfMemory"

-- how an error of making a writer is written
abbrev pub writer_error_text : WriterCreateError → List ℕ
writer_error_text writer_error.ExceedsMaxSupportedWriters = codes "ExceedsMaxSupportedWriters"
writer_error_text writer_error.InternalFailure = codes "InternalFailure"
writer_error_text writer_error.FailedToDeployThreadsafetyPolicy = codes "FailedToDeployThreadsafetyPolicy"
writer_error_text writer_error.UnableToCreatePortTag = codes "UnableToCreatePortTag"
writer_error_text (writer_error.ThingUnknown thing) = codes "ThingUnknown"
writer_error_text writer_error.NumbersSpent = codes "NumbersSpent"
writer_error_text writer_error.OutOfMemory = codes "OutOfMemory"

-- how an error of asking for a read handle is written
abbrev pub entry_error_text : EntryHandleError → List ℕ
entry_error_text entry_error.EntryDoesNotExist = codes "EntryDoesNotExist"
entry_error_text (entry_error.ThingUnknown thing) = codes "ThingUnknown"
entry_error_text entry_error.NumbersSpent = codes "NumbersSpent"
entry_error_text entry_error.OutOfMemory = codes "OutOfMemory"

-- how an error of asking for a write handle is written
abbrev pub entry_mut_error_text : EntryHandleMutError → List ℕ
entry_mut_error_text entry_mut_error.EntryDoesNotExist = codes "EntryDoesNotExist"
entry_mut_error_text entry_mut_error.HandleAlreadyExists = codes "HandleAlreadyExists"
entry_mut_error_text (entry_mut_error.ThingUnknown thing) = codes "ThingUnknown"
entry_mut_error_text entry_mut_error.NumbersSpent = codes "NumbersSpent"
entry_mut_error_text entry_mut_error.OutOfMemory = codes "OutOfMemory"

-- a number in a list of items, with the space before it
abbrev pub number_text : ℕ → List ℕ
number_text n = codes " " ++ decimal n

-- a key in a list of items, with the space before it
abbrev pub key_item_text : Key → List ℕ
key_item_text k = codes " " ++ key_text k

-- a name in a list of items, with the space before it
abbrev pub name_item_text : List ℕ → List ℕ
name_item_text name = codes " " ++ name

-- what is told of a board: its name, limits, sizes, and how much is taken
abbrev pub info_text : Info → List ℕ
info_text i = codes "info " ++ (i.name ++ (codes " " ++ (key_type_text i.key_type
    ++ (codes " readers" ++ (number_text i.max_readers ++ (codes " nodes" ++ (number_text i.max_nodes
    ++ (codes " writers" ++ (number_text i.max_writers
    ++ (codes " entries" ++ (number_text i.entries ++ (codes " attrs" ++ (number_text i.attributes
    ++ (codes " taken" ++ (number_text i.readers ++ (number_text i.writers ++ number_text i.nodes))))))))))))))))

-- how the outcome of a call is written
abbrev pub reply_text : Reply → List ℕ
reply_text reply.Done = codes "ok"
reply_text (reply.Number n) = codes "ok" ++ number_text n
reply_text (reply.Got t words g) = words_text t words ++ (codes " gen" ++ number_text g)
reply_text (reply.Fresh true) = codes "true"
reply_text (reply.Fresh false) = codes "false"
reply_text (reply.Keys keys) = codes "keys" ++ flat_map key_item_text keys
reply_text (reply.Nodes names) = codes "nodes" ++ flat_map name_item_text names
reply_text (reply.Info i) = info_text i
reply_text (reply.Id n) = codes "id" ++ number_text n
reply_text (reply.Generation g) = codes "gen" ++ number_text g
reply_text (reply.CreateError e) = codes "BlackboardCreateError::" ++ create_error_text e
reply_text (reply.OpenError e) = codes "BlackboardOpenError::" ++ open_error_text e
reply_text (reply.ReaderError e) = codes "ReaderCreateError::" ++ reader_error_text e
reply_text (reply.WriterError e) = codes "WriterCreateError::" ++ writer_error_text e
reply_text (reply.EntryError e) = codes "EntryHandleError::" ++ entry_error_text e
reply_text (reply.EntryMutError e) = codes "EntryHandleMutError::" ++ entry_mut_error_text e

-- the word for why a line was refused
abbrev pub reason_text : Reason → List ℕ
reason_text reason.Abandoned = codes "abandoned"
reason_text reason.Busy = codes "busy"
reason_text reason.Idle = codes "idle"
reason_text reason.Unknown = codes "unknown"
reason_text reason.Taken = codes "taken"
reason_text reason.Type = codes "type"
reason_text reason.Index = codes "index"
reason_text reason.Unfilled = codes "unfilled"
reason_text reason.NotWaiting = codes "notwaiting"
reason_text reason.NoBoard = codes "noboard"

-- what a step prints of the reply, where it ends its call
abbrev pub told_text : Option Reply → List ℕ
told_text None = []
told_text (Some r) = codes " = " ++ reply_text r

-- an answer, without its newline
abbrev pub answer_text : Answer → List ℕ
answer_text answer.Begun = codes "ok"
answer_text (answer.Refused why) = codes "refused " ++ reason_text why
answer_text (answer.Step a told) = access_text a ++ told_text told
answer_text answer.Gone = codes "gone"
answer_text (answer.Words words) = codes "words" ++ flat_map number_text words

-- with its newline
abbrev pub answer_line : Answer → List ℕ
answer_line a = answer_text a ++ 10 ∷ []

-- ---- which answers there are

-- the board, the word and the value of an access fit in 64 bits
abbrev pub IsAccess : Access → Type 0
IsAccess access.Table = Unit {0}
IsAccess (access.Read board word value) = IsNumber board × IsNumber word × IsNumber value
IsAccess (access.Write board word value) = IsNumber board × IsNumber word × IsNumber value

-- the errors that a board asked one call at a time gives
abbrev pub is_create_reply : BlackboardCreateError → Bool
is_create_reply create_error.AlreadyExists = true
is_create_reply create_error.NoEntriesProvided = true
is_create_reply create_error.ServiceInCorruptedState = true
is_create_reply e = false

-- the same for opening a board
abbrev pub is_open_reply : BlackboardOpenError → Bool
is_open_reply open_error.DoesNotExist = true
is_open_reply open_error.IncompatibleKeys = true
is_open_reply open_error.IncompatibleAttributes = true
is_open_reply open_error.DoesNotSupportRequestedAmountOfReaders = true
is_open_reply open_error.DoesNotSupportRequestedAmountOfNodes = true
is_open_reply open_error.ExceedsMaxNumberOfNodes = true
is_open_reply e = false

-- the same for making a reader
abbrev pub is_reader_reply : ReaderCreateError → Bool
is_reader_reply reader_error.ExceedsMaxSupportedReaders = true
is_reader_reply e = false

-- the same for making a writer
abbrev pub is_writer_reply : WriterCreateError → Bool
is_writer_reply writer_error.ExceedsMaxSupportedWriters = true
is_writer_reply e = false

-- the same for asking for a read handle
abbrev pub is_entry_reply : EntryHandleError → Bool
is_entry_reply entry_error.EntryDoesNotExist = true
is_entry_reply e = false

-- the same for asking for a write handle
abbrev pub is_entry_mut_reply : EntryHandleMutError → Bool
is_entry_mut_reply entry_mut_error.EntryDoesNotExist = true
is_entry_mut_reply entry_mut_error.HandleAlreadyExists = true
is_entry_mut_reply e = false

-- what is told of a board has a proper name and numbers of 64 bits
pub record IsInfo (i : Info) : Type 0 where
  pub name : is_board_name i.name ≡ true
  pub max_readers : IsNumber i.max_readers
  pub max_nodes : IsNumber i.max_nodes
  pub max_writers : IsNumber i.max_writers
  pub entries : IsNumber i.entries
  pub attributes : IsNumber i.attributes
  pub readers : IsNumber i.readers
  pub writers : IsNumber i.writers
  pub nodes : IsNumber i.nodes

-- a reply that some call may be told
abbrev pub IsReply : Reply → Type 0
IsReply reply.Done = Unit {0}
IsReply (reply.Number n) = IsNumber n
IsReply (reply.Got t words g) = AllByRecursion IsNumber words × IsNumber g
IsReply (reply.Fresh is) = Unit {0}
IsReply (reply.Keys keys) = AllByRecursion IsKey keys
IsReply (reply.Nodes names) = AllByRecursion (λ n. is_name n ≡ true) names
IsReply (reply.Info i) = IsInfo i
IsReply (reply.Id n) = IsNumber n
IsReply (reply.Generation g) = IsNumber g
IsReply (reply.CreateError e) = is_create_reply e ≡ true
IsReply (reply.OpenError e) = is_open_reply e ≡ true
IsReply (reply.ReaderError e) = is_reader_reply e ≡ true
IsReply (reply.WriterError e) = is_writer_reply e ≡ true
IsReply (reply.EntryError e) = is_entry_reply e ≡ true
IsReply (reply.EntryMutError e) = is_entry_mut_reply e ≡ true

-- an answer that some line may be given
abbrev pub IsAnswer : Answer → Type 0
IsAnswer answer.Begun = Unit {0}
IsAnswer (answer.Refused why) = Unit {0}
IsAnswer (answer.Step a told) = IsAccess a × IfSome told IsReply
IsAnswer answer.Gone = Unit {0}
IsAnswer (answer.Words words) = AllByRecursion IsNumber words
