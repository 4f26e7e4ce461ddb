-- A reader of answers: whether the tokens of a text are those of an answer, whatever line it answers.
use Rattle.std.specs.Prelude.{ℕ, Bool, false, ◌&&◌, ◌||◌, ◌==◌, if◌then◌else◌, List, [], ◌∷◌, codes, drop, Option, Some, None}
use Rattle.std.specs.List.{list_all, list_any, slice_split}
use Rattle.std.specs.Option.{is_some}
use Rattle.std.specs.Str.{bytes_eq}
use Rattle.board_model.specs.LineGrammar.{is_board_name, is_name, is_visible}
use Rattle.script_model.specs.ScriptGrammar.{is_event_name}
use Rattle.script_grammar.specs.LineReading.{begins_with}
use Rattle.script_grammar.specs.TokenReading.{behind, is_end, read_number}
use Rattle.script_answers.specs.declared.item.Item.{Item}
use Rattle.script_answers.specs.declared.item.Item.TheVariants as item

-- ---- tokens

-- the first token passes the test
abbrev pub first_is : (List ℕ → Bool) → List (List ℕ) → Bool
first_is test [] = false
first_is test (t ∷ ts) = test t

-- a number of 64 bits
abbrev pub is_number : List ℕ → Bool
is_number t = is_some (read_number t)

-- two numbers and no more
unfoldable pub are_two : List (List ℕ) → Bool
are_two ts = first_is is_number ts && (first_is is_number (drop 1 ts) && is_end (drop 1 (drop 1 ts)))

-- four numbers and no more
unfoldable pub are_four : List (List ℕ) → Bool
are_four ts =
    first_is is_number ts && (first_is is_number (drop 1 ts) && (first_is is_number (drop 1 (drop 1 ts))
    && (first_is is_number (drop 1 (drop 1 (drop 1 ts))) && is_end (drop 1 (drop 1 (drop 1 (drop 1 ts)))))))

-- a board and a word of it
unfoldable pub is_place : List ℕ → Bool
is_place t = are_two (slice_split (λ b. b == 58) t)

-- the name of an event, where there is one
abbrev pub is_event_behind : Option (List ℕ) → Bool
is_event_behind None = false
is_event_behind (Some name) = is_event_name name

-- an event behind its kind
unfoldable pub is_event : List ℕ → List ℕ → Bool
is_event prefix t = is_event_behind (behind prefix t)

-- a key, from what follows `u64:` and from what follows `f8:`
unfoldable pub is_key_behind : Option (List ℕ) → Option (List ℕ) → Bool
is_key_behind (Some digits) other = is_number digits
is_key_behind None (Some text) = is_visible 8 text
is_key_behind None None = false

unfoldable pub is_key : List ℕ → Bool
is_key t = is_key_behind (behind (codes "u64:") t) (behind (codes "f8:") t)

-- a value of words, from what follows `u64:` and from what follows `q4:`
unfoldable pub is_value_behind : Option (List ℕ) → Option (List ℕ) → Bool
is_value_behind (Some digits) other = is_number digits
is_value_behind None (Some text) = are_four (slice_split (λ b. b == 44) text)
is_value_behind None None = false

unfoldable pub is_value : List ℕ → Bool
is_value t = (bytes_eq t (codes "bool:true") || bytes_eq t (codes "bool:false")) || is_value_behind (behind (codes "u64:") t) (behind (codes "q4:") t)

-- the words for why a line is refused
abbrev pub reason_words : List (List ℕ)
reason_words =
    codes "abandoned" ∷ codes "busy" ∷ codes "idle" ∷ codes "unknown" ∷ codes "taken"
    ∷ codes "type" ∷ codes "index" ∷ codes "unfilled" ∷ codes "notwaiting" ∷ codes "noboard" ∷ []

unfoldable pub is_reason : List ℕ → Bool
is_reason t = list_any (bytes_eq t) reason_words

-- the replies of one word which say all
abbrev pub reply_words : List (List ℕ)
reply_words =
    codes "true"
    ∷ codes "false"
    ∷ codes "none"
    ∷ codes "BlackboardCreateError::AlreadyExists"
    ∷ codes "BlackboardCreateError::NoEntriesProvided"
    ∷ codes "BlackboardCreateError::ServiceInCorruptedState"
    ∷ codes "BlackboardOpenError::DoesNotExist"
    ∷ codes "BlackboardOpenError::IncompatibleKeys"
    ∷ codes "BlackboardOpenError::IncompatibleAttributes"
    ∷ codes "BlackboardOpenError::DoesNotSupportRequestedAmountOfReaders"
    ∷ codes "BlackboardOpenError::DoesNotSupportRequestedAmountOfNodes"
    ∷ codes "BlackboardOpenError::ExceedsMaxNumberOfNodes"
    ∷ codes "ReaderCreateError::ExceedsMaxSupportedReaders"
    ∷ codes "WriterCreateError::ExceedsMaxSupportedWriters"
    ∷ codes "EntryHandleError::EntryDoesNotExist"
    ∷ codes "EntryHandleMutError::EntryDoesNotExist"
    ∷ codes "EntryHandleMutError::HandleAlreadyExists"
    ∷ codes "ListenerCreateError::AlreadyExists"
    ∷ codes "NotifierCreateError::DoesNotExist"
    ∷ codes "NotifierNotifyError::FailedToDeliverSignal"
    ∷ codes "NotifierNotifyError::TriggerIdOutOfBounds"
    ∷ codes "NotifierNotifyError::Disconnected"
    ∷ []

unfoldable pub is_whole_reply : List ℕ → Bool
is_whole_reply t = list_any (bytes_eq t) reply_words

-- a token of this kind
abbrev pub is_item : Item → List ℕ → Bool
is_item item.Number t = is_number t
is_item item.NumberOrNone t = bytes_eq t (codes "none") || is_number t
is_item item.Place t = is_place t
is_item item.YesOrNo t = bytes_eq t (codes "yes") || bytes_eq t (codes "no")
is_item item.BitsEvent t = is_event (codes "bits:") t
is_item item.QueueEvent t = is_event (codes "queue:") t
is_item item.Reason t = is_reason t
is_item item.Name t = is_name t
is_item item.BoardName t = is_board_name t
is_item item.KeyType t = bytes_eq t (codes "u64") || bytes_eq t (codes "f8")
is_item item.Key t = is_key t
is_item item.Value t = is_value t
is_item item.WholeReply t = is_whole_reply t

-- the first token is of this kind
abbrev pub begins_so : Item → List (List ℕ) → Bool
begins_so i ts = first_is (is_item i) ts

-- a word and then a number
unfoldable pub labelled : List ℕ → List (List ℕ) → Bool
labelled word ts = begins_with word ts && first_is is_number (drop 1 ts)

-- ---- replies

-- one number and no more
unfoldable pub reads_number : List (List ℕ) → Bool
reads_number ts = first_is is_number ts && is_end (drop 1 ts)

-- how many entries and attributes a board has, and what is taken of it: readers, writers and nodes
unfoldable pub reads_counts : List (List ℕ) → Bool
reads_counts ts =
    labelled (codes "entries") ts && (labelled (codes "attrs") (drop 1 (drop 1 ts)) && (labelled (codes "taken") (drop 1 (drop 1 (drop 1 (drop 1 ts))))
    && (first_is is_number (drop 1 (drop 1 (drop 1 (drop 1 (drop 1 (drop 1 ts)))))) && reads_number (drop 1 (drop 1 (drop 1 (drop 1 (drop 1 (drop 1 (drop 1 ts))))))))))

-- the limits of a board, and those behind them
unfoldable pub reads_limits : List (List ℕ) → Bool
reads_limits ts =
    labelled (codes "readers") ts && (labelled (codes "nodes") (drop 1 (drop 1 ts)) && (labelled (codes "writers") (drop 1 (drop 1 (drop 1 (drop 1 ts))))
    && reads_counts (drop 1 (drop 1 (drop 1 (drop 1 (drop 1 (drop 1 ts))))))))

-- what is told of a board
unfoldable pub reads_info : List (List ℕ) → Bool
reads_info ts = begins_so item.BoardName ts && (begins_so item.KeyType (drop 1 ts) && reads_limits (drop 1 (drop 1 ts)))

-- what follows a value that was read
unfoldable pub reads_got : List (List ℕ) → Bool
reads_got ts = labelled (codes "gen") ts && is_end (drop 1 (drop 1 ts))

-- a reply of one word which says all, or a value that was read
unfoldable pub reads_last_reply : List ℕ → List (List ℕ) → Bool
reads_last_reply word ts = if is_end ts then is_whole_reply word else is_value word && reads_got ts

-- a reply, by its first word
unfoldable pub reads_reply_of : List ℕ → List (List ℕ) → Bool
reads_reply_of word ts =
    if bytes_eq word (codes "ok") then is_end ts || reads_number ts else
    if bytes_eq word (codes "keys") then list_all (is_item item.Key) ts else
    if bytes_eq word (codes "nodes") then list_all (is_item item.Name) ts else
    if bytes_eq word (codes "ids") then list_all (is_item item.Number) ts else
    if bytes_eq word (codes "id") || bytes_eq word (codes "gen") then reads_number ts else
    if bytes_eq word (codes "info") then reads_info ts else
    reads_last_reply word ts

-- a reply
unfoldable pub reads_reply : List (List ℕ) → Bool
reads_reply [] = false
reads_reply (word ∷ ts) = reads_reply_of word ts

-- nothing, or a reply behind the token that begins it
unfoldable pub reads_told : List (List ℕ) → Bool
reads_told ts = is_end ts || (begins_with (codes "=") ts && reads_reply (drop 1 ts))

-- ---- steps

-- a token, and then what is told
unfoldable pub reads_one : Item → List (List ℕ) → Bool
reads_one i ts = begins_so i ts && reads_told (drop 1 ts)

-- two tokens, and then what is told
unfoldable pub reads_two : Item → Item → List (List ℕ) → Bool
reads_two i j ts = begins_so i ts && reads_one j (drop 1 ts)

-- a step on an event, by the word of its access
unfoldable pub reads_event_step : List ℕ → List (List ℕ) → Bool
reads_event_step word ts =
    if bytes_eq word (codes "listener") || bytes_eq word (codes "signal") then reads_two item.BitsEvent item.YesOrNo ts else
    if bytes_eq word (codes "set") || bytes_eq word (codes "clear") then reads_two item.BitsEvent item.Number ts else
    if bytes_eq word (codes "scan") || bytes_eq word (codes "swap") then begins_so item.BitsEvent ts && reads_two item.Number item.Number (drop 1 ts) else
    if bytes_eq word (codes "post") then reads_one item.BitsEvent ts else
    if bytes_eq word (codes "push") then reads_one item.QueueEvent ts else
    bytes_eq word (codes "pop") && reads_two item.QueueEvent item.NumberOrNone ts

-- a step, by the word of its access
unfoldable pub reads_step : List ℕ → List (List ℕ) → Bool
reads_step word ts =
    if bytes_eq word (codes "table") then reads_told ts else
    if bytes_eq word (codes "read") || bytes_eq word (codes "write") then reads_two item.Place item.Number ts else
    reads_event_step word ts

-- ---- answers

-- one token and no more
unfoldable pub reads_last : Item → List (List ℕ) → Bool
reads_last i ts = begins_so i ts && is_end (drop 1 ts)

-- an answer
unfoldable pub reads_answer : List (List ℕ) → Bool
reads_answer [] = false
reads_answer (word ∷ ts) =
    if bytes_eq word (codes "ok") || bytes_eq word (codes "gone") then is_end ts else
    if bytes_eq word (codes "refused") then reads_last item.Reason ts else
    if bytes_eq word (codes "words") then list_all (is_item item.Number) ts else
    if bytes_eq word (codes "=") then begins_with (codes "none") ts && is_end (drop 1 ts) else
    reads_step word ts
