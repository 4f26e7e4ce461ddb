-- How long the lines of answers are that tell no list.
use Rattle.std.proofs.Common.{◌≡◌, ℕ, ◌≤◌, true, List, [], ◌∷◌, ◌++◌, ◌*◌, ◌+◌, false, length, map, arith, Option, Some, None}
use Rattle.std.specs.Prelude.{codes, decimal, IfSome, if◌then◌else◌, ◌==◌, slice_index}
use Rattle.std.specs.List.{AllByRecursion, join_with_byte}
use Rattle.board_model.specs.declared.answer.Answer.{Answer}
use Rattle.board_model.specs.declared.answer.Answer.TheVariants as answer
use Rattle.board_model.specs.declared.answer.Reply.{Reply}
use Rattle.board_model.specs.declared.answer.Reply.TheVariants as reply
use Rattle.board_model.specs.declared.value.ValueType.{ValueType}
use Rattle.board_model.specs.declared.value.ValueType.TheVariants as type
use Rattle.board_model.specs.LineGrammar.{IsNumber}
use Rattle.board_model.specs.AnswerGrammar.{IsAnswer, IsReply, access_text, answer_line, answer_text, create_error_text, entry_error_text, entry_mut_error_text, number_text, open_error_text, reader_error_text, reason_text, reply_text, told_text, words_text, writer_error_text}
use Rattle.script_model.specs.declared.reply.EventReply.{EventReply}
use Rattle.script_model.specs.declared.reply.EventReply.TheVariants as event_reply
use Rattle.script_model.specs.ScriptAnswers.{IsFormedAccess, IsFormedReply, event_access_text, event_reply_text, event_told_text, expired, notify_error_text, of_ask, of_boards, of_event, script_answer_line, script_answer_text}
use Rattle.script_lengths.specs.ShortAnswers.{AnswersWithoutListsAreShort, IsShortAnswer, IsShortOnEvents, IsShortReply}
use Rattle.script_lengths.proofs.TextLemmas.{access_short, create_few, entry_few, entry_mut_few, item_few, joined, listed_short, open_few, reader_few, reason_few, truth_few, writer_few}
use Rattle.script_lengths.proofs.ScriptTextLemmas.{access_few, notify_error_few}

-- ---- boards

value_short : (t : ValueType) (xs : List ℕ) → AllByRecursion IsNumber xs → length xs ≤ 4 → length (words_text t xs) ≤ 88
value_short type.Bool xs h le =
    let k = joined (codes "bool:") (if slice_index xs 0 == 0 then codes "false" else codes "true") 5 5 (omega arith) (truth_few (slice_index xs 0 == 0)) in
    omega (arith, k)
value_short type.U64 xs h le =
    let k = joined (codes "u64:") (join_with_byte 44 (map decimal xs)) 4 (21 * length xs) (omega arith) (listed_short xs h) in
    omega (arith, k, le)
value_short type.Q4 xs h le =
    let k = joined (codes "q4:") (join_with_byte 44 (map decimal xs)) 3 (21 * length xs) (omega arith) (listed_short xs h) in
    omega (arith, k, le)

reply_short : (r : Reply) → IsReply r → IsShortReply r → length (reply_text r) ≤ 113
reply_short reply.Done h z = omega arith
reply_short (reply.Number x) h z =
    let k = joined (codes "ok") (number_text x) 2 21 (omega arith) (item_few x h) in
    omega (arith, k)
reply_short (reply.Got t xs g) h z =
    let a = joined (codes " gen") (number_text g) 4 21 (omega arith) (item_few g h.1) in
    let k = joined (words_text t xs) (codes " gen" ++ number_text g) 88 25 (value_short t xs h.0 z) a in
    omega (arith, k)
reply_short (reply.Fresh true) h z = omega arith
reply_short (reply.Fresh false) h z = omega arith
reply_short (reply.Keys xs) h z = absurd z
reply_short (reply.Nodes xs) h z = absurd z
reply_short (reply.Info i) h z = absurd z
reply_short (reply.Id x) h z =
    let k = joined (codes "id") (number_text x) 2 21 (omega arith) (item_few x h) in
    omega (arith, k)
reply_short (reply.Generation g) h z =
    let k = joined (codes "gen") (number_text g) 3 21 (omega arith) (item_few g h) in
    omega (arith, k)
reply_short (reply.CreateError e) h z =
    let k = joined (codes "BlackboardCreateError::") (create_error_text e) 23 40 (omega arith) (create_few e) in
    omega (arith, k)
reply_short (reply.OpenError e) h z =
    let k = joined (codes "BlackboardOpenError::") (open_error_text e) 23 40 (omega arith) (open_few e) in
    omega (arith, k)
reply_short (reply.ReaderError e) h z =
    let k = joined (codes "ReaderCreateError::") (reader_error_text e) 23 40 (omega arith) (reader_few e) in
    omega (arith, k)
reply_short (reply.WriterError e) h z =
    let k = joined (codes "WriterCreateError::") (writer_error_text e) 23 40 (omega arith) (writer_few e) in
    omega (arith, k)
reply_short (reply.EntryError e) h z =
    let k = joined (codes "EntryHandleError::") (entry_error_text e) 23 40 (omega arith) (entry_few e) in
    omega (arith, k)
reply_short (reply.EntryMutError e) h z =
    let k = joined (codes "EntryHandleMutError::") (entry_mut_error_text e) 23 40 (omega arith) (entry_mut_few e) in
    omega (arith, k)

told_short : (told : Option Reply) → IfSome told IsReply → IfSome told IsShortReply → length (told_text told) ≤ 116
told_short None h z = omega arith
told_short (Some r) h z =
    let k = joined (codes " = ") (reply_text r) 3 113 (omega arith) (reply_short r h z) in
    omega (arith, k)

answer_short : (a : Answer) → IsAnswer a → IsShortAnswer a → length (answer_text a) ≤ 184
answer_short answer.Begun h z = omega arith
answer_short (answer.Refused why) h z =
    let k = joined (codes "refused ") (reason_text why) 8 12 (omega arith) (reason_few why) in
    omega (arith, k)
answer_short (answer.Step a told) h z =
    let k = joined (access_text a) (told_text told) 68 116 (access_short a h.0) (told_short told h.1 z) in
    omega (arith, k)
answer_short answer.Gone h z = omega arith
answer_short (answer.Words xs) h z = absurd z

-- ---- events

event_reply_short : (r : EventReply) → IsFormedReply r → IsShortOnEvents r → length (event_reply_text r) ≤ 42
event_reply_short event_reply.Done h z = omega arith
event_reply_short (event_reply.Id id) h z =
    let k = joined (codes "id") (number_text id) 2 21 (omega arith) (item_few id h) in
    omega (arith, k)
event_reply_short (event_reply.Ids ids) h z = absurd z
event_reply_short event_reply.Nothing h z = omega arith
event_reply_short event_reply.AlreadyExists h z = omega arith
event_reply_short event_reply.DoesNotExist h z = omega arith
event_reply_short (event_reply.NotNotified e) h z =
    let k = joined (codes "NotifierNotifyError::") (notify_error_text e) 21 21 (omega arith) (notify_error_few e) in
    omega (arith, k)

event_told_short : (told : Option EventReply) → IfSome told IsFormedReply → IfSome told IsShortOnEvents → length (event_told_text told) ≤ 45
event_told_short None h z = omega arith
event_told_short (Some r) h z = joined (codes " = ") (event_reply_text r) 3 42 (omega arith) (event_reply_short r h z)

-- ---- with their newline

newline : (text : List ℕ) (n : ℕ) → length text ≤ n → length (text ++ 10 ∷ []) ≤ n + 1
newline text n h = joined text (10 ∷ []) n 1 h (omega arith)

pub short_fits : AnswersWithoutListsAreShort
short_fits (of_boards a) h z =
    let k = newline (answer_text a) 184 (answer_short a h z) in
    omega (arith, k)
short_fits (of_ask r) h z =
    let t = joined (codes "table = ") (event_reply_text r) 8 42 (omega arith) (event_reply_short r h z) in
    let k = newline (script_answer_text (of_ask r)) 50 t in
    omega (arith, k)
short_fits (of_event kind name a b told) h z =
    let f : IsFormedAccess name a b told = h.1 in
    let t = joined (event_access_text kind name a b) (event_told_text told) 312 45 (access_few kind name a b f.text f.numbers f.answers) (event_told_short told f.reply z) in
    let k = newline (script_answer_text (of_event kind name a b told)) 357 t in
    omega (arith, k)
short_fits expired h z = omega arith
