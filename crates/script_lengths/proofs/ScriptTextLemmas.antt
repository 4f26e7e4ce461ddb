-- How long the texts of a script's answers are.
use Rattle.std.proofs.Common.{◌≡◌, ℕ, ◌≤◌, true, List, length, arith, Option, Some, None}
use Rattle.std.specs.Prelude.{codes, IfSome, not, ◌&&◌}
use Rattle.std.specs.List.{flat_map, list_all}
use Rattle.std.specs.Str.{bytes_eq}
use Rattle.std.proofs.lemmas.Bool.{and_parts}
use Rattle.board_event_model.specs.declared.access.EventAccess.{EventAccess}
use Rattle.board_event_model.specs.declared.access.EventAccess.TheVariants as access
use Rattle.board_event_model.specs.declared.access.EventAnswer.{EventAnswer}
use Rattle.board_event_model.specs.declared.access.EventAnswer.TheVariants as event_answer
use Rattle.board_names.specs.declared.errors.event.NotifierNotifyError.{NotifierNotifyError}
use Rattle.board_names.specs.declared.errors.event.NotifierNotifyError.TheVariants as notify_error
use Rattle.board_event_model.specs.declared.kind.EventKind.{EventKind}
use Rattle.board_event_model.specs.declared.kind.EventKind.TheVariants as kind
use Rattle.board_event_model.specs.WaitCalls.{word_in}
use Rattle.board_model.specs.LineGrammar.{IsNumber, is_visible}
use Rattle.board_model.specs.AnswerGrammar.{number_text}
use Rattle.script_model.specs.declared.reply.EventReply.{EventReply}
use Rattle.script_model.specs.declared.reply.EventReply.TheVariants as reply
use Rattle.script_model.specs.ScriptGrammar.{is_event_byte, is_event_name, kind_text}
use Rattle.script_model.specs.ScriptAnswers.{IsAnswerTo, IsFormedAccess, IsFormedReply, PrintsNumbers, event_access_text, event_reply_text, event_text, event_told_text, expired, found_text, notify_error_text, of_ask, of_boards, of_event, popped_text}
use Rattle.script_lengths.specs.ScriptLengths.{IsSizedOnEvents, ScriptAnswersAreShort}
use Rattle.script_lengths.proofs.TextLemmas.{Fits, answers_short, behind, fits, item_few, joined, visible_few}

kind_few : (k : EventKind) → length (kind_text k) ≤ 5
kind_few kind.Bits = omega arith
kind_few kind.Queue = omega arith

event_name_few : (name : List ℕ) → is_event_name name ≡ true → length name ≤ 255
event_name_few name e =
    let p = and_parts (is_visible 255 name) (list_all is_event_byte name && (not (bytes_eq name (codes ".")) && not (bytes_eq name (codes "..")))) e in
    visible_few 255 name p.0

event_short : (k : EventKind) (name : List ℕ) → is_event_name name ≡ true → Fits (event_text k name) 261
event_short k name e = behind (fits (kind_text k) 5 (kind_few k)) (behind (fits (codes ":") 1 (omega arith)) (fits name 255 (event_name_few name e)))

found_few : (a : EventAnswer) → length (found_text a) ≤ 4
found_few event_answer.Yes = omega arith
found_few event_answer.No = omega arith
found_few event_answer.Done = omega arith
found_few event_answer.Full = omega arith
found_few event_answer.Gone = omega arith
found_few (event_answer.Word v) = omega arith
found_few (event_answer.Id id) = omega arith
found_few event_answer.Empty = omega arith

popped_few : (a : EventAnswer) → IsAnswerTo access.Pop a → length (popped_text a) ≤ 21
popped_few event_answer.Yes h = omega arith
popped_few event_answer.No h = omega arith
popped_few event_answer.Done h = omega arith
popped_few event_answer.Full h = omega arith
popped_few event_answer.Gone h = omega arith
popped_few (event_answer.Word v) h = omega arith
popped_few (event_answer.Id id) h = item_few id h
popped_few event_answer.Empty h = omega arith

scanned_number : (k : ℕ) (a : EventAnswer) → IsAnswerTo (access.Scan k) a → IsNumber (word_in a)
scanned_number k event_answer.Yes h = absurd h
scanned_number k event_answer.No h = absurd h
scanned_number k event_answer.Done h = absurd h
scanned_number k event_answer.Full h = absurd h
scanned_number k event_answer.Gone h = absurd h
scanned_number k (event_answer.Word v) h = h
scanned_number k (event_answer.Id id) h = absurd h
scanned_number k event_answer.Empty h = absurd h

swapped_number : (k : ℕ) (a : EventAnswer) → IsAnswerTo (access.Swap k) a → IsNumber (word_in a)
swapped_number k event_answer.Yes h = absurd h
swapped_number k event_answer.No h = absurd h
swapped_number k event_answer.Done h = absurd h
swapped_number k event_answer.Full h = absurd h
swapped_number k event_answer.Gone h = absurd h
swapped_number k (event_answer.Word v) h = h
swapped_number k (event_answer.Id id) h = absurd h
swapped_number k event_answer.Empty h = absurd h

pub access_few : (k : EventKind) (name : List ℕ) (a : EventAccess) (b : EventAnswer) → is_event_name name ≡ true → PrintsNumbers a → IsAnswerTo a b → length (event_access_text k name a b) ≤ 312
access_few k name access.Listener b e h g =
    let t = behind (fits (codes "listener ") 9 (omega arith)) (behind (event_short k name e) (fits (found_text b) 4 (found_few b))) in
    omega (arith, t.few)
access_few k name (access.Set id) b e h g =
    let t = behind (fits (codes "set ") 4 (omega arith)) (behind (event_short k name e) (fits (number_text id) 21 (item_few id h))) in
    omega (arith, t.few)
access_few k name access.Post b e h g =
    let t = behind (fits (codes "post ") 5 (omega arith)) (event_short k name e) in
    omega (arith, t.few)
access_few k name (access.Push id) b e h g =
    let t = behind (fits (codes "push ") 5 (omega arith)) (event_short k name e) in
    omega (arith, t.few)
access_few k name access.Signal b e h g =
    let t = behind (fits (codes "signal ") 7 (omega arith)) (behind (event_short k name e) (fits (found_text b) 4 (found_few b))) in
    omega (arith, t.few)
access_few k name (access.Scan word) b e h g =
    let n = behind (fits (number_text word) 21 (item_few word h)) (fits (number_text (word_in b)) 21 (item_few (word_in b) (scanned_number word b g))) in
    let t = behind (fits (codes "scan ") 5 (omega arith)) (behind (event_short k name e) n) in
    omega (arith, t.few)
access_few k name (access.Clear id) b e h g =
    let t = behind (fits (codes "clear ") 6 (omega arith)) (behind (event_short k name e) (fits (number_text id) 21 (item_few id h))) in
    omega (arith, t.few)
access_few k name (access.Swap word) b e h g =
    let n = behind (fits (number_text word) 21 (item_few word h)) (fits (number_text (word_in b)) 21 (item_few (word_in b) (swapped_number word b g))) in
    let t = behind (fits (codes "swap ") 5 (omega arith)) (behind (event_short k name e) n) in
    omega (arith, t.few)
access_few k name access.Pop b e h g =
    let t = behind (fits (codes "pop ") 4 (omega arith)) (behind (event_short k name e) (fits (popped_text b) 21 (popped_few b g))) in
    omega (arith, t.few)

pub notify_error_few : (e : NotifierNotifyError) → length (notify_error_text e) ≤ 21
notify_error_few notify_error.Interrupt = omega arith
notify_error_few notify_error.FailedToDeliverSignal = omega arith
notify_error_few notify_error.TriggerIdOutOfBounds = omega arith
notify_error_few notify_error.Disconnected = omega arith
notify_error_few notify_error.InternalFailure = omega arith

reply_few : (r : EventReply) → IsFormedReply r → IsSizedOnEvents r → length (event_reply_text r) ≤ 393603
reply_few reply.Done h z = omega arith
reply_few (reply.Id id) h z =
    let k = joined (codes "id") (number_text id) 2 21 (omega arith) (item_few id h) in
    omega (arith, k)
reply_few (reply.Ids ids) h z = joined (codes "ids") (flat_map number_text ids) 3 393600 (omega arith) z
reply_few reply.Nothing h z = omega arith
reply_few reply.AlreadyExists h z = omega arith
reply_few reply.DoesNotExist h z = omega arith
reply_few (reply.NotNotified e) h z =
    let k = joined (codes "NotifierNotifyError::") (notify_error_text e) 21 21 (omega arith) (notify_error_few e) in
    omega (arith, k)

told_few : (told : Option EventReply) → IfSome told IsFormedReply → IfSome told IsSizedOnEvents → length (event_told_text told) ≤ 393606
told_few None h z = omega arith
told_few (Some r) h z = joined (codes " = ") (event_reply_text r) 3 393603 (omega arith) (reply_few r h z)

pub script_answers_short : ScriptAnswersAreShort
script_answers_short n (of_boards a) h z = omega (arith, answers_short n a h z)
script_answers_short n (of_ask r) h z =
    let k = joined (codes "table = ") (event_reply_text r) 8 393603 (omega arith) (reply_few r h z) in
    omega (arith, k)
script_answers_short n (of_event k name a b told) h z =
    let f : IsFormedAccess name a b told = h.1 in
    let t = joined (event_access_text k name a b) (event_told_text told) 312 393606 (access_few k name a b f.text f.numbers f.answers) (told_few told f.reply z) in
    omega (arith, t)
script_answers_short n expired h z = omega arith
