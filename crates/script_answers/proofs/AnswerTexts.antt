-- Each answer of the grammar is read.
use Rattle.std.proofs.Common.{◌≡◌, ℕ, true, List, [], ◌∷◌, ◌++◌, arith, refl, sym, ap, subst, ◌∙◌, append_assoc, map, Option, None}
use Rattle.std.specs.Prelude.{codes, decimal}
use Rattle.std.specs.List.{join_with_byte}
use Rattle.board_cell_model.specs.declared.access.Access.{Access}
use Rattle.board_cell_model.specs.declared.access.Access.TheVariants as access
use Rattle.board_event_model.specs.declared.access.EventAccess.{EventAccess}
use Rattle.board_event_model.specs.declared.access.EventAccess.TheVariants as event_access
use Rattle.board_event_model.specs.declared.access.EventAnswer.{EventAnswer}
use Rattle.board_event_model.specs.declared.access.EventAnswer.TheVariants as event_answer
use Rattle.board_event_model.specs.declared.kind.EventKind.{EventKind}
use Rattle.board_event_model.specs.EventMemory.{kind_of_access}
use Rattle.board_model.specs.declared.answer.Reason.{Reason}
use Rattle.board_model.specs.declared.answer.Reason.TheVariants as reason
use Rattle.board_model.specs.LineGrammar.{IsNumber}
use Rattle.board_model.specs.AnswerGrammar.{IsAccess, access_text, reason_text}
use Rattle.script_model.specs.ScriptAnswers.{IsFormedAccess, event_access_text}
use Rattle.script_rules.specs.PrintedAnswers.{IsPrinted, Printed, StepReply, a_begin, a_list, a_refusal, a_step, an_end, an_expiry, board_access, event_access, printed_text, step_told_text}
use Rattle.script_rules.specs.StepGroups.{place_token}
use Rattle.script_grammar.proofs.SplitLemmas.{free_event_name}
use Rattle.script_answers.specs.AnswerReading.{is_number, is_reason, reads_answer, reads_event_step, reads_last, reads_one, reads_step, reads_two}
use Rattle.script_answers.proofs.Joined.{AreFree, IsTaken, free_both, joined_each}
use Rattle.script_answers.proofs.ItemLemmas.{bits_taken, free_decimals, free_numeral, free_place, number_or, number_taken, place_taken, queue_taken}
use Rattle.script_answers.proofs.ReplyTexts.{IsReadTold, all_pass, told_read}

-- an answer that is read
abbrev pub IsReadAnswer : List ℕ → Type 0
IsReadAnswer text = IsTaken reads_answer text

-- an access of these tokens, with what is told behind it
step_of : (told : Option StepReply) (k : IsReadTold told) (text t : List ℕ) (ts : List (List ℕ)) → text ≡ join_with_byte 32 (t ∷ ts) → AreFree (t ∷ ts) → reads_answer ((t ∷ ts) ++ k.parts) ≡ true → IsReadAnswer (text ++ step_told_text told)
step_of told k text t ts e f r = record {
  parts = (t ∷ ts) ++ k.parts;
  some = omega arith;
  joined = ap (λ (x : List ℕ). x ++ step_told_text told) e ∙ k.joined t ts;
  free = free_both (t ∷ ts) k.parts f k.free;
  read = r;
}

-- ---- accesses to boards

board_step_read : (a : Access) (told : Option StepReply) → IsAccess a → IsReadTold told → IsReadAnswer (access_text a ++ step_told_text told)
unfolding reads_answer reads_step reads_two reads_one
board_step_read access.Table told h k = step_of told k _ (codes "table") [] refl (refl, tt) k.read
board_step_read (access.Read b w v) told h k =
    step_of told k _ (codes "read") (place_token b w ∷ decimal v ∷ [])
    (ap (λ (t : List ℕ). codes "read " ++ t) (sym (append_assoc (decimal b) (58 ∷ decimal w) (32 ∷ decimal v))))
    (refl, (free_place b w h.0 h.1, (free_numeral v h.2, tt)))
    (rw (place_taken b w h.0 h.1, number_taken v h.2, k.read) refl)
board_step_read (access.Write b w v) told h k =
    step_of told k _ (codes "write") (place_token b w ∷ decimal v ∷ [])
    (ap (λ (t : List ℕ). codes "write " ++ t) (sym (append_assoc (decimal b) (58 ∷ decimal w) (32 ∷ decimal v))))
    (refl, (free_place b w h.0 h.1, (free_numeral v h.2, tt)))
    (rw (place_taken b w h.0 h.1, number_taken v h.2, k.read) refl)

-- ---- accesses to events

abbrev bits : List ℕ → List ℕ
bits name = codes "bits:" ++ name

abbrev queue : List ℕ → List ℕ
queue name = codes "queue:" ++ name

module _ (name : List ℕ) (told : Option StepReply) (k : IsReadTold told) where
  access_read : (a : EventAccess) (b : EventAnswer) → IsFormedAccess name a b None → IsReadAnswer (event_access_text (kind_of_access a) name a b ++ step_told_text told)
  unfolding reads_answer reads_step reads_event_step reads_two reads_one
  access_read event_access.Listener event_answer.Yes h = step_of told k _ (codes "listener") (bits name ∷ codes "yes" ∷ []) refl (refl, (free_event_name 32 refl name h.text, (refl, tt))) (rw (bits_taken name h.text, k.read) refl)
  access_read event_access.Listener event_answer.No h = step_of told k _ (codes "listener") (bits name ∷ codes "no" ∷ []) refl (refl, (free_event_name 32 refl name h.text, (refl, tt))) (rw (bits_taken name h.text, k.read) refl)
  access_read event_access.Listener b h = absurd h.answers
  access_read (event_access.Set id) event_answer.Done h =
      step_of told k _ (codes "set") (bits name ∷ decimal id ∷ []) refl (refl, (free_event_name 32 refl name h.text, (free_numeral id h.numbers, tt))) (rw (bits_taken name h.text, number_taken id h.numbers, k.read) refl)
  access_read (event_access.Set id) b h = absurd h.answers
  access_read event_access.Post event_answer.Done h = step_of told k _ (codes "post") (bits name ∷ []) refl (refl, (free_event_name 32 refl name h.text, tt)) (rw (bits_taken name h.text, k.read) refl)
  access_read event_access.Post b h = absurd h.answers
  access_read (event_access.Push id) b h = step_of told k _ (codes "push") (queue name ∷ []) refl (refl, (free_event_name 32 refl name h.text, tt)) (rw (queue_taken name h.text, k.read) refl)
  access_read event_access.Signal event_answer.Yes h = step_of told k _ (codes "signal") (bits name ∷ codes "yes" ∷ []) refl (refl, (free_event_name 32 refl name h.text, (refl, tt))) (rw (bits_taken name h.text, k.read) refl)
  access_read event_access.Signal event_answer.No h = step_of told k _ (codes "signal") (bits name ∷ codes "no" ∷ []) refl (refl, (free_event_name 32 refl name h.text, (refl, tt))) (rw (bits_taken name h.text, k.read) refl)
  access_read event_access.Signal b h = absurd h.answers
  access_read (event_access.Scan word) (event_answer.Word v) h =
      step_of told k _ (codes "scan") (bits name ∷ decimal word ∷ decimal v ∷ []) refl
      (refl, (free_event_name 32 refl name h.text, (free_numeral word h.numbers, (free_numeral v h.answers, tt))))
      (rw (bits_taken name h.text, number_taken word h.numbers, number_taken v h.answers, k.read) refl)
  access_read (event_access.Scan word) b h = absurd h.answers
  access_read (event_access.Clear id) event_answer.Done h =
      step_of told k _ (codes "clear") (bits name ∷ decimal id ∷ []) refl (refl, (free_event_name 32 refl name h.text, (free_numeral id h.numbers, tt))) (rw (bits_taken name h.text, number_taken id h.numbers, k.read) refl)
  access_read (event_access.Clear id) b h = absurd h.answers
  access_read (event_access.Swap word) (event_answer.Word v) h =
      step_of told k _ (codes "swap") (bits name ∷ decimal word ∷ decimal v ∷ []) refl
      (refl, (free_event_name 32 refl name h.text, (free_numeral word h.numbers, (free_numeral v h.answers, tt))))
      (rw (bits_taken name h.text, number_taken word h.numbers, number_taken v h.answers, k.read) refl)
  access_read (event_access.Swap word) b h = absurd h.answers
  access_read event_access.Pop (event_answer.Id id) h =
      step_of told k _ (codes "pop") (queue name ∷ decimal id ∷ []) refl (refl, (free_event_name 32 refl name h.text, (free_numeral id h.answers, tt))) (rw (queue_taken name h.text, number_or id h.answers, k.read) refl)
  access_read event_access.Pop event_answer.Empty h = step_of told k _ (codes "pop") (queue name ∷ codes "none" ∷ []) refl (refl, (free_event_name 32 refl name h.text, (refl, tt))) (rw (queue_taken name h.text, k.read) refl)
  access_read event_access.Pop b h = absurd h.answers

event_step_read : (k : EventKind) (name : List ℕ) (a : EventAccess) (b : EventAnswer) (told : Option StepReply) → k ≡ kind_of_access a → IsFormedAccess name a b None → IsReadTold told → IsReadAnswer (event_access_text k name a b ++ step_told_text told)
event_step_read k name a b told e h r = subst (λ (x : EventKind). IsReadAnswer (event_access_text x name a b ++ step_told_text told)) (sym e) (access_read name told r a b h)

-- ---- all answers

refusal_read : (why : Reason) → IsReadAnswer (codes "refused " ++ reason_text why)
unfolding reads_answer reads_last is_reason
refusal_read reason.Abandoned = record { parts = codes "refused" ∷ codes "abandoned" ∷ []; some = omega arith; joined = refl; free = (refl, (refl, tt)); read = refl }
refusal_read reason.Busy = record { parts = codes "refused" ∷ codes "busy" ∷ []; some = omega arith; joined = refl; free = (refl, (refl, tt)); read = refl }
refusal_read reason.Idle = record { parts = codes "refused" ∷ codes "idle" ∷ []; some = omega arith; joined = refl; free = (refl, (refl, tt)); read = refl }
refusal_read reason.Unknown = record { parts = codes "refused" ∷ codes "unknown" ∷ []; some = omega arith; joined = refl; free = (refl, (refl, tt)); read = refl }
refusal_read reason.Taken = record { parts = codes "refused" ∷ codes "taken" ∷ []; some = omega arith; joined = refl; free = (refl, (refl, tt)); read = refl }
refusal_read reason.Type = record { parts = codes "refused" ∷ codes "type" ∷ []; some = omega arith; joined = refl; free = (refl, (refl, tt)); read = refl }
refusal_read reason.Index = record { parts = codes "refused" ∷ codes "index" ∷ []; some = omega arith; joined = refl; free = (refl, (refl, tt)); read = refl }
refusal_read reason.Unfilled = record { parts = codes "refused" ∷ codes "unfilled" ∷ []; some = omega arith; joined = refl; free = (refl, (refl, tt)); read = refl }
refusal_read reason.NotWaiting = record { parts = codes "refused" ∷ codes "notwaiting" ∷ []; some = omega arith; joined = refl; free = (refl, (refl, tt)); read = refl }
refusal_read reason.NoBoard = record { parts = codes "refused" ∷ codes "noboard" ∷ []; some = omega arith; joined = refl; free = (refl, (refl, tt)); read = refl }

pub answer_read : (p : Printed) → IsPrinted p → IsReadAnswer (printed_text p)
unfolding reads_answer
answer_read a_begin h = record { parts = codes "ok" ∷ []; some = omega arith; joined = refl; free = (refl, tt); read = refl }
answer_read (a_refusal why) h = refusal_read why
answer_read (a_step (board_access a) told) h = board_step_read a told h.0 (told_read told h.1)
answer_read (a_step (event_access k name a b) told) h = event_step_read k name a b told h.0.0 h.0.1 (told_read told h.1)
answer_read an_end h = record { parts = codes "gone" ∷ []; some = omega arith; joined = refl; free = (refl, tt); read = refl }
answer_read (a_list words) h = record {
  parts = codes "words" ∷ map decimal words;
  some = omega arith;
  joined = joined_each decimal (codes "words") words;
  free = (refl, free_decimals words h);
  read = all_pass IsNumber decimal is_number number_taken words h;
}
answer_read an_expiry h = record { parts = codes "=" ∷ codes "none" ∷ []; some = omega arith; joined = refl; free = (refl, (refl, tt)); read = refl }
