-- A step that takes no memory tells no list.
use Rattle.std.proofs.Common.{◌≡◌, ℕ, ◌≤◌, Bool, true, false, List, length, arith, refl, sym, subst, ◌∙◌, Option, Some, None, inl, inr}
use Rattle.std.specs.Prelude.{◌⊎◌, IfSome, Result, Ok, Err}
use Rattle.board_model.specs.declared.answer.Answer.{Answer}
use Rattle.board_model.specs.declared.answer.Answer.TheVariants as answer
use Rattle.board_model.specs.declared.answer.Reply.{Reply}
use Rattle.board_model.specs.declared.answer.Reply.TheVariants as reply
use Rattle.board_model.specs.declared.line.Line.TheVariants as board_line
use Rattle.board_model.specs.declared.value.ValueType.{ValueType}
use Rattle.board_model.specs.declared.value.ValueType.TheVariants as type
use Rattle.board_model.specs.LawfulSession.{IsOwedStep, IsRight, IsToldStep, State, reason_of}
use Rattle.board_model.specs.Parties.{Party, Running, free, gone, running}
use Rattle.board_model.specs.Replies.{ask, latest, number_or}
use Rattle.board_model.specs.Requests.{Fetch, Request, create, discard, entry, entry_mut, fill, fresh, gen, get, id, info, keys, loan, nodes, open_, publish, put, reader, table, update, writer}
use Rattle.board_model.specs.Sound.{IsCalling, IsParty, Sound}
use Rattle.board_model.specs.TypeTable.{word_count}
use Rattle.script_boards.specs.Wants.{next_takes, step_takes, takes_memory}
use Rattle.script_lengths.specs.ShortAnswers.{IsShortAnswer, IsShortReply}
use Rattle.script_machine.proofs.Wants.{short_by}

few_words : (t : ValueType) → word_count t ≤ 4
few_words type.Bool = omega arith
few_words type.U64 = omega arith
few_words type.Q4 = omega arith

number_short : {E : Type 0} (error : E → Reply) (r : Result ℕ E) → ((e : E) → IsShortReply (error e)) → IsShortReply (number_or error r)
number_short error (Ok n) h = tt
number_short error (Err e) h = h e

module _ (s : State) (sound : Sound s) (party : List ℕ) (r : Running) where
  abbrev told_by : Request → Reply
  told_by q = (ask s.standing s.published party q).reply

  -- a value has the words of its entry, which is of a value type
  value_short : (f : Fetch) → IsCalling s party r (get f) → length (latest (s.published f.board f.entry)) ≤ 4
  value_short f k =
      let e = k.place.entry in
      let cell = sound.boards.cells f.board f.entry e k.place.found in
      let typed = sound.boards.typed f.board f.entry e k.place.found in
      omega (arith, cell.size, typed.words, few_words typed.type)

  asked_short : (q : Request) → IsCalling s party r q → (next_takes s.memory q r.so_far (told_by q) ≡ true → ⊥) → IsShortReply (told_by q)
  asked_short (table (create f n k limits attributes entries)) h stays = number_short (λ e. reply.CreateError e) _ (λ e. tt)
  asked_short (table (open_ f n k limits needs)) h stays = number_short (λ e. reply.OpenError e) _ (λ e. tt)
  asked_short (table (reader n x)) h stays = number_short (λ e. reply.ReaderError e) _ (λ e. tt)
  asked_short (table (writer n x)) h stays = number_short (λ e. reply.WriterError e) _ (λ e. tt)
  asked_short (table (entry n x k t)) h stays = number_short (λ e. reply.EntryError e) _ (λ e. tt)
  asked_short (table (entry_mut n x k t)) h stays = number_short (λ e. reply.EntryMutError e) _ (λ e. tt)
  asked_short (table (loan l)) h stays = tt
  asked_short (table (discard l)) h stays = tt
  asked_short (table (keys x)) h stays = absurd (stays refl)
  asked_short (table (nodes x)) h stays = absurd (stays refl)
  asked_short (table (info x)) h stays = absurd (stays refl)
  asked_short (table (id x)) h stays = tt
  asked_short (table (gen x)) h stays = tt
  asked_short (get f) h stays = value_short f h
  asked_short (fresh l) h stays = tt
  asked_short (update u) h stays = tt
  asked_short (put l i w) h stays = tt
  asked_short (publish l) h stays = tt
  asked_short (fill l v) h stays = tt

  told_short : (told : Option Reply) → IfSome told (λ x. x ≡ told_by r.request) → IsShortReply (told_by r.request) → IfSome told IsShortReply
  told_short None e h = tt
  told_short (Some x) e h = subst IsShortReply (sym e) h

step_of : (s : State) → Sound s → (party : List ℕ) (p : Party) (a : Answer) → IsParty s party p → IsOwedStep p a → IsToldStep s party p a → (step_takes s party p ≡ true → ⊥) → IsShortAnswer a
step_of s sound party free a k o t stays = absurd o
step_of s sound party gone a k o t stays = absurd o
step_of s sound party (running r) answer.Begun k o t stays = absurd o
step_of s sound party (running r) (answer.Refused why) k o t stays = absurd o
step_of s sound party (running r) (answer.Step x told) k o t stays = told_short s sound party r told t.reply (asked_short s sound party r r.request k stays)
step_of s sound party (running r) answer.Gone k o t stays = absurd o
step_of s sound party (running r) (answer.Words words) k o t stays = absurd o

-- the answer to a step on boards that takes no memory
pub step_short : (s : State) (party : List ℕ) (a : Answer) → Sound s → IsRight s (board_line.Step party) a → (takes_memory s (board_line.Step party) ≡ true → ⊥) → IsShortAnswer a
step_short s party a sound right stays =
    short_by (reason_of s (board_line.Step party)) a right.reason (λ none. step_of s sound party (s.parties party) a (sound.parties party) (right.owed none) (right.reply none) stays)

test : (b : Bool) → (b ≡ true) ⊎ (b ≡ false)
test true = inl refl
test false = inr refl

-- so a step whose answer isn't short takes some
pub step_wants : (s : State) (party : List ℕ) (a : Answer) → Sound s → IsRight s (board_line.Step party) a → (IsShortAnswer a → ⊥) → takes_memory s (board_line.Step party) ≡ true
step_wants s party a sound right long = elim (test (takes_memory s (board_line.Step party))) [
  | inl takes ↦ takes
  | inr not ↦ absurd (long (step_short s party a sound right (λ takes. (let e : true ≡ false = sym takes ∙ not in absurd cc))))
]
