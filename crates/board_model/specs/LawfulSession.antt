-- Which answers a script may be given: the lawful sessions.
use Rattle.std.specs.Prelude.{◌≡◌, ℕ, Bool, true, false, not, nat_lt, if◌then◌else◌, List, [], ◌∷◌, ◌++◌, Option, Some, None, is_some, IfSome}
use Rattle.std.specs.List.{list_all}
use Rattle.board_cell_model.specs.declared.access.Access.{Access}
use Rattle.board_cell_model.specs.declared.access.Access.TheVariants as access
use Rattle.board_model.specs.declared.answer.Reply.{Reply}
use Rattle.board_model.specs.declared.answer.Reply.TheVariants as reply
use Rattle.board_model.specs.declared.answer.Reason.{Reason}
use Rattle.board_model.specs.declared.answer.Reason.TheVariants as reason
use Rattle.board_model.specs.declared.answer.Answer.{Answer}
use Rattle.board_model.specs.declared.answer.Answer.TheVariants as answer
use Rattle.board_model.specs.declared.line.Call.{Call}
use Rattle.board_model.specs.declared.line.Line.{Line}
use Rattle.board_model.specs.declared.line.Line.TheVariants as line
use Rattle.board_model.specs.declared.tables.Board.{Board}
use Rattle.board_model.specs.declared.value.AddedEntry.{AddedEntry}
use Rattle.board_model.specs.declared.value.Key.{Key}
use Rattle.board_model.specs.declared.value.KeyType.{KeyType}
use Rattle.board_model.specs.LineGrammar.{IsLine}
use Rattle.board_model.specs.AnswerGrammar.{IsAnswer}
use Rattle.board_model.specs.TypeTable.{key_detail, same_key_type, same_type, type_of, type_of_key, value_detail}
use Rattle.board_cell_model.specs.OwedAccesses.{owed_of}
use Rattle.board_model.specs.Tables.{Tables, board_at, holds_at}
use Rattle.board_model.specs.Things.{Standing, is_held}
use Rattle.board_model.specs.Requests.{Published, Request, TableCall, create, entry, entry_mut, fill, fresh, new_name, publish, put, request_of, table, update}
use Rattle.board_model.specs.Replies.{ask, dropped, lists_after}
use Rattle.board_model.specs.Memory.{IsStanding, after_access, memory_after}
use Rattle.board_model.specs.Parties.{Party, Running, begun, free, gone, is_done, notice, owed, running, with_party}

-- after a session: the words of each board number, what was published, the parties, and what they hold
pub record State : Type 0 where
  pub memory : ℕ → List ℕ
  pub published : Published
  pub parties : List ℕ → Party
  pub standing : Standing

-- before the first board
abbrev pub no_tables : Tables (List ℕ) (List ℕ)
no_tables = record { boards = []; things = []; last_board = 0; last_port = 0 }

-- before the first line
abbrev pub start : State
start = record {
  memory = λ n. [];
  published = λ n i. [];
  parties = λ p. free;
  standing = record { tables = no_tables; loans = λ p n. None; values = λ p n. None };
}

-- ---- reasons, the first that holds in this order: abandoned, busy, idle, unknown, taken, type, index, unfilled, noboard

-- the party holds a thing or a value under the name that it wants to give
abbrev pub is_taken : Standing → List ℕ → Option (List ℕ) → Bool
is_taken s party None = false
is_taken s party (Some name) = is_held s party name

-- the entry's key is of this type
abbrev pub has_key_type : KeyType → AddedEntry → Bool
has_key_type k e = same_key_type (type_of_key e.key) k

-- the key is of the type of the board's keys
abbrev pub is_typed_key : Option Board → Key → Bool
is_typed_key board k = holds_at board (λ b. same_type b.key (key_detail (type_of_key k)))

-- the keys of a call on the tables are of the board's key type
abbrev pub is_typed_call : Standing → TableCall → Bool
is_typed_call s (create f name k limits attributes entries) = list_all (has_key_type k) entries
is_typed_call s (entry name of k type) = is_typed_key (board_at s.tables of.board) k
is_typed_call s (entry_mut name of k type) = is_typed_key (board_at s.tables of.board) k
is_typed_call s c = true

-- its keys are of the board's key type, and its values of the entry's type
abbrev pub is_typed : Standing → Request → Bool
is_typed s (table c) = is_typed_call s c
is_typed s (fresh l) = same_type (value_detail l.kept) l.type
is_typed s (update u) = same_type (value_detail (type_of u.value)) u.type
is_typed s (fill l v) = same_type (value_detail (type_of v)) l.type
is_typed s request = true

-- a word of the entry is put
abbrev pub is_indexed : Request → Bool
is_indexed (put l i w) = nat_lt i l.shape.words
is_indexed request = true

-- each word is there
abbrev pub all_put : List (Option ℕ) → Bool
all_put [] = true
all_put (None ∷ words) = false
all_put (Some w ∷ words) = all_put words

-- all words of the loan were put
abbrev pub is_filled : Request → Bool
is_filled (publish l) = all_put l.words
is_filled request = true

-- why a free party may not begin a call, the first reason that holds
abbrev pub call_reason : Standing → List ℕ → Call → Option Request → Option Reason
call_reason s party c None = Some reason.Unknown
call_reason s party c (Some request) =
    if is_taken s party (new_name c) then Some reason.Taken else
    if not (is_typed s request) then Some reason.Type else
    if not (is_indexed request) then Some reason.Index else
    if not (is_filled request) then Some reason.Unfilled else
    None

-- a line of a party that is to be free, with the reason that is looked for then
abbrev pub free_reason : Party → Option Reason → Option Reason
free_reason free why = why
free_reason (running r) why = Some reason.Busy
free_reason gone why = Some reason.Abandoned

-- why a party may not step
abbrev pub step_reason : Party → Option Reason
step_reason free = Some reason.Idle
step_reason (running r) = None
step_reason gone = Some reason.Abandoned

-- why a party may not be abandoned
abbrev pub abandon_reason : Party → Option Reason
abandon_reason free = None
abandon_reason (running r) = None
abandon_reason gone = Some reason.Abandoned

-- why a line changes nothing; none where it is accepted
abbrev pub reason_of : State → Line → Option Reason
reason_of s (line.Begin party c) = free_reason (s.parties party) (call_reason s.standing party c (request_of s.standing s.published party c))
reason_of s (line.Step party) = step_reason (s.parties party)
reason_of s (line.Release party name) = free_reason (s.parties party) (if is_held s.standing party name then None else Some reason.Unknown)
reason_of s (line.Abandon party) = abandon_reason (s.parties party)
reason_of s (line.Words board) = if is_some (board_at s.standing.tables board) then None else Some reason.NoBoard

-- ---- the rules of an answer

-- refused with this reason exactly where the line has it
abbrev pub IsReasoned : Option Reason → Answer → Type 0
IsReasoned (Some why) a = a ≡ answer.Refused why
IsReasoned None (answer.Refused why) = ⊥
IsReasoned None a = Unit {0}

-- the access is the one that the call owes next
abbrev pub IsOwedStep : Party → Answer → Type 0
IsOwedStep (running r) (answer.Step a told) = owed_of a ≡ owed r.request r.so_far
IsOwedStep party a = ⊥

-- the answer to an accepted line has the line's form, and a step makes the access that is owed
abbrev pub IsOwed : State → Line → Answer → Type 0
IsOwed s (line.Begin party c) a = a ≡ answer.Begun
IsOwed s (line.Step party) a = IsOwedStep (s.parties party) a
IsOwed s (line.Release party name) a = a ≡ answer.Step access.Table (Some reply.Done)
IsOwed s (line.Abandon party) a = a ≡ answer.Gone
IsOwed s (line.Words board) (answer.Words words) = Unit {0}
IsOwed s (line.Words board) a = ⊥

-- a word that is read, and words that are listed, are those that stand
abbrev pub IsWord : State → Line → Answer → Type 0
IsWord s (line.Step party) (answer.Step a told) = IsStanding s.memory a
IsWord s (line.Words board) (answer.Words words) = words ≡ s.memory board
IsWord s l a = Unit {0}

-- a reply is there exactly with the last access, and is that of the board asked one call at a time
pub record IsTold (s : State) (party : List ℕ) (r : Running) (a : Access) (told : Option Reply) : Type 0 where
  pub last : is_some told ≡ is_done r.request (r.so_far ++ a ∷ [])
  pub reply : IfSome told (λ x. x ≡ (ask s.standing s.published party r.request).reply)

-- the rule on replies for the step of a party
abbrev pub IsToldStep : State → List ℕ → Party → Answer → Type 0
IsToldStep s party (running r) (answer.Step a told) = IsTold s party r a told
IsToldStep s party x a = Unit {0}

-- what is replied to a step is what the board would reply, and no other line is replied to
abbrev pub IsReplied : State → Line → Answer → Type 0
IsReplied s (line.Step party) a = IsToldStep s party (s.parties party) a
IsReplied s l a = Unit {0}

-- the answer is right where the session so far has led to this state; the first rule that fails is the one that is broken
pub record IsRight (s : State) (l : Line) (a : Answer) : Type 0 where
  pub line : IsLine l
  pub answer : IsAnswer a
  pub reason : IsReasoned (reason_of s l) a
  pub owed : reason_of s l ≡ None → IsOwed s l a
  pub word : reason_of s l ≡ None → IsWord s l a
  pub reply : reason_of s l ≡ None → IsReplied s l a

-- ---- what follows

-- after a step of a call that ran
abbrev pub stepped : State → List ℕ → Running → Access → Option Reply → State
stepped s party r a None = record s {
  memory = after_access s.memory a;
  parties = with_party (λ p. notice a (s.parties p)) party (running (record r { so_far = r.so_far ++ a ∷ [] }));
}
stepped s party r a (Some told) = record {
  memory = memory_after (after_access s.memory a) r.request told;
  published = lists_after s.published r.request told;
  parties = with_party (λ p. notice a (s.parties p)) party free;
  standing = (ask s.standing s.published party r.request).standing;
}

-- after a step of the party, which changes nothing where no call runs
abbrev pub after_step : State → List ℕ → Party → Access → Option Reply → State
after_step s party (running r) a told = stepped s party r a told
after_step s party x a told = s

-- after a line that was answered so
abbrev pub after : State → Line → Answer → State
after s (line.Begin party c) answer.Begun = record s { parties = with_party s.parties party (begun (request_of s.standing s.published party c)) }
after s (line.Step party) (answer.Step a told) = after_step s party (s.parties party) a told
after s (line.Release party name) (answer.Step a told) = record s { standing = dropped s.standing party name }
after s (line.Abandon party) answer.Gone = record s { parties = with_party s.parties party gone }
after s l a = s

-- ---- sessions

-- lines with their answers
abbrev pub Session : Type 0
Session = List (Line × Answer)

-- after a session that began in this state
abbrev pub state_after : State → Session → State
state_after s [] = s
state_after s (pair ∷ pairs) = state_after (after s pair.0 pair.1) pairs

-- each answer is right after the lines before it
abbrev pub IsLawfulFrom : State → Session → Type 0
IsLawfulFrom s [] = Unit {0}
IsLawfulFrom s (pair ∷ pairs) = IsRight s pair.0 pair.1 × IsLawfulFrom (after s pair.0 pair.1) pairs

-- a session from the start in which each answer is right
abbrev pub IsLawful : Session → Type 0
IsLawful pairs = IsLawfulFrom start pairs
