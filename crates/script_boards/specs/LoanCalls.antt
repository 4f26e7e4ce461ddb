-- What the calls on loans do to a machine.
use Rattle.std.specs.Prelude.{◌≡◌, ℕ, ◌<◌, List, length, Option, Some, None, slice_set}
use Rattle.board_model.specs.Replies.{none_put}
use Rattle.board_model.specs.Things.{with_at, with_name}
use Rattle.script_boards.specs.declared.machine.BoardMachine.{BoardMachine}
use Rattle.script_boards.specs.declared.machine.Task.{Task}
use Rattle.script_boards.specs.declared.machine.Task.TheVariants as task
use Rattle.script_boards.specs.Loans.{lent_words}
use Rattle.script_boards.specs.Machine.{kept, task_of}

-- the write handle is a loan of which no word was put; all else stays
pub record IsLoaned {C : Type 0} (old new : BoardMachine C) (party handle loan : List ℕ) (count : ℕ) : Type 0 where
  pub domain : new.domain ≡ record old.domain { tables = with_name old.domain.tables party handle loan }
  pub loans : lent_words new ≡ with_at (lent_words old) party loan (Some (none_put count))
  pub parties : task_of new ≡ task_of old
  pub values : kept new ≡ kept old

-- the loan is a write handle, and its words are forgotten; all else stays
pub record IsGivenBack {C : Type 0} (old new : BoardMachine C) (party loan handle : List ℕ) : Type 0 where
  pub domain : new.domain ≡ record old.domain { tables = with_name old.domain.tables party loan handle }
  pub loans : lent_words new ≡ with_at (lent_words old) party loan None
  pub parties : task_of new ≡ task_of old
  pub values : kept new ≡ kept old

-- one word of the loan was put; all else stays
pub record IsWordPut {C : Type 0} (old new : BoardMachine C) (party loan : List ℕ) (index word : ℕ) : Type 0 where
  pub domain : new.domain ≡ old.domain
  pub loans : (put_words : List (Option ℕ)) → lent_words old party loan ≡ Some put_words
      → lent_words new ≡ with_at (lent_words old) party loan (Some (slice_set put_words index (Some word)))
  pub parties : task_of new ≡ task_of old
  pub values : kept new ≡ kept old

-- the party holds the loan, and it has the word
pub record HasLoanWord {C : Type 0} (m : BoardMachine C) (party loan : List ℕ) (index : ℕ) : Type 0 where
  pub words : List (Option ℕ)
  pub lent : lent_words m party loan ≡ Some words
  pub below : index < length words

-- ---- the last write of a call

-- the loan that the call puts a word into has the word
abbrev pub CanSettle : {C : Type 0} → BoardMachine C → List ℕ → Task → Type 0
CanSettle m party (task.Put board call loan index word) = HasLoanWord m party loan index
CanSettle m party t = Unit {0}

-- what becomes of the call's loan
abbrev pub IsSettled : {C : Type 0} → BoardMachine C → BoardMachine C → List ℕ → Task → Type 0
IsSettled old new party (task.Put board call loan index word) = IsWordPut old new party loan index word
IsSettled old new party (task.Publish board call loan handle) = IsGivenBack old new party loan handle
IsSettled old new party (task.Fill board call loan handle) = IsGivenBack old new party loan handle
IsSettled old new party t = new ≡ old
