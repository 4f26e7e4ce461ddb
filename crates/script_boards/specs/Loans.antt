-- Loans, and what the calls on them have to do.
use Rattle.std.specs.Prelude.{◌≡◌, ℕ, false, List, Option, option_map}
use Rattle.std.specs.HashMap.{get}
use Rattle.board_model.specs.declared.value.Value.{Value}
use Rattle.board_model.specs.TypeTable.{value_words}
use Rattle.board_model.specs.Requests.{Lending, Request, fill, discard, loan, publish, put, table}
use Rattle.board_cell.specs.Calls.{Publishing, Putting, Updating}
use Rattle.script_seats.specs.Seats.{same_seat}
use Rattle.script_boards.specs.declared.machine.BoardMachine.{BoardMachine}

-- ---- loans

-- the words of the loan that a party holds under a name
abbrev pub lent_words : {C : Type 0} → BoardMachine C → List ℕ → List ℕ → Option (List (Option ℕ))
lent_words m party name = option_map (λ ws. ws.items) (get same_seat m.loans (record { party = party; name = name }))

-- ---- tasks

-- a loan that is to be made has as many words as the entry
pub record IsLoanTask (handle lent : List ℕ) (words : ℕ) (q : Request) : Type 0 where
  pub lending : Lending
  pub request : q ≡ table (loan lending)
  pub handle_is : handle ≡ lending.handle
  pub loan_is : lent ≡ lending.loan
  pub words_is : words ≡ lending.shape.words

-- a loan that is to be discarded
pub record IsDiscardTask (lent handle : List ℕ) (q : Request) : Type 0 where
  pub lending : Lending
  pub request : q ≡ table (discard lending)
  pub loan_is : lent ≡ lending.loan
  pub handle_is : handle ≡ lending.handle

-- a put that has made no access
abbrev pub new_put : Lending → ℕ → ℕ → Putting
new_put l i w = record { shape = l.shape; generation = l.generation; index = i; word = w; done = false }

-- a put that runs is this one
pub record IsPutTask (board : ℕ) (call : Putting) (lent : List ℕ) (index word : ℕ) (q : Request) : Type 0 where
  pub lending : Lending
  pub request : q ≡ put lending index word
  pub board_is : board ≡ lending.board
  pub call_is : call ≡ new_put lending index word
  pub loan_is : lent ≡ lending.loan

-- a publish that has made no access
abbrev pub publishing : Lending → Publishing
publishing l = record { shape = l.shape; generation = l.generation; done = false }

-- a publish that runs is this one
pub record IsPublishTask (board : ℕ) (call : Publishing) (lent handle : List ℕ) (q : Request) : Type 0 where
  pub lending : Lending
  pub request : q ≡ publish lending
  pub board_is : board ≡ lending.board
  pub call_is : call ≡ publishing lending
  pub loan_is : lent ≡ lending.loan
  pub handle_is : handle ≡ lending.handle

-- a fill after so many accesses
abbrev pub filling : Lending → Value → ℕ → Updating
filling l v k = record { shape = l.shape; generation = l.generation; words = value_words v; written = k }

-- a fill that runs is what is left of this one
pub record IsFillTask (board : ℕ) (call : Updating) (lent handle : List ℕ) (q : Request) (k : ℕ) : Type 0 where
  pub lending : Lending
  pub value : Value
  pub request : q ≡ fill lending value
  pub board_is : board ≡ lending.board
  pub call_is : call ≡ filling lending value k
  pub loan_is : lent ≡ lending.loan
  pub handle_is : handle ≡ lending.handle
