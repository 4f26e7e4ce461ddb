-- What a machine tells of the words of a board.
use Rattle.std.specs.Prelude.{◌≡◌, ℕ, true, false, List}
use Rattle.script_boards.specs.declared.machine.BoardMachine.{BoardMachine}
use Rattle.script_boards.specs.Machine.{OfEach, has_board}

-- the board stands in each state that the machine stands for, or in none
abbrev pub HasBoard : {C : Type 0} → BoardMachine C → ℕ → Type 0
HasBoard m number = OfEach m (λ s. has_board s number ≡ true)

abbrev pub HasNoBoard : {C : Type 0} → BoardMachine C → ℕ → Type 0
HasNoBoard m number = OfEach m (λ s. has_board s number ≡ false)

-- the words are those of the board in each state that the machine stands for
abbrev pub AreWordsOf : {C : Type 0} → BoardMachine C → ℕ → List ℕ → Type 0
AreWordsOf m number words = OfEach m (λ s. words ≡ s.memory number)
