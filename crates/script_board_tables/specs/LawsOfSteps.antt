-- Laws of steps: whatever runs in a sound state can make its next access.
use Rattle.std.specs.Prelude.{◌≡◌, ℕ, ◌<◌, ◌^◌, List}
use Rattle.board_model.specs.LawfulSession.{State}
use Rattle.board_model.specs.LawsOfBounds.{IsWithin}
use Rattle.board_model.specs.LawsOfForms.{AreFormed}
use Rattle.board_model.specs.Parties.{Running, running}
use Rattle.board_model.specs.Sound.{Sound}
use Rattle.script_board_tables.specs.declared.calls.BoardCall.{BoardCall}
use Rattle.script_board_tables.specs.declared.tables.BoardTables.{BoardTables}
use Rattle.script_board_tables.specs.Calls.{HasCome, IsFor}
use Rattle.script_board_tables.specs.Steps.{CanStep}
use Rattle.script_board_tables.specs.Tables.{Has}

-- the tables have what stands in a state that fewer than 2^63 lines led to
pub record IsOf (t : BoardTables) (s : State) (n : ℕ) : Type 0 where
  pub has : Has t s.standing s.memory s.published
  pub sound : Sound s
  pub within : IsWithin s n
  pub few : n < 2 ^ 63
  pub formed : AreFormed s n

-- a call that is what a party runs, and as far, can go on
abbrev pub RunningCallsCanStep : Type 0
RunningCallsCanStep =
    (t : BoardTables) (s : State) (n : ℕ) (party : List ℕ) (r : Running) (c : BoardCall)
    → IsOf t s n → s.parties party ≡ running r → IsFor c r.request → HasCome c r.so_far → CanStep t c
