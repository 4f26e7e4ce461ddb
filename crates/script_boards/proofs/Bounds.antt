-- The numbers of a state that a session led to are far from their end.
use Rattle.std.proofs.Common.{ℕ, ◌+◌, ◌^◌, ◌<◌, length, arith}
use Rattle.board_model.specs.LawfulSession.{State}
use Rattle.script_boards.specs.Machine.{IsReached}

pub record IsBounded (s : State) : Type 0 where
  pub boards : s.standing.tables.last_board < 2 ^ 63
  pub ports : s.standing.tables.last_port < 2 ^ 63
  pub lists : (n i : ℕ) → length (s.published n i) + 1 < 2 ^ 64

pub bounded : (s : State) → IsReached s → IsBounded s
bounded s h = record {
  boards = omega (arith, h.within.boards, h.few);
  ports = omega (arith, h.within.ports, h.few);
  lists = λ b i. omega (arith, h.within.lists b i, h.few);
}
