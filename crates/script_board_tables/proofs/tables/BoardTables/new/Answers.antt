use Rattle.std.specs.Prelude.{ℕ, List, nat_eq, option_map}
use Rattle.std.specs.Map.{lookup}
use Rattle.script_seats.specs.Seats.{SeatOf, same_seat}
use Rattle.script_board_tables.specs.Tables.{kept_in, lists_in, words_in}
use Rattle.script_board_tables.proofs.tables.BoardTables.new.Goals as goal

abbrev seat : List ℕ → List ℕ → SeatOf
seat party name = record { party = party; name = name }

pub returns : goal.returns
returns c = record {
  standing = λ i. record {
    tables = record { boards = c.new.ensures.boards i; things = c.new-2.ensures i; last_board = c.new.ensures.last i; last_port = 0 };
    loans = λ p n. lookup (same_seat (seat p n)) (c.new-4.ensures.empty i);
    values = λ p n. option_map kept_in (lookup (same_seat (seat p n)) (c.new-5.ensures.empty i));
  };
  memory = λ i n. words_in (lookup (nat_eq n) (c.new-3.ensures.empty i));
  lists = λ i n k. lists_in (lookup (nat_eq n) (c.new-3.ensures.empty i)) k;
}
