-- The calls of the words that are followed by names alone, or by the parts of an entry: each by the word's own reader.
use Rattle.std.specs.Prelude.{List, ℕ, Option, Some}
use Rattle.board_model.specs.declared.line.Call.{Call}
use Rattle.board_model.specs.declared.line.Call.TheVariants as call
use Rattle.script_grammar.specs.TokenReading.{◌>>=◌}
use Rattle.script_grammar.specs.LineReading.{read_entry_parts, read_one_name, read_two_names}

abbrev pub read_reader : List (List ℕ) → Option Call
read_reader ts = read_two_names ts >>= λ p. Some (call.Reader p.0 p.1)

abbrev pub read_writer : List (List ℕ) → Option Call
read_writer ts = read_two_names ts >>= λ p. Some (call.Writer p.0 p.1)

abbrev pub read_fresh : List (List ℕ) → Option Call
read_fresh ts = read_two_names ts >>= λ p. Some (call.Fresh p.0 p.1)

abbrev pub read_loan : List (List ℕ) → Option Call
read_loan ts = read_two_names ts >>= λ p. Some (call.Loan p.0 p.1)

abbrev pub read_discard : List (List ℕ) → Option Call
read_discard ts = read_two_names ts >>= λ p. Some (call.Discard p.0 p.1)

abbrev pub read_publish : List (List ℕ) → Option Call
read_publish ts = read_two_names ts >>= λ p. Some (call.Publish p.0 p.1)

abbrev pub read_gen : List (List ℕ) → Option Call
read_gen ts = read_one_name ts >>= λ a. Some (call.Gen a)

abbrev pub read_keys : List (List ℕ) → Option Call
read_keys ts = read_one_name ts >>= λ a. Some (call.Keys a)

abbrev pub read_nodes : List (List ℕ) → Option Call
read_nodes ts = read_one_name ts >>= λ a. Some (call.Nodes a)

abbrev pub read_info : List (List ℕ) → Option Call
read_info ts = read_one_name ts >>= λ a. Some (call.Info a)

abbrev pub read_id : List (List ℕ) → Option Call
read_id ts = read_one_name ts >>= λ a. Some (call.Id a)

abbrev pub read_entry : List (List ℕ) → Option Call
read_entry ts = read_entry_parts ts >>= λ e. Some (call.Entry e.0 e.1 e.2 e.3)

abbrev pub read_entrymut : List (List ℕ) → Option Call
read_entrymut ts = read_entry_parts ts >>= λ e. Some (call.EntryMut e.0 e.1 e.2 e.3)
