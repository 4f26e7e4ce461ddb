-- The access that a call's core tells is the one that the step makes.
use Rattle.std.proofs.Common.{◌≡◌, ℕ, ◌+◌, ◌<◌, List, [], length, slice_index, sym, ap, ◌∙◌, arith}
use Rattle.std.proofs.lemmas.Grind.{common_steps}
use Rattle.board_layout.specs.declared.shape.CellShape.{CellShape}
use Rattle.board_cell_model.specs.OwedAccesses.{spare_at, current_at}
use Rattle.board_cell_model.specs.OwedAccesses.{Owed, to_table, to_read, to_write, opening, trying, owed_read, owed_write}
use Rattle.board_cell.specs.Calls.{on_board, Getting, Updating, Asking}
use Rattle.board_cell.specs.Passes.{threaded_shape}
use Rattle.board_cell.specs.Views.{IsTrying, IsWriting, with_open}
use Rattle.board_cell.specs.declared.access.Access.{Access}
use Rattle.board_cell.specs.declared.access.Access.TheVariants.{Read, Write}
use Rattle.board_cell.specs.declared.threaded.view.WriterView.{WriterView}
use Rattle.board_cell.specs.declared.threaded.view.ReaderView.{ReaderView}

abbrev word_in : Owed → ℕ
word_in to_table = 0
word_in (to_read board word) = word
word_in (to_write board word value) = word

abbrev value_in : Owed → ℕ
value_in to_table = 0
value_in (to_read board word) = 0
value_in (to_write board word value) = value

on_board_read : (a : Access) (word : ℕ) → on_board 0 a ≡ to_read 0 word → a ≡ Read word
on_board_read (Read w) word e = ap (λ (o : Owed). Read (word_in o)) e
on_board_read (Write w v) word e = absurd (cc)

on_board_write : (a : Access) (word value : ℕ) → on_board 0 a ≡ to_write 0 word value → a ≡ Write word value
on_board_write (Read w) word value e = absurd (cc)
on_board_write (Write w v) word value e = ap (λ (o : Owed). Write (word_in o) (value_in o)) e

-- a get that begins owes the counter
pub opening_is : (w : ℕ) (call : Getting) (a : Access) → call ≡ record { shape = threaded_shape w; reading = opening } → ((board : ℕ) → on_board board a ≡ owed_read board call.shape call.reading) → a ≡ Read 0
opening_is w call a is owes = on_board_read a 0 (owes 0 ∙ ap (λ (k : Getting). owed_read 0 k.shape k.reading) is)

word_owed : (w counter : ℕ) (words : List ℕ) → length words < w → owed_read 0 (threaded_shape w) (trying counter words) ≡ to_read 0 (current_at (threaded_shape w) counter + length words)
word_owed w counter words more = grind (arith, common_steps)

counter_owed : (w counter : ℕ) (words : List ℕ) → length words ≡ w → owed_read 0 (threaded_shape w) (trying counter words) ≡ to_read 0 0
counter_owed w counter words all = grind (arith, common_steps)

-- an open try owes the next word of the current copy
pub word_is : (w : ℕ) (call : Getting) (x : ReaderView) (a : Access) → IsTrying w call x → length x.found < w → ((board : ℕ) → on_board board a ≡ owed_read board call.shape call.reading) → a ≡ Read (current_at (threaded_shape w) x.opened + length x.found)
word_is w call x a is more owes = on_board_read a (current_at (threaded_shape w) x.opened + length x.found) (owes 0 ∙ ap (λ (k : Getting). owed_read 0 k.shape k.reading) is ∙ word_owed w x.opened x.found more)

-- and once it has all words, the counter
pub counter_is : (w : ℕ) (call : Getting) (x : ReaderView) (a : Access) → IsTrying w call x → length x.found ≡ w → ((board : ℕ) → on_board board a ≡ owed_read board call.shape call.reading) → a ≡ Read 0
counter_is w call x a is all owes = on_board_read a 0 (owes 0 ∙ ap (λ (k : Getting). owed_read 0 k.shape k.reading) is ∙ counter_owed w x.opened x.found all)

write_owed : (w g k : ℕ) (words : List ℕ) → k < length words → owed_write 0 (threaded_shape w) g words k ≡ to_write 0 (spare_at (threaded_shape w) g + k) (slice_index words k)
write_owed w g k words more = grind (arith, common_steps)

raise_owed : (w g k : ℕ) (words : List ℕ) → k ≡ length words → owed_write 0 (threaded_shape w) g words k ≡ to_write 0 0 (g + 1)
raise_owed w g k words all = grind (arith, common_steps)

-- an update owes the next word of the spare copy
pub put_is : (w : ℕ) (call : Updating) (x : WriterView) (a : Access) → IsWriting w call x → call.written < w → ((board : ℕ) → on_board board a ≡ owed_write board call.shape call.generation call.words call.written) → a ≡ Write (spare_at (threaded_shape w) (length x.published) + length x.pending) (slice_index call.words (length x.pending))
put_is w call x a is more owes = let width = is.width in let at : call.written ≡ length x.pending = ap (λ (k : Updating). k.written) is.owes in
    on_board_write a (spare_at (threaded_shape w) (length x.published) + length x.pending) (slice_index call.words (length x.pending)) (owes 0 ∙ ap (λ (k : Updating). owed_write 0 k.shape k.generation k.words k.written) is.owes ∙ write_owed w (length x.published) (length x.pending) call.words (omega arith))

-- and once it has written all words, the counter
pub raise_is : (w : ℕ) (call : Updating) (x : WriterView) (a : Access) → IsWriting w call x → call.written ≡ w → ((board : ℕ) → on_board board a ≡ owed_write board call.shape call.generation call.words call.written) → a ≡ Write 0 (length x.published + 1)
raise_is w call x a is all owes = let width = is.width in let at : call.written ≡ length x.pending = ap (λ (k : Updating). k.written) is.owes in
    on_board_write a 0 (length x.published + 1) (owes 0 ∙ ap (λ (k : Updating). owed_write 0 k.shape k.generation k.words k.written) is.owes ∙ raise_owed w (length x.published) (length x.pending) call.words (omega arith))

abbrev pub word_of_access : Access → ℕ
word_of_access (Read word) = word
word_of_access (Write word value) = word

abbrev pub value_of_access : Access → ℕ
value_of_access (Read word) = 0
value_of_access (Write word value) = value

-- a look at the counter
pub look_is : (w : ℕ) (call : Asking) (a : Access) → call.shape ≡ threaded_shape w → ((board : ℕ) → on_board board a ≡ to_read board call.shape.first) → a ≡ Read 0
look_is w call a is owes = on_board_read a 0 (owes 0 ∙ ap (λ (c : CellShape). to_read 0 c.first) is)

-- the next try is open where the counter was another
pub trying_again : (w : ℕ) (old new : Getting) (x y : ReaderView) (n : ℕ) → IsTrying w old x → new ≡ record old { reading = trying n [] } → y ≡ with_open x n → IsTrying w new y
trying_again w old new x y n is again after = again ∙ ap (λ (k : Getting). record k { reading = trying n [] }) is ∙ ap (λ (z : ReaderView). record { shape = threaded_shape w; reading = trying z.opened z.found }) (sym after)
