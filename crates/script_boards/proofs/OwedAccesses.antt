-- The access that a call owes, from what its core says.
use Rattle.std.proofs.Common.{◌≡◌, ℕ, ◌+◌, ◌≤◌, Bool, true, false, cond, List, length, arith, refl, sym, Option}
use Rattle.std.specs.Prelude.{◌==◌, not, nat_lt}
use Rattle.std.proofs.lemmas.Bool.{eq-eqb, ltb-false, ltb-true, ne_eqb}
use Rattle.board_cell_model.specs.OwedAccesses.{spare_at}
use Rattle.board_cell_model.specs.OwedAccesses.{owed_read, owed_write, to_read, to_write}
use Rattle.board_cell.specs.Calls.{Asking, Getting, Publishing, Putting, Updating, on_board}
use Rattle.board_cell.specs.declared.access.Access.{Access}
use Rattle.board_cell.specs.declared.access.Access.TheVariants as access
use Rattle.board_model.proofs.BoundLaws.{no_write}
use Rattle.board_model.specs.declared.value.ValueType.{ValueType}
use Rattle.script_boards.specs.declared.machine.Task.TheVariants as task
use Rattle.script_boards.specs.declared.step.OwedAccess.{OwedAccess}
use Rattle.script_boards.specs.Steps.{IsOwedBy, owed_on}

-- a get owes a read
pub get_owes : (board : ℕ) (call : Getting) (type : ValueType) (value : Option (List ℕ)) (a : Access) → ((n : ℕ) → on_board n a ≡ owed_read n call.shape call.reading) → IsOwedBy (task.Get board call type value) (owed_on board a false)
get_owes board call type value (access.Read word) e = e board
get_owes board call type value (access.Write word v) e = absurd (no_write call.shape call.reading 0 0 word v (sym (e 0)))

-- and a look does
pub fresh_owes : (board : ℕ) (call : Asking) (a : Access) → ((n : ℕ) → on_board n a ≡ to_read n call.shape.first) → IsOwedBy (task.Fresh board call) (owed_on board a false)
fresh_owes board call (access.Read word) e = e board
fresh_owes board call (access.Write word v) e = absurd (read_only (e 0))
  where
    read_only : {n w p v : ℕ} → to_write n p v ≡ to_read n w → ⊥
    read_only e = absurd cc

-- no access of a publication is a read
pub no_read : (b : Bool) (n word p v q w : ℕ) → to_read n word ≡ cond b (to_write n p v) (to_write n q w) → ⊥
no_read true n word p v q w e = absurd cc
no_read false n word p v q w e = absurd cc

-- the write behind the words is the last
pub last_write : (k n : ℕ) → k ≤ n → not (nat_lt k n) ≡ (k == n)
last_write k n h = by (nat_lt k n) refl
  where
    by : (x : Bool) → nat_lt k n ≡ x → not x ≡ (k == n)
    by true e = sym (ne_eqb k n (λ q. absurd (omega (arith, ltb-true k n e, q))))
    by false e = sym (eq-eqb k n (omega (arith, h, ltb-false k n e)))

module _ (board : ℕ) (call : Updating) (a : Access) (h : call.written ≤ length call.words) (e : (n : ℕ) → on_board n a ≡ owed_write n call.shape call.generation call.words call.written) where
  abbrev owes : OwedAccess
  owes = owed_on board a (not (nat_lt call.written (length call.words)))

  -- an update owes a write
  pub update_owes : IsOwedBy (task.Update board call) owes
  update_owes = at a e
    where
      at : (a : Access) → ((n : ℕ) → on_board n a ≡ owed_write n call.shape call.generation call.words call.written) → IsOwedBy (task.Update board call) (owed_on board a (not (nat_lt call.written (length call.words))))
      at (access.Read word) e = absurd (no_read _ 0 _ _ _ _ _ (e 0))
      at (access.Write word v) e = record { board_is = refl; access = e board; last = last_write call.written (length call.words) h }

  -- and so does a fill
  pub fill_owes : (loan handle : List ℕ) → IsOwedBy (task.Fill board call loan handle) owes
  fill_owes loan handle = at a e
    where
      at : (a : Access) → ((n : ℕ) → on_board n a ≡ owed_write n call.shape call.generation call.words call.written)
          → IsOwedBy (task.Fill board call loan handle) (owed_on board a (not (nat_lt call.written (length call.words))))
      at (access.Read word) e = absurd (no_read _ 0 _ _ _ _ _ (e 0))
      at (access.Write word v) e = record { board_is = refl; access = e board; last = last_write call.written (length call.words) h }

-- a call of one write owes it
write_only : {n w p v : ℕ} → to_read n w ≡ to_write n p v → ⊥
write_only e = absurd cc

pub put_owes : (board : ℕ) (call : Putting) (loan : List ℕ) (index word : ℕ) (a : Access) → ((n : ℕ) → on_board n a ≡ to_write n (spare_at call.shape call.generation + call.index) call.word)
    → IsOwedBy (task.Put board call loan index word) (owed_on board a true)
put_owes board call loan index word (access.Read p) e = absurd (write_only (e 0))
put_owes board call loan index word (access.Write p v) e = record { board_is = refl; access = e board; last = refl }

pub publish_owes : (board : ℕ) (call : Publishing) (loan handle : List ℕ) (a : Access) → ((n : ℕ) → on_board n a ≡ to_write n call.shape.first (call.generation + 1)) → IsOwedBy (task.Publish board call loan handle) (owed_on board a true)
publish_owes board call loan handle (access.Read p) e = absurd (write_only (e 0))
publish_owes board call loan handle (access.Write p v) e = record { board_is = refl; access = e board; last = refl }
