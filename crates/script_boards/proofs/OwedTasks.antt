-- The task of a party whose call owes an access.
use Rattle.std.proofs.Common.{◌≡◌, ℕ, true, false, List, Some, None, Option, refl, sym, subst, ◌∙◌}
use Rattle.std.specs.Prelude.{IsSomeAnd}
use Rattle.board_model.specs.LawfulSession.{State}
use Rattle.script_boards.specs.declared.machine.BoardMachine.{BoardMachine}
use Rattle.script_boards.specs.declared.machine.Task.{Task}
use Rattle.script_boards.specs.declared.machine.Task.TheVariants as task
use Rattle.script_boards.specs.declared.step.OwedAccess.{OwedAccess}
use Rattle.script_boards.specs.declared.step.OwedAccess.TheVariants as owed
use Rattle.script_boards.specs.declared.step.OwedRead.{OwedRead}
use Rattle.script_boards.specs.Machine.{Represents, task_of}
use Rattle.script_boards.specs.Steps.{CanGoOn, EndsWith, GoesOn, GoesOnOrEnds, HasRead, IsOwedBy, Owes, ends_call, is_gone, ticked}
use Rattle.script_boards.proofs.PartyTasks.{IsRunning, a_task, is_running, one_task, put_after}

not_gone : (t : Task) (o : OwedAccess) → IsOwedBy t o → is_gone t ≡ false
not_gone (task.Table t) o h = refl
not_gone (task.Get b c type n) o h = refl
not_gone (task.Fresh b c) o h = refl
not_gone (task.Update b c) o h = refl
not_gone (task.Put b c l i w) o h = refl
not_gone (task.Publish b c l n) o h = refl
not_gone (task.Fill b c l n) o h = refl
not_gone task.Gone o h = absurd h

module _ {C : Type 0} (m : BoardMachine C) (party : List ℕ) (o : OwedAccess) (owes : Owes m party o) where
  -- the call runs
  pub owed_runs : (s : State) → Represents m s → IsRunning s.parties party owes.task
  owed_runs s rep = is_running (task_of m) s.parties rep.parties party owes.task owes.stands (not_gone owes.task o owes.owes)

  -- what was found is the task
  pub owed_is : (found : Option Task) (t : Task) → found ≡ task_of m party → found ≡ Some t → t ≡ owes.task
  owed_is found t e f = one_task t owes.task (sym f ∙ e ∙ owes.stands)

  -- it is there
  pub was_found : (found : Option Task) → found ≡ task_of m party → found ≡ None → ⊥
  was_found found e f = (let x : a_task owes.task ≡ None = sym owes.stands ∙ sym e ∙ f in cc)

-- a read that is its call's last has all of its words
pub has_read : (t : Task) (r : OwedRead) (v : ℕ) → IsOwedBy t (owed.Read r) → ends_call t v ≡ true → HasRead (ticked t v)
has_read (task.Table t) r v o e = absurd o
has_read (task.Get b c type n) r v o e = e
has_read (task.Fresh b c) r v o e = refl
has_read (task.Update b c) r v o e = absurd o
has_read (task.Put b c l i w) r v o e = absurd o
has_read (task.Publish b c l n) r v o e = absurd o
has_read (task.Fill b c l n) r v o e = absurd o
has_read task.Gone r v o e = absurd o

-- a task that stands goes on
pub can_go_on : (o : Option Task) (t : Task) → o ≡ Some t → CanGoOn t → IsSomeAnd o CanGoOn
can_go_on o t e h = subst (λ (x : Option Task). IsSomeAnd x CanGoOn) (sym e) h

-- ---- what was heard

module _ (tasks mid new : List ℕ → Option Task) (party : List ℕ) (own : Task) (v : ℕ) (same : mid ≡ tasks) where
  -- nothing came out: the call goes on
  pub heard_more : (left : Option Task) → GoesOnOrEnds mid new party own v left → left ≡ None → GoesOn tasks new party own v
  heard_more None h e = record { more = h.more; tasks = put_after tasks mid new party (Some (ticked own v)) same h.tasks }
  heard_more (Some x) h e = absurd (let f : a_task x ≡ None = e in cc)

  -- the task came out: the call has ended
  pub heard_last : (left : Option Task) (x : Task) → GoesOnOrEnds mid new party own v left → left ≡ Some x → EndsWith tasks new party own v x
  heard_last None x h e = absurd (let f : a_task x ≡ None = sym e in cc)
  heard_last (Some y) x h e = record { last = h.last; task = sym (one_task y x e) ∙ h.task; tasks = put_after tasks mid new party None same h.tasks }
