-- The tasks of parties, and the parties that they stand for.
use Rattle.std.proofs.Common.{◌≡◌, ℕ, Bool, true, false, cond, List, refl, sym, ap, subst, ◌∙◌, Option, Some, None}
use Rattle.std.proofs.lemmas.Slice.Eq.{bytes_eq-Decides}
use Rattle.std.specs.Option.{option_flatten}
use Rattle.std.specs.Str.{bytes_eq}
use Rattle.board_cell.specs.declared.access.Progress.TheVariants as progress
use Rattle.board_cell.specs.Calls.{progress_of}
use Rattle.board_cell_model.specs.declared.access.Access.{Access}
use Rattle.board_cell_model.specs.declared.access.Access.TheVariants as access
use Rattle.board_model.specs.Requests.{Request}
use Rattle.board_model.specs.Parties.{Party, Running, free, gone, notice, running, with_party}
use Rattle.script_boards.specs.declared.machine.Task.{Task}
use Rattle.script_boards.specs.declared.machine.Task.TheVariants as task
use Rattle.script_boards.specs.Machine.{IsKeptOf, IsTaskOf}
use Rattle.script_boards.specs.Steps.{IsPut, is_gone}
use Rattle.script_boards.proofs.Seats.{turned}

-- the tasks are those of the parties
abbrev pub AreParties : (List ℕ → Option Task) → (List ℕ → Party) → Type 0
AreParties tasks parties = (p : List ℕ) → IsKeptOf (tasks p) (parties p)

-- the party's call runs, and this is its task
pub record IsRunning (parties : List ℕ → Party) (party : List ℕ) (own : Task) : Type 0 where
  pub r : Running
  pub runs : parties party ≡ running r
  pub task : IsTaskOf own r.request r.so_far

abbrev pub a_task : Task → Option Task
a_task t = Some t

abbrev pub some_place : Option Task → Option (Option Task)
some_place x = Some x

abbrev pub no_place : Option (Option Task)
no_place = None

pub one_task : (x y : Task) → a_task x ≡ Some y → x ≡ y
one_task x y e = cc

-- a party that is gone runs nothing
pub no_call : (t : Task) (q : Request) (so_far : List Access) → is_gone t ≡ true → IsTaskOf t q so_far → ⊥
no_call (task.Table t) q so_far g h = absurd cc
no_call (task.Get b c type n) q so_far g h = absurd cc
no_call (task.Fresh b c) q so_far g h = absurd cc
no_call (task.Update b c) q so_far g h = absurd cc
no_call (task.Put b c l i w) q so_far g h = absurd cc
no_call (task.Publish b c l n) q so_far g h = absurd cc
no_call (task.Fill b c l n) q so_far g h = absurd cc
no_call task.Gone q so_far g h = h

module _ (tasks : List ℕ → Option Task) (parties : List ℕ → Party) (are : AreParties tasks parties) (party : List ℕ) where
  -- a party without a task is free
  no_task : (x : Party) → IsKeptOf None x → x ≡ free
  no_task free h = refl
  no_task (running r) h = absurd (let e : None ≡ a_task h.task = h.found in cc)
  no_task gone h = absurd (let e : None ≡ a_task task.Gone = h in cc)

  pub is_free : tasks party ≡ None → parties party ≡ free
  is_free e = no_task (parties party) (subst (λ (o : Option Task). IsKeptOf o (parties party)) e (are party))

  module _ (own : Task) (stands : tasks party ≡ Some own) where
    runs_in : is_gone own ≡ false → (x : Party) → parties party ≡ x → IsKeptOf (tasks party) x → IsRunning parties party own
    runs_in n free e h = absurd (let f : a_task own ≡ None = sym stands ∙ h in cc)
    runs_in n (running r) e h =
        let same : h.task ≡ own = one_task h.task own (sym h.found ∙ stands) in
        record { r = r; runs = e; task = subst (λ (y : Task). IsTaskOf y r.request r.so_far) same h.is }
    runs_in n gone e h =
        let same : own ≡ task.Gone = one_task own task.Gone (sym stands ∙ h) in
        absurd (let x : true ≡ false = sym (ap is_gone same) ∙ n in cc)

    -- a task that isn't that of a party that is gone is that of a running call
    pub is_running : is_gone own ≡ false → IsRunning parties party own
    is_running n = runs_in n (parties party) refl (are party)

    gone_in : is_gone own ≡ true → (x : Party) → parties party ≡ x → IsKeptOf (tasks party) x → parties party ≡ gone
    gone_in g free e h = absurd (let f : a_task own ≡ None = sym stands ∙ h in cc)
    gone_in g (running r) e h =
        let same : h.task ≡ own = one_task h.task own (sym h.found ∙ stands) in
        absurd (no_call h.task r.request r.so_far (ap is_gone same ∙ g) h.is)
    gone_in g gone e h = e

    pub gone_at : is_gone own ≡ true → parties party ≡ gone
    gone_at g = gone_in g (parties party) refl (are party)

-- ---- changes

-- what a party notices changes no task
noticed : (a : Access) (o : Option Task) (x : Party) → IsKeptOf o x → IsKeptOf o (notice a x)
noticed access.Table o free h = h
noticed access.Table o (running r) h = h
noticed access.Table o gone h = h
noticed (access.Read b i v) o free h = h
noticed (access.Read b i v) o (running r) h = h
noticed (access.Read b i v) o gone h = h
noticed (access.Write b i v) o free h = h
noticed (access.Write b i v) o (running r) h = record { task = h.task; found = h.found; is = h.is }
noticed (access.Write b i v) o gone h = h

module _ (tasks new : List ℕ → Option Task) (parties : List ℕ → Party) (are : AreParties tasks parties) (party : List ℕ) (w : Option Task) (put : IsPut tasks new party w) where
  -- the party is another from now on, and the others noticed an access
  pub changed : (a : Access) (x : Party) → IsKeptOf w x → AreParties new (with_party (λ p. notice a (parties p)) party x)
  changed a x h p =
      subst (λ (o : Option Task). IsKeptOf o (with_party (λ q. notice a (parties q)) party x p)) (sym (put p))
      (subst (λ (b : Bool). IsKeptOf (cond b w (tasks p)) (cond (bytes_eq p party) x (notice a (parties p)))) (turned p party) (by (bytes_eq p party)))
    where
      by : (b : Bool) → IsKeptOf (cond b w (tasks p)) (cond b x (notice a (parties p)))
      by true = h
      by false = noticed a (tasks p) (parties p) (are p)

  -- the party is another from now on, and nothing was noticed
  pub replaced : (x : Party) → IsKeptOf w x → AreParties new (with_party parties party x)
  replaced x h p = changed access.Table x h p

-- a change after none
pub put_after : (tasks mid new : List ℕ → Option Task) (party : List ℕ) (w : Option Task) → mid ≡ tasks → IsPut mid new party w → IsPut tasks new party w
put_after tasks mid new party w same put p = put p ∙ ap (λ (f : List ℕ → Option Task). cond (bytes_eq party p) w (f p)) same

-- none after a change
pub put_before : (tasks mid new : List ℕ → Option Task) (party : List ℕ) (w : Option Task) → IsPut tasks mid party w → new ≡ mid → IsPut tasks new party w
put_before tasks mid new party w put same p = ap (λ (f : List ℕ → Option Task). f p) same ∙ put p

-- ---- places

module _ (old new : List ℕ → Option (Option Task)) (party : List ℕ) (x : Option Task) where
  -- a party whose place is written has what was written there
  pub placed : ((p : List ℕ) → new p ≡ cond (bytes_eq party p) (some_place x) (old p)) → IsPut (λ p. option_flatten (old p)) (λ p. option_flatten (new p)) party x
  placed put p = ap option_flatten (put p) ∙ at (bytes_eq party p)
    where
      at : (b : Bool) → option_flatten (cond b (some_place x) (old p)) ≡ cond b x (option_flatten (old p))
      at true = refl
      at false = refl

-- a party whose place goes has nothing
pub unplaced : (old new : List ℕ → Option (Option Task)) (party : List ℕ) → ((p : List ℕ) → new p ≡ cond (bytes_eq party p) no_place (old p)) → IsPut (λ p. option_flatten (old p)) (λ p. option_flatten (new p)) party None
unplaced old new party taken p = ap option_flatten (taken p) ∙ at (bytes_eq party p)
  where
    at : (b : Bool) → option_flatten (cond b no_place (old p)) ≡ cond b None (option_flatten (old p))
    at true = refl
    at false = refl

-- where a party is given what it has, nothing changes
pub put_same : (old new : List ℕ → Option Task) (party : List ℕ) (x : Option Task) → IsPut old new party x → old party ≡ x → (p : List ℕ) → new p ≡ old p
put_same old new party x put e p = put p ∙ at (bytes_eq party p) refl
  where
    at : (b : Bool) → bytes_eq party p ≡ b → cond b x (old p) ≡ old p
    at true h = sym e ∙ ap old ((bytes_eq-Decides party p).0 h)
    at false h = refl

-- what was put is there
pub put_there : (old new : List ℕ → Option Task) (party : List ℕ) (x : Option Task) → IsPut old new party x → new party ≡ x
put_there old new party x put = put party ∙ ap (λ (b : Bool). cond b x (old party)) ((bytes_eq-Decides party party).1 refl)

-- ---- how far a call is

pub progress_more : (b : Bool) → progress_of b ≡ progress.More → b ≡ false
progress_more false e = refl
progress_more true e = absurd cc

pub progress_done : (b : Bool) → progress_of b ≡ progress.Done → b ≡ true
progress_done true e = refl
progress_done false e = absurd cc
