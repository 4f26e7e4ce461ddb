-- A step of a call that writes a word is right, and the machine stands for what follows.
use Rattle.std.proofs.Common.{◌≡◌, ℕ, ◌+◌, ◌≤◌, Bool, true, false, List, [], ◌∷◌, ◌++◌, length, arith, refl, sym, ap, subst, ◌∙◌, Option, Some, None}
use Rattle.std.specs.Prelude.{◌==◌, is_some, nat_le}
use Rattle.std.proofs.lemmas.Bool.{eqb-true, eqb-false, le-leb, lt-leb}
use Rattle.std.proofs.lemmas.List.{length-append}
use Rattle.board_cell_model.specs.declared.access.Access.{Access}
use Rattle.board_cell_model.specs.declared.access.Access.TheVariants as access
use Rattle.board_model.specs.declared.answer.Answer.TheVariants as answer
use Rattle.board_model.specs.declared.answer.Reply.TheVariants as reply
use Rattle.board_model.specs.declared.line.Line.TheVariants as line
use Rattle.board_model.specs.declared.tables.Board.{Board}
use Rattle.board_model.specs.LineGrammar.{IsNumber, IsLine}
use Rattle.board_cell_model.specs.OwedAccesses.{owed_write, to_write, spare_at}
use Rattle.board_model.specs.Memory.{memory_after, store}
use Rattle.board_model.specs.Requests.{Lending, Request, fill, publish, put, update}
use Rattle.board_model.specs.Replies.{ask}
use Rattle.board_model.specs.Tables.{board_at}
use Rattle.board_model.specs.TypeTable.{value_words}
use Rattle.board_model.specs.Parties.{Running, free, is_done, owed, running}
use Rattle.board_model.specs.LawfulSession.{IsRight, State, after}
use Rattle.board_model.specs.Sound.{IsCalling, Sound}
use Rattle.board_model.proofs.RunningLemmas.{runs}
use Rattle.board_model.proofs.KeptLemmas.{entry_board}
use Rattle.board_model.proofs.BoundLaws.{write_in_board}
use Rattle.board_cell.specs.Calls.{Publishing, Putting, Updating}
use Rattle.script_boards.specs.declared.machine.BoardMachine.{BoardMachine}
use Rattle.script_boards.specs.declared.machine.Task.{Task}
use Rattle.script_boards.specs.declared.machine.Task.TheVariants as task
use Rattle.script_boards.specs.declared.step.OwedAccess.TheVariants as owed_access
use Rattle.script_boards.specs.declared.step.OwedWrite.{OwedWrite}
use Rattle.script_boards.specs.LoanCalls.{CanSettle, IsGivenBack, IsSettled, IsWordPut}
use Rattle.script_boards.specs.Loans.{filling, lent_words}
use Rattle.script_parties.specs.Parties.{HasWord, Parties, words_of_boards}
use Rattle.script_boards.specs.Machine.{IsTaskOf, Represents, kept, tables_of, task_of, updating}
use Rattle.script_boards.specs.Steps.{IsOwedBy, IsPut, IsWordSet, ticked}
use Rattle.script_boards.proofs.LoanSteps.{given_back_loans, given_back_tables, put_loans}
use Rattle.script_boards.proofs.OwedWords.{has_word, stored_words}
use Rattle.script_boards.proofs.PartyTasks.{IsRunning, changed, put_after, put_before}
use Rattle.script_boards.proofs.Seats.{of_name}

-- a publication is done with the write after its last word
done_when : (k n : ℕ) → k ≤ n → nat_le (n + 1) (k + 1) ≡ (k == n)
done_when k n le = by (k == n) refl
  where
    by : (b : Bool) → (k == n) ≡ b → nat_le (n + 1) (k + 1) ≡ b
    by true e = let same : k ≡ n = eqb-true k n e in le-leb _ _ (omega (arith, same))
    by false e = lt-leb _ _ (omega (arith, eqb-false k n e, le))

module _ {C : Type 0} (m : BoardMachine C) (s : State) (rep : Represents m s) (sound : Sound s) (party : List ℕ) (own : Task) (at : IsRunning s.parties party own) where
  calling : (q : Request) → at.r.request ≡ q → IsCalling s party at.r q
  calling q e = runs s party at.r q sound at.runs e

  -- ---- the loan of a call

  -- the loan into which a word is put has the word
  pub can_settle : (mid : BoardMachine C) → lent_words mid ≡ lent_words m → (t : Task) → IsTaskOf t at.r.request at.r.so_far → CanSettle mid party t
  can_settle mid same (task.Table t) h = tt
  can_settle mid same (task.Get board call type name) h = tt
  can_settle mid same (task.Fresh board call) h = tt
  can_settle mid same (task.Update board call) h = tt
  can_settle mid same (task.Put board call loan index word) h =
      let l = h.lending in
      let p = (calling (put l index word) h.request).1 in
      record {
        words = l.words;
        lent = of_name same party loan ∙ sym (rep.loans party loan) ∙ ap (λ (n : List ℕ). s.standing.loans party n) h.loan_is ∙ p.words;
        below = omega (arith, p.below, p.lent.size);
      }
  can_settle mid same (task.Publish board call loan handle) h = tt
  can_settle mid same (task.Fill board call loan handle) h = tt
  can_settle mid same task.Gone h = tt

  -- what the last write of a call leaves
  record IsLeft (mid new : BoardMachine C) (q : Request) : Type 0 where
    pub memory : (f : ℕ → List ℕ) → memory_after f q reply.Done ≡ f
    pub told : (ask s.standing s.published party q).reply ≡ reply.Done
    pub tables : (ask s.standing s.published party q).standing.tables ≡ tables_of new
    pub loans : (p n : List ℕ) → (ask s.standing s.published party q).standing.loans p n ≡ lent_words new p n
    pub values : (p n : List ℕ) → (ask s.standing s.published party q).standing.values p n ≡ kept new p n
    pub boards : new.domain.tables.boards ≡ mid.domain.tables.boards
    pub words : new.domain.words ≡ mid.domain.words
    pub parties : task_of new ≡ task_of mid

  module _ (mid new : BoardMachine C) (tables : s.standing.tables ≡ tables_of mid) (loans : (p n : List ℕ) → s.standing.loans p n ≡ lent_words mid p n) (values : (p n : List ℕ) → s.standing.values p n ≡ kept mid p n) where
    kept_values : kept new ≡ kept mid → (p n : List ℕ) → s.standing.values p n ≡ kept new p n
    kept_values e p n = values p n ∙ sym (of_name e p n)

    -- a call that ends its loan
    gives_back : (l : Lending) (loan handle : List ℕ) → loan ≡ l.loan → handle ≡ l.handle → IsGivenBack mid new party loan handle → IsGivenBack mid new party l.loan l.handle
    gives_back l loan handle e f h = subst (λ (x : List ℕ). IsGivenBack mid new party l.loan x) f (subst (λ (x : List ℕ). IsGivenBack mid new party x handle) e h)

    left_is : (t : Task) (w : OwedWrite) → IsTaskOf t at.r.request at.r.so_far → IsOwedBy t (owed_access.Write w) → IsSettled mid new party t → IsLeft mid new at.r.request
    left_is (task.Table t) w h o e = absurd o
    left_is (task.Get board call type name) w h o e = absurd o
    left_is (task.Fresh board call) w h o e = absurd o
    left_is (task.Update board call) w h o e =
        subst (λ (q : Request). IsLeft mid new q) (sym h.request) (record {
          memory = λ f. refl;
          told = refl;
          tables = tables ∙ ap tables_of (sym e);
          loans = λ p n. loans p n ∙ ap (λ (x : BoardMachine C). lent_words x p n) (sym e);
          values = kept_values (ap (λ (x : BoardMachine C). kept x) e);
          boards = ap (λ (x : BoardMachine C). x.domain.tables.boards) e;
          words = ap (λ (x : BoardMachine C). x.domain.words) e;
          parties = ap (λ (x : BoardMachine C). task_of x) e;
        })
    left_is (task.Put board call loan index word) w h o e =
        let l = h.lending in
        let p = (calling (put l index word) h.request).1 in
        let is = subst (λ (x : List ℕ). IsWordPut mid new party x index word) h.loan_is e in
        subst (λ (q : Request). IsLeft mid new q) (sym h.request) (record {
          memory = λ f. refl;
          told = refl;
          tables = tables ∙ ap (λ (d : Parties). d.tables) (sym e.domain);
          loans = put_loans s mid new tables loans party l index word is p.words;
          values = kept_values e.values;
          boards = ap (λ (d : Parties). d.tables.boards) e.domain;
          words = ap (λ (d : Parties). d.words) e.domain;
          parties = e.parties;
        })
    left_is (task.Publish board call loan handle) w h o e =
        let l = h.lending in
        let is = gives_back l loan handle h.loan_is h.handle_is e in
        subst (λ (q : Request). IsLeft mid new q) (sym h.request) (record {
          memory = λ f. refl;
          told = refl;
          tables = given_back_tables s mid new tables loans party l is;
          loans = given_back_loans s mid new tables loans party l is;
          values = kept_values e.values;
          boards = ap (λ (d : Parties). d.tables.boards) e.domain;
          words = ap (λ (d : Parties). d.words) e.domain;
          parties = e.parties;
        })
    left_is (task.Fill board call loan handle) w h o e =
        let l = h.lending in
        let is = gives_back l loan handle h.loan_is h.handle_is e in
        subst (λ (q : Request). IsLeft mid new q) (sym h.request) (record {
          memory = λ f. refl;
          told = refl;
          tables = given_back_tables s mid new tables loans party l is;
          loans = given_back_loans s mid new tables loans party l is;
          values = kept_values e.values;
          boards = ap (λ (d : Parties). d.tables.boards) e.domain;
          words = ap (λ (d : Parties). d.words) e.domain;
          parties = e.parties;
        })
    left_is task.Gone w h o e = absurd o

  -- ---- the write

  module _ (w : OwedWrite) (o : IsOwedBy own (owed_access.Write w)) where
    abbrev made : Access
    made = access.Write w.board w.word w.value

    abbrev more : List Access
    more = at.r.so_far ++ made ∷ []

    length_more : length more ≡ length at.r.so_far + 1
    length_more = length-append at.r.so_far (made ∷ [])

    -- the write of a running call
    record IsWriteStep (t : Task) (q : Request) : Type 0 where
      pub next : to_write w.board w.word w.value ≡ owed q at.r.so_far
      pub board : is_some (board_at s.standing.tables w.board) ≡ true
      pub last : is_done q more ≡ w.is_last
      pub rest : w.is_last ≡ false → IsTaskOf (ticked t 0) q more

    -- the only write of a call is its last
    only : {A : Type 0} → w.is_last ≡ true → w.is_last ≡ false → A
    only t f = absurd (let x : true ≡ false = sym t ∙ f in cc)

    write_step : (t : Task) → IsTaskOf t at.r.request at.r.so_far → IsOwedBy t (owed_access.Write w) → IsWriteStep t at.r.request
    write_step (task.Table t) h o = absurd o
    write_step (task.Get board call type name) h o = absurd o
    write_step (task.Fresh board call) h o = absurd o
    write_step (task.Update board call) h o =
        let u = h.publication in
        let p = calling (update u) h.request in
        let le : length at.r.so_far ≤ length (value_words u.value) = omega (arith, p.steps, p.size) in
        subst (λ (q : Request). IsWriteStep (task.Update board call) q) (sym h.request) (record {
          next = o.access ∙ ap (λ (b : ℕ). owed_write b call.shape call.generation call.words call.written) h.board_is
              ∙ ap (λ (c : Updating). owed_write u.board c.shape c.generation c.words c.written) h.call_is;
          board = ap (λ (n : ℕ). is_some (board_at s.standing.tables n)) (o.board_is ∙ h.board_is) ∙ entry_board s.standing.tables u.board u.entry u.shape p.writes.place;
          last = ap (λ (k : ℕ). nat_le (length (value_words u.value) + 1) k) length_more ∙ done_when (length at.r.so_far) (length (value_words u.value)) le
              ∙ ap (λ (c : Updating). c.written == length c.words) (sym h.call_is) ∙ sym o.last;
          rest = λ e. record {
            publication = u;
            request = refl;
            board_is = h.board_is;
            call_is = ap (λ (c : Updating). record c { written = c.written + 1 }) h.call_is ∙ ap (updating u) (sym length_more);
          };
        })
    write_step (task.Put board call loan index word) h o =
        let l = h.lending in
        let p = calling (put l index word) h.request in
        subst (λ (q : Request). IsWriteStep (task.Put board call loan index word) q) (sym h.request) (record {
          next = o.access ∙ ap (λ (b : ℕ). to_write b (spare_at call.shape call.generation + call.index) call.word) h.board_is
              ∙ ap (λ (c : Putting). to_write l.board (spare_at c.shape c.generation + c.index) c.word) h.call_is;
          board = ap (λ (n : ℕ). is_some (board_at s.standing.tables n)) (o.board_is ∙ h.board_is) ∙ entry_board s.standing.tables l.board l.entry l.shape p.1.writes.place;
          last = le-leb _ _ (omega (arith, length_more)) ∙ sym o.last;
          rest = only o.last;
        })
    write_step (task.Publish board call loan handle) h o =
        let l = h.lending in
        let p = calling (publish l) h.request in
        subst (λ (q : Request). IsWriteStep (task.Publish board call loan handle) q) (sym h.request) (record {
          next = o.access ∙ ap (λ (b : ℕ). to_write b call.shape.first (call.generation + 1)) h.board_is
              ∙ ap (λ (c : Publishing). to_write l.board c.shape.first (c.generation + 1)) h.call_is;
          board = ap (λ (n : ℕ). is_some (board_at s.standing.tables n)) (o.board_is ∙ h.board_is) ∙ entry_board s.standing.tables l.board l.entry l.shape p.2.writes.place;
          last = le-leb _ _ (omega (arith, length_more)) ∙ sym o.last;
          rest = only o.last;
        })
    write_step (task.Fill board call loan handle) h o =
        let l = h.lending in
        let p = calling (fill l h.value) h.request in
        let le : length at.r.so_far ≤ length (value_words h.value) = omega (arith, p.1.steps, p.1.size) in
        subst (λ (q : Request). IsWriteStep (task.Fill board call loan handle) q) (sym h.request) (record {
          next = o.access ∙ ap (λ (b : ℕ). owed_write b call.shape call.generation call.words call.written) h.board_is
              ∙ ap (λ (c : Updating). owed_write l.board c.shape c.generation c.words c.written) h.call_is;
          board = ap (λ (n : ℕ). is_some (board_at s.standing.tables n)) (o.board_is ∙ h.board_is) ∙ entry_board s.standing.tables l.board l.entry l.shape p.1.writes.place;
          last = ap (λ (k : ℕ). nat_le (length (value_words h.value) + 1) k) length_more ∙ done_when (length at.r.so_far) (length (value_words h.value)) le
              ∙ ap (λ (c : Updating). c.written == length c.words) (sym h.call_is) ∙ sym o.last;
          rest = λ e. record {
            lending = l;
            value = h.value;
            request = refl;
            board_is = h.board_is;
            call_is = ap (λ (c : Updating). record c { written = c.written + 1 }) h.call_is ∙ ap (filling l h.value) (sym length_more);
            loan_is = h.loan_is;
            handle_is = h.handle_is;
          };
        })
    write_step task.Gone h o = absurd o

    step : IsWriteStep own at.r.request
    step = write_step own at.task o

    pub task_has_word : HasWord m.domain w.board w.word
    task_has_word =
        let inside = write_in_board s party at.r w.board w.word w.value sound at.runs (sym step.next) in
        has_word m s rep sound w.board w.word step.board inside.inside

    -- the numbers of the write
    pub record AreWritten : Type 0 where
      pub board : IsNumber w.board
      pub word : IsNumber w.word
      pub value : IsNumber w.value

    module _ (stored : BoardMachine C) (is_stored : IsWordSet m stored w.board w.word w.value) (numbers : AreWritten) (l : IsLine (line.Step party)) where
      stored_loans : (p n : List ℕ) → s.standing.loans p n ≡ lent_words stored p n
      stored_loans p n = rep.loans p n ∙ sym (of_name is_stored.rest.loans p n)

      stored_values : (p n : List ℕ) → s.standing.values p n ≡ kept stored p n
      stored_values p n = rep.values p n ∙ sym (of_name is_stored.rest.values p n)

      put_over : (new : BoardMachine C) (x : Option Task) → IsPut (task_of stored) (task_of new) party x → IsPut (task_of m) (task_of new) party x
      put_over new x is = put_after (task_of m) (task_of stored) (task_of new) party x is_stored.rest.parties is

      all_words : (boards : List Board) → boards ≡ stored.domain.tables.boards → stored.domain.words ≡ words_of_boards (store s.memory w.board w.word w.value) boards
      all_words boards e =
          stored_words m s rep sound stored.domain w.board w.word w.value step.board is_stored.stored
          ∙ ap (λ (bs : List Board). words_of_boards (store s.memory w.board w.word w.value) bs) (ap (λ t. t.boards) (sym is_stored.stored.tables) ∙ sym e)

      -- the last write ends the call
      pub write_ends : (mid new : BoardMachine C) → tables_of mid ≡ tables_of stored → mid.domain.words ≡ stored.domain.words → kept mid ≡ kept stored → lent_words mid ≡ lent_words stored
          → IsPut (task_of stored) (task_of mid) party None → w.is_last ≡ true → IsSettled mid new party own
          → IsRight s (line.Step party) (answer.Step made (Some reply.Done)) × Represents new (after s (line.Step party) (answer.Step made (Some reply.Done)))
      write_ends mid new tables words values loans taken e settled =
          let left = left_is mid new (rep.tables ∙ sym is_stored.stored.tables ∙ sym tables)
          (λ p n. stored_loans p n ∙ sym (of_name loans p n))
          (λ p n. stored_values p n ∙ sym (of_name values p n))
          own w at.task o settled in (
            record {
              line = l;
              answer = ((numbers.board, numbers.word, numbers.value), tt);
              reason = rw (at.runs) tt;
              owed = λ _. rw (at.runs) step.next;
              word = λ _. tt;
              reply = λ _. rw (at.runs) (record { last = sym (step.last ∙ e); reply = sym left.told });
            },
            rw (at.runs) (record {
              tables = left.tables;
              words = left.words ∙ words ∙ all_words new.domain.tables.boards (left.boards ∙ ap (λ t. t.boards) tables)
                  ∙ ap (λ (f : ℕ → List ℕ). words_of_boards f new.domain.tables.boards) (sym (left.memory (store s.memory w.board w.word w.value)));
              parties = changed (task_of m) (task_of new) s.parties rep.parties party None (put_before (task_of m) (task_of mid) (task_of new) party None (put_over mid None taken) left.parties) made free refl;
              loans = left.loans;
              values = left.values;
            }),
          )

      -- another write leaves the rest of the call
      pub write_goes_on : (new : BoardMachine C) → tables_of new ≡ tables_of stored → new.domain.words ≡ stored.domain.words → kept new ≡ kept stored → lent_words new ≡ lent_words stored
          → w.is_last ≡ false → IsPut (task_of stored) (task_of new) party (Some (ticked own 0))
          → IsRight s (line.Step party) (answer.Step made None) × Represents new (after s (line.Step party) (answer.Step made None))
      write_goes_on new tables words values loans e taken =
          let next : Running = record at.r { so_far = more } in
          let of : IsTaskOf (ticked own 0) next.request next.so_far = step.rest e in (
            record {
              line = l;
              answer = ((numbers.board, numbers.word, numbers.value), tt);
              reason = rw (at.runs) tt;
              owed = λ _. rw (at.runs) step.next;
              word = λ _. tt;
              reply = λ _. rw (at.runs) (record { last = sym (step.last ∙ e); reply = tt });
            },
            rw (at.runs) (record {
              tables = rep.tables ∙ sym is_stored.stored.tables ∙ sym tables;
              words = words ∙ all_words new.domain.tables.boards (ap (λ t. t.boards) tables);
              parties = changed (task_of m) (task_of new) s.parties rep.parties party (Some (ticked own 0)) (put_over new (Some (ticked own 0)) taken) made (running next) (record { task = ticked own 0; found = refl; is = of });
              loans = λ p n. stored_loans p n ∙ sym (of_name loans p n);
              values = λ p n. stored_values p n ∙ sym (of_name values p n);
            }),
          )
