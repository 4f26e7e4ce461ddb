-- The step of a call on the tables is right, and the machine stands for what follows.
use Rattle.std.proofs.Common.{◌≡◌, ℕ, ◌+◌, ◌^◌, ◌<◌, true, List, [], ◌∷◌, ◌++◌, length, get_or, map, arith, refl, sym, ap, subst, ◌∙◌, Option, Some, None}
use Rattle.std.specs.Prelude.{nat_le, is_some, Result, slice_index}
use Rattle.std.specs.Str.{bytes_eq}
use Rattle.std.specs.List.{position_from}
use Rattle.std.proofs.lemmas.Bool.{eq-eqb, le-leb}
use Rattle.std.proofs.lemmas.List.{length-append, map_push}
use Rattle.board_cell_model.specs.declared.access.Access.TheVariants as access
use Rattle.board_model.specs.declared.answer.Answer.TheVariants as answer
use Rattle.board_model.specs.declared.answer.Reply.{Reply}
use Rattle.board_model.specs.declared.answer.Reply.TheVariants as reply
use Rattle.board_names.specs.declared.errors.boards.BlackboardCreateError.{BlackboardCreateError}
use Rattle.board_model.specs.declared.line.Line.TheVariants as line
use Rattle.board_model.specs.declared.attributes.Attribute.{Attribute}
use Rattle.board_model.specs.declared.tables.Board.{Board}
use Rattle.board_model.specs.declared.tables.Entry.{Entry}
use Rattle.board_model.specs.declared.tables.Kind.{Kind}
use Rattle.board_model.specs.declared.tables.Kind.TheVariants as kind
use Rattle.board_model.specs.declared.tables.NewLimits.{NewLimits}
use Rattle.board_model.specs.declared.tables.ThingKind.TheVariants as thing_kind
use Rattle.board_model.specs.declared.value.AddedEntry.{AddedEntry}
use Rattle.board_model.specs.declared.value.Key.{Key}
use Rattle.board_model.specs.declared.value.KeyType.{KeyType}
use Rattle.board_model.specs.AnswerGrammar.{IsReply}
use Rattle.board_model.specs.LineGrammar.{IsLine}
use Rattle.board_model.specs.Memory.{memory_after, opening_of, with_board}
use Rattle.board_model.specs.Requests.{Request, TableCall, create, info, entry, entry_mut, discard, id, open_, loan, keys, nodes, reader, table, gen, writer}
use Rattle.board_model.specs.Replies.{Asked, added_of, ask_tables, id_number, info_of, keeps_key, keys_in, nodes_of, number_or, only_told, told_by}
use Rattle.board_model.specs.Tables.{Tables, board_at, entry_at, entry_found, entry_in, entry_of, is_numbered, kind_of, new_board}
use Rattle.board_model.specs.TableCalls.{asked, create_asked, create_refusals, created, entry_asked, entry_mut_asked, first_of, open_asked, reader_asked, writer_asked}
use Rattle.board_model.specs.declared.tables.ThingKind.{ThingKind}
use Rattle.board_model.specs.Things.{Held, thing_of}
use Rattle.board_model.specs.TypeTable.{key_detail, same_key, value_detail}
use Rattle.board_model.specs.Parties.{Party, Running, free, running}
use Rattle.board_model.specs.LawfulSession.{IsRight, State, after, is_typed_key}
use Rattle.board_model.specs.LawsOfForms.{IsFormedInTable, IsFormedParty, IsFormedRequest}
use Rattle.board_model.specs.Sound.{HasBoard, HasEntry, HasEntryAt, IsCalling, IsHeldThing, IsTypedKey, Sound}
use Rattle.board_model.proofs.ListLemmas.{any_missing, count_none}
use Rattle.board_model.proofs.ReplyFormLemmas.{reply_told}
use Rattle.board_model.proofs.RunningLemmas.{runs}
use Rattle.board_model.proofs.ThingLemmas.{all_found, found_as}
use Rattle.script_boards.specs.declared.machine.BoardMachine.{BoardMachine}
use Rattle.script_boards.specs.declared.machine.Task.{Task}
use Rattle.script_boards.specs.declared.machine.TableTask.{TableTask}
use Rattle.script_boards.specs.declared.machine.TableTask.TheVariants as table_task
use Rattle.script_parties.specs.Overview.{keys_shown, standing_with}
use Rattle.script_parties.specs.Parties.{IsAsked, IsCreate, IsFew, Parties, IsStandingThing, words_of_boards, words_with}
use Rattle.script_boards.specs.LoanCalls.{IsGivenBack, IsLoaned}
use Rattle.script_boards.specs.Loans.{IsDiscardTask, IsLoanTask, lent_words}
use Rattle.script_boards.specs.Machine.{IsReached, IsTableTask, Represents, kept, tables_of, task_of}
use Rattle.script_boards.specs.Steps.{CanRun, HasCounter, IsCounter, IsGen, IsPut, IsShown, IsTold}
use Rattle.script_boards.specs.TableCalls.{IsRest}
use Rattle.script_boards.proofs.Bounds.{IsBounded}
use Rattle.script_boards.proofs.LoanSteps.{given_back_loans, given_back_tables, lent_loans, lent_tables}
use Rattle.script_boards.proofs.Memories.{same_words}
use Rattle.script_boards.proofs.PartyTasks.{IsRunning, changed, put_before}
use Rattle.script_boards.proofs.Seats.{of_name}
use Rattle.script_boards.proofs.Shown.{board_shown}
use Rattle.script_boards.proofs.OwedWords.{stands_at}

abbrev BoardTables : Type 0
BoardTables = Tables (List ℕ) (List ℕ)

pub some_entry : (o : Option Entry) → is_some o ≡ true → (e : Entry) × (o ≡ Some e)
some_entry None e = absurd cc
some_entry (Some x) e = (x, refl)

-- ---- counters

module _ {C : Type 0} (m : BoardMachine C) (s : State) (rep : Represents m s) (sound : Sound s) where
  -- the counter word of an entry is the length of its list
  pub record CounterAt (n i : ℕ) : Type 0 where
    pub has : HasCounter m n i
    pub is_length : (g : ℕ) → IsCounter m n i g → g ≡ length (s.published n i)

  board_of : (n i : ℕ) (e : Entry) (o : Option Board) → entry_in o i ≡ Some e → is_some o ≡ true
  board_of n i e None h = absurd cc
  board_of n i e (Some b) h = refl

  pub counter_at : (n i : ℕ) (e : Entry) → entry_at s.standing.tables n i ≡ Some e → CounterAt n i
  counter_at n i e h =
      let at = stands_at m s rep sound n (board_of n i e (board_at s.standing.tables n) h) in
      let cell = sound.boards.cells n i e h in
      let found : entry_at (tables_of m) n i ≡ Some e = ap (λ t. entry_at t n i) (sym rep.tables) ∙ h in
      let lt : e.cell.first < length (s.memory n) = omega (arith, cell.inside, cell.head) in
      record {
        has = record {
          place = at.place;
          entry = e;
          stands = at.stands;
          found = found;
          inside = at.inside;
          word_inside = λ d. subst (λ (ws : List ℕ). e.cell.first < length ws) (sym (at.words d)) lt;
        };
        is_length = λ g c. c at.place e [] at.stands found ∙ ap (λ (ws : List ℕ). slice_index ws e.cell.first) (at.words []) ∙ cell.counter;
      }

-- ---- replies and what follows

module _ {C : Type 0} (m : BoardMachine C) (s : State) (rep : Represents m s) (reached : IsReached s) (party : List ℕ) (own : Task) (at : IsRunning s.parties party own) where
  -- a call on the tables is told so, and the machine has the tables after it
  pub record IsServed (new : BoardMachine C) (c : TableCall) (told : Reply) : Type 0 where
    pub told_is : told ≡ (ask_tables s.standing s.published party c).reply
    pub tables : (ask_tables s.standing s.published party c).standing.tables ≡ tables_of new
    pub loans : (p n : List ℕ) → (ask_tables s.standing s.published party c).standing.loans p n ≡ lent_words new p n
    pub values : (p n : List ℕ) → (ask_tables s.standing s.published party c).standing.values p n ≡ kept new p n
    pub words : new.domain.words ≡ words_of_boards (memory_after s.memory (table c) told) new.domain.tables.boards
    pub parties : IsPut (task_of m) (task_of new) party None

  calling : (c : TableCall) → at.r.request ≡ table c → IsCalling s party at.r (table c)
  calling c e = runs s party at.r (table c) reached.sound at.runs e

  -- what the board asked one call at a time tells is of the answer grammar
  is_told : (c : TableCall) → at.r.request ≡ table c → IsReply (ask_tables s.standing s.published party c).reply
  is_told c e =
      let f = subst (λ (x : Party). IsFormedParty reached.count party x) at.runs (reached.formed.parties party) in
      reply_told s reached.sound reached.count reached.within reached.few reached.numbers reached.formed party at.r (table c) (subst (IsFormedRequest reached.count) e f.1) (calling c e)

  pub table_right : (new : BoardMachine C) (c : TableCall) (told : Reply) → at.r.request ≡ table c → IsServed new c told → IsLine (line.Step party)
      → IsRight s (line.Step party) (answer.Step access.Table (Some told)) × Represents new (after s (line.Step party) (answer.Step access.Table (Some told)))
  table_right new c told request h l =
      let of_call : Running = record at.r { request = table c } in
      let runs_call : s.parties party ≡ running of_call = at.runs ∙ ap (λ (q : Request). running (record at.r { request = q })) request in
      let done : nat_le 1 (length (at.r.so_far ++ access.Table ∷ [])) ≡ true = le-leb _ _ (omega (arith, length-append at.r.so_far (access.Table ∷ []))) in (
        record {
          line = l;
          answer = (tt, subst IsReply (sym h.told_is) (is_told c request));
          reason = rw runs_call tt;
          owed = λ _. rw runs_call refl;
          word = λ _. tt;
          reply = λ _. rw runs_call (record { last = sym done; reply = h.told_is });
        },
        rw runs_call (record {
          tables = h.tables;
          words = h.words;
          parties = changed (task_of m) (task_of new) s.parties rep.parties party None h.parties access.Table free refl;
          loans = h.loans;
          values = h.values;
        }),
      )

  -- ---- one call after another

  module _ (mid new : BoardMachine C) (same : tables_of mid ≡ tables_of m) (same_list : mid.domain.words ≡ m.domain.words) (taken : IsPut (task_of m) (task_of mid) party None) (same_values : kept mid ≡ kept m) (same_loans : lent_words mid ≡ lent_words m) where
    tables_are : s.standing.tables ≡ tables_of mid
    tables_are = rep.tables ∙ sym same

    kept_boards : {E : Type 0} (o : Option E) (n : ℕ) (after before : BoardTables) → after.boards ≡ before.boards → (asked o n after before).1.boards ≡ before.boards
    kept_boards None n after before e = e
    kept_boards (Some x) n after before e = refl

    kept_words : new.domain.tables.boards ≡ mid.domain.tables.boards → new.domain.words ≡ mid.domain.words → new.domain.words ≡ words_of_boards s.memory new.domain.tables.boards
    kept_words b w =
        w ∙ same_list ∙ rep.words ∙ ap (λ (bs : List Board). words_of_boards s.memory bs) (ap (λ t. t.boards) (sym same) ∙ sym b)

    kept_values : kept new ≡ kept mid → (p n : List ℕ) → s.standing.values p n ≡ kept new p n
    kept_values v p n = rep.values p n ∙ sym (of_name same_values p n) ∙ sym (of_name v p n)

    mid_loans : (p n : List ℕ) → s.standing.loans p n ≡ lent_words mid p n
    mid_loans p n = rep.loans p n ∙ sym (of_name same_loans p n)

    kept_loans : lent_words new ≡ lent_words mid → (p n : List ℕ) → s.standing.loans p n ≡ lent_words new p n
    kept_loans e p n = mid_loans p n ∙ sym (of_name e p n)

    -- what comes after the task was taken out changes no task
    no_more : task_of new ≡ task_of mid → IsPut (task_of m) (task_of new) party None
    no_more same = put_before (task_of m) (task_of mid) (task_of new) party None taken same

    -- a call that changes only the tables
    asked_served : {E : Type 0} (c : TableCall) (error : E → Reply) (f : BoardTables → Result ℕ E × BoardTables) (told : Reply)
        → ask_tables s.standing s.published party c ≡ told_by s.standing error (f s.standing.tables)
        → (f (tables_of mid)).1.boards ≡ mid.domain.tables.boards
        → memory_after s.memory (table c) told ≡ s.memory
        → IsAsked mid.domain new.domain error (f (tables_of mid)) told × IsRest mid new → IsServed new c told
    asked_served c error f told asks boards memory h = record {
      told_is = h.0.told_is ∙ ap (λ t. number_or error (f t).0) (sym tables_are) ∙ ap (λ (x : Asked). x.reply) (sym asks);
      tables = ap (λ (x : Asked). x.standing.tables) asks ∙ ap (λ t. (f t).1) tables_are ∙ sym h.0.tables;
      loans = λ p n. ap (λ (x : Asked). x.standing.loans p n) asks ∙ kept_loans h.1.loans p n;
      values = λ p n. ap (λ (x : Asked). x.standing.values p n) asks ∙ kept_values h.1.values p n;
      words = kept_words (ap (λ t. t.boards) h.0.tables ∙ boards) h.0.words ∙ ap (λ (x : ℕ → List ℕ). words_of_boards x new.domain.tables.boards) (sym memory);
      parties = no_more h.1.parties;
    }

    -- a call that only tells
    shown_served : (c : TableCall) (shown told : Reply) → ask_tables s.standing s.published party c ≡ only_told s.standing shown → memory_after s.memory (table c) told ≡ s.memory
        → IsShown mid new shown told → IsServed new c told
    shown_served c shown told asks memory h = record {
      told_is = h.told_is ∙ ap (λ (x : Asked). x.reply) (sym asks);
      tables = ap (λ (x : Asked). x.standing.tables) asks ∙ tables_are ∙ ap tables_of (sym h.same);
      loans = λ p n. ap (λ (x : Asked). x.standing.loans p n) asks ∙ kept_loans (ap (λ (y : BoardMachine C). lent_words y) h.same) p n;
      values = λ p n. ap (λ (x : Asked). x.standing.values p n) asks ∙ kept_values (ap (λ (y : BoardMachine C). kept y) h.same) p n;
      words = kept_words (ap (λ (y : BoardMachine C). y.domain.tables.boards) h.same) (ap (λ (y : BoardMachine C). y.domain.words) h.same) ∙ ap (λ (x : ℕ → List ℕ). words_of_boards x new.domain.tables.boards) (sym memory);
      parties = no_more (ap (λ (y : BoardMachine C). task_of y) h.same);
    }

    -- the keys of the machine's boards are told as they were added
    keys_same : (x : Held) → keys_in (board_at s.standing.tables x.board) ≡ keys_shown (board_at mid.domain.tables x.board)
    keys_same x = sym (board_shown x.board s.standing.tables.boards reached.formed.tables.boards) ∙ ap (λ t. keys_shown (board_at t x.board)) tables_are

    same_id : (t : BoardTables) (x : Held) (k : Kind) → id_number (record s.standing { tables = t }) x k ≡ id_number (standing_with t) x k
    same_id t x kind.Factory = refl
    same_id t x (kind.Reader p) = refl
    same_id t x (kind.Writer p) = refl
    same_id t x (kind.ReadHandle i) = refl
    same_id t x (kind.WriteHandle i p) = refl

    -- the board of a factory stands
    info_stands : (x : Held) → at.r.request ≡ table (info x) → is_some (board_at mid.domain.tables x.board) ≡ true
    info_stands x e =
        let held = (calling (info x) e).1 in
        ap (λ t. is_some (board_at t x.board)) (sym tables_are) ∙ all_found (HasBoard s.standing.tables) _ s.standing.tables.things x reached.sound.things.standing held.found

    -- the entry of a write handle stands
    handle_entry : (x : Held) (k : Kind) → kind_of k ≡ thing_kind.WriteHandle → HasEntryAt s.standing.tables x.board k → is_some (entry_at s.standing.tables x.board (entry_of k)) ≡ true
    handle_entry x kind.Factory e h = absurd cc
    handle_entry x (kind.Reader p) e h = absurd cc
    handle_entry x (kind.Writer p) e h = absurd cc
    handle_entry x (kind.ReadHandle i) e h = absurd cc
    handle_entry x (kind.WriteHandle i p) e h = h

    handle_counter : (x : Held) → at.r.request ≡ table (gen x) → CounterAt m s rep reached.sound x.board (entry_of x.kind)
    handle_counter x e =
        let held = (calling (gen x) e).1 in
        let has = all_found (HasEntry s.standing.tables) _ s.standing.tables.things x reached.sound.things.entries held.found in
        let entry = some_entry (entry_at s.standing.tables x.board (entry_of x.kind)) (handle_entry x x.kind held.kind has) in
        counter_at m s rep reached.sound x.board (entry_of x.kind) entry.0 entry.1

    pub gen_has : (x : Held) → at.r.request ≡ table (gen x) → HasCounter mid x.board (entry_of x.kind)
    gen_has x e =
        let h = (handle_counter x e).has in
        record {
          place = h.place;
          entry = h.entry;
          stands = h.stands ∙ ap (λ t. position_from (is_numbered x.board) 0 t.boards) (sym same);
          found = ap (λ t. entry_at t x.board (entry_of x.kind)) same ∙ h.found;
          inside = subst (λ (ws : List (List ℕ)). h.place < length ws) (sym same_list) h.inside;
          word_inside = λ d. subst (λ (ws : List (List ℕ)). h.entry.cell.first < length (get_or ws h.place d)) (sym same_list) (h.word_inside d);
        }

    gen_count : (x : Held) (g : ℕ) → IsCounter mid x.board (entry_of x.kind) g → IsCounter m x.board (entry_of x.kind) g
    gen_count x g c = λ k e d p f.
        c k e d (p ∙ ap (λ t. position_from (is_numbered x.board) 0 t.boards) (sym same)) (ap (λ t. entry_at t x.board (entry_of x.kind)) same ∙ f)
        ∙ ap (λ (ws : List (List ℕ)). slice_index (get_or ws k d) e.cell.first) same_list

    pub gen_served : (x : Held) (told : Reply) → at.r.request ≡ table (gen x) → IsGen mid new x told → IsServed new (gen x) told
    gen_served x told e h = record {
      told_is = h.told_is ∙ ap (λ (n : ℕ). reply.Generation n) ((handle_counter x e).is_length h.counter (gen_count x h.counter h.is_counter));
      tables = tables_are ∙ ap tables_of (sym h.same);
      loans = kept_loans (ap (λ (y : BoardMachine C). lent_words y) h.same);
      values = kept_values (ap (λ (y : BoardMachine C). kept y) h.same);
      words = kept_words (ap (λ (y : BoardMachine C). y.domain.tables.boards) h.same) (ap (λ (y : BoardMachine C). y.domain.words) h.same);
      parties = no_more (ap (λ (y : BoardMachine C). task_of y) h.same);
    }

    -- no board has the next number
    none_next : board_at s.standing.tables (s.standing.tables.last_board + 1) ≡ None
    none_next = none (board_at s.standing.tables (s.standing.tables.last_board + 1)) refl
      where
        none : (o : Option Board) → board_at s.standing.tables (s.standing.tables.last_board + 1) ≡ o → o ≡ None
        none None e = refl
        none (Some b) e = absurd (omega (arith, reached.sound.boards.numbered (s.standing.tables.last_board + 1) b e))

    module _ (f n : List ℕ) (k : KeyType) (limits : NewLimits) (attributes : List Attribute) (entries : List AddedEntry) where
      abbrev next : BoardTables → BoardTables
      next t = created t party f n (key_detail k) limits attributes (map added_of entries)

      abbrev number : ℕ
      number = s.standing.tables.last_board + 1

      -- the words of the boards with those of a new one
      words_more : words_of_boards s.memory s.standing.tables.boards ++ opening_of entries ∷ [] ≡ words_of_boards (with_board s.memory number (opening_of entries)) (next s.standing.tables).boards
      words_more =
          let new = new_board number n (key_detail k) limits attributes (map added_of entries) in
          let f : Board → List ℕ = λ b. with_board s.memory number (opening_of entries) b.number in
          let none = count_none (is_numbered number) s.standing.tables.boards (any_missing (is_numbered number) s.standing.tables.boards none_next) in
          let old = same_words s.memory (with_board s.memory number (opening_of entries)) number (λ m e. rw e refl) s.standing.tables.boards none in
          let here : with_board s.memory number (opening_of entries) number ≡ opening_of entries = rw (eq-eqb number number refl) refl in
          ap (λ (ws : List (List ℕ)). ws ++ opening_of entries ∷ []) (sym old)
          ∙ ap (λ (w : List ℕ). words_of_boards (with_board s.memory number (opening_of entries)) s.standing.tables.boards ++ w ∷ []) (sym here)
          ∙ sym (map_push f s.standing.tables.boards new)

      abbrev refusal : BoardTables → Option BlackboardCreateError
      refusal t = first_of (create_refusals (same_key k) t.boards n (map added_of entries))

      abbrev told_of : Option BlackboardCreateError → Reply
      told_of o = number_or reply.CreateError (asked o number (next s.standing.tables) s.standing.tables).0

      words_told : (o : Option BlackboardCreateError) (boards : List Board) → boards ≡ (asked o number (next s.standing.tables) s.standing.tables).1.boards
          → words_with m.domain.words entries (told_of o) ≡ words_of_boards (memory_after s.memory (table (create f n k limits attributes entries)) (told_of o)) boards
      words_told None boards e =
          ap (λ (ws : List (List ℕ)). ws ++ opening_of entries ∷ []) (rep.words ∙ ap (λ t. words_of_boards s.memory t.boards) (sym rep.tables)) ∙ words_more
          ∙ ap (λ (bs : List Board). words_of_boards (with_board s.memory number (opening_of entries)) bs) (sym e)
      words_told (Some why) boards e = rep.words ∙ ap (λ t. words_of_boards s.memory t.boards) (sym rep.tables) ∙ ap (λ (bs : List Board). words_of_boards s.memory bs) (sym e)

      pub create_served : (told : Reply) → IsCreate mid.domain new.domain party f n k limits attributes entries told × IsRest mid new → IsServed new (create f n k limits attributes entries) told
      create_served told h =
          let asked_of : BoardTables → Result ℕ BlackboardCreateError × BoardTables = λ t. create_asked (same_key k) t party f n (key_detail k) limits attributes (map added_of entries) in
          let told_same : told ≡ told_of (refusal s.standing.tables) = h.0.told_is ∙ ap (λ t. number_or reply.CreateError (asked_of t).0) (sym tables_are) in
          let tables_same : tables_of new ≡ (asked_of s.standing.tables).1 = h.0.tables ∙ ap (λ t. (asked_of t).1) (sym tables_are) in
          record {
            told_is = told_same;
            tables = sym tables_same;
            loans = kept_loans h.1.loans;
            values = kept_values h.1.values;
            words =
                h.0.words ∙ ap (λ (ws : List (List ℕ)). words_with ws entries told) same_list
                ∙ subst (λ (t : Reply). words_with m.domain.words entries t ≡ words_of_boards (memory_after s.memory (table (create f n k limits attributes entries)) t) new.domain.tables.boards) (sym told_same)
                (words_told (refusal s.standing.tables) new.domain.tables.boards (ap (λ t. t.boards) tables_same));
            parties = no_more h.1.parties;
          }

    -- ---- loans

    loan_served : (handle lent : List ℕ) (words : ℕ) (told : Reply) (e : IsLoanTask handle lent words at.r.request) → told ≡ reply.Done → IsLoaned mid new party handle lent words → IsServed new (loan e.lending) told
    loan_served handle lent words told e t h =
        let l = e.lending in
        let of_handle = subst (λ (x : List ℕ). IsLoaned mid new party x lent words) e.handle_is h in
        let of_loan = subst (λ (x : List ℕ). IsLoaned mid new party l.handle x words) e.loan_is of_handle in
        let is = subst (λ (k : ℕ). IsLoaned mid new party l.handle l.loan k) e.words_is of_loan in
        record {
          told_is = t;
          tables = lent_tables s mid new tables_are mid_loans party l is;
          loans = lent_loans s mid new tables_are mid_loans party l is;
          values = kept_values h.values;
          words = kept_words (ap (λ (d : Parties). d.tables.boards) h.domain) (ap (λ (d : Parties). d.words) h.domain);
          parties = no_more h.parties;
        }

    discard_served : (lent handle : List ℕ) (told : Reply) (e : IsDiscardTask lent handle at.r.request) → told ≡ reply.Done → IsGivenBack mid new party lent handle → IsServed new (discard e.lending) told
    discard_served lent handle told e t h =
        let l = e.lending in
        let of_loan = subst (λ (x : List ℕ). IsGivenBack mid new party x handle) e.loan_is h in
        let is = subst (λ (x : List ℕ). IsGivenBack mid new party l.loan x) e.handle_is of_loan in
        record {
          told_is = t;
          tables = given_back_tables s mid new tables_are mid_loans party l is;
          loans = given_back_loans s mid new tables_are mid_loans party l is;
          values = kept_values h.values;
          words = kept_words (ap (λ (d : Parties). d.tables.boards) h.domain) (ap (λ (d : Parties). d.words) h.domain);
          parties = no_more h.parties;
        }

    -- the call of a task is told so
    abbrev IsServing : Reply → Type 0
    IsServing told = (c : TableCall) × (at.r.request ≡ table c) × IsServed new c told

    served : (t : TableTask) (told : Reply) → IsTableTask t at.r.request → IsTold mid new party t told → IsServing told
    served (table_task.Create f n k limits attributes entries) told e h = (create f n k limits attributes entries, e, create_served f n k limits attributes entries told h)
    served (table_task.Open f n k limits needs) told e h =
        (open_ f n k limits needs, e, asked_served (open_ f n k limits needs) reply.OpenError (λ t. open_asked bytes_eq t party f n (key_detail k) limits needs) told refl (kept_boards _ _ _ _ refl) refl h)
    served (table_task.Reader n x) told e h = (reader n x, e, asked_served (reader n x) reply.ReaderError (λ t. reader_asked t x n) told refl (kept_boards _ _ _ _ refl) refl h)
    served (table_task.Writer n x) told e h = (writer n x, e, asked_served (writer n x) reply.WriterError (λ t. writer_asked t x n) told refl (kept_boards _ _ _ _ refl) refl h)
    served (table_task.Entry n x k type) told e h =
        (entry n x k type, e, asked_served (entry n x k type) reply.EntryError (λ t. entry_asked t x n (entry_found (board_at t x.board) (keeps_key k) (value_detail type))) told refl (kept_boards _ _ _ _ refl) refl h)
    served (table_task.EntryMut n x k type) told e h =
        (entry_mut n x k type, e, asked_served (entry_mut n x k type) reply.EntryMutError (λ t. entry_mut_asked t x n (entry_found (board_at t x.board) (keeps_key k) (value_detail type))) told refl (kept_boards _ _ _ _ refl) refl h)
    served (table_task.Loan handle lent words) told e h = (loan e.lending, e.request, loan_served handle lent words told e h.0 h.1)
    served (table_task.Discard lent handle) told e h = (discard e.lending, e.request, discard_served lent handle told e h.0 h.1)
    served (table_task.Keys x) told e h = (keys x, e, shown_served (keys x) _ told (ap (λ (ks : List Key). only_told s.standing (reply.Keys ks)) (keys_same x)) refl h)
    served (table_task.Nodes x) told e h = (nodes x, e, shown_served (nodes x) _ told (ap (λ t. only_told s.standing (reply.Nodes (nodes_of x.board t.things))) tables_are) refl h)
    served (table_task.Info x) told e h = (info x, e, shown_served (info x) _ told (ap (λ t. only_told s.standing (reply.Info (info_of t.things (board_at t x.board)))) tables_are) refl h)
    served (table_task.Id x) told e h =
        (id x, e, shown_served (id x) _ told (ap (λ (n : ℕ). only_told s.standing (reply.Id n)) (same_id s.standing.tables x x.kind ∙ ap (λ t. id_number (standing_with t) x x.kind) tables_are)) refl h)
    served (table_task.Gen x) told e h = (gen x, e, gen_served x told e h)

    -- the step of the task is right
    pub task_right : (t : TableTask) (told : Reply) → IsTableTask t at.r.request → IsTold mid new party t told → IsLine (line.Step party)
        → IsRight s (line.Step party) (answer.Step access.Table (Some told)) × Represents new (after s (line.Step party) (answer.Step access.Table (Some told)))
    task_right t told e h l =
        let x = served t told e h in
        table_right new x.0 told x.1 x.2 l

    -- numbers can be drawn
    few : IsBounded s → mid.domain.drawn < 2 ^ 63 → IsFew mid.domain
    few b d = record {
      boards = subst (λ (t : BoardTables). t.last_board < 2 ^ 63) tables_are b.boards;
      ports = subst (λ (t : BoardTables). t.last_port < 2 ^ 63) tables_are b.ports;
      things = d;
    }

    -- what is held stands
    stands : (k : ThingKind) (x : Held) → IsHeldThing s.standing party k x → IsStandingThing mid.domain x
    stands k x h =
        let n = (found_as s.standing.tables.things party x.name x h.found).holder in
        subst (λ (t : BoardTables). thing_of t.things x.holder x.name ≡ Some x) tables_are (subst (λ (p : List ℕ). thing_of s.standing.tables.things p x.name ≡ Some x) (sym n) h.found)

    typed : (x : Held) (k : Key) → IsTypedKey s.standing x k → is_typed_key (board_at mid.domain.tables x.board) k ≡ true
    typed x k h = subst (λ (t : BoardTables). is_typed_key (board_at t x.board) k ≡ true) tables_are h

    -- what is formed in a call that runs
    formed : (c : TableCall) → at.r.request ≡ table c → IsFormedInTable reached.count c
    formed c e =
        let f = subst (λ (x : Party). IsFormedParty reached.count party x) at.runs (reached.formed.parties party) in
        subst (IsFormedRequest reached.count) e f.1

    -- and it can be made
    pub task_can_run : (t : TableTask) → IsBounded s → mid.domain.drawn < 2 ^ 63 → IsTableTask t at.r.request → CanRun mid party t
    task_can_run (table_task.Create f n k limits attributes entries) b d e =
        let h = formed (create f n k limits attributes entries) e in
        (few b d, h.text, h.pairs)
    task_can_run (table_task.Open f n k limits needs) b d e =
        let h = formed (open_ f n k limits needs) e in
        (few b d, h.text, h.needed)
    task_can_run (table_task.Reader n x) b d e = (few b d, stands thing_kind.Factory x (calling (reader n x) e).1.1)
    task_can_run (table_task.Writer n x) b d e = (few b d, stands thing_kind.Factory x (calling (writer n x) e).1.1)
    task_can_run (table_task.Entry n x k type) b d e =
        let c = (calling (entry n x k type) e).1 in
        (few b d, stands thing_kind.Reader x c.1, c.1.kind, typed x k c.2)
    task_can_run (table_task.EntryMut n x k type) b d e =
        let c = (calling (entry_mut n x k type) e).1 in
        (few b d, stands thing_kind.Writer x c.1, c.1.kind, typed x k c.2)
    task_can_run (table_task.Loan handle lent words) b d e = tt
    task_can_run (table_task.Discard lent handle) b d e = tt
    task_can_run (table_task.Keys x) b d e = tt
    task_can_run (table_task.Nodes x) b d e = tt
    task_can_run (table_task.Info x) b d e = info_stands x e
    task_can_run (table_task.Id x) b d e = tt
    task_can_run (table_task.Gen x) b d e = gen_has x e
