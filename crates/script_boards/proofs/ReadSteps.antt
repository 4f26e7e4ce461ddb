-- A step of a call that reads a word is right, and the machine stands for what follows.
use Rattle.std.proofs.Common.{◌≡◌, ℕ, zero, suc, ◌<◌, Bool, true, false, cond, List, [], ◌∷◌, ◌++◌, length, map, get_or, arith, refl, sym, ap, subst, ◌∙◌, Option, Some, None}
use Rattle.std.specs.Prelude.{◌==◌, ◌&&◌, is_some, slice_get}
use Rattle.std.specs.Str.{bytes_eq}
use Rattle.std.proofs.lemmas.Bool.{eqb-false, eqb-true, le-leb}
use Rattle.std.proofs.lemmas.List.{length-append, nil_from_length}
use Rattle.board_layout.specs.declared.type_detail.TypeDetail.{TypeDetail}
use Rattle.board_cell_model.specs.declared.access.Access.{Access}
use Rattle.board_cell_model.specs.declared.access.Access.TheVariants as access
use Rattle.board_model.specs.declared.answer.Answer.TheVariants as answer
use Rattle.board_model.specs.declared.answer.Reply.{Reply}
use Rattle.board_model.specs.declared.answer.Reply.TheVariants as reply
use Rattle.board_model.specs.declared.line.Line.TheVariants as line
use Rattle.board_model.specs.declared.value.ValueType.{ValueType}
use Rattle.board_model.specs.AnswerGrammar.{IsReply}
use Rattle.board_model.specs.LineGrammar.{IsNumber, IsLine}
use Rattle.board_cell_model.specs.OwedAccesses.{Reading, finished, hear, heard, is_finished, opening, owed_read, to_read, trying}
use Rattle.board_model.specs.Memory.{memory_after}
use Rattle.board_model.specs.Requests.{Fetch, Request, fresh, get}
use Rattle.board_model.specs.Replies.{ask, latest, with_fetched}
use Rattle.board_model.specs.Tables.{board_at}
use Rattle.board_model.specs.Things.{Kept}
use Rattle.board_model.specs.TypeTable.{value_type_of}
use Rattle.board_model.specs.Parties.{Running, free, is_done, owed, reading, reply_of_look, reply_of_reading, reply_read, running}
use Rattle.board_model.specs.LawfulSession.{IsRight, State, after}
use Rattle.board_model.specs.LawsOfReads.{IsTaking}
use Rattle.board_model.specs.Sound.{IsCalling, Sound}
use Rattle.board_model.proofs.BoundLaws.{read_in_board}
use Rattle.board_model.proofs.GetLemmas.{reading_push}
use Rattle.board_model.proofs.KeptLemmas.{entry_board}
use Rattle.board_model.proofs.ReadLaws.{last_value, reads_are_replies}
use Rattle.board_model.proofs.RunningLemmas.{runs}
use Rattle.board_cell.specs.Calls.{Asking, Getting, counter_of, words_of}
use Rattle.script_boards.specs.declared.machine.BoardMachine.{BoardMachine}
use Rattle.script_boards.specs.declared.machine.Task.{Task}
use Rattle.script_boards.specs.declared.machine.Task.TheVariants as task
use Rattle.script_boards.specs.declared.step.OwedAccess.TheVariants as owed_access
use Rattle.script_boards.specs.declared.step.OwedRead.{OwedRead}
use Rattle.script_boards.specs.Loans.{lent_words}
use Rattle.script_boards.specs.Machine.{IsTaskOf, Represents, kept, tables_of, task_of}
use Rattle.script_parties.specs.Parties as parties
use Rattle.script_parties.specs.Parties.{HasWord, IsLoaded, Parties}
use Rattle.script_boards.specs.Steps.{EndsWith, GoesOn, IsOwedBy, IsReadTold, ends_call, kept_anew, read_told, ticked, values_read}
use Rattle.script_boards.proofs.PartyTasks.{IsRunning, changed, put_before}
use Rattle.script_boards.proofs.Seats.{of_name}
use Rattle.script_boards.proofs.OwedWords.{has_word, stands_at}

-- ---- what a read owes

-- the board of a read
abbrev pub board_read : Request → ℕ
board_read (get f) = f.board
board_read (fresh l) = l.board
board_read q = 0

-- the read of a running call
pub record IsReadStep (q : Request) (so_far : List Access) (x : OwedRead) : Type 0 where
  pub next : to_read x.board x.word ≡ owed q so_far
  pub board : x.board ≡ board_read q

pub read_step : (t : Task) (r : Running) (x : OwedRead) → IsTaskOf t r.request r.so_far → IsOwedBy t (owed_access.Read x) → IsReadStep r.request r.so_far x
read_step (task.Table t) r x h o = absurd o
read_step (task.Get board call type name) r x h o =
    let f = h.fetch in
    let e : to_read x.board x.word ≡ owed_read f.board f.shape (reading f.shape.words r.so_far) =
    o ∙ ap (λ (b : ℕ). owed_read b call.shape call.reading) h.board_is ∙ ap (λ (c : Getting). owed_read f.board c.shape c.reading) h.call_is in
    subst (λ (q : Request). IsReadStep q r.so_far x) (sym h.request) (record { next = e; board = same_board f.board (reading f.shape.words r.so_far) e })
  where
    same_board : (b : ℕ) (y : Reading) → to_read x.board x.word ≡ owed_read b h.fetch.shape y → x.board ≡ b
    same_board b opening e = cc
    same_board b (trying c ws) e = cc
    same_board b (finished c ws) e = cc
read_step (task.Fresh board call) r x h o =
    let l = h.look in
    let e : to_read x.board x.word ≡ to_read l.board l.shape.first =
    o ∙ ap (λ (b : ℕ). to_read b call.shape.first) h.board_is ∙ ap (λ (c : Asking). to_read l.board c.shape.first) h.call_is in
    subst (λ (q : Request). IsReadStep q r.so_far x) (sym h.request) (record { next = e; board = cc })
read_step (task.Update board call) r x h o = absurd o
read_step (task.Put board call loan index w) r x h o = absurd o
read_step (task.Publish board call loan handle) r x h o = absurd o
read_step (task.Fill board call loan handle) r x h o = absurd o
read_step task.Gone r x h o = absurd o

-- ---- a word more

slice_get-inside : (xs : List ℕ) (k v : ℕ) → k < length xs → v ≡ get_or xs k 0 → slice_get xs k ≡ Some v
slice_get-inside [] k v h e = absurd (omega (arith, h))
slice_get-inside (x ∷ xs) zero v h e = ap (λ (y : ℕ). Some y) (sym e)
slice_get-inside (x ∷ xs) (suc k) v h e = slice_get-inside xs k v (omega (arith, h)) e

same_either : (a b : ℕ) → (a == b) ≡ (b == a)
same_either a b = at (a == b) refl (b == a) refl
  where
    at : (x : Bool) → (a == b) ≡ x → (y : Bool) → (b == a) ≡ y → x ≡ y
    at true e true f = refl
    at true e false f = absurd (eqb-false b a f (sym (eqb-true a b e)))
    at false e true f = absurd (eqb-false a b e (sym (eqb-true b a f)))
    at false e false f = refl

-- ---- what a read is told

finished_reply : (type : TypeDetail) (y : Reading) → is_finished y ≡ true → reply_of_reading type y ≡ Some (reply.Got (value_type_of type) (words_of y) (counter_of y))
finished_reply type opening e = absurd cc
finished_reply type (trying c ws) e = absurd cc
finished_reply type (finished c ws) e = refl

finished_is : (y : Reading) → is_finished y ≡ true → y ≡ finished (counter_of y) (words_of y)
finished_is opening e = absurd cc
finished_is (trying c ws) e = absurd cc
finished_is (finished c ws) e = refl

module _ {C : Type 0} (m : BoardMachine C) (s : State) (rep : Represents m s) (sound : Sound s) (party : List ℕ) (own : Task) (at : IsRunning s.parties party own) (x : OwedRead) (o : IsOwedBy own (owed_access.Read x)) where
  step : IsReadStep at.r.request at.r.so_far x
  step = read_step own at.r x at.task o

  calling : (q : Request) → at.r.request ≡ q → IsCalling s party at.r q
  calling q e = runs s party at.r q sound at.runs e

  -- the board of the read stands
  board_stands : (t : Task) → IsTaskOf t at.r.request at.r.so_far → IsOwedBy t (owed_access.Read x) → is_some (board_at s.standing.tables (board_read at.r.request)) ≡ true
  board_stands (task.Table t) h o = absurd o
  board_stands (task.Get board call type name) h o =
      let f = h.fetch in
      ap (λ (q : Request). is_some (board_at s.standing.tables (board_read q))) h.request ∙ entry_board s.standing.tables f.board f.entry f.shape (calling (get f) h.request).place
  board_stands (task.Fresh board call) h o =
      let l = h.look in
      ap (λ (q : Request). is_some (board_at s.standing.tables (board_read q))) h.request ∙ entry_board s.standing.tables l.board l.entry l.shape (calling (fresh l) h.request).1.place
  board_stands (task.Update board call) h o = absurd o
  board_stands (task.Put board call loan index w) h o = absurd o
  board_stands (task.Publish board call loan handle) h o = absurd o
  board_stands (task.Fill board call loan handle) h o = absurd o
  board_stands task.Gone h o = absurd o

  stands : is_some (board_at s.standing.tables x.board) ≡ true
  stands = ap (λ (n : ℕ). is_some (board_at s.standing.tables n)) step.board ∙ board_stands own at.task o

  inside : x.word < length (s.memory x.board)
  inside = (read_in_board s party at.r x.board x.word sound at.runs (sym step.next)).inside

  pub task_has_read : HasWord m.domain x.board x.word
  task_has_read = has_word m s rep sound x.board x.word stands inside

  -- the word that is read is the one that stands
  pub word_stands : (v : ℕ) → IsLoaded m.domain x.board x.word v → v ≡ get_or (s.memory x.board) x.word 0
  word_stands v loaded = (let st = stands_at m s rep sound x.board stands in loaded st.place [] st.stands ∙ ap (λ (ws : List ℕ). get_or ws x.word 0) (st.words []))

  module _ (v : ℕ) (loaded : IsLoaded m.domain x.board x.word v) (boards : IsNumber x.board) (words : IsNumber x.word) (small : IsNumber v) (l : IsLine (line.Step party)) where
    abbrev made : Access
    made = access.Read x.board x.word v

    abbrev more : List Access
    more = at.r.so_far ++ made ∷ []

    -- the word is the one that stands
    word : slice_get (s.memory x.board) x.word ≡ Some v
    word = slice_get-inside (s.memory x.board) x.word v inside (word_stands v loaded)

    taking : IsTaking s party at.r made
    taking = record { sound = sound; runs = at.runs; next = step.next; word = word }

    heard_more : (f : Fetch) → reading f.shape.words more ≡ hear f.shape.words (reading f.shape.words at.r.so_far) v
    heard_more f = reading_push f.shape.words at.r.so_far made

    -- the last word of the task is that of the call
    last_is : (t : Task) → IsTaskOf t at.r.request at.r.so_far → IsOwedBy t (owed_access.Read x) → is_done at.r.request more ≡ ends_call t v
    last_is (task.Table t) h o = absurd o
    last_is (task.Get board call type name) h o =
        let f = h.fetch in
        ap (λ (q : Request). is_done q more) h.request ∙ ap is_finished (heard_more f) ∙ ap (λ (c : Getting). is_finished (hear c.shape.words c.reading v)) (sym h.call_is)
    last_is (task.Fresh board call) h o = ap (λ (q : Request). is_done q more) h.request ∙ le-leb _ _ (omega (arith, length-append at.r.so_far (made ∷ [])))
    last_is (task.Update board call) h o = absurd o
    last_is (task.Put board call loan index w) h o = absurd o
    last_is (task.Publish board call loan handle) h o = absurd o
    last_is (task.Fill board call loan handle) h o = absurd o
    last_is task.Gone h o = absurd o

    -- the rest of a read that goes on
    rest_is : (t : Task) → IsTaskOf t at.r.request at.r.so_far → IsOwedBy t (owed_access.Read x) → ends_call t v ≡ false → IsTaskOf (ticked t v) at.r.request more
    rest_is (task.Table t) h o e = absurd o
    rest_is (task.Get board call type name) h o e =
        let f = h.fetch in
        record {
          fetch = f;
          request = h.request;
          board_is = h.board_is;
          call_is = ap (λ (c : Getting). record c { reading = hear c.shape.words c.reading v }) h.call_is ∙ ap (λ (y : Reading). record { shape = f.shape; reading = y }) (sym (heard_more f));
          type_is = h.type_is;
          name_is = h.name_is;
        }
    rest_is (task.Fresh board call) h o e = absurd cc
    rest_is (task.Update board call) h o e = absurd o
    rest_is (task.Put board call loan index w) h o e = absurd o
    rest_is (task.Publish board call loan handle) h o e = absurd o
    rest_is (task.Fill board call loan handle) h o e = absurd o
    rest_is task.Gone h o e = absurd o

    -- another read leaves the rest of the call
    pub read_goes_on : (new : BoardMachine C) → tables_of new ≡ tables_of m → new.domain.words ≡ m.domain.words → kept new ≡ kept m → lent_words new ≡ lent_words m
        → GoesOn (task_of m) (task_of new) party own v
        → IsRight s (line.Step party) (answer.Step made None) × Represents new (after s (line.Step party) (answer.Step made None))
    read_goes_on new tables ws values loans goes =
        let next : Running = record at.r { so_far = more } in
        let of : IsTaskOf (ticked own v) next.request next.so_far = rest_is own at.task o goes.more in (
          record {
            line = l;
            answer = ((boards, words, small), tt);
            reason = rw (at.runs) tt;
            owed = λ _. rw (at.runs) step.next;
            word = λ _. word;
            reply = λ _. rw (at.runs) (record { last = sym (last_is own at.task o ∙ goes.more); reply = tt });
          },
          rw (at.runs) (record {
            tables = rep.tables ∙ sym tables;
            words = ws ∙ rep.words ∙ ap (λ z. parties.words_of_boards s.memory z.boards) (sym tables);
            parties = changed (task_of m) (task_of new) s.parties rep.parties party (Some (ticked own v)) goes.tasks made (running next) (record { task = ticked own v; found = refl; is = of });
            loans = λ p n. rep.loans p n ∙ sym (of_name loans p n);
            values = λ p n. rep.values p n ∙ sym (of_name values p n);
          }),
        )

    -- ---- the last word

    told_is : (t : Task) (told : Reply) → IsTaskOf t at.r.request at.r.so_far → IsOwedBy t (owed_access.Read x) → ends_call t v ≡ true → read_told (ticked t v) ≡ Some told → reply_read at.r.request more ≡ Some told
    told_is (task.Table t) told h o e r = absurd o
    told_is (task.Get board call type name) told h o e r =
        let f = h.fetch in
        let y : Reading = hear f.shape.words (reading f.shape.words at.r.so_far) v in
        let c : hear call.shape.words call.reading v ≡ y = ap (λ (z : Getting). hear z.shape.words z.reading v) h.call_is in
        let got : Reply → Option Reply = λ z. Some z in
        ap (λ (q : Request). reply_read q more) h.request ∙ ap (reply_of_reading f.type) (heard_more f) ∙ finished_reply f.type y (ap is_finished (sym c) ∙ e)
        ∙ ap (λ (z : Reading). got (reply.Got (value_type_of f.type) (words_of z) (counter_of z))) (sym c)
        ∙ ap (λ (z : ValueType). got (reply.Got z (words_of (hear call.shape.words call.reading v)) (counter_of (hear call.shape.words call.reading v)))) (sym h.type_is) ∙ r
    told_is (task.Fresh board call) told h o e r =
        let look = h.look in
        let none = nil_from_length at.r.so_far (calling (fresh look) h.request).0 in
        let got : Reply → Option Reply = λ z. Some z in
        ap (λ (q : Request). reply_read q more) h.request ∙ ap (λ (xs : List Access). reply_of_look look.generation (map heard (xs ++ made ∷ []))) none
        ∙ ap (λ (b : Bool). got (reply.Fresh b)) (same_either look.generation v) ∙ ap (λ (c : Asking). got (reply.Fresh (v == c.generation))) (sym h.call_is) ∙ r
    told_is (task.Update board call) told h o e r = absurd o
    told_is (task.Put board call loan index w) told h o e r = absurd o
    told_is (task.Publish board call loan handle) told h o e r = absurd o
    told_is (task.Fill board call loan handle) told h o e r = absurd o
    told_is task.Gone told h o e r = absurd o

    -- what a finished read leaves
    record IsLeft (new : BoardMachine C) (told : Reply) (q : Request) : Type 0 where
      pub memory : memory_after s.memory q told ≡ s.memory
      pub tables : (ask s.standing s.published party q).standing.tables ≡ s.standing.tables
      pub loans : (p n : List ℕ) → (ask s.standing s.published party q).standing.loans p n ≡ s.standing.loans p n
      pub values : (p n : List ℕ) → (ask s.standing s.published party q).standing.values p n ≡ kept new p n

    kept_values : (f : Fetch) (list : List (List ℕ)) (name : Option (List ℕ)) (type : ValueType) (call : Getting) (new : BoardMachine C) → type ≡ value_type_of f.type → words_of call.reading ≡ latest list → counter_of call.reading ≡ length list
        → kept new ≡ kept_anew (kept m) party name type call → (p n : List ℕ) → (with_fetched s.standing party f (latest list) (length list) name).values p n ≡ kept new p n
    kept_values f list None type call new t w c e p n = rep.values p n ∙ sym (of_name e p n)
    kept_values f list (Some name) type call new t w c e p n =
        let here : Bool = bytes_eq p party && bytes_eq n name in
        let some : Kept → Option Kept = λ k. Some k in
        let there : Option Kept → Option Kept = λ k. cond here k (s.standing.values p n) in
        ap (λ (z : ValueType). there (some (record { type = z; words = latest list; generation = length list }))) (sym t)
        ∙ ap (λ (z : List ℕ). there (some (record { type = type; words = z; generation = length list }))) (sym w)
        ∙ ap (λ (z : ℕ). there (some (record { type = type; words = words_of call.reading; generation = z }))) (sym c)
        ∙ ap (λ (z : Option Kept). cond here (some (record { type = type; words = words_of call.reading; generation = counter_of call.reading })) z) (rep.values p n)
        ∙ sym (of_name e p n)

    no_name : (f : Fetch) (ws : List ℕ) (g : ℕ) (name : Option (List ℕ)) → ((with_fetched s.standing party f ws g name).tables ≡ s.standing.tables) × ((p n : List ℕ) → (with_fetched s.standing party f ws g name).loans p n ≡ s.standing.loans p n)
    no_name f ws g None = (refl, λ p n. refl)
    no_name f ws g (Some name) = (refl, λ p n. refl)

    left_is : (t : Task) (told : Reply) (new : BoardMachine C) → IsTaskOf t at.r.request at.r.so_far → IsOwedBy t (owed_access.Read x) → ends_call t v ≡ true
        → kept new ≡ values_read (kept m) party (ticked t v) → IsLeft new told at.r.request
    left_is (task.Table t) told new h o e k = absurd o
    left_is (task.Get board call type name) told new h o e k =
        let f = h.fetch in
        let list = s.published f.board f.entry in
        let y : Reading = hear call.shape.words call.reading v in
        let c : reading f.shape.words more ≡ y = heard_more f ∙ ap (λ (z : Getting). hear z.shape.words z.reading v) (sym h.call_is) in
        let all = last_value s party at.r made f (counter_of y) (words_of y) taking h.request (c ∙ finished_is y e) in
        let none = no_name f (latest list) (length list) f.name in
        let named : kept new ≡ kept_anew (kept m) party f.name type (record call { reading = y }) = k ∙ ap (λ (z : Option (List ℕ)). kept_anew (kept m) party z type (record call { reading = y })) h.name_is in
        subst (λ (q : Request). IsLeft new told q) (sym h.request) (record {
          memory = refl;
          tables = none.0;
          loans = none.1;
          values = kept_values f list f.name type (record call { reading = y }) new h.type_is all.0 all.1 named;
        })
    left_is (task.Fresh board call) told new h o e k =
        subst (λ (q : Request). IsLeft new told q) (sym h.request) (record {
          memory = refl;
          tables = refl;
          loans = λ p n. refl;
          values = λ p n. rep.values p n ∙ sym (of_name k p n);
        })
    left_is (task.Update board call) told new h o e k = absurd o
    left_is (task.Put board call loan index w) told new h o e k = absurd o
    left_is (task.Publish board call loan handle) told new h o e k = absurd o
    left_is (task.Fill board call loan handle) told new h o e k = absurd o
    left_is task.Gone told new h o e k = absurd o

    -- the last read ends the call
    pub read_ends : (mid new : BoardMachine C) → tables_of mid ≡ tables_of m → mid.domain.words ≡ m.domain.words → kept mid ≡ kept m → lent_words mid ≡ lent_words m
        → (last : Task) → EndsWith (task_of m) (task_of mid) party own v last → (told : Reply) → IsReadTold mid new party last told → IsReply told
        → IsRight s (line.Step party) (answer.Step made (Some told)) × Represents new (after s (line.Step party) (answer.Step made (Some told)))
    read_ends mid new tables ws values loans last ends told h r =
        let of_last : read_told (ticked own v) ≡ Some told = ap read_told (sym ends.task) ∙ h.told_is in
        let read = told_is own told at.task o ends.last of_last in
        let kept_now : kept new ≡ values_read (kept m) party (ticked own v) =
        h.values ∙ ap (λ (t : Task). values_read (kept mid) party t) ends.task ∙ ap (λ (f : List ℕ → List ℕ → Option Kept). values_read f party (ticked own v)) values in
        let left = left_is own told new at.task o ends.last kept_now in (
          record {
            line = l;
            answer = ((boards, words, small), r);
            reason = rw (at.runs) tt;
            owed = λ _. rw (at.runs) step.next;
            word = λ _. word;
            reply = λ _. rw (at.runs) (record { last = sym (last_is own at.task o ∙ ends.last); reply = reads_are_replies s party at.r made told taking read });
          },
          rw (at.runs) (record {
            tables = left.tables ∙ rep.tables ∙ sym tables ∙ ap (λ (d : Parties). d.tables) (sym h.domain);
            words = ap (λ (d : Parties). d.words) h.domain ∙ ws ∙ rep.words ∙ ap (λ z. parties.words_of_boards s.memory z.boards) (sym tables ∙ ap (λ (d : Parties). d.tables) (sym h.domain)) ∙ ap (λ (z : ℕ → List ℕ). parties.words_of_boards z new.domain.tables.boards) (sym left.memory);
            parties = changed (task_of m) (task_of new) s.parties rep.parties party None (put_before (task_of m) (task_of mid) (task_of new) party None ends.tasks h.parties) made free refl;
            loans = λ p n. left.loans p n ∙ rep.loans p n ∙ sym (of_name loans p n) ∙ sym (of_name h.loans p n);
            values = left.values;
          }),
        )
