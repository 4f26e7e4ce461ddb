-- Entries that stand after each line but a drop.
use Rattle.std.proofs.Common.{◌≡◌, ℕ, Bool, true, false, cond, List, [], ◌∷◌, ◌++◌, map, refl, sym, ap, ◌∙◌, Option, Some, None}
use Rattle.std.specs.Prelude.{find}
use Rattle.std.proofs.lemmas.List.{append-nil}
use Rattle.board_cell_model.specs.declared.access.Access.{Access}
use Rattle.board_model.specs.declared.answer.Answer.{Answer}
use Rattle.board_model.specs.declared.answer.Answer.TheVariants as answer
use Rattle.board_model.specs.declared.answer.Reply.{Reply}
use Rattle.board_model.specs.declared.line.Line.{Line}
use Rattle.board_model.specs.declared.line.Line.TheVariants as line
use Rattle.board_model.specs.declared.tables.Board.{Board}
use Rattle.board_model.specs.declared.tables.Entry.{Entry}
use Rattle.board_model.specs.LawfulSession.{State, after, after_step}
use Rattle.board_model.specs.Parties.{Party, free, gone, running}
use Rattle.board_model.specs.Replies.{ask, ask_tables, added_of}
use Rattle.board_model.specs.Requests.{Published, Request, TableCall, create, info, entry, entry_mut, fill, fresh, get, discard, id, open_, loan, keys, nodes, publish, put, reader, table, gen, update, writer}
use Rattle.board_model.specs.Tables.{Tables, board_at, entry_at, entry_in, is_numbered}
use Rattle.board_model.specs.TableCalls.{asked, create_refusals, first_of}
use Rattle.board_model.specs.Things.{Standing}
use Rattle.board_model.specs.TypeTable.{same_key}
use Rattle.script_generator.specs.Counting.{is_plain_line}

abbrev BoardTables : Type 0
BoardTables = Tables (List ℕ) (List ℕ)

-- boards were added at most
record Grows (old new : BoardTables) : Type 0 where
  more : List Board
  boards : new.boards ≡ old.boards ++ more

grows_same : (old new : BoardTables) → new.boards ≡ old.boards → Grows old new
grows_same old new e = record { more = []; boards = e ∙ sym (append-nil old.boards) }

-- a call that is refused leaves the tables
asked_grows : {E A : Type 0} (o : Option E) (n : A) (old new : BoardTables) → Grows old new → Grows old (asked o n new old).1
asked_grows None n old new h = h
asked_grows (Some e) n old new h = grows_same old old refl

table_grows : (s : Standing) (lists : Published) (party : List ℕ) (c : TableCall) → Grows s.tables (ask_tables s lists party c).standing.tables
table_grows s lists party (create f name k limits attributes entries) =
    asked_grows (first_of (create_refusals (same_key k) s.tables.boards name (map added_of entries))) _ s.tables _ (record { more = _; boards = refl })
table_grows s lists party (open_ f name k limits needs) = asked_grows _ _ s.tables _ (grows_same s.tables _ refl)
table_grows s lists party (reader name of) = asked_grows _ _ s.tables _ (grows_same s.tables _ refl)
table_grows s lists party (writer name of) = asked_grows _ _ s.tables _ (grows_same s.tables _ refl)
table_grows s lists party (entry name of k type) = asked_grows _ _ s.tables _ (grows_same s.tables _ refl)
table_grows s lists party (entry_mut name of k type) = asked_grows _ _ s.tables _ (grows_same s.tables _ refl)
table_grows s lists party (loan l) = grows_same s.tables _ refl
table_grows s lists party (discard l) = grows_same s.tables _ refl
table_grows s lists party (keys of) = grows_same s.tables _ refl
table_grows s lists party (nodes of) = grows_same s.tables _ refl
table_grows s lists party (info of) = grows_same s.tables _ refl
table_grows s lists party (id of) = grows_same s.tables _ refl
table_grows s lists party (gen of) = grows_same s.tables _ refl

value_grows : (s : Standing) (lists : Published) (party : List ℕ) (q : Request) → Grows s.tables (ask s lists party q).standing.tables
value_grows s lists party (table c) = table_grows s lists party c
value_grows s lists party (get f) = named f.name
  where
    named : (o : Option (List ℕ)) → Grows s.tables (ask s lists party (get (record f { name = o }))).standing.tables
    named None = grows_same s.tables _ refl
    named (Some n) = grows_same s.tables _ refl
value_grows s lists party (fresh l) = grows_same s.tables _ refl
value_grows s lists party (update u) = grows_same s.tables _ refl
value_grows s lists party (put l i w) = grows_same s.tables _ refl
value_grows s lists party (publish l) = grows_same s.tables _ refl
value_grows s lists party (fill l v) = grows_same s.tables _ refl

step_grows : (s : State) (party : List ℕ) (x : Party) (a : Access) (told : Option Reply) → Grows s.standing.tables (after_step s party x a told).standing.tables
step_grows s party free a told = grows_same s.standing.tables _ refl
step_grows s party gone a told = grows_same s.standing.tables _ refl
step_grows s party (running r) a None = grows_same s.standing.tables _ refl
step_grows s party (running r) a (Some told) = value_grows s.standing s.published party r.request

line_grows : (s : State) (l : Line) (a : Answer) → is_plain_line l ≡ true → Grows s.standing.tables (after s l a).standing.tables
line_grows s (line.Begin party c) answer.Begun h = grows_same s.standing.tables _ refl
line_grows s (line.Begin party c) (answer.Refused why) h = grows_same s.standing.tables _ refl
line_grows s (line.Begin party c) (answer.Step a told) h = grows_same s.standing.tables _ refl
line_grows s (line.Begin party c) answer.Gone h = grows_same s.standing.tables _ refl
line_grows s (line.Begin party c) (answer.Words ws) h = grows_same s.standing.tables _ refl
line_grows s (line.Step party) answer.Begun h = grows_same s.standing.tables _ refl
line_grows s (line.Step party) (answer.Refused why) h = grows_same s.standing.tables _ refl
line_grows s (line.Step party) (answer.Step a told) h = step_grows s party (s.parties party) a told
line_grows s (line.Step party) answer.Gone h = grows_same s.standing.tables _ refl
line_grows s (line.Step party) (answer.Words ws) h = grows_same s.standing.tables _ refl
line_grows s (line.Release party name) a h = absurd cc
line_grows s (line.Abandon party) a h = absurd cc
line_grows s (line.Words board) a h = absurd cc

-- what was found is found behind more of them
find_more : (p : Board → Bool) (xs ys : List Board) (x : Board) → find p xs ≡ Some x → find p (xs ++ ys) ≡ Some x
find_more p [] ys x h = absurd cc
find_more p (y ∷ xs) ys x h = at (p y) refl h (find_more p xs ys x)
  where
    at : (b : Bool) → p y ≡ b → cond b (Some y) (find p xs) ≡ Some x → (find p xs ≡ Some x → find p (xs ++ ys) ≡ Some x) → find p ((y ∷ xs) ++ ys) ≡ Some x
    at true e q more = rw e q
    at false e q more = rw e (more q)

found_board : (o : Option Board) (i : ℕ) (e : Entry) → entry_in o i ≡ Some e → (b : Board) × (o ≡ Some b)
found_board None i e h = absurd cc
found_board (Some b) i e h = (b, refl)

pub entry_stays : (s : State) (l : Line) (a : Answer) → is_plain_line l ≡ true → (n i : ℕ) (e : Entry) → entry_at s.standing.tables n i ≡ Some e → entry_at (after s l a).standing.tables n i ≡ Some e
entry_stays s l a h n i e found =
    let g = line_grows s l a h in
    let b = found_board (board_at s.standing.tables n) i e found in
    let later : find (is_numbered n) (after s l a).standing.tables.boards ≡ Some b.0 =
    ap (λ (xs : List Board). find (is_numbered n) xs) g.boards ∙ find_more (is_numbered n) s.standing.tables.boards g.more b.0 b.1 in
    ap (λ (o : Option Board). entry_in o i) later ∙ (ap (λ (o : Option Board). entry_in o i) (sym b.1) ∙ found)
