-- Lines of at most 4096 bytes make small boards.
use Rattle.std.proofs.Common.{◌≡◌, ℕ, ◌+◌, zero, suc, ◌-◌, ◌*◌, ◌<◌, ◌≤◌, Bool, true, false, cond, List, [], ◌∷◌, ◌++◌, length, length-append, map, arith, subst, Option, Some, None}
use Rattle.std.specs.Prelude.{codes, decimal, ◌==◌, ◌&&◌, not, nat_le}
use Rattle.std.specs.List.{AllByRecursion, flat_map, join_with_byte, list_all, list_any}
use Rattle.std.proofs.lemmas.Bool.{and_parts}
use Rattle.std.proofs.lemmas.Fmt.{decimal_nonempty}
use Rattle.std.specs.Str.{bytes_eq}
use Rattle.board_layout.specs.declared.shape.CellPlace.{CellPlace}
use Rattle.board_layout.specs.Layout.{cell_alignment, cell_bytes, payload, places_from}
use Rattle.board_cell_model.specs.declared.access.Access.{Access}
use Rattle.board_cell_model.specs.declared.access.Access.TheVariants as access
use Rattle.board_model.specs.declared.answer.Answer.{Answer}
use Rattle.board_model.specs.declared.answer.Answer.TheVariants as answer
use Rattle.board_model.specs.declared.answer.Reply.{Reply}
use Rattle.board_model.specs.declared.answer.Reply.TheVariants as reply
use Rattle.board_model.specs.declared.attributes.Attribute.{Attribute}
use Rattle.board_model.specs.declared.line.Call.{Call}
use Rattle.board_model.specs.declared.line.Call.TheVariants as call
use Rattle.board_model.specs.declared.line.Line.{Line}
use Rattle.board_model.specs.declared.line.Line.TheVariants as line
use Rattle.board_model.specs.declared.tables.Board.{Board}
use Rattle.board_model.specs.declared.tables.NewLimits.{NewLimits}
use Rattle.board_model.specs.declared.tables.ThingKind.TheVariants as thing_kind
use Rattle.board_model.specs.declared.value.AddedEntry.{AddedEntry}
use Rattle.board_model.specs.declared.value.Key.{Key}
use Rattle.board_model.specs.declared.value.Key.TheVariants as key
use Rattle.board_model.specs.declared.value.KeyType.{KeyType}
use Rattle.board_model.specs.declared.value.Value.{Value}
use Rattle.board_model.specs.declared.value.Value.TheVariants as value
use Rattle.board_model.specs.LineGrammar.{IsAddedEntry, IsCall, IsKey, IsLine, IsValue, entry_tokens, is_visible, is_visible_byte, key_text, new_limits_tokens, pair_tokens, tokens, value_text}
use Rattle.board_model.specs.TypeTable.{key_detail, same_key, type_of, value_detail, value_words}
use Rattle.board_model.specs.Tables.{board_at, board_named, entries_of, entry_found, is_numbered, is_of_board, new_board, shapes_of, without_first}
use Rattle.board_model.specs.TableCalls.{asked, boards_left, create_refusals, created, entry_mut_refusals, entry_refusals, first_of, joined, open_refusals, reader_refusals, with_read_handle, with_reader, with_write_handle, with_writer, writer_refusals}
use Rattle.board_model.specs.Things.{Held, Standing, held_of_kind, is_held_as, thing_of}
use Rattle.board_model.specs.Requests.{Fetch, Published, Request, TableCall, and_then, create, info, entry, entry_mut, fill, fresh, get, discard, handle_of, handled, identified, id, open_, loan, keys, nodes, loan_of, publish, put, reader, request_of, table, gen, update, writer}
use Rattle.board_model.specs.Replies.{added_of, ask, ask_tables, keeps_key, released_thing, with_fetched}
use Rattle.board_model.specs.Memory.{after_access, memory_after, opening_of, with_board}
use Rattle.board_model.specs.Parties.{Party, Running, begun, free, gone, notice, running, with_party}
use Rattle.board_model.specs.LawfulSession.{IsLawfulFrom, IsRight, Session, State, after, after_step, start, state_after}
use Rattle.board_model.specs.Sound.{BoardTables}
use Rattle.board_model.proofs.LineCases.{after_cases}
use Rattle.board_model.proofs.OpeningLemmas.{opened_length}
use Rattle.board_model.proofs.StoreLemmas.{store_length}
use Rattle.board_model.proofs.ThingLemmas.{all_push, all_without}
use Rattle.script_lengths.specs.BoardSizes.{AddsFew, AddsFewInTable, AreSmall, BoardsStaySmall, CreatesAreSmall, HasShortLines, IsShortLine, IsSmallBoard, RunsFew}

-- ---- the tokens of a line

-- the bytes of these tokens, with a byte behind each
weight : List (List ℕ) → ℕ
weight [] = 0
weight (x ∷ xs) = length x + 1 + weight xs

joined_weight : (c : ℕ) (xs : List (List ℕ)) → weight xs ≤ length (join_with_byte c xs) + 1
unfolding weight
joined_weight c [] = omega arith
joined_weight c (x ∷ []) = omega arith
joined_weight c (x ∷ y ∷ xs) =
    let e = length-append x (c ∷ join_with_byte c (y ∷ xs)) in
    omega (arith, e, joined_weight c (y ∷ xs))

weight_behind : (xs ys : List (List ℕ)) → weight ys ≤ weight (xs ++ ys)
unfolding weight
weight_behind [] ys = omega arith
weight_behind (x ∷ xs) ys = omega (arith, weight_behind xs ys)

not_zero : (n : ℕ) → not (n == 0) ≡ true → 0 < n
not_zero zero e = absurd cc
not_zero (suc n) e = omega arith

some_visible : (most : ℕ) (text : List ℕ) → is_visible most text ≡ true → 0 < length text
some_visible most text e =
    let p = and_parts (not (length text == 0) && nat_le (length text) most) (list_all is_visible_byte text) e in
    let q = and_parts (not (length text == 0)) (nat_le (length text) most) p.0 in
    not_zero (length text) q.0

key_long : (k : Key) → IsKey k → 4 ≤ length (key_text k)
key_long (key.U64 n) h =
    let e = length-append (codes "u64:") (decimal n) in
    omega (arith, e)
key_long (key.F8 text) h =
    let e = length-append (codes "f8:") text in
    omega (arith, e, some_visible 8 text h)

value_long : (v : Value) → IsValue v → 5 ≤ length (value_text v)
unfolding weight
value_long (value.Bool true) h = omega arith
value_long (value.Bool false) h = omega arith
value_long (value.U64 n) h =
    let e = length-append (codes "u64:") (decimal n) in
    omega (arith, e, decimal_nonempty n h)
value_long (value.Q4 a b c d) h =
    let e = length-append (codes "q4:") (join_with_byte 44 (decimal a ∷ decimal b ∷ decimal c ∷ decimal d ∷ [])) in
    omega (arith, e, joined_weight 44 (decimal a ∷ decimal b ∷ decimal c ∷ decimal d ∷ []))

-- an entry takes at least 15 bytes of its line
entries_weight : (es : List AddedEntry) → AllByRecursion IsAddedEntry es → 15 * length es ≤ weight (flat_map entry_tokens es)
unfolding weight
entries_weight [] h = omega arith
entries_weight (e ∷ es) h = omega (arith, key_long e.key h.0.key, value_long e.value h.0.value, entries_weight es h.1)

create_few : (p f name : List ℕ) (k : KeyType) (limits : NewLimits) (attributes : List Attribute) (entries : List AddedEntry) → AllByRecursion IsAddedEntry entries → IsShortLine (line.Begin p (call.Create f name k limits attributes entries)) → length entries ≤ 273
unfolding weight
create_few p f name k limits attributes entries each h =
    let all = joined_weight 32 (tokens (line.Begin p (call.Create f name k limits attributes entries))) in
    let a = weight_behind (new_limits_tokens limits) (flat_map (pair_tokens (codes "attr")) attributes ++ flat_map entry_tokens entries) in
    let b = weight_behind (flat_map (pair_tokens (codes "attr")) attributes) (flat_map entry_tokens entries) in
    let c = entries_weight entries each in
    omega (arith, all, a, b, c, h)

-- ---- calls that begin

and_few : {A : Type 0} (o : Option A) (f : A → Option Request) → ((x : A) → RunsFew (begun (f x))) → RunsFew (begun (and_then o f))
and_few None f h = tt
and_few (Some x) f h = h x

begun_few : (s : Standing) (lists : Published) (party : List ℕ) (c : Call) → IsCall c → IsShortLine (line.Begin party c) → RunsFew (begun (request_of s lists party c))
begun_few s lists party (call.Create f name k limits attributes entries) g h = create_few party f name k limits attributes entries g.4 h
begun_few s lists party (call.Open f name k limits needs) g h = tt
begun_few s lists party (call.Reader r f) g h = and_few (held_of_kind s thing_kind.Factory party f) (λ t. Some (table (reader r t))) (λ t. tt)
begun_few s lists party (call.Writer w f) g h = and_few (held_of_kind s thing_kind.Factory party f) (λ t. Some (table (writer w t))) (λ t. tt)
begun_few s lists party (call.Entry n r k type) g h = and_few (held_of_kind s thing_kind.Reader party r) (λ t. Some (table (entry n t k type))) (λ t. tt)
begun_few s lists party (call.EntryMut m w k type) g h = and_few (held_of_kind s thing_kind.Writer party w) (λ t. Some (table (entry_mut m t k type))) (λ t. tt)
begun_few s lists party (call.Get n v) g h = and_few (held_of_kind s thing_kind.ReadHandle party n) _ (λ t. and_few (handled s t) _ (λ e. tt))
begun_few s lists party (call.Fresh n v) g h = and_few (held_of_kind s thing_kind.ReadHandle party n) _ (λ t. and_few (handled s t) _ (λ e. and_few (s.values party v) _ (λ k. tt)))
begun_few s lists party (call.Update m v) g h = and_few (handle_of s party m) _ (λ t. and_few (handled s t) _ (λ e. tt))
begun_few s lists party (call.Loan l m) g h = and_few (handle_of s party m) _ (λ t. and_few (handled s t) _ (λ e. tt))
begun_few s lists party (call.Discard l m) g h = and_few (loan_of s party l) _ (λ x. and_few (handled s x.0) _ (λ e. tt))
begun_few s lists party (call.Put l i w) g h = and_few (loan_of s party l) _ (λ x. and_few (handled s x.0) _ (λ e. tt))
begun_few s lists party (call.Publish l m) g h = and_few (loan_of s party l) _ (λ x. and_few (handled s x.0) _ (λ e. tt))
begun_few s lists party (call.Fill l m v) g h = and_few (loan_of s party l) _ (λ x. and_few (handled s x.0) _ (λ e. tt))
begun_few s lists party (call.Keys f) g h = and_few (held_of_kind s thing_kind.Factory party f) _ (λ t. tt)
begun_few s lists party (call.Nodes f) g h = and_few (held_of_kind s thing_kind.Factory party f) _ (λ t. tt)
begun_few s lists party (call.Info f) g h = and_few (held_of_kind s thing_kind.Factory party f) _ (λ t. tt)
begun_few s lists party (call.Id n) g h = and_few (identified s party n) _ (λ t. tt)
begun_few s lists party (call.Gen m) g h = and_few (handle_of s party m) _ (λ t. tt)

-- ---- parties

noticed_few : (a : Access) (x : Party) → RunsFew x → RunsFew (notice a x)
noticed_few access.Table free h = tt
noticed_few access.Table (running q) h = h
noticed_few access.Table gone h = tt
noticed_few (access.Read b w v) free h = tt
noticed_few (access.Read b w v) (running q) h = h
noticed_few (access.Read b w v) gone h = tt
noticed_few (access.Write b w v) free h = tt
noticed_few (access.Write b w v) (running q) h = h
noticed_few (access.Write b w v) gone h = tt

with_few : (ps : List ℕ → Party) (p party : List ℕ) (x : Party) → RunsFew x → RunsFew (ps party) → RunsFew (with_party ps p x party)
with_few ps p party x h k = at (bytes_eq party p)
  where
    at : (z : Bool) → RunsFew (cond z x (ps party))
    at true = h
    at false = k

step_few : (s : State) (party : List ℕ) (x : Party) (a : Access) (told : Option Reply) → RunsFew x → ((p : List ℕ) → RunsFew (s.parties p)) → (p : List ℕ) → RunsFew ((after_step s party x a told).parties p)
step_few s party free a told k h p = h p
step_few s party gone a told k h p = h p
step_few s party (running r) a None k h p = with_few (λ y. notice a (s.parties y)) party p (running (record r { so_far = r.so_far ++ a ∷ [] })) k (noticed_few a (s.parties p) (h p))
step_few s party (running r) a (Some told) k h p = with_few (λ y. notice a (s.parties y)) party p free tt (noticed_few a (s.parties p) (h p))

calls_few : (s : State) (l : Line) (a : Answer) → IsLine l → IsShortLine l → ((p : List ℕ) → RunsFew (s.parties p)) → (p : List ℕ) → RunsFew ((after s l a).parties p)
calls_few s (line.Begin party c) answer.Begun g z h p = with_few s.parties party p (begun (request_of s.standing s.published party c)) (begun_few s.standing s.published party c g.1 z) (h p)
calls_few s (line.Begin party c) (answer.Refused why) g z h p = h p
calls_few s (line.Begin party c) (answer.Step x told) g z h p = h p
calls_few s (line.Begin party c) answer.Gone g z h p = h p
calls_few s (line.Begin party c) (answer.Words words) g z h p = h p
calls_few s (line.Step party) answer.Begun g z h p = h p
calls_few s (line.Step party) (answer.Refused why) g z h p = h p
calls_few s (line.Step party) (answer.Step x told) g z h p = step_few s party (s.parties party) x told (h party) h p
calls_few s (line.Step party) answer.Gone g z h p = h p
calls_few s (line.Step party) (answer.Words words) g z h p = h p
calls_few s (line.Release party name) answer.Begun g z h p = h p
calls_few s (line.Release party name) (answer.Refused why) g z h p = h p
calls_few s (line.Release party name) (answer.Step x told) g z h p = h p
calls_few s (line.Release party name) answer.Gone g z h p = h p
calls_few s (line.Release party name) (answer.Words words) g z h p = h p
calls_few s (line.Abandon party) answer.Begun g z h p = h p
calls_few s (line.Abandon party) (answer.Refused why) g z h p = h p
calls_few s (line.Abandon party) (answer.Step x told) g z h p = h p
calls_few s (line.Abandon party) answer.Gone g z h p = with_few s.parties party p gone tt (h p)
calls_few s (line.Abandon party) (answer.Words words) g z h p = h p
calls_few s (line.Words n) a g z h p = h p

-- ---- the memory

paid_value : (v : Value) → cell_bytes (record { words = length (value_words v); alignment = (value_detail (type_of v)).alignment }) + (cell_alignment (record { words = length (value_words v); alignment = (value_detail (type_of v)).alignment }) - 1) ≤ 87
paid_value (value.Bool b) = omega arith
paid_value (value.U64 n) = omega arith
paid_value (value.Q4 a b c d) = omega arith

entries_paid : (es : List AddedEntry) → payload (shapes_of (map added_of es)) ≤ 87 * length es
entries_paid [] = omega arith
entries_paid (e ∷ es) = omega (arith, paid_value e.value, entries_paid es)

pub creates_small : CreatesAreSmall
creates_small party f name k limits attributes entries g h =
    let few : length entries ≤ 273 = create_few party f name k limits attributes entries g.1.4 h in
    record { few = few; bytes = omega (arith, entries_paid entries, few) }

abbrev AreSmallWords : (ℕ → List ℕ) → Type 0
AreSmallWords memory = (b : ℕ) → 8 * length (memory b) ≤ 23751

new_small : (entries : List AddedEntry) → length entries ≤ 273 → 8 * length (opening_of entries) ≤ 23751
new_small entries le = omega (arith, opened_length entries, entries_paid entries, le)

board_small : (memory : ℕ → List ℕ) (board : ℕ) (words : List ℕ) → AreSmallWords memory → 8 * length words ≤ 23751 → AreSmallWords (with_board memory board words)
board_small memory board words h k b = at (b == board)
  where
    at : (z : Bool) → 8 * length (cond z words (memory b)) ≤ 23751
    at true = k
    at false = h b

access_small : (memory : ℕ → List ℕ) (a : Access) → AreSmallWords memory → AreSmallWords (after_access memory a)
access_small memory access.Table h n = h n
access_small memory (access.Read b i v) h n = h n
access_small memory (access.Write b i v) h n = omega (arith, store_length memory b i v n, h n)

created_small : (memory : ℕ → List ℕ) (f name : List ℕ) (k : KeyType) (limits : NewLimits) (attributes : List Attribute) (entries : List AddedEntry) (t : Reply) → AreSmallWords memory → length entries ≤ 273
    → AreSmallWords (memory_after memory (table (create f name k limits attributes entries)) t)
created_small memory f name k limits attributes entries reply.Done h e = h
created_small memory f name k limits attributes entries (reply.Number m) h e = board_small memory m (opening_of entries) h (new_small entries e)
created_small memory f name k limits attributes entries (reply.Got x y z) h e = h
created_small memory f name k limits attributes entries (reply.Fresh x) h e = h
created_small memory f name k limits attributes entries (reply.Keys x) h e = h
created_small memory f name k limits attributes entries (reply.Nodes x) h e = h
created_small memory f name k limits attributes entries (reply.Info x) h e = h
created_small memory f name k limits attributes entries (reply.Id x) h e = h
created_small memory f name k limits attributes entries (reply.Generation x) h e = h
created_small memory f name k limits attributes entries (reply.CreateError x) h e = h
created_small memory f name k limits attributes entries (reply.OpenError x) h e = h
created_small memory f name k limits attributes entries (reply.ReaderError x) h e = h
created_small memory f name k limits attributes entries (reply.WriterError x) h e = h
created_small memory f name k limits attributes entries (reply.EntryError x) h e = h
created_small memory f name k limits attributes entries (reply.EntryMutError x) h e = h

memory_small : (memory : ℕ → List ℕ) (q : Request) (t : Reply) → AreSmallWords memory → AddsFew q → AreSmallWords (memory_after memory q t)
memory_small memory (table (create f name k limits attributes entries)) t h e = created_small memory f name k limits attributes entries t h e
memory_small memory (table (open_ f name k limits needs)) t h e = h
memory_small memory (table (reader name x)) t h e = h
memory_small memory (table (writer name x)) t h e = h
memory_small memory (table (entry name x k type)) t h e = h
memory_small memory (table (entry_mut name x k type)) t h e = h
memory_small memory (table (loan l)) t h e = h
memory_small memory (table (discard l)) t h e = h
memory_small memory (table (keys x)) t h e = h
memory_small memory (table (nodes x)) t h e = h
memory_small memory (table (info x)) t h e = h
memory_small memory (table (id x)) t h e = h
memory_small memory (table (gen x)) t h e = h
memory_small memory (get f) t h e = h
memory_small memory (fresh l) t h e = h
memory_small memory (update u) t h e = h
memory_small memory (put l i w) t h e = h
memory_small memory (publish l) t h e = h
memory_small memory (fill l v) t h e = h

-- ---- the boards

abbrev AreSmallBoards : List Board → Type 0
AreSmallBoards boards = AllByRecursion IsSmallBoard boards

entries_few : (cells : List CellPlace) (es : List AddedEntry) → length (entries_of cells (map added_of es)) ≤ length es
entries_few [] es = omega arith
entries_few (c ∷ cs) [] = omega arith
entries_few (c ∷ cs) (e ∷ es) = omega (arith, entries_few cs es)

asked_small : {A E : Type 0} (o : Option E) (x : A) (new t : BoardTables) → AreSmallBoards new.boards → AreSmallBoards t.boards → AreSmallBoards (asked o x new t).1.boards
asked_small None x new t h k = h
asked_small (Some e) x new t h k = k

table_small : (s : State) (party : List ℕ) (c : TableCall) → AreSmallBoards s.standing.tables.boards → AddsFewInTable c → AreSmallBoards (ask_tables s.standing s.published party c).standing.tables.boards
table_small s party (create f name k limits attributes entries) h e =
    let few : length (entries_of (places_from 0 (shapes_of (map added_of entries))) (map added_of entries)) ≤ 273 = omega (arith, entries_few (places_from 0 (shapes_of (map added_of entries))) entries, e) in
    asked_small (first_of (create_refusals (same_key k) s.standing.tables.boards name (map added_of entries))) (s.standing.tables.last_board + 1) (created s.standing.tables party f name (key_detail k) limits attributes (map added_of entries)) s.standing.tables
    (all_push IsSmallBoard s.standing.tables.boards (new_board (s.standing.tables.last_board + 1) name (key_detail k) limits attributes (map added_of entries)) h few) h
table_small s party (open_ f name k limits needs) h e =
    asked_small (first_of (open_refusals bytes_eq s.standing.tables.things party (board_named s.standing.tables name) (key_detail k) limits needs)) _ (joined s.standing.tables party f (board_named s.standing.tables name)) s.standing.tables h h
table_small s party (reader name x) h e = asked_small (first_of (reader_refusals s.standing.tables.things (board_at s.standing.tables x.board))) (s.standing.tables.last_port + 1) (with_reader s.standing.tables x name) s.standing.tables h h
table_small s party (writer name x) h e = asked_small (first_of (writer_refusals s.standing.tables.things (board_at s.standing.tables x.board))) (s.standing.tables.last_port + 1) (with_writer s.standing.tables x name) s.standing.tables h h
table_small s party (entry name x k type) h e =
    asked_small (first_of (entry_refusals (entry_found (board_at s.standing.tables x.board) (keeps_key k) (value_detail type)))) _ (with_read_handle s.standing.tables x name (entry_found (board_at s.standing.tables x.board) (keeps_key k) (value_detail type))) s.standing.tables h h
table_small s party (entry_mut name x k type) h e =
    asked_small (first_of (entry_mut_refusals s.standing.tables.things x.board (entry_found (board_at s.standing.tables x.board) (keeps_key k) (value_detail type)))) _ (with_write_handle s.standing.tables x name (entry_found (board_at s.standing.tables x.board) (keeps_key k) (value_detail type))) s.standing.tables h h
table_small s party (loan l) h e = h
table_small s party (discard l) h e = h
table_small s party (keys x) h e = h
table_small s party (nodes x) h e = h
table_small s party (info x) h e = h
table_small s party (id x) h e = h
table_small s party (gen x) h e = h

valued_small : (s : Standing) (party : List ℕ) (f : Fetch) (ws : List ℕ) (g : ℕ) (name : Option (List ℕ)) → AreSmallBoards s.tables.boards → AreSmallBoards (with_fetched s party f ws g name).tables.boards
valued_small s party f ws g None h = h
valued_small s party f ws g (Some v) h = h

ask_small : (s : State) (party : List ℕ) (q : Request) → AreSmallBoards s.standing.tables.boards → AddsFew q → AreSmallBoards (ask s.standing s.published party q).standing.tables.boards
ask_small s party (table c) h e = table_small s party c h e
ask_small s party (get f) h e = valued_small s.standing party f _ _ f.name h
ask_small s party (fresh l) h e = h
ask_small s party (update u) h e = h
ask_small s party (put l i w) h e = h
ask_small s party (publish l) h e = h
ask_small s party (fill l v) h e = h

left_small : (boards : List Board) (board : ℕ) (things : List Held) → AreSmallBoards boards → AreSmallBoards (boards_left boards board things)
left_small boards board things h = at (list_any (is_of_board board) things)
  where
    at : (z : Bool) → AreSmallBoards (cond z boards (without_first (is_numbered board) boards))
    at true = h
    at false = all_without IsSmallBoard (is_numbered board) boards h

released_small : (t : BoardTables) (party name : List ℕ) (o : Option Held) → AreSmallBoards t.boards → AreSmallBoards (released_thing t party name o).boards
released_small t party name None h = h
released_small t party name (Some x) h = left_small t.boards x.board (without_first (is_held_as party name) t.things) h

-- ---- lines

record IsSmallState (s : State) : Type 0 where
  words : AreSmallWords s.memory
  boards : AreSmallBoards s.standing.tables.boards

small_after : (s : State) (l : Line) (a : Answer) → IsRight s l a → AreSmall s → IsSmallState (after s l a)
small_after s l a r h = after_cases IsSmallState s l a r
    (record { words = h.words; boards = h.boards })
    (λ party c ok e. record { words = h.words; boards = h.boards })
    (λ party. record { words = h.words; boards = h.boards })
    (λ party name _. record { words = h.words; boards = released_small s.standing.tables party name (thing_of s.standing.tables.things party name) h.boards })
    (λ party q x run st. record { words = access_small s.memory x h.words; boards = h.boards })
    (λ party q x t run st. record {
      words = memory_small (after_access s.memory x) q.request t (access_small s.memory x h.words) (own party q run);
      boards = ask_small s party q.request h.boards (own party q run);
    })
  where
    own : (party : List ℕ) (q : Running) → s.parties party ≡ running q → AddsFew q.request
    own party q run = subst RunsFew run (h.calls party)

small_from : (pairs : Session) (s : State) → IsLawfulFrom s pairs → HasShortLines pairs → AreSmall s → AreSmall (state_after s pairs)
small_from [] s ok z h = h
small_from (x ∷ xs) s ok z h =
    let k = small_after s x.0 x.1 ok.0 h in
    small_from xs (after s x.0 x.1) ok.1 z.1 (record { words = k.words; boards = k.boards; calls = calls_few s x.0 x.1 ok.0.line z.0 h.calls })

pub session_small : BoardsStaySmall
session_small pairs ok z = small_from pairs start ok z (record { words = λ b. omega arith; boards = tt; calls = λ p. tt })
