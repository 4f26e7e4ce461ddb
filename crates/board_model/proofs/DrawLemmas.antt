-- The numbers that a line draws, and the lists that it makes longer.
use Rattle.std.proofs.Common.{◌≡◌, ℕ, ◌+◌, ◌≤◌, Bool, true, false, cond, List, [], ◌∷◌, ◌++◌, length, map, arith, refl, sym, ap, subst, Option, Some, None}
use Rattle.std.specs.Prelude.{◌==◌, ◌&&◌, slice_get}
use Rattle.std.proofs.lemmas.List.{length_push}
use Rattle.board_model.specs.declared.answer.Reply.{Reply}
use Rattle.board_model.specs.declared.answer.Reply.TheVariants as reply
use Rattle.board_model.specs.declared.attributes.Attribute.{Attribute}
use Rattle.board_model.specs.declared.tables.NewLimits.{NewLimits}
use Rattle.board_model.specs.declared.value.AddedEntry.{AddedEntry}
use Rattle.board_model.specs.declared.value.KeyType.{KeyType}
use Rattle.board_model.specs.TypeTable.{key_detail, same_key, value_detail, value_words}
use Rattle.std.specs.Str.{bytes_eq}
use Rattle.board_model.specs.Tables.{board_at, board_named, entry_found}
use Rattle.board_model.specs.TableCalls.{asked, create_refusals, created, entry_mut_refusals, entry_refusals, first_of, id_of, joined, number_of, open_refusals, reader_refusals, with_read_handle, with_reader, with_write_handle, with_writer, writer_refusals}
use Rattle.board_model.specs.Things.{Held, Standing, thing_of}
use Rattle.board_model.specs.Requests.{Fetch, Published, Request, TableCall, request_of, create, info, entry, entry_mut, fill, fresh, get, discard, id, open_, loan, keys, nodes, publish, put, reader, table, gen, update, writer}
use Rattle.board_model.specs.Replies.{added_of, ask, ask_tables, dropped, first_list, keeps_key, latest, lists_after, with_first_values, published_at, released_thing, with_fetched, word_put}
use Rattle.board_model.specs.Parties.{begun, gone, with_party}
use Rattle.board_model.specs.LawfulSession.{IsLawfulFrom, Session, State, after, start, state_after, stepped}
use Rattle.board_model.specs.Sound.{BoardTables}
use Rattle.board_model.specs.LawsOfBounds.{IsWithin, LinesDrawOne, SessionsDrawTheirLength}
use Rattle.board_model.proofs.LineCases.{after_cases}

-- ---- numbers

-- at most one board number and one port number more
pub record IsDrawn (t new : BoardTables) : Type 0 where
  pub board_low : t.last_board ≤ new.last_board
  pub board_high : new.last_board ≤ t.last_board + 1
  pub port_high : new.last_port ≤ t.last_port + 1

pub drawn_none : (t new : BoardTables) → new.last_board ≡ t.last_board → new.last_port ≡ t.last_port → IsDrawn t new
drawn_none t new b p = record { board_low = omega (arith, b); board_high = omega (arith, b); port_high = omega (arith, p) }

drawn_port : (t new : BoardTables) → new.last_board ≡ t.last_board → new.last_port ≡ t.last_port + 1 → IsDrawn t new
drawn_port t new b p = record { board_low = omega (arith, b); board_high = omega (arith, b); port_high = omega (arith, p) }

drawn_board : (t new : BoardTables) → new.last_board ≡ t.last_board + 1 → new.last_port ≡ t.last_port → IsDrawn t new
drawn_board t new b p = record { board_low = omega (arith, b); board_high = omega (arith, b); port_high = omega (arith, p) }

drawn_asked : {A E : Type 0} (t : BoardTables) (o : Option E) (x : A) (new : BoardTables) → IsDrawn t new → IsDrawn t (asked o x new t).1
drawn_asked t None x new h = h
drawn_asked t (Some e) x new h = drawn_none t t refl refl

drawn_table : (s : Standing) (lists : Published) (party : List ℕ) (c : TableCall) → IsDrawn s.tables (ask_tables s lists party c).standing.tables
drawn_table s lists party (create f name k limits attributes entries) =
    drawn_asked s.tables (first_of (create_refusals (same_key k) s.tables.boards name (map added_of entries))) (s.tables.last_board + 1)
    (created s.tables party f name (key_detail k) limits attributes (map added_of entries))
    (drawn_board s.tables (created s.tables party f name (key_detail k) limits attributes (map added_of entries)) refl refl)
drawn_table s lists party (open_ f name k limits needs) =
    drawn_asked s.tables (first_of (open_refusals bytes_eq s.tables.things party (board_named s.tables name) (key_detail k) limits needs)) (number_of (board_named s.tables name))
    (joined s.tables party f (board_named s.tables name))
    (drawn_none s.tables (joined s.tables party f (board_named s.tables name)) refl refl)
drawn_table s lists party (reader name x) =
    drawn_asked s.tables (first_of (reader_refusals s.tables.things (board_at s.tables x.board))) (s.tables.last_port + 1) (with_reader s.tables x name)
    (drawn_port s.tables (with_reader s.tables x name) refl refl)
drawn_table s lists party (writer name x) =
    drawn_asked s.tables (first_of (writer_refusals s.tables.things (board_at s.tables x.board))) (s.tables.last_port + 1) (with_writer s.tables x name)
    (drawn_port s.tables (with_writer s.tables x name) refl refl)
drawn_table s lists party (entry name x k type) =
    drawn_asked s.tables (first_of (entry_refusals (entry_found (board_at s.tables x.board) (keeps_key k) (value_detail type)))) (id_of (entry_found (board_at s.tables x.board) (keeps_key k) (value_detail type)))
    (with_read_handle s.tables x name (entry_found (board_at s.tables x.board) (keeps_key k) (value_detail type)))
    (drawn_none s.tables (with_read_handle s.tables x name (entry_found (board_at s.tables x.board) (keeps_key k) (value_detail type))) refl refl)
drawn_table s lists party (entry_mut name x k type) =
    drawn_asked s.tables (first_of (entry_mut_refusals s.tables.things x.board (entry_found (board_at s.tables x.board) (keeps_key k) (value_detail type)))) (id_of (entry_found (board_at s.tables x.board) (keeps_key k) (value_detail type)))
    (with_write_handle s.tables x name (entry_found (board_at s.tables x.board) (keeps_key k) (value_detail type)))
    (drawn_none s.tables (with_write_handle s.tables x name (entry_found (board_at s.tables x.board) (keeps_key k) (value_detail type))) refl refl)
drawn_table s lists party (loan l) = drawn_none s.tables (ask_tables s lists party (loan l)).standing.tables refl refl
drawn_table s lists party (discard l) = drawn_none s.tables (ask_tables s lists party (discard l)).standing.tables refl refl
drawn_table s lists party (keys x) = drawn_none s.tables s.tables refl refl
drawn_table s lists party (nodes x) = drawn_none s.tables s.tables refl refl
drawn_table s lists party (info x) = drawn_none s.tables s.tables refl refl
drawn_table s lists party (id x) = drawn_none s.tables s.tables refl refl
drawn_table s lists party (gen x) = drawn_none s.tables s.tables refl refl

drawn_value : (s : Standing) (party : List ℕ) (f : Fetch) (ws : List ℕ) (g : ℕ) (name : Option (List ℕ)) → IsDrawn s.tables (with_fetched s party f ws g name).tables
drawn_value s party f ws g None = drawn_none s.tables s.tables refl refl
drawn_value s party f ws g (Some n) = drawn_none s.tables s.tables refl refl

pub drawn_ask : (s : Standing) (lists : Published) (party : List ℕ) (q : Request) → IsDrawn s.tables (ask s lists party q).standing.tables
drawn_ask s lists party (table c) = drawn_table s lists party c
drawn_ask s lists party (get f) = drawn_value s party f (latest (lists f.board f.entry)) (length (lists f.board f.entry)) f.name
drawn_ask s lists party (fresh l) = drawn_none s.tables s.tables refl refl
drawn_ask s lists party (update u) = drawn_none s.tables s.tables refl refl
drawn_ask s lists party (put l i w) = drawn_none s.tables s.tables refl refl
drawn_ask s lists party (publish l) = drawn_none s.tables (ask s lists party (publish l)).standing.tables refl refl
drawn_ask s lists party (fill l v) = drawn_none s.tables (ask s lists party (fill l v)).standing.tables refl refl

drawn_release : (t : BoardTables) (party name : List ℕ) (o : Option Held) → IsDrawn t (released_thing t party name o)
drawn_release t party name None = drawn_none t t refl refl
drawn_release t party name (Some x) = drawn_none t (released_thing t party name (Some x)) refl refl

pub drawn_drop : (s : Standing) (party name : List ℕ) → IsDrawn s.tables (dropped s party name).tables
drawn_drop s party name = drawn_release s.tables party name (thing_of s.tables.things party name)

-- ---- lists

first_short : (o : Option AddedEntry) → length (first_list o) ≤ 1
first_short None = omega arith
first_short (Some e) = omega arith

abbrev AreShort : Published → ℕ → Type 0
AreShort lists n = (b i : ℕ) → length (lists b i) ≤ n

more_short : (lists : Published) (n : ℕ) → AreShort lists n → AreShort lists (n + 1)
more_short lists n h b i = omega (arith, h b i)

opened_short : (lists : Published) (n board : ℕ) (entries : List AddedEntry) → AreShort lists n → AreShort (with_first_values lists board entries) (n + 1)
opened_short lists n board entries h b i = at (b == board)
  where
    at : (z : Bool) → length (cond z (first_list (slice_get entries i)) (lists b i)) ≤ n + 1
    at true = omega (arith, first_short (slice_get entries i))
    at false = omega (arith, h b i)

published_short : (lists : Published) (n c j : ℕ) (value : List ℕ) → AreShort lists n → AreShort (published_at lists c j value) (n + 1)
published_short lists n c j value h b i = at ((b == c) && (i == j))
  where
    at : (z : Bool) → length (cond z (lists c j ++ value ∷ []) (lists b i)) ≤ n + 1
    at true = omega (arith, h c j, length_push (lists c j) value)
    at false = omega (arith, h b i)

created_short : (lists : Published) (n : ℕ) (f name : List ℕ) (k : KeyType) (limits : NewLimits) (attributes : List Attribute) (entries : List AddedEntry) (t : Reply) → AreShort lists n
    → AreShort (lists_after lists (table (create f name k limits attributes entries)) t) (n + 1)
created_short lists n f name k limits attributes entries reply.Done h = more_short lists n h
created_short lists n f name k limits attributes entries (reply.Number m) h = opened_short lists n m entries h
created_short lists n f name k limits attributes entries (reply.Got x y z) h = more_short lists n h
created_short lists n f name k limits attributes entries (reply.Fresh x) h = more_short lists n h
created_short lists n f name k limits attributes entries (reply.Keys x) h = more_short lists n h
created_short lists n f name k limits attributes entries (reply.Nodes x) h = more_short lists n h
created_short lists n f name k limits attributes entries (reply.Info x) h = more_short lists n h
created_short lists n f name k limits attributes entries (reply.Id x) h = more_short lists n h
created_short lists n f name k limits attributes entries (reply.Generation x) h = more_short lists n h
created_short lists n f name k limits attributes entries (reply.CreateError x) h = more_short lists n h
created_short lists n f name k limits attributes entries (reply.OpenError x) h = more_short lists n h
created_short lists n f name k limits attributes entries (reply.ReaderError x) h = more_short lists n h
created_short lists n f name k limits attributes entries (reply.WriterError x) h = more_short lists n h
created_short lists n f name k limits attributes entries (reply.EntryError x) h = more_short lists n h
created_short lists n f name k limits attributes entries (reply.EntryMutError x) h = more_short lists n h

lists_short : (lists : Published) (n : ℕ) (q : Request) (t : Reply) → AreShort lists n → AreShort (lists_after lists q t) (n + 1)
lists_short lists n (table (create f name k limits attributes entries)) t h = created_short lists n f name k limits attributes entries t h
lists_short lists n (table (open_ f name k limits needs)) t h = more_short lists n h
lists_short lists n (table (reader name x)) t h = more_short lists n h
lists_short lists n (table (writer name x)) t h = more_short lists n h
lists_short lists n (table (entry name x k type)) t h = more_short lists n h
lists_short lists n (table (entry_mut name x k type)) t h = more_short lists n h
lists_short lists n (table (loan l)) t h = more_short lists n h
lists_short lists n (table (discard l)) t h = more_short lists n h
lists_short lists n (table (keys x)) t h = more_short lists n h
lists_short lists n (table (nodes x)) t h = more_short lists n h
lists_short lists n (table (info x)) t h = more_short lists n h
lists_short lists n (table (id x)) t h = more_short lists n h
lists_short lists n (table (gen x)) t h = more_short lists n h
lists_short lists n (get f) t h = more_short lists n h
lists_short lists n (fresh l) t h = more_short lists n h
lists_short lists n (update u) t h = published_short lists n u.board u.entry (value_words u.value) h
lists_short lists n (put l i w) t h = more_short lists n h
lists_short lists n (publish l) t h = published_short lists n l.board l.entry (map word_put l.words) h
lists_short lists n (fill l v) t h = published_short lists n l.board l.entry (value_words v) h

-- ---- lines

within_more : (s new : State) (n : ℕ) → IsDrawn s.standing.tables new.standing.tables → AreShort new.published (n + 1) → IsWithin s n → IsWithin new (n + 1)
within_more s new n d l h = record { boards = omega (arith, d.board_high, h.boards); ports = omega (arith, d.port_high, h.ports); lists = l }

within_same : (s new : State) (n : ℕ) → IsDrawn s.standing.tables new.standing.tables → new.published ≡ s.published → IsWithin s n → IsWithin new (n + 1)
within_same s new n d e h = within_more s new n d (λ b i. omega (arith, h.lists b i, ap (λ (p : Published). length (p b i)) e)) h

pub line_within : LinesDrawOne
line_within s l a n r h = after_cases (λ x. IsWithin x (n + 1)) s l a r
    (within_same s s n (none s.standing.tables) refl h)
    (λ party c _ _. within_same s (record s { parties = with_party s.parties party (begun (request_of s.standing s.published party c)) }) n (none s.standing.tables) refl h)
    (λ party. within_same s (record s { parties = with_party s.parties party gone }) n (none s.standing.tables) refl h)
    (λ party name _. within_same s (record s { standing = dropped s.standing party name }) n (drawn_drop s.standing party name) refl h)
    (λ party c x _ _. within_same s (stepped s party c x None) n (none s.standing.tables) refl h)
    (λ party c x t _ _. within_more s (stepped s party c x (Some t)) n (drawn_ask s.standing s.published party c.request) (lists_short s.published n c.request t h.lists) h)
  where
    none : (t : BoardTables) → IsDrawn t t
    none t = drawn_none t t refl refl

within_session : (pairs : Session) (s : State) (n m : ℕ) → m ≡ n + length pairs → IsLawfulFrom s pairs → IsWithin s n → IsWithin (state_after s pairs) m
within_session [] s n m e h k = subst (λ (j : ℕ). IsWithin s j) (sym (omega (arith, e))) k
within_session (x ∷ xs) s n m e h k = within_session xs (after s x.0 x.1) (n + 1) m (omega (arith, e)) h.1 (line_within s x.0 x.1 n h.0 k)

pub within_start : IsWithin start 0
within_start = record { boards = omega arith; ports = omega arith; lists = λ b i. omega arith }

pub session_within : SessionsDrawTheirLength
session_within pairs h = within_session pairs start 0 (length pairs) (omega arith) h within_start
