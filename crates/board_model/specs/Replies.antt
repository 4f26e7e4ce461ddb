-- The board asked one call at a time: the reply to a call, and what stands after it.
use Rattle.std.specs.Prelude.{ℕ, ◌-◌, Bool, ◌&&◌, ◌==◌, if◌then◌else◌, List, [], ◌∷◌, ◌++◌, length, map, replicate, slice_index_or, slice_get, slice_set, Option, Some, None, Result, Ok, Err}
use Rattle.std.specs.Ordering.{nat_cmp, is_lt}
use Rattle.std.specs.Cmp.Lexicographic.{slice_cmp}
use Rattle.std.specs.Str.{bytes_eq}
use Rattle.board_model.specs.declared.answer.Reply.{Reply}
use Rattle.board_model.specs.declared.answer.Reply.TheVariants as reply
use Rattle.board_model.specs.declared.answer.Info.{Info}
use Rattle.board_model.specs.declared.tables.Board.{Board}
use Rattle.board_model.specs.declared.tables.Entry.{Entry}
use Rattle.board_model.specs.declared.tables.Kind.{Kind}
use Rattle.board_model.specs.declared.tables.Kind.TheVariants as kind
use Rattle.board_model.specs.declared.value.AddedEntry.{AddedEntry}
use Rattle.board_model.specs.declared.value.Key.{Key}
use Rattle.board_model.specs.declared.value.KeyType.{KeyType}
use Rattle.board_model.specs.declared.value.KeyType.TheVariants as key_type
use Rattle.board_model.specs.TypeTable.{key_bytes, key_detail, key_of, key_type_of, same_key, type_of, type_of_key, value_detail, value_type_of, value_words}
use Rattle.board_model.specs.Tables.{Added, Tables, board_at, entry_found, entry_of, is_of_board, nodes_taken, reader_slots, writer_slots}
use Rattle.board_model.specs.TableCalls.{create_asked, entry_asked, entry_mut_asked, open_asked, reader_asked, released, writer_asked}
use Rattle.board_model.specs.Things.{Held, Standing, is_held_as, thing_of, with_at, with_name}
use Rattle.board_model.specs.Requests.{Fetch, Lending, Published, Request, TableCall, create, info, entry, entry_mut, fill, fresh, get, discard, handled, id, open_, loan, keys, nodes, publish, put, reader, table, gen, update, writer}

-- what a call is told, and what stands after it
pub record Asked : Type 0 where
  pub reply : Reply
  pub standing : Standing

-- a call that is told something and changes nothing
abbrev pub only_told : Standing → Reply → Asked
only_told s r = record { reply = r; standing = s }

-- ---- calls on the tables

-- an entry that a script adds, as the tables take it: in bytes and words
abbrev pub added_of : AddedEntry → Added
added_of e = record { key = key_bytes e.key; value = value_detail (type_of e.value); words = value_words e.value }

-- the reply to a call on the tables that gives a number or fails
abbrev pub number_or : {E : Type 0} → (E → Reply) → Result ℕ E → Reply
number_or error (Ok n) = reply.Number n
number_or error (Err e) = error e

-- a number, or the error; and the tables
abbrev pub told_by : {E : Type 0} → Standing → (E → Reply) → Result ℕ E × Tables (List ℕ) (List ℕ) → Asked
told_by s error result = record { reply = number_or error result.0; standing = record s { tables = result.1 } }

-- whether the bytes of a kept key are equal to a key
abbrev pub keeps_key : Key → List ℕ → Bool
keeps_key k bytes = same_key (type_of_key k) bytes (key_bytes k)

-- the words of a new loan: none of them was put yet
abbrev pub none_put : ℕ → List (Option ℕ)
none_put w = replicate w None

-- ---- what is told of a board

-- the keys of these entries, read back from their bytes
abbrev pub keys_of : KeyType → List Entry → List Key
keys_of k entries = map (λ (e : Entry). key_of k e.key.bytes) entries

-- the keys of a board, in the order of its entries
abbrev pub keys_in : Option Board → List Key
keys_in None = []
keys_in (Some b) = keys_of (key_type_of b.key) b.entries

-- the first text comes before the second in the order of their bytes
abbrev pub is_before : List ℕ → List ℕ → Bool
is_before x y = is_lt (slice_cmp nat_cmp x y)

-- a text among others, in the order of their bytes; it is there once
abbrev pub placed_once : List ℕ → List (List ℕ) → List (List ℕ)
placed_once x [] = x ∷ []
placed_once x (y ∷ ys) = if bytes_eq x y then y ∷ ys else if is_before x y then x ∷ y ∷ ys else y ∷ placed_once x ys

-- the parties with a thing of the board, in the order of their bytes
abbrev pub nodes_of : ℕ → List Held → List (List ℕ)
nodes_of board [] = []
nodes_of board (t ∷ ts) = if is_of_board board t then placed_once t.holder (nodes_of board ts) else nodes_of board ts

-- what would be told where no board stands
abbrev pub no_info : Info
no_info = record { name = []; key_type = key_type.U64; max_readers = 0; max_nodes = 0; max_writers = 0; entries = 0; attributes = 0; readers = 0; writers = 0; nodes = 0 }

-- its limits, how many entries and attributes it has, and what is taken of it
abbrev pub info_of : List Held → Option Board → Info
info_of things None = no_info
info_of things (Some b) = record {
  name = b.name;
  key_type = key_type_of b.key;
  max_readers = b.max_readers;
  max_nodes = b.max_nodes;
  max_writers = b.max_writers;
  entries = length b.entries;
  attributes = length b.attributes;
  readers = reader_slots b.number things;
  writers = writer_slots b.number things;
  nodes = nodes_taken bytes_eq b.number things;
}

-- the entry id, which is the byte where its cell begins; 0 without an entry
abbrev pub place_in : Option Entry → ℕ
place_in None = 0
place_in (Some e) = e.cell.place

-- the port number of a reader or writer, the entry id of a handle
abbrev pub id_number : Standing → Held → Kind → ℕ
id_number s t (kind.Reader port) = port
id_number s t (kind.Writer port) = port
id_number s t k = place_in (handled s t)

-- ---- what was published

-- the last of the lists that were published
abbrev pub latest : List (List ℕ) → List ℕ
latest list = slice_index_or list (length list - 1) []

-- an added entry begins with one published value: the one that was given
abbrev pub first_list : Option AddedEntry → List (List ℕ)
first_list None = []
first_list (Some e) = value_words e.value ∷ []

-- the entries of a new board have their first values
abbrev pub with_first_values : Published → ℕ → List AddedEntry → Published
with_first_values lists n entries m i = if m == n then first_list (slice_get entries i) else lists m i

-- one more value of an entry
abbrev pub published_at : Published → ℕ → ℕ → List ℕ → Published
published_at lists n i value m j = if m == n && j == i then lists n i ++ value ∷ [] else lists m j

-- the word of a loan as it is published; 0 where none was put
abbrev pub word_put : Option ℕ → ℕ
word_put None = 0
word_put (Some w) = w

-- ---- asking

-- the value read, under its name if one is given
abbrev pub with_fetched : Standing → List ℕ → Fetch → List ℕ → ℕ → Option (List ℕ) → Standing
with_fetched s party f words generation None = s
with_fetched s party f words generation (Some name) = record s { values = with_at s.values party name (Some (record { type = value_type_of f.type; words = words; generation = generation })) }

-- the write handle becomes a loan of which no word was put
abbrev pub lent : Standing → List ℕ → Lending → Standing
lent s party l = record s { tables = with_name s.tables party l.handle l.loan; loans = with_at s.loans party l.loan (Some (none_put l.shape.words)) }

-- the loan becomes a write handle, and its words are forgotten
abbrev pub given_back : Standing → List ℕ → Lending → Standing
given_back s party l = record s { tables = with_name s.tables party l.loan l.handle; loans = with_at s.loans party l.loan None }

-- one word of the loan was put
abbrev pub with_word : Standing → List ℕ → Lending → ℕ → ℕ → Standing
with_word s party l i w = record s { loans = with_at s.loans party l.loan (Some (slice_set l.words i (Some w))) }

-- the reply to a call on the tables, and what stands after it
abbrev pub ask_tables : Standing → Published → List ℕ → TableCall → Asked
ask_tables s lists party (create f name k limits attributes entries) = told_by s reply.CreateError (create_asked (same_key k) s.tables party f name (key_detail k) limits attributes (map added_of entries))
ask_tables s lists party (open_ f name k limits needs) = told_by s reply.OpenError (open_asked bytes_eq s.tables party f name (key_detail k) limits needs)
ask_tables s lists party (reader name of) = told_by s reply.ReaderError (reader_asked s.tables of name)
ask_tables s lists party (writer name of) = told_by s reply.WriterError (writer_asked s.tables of name)
ask_tables s lists party (entry name of k type) = told_by s reply.EntryError (entry_asked s.tables of name (entry_found (board_at s.tables of.board) (keeps_key k) (value_detail type)))
ask_tables s lists party (entry_mut name of k type) = told_by s reply.EntryMutError (entry_mut_asked s.tables of name (entry_found (board_at s.tables of.board) (keeps_key k) (value_detail type)))
ask_tables s lists party (loan l) = record { reply = reply.Done; standing = lent s party l }
ask_tables s lists party (discard l) = record { reply = reply.Done; standing = given_back s party l }
ask_tables s lists party (keys of) = only_told s (reply.Keys (keys_in (board_at s.tables of.board)))
ask_tables s lists party (nodes of) = only_told s (reply.Nodes (nodes_of of.board s.tables.things))
ask_tables s lists party (info of) = only_told s (reply.Info (info_of s.tables.things (board_at s.tables of.board)))
ask_tables s lists party (id of) = only_told s (reply.Id (id_number s of of.kind))
ask_tables s lists party (gen of) = only_told s (reply.Generation (length (lists of.board (entry_of of.kind))))

-- the reply to a call, and what stands after it
abbrev pub ask : Standing → Published → List ℕ → Request → Asked
ask s lists party (table c) = ask_tables s lists party c
ask s lists party (get f) = record {
  reply = reply.Got (value_type_of f.type) (latest (lists f.board f.entry)) (length (lists f.board f.entry));
  standing = with_fetched s party f (latest (lists f.board f.entry)) (length (lists f.board f.entry)) f.name;
}
ask s lists party (fresh l) = only_told s (reply.Fresh (l.generation == length (lists l.board l.entry)))
ask s lists party (update u) = only_told s reply.Done
ask s lists party (put l i w) = record { reply = reply.Done; standing = with_word s party l i w }
ask s lists party (publish l) = record { reply = reply.Done; standing = given_back s party l }
ask s lists party (fill l v) = record { reply = reply.Done; standing = given_back s party l }

-- the published lists after a call that was told so
abbrev pub lists_after : Published → Request → Reply → Published
lists_after lists (table (create f name k limits attributes entries)) (reply.Number n) = with_first_values lists n entries
lists_after lists (update u) told = published_at lists u.board u.entry (value_words u.value)
lists_after lists (publish l) told = published_at lists l.board l.entry (map word_put l.words)
lists_after lists (fill l v) told = published_at lists l.board l.entry (value_words v)
lists_after lists request told = lists

-- ---- drop

-- the tables without the thing that was found under the name, if one was
abbrev pub released_thing : Tables (List ℕ) (List ℕ) → List ℕ → List ℕ → Option Held → Tables (List ℕ) (List ℕ)
released_thing t party name None = t
released_thing t party name (Some x) = released t (is_held_as party name) x.board

-- what a party held under a name goes
abbrev pub dropped : Standing → List ℕ → List ℕ → Standing
dropped s party name = record {
  tables = released_thing s.tables party name (thing_of s.tables.things party name);
  loans = with_at s.loans party name None;
  values = with_at s.values party name None;
}
