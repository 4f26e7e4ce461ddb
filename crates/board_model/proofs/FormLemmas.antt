-- Tables of boards and things whose texts and numbers are of the grammar.
use Rattle.std.proofs.Common.{◌≡◌, ℕ, ◌+◌, ◌<◌, ◌≤◌, Bool, true, false, cond, List, [], ◌∷◌, ◌++◌, length, map, arith, refl, sym, ap, subst, Option, Some, None}
use Rattle.std.specs.Prelude.{◌==◌, ◌||◌, nat_lt}
use Rattle.std.specs.List.{AllByRecursion, list_all, list_any}
use Rattle.std.specs.Str.{bytes_eq}
use Rattle.std.proofs.lemmas.Bool.{and_parts, ltb-false, or_parts}
use Rattle.std.proofs.lemmas.List.{length_push, length-map}
use Rattle.board_layout.specs.declared.shape.CellPlace.{CellPlace}
use Rattle.board_layout.specs.Layout.{cell_bytes, payload, places_from, start_of}
use Rattle.board_model.specs.declared.attributes.Attribute.{Attribute}
use Rattle.board_names.specs.declared.errors.boards.BlackboardCreateError.TheVariants as create_error
use Rattle.board_model.specs.declared.tables.Board.{Board}
use Rattle.board_model.specs.declared.tables.Entry.{Entry}
use Rattle.board_model.specs.declared.tables.Kind.TheVariants as kind
use Rattle.board_model.specs.declared.tables.NewLimits.{NewLimits}
use Rattle.board_model.specs.declared.value.AddedEntry.{AddedEntry}
use Rattle.board_model.specs.declared.value.KeyType.{KeyType}
use Rattle.board_model.specs.declared.value.KeyType.TheVariants as key_type
use Rattle.board_model.specs.declared.value.Value.{Value}
use Rattle.board_model.specs.declared.value.Value.TheVariants as value
use Rattle.board_model.specs.LineGrammar.{IsAddedEntry, IsNumber, IsNumberIfAny, is_name}
use Rattle.board_model.specs.TypeTable.{key_detail, key_type_of, same_key, same_key_type, type_of_key, value_detail, value_words}
use Rattle.board_model.specs.Tables.{board_at, board_named, entries_of, entry_found, has_equal_keys, has_name, limit_of, new_board, port_of, shape_of, shapes_of}
use Rattle.board_model.specs.TableCalls.{asked, create_refusals, created, entry_mut_refusals, entry_refusals, first_of, id_of, is_corrupted, joined, place_of, number_of, open_refusals, reader_refusals, with_read_handle, with_reader, with_write_handle, with_writer, writer_refusals}
use Rattle.board_model.specs.Things.{Held, is_held_as, named_anew, thing_of, with_name}
use Rattle.board_model.specs.Requests.{TableCall, create, info, entry, entry_mut, discard, id, open_, loan, keys, nodes, reader, gen, writer}
use Rattle.board_model.specs.Replies.{added_of, ask_tables, keeps_key}
use Rattle.board_model.specs.LawfulSession.{State, has_key_type}
use Rattle.board_model.specs.Sound.{BoardTables, IsTableCall}
use Rattle.board_model.specs.LawsOfForms.{AreFormedTables, IsFormedBoard, IsFormedCreate, IsFormedEntry, IsFormedInTable, IsFormedThing}
use Rattle.board_model.proofs.ThingLemmas.{all_found, all_map, all_push, all_weaker}

-- ---- a new board

same_type_of : (a b : KeyType) → same_key_type a b ≡ true → a ≡ b
same_type_of key_type.U64 key_type.U64 e = refl
same_type_of key_type.U64 key_type.F8 e = absurd cc
same_type_of key_type.F8 key_type.U64 e = absurd cc
same_type_of key_type.F8 key_type.F8 e = refl

pub detail_again : (k : KeyType) → key_type_of (key_detail k) ≡ k
detail_again key_type.U64 = refl
detail_again key_type.F8 = refl

formed_entries : (k : KeyType) (at : ℕ) (es : List AddedEntry) → AllByRecursion IsAddedEntry es → list_all (has_key_type k) es ≡ true → AllByRecursion (IsFormedEntry k) (entries_of (places_from at (shapes_of (map added_of es))) (map added_of es))
formed_entries k at [] h t = tt
formed_entries k at (e ∷ es) h t =
    let p = and_parts (has_key_type k e) (list_all (has_key_type k) es) t in
    (record { added = e.key; key = h.0.key; type = same_type_of (type_of_key e.key) k p.0; bytes = refl }, formed_entries k (start_of at (shape_of (added_of e)) + cell_bytes (shape_of (added_of e))) es h.1 p.1)

entries_few : (cells : List CellPlace) (es : List AddedEntry) → length (entries_of cells (map added_of es)) ≤ length es
entries_few [] es = omega arith
entries_few (c ∷ cs) [] = omega arith
entries_few (c ∷ cs) (e ∷ es) = omega (arith, entries_few cs es)

some_words : (v : Value) → 0 < length (value_words v)
some_words (value.Bool b) = omega arith
some_words (value.U64 n) = omega arith
some_words (value.Q4 a b c d) = omega arith

entries_paid : (es : List AddedEntry) → length es ≤ payload (shapes_of (map added_of es))
entries_paid [] = omega arith
entries_paid (e ∷ es) = omega (arith, some_words e.value, entries_paid es)

limit_number : (d : ℕ) (o : Option ℕ) → IsNumber d → IsNumberIfAny o → IsNumber (limit_of d o)
limit_number d None h k = h
limit_number d (Some n) h k = omega arith

formed_board : (number : ℕ) (name : List ℕ) (k : KeyType) (limits : NewLimits) (attributes : List Attribute) (entries : List AddedEntry) → IsFormedCreate name k limits attributes entries → payload (shapes_of (map added_of entries)) ≤ 4294967295
    → IsFormedBoard (new_board number name (key_detail k) limits attributes (map added_of entries))
formed_board number name k limits attributes entries h le = record {
  name = h.text;
  readers = limit_number 8 limits.shared.max_readers (omega arith) h.bounds.shared.readers;
  nodes = limit_number 20 limits.shared.max_nodes (omega arith) h.bounds.shared.nodes;
  writers = limit_number 1 limits.max_writers (omega arith) h.bounds.writers;
  attributes = h.pairs.few;
  entries = omega (arith, entries_few (places_from 0 (shapes_of (map added_of entries))) entries, entries_paid entries, le);
  keys = subst (λ (x : KeyType). AllByRecursion (IsFormedEntry x) (entries_of (places_from 0 (shapes_of (map added_of entries))) (map added_of entries))) (sym (detail_again k)) (formed_entries k 0 entries h.each h.types);
}

-- ---- tables

weaker_thing : (m n : ℕ) → m ≤ n → (t : Held) → IsFormedThing m t → IsFormedThing n t
weaker_thing m n le t h = record { holder = h.holder; port = omega (arith, h.port, le) }

pub formed_same : (t : BoardTables) (n : ℕ) → AreFormedTables t n → AreFormedTables t (n + 1)
formed_same t n h = record { boards = h.boards; things = h.things; few = omega (arith, h.few) }

-- one more thing
formed_thing : (t new : BoardTables) (x : Held) (n : ℕ) → AreFormedTables t n → AllByRecursion IsFormedBoard new.boards → t.last_port ≤ new.last_port → new.things ≡ t.things ++ x ∷ [] → IsFormedThing new.last_port x → AreFormedTables new (n + 1)
formed_thing t new x n h b le e k = record {
  boards = b;
  things = subst (AllByRecursion (IsFormedThing new.last_port)) (sym e) (all_push (IsFormedThing new.last_port) t.things x (all_weaker (IsFormedThing t.last_port) (IsFormedThing new.last_port) (weaker_thing t.last_port new.last_port le) t.things h.things) k);
  few = omega (arith, ap length e, length_push t.things x, h.few);
}

formed_asked : {A E : Type 0} (t : BoardTables) (o : Option E) (x : A) (new : BoardTables) (n : ℕ) → AreFormedTables t n → (o ≡ None → AreFormedTables new (n + 1)) → AreFormedTables (asked o x new t).1 (n + 1)
formed_asked t None x new n h k = k refl
formed_asked t (Some e) x new n h k = formed_same t n h

third_false : {E : Type 0} (a b c : Bool) (x y z : E) → first_of ((a, x) ∷ (b, y) ∷ (c, z) ∷ []) ≡ None → c ≡ false
third_false true b c x y z e = absurd cc
third_false false true c x y z e = absurd cc
third_false false false true x y z e = absurd cc
third_false false false false x y z e = refl

short_payload : (a : Bool) (n : ℕ) → (a || nat_lt 4294967295 n) ≡ false → n ≤ 4294967295
short_payload a n e = ltb-false 4294967295 n (or_parts a (nat_lt 4294967295 n) e).1

anew_formed : (party old new : List ℕ) (n : ℕ) (x : Held) → IsFormedThing n x → IsFormedThing n (named_anew party old new x)
anew_formed party old new n x h = at (is_held_as party old x)
  where
    at : (z : Bool) → IsFormedThing n (cond z (record x { name = new }) x)
    at true = record { holder = h.holder; port = h.port }
    at false = h

pub formed_named : (t : BoardTables) (party old new : List ℕ) (n : ℕ) → AreFormedTables t n → AreFormedTables (with_name t party old new) (n + 1)
formed_named t party old new n h = record {
  boards = h.boards;
  things = all_map (IsFormedThing t.last_port) (named_anew party old new) (anew_formed party old new t.last_port) t.things h.things;
  few = omega (arith, length-map t.things (named_anew party old new), h.few);
}

held_formed : (t : BoardTables) (party : List ℕ) (x : Held) (n : ℕ) → AreFormedTables t n → thing_of t.things party x.name ≡ Some x → IsFormedThing t.last_port x
held_formed t party x n h f = all_found (IsFormedThing t.last_port) (is_held_as party x.name) t.things x h.things f

pub formed_table : (s : State) (party : List ℕ) (n : ℕ) (c : TableCall) → AreFormedTables s.standing.tables n → is_name party ≡ true → IsFormedInTable n c → IsTableCall s party c → AreFormedTables (ask_tables s.standing s.published party c).standing.tables (n + 1)
formed_table s party n (create f name k limits attributes entries) h p q r =
    let t : BoardTables = s.standing.tables in
    let new : BoardTables = created s.standing.tables party f name (key_detail k) limits attributes (map added_of entries) in
    let b : Board = new_board (s.standing.tables.last_board + 1) name (key_detail k) limits attributes (map added_of entries) in
    let thing : Held = record { holder = party; name = f; board = s.standing.tables.last_board + 1; kind = kind.Factory } in
    formed_asked s.standing.tables (first_of (create_refusals (same_key k) s.standing.tables.boards name (map added_of entries))) (s.standing.tables.last_board + 1) new n h
    (λ e.
    let c : is_corrupted (same_key k) (map added_of entries) ≡ false = third_false (list_any (has_name name) s.standing.tables.boards) (length (map added_of entries) == 0) (is_corrupted (same_key k) (map added_of entries)) create_error.AlreadyExists create_error.NoEntriesProvided create_error.ServiceInCorruptedState e in
    let d : payload (shapes_of (map added_of entries)) ≤ 4294967295 = short_payload (has_equal_keys (same_key k) (map added_of entries)) (payload (shapes_of (map added_of entries))) c in
    formed_thing s.standing.tables new thing n h (all_push IsFormedBoard s.standing.tables.boards b h.boards (formed_board (s.standing.tables.last_board + 1) name k limits attributes entries q d)) (omega arith) refl (record { holder = p; port = omega arith }))
formed_table s party n (open_ f name k limits needs) h p q r =
    let new : BoardTables = joined s.standing.tables party f (board_named s.standing.tables name) in
    formed_asked s.standing.tables (first_of (open_refusals bytes_eq s.standing.tables.things party (board_named s.standing.tables name) (key_detail k) limits needs)) (number_of (board_named s.standing.tables name)) new n h
    (λ _. formed_thing s.standing.tables new (record { holder = party; name = f; board = number_of (board_named s.standing.tables name); kind = kind.Factory }) n h h.boards (omega arith) refl (record { holder = p; port = omega arith }))
formed_table s party n (reader name x) h p q r =
    let new : BoardTables = with_reader s.standing.tables x name in
    let k = held_formed s.standing.tables party x n h r.1.found in
    formed_asked s.standing.tables (first_of (reader_refusals s.standing.tables.things (board_at s.standing.tables x.board))) (s.standing.tables.last_port + 1) new n h
    (λ _. formed_thing s.standing.tables new (record { holder = x.holder; name = name; board = x.board; kind = kind.Reader (s.standing.tables.last_port + 1) }) n h h.boards (omega arith) refl (record { holder = k.holder; port = omega arith }))
formed_table s party n (writer name x) h p q r =
    let new : BoardTables = with_writer s.standing.tables x name in
    let k = held_formed s.standing.tables party x n h r.1.found in
    formed_asked s.standing.tables (first_of (writer_refusals s.standing.tables.things (board_at s.standing.tables x.board))) (s.standing.tables.last_port + 1) new n h
    (λ _. formed_thing s.standing.tables new (record { holder = x.holder; name = name; board = x.board; kind = kind.Writer (s.standing.tables.last_port + 1) }) n h h.boards (omega arith) refl (record { holder = k.holder; port = omega arith }))
formed_table s party n (entry name x key type) h p q r =
    let found : Option (ℕ × Entry) = entry_found (board_at s.standing.tables x.board) (keeps_key key) (value_detail type) in
    let new : BoardTables = with_read_handle s.standing.tables x name (entry_found (board_at s.standing.tables x.board) (keeps_key key) (value_detail type)) in
    let k = held_formed s.standing.tables party x n h r.1.found in
    formed_asked s.standing.tables (first_of (entry_refusals (entry_found (board_at s.standing.tables x.board) (keeps_key key) (value_detail type)))) (id_of (entry_found (board_at s.standing.tables x.board) (keeps_key key) (value_detail type))) new n h
    (λ _. formed_thing s.standing.tables new (record { holder = x.holder; name = name; board = x.board; kind = kind.ReadHandle (place_of (entry_found (board_at s.standing.tables x.board) (keeps_key key) (value_detail type))) }) n h h.boards (omega arith) refl (record { holder = k.holder; port = omega arith }))
formed_table s party n (entry_mut name x key type) h p q r =
    let new : BoardTables = with_write_handle s.standing.tables x name (entry_found (board_at s.standing.tables x.board) (keeps_key key) (value_detail type)) in
    let k = held_formed s.standing.tables party x n h r.1.found in
    formed_asked s.standing.tables (first_of (entry_mut_refusals s.standing.tables.things x.board (entry_found (board_at s.standing.tables x.board) (keeps_key key) (value_detail type)))) (id_of (entry_found (board_at s.standing.tables x.board) (keeps_key key) (value_detail type))) new n h
    (λ _. formed_thing s.standing.tables new (record { holder = x.holder; name = name; board = x.board; kind = kind.WriteHandle (place_of (entry_found (board_at s.standing.tables x.board) (keeps_key key) (value_detail type))) (port_of x.kind) }) n h h.boards (omega arith) refl (record { holder = k.holder; port = k.port }))
formed_table s party n (loan l) h p q r = formed_named s.standing.tables party l.handle l.loan n h
formed_table s party n (discard l) h p q r = formed_named s.standing.tables party l.loan l.handle n h
formed_table s party n (keys x) h p q r = formed_same s.standing.tables n h
formed_table s party n (nodes x) h p q r = formed_same s.standing.tables n h
formed_table s party n (info x) h p q r = formed_same s.standing.tables n h
formed_table s party n (id x) h p q r = formed_same s.standing.tables n h
formed_table s party n (gen x) h p q r = formed_same s.standing.tables n h
