-- What the board asked one call at a time tells is of the answer grammar.
use Rattle.std.proofs.Common.{◌≡◌, ℕ, zero, suc, ◌+◌, ◌^◌, ◌<◌, ◌≤◌, Bool, true, false, cond, List, [], ◌∷◌, length, map, arith, refl, sym, subst, ◌∙◌, Option, Some, None}
use Rattle.std.specs.Prelude.{is_some, slice_index, ◌&&◌, not}
use Rattle.std.specs.List.{AllByRecursion, list_any}
use Rattle.std.specs.Str.{bytes_eq}
use Rattle.std.proofs.lemmas.Bool.{eq-eqb}
use Rattle.std.proofs.lemmas.List.Sums.{count_by-le-length}
use Rattle.board_model.specs.declared.answer.Reply.{Reply}
use Rattle.board_model.specs.declared.answer.Reply.TheVariants as reply
use Rattle.board_model.specs.declared.tables.Board.{Board}
use Rattle.board_model.specs.declared.tables.Entry.{Entry}
use Rattle.board_model.specs.declared.tables.Kind.{Kind}
use Rattle.board_model.specs.declared.tables.Kind.TheVariants as kind
use Rattle.board_model.specs.declared.value.Key.{Key}
use Rattle.board_model.specs.declared.value.KeyType.{KeyType}
use Rattle.board_model.specs.declared.value.ValueType.{ValueType}
use Rattle.board_model.specs.LineGrammar.{IsKey, IsNumber, is_name}
use Rattle.board_model.specs.AnswerGrammar.{IsReply, is_create_reply, is_entry_mut_reply, is_entry_reply, is_open_reply, is_reader_reply, is_writer_reply}
use Rattle.board_cell_model.specs.OwedAccesses.{current_at}
use Rattle.board_model.specs.TypeTable.{key_bytes, key_detail, key_of, key_type_of, same_key, type_of_key, value_detail}
use Rattle.board_model.specs.Tables.{board_at, board_named, entry_at, entry_found, entry_of, has_name, is_last_of_port, is_node, is_numbered, is_of_board, is_reader_of, nodes_taken, port_of, writer_slots}
use Rattle.board_model.specs.TableCalls.{asked, create_refusals, created, entry_mut_refusals, entry_refusals, first_of, id_of, joined, number_of, open_refusals, reader_refusals, with_read_handle, with_reader, with_write_handle, with_writer, writer_refusals}
use Rattle.board_model.specs.Things.{Held, is_held_as}
use Rattle.board_model.specs.Requests.{Request, TableCall, create, info, entry, entry_mut, fill, fresh, get, discard, handled, id, open_, loan, keys, nodes, publish, put, reader, table, gen, update, writer}
use Rattle.board_model.specs.Replies.{added_of, ask, ask_tables, id_number, info_of, is_before, keeps_key, keys_in, keys_of, latest, nodes_of, number_or, place_in, placed_once}
use Rattle.board_model.specs.Parties.{Running}
use Rattle.board_model.specs.LawfulSession.{State}
use Rattle.board_model.specs.Sound.{BoardTables, HasBoard, IsCalling, IsTableCall, Sound}
use Rattle.board_model.specs.LawsOfBounds.{AreNumbers, IsWithin}
use Rattle.board_model.specs.LawsOfForms.{AreFormed, IsFormedBoard, IsFormedEntry, IsFormedInTable, IsFormedRequest, IsFormedThing}
use Rattle.board_model.proofs.ListLemmas.{any_found, find_any}
use Rattle.board_model.proofs.ThingLemmas.{all_found}
use Rattle.board_model.proofs.RunningLemmas.{own_cell}
use Rattle.board_model.proofs.IdLaws.{found_in, placed_at}
use Rattle.board_model.proofs.KeptKeyLemmas.{told_as_added}

-- ---- numbers and errors

-- the first refusal is one of them
one_told : {E : Type 0} (is : E → Bool) (rs : List (Bool × E)) → AllByRecursion (λ (r : Bool × E). is r.1 ≡ true) rs → (e : E) → first_of rs ≡ Some e → is e ≡ true
one_told is [] h e q = absurd cc
one_told {E = E} is (r ∷ rs) h e q = at r.0 (one_told is rs h.1 e) q
  where
    at : (z : Bool) → (first_of rs ≡ Some e → is e ≡ true) → cond z (Some r.1) (first_of rs) ≡ Some e → is e ≡ true
    at true ih k =
        let p : r.1 ≡ e = cc in
        subst (λ (y : E). is y ≡ true) p h.0
    at false ih k = ih k

told_number : {E : Type 0} (error : E → Reply) (o : Option E) (x : ℕ) (new t : BoardTables) → IsNumber x → ((e : E) → o ≡ Some e → IsReply (error e)) → IsReply (number_or error (asked o x new t).0)
told_number error None x new t h k = h
told_number error (Some e) x new t h k = k e refl

-- ---- what a number may be

module _ (s : State) (sound : Sound s) (n : ℕ) (w : IsWithin s n) (lt : n < 2 ^ 63) (numbers : AreNumbers s) (forms : AreFormed s n) where
  place_number : (b i : ℕ) (e : Entry) → entry_at s.standing.tables b i ≡ Some e → IsNumber e.cell.place
  place_number b i e f =
      let c = sound.boards.cells b i e f in
      omega (arith, sound.boards.placed b i e f, c.inside, c.head, sound.boards.short b i e f)

  found_number : (b : ℕ) (k : Key) (u : ValueType) (o : Option (ℕ × Entry)) → entry_found (board_at s.standing.tables b) (keeps_key k) (value_detail u) ≡ o → IsNumber (id_of o)
  found_number b k u None e = omega arith
  found_number b k u (Some x) e =
      let f = found_in s.standing.tables b k u x.0 x.1.cell.place x (board_at s.standing.tables b) refl e refl refl in
      let g : entry_at s.standing.tables b x.0 ≡ Some f.item = placed_at s.standing.tables b x.0 f.board (keeps_key k) f.item f.stands f.first in
      let p : IsNumber f.item.cell.place = place_number b x.0 f.item g in
      omega (arith, f.told, p)

  handled_number : (b i : ℕ) (o : Option Entry) → entry_at s.standing.tables b i ≡ o → IsNumber (place_in o)
  handled_number b i None e = omega arith
  handled_number b i (Some x) e = place_number b i x e

  named_number : (name : List ℕ) (o : Option Board) → board_named s.standing.tables name ≡ o → IsNumber (number_of o)
  named_number name None e = omega arith
  named_number name (Some b) e =
      let a : list_any (is_numbered b.number) s.standing.tables.boards ≡ true = any_found (has_name name) (is_numbered b.number) s.standing.tables.boards b e (eq-eqb b.number b.number refl) in
      let f = find_any (is_numbered b.number) s.standing.tables.boards a in
      omega (arith, sound.boards.numbered b.number f.item f.found, w.boards)

  -- ---- keys, nodes, what is told of a board

  key_told : (k : KeyType) (e : Entry) → IsFormedEntry k e → IsKey (key_of k e.key.bytes)
  key_told k e h =
      let a : key_of k e.key.bytes ≡ key_of (type_of_key h.added) (key_bytes h.added) = rw (h.bytes, h.type) refl in
      subst IsKey (sym (a ∙ told_as_added h.added h.key)) h.key

  keys_told : (k : KeyType) (es : List Entry) → AllByRecursion (IsFormedEntry k) es → AllByRecursion IsKey (keys_of k es)
  keys_told k [] h = tt
  keys_told k (e ∷ es) h = (key_told k e h.0, keys_told k es h.1)

  keys_known : (b : ℕ) (o : Option Board) → board_at s.standing.tables b ≡ o → AllByRecursion IsKey (keys_in o)
  keys_known b None e = tt
  keys_known b (Some x) e = keys_told (key_type_of x.key) x.entries (all_found IsFormedBoard (is_numbered b) s.standing.tables.boards x forms.tables.boards e).keys

  placed_names : (x : List ℕ) (names : List (List ℕ)) → is_name x ≡ true → AllByRecursion (λ (m : List ℕ). is_name m ≡ true) names → AllByRecursion (λ (m : List ℕ). is_name m ≡ true) (placed_once x names)
  placed_names x [] h k = (h, tt)
  placed_names x (y ∷ ys) h k = at (bytes_eq x y) (is_before x y) (placed_names x ys h k.1)
    where
      at : (a b : Bool) → AllByRecursion (λ (m : List ℕ). is_name m ≡ true) (placed_once x ys) → AllByRecursion (λ (m : List ℕ). is_name m ≡ true) (cond a (y ∷ ys) (cond b (x ∷ y ∷ ys) (y ∷ placed_once x ys)))
      at true b ih = k
      at false true ih = (h, k)
      at false false ih = (k.0, ih)

  names_told : (b : ℕ) (last : ℕ) (things : List Held) → AllByRecursion (IsFormedThing last) things → AllByRecursion (λ (m : List ℕ). is_name m ≡ true) (nodes_of b things)
  names_told b last [] h = tt
  names_told b last (t ∷ ts) h = at (is_of_board b t) (names_told b last ts h.1)
    where
      at : (z : Bool) → AllByRecursion (λ (m : List ℕ). is_name m ≡ true) (nodes_of b ts) → AllByRecursion (λ (m : List ℕ). is_name m ≡ true) (cond z (placed_once t.holder (nodes_of b ts)) (nodes_of b ts))
      at true ih = placed_names t.holder (nodes_of b ts) h.0.holder ih
      at false ih = ih

  slots_few : (b : ℕ) (things : List Held) → writer_slots b things ≤ length things
  slots_few b [] = omega arith
  slots_few b (t ∷ ts) = at (is_last_of_port b t ts) (slots_few b ts)
    where
      at : (z : Bool) → writer_slots b ts ≤ length ts → cond z (writer_slots b ts + 1) (writer_slots b ts) ≤ length (t ∷ ts)
      at true ih = omega (arith, ih)
      at false ih = omega (arith, ih)

  nodes_few : (b : ℕ) (things : List Held) → nodes_taken bytes_eq b things ≤ length things
  nodes_few b [] = omega arith
  nodes_few b (t ∷ ts) = at (is_of_board b t && not (is_node bytes_eq b t.holder ts)) (nodes_few b ts)
    where
      at : (z : Bool) → nodes_taken bytes_eq b ts ≤ length ts → cond z (nodes_taken bytes_eq b ts + 1) (nodes_taken bytes_eq b ts) ≤ length (t ∷ ts)
      at true ih = omega (arith, ih)
      at false ih = omega (arith, ih)

  info_told : (b : ℕ) (o : Option Board) → board_at s.standing.tables b ≡ o → is_some o ≡ true → IsReply (reply.Info (info_of s.standing.tables.things o))
  info_told b None e h = absurd cc
  info_told b (Some x) e h =
      let f = all_found IsFormedBoard (is_numbered b) s.standing.tables.boards x forms.tables.boards e in
      let few : length s.standing.tables.things ≤ n = forms.tables.few in
      record {
        name = f.name;
        max_readers = f.readers;
        max_nodes = f.nodes;
        max_writers = f.writers;
        entries = omega (arith, f.entries);
        attributes = omega (arith, f.attributes);
        readers = omega (arith, count_by-le-length (is_reader_of x.number) s.standing.tables.things);
        writers = omega (arith, slots_few x.number s.standing.tables.things);
        nodes = omega (arith, nodes_few x.number s.standing.tables.things);
      }

  id_told : (x : Held) (k : Kind) → port_of k ≤ n → IsNumber (id_number s.standing x k)
  id_told x kind.Factory h = handled_number x.board _ (handled s.standing x) refl
  id_told x (kind.Reader port) h = omega (arith, h)
  id_told x (kind.Writer port) h = omega (arith, h)
  id_told x (kind.ReadHandle i) h = handled_number x.board _ (handled s.standing x) refl
  id_told x (kind.WriteHandle i port) h = handled_number x.board _ (handled s.standing x) refl

  -- ---- replies

  table_told : (party : List ℕ) (c : TableCall) → IsFormedInTable n c → IsTableCall s party c → IsReply (ask_tables s.standing s.published party c).reply
  table_told party (create f name k limits attributes entries) h r =
      told_number reply.CreateError (first_of (create_refusals (same_key k) s.standing.tables.boards name (map added_of entries))) (s.standing.tables.last_board + 1) (created s.standing.tables party f name (key_detail k) limits attributes (map added_of entries)) s.standing.tables
      (omega (arith, w.boards)) (λ e q. one_told is_create_reply (create_refusals (same_key k) s.standing.tables.boards name (map added_of entries)) (refl, (refl, (refl, tt))) e q)
  table_told party (open_ f name k limits needs) h r =
      told_number reply.OpenError (first_of (open_refusals bytes_eq s.standing.tables.things party (board_named s.standing.tables name) (key_detail k) limits needs)) (number_of (board_named s.standing.tables name)) (joined s.standing.tables party f (board_named s.standing.tables name)) s.standing.tables
      (named_number name (board_named s.standing.tables name) refl)
      (λ e q. one_told is_open_reply (open_refusals bytes_eq s.standing.tables.things party (board_named s.standing.tables name) (key_detail k) limits needs) (refl, (refl, (refl, (refl, (refl, (refl, tt)))))) e q)
  table_told party (reader name x) h r =
      told_number reply.ReaderError (first_of (reader_refusals s.standing.tables.things (board_at s.standing.tables x.board))) (s.standing.tables.last_port + 1) (with_reader s.standing.tables x name) s.standing.tables
      (omega (arith, w.ports)) (λ e q. one_told is_reader_reply (reader_refusals s.standing.tables.things (board_at s.standing.tables x.board)) (refl, tt) e q)
  table_told party (writer name x) h r =
      told_number reply.WriterError (first_of (writer_refusals s.standing.tables.things (board_at s.standing.tables x.board))) (s.standing.tables.last_port + 1) (with_writer s.standing.tables x name) s.standing.tables
      (omega (arith, w.ports)) (λ e q. one_told is_writer_reply (writer_refusals s.standing.tables.things (board_at s.standing.tables x.board)) (refl, tt) e q)
  table_told party (entry name x k type) h r =
      told_number reply.EntryError (first_of (entry_refusals (entry_found (board_at s.standing.tables x.board) (keeps_key k) (value_detail type)))) (id_of (entry_found (board_at s.standing.tables x.board) (keeps_key k) (value_detail type)))
      (with_read_handle s.standing.tables x name (entry_found (board_at s.standing.tables x.board) (keeps_key k) (value_detail type))) s.standing.tables
      (found_number x.board k type (entry_found (board_at s.standing.tables x.board) (keeps_key k) (value_detail type)) refl)
      (λ e q. one_told is_entry_reply (entry_refusals (entry_found (board_at s.standing.tables x.board) (keeps_key k) (value_detail type))) (refl, tt) e q)
  table_told party (entry_mut name x k type) h r =
      told_number reply.EntryMutError (first_of (entry_mut_refusals s.standing.tables.things x.board (entry_found (board_at s.standing.tables x.board) (keeps_key k) (value_detail type)))) (id_of (entry_found (board_at s.standing.tables x.board) (keeps_key k) (value_detail type)))
      (with_write_handle s.standing.tables x name (entry_found (board_at s.standing.tables x.board) (keeps_key k) (value_detail type))) s.standing.tables
      (found_number x.board k type (entry_found (board_at s.standing.tables x.board) (keeps_key k) (value_detail type)) refl)
      (λ e q. one_told is_entry_mut_reply (entry_mut_refusals s.standing.tables.things x.board (entry_found (board_at s.standing.tables x.board) (keeps_key k) (value_detail type))) (refl, (refl, tt)) e q)
  table_told party (loan l) h r = tt
  table_told party (discard l) h r = tt
  table_told party (keys x) h r = keys_known x.board (board_at s.standing.tables x.board) refl
  table_told party (nodes x) h r = names_told x.board s.standing.tables.last_port s.standing.tables.things forms.tables.things
  table_told party (info x) h r = info_told x.board (board_at s.standing.tables x.board) refl (all_found (HasBoard s.standing.tables) (is_held_as party x.name) s.standing.tables.things x sound.things.standing r.found)
  table_told party (id x) h r = id_told x x.kind h
  table_told party (gen x) h r = omega (arith, w.lists x.board (entry_of x.kind))

  -- the last value stands in the memory
  all_numbers : (xs : List ℕ) → ((k : ℕ) → k < length xs → IsNumber (slice_index xs k)) → AllByRecursion IsNumber xs
  all_numbers [] h = tt
  all_numbers (x ∷ xs) h = (h zero (omega arith), all_numbers xs (λ k l. h (suc k) (omega arith)))

  pub reply_told : (party : List ℕ) (r : Running) (q : Request) → IsFormedRequest n q → IsCalling s party r q → IsReply (ask s.standing s.published party q).reply
  reply_told party r (table c) h k = table_told party c h k.1
  reply_told party r (get f) h k =
      let c = own_cell s sound f.board f.entry f.shape k.place in (
        all_numbers (latest (s.published f.board f.entry)) (λ j l. subst IsNumber (c.current j l) (numbers.words f.board (current_at f.shape (length (s.published f.board f.entry)) + j))),
        omega (arith, w.lists f.board f.entry),
      )
  reply_told party r (fresh l) h k = tt
  reply_told party r (update u) h k = tt
  reply_told party r (put l i x) h k = tt
  reply_told party r (publish l) h k = tt
  reply_told party r (fill l v) h k = tt

  pub memory_told : (b : ℕ) → AllByRecursion IsNumber (s.memory b)
  memory_told b = all_numbers (s.memory b) (λ k l. numbers.words b k)
