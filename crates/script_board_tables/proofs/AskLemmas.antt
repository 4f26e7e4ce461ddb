-- Calls on the tables.
use Rattle.std.proofs.Common.{◌≡◌, ℕ, ◌+◌, Bool, true, false, cond, List, [], ◌∷◌, ◌++◌, length, map, Option, Some, None, refl, sym, ap, ◌∙◌, subst}
use Rattle.std.specs.Prelude.{◌==◌, ◌||◌, find, is_none, is_some, nat_eq, nat_lt, option_map, slice_get, unwrap_or}
use Rattle.std.specs.HashMap.{get}
use Rattle.std.specs.List.{list_any}
use Rattle.std.specs.Str.{bytes_eq}
use Rattle.std.specs.Global.{Vec}
use Rattle.std.proofs.lemmas.List.{length-map}
use Rattle.std.proofs.lemmas.Option.{slice_get-map, some_pair_parts}
use Rattle.board_layout.specs.Layout.{payload}
use Rattle.board_model.specs.declared.answer.Reply.{Reply}
use Rattle.board_model.specs.declared.answer.Reply.TheVariants as reply
use Rattle.board_model.specs.declared.attributes.Attribute.{Attribute}
use Rattle.board_model.specs.declared.tables.Board.{Board}
use Rattle.board_model.specs.declared.tables.Entry.{Entry}
use Rattle.board_model.specs.declared.attributes.Requirements.{Requirements}
use Rattle.board_model.specs.declared.tables.Limits.{Limits}
use Rattle.board_model.specs.declared.tables.NewLimits.{NewLimits}
use Rattle.board_model.specs.declared.tables.Kind.{Kind}
use Rattle.board_model.specs.declared.tables.Kind.TheVariants as kind
use Rattle.board_model.specs.declared.value.AddedEntry.{AddedEntry}
use Rattle.board_model.specs.declared.value.KeyType.{KeyType}
use Rattle.board_names.specs.declared.errors.boards.BlackboardCreateError.{BlackboardCreateError}
use Rattle.board_names.specs.declared.errors.boards.BlackboardCreateError.TheVariants as create_error
use Rattle.board_names.specs.declared.errors.boards.EntryHandleMutError.TheVariants as entry_mut_error
use Rattle.board_model.specs.Memory.{memory_after, opening_of, with_board}
use Rattle.board_model.specs.Replies.{Asked, added_of, ask, first_list, lists_after, told_by}
use Rattle.board_model.specs.Requests as requests
use Rattle.board_model.specs.Requests.{Published, Request}
use Rattle.board_model.specs.TableCalls.{asked, create_refusals, created, entry_asked, entry_mut_asked, entry_mut_refusals, entry_refusals, first_of, id_of, is_corrupted, joined, number_of, open_refusals, place_of, with_read_handle, with_thing, with_write_handle}
use Rattle.board_model.specs.Tables.{Tables, board_named, has_equal_keys, has_name, holds_at, is_write_handle, new_board, port_of, shapes_of}
use Rattle.board_model.specs.Things.{Held, Standing}
use Rattle.board_model.specs.TypeTable.{key_detail, same_key, value_words}
use Rattle.script_board_rows.specs.NewBoards.{AreFirstLists}
use Rattle.script_board_tables.specs.declared.tables.BoardTables.{BoardTables}
use Rattle.script_board_tables.specs.declared.tables.BoardRow.{BoardRow}
use Rattle.script_board_tables.specs.Calls.{place_and_id}
use Rattle.script_board_tables.specs.Steps.{Asks}
use Rattle.script_board_tables.specs.Tables.{Has, list_in, lists_in, memory_of, published_of, standing_of, tables_of, with_lists, words_in}
use Rattle.script_board_tables.proofs.TableLemmas.{lists_are, memory_is, turned_number}

abbrev Script : Type 0
Script = Tables (List ℕ) (List ℕ)

-- ---- what is told, by what refuses

module _ {E : Type 0} (s : Standing) (err : E → Reply) (n : ℕ) (after : Script) where
  refused : (o : Option E) (e : E) → o ≡ Some e → told_by s err (asked o n after s.tables) ≡ record { reply = err e; standing = s }
  refused o e h = rw h refl

  made : (o : Option E) → o ≡ None → told_by s err (asked o n after s.tables) ≡ record { reply = reply.Number n; standing = record s { tables = after } }
  made o h = rw h refl

-- a call is told so and leaves this, where that is what is asked
pub asks_by : (old new : BoardTables) (party : List ℕ) (q : Request) (told : Reply) (a : Asked) → ask (standing_of old) (published_of old) party q ≡ a → told ≡ a.reply
    → Has new a.standing (memory_after (memory_of old) q told) (lists_after (published_of old) q told) → Asks old new party q told
asks_by old new party q told a e t h = record {
  reply = t ∙ ap (λ (x : Asked). x.reply) (sym e);
  has = record { standing = h.standing ∙ ap (λ (x : Asked). x.standing) (sym e); memory = h.memory; lists = h.lists };
}

pub same : (t : BoardTables) → Has t (standing_of t) (memory_of t) (published_of t)
same t = record { standing = refl; memory = refl; lists = refl }

-- ---- lists

found_any : {X : Type 0} (p : X → Bool) (xs : List X) → is_some (find p xs) ≡ list_any p xs
found_any p [] = refl
found_any p (x ∷ xs) = elim (p x) as (λ b. is_some (cond b (Some x) (find p xs)) ≡ (b || list_any p xs)) [ true ↦ refl | false ↦ found_any p xs ]

-- ---- create

module _ (old : BoardTables) (party f name : List ℕ) (k : KeyType) (limits : NewLimits) (attributes : List Attribute) (added : List AddedEntry) where
  abbrev a_create : Request
  a_create = requests.table (requests.create f name k limits attributes added)

  abbrev refusal : Option BlackboardCreateError
  refusal = first_of (create_refusals (same_key k) old.boards.boards name (map added_of added))

  create_refused : (e : BlackboardCreateError) → refusal ≡ Some e → Asks old old party a_create (reply.CreateError e)
  create_refused e h = asks_by old old party a_create (reply.CreateError e) (record { reply = reply.CreateError e; standing = standing_of old })
      (refused (standing_of old) reply.CreateError (old.boards.last + 1) (created (tables_of old) party f name (key_detail k) limits attributes (map added_of added)) refusal e h) refl (same old)

  pub name_stands : is_some (find (has_name name) old.boards.boards) ≡ true → Asks old old party a_create (reply.CreateError create_error.AlreadyExists)
  name_stands h = create_refused create_error.AlreadyExists (rw (sym (found_any (has_name name) old.boards.boards) ∙ h) refl)

  module _ (free : is_some (find (has_name name) old.boards.boards) ≡ false) where
    any : list_any (has_name name) old.boards.boards ≡ false
    any = sym (found_any (has_name name) old.boards.boards) ∙ free

    pub none_added : (length added == 0) ≡ true → Asks old old party a_create (reply.CreateError create_error.NoEntriesProvided)
    none_added h = create_refused create_error.NoEntriesProvided (rw any (rw (ap (λ (n : ℕ). n == 0) (length-map added added_of) ∙ h) refl))

    module _ (some : (length added == 0) ≡ false) where
      count : (length (map added_of added) == 0) ≡ false
      count = ap (λ (n : ℕ). n == 0) (length-map added added_of) ∙ some

      by_keys : (b : Bool) → is_corrupted (same_key k) (map added_of added) ≡ b → refusal ≡ cond b (Some create_error.ServiceInCorruptedState) None
      by_keys true h = rw any (rw count (rw h refl))
      by_keys false h = rw any (rw count (rw h refl))

      or_true : (b : Bool) → (b || true) ≡ true
      or_true true = refl
      or_true false = refl

      pub equal_keys : has_equal_keys (same_key k) (map added_of added) ≡ true → Asks old old party a_create (reply.CreateError create_error.ServiceInCorruptedState)
      equal_keys h = create_refused create_error.ServiceInCorruptedState (by_keys true (rw h refl))

      pub too_large : nat_lt 4294967295 (payload (shapes_of (map added_of added))) ≡ true → Asks old old party a_create (reply.CreateError create_error.ServiceInCorruptedState)
      too_large h = create_refused create_error.ServiceInCorruptedState (by_keys true (rw h (or_true (has_equal_keys (same_key k) (map added_of added)))))

      list_is : (o : Option (Vec (List ℕ))) → list_in o ≡ unwrap_or (option_map (λ (v : Vec (List ℕ)). v.items) o) []
      list_is None = refl
      list_is (Some v) = refl

      first_is : (o : Option AddedEntry) → first_list o ≡ unwrap_or (option_map (λ (e : AddedEntry). value_words e.value ∷ []) o) []
      first_is None = refl
      first_is (Some e) = refl

      firsts : (published : List (Vec (List ℕ))) → AreFirstLists published added → (i : ℕ) → list_in (slice_get published i) ≡ first_list (slice_get added i)
      firsts published h i =
          list_is (slice_get published i)
          ∙ ap (λ (o : Option (List (List ℕ))). unwrap_or o []) (sym (slice_get-map (λ (v : Vec (List ℕ)). v.items) published i) ∙ ap (λ (xs : List (List (List ℕ))). slice_get xs i) h ∙ slice_get-map (λ (e : AddedEntry). value_words e.value ∷ []) added i)
          ∙ sym (first_is (slice_get added i))

      pub board_made : has_equal_keys (same_key k) (map added_of added) ≡ false → nat_lt 4294967295 (payload (shapes_of (map added_of added))) ≡ false
          → (new : BoardTables) (board : Board) (words : List ℕ) (published : List (Vec (List ℕ)))
          → board ≡ new_board (old.boards.last + 1) name (key_detail k) limits attributes (map added_of added) → words ≡ opening_of added → AreFirstLists published added
          → Has new (record (standing_of old) { tables = with_thing (record (tables_of old) { boards = (tables_of old).boards ++ board ∷ []; last_board = board.number }) (record { holder = party; name = f; board = board.number; kind = kind.Factory }) })
          (with_board (memory_of old) board.number words) (with_lists (published_of old) board.number published)
          → Asks old new party a_create (reply.Number (old.boards.last + 1))
      board_made keys small new board words published is opening first has =
          asks_by old new party a_create (reply.Number (old.boards.last + 1)) (record { reply = reply.Number (old.boards.last + 1); standing = record (standing_of old) { tables = created (tables_of old) party f name (key_detail k) limits attributes (map added_of added) } })
          (made (standing_of old) reply.CreateError (old.boards.last + 1) (created (tables_of old) party f name (key_detail k) limits attributes (map added_of added)) refusal (by_keys false (rw keys small))) refl
          (record {
            standing = has.standing ∙ ap (λ (b : Board). record (standing_of old) { tables = with_thing (record (tables_of old) { boards = (tables_of old).boards ++ b ∷ []; last_board = b.number }) (record { holder = party; name = f; board = b.number; kind = kind.Factory }) }) is;
            memory = has.memory ∙ ap (λ (b : Board). with_board (memory_of old) b.number words) is ∙ ap (λ (ws : List ℕ). with_board (memory_of old) (old.boards.last + 1) ws) opening;
            lists = has.lists ∙ ap (λ (b : Board). with_lists (published_of old) b.number published) is
                ∙ (λ t n i. cond (n == old.boards.last + 1) (firsts published first i t) (published_of old n i));
          })

-- ---- a row more

pub rowed : (old new : BoardTables) (number : ℕ) (row : BoardRow) → ((n : ℕ) → get nat_eq new.rows n ≡ cond (nat_eq number n) (Some row) (get nat_eq old.rows n))
    → (s : Standing) → standing_of new ≡ s → Has new s (with_board (memory_of old) number row.words.items) (with_lists (published_of old) number row.published.items)
rowed old new number row rows s standing = record {
  standing = standing;
  memory = memory_is new (with_board (memory_of old) number row.words.items) (λ n. ap words_in (rows n) ∙ at n (nat_eq number n) ∙ ap (λ (b : Bool). cond b row.words.items (memory_of old n)) (turned_number number n));
  lists = lists_are new (with_lists (published_of old) number row.published.items) (λ n i. ap (λ (o : Option BoardRow). lists_in o i) (rows n) ∙ of n i (nat_eq number n) ∙ ap (λ (b : Bool). cond b (list_in (slice_get row.published.items i)) (published_of old n i)) (turned_number number n));
}
  where
    at : (n : ℕ) (b : Bool) → words_in (cond b (Some row) (get nat_eq old.rows n)) ≡ cond b row.words.items (memory_of old n)
    at n true = refl
    at n false = refl

    of : (n i : ℕ) (b : Bool) → lists_in (cond b (Some row) (get nat_eq old.rows n)) i ≡ cond b (list_in (slice_get row.published.items i)) (published_of old n i)
    of n i true = refl
    of n i false = refl

-- ---- open

module _ (old : BoardTables) (party : List ℕ) (q : Request) where
  -- any call that is refused so
  pub call_refused : {E : Type 0} (err : E → Reply) (n : ℕ) (after : Script) (o : Option E) (e : E) → ask (standing_of old) (published_of old) party q ≡ told_by (standing_of old) err (asked o n after (tables_of old)) → o ≡ Some e
      → memory_after (memory_of old) q (err e) ≡ memory_of old → lists_after (published_of old) q (err e) ≡ published_of old → Asks old old party q (err e)
  call_refused err n after o e is h m l = asks_by old old party q (err e) (record { reply = err e; standing = standing_of old }) (is ∙ refused (standing_of old) err n after o e h) refl (record { standing = refl; memory = sym m; lists = sym l })

  -- any that is answered with a number
  pub call_made : {E : Type 0} (err : E → Reply) (n : ℕ) (after : Script) (o : Option E) → ask (standing_of old) (published_of old) party q ≡ told_by (standing_of old) err (asked o n after (tables_of old)) → o ≡ None
      → memory_after (memory_of old) q (reply.Number n) ≡ memory_of old → lists_after (published_of old) q (reply.Number n) ≡ published_of old
      → (new : BoardTables) → Has new (record (standing_of old) { tables = after }) (memory_of old) (published_of old) → Asks old new party q (reply.Number n)
  call_made err n after o is h m l new has = asks_by old new party q (reply.Number n) (record { reply = reply.Number n; standing = record (standing_of old) { tables = after } })
      (is ∙ made (standing_of old) err n after o h) refl (record { standing = has.standing; memory = has.memory ∙ sym m; lists = has.lists ∙ sym l })

  -- any that tells only
  pub call_told : (told : Reply) → ask (standing_of old) (published_of old) party q ≡ record { reply = told; standing = standing_of old }
      → memory_after (memory_of old) q told ≡ memory_of old → lists_after (published_of old) q told ≡ published_of old → Asks old old party q told
  call_told told is m l = asks_by old old party q told (record { reply = told; standing = standing_of old }) is refl (record { standing = refl; memory = sym m; lists = sym l })

-- ---- entries that were found

pub not_found : (found : Option (ℕ × Entry)) → None ≡ option_map place_and_id found → found ≡ None
not_found None e = refl
not_found (Some x) e = absurd cc

pub record IsFoundAs (found : Option (ℕ × Entry)) (place id : ℕ) : Type 0 where
  pub some : is_none found ≡ false
  pub at : place_of found ≡ place
  pub known : id_of found ≡ id
  pub test : (p : (ℕ × Entry) → Bool) (q : ℕ → Bool) → ((x : ℕ × Entry) → p x ≡ q x.0) → holds_at found p ≡ q place

pub found_as : (found : Option (ℕ × Entry)) (place id : ℕ) → Some (place, id) ≡ option_map place_and_id found → IsFoundAs found place id
found_as None place id e = absurd cc
found_as (Some x) place id e =
    let h = some_pair_parts place x.0 id x.1.cell.place e in
    record { some = refl; at = sym h.0; known = sym h.1; test = λ p q agree. agree x ∙ ap q (sym h.0) }

-- ---- handles

module _ (old new : BoardTables) (party name : List ℕ) (of : Held) (found : Option (ℕ × Entry)) (place id : ℕ) (f : IsFoundAs found place id) where
  abbrev with_kind : Kind → Standing
  with_kind k = record (standing_of old) { tables = with_thing (tables_of old) (record { holder = of.holder; name = name; board = of.board; kind = k }) }

  module _ (q : Request) (m : memory_after (memory_of old) q (reply.Number (id_of found)) ≡ memory_of old) (l : lists_after (published_of old) q (reply.Number (id_of found)) ≡ published_of old) where
    pub entry_made : ask (standing_of old) (published_of old) party q ≡ told_by (standing_of old) reply.EntryError (entry_asked (tables_of old) of name found)
        → Has new (with_kind (kind.ReadHandle place)) (memory_of old) (published_of old) → Asks old new party q (reply.Number id)
    entry_made is has = subst (λ (i : ℕ). Asks old new party q (reply.Number i)) f.known
        (call_made old party q reply.EntryError (id_of found) (with_read_handle (tables_of old) of name found) (first_of (entry_refusals found)) is (rw f.some refl) m l new
        (record { standing = has.standing ∙ ap (λ (p : ℕ). with_kind (kind.ReadHandle p)) (sym f.at); memory = has.memory; lists = has.lists }))

    pub entry_mut_made : ask (standing_of old) (published_of old) party q ≡ told_by (standing_of old) reply.EntryMutError (entry_mut_asked (tables_of old) of name found)
        → list_any (is_write_handle of.board place) old.things ≡ false
        → (port : ℕ) → port ≡ port_of of.kind → Has new (with_kind (kind.WriteHandle place port)) (memory_of old) (published_of old) → Asks old new party q (reply.Number id)
    entry_mut_made is free port port_is has = subst (λ (i : ℕ). Asks old new party q (reply.Number i)) f.known
        (call_made old party q reply.EntryMutError (id_of found) (with_write_handle (tables_of old) of name found) (first_of (entry_mut_refusals old.things of.board found)) is
        (rw (f.some, f.test (λ x. list_any (is_write_handle of.board x.0) old.things) (λ p. list_any (is_write_handle of.board p) old.things) (λ x. refl) ∙ free) refl) m l new
        (record { standing = has.standing ∙ ap (λ (n : ℕ). with_kind (kind.WriteHandle place n)) port_is ∙ ap (λ (p : ℕ). with_kind (kind.WriteHandle p (port_of of.kind))) (sym f.at); memory = has.memory; lists = has.lists }))

  pub second_handle : (q : Request) → ask (standing_of old) (published_of old) party q ≡ told_by (standing_of old) reply.EntryMutError (entry_mut_asked (tables_of old) of name found)
      → list_any (is_write_handle of.board place) old.things ≡ true
      → memory_after (memory_of old) q (reply.EntryMutError entry_mut_error.HandleAlreadyExists) ≡ memory_of old → lists_after (published_of old) q (reply.EntryMutError entry_mut_error.HandleAlreadyExists) ≡ published_of old
      → Asks old old party q (reply.EntryMutError entry_mut_error.HandleAlreadyExists)
  second_handle q is taken m l = call_refused old party q reply.EntryMutError (id_of found) (with_write_handle (tables_of old) of name found) (first_of (entry_mut_refusals old.things of.board found)) entry_mut_error.HandleAlreadyExists is
      (rw (f.some, f.test (λ x. list_any (is_write_handle of.board x.0) old.things) (λ p. list_any (is_write_handle of.board p) old.things) (λ x. refl) ∙ taken) refl) m l

-- ---- openings

-- an opening that nothing refuses
pub opened : (old new : BoardTables) (party f name : List ℕ) (k : KeyType) (limits : Limits) (needs : Requirements) (number : ℕ) → number ≡ number_of (board_named (tables_of old) name)
    → first_of (open_refusals bytes_eq old.things party (board_named (tables_of old) name) (key_detail k) limits needs) ≡ None
    → Has new (record (standing_of old) { tables = with_thing (tables_of old) (record { holder = party; name = f; board = number; kind = kind.Factory }) }) (memory_of old) (published_of old)
    → Asks old new party (requests.table (requests.open_ f name k limits needs)) (reply.Number number)
opened old new party f name k limits needs number is none has =
    let board = board_named (tables_of old) name in
    subst (λ (n : ℕ). Asks old new party (requests.table (requests.open_ f name k limits needs)) (reply.Number n)) (sym is)
    (call_made old party (requests.table (requests.open_ f name k limits needs)) reply.OpenError (number_of board) (joined (tables_of old) party f board)
    (first_of (open_refusals bytes_eq old.things party board (key_detail k) limits needs)) refl none refl refl new
    (record {
      standing = has.standing ∙ ap (λ (n : ℕ). record (standing_of old) { tables = with_thing (tables_of old) (record { holder = party; name = f; board = n; kind = kind.Factory }) }) is;
      memory = has.memory;
      lists = has.lists;
    }))
