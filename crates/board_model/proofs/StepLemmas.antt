-- A step of a running call keeps a sound state sound.
use Rattle.std.proofs.Common.{◌≡◌, ℕ, suc, ◌+◌, ◌*◌, ◌%◌, ◌<◌, ◌≤◌, Bool, true, false, cond, List, [], ◌∷◌, ◌++◌, length, map, get_or, arith, refl, sym, ap, subst, ◌∙◌, Option, Some, None, inl, inr}
use Rattle.std.specs.Prelude.{find, is_none, is_some, slice_get, slice_index, ◌⊎◌, ◌==◌, ◌&&◌, nat_le, nat_lt, IfSome, if◌then◌else◌}
use Rattle.std.specs.List.{list_any}
use Rattle.std.specs.Str.{bytes_eq}
use Rattle.std.proofs.lemmas.Bool.{and_from, and_parts, both_ways, cases_Bool, eq-eqb, eqb-true, false_from_ne_true, le-leb, leb-false, leb-true, ltb-false, ne_eqb, or_parts}
use Rattle.std.proofs.lemmas.List.{length_push}
use Rattle.std.proofs.lemmas.Option.{get_or_from_slice_get, same_Some}
use Rattle.board_layout.specs.declared.shape.CellShape.{CellShape}
use Rattle.board_layout.specs.declared.type_detail.TypeDetail.{TypeDetail}
use Rattle.board_layout.specs.Layout.{payload}
use Rattle.board_cell_model.specs.declared.access.Access.{Access}
use Rattle.board_cell_model.specs.declared.access.Access.TheVariants as access
use Rattle.board_model.specs.declared.answer.Reply.{Reply}
use Rattle.board_model.specs.declared.answer.Reply.TheVariants as reply
use Rattle.board_model.specs.declared.attributes.Attribute.{Attribute}
use Rattle.board_model.specs.declared.attributes.Requirements.{Requirements}
use Rattle.board_names.specs.declared.errors.boards.BlackboardCreateError.{BlackboardCreateError}
use Rattle.board_names.specs.declared.errors.boards.BlackboardCreateError.TheVariants as create_error
use Rattle.board_names.specs.declared.errors.boards.BlackboardOpenError.{BlackboardOpenError}
use Rattle.board_model.specs.declared.tables.Board.{Board}
use Rattle.board_model.specs.declared.tables.Entry.{Entry}
use Rattle.board_names.specs.declared.errors.boards.EntryHandleMutError.TheVariants as entry_mut_error
use Rattle.board_model.specs.declared.tables.Kind.{Kind}
use Rattle.board_model.specs.declared.tables.Kind.TheVariants as kind
use Rattle.board_model.specs.declared.tables.Limits.{Limits}
use Rattle.board_model.specs.declared.tables.NewLimits.{NewLimits}
use Rattle.board_model.specs.declared.value.AddedEntry.{AddedEntry}
use Rattle.board_model.specs.declared.value.Key.{Key}
use Rattle.board_model.specs.declared.value.KeyType.{KeyType}
use Rattle.board_model.specs.declared.value.Value.{Value}
use Rattle.board_model.specs.declared.value.ValueType.{ValueType}
use Rattle.board_model.specs.TypeTable.{key_detail, same_key, same_type, value_detail, value_words}
use Rattle.board_cell_model.specs.OwedAccesses.{spare_at}
use Rattle.board_cell_model.specs.OwedAccesses.{Reading, finished, hear, is_finished, opening, owed_of, owed_read, owed_write, to_read, to_table, to_write, trying}
use Rattle.board_model.specs.Tables.{board_at, board_named, entry_at, entry_found, entry_from, entry_in, has_equal_keys, has_name, is_numbered, is_write_handle, of_type, port_of, shapes_of}
use Rattle.board_model.specs.TableCalls.{asked, entry_mut_refusals, entry_refusals, id_of, create_refusals, created, first_of, is_corrupted, joined, number_of, open_refusals, place_of, with_thing}
use Rattle.board_model.specs.Things.{Held, Standing, thing_of}
use Rattle.board_model.specs.Requests.{Fetch, Lending, Publication, Request, TableCall, create, info, entry, entry_mut, fill, fresh, get, discard, id, open_, loan, keys, nodes, publish, put, reader, table, gen, update, writer}
use Rattle.board_model.specs.Replies.{Asked, added_of, ask, given_back, keeps_key, lists_after, told_by, with_fetched, word_put}
use Rattle.board_model.specs.Memory.{IsStanding, memory_after}
use Rattle.board_model.specs.Parties.{Party, Running, free, is_done, owed, reading, running, with_party}
use Rattle.board_model.specs.LawfulSession.{State, stepped}
use Rattle.board_model.specs.Sound.{BoardTables, HasBoard, HasEntryAt, IsCalling, IsFree, IsGetting, IsPublishing, IsReading, IsTableCall, Sound, is_suspended}
use Rattle.board_model.proofs.ListLemmas.{any_found, find_any}
use Rattle.board_model.proofs.ThingLemmas.{all_found, found_as}
use Rattle.board_model.proofs.GetLemmas.{IsRead, goes_on, reading_push}
use Rattle.board_model.proofs.TableLemmas.{IsCalm, IsFewer, IsNewThing, ended_loan, give_back_sound, grown_sound, lend_sound, none_some, valued_sound}
use Rattle.board_model.proofs.CreateLemmas.{create_sound}
use Rattle.board_model.proofs.StoreLemmas.{IsThere, own_cell}
use Rattle.board_model.proofs.PublishLemmas.{own_given_back, own_same, publish_sound, put_sound, write_word, wrote_word}

-- ---- accesses

table_is : (a : Access) → owed_of a ≡ to_table → a ≡ access.Table
table_is access.Table e = refl
table_is (access.Read b i v) e = absurd cc
table_is (access.Write b i v) e = absurd cc

pub read_is : (a : Access) (b i : ℕ) → owed_of a ≡ to_read b i → (v : ℕ) × (a ≡ access.Read b i v)
read_is access.Table b i e = absurd cc
read_is (access.Read c j v) b i e = (v, cc)
read_is (access.Write c j v) b i e = absurd cc

pub write_is : (a : Access) (b i v : ℕ) → owed_of a ≡ to_write b i v → a ≡ access.Write b i v
write_is access.Table b i v e = absurd cc
write_is (access.Read c j x) b i v e = absurd cc
write_is (access.Write c j x) b i v e = cc

-- the word that a get reads next
abbrev pub read_word : CellShape → Reading → ℕ
read_word c opening = c.first
read_word c (trying counter words) = if length words == c.words then c.first else (c.first + c.head + (counter + 1) % 2 * c.words) + length words
read_word c (finished counter words) = c.first

pub owed_read_is : (b : ℕ) (c : CellShape) (r : Reading) → owed_read b c r ≡ to_read b (read_word c r)
owed_read_is b c opening = refl
owed_read_is b c (trying counter words) = refl
owed_read_is b c (finished counter words) = refl

-- ---- the rules that a step meets

abbrev pub calling : Request → List Access → ℕ → Running
calling q so_far passed = record { request = q; so_far = so_far; passed = passed }

pub record IsStepOf (s : State) (party : List ℕ) (r : Running) (a : Access) (told : Option Reply) : Type 0 where
  pub next : owed_of a ≡ owed r.request r.so_far
  pub word : IsStanding s.memory a
  pub last : is_some told ≡ is_done r.request (r.so_far ++ a ∷ [])
  pub reply : IfSome told (λ x. x ≡ (ask s.standing s.published party r.request).reply)

-- a call of one access is told its reply
told_one : (so_far : List Access) (a : Access) (told : Option Reply) → is_some told ≡ nat_le 1 (length (so_far ++ a ∷ [])) → (t : Reply) × (told ≡ Some t)
told_one so_far a None e =
    let n = length_push so_far a in
    let t : nat_le 1 (length (so_far ++ a ∷ [])) ≡ true = le-leb 1 (length (so_far ++ a ∷ [])) (omega (arith, n)) in
    absurd cc
told_one so_far a (Some t) e = (t, refl)

told_reply : (told : Option Reply) (t x : Reply) → told ≡ Some t → IfSome told (λ y. y ≡ x) → t ≡ x
told_reply None t x e h = absurd cc
told_reply (Some y) t x e h =
    let q : y ≡ t = cc in
    sym q ∙ h

-- a call of one access that is known
known_step : (s : State) (party : List ℕ) (r : Running) (a x : Access) (told : Option Reply) → a ≡ x → is_some told ≡ nat_le 1 (length (r.so_far ++ a ∷ [])) → ((t : Reply) → told ≡ Some t → Sound (stepped s party r x (Some t))) → Sound (stepped s party r a told)
known_step s party r a x told q e k =
    let t = told_one r.so_far a told e in
    subst (λ (y : Access). Sound (stepped s party r y told)) (sym q) (subst (λ (y : Option Reply). Sound (stepped s party r x y)) (sym t.1) (k t.0 t.1))

-- ---- tables after a call

-- what stands afterwards, the party being free
abbrev standing_state : State → List ℕ → Standing → State
standing_state s party new = record s { standing = new; parties = with_party s.parties party free }

same_sound : (s : State) (party : List ℕ) → Sound s → IsCalm s party → Sound (standing_state s party s.standing)
same_sound s party sound calm = valued_sound s party free s.standing.values sound (λ n i _. calm n i) tt

-- a call that is refused, or makes a thing
made_or_not : {E : Type 0} (s : State) (party : List ℕ) (error : E → Reply) (o : Option E) (n : ℕ) (y : Held) (last_port : ℕ) → Sound s → IsCalm s party → (o ≡ None → IsNewThing s.standing party y)
    → Sound (standing_state s party (told_by s.standing error (asked o n (with_thing (record s.standing.tables { last_port = last_port }) y) s.standing.tables)).standing)
made_or_not s party error None n y last_port sound calm h = grown_sound s party y last_port sound calm (h refl)
made_or_not s party error (Some e) n y last_port sound calm h = same_sound s party sound calm

-- a thing that isn't a write handle makes no second one
no_second : (t : BoardTables) (y : Held) → ((n i : ℕ) → is_write_handle n i y ≡ false) → IsFewer t y
no_second t y h n i = inl (h n i)

and_none : (b : Bool) → (b && false) ≡ false
and_none true = refl
and_none false = refl

-- the board of what a call uses
board_of_held : (s : State) → Sound s → (party name : List ℕ) (x : Held) → thing_of s.standing.tables.things party name ≡ Some x → is_some (board_at s.standing.tables x.board) ≡ true
board_of_held s sound party name x f = all_found (HasBoard s.standing.tables) _ s.standing.tables.things x sound.things.standing f

-- ---- create

abbrev create_state : State → List ℕ → List ℕ → List ℕ → KeyType → NewLimits → List Attribute → List AddedEntry → Asked → State
create_state s party f name k limits attributes entries a = record {
  memory = memory_after s.memory (table (create f name k limits attributes entries)) a.reply;
  published = lists_after s.published (table (create f name k limits attributes entries)) a.reply;
  parties = with_party s.parties party free;
  standing = a.standing;
}

module _ (s : State) (sound : Sound s) (party f name : List ℕ) (k : KeyType) (limits : NewLimits) (attributes : List Attribute) (entries : List AddedEntry) (calm : IsCalm s party) (unheld : IsFree s.standing party f) where
  -- the name is free, and the cells are small
  abbrev MayBeMade : Type 0
  MayBeMade = (list_any (has_name name) s.standing.tables.boards ≡ false) × (payload (shapes_of (map added_of entries)) ≤ 4294967295)

  create_told : (o : Option BlackboardCreateError) → (o ≡ None → MayBeMade)
      → Sound (create_state s party f name k limits attributes entries (told_by s.standing reply.CreateError (asked o (s.standing.tables.last_board + 1) (created s.standing.tables party f name (key_detail k) limits attributes (map added_of entries)) s.standing.tables)))
  create_told None may = let m = may refl in create_sound s party f name k limits attributes entries sound calm unheld m.0 m.1
  create_told (Some e) may = same_sound s party sound calm

  allowed : (x y z : Bool) → (z ≡ false → payload (shapes_of (map added_of entries)) ≤ 4294967295) → first_of ((x, create_error.AlreadyExists) ∷ (y, create_error.NoEntriesProvided) ∷ (z, create_error.ServiceInCorruptedState) ∷ []) ≡ None
      → (x ≡ false) × (payload (shapes_of (map added_of entries)) ≤ 4294967295)
  allowed true y z h e = absurd cc
  allowed false true z h e = absurd cc
  allowed false false true h e = absurd cc
  allowed false false false h e = (refl, h refl)

  create_step : (t : Reply) (so_far : List Access) (passed : ℕ) → t ≡ (ask s.standing s.published party (table (create f name k limits attributes entries))).reply → Sound (stepped s party (calling (table (create f name k limits attributes entries)) so_far passed) access.Table (Some t))
  create_step t so_far passed e = subst (λ (x : Reply). Sound (stepped s party (calling (table (create f name k limits attributes entries)) so_far passed) access.Table (Some x))) (sym e)
      (create_told (first_of (create_refusals (same_key k) s.standing.tables.boards name (map added_of entries)))
      (allowed (list_any (has_name name) s.standing.tables.boards) (length (map added_of entries) == 0) (is_corrupted (same_key k) (map added_of entries))
      (λ h. ltb-false 4294967295 (payload (shapes_of (map added_of entries))) (or_parts (has_equal_keys (same_key k) (map added_of entries)) (nat_lt 4294967295 (payload (shapes_of (map added_of entries)))) h).1)))

-- ---- open

abbrev head_test : {E : Type 0} → List (Bool × E) → Bool
head_test [] = false
head_test (r ∷ rs) = r.0

-- where no refusal holds, the first doesn't
first_head : {E : Type 0} (rs : List (Bool × E)) → first_of rs ≡ None → head_test rs ≡ false
first_head [] e = refl
first_head {E = E} (r ∷ rs) e = at r.0 e
  where
    at : (b : Bool) → (if b then Some r.1 else first_of rs) ≡ None → b ≡ false
    at true q = absurd cc
    at false q = refl

named_board : (boards : List Board) (p : Board → Bool) (b : Board) → find p boards ≡ Some b → is_some (find (is_numbered b.number) boards) ≡ true
named_board boards p b f =
    let a = find_any (is_numbered b.number) boards (any_found p (is_numbered b.number) boards b f (eq-eqb b.number b.number refl)) in
    ap is_some a.found

module _ (s : State) (sound : Sound s) (party f name : List ℕ) (k : KeyType) (limits : Limits) (needs : Requirements) (calm : IsCalm s party) (unheld : IsFree s.standing party f) where
  abbrev opened_factory : Option Board → Held
  opened_factory o = record { holder = party; name = f; board = number_of o; kind = kind.Factory }

  open_told : (o : Option Board) → board_named s.standing.tables name ≡ o → (r : Option BlackboardOpenError) → (r ≡ None → is_none o ≡ false)
      → Sound (standing_state s party (told_by s.standing reply.OpenError (asked r (number_of o) (joined s.standing.tables party f o) s.standing.tables)).standing)
  open_told o e r h = made_or_not s party reply.OpenError r (number_of o) (opened_factory o) s.standing.tables.last_port sound calm (λ q. record {
    holder = refl;
    free = unheld;
    board = stands o e (h q);
    entry = tt;
    fewer = no_second s.standing.tables (opened_factory o) (λ n i. and_none (number_of o == n));
  })
    where
      stands : (o : Option Board) → board_named s.standing.tables name ≡ o → is_none o ≡ false → is_some (board_at s.standing.tables (number_of o)) ≡ true
      stands None e n = absurd cc
      stands (Some b) e n = named_board s.standing.tables.boards (has_name name) b e

  open_step : Sound (standing_state s party (ask s.standing s.published party (table (open_ f name k limits needs))).standing)
  open_step = open_told (board_named s.standing.tables name) refl (first_of (open_refusals bytes_eq s.standing.tables.things party (board_named s.standing.tables name) (key_detail k) limits needs))
      (λ q. first_head (open_refusals bytes_eq s.standing.tables.things party (board_named s.standing.tables name) (key_detail k) limits needs) q)

-- ---- ports and handles

pub held_holder : (s : State) (party : List ℕ) (x : Held) → thing_of s.standing.tables.things party x.name ≡ Some x → x.holder ≡ party
held_holder s party x f = (found_as s.standing.tables.things party x.name x f).holder

-- a port is made
port_state : (s : State) → Sound s → (party name : List ℕ) (x : Held) → IsFree s.standing party name → thing_of s.standing.tables.things party x.name ≡ Some x → (y : Held) → y.holder ≡ x.holder → y.name ≡ name → y.board ≡ x.board → HasEntryAt s.standing.tables y.board y.kind → IsFewer s.standing.tables y → IsNewThing s.standing party y
port_state s sound party name x unheld f y h n b e fewer = record {
  holder = h ∙ held_holder s party x f;
  free = subst (λ (m : List ℕ). IsFree s.standing party m) (sym n) unheld;
  board = subst (λ (m : ℕ). is_some (board_at s.standing.tables m) ≡ true) (sym b) (board_of_held s sound party x.name x f);
  entry = e;
  fewer = fewer;
}

module _ (s : State) (sound : Sound s) (party name : List ℕ) (x : Held) (calm : IsCalm s party) (unheld : IsFree s.standing party name) (f : thing_of s.standing.tables.things party x.name ≡ Some x) where
  abbrev new_port : Kind → Held
  new_port k = record { holder = x.holder; name = name; board = x.board; kind = k }

  reader_step : Sound (standing_state s party (ask s.standing s.published party (table (reader name x))).standing)
  reader_step = made_or_not s party reply.ReaderError _ (s.standing.tables.last_port + 1) (new_port (kind.Reader (s.standing.tables.last_port + 1))) (s.standing.tables.last_port + 1) sound calm
      (λ q. port_state s sound party name x unheld f (new_port (kind.Reader (s.standing.tables.last_port + 1))) refl refl refl tt (no_second s.standing.tables (new_port (kind.Reader (s.standing.tables.last_port + 1))) (λ n i. and_none (x.board == n))))

  writer_step : Sound (standing_state s party (ask s.standing s.published party (table (writer name x))).standing)
  writer_step = made_or_not s party reply.WriterError _ (s.standing.tables.last_port + 1) (new_port (kind.Writer (s.standing.tables.last_port + 1))) (s.standing.tables.last_port + 1) sound calm
      (λ q. port_state s sound party name x unheld f (new_port (kind.Writer (s.standing.tables.last_port + 1))) refl refl refl tt (no_second s.standing.tables (new_port (kind.Writer (s.standing.tables.last_port + 1))) (λ n i. and_none (x.board == n))))

-- the entry that was found is one of the board
pub record IsPlaceFrom (i j : ℕ) (es : List Entry) : Type 0 where
  pub place : ℕ
  pub sum : j ≡ i + place
  pub there : is_some (slice_get es place) ≡ true

found_entry : (i : ℕ) (keeps_key : List ℕ → Bool) (es : List Entry) (x : ℕ × Entry) → entry_from i keeps_key es ≡ Some x → IsPlaceFrom i x.0 es
found_entry i keeps_key [] x f = absurd cc
found_entry i keeps_key (z ∷ es) x f = at (keeps_key z.key.bytes) f (found_entry (i + 1) keeps_key es x)
  where
    at : (b : Bool) → cond b (Some (i, z)) (entry_from (i + 1) keeps_key es) ≡ Some x → (entry_from (i + 1) keeps_key es ≡ Some x → IsPlaceFrom (i + 1) x.0 es) → IsPlaceFrom i x.0 (z ∷ es)
    at true q ih =
        let p = same_Some (i, z) x q in
        record { place = 0; sum = sym (ap (λ (y : ℕ × Entry). y.0) p) ∙ omega arith; there = refl }
    at false q ih =
        let h = ih q in
        record { place = suc h.place; sum = omega (arith, h.sum); there = h.there }

entry_stands : (t : BoardTables) (board : ℕ) (keeps_key : List ℕ → Bool) (type : TypeDetail) (o : Option Board) → board_at t board ≡ o → (r : Option (ℕ × Entry)) → entry_found o keeps_key type ≡ r → is_none r ≡ false → is_some (entry_at t board (place_of r)) ≡ true
entry_stands t board keeps_key type None e r f n = absurd (both_ways (is_none r) n (ap is_none (sym f)))
entry_stands t board keeps_key type (Some b) e r f n = at (entry_from 0 keeps_key b.entries) refl r f n
  where
    typed : (x : ℕ × Entry) → entry_from 0 keeps_key b.entries ≡ Some x → (z : Bool) (r : Option (ℕ × Entry)) → cond z (Some x) None ≡ r → is_none r ≡ false → is_some (entry_at t board (place_of r)) ≡ true
    typed x g false r q n = absurd (both_ways (is_none r) n (ap is_none (sym q)))
    typed x g true r q n =
        let h = found_entry 0 keeps_key b.entries x g in
        let zero_plus : 0 + h.place ≡ h.place = omega arith in
        let p : x.0 ≡ h.place = h.sum ∙ zero_plus in
        let u : is_some (entry_in (board_at t board) x.0) ≡ true = ap (λ (o : Option Board). is_some (entry_in o x.0)) e ∙ ap (λ (m : ℕ). is_some (slice_get b.entries m)) p ∙ h.there in
        subst (λ (y : Option (ℕ × Entry)). is_some (entry_at t board (place_of y)) ≡ true) q u

    at : (o : Option (ℕ × Entry)) → entry_from 0 keeps_key b.entries ≡ o → (r : Option (ℕ × Entry)) → of_type type o ≡ r → is_none r ≡ false → is_some (entry_at t board (place_of r)) ≡ true
    at None g r q n = absurd (both_ways (is_none r) n (ap is_none (sym q)))
    at (Some x) g r q n = typed x g (same_type x.1.value type) r q n

module _ (s : State) (sound : Sound s) (party name : List ℕ) (x : Held) (k : Key) (type : ValueType) (calm : IsCalm s party) (unheld : IsFree s.standing party name) (f : thing_of s.standing.tables.things party x.name ≡ Some x) where
  abbrev sought : Option (ℕ × Entry)
  sought = entry_found (board_at s.standing.tables x.board) (keeps_key k) (value_detail type)

  sought_stands : is_none sought ≡ false → is_some (entry_at s.standing.tables x.board (place_of sought)) ≡ true
  sought_stands n = entry_stands s.standing.tables x.board (keeps_key k) (value_detail type) (board_at s.standing.tables x.board) refl sought refl n

  entry_step : Sound (standing_state s party (ask s.standing s.published party (table (entry name x k type))).standing)
  entry_step = made_or_not s party reply.EntryError (first_of (entry_refusals sought)) (id_of sought) (record { holder = x.holder; name = name; board = x.board; kind = kind.ReadHandle (place_of sought) }) s.standing.tables.last_port sound calm
      (λ q. port_state s sound party name x unheld f (record { holder = x.holder; name = name; board = x.board; kind = kind.ReadHandle (place_of sought) }) refl refl refl
      (sought_stands (first_head (entry_refusals sought) q)) (no_second s.standing.tables (record { holder = x.holder; name = name; board = x.board; kind = kind.ReadHandle (place_of sought) }) (λ n i. and_none (x.board == n))))

  abbrev write_handle : Held
  write_handle = record { holder = x.holder; name = name; board = x.board; kind = kind.WriteHandle (place_of sought) (port_of x.kind) }

  -- no handle of the entry stood
  no_handle : (o : Option (ℕ × Entry)) → first_of (entry_mut_refusals s.standing.tables.things x.board o) ≡ None → list_any (is_write_handle x.board (place_of o)) s.standing.tables.things ≡ false
  no_handle None q = absurd cc
  no_handle (Some y) q = at (list_any (is_write_handle x.board y.0) s.standing.tables.things) q
    where
      at : (b : Bool) → first_of ((false, entry_mut_error.EntryDoesNotExist) ∷ (b, entry_mut_error.HandleAlreadyExists) ∷ []) ≡ None → b ≡ false
      at true q = absurd cc
      at false q = refl

  fewer_handles : list_any (is_write_handle x.board (place_of sought)) s.standing.tables.things ≡ false → IsFewer s.standing.tables write_handle
  fewer_handles none n i = at (cases_Bool (is_write_handle n i write_handle))
    where
      at : (is_write_handle n i write_handle ≡ true) ⊎ (is_write_handle n i write_handle ≡ false) → (is_write_handle n i write_handle ≡ false) ⊎ (list_any (is_write_handle n i) s.standing.tables.things ≡ false)
      at (inl h) =
          let a = and_parts (x.board == n) (place_of sought == i) h in
          inr (subst (λ (m : ℕ). list_any (is_write_handle m i) s.standing.tables.things ≡ false) (eqb-true x.board n a.0) (subst (λ (m : ℕ). list_any (is_write_handle x.board m) s.standing.tables.things ≡ false) (eqb-true (place_of sought) i a.1) none))
      at (inr h) = inl h

  entry_mut_step : Sound (standing_state s party (ask s.standing s.published party (table (entry_mut name x k type))).standing)
  entry_mut_step = made_or_not s party reply.EntryMutError (first_of (entry_mut_refusals s.standing.tables.things x.board sought)) (id_of sought) write_handle s.standing.tables.last_port sound calm
      (λ q. port_state s sound party name x unheld f write_handle refl refl refl
      (sought_stands (first_head (entry_mut_refusals s.standing.tables.things x.board sought) q)) (fewer_handles (no_handle sought q)))

-- ---- a call on the tables

table_step : (s : State) → Sound s → (party : List ℕ) (c : TableCall) (so_far : List Access) (passed : ℕ) (t : Reply) → IsCalm s party → IsTableCall s party c → t ≡ (ask s.standing s.published party (table c)).reply → Sound (stepped s party (calling (table c) so_far passed) access.Table (Some t))
table_step s sound party (create f name k limits attributes entries) so_far passed t calm h e = create_step s sound party f name k limits attributes entries calm h t so_far passed e
table_step s sound party (open_ f name k limits needs) so_far passed t calm h e = open_step s sound party f name k limits needs calm h
table_step s sound party (reader name x) so_far passed t calm h e = reader_step s sound party name x calm h.0 h.1.found
table_step s sound party (writer name x) so_far passed t calm h e = writer_step s sound party name x calm h.0 h.1.found
table_step s sound party (entry name x k type) so_far passed t calm h e = entry_step s sound party name x k type calm h.0 h.1.found
table_step s sound party (entry_mut name x k type) so_far passed t calm h e = entry_mut_step s sound party name x k type calm h.0 h.1.found
table_step s sound party (loan l) so_far passed t calm h e = lend_sound s party l sound calm h.0 h.1
table_step s sound party (discard l) so_far passed t calm h e = give_back_sound s party l sound calm h.0 h.1
table_step s sound party (keys x) so_far passed t calm h e = same_sound s party sound calm
table_step s sound party (nodes x) so_far passed t calm h e = same_sound s party sound calm
table_step s sound party (info x) so_far passed t calm h e = same_sound s party sound calm
table_step s sound party (id x) so_far passed t calm h e = same_sound s party sound calm
table_step s sound party (gen x) so_far passed t calm h e = same_sound s party sound calm

-- ---- a get

-- the word that a read gives
pub read_gives : (m : ℕ → List ℕ) (b c i v : ℕ) → b ≡ c → slice_get (m b) i ≡ Some v → get_or (m c) i 0 ≡ v
read_gives m b c i v q h = get_or_from_slice_get (m c) i v 0 (ap (λ (n : ℕ). slice_get (m n) i) (sym q) ∙ h)

module _ (s : State) (sound : Sound s) (party : List ℕ) (f : Fetch) (so_far : List Access) (passed : ℕ) (calm : IsCalm s party) (h : IsGetting s party f so_far passed) where
  get_goes_on : (b i v : ℕ) → to_read b i ≡ owed_read f.board f.shape (reading f.shape.words so_far) → slice_get (s.memory b) i ≡ Some v → false ≡ is_finished (reading f.shape.words (so_far ++ access.Read b i v ∷ []))
      → Sound (stepped s party (calling (get f) so_far passed) (access.Read b i v) None)
  get_goes_on b i v next word e = valued_sound s party (running (calling (get f) (so_far ++ access.Read b i v ∷ []) passed)) s.standing.values sound (λ n i _. calm n i) here
    where
      at : b ≡ f.board
      at =
          let q : to_read b i ≡ to_read f.board (read_word f.shape (reading f.shape.words so_far)) = next ∙ owed_read_is f.board f.shape (reading f.shape.words so_far) in
          cc

      rd : IsRead (s.memory f.board) f.shape (reading f.shape.words so_far) v
      rd = record { i = i; board = b; of = f.board; next = next; word = read_gives s.memory b f.board i v at word }

      push : reading f.shape.words (so_far ++ access.Read b i v ∷ []) ≡ hear f.shape.words (reading f.shape.words so_far) v
      push = reading_push f.shape.words so_far (access.Read b i v)

      more : IsReading (s.published f.board f.entry) f.shape.words (length so_far + 1) passed (hear f.shape.words (reading f.shape.words so_far) v)
      more = goes_on (s.memory f.board) f.shape (s.published f.board f.entry) (length so_far) passed v (reading f.shape.words so_far) (own_cell s sound f.board f.entry f.shape h.place) h.try rd (ap is_finished (sym push) ∙ sym e)

      here : IsGetting s party f (so_far ++ access.Read b i v ∷ []) passed
      here = record {
        place = h.place;
        hold = h.hold;
        try = subst (λ (n : ℕ). IsReading (s.published f.board f.entry) f.shape.words n passed (reading f.shape.words (so_far ++ access.Read b i v ∷ []))) (sym (length_push so_far (access.Read b i v)))
            (subst (λ (r : Reading). IsReading (s.published f.board f.entry) f.shape.words (length so_far + 1) passed r) (sym push) more);
      }

  kept_value : (words : List ℕ) (g : ℕ) (o : Option (List ℕ)) → Sound (standing_state s party (with_fetched s.standing party f words g o))
  kept_value words g None = same_sound s party sound calm
  kept_value words g (Some name) = valued_sound s party free _ sound (λ n i _. calm n i) tt

  get_step : (b i v : ℕ) (told : Option Reply) → to_read b i ≡ owed_read f.board f.shape (reading f.shape.words so_far) → slice_get (s.memory b) i ≡ Some v → is_some told ≡ is_finished (reading f.shape.words (so_far ++ access.Read b i v ∷ []))
      → Sound (stepped s party (calling (get f) so_far passed) (access.Read b i v) told)
  get_step b i v None next word e = get_goes_on b i v next word e
  get_step b i v (Some t) next word e = kept_value _ _ f.name

-- ---- a publication

-- the next word of a publication of these words
pub word_write : (b : ℕ) (c : CellShape) (g : ℕ) (words : List ℕ) (k : ℕ) (a : Access) → owed_of a ≡ owed_write b c g words k → k < length words → a ≡ access.Write b (spare_at c g + k) (slice_index words k)
word_write b c g words k a next lt =
    let z : (k == length words) ≡ false = ne_eqb k (length words) (λ q. absurd (omega arith)) in
    let o : owed_write b c g words k ≡ to_write b (spare_at c g + k) (slice_index words k) = rw z refl in
    write_is a b (spare_at c g + k) (slice_index words k) (next ∙ o)

pub counter_write : (b : ℕ) (c : CellShape) (g : ℕ) (words : List ℕ) (k : ℕ) (a : Access) → owed_of a ≡ owed_write b c g words k → k ≡ length words → a ≡ access.Write b c.first (g + 1)
counter_write b c g words k a next e =
    let z : (k == length words) ≡ true = eq-eqb k (length words) e in
    let o : owed_write b c g words k ≡ to_write b c.first (g + 1) = rw z refl in
    write_is a b c.first (g + 1) (next ∙ o)

write_step : (s : State) → Sound s → (party : List ℕ) (u : Publication) (so_far : List Access) (passed : ℕ) (a : Access) (told : Option Reply) → owed_of a ≡ owed (update u) so_far → is_some told ≡ is_done (update u) (so_far ++ a ∷ [])
    → IsPublishing s party u.handle u.board u.entry u.shape u.generation (value_words u.value) (length so_far) false → IsCalm s party
    → Sound (stepped s party (calling (update u) so_far passed) a told)
write_step s sound party u so_far passed a None next e h calm =
    let n = length_push so_far a in
    let l : length (so_far ++ a ∷ []) < length (value_words u.value) + 1 = leb-false (length (value_words u.value) + 1) (length (so_far ++ a ∷ [])) (sym e) in
    let lt : length so_far < u.shape.words = omega (arith, h.size) in
    let w : ℕ = spare_at u.shape u.generation + length so_far in
    let v : ℕ = slice_index (value_words u.value) (length so_far) in
    let x = word_write u.board u.shape u.generation (value_words u.value) (length so_far) a next (omega arith) in
    let y : Party = running (calling (update u) (so_far ++ access.Write u.board w v ∷ []) passed) in
    subst (λ (z : Access). Sound (stepped s party (calling (update u) so_far passed) z None)) (sym x)
    (write_word s sound party u.handle u.board u.entry u.shape u.generation (value_words u.value) (length so_far) false v y h lt (λ n i _ _. calm n i) (inl refl)
    (wrote_word s sound party u.handle u.board u.entry u.shape u.generation (value_words u.value) (length so_far) false v y (length (so_far ++ access.Write u.board w v ∷ [])) h lt refl (length_push so_far (access.Write u.board w v))))
write_step s sound party u so_far passed a (Some t) next e h calm =
    let n = length_push so_far a in
    let l : length (value_words u.value) + 1 ≤ length (so_far ++ a ∷ []) = leb-true (length (value_words u.value) + 1) (length (so_far ++ a ∷ [])) (sym e) in
    let k : length so_far ≡ u.shape.words = omega (arith, h.size, h.steps) in
    let x = counter_write u.board u.shape u.generation (value_words u.value) (length so_far) a next (omega (arith, h.size)) in
    let h' : IsPublishing s party u.handle u.board u.entry u.shape u.generation (value_words u.value) u.shape.words false = subst (λ (j : ℕ). IsPublishing s party u.handle u.board u.entry u.shape u.generation (value_words u.value) j false) k h in
    subst (λ (y : Access). Sound (stepped s party (calling (update u) so_far passed) y (Some t))) (sym x)
    (publish_sound s sound party u.handle u.board u.entry u.shape u.generation (value_words u.value) false s.standing h' (own_same s party u.handle sound)
    (λ ws q. none_some (s.standing.loans party u.handle) ws h.writes.hold.lent q) (λ n i _ _. calm n i))

same_entry : (b e : ℕ) → ((b == b) && (e == e)) ≡ true
same_entry b e = and_from (b == b) (e == e) (eq-eqb b b refl) (eq-eqb e e refl)

fill_step : (s : State) → Sound s → (party : List ℕ) (l : Lending) (v : Value) (so_far : List Access) (passed : ℕ) (a : Access) (told : Option Reply) → s.parties party ≡ running (calling (fill l v) so_far passed) → owed_of a ≡ owed (fill l v) so_far → is_some told ≡ is_done (fill l v) (so_far ++ a ∷ [])
    → IsFree s.standing party l.handle → IsPublishing s party l.loan l.board l.entry l.shape l.generation (value_words v) (length so_far) true
    → Sound (stepped s party (calling (fill l v) so_far passed) a told)
fill_step s sound party l v so_far passed a None run next e unheld p =
    let n = length_push so_far a in
    let m : length (so_far ++ a ∷ []) < length (value_words v) + 1 = leb-false (length (value_words v) + 1) (length (so_far ++ a ∷ [])) (sym e) in
    let lt : length so_far < l.shape.words = omega (arith, p.size) in
    let w : ℕ = spare_at l.shape l.generation + length so_far in
    let z : ℕ = slice_index (value_words v) (length so_far) in
    let x = word_write l.board l.shape l.generation (value_words v) (length so_far) a next (omega arith) in
    let y : Party = running (calling (fill l v) (so_far ++ access.Write l.board w z ∷ []) passed) in
    let q = wrote_word s sound party l.loan l.board l.entry l.shape l.generation (value_words v) (length so_far) true z y (length (so_far ++ access.Write l.board w z ∷ [])) p lt refl (length_push so_far (access.Write l.board w z)) in
    let aw : (n i : ℕ) → is_suspended (s.parties party) n i ≡ is_suspended y n i = λ n i. ap (λ (k : Party). is_suspended k n i) run in
    subst (λ (k : Access). Sound (stepped s party (calling (fill l v) so_far passed) k None)) (sym x)
    (write_word s sound party l.loan l.board l.entry l.shape l.generation (value_words v) (length so_far) true z y p lt (λ n i _ k. aw n i ∙ k) (inr (same_entry l.board l.entry)) (unheld, q))
fill_step s sound party l v so_far passed a (Some t) run next e unheld p =
    let n = length_push so_far a in
    let m : length (value_words v) + 1 ≤ length (so_far ++ a ∷ []) = leb-true (length (value_words v) + 1) (length (so_far ++ a ∷ [])) (sym e) in
    let k : length so_far ≡ l.shape.words = omega (arith, p.size, p.steps) in
    let x = counter_write l.board l.shape l.generation (value_words v) (length so_far) a next (omega (arith, p.size)) in
    let p' : IsPublishing s party l.loan l.board l.entry l.shape l.generation (value_words v) l.shape.words true = subst (λ (j : ℕ). IsPublishing s party l.loan l.board l.entry l.shape l.generation (value_words v) j true) k p in
    subst (λ (y : Access). Sound (stepped s party (calling (fill l v) so_far passed) y (Some t))) (sym x)
    (publish_sound s sound party l.loan l.board l.entry l.shape l.generation (value_words v) true (given_back s.standing party l) p' (own_given_back s party l sound unheld p.writes) (λ ws q. ended_loan s party l ws q)
    (λ n i off _. ap (λ (y : Party). is_suspended y n i) run ∙ not_entry l.board l.entry n i off))
  where
    not_entry : (b e n i : ℕ) → (IsThere b e n i → ⊥) → ((b == n) && (e == i)) ≡ false
    not_entry b e n i off = false_from_ne_true ((b == n) && (e == i)) (λ q.
        let k = and_parts (b == n) (e == i) q in
        off (sym (eqb-true b n k.0), sym (eqb-true e i k.1)))

-- ---- any step

pub call_step : (s : State) → Sound s → (party : List ℕ) (q : Request) (so_far : List Access) (passed : ℕ) (a : Access) (told : Option Reply) → s.parties party ≡ running (calling q so_far passed) → IsStepOf s party (calling q so_far passed) a told → IsCalling s party (calling q so_far passed) q → Sound (stepped s party (calling q so_far passed) a told)
call_step s sound party (table c) so_far passed a told run st h =
    known_step s party (calling (table c) so_far passed) a access.Table told (table_is a st.next) st.last
    (λ t e. table_step s sound party c so_far passed t (λ n i. ap (λ (y : Party). is_suspended y n i) run) h.1 (told_reply told t (ask s.standing s.published party (table c)).reply e st.reply))
call_step s sound party (get f) so_far passed a told run st h =
    let o = st.next ∙ owed_read_is f.board f.shape (reading f.shape.words so_far) in
    let w : ℕ = read_word f.shape (reading f.shape.words so_far) in
    let x = read_is a f.board w o in
    let st' : IsStepOf s party (calling (get f) so_far passed) (access.Read f.board w x.0) told = subst (λ (y : Access). IsStepOf s party (calling (get f) so_far passed) y told) x.1 st in
    subst (λ (y : Access). Sound (stepped s party (calling (get f) so_far passed) y told)) (sym x.1)
    (get_step s sound party f so_far passed (λ n i. ap (λ (y : Party). is_suspended y n i) run) h f.board w x.0 told st'.next st'.word st'.last)
call_step s sound party (fresh l) so_far passed a told run st h =
    let x = read_is a l.board l.shape.first st.next in
    known_step s party (calling (fresh l) so_far passed) a (access.Read l.board l.shape.first x.0) told x.1 st.last (λ t e. same_sound s party sound (λ n i. ap (λ (y : Party). is_suspended y n i) run))
call_step s sound party (update u) so_far passed a told run st h = write_step s sound party u so_far passed a told st.next st.last h (λ n i. ap (λ (y : Party). is_suspended y n i) run)
call_step s sound party (put l i w) so_far passed a told run st h =
    known_step s party (calling (put l i w) so_far passed) a (access.Write l.board (spare_at l.shape l.generation + i) w) told (write_is a l.board (spare_at l.shape l.generation + i) w st.next) st.last
    (λ t e. put_sound s sound party l i w h.1 (λ n i _ _. ap (λ (y : Party). is_suspended y n i) run))
call_step s sound party (publish l) so_far passed a told run st h =
    known_step s party (calling (publish l) so_far passed) a (access.Write l.board l.shape.first (l.generation + 1)) told (write_is a l.board l.shape.first (l.generation + 1) st.next) st.last
    (λ t e. publish_sound s sound party l.loan l.board l.entry l.shape l.generation (map word_put l.words) true (given_back s.standing party l) h.2 (own_given_back s party l sound h.1 h.2.writes) (λ ws q. ended_loan s party l ws q) (λ n i _ _. ap (λ (y : Party). is_suspended y n i) run))
call_step s sound party (fill l v) so_far passed a told run st h = fill_step s sound party l v so_far passed a told run st.next st.last h.0 h.1
