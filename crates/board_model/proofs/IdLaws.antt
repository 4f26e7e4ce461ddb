-- Entry ids.
use Rattle.std.proofs.Common.{◌≡◌, ℕ, zero, suc, ◌+◌, ◌<◌, ◌≤◌, Bool, true, false, cond, List, [], ◌∷◌, ◌++◌, arith, refl, sym, ap, subst, ◌∙◌, Option, Some, None, inl, inr}
use Rattle.std.specs.Prelude.{slice_get, ◌⊎◌, if◌then◌else◌, is_some}
use Rattle.std.specs.List.{list_any}
use Rattle.board_layout.specs.declared.type_detail.TypeDetail.{TypeDetail}
use Rattle.board_model.specs.declared.answer.Reply.TheVariants as reply
use Rattle.board_names.specs.declared.errors.boards.EntryHandleMutError.TheVariants as entry_mut_error
use Rattle.board_model.specs.declared.line.Line.{Line}
use Rattle.board_model.specs.declared.answer.Answer.{Answer}
use Rattle.board_model.specs.declared.tables.Board.{Board}
use Rattle.board_model.specs.declared.tables.Entry.{Entry}
use Rattle.board_model.specs.declared.tables.Kind.{Kind}
use Rattle.board_model.specs.declared.tables.Kind.TheVariants as kind
use Rattle.board_model.specs.declared.value.Key.{Key}
use Rattle.board_model.specs.declared.value.ValueType.{ValueType}
use Rattle.board_layout.specs.Layout.{cell_end, cell_shape}
use Rattle.board_model.specs.TypeTable.{same_type, value_detail}
use Rattle.board_model.specs.Tables.{board_at, entry_at, entry_found, entry_from, entry_in, entry_of, is_write_handle, of_type}
use Rattle.board_model.specs.TableCalls.{asked, entry_asked, entry_mut_asked, first_of, place_of, with_write_handle}
use Rattle.board_model.specs.Things.{Held, Standing, is_held_as}
use Rattle.board_model.specs.Requests.{Request, create, info, entry, entry_mut, fill, fresh, get, discard, id, open_, loan, keys, nodes, publish, put, reader, table, gen, update, writer}
use Rattle.board_model.specs.Replies.{ask, id_number, keeps_key, number_or, place_in}
use Rattle.board_model.specs.LawfulSession.{IsRight, State, start, state_after}
use Rattle.board_model.specs.Sound.{BoardTables, HasBoard, HasEntry, HasEntryAt, Sound}
use Rattle.board_model.specs.LawsOfSessions.{Pairs, at_one, at_two}
use Rattle.board_model.specs.LawsOfIds.{AsksForHandle, EntriesHaveOtherPlaces, HandlesTellAlike, HandlesTellNoOtherIds, HandlesTellTheirIds, IsHandleAt, IsMade, IsToldId, LaterHandlesTellAlike, LaterHandlesTellOtherIds, OneKeyOneId, OtherEntriesOtherIds, OtherEntriesTellOtherIds}
use Rattle.board_model.proofs.SessionLaws.{apart, lawful_split, pair_step}
use Rattle.board_model.proofs.SoundLemmas.{sound_start}
use Rattle.board_model.proofs.BoardLemmas.{session_boards}
use Rattle.board_model.proofs.HandleLemmas.{AreAsked, HasAsked, HasAskedOf, asked_session}
use Rattle.board_model.proofs.RunningLemmas.{runs}
use Rattle.board_model.proofs.ThingLemmas.{all_found}

-- ---- places

same_or_apart : (i j : ℕ) → (i ≡ j) ⊎ ((i < j) ⊎ (j < i))
same_or_apart zero zero = inl refl
same_or_apart zero (suc j) = inr (inl (omega arith))
same_or_apart (suc i) zero = inr (inr (omega arith))
same_or_apart (suc i) (suc j) = up (same_or_apart i j)
  where
    up : (i ≡ j) ⊎ ((i < j) ⊎ (j < i)) → (suc i ≡ suc j) ⊎ ((suc i < suc j) ⊎ (suc j < suc i))
    up (inl e) = inl (ap suc e)
    up (inr (inl h)) = inr (inl (omega arith))
    up (inr (inr h)) = inr (inr (omega arith))

pub other_places : EntriesHaveOtherPlaces
other_places s n i j e f sound p q same = at (same_or_apart i j)
  where
    off : (i j : ℕ) (e f : Entry) → entry_at s.standing.tables n i ≡ Some e → entry_at s.standing.tables n j ≡ Some f → e.cell.place ≡ f.cell.place → i < j → ⊥
    off i j e f p q same lt =
        let a : cell_end (cell_shape e.cell) ≤ f.cell.first = sound.boards.apart n i j e f p q lt in
        let h : 0 < e.cell.head = (sound.boards.cells n i e p).head in
        absurd (omega (arith, a, h, same, sound.boards.placed n i e p, sound.boards.placed n j f q))

    at : (i ≡ j) ⊎ ((i < j) ⊎ (j < i)) → i ≡ j
    at (inl e) = e
    at (inr (inl lt)) = absurd (off i j e f p q same lt)
    at (inr (inr lt)) = absurd (off j i f e q p (sym same) lt)

-- ---- an entry that is found

pub record IsPlaceFrom (es : List Entry) (i j : ℕ) (e : Entry) : Type 0 where
  pub at : ℕ
  pub from : j ≡ i + at
  pub item : slice_get es at ≡ Some e

same_some : (x y : ℕ × Entry) → Some x ≡ Some y → x ≡ y
same_some x y e = cc

found_from : (is : List ℕ → Bool) (es : List Entry) (i j : ℕ) (e : Entry) → entry_from i is es ≡ Some (j, e) → IsPlaceFrom es i j e
found_from is [] i j e h = absurd cc
found_from is (x ∷ es) i j e h = at (is x.key.bytes) (found_from is es (i + 1) j e) h
  where
    at : (z : Bool) → (entry_from (i + 1) is es ≡ Some (j, e) → IsPlaceFrom es (i + 1) j e) → cond z (Some (i, x)) (entry_from (i + 1) is es) ≡ Some (j, e) → IsPlaceFrom (x ∷ es) i j e
    at true ih k =
        let w : ◌≡◌ {A = ℕ × Entry} (i, x) (j, e) = same_some (i, x) (j, e) k in
        let p : i ≡ j = ap (λ (y : ℕ × Entry). y.0) w in
        let q : x ≡ e = ap (λ (y : ℕ × Entry). y.1) w in
        record { at = zero; from = omega (arith, p); item = ap (λ (y : Entry). Some y) q }
    at false ih k =
        let r = ih k in
        record { at = suc r.at; from = omega (arith, r.from); item = r.item }

-- what a call that was answered by a number has found
pub record IsFoundIn (t : BoardTables) (n : ℕ) (k : Key) (place number : ℕ) : Type 0 where
  pub board : Board
  pub stands : board_at t n ≡ Some board
  pub item : Entry
  pub first : entry_from 0 (keeps_key k) board.entries ≡ Some (place, item)
  pub told : number ≡ item.cell.place

is_first : (value : TypeDetail) (x : Option (ℕ × Entry)) (y : ℕ × Entry) → of_type value x ≡ Some y → x ≡ Some y
is_first value None y e = absurd cc
is_first value (Some x) y e = at (same_type x.1.value value) e
  where
    at : (z : Bool) → (if z then Some x else None) ≡ Some y → Some x ≡ Some y
    at true k = k
    at false k = absurd cc

pub found_in : (t : BoardTables) (n : ℕ) (k : Key) (u : ValueType) (place number : ℕ) (x : ℕ × Entry) → (o : Option Board) → board_at t n ≡ o → entry_found o (keeps_key k) (value_detail u) ≡ Some x → place ≡ x.0 → number ≡ x.1.cell.place → IsFoundIn t n k place number
found_in t n k u place number x None e h p q = absurd cc
found_in t n k u place number x (Some b) e h p q = record {
  board = b;
  stands = e;
  item = x.1;
  first = is_first (value_detail u) (entry_from 0 (keeps_key k) b.entries) x h ∙ ap (λ (m : ℕ). Some (m, x.1)) (sym p);
  told = q;
}

-- a read handle
read_found : (s : Standing) (of : Held) (name : List ℕ) (found : Option (ℕ × Entry)) (number : ℕ) → reply.Number number ≡ number_or reply.EntryError (entry_asked s.tables of name found).0 → (x : ℕ × Entry) × (found ≡ Some x) × (number ≡ x.1.cell.place)
read_found s of name None number e = absurd cc
read_found s of name (Some x) number e = (x, refl, cc)

-- a write handle
write_found : (s : Standing) (of : Held) (name : List ℕ) (found : Option (ℕ × Entry)) (number : ℕ) → reply.Number number ≡ number_or reply.EntryMutError (entry_mut_asked s.tables of name found).0 → (x : ℕ × Entry) × (found ≡ Some x) × (number ≡ x.1.cell.place)
write_found s of name None number e = absurd cc
write_found s of name (Some x) number e = at (list_any (is_write_handle of.board x.0) s.tables.things) e
  where
    at : (z : Bool) → reply.Number number ≡ number_or reply.EntryMutError (asked (first_of ((false, entry_mut_error.EntryDoesNotExist) ∷ (z, entry_mut_error.HandleAlreadyExists) ∷ [])) x.1.cell.place (with_write_handle s.tables of name (Some x)) s.tables).0 → (y : ℕ × Entry) × (Some x ≡ Some y) × (number ≡ y.1.cell.place)
    at true k = absurd cc
    at false k = (x, refl, cc)

asked_found : (s : State) (party : List ℕ) (q : Request) (n place number : ℕ) (k : Key) (u : ValueType) → AsksForHandle q n k u → reply.Number number ≡ (ask s.standing s.published party q).reply → place_of (entry_found (board_at s.standing.tables n) (keeps_key k) (value_detail u)) ≡ place
    → IsFoundIn s.standing.tables n k place number
asked_found s party (table (entry name of l w)) n place number k u h e p =
    let o : Option (ℕ × Entry) = entry_found (board_at s.standing.tables of.board) (keeps_key l) (value_detail w) in
    let x = read_found s.standing of name (entry_found (board_at s.standing.tables of.board) (keeps_key l) (value_detail w)) number e in
    let f : entry_found (board_at s.standing.tables n) (keeps_key k) (value_detail u) ≡ Some x.0 = rw (← h.0, ← h.1, ← h.2) x.1 in
    found_in s.standing.tables n k u place number x.0 (board_at s.standing.tables n) refl f (sym p ∙ ap place_of f) x.2
asked_found s party (table (entry_mut name of l w)) n place number k u h e p =
    let x = write_found s.standing of name (entry_found (board_at s.standing.tables of.board) (keeps_key l) (value_detail w)) number e in
    let f : entry_found (board_at s.standing.tables n) (keeps_key k) (value_detail u) ≡ Some x.0 = rw (← h.0, ← h.1, ← h.2) x.1 in
    found_in s.standing.tables n k u place number x.0 (board_at s.standing.tables n) refl f (sym p ∙ ap place_of f) x.2
asked_found s party (table (create f name l limits attributes entries)) n place number k u h e p = absurd h
asked_found s party (table (open_ f name l limits needs)) n place number k u h e p = absurd h
asked_found s party (table (reader name x)) n place number k u h e p = absurd h
asked_found s party (table (writer name x)) n place number k u h e p = absurd h
asked_found s party (table (loan l)) n place number k u h e p = absurd h
asked_found s party (table (discard l)) n place number k u h e p = absurd h
asked_found s party (table (keys x)) n place number k u h e p = absurd h
asked_found s party (table (nodes x)) n place number k u h e p = absurd h
asked_found s party (table (info x)) n place number k u h e p = absurd h
asked_found s party (table (id x)) n place number k u h e p = absurd h
asked_found s party (table (gen x)) n place number k u h e p = absurd h
asked_found s party (get f) n place number k u h e p = absurd h
asked_found s party (fresh l) n place number k u h e p = absurd h
asked_found s party (update x) n place number k u h e p = absurd h
asked_found s party (put l i w) n place number k u h e p = absurd h
asked_found s party (publish l) n place number k u h e p = absurd h
asked_found s party (fill l v) n place number k u h e p = absurd h

made : (s : State) (x : Line × Answer) (n place number : ℕ) (k : Key) (u : ValueType) → IsRight s x.0 x.1 → IsMade s x n place k u number → IsFoundIn s.standing.tables n k place number
made s x n place number k u h m =
    let st = pair_step s x m.party m.call m.access (Some (reply.Number number)) m.runs m.line m.answer h in
    asked_found s m.party m.call.request n place number k u m.request st.reply.reply m.found

-- ---- at two moments of a session

-- both were found in the board that stood first
record AreFound (t : BoardTables) (n : ℕ) (k l : Key) (i j one two : ℕ) : Type 0 where
  pub board : Board
  pub stands : board_at t n ≡ Some board
  pub item : Entry
  pub other : Entry
  pub first : entry_from 0 (keeps_key k) board.entries ≡ Some (i, item)
  pub second : entry_from 0 (keeps_key l) board.entries ≡ Some (j, other)
  pub told : one ≡ item.cell.place
  pub later : two ≡ other.cell.place

same_board : (x y : Board) → Some x ≡ Some y → x ≡ y
same_board x y e = cc

both_found : (p : Pairs) (n i j one two : ℕ) (k l : Key) (t u : ValueType) → IsMade (at_one p) p.one n i k t one → IsMade (at_two p) p.two n j l u two → AreFound (at_one p).standing.tables n k l i j one two
both_found p n i j one two k l t u x y =
    let a = apart p in
    let f = made (at_one p) p.one n i one k t a.one x in
    let g = made (at_two p) p.two n j two l u a.two y in
    let d : n ≤ (at_one p).standing.tables.last_board = a.sound.boards.numbered n f.board f.stands in
    let h : board_at (state_after (at_one p) (p.one ∷ p.between)).standing.tables n ≡ Some g.board = subst (λ (s : State). board_at s.standing.tables n ≡ Some g.board) a.state g.stands in
    let b : board_at (at_one p).standing.tables n ≡ Some g.board = session_boards (p.one ∷ p.between) (at_one p) (a.one, a.between) a.sound n g.board d h in
    let e : g.board ≡ f.board = same_board g.board f.board (sym b ∙ f.stands) in
    record { board = f.board; stands = f.stands; item = f.item; other = g.item; first = f.first; second = subst (λ (z : Board). entry_from 0 (keeps_key l) z.entries ≡ Some (j, g.item)) e g.first; told = f.told; later = g.told }

pub one_id : OneKeyOneId
one_id p n i j one two k t u x y =
    let f = both_found p n i j one two k k t u x y in
    let e : (i, f.item) ≡ (j, f.other) = same_some (i, f.item) (j, f.other) (sym f.first ∙ f.second) in
    let g : f.item ≡ f.other = ap (λ (z : ℕ × Entry). z.1) e in
    (ap (λ (z : ℕ × Entry). z.0) e, f.told ∙ ap (λ (z : Entry). z.cell.place) g ∙ sym f.later)

pub placed_at : (t : BoardTables) (n i : ℕ) (b : Board) (is : List ℕ → Bool) (e : Entry) → board_at t n ≡ Some b → entry_from 0 is b.entries ≡ Some (i, e) → entry_at t n i ≡ Some e
placed_at t n i b is e h f =
    let g = found_from is b.entries 0 i e f in
    let a : i ≡ g.at = omega (arith, g.from) in
    let q : slice_get b.entries i ≡ Some e = ap (slice_get b.entries) a ∙ g.item in
    ap (λ (o : Option Board). entry_in o i) h ∙ q

pub other_ids : OtherEntriesOtherIds
other_ids p n i j number k l t u x y =
    let f = both_found p n i j number number k l t u x y in
    let a = apart p in
    other_places (at_one p) n i j f.item f.other a.sound (placed_at (at_one p).standing.tables n i f.board (keeps_key k) f.item f.stands f.first) (placed_at (at_one p).standing.tables n j f.board (keeps_key l) f.other f.stands f.second)
    (sym f.told ∙ f.later)

-- ---- ids that are told

id_is : (x y : ℕ) → reply.Id x ≡ reply.Id y → x ≡ y
id_is x y e = cc

told_of_kind : (s : Standing) (x : Held) (n place number : ℕ) (k : Kind) → x.kind ≡ k → x.board ≡ n → IsHandleAt k place → number ≡ id_number s x k → number ≡ place_in (entry_at s.tables n place)
told_of_kind s x n place number (kind.ReadHandle i) is board at told =
    told ∙ ap place_in (ap (λ (k : Kind). entry_at s.tables x.board (entry_of k)) is ∙ ap (λ (b : ℕ). entry_at s.tables b i) board ∙ ap (entry_at s.tables n) at)
told_of_kind s x n place number (kind.WriteHandle i port) is board at told =
    told ∙ ap place_in (ap (λ (k : Kind). entry_at s.tables x.board (entry_of k)) is ∙ ap (λ (b : ℕ). entry_at s.tables b i) board ∙ ap (entry_at s.tables n) at)
told_of_kind s x n place number kind.Factory is board at told = absurd at
told_of_kind s x n place number (kind.Reader port) is board at told = absurd at
told_of_kind s x n place number (kind.Writer port) is board at told = absurd at

-- the board of a thing that stands
record Stands (t : BoardTables) (n : ℕ) : Type 0 where
  board : Board
  is : board_at t n ≡ Some board

some_board : (t : BoardTables) (n : ℕ) (o : Option Board) → board_at t n ≡ o → is_some o ≡ true → Stands t n
some_board t n None e h = absurd cc
some_board t n (Some b) e h = record { board = b; is = e }

-- a handle that was asked for its id tells where its entry's cell is, and its board stands
record IsToldPlace (t : BoardTables) (n place number : ℕ) : Type 0 where
  told : number ≡ place_in (entry_at t n place)
  stands : Stands t n

told_place : (s : State) (pair : Line × Answer) (n place number : ℕ) → Sound s → IsRight s pair.0 pair.1 → IsToldId s pair n place number → IsToldPlace s.standing.tables n place number
told_place s pair n place number sound h m =
    let st = pair_step s pair m.party m.call m.access (Some (reply.Id number)) m.runs m.line m.answer h in
    let told : number ≡ id_number s.standing m.handle m.handle.kind = id_is number _ (st.reply.reply ∙ ap (λ (q : Request). (ask s.standing s.published m.party q).reply) m.request) in
    let calls = runs s m.party m.call (table (id m.handle)) sound m.runs m.request in
    let thing_stands = all_found (HasBoard s.standing.tables) (is_held_as m.party m.handle.name) s.standing.tables.things calls.1.thing sound.things.standing calls.1.found in
    let stands : is_some (board_at s.standing.tables n) ≡ true = ap (λ (b : ℕ). is_some (board_at s.standing.tables b)) (sym (calls.1.is_of ∙ m.board)) ∙ thing_stands in
    record {
      told = told_of_kind s.standing m.handle n place number m.handle.kind refl m.board m.of_entry told;
      stands = some_board s.standing.tables n (board_at s.standing.tables n) refl stands;
    }

-- a board that stands at the second moment stood at the first
stood : (p : Pairs) (n : ℕ) (b : Board) → n ≤ (at_one p).standing.tables.last_board → board_at (at_two p).standing.tables n ≡ Some b → board_at (at_one p).standing.tables n ≡ Some b
stood p n b drawn stands =
    let a = apart p in
    session_boards (p.one ∷ p.between) (at_one p) (a.one, a.between) a.sound n b drawn (subst (λ (s : State). board_at s.standing.tables n ≡ Some b) a.state stands)

pub handles_tell : HandlesTellTheirIds
handles_tell p n place one two k t x y =
    let a = apart p in
    let f = made (at_one p) p.one n place one k t a.one x in
    let g = told_place (at_two p) p.two n place two a.last a.two y in
    let drawn : n ≤ (at_one p).standing.tables.last_board = a.sound.boards.numbered n f.board f.stands in
    let same : g.stands.board ≡ f.board = same_board g.stands.board f.board (sym (stood p n g.stands.board drawn g.stands.is) ∙ f.stands) in
    let here : entry_at (at_two p).standing.tables n place ≡ Some f.item = placed_at (at_two p).standing.tables n place f.board (keeps_key k) f.item (g.stands.is ∙ ap Some same) f.first in
    f.told ∙ ap place_in (sym here) ∙ sym g.told

pub tell_alike : HandlesTellAlike
tell_alike p n place one two x y =
    let a = apart p in
    let f = told_place (at_one p) p.one n place one a.sound a.one x in
    let g = told_place (at_two p) p.two n place two a.last a.two y in
    let drawn : n ≤ (at_one p).standing.tables.last_board = a.sound.boards.numbered n f.stands.board f.stands.is in
    let same : board_at (at_one p).standing.tables n ≡ board_at (at_two p).standing.tables n = stood p n g.stands.board drawn g.stands.is ∙ sym g.stands.is in
    f.told ∙ ap (λ (o : Option Board). place_in (entry_in o place)) same ∙ sym g.told

pub later_alike : LaterHandlesTellAlike
later_alike p n place one two k t x y =
    let a = apart p in
    let f = told_place (at_one p) p.one n place one a.sound a.one x in
    let g = made (at_two p) p.two n place two k t a.two y in
    let drawn : n ≤ (at_one p).standing.tables.last_board = a.sound.boards.numbered n f.stands.board f.stands.is in
    let there : entry_at (at_one p).standing.tables n place ≡ Some g.item = placed_at (at_one p).standing.tables n place g.board (keeps_key k) g.item (stood p n g.board drawn g.stands) g.first in
    f.told ∙ ap place_in there ∙ sym g.told

-- ---- ids that are told of two entries

some_entry : (o : Option Entry) → is_some o ≡ true → (e : Entry) × (o ≡ Some e)
some_entry None h = absurd cc
some_entry (Some e) h = (e, refl)

handle_at : (t : BoardTables) (board n place : ℕ) (k : Kind) → board ≡ n → IsHandleAt k place → HasEntryAt t board k → is_some (entry_at t n place) ≡ true
handle_at t board n place kind.Factory of at h = absurd at
handle_at t board n place (kind.Reader port) of at h = absurd at
handle_at t board n place (kind.Writer port) of at h = absurd at
handle_at t board n place (kind.ReadHandle i) of at h = ap (λ (b : ℕ). is_some (entry_at t b place)) (sym of) ∙ ap (λ (j : ℕ). is_some (entry_at t board j)) (sym at) ∙ h
handle_at t board n place (kind.WriteHandle i port) of at h = ap (λ (b : ℕ). is_some (entry_at t b place)) (sym of) ∙ ap (λ (j : ℕ). is_some (entry_at t board j)) (sym at) ∙ h

-- the entry of a handle that was asked for its id stands
told_entry : (s : State) (pair : Line × Answer) (n place number : ℕ) → AreAsked s.standing.tables s.parties → IsToldId s pair n place number → (e : Entry) × (entry_at s.standing.tables n place ≡ Some e)
told_entry s pair n place number asked m =
    let h : HasEntry s.standing.tables m.handle = subst (HasAsked s.standing.tables) m.request (subst (HasAskedOf s.standing.tables) m.runs (asked m.party)) in
    some_entry (entry_at s.standing.tables n place) (handle_at s.standing.tables m.handle.board n place m.handle.kind m.board m.of_entry h)

-- what is asked for stands, at both moments
first_asked : (p : Pairs) → AreAsked (at_one p).standing.tables (at_one p).parties
first_asked p = asked_session p.before start (lawful_split p.before (p.one ∷ (p.between ++ p.two ∷ [])) start p.lawful).0 sound_start (λ q. tt)

second_asked : (p : Pairs) → AreAsked (at_two p).standing.tables (at_two p).parties
second_asked p =
    let a = apart p in
    subst (λ (s : State). AreAsked s.standing.tables s.parties) (sym a.state) (asked_session (p.one ∷ p.between) (at_one p) (a.one, a.between) a.sound (first_asked p))

pub tell_others : OtherEntriesTellOtherIds
tell_others p n i j number x y =
    let a = apart p in
    let f = told_place (at_one p) p.one n i number a.sound a.one x in
    let g = told_place (at_two p) p.two n j number a.last a.two y in
    let drawn : n ≤ (at_one p).standing.tables.last_board = a.sound.boards.numbered n f.stands.board f.stands.is in
    let same : board_at (at_one p).standing.tables n ≡ board_at (at_two p).standing.tables n = stood p n g.stands.board drawn g.stands.is ∙ sym g.stands.is in
    let e = told_entry (at_one p) p.one n i number (first_asked p) x in
    let d = told_entry (at_two p) p.two n j number (second_asked p) y in
    other_places (at_one p) n i j e.0 d.0 a.sound e.1 (ap (λ (o : Option Board). entry_in o j) same ∙ d.1) (sym (f.told ∙ ap place_in e.1) ∙ g.told ∙ ap place_in d.1)

pub tell_no_others : HandlesTellNoOtherIds
tell_no_others p n i j number k t x y =
    let a = apart p in
    let f = made (at_one p) p.one n i number k t a.one x in
    let g = told_place (at_two p) p.two n j number a.last a.two y in
    let drawn : n ≤ (at_one p).standing.tables.last_board = a.sound.boards.numbered n f.board f.stands in
    let same : board_at (at_one p).standing.tables n ≡ board_at (at_two p).standing.tables n = stood p n g.stands.board drawn g.stands.is ∙ sym g.stands.is in
    let e : entry_at (at_one p).standing.tables n i ≡ Some f.item = placed_at (at_one p).standing.tables n i f.board (keeps_key k) f.item f.stands f.first in
    let d = told_entry (at_two p) p.two n j number (second_asked p) y in
    other_places (at_one p) n i j f.item d.0 a.sound e (ap (λ (o : Option Board). entry_in o j) same ∙ d.1) (sym f.told ∙ g.told ∙ ap place_in d.1)

pub later_others : LaterHandlesTellOtherIds
later_others p n i j number k t x y =
    let a = apart p in
    let f = told_place (at_one p) p.one n i number a.sound a.one x in
    let g = made (at_two p) p.two n j number k t a.two y in
    let drawn : n ≤ (at_one p).standing.tables.last_board = a.sound.boards.numbered n f.stands.board f.stands.is in
    let e = told_entry (at_one p) p.one n i number (first_asked p) x in
    let there : entry_at (at_one p).standing.tables n j ≡ Some g.item = placed_at (at_one p).standing.tables n j g.board (keeps_key k) g.item (stood p n g.board drawn g.stands) g.first in
    other_places (at_one p) n i j e.0 g.item a.sound e.1 there (sym (f.told ∙ ap place_in e.1) ∙ g.told)
