-- A board that is created.
use Rattle.std.proofs.Common.{◌≡◌, ℕ, ◌+◌, ◌*◌, ◌<◌, ◌≤◌, Bool, true, false, cond, List, [], ◌∷◌, ◌++◌, length, map, arith, refl, sym, ap, subst, ◌∙◌, Option, Some, None, inl, inr}
use Rattle.std.specs.Prelude.{is_some, slice_get, ◌⊎◌, ◌==◌}
use Rattle.std.specs.List.{AllByRecursion, count_by, list_any}
use Rattle.std.proofs.lemmas.Bool.{cases_eq, eq-eqb, eqb-true, ne_eqb}
use Rattle.board_layout.specs.Layout.{payload, cell_end, cell_shape}
use Rattle.board_model.specs.declared.attributes.Attribute.{Attribute}
use Rattle.board_model.specs.declared.tables.Board.{Board}
use Rattle.board_model.specs.declared.tables.Entry.{Entry}
use Rattle.board_model.specs.declared.tables.Kind.TheVariants as kind
use Rattle.board_model.specs.declared.tables.NewLimits.{NewLimits}
use Rattle.board_model.specs.declared.value.AddedEntry.{AddedEntry}
use Rattle.board_model.specs.declared.value.KeyType.{KeyType}
use Rattle.board_model.specs.TypeTable.{key_detail}
use Rattle.board_model.specs.Tables.{board_at, entry_at, entry_in, has_name, is_numbered, is_write_handle, new_board, shapes_of}
use Rattle.board_model.specs.TableCalls.{created}
use Rattle.board_model.specs.Things.{Held, is_held_as, thing_of}
use Rattle.board_model.specs.Requests.{Published}
use Rattle.board_model.specs.Replies.{added_of, first_list, with_first_values}
use Rattle.board_model.specs.Memory.{opening_of, with_board}
use Rattle.board_model.specs.Parties.{free, with_party}
use Rattle.board_model.specs.LawfulSession.{State}
use Rattle.board_model.specs.Sound.{AreBoards, BoardTables, HasBoard, HasEntry, IsCell, IsTyped, Sound}
use Rattle.board_model.proofs.ListLemmas.{any_missing, count_none, count_push, find_kept, find_push_cases, find_true, same_bytes}
use Rattle.board_model.proofs.ThingLemmas.{all_found, all_push, all_weaker, and_none, find_push_here, find_push_other, has_entry_kept, held_by_other}
use Rattle.board_model.proofs.KeptLemmas.{IsQuiet, quiet_loan, quiet_sound}
use Rattle.board_model.proofs.TableLemmas.{IsCalm}
use Rattle.board_model.proofs.OpeningLemmas.{opened_apart, opened_entry, opened_length}

-- ---- one board more

with_old : (m : ℕ → List ℕ) (n b : ℕ) (ws : List ℕ) → (n ≡ b → ⊥) → with_board m b ws n ≡ m n
with_old m n b ws ne = ap (λ (z : Bool). cond z ws (m n)) (ne_eqb n b ne)

with_here : (m : ℕ → List ℕ) (n b : ℕ) (ws : List ℕ) → n ≡ b → with_board m b ws n ≡ ws
with_here m n b ws e = ap (λ (z : Bool). cond z ws (m n)) (eq-eqb n b e)

opened_old : (l : Published) (n b i : ℕ) (entries : List AddedEntry) → (n ≡ b → ⊥) → with_first_values l b entries n i ≡ l n i
opened_old l n b i entries ne = ap (λ (z : Bool). cond z (first_list (slice_get entries i)) (l n i)) (ne_eqb n b ne)

opened_here : (l : Published) (n b i : ℕ) (entries : List AddedEntry) → n ≡ b → with_first_values l b entries n i ≡ first_list (slice_get entries i)
opened_here l n b i entries e = ap (λ (z : Bool). cond z (first_list (slice_get entries i)) (l n i)) (eq-eqb n b e)

module _ (s : State) (party f name : List ℕ) (k : KeyType) (limits : NewLimits) (attributes : List Attribute) (entries : List AddedEntry) where
  abbrev number : ℕ
  number = s.standing.tables.last_board + 1

  abbrev board : Board
  board = new_board number name (key_detail k) limits attributes (map added_of entries)

  abbrev factory : Held
  factory = record { holder = party; name = f; board = number; kind = kind.Factory }

  abbrev new_tables : BoardTables
  new_tables = created s.standing.tables party f name (key_detail k) limits attributes (map added_of entries)

  abbrev pub created_state : State
  created_state = record {
    memory = with_board s.memory number (opening_of entries);
    published = with_first_values s.published number entries;
    parties = with_party s.parties party free;
    standing = record s.standing { tables = new_tables };
  }

  -- a board that stands now stood before, or is the new one
  abbrev IsOldOrNew : ℕ → Board → Type 0
  IsOldOrNew n b = ((n ≤ s.standing.tables.last_board) × (board_at s.standing.tables n ≡ Some b)) ⊎ ((n ≡ number) × (board ≡ b))

  module _ (sound : Sound s) where
    old_or_new : (n : ℕ) (b : Board) → board_at new_tables n ≡ Some b → IsOldOrNew n b
    old_or_new n b e = at (find_push_cases (is_numbered n) s.standing.tables.boards board b e)
      where
        at : (board_at s.standing.tables n ≡ Some b) ⊎ ((board_at s.standing.tables n ≡ None) × (board ≡ b)) → IsOldOrNew n b
        at (inl h) = inl (sound.boards.numbered n b h, h)
        at (inr h) =
            let t : is_numbered n b ≡ true = find_true (is_numbered n) (s.standing.tables.boards ++ board ∷ []) b e in
            let q : b.number ≡ n = eqb-true b.number n t in
            inr (sym q ∙ ap (λ (x : Board). x.number) (sym h.1), h.1)

    -- so with the entries
    abbrev IsOldOrNewEntry : ℕ → ℕ → Entry → Type 0
    IsOldOrNewEntry n i e = ((n ≤ s.standing.tables.last_board) × (entry_at s.standing.tables n i ≡ Some e)) ⊎ ((n ≡ number) × (slice_get board.entries i ≡ Some e))

    entry_old_or_new : (n i : ℕ) (e : Entry) → entry_at new_tables n i ≡ Some e → IsOldOrNewEntry n i e
    entry_old_or_new n i e h = at (board_at new_tables n) refl h
      where
        found : (b : Board) → IsOldOrNew n b → slice_get b.entries i ≡ Some e → IsOldOrNewEntry n i e
        found b (inl x) g = inl (x.0, ap (λ (o : Option Board). entry_in o i) x.1 ∙ g)
        found b (inr x) g = inr (x.0, ap (λ (y : Board). slice_get y.entries i) x.1 ∙ g)

        at : (o : Option Board) → board_at new_tables n ≡ o → entry_in o i ≡ Some e → IsOldOrNewEntry n i e
        at None q g = absurd cc
        at (Some b) q g = found b (old_or_new n b q) g

    fresh_number : (n : ℕ) → n ≤ s.standing.tables.last_board → n ≡ number → ⊥
    fresh_number n le q = absurd (omega arith)

    none_numbered : board_at s.standing.tables number ≡ None
    none_numbered = at (board_at s.standing.tables number) refl
      where
        at : (o : Option Board) → board_at s.standing.tables number ≡ o → o ≡ None
        at None q = refl
        at (Some b) q = absurd (omega (arith, sound.boards.numbered number b q))

    singles : (n : ℕ) → count_by (is_numbered n) (s.standing.tables.boards ++ board ∷ []) ≤ 1
    singles n = at (cases_eq number n)
      where
        c : count_by (is_numbered n) (s.standing.tables.boards ++ board ∷ []) ≡ count_by (is_numbered n) s.standing.tables.boards + cond (number == n) 1 0
        c = count_push (is_numbered n) s.standing.tables.boards board

        at : (number ≡ n) ⊎ (number ≡ n → ⊥) → count_by (is_numbered n) (s.standing.tables.boards ++ board ∷ []) ≤ 1
        at (inl q) =
            let z : count_by (is_numbered n) s.standing.tables.boards ≡ 0 = subst (λ (m : ℕ). count_by (is_numbered m) s.standing.tables.boards ≡ 0) q (count_none (is_numbered number) s.standing.tables.boards (any_missing (is_numbered number) s.standing.tables.boards none_numbered)) in
            let d : ◌≡◌ {A = ℕ} (cond (number == n) 1 0) 1 = ap (λ (z : Bool). cond z 1 0) (eq-eqb number n q) in
            omega (arith, c, z, d)
        at (inr ne) =
            let d : ◌≡◌ {A = ℕ} (cond (number == n) 1 0) 0 = ap (λ (z : Bool). cond z 1 0) (ne_eqb number n ne) in
            omega (arith, c, d, sound.boards.single n)

    -- the name was free
    named : list_any (has_name name) s.standing.tables.boards ≡ false → (n : List ℕ) (z : Bool) → has_name n board ≡ z → count_by (has_name n) (s.standing.tables.boards ++ board ∷ []) ≤ 1
    named called n true e =
        let none : list_any (has_name n) s.standing.tables.boards ≡ false = subst (λ (m : List ℕ). list_any (has_name m) s.standing.tables.boards ≡ false) (same_bytes name n e) called in
        let d : ◌≡◌ {A = ℕ} (cond (has_name n board) 1 0) 1 = ap (λ (z : Bool). cond z 1 0) e in
        omega (arith, count_push (has_name n) s.standing.tables.boards board, count_none (has_name n) s.standing.tables.boards none, d)
    named called n false e =
        let d : ◌≡◌ {A = ℕ} (cond (has_name n board) 1 0) 0 = ap (λ (z : Bool). cond z 1 0) e in
        omega (arith, count_push (has_name n) s.standing.tables.boards board, sound.boards.named n, d)

    old_words : (n : ℕ) → n ≤ s.standing.tables.last_board → with_board s.memory number (opening_of entries) n ≡ s.memory n
    old_words n le = with_old s.memory n number (opening_of entries) (fresh_number n le)

    old_list : (n i : ℕ) → n ≤ s.standing.tables.last_board → with_first_values s.published number entries n i ≡ s.published n i
    old_list n i le = opened_old s.published n number i entries (fresh_number n le)

    typed : (n i : ℕ) (e : Entry) → IsOldOrNewEntry n i e → IsTyped e
    typed n i e (inl h) = sound.boards.typed n i e h.1
    typed n i e (inr h) = (opened_entry entries i e h.1).typed

    cells : (n i : ℕ) (e : Entry) → IsOldOrNewEntry n i e → IsCell (with_board s.memory number (opening_of entries) n) (cell_shape e.cell) (with_first_values s.published number entries n i)
    cells n i e (inl h) =
        subst (λ (ws : List ℕ). IsCell ws (cell_shape e.cell) (with_first_values s.published number entries n i)) (sym (old_words n h.0))
        (subst (λ (l : List (List ℕ)). IsCell (s.memory n) (cell_shape e.cell) l) (sym (old_list n i h.0)) (sound.boards.cells n i e h.1))
    cells n i e (inr h) =
        subst (λ (ws : List ℕ). IsCell ws (cell_shape e.cell) (with_first_values s.published number entries n i)) (sym (with_here s.memory n number (opening_of entries) h.0))
        (subst (λ (l : List (List ℕ)). IsCell (opening_of entries) (cell_shape e.cell) l) (sym (opened_here s.published n number i entries h.0)) (opened_entry entries i e h.1).cell)

    apart : (n i j : ℕ) (e g : Entry) → IsOldOrNewEntry n i e → IsOldOrNewEntry n j g → i < j → cell_end (cell_shape e.cell) ≤ g.cell.first
    apart n i j e g (inl h) (inl k) lt = sound.boards.apart n i j e g h.1 k.1 lt
    apart n i j e g (inl h) (inr k) lt = absurd (fresh_number n h.0 k.0)
    apart n i j e g (inr h) (inl k) lt = absurd (fresh_number n k.0 h.0)
    apart n i j e g (inr h) (inr k) lt = opened_apart entries i j e g h.1 k.1 lt

    placed : (n i : ℕ) (e : Entry) → IsOldOrNewEntry n i e → e.cell.place ≡ 8 * e.cell.first
    placed n i e (inl h) = sound.boards.placed n i e h.1
    placed n i e (inr h) = (opened_entry entries i e h.1).placed

    short : payload (shapes_of (map added_of entries)) ≤ 4294967295 → (n i : ℕ) (e : Entry) → IsOldOrNewEntry n i e → 8 * length (with_board s.memory number (opening_of entries) n) ≤ 4294967295
    short small n i e (inl h) = rw (old_words n h.0) (sound.boards.short n i e h.1)
    short small n i e (inr h) = rw (with_here s.memory n number (opening_of entries) h.0) (omega (arith, opened_length entries, small))

    boards : list_any (has_name name) s.standing.tables.boards ≡ false → payload (shapes_of (map added_of entries)) ≤ 4294967295 → AreBoards new_tables (with_board s.memory number (opening_of entries)) (with_first_values s.published number entries)
    boards called small = record {
      numbered = λ n b e. numbered n b (old_or_new n b e);
      single = singles;
      named = λ n. named called n (has_name n board) refl;
      keyed = λ n b e. keyed n b (old_or_new n b e);
      unused = λ n i lt. opened_old s.published n number i entries (λ q. absurd (omega arith)) ∙ sound.boards.unused n i (omega arith);
      typed = λ n i e h. typed n i e (entry_old_or_new n i e h);
      cells = λ n i e h. cells n i e (entry_old_or_new n i e h);
      apart = λ n i j e g h k lt. apart n i j e g (entry_old_or_new n i e h) (entry_old_or_new n j g k) lt;
      placed = λ n i e h. placed n i e (entry_old_or_new n i e h);
      short = λ n i e h. short small n i e (entry_old_or_new n i e h);
    }
      where
        numbered : (n : ℕ) (b : Board) → IsOldOrNew n b → n ≤ number
        numbered n b (inl h) = omega (arith, h.0)
        numbered n b (inr h) = omega (arith, h.0)

        keyed : (n : ℕ) (b : Board) → IsOldOrNew n b → (j : KeyType) × (b.key ≡ key_detail j)
        keyed n b (inl h) = sound.boards.keyed n b h.1
        keyed n b (inr h) = (k, ap (λ (x : Board). x.key) (sym h.1))

    -- the boards that stood are found as before
    kept_board : (n : ℕ) → is_some (board_at s.standing.tables n) ≡ true → board_at new_tables n ≡ board_at s.standing.tables n
    kept_board n h = at (board_at s.standing.tables n) refl h
      where
        at : (o : Option Board) → board_at s.standing.tables n ≡ o → is_some o ≡ true → board_at new_tables n ≡ o
        at None q g = absurd cc
        at (Some b) q g = find_kept (is_numbered n) s.standing.tables.boards (board ∷ []) b q

    drawn : (n : ℕ) → is_some (board_at s.standing.tables n) ≡ true → n ≤ s.standing.tables.last_board
    drawn n h = at (board_at s.standing.tables n) refl h
      where
        at : (o : Option Board) → board_at s.standing.tables n ≡ o → is_some o ≡ true → n ≤ s.standing.tables.last_board
        at None q g = absurd cc
        at (Some b) q g = sound.boards.numbered n b q

    quiet : IsQuiet s created_state
    quiet = record { words = λ n h. old_words n (drawn n h); lists = λ n i h. old_list n i (drawn n h) }

    thing_board : (q n : List ℕ) (x : Held) → thing_of s.standing.tables.things q n ≡ Some x → board_at new_tables x.board ≡ board_at s.standing.tables x.board
    thing_board q n x e = kept_board x.board (all_found (HasBoard s.standing.tables) (is_held_as q n) s.standing.tables.things x sound.things.standing e)

    fewer : (n i : ℕ) → count_by (is_write_handle n i) (s.standing.tables.things ++ factory ∷ []) ≤ 1
    fewer n i = at (number == n)
      where
        c : count_by (is_write_handle n i) (s.standing.tables.things ++ factory ∷ []) ≡ count_by (is_write_handle n i) s.standing.tables.things + cond (is_write_handle n i factory) 1 0
        c = count_push (is_write_handle n i) s.standing.tables.things factory

        at : (z : Bool) → count_by (is_write_handle n i) (s.standing.tables.things ++ factory ∷ []) ≤ 1
        at z =
            let d : is_write_handle n i factory ≡ false = and_none (number == n) in
            let e : ◌≡◌ {A = ℕ} (cond (is_write_handle n i factory) 1 0) 0 = ap (λ (b : Bool). cond b 1 0) d in
            omega (arith, c, e, sound.things.handles n i)

    pub create_sound : IsCalm s party → thing_of s.standing.tables.things party f ≡ None → list_any (has_name name) s.standing.tables.boards ≡ false → payload (shapes_of (map added_of entries)) ≤ 4294967295 → Sound created_state
    create_sound calm unheld called small = quiet_sound s created_state party free sound (record {
      quiet = quiet;
      parties = λ q. refl;
      boards = boards called small;
      handles = fewer;
      standing = all_push (HasBoard new_tables) s.standing.tables.things factory (all_weaker (HasBoard s.standing.tables) (HasBoard new_tables) (λ x h. ap is_some (kept_board x.board h) ∙ h) s.standing.tables.things sound.things.standing) here;
      entries = all_push (HasEntry new_tables) s.standing.tables.things factory (all_both s.standing.tables.things sound.things.standing sound.things.entries) tt;
      others = λ q ne. record { things = λ n. find_push_other (is_held_as q n) s.standing.tables.things factory (held_by_other q party n factory refl ne); loans = λ n. refl; boards = λ n x e. thing_board q n x e };
      mine = λ n ws e.
          let l = sound.things.loans party n ws e in
          quiet_loan s created_state sound quiet party n ws l (find_kept (is_held_as party n) s.standing.tables.things (factory ∷ []) l.thing l.found ∙ sym l.found) (λ x g. thing_board party n x g) (λ n i a. calm n i);
      own = tt;
    })
      where
        here : is_some (board_at new_tables number) ≡ true
        here = ap is_some (find_push_here (is_numbered number) s.standing.tables.boards board none_numbered (eq-eqb number number refl))

        all_both : (xs : List Held) → AllByRecursion (HasBoard s.standing.tables) xs → AllByRecursion (HasEntry s.standing.tables) xs → AllByRecursion (HasEntry new_tables) xs
        all_both [] h e = tt
        all_both (x ∷ xs) h e = (has_entry_kept s.standing.tables new_tables x.board (λ i. ap (λ (o : Option Board). entry_in o i) (kept_board x.board h.0)) x.kind e.0, all_both xs h.1 e.1)
