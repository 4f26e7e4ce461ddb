-- A line that stores one word in the cell of an entry, by the party that holds the entry's write handle.
use Rattle.std.proofs.Common.{◌≡◌, ℕ, ◌+◌, ◌<◌, ◌≤◌, Bool, true, false, cond, List, length, set, get_or-set_other, arith, refl, sym, ap, subst, ◌∙◌, Option, Some, None, inl, inr}
use Rattle.std.specs.Prelude.{◌⊎◌, ◌==◌}
use Rattle.std.specs.List.{AllByRecursion, count_by}
use Rattle.std.specs.Str.{bytes_eq}
use Rattle.std.proofs.lemmas.Bool.{cases_eq, cases_lt, eq-eqb, eqb-true}
use Rattle.std.proofs.lemmas.List.{length-set}
use Rattle.std.proofs.lemmas.Option.{slice_get_within}
use Rattle.board_layout.specs.declared.shape.CellShape.{CellShape}
use Rattle.board_cell_model.specs.declared.access.Access.TheVariants as access
use Rattle.board_model.specs.declared.tables.Board.{Board}
use Rattle.board_model.specs.declared.tables.Entry.{Entry}
use Rattle.board_cell_model.specs.OwedAccesses.{spare_at}
use Rattle.board_layout.specs.Layout.{cell_end, cell_shape}
use Rattle.board_model.specs.Tables.{board_at, entry_at, entry_in, entry_of, is_write_handle}
use Rattle.board_model.specs.Things.{Held, Standing, is_held_as, thing_of}
use Rattle.board_model.specs.Requests.{Fetch, Published, get}
use Rattle.board_model.specs.Memory.{store}
use Rattle.board_model.specs.Parties.{Party, Running, count_write, notice, reading, with_party}
use Rattle.board_model.specs.LawfulSession.{State}
use Rattle.board_model.specs.Sound.{AreBoards, HasBoard, HasEntry, IsCell, IsEntryOf, IsGetting, IsLent, IsLoan, IsParty, IsReading, Sound, Stands, is_suspended}
use Rattle.board_model.proofs.ListLemmas.{same_bytes}
use Rattle.board_model.proofs.ThingLemmas.{found_as, one_handle}
use Rattle.board_model.proofs.CopyLemmas.{cell_kept, copy_inside, outside_untouched, stands_kept}
use Rattle.board_model.proofs.KeptLemmas.{KeepsThings, Spares, noticed_suspended, spared_party, with_parties}
use Rattle.board_model.proofs.TableLemmas.{same_name, same_shape}

-- ---- words outside a cell

-- the word is in the cell
pub record IsIn (c : CellShape) (i : ℕ) : Type 0 where
  pub low : c.first ≤ i
  pub high : i < cell_end c

abbrev pub IsOut : CellShape → ℕ → Type 0
IsOut c w = (w < c.first) ⊎ (cell_end c ≤ w)

outside_stands : (words : List ℕ) (c : CellShape) (g w v : ℕ) (these : List ℕ) → 0 < c.head → length these ≤ c.words → IsOut c w → Stands words (spare_at c g) these → Stands (set words w v) (spare_at c g) these
outside_stands words c g w v these head size (inl h) st =
    let b = copy_inside c g in
    stands_kept words (spare_at c g) w v these (λ k lt e. absurd (omega (arith, b.low))) st
outside_stands words c g w v these head size (inr h) st =
    let b = copy_inside c g in
    stands_kept words (spare_at c g) w v these (λ k lt e. absurd (omega (arith, b.high))) st

outside_lent : (words : List ℕ) (c : CellShape) (g w v : ℕ) (ws : List (Option ℕ)) → 0 < c.head → IsOut c w → IsLent words c g ws → IsLent (set words w v) c g ws
outside_lent words c g w v ws head o l = record {
  size = l.size;
  stands = λ k x q. get_or-set_other words w (spare_at c g + k) v 0 (off k (slice_get_within ws k (Some x) q) o) ∙ l.stands k x q;
}
  where
    off : (k : ℕ) → k < length ws → IsOut c w → spare_at c g + k ≡ w → ⊥
    off k lt (inl a) e = let i = copy_inside c g in absurd (omega (arith, i.low))
    off k lt (inr a) e = let i = copy_inside c g in absurd (omega (arith, i.high, l.size))

-- a word in an entry's cell is outside every other entry's
outside : (s : State) → Sound s → (n i j : ℕ) (e f : Entry) (w : ℕ) → entry_at s.standing.tables n i ≡ Some e → entry_at s.standing.tables n j ≡ Some f → (i ≡ j → ⊥) → IsIn (cell_shape e.cell) w → IsOut (cell_shape f.cell) w
outside s sound n i j e f w hi hj ne h = at (cases_lt i j)
  where
    at : (i < j) ⊎ (j ≤ i) → IsOut (cell_shape f.cell) w
    at (inl l) = let a = sound.boards.apart n i j e f hi hj l in inl (omega (arith, a, h.high))
    at (inr l) =
        let lt : j < i = omega arith in
        let a = sound.boards.apart n j i f e hj hi lt in inr (omega (arith, a, h.low))

pub own_cell : (s : State) → Sound s → (b i : ℕ) (c : CellShape) → IsEntryOf s.standing.tables b i c → IsCell (s.memory b) c (s.published b i)
own_cell s sound b i c h = subst (λ (x : CellShape). IsCell (s.memory b) x (s.published b i)) (sym h.shape) (sound.boards.cells b i h.entry h.found)

pub store_length : (m : ℕ → List ℕ) (b w v n : ℕ) → length (store m b w v n) ≡ length (m n)
store_length m b w v n = at (n == b)
  where
    at : (z : Bool) → length (cond z (set (m n) w v) (m n)) ≡ length (m n)
    at true = length-set (m n) w v
    at false = refl

pub store_here : (m : ℕ → List ℕ) (b w v n : ℕ) → n ≡ b → store m b w v n ≡ set (m b) w v
store_here m b w v n e = ap (λ (z : Bool). cond z (set (m n) w v) (m n)) (eq-eqb n b e) ∙ ap (λ (k : ℕ). set (m k) w v) e

-- ---- a store

abbrev pub word_parties : State → List ℕ → ℕ → ℕ → ℕ → Party → List ℕ → Party
word_parties s party b w v x = with_party (λ p. notice (access.Write b w v) (s.parties p)) party x

-- the state after it, with the lists, what stands, and the party
abbrev pub stored : State → List ℕ → ℕ → ℕ → ℕ → Published → Standing → Party → State
stored s party b w v lists standing x = record { memory = store s.memory b w v; published = lists; parties = word_parties s party b w v x; standing = standing }

abbrev pub IsThere : ℕ → ℕ → ℕ → ℕ → Type 0
IsThere b e n i = (n ≡ b) × (i ≡ e)

-- what stands afterwards: of what the party held under this name, nothing but the name and the loan has changed
pub record IsOwnChange (s : Standing) (party name : List ℕ) (new : Standing) : Type 0 where
  pub boards : (memory : ℕ → List ℕ) (published : Published) → AreBoards s.tables memory published → AreBoards new.tables memory published
  pub same : (n i : ℕ) → entry_at new.tables n i ≡ entry_at s.tables n i
  pub last : new.tables.last_board ≡ s.tables.last_board
  pub handles : (n i : ℕ) → count_by (is_write_handle n i) new.tables.things ≤ 1
  pub standing : AllByRecursion (HasBoard new.tables) new.tables.things
  pub entries : AllByRecursion (HasEntry new.tables) new.tables.things
  pub others : (q : List ℕ) → (q ≡ party → ⊥) → KeepsThings s new q
  pub elsewhere : (n : List ℕ) (ws : List (Option ℕ)) → (n ≡ name → ⊥) → new.loans party n ≡ Some ws → (s.loans party n ≡ Some ws) × (thing_of new.tables.things party n ≡ thing_of s.tables.things party n)

pub record IsStore (s : State) (party name : List ℕ) (b e w v : ℕ) (c : CellShape) (lists : Published) (new : Standing) (x : Party) : Type 0 where
  pub place : IsEntryOf s.standing.tables b e c
  pub thing : Held
  pub found : thing_of s.standing.tables.things party name ≡ Some thing
  pub writes : is_write_handle b e thing ≡ true
  pub inside : IsIn c w
  pub cell : IsCell (set (s.memory b) w v) c (lists b e)
  pub same : (n i : ℕ) → (IsThere b e n i → ⊥) → lists n i ≡ s.published n i
  pub own : IsOwnChange s.standing party name new
  pub here : (ws : List (Option ℕ)) → new.loans party name ≡ Some ws → IsLoan new.tables (store s.memory b w v) lists (word_parties s party b w v x) party name ws
  pub awake : (n i : ℕ) → (IsThere b e n i → ⊥) → is_suspended x n i ≡ false → is_suspended (s.parties party) n i ≡ false
  pub gets : (q : List ℕ) (r : Running) (f : Fetch) → r.request ≡ get f → IsGetting s q f r.so_far r.passed → IsReading (lists f.board f.entry) f.shape.words (length r.so_far) (count_write r b w) (reading f.shape.words r.so_far)
  pub calling : IsParty (stored s party b w v lists new x) party x

module _ (s : State) (sound : Sound s) (party name : List ℕ) (b e w v : ℕ) (c : CellShape) (lists : Published) (new : Standing) (x : Party) (st : IsStore s party name b e w v c lists new x) where
  -- the write handle of the entry is the party's, under this name
  one_holder : (q n : List ℕ) (y : Held) → thing_of s.standing.tables.things q n ≡ Some y → is_write_handle b e y ≡ true → (q ≡ party) × (n ≡ name)
  one_holder q n y f h =
      let z : y ≡ st.thing = one_handle s.standing.tables.things b e (is_held_as q n) (is_held_as party name) y st.thing (sound.things.handles b e) f h st.found st.writes in
      let u = found_as s.standing.tables.things q n y f in
      let t = found_as s.standing.tables.things party name st.thing st.found in
      (sym u.holder ∙ ap (λ (k : Held). k.holder) z ∙ t.holder, sym u.named ∙ ap (λ (k : Held). k.name) z ∙ t.named)

  there : (n i : ℕ) (y : Held) → is_write_handle n i y ≡ true → IsThere b e n i → is_write_handle b e y ≡ true
  there n i y h q = subst (λ (m : ℕ). is_write_handle m e y ≡ true) q.0 (subst (λ (m : ℕ). is_write_handle n m y ≡ true) q.1 h)

  off_entry : (q n : List ℕ) (m i : ℕ) (y : Held) → (q ≡ party → ⊥) → thing_of s.standing.tables.things q n ≡ Some y → is_write_handle m i y ≡ true → IsThere b e m i → ⊥
  off_entry q n m i y ne f h t = ne (one_holder q n y f (there m i y h t)).0

  out : (n i : ℕ) (d : CellShape) → IsEntryOf s.standing.tables n i d → (IsThere b e n i → ⊥) → n ≡ b → IsOut d w
  out n i d h off q =
      let f : entry_at s.standing.tables n e ≡ Some st.place.entry = ap (λ (m : ℕ). entry_at s.standing.tables m e) q ∙ st.place.found in
      let k : IsIn (cell_shape st.place.entry.cell) w = subst (λ (y : CellShape). IsIn y w) st.place.shape st.inside in
      subst (λ (y : CellShape). IsOut y w) (sym h.shape) (outside s sound n e i st.place.entry h.entry w f h.found (λ y. off (q, sym y)) k)

  head_of : (n i : ℕ) (d : CellShape) → IsEntryOf s.standing.tables n i d → 0 < d.head
  head_of n i d h = (own_cell s sound n i d h).head

  stands_elsewhere : (n i : ℕ) (d : CellShape) (g : ℕ) (these : List ℕ) → IsEntryOf s.standing.tables n i d → (IsThere b e n i → ⊥) → length these ≤ d.words → Stands (s.memory n) (spare_at d g) these → Stands (store s.memory b w v n) (spare_at d g) these
  stands_elsewhere n i d g these h off size k = at (n == b) (eqb-true n b)
    where
      at : (z : Bool) → (z ≡ true → n ≡ b) → Stands (cond z (set (s.memory n) w v) (s.memory n)) (spare_at d g) these
      at false q = k
      at true q = outside_stands (s.memory n) d g w v these (head_of n i d h) size (out n i d h off (q refl)) k

  lent_elsewhere : (n i : ℕ) (d : CellShape) (g : ℕ) (ws : List (Option ℕ)) → IsEntryOf s.standing.tables n i d → (IsThere b e n i → ⊥) → IsLent (s.memory n) d g ws → IsLent (store s.memory b w v n) d g ws
  lent_elsewhere n i d g ws h off k = at (n == b) (eqb-true n b)
    where
      at : (z : Bool) → (z ≡ true → n ≡ b) → IsLent (cond z (set (s.memory n) w v) (s.memory n)) d g ws
      at false q = k
      at true q = outside_lent (s.memory n) d g w v ws (head_of n i d h) (out n i d h off (q refl)) k

  -- ---- the boards

  far : (n i : ℕ) (f : Entry) → entry_at s.standing.tables n i ≡ Some f → (IsThere b e n i → ⊥) → IsCell (store s.memory b w v n) (cell_shape f.cell) (lists n i)
  far n i f h off = subst (λ (l : List (List ℕ)). IsCell (store s.memory b w v n) (cell_shape f.cell) l) (sym (st.same n i off)) (at (n == b) (eqb-true n b))
    where
      at : (z : Bool) → (z ≡ true → n ≡ b) → IsCell (cond z (set (s.memory n) w v) (s.memory n)) (cell_shape f.cell) (s.published n i)
      at false q = sound.boards.cells n i f h
      at true q =
          let k = sound.boards.cells n i f h in
          let o = out n i (cell_shape f.cell) (record { entry = f; found = h; shape = refl }) off (q refl) in
          cell_kept (s.memory n) (cell_shape f.cell) (s.published n i) w v (outside_untouched (cell_shape f.cell) (length (s.published n i)) w k.head o) k

  near : (n i : ℕ) (f : Entry) → entry_at s.standing.tables n i ≡ Some f → n ≡ b → i ≡ e → cell_shape f.cell ≡ c
  near n i f h p q = same_shape s.standing.tables b e c f st.place (ap (λ (m : ℕ). entry_at s.standing.tables m e) (sym p) ∙ ap (λ (m : ℕ). entry_at s.standing.tables n m) (sym q) ∙ h)

  cells : (n i : ℕ) (f : Entry) → entry_at s.standing.tables n i ≡ Some f → (n ≡ b) ⊎ (n ≡ b → ⊥) → (i ≡ e) ⊎ (i ≡ e → ⊥) → IsCell (store s.memory b w v n) (cell_shape f.cell) (lists n i)
  cells n i f h (inr ne) q = far n i f h (λ y. ne y.0)
  cells n i f h (inl p) (inr ne) = far n i f h (λ y. ne y.1)
  cells n i f h (inl p) (inl q) =
      subst (λ (ws : List ℕ). IsCell ws (cell_shape f.cell) (lists n i)) (sym (store_here s.memory b w v n p))
      (subst (λ (d : CellShape). IsCell (set (s.memory b) w v) d (lists n i)) (sym (near n i f h p q))
      (subst (λ (m : ℕ). IsCell (set (s.memory b) w v) c (lists n m)) (sym q) (subst (λ (m : ℕ). IsCell (set (s.memory b) w v) c (lists m e)) (sym p) st.cell)))

  board_drawn : b ≤ s.standing.tables.last_board
  board_drawn = at (board_at s.standing.tables b) refl st.place.found
    where
      at : (o : Option Board) → board_at s.standing.tables b ≡ o → entry_in o e ≡ Some st.place.entry → b ≤ s.standing.tables.last_board
      at None q f = absurd cc
      at (Some y) q f = sound.boards.numbered b y q

  boards_stored : AreBoards s.standing.tables (store s.memory b w v) lists
  boards_stored = record {
    numbered = sound.boards.numbered;
    single = sound.boards.single;
    named = sound.boards.named;
    keyed = sound.boards.keyed;
    unused = λ n i lt. st.same n i (λ q. absurd (omega (arith, board_drawn, q.0, lt))) ∙ sound.boards.unused n i lt;
    typed = sound.boards.typed;
    cells = λ n i f h. cells n i f h (cases_eq n b) (cases_eq i e);
    apart = sound.boards.apart;
    placed = sound.boards.placed;
    short = λ n i f h. rw (store_length s.memory b w v n) (sound.boards.short n i f h);
  }

  -- ---- the loans

  awake : (n i : ℕ) → (IsThere b e n i → ⊥) → (q : List ℕ) → is_suspended (word_parties s party b w v x q) n i ≡ false → is_suspended (s.parties q) n i ≡ false
  awake n i off q h = at (bytes_eq q party) (same_bytes q party) h
    where
      at : (z : Bool) → (z ≡ true → q ≡ party) → is_suspended (cond z x (notice (access.Write b w v) (s.parties q))) n i ≡ false → is_suspended (s.parties q) n i ≡ false
      at true t k = subst (λ (y : List ℕ). is_suspended (s.parties y) n i ≡ false) (sym (t refl)) (st.awake n i off k)
      at false t k = sym (noticed_suspended (access.Write b w v) (s.parties q) n i) ∙ k

  loan_elsewhere : (q n : List ℕ) (ws : List (Option ℕ)) → ((q ≡ party) × (n ≡ name) → ⊥) → IsLoan s.standing.tables s.memory s.published s.parties q n ws → thing_of new.tables.things q n ≡ thing_of s.standing.tables.things q n
      → IsLoan new.tables (store s.memory b w v) lists (word_parties s party b w v x) q n ws
  loan_elsewhere q n ws ne k f = record {
    thing = k.thing;
    found = f ∙ k.found;
    writes = k.writes;
    put = λ y g a.
        let m = k.thing.board in
        let j = entry_of k.thing.kind in
        let off : IsThere b e m j → ⊥ = λ t. ne (one_holder q n k.thing k.found (there m j k.thing k.writes t)) in
        let old : entry_at s.standing.tables m j ≡ Some y = sym (st.own.same m j) ∙ g in
        let l = k.put y old (awake m j off q a) in
        subst (λ (z : List (List ℕ)). IsLent (store s.memory b w v m) (cell_shape y.cell) (length z) ws) (sym (st.same m j off))
        (lent_elsewhere m j (cell_shape y.cell) (length (s.published m j)) ws (record { entry = y; found = old; shape = refl }) off l);
  }

  loans : (q n : List ℕ) (ws : List (Option ℕ)) → new.loans q n ≡ Some ws → (q ≡ party) ⊎ (q ≡ party → ⊥) → (n ≡ name) ⊎ (n ≡ name → ⊥) → IsLoan new.tables (store s.memory b w v) lists (word_parties s party b w v x) q n ws
  loans q n ws h (inr ne) o =
      let k = st.own.others q ne in
      loan_elsewhere q n ws (λ y. ne y.0) (sound.things.loans q n ws (sym (k.loans n) ∙ h)) (k.things n)
  loans q n ws h (inl p) (inl o) =
      let h' = subst (λ (y : List ℕ). new.loans y name ≡ Some ws) p (subst (λ (y : List ℕ). new.loans q y ≡ Some ws) o h) in
      subst (λ (y : List ℕ). IsLoan new.tables (store s.memory b w v) lists (word_parties s party b w v x) y n ws) (sym p)
      (subst (λ (y : List ℕ). IsLoan new.tables (store s.memory b w v) lists (word_parties s party b w v x) party y ws) (sym o) (st.here ws h'))
  loans q n ws h (inl p) (inr ne) =
      let h' = subst (λ (y : List ℕ). new.loans y n ≡ Some ws) p h in
      let k = st.own.elsewhere n ws ne h' in
      subst (λ (y : List ℕ). IsLoan new.tables (store s.memory b w v) lists (word_parties s party b w v x) y n ws) (sym p)
      (loan_elsewhere party n ws (λ y. ne y.1) (sound.things.loans party n ws k.0) k.1)

  -- ---- the other parties

  spares : (q : List ℕ) → (q ≡ party → ⊥) → Spares s (stored s party b w v lists new x) (access.Write b w v) q
  spares q ne = record {
    things = st.own.others q ne;
    lists = λ n m i l d h p. st.same m i (off_entry q n m i h.thing ne h.found h.writes);
    words = λ n m i l d g these h p size k. stands_elsewhere m i d g these p (off_entry q n m i h.thing ne h.found h.writes) size k;
    puts = λ n m i l d g ws h p k. lent_elsewhere m i d g ws p (off_entry q n m i h.thing ne h.found h.writes) k;
    gets = λ r f rq g. st.gets q r f rq g;
  }

  pub store_sound : Sound (stored s party b w v lists new x)
  store_sound = record {
    boards = st.own.boards (store s.memory b w v) lists boards_stored;
    things = record { handles = st.own.handles; standing = st.own.standing; entries = st.own.entries; loans = λ q n ws h. loans q n ws h (same_name q party) (same_name n name) };
    parties = with_parties (stored s party b w v lists new x) party x (λ p. notice (access.Write b w v) (s.parties p)) st.calling
        (λ p ne. spared_party s (stored s party b w v lists new x) (access.Write b w v) p (spares p ne) (s.parties p) (sound.parties p));
  }
