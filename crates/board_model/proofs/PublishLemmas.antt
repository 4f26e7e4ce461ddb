-- The steps of an update, a fill, a put and a publish keep a sound state sound.
use Rattle.std.proofs.Common.{◌≡◌, ℕ, zero, suc, ◌+◌, ◌-◌, ◌*◌, ◌<◌, ◌≤◌, Bool, true, false, cond, List, [], ◌∷◌, ◌++◌, length, take, set, get_or, get_or-set_other, get_or-set_same, arith, refl, sym, ap, subst, ◌∙◌, Option, Some, None, inl, inr}
use Rattle.std.specs.Prelude.{slice_get, slice_set, slice_index, ◌⊎◌, ◌==◌, ◌&&◌, not}
use Rattle.std.proofs.lemmas.Bool.{and_from, both_ways, cases_eq, eq-eqb, eqb-true, ne_eqb}
use Rattle.std.proofs.lemmas.List.{length-set, length_push, take_all}
use Rattle.std.proofs.lemmas.Option.{same_Some}
use Rattle.std.proofs.Math.Nat.{mul-le-mul_right}
use Rattle.board_layout.specs.declared.shape.CellShape.{CellShape}
use Rattle.board_cell_model.specs.declared.access.Access.TheVariants as access
use Rattle.board_cell_model.specs.OwedAccesses.{spare_at}
use Rattle.board_cell_model.specs.OwedAccesses.{Reading, finished, opening, trying}
use Rattle.board_model.specs.Tables.{entry_at, entry_of}
use Rattle.board_model.specs.Things.{Standing, thing_of, with_at, with_name}
use Rattle.board_layout.specs.Layout.{cell_shape}
use Rattle.board_model.specs.Requests.{Fetch, Lending, Published, Request, get}
use Rattle.board_model.specs.Replies.{given_back, published_at, with_word}
use Rattle.board_model.specs.Memory.{store}
use Rattle.board_model.specs.Parties.{Party, Running, count_write, free, is_counter_of, notice, reading}
use Rattle.board_model.specs.LawfulSession.{State}
use Rattle.board_model.specs.Sound.{IsCell, IsEntryOf, IsFree, IsGetting, IsLending, IsLent, IsLoan, IsParty, IsPublishing, IsPut, IsPutting, IsReading, Sound, Stands, is_suspended}
use Rattle.board_model.proofs.ThingLemmas.{anew_boards, anew_count, anew_entries, anew_found_elsewhere, anew_found_other, entries_kept, of_entry}
use Rattle.board_model.proofs.CopyLemmas.{IsUntouched, cell_kept, cell_published, copy_inside, spare_untouched, stands_more}
use Rattle.board_model.proofs.KeptLemmas.{keeps_all, party_here}
use Rattle.board_model.proofs.TableLemmas.{at_here, at_other_name, at_other_party, boards_again, give_back_renames, none_some, own_entry, same_name, same_shape, unlent_handle}
use Rattle.board_model.proofs.StoreLemmas.{IsIn, IsOwnChange, IsThere, own_cell, store_here, store_sound, stored, word_parties}

-- ---- what stands afterwards

pub own_same : (s : State) (party name : List ℕ) → Sound s → IsOwnChange s.standing party name s.standing
own_same s party name sound = record {
  boards = λ m p h. h;
  same = λ n i. refl;
  last = refl;
  handles = sound.things.handles;
  standing = sound.things.standing;
  entries = sound.things.entries;
  others = λ q ne. keeps_all s.standing q;
  elsewhere = λ n ws ne e. (e, refl);
}

pub own_given_back : (s : State) (party : List ℕ) (l : Lending) → Sound s → IsFree s.standing party l.handle → IsLending s party l l.loan true → IsOwnChange s.standing party l.loan (given_back s.standing party l)
own_given_back s party l sound unheld h =
    let r = give_back_renames s party l sound unheld h in
    record {
      boards = λ m p k. boards_again s.standing.tables m p _ s.standing.tables.last_port k;
      same = λ n i. refl;
      last = refl;
      handles = λ n j. omega (arith, anew_count s.standing.tables.things party l.loan l.handle n j, sound.things.handles n j);
      standing = anew_boards s.standing.tables s.standing.tables.things party l.loan l.handle sound.things.standing;
      entries = entries_kept s.standing.tables (with_name s.standing.tables party l.loan l.handle) (λ n i. refl) (with_name s.standing.tables party l.loan l.handle).things (anew_entries s.standing.tables s.standing.tables.things party l.loan l.handle sound.things.entries);
      others = λ q ne. record { things = λ name. anew_found_other s.standing.tables.things party l.loan l.handle q name ne; loans = λ name. r.others q name ne; boards = λ name x e. refl };
      elsewhere = λ n ws ne e. elsewhere n ws ne e (same_name n l.handle);
    }
  where
    elsewhere : (n : List ℕ) (ws : List (Option ℕ)) → (n ≡ l.loan → ⊥) → with_at s.standing.loans party l.loan None party n ≡ Some ws → (n ≡ l.handle) ⊎ (n ≡ l.handle → ⊥)
        → (s.standing.loans party n ≡ Some ws) × (thing_of (with_name s.standing.tables party l.loan l.handle).things party n ≡ thing_of s.standing.tables.things party n)
    elsewhere n ws ne e (inl q) = absurd (unlent_handle s party l ws sound unheld (ap (λ (m : List ℕ). with_at s.standing.loans party l.loan None party m) (sym q) ∙ e))
    elsewhere n ws ne e (inr off) = (sym (at_other_name s.standing.loans party l.loan n None ne) ∙ e, anew_found_elsewhere s.standing.tables.things party l.loan l.handle n ne off)

own_put : (s : State) (party : List ℕ) (l : Lending) (i w : ℕ) → Sound s → IsOwnChange s.standing party l.loan (with_word s.standing party l i w)
own_put s party l i w sound = record {
  boards = λ m p h. h;
  same = λ n j. refl;
  last = refl;
  handles = sound.things.handles;
  standing = sound.things.standing;
  entries = sound.things.entries;
  others = λ q ne. record { things = λ name. refl; loans = λ name. at_other_party s.standing.loans party l.loan q name (Some (slice_set l.words i (Some w))) ne; boards = λ name x e. refl };
  elsewhere = λ n ws ne e. (sym (at_other_name s.standing.loans party l.loan n (Some (slice_set l.words i (Some w))) ne) ∙ e, refl);
}

-- ---- gets

pub more_passed : (list : List (List ℕ)) (w n p q : ℕ) (r : Reading) → p ≤ q → IsReading list w n p r → IsReading list w n q r
more_passed list w n p q opening le h = h
more_passed list w n p q (trying c ws) le h =
    let m : p * (w + 1) ≤ q * (w + 1) = mul-le-mul_right (w + 1) le in
    record { below = h.below; size = h.size; same = h.same; least = h.least; most = omega (arith, h.most, m) }
more_passed list w n p q (finished c ws) le h = h

pub count_more : (r : Running) (b w : ℕ) → r.passed ≤ count_write r b w
count_more r b w = at (is_counter_of r.request b w && not (length r.so_far == 0))
  where
    at : (z : Bool) → r.passed ≤ cond z (r.passed + 1) r.passed
    at true = omega arith
    at false = omega arith

same_gets : (s : State) (b w : ℕ) (q : List ℕ) (r : Running) (f : Fetch) → r.request ≡ get f → IsGetting s q f r.so_far r.passed → IsReading (s.published f.board f.entry) f.shape.words (length r.so_far) (count_write r b w) (reading f.shape.words r.so_far)
same_gets s b w q r f rq g = more_passed (s.published f.board f.entry) f.shape.words (length r.so_far) r.passed (count_write r b w) (reading f.shape.words r.so_far) (count_more r b w) g.try

-- a get after a list grew, where the write of the counter was counted
publish_reading : (list : List (List ℕ)) (v : List ℕ) (w n p q : ℕ) (r : Reading) → IsReading list w n p r → (0 < n → q ≡ p + 1) → IsReading (list ++ v ∷ []) w n q r
publish_reading list v w n p q opening h c = h
publish_reading list v w n p q (trying counter ws) h c =
    let m : length (list ++ v ∷ []) ≡ length list + 1 = length_push list v in
    let d : length (list ++ v ∷ []) - counter ≡ (length list - counter) + 1 = omega (arith, h.below) in
    let qp : q ≡ p + 1 = c (omega (arith, h.least)) in
    record {
      below = omega (arith, h.below);
      size = h.size;
      same = λ e. absurd (omega (arith, h.below));
      least = h.least;
      most = rw (d, qp) (omega (arith, h.most));
    }
publish_reading list v w n p q (finished counter ws) h c = h

pub published_here : (lists : Published) (b e : ℕ) (v : List ℕ) → published_at lists b e v b e ≡ lists b e ++ v ∷ []
published_here lists b e v = rw (eq-eqb b b refl, eq-eqb e e refl) refl

pub published_elsewhere : (lists : Published) (b e : ℕ) (v : List ℕ) (n i : ℕ) → (IsThere b e n i → ⊥) → published_at lists b e v n i ≡ lists n i
published_elsewhere lists b e v n i off = at (n == b) (eqb-true n b) (i == e) (eqb-true i e)
  where
    at : (y : Bool) → (y ≡ true → n ≡ b) → (z : Bool) → (z ≡ true → i ≡ e) → cond (y && z) (lists b e ++ v ∷ []) (lists n i) ≡ lists n i
    at true f true g = absurd (off (f refl, g refl))
    at true f false g = refl
    at false f z g = refl

-- ---- one more word of a publication

abbrev pub IsAwake : State → List ℕ → ℕ → ℕ → Party → Type 0
IsAwake s party b e x = (n i : ℕ) → (IsThere b e n i → ⊥) → is_suspended x n i ≡ false → is_suspended (s.parties party) n i ≡ false

spare_in : (c : CellShape) (g k : ℕ) → k < c.words → IsIn c (spare_at c g + k)
spare_in c g k lt = let i = copy_inside c g in record { low = omega (arith, i.low); high = omega (arith, i.high) }

word_cell : (s : State) → Sound s → (b e : ℕ) (c : CellShape) (g k v : ℕ) → IsEntryOf s.standing.tables b e c → g ≡ length (s.published b e) → k < c.words → IsCell (set (s.memory b) (spare_at c g + k) v) c (s.published b e)
word_cell s sound b e c g k v place h lt =
    let o = own_cell s sound b e c place in
    let u : IsUntouched c (length (s.published b e)) (spare_at c g + k) = subst (λ (y : ℕ). IsUntouched c y (spare_at c g + k)) h (spare_untouched c g k o.head lt) in
    cell_kept (s.memory b) c (s.published b e) (spare_at c g + k) v u o

module _ (s : State) (sound : Sound s) (party name : List ℕ) (b e : ℕ) (c : CellShape) (g : ℕ) (words : List ℕ) (k : ℕ) (is_loan : Bool) (v : ℕ) where
  pub write_word : (x : Party) → IsPublishing s party name b e c g words k is_loan → k < c.words → IsAwake s party b e x → (is_loan ≡ false) ⊎ (is_suspended x b e ≡ true)
      → IsParty (stored s party b (spare_at c g + k) v s.published s.standing x) party x → Sound (stored s party b (spare_at c g + k) v s.published s.standing x)
  write_word x h lt aw q own = store_sound s sound party name b e (spare_at c g + k) v c s.published s.standing x (record {
    place = h.writes.place;
    thing = h.writes.hold.thing;
    found = h.writes.hold.found;
    writes = h.writes.hold.writes;
    inside = spare_in c g k lt;
    cell = word_cell s sound b e c g k v h.writes.place h.writes.generation lt;
    same = λ n i _. refl;
    own = own_same s party name sound;
    here = λ ws f. loan ws f q;
    awake = aw;
    gets = λ p r f rq y. same_gets s b (spare_at c g + k) p r f rq y;
    calling = own;
  })
    where
      loan : (ws : List (Option ℕ)) → s.standing.loans party name ≡ Some ws → (is_loan ≡ false) ⊎ (is_suspended x b e ≡ true)
          → IsLoan s.standing.tables (store s.memory b (spare_at c g + k) v) s.published (word_parties s party b (spare_at c g + k) v x) party name ws
      loan ws f (inl n) = absurd (none_some (s.standing.loans party name) ws (h.writes.hold.lent ∙ n) f)
      loan ws f (inr n) = record {
        thing = h.writes.hold.thing;
        found = h.writes.hold.found;
        writes = own_entry b e h.writes.hold.thing h.writes.hold.writes;
        put = λ y z a.
            let o = of_entry b e h.writes.hold.thing h.writes.hold.writes in
            let u : is_suspended x h.writes.hold.thing.board (entry_of h.writes.hold.thing.kind) ≡ is_suspended x b e = ap (λ (m : ℕ). is_suspended x m (entry_of h.writes.hold.thing.kind)) o.board ∙ ap (λ (m : ℕ). is_suspended x b m) o.entry in
            let t : is_suspended x h.writes.hold.thing.board (entry_of h.writes.hold.thing.kind) ≡ false = ap (λ (m : Party). is_suspended m h.writes.hold.thing.board (entry_of h.writes.hold.thing.kind)) (sym (party_here (λ p. notice (access.Write b (spare_at c g + k) v) (s.parties p)) party x)) ∙ a in
            absurd (both_ways (is_suspended x b e) (sym u ∙ t) n);
      }

  -- the publication has written it
  pub wrote_word : (x : Party) (n : ℕ) → IsPublishing s party name b e c g words k is_loan → k < c.words → v ≡ slice_index words k → n ≡ k + 1
      → IsPublishing (stored s party b (spare_at c g + k) v s.published s.standing x) party name b e c g words n is_loan
  wrote_word x n h lt ve ne =
      let i = copy_inside c g in
      let o = own_cell s sound b e c h.writes.place in
      let more : Stands (set (s.memory b) (spare_at c g + k) v) (spare_at c g) (take (k + 1) words) = stands_more (s.memory b) (spare_at c g) k v words (omega (arith, h.size)) (omega (arith, i.high, o.inside)) ve h.written in
      record {
        writes = record { place = h.writes.place; hold = h.writes.hold; generation = h.writes.generation };
        size = h.size;
        steps = omega arith;
        written = subst (λ (j : ℕ). Stands (store s.memory b (spare_at c g + k) v b) (spare_at c g) (take j words)) (sym ne) (subst (λ (ws : List ℕ). Stands ws (spare_at c g) (take (k + 1) words)) (sym (store_here s.memory b (spare_at c g + k) v b refl)) more);
      }

-- ---- the counter is raised

module _ (s : State) (sound : Sound s) (party name : List ℕ) (b e : ℕ) (c : CellShape) (g : ℕ) (words : List ℕ) (is_loan : Bool) (new : Standing) where
  pub publish_sound : IsPublishing s party name b e c g words c.words is_loan → IsOwnChange s.standing party name new → ((ws : List (Option ℕ)) → new.loans party name ≡ Some ws → ⊥) → IsAwake s party b e free
      → Sound (stored s party b c.first (g + 1) (published_at s.published b e words) new free)
  publish_sound h own unlent aw = store_sound s sound party name b e c.first (g + 1) c (published_at s.published b e words) new free (record {
    place = h.writes.place;
    thing = h.writes.hold.thing;
    found = h.writes.hold.found;
    writes = h.writes.hold.writes;
    inside = record { low = omega arith; high = omega (arith, cell.head) };
    cell = raised;
    same = published_elsewhere s.published b e words;
    own = own;
    here = λ ws f. absurd (unlent ws f);
    awake = aw;
    gets = gets;
    calling = tt;
  })
    where
      cell : IsCell (s.memory b) c (s.published b e)
      cell = own_cell s sound b e c h.writes.place

      raised : IsCell (set (s.memory b) c.first (g + 1)) c (published_at s.published b e words b e)
      raised =
          let whole : take c.words words ≡ words = take_all c.words words (omega (arith, h.size)) in
          let st1 : Stands (s.memory b) (spare_at c g) words = subst (λ (k : List ℕ). Stands (s.memory b) (spare_at c g) k) whole h.written in
          let st2 : Stands (s.memory b) (spare_at c (length (s.published b e))) words = subst (λ (k : ℕ). Stands (s.memory b) (spare_at c k) words) h.writes.generation st1 in
          let n1 : IsCell (set (s.memory b) c.first (length (s.published b e) + 1)) c (s.published b e ++ words ∷ []) = cell_published (s.memory b) c (s.published b e) words h.size st2 cell in
          let n2 : IsCell (set (s.memory b) c.first (g + 1)) c (s.published b e ++ words ∷ []) = subst (λ (k : ℕ). IsCell (set (s.memory b) c.first (k + 1)) c (s.published b e ++ words ∷ [])) (sym h.writes.generation) n1 in
          subst (λ (k : List (List ℕ)). IsCell (set (s.memory b) c.first (g + 1)) c k) (sym (published_here s.published b e words)) n2

      counted : (r : Running) (f : Fetch) → r.request ≡ get f → f.board ≡ b → f.shape.first ≡ c.first → 0 < length r.so_far → count_write r b c.first ≡ r.passed + 1
      counted r f rq x y lt =
          let t : is_counter_of (get f) b c.first ≡ true = and_from (f.board == b) (f.shape.first == c.first) (eq-eqb f.board b x) (eq-eqb f.shape.first c.first y) in
          let a : is_counter_of r.request b c.first ≡ true = ap (λ (q : Request). is_counter_of q b c.first) rq ∙ t in
          let z : (length r.so_far == 0) ≡ false = ne_eqb (length r.so_far) 0 (λ e. absurd (omega arith)) in
          ap (λ (k : Bool). cond (k && not (length r.so_far == 0)) (r.passed + 1) r.passed) a ∙ ap (λ (k : Bool). cond (not k) (r.passed + 1) r.passed) z

      gets : (q : List ℕ) (r : Running) (f : Fetch) → r.request ≡ get f → IsGetting s q f r.so_far r.passed → IsReading (published_at s.published b e words f.board f.entry) f.shape.words (length r.so_far) (count_write r b c.first) (reading f.shape.words r.so_far)
      gets q r f rq k = at (cases_eq f.board b) (cases_eq f.entry e)
        where
          off : (IsThere b e f.board f.entry → ⊥) → IsReading (published_at s.published b e words f.board f.entry) f.shape.words (length r.so_far) (count_write r b c.first) (reading f.shape.words r.so_far)
          off ne = subst (λ (l : List (List ℕ)). IsReading l f.shape.words (length r.so_far) (count_write r b c.first) (reading f.shape.words r.so_far)) (sym (published_elsewhere s.published b e words f.board f.entry ne)) (same_gets s b c.first q r f rq k)

          at : (f.board ≡ b) ⊎ (f.board ≡ b → ⊥) → (f.entry ≡ e) ⊎ (f.entry ≡ e → ⊥) → IsReading (published_at s.published b e words f.board f.entry) f.shape.words (length r.so_far) (count_write r b c.first) (reading f.shape.words r.so_far)
          at (inr ne) y = off (λ q. ne q.0)
          at (inl x) (inr ne) = off (λ q. ne q.1)
          at (inl x) (inl y) =
              let found : entry_at s.standing.tables b e ≡ Some k.place.entry = ap (λ (n : ℕ). entry_at s.standing.tables n e) (sym x) ∙ ap (λ (n : ℕ). entry_at s.standing.tables f.board n) (sym y) ∙ k.place.found in
              let sh : f.shape ≡ c = k.place.shape ∙ same_shape s.standing.tables b e c k.place.entry h.writes.place found in
              let l : published_at s.published b e words f.board f.entry ≡ s.published f.board f.entry ++ words ∷ [] = ap (λ (n : ℕ). published_at s.published b e words n f.entry) x ∙ ap (λ (n : ℕ). published_at s.published b e words b n) y ∙ published_here s.published b e words ∙ ap (λ (n : ℕ). s.published n e ++ words ∷ []) (sym x) ∙ ap (λ (n : ℕ). s.published f.board n ++ words ∷ []) (sym y) in
              subst (λ (z : List (List ℕ)). IsReading z f.shape.words (length r.so_far) (count_write r b c.first) (reading f.shape.words r.so_far)) (sym l)
              (publish_reading (s.published f.board f.entry) words f.shape.words (length r.so_far) r.passed (count_write r b c.first) (reading f.shape.words r.so_far) k.try (λ lt. counted r f rq x (ap (λ (z : CellShape). z.first) sh) lt))

-- ---- a word that is put

abbrev some_word : ℕ → Option ℕ
some_word w = Some w

put_back : {X : Type 0} (xs : List X) (i k : ℕ) (y z : X) → slice_get (slice_set xs i y) k ≡ Some z → ((k ≡ i) × (y ≡ z)) ⊎ ((k ≡ i → ⊥) × (slice_get xs k ≡ Some z))
put_back [] i k y z e = absurd cc
put_back (x ∷ xs) zero zero y z e = inl (refl, cc)
put_back (x ∷ xs) zero (suc k) y z e = inr (λ q. absurd (omega arith), e)
put_back (x ∷ xs) (suc i) zero y z e = inr (λ q. absurd (omega arith), e)
put_back {X = X} (x ∷ xs) (suc i) (suc k) y z e = at (put_back xs i k y z e)
  where
    at : ((k ≡ i) × (y ≡ z)) ⊎ ((k ≡ i → ⊥) × (slice_get xs k ≡ Some z)) → ((suc k ≡ suc i) × (y ≡ z)) ⊎ ((suc k ≡ suc i → ⊥) × (slice_get (x ∷ xs) (suc k) ≡ Some z))
    at (inl h) = inl (ap suc h.0, h.1)
    at (inr h) = inr (λ q. h.0 (omega (arith, q)), h.1)

module _ (s : State) (sound : Sound s) (party : List ℕ) (l : Lending) (i w : ℕ) where
  pub put_sound : IsPutting s party l i → IsAwake s party l.board l.entry free
      → Sound (stored s party l.board (spare_at l.shape l.generation + i) w s.published (with_word s.standing party l i w) free)
  put_sound h aw = store_sound s sound party l.loan l.board l.entry (spare_at l.shape l.generation + i) w l.shape s.published (with_word s.standing party l i w) free (record {
    place = h.writes.place;
    thing = h.writes.hold.thing;
    found = h.writes.hold.found;
    writes = h.writes.hold.writes;
    inside = spare_in l.shape l.generation i h.below;
    cell = word_cell s sound l.board l.entry l.shape l.generation i w h.writes.place h.writes.generation h.below;
    same = λ n j _. refl;
    own = own_put s party l i w sound;
    here = loan;
    awake = aw;
    gets = λ p r f rq y. same_gets s l.board (spare_at l.shape l.generation + i) p r f rq y;
    calling = tt;
  })
    where
      room : spare_at l.shape l.generation + i < length (s.memory l.board)
      room =
          let c = copy_inside l.shape l.generation in
          let o = own_cell s sound l.board l.entry l.shape h.writes.place in
          omega (arith, c.high, o.inside, h.below)

      puts : IsPut (set (s.memory l.board) (spare_at l.shape l.generation + i) w) (spare_at l.shape l.generation) (slice_set l.words i (Some w))
      puts k v q = at (put_back l.words i k (Some w) (Some v) q)
        where
          at : ((k ≡ i) × (some_word w ≡ some_word v)) ⊎ ((k ≡ i → ⊥) × (slice_get l.words k ≡ Some (Some v))) → get_or (set (s.memory l.board) (spare_at l.shape l.generation + i) w) (spare_at l.shape l.generation + k) 0 ≡ v
          at (inl z) =
              let e : w ≡ v = cc (z.1) in
              rw z.0 (get_or-set_same (s.memory l.board) (spare_at l.shape l.generation + i) w 0 room ∙ e)
          at (inr z) = get_or-set_other (s.memory l.board) (spare_at l.shape l.generation + i) (spare_at l.shape l.generation + k) w 0 (λ e. z.0 (omega arith)) ∙ h.lent.stands k v z.1

      lent : IsLent (store s.memory l.board (spare_at l.shape l.generation + i) w l.board) l.shape (length (s.published l.board l.entry)) (slice_set l.words i (Some w))
      lent =
          let p : IsPut (store s.memory l.board (spare_at l.shape l.generation + i) w l.board) (spare_at l.shape l.generation) (slice_set l.words i (Some w)) = subst (λ (ws : List ℕ). IsPut ws (spare_at l.shape l.generation) (slice_set l.words i (Some w))) (sym (store_here s.memory l.board (spare_at l.shape l.generation + i) w l.board refl)) puts in
          record {
            size = length-set l.words i (Some w) ∙ h.lent.size;
            stands = subst (λ (g : ℕ). IsPut (store s.memory l.board (spare_at l.shape l.generation + i) w l.board) (spare_at l.shape g) (slice_set l.words i (Some w))) h.writes.generation p;
          }

      loan : (ws : List (Option ℕ)) → with_at s.standing.loans party l.loan (Some (slice_set l.words i (Some w))) party l.loan ≡ Some ws
          → IsLoan s.standing.tables (store s.memory l.board (spare_at l.shape l.generation + i) w) s.published (word_parties s party l.board (spare_at l.shape l.generation + i) w free) party l.loan ws
      loan ws e =
          let q : slice_set l.words i (Some w) ≡ ws = same_Some (slice_set l.words i (Some w)) ws (sym (at_here s.standing.loans party l.loan (Some (slice_set l.words i (Some w)))) ∙ e) in
          let o = of_entry l.board l.entry h.writes.hold.thing h.writes.hold.writes in
          let m : ℕ → List ℕ = store s.memory l.board (spare_at l.shape l.generation + i) w in
          record {
            thing = h.writes.hold.thing;
            found = h.writes.hold.found;
            writes = own_entry l.board l.entry h.writes.hold.thing h.writes.hold.writes;
            put = λ y z a.
                let at : entry_at s.standing.tables l.board l.entry ≡ Some y = ap (λ (n : ℕ). entry_at s.standing.tables n l.entry) (sym o.board) ∙ ap (λ (n : ℕ). entry_at s.standing.tables h.writes.hold.thing.board n) (sym o.entry) ∙ z in
                let d : cell_shape y.cell ≡ l.shape = same_shape s.standing.tables l.board l.entry l.shape y h.writes.place at in
                subst (λ (n : ℕ). IsLent (m n) (cell_shape y.cell) (length (s.published n (entry_of h.writes.hold.thing.kind))) ws) (sym o.board)
                (subst (λ (n : ℕ). IsLent (m l.board) (cell_shape y.cell) (length (s.published l.board n)) ws) (sym o.entry)
                (subst (λ (n : CellShape). IsLent (m l.board) n (length (s.published l.board l.entry)) ws) (sym d)
                (subst (λ (n : List (Option ℕ)). IsLent (m l.board) l.shape (length (s.published l.board l.entry)) n) q lent)));
          }
