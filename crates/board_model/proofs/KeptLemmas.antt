-- What a line leaves of the other parties.
use Rattle.std.proofs.Common.{◌≡◌, ℕ, ◌≤◌, Bool, true, false, cond, List, length, take, map, arith, refl, sym, ap, subst, ◌∙◌, Option, Some, None}
use Rattle.std.specs.Prelude.{is_some}
use Rattle.std.specs.List.{AllByRecursion, count_by}
use Rattle.std.specs.Str.{bytes_eq}
use Rattle.std.proofs.lemmas.List.{length-take-le}
use Rattle.board_layout.specs.declared.shape.CellShape.{CellShape}
use Rattle.board_cell_model.specs.declared.access.Access.{Access}
use Rattle.board_cell_model.specs.declared.access.Access.TheVariants as access
use Rattle.board_model.specs.declared.tables.Board.{Board}
use Rattle.board_model.specs.declared.tables.ThingKind.{ThingKind}
use Rattle.board_model.specs.declared.value.Key.{Key}
use Rattle.board_cell_model.specs.OwedAccesses.{spare_at}
use Rattle.board_model.specs.TypeTable.{value_words}
use Rattle.board_model.specs.Tables.{Tables, board_at, entry_at, entry_in, entry_of, is_write_handle}
use Rattle.board_model.specs.Things.{Held, Standing, thing_of}
use Rattle.board_layout.specs.Layout.{cell_shape}
use Rattle.board_model.specs.Requests.{Fetch, Request, TableCall, create, info, entry, entry_mut, fill, fresh, get, discard, id, open_, loan, keys, nodes, publish, put, reader, table, gen, update, writer}
use Rattle.board_model.specs.Replies.{word_put}
use Rattle.board_model.specs.Parties.{Party, Running, count_write, free, gone, notice, reading, running, with_party}
use Rattle.board_model.specs.LawfulSession.{State, is_typed_key}
use Rattle.board_model.specs.Sound.{AreBoards, HasBoard, HasEntry, IsCalling, IsEntryOf, IsFree, IsGetting, IsHeldThing, IsHolding, IsLent, IsLoan, IsOfBoard, IsParty, IsPublishing, IsReading, IsTableCall, IsTypedKey, IsWriting, Sound, Stands, is_suspended}
use Rattle.board_model.proofs.ListLemmas.{other_bytes, same_bytes}
use Rattle.board_model.proofs.ThingLemmas.{all_found, different_bytes, of_entry, same_to_itself}

-- ---- what a party holds

pub record KeepsThings (s new : Standing) (q : List ℕ) : Type 0 where
  pub things : (name : List ℕ) → thing_of new.tables.things q name ≡ thing_of s.tables.things q name
  pub loans : (name : List ℕ) → new.loans q name ≡ s.loans q name
  pub boards : (name : List ℕ) (x : Held) → thing_of s.tables.things q name ≡ Some x → board_at new.tables x.board ≡ board_at s.tables x.board

pub keeps_all : (s : Standing) (q : List ℕ) → KeepsThings s s q
keeps_all s q = record { things = λ name. refl; loans = λ name. refl; boards = λ name x e. refl }

module _ (s new : Standing) (q : List ℕ) (k : KeepsThings s new q) where
  kept_free : (name : List ℕ) → IsFree s q name → IsFree new q name
  kept_free name h = k.things name ∙ h

  kept_of_board : (name : List ℕ) (b : ℕ) → IsOfBoard s.tables q name b → IsOfBoard new.tables q name b
  kept_of_board name b h = record { thing = h.thing; found = k.things name ∙ h.found; is_of = h.is_of }

  kept_held_thing : (kind : ThingKind) (x : Held) → IsHeldThing s q kind x → IsHeldThing new q kind x
  kept_held_thing kind x h = record { found = k.things x.name ∙ h.found; kind = h.kind }

  kept_typed : (x : Held) (key : Key) → thing_of s.tables.things q x.name ≡ Some x → IsTypedKey s x key → IsTypedKey new x key
  kept_typed x key f h = ap (λ (o : Option Board). is_typed_key o key) (k.boards x.name x f) ∙ h

  kept_entry : (name : List ℕ) (x : Held) (i : ℕ) → thing_of s.tables.things q name ≡ Some x → entry_at new.tables x.board i ≡ entry_at s.tables x.board i
  kept_entry name x i f = ap (λ (o : Option Board). entry_in o i) (k.boards name x f)

  kept_place : (name : List ℕ) (b i : ℕ) (c : CellShape) → IsOfBoard s.tables q name b → IsEntryOf s.tables b i c → IsEntryOf new.tables b i c
  kept_place name b i c o h = record {
    entry = h.entry;
    found =
        let e = kept_entry name o.thing i o.found in
        subst (λ (n : ℕ). entry_at new.tables n i ≡ entry_at s.tables n i) o.is_of e ∙ h.found;
    shape = h.shape;
  }

  kept_hold : (name : List ℕ) (b i : ℕ) (is_loan : Bool) → IsHolding s q name b i is_loan → IsHolding new q name b i is_loan
  kept_hold name b i is_loan h = record {
    thing = h.thing;
    found = k.things name ∙ h.found;
    writes = h.writes;
    lent = ap is_some (k.loans name) ∙ h.lent;
  }

-- the write handle of an entry is a thing of its board
pub holding_of_board : (s : Standing) (q name : List ℕ) (b i : ℕ) (is_loan : Bool) → IsHolding s q name b i is_loan → IsOfBoard s.tables q name b
holding_of_board s q name b i is_loan h = record { thing = h.thing; found = h.found; is_of = (of_entry b i h.thing h.writes).board }

-- ---- what a party's call has read and written

-- how often the counter of a get was written, after this access of another call
abbrev pub passed_after : Access → Running → ℕ
passed_after access.Table r = r.passed
passed_after (access.Read b w v) r = r.passed
passed_after (access.Write b w v) r = count_write r b w

-- a line that another party's call doesn't mind
pub record Spares (s new : State) (a : Access) (q : List ℕ) : Type 0 where
  pub things : KeepsThings s.standing new.standing q
  pub lists : (name : List ℕ) (b i : ℕ) (is_loan : Bool) (c : CellShape) → IsHolding s.standing q name b i is_loan → IsEntryOf s.standing.tables b i c → new.published b i ≡ s.published b i
  pub words : (name : List ℕ) (b i : ℕ) (is_loan : Bool) (c : CellShape) (g : ℕ) (these : List ℕ) → IsHolding s.standing q name b i is_loan → IsEntryOf s.standing.tables b i c → length these ≤ c.words → Stands (s.memory b) (spare_at c g) these → Stands (new.memory b) (spare_at c g) these
  pub puts : (name : List ℕ) (b i : ℕ) (is_loan : Bool) (c : CellShape) (g : ℕ) (ws : List (Option ℕ)) → IsHolding s.standing q name b i is_loan → IsEntryOf s.standing.tables b i c → IsLent (s.memory b) c g ws → IsLent (new.memory b) c g ws
  pub gets : (r : Running) (f : Fetch) → r.request ≡ get f → IsGetting s q f r.so_far r.passed → IsReading (new.published f.board f.entry) f.shape.words (length r.so_far) (passed_after a r) (reading f.shape.words r.so_far)

module _ (s new : State) (a : Access) (q : List ℕ) (k : Spares s new a q) where
  spared_writing : (name : List ℕ) (b i : ℕ) (c : CellShape) (g : ℕ) (is_loan : Bool) → IsWriting s q name b i c g is_loan → IsWriting new q name b i c g is_loan
  spared_writing name b i c g is_loan h = record {
    place = kept_place s.standing new.standing q k.things name b i c (holding_of_board s.standing q name b i is_loan h.hold) h.place;
    hold = kept_hold s.standing new.standing q k.things name b i is_loan h.hold;
    generation = h.generation ∙ ap length (sym (k.lists name b i is_loan c h.hold h.place));
  }

  spared_publishing : (name : List ℕ) (b i : ℕ) (c : CellShape) (g : ℕ) (words : List ℕ) (n : ℕ) (is_loan : Bool) → IsPublishing s q name b i c g words n is_loan → IsPublishing new q name b i c g words n is_loan
  spared_publishing name b i c g words n is_loan h = record {
    writes = spared_writing name b i c g is_loan h.writes;
    size = h.size;
    steps = h.steps;
    written =
        let l : length (take n words) ≡ n = length-take-le n words (omega (arith, h.size, h.steps)) in
        k.words name b i is_loan c g (take n words) h.writes.hold h.writes.place (omega (arith, h.steps)) h.written;
  }

  spared_tables : (c : TableCall) → IsTableCall s q c → IsTableCall new q c
  spared_tables (create f name t limits attributes entries) h = kept_free s.standing new.standing q k.things f h
  spared_tables (open_ f name t limits needs) h = kept_free s.standing new.standing q k.things f h
  spared_tables (reader name x) h = (kept_free s.standing new.standing q k.things name h.0, kept_held_thing s.standing new.standing q k.things _ x h.1)
  spared_tables (writer name x) h = (kept_free s.standing new.standing q k.things name h.0, kept_held_thing s.standing new.standing q k.things _ x h.1)
  spared_tables (entry name x t type) h = (kept_free s.standing new.standing q k.things name h.0, kept_held_thing s.standing new.standing q k.things _ x h.1, kept_typed s.standing new.standing q k.things x t h.1.found h.2)
  spared_tables (entry_mut name x t type) h = (kept_free s.standing new.standing q k.things name h.0, kept_held_thing s.standing new.standing q k.things _ x h.1, kept_typed s.standing new.standing q k.things x t h.1.found h.2)
  spared_tables (loan l) h = (kept_free s.standing new.standing q k.things l.loan h.0, spared_writing l.handle l.board l.entry l.shape l.generation false h.1)
  spared_tables (discard l) h = (kept_free s.standing new.standing q k.things l.handle h.0, spared_writing l.loan l.board l.entry l.shape l.generation true h.1)
  spared_tables (keys x) h = kept_held_thing s.standing new.standing q k.things _ x h
  spared_tables (nodes x) h = kept_held_thing s.standing new.standing q k.things _ x h
  spared_tables (info x) h = kept_held_thing s.standing new.standing q k.things _ x h
  spared_tables (id x) h = kept_of_board s.standing new.standing q k.things x.name x.board h
  spared_tables (gen x) h = kept_held_thing s.standing new.standing q k.things _ x h

  spared_calling : (r : Running) (x : Request) → r.request ≡ x → IsCalling s q r x → IsCalling new q (record r { passed = passed_after a r }) x
  spared_calling r (table c) e h = (h.0, spared_tables c h.1)
  spared_calling r (get f) e h = record {
    place = kept_place s.standing new.standing q k.things f.handle f.board f.entry f.shape h.hold h.place;
    hold = kept_of_board s.standing new.standing q k.things f.handle f.board h.hold;
    try = k.gets r f e h;
  }
  spared_calling r (fresh l) e h = (
    h.0,
    record {
      place = kept_place s.standing new.standing q k.things l.handle l.board l.entry l.shape h.1.hold h.1.place;
      hold = kept_of_board s.standing new.standing q k.things l.handle l.board h.1.hold;
    },
  )
  spared_calling r (update u) e h = spared_publishing u.handle u.board u.entry u.shape u.generation (value_words u.value) (length r.so_far) false h
  spared_calling r (put l i w) e h = (
    h.0,
    record {
      writes = spared_writing l.loan l.board l.entry l.shape l.generation true h.1.writes;
      below = h.1.below;
      words = k.things.loans l.loan ∙ h.1.words;
      lent = k.puts l.loan l.board l.entry true l.shape l.generation l.words h.1.writes.hold h.1.writes.place h.1.lent;
    },
  )
  spared_calling r (publish l) e h = (h.0, kept_free s.standing new.standing q k.things l.handle h.1, spared_publishing l.loan l.board l.entry l.shape l.generation (map word_put l.words) l.shape.words true h.2)
  spared_calling r (fill l v) e h = (kept_free s.standing new.standing q k.things l.handle h.0, spared_publishing l.loan l.board l.entry l.shape l.generation (value_words v) (length r.so_far) true h.1)

noticed : (a : Access) (r : Running) → notice a (running r) ≡ running (record r { passed = passed_after a r })
noticed access.Table r = refl
noticed (access.Read b w v) r = refl
noticed (access.Write b w v) r = refl

noticed_free : (a : Access) → notice a free ≡ free
noticed_free access.Table = refl
noticed_free (access.Read b w v) = refl
noticed_free (access.Write b w v) = refl

noticed_gone : (a : Access) → notice a gone ≡ gone
noticed_gone access.Table = refl
noticed_gone (access.Read b w v) = refl
noticed_gone (access.Write b w v) = refl

pub spared_party : (s new : State) (a : Access) (q : List ℕ) → Spares s new a q → (y : Party) → IsParty s q y → IsParty new q (notice a y)
spared_party s new a q k free h = subst (IsParty new q) (sym (noticed_free a)) tt
spared_party s new a q k (running r) h = subst (IsParty new q) (sym (noticed a r)) (spared_calling s new a q k r r.request refl h)
spared_party s new a q k gone h = subst (IsParty new q) (sym (noticed_gone a)) tt

-- ---- the parties of a state

-- a party stepped, and the others noticed
pub with_parties : (s : State) (party : List ℕ) (x : Party) (others : List ℕ → Party) → IsParty s party x → ((p : List ℕ) → (p ≡ party → ⊥) → IsParty s p (others p)) → (p : List ℕ) → IsParty s p (with_party others party x p)
with_parties s party x others h k p = at (bytes_eq p party) (same_bytes p party) (other_bytes p party)
  where
    at : (b : Bool) → (b ≡ true → p ≡ party) → (b ≡ false → p ≡ party → ⊥) → IsParty s p (cond b x (others p))
    at true t f = subst (λ (q : List ℕ). IsParty s q x) (sym (t refl)) h
    at false t f = k p (f refl)

pub party_here : (others : List ℕ → Party) (party : List ℕ) (x : Party) → with_party others party x party ≡ x
party_here others party x = ap (λ (z : Bool). cond z x (others party)) (same_to_itself party)

pub party_there : (others : List ℕ → Party) (party : List ℕ) (x : Party) (p : List ℕ) → (p ≡ party → ⊥) → with_party others party x p ≡ others p
party_there others party x p ne = ap (λ (z : Bool). cond z x (others p)) (different_bytes p party ne)

-- who is suspended stays so, whatever it notices
pub noticed_suspended : (a : Access) (x : Party) (n i : ℕ) → is_suspended (notice a x) n i ≡ is_suspended x n i
noticed_suspended access.Table x n i = refl
noticed_suspended (access.Read b w v) x n i = refl
noticed_suspended (access.Write b w v) free n i = refl
noticed_suspended (access.Write b w v) (running r) n i = refl
noticed_suspended (access.Write b w v) gone n i = refl

-- ---- a line that stores no word

-- the words and lists of the boards that stood are the same
pub record IsQuiet (s new : State) : Type 0 where
  pub words : (n : ℕ) → is_some (board_at s.standing.tables n) ≡ true → new.memory n ≡ s.memory n
  pub lists : (n i : ℕ) → is_some (board_at s.standing.tables n) ≡ true → new.published n i ≡ s.published n i

pub quiet_same : (s : State) (standing : Standing) (parties : List ℕ → Party) → IsQuiet s (record s { standing = standing; parties = parties })
quiet_same s standing parties = record { words = λ n h. refl; lists = λ n i h. refl }

pub entry_board : (t : Tables (List ℕ) (List ℕ)) (b i : ℕ) (c : CellShape) → IsEntryOf t b i c → is_some (board_at t b) ≡ true
entry_board t b i c h = at (board_at t b) h.found
  where
    at : (o : Option Board) → entry_in o i ≡ Some h.entry → is_some o ≡ true
    at None e = absurd cc
    at (Some x) e = refl

pub quiet_spares : (s new : State) (a : Access) (q : List ℕ) → ((r : Running) → passed_after a r ≡ r.passed) → IsQuiet s new → KeepsThings s.standing new.standing q → Spares s new a q
quiet_spares s new a q calm h k = record {
  things = k;
  lists = λ name b i l c x e. h.lists b i (entry_board s.standing.tables b i c e);
  words = λ name b i l c g these x e n st. subst (λ (ws : List ℕ). Stands ws (spare_at c g) these) (sym (h.words b (entry_board s.standing.tables b i c e))) st;
  puts = λ name b i l c g ws x e st. subst (λ (m : List ℕ). IsLent m c g ws) (sym (h.words b (entry_board s.standing.tables b i c e))) st;
  gets = λ r f e g.
      subst (λ (n : ℕ). IsReading (new.published f.board f.entry) f.shape.words (length r.so_far) n (reading f.shape.words r.so_far)) (sym (calm r))
      (subst (λ (l : List (List ℕ)). IsReading l f.shape.words (length r.so_far) r.passed (reading f.shape.words r.so_far)) (sym (h.lists f.board f.entry (entry_board s.standing.tables f.board f.entry f.shape g.place))) g.try);
}

pub quiet_party : (s new : State) (q : List ℕ) → IsQuiet s new → KeepsThings s.standing new.standing q → (x : Party) → IsParty s q x → IsParty new q x
quiet_party s new q h k x own = spared_party s new access.Table q (quiet_spares s new access.Table q (λ r. refl) h k) x own

-- a loan that its party still holds
pub quiet_loan : (s new : State) → Sound s → IsQuiet s new → (q name : List ℕ) (ws : List (Option ℕ)) → IsLoan s.standing.tables s.memory s.published s.parties q name ws
    → thing_of new.standing.tables.things q name ≡ thing_of s.standing.tables.things q name
    → ((x : Held) → thing_of s.standing.tables.things q name ≡ Some x → board_at new.standing.tables x.board ≡ board_at s.standing.tables x.board)
    → ((n i : ℕ) → is_suspended (new.parties q) n i ≡ false → is_suspended (s.parties q) n i ≡ false)
    → IsLoan new.standing.tables new.memory new.published new.parties q name ws
quiet_loan s new sound h q name ws k same boards awake = record {
  thing = k.thing;
  found = same ∙ k.found;
  writes = k.writes;
  put = λ e f a.
      let stands : is_some (board_at s.standing.tables k.thing.board) ≡ true = all_found (HasBoard s.standing.tables) _ s.standing.tables.things k.thing sound.things.standing k.found in
      let old : entry_at s.standing.tables k.thing.board (entry_of k.thing.kind) ≡ Some e = ap (λ (o : Option Board). entry_in o (entry_of k.thing.kind)) (sym (boards k.thing k.found)) ∙ f in
      let l = k.put e old (awake k.thing.board (entry_of k.thing.kind) a) in
      subst (λ (m : List ℕ). IsLent m (cell_shape e.cell) (length (new.published k.thing.board (entry_of k.thing.kind))) ws) (sym (h.words k.thing.board stands))
      (subst (λ (p : List (List ℕ)). IsLent (s.memory k.thing.board) (cell_shape e.cell) (length p) ws) (sym (h.lists k.thing.board (entry_of k.thing.kind) stands)) l);
}

-- what has to be shown of such a line
pub record IsQuietLine (s new : State) (party : List ℕ) (x : Party) : Type 0 where
  pub quiet : IsQuiet s new
  pub parties : (q : List ℕ) → new.parties q ≡ with_party s.parties party x q
  pub boards : AreBoards new.standing.tables new.memory new.published
  pub handles : (n i : ℕ) → count_by (is_write_handle n i) new.standing.tables.things ≤ 1
  pub standing : AllByRecursion (HasBoard new.standing.tables) new.standing.tables.things
  pub entries : AllByRecursion (HasEntry new.standing.tables) new.standing.tables.things
  pub others : (q : List ℕ) → (q ≡ party → ⊥) → KeepsThings s.standing new.standing q
  pub mine : (name : List ℕ) (ws : List (Option ℕ)) → new.standing.loans party name ≡ Some ws → IsLoan new.standing.tables new.memory new.published new.parties party name ws
  pub own : IsParty new party x

pub quiet_sound : (s new : State) (party : List ℕ) (x : Party) → Sound s → IsQuietLine s new party x → Sound new
quiet_sound s new party x sound h = record {
  boards = h.boards;
  things = record { handles = h.handles; standing = h.standing; entries = h.entries; loans = λ q name ws e. kept_loan q name ws e (bytes_eq q party) (same_bytes q party) (other_bytes q party) };
  parties = λ q. subst (λ (y : Party). IsParty new q y) (sym (h.parties q))
      (with_parties new party x s.parties h.own (λ p ne. spared_party s new access.Table p (quiet_spares s new access.Table p (λ r. refl) h.quiet (h.others p ne)) (s.parties p) (sound.parties p)) q);
}
  where
    kept_loan : (q name : List ℕ) (ws : List (Option ℕ)) → new.standing.loans q name ≡ Some ws → (b : Bool) → (b ≡ true → q ≡ party) → (b ≡ false → q ≡ party → ⊥) → IsLoan new.standing.tables new.memory new.published new.parties q name ws
    kept_loan q name ws e true t f =
        let e' = subst (λ (p : List ℕ). new.standing.loans p name ≡ Some ws) (t refl) e in
        subst (λ (p : List ℕ). IsLoan new.standing.tables new.memory new.published new.parties p name ws) (sym (t refl)) (h.mine name ws e')
    kept_loan q name ws e false t f =
        let k = h.others q (f refl) in
        let same : new.parties q ≡ s.parties q = h.parties q ∙ party_there s.parties party x q (f refl) in
        quiet_loan s new sound h.quiet q name ws (sound.things.loans q name ws (sym (k.loans name) ∙ e)) (k.things name) (λ y g. k.boards name y g) (λ n i a. ap (λ (y : Party). is_suspended y n i) (sym same) ∙ a)
