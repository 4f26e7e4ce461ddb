-- Lines that store no word keep a sound state sound: parties change, things come, and handles and loans take each other's place.
use Rattle.std.proofs.Common.{◌≡◌, ℕ, ◌≤◌, zero, suc, Bool, true, false, cond, List, [], ◌∷◌, ◌++◌, length, arith, refl, sym, ap, subst, ◌∙◌, Option, Some, None, inl, inr}
use Rattle.std.specs.Prelude.{is_some, ◌⊎◌, slice_get}
use Rattle.std.specs.List.{count_by, list_any}
use Rattle.std.specs.Str.{bytes_eq}
use Rattle.std.proofs.lemmas.Bool.{and_right, both_ways, cases_Bool, cond_both}
use Rattle.std.proofs.lemmas.List.{length-replicate}
use Rattle.std.proofs.lemmas.Option.{same_Some}
use Rattle.std.proofs.lemmas.Slice.Eq.{bytes_eq-Decides}
use Rattle.board_layout.specs.declared.shape.CellShape.{CellShape}
use Rattle.board_model.specs.declared.tables.Entry.{Entry}
use Rattle.board_model.specs.Tables.{entry_at, entry_of, is_write_handle}
use Rattle.board_model.specs.TableCalls.{with_thing}
use Rattle.board_model.specs.Things.{Held, Kept, Standing, is_held_as, thing_of, with_at, with_name}
use Rattle.board_layout.specs.Layout.{cell_shape}
use Rattle.board_model.specs.Requests.{Lending, Published}
use Rattle.board_model.specs.Replies.{given_back, lent, none_put}
use Rattle.board_model.specs.Parties.{Party, free, with_party}
use Rattle.board_model.specs.LawfulSession.{State}
use Rattle.board_model.specs.Sound.{AreBoards, BoardTables, HasBoard, HasEntry, IsEntryOf, IsFree, IsLending, IsLent, IsLoan, IsParty, Sound, is_suspended}
use Rattle.board_model.proofs.ListLemmas.{count_none, count_push, find_kept}
use Rattle.board_model.proofs.ThingLemmas.{all_push, anew_entries, entries_kept, anew_boards, anew_count, anew_found, anew_found_elsewhere, anew_found_other, different_bytes, find_push_other, held_by_other, of_entry, same_to_itself}
use Rattle.board_model.proofs.KeptLemmas.{party_here, quiet_loan, quiet_party, quiet_sound}

-- ---- maps by party and name

pub at_here : {A : Type 0} (f : List ℕ → List ℕ → Option A) (party name : List ℕ) (x : Option A) → with_at f party name x party name ≡ x
at_here f party name x = rw (same_to_itself party, same_to_itself name) refl

pub at_other_party : {A : Type 0} (f : List ℕ → List ℕ → Option A) (party name q n : List ℕ) (x : Option A) → (q ≡ party → ⊥) → with_at f party name x q n ≡ f q n
at_other_party f party name q n x ne = rw (different_bytes q party ne) refl

pub at_other_name : {A : Type 0} (f : List ℕ → List ℕ → Option A) (party name n : List ℕ) (x : Option A) → (n ≡ name → ⊥) → with_at f party name x party n ≡ f party n
at_other_name f party name n x ne = ap (λ (z : Bool). cond z x (f party n)) (and_right (bytes_eq party party) (bytes_eq n name) (different_bytes n name ne))

-- a name is this one, or another
pub same_name : (a b : List ℕ) → (a ≡ b) ⊎ (a ≡ b → ⊥)
same_name a b = at (cases_Bool (bytes_eq a b))
  where
    at : ((bytes_eq a b) ≡ true) ⊎ ((bytes_eq a b) ≡ false) → (a ≡ b) ⊎ (a ≡ b → ⊥)
    at (inl t) = inl ((bytes_eq-Decides a b).0 t)
    at (inr f) = inr (λ q. both_ways (bytes_eq a b) f ((bytes_eq-Decides a b).1 q))

-- ---- the same boards

pub boards_again : (t : BoardTables) (memory : ℕ → List ℕ) (published : Published) (things : List Held) (last_port : ℕ) → AreBoards t memory published → AreBoards (record t { things = things; last_port = last_port }) memory published
boards_again t memory published things last_port h = record {
  numbered = h.numbered;
  single = h.single;
  named = h.named;
  keyed = h.keyed;
  unused = h.unused;
  typed = h.typed;
  cells = h.cells;
  apart = h.apart;
  placed = h.placed;
  short = h.short;
}

-- ---- parties and values

abbrev pub IsCalm : State → List ℕ → Type 0
IsCalm s party = (n i : ℕ) → is_suspended (s.parties party) n i ≡ false

abbrev pub with_values : State → List ℕ → Party → (List ℕ → List ℕ → Option Kept) → State
with_values s party x values = record s { standing = record s.standing { values = values }; parties = with_party s.parties party x }

pub valued_sound : (s : State) (party : List ℕ) (x : Party) (values : List ℕ → List ℕ → Option Kept) → Sound s → ((n i : ℕ) → is_suspended x n i ≡ false → is_suspended (s.parties party) n i ≡ false) → IsParty s party x → Sound (with_values s party x values)
valued_sound s party x values sound awake own = quiet_sound s (with_values s party x values) party x sound (record {
  quiet = record { words = λ n h. refl; lists = λ n i h. refl };
  parties = λ q. refl;
  boards = sound.boards;
  handles = sound.things.handles;
  standing = sound.things.standing;
  entries = sound.things.entries;
  others = λ q ne. record { things = λ name. refl; loans = λ name. refl; boards = λ name y e. refl };
  mine = λ name ws e. quiet_loan s (with_values s party x values) sound (record { words = λ n h. refl; lists = λ n i h. refl }) party name ws (sound.things.loans party name ws e) refl (λ y f. refl)
      (λ n i a. awake n i (ap (λ (y : Party). is_suspended y n i) (sym (party_here s.parties party x)) ∙ a));
  own = quiet_party s (with_values s party x values) party (record { words = λ n h. refl; lists = λ n i h. refl }) (record { things = λ name. refl; loans = λ name. refl; boards = λ name y e. refl }) x own;
})

-- ---- a thing comes

-- no entry gets a second write handle
abbrev pub IsFewer : BoardTables → Held → Type 0
IsFewer t y = (n i : ℕ) → (is_write_handle n i y ≡ false) ⊎ (list_any (is_write_handle n i) t.things ≡ false)

pub record IsNewThing (s : Standing) (party : List ℕ) (y : Held) : Type 0 where
  pub holder : y.holder ≡ party
  pub free : IsFree s party y.name
  pub board : HasBoard s.tables y
  pub entry : HasEntry s.tables y
  pub fewer : IsFewer s.tables y

abbrev pub with_new : State → List ℕ → Held → ℕ → State
with_new s party y last_port = record s { standing = record s.standing { tables = with_thing (record s.standing.tables { last_port = last_port }) y }; parties = with_party s.parties party free }

few : (t : BoardTables) (y : Held) (n i : ℕ) → count_by (is_write_handle n i) t.things ≤ 1 → (is_write_handle n i y ≡ false) ⊎ (list_any (is_write_handle n i) t.things ≡ false) → count_by (is_write_handle n i) (t.things ++ y ∷ []) ≤ 1
few t y n i h (inl e) =
    let c = count_push (is_write_handle n i) t.things y in
    let d : ◌≡◌ {A = ℕ} (cond (is_write_handle n i y) 1 0) 0 = ap (λ (z : Bool). cond z 1 0) e in
    omega (arith, h, c, d)
few t y n i h (inr e) =
    let c = count_push (is_write_handle n i) t.things y in
    let z = count_none (is_write_handle n i) t.things e in
    let u : cond (is_write_handle n i y) 1 0 ≤ 1 = cond_both (is_write_handle n i y) 1 0 (λ m. m ≤ 1) (λ _. omega arith) (λ _. omega arith) in
    omega (arith, c, z, u)

pub grown_sound : (s : State) (party : List ℕ) (y : Held) (last_port : ℕ) → Sound s → IsCalm s party → IsNewThing s.standing party y → Sound (with_new s party y last_port)
grown_sound s party y last_port sound calm h = quiet_sound s (with_new s party y last_port) party free sound (record {
  quiet = record { words = λ n k. refl; lists = λ n i k. refl };
  parties = λ q. refl;
  boards = boards_again s.standing.tables s.memory s.published (s.standing.tables.things ++ y ∷ []) last_port sound.boards;
  handles = λ n i. few s.standing.tables y n i (sound.things.handles n i) (h.fewer n i);
  standing = all_push (HasBoard s.standing.tables) s.standing.tables.things y sound.things.standing h.board;
  entries = entries_kept s.standing.tables (with_new s party y last_port).standing.tables (λ n i. refl) (s.standing.tables.things ++ y ∷ []) (all_push (HasEntry s.standing.tables) s.standing.tables.things y sound.things.entries h.entry);
  others = λ q ne. record { things = λ name. find_push_other (is_held_as q name) s.standing.tables.things y (held_by_other q party name y h.holder ne); loans = λ name. refl; boards = λ name x e. refl };
  mine = λ name ws e.
      let l = sound.things.loans party name ws e in
      quiet_loan s (with_new s party y last_port) sound (record { words = λ n k. refl; lists = λ n i k. refl }) party name ws l
      (find_kept (is_held_as party name) s.standing.tables.things (y ∷ []) l.thing l.found ∙ sym l.found) (λ x f. refl) (λ n i a. calm n i);
  own = tt;
})

-- ---- a thing takes another name

abbrev pub with_other_name : State → List ℕ → List ℕ → List ℕ → (List ℕ → List ℕ → Option (List (Option ℕ))) → State
with_other_name s party old new loans = record s { standing = record s.standing { tables = with_name s.standing.tables party old new; loans = loans }; parties = with_party s.parties party free }

-- the write handle of entry e of board b takes a free name, and the loans are these afterwards
pub record IsRenaming (s : State) (party old new : List ℕ) (b i : ℕ) (loans : List ℕ → List ℕ → Option (List (Option ℕ))) : Type 0 where
  pub thing : Held
  pub found : thing_of s.standing.tables.things party old ≡ Some thing
  pub writes : is_write_handle b i thing ≡ true
  pub free : IsFree s.standing party new
  pub others : (q name : List ℕ) → (q ≡ party → ⊥) → loans q name ≡ s.standing.loans q name
  pub here : (ws : List (Option ℕ)) → loans party new ≡ Some ws → (e : Entry) → entry_at s.standing.tables b i ≡ Some e → IsLent (s.memory b) (cell_shape e.cell) (length (s.published b i)) ws
  pub elsewhere : (name : List ℕ) (ws : List (Option ℕ)) → (name ≡ new → ⊥) → loans party name ≡ Some ws → (name ≡ old → ⊥) × (s.standing.loans party name ≡ Some ws)

-- a write handle is one of its own board and entry
pub own_entry : (n i : ℕ) (x : Held) → is_write_handle n i x ≡ true → is_write_handle x.board (entry_of x.kind) x ≡ true
own_entry n i x h =
    let o = of_entry n i x h in
    subst (λ (m : ℕ). is_write_handle m (entry_of x.kind) x ≡ true) (sym o.board) (subst (λ (m : ℕ). is_write_handle n m x ≡ true) (sym o.entry) h)

pub renamed_sound : (s : State) (party old new : List ℕ) (b i : ℕ) (loans : List ℕ → List ℕ → Option (List (Option ℕ))) → Sound s → IsCalm s party → IsRenaming s party old new b i loans → Sound (with_other_name s party old new loans)
renamed_sound s party old new b i loans sound calm h = quiet_sound s (with_other_name s party old new loans) party free sound (record {
  quiet = record { words = λ n k. refl; lists = λ n i k. refl };
  parties = λ q. refl;
  boards = boards_again s.standing.tables s.memory s.published _ s.standing.tables.last_port sound.boards;
  handles = λ n j. omega (arith, anew_count s.standing.tables.things party old new n j, sound.things.handles n j);
  standing = anew_boards s.standing.tables s.standing.tables.things party old new sound.things.standing;
  entries = entries_kept s.standing.tables (with_name s.standing.tables party old new) (λ n i. refl) (with_name s.standing.tables party old new).things (anew_entries s.standing.tables s.standing.tables.things party old new sound.things.entries);
  others = λ q ne. record { things = λ name. anew_found_other s.standing.tables.things party old new q name ne; loans = λ name. h.others q name ne; boards = λ name x e. refl };
  mine = λ name ws e. mine name ws e (same_name name new);
  own = tt;
})
  where
    here : (ws : List (Option ℕ)) → loans party new ≡ Some ws → IsLoan (with_name s.standing.tables party old new) s.memory s.published (with_party s.parties party free) party new ws
    here ws e =
        let o = of_entry b i h.thing h.writes in
        record {
          thing = record h.thing { name = new };
          found = anew_found s.standing.tables.things party old new h.thing h.free h.found;
          writes = own_entry b i h.thing h.writes;
          put = λ x f a.
              let at : entry_at s.standing.tables b i ≡ Some x = ap (λ (n : ℕ). entry_at s.standing.tables n i) (sym o.board) ∙ ap (λ (n : ℕ). entry_at s.standing.tables h.thing.board n) (sym o.entry) ∙ f in
              let l = h.here ws e x at in
              subst (λ (n : ℕ). IsLent (s.memory n) (cell_shape x.cell) (length (s.published n (entry_of h.thing.kind))) ws) (sym o.board)
              (subst (λ (n : ℕ). IsLent (s.memory b) (cell_shape x.cell) (length (s.published b n)) ws) (sym o.entry) l);
        }

    mine : (name : List ℕ) (ws : List (Option ℕ)) → loans party name ≡ Some ws → (name ≡ new) ⊎ (name ≡ new → ⊥) → IsLoan (with_name s.standing.tables party old new) s.memory s.published (with_party s.parties party free) party name ws
    mine name ws e (inl q) =
        let e' = subst (λ (n : List ℕ). loans party n ≡ Some ws) q e in
        subst (λ (n : List ℕ). IsLoan (with_name s.standing.tables party old new) s.memory s.published (with_party s.parties party free) party n ws) (sym q) (here ws e')
    mine name ws e (inr ne) =
        let k = h.elsewhere name ws ne e in
        quiet_loan s (with_other_name s party old new loans) sound (record { words = λ n k. refl; lists = λ n i k. refl }) party name ws (sound.things.loans party name ws k.1)
        (anew_found_elsewhere s.standing.tables.things party old new name k.0 ne) (λ x f. refl) (λ n j a. calm n j)

-- ---- loans that begin and end

none_absent : (n k v : ℕ) → slice_get (none_put n) k ≡ Some (Some v) → ⊥
none_absent zero k v e = absurd cc
none_absent (suc n) zero v e = absurd cc
none_absent (suc n) (suc k) v e = none_absent n k v e

-- the entry of a call is one
pub same_shape : (t : BoardTables) (b i : ℕ) (c : CellShape) (e : Entry) → IsEntryOf t b i c → entry_at t b i ≡ Some e → cell_shape e.cell ≡ c
same_shape t b i c e h f =
    let q : e ≡ h.entry = same_Some e h.entry (sym f ∙ h.found) in
    ap (λ (x : Entry). cell_shape x.cell) q ∙ sym h.shape

pub none_some : (o : Option (List (Option ℕ))) (ws : List (Option ℕ)) → is_some o ≡ false → o ≡ Some ws → ⊥
none_some None ws e q = absurd cc
none_some (Some x) ws e q = absurd cc

pub lend_sound : (s : State) (party : List ℕ) (l : Lending) → Sound s → IsCalm s party → IsFree s.standing party l.loan → IsLending s party l l.handle false
    → Sound (record s { standing = lent s.standing party l; parties = with_party s.parties party free })
lend_sound s party l sound calm unheld h = renamed_sound s party l.handle l.loan l.board l.entry (with_at s.standing.loans party l.loan (Some (none_put l.shape.words))) sound calm (record {
  thing = h.hold.thing;
  found = h.hold.found;
  writes = h.hold.writes;
  free = unheld;
  others = λ q name ne. at_other_party s.standing.loans party l.loan q name (Some (none_put l.shape.words)) ne;
  here = λ ws e x f.
      let w : none_put l.shape.words ≡ ws = same_Some (none_put l.shape.words) ws (sym (at_here s.standing.loans party l.loan (Some (none_put l.shape.words))) ∙ e) in
      let n : l.shape.words ≡ x.cell.words = ap (λ (c : CellShape). c.words) (sym (same_shape s.standing.tables l.board l.entry l.shape x h.place f)) in
      subst (λ (y : List (Option ℕ)). IsLent (s.memory l.board) (cell_shape x.cell) (length (s.published l.board l.entry)) y) w
      (record { size = length-replicate l.shape.words None ∙ n; stands = λ k v q. absurd (none_absent l.shape.words k v q) });
  elsewhere = λ name ws ne e.
      let k = sym (at_other_name s.standing.loans party l.loan name (Some (none_put l.shape.words)) ne) ∙ e in
      (λ q. none_some (s.standing.loans party l.handle) ws h.hold.lent (ap (λ (n : List ℕ). s.standing.loans party n) (sym q) ∙ k), k);
})

no_loan : {X : Type 0} (ws : X) (o : Option X) → o ≡ None → o ≡ Some ws → ⊥
no_loan ws o e q = absurd cc

-- nothing is lent under the free name of a handle
pub unlent_handle : (s : State) (party : List ℕ) (l : Lending) (ws : List (Option ℕ)) → Sound s → IsFree s.standing party l.handle → with_at s.standing.loans party l.loan None party l.handle ≡ Some ws → ⊥
unlent_handle s party l ws sound unheld e = at (same_name l.handle l.loan)
  where
    at : (l.handle ≡ l.loan) ⊎ (l.handle ≡ l.loan → ⊥) → ⊥
    at (inl q) = no_loan ws _ (ap (λ (n : List ℕ). with_at s.standing.loans party l.loan None party n) q ∙ at_here s.standing.loans party l.loan None) e
    at (inr ne) =
        let k = sound.things.loans party l.handle ws (sym (at_other_name s.standing.loans party l.loan l.handle None ne) ∙ e) in
        no_loan k.thing _ unheld k.found

-- nor under the name of the loan that ended
pub ended_loan : (s : State) (party : List ℕ) (l : Lending) (ws : List (Option ℕ)) → with_at s.standing.loans party l.loan None party l.loan ≡ Some ws → ⊥
ended_loan s party l ws e = no_loan ws _ (at_here s.standing.loans party l.loan None) e

pub give_back_renames : (s : State) (party : List ℕ) (l : Lending) → Sound s → IsFree s.standing party l.handle → IsLending s party l l.loan true → IsRenaming s party l.loan l.handle l.board l.entry (with_at s.standing.loans party l.loan None)
give_back_renames s party l sound unheld h = record {
  thing = h.hold.thing;
  found = h.hold.found;
  writes = h.hold.writes;
  free = unheld;
  others = λ q name ne. at_other_party s.standing.loans party l.loan q name None ne;
  here = λ ws e x f. absurd (unlent_handle s party l ws sound unheld e);
  elsewhere = λ name ws ne e. elsewhere name ws e (same_name name l.loan);
}
  where
    elsewhere : (name : List ℕ) (ws : List (Option ℕ)) → with_at s.standing.loans party l.loan None party name ≡ Some ws → (name ≡ l.loan) ⊎ (name ≡ l.loan → ⊥) → (name ≡ l.loan → ⊥) × (s.standing.loans party name ≡ Some ws)
    elsewhere name ws e (inl q) = absurd (ended_loan s party l ws (ap (λ (n : List ℕ). with_at s.standing.loans party l.loan None party n) (sym q) ∙ e))
    elsewhere name ws e (inr ne) = (ne, sym (at_other_name s.standing.loans party l.loan name None ne) ∙ e)

pub give_back_sound : (s : State) (party : List ℕ) (l : Lending) → Sound s → IsCalm s party → IsFree s.standing party l.handle → IsLending s party l l.loan true
    → Sound (record s { standing = given_back s.standing party l; parties = with_party s.parties party free })
give_back_sound s party l sound calm unheld h = renamed_sound s party l.loan l.handle l.board l.entry (with_at s.standing.loans party l.loan None) sound calm (give_back_renames s party l sound unheld h)
