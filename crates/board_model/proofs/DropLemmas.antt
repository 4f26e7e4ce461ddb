-- A thing that is dropped, and the board that goes with its last thing.
use Rattle.std.proofs.Common.{◌≡◌, ℕ, ◌≤◌, Bool, true, false, cond, List, [], ◌∷◌, arith, refl, sym, ap, subst, ◌∙◌, Option, Some, None, inl, inr}
use Rattle.std.specs.Prelude.{find, is_some, ◌⊎◌}
use Rattle.std.specs.List.{AllByRecursion, count_by, list_any}
use Rattle.std.specs.Str.{bytes_eq}
use Rattle.std.proofs.lemmas.Bool.{both_ways, cases_eq, eq-eqb, eqb-true, ne_eqb, or_parts}
use Rattle.board_model.specs.declared.tables.Board.{Board}
use Rattle.board_model.specs.declared.tables.Entry.{Entry}
use Rattle.board_model.specs.Tables.{board_at, entry_at, entry_in, has_name, is_numbered, is_of_board, is_write_handle, without_first}
use Rattle.board_model.specs.TableCalls.{released}
use Rattle.board_model.specs.Things.{Held, is_held_as, thing_of, with_at}
use Rattle.board_model.specs.Requests.{Published}
use Rattle.board_model.specs.Replies.{dropped, released_thing}
use Rattle.board_model.specs.Parties.{free, with_party}
use Rattle.board_model.specs.LawfulSession.{State}
use Rattle.board_model.specs.Sound.{AreBoards, BoardTables, HasBoard, HasEntry, Sound}
use Rattle.board_model.proofs.ListLemmas.{any_found, count_without, find_none, find_true, same_bytes}
use Rattle.board_model.proofs.ThingLemmas.{all_found, all_without, entries_kept, has_entry_kept, find_without_other, held_as, held_as_other, held_by_other}
use Rattle.board_model.proofs.KeptLemmas.{quiet_loan, quiet_sound}
use Rattle.board_model.proofs.TableLemmas.{at_here, at_other_name, at_other_party, same_name}

-- ---- fewer boards

entry_back : (o p : Option Board) → ((b : Board) → o ≡ Some b → p ≡ Some b) → (i : ℕ) (e : Entry) → entry_in o i ≡ Some e → entry_in p i ≡ Some e
entry_back None p k i e f = absurd cc
entry_back (Some b) p k i e f = ap (λ (x : Option Board). entry_in x i) (k b refl) ∙ f

pub boards_fewer : (t new : BoardTables) (memory : ℕ → List ℕ) (published : Published) → new.last_board ≡ t.last_board → ((n : ℕ) → count_by (is_numbered n) new.boards ≤ 1) → ((name : List ℕ) → count_by (has_name name) new.boards ≤ 1) → ((n : ℕ) (b : Board) → board_at new n ≡ Some b → board_at t n ≡ Some b) → AreBoards t memory published → AreBoards new memory published
boards_fewer t new memory published last single named back h = record {
  numbered = λ n b f. subst (λ (m : ℕ). n ≤ m) (sym last) (h.numbered n b (back n b f));
  single = single;
  named = named;
  keyed = λ n b f. h.keyed n b (back n b f);
  unused = λ n i lt. h.unused n i (omega (arith, last, lt));
  typed = λ n i e f. h.typed n i e (entry n i e f);
  cells = λ n i e f. h.cells n i e (entry n i e f);
  apart = λ n i j e g f k lt. h.apart n i j e g (entry n i e f) (entry n j g k) lt;
  placed = λ n i e f. h.placed n i e (entry n i e f);
  short = λ n i e f. h.short n i e (entry n i e f);
}
  where
    entry : (n i : ℕ) (e : Entry) → entry_at new n i ≡ Some e → entry_at t n i ≡ Some e
    entry n i e f = entry_back (board_at new n) (board_at t n) (back n) i e f

-- ---- one thing less

pub count_fewer : {X : Type 0} (p q : X → Bool) (xs : List X) (x : X) → find q xs ≡ Some x → count_by p (without_first q xs) ≤ count_by p xs
count_fewer p q xs x f = omega (arith, count_without p q xs x f)

-- none that is left passes
all_off : {X : Type 0} (P Q : X → Type 0) (p : X → Bool) → ((x : X) → P x → p x ≡ false → Q x) → (xs : List X) → list_any p xs ≡ false → AllByRecursion P xs → AllByRecursion Q xs
all_off P Q p w [] n h = tt
all_off P Q p w (z ∷ xs) n h =
    let o = or_parts (p z) (list_any p xs) n in
    (w z h.0 o.0, all_off P Q p w xs o.1 h.1)

module _ (t : BoardTables) (party name : List ℕ) (x : Held) (found : thing_of t.things party name ≡ Some x) where
  abbrev left : List Held
  left = without_first (is_held_as party name) t.things

  abbrev new : BoardTables
  new = released t (is_held_as party name) x.board

  -- another board is found as before
  other_board : (n m : ℕ) → (m ≡ n → ⊥) → find (is_numbered m) (without_first (is_numbered n) t.boards) ≡ find (is_numbered m) t.boards
  other_board n m ne = find_without_other (is_numbered m) (is_numbered n) (λ b k. ne_eqb b.number m (λ q. ne (sym q ∙ eqb-true b.number n k))) t.boards

  -- the board of a thing that is left stands as before
  board_kept : (z : Bool) → list_any (is_of_board x.board) left ≡ z → (m : ℕ) → (m ≡ x.board → z ≡ true) → find (is_numbered m) (cond z t.boards (without_first (is_numbered x.board) t.boards)) ≡ find (is_numbered m) t.boards
  board_kept true e m k = refl
  board_kept false e m k = other_board x.board m (λ q. both_ways false refl (k q))

  pub board_of_left : (p : Held → Bool) (y : Held) → find p left ≡ Some y → board_at new y.board ≡ board_at t y.board
  board_of_left p y f = board_kept (list_any (is_of_board x.board) left) refl y.board (λ q. any_found p (is_of_board x.board) left y f (eq-eqb y.board x.board q))

  standing_left : (z : Bool) → list_any (is_of_board x.board) left ≡ z → AllByRecursion (HasBoard t) left → AllByRecursion (λ (y : Held). is_some (find (is_numbered y.board) (cond z t.boards (without_first (is_numbered x.board) t.boards))) ≡ true) left
  standing_left true e h = h
  standing_left false e h = all_off (HasBoard t) (λ (y : Held). is_some (find (is_numbered y.board) (without_first (is_numbered x.board) t.boards)) ≡ true) (is_of_board x.board)
      (λ y k off. ap is_some (other_board x.board y.board (λ q. both_ways (is_of_board x.board y) off (eq-eqb y.board x.board q))) ∙ k) left e h

  pub all_standing : AllByRecursion (HasBoard t) t.things → AllByRecursion (HasBoard new) new.things
  all_standing h = standing_left (list_any (is_of_board x.board) left) refl (all_without (HasBoard t) (is_held_as party name) t.things h)

  entries_left : (z : Bool) → list_any (is_of_board x.board) left ≡ z → AllByRecursion (HasEntry t) left → AllByRecursion (HasEntry (record t { things = left; boards = cond z t.boards (without_first (is_numbered x.board) t.boards) })) left
  entries_left true e h = entries_kept t (record t { things = left }) (λ n i. refl) left h
  entries_left false e h = all_off (HasEntry t) (HasEntry (record t { things = left; boards = without_first (is_numbered x.board) t.boards })) (is_of_board x.board)
      (λ y k off. has_entry_kept t (record t { things = left; boards = without_first (is_numbered x.board) t.boards }) y.board (λ i. ap (λ (o : Option Board). entry_in o i) (other_board x.board y.board (λ q. both_ways (is_of_board x.board y) off (eq-eqb y.board x.board q)))) y.kind k) left e h

  pub all_entries : AllByRecursion (HasEntry t) t.things → AllByRecursion (HasEntry new) new.things
  all_entries h = entries_left (list_any (is_of_board x.board) left) refl (all_without (HasEntry t) (is_held_as party name) t.things h)

  -- what stands now stood before
  back : (memory : ℕ → List ℕ) (published : Published) → AreBoards t memory published → AllByRecursion (HasBoard t) t.things → (z : Bool) → (n : ℕ) (b : Board) → find (is_numbered n) (cond z t.boards (without_first (is_numbered x.board) t.boards)) ≡ Some b → find (is_numbered n) t.boards ≡ Some b
  back memory published h st true n b f = f
  back memory published h st false n b f = at (cases_eq n x.board)
    where
      at : (n ≡ x.board) ⊎ (n ≡ x.board → ⊥) → find (is_numbered n) t.boards ≡ Some b
      at (inr ne) = sym (other_board x.board n ne) ∙ f
      at (inl q) =
          let f' = subst (λ (m : ℕ). find (is_numbered m) (without_first (is_numbered x.board) t.boards) ≡ Some b) q f in
          absurd (gone (board_at t x.board) refl f')
        where
          gone : (o : Option Board) → board_at t x.board ≡ o → find (is_numbered x.board) (without_first (is_numbered x.board) t.boards) ≡ Some b → ⊥
          gone None e f' =
              let s = all_found (HasBoard t) (is_held_as party name) t.things x st found in
              absurd (both_ways (is_some (board_at t x.board)) (ap is_some e) s)
          gone (Some y) e f' =
              let c = count_without (is_numbered x.board) (is_numbered x.board) t.boards y e in
              let u : is_numbered x.board y ≡ true = find_true (is_numbered x.board) t.boards y e in
              let d : ◌≡◌ {A = ℕ} (cond (is_numbered x.board y) 1 0) 1 = ap (λ (z : Bool). cond z 1 0) u in
              find_none (is_numbered x.board) (without_first (is_numbered x.board) t.boards) b (omega (arith, c, d, h.single x.board)) f'

  -- no more than one board passes a test, where no more did before
  one_left : AllByRecursion (HasBoard t) t.things → (p : Board → Bool) → count_by p t.boards ≤ 1 → (z : Bool) → count_by p (cond z t.boards (without_first (is_numbered x.board) t.boards)) ≤ 1
  one_left st p one true = one
  one_left st p one false = at (board_at t x.board) refl
    where
      at : (o : Option Board) → board_at t x.board ≡ o → count_by p (without_first (is_numbered x.board) t.boards) ≤ 1
      at None e =
          let s = all_found (HasBoard t) (is_held_as party name) t.things x st found in
          absurd (both_ways (is_some (board_at t x.board)) (ap is_some e) s)
      at (Some y) e = omega (arith, count_fewer p (is_numbered x.board) t.boards y e, one)

  pub boards_after : (memory : ℕ → List ℕ) (published : Published) → AreBoards t memory published → AllByRecursion (HasBoard t) t.things → AreBoards new memory published
  boards_after memory published h st = boards_fewer t new memory published refl
      (λ n. one_left st (is_numbered n) (h.single n) (list_any (is_of_board x.board) left))
      (λ n. one_left st (has_name n) (h.named n) (list_any (is_of_board x.board) left))
      (λ n b f. back memory published h st (list_any (is_of_board x.board) left) n b f) h

  pub others_found : (q n : List ℕ) → (q ≡ party → ⊥) → thing_of left q n ≡ thing_of t.things q n
  others_found q n ne = find_without_other (is_held_as q n) (is_held_as party name) (λ y k. held_by_other q party n y (held_as party name y k).holder ne) t.things

  pub other_names_found : (n : List ℕ) → (n ≡ name → ⊥) → thing_of left party n ≡ thing_of t.things party n
  other_names_found n ne = find_without_other (is_held_as party n) (is_held_as party name) (λ y k. held_as_other party n name y (held_as party name y k).named ne) t.things

-- ---- drop

abbrev pub dropped_state : State → List ℕ → List ℕ → State
dropped_state s party name = record s { standing = dropped s.standing party name }

abbrev dropped_with : State → List ℕ → List ℕ → BoardTables → State
dropped_with s party name t = record s { standing = record { tables = t; loans = with_at s.standing.loans party name None; values = with_at s.standing.values party name None } }

-- what isn't under the dropped name is lent as before
lent_before : (s : State) (party name n : List ℕ) (ws : List (Option ℕ)) → with_at s.standing.loans party name None party n ≡ Some ws → (n ≡ name → ⊥) × (s.standing.loans party n ≡ Some ws)
lent_before s party name n ws e = at (same_name n name)
  where
    none : (o : Option (List (Option ℕ))) → o ≡ None → o ≡ Some ws → ⊥
    none o a b = absurd cc

    at : (n ≡ name) ⊎ (n ≡ name → ⊥) → (n ≡ name → ⊥) × (s.standing.loans party n ≡ Some ws)
    at (inl q) = absurd (none _ (ap (λ (m : List ℕ). with_at s.standing.loans party name None party m) q ∙ at_here s.standing.loans party name None) e)
    at (inr ne) = (ne, sym (at_other_name s.standing.loans party name n None ne) ∙ e)

parties_same : (s : State) (party : List ℕ) → s.parties party ≡ free → (q : List ℕ) → s.parties q ≡ with_party s.parties party free q
parties_same s party fr q = at (bytes_eq q party) (same_bytes q party)
  where
    at : (b : Bool) → (b ≡ true → q ≡ party) → s.parties q ≡ cond b free (s.parties q)
    at true t = ap s.parties (t refl) ∙ fr
    at false t = refl

drop_case : (s : State) (party name : List ℕ) → Sound s → s.parties party ≡ free → (o : Option Held) → thing_of s.standing.tables.things party name ≡ o → Sound (dropped_with s party name (released_thing s.standing.tables party name o))
drop_case s party name sound fr None f = quiet_sound s (dropped_with s party name s.standing.tables) party free sound (record {
  quiet = record { words = λ n h. refl; lists = λ n i h. refl };
  parties = parties_same s party fr;
  boards = sound.boards;
  handles = sound.things.handles;
  standing = sound.things.standing;
  entries = entries_kept s.standing.tables s.standing.tables (λ n i. refl) s.standing.tables.things sound.things.entries;
  others = λ q ne. record { things = λ n. refl; loans = λ n. at_other_party s.standing.loans party name q n None ne; boards = λ n y e. refl };
  mine = λ n ws e.
      let k = lent_before s party name n ws e in
      quiet_loan s (dropped_with s party name s.standing.tables) sound (record { words = λ n h. refl; lists = λ n i h. refl }) party n ws (sound.things.loans party n ws k.1) refl (λ y g. refl) (λ m i a. a);
  own = tt;
})
drop_case s party name sound fr (Some x) f = quiet_sound s (dropped_with s party name (released s.standing.tables (is_held_as party name) x.board)) party free sound (record {
  quiet = record { words = λ n h. refl; lists = λ n i h. refl };
  parties = parties_same s party fr;
  boards = boards_after s.standing.tables party name x f s.memory s.published sound.boards sound.things.standing;
  handles = λ n i. omega (arith, count_fewer (is_write_handle n i) (is_held_as party name) s.standing.tables.things x f, sound.things.handles n i);
  standing = all_standing s.standing.tables party name x f sound.things.standing;
  entries = all_entries s.standing.tables party name x f sound.things.entries;
  others = λ q ne. record {
    things = λ n. others_found s.standing.tables party name x f q n ne;
    loans = λ n. at_other_party s.standing.loans party name q n None ne;
    boards = λ n y e. board_of_left s.standing.tables party name x f (is_held_as q n) y (others_found s.standing.tables party name x f q n ne ∙ e);
  };
  mine = λ n ws e.
      let k = lent_before s party name n ws e in
      quiet_loan s (dropped_with s party name (released s.standing.tables (is_held_as party name) x.board)) sound (record { words = λ n h. refl; lists = λ n i h. refl }) party n ws (sound.things.loans party n ws k.1)
      (other_names_found s.standing.tables party name x f n k.0)
      (λ y g. board_of_left s.standing.tables party name x f (is_held_as party n) y (other_names_found s.standing.tables party name x f n k.0 ∙ g))
      (λ m i a. a);
  own = tt;
})

pub drop_sound : (s : State) (party name : List ℕ) → Sound s → s.parties party ≡ free → Sound (dropped_state s party name)
drop_sound s party name sound fr = drop_case s party name sound fr (thing_of s.standing.tables.things party name) refl
