-- When tables have what the definitions say.
use Rattle.std.proofs.Common.{◌≡◌, ℕ, Bool, true, false, cond, List, [], ◌∷◌, ◌++◌, Option, Some, None, map, refl, sym, ap, ◌∙◌}
use Rattle.std.specs.Prelude.{◌==◌, ◌&&◌, nat_eq, option_map, slice_set}
use Rattle.std.specs.Str.{bytes_eq}
use Rattle.std.specs.HashMap.{get}
use Rattle.std.proofs.lemmas.Bool.Decides.{same_from_decides, Decides-eqb}
use Rattle.std.proofs.lemmas.Slice.Eq.{bytes_eq-Decides}
use Rattle.board_model.specs.Memory.{store}
use Rattle.board_model.specs.Replies.{published_at, released_thing}
use Rattle.board_model.specs.Requests.{Published}
use Rattle.board_model.specs.Things.{Held, Standing, is_held_as, named_anew, thing_of, with_at, with_name}
use Rattle.board_model.specs.TableCalls.{boards_left}
use Rattle.board_model.specs.Tables.{without_first}
use Rattle.script_board_tables.specs.declared.tables.BoardTables.{BoardTables}
use Rattle.script_board_tables.specs.declared.tables.KeptValue.{KeptValue}
use Rattle.script_seats.specs.Seats.{SeatOf, same_seat}
use Rattle.script_board_tables.specs.Tables.{Has, kept_at, kept_in, lists_in, loan_at, memory_of, published_of, standing_of, tables_of, words_in}

-- ---- functions that agree everywhere are one

pub standing_is : (t : BoardTables) (s : Standing) → tables_of t ≡ s.tables → ((p n : List ℕ) → loan_at t p n ≡ s.loans p n) → ((p n : List ℕ) → kept_at t p n ≡ s.values p n) → standing_of t ≡ s
standing_is t s tables loans values = λ i. record { tables = tables i; loans = λ p n. loans p n i; values = λ p n. values p n i }

pub memory_is : (t : BoardTables) (m : ℕ → List ℕ) → ((n : ℕ) → memory_of t n ≡ m n) → memory_of t ≡ m
memory_is t m same = λ i n. same n i

pub lists_are : (t : BoardTables) (p : Published) → ((n i : ℕ) → published_of t n i ≡ p n i) → published_of t ≡ p
lists_are t p same = λ k n i. same n i k

-- ---- equality, either way round

turned : (p q : List ℕ) → bytes_eq p q ≡ bytes_eq q p
turned p q = same_from_decides _ (bytes_eq q p) (bytes_eq-Decides p q) (λ e. sym ((bytes_eq-Decides q p).0 e), λ e. (bytes_eq-Decides q p).1 (sym e))

pub turned_number : (m n : ℕ) → nat_eq m n ≡ (n == m)
turned_number m n = same_from_decides _ (n == m) (Decides-eqb m n) (λ e. sym ((Decides-eqb n m).0 e), λ e. (Decides-eqb n m).1 (sym e))

seat : List ℕ → List ℕ → SeatOf
seat party name = record { party = party; name = name }

turned_seat : (party name p n : List ℕ) → same_seat (record { party = party; name = name }) (record { party = p; name = n }) ≡ (bytes_eq p party && bytes_eq n name)
turned_seat party name p n = λ i. turned party p i && turned name n i

mapped : {A B : Type 0} (f : A → B) (b : Bool) (x y : Option A) → option_map f (cond b x y) ≡ cond b (option_map f x) (option_map f y)
mapped f true x y = refl
mapped f false x y = refl

-- ---- words and lists

module _ (old new : BoardTables) (board : ℕ) where
  -- the word of a board was written
  pub wrote : (word value : ℕ) → standing_of new ≡ standing_of old
      → ((n : ℕ) → words_in (get nat_eq new.rows n) ≡ cond (nat_eq board n) (slice_set (words_in (get nat_eq old.rows n)) word value) (words_in (get nat_eq old.rows n)))
      → ((n i : ℕ) → lists_in (get nat_eq new.rows n) i ≡ lists_in (get nat_eq old.rows n) i)
      → Has new (standing_of old) (store (memory_of old) board word value) (published_of old)
  wrote word value same words lists = record {
    standing = same;
    memory = memory_is new (store (memory_of old) board word value) (λ n. words n ∙ ap (λ (b : Bool). cond b (slice_set (memory_of old n) word value) (memory_of old n)) (turned_number board n));
    lists = lists_are new (published_of old) lists;
  }

  module _ (entry : ℕ) (value : List ℕ) where
    abbrev longer : ℕ → ℕ → List (List ℕ)
    longer m j = published_of old m j ++ value ∷ []

    both : (m j : ℕ) (a b : Bool) → nat_eq board m ≡ a → nat_eq entry j ≡ b → cond (a && b) (longer m j) (published_of old m j) ≡ published_at (published_of old) board entry value m j
    both m j true true e f =
        let x : (m == board) ≡ true = sym (turned_number board m) ∙ e in
        let y : (j == entry) ≡ true = sym (turned_number entry j) ∙ f in
        let p : m ≡ board = (Decides-eqb m board).0 x in
        let q : j ≡ entry = (Decides-eqb j entry).0 y in
        rw (x, y) (ap (λ (n : ℕ). longer n j) p ∙ ap (λ (i : ℕ). longer board i) q)
    both m j true false e f =
        let y : (j == entry) ≡ false = sym (turned_number entry j) ∙ f in
        let x : (m == board) ≡ true = sym (turned_number board m) ∙ e in
        rw (x, y) refl
    both m j false b e f =
        let x : (m == board) ≡ false = sym (turned_number board m) ∙ e in
        rw x refl

    -- one more value of an entry was published
    pub added : standing_of new ≡ standing_of old
        → ((n : ℕ) → words_in (get nat_eq new.rows n) ≡ words_in (get nat_eq old.rows n))
        → ((n i : ℕ) → lists_in (get nat_eq new.rows n) i ≡ cond (nat_eq board n && nat_eq entry i) (longer n i) (lists_in (get nat_eq old.rows n) i))
        → Has new (standing_of old) (memory_of old) (published_at (published_of old) board entry value)
    added same words lists = record {
      standing = same;
      memory = memory_is new (memory_of old) words;
      lists = lists_are new (published_at (published_of old) board entry value) (λ m j. lists m j ∙ both m j (nat_eq board m) (nat_eq entry j) refl refl);
    }

-- ---- loans and values

module _ (old new : BoardTables) (party name : List ℕ) where
  -- a value is, or isn't, under a name
  pub valued : (x : Option KeptValue) → tables_of new ≡ tables_of old → ((p n : List ℕ) → loan_at new p n ≡ loan_at old p n)
      → memory_of new ≡ memory_of old → published_of new ≡ published_of old
      → ((s : SeatOf) → get same_seat new.values s ≡ cond (same_seat (record { party = party; name = name }) s) x (get same_seat old.values s))
      → Has new (record (standing_of old) { values = with_at (kept_at old) party name (option_map kept_in x) }) (memory_of old) (published_of old)
  valued x tables loans memory lists values = record {
    standing = standing_is new (record (standing_of old) { values = with_at (kept_at old) party name (option_map kept_in x) }) tables loans
        (λ p n. ap (option_map kept_in) (values (record { party = p; name = n }))
        ∙ mapped kept_in (same_seat (record { party = party; name = name }) (record { party = p; name = n })) x (get same_seat old.values (record { party = p; name = n }))
        ∙ ap (λ (b : Bool). cond b (option_map kept_in x) (kept_at old p n)) (turned_seat party name p n));
    memory = memory;
    lists = lists;
  }

  -- so of a loan
  pub worded : (x : Option (List (Option ℕ))) → tables_of new ≡ tables_of old → ((p n : List ℕ) → kept_at new p n ≡ kept_at old p n)
      → memory_of new ≡ memory_of old → published_of new ≡ published_of old
      → ((s : SeatOf) → get same_seat new.loans s ≡ cond (same_seat (record { party = party; name = name }) s) x (get same_seat old.loans s))
      → Has new (record (standing_of old) { loans = with_at (loan_at old) party name x }) (memory_of old) (published_of old)
  worded x tables values memory lists loans = record {
    standing = standing_is new (record (standing_of old) { loans = with_at (loan_at old) party name x }) tables
        (λ p n. loans (record { party = p; name = n }) ∙ ap (λ (b : Bool). cond b x (loan_at old p n)) (turned_seat party name p n))
        values;
    memory = memory;
    lists = lists;
  }

-- ---- one change after another

abbrev pub anew : List ℕ → List ℕ → List ℕ → Standing → Standing
anew party from to s = record s { tables = with_name s.tables party from to }

-- a thing has another name
pub renamed : (mid new : BoardTables) (s : Standing) (m : ℕ → List ℕ) (l : Published) (party from to : List ℕ) → Has mid s m l
    → new.things ≡ map (named_anew party from to) mid.things → new.boards.boards ≡ mid.boards.boards → new.boards.last ≡ mid.boards.last → new.last_port ≡ mid.last_port
    → ((p n : List ℕ) → loan_at new p n ≡ loan_at mid p n) → ((p n : List ℕ) → kept_at new p n ≡ kept_at mid p n) → memory_of new ≡ memory_of mid → published_of new ≡ published_of mid
    → Has new (anew party from to s) m l
renamed mid new s m l party from to h things boards b p loans values memory lists = record {
  standing = standing_is new (anew party from to (standing_of mid)) (λ i. record { boards = boards i; things = things i; last_board = b i; last_port = p i }) loans values ∙ ap (anew party from to) h.standing;
  memory = memory ∙ h.memory;
  lists = lists ∙ h.lists;
}

-- a change of what stands after another change
pub then : (mid new : BoardTables) (s : Standing) (m : ℕ → List ℕ) (l : Published) (f : Standing → Standing) → Has mid s m l → Has new (f (standing_of mid)) (memory_of mid) (published_of mid) → Has new (f s) m l
then mid new s m l f h k = record { standing = k.standing ∙ ap f h.standing; memory = k.memory ∙ h.memory; lists = k.lists ∙ h.lists }

pub unchanged : (t : BoardTables) → Has t (standing_of t) (memory_of t) (published_of t)
unchanged t = record { standing = refl; memory = refl; lists = refl }

-- ---- what goes

module _ (old new : BoardTables) (party name : List ℕ) (b : new.boards.last ≡ old.boards.last) (p : new.last_port ≡ old.last_port)
    (loans : (p n : List ℕ) → loan_at new p n ≡ loan_at old p n) (values : (p n : List ℕ) → kept_at new p n ≡ kept_at old p n) (memory : memory_of new ≡ memory_of old) (lists : published_of new ≡ published_of old) where
  abbrev released_by : Option Held → Standing
  released_by o = record (standing_of old) { tables = released_thing (tables_of old) party name o }

  -- nothing was under the name
  pub nothing_went : thing_of old.things party name ≡ None → new.things ≡ old.things → new.boards.boards ≡ old.boards.boards
      → Has new (released_by (thing_of old.things party name)) (memory_of old) (published_of old)
  nothing_went none things boards = record {
    standing = standing_is new (released_by None) (λ i. record { boards = boards i; things = things i; last_board = b i; last_port = p i }) loans values ∙ ap released_by (sym none);
    memory = memory;
    lists = lists;
  }

  -- a thing was, and a board goes with its last one
  pub thing_went : (x : Held) → thing_of old.things party name ≡ Some x → new.things ≡ without_first (is_held_as party name) old.things
      → new.boards.boards ≡ boards_left old.boards.boards x.board (without_first (is_held_as party name) old.things)
      → Has new (released_by (thing_of old.things party name)) (memory_of old) (published_of old)
  thing_went x found things boards = record {
    standing = standing_is new (released_by (Some x)) (λ i. record { boards = boards i; things = things i; last_board = b i; last_port = p i }) loans values ∙ ap released_by (sym found);
    memory = memory;
    lists = lists;
  }
