-- What is true of the tables of every domain stays true when things and boards come and go.
use Rattle.std.proofs.Common.{◌≡◌, ◌≢◌, ℕ, ◌+◌, ◌≤◌, Bool, true, false, cond, ◌==◌, ◌||◌, List, [], ◌∷◌, ◌++◌, refl, sym, ap, subst, ◌∙◌, Option, Some, None, arith}
use Rattle.std.specs.Prelude.{find, is_some, IfSome, ◌<◌}
use Rattle.std.specs.List.{list_any, cons_option, AllByRecursion}
use Rattle.std.proofs.lemmas.List.{append-nil}
use Rattle.board_model.specs.declared.tables.Board.{Board}
use Rattle.board_model.specs.declared.tables.Thing.{Thing}
use Rattle.board_model.specs.Tables.{Tables, board_at, has_name, holds_at, is_numbered, is_of_board, is_write_handle, port_of, without_first}
use Rattle.board_model.specs.TableCalls.{with_thing}
use Rattle.board_service.specs.Domain.{is_thing, thing_numbered, thing_or_none}
use Rattle.board_model.specs.declared.tables.Kind.TheVariants as kind
use Rattle.board_service.specs.Facts.{AreDrawn, AreTables, HasEntry, HasPort, KeepsLimits, WritesAlone, board_number, drawn_port, entry_count, handle_entry, is_port, written_entry, port_number, ports_of, thing_number}
use Rattle.board_service.proofs.LimitLemmas.{entries_less_board, entries_more_boards, limits_less, limits_less_board, limits_more, limits_more_board, writers_less, writers_more}
use Rattle.board_service.proofs.NamedLemmas.{names_less, names_more}
use Rattle.board_service.proofs.LaidLemmas.{EachLaid, IsLaid, apart_in, are_laid, keyed_in, laid_less, laid_more, placed_in}
use Rattle.board_service.proofs.DrawnLemmas.{drawn_more, drawn_without, find-push, find-push-other, find-without, find-without-other, none_above, numbered_other, there}

-- ---- lists

or_false : (a : Bool) → (a || false) ≡ a
or_false true = refl
or_false false = refl

or_true : (a : Bool) → (a || true) ≡ true
or_true true = refl
or_true false = refl

any_more : {X : Type 0} (p : X → Bool) (xs : List X) (y : X) → list_any p (xs ++ y ∷ []) ≡ (list_any p xs || p y)
any_more p [] y = or_false (p y)
any_more p (x ∷ xs) y = elim (p x) as (λ b. (b || list_any p (xs ++ y ∷ [])) ≡ ((b || list_any p xs) || p y)) [ true ↦ refl | false ↦ any_more p xs y ]

-- without one that fails a test, the test holds of one of the others as before
any_without : {X : Type 0} (p q : X → Bool) (xs : List X) → holds_at (find q xs) p ≡ false → list_any p (without_first q xs) ≡ list_any p xs
any_without p q [] h = refl
any_without p q (x ∷ xs) h =
    elim (q x) as (λ b. holds_at (cond b (there x) (find q xs)) p ≡ false → list_any p (cond b xs (x ∷ without_first q xs)) ≡ list_any p (x ∷ xs)) [
      | true ↦ λ e. let no : p x ≡ false = e in rw no refl
      | false ↦ λ e. ap (λ (b : Bool). p x || b) (any_without p q xs e)
    ] h

any_in_part : {X : Type 0} (p q : X → Bool) (xs : List X) → list_any p (without_first q xs) ≡ true → list_any p xs ≡ true
any_in_part p q [] h = h
any_in_part p q (x ∷ xs) h =
    elim (q x) as (λ b. list_any p (cond b xs (x ∷ without_first q xs)) ≡ true → list_any p (x ∷ xs) ≡ true) [
      | true ↦ λ e. rw e (or_true (p x))
      | false ↦ λ e. elim (p x) as (λ b. (b || list_any p (without_first q xs)) ≡ true → (b || list_any p xs) ≡ true) [ true ↦ λ f. refl | false ↦ λ f. any_in_part p q xs f ] e
    ] h

all_more : {X : Type 0} (P : X → Type 0) (xs : List X) (y : X) → AllByRecursion P xs → P y → AllByRecursion P (xs ++ y ∷ [])
all_more P [] y h last = (last, tt)
all_more P (x ∷ xs) y h last = (h.0, all_more P xs y h.1 last)

all_without : {X : Type 0} (P : X → Type 0) (q : X → Bool) (xs : List X) → AllByRecursion P xs → AllByRecursion P (without_first q xs)
all_without P q [] h = tt
all_without P q (x ∷ xs) h = elim (q x) as (λ b. AllByRecursion P (cond b xs (x ∷ without_first q xs))) [ true ↦ h.1 | false ↦ (h.0, all_without P q xs h.1) ]

-- ---- ports

handles_raised : (last more : ℕ) (ts : List (Thing ℕ ℕ)) → last ≤ more → AllByRecursion (HasPort last) ts → AllByRecursion (HasPort more) ts
handles_raised last more [] le h = tt
handles_raised last more (t ∷ ts) le h = (let small : port_of t.kind ≤ last = h.0 in omega (arith, small, le), handles_raised last more ts le h.1)

-- the port of a thing is none above the last that was drawn
pub port_below : (last n : ℕ) (ts : List (Thing ℕ ℕ)) → AllByRecursion (HasPort last) ts → port_of (thing_numbered n ts).kind ≤ last
port_below last n [] h = omega arith
port_below last n (t ∷ ts) h =
    elim (is_thing n t) as (λ b. port_of (thing_or_none (cond b (there t) (find (is_thing n) ts))).kind ≤ last) [ true ↦ h.0 | false ↦ port_below last n ts h.1 ]

ports_more : (ts : List (Thing ℕ ℕ)) (x : Thing ℕ ℕ) → ports_of (ts ++ x ∷ []) ≡ ports_of ts ++ cons_option (drawn_port x.kind) []
ports_more [] x = refl
ports_more (t ∷ ts) x = elim (drawn_port t.kind) as (λ o. cons_option o (ports_of (ts ++ x ∷ [])) ≡ cons_option o (ports_of ts) ++ cons_option (drawn_port x.kind) []) [
  | None ↦ ports_more ts x
  | Some port ↦ ap (λ (ports : List ℕ). port ∷ ports) (ports_more ts x)
]

free_port : (p : ℕ → Bool) (q : Thing ℕ ℕ → Bool) (ts : List (Thing ℕ ℕ)) → find p (ports_of ts) ≡ None → find p (ports_of (without_first q ts)) ≡ None
free_port p q [] h = refl
free_port p q (t ∷ ts) h =
    elim (drawn_port t.kind) as (λ o. drawn_port t.kind ≡ o → find p (cons_option o (ports_of ts)) ≡ None → find p (ports_of (cond (q t) ts (t ∷ without_first q ts))) ≡ None) [
      | None ↦ λ e f. elim (q t) as (λ c. find p (ports_of (cond c ts (t ∷ without_first q ts))) ≡ None) [ true ↦ f | false ↦ rw e (free_port p q ts f) ]
      | Some port ↦ λ e f.
          let later = none_behind port f in
          elim (q t) as (λ c. find p (ports_of (cond c ts (t ∷ without_first q ts))) ≡ None) [ true ↦ later.1 | false ↦ rw e (rw later.0 (free_port p q ts later.1)) ]
    ] refl h
  where
    none_behind : (port : ℕ) → find p (port ∷ ports_of ts) ≡ None → (p port ≡ false) × (find p (ports_of ts) ≡ None)
    none_behind port f = elim (p port) as (λ c. cond c (there port) (find p (ports_of ts)) ≡ None → (c ≡ false) × (find p (ports_of ts) ≡ None)) [ true ↦ λ g. absurd cc | false ↦ λ g. (refl, g) ] f

ports_without : (q : Thing ℕ ℕ → Bool) (last : ℕ) (ts : List (Thing ℕ ℕ)) → AreDrawn port_number is_port last (ports_of ts) → AreDrawn port_number is_port last (ports_of (without_first q ts))
ports_without q last [] h = tt
ports_without q last (t ∷ ts) h =
    elim (drawn_port t.kind) as (λ o. drawn_port t.kind ≡ o → AreDrawn port_number is_port last (cons_option o (ports_of ts)) → AreDrawn port_number is_port last (ports_of (cond (q t) ts (t ∷ without_first q ts)))) [
      | None ↦ λ e d. elim (q t) as (λ c. AreDrawn port_number is_port last (ports_of (cond c ts (t ∷ without_first q ts)))) [ true ↦ d | false ↦ rw e (ports_without q last ts d) ]
      | Some port ↦ λ e d. elim (q t) as (λ c. AreDrawn port_number is_port last (ports_of (cond c ts (t ∷ without_first q ts)))) [
        | true ↦ d.2
        | false ↦ rw e (d.0, free_port (is_port port) q ts d.1, ports_without q last ts d.2)
      ]
    ] refl h

-- ---- things and their boards

-- the board of a thing that stands has a thing
any_of_found : (n : ℕ) (ts : List (Thing ℕ ℕ)) → is_some (find (is_thing n) ts) ≡ true → list_any (is_of_board (thing_numbered n ts).board) ts ≡ true
any_of_found n [] h = absurd cc
any_of_found n (t ∷ ts) h =
    elim (is_thing n t) as (λ b. is_some (cond b (there t) (find (is_thing n) ts)) ≡ true → list_any (is_of_board (thing_or_none (cond b (there t) (find (is_thing n) ts))).board) (t ∷ ts) ≡ true) [
      | true ↦ λ e. let own : (t.board == t.board) ≡ true = grind arith in rw own refl
      | false ↦ λ e. rw (any_of_found n ts e) (or_true (is_of_board (thing_or_none (find (is_thing n) ts)).board t))
    ] h

-- the board of a thing that stands, stands
pub board_stands : (t : Tables ℕ ℕ) (last n : ℕ) → AreTables t last → is_some (find (is_thing n) t.things) ≡ true → is_some (board_at t (thing_numbered n t.things).board) ≡ true
board_stands t last n are some = are.standing (thing_numbered n t.things).board ∙ any_of_found n t.things some

-- the thing that is found isn't of another board
found_of_other : (n board : ℕ) (ts : List (Thing ℕ ℕ)) → board ≢ (thing_numbered n ts).board → holds_at (find (is_thing n) ts) (is_of_board board) ≡ false
found_of_other n board ts d = of (find (is_thing n) ts) d
  where
    of : (o : Option (Thing ℕ ℕ)) → board ≢ (thing_or_none o).board → holds_at o (is_of_board board) ≡ false
    of None e = refl
    of (Some t) e = numbered_other board t.board e

-- ---- one thing more

standing_more : (t : Tables ℕ ℕ) (last : ℕ) (x : Thing ℕ ℕ) → AreTables t last → is_some (board_at t x.board) ≡ true → (board : ℕ) → is_some (board_at t board) ≡ list_any (is_of_board board) (t.things ++ x ∷ [])
standing_more t last x are stands board = by_board ∙ sym (any_more (is_of_board board) t.things x)
  where
    by_board : is_some (board_at t board) ≡ (list_any (is_of_board board) t.things || (x.board == board))
    by_board = elim (x.board == board) as (λ b. (x.board == board) ≡ b → is_some (board_at t board) ≡ (list_any (is_of_board board) t.things || b)) [
      | true ↦ λ h. let same : x.board ≡ board = grind (arith, h) in subst (λ n. is_some (board_at t n) ≡ true) same stands ∙ sym (or_true (list_any (is_of_board board) t.things))
      | false ↦ λ h. are.standing board ∙ sym (or_false (list_any (is_of_board board) t.things))
    ] refl

-- one thing of a board that stands, without a port of its own
pub tables_more_thing : (t : Tables ℕ ℕ) (last : ℕ) (x : Thing ℕ ℕ) → AreTables t last → x.name ≡ last + 1 → is_some (board_at t x.board) ≡ true
    → drawn_port x.kind ≡ None → port_of x.kind ≤ t.last_port → HasEntry t.boards x → KeepsLimits t.boards (t.things ++ x ∷ []) x.board → WritesAlone t.things x → AreTables (with_thing t x) (last + 1)
tables_more_thing t last x are named stands none port entry room alone = record {
  boards = are.boards;
  names = are.names;
  things = drawn_more thing_number is_thing (λ n y. refl) last t.things x are.things named;
  ports = subst (AreDrawn port_number is_port t.last_port) (sym (ports_more t.things x ∙ ap (λ o. ports_of t.things ++ cons_option o []) none ∙ append-nil (ports_of t.things))) are.ports;
  handles = all_more (HasPort t.last_port) t.things x are.handles port;
  entries = all_more (HasEntry t.boards) t.things x are.entries entry;
  standing = λ board. standing_more t last x are stands board;
  limits = limits_more t.boards t.things x are.limits room;
  writers = writers_more t.things x are.writers alone;
  apart = are.apart;
  placed = are.placed;
  keyed = are.keyed;
}

-- one thing with the next port
pub tables_more_port : (t : Tables ℕ ℕ) (last : ℕ) (x : Thing ℕ ℕ) → AreTables t last → x.name ≡ last + 1 → is_some (board_at t x.board) ≡ true
    → drawn_port x.kind ≡ Some (t.last_port + 1) → port_of x.kind ≡ t.last_port + 1 → HasEntry t.boards x → KeepsLimits t.boards (t.things ++ x ∷ []) x.board → WritesAlone t.things x
    → AreTables (with_thing (record t { last_port = t.last_port + 1 }) x) (last + 1)
tables_more_port t last x are named stands drawn port entry room alone = record {
  boards = are.boards;
  names = are.names;
  things = drawn_more thing_number is_thing (λ n y. refl) last t.things x are.things named;
  ports = subst (AreDrawn port_number is_port (t.last_port + 1)) (sym (ports_more t.things x ∙ ap (λ o. ports_of t.things ++ cons_option o []) drawn))
      (drawn_more port_number is_port (λ n y. refl) t.last_port (ports_of t.things) (t.last_port + 1) are.ports refl);
  handles = all_more (HasPort (t.last_port + 1)) t.things x (handles_raised t.last_port (t.last_port + 1) t.things (omega arith) are.handles) (omega (arith, port));
  entries = all_more (HasEntry t.boards) t.things x are.entries entry;
  standing = λ board. standing_more t last x are stands board;
  limits = limits_more t.boards t.things x are.limits room;
  writers = writers_more t.things x are.writers alone;
  apart = are.apart;
  placed = are.placed;
  keyed = are.keyed;
}

-- ---- one board more, with a factory of it

pub tables_more_board : (t : Tables ℕ ℕ) (last : ℕ) (b : Board) (x : Thing ℕ ℕ) → AreTables t last → b.number ≡ t.last_board + 1 → x.name ≡ last + 1 → x.board ≡ t.last_board + 1
    → x.kind ≡ kind.Factory → 1 ≤ b.max_nodes → list_any (has_name b.name) t.boards ≡ false → IsLaid b
    → AreTables (record { boards = t.boards ++ b ∷ []; things = t.things ++ x ∷ []; last_board = t.last_board + 1; last_port = t.last_port }) (last + 1)
tables_more_board t last b x are numbered named of factory least called laid = record {
  boards = drawn_more board_number is_numbered (λ n y. refl) t.last_board t.boards b are.boards numbered;
  names = names_more t.boards b are.names called;
  things = drawn_more thing_number is_thing (λ n y. refl) last t.things x are.things named;
  ports = subst (AreDrawn port_number is_port t.last_port) (sym (ports_more t.things x ∙ ap (λ o. ports_of t.things ++ cons_option o []) none ∙ append-nil (ports_of t.things))) are.ports;
  handles = all_more (HasPort t.last_port) t.things x are.handles (omega (arith, port));
  entries = all_more (HasEntry (t.boards ++ b ∷ [])) t.things x (entries_more_boards t.boards (b ∷ []) t.things are.entries) entry;
  standing = λ board. by_board board ∙ sym (any_more (is_of_board board) t.things x);
  limits = limits_more_board t.boards t.things b x are.limits free (sym (are.standing b.number) ∙ ap (λ (o : Option Board). is_some o) free) (of ∙ sym numbered) factory least;
  writers = writers_more t.things x are.writers alone;
  apart = λ n. apart_in (find (is_numbered n) (t.boards ++ b ∷ [])) (all n);
  placed = λ n. placed_in (find (is_numbered n) (t.boards ++ b ∷ [])) (all n);
  keyed = λ n. keyed_in (find (is_numbered n) (t.boards ++ b ∷ [])) (all n);
}
  where
    all : EachLaid (t.boards ++ b ∷ [])
    all = laid_more t.boards b (are_laid t last are) laid

    none : drawn_port x.kind ≡ None
    none = ap drawn_port factory

    port : port_of x.kind ≡ 0
    port = ap port_of factory

    entry : HasEntry (t.boards ++ b ∷ []) x
    entry = subst (λ (o : Option ℕ). IfSome o (λ e. e < entry_count (find (is_numbered x.board) (t.boards ++ b ∷ [])))) (sym (ap handle_entry factory)) tt

    alone : WritesAlone t.things x
    alone = subst (λ (o : Option ℕ). IfSome o (λ e. list_any (is_write_handle x.board e) t.things ≡ false)) (sym (ap written_entry factory)) tt

    free : find (is_numbered b.number) t.boards ≡ None
    free = none_above board_number is_numbered (λ n y. refl) t.last_board b.number t.boards are.boards (omega (arith, numbered))

    by_board : (board : ℕ) → is_some (find (is_numbered board) (t.boards ++ b ∷ [])) ≡ (list_any (is_of_board board) t.things || (x.board == board))
    by_board board = elim (x.board == board) as (λ c. (x.board == board) ≡ c → is_some (find (is_numbered board) (t.boards ++ b ∷ [])) ≡ (list_any (is_of_board board) t.things || c)) [
      | true ↦ λ h.
          let same : board ≡ t.last_board + 1 = grind (arith, h, of) in
          let none = none_above board_number is_numbered (λ n y. refl) t.last_board board t.boards are.boards (omega (arith, same)) in
          ap (λ (o : Option Board). is_some o) (find-push board_number is_numbered (λ n y. refl) board t.boards b (same ∙ sym numbered) none) ∙ sym (or_true (list_any (is_of_board board) t.things))
      | false ↦ λ h.
          let other : board ≢ b.number = λ e. (let c : (x.board == board) ≡ true = grind (arith, e, numbered, of) in absurd cc) in
          ap (λ (o : Option Board). is_some o) (find-push-other board_number is_numbered (λ n y. refl) board t.boards b other) ∙ are.standing board ∙ sym (or_false (list_any (is_of_board board) t.things))
    ] refl

-- ---- one thing less

-- another thing of its board stands
pub tables_less_thing : (t : Tables ℕ ℕ) (last n : ℕ) → AreTables t last → is_some (find (is_thing n) t.things) ≡ true
    → list_any (is_of_board (thing_numbered n t.things).board) (without_first (is_thing n) t.things) ≡ true
    → AreTables (record t { things = without_first (is_thing n) t.things }) last
tables_less_thing t last n are some kept = record {
  boards = are.boards;
  names = are.names;
  things = drawn_without thing_number is_thing (is_thing n) last t.things are.things;
  ports = ports_without (is_thing n) t.last_port t.things are.ports;
  handles = all_without (HasPort t.last_port) (is_thing n) t.things are.handles;
  entries = all_without (HasEntry t.boards) (is_thing n) t.things are.entries;
  limits = limits_less t.boards t.things (is_thing n) are.limits;
  writers = writers_less t.things (is_thing n) are.writers;
  apart = are.apart;
  placed = are.placed;
  keyed = are.keyed;
  standing = λ board.
      let of = (thing_numbered n t.things).board in
      elim (board == of) as (λ c. (board == of) ≡ c → is_some (board_at t board) ≡ list_any (is_of_board board) (without_first (is_thing n) t.things)) [
        | true ↦ λ h.
            let same : of ≡ board = grind (arith, h) in
            subst (λ m. is_some (board_at t m) ≡ list_any (is_of_board m) (without_first (is_thing n) t.things)) same (board_stands t last n are some ∙ sym kept)
        | false ↦ λ h.
            let other : board ≢ of = λ e. (let c : (board == of) ≡ true = grind (arith, e) in absurd cc) in
            are.standing board ∙ sym (any_without (is_of_board board) (is_thing n) t.things (found_of_other n board t.things other))
      ] refl;
}

-- the last thing of its board, which goes with it
pub tables_less_board : (t : Tables ℕ ℕ) (last n : ℕ) → AreTables t last
    → list_any (is_of_board (thing_numbered n t.things).board) (without_first (is_thing n) t.things) ≡ false
    → AreTables (record t { boards = without_first (is_numbered (thing_numbered n t.things).board) t.boards; things = without_first (is_thing n) t.things }) last
tables_less_board t last n are gone = record {
  boards = drawn_without board_number is_numbered (is_numbered (thing_numbered n t.things).board) t.last_board t.boards are.boards;
  names = names_less t.boards (is_numbered (thing_numbered n t.things).board) are.names;
  things = drawn_without thing_number is_thing (is_thing n) last t.things are.things;
  ports = ports_without (is_thing n) t.last_port t.things are.ports;
  handles = all_without (HasPort t.last_port) (is_thing n) t.things are.handles;
  entries = entries_less_board (thing_numbered n t.things).board t.boards (without_first (is_thing n) t.things) gone (all_without (HasEntry t.boards) (is_thing n) t.things are.entries);
  writers = writers_less t.things (is_thing n) are.writers;
  apart = λ m. apart_in (find (is_numbered m) (without_first (is_numbered (thing_numbered n t.things).board) t.boards)) (all m);
  placed = λ m. placed_in (find (is_numbered m) (without_first (is_numbered (thing_numbered n t.things).board) t.boards)) (all m);
  keyed = λ m. keyed_in (find (is_numbered m) (without_first (is_numbered (thing_numbered n t.things).board) t.boards)) (all m);
  limits = limits_less_board t.boards (without_first (is_thing n) t.things) (thing_numbered n t.things).board (limits_less t.boards t.things (is_thing n) are.limits) none;
  standing = λ board.
      let of = (thing_numbered n t.things).board in
      elim (board == of) as (λ c. (board == of) ≡ c → is_some (find (is_numbered board) (without_first (is_numbered of) t.boards)) ≡ list_any (is_of_board board) (without_first (is_thing n) t.things)) [
        | true ↦ λ h.
            let same : of ≡ board = grind (arith, h) in
            subst (λ m. is_some (find (is_numbered m) (without_first (is_numbered of) t.boards)) ≡ list_any (is_of_board m) (without_first (is_thing n) t.things)) same
            (ap (λ (o : Option Board). is_some o) (find-without board_number is_numbered (λ m y. refl) t.last_board of t.boards are.boards) ∙ sym gone)
        | false ↦ λ h.
            let other : board ≢ of = λ e. (let c : (board == of) ≡ true = grind (arith, e) in absurd cc) in
            ap (λ (o : Option Board). is_some o) (find-without-other board_number is_numbered (λ m y. refl) of board t.boards other)
            ∙ are.standing board ∙ sym (any_without (is_of_board board) (is_thing n) t.things (found_of_other n board t.things other))
      ] refl;
}
  where
    none : find (is_numbered (thing_numbered n t.things).board) (without_first (is_numbered (thing_numbered n t.things).board) t.boards) ≡ None
    none = find-without board_number is_numbered (λ m y. refl) t.last_board (thing_numbered n t.things).board t.boards are.boards

    all : EachLaid (without_first (is_numbered (thing_numbered n t.things).board) t.boards)
    all = laid_less t.boards (thing_numbered n t.things).board (are_laid t last are) none
