-- Each call leaves every other thing as it was, with its board and the cells of that.
use Rattle.std.proofs.Common.{◌≡◌, ◌≢◌, ℕ, Bool, true, false, cond, ◌++◌, List, [], ◌∷◌, Option, Some, None, refl, sym, ap, ◌∙◌, subst, ⊎_elim}
use Rattle.std.specs.Prelude.{find, is_some, if◌then◌else◌}
use Rattle.board_layout.specs.declared.type_detail.TypeDetail.{TypeDetail}
use Rattle.board_model.specs.declared.tables.Thing.{Thing}
use Rattle.board_model.specs.declared.tables.ThingKind.{ThingKind}
use Rattle.board_model.specs.declared.tables.ThingKind.TheVariants.{WriteHandle}
use Rattle.board_model.specs.Tables.{board_at, is_numbered}
use Rattle.board_model.specs.TableCalls.{place_of}
use Rattle.board_service.specs.Domain.{Stands, after_open, after_reader, after_writer, after_release, cells_of, held, is_thing, stands_as, thing_or_none}
use Rattle.board_service.specs.Facts.{AreTables, IsDomain, thing_number}
use Rattle.board_service.proofs.DrawnLemmas.{find-without-other}
use Rattle.board_service.proofs.TableLemmas.{board_stands}
use Rattle.board_cells.specs.Cells.{PlaceSeen, EndSeen, with_end, without_end}
use Rattle.board_handles.specs.BoardEnds.{Core, cell_in, cell_of, parked, parked_to, taken, taken_from}
use Rattle.board_handles.specs.Handles.{WriteSeen}
use Rattle.board_handles.specs.LentForms as lent
use Rattle.board_domain.specs.LentForms as boards
use Rattle.board_typed.specs.Laws.{KeepsOthers}
use Rattle.board_typed.proofs.Changed.{cell_changed}
use Rattle.board_typed.proofs.Left.{Goes, Stays, each}
use Rattle.board_typed.proofs.Made.{board_was, cells_were, found-push}
use Rattle.board_typed.proofs.Places.{cell_with, cell_without}

-- what was found is found with one more behind
pub found_before : {A : Type 0} (p : A → Bool) (xs : List A) (x : A) → is_some (find p xs) ≡ true → find p (xs ++ x ∷ []) ≡ find p xs
found_before p xs x e = found-push p xs x ∙ ap (λ b. cond b (find p xs) (cond (p x) (Some x) None)) e

-- one thing more, with the same boards and cells
pub more_keeps : (gone : ℕ) (d e : Core) (x : Thing ℕ ℕ) → e.tables.boards ≡ d.tables.boards → ((b i : ℕ) → cell_of e b i ≡ cell_of d b i) → e.tables.things ≡ d.tables.things ++ x ∷ [] → KeepsOthers gone d e
more_keeps gone d e x same_boards cells things = record {
  things = λ n ne stands. ap (find (is_thing n)) things ∙ found_before (is_thing n) d.tables.things x stands;
  boards = λ n ne stands. ap (find (is_numbered (held d n).board)) same_boards;
  cells = λ n i ne stands. cells (held d n).board i;
}

pub open_keeps : (gone : ℕ) (d : Core) (node : ℕ) (name : List ℕ) → KeepsOthers gone d (after_open d node name)
open_keeps gone d node name = more_keeps gone d (after_open d node name) _ refl (λ b i. refl) refl

pub reader_keeps : (gone : ℕ) (d : Core) (of : Thing ℕ ℕ) → KeepsOthers gone d (after_reader d of)
reader_keeps gone d of = more_keeps gone d (after_reader d of) _ refl (λ b i. refl) refl

pub writer_keeps : (gone : ℕ) (d : Core) (of : Thing ℕ ℕ) → KeepsOthers gone d (after_writer d of)
writer_keeps gone d of = more_keeps gone d (after_writer d of) _ refl (λ b i. refl) refl

pub entry_keeps : (gone : ℕ) (d : Core) (a : lent.Asked) (reader : ℕ) → KeepsOthers gone d (lent.with_read d a reader)
entry_keeps gone d a reader = more_keeps gone d (lent.with_read d a reader) _ refl (λ b i. refl) refl

-- ---- an end that is taken or parked

-- other things are as they were where they are the same, and so are boards and cells
same_keeps : (gone : ℕ) (d m e : Core) → KeepsOthers gone d m → e.tables ≡ m.tables → ((b i : ℕ) → cell_of e b i ≡ cell_of m b i) → KeepsOthers gone d e
same_keeps gone d m e k tables cells = record {
  things = λ n ne stands. ap (λ t. find (is_thing n) t.things) tables ∙ k.things n ne stands;
  boards = λ n ne stands. ap (λ t. board_at t (held d n).board) tables ∙ k.boards n ne stands;
  cells = λ n i ne stands. cells (held d n).board i ∙ k.cells n i ne stands;
}

pub taken_same : (m : Core) (board entry : ℕ) → ((taken m board entry).tables ≡ m.tables) × ((b i : ℕ) → cell_of (taken m board entry) b i ≡ cell_of m b i) × ((taken m board entry).last_thing ≡ m.last_thing)
taken_same m board entry = by (cells_of m board) refl
  where
    by : (c : Option (List PlaceSeen)) → cells_of m board ≡ c → ((taken_from m board c entry).tables ≡ m.tables) × ((b i : ℕ) → cell_of (taken_from m board c entry) b i ≡ cell_of m b i) × ((taken_from m board c entry).last_thing ≡ m.last_thing)
    by None e = (refl, (λ b i. refl), refl)
    by (Some ps) e = (refl, cell_changed m board ps (without_end ps entry) e (cell_without ps entry), refl)

pub parked_same : (m : Core) (board entry : ℕ) (end : EndSeen) → ((parked m board entry end).tables ≡ m.tables) × ((b i : ℕ) → cell_of (parked m board entry end) b i ≡ cell_of m b i) × ((parked m board entry end).last_thing ≡ m.last_thing)
parked_same m board entry end = by (cells_of m board) refl
  where
    by : (c : Option (List PlaceSeen)) → cells_of m board ≡ c → ((parked_to m board c entry end).tables ≡ m.tables) × ((b i : ℕ) → cell_of (parked_to m board c entry end) b i ≡ cell_of m b i) × ((parked_to m board c entry end).last_thing ≡ m.last_thing)
    by None e = (refl, (λ b i. refl), refl)
    by (Some ps) e = (refl, cell_changed m board ps (with_end ps entry end) e (cell_with end ps entry), refl)

pub entry_mut_keeps : (gone : ℕ) (d : Core) (a : lent.Asked) (writer : ℕ) → KeepsOthers gone d (lent.with_write_taken d a writer)
entry_mut_keeps gone d a writer =
    let same = taken_same (lent.with_write d a writer) (held d writer).board (place_of (lent.entry_for d a writer)) in
    same_keeps gone d (lent.with_write d a writer) (lent.with_write_taken d a writer) (more_keeps gone d (lent.with_write d a writer) _ refl (λ b i. refl) refl) same.0 same.1

-- ---- create

pub create_keeps : (gone : ℕ) (b : boards.NewBoard) (d t : Core) → IsDomain d → boards.IsMade b d t → KeepsOthers gone d t
create_keeps gone b d t facts is = subst (KeepsOthers gone d) (sym is.2) record {
  things = λ n ne stands. found_before (is_thing n) d.tables.things _ stands;
  boards = λ n ne stands. board_was b d is.0 (held d n).board (board_stands d.tables d.last_thing n facts.tables stands);
  cells = λ n i ne stands. ap (λ c. cell_in c i) (cells_were b d is.0 facts (held d n).board (board_stands d.tables d.last_thing n facts.tables stands));
}

-- ---- release

pub left_keeps : (d : Core) (thing board : ℕ) → IsDomain d → AreTables (after_release d thing board).tables (after_release d thing board).last_thing → KeepsOthers thing d (after_release d thing board)
left_keeps d thing board facts after = record {
  things = λ n ne stands. found_left n ne;
  boards = λ n ne stands. (stays n ne stands).0;
  cells = λ n i ne stands. ap (λ c. cell_in c i) (stays n ne stands).1;
}
  where
    found_left : (n : ℕ) → n ≢ thing → find (is_thing n) (after_release d thing board).tables.things ≡ find (is_thing n) d.tables.things
    found_left n ne = find-without-other thing_number is_thing (λ m y. refl) thing n d.tables.things ne

    stays : (n : ℕ) → n ≢ thing → Stands d n → Stays d facts thing board (held d n).board
    stays n ne stands = ⊎_elim (λ (s : Stays d facts thing board (held d n).board). s)
        (λ (g : Goes d facts thing board (held d n).board). (
        let there : is_some (board_at (after_release d thing board).tables (held (after_release d thing board) n).board) ≡ true = board_stands (after_release d thing board).tables (after_release d thing board).last_thing n after (ap is_some (found_left n ne) ∙ stands) in
        let same : held (after_release d thing board) n ≡ held d n = ap thing_or_none (found_left n ne) in
        let none : false ≡ true = sym (ap is_some g.0) ∙ ap (λ (t : Thing ℕ ℕ). is_some (board_at (after_release d thing board).tables t.board)) (sym same) ∙ there in
        absurd cc
        )) (each d facts thing board (held d n).board)

stayed : (gone : ℕ) (d : Core) → KeepsOthers gone d d
stayed gone d = record { things = λ n ne stands. refl; boards = λ n ne stands. refl; cells = λ n i ne stands. refl }

pub release_keeps : (d : Core) (keys : TypeDetail) (thing : ℕ) (kind : ThingKind) → IsDomain d → IsDomain (lent.given_up d keys thing kind) → KeepsOthers thing d (lent.given_up d keys thing kind)
release_keeps d keys thing kind facts after = by (stands_as d keys thing kind) after
  where
    by : (s : Bool) → IsDomain (if s then lent.without_thing d thing else d) → KeepsOthers thing d (if s then lent.without_thing d thing else d)
    by true left = left_keeps d thing (held d thing).board facts left.tables
    by false left = stayed thing d

pub release_mut_keeps : (d : Core) (keys : TypeDetail) (h : WriteSeen) → IsDomain d → IsDomain (lent.write_given_up d keys h) → KeepsOthers h.found.thing d (lent.write_given_up d keys h)
release_mut_keeps d keys h facts after = by (stands_as d keys h.found.thing WriteHandle) after
  where
    by : (s : Bool) → IsDomain (if s then lent.without_writing d h.found.thing h.found.entry h.held else d) → KeepsOthers h.found.thing d (if s then lent.without_writing d h.found.thing h.found.entry h.held else d)
    by true left =
        let same = parked_same (lent.without_thing d h.found.thing) (held d h.found.thing).board h.found.entry h.held in
        let tables : AreTables (lent.without_thing d h.found.thing).tables (lent.without_thing d h.found.thing).last_thing =
        subst (λ n. AreTables (lent.without_thing d h.found.thing).tables n) same.2
        (subst (λ t. AreTables t (lent.without_writing d h.found.thing h.found.entry h.held).last_thing) same.0 left.tables) in
        same_keeps h.found.thing d (lent.without_thing d h.found.thing) (lent.without_writing d h.found.thing h.found.entry h.held)
        (left_keeps d h.found.thing (held d h.found.thing).board facts tables) same.0 same.1
    by false left = stayed h.found.thing d
