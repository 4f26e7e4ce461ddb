use Rattle.std.proofs.Common.{◌≡◌, ◌∙◌, ℕ, zero, suc, true, List, [], ◌∷◌, length, Option, Some, None, refl, sym, ap, rules}
use Rattle.std.specs.Prelude.{◌==◌, is_some, option_map, slice_get}
use Rattle.std.proofs.lemmas.Option.{slice_get_read}
use Rattle.std.proofs.lemmas.Bool.Decides.{Decides-eqb}
use Rattle.board_model.specs.declared.tables.Board.{Board}
use Rattle.board_model.specs.declared.tables.Entry.{Entry}
use Rattle.board_model.specs.Tables.{board_at, entry_in}
use Rattle.board_service.specs.Suiting.{SuitBoard}
use Rattle.board_cells.specs.Cells.{AreFor, PlaceSeen, has_cell}
use Rattle.board_port_tests.proofs.cells.lent.has_entry.Goals as goal

is_same : (n : ℕ) → (n == n) ≡ true
is_same n = (Decides-eqb n n).1 refl

-- the entry at a place has its cell
has_place : (es : List Entry) (ps : List PlaceSeen) (i : ℕ) (e : Entry) → AreFor es ps → slice_get es i ≡ Some e → has_cell ps i e.cell.words ≡ true
has_place [] ps i e h is = absurd cc
has_place (x ∷ es) [] i e h is = absurd h
has_place (x ∷ es) (p ∷ ps) zero e h is = let same : x ≡ e = cc in ap (λ (n : ℕ). n == e.cell.words) (h.0 ∙ ap (λ (y : Entry). y.cell.words) same) ∙ is_same e.cell.words
has_place (x ∷ es) (p ∷ ps) (suc i) e h is = has_place es ps i e h.1 is

-- so cells that suit a board tell whether it has an entry
tells_entry : (b : Option Board) (es : List Entry) (ps : List PlaceSeen) (i : ℕ) (e : Entry) → Some es ≡ option_map (λ (x : Board). x.entries) b → SuitBoard AreFor b (Some ps)
    → slice_get es i ≡ Some e → has_cell ps i e.cell.words ≡ is_some (entry_in b i)
tells_entry None es ps i e is h at = absurd cc
tells_entry (Some b) es ps i e is h at =
    let same : b.entries ≡ es = cc in
    let there : slice_get b.entries i ≡ Some e = ap (λ (xs : List Entry). slice_get xs i) same ∙ at in
    has_place b.entries ps i e h there ∙ ap (λ (o : Option Entry). is_some o) (sym there)

pub returns-in-Some-cells : goal.returns-in-Some-cells
returns-in-Some-cells c =
    let there : slice_get c.in-Some.entries.now c.args.entry ≡ Some c.in-Some-get.found.now =
    slice_get_read c.in-Some.entries.now (length c.in-Some.entries.now) c.args.entry c.in-Some-get.found.now refl c.in-Some-get.ensures.lookup.3.0 c.in-Some-get.ensures.lookup.1 in
    let told : Some c.in-Some.entries.now ≡ option_map (λ (x : Board). x.entries) (board_at c.args.core.now.tables c.args.board) = search rules in
    let suit : SuitBoard AreFor (board_at c.args.core.now.tables c.args.board) (Some c.in-Some-cells.cells.now) = search rules in
    c.has_cell.ensures ∙ ap (λ (e : Entry). has_cell c.in-Some-cells.cells.now c.args.entry e.cell.words) c.found.view_is
    ∙ tells_entry (board_at c.args.core.now.tables c.args.board) c.in-Some.entries.now c.in-Some-cells.cells.now c.args.entry c.in-Some-get.found.now told suit there
