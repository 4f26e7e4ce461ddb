use Rattle.std.proofs.Common.{◌≡◌, ◌∙◌, ℕ, List, length, Option, Some, None, refl, sym, ap, rules}
use Rattle.std.specs.Prelude.{◌==◌, option_map, slice_get}
use Rattle.std.proofs.lemmas.Bool.{OnTrue_from, eqb-true}
use Rattle.std.proofs.lemmas.Option.{slice_get_read}
use Rattle.board_model.specs.declared.tables.Board.{Board}
use Rattle.board_model.specs.declared.tables.Entry.{Entry}
use Rattle.board_model.specs.Tables.{Tables, board_at, entry_in}
use Rattle.board_service.proofs.LaidLemmas.{one_place}
use Rattle.board_port_tests.proofs.service.lent.have_one_place.Goals as goal

-- an entry of the list that was told is the board's
entry_told : (b : Option Board) (es : List Entry) (i : ℕ) (e : Entry) → Some es ≡ option_map (λ (x : Board). x.entries) b → slice_get es i ≡ Some e → entry_in b i ≡ Some e
entry_told None es i e told is = absurd cc
entry_told (Some b) es i e told is = let same : b.entries ≡ es = cc in ap (λ (xs : List Entry). slice_get xs i) same ∙ is

pub returns : goal.returns
returns g c = OnTrue_from (c.one.inside.cell.place == c.other.inside.cell.place) (c.args.i ≡ c.args.j) λ same.
    one_place t c.args.core.now.last_thing c.facts.ensures.tables c.args.board c.args.i c.args.j one other
    (entry_told (board_at t c.args.board) es c.args.i one told (slice_get_read es (length es) c.args.i one refl c.in-Some-get.ensures.lookup.3.0 c.in-Some-get.ensures.lookup.1))
    (entry_told (board_at t c.args.board) es c.args.j other told (slice_get_read es (length es) c.args.j other refl c.in-Some-get-2.ensures.lookup.3.0 c.in-Some-get-2.ensures.lookup.1))
    (sym (ap place c.one.view_is) ∙ eqb-true c.one.inside.cell.place c.other.inside.cell.place same ∙ ap place c.other.view_is)
  where
    t : Tables ℕ ℕ
    t = c.args.core.now.tables

    es : List Entry
    es = c.in-Some.entries.now

    one : Entry
    one = c.in-Some-get.one.now

    other : Entry
    other = c.in-Some-get-2.other.now

    place : Entry → ℕ
    place e = e.cell.place

    told : Some es ≡ option_map (λ (x : Board). x.entries) (board_at t c.args.board)
    told = search rules
