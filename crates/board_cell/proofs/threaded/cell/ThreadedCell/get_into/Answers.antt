use Rattle.std.proofs.Common.{◌≡◌, ℕ, ◌<◌, List, sym, ap, ◌∙◌, subst, arith}
use Rattle.board_cell.specs.Passes.{ReaderSeen, Gets}
use Rattle.board_cell.specs.Views.{reader_of}
use Rattle.board_cell.proofs.Climbs.{got, tried_again, seen}
use Rattle.board_cell.proofs.threaded.cell.ThreadedCell.get_into.Goals as goal

pub returns-clause-got : goal.returns-clause-got
returns-clause-got g c =
    let first : ℕ = c.load_opening-first.result in
    let after : ℕ = c.first_try-after.result in
    let later = c.get_later-generation in
    let begun = ap (λ m. m.0) c.load_opening-first.ensures.seat in
    let not = c.if-after-first.false in
    let again = c.first_try-after.ensures.again not in
    let up = c.first_try-after.ensures.reached.1 in
    let more : first < after = omega arith in
    let words : List ℕ = later.new.out.items in
    let gets = got first later.result words c.pass.inside.seat.table_id later.new.seat.table_id c.pass.inside.seat.me.0 c.load_opening-first.new.seat.me.0 later.new.seat.me.0 (later.ensures.cell.0 ∙ (c.first_try-after.ensures.cell ∙ c.load_opening-first.ensures.cell)) begun c.load_opening-first.ensures.reached (tried_again (reader_of c.load_opening-first.new.seat.me.0) c.first_try-after.new.seat.me.0 later.new.seat.me.0 first after later.result words (ap (λ m. m.0) again) more later.ensures.ok) in
    let out : c.copy_words.new.to ≡ words = cc in
    let back = sym out in
    subst (λ (z : List ℕ × ReaderSeen). Gets later.result z.0 z.1 (seen later.new.seat.table_id later.new.seat.me.0)) (λ i. (back i, c.pass.view_is i)) gets
