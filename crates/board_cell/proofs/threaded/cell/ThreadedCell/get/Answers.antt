use Rattle.std.proofs.Common.{◌≡◌, ℕ, ◌<◌, List, sym, ap, ◌∙◌, subst, arith}
use Rattle.board_cell.specs.Passes.{ReaderSeen, Gets}
use Rattle.board_cell.specs.Views.{reader_of}
use Rattle.board_cell.proofs.Climbs.{got, tried_again, seen}
use Rattle.board_cell.proofs.threaded.cell.ThreadedCell.get.Goals as goal

pub returns-clause-got : goal.returns-clause-got
returns-clause-got g c =
    let first : ℕ = c.open_try-first.result in
    let after : ℕ = c.try_once-after.result in
    let later = c.get_later-generation in
    let begun = ap (λ m. m.0) c.open_try-first.ensures.seat in
    let opened = ap (λ v. (reader_of v).opened) begun in
    let a = c.try_once-after.ensures.again (λ e. c.if-after-first.false (e ∙ opened)) in
    let up = c.try_once-after.ensures.reached.1 in
    let not = c.if-after-first.false in
    let more : first < after = omega arith in
    let words : List ℕ = later.new.out.items in
    let gets = got first later.result words c.pass.inside.seat.table_id later.new.seat.table_id c.pass.inside.seat.me.0 c.open_try-first.new.seat.me.0 later.new.seat.me.0 (later.ensures.cell.0 ∙ (c.try_once-after.ensures.cell ∙ c.open_try-first.ensures.cell)) begun c.open_try-first.ensures.reached (tried_again (reader_of c.open_try-first.new.seat.me.0) c.try_once-after.new.seat.me.0 later.new.seat.me.0 first after later.result words (ap (λ m. m.0) a.0) more later.ensures.ok) in
    let out : c.replace-2.new.dest.items ≡ words = ap (λ v. v.items) c.replace-2.ensures.after in
    let back = sym out in
    subst (λ (z : List ℕ × ReaderSeen). Gets later.result z.0 z.1 (seen later.new.seat.table_id later.new.seat.me.0)) (λ i. (back i, c.pass.view_is i)) gets
