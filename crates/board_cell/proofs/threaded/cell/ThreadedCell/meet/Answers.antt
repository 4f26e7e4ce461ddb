use Rattle.std.proofs.Common.{◌≡◌, ℕ, List, length, sym, ap, ◌∙◌, subst, arith}
use Rattle.std.specs.List.{All}
use Rattle.board_cell.specs.Passes.{Stands}
use Rattle.board_cell.specs.Views.{reader_of, writer_of, newcomer, joined_view}
use Rattle.board_cell.specs.declared.threaded.view.Note.{Note}
use Rattle.board_cell.specs.declared.threaded.view.View.TheVariants.{Reader, Writer}
use Rattle.board_cell.proofs.SeatSteps.{splitting, joining_writer_as, reader_named, all_behind}
use Rattle.board_cell.proofs.WriterSteps.{looking}
use Rattle.board_cell.proofs.threaded.cell.ThreadedCell.meet.Goals as goal

pub split_seat-shown-requires : goal.split_seat-shown-requires
split_seat-shown-requires c = let wide = c.self.invariant.0 in
    (ap (λ p. p.cell) c.reader.view_is ∙ (c.requires.cell.1 ∙ sym (ap (λ v. v.cell) c.self.view_is)), omega arith, splitting _ _ _)

pub join_seat-requires : goal.join_seat-requires
join_seat-requires c = let wide = c.self.invariant.0 in let own = sym (ap (λ v. v.cell) c.self.view_is) in
    let s = c.split_seat-shown.ensures in let shown : c.split_seat-shown.result.me.0 ≡ newcomer (Reader (reader_of c.reader.inside.seat.me.0)) = ap (λ m. m.0) s.4 ∙ ap newcomer c.reader.invariant.0 in
    (ap (λ p. p.cell) c.writer.view_is ∙ (c.requires.cell.0 ∙ own), s.3 ∙ (ap (λ p. p.cell) c.reader.view_is ∙ (c.requires.cell.1 ∙ own)), ap (λ m. m.1) s.4, omega arith, joining_writer_as _ _ _ _ _ c.writer.invariant.0 (reader_named _ _ shown))

pub load-requires : goal.load-requires
load-requires c = let wide = c.self.invariant.0 in let own = sym (ap (λ v. v.cell) c.self.view_is) in
    let s = c.split_seat-shown.ensures in let shown : c.split_seat-shown.result.me.0 ≡ newcomer (Reader (reader_of c.reader.inside.seat.me.0)) = ap (λ m. m.0) s.4 ∙ ap newcomer c.reader.invariant.0 in
    let j = c.join_seat.ensures in let now : c.join_seat.new.seat.me.0 ≡ joined_view (Writer (writer_of c.writer.inside.seat.me.0)) (newcomer (Reader (reader_of c.reader.inside.seat.me.0))) = ap (λ m. m.0) j.2 ∙ (λ i. joined_view (c.writer.invariant.0 i) (shown i)) in
    (j.0 ∙ (ap (λ p. p.cell) c.writer.view_is ∙ (c.requires.cell.0 ∙ own)), omega arith, looking _ _ _ _ _ now)

pub returns-clause-notes : goal.returns-clause-notes
returns-clause-notes c =
    let s = c.split_seat-shown.ensures in let shown : c.split_seat-shown.result.me.0 ≡ newcomer (Reader (reader_of c.reader.inside.seat.me.0)) = ap (λ m. m.0) s.4 ∙ ap newcomer c.reader.invariant.0 in
    let j = c.join_seat.ensures in let now : c.join_seat.new.seat.me.0 ≡ joined_view (Writer (writer_of c.writer.inside.seat.me.0)) (newcomer (Reader (reader_of c.reader.inside.seat.me.0))) = ap (λ m. m.0) j.2 ∙ (λ i. joined_view (c.writer.invariant.0 i) (shown i)) in
    let x = writer_of c.writer.inside.seat.me.0 in let y = reader_of c.reader.inside.seat.me.0 in
    let reached = c.load.ensures.2.1 _ now in
    subst (λ (z : List (List ℕ) × List Note). All (Stands z.0) z.1) (λ i. (ap (λ p. p.published) c.writer.view_is i, ap (λ p. p.notes) c.reader.view_is i)) (all_behind (Stands x.published) x.copies y.notes reached.0)

pub returns-clause-reached : goal.returns-clause-reached
returns-clause-reached c =
    let s = c.split_seat-shown.ensures in let shown : c.split_seat-shown.result.me.0 ≡ newcomer (Reader (reader_of c.reader.inside.seat.me.0)) = ap (λ m. m.0) s.4 ∙ ap newcomer c.reader.invariant.0 in
    let j = c.join_seat.ensures in let now : c.join_seat.new.seat.me.0 ≡ joined_view (Writer (writer_of c.writer.inside.seat.me.0)) (newcomer (Reader (reader_of c.reader.inside.seat.me.0))) = ap (λ m. m.0) j.2 ∙ (λ i. joined_view (c.writer.invariant.0 i) (shown i)) in
    let reached = (c.load.ensures.2.1 _ now).1 in
    let a = ap (λ p. length p.published) c.writer.view_is in let b = ap (λ p. p.reached) c.reader.view_is in
    omega arith
