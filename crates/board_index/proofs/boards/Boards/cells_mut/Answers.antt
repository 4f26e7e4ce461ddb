use Rattle.std.proofs.Common.{◌∙◌, refl, sym, ap}
use borrow.Follows.Closed.{read_of}
use Rattle.std.specs.Option.{ghost_name_of}
use Rattle.std.specs.Prelude.{find, is_some}
use Rattle.board_model.specs.Tables.{is_numbered}
use Rattle.board_index.specs.Boards.{Rows, cells_in, with_cells_in}
use Rattle.board_numbered.specs.Standing.{under}
use Rattle.board_index.proofs.Indexed.{found_cells, found_numbered, indexed_same, map_some, same_loan, seen_unwritten, seen_written, written_stands}
use Rattle.board_index.proofs.boards.Boards.cells_mut.Goals as goal

pub invariant_of-self-lent : goal.invariant_of-self-lent
invariant_of-self-lent g c = λ lent. (
  λ w. indexed_same c.self.invariant (λ n. refl) (λ n. written_stands c.args.number c.self.inside.cells (c.get_mut.follows.lender w) w (c.get_mut.follows.holds w) n) (λ t. refl),
  indexed_same c.self.invariant (λ n. refl) (λ n. ap (λ m. is_some (under m n)) c.get_mut.follows.holds-at-none) (λ t. refl),
)

pub returns : goal.returns
returns g c =
    let s = c.self.inside in
    let f = c.get_mut.follows in
    let number = c.args.number in (
      same_loan (λ n F v. read_of n F v) (ghost_name_of c.get_mut.result)
          (λ w. seen_written s.rows s.cells (f.lender w) s.names s.last number c.self.invariant w (f.holds w) ∙ ap (λ (d : Rows g.row.C.Denot). with_cells_in d number w) c.self.view_is)
          (seen_unwritten s.rows s.cells f.lender-at-none s.names s.last number c.self.invariant f.holds-at-none ∙ c.self.view_is),
      record {
        lends = tt;
        value = c.get_mut.ensures.value ∙ sym (found_cells c.self.invariant number) ∙ ap (λ (d : Rows g.row.C.Denot). cells_in d number) c.self.view_is;
        stands = sym (map_some (λ x. x.now) c.get_mut.result) ∙ ap is_some c.get_mut.ensures.value ∙ c.self.invariant.beside number ∙ sym (ap is_some (found_numbered c.self.invariant number))
            ∙ ap (λ (d : Rows g.row.C.Denot). is_some (find (is_numbered number) d.boards)) c.self.view_is;
      },
    )
