use Rattle.std.proofs.Common.{rules, ◌∙◌, ap}
use Rattle.std.specs.Prelude.{nat_le}
use Rattle.board_model.specs.Tables as tables
use Rattle.board_numbered.specs.Standing.{standing, under}
use Rattle.board_things.proofs.Counts.{any_count}
use Rattle.board_things.proofs.things.Things.has_write_handle.Goals as goal

pub returns : goal.returns
returns c =
    let told = ap (λ n. nat_le 1 n) (c.count_at.ensures ∙ c.self.invariant.4 c.args.board c.args.entry) ∙ any_count (tables.is_write_handle c.args.board c.args.entry) (standing (under c.self.inside.items) c.self.inside.last) in
    search (rules, told)
