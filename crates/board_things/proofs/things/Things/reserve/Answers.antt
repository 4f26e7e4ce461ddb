use Rattle.std.proofs.Common.{◌∙◌, ℕ, List, ap, sym, subst}
use Rattle.board_model.specs.Tables.{is_held_by, is_of_port, is_write_handle}
use Rattle.board_model.specs.declared.tables.Thing.{Thing}
use Rattle.std.specs.Prelude.{nat_eq}
use Rattle.board_numbered.specs.Standing.{standing, under}
use Rattle.board_numbered.proofs.Standing.{standing_same}
use Rattle.board_things.specs.Kept.{AreHeld, ArePorts, AreUses, AreWritten}
use Rattle.board_things.specs.Nodes.{AreNodes}
use Rattle.board_things.specs.Things.{Numbered}
use Rattle.board_things.proofs.Counts.{counts_same, uses_same}
use Rattle.board_things.proofs.Numbers.{numbered_same}
use Rattle.board_things.proofs.things.Things.reserve.Goals as goal

pub invariant_of-self-2 : goal.invariant_of-self-2
invariant_of-self-2 c =
    let last = c.self.inside.last in
    let ts = standing (under c.self.inside.items) last in
    let h = c.self.invariant in
    let same = standing_same (under c.self.inside.items) (under c.reserve-6.new.self) last c.reserve-6.ensures.entries.2 in
    let kept : AreUses c.reserve-2.new.self ts × AreHeld c.reserve-3.new.self ts × ArePorts c.reserve-4.new.self ts × AreWritten c.reserve-5.new.self ts × AreNodes c.reserve.new.self.pairs ts = (
      uses_same c.self.inside.uses c.reserve-2.new.self ts h.1 c.reserve-2.ensures.entries.2,
      counts_same (is_held_by nat_eq) c.self.inside.held c.reserve-3.new.self ts h.2 c.reserve-3.ensures.entries.2,
      counts_same is_of_port c.self.inside.ports c.reserve-4.new.self ts h.3 c.reserve-4.ensures.entries.2,
      counts_same is_write_handle c.self.inside.written c.reserve-5.new.self ts h.4 c.reserve-5.ensures.entries.2,
      subst (λ (ps : List (ℕ × ℕ)). AreNodes ps ts) (sym c.reserve.ensures.pairs) h.5,
    ) in
    let all = subst (λ (xs : List (Thing ℕ ℕ)). AreUses c.reserve-2.new.self xs × AreHeld c.reserve-3.new.self xs × ArePorts c.reserve-4.new.self xs × AreWritten c.reserve-5.new.self xs × AreNodes c.reserve.new.self.pairs xs) (sym same) kept in
    (numbered_same h.0 c.reserve-6.ensures.entries.2, all.0, all.1, all.2, all.3, all.4)

pub invariant_of-self-in_err-reserve-4 : goal.invariant_of-self-in_err-reserve-4
invariant_of-self-in_err-reserve-4 c =
    let ts = standing (under c.self.inside.items) c.self.inside.last in
    let h = c.self.invariant in (
      h.0,
      uses_same c.self.inside.uses c.reserve-2.new.self ts h.1 c.reserve-2.ensures.entries.2,
      counts_same (is_held_by nat_eq) c.self.inside.held c.reserve-3.new.self ts h.2 c.reserve-3.ensures.entries.2,
      counts_same is_of_port c.self.inside.ports c.reserve-4.new.self ts h.3 c.reserve-4.ensures.entries.2,
      h.4,
      subst (λ (ps : List (ℕ × ℕ)). AreNodes ps ts) (sym c.reserve.ensures.pairs) h.5,
    )

pub invariant_of-self-in_err-reserve-5 : goal.invariant_of-self-in_err-reserve-5
invariant_of-self-in_err-reserve-5 c =
    let ts = standing (under c.self.inside.items) c.self.inside.last in
    let h = c.self.invariant in (
      h.0,
      uses_same c.self.inside.uses c.reserve-2.new.self ts h.1 c.reserve-2.ensures.entries.2,
      counts_same (is_held_by nat_eq) c.self.inside.held c.reserve-3.new.self ts h.2 c.reserve-3.ensures.entries.2,
      counts_same is_of_port c.self.inside.ports c.reserve-4.new.self ts h.3 c.reserve-4.ensures.entries.2,
      counts_same is_write_handle c.self.inside.written c.reserve-5.new.self ts h.4 c.reserve-5.ensures.entries.2,
      subst (λ (ps : List (ℕ × ℕ)). AreNodes ps ts) (sym c.reserve.ensures.pairs) h.5,
    )

pub returns-clause-things : goal.returns-clause-things
returns-clause-things c =
    standing_same (under c.self.inside.items) (under c.reserve-6.new.self) c.self.inside.last c.reserve-6.ensures.entries.2 ∙ ap (λ (d : Numbered). d.things) c.self.view_is
