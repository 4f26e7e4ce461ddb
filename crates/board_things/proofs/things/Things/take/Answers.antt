use Rattle.std.proofs.Common.{true, ◌≡◌, ◌∙◌, ℕ, List, Option, Some, sym, ap, refl, subst}
use Rattle.std.specs.Prelude.{find, nat_eq, IsSome}
use Rattle.std.proofs.lemmas.Bool.{OnTrue_from}
use Rattle.board_model.specs.Tables.{is_held_by, is_of_port, is_write_handle, without_first, writer_port}
use Rattle.board_model.specs.declared.tables.Thing.{Thing}
use Rattle.board_numbered.specs.Standing.{standing, under}
use Rattle.board_things.specs.Things.{Numbered, is_thing, thing_numbered, thing_or_none}
use Rattle.board_things.specs.Kept.{AreHeld, ArePorts, AreUses, AreWritten, use_at}
use Rattle.board_things.specs.Nodes.{AreNodes}
use Rattle.board_things.proofs.Numbers.{found, numbered_less, taken}
use Rattle.board_things.proofs.Counts.{all_less, counts_less, held_used, none_counted, port_new, port_used, used, written_used}
use Rattle.board_things.proofs.NodeLemmas.{nodes_has, nodes_less}
use Rattle.board_things.proofs.things.Things.take.Goals as goal

pub unreachable-requires : goal.unreachable-requires
unreachable-requires c =
    let stands = subst IsSome (ap (λ (d : Numbered). find (is_thing c.args.number) d.things) (sym c.self.view_is) ∙ found c.self.invariant.0 c.args.number) c.requires in
    let none = subst IsSome (sym c.remove.ensures.value ∙ c.in_default.is) stands in
    absurd cc

pub lower_at-requires : goal.lower_at-requires
lower_at-requires c =
    let p = is_thing c.args.number in
    held_used c.self.inside.held p (standing (under c.self.inside.items) c.self.inside.last) c.in-Some.gone (found c.self.invariant.0 c.args.number ∙ sym c.remove.ensures.value ∙ c.in-Some.is) c.self.invariant.2

pub lower_port-requires : goal.lower_port-requires
lower_port-requires c = λ n.
    let p = is_thing c.args.number in
    port_used c.self.inside.ports p (standing (under c.self.inside.items) c.self.inside.last) c.in-Some.gone n (found c.self.invariant.0 c.args.number ∙ sym c.remove.ensures.value ∙ c.in-Some.is) c.self.invariant.3

pub lower_handle-requires : goal.lower_handle-requires
lower_handle-requires c = λ e.
    let p = is_thing c.args.number in
    written_used c.self.inside.written p (standing (under c.self.inside.items) c.self.inside.last) c.in-Some.gone e (found c.self.invariant.0 c.args.number ∙ sym c.remove.ensures.value ∙ c.in-Some.is) c.self.invariant.4

pub take_last-requires : goal.take_last-requires
take_last-requires c =
    let p = is_thing c.args.number in
    let gone = c.in-Some.gone in
    let nodes = c.self.inside.nodes.pairs in
    record { one = OnTrue_from (nat_eq c.count_at-node.result 0) _ (λ _. nodes_has nodes nodes (standing (under c.self.inside.items) c.self.inside.last) gone true c.self.invariant.5 c.self.invariant.5.order p (found c.self.invariant.0 c.args.number ∙ sym c.remove.ensures.value ∙ c.in-Some.is)) }

pub lower-requires-clause-things : goal.lower-requires-clause-things
lower-requires-clause-things c =
    let p = is_thing c.args.number in
    let gone = c.in-Some.gone in
    (used gone.board p (standing (under c.self.inside.items) c.self.inside.last) gone (use_at c.self.inside.uses gone.board) (found c.self.invariant.0 c.args.number ∙ sym c.remove.ensures.value ∙ c.in-Some.is) refl (c.self.invariant.1 gone.board)).0

pub lower-requires-clause-readers : goal.lower-requires-clause-readers
lower-requires-clause-readers c =
    let p = is_thing c.args.number in
    let gone = c.in-Some.gone in
    (used gone.board p (standing (under c.self.inside.items) c.self.inside.last) gone (use_at c.self.inside.uses gone.board) (found c.self.invariant.0 c.args.number ∙ sym c.remove.ensures.value ∙ c.in-Some.is) refl (c.self.invariant.1 gone.board)).1

pub lower-requires-clause-writers : goal.lower-requires-clause-writers
lower-requires-clause-writers c =
    let p = is_thing c.args.number in
    let ts = standing (under c.self.inside.items) c.self.inside.last in
    let gone = c.in-Some.gone in
    let stood : find p ts ≡ Some gone = found c.self.invariant.0 c.args.number ∙ sym c.remove.ensures.value ∙ c.in-Some.is in
    let ports = counts_less is_of_port c.self.inside.ports c.lower_port.new.ports ts gone c.self.invariant.3 p stood c.lower_port.ensures in
    let slot = c.is_only_of_port-port.ensures ∙ port_new c.lower_port.new.ports (without_first p ts) gone (writer_port gone.kind) ports in
    rw slot (used gone.board p ts gone (use_at c.self.inside.uses gone.board) stood refl (c.self.invariant.1 gone.board)).2

pub lower-requires-clause-nodes : goal.lower-requires-clause-nodes
lower-requires-clause-nodes c =
    let p = is_thing c.args.number in
    let ts = standing (under c.self.inside.items) c.self.inside.last in
    let gone = c.in-Some.gone in
    let stood : find p ts ≡ Some gone = found c.self.invariant.0 c.args.number ∙ sym c.remove.ensures.value ∙ c.in-Some.is in
    let held = counts_less (is_held_by nat_eq) c.self.inside.held c.lower_at.new.counts ts gone c.self.invariant.2 p stood c.lower_at.ensures in
    let node = none_counted (is_held_by nat_eq gone.board gone.holder) (without_first p ts) c.count_at-node.result (c.count_at-node.ensures ∙ held gone.board gone.holder) in
    rw node (used gone.board p ts gone (use_at c.self.inside.uses gone.board) stood refl (c.self.invariant.1 gone.board)).3

pub invariant_of-self : goal.invariant_of-self
invariant_of-self c =
    let p = is_thing c.args.number in
    let ts = standing (under c.self.inside.items) c.self.inside.last in
    let gone = c.in-Some.gone in
    let stood : find p ts ≡ Some gone = found c.self.invariant.0 c.args.number ∙ sym c.remove.ensures.value ∙ c.in-Some.is in
    let held = counts_less (is_held_by nat_eq) c.self.inside.held c.lower_at.new.counts ts gone c.self.invariant.2 p stood c.lower_at.ensures in
    let ports = counts_less is_of_port c.self.inside.ports c.lower_port.new.ports ts gone c.self.invariant.3 p stood c.lower_port.ensures in
    let written = counts_less is_write_handle c.self.inside.written c.lower_handle.new.written ts gone c.self.invariant.4 p stood c.lower_handle.ensures in
    let node = none_counted (is_held_by nat_eq gone.board gone.holder) (without_first p ts) c.count_at-node.result (c.count_at-node.ensures ∙ held gone.board gone.holder) in
    let slot = c.is_only_of_port-port.ensures ∙ port_new c.lower_port.new.ports (without_first p ts) gone (writer_port gone.kind) ports in
    let are = c.remove.ensures.updates.0 in
    let rest = without_first p ts in
    let kept : AreUses c.lower.new.uses rest × AreHeld c.lower_at.new.counts rest × ArePorts c.lower_port.new.ports rest × AreWritten c.lower_handle.new.written rest × AreNodes c.take_last.new.self.pairs rest = (
      all_less c.self.inside.uses c.lower.new.uses ts gone (nat_eq c.count_at-node.result 0) c.is_only_of_port-port.result c.self.invariant.1 p stood node slot c.lower.ensures.this c.lower.ensures.others,
      held,
      ports,
      written,
      nodes_less c.self.inside.nodes.pairs c.take_last.new.self.pairs ts gone (nat_eq c.count_at-node.result 0) c.self.invariant.5 c.take_last.ensures.order p stood node c.take_last.ensures.are,
    ) in
    let all = subst (λ (xs : List (Thing ℕ ℕ)). AreUses c.lower.new.uses xs × AreHeld c.lower_at.new.counts xs × ArePorts c.lower_port.new.ports xs × AreWritten c.lower_handle.new.written xs × AreNodes c.take_last.new.self.pairs xs) (sym (taken c.self.invariant.0 c.args.number are)) kept in
    (numbered_less c.self.invariant.0 c.args.number are, all.0, all.1, all.2, all.3, all.4)

pub returns-clause-taken : goal.returns-clause-taken
returns-clause-taken c =
    ap (λ (o : Option (Thing ℕ ℕ)). thing_or_none o) (sym c.in-Some.is ∙ c.remove.ensures.value ∙ sym (found c.self.invariant.0 c.args.number)) ∙ ap (λ (d : Numbered). thing_numbered c.args.number d.things) c.self.view_is

pub returns-clause-rest : goal.returns-clause-rest
returns-clause-rest c = taken c.self.invariant.0 c.args.number c.remove.ensures.updates.0 ∙ ap (λ (d : Numbered). without_first (is_thing c.args.number) d.things) c.self.view_is
