use Rattle.std.proofs.Common.{true, ◌∙◌, ◌+◌, ◌++◌, ◌∷◌, [], ℕ, List, sym, ap, refl, subst}
use Rattle.std.specs.Prelude.{nat_eq}
use Rattle.std.proofs.lemmas.Bool.{OnTrue_from}
use Rattle.board_model.specs.Tables.{is_held_by, is_node, is_of_port, is_write_handle, writer_port}
use Rattle.board_model.specs.declared.tables.Thing.{Thing}
use Rattle.board_numbered.specs.Standing.{standing, under}
use Rattle.board_things.specs.Kept.{AreHeld, ArePorts, AreUses, AreWritten, use_at}
use Rattle.board_things.specs.Nodes.{AreNodes}
use Rattle.board_things.specs.Things.{Numbered, new_thing}
use Rattle.board_things.proofs.Numbers.{few_things, numbered_more, pushed}
use Rattle.board_things.proofs.Counts.{all_more, counts_more, counts_small, none_counted, port_new, small}
use Rattle.board_things.proofs.NodeLemmas.{is_not, nodes_few, nodes_more}
use Rattle.board_things.proofs.things.Things.push_reserved.Goals as goal

pub raise-requires-clause-things : goal.raise-requires-clause-things
raise-requires-clause-things c =
    let few = few_things (under c.self.inside.items) c.self.inside.last (ap (λ (d : Numbered). d.last) c.self.view_is) c.requires.below in
    (small c.args.board (standing (under c.self.inside.items) c.self.inside.last) (use_at c.self.inside.uses c.args.board) few (c.self.invariant.1 c.args.board)).things

pub raise-requires-clause-readers : goal.raise-requires-clause-readers
raise-requires-clause-readers c =
    let few = few_things (under c.self.inside.items) c.self.inside.last (ap (λ (d : Numbered). d.last) c.self.view_is) c.requires.below in
    (small c.args.board (standing (under c.self.inside.items) c.self.inside.last) (use_at c.self.inside.uses c.args.board) few (c.self.invariant.1 c.args.board)).readers

pub raise-requires-clause-writers : goal.raise-requires-clause-writers
raise-requires-clause-writers c =
    let few = few_things (under c.self.inside.items) c.self.inside.last (ap (λ (d : Numbered). d.last) c.self.view_is) c.requires.below in
    (small c.args.board (standing (under c.self.inside.items) c.self.inside.last) (use_at c.self.inside.uses c.args.board) few (c.self.invariant.1 c.args.board)).writers

pub raise-requires-clause-nodes : goal.raise-requires-clause-nodes
raise-requires-clause-nodes c =
    let few = few_things (under c.self.inside.items) c.self.inside.last (ap (λ (d : Numbered). d.last) c.self.view_is) c.requires.below in
    (small c.args.board (standing (under c.self.inside.items) c.self.inside.last) (use_at c.self.inside.uses c.args.board) few (c.self.invariant.1 c.args.board)).nodes

pub raise_at-requires-clause-small : goal.raise_at-requires-clause-small
raise_at-requires-clause-small c =
    let few = few_things (under c.self.inside.items) c.self.inside.last (ap (λ (d : Numbered). d.last) c.self.view_is) c.requires.below in
    counts_small (is_held_by nat_eq) c.self.inside.held (standing (under c.self.inside.items) c.self.inside.last) c.args.board c.args.holder c.self.invariant.2 few

pub raise_port-requires-clause-small : goal.raise_port-requires-clause-small
raise_port-requires-clause-small c =
    let few = few_things (under c.self.inside.items) c.self.inside.last (ap (λ (d : Numbered). d.last) c.self.view_is) c.requires.below in
    λ p. counts_small is_of_port c.self.inside.ports (standing (under c.self.inside.items) c.self.inside.last) c.args.board p c.self.invariant.3 few

pub raise_handle-requires-clause-small : goal.raise_handle-requires-clause-small
raise_handle-requires-clause-small c =
    let few = few_things (under c.self.inside.items) c.self.inside.last (ap (λ (d : Numbered). d.last) c.self.view_is) c.requires.below in
    λ e. counts_small is_write_handle c.self.inside.written (standing (under c.self.inside.items) c.self.inside.last) c.args.board e c.self.invariant.4 few

pub put_first-requires-clause-other : goal.put_first-requires-clause-other
put_first-requires-clause-other c =
    let ts = standing (under c.self.inside.items) c.self.inside.last in
    let node = none_counted (is_held_by nat_eq c.args.board c.args.holder) ts c.count_at-node.result (c.count_at-node.ensures ∙ c.self.invariant.2 c.args.board c.args.holder) in
    OnTrue_from (nat_eq c.count_at-node.result 0) _ (λ first. c.self.invariant.5.are c.args.board c.args.holder ∙ is_not (is_node nat_eq c.args.board c.args.holder ts) true (sym node ∙ first))

pub put_first-requires-clause-few : goal.put_first-requires-clause-few
put_first-requires-clause-few c =
    let few = few_things (under c.self.inside.items) c.self.inside.last (ap (λ (d : Numbered). d.last) c.self.view_is) c.requires.below in
    nodes_few c.self.inside.nodes.pairs (standing (under c.self.inside.items) c.self.inside.last) c.self.invariant.5 few

pub invariant_of-self : goal.invariant_of-self
invariant_of-self c =
    let ts = standing (under c.self.inside.items) c.self.inside.last in
    let last = c.self.inside.last in
    let t : Thing ℕ ℕ = record { holder = c.args.holder; name = last + 1; board = c.args.board; kind = c.args.kind } in
    let node = none_counted (is_held_by nat_eq c.args.board c.args.holder) ts c.count_at-node.result (c.count_at-node.ensures ∙ c.self.invariant.2 c.args.board c.args.holder) in
    let slot = c.is_only_of_port-port.ensures ∙ port_new c.self.inside.ports ts t (writer_port c.args.kind) c.self.invariant.3 in
    let are = c.in-Ok.ensures.updates.0 in
    let kept : AreUses c.raise.new.uses (ts ++ t ∷ []) × AreHeld c.raise_at.new.counts (ts ++ t ∷ []) × ArePorts c.raise_port.new.ports (ts ++ t ∷ []) × AreWritten c.raise_handle.new.written (ts ++ t ∷ []) × AreNodes c.put_first.new.self.pairs (ts ++ t ∷ []) = (
      all_more c.self.inside.uses c.raise.new.uses ts t (nat_eq c.count_at-node.result 0) c.is_only_of_port-port.result c.self.invariant.1 node slot c.raise.ensures,
      counts_more (is_held_by nat_eq) c.self.inside.held c.raise_at.new.counts ts t c.self.invariant.2 c.raise_at.ensures,
      counts_more is_of_port c.self.inside.ports c.raise_port.new.ports ts t c.self.invariant.3 c.raise_port.ensures,
      counts_more is_write_handle c.self.inside.written c.raise_handle.new.written ts t c.self.invariant.4 c.raise_handle.ensures,
      nodes_more c.self.inside.nodes.pairs c.put_first.new.self.pairs ts t (nat_eq c.count_at-node.result 0) c.self.invariant.5 c.put_first.ensures.order node c.put_first.ensures.are,
    ) in
    let all = subst (λ (xs : List (Thing ℕ ℕ)). AreUses c.raise.new.uses xs × AreHeld c.raise_at.new.counts xs × ArePorts c.raise_port.new.ports xs × AreWritten c.raise_handle.new.written xs × AreNodes c.put_first.new.self.pairs xs) (sym (pushed c.self.invariant.0 t refl are)) kept in
    (numbered_more c.self.invariant.0 t refl are, all.0, all.1, all.2, all.3, all.4)

pub returns-clause-things : goal.returns-clause-things
returns-clause-things c =
    let t : Thing ℕ ℕ = record { holder = c.args.holder; name = c.self.inside.last + 1; board = c.args.board; kind = c.args.kind } in
    pushed c.self.invariant.0 t refl c.in-Ok.ensures.updates.0 ∙ ap (λ (d : Numbered). d.things ++ new_thing (d.last + 1) c.args.holder c.args.board c.args.kind ∷ []) c.self.view_is
