use Rattle.std.proofs.Common.{◌≤◌, ◌∙◌, ap, arith, length, option_map, sym, subst, Some}
use Rattle.std.specs.BTreeMap.{keys}
use Rattle.board_names.proofs.KeyLemmas.{All-at, ascend-held, name_at-held}
use Rattle.board_names.proofs.table.Table.name_at.Goals as goal

pub of-requires : goal.of-requires
of-requires g c =
    let short = subst (λ bs. length bs ≤ 1021) (sym c.as_slice.ensures.value)
    (All-at (λ k. length k.items ≤ 1021) (keys c.self.inside.values) c.args.index c.in-Some.name.now c.self.invariant c.in-Some.ensures.value) in
    (omega arith, short)

pub returns-in-Some-clause-value : goal.returns-in-Some-clause-value
returns-in-Some-clause-value g c =
    ap Some (c.from_text.ensures ∙ c.of.ensures ∙ c.as_slice.ensures.value) ∙ ap (option_map (λ k. k.items)) c.in-Some.ensures.value
    ∙ name_at-held c.self.inside.values c.args.self.now c.self.view_is c.args.index

pub returns-in-Some-clause-ascend : goal.returns-in-Some-clause-ascend
returns-in-Some-clause-ascend g c = ascend-held c.self.inside.values c.args.self.now c.self.view_is c.key_at.ensures.ordered

pub returns-in-None-clause-value : goal.returns-in-None-clause-value
returns-in-None-clause-value g c = ap (option_map (λ k. k.items)) c.in-None.ensures.value ∙ name_at-held c.self.inside.values c.args.self.now c.self.view_is c.args.index

pub returns-in-None-clause-ascend : goal.returns-in-None-clause-ascend
returns-in-None-clause-ascend g c = ascend-held c.self.inside.values c.args.self.now c.self.view_is c.key_at.ensures.ordered
