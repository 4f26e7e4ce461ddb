use Rattle.std.proofs.Common.{◌≤◌, ◌∙◌, refl, length, sym, subst}
use Rattle.std.specs.List.{All}
use Rattle.std.specs.Map.{keys_of}
use Rattle.std.proofs.lemmas.Map.Views.{All-map-remove_entry}
use Rattle.board_names.specs.Keys.{held}
use Rattle.board_names.proofs.KeyLemmas.{at-held, without-held}
use Rattle.board_names.proofs.table.Table.remove.Goals as goal

pub invariant_of-self : goal.invariant_of-self
invariant_of-self g c =
    subst (λ es. All (λ k. length k.items ≤ 1021) (keys_of es)) (sym c.remove.ensures.entries)
    (All-map-remove_entry _ (λ e. e.0) (λ k. length k.items ≤ 1021) c.self.inside.values.entries c.self.invariant)

pub returns-clause-value : goal.returns-clause-value
returns-clause-value g c = c.remove.ensures.value ∙ at-held c.self.inside.values c.args.self.now c.self.view_is c.as_bytes.result.now c.args.name.now c.as_bytes.ensures.value

pub returns-clause-after : goal.returns-clause-after
returns-clause-after g c =
    without-held c.self.inside.values c.args.self.now c.self.view_is c.remove.new.self c.as_bytes.result.now c.args.name.now c.as_bytes.ensures.value c.remove.ensures.entries

pub returns-clause-gone : goal.returns-clause-gone
returns-clause-gone g c = sym (at-held c.remove.new.self (held c.remove.new.self) refl c.as_bytes.result.now c.args.name.now c.as_bytes.ensures.value) ∙ c.remove.ensures.updates.1
