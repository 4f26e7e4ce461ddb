use Rattle.std.proofs.Common.{◌≤◌, ◌∙◌, ap, is_some, length, sym, subst, Some}
use Rattle.std.specs.List.{All}
use Rattle.std.specs.Map.{keys_of}
use Rattle.std.proofs.lemmas.Map.Views.{All-keys-insert_entry}
use Rattle.board_names.specs.Keys.{AreFullNames, held}
use Rattle.board_names.proofs.KeyLemmas.{ascend-held, at-held, on_err_anyway, put-held, written-held}
use Rattle.board_names.proofs.table.Table.insert.Goals as goal

pub returns-in-Some-clause-old : goal.returns-in-Some-clause-old
returns-in-Some-clause-old g c =
    ap Some c.replace.ensures.value ∙ c.in-Some.ensures.value ∙ at-held c.self.inside.values c.args.self.now c.self.view_is c.as_bytes.result.now c.args.name.now c.as_bytes.ensures.value

pub returns-in-Some-clause-entries : goal.returns-in-Some-clause-entries
returns-in-Some-clause-entries g c =
    let m = c.self.inside.values in
    let t = c.args.self.now in
    let found = at-held m t c.self.view_is c.as_bytes.result.now c.args.name.now c.as_bytes.ensures.value in
    written-held m t c.self.view_is (c.get_mut.follows.lender c.replace.new.dest) c.as_bytes.result.now c.args.name.now c.replace.new.dest c.args.value c.as_bytes.ensures.value c.replace.ensures.after
    (ascend-held m t c.self.view_is c.get_mut.ensures.ordered) (ap is_some (sym (c.in-Some.ensures.value ∙ found))) (c.get_mut.follows.holds c.replace.new.dest).0

pub returns-in_err-key-clause-absent : goal.returns-in_err-key-clause-absent
returns-in_err-key-clause-absent g c =
    on_err_anyway c.from_residual.result _
    (sym (c.in_default.ensures.value ∙ at-held c.self.inside.values c.args.self.now c.self.view_is c.as_bytes.result.now c.args.name.now c.as_bytes.ensures.value))

pub invariant_of-self-in-Ok : goal.invariant_of-self-in-Ok
invariant_of-self-in-Ok g c =
    let m = c.get_mut.follows.lender-at-none in
    let key = c.in_ok-key.key in
    let short : length key.items ≤ 1021 = subst (λ bs. length bs ≤ 1021) (sym c.in_ok-key.ensures.items) c.as_bytes-2.ensures.fits in
    subst (λ es. All (λ k. length k.items ≤ 1021) (keys_of es)) (sym c.in-Ok.ensures.entries)
    (All-keys-insert_entry _ key c.args.value (λ k. length k.items ≤ 1021) m.entries (subst AreFullNames (sym c.get_mut.follows.holds-at-none) c.self.invariant) short)

pub returns-in-Ok-clause-old : goal.returns-in-Ok-clause-old
returns-in-Ok-clause-old g c =
    let m = c.get_mut.follows.lender-at-none in
    c.in-Ok.ensures.old ∙ at-held m c.args.self.now (ap held c.get_mut.follows.holds-at-none ∙ c.self.view_is) c.in_ok-key.key.items c.args.name.now (c.in_ok-key.ensures.items ∙ c.as_bytes-2.ensures.value)

pub returns-in-Ok-clause-entries : goal.returns-in-Ok-clause-entries
returns-in-Ok-clause-entries g c =
    let m = c.get_mut.follows.lender-at-none in
    put-held m c.args.self.now (ap held c.get_mut.follows.holds-at-none ∙ c.self.view_is) c.insert.new.self c.in_ok-key.key c.args.name.now c.args.value
    (c.in_ok-key.ensures.items ∙ c.as_bytes-2.ensures.value) c.in-Ok.ensures.entries

pub returns-clause-absent : goal.returns-clause-absent
returns-clause-absent g c =
    sym (c.in_default.ensures.value ∙ at-held c.self.inside.values c.args.self.now c.self.view_is c.as_bytes.result.now c.args.name.now c.as_bytes.ensures.value)
