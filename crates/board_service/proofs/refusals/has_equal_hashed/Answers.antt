use Rattle.std.proofs.Common.{◌≡◌, ◌++◌, ◌∷◌, [], List, true, false, ap, map, subst, sym, ◌∙◌}
use Rattle.std.specs.List.{list_any}
use Rattle.std.specs.List.Sorted.{IsPermutation}
use Rattle.std.proofs.lemmas.Bool.{MatchBool-at_true, not-false, not-true}
use Rattle.std.proofs.lemmas.List.{append_assoc, map-append}
use Rattle.board_layout.specs.Keys.{key_value}
use Rattle.board_model.specs.Tables.{has_equal_keys, has_key}
use Rattle.board_service.specs.declared.new_entry.NewEntry.{NewEntry}
use Rattle.board_service.specs.Entries.{as_added}
use Rattle.board_service.proofs.MetKeys.{equal_behind, meets_more, same, still_differ, was_met}
use Rattle.board_service.proofs.refusals.has_equal_hashed.Goals as goal

pub loop-last-preserved : goal.loop-last-preserved
loop-last-preserved g c =
    let Z = g.K.ZeroCopySend in
    let eq = g.K.PartialEq.eq in
    let value = key_value Z.value_of Z.SIZE Z.WORDS in
    let inv = c.loop-last.invariant in
    let last = c.in-Some.last.now in
    let behind = inv.0 in
    let met = c.loop-last.met.keys in
    let front : c.args.entries.now ≡ c.in-Some.before.now ++ last ∷ behind
    = inv.1 ∙ ap (λ (l : List NewEntry). l ++ behind) c.in-Some.ensures.cases.0 ∙ append_assoc c.in-Some.before.now (last ∷ []) behind in
    let key : c.key_of.result ≡ value last.key.bytes = c.key_of.ensures in
    let was : list_any (eq (value last.key.bytes)) met ≡ false
    = ap (λ k. list_any (eq k) met) (sym key) ∙ not-true _ (sym c.in-Ok-true.ensures.added ∙ c.in-Ok-true.field-0-test) in
    let differs : has_key (same eq value) last.key.bytes (map as_added behind) ≡ false
    = sym (was_met eq value g.met.K.Eq.laws (as_added last) (map as_added behind) met inv.3) ∙ was in
    let more = c.insert.new.self.keys in
    let put : IsPermutation (c.key_of.result ∷ met) more
    = MatchBool-at_true (IsPermutation (c.key_of.result ∷ met) more) (more ≡ met) c.in-Ok-true.field-0-test c.in-Ok-true.ensures.keys in (
      last ∷ behind,
      front,
      still_differ eq value (as_added last) (map as_added behind) differs inv.2,
      meets_more eq value (as_added last) (map as_added behind) met more (subst (λ k. IsPermutation (k ∷ met) more) key put) inv.3,
    )

pub returns-in-Ok-false : goal.returns-in-Ok-false
returns-in-Ok-false g c =
    let Z = g.K.ZeroCopySend in
    let eq = g.K.PartialEq.eq in
    let value = key_value Z.value_of Z.SIZE Z.WORDS in
    let inv = c.loop-last.invariant in
    let last = c.in-Some.last.now in
    let behind = inv.0 in
    let met = c.loop-last.met.keys in
    let front : c.args.entries.now ≡ c.in-Some.before.now ++ last ∷ behind
    = inv.1 ∙ ap (λ (l : List NewEntry). l ++ behind) c.in-Some.ensures.cases.0 ∙ append_assoc c.in-Some.before.now (last ∷ []) behind in
    let key : c.key_of.result ≡ value last.key.bytes = c.key_of.ensures in
    let was : list_any (eq (value last.key.bytes)) met ≡ true
    = ap (λ k. list_any (eq k) met) (sym key) ∙ not-false _ (sym c.in-Ok-false.ensures.added ∙ c.in-Ok-false.field-0-test) in
    let equal : has_key (same eq value) last.key.bytes (map as_added behind) ≡ true
    = sym (was_met eq value g.met.K.Eq.laws (as_added last) (map as_added behind) met inv.3) ∙ was in
    sym (ap (λ (l : List NewEntry). has_equal_keys (same eq value) (map as_added l)) front
    ∙ ap (has_equal_keys (same eq value)) (map-append as_added c.in-Some.before.now (last ∷ behind))
    ∙ equal_behind (same eq value) (map as_added c.in-Some.before.now) (as_added last) (map as_added behind) equal)
