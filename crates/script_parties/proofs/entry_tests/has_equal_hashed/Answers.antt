use Rattle.std.proofs.Common.{◌≡◌, ◌++◌, ◌∷◌, [], List, true, false, ap, map, subst, sym, ◌∙◌}
use Rattle.std.specs.List.{list_any}
use Rattle.std.specs.List.Sorted.{IsPermutation}
use Rattle.std.proofs.lemmas.Bool.{MatchBool-at_true, not-false, not-true}
use Rattle.std.proofs.lemmas.List.{append_assoc, map-append, nil_from_length}
use Rattle.board_layout.specs.Keys.{key_value}
use Rattle.board_model.specs.declared.value.AddedEntry.{AddedEntry}
use Rattle.board_model.specs.Replies.{added_of}
use Rattle.board_model.specs.ShortKeys.{IsShortKey}
use Rattle.board_model.specs.Tables.{has_equal_keys, has_key}
use Rattle.script_parties.proofs.KeyedCalls.{equal_keys_same, has_key_same}
use Rattle.board_service.proofs.MetKeys.{equal_behind, meets_more, same, still_differ, was_met}
use Rattle.script_parties.proofs.entry_tests.has_equal_hashed.Goals as goal

pub loop-last-preserved : goal.loop-last-preserved
loop-last-preserved g c =
    let Z = g.K.ZeroCopySend in
    let eq = g.K.PartialEq.eq in
    let value = key_value Z.value_of Z.SIZE Z.WORDS in
    let inv = c.loop-last.invariant in
    let last = c.in-Some.last.now in
    let behind = inv.0 in
    let met = c.loop-last.met.keys in
    let more = c.insert.new.self.keys in
    let front : c.args.entries.now ≡ c.in-Some.before.now ++ last ∷ behind
    = inv.1 ∙ ap (λ (l : List AddedEntry). l ++ behind) c.in-Some.ensures.cases.0 ∙ append_assoc c.in-Some.before.now (last ∷ []) behind in
    let short : IsShortKey (added_of last).key = subst IsShortKey c.key_bytes.ensures.bytes c.key_bytes.ensures.short in
    let key : c.key_of.result ≡ value (added_of last).key = c.key_of.ensures ∙ ap value c.key_bytes.ensures.bytes in
    let was : list_any (eq (value (added_of last).key)) met ≡ false
    = ap (λ k. list_any (eq k) met) (sym key) ∙ not-true _ (sym c.in-Ok-true.ensures.added ∙ c.in-Ok-true.field-0-test) in
    let differs : has_key (same eq value) (added_of last).key (map added_of behind) ≡ false
    = sym (was_met eq value g.met.K.Eq.laws (added_of last) (map added_of behind) met inv.4) ∙ was in
    let put : IsPermutation (c.key_of.result ∷ met) more
    = MatchBool-at_true (IsPermutation (c.key_of.result ∷ met) more) (more ≡ met) c.in-Ok-true.field-0-test c.in-Ok-true.ensures.keys in (
      last ∷ behind,
      front,
      (short, inv.2),
      still_differ eq value (added_of last) (map added_of behind) differs inv.3,
      meets_more eq value (added_of last) (map added_of behind) met more (subst (λ k. IsPermutation (k ∷ met) more) key put) inv.4,
    )

pub returns-in-Ok-false : goal.returns-in-Ok-false
returns-in-Ok-false g c = λ t agree.
    let Z = g.K.ZeroCopySend in
    let eq = g.K.PartialEq.eq in
    let value = key_value Z.value_of Z.SIZE Z.WORDS in
    let inv = c.loop-last.invariant in
    let last = c.in-Some.last.now in
    let behind = inv.0 in
    let met = c.loop-last.met.keys in
    let front : c.args.entries.now ≡ c.in-Some.before.now ++ last ∷ behind
    = inv.1 ∙ ap (λ (l : List AddedEntry). l ++ behind) c.in-Some.ensures.cases.0 ∙ append_assoc c.in-Some.before.now (last ∷ []) behind in
    let short : IsShortKey (added_of last).key = subst IsShortKey c.key_bytes.ensures.bytes c.key_bytes.ensures.short in
    let key : c.key_of.result ≡ value (added_of last).key = c.key_of.ensures ∙ ap value c.key_bytes.ensures.bytes in
    let was : list_any (eq (value (added_of last).key)) met ≡ true
    = ap (λ k. list_any (eq k) met) (sym key) ∙ not-false _ (sym c.in-Ok-false.ensures.added ∙ c.in-Ok-false.field-0-test) in
    let equal : has_key t (added_of last).key (map added_of behind) ≡ true
    = sym (has_key_same (same eq value) t agree (added_of last).key short (map added_of behind) inv.2)
    ∙ sym (was_met eq value g.met.K.Eq.laws (added_of last) (map added_of behind) met inv.4) ∙ was in
    sym (ap (λ (l : List AddedEntry). has_equal_keys t (map added_of l)) front
    ∙ ap (has_equal_keys t) (map-append added_of c.in-Some.before.now (last ∷ behind))
    ∙ equal_behind t (map added_of c.in-Some.before.now) (added_of last) (map added_of behind) equal)

pub returns : goal.returns
returns g c = λ t agree.
    let Z = g.K.ZeroCopySend in
    let value = key_value Z.value_of Z.SIZE Z.WORDS in
    let inv = c.loop-last.invariant in
    let left : c.loop-last.left.now ≡ [] = nil_from_length c.loop-last.left.now c.in_default.ensures.cases in
    let all : c.args.entries.now ≡ inv.0 = inv.1 ∙ ap (λ (l : List AddedEntry). l ++ inv.0) left in
    sym (ap (λ (l : List AddedEntry). has_equal_keys t (map added_of l)) all
    ∙ sym (equal_keys_same (same g.K.PartialEq.eq value) t agree (map added_of inv.0) inv.2) ∙ inv.3)
