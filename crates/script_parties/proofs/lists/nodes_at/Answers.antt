use Rattle.std.proofs.Common.{◌≡◌, ℕ, List, [], Ordering, rules, sym, ap, subst, ◌∙◌}
use Rattle.std.specs.Cmp.Lexicographic.{slice_cmp}
use Rattle.std.specs.List.{list_any}
use Rattle.std.specs.List.Sorted.{IsStrictlySortedBy}
use Rattle.std.specs.Ordering.{nat_cmp}
use Rattle.std.specs.Str.{bytes_eq}
use Rattle.script_parties.specs.BoardNodes.{is_told, node_count, nodes_in_use}
use Rattle.script_parties.proofs.Holders.{among}
use Rattle.script_parties.proofs.lists.nodes_at.Goals as goal

pub returns-clause-holders : goal.returns-clause-holders
returns-clause-holders g c =
    let parties : List (List ℕ) = c.in_ok-parties.parties.keys in
    let listed : c.from_vec-2.result ≡ parties = search rules in
    let count : c.in-Some.taken.nodes ≡ node_count c.args.core.now c.args.board = ap nodes_in_use (sym c.in-Some.is ∙ c.use_of.ensures) in
    record {
      order = subst (IsStrictlySortedBy (slice_cmp nat_cmp)) (sym listed) c.iter.ensures.ordered;
      parties = λ p. ap (λ (names : List (List ℕ)). list_any (λ q. bytes_eq q p) names) listed ∙ sym (among p parties) ∙ c.in_ok-parties.ensures p
          ∙ ap (λ (n : ℕ). is_told c.args.nodes.now.keys c.args.core.now c.args.board p n) count;
    }

none_are_sorted : (cmp : List ℕ → List ℕ → Ordering) → IsStrictlySortedBy cmp []
unfolding IsStrictlySortedBy
none_are_sorted cmp = tt

pub returns-in_default-clause-holders : goal.returns-in_default-clause-holders
returns-in_default-clause-holders g c =
    let empty : c.from_vec.result ≡ [] = c.from_vec.ensures ∙ c.new.ensures.items in
    let count : node_count c.args.core.now c.args.board ≡ 0 = ap nodes_in_use (sym c.use_of.ensures ∙ c.in_default.is) in
    record {
      order = subst (IsStrictlySortedBy (slice_cmp nat_cmp)) (sym empty) (none_are_sorted (slice_cmp nat_cmp));
      parties = λ p. ap (λ (names : List (List ℕ)). list_any (λ q. bytes_eq q p) names) empty
          ∙ sym (ap (λ (n : ℕ). is_told c.args.nodes.now.keys c.args.core.now c.args.board p n) count);
    }
