use Rattle.std.proofs.Common.{rules, ◌≡◌, ◌∷◌, [], ◌++◌, ◌∙◌, ap, map, refl, sym, subst}
use Rattle.std.specs.Prelude.{option_to_list}
use Rattle.std.specs.Map.{keys_of}
use Rattle.std.proofs.lemmas.List.{append-nil}
use Rattle.board_names.specs.Extraction.{Extracts, Lists}
use Rattle.board_names.specs.Table.{Held}
use Rattle.board_names.proofs.KeyLemmas.{ascend-held, keys-seen_by}
use Rattle.board_names.proofs.Listing.{ListsBehind, ListsBehind-next, Extracts-from, Lists-ascend}
use Rattle.board_names.proofs.table.list_names.Goals as goal

pub loop-path-init : goal.loop-path-init
loop-path-init g c = λ rest lists.
    let shown : c.into_iter-path-iterator.result ≡ keys_of c.table.inside.values.entries = search rules in
    subst (λ paths. Lists c.args.cfg.now paths (c.new-names.result.items ++ rest))
    (ap (map (λ k. k.items)) shown ∙ sym (keys-seen_by (λ k. k.items) c.table.inside.values.entries) ∙ ap (λ (t : Held g.row.V.Denot). keys_of t.entries) c.table.view_is)
    (subst (λ ns. Lists c.args.cfg.now (map (λ k. k.items) c.into_iter-path-iterator.result) (ns ++ rest)) (sym c.new-names.ensures.items) lists)

pub loop-path-preserved-else-is_err : goal.loop-path-preserved-else-is_err
loop-path-preserved-else-is_err g c =
    let all = keys_of c.args.table.now.entries in
    let step : c.loop-path.path-iterator ≡ c.in-Some.path.now ∷ c.next.new.self = search rules in
    let behind : ListsBehind c.args.cfg.now all (c.in-Some.path.now.items ∷ map (λ k. k.items) c.next.new.self) c.loop-path.names.items =
    subst (λ paths. ListsBehind c.args.cfg.now all (map (λ k. k.items) paths) c.loop-path.names.items) step c.loop-path.invariant in
    let one = subst (λ path. Extracts c.args.cfg.now path c.name_in_path.result) c.as_slice.ensures.value
    (Extracts-from c.args.cfg.now c.as_slice.result.now c.name_in_path.result c.name_in_path.ensures.found c.name_in_path.ensures.every) in
    let names : c.loop-path.names.items ++ option_to_list c.name_in_path.result ≡ c.push.new.self.items = search rules in
    subst (λ ns. ListsBehind c.args.cfg.now all (map (λ k. k.items) c.next.new.self) ns) names
    (ListsBehind-next c.args.cfg.now all (map (λ k. k.items) c.next.new.self) c.loop-path.names.items c.in-Some.path.now.items c.name_in_path.result behind one)

pub returns-clause-names : goal.returns-clause-names
returns-clause-names g c =
    let all = keys_of c.args.table.now.entries in
    let none : Lists c.args.cfg.now (map (λ k. k.items) c.loop-path.path-iterator) [] =
    subst (λ paths. Lists c.args.cfg.now (map (λ k. k.items) paths) []) (sym c.in-None.ensures.steps.0) refl in
    subst (λ ns. Lists c.args.cfg.now all ns) (append-nil c.loop-path.names.items) (c.loop-path.invariant [] none)

pub returns-clause-ascend : goal.returns-clause-ascend
returns-clause-ascend g c =
    let all = keys_of c.args.table.now.entries in
    let none : Lists c.args.cfg.now (map (λ k. k.items) c.loop-path.path-iterator) [] =
    subst (λ paths. Lists c.args.cfg.now (map (λ k. k.items) paths) []) (sym c.in-None.ensures.steps.0) refl in
    let lists = subst (λ ns. Lists c.args.cfg.now all ns) (append-nil c.loop-path.names.items) (c.loop-path.invariant [] none) in
    Lists-ascend c.args.cfg.now all c.loop-path.names.items lists (ascend-held c.table.inside.values c.args.table.now c.table.view_is c.keys-path-items.ensures.ordered)
