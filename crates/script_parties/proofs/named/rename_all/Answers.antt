use Rattle.std.proofs.Common.{rules}
use Rattle.std.specs.Prelude.{nat_eq}
use Rattle.std.proofs.lemmas.Map.Made.{map_same_pairs, lookup-map_values}
use Rattle.script_parties.specs.Numbered.{seat_anew}
use Rattle.script_parties.proofs.named.rename_all.Goals as goal

pub returns : goal.returns
returns c =
    let anew = seat_anew c.args.from.now c.args.new.now in
    let e = map_same_pairs _ anew _ (λ k v b w f' t. search rules) _ _ c.retain.ensures.filtered in
    λ q. rw e (lookup-map_values anew (nat_eq q) c.args.names.now.entries)
