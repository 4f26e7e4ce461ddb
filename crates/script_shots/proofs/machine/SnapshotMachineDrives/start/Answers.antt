use Rattle.std.proofs.Common.{◌∙◌, refl, sym}
use Rattle.std.proofs.lemmas.Result.{on_ok_weaker}
use Rattle.script_feed.specs.KeptOf as map
use Rattle.script_feed.proofs.KeptLemmas.{found_kept, none_found}
use Rattle.script_shots.proofs.MachineLemmas.{starts_so, still_so, tells}
use Rattle.script_shots.proofs.machine.SnapshotMachineDrives.start.Goals as goal

pub returns-then-is_some : goal.returns-then-is_some
returns-then-is_some g c =
    let kept = found_kept (map.kept_of c.args.self.now.driven.kept c.args.party) c.of.result c.of.ensures (sym c.is_some.ensures ∙ c.if-is_some.true) in
    on_ok_weaker c.say.result (λ e. tells g.M.RunsLines.stands c.args.self.now _ _ _ (λ xs s h. still_so g.M.RunsLines.stands c.args.self.now.driven xs s c.args.party c.args.things kept.found c.say.new.told.items h c.requires.line kept.is (rw c.requires.empty at e))) c.say.ensures

pub returns : goal.returns
returns g c =
    let none = none_found (map.kept_of c.args.self.now.driven.kept c.args.party) c.of.result c.of.ensures (sym c.is_some.ensures ∙ c.if-is_some.false) in
    on_ok_weaker c.say-2.result (λ e. tells g.M.RunsLines.stands c.args.self.now _ _ _ (λ xs s h. starts_so g.M.RunsLines.stands c.args.self.now.driven _ xs s c.args.party c.args.things c.in_ok-shot.shot c.say-2.new.told.items h c.requires.line none c.in_ok-shot.ensures refl c.in_ok-keep.ensures.ok (rw c.requires.empty at e))) c.say-2.ensures
