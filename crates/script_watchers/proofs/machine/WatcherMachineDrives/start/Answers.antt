use Rattle.std.proofs.Common.{◌≡◌, ℕ, ◌-◌, true, false, List, ap, arith, drop, get_or, length, refl, rules, subst, sym, take, ◌∙◌}
use Rattle.std.proofs.lemmas.Result.{on_ok_weaker}
use Rattle.script_feed.specs.KeptOf as map
use Rattle.script_feed.proofs.KeptLemmas.{found_kept, none_found}
use Rattle.script_watchers.specs.Opening.{AreAsked, AreAskedOrDown}
use Rattle.script_watchers.proofs.MachineLemmas.{all_behind, first_named, now_of, opens_so, place_for, still_so, tells, things_named, things_split, turned_down_so}
use Rattle.script_watchers.proofs.WatchLemmas.{new_keeps}
use Rattle.script_watchers.proofs.machine.WatcherMachineDrives.start.Goals as goal

pub returns-then-is_some : goal.returns-then-is_some
returns-then-is_some g c = on_ok_weaker c.say.result (λ e. tells g.M.RunsLines.stands c.args.self.now _ _ _ (λ xs s h.
    let kept = found_kept (map.kept_of c.args.self.now.driven.kept c.args.party) c.of.result c.of.ensures (sym c.is_some.ensures ∙ c.if-is_some.true) in
    still_so g.M.RunsLines.stands c.args.self.now.driven xs s c.args.party (get_or c.args.things 0 c.args.party) (drop 1 c.args.things) c.args.things kept.found c.say.new.told.items h c.requires.line (things_split c.args.things c.args.party c.requires.line.1.least) kept.is (rw c.requires.empty at e))) c.say.ensures

pub ask_ids-requires-clause-place : goal.ask_ids-requires-clause-place
ask_ids-requires-clause-place g c = (c.requires.work.1.state.state.fed, place_for g.M.RunsLines.stands c.args.self.now.driven c.requires.work.0 c.requires.work.1.state.state (now_of g.M.RunsLines.stands c.args.self.now c.requires.work.0 c.requires.work.1))

pub returns-then-not-are_told : goal.returns-then-not-are_told
returns-then-not-are_told g c =
    let test = c.if-not-are_told.true in
    let down : c.in_ok-are_told.are_told ≡ false = first_of (search rules, grind arith) in
    on_ok_weaker c.say-then-not-are_told.result (λ e. tells g.M.RunsLines.stands c.args.self.now _ _ _ (λ xs s h.
    let none = none_found (map.kept_of c.args.self.now.driven.kept c.args.party) c.of.result c.of.ensures (sym c.is_some.ensures ∙ c.if-is_some.false) in
    let handles : take (length c.deref.result.now - 1) (drop 1 c.deref.result.now) ≡ drop 1 c.args.things = all_behind c.deref.result.now ∙ ap (drop 1) (c.deref.ensures.value ∙ c.into_vec-things.ensures) in
    let all = c.in_ok-are_told.ensures s.fed (place_for g.M.RunsLines.stands c.args.self.now.driven xs s h) in
    let k = subst (λ (hs : List (List ℕ)). AreAskedOrDown g.M.RunsLines.stands c.ask_ids.new.machine s.fed c.args.party hs c.ask_ids.new.rows.items c.ask_ids.new.told.items false) handles
    (subst (AreAskedOrDown g.M.RunsLines.stands c.ask_ids.new.machine s.fed c.args.party (take (length c.deref.result.now - 1) (drop 1 c.deref.result.now)) c.ask_ids.new.rows.items c.ask_ids.new.told.items) down all) in
    turned_down_so g.M.RunsLines.stands c.args.self.now.driven _ c.ask_ids.new.machine xs s c.args.party (get_or c.args.things 0 c.args.party) (drop 1 c.args.things) c.args.things c.ask_ids.new.told.items c.say-then-not-are_told.new.told.items h c.requires.line (things_split c.args.things c.args.party c.requires.line.1.least)
    none k refl refl e)) c.say-then-not-are_told.ensures

pub returns : goal.returns
returns g c =
    let test = c.if-not-are_told.false in
    let told : c.in_ok-are_told.are_told ≡ true = first_of (search rules, grind arith) in
    on_ok_weaker c.say-2.result (λ e. tells g.M.RunsLines.stands c.args.self.now _ _ _ (λ xs s h.
    let none = none_found (map.kept_of c.args.self.now.driven.kept c.args.party) c.of.result c.of.ensures (sym c.is_some.ensures ∙ c.if-is_some.false) in
    let handles : take (length c.deref.result.now - 1) (drop 1 c.deref.result.now) ≡ drop 1 c.args.things = all_behind c.deref.result.now ∙ ap (drop 1) (c.deref.ensures.value ∙ c.into_vec-things.ensures) in
    let all = c.in_ok-are_told.ensures s.fed (place_for g.M.RunsLines.stands c.args.self.now.driven xs s h) in
    let k = subst (λ (hs : List (List ℕ)). AreAskedOrDown g.M.RunsLines.stands c.ask_ids.new.machine s.fed c.args.party hs c.ask_ids.new.rows.items c.ask_ids.new.told.items true) handles
    (subst (AreAskedOrDown g.M.RunsLines.stands c.ask_ids.new.machine s.fed c.args.party (take (length c.deref.result.now - 1) (drop 1 c.deref.result.now)) c.ask_ids.new.rows.items c.ask_ids.new.told.items) told all) in
    let first : List ℕ = c.index.result.now in
    let listener : c.new-watch.result.listener ≡ get_or c.args.things 0 first = c.new-watch.ensures.listener ∙ c.index.ensures ∙ ap (λ (l : List (List ℕ)). get_or l 0 first) c.into_vec-things.ensures in
    let rows = ap (λ r. r.items) c.new-watch.ensures.rows in
    opens_so g.M.RunsLines.stands c.args.self.now.driven _ c.ask_ids.new.machine xs s c.args.party (get_or c.args.things 0 first) (drop 1 c.args.things) c.args.things c.new-watch.result c.ask_ids.new.told.items c.say-2.new.told.items h c.requires.line (things_split c.args.things first c.requires.line.1.least)
    none
    (subst (λ r. AreAsked g.M.RunsLines.stands c.ask_ids.new.machine s.fed c.args.party (drop 1 c.args.things) r c.ask_ids.new.told.items) (sym rows) k)
    (λ asked r. new_keeps c.new-watch.result (get_or c.args.things 0 first) (drop 1 c.args.things) s.fed asked (first_named c.args.things first c.requires.line.1.least c.requires.line.1.named) (things_named c.args.things c.requires.line.1.named) listener r c.new-watch.ensures.phase c.new-watch.ensures.reported)
    refl c.in_ok-keep.ensures.ok e)) c.say-2.ensures
