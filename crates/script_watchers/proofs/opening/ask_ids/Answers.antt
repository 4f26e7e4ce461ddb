use Rattle.std.proofs.Common.{◌≡◌, ℕ, ◌+◌, ◌<◌, suc, List, [], ◌∷◌, ◌++◌, add-one, arith, drop, length, rules, subst, sym, take}
use Rattle.script_watches.specs.WatchExchanges.{pairs_of_ids}
use Rattle.script_watchers.specs.declared.calls.Asked.{Asked}
use Rattle.script_watchers.specs.Opening.{AreAsked, IsAskedOrDown}
use Rattle.script_watchers.proofs.AskLemmas.{asked_more, down_more, place_left, take_few, take_more, take_rest}
use Rattle.script_watchers.proofs.opening.ask_ids.Goals as goal

pub ask_id-requires-clause-place : goal.ask_id-requires-clause-place
ask_id-requires-clause-place g c =
    let fed = c.requires.place.0 in
    let place = c.requires.place.1 in
    let i = c.loop-handle.handle-index in
    let inside : i < length c.args.handles.now = search rules in
    let k = c.loop-handle.invariant fed place in
    (fed ++ pairs_of_ids k.asked, place_left g.M.RunsLines.stands c.args.machine.now c.loop-handle.machine fed c.args.party.now (take i c.args.handles.now) c.loop-handle.rows.items c.loop-handle.told.items place k (omega (arith, take_few c.args.handles.now i inside, inside, c.requires.few)))

pub returns-in-None : goal.returns-in-None
returns-in-None g c = λ fed place.
    let i = c.loop-handle.handle-index in
    let handle = c.handle-item.result in
    let inside : i < length c.args.handles.now = search rules in
    let k = c.loop-handle.invariant fed place in
    let left = place_left g.M.RunsLines.stands c.args.machine.now c.loop-handle.machine fed c.args.party.now (take i c.args.handles.now) c.loop-handle.rows.items c.loop-handle.told.items place k (omega (arith, take_few c.args.handles.now i inside, inside, c.requires.few)) in
    let down = subst (IsAskedOrDown g.M.RunsLines.stands c.ask_id.new.machine (fed ++ pairs_of_ids k.asked) c.args.party.now handle c.loop-handle.told.items c.ask_id.new.told.items) c.in-None.is (c.in_ok-id.ensures (fed ++ pairs_of_ids k.asked) left) in
    down_more g.M.RunsLines.stands c.loop-handle.machine c.ask_id.new.machine fed c.args.party.now c.args.handles.now (take i c.args.handles.now) handle (drop (suc i) c.args.handles.now) c.loop-handle.rows.items c.loop-handle.told.items c.ask_id.new.told.items
    (take_rest c.args.handles.now i handle inside c.handle-item.is) k down

pub loop-handle-preserved : goal.loop-handle-preserved
loop-handle-preserved g c = λ fed place.
    let i = c.loop-handle.handle-index in
    let handle = c.handle-item.result in
    let inside : i < length c.args.handles.now = search rules in
    let k = c.loop-handle.invariant fed place in
    let left = place_left g.M.RunsLines.stands c.args.machine.now c.loop-handle.machine fed c.args.party.now (take i c.args.handles.now) c.loop-handle.rows.items c.loop-handle.told.items place k (omega (arith, take_few c.args.handles.now i inside, inside, c.requires.few)) in
    let told = subst (IsAskedOrDown g.M.RunsLines.stands c.ask_id.new.machine (fed ++ pairs_of_ids k.asked) c.args.party.now handle c.loop-handle.told.items c.ask_id.new.told.items) c.in-Some.is (c.in_ok-id.ensures (fed ++ pairs_of_ids k.asked) left) in
    let more = asked_more g.M.RunsLines.stands c.loop-handle.machine c.ask_id.new.machine fed c.args.party.now (take i c.args.handles.now) handle c.in-Some.id c.loop-handle.rows.items c.loop-handle.told.items c.ask_id.new.told.items k told in
    let taken : take (i + 1) c.args.handles.now ≡ take i c.args.handles.now ++ handle ∷ [] = rw add-one (take_more c.args.handles.now i handle inside c.handle-item.is) in
    subst (λ (hs : List (List ℕ)). AreAsked g.M.RunsLines.stands c.ask_id.new.machine fed c.args.party.now hs c.push.new.self.items c.ask_id.new.told.items) (sym taken)
    (subst (λ (rows : List Asked). AreAsked g.M.RunsLines.stands c.ask_id.new.machine fed c.args.party.now (take i c.args.handles.now ++ handle ∷ []) rows c.ask_id.new.told.items) (sym c.in_ok-push-in-Some.ensures.items) more)
