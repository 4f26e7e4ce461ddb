use Rattle.std.specs.Prelude.{Ok, Some}
use Rattle.std.proofs.Common.{◌≡◌}
use Rattle.board_names.specs.Table.{at}
use Rattle.board_event_core.specs.EventTable.{IsNotifierAnswer, names_of}
use Rattle.script_events.specs.Left.{HasNotifierMore}
use Rattle.script_events.proofs.Asks.{notifier_done, notifier_makes, notifier_named}
use Rattle.script_events.specs.PartyEvents.{held_in}
use Rattle.script_events.proofs.Options.{anyway}
use Rattle.script_events.proofs.asking.add_notifier.Goals as goal

pub returns-in_ok-put-in-Ok-clause-told : goal.returns-in_ok-put-in-Ok-clause-told
returns-in_ok-put-in-Ok-clause-told c =
    let t = c.args.events.now in
    let answer : IsNotifierAnswer t (Ok c.in-Ok.number) (at (names_of c.args.kind t) c.args.event.now) = rw c.full_name.ensures at c.in-Ok.ensures.answer in
    notifier_done t c.notifier.new.self (held_in c.args.things.now) (held_in c.put.new.self) c.args.party c.args.name c.args.kind c.args.event.now c.in-Ok.number answer c.in-Ok.ensures.ok c.in_ok-put-in-Ok.ensures.ok

pub returns-in_err-put-in-Ok-clause-memory : goal.returns-in_err-put-in-Ok-clause-memory
returns-in_err-put-in-Ok-clause-memory c =
    let t = c.args.events.now in
    let answer : IsNotifierAnswer t (Ok c.in-Ok.number) (at (names_of c.args.kind t) c.args.event.now) = rw c.full_name.ensures at c.in-Ok.ensures.answer in
    anyway _ _ (notifier_makes t (held_in c.args.things.now) c.args.party c.args.name c.args.kind c.args.event.now c.in-Ok.number answer)

pub returns-in_err-put-in-Ok-clause-events : goal.returns-in_err-put-in-Ok-clause-events
returns-in_err-put-in-Ok-clause-events c =
    let t = c.args.events.now in
    let answer : IsNotifierAnswer t (Ok c.in-Ok.number) (at (names_of c.args.kind t) c.args.event.now) = rw c.full_name.ensures at c.in-Ok.ensures.answer in
    let named : at (names_of c.args.kind t) c.args.event.now ≡ Some c.in-Ok.number = notifier_named t c.in-Ok.number (at (names_of c.args.kind t) c.args.event.now) answer in
    let more : HasNotifierMore t c.notifier.new.self c.args.kind c.args.event.now = (c.in-Ok.number, named, c.in-Ok.ensures.ok) in
    anyway _ _ more
