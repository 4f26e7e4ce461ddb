use Rattle.std.proofs.Common.{◌≡◌, inl, inr}
use Rattle.std.specs.Prelude.{Ok}
use Rattle.board_layout.specs.Answer.{Refuses}
use Rattle.board_names.specs.Table.{at}
use Rattle.board_names.specs.declared.errors.event.ListenerCreateError.TheVariants as listener_error
use Rattle.board_event_core.specs.EventTable.{listen_answer, table_listened, names_of}
use Rattle.script_events.proofs.Asks.{listen_done, listen_drawn, listen_makes, listen_wanted, no_listener}
use Rattle.script_events.specs.PartyEvents.{held_in}
use Rattle.script_events.proofs.Options.{anyway}
use Rattle.script_events.proofs.asking.listen.Goals as goal

pub returns-in_ok-put-in-Ok-clause-told : goal.returns-in_ok-put-in-Ok-clause-told
returns-in_ok-put-in-Ok-clause-told c =
    let t = c.args.events.now in
    let answer : Ok c.in-Ok.number ≡ listen_answer t (at (names_of c.args.kind t) c.args.event.now) = rw c.full_name.ensures at (c.in-Ok.ensures.answer (λ e. cc)) in
    let made : c.listen.new.self ≡ table_listened t c.args.kind c.args.event.now c.args.max = rw c.full_name.ensures at c.in-Ok.ensures.ok in
    listen_done t c.listen.new.self (held_in c.args.things.now) (held_in c.put.new.self) c.args.party c.args.name c.args.kind c.args.event.now c.args.max c.in-Ok.number answer made c.in_ok-put-in-Ok.ensures.ok

pub returns-in_err-put-in-Ok-clause-memory : goal.returns-in_err-put-in-Ok-clause-memory
returns-in_err-put-in-Ok-clause-memory c =
    let t = c.args.events.now in
    let answer : Ok c.in-Ok.number ≡ listen_answer t (at (names_of c.args.kind t) c.args.event.now) = rw c.full_name.ensures at (c.in-Ok.ensures.answer (λ e. cc)) in
    anyway _ _ (listen_makes t (held_in c.args.things.now) c.args.party c.args.name c.args.kind c.args.event.now c.args.max (listen_drawn t c.in-Ok.number (at (names_of c.args.kind t) c.args.event.now) answer).0)

pub returns-in-Err-OutOfMemory-clause-memory : goal.returns-in-Err-OutOfMemory-clause-memory
returns-in-Err-OutOfMemory-clause-memory c =
    let t = c.args.events.now in
    let told = rw c.in-Err-OutOfMemory.field-0-is at c.in-Err-OutOfMemory.ensures.refused in
    let wanted : Refuses (no_listener listener_error.OutOfMemory) (listen_answer t (at (names_of c.args.kind t) c.args.event.now)) = rw c.full_name.ensures at told in
    listen_makes t (held_in c.args.things.now) c.args.party c.args.name c.args.kind c.args.event.now c.args.max (listen_wanted t (at (names_of c.args.kind t) c.args.event.now) wanted)

pub returns-in_err-put-in-Ok-clause-events : goal.returns-in_err-put-in-Ok-clause-events
returns-in_err-put-in-Ok-clause-events c =
    let made : c.listen.new.self ≡ table_listened c.args.events.now c.args.kind c.args.event.now c.args.max = rw c.full_name.ensures at c.in-Ok.ensures.ok in
    anyway _ _ (inr made)

pub returns-in-Err-OutOfMemory-clause-events : goal.returns-in-Err-OutOfMemory-clause-events
returns-in-Err-OutOfMemory-clause-events c = inl c.in-Err-OutOfMemory.ensures.err
