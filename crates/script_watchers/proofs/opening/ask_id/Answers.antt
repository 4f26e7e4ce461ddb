use Rattle.std.proofs.Common.{◌≡◌, ℕ, false, List, [], ◌∷◌, ◌++◌, sym, ap, ◌∙◌, Some, None}
use Rattle.script_model.specs.ScriptAnswers.{is_refused, script_answer_text}
use Rattle.script_exchanges.specs.Exchanges.{given, told_text}
use Rattle.script_watches.specs.WatchExchanges.{id_line}
use Rattle.script_watchers.proofs.AskLemmas.{asked_so, down_so, is_told, place_more}
use Rattle.script_feed.proofs.GivenLemmas.{has_given}
use Rattle.script_watchers.proofs.AskingLines.{id_spelled, step_line, step_spelled}
use Rattle.script_watchers.proofs.opening.ask_id.Goals as goal

pub give-requires-clause-spelled : goal.give-requires-clause-spelled
give-requires-clause-spelled g c = (id_line c.args.party.now c.args.handle.now, id_spelled c.args.party.now c.args.handle.now c.deref.result.now c.requires.party c.requires.handle (c.deref.ensures.value ∙ c.in_ok-write_id.ensures))

pub returns-then-is_refusal : goal.returns-then-is_refusal
returns-then-is_refusal g c = λ fed place.
    let party = c.args.party.now in
    let handle = c.args.handle.now in
    let spelled = id_spelled party handle c.deref.result.now c.requires.party c.requires.handle (c.deref.ensures.value ∙ c.in_ok-write_id.ensures) in
    let one = has_given g.M.RunsLines.stands c.give.new.machine fed (id_line party handle) c.deref.result.now c.give.new.answer.items spelled (c.in_ok-give.ensures.ok fed place.stands_for) in
    down_so g.M.RunsLines.stands c.give.new.machine fed party handle c.deref.result.now c.give.new.answer.items c.args.told.now.items c.give.new.told.items one
    (sym (c.is_refusal.ensures one.answer (c.deref-2.ensures.value ∙ one.text_is)) ∙ c.if-is_refusal.true)
    (c.in_ok-give.ensures.told ∙ ap (λ (t : List ℕ). c.args.told.now.items ++ t) one.told)

pub give-requires-2-clause-stands : goal.give-requires-2-clause-stands
give-requires-2-clause-stands g c =
    let fed = c.requires.place.0 in
    let place = c.requires.place.1 in
    let party = c.args.party.now in
    let handle = c.args.handle.now in
    let spelled = id_spelled party handle c.deref.result.now c.requires.party c.requires.handle (c.deref.ensures.value ∙ c.in_ok-write_id.ensures) in
    let one = has_given g.M.RunsLines.stands c.give.new.machine fed (id_line party handle) c.deref.result.now c.give.new.answer.items spelled (c.in_ok-give.ensures.ok fed place.stands_for) in
    (fed ++ (id_line party handle, one.answer) ∷ [], place_more g.M.RunsLines.stands c.args.machine.now c.give.new.machine fed (id_line party handle, one.answer) place one.right one.machine)

pub give-requires-2-clause-spelled : goal.give-requires-2-clause-spelled
give-requires-2-clause-spelled g c = (step_line c.args.party.now, step_spelled c.args.party.now c.deref-3.result.now c.requires.party (c.deref-3.ensures.value ∙ c.in_ok-write_step.ensures))

pub unreachable-requires : goal.unreachable-requires
unreachable-requires g c =
    let fed = c.requires.place.0 in
    let place = c.requires.place.1 in
    let party = c.args.party.now in
    let handle = c.args.handle.now in
    let spelled = id_spelled party handle c.deref.result.now c.requires.party c.requires.handle (c.deref.ensures.value ∙ c.in_ok-write_id.ensures) in
    let one = has_given g.M.RunsLines.stands c.give.new.machine fed (id_line party handle) c.deref.result.now c.give.new.answer.items spelled (c.in_ok-give.ensures.ok fed place.stands_for) in
    let accepts : is_refused one.answer ≡ false = sym (c.is_refusal.ensures one.answer (c.deref-2.ensures.value ∙ one.text_is)) ∙ c.if-is_refusal.false in
    let there = place_more g.M.RunsLines.stands c.args.machine.now c.give.new.machine fed (id_line party handle, one.answer) place one.right one.machine in
    let step = step_spelled party c.deref-3.result.now c.requires.party (c.deref-3.ensures.value ∙ c.in_ok-write_step.ensures) in
    let two = has_given g.M.RunsLines.stands c.give-2.new.machine (fed ++ (id_line party handle, one.answer) ∷ []) (step_line party) c.deref-3.result.now c.give-2.new.answer.items step (c.in_ok-give-2.ensures.ok (fed ++ (id_line party handle, one.answer) ∷ []) there) in
    let t = is_told party handle fed one.answer two.answer place.stands_for.lawful one.right accepts two.right in
    let some : c.id_of.result ≡ Some t.id = c.id_of.ensures (script_answer_text two.answer) (c.deref-4.ensures.value ∙ two.text_is) ∙ t.read in
    let none : c.id_of.result ≡ None = c.in-None.is in
    let apart : Some t.id ≡ None = sym some ∙ none in
    absurd cc

pub returns : goal.returns
returns g c = λ fed place.
    let party = c.args.party.now in
    let handle = c.args.handle.now in
    let spelled = id_spelled party handle c.deref.result.now c.requires.party c.requires.handle (c.deref.ensures.value ∙ c.in_ok-write_id.ensures) in
    let one = has_given g.M.RunsLines.stands c.give.new.machine fed (id_line party handle) c.deref.result.now c.give.new.answer.items spelled (c.in_ok-give.ensures.ok fed place.stands_for) in
    let accepts : is_refused one.answer ≡ false = sym (c.is_refusal.ensures one.answer (c.deref-2.ensures.value ∙ one.text_is)) ∙ c.if-is_refusal.false in
    let there = place_more g.M.RunsLines.stands c.args.machine.now c.give.new.machine fed (id_line party handle, one.answer) place one.right one.machine in
    let step = step_spelled party c.deref-3.result.now c.requires.party (c.deref-3.ensures.value ∙ c.in_ok-write_step.ensures) in
    let two = has_given g.M.RunsLines.stands c.give-2.new.machine (fed ++ (id_line party handle, one.answer) ∷ []) (step_line party) c.deref-3.result.now c.give-2.new.answer.items step (c.in_ok-give-2.ensures.ok (fed ++ (id_line party handle, one.answer) ∷ []) there) in
    asked_so g.M.RunsLines.stands c.give-2.new.machine fed party handle one.answer two.answer c.in-Some.id c.args.told.now.items c.give-2.new.told.items place.stands_for.lawful one.right accepts two.right two.machine
    (sym (c.id_of.ensures (script_answer_text two.answer) (c.deref-4.ensures.value ∙ two.text_is)) ∙ c.in-Some.is)
    (c.in_ok-give-2.ensures.told ∙ ap (λ (t : List ℕ). c.give.new.told.items ++ t) two.told ∙ ap (λ (t : List ℕ). t ++ told_text (given (step_line party, two.answer))) (c.in_ok-give.ensures.told ∙ ap (λ (t : List ℕ). c.args.told.now.items ++ t) one.told))
