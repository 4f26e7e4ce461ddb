use Rattle.std.proofs.Common.{◌≡◌, ◌∙◌, ◌++◌, ◌<◌, Bool, Some, length, ap, rules, subst, sym, false, true}
use Rattle.board_event_core.specs.EventTable.{changed}
use Rattle.board_event_model.specs.declared.access.EventAccess.{EventAccess}
use Rattle.board_event_model.specs.declared.call.EventProgress.{EventProgress}
use Rattle.board_event_model.specs.EventCalls.{is_last, reported}
use Rattle.board_event_model.specs.EventMemory.{after}
use Rattle.script_model.specs.declared.reply.EventReply.{EventReply}
use Rattle.script_model.specs.ScriptEvents.{end_told, is_for_all}
use Rattle.script_events.specs.declared.step.Stepped.TheVariants as stepped
use Rattle.script_model.specs.Reports.{StartsWord}
use Rattle.script_events.specs.PartyEvents.{event_call}
use Rattle.script_events.proofs.Options.{anyway}
use Rattle.script_events.proofs.Running.{same_many, turn_words}
use Rattle.script_events.proofs.Steps.{gives_at}
use Rattle.script_events.proofs.rows.Act.step.Goals as goal

pub report-requires : goal.report-requires
report-requires c = subst StartsWord (sym c.step-step.ensures.progress) (turn_words (event_call c.args.self.now.call) c.step-step.result.answer)

pub returns-then-is_last-clause-told : goal.returns-then-is_last-clause-told
returns-then-is_last-clause-told c =
    let a = c.args.self.now in
    let p = c.step-step.result.progress in
    let last : is_last p ≡ true = search rules in
    let ids : c.replace-ids.result.items ≡ a.told.items ++ reported p = search rules in
    let many : c.is_for_all.result ≡ is_for_all (event_call a.call) = c.is_for_all.ensures ∙ ap is_for_all c.step-step.ensures.goes_on ∙ same_many (event_call a.call) c.step-step.result.answer in
    let told : c.end_told-told.result ≡ end_told (is_for_all (event_call a.call)) a.told.items p = c.end_told-told.ensures a.told.items ids ∙ ap (λ (b : Bool). end_told b a.told.items p) many in
    record {
      step = c.step-step.result;
      next = event_call c.step-step.new.self;
      made = c.step-step.ensures;
      told_is = rw last (ap (λ (r : EventReply). stepped.Acted a.event c.step-step.result.access c.step-step.result.answer (Some r)) told);
      left = λ more. absurd (let no : true ≡ false = sym last ∙ more in cc);
    }

pub returns-in_err-report-clause-memory : goal.returns-in_err-report-clause-memory
returns-in_err-report-clause-memory c =
    let step = c.step-step.ensures in
    anyway c.from_residual.result _ (gives_at c.args.events.now c.args.self.now.event (event_call c.args.self.now.call) c.step-step.result.access c.step-step.result.answer step.right step.owes
    (subst (λ (p : EventProgress). 0 < length (reported p)) step.progress c.in_err-report.ensures.memory))

pub returns-in_err-report-clause-events : goal.returns-in_err-report-clause-events
returns-in_err-report-clause-events c =
    let step = c.step-step.ensures in
    anyway c.from_residual.result _ (step.memory ∙ ap (λ (a : EventAccess). changed c.args.events.now c.args.self.now.event (λ e. after e a)) step.owes)
