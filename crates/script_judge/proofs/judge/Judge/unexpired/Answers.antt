use Rattle.std.proofs.Common.{true, false, refl, sym, ap, ◌∙◌, Some, None}
use Rattle.script_judge.specs.declared.task.Task.{Task}
use Rattle.script_judge.specs.declared.task.Task.TheVariants as task
use Rattle.std.specs.Option.{option_copied}
use Rattle.board_model.specs.declared.answer.Reason.TheVariants as reason
use Rattle.script_judge.specs.Judges.{task_of}
use Rattle.script_judge.proofs.EventSteps.{expiry_of, may_expire_so}
use Rattle.script_judge.proofs.judge.Judge.unexpired.Goals as goal

pub returns-in-None : goal.returns-in-None
returns-in-None c = expiry_of (task_of c.args.self.now c.args.party.now) None (Some reason.Idle) (sym c.get.ensures.value ∙ ap option_copied c.in-None.is) refl

pub returns-in-Gone : goal.returns-in-Gone
returns-in-Gone c = expiry_of (task_of c.args.self.now c.args.party.now) (Some task.Gone) (Some reason.Abandoned) (sym c.get.ensures.value ∙ ap option_copied c.in-Some.is ∙ ap (λ (t : Task). Some t) c.in-Gone.is) refl

pub returns-in-OnBoards : goal.returns-in-OnBoards
returns-in-OnBoards c = expiry_of (task_of c.args.self.now c.args.party.now) _ (Some reason.NotWaiting) (sym c.get.ensures.value ∙ ap option_copied c.in-Some.is ∙ ap (λ (t : Task). Some t) c.in-OnBoards.is) refl

pub returns-in-Asks : goal.returns-in-Asks
returns-in-Asks c = expiry_of (task_of c.args.self.now c.args.party.now) _ (Some reason.NotWaiting) (sym c.get.ensures.value ∙ ap option_copied c.in-Some.is ∙ ap (λ (t : Task). Some t) c.in-Asks.is) refl

pub returns-then-may_expire : goal.returns-then-may_expire
returns-then-may_expire c = expiry_of (task_of c.args.self.now c.args.party.now) _ None (sym c.get.ensures.value ∙ ap option_copied c.in-Some.is ∙ ap (λ (t : Task). Some t) c.in-OnEvent.is) (λ r kept. may_expire_so c.may_expire.result r (c.may_expire.ensures r kept) true c.if-may_expire.true)

pub returns-else-may_expire : goal.returns-else-may_expire
returns-else-may_expire c = expiry_of (task_of c.args.self.now c.args.party.now) _ (Some reason.NotWaiting) (sym c.get.ensures.value ∙ ap option_copied c.in-Some.is ∙ ap (λ (t : Task). Some t) c.in-OnEvent.is) (λ r kept. may_expire_so c.may_expire.result r (c.may_expire.ensures r kept) false c.if-may_expire.false)
