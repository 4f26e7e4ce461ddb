use Rattle.std.proofs.Common.{◌≡◌, refl, sym, ap, subst, ◌∙◌, Some, None}
use Rattle.board_model.specs.declared.answer.Answer.TheVariants as answer
use Rattle.board_model.specs.declared.answer.Reason.{Reason}
use Rattle.board_model.specs.LawfulSession.{free_reason}
use Rattle.board_model.specs.AnswerGrammar.{answer_line}
use Rattle.script_boards.proofs.Listings.{on_ok}
use Rattle.script_model.specs.declared.line.ScriptLine.TheVariants as line
use Rattle.script_model.specs.ScriptSession.{IsRight}
use Rattle.script_model.specs.ScriptTurns.{expire_of_call, refused}
use Rattle.script_machine.specs.ScriptMachine.{no_wait}
use Rattle.script_machine.proofs.Turns.{expire_free, expire_unfree, expired_told, from_nothing, never_some, refusal_told, told_refused}
use Rattle.script_machine.proofs.Wants.{expired_right, refusal_right, refused_wants, told_wants}
use Rattle.script_model.specs.ScriptAnswers.{expired, of_boards}
use Rattle.script_machine.proofs.machine.Machine.expire.Goals as goal

pub returns-in-Some-clause-tells : goal.returns-in-Some-clause-tells
returns-in-Some-clause-tells g c = on_ok (λ e s count rep reached.
    let why : Some c.in-Some.why ≡ free_reason (s.boards.parties c.args.party.now) None = sym c.in-Some.is ∙ c.refusal_of_party.ensures.reason s.boards rep.boards in
    told_refused _ s (line.Expire c.args.party.now) (no_wait c.in-Some.why) _ (expire_unfree s c.args.party.now c.in-Some.why why) c.requires.line rep
    (from_nothing _ _ _ c.requires.empty e ∙ ap (λ (w : Reason). answer_line (answer.Refused w)) c.no_wait.ensures)) c.push_refused.result c.push_refused.ensures.ok

pub returns-in-Some-expire-clause-tells : goal.returns-in-Some-expire-clause-tells
returns-in-Some-expire-clause-tells g c = on_ok (λ e s count rep reached.
    let free : None ≡ free_reason (s.boards.parties c.args.party.now) None = never_some c.refusal_of_party.result c.in_default.not-Some ∙ c.refusal_of_party.ensures.reason s.boards rep.boards in
    let turned = c.expire.ensures s.events count reached.few reached.sound.events rep.events in
    refusal_told _ s (line.Expire c.args.party.now) (expire_of_call c.args.party.now (s.events.asked c.args.party.now) (s.events.session.doing c.args.party.now)) c.in-Some-expire.why _
    (expire_free s c.args.party.now free) c.requires.line (sym c.in-Some-expire.is ∙ turned.told_is)
    (λ a. record { alive = rep.alive; boards = rep.boards; events = turned.represents a }) (from_nothing _ _ _ c.requires.empty e)) c.push_refused-in-Some-expire.result c.push_refused-in-Some-expire.ensures.ok

pub returns-in-None-clause-tells : goal.returns-in-None-clause-tells
returns-in-None-clause-tells g c = on_ok (λ e s count rep reached.
    let free : None ≡ free_reason (s.boards.parties c.args.party.now) None = never_some c.refusal_of_party.result c.in_default.not-Some ∙ c.refusal_of_party.ensures.reason s.boards rep.boards in
    let turned = c.expire.ensures s.events count reached.few reached.sound.events rep.events in
    expired_told _ s c.args.party.now _ (expire_free s c.args.party.now free) c.requires.line (sym c.in-None.is ∙ turned.told_is)
    (λ a. record { alive = rep.alive; boards = rep.boards; events = turned.represents a }) (from_nothing _ _ _ c.requires.empty e)) c.push_expired.result c.push_expired.ensures.ok

pub returns-in-Some-clause-memory : goal.returns-in-Some-clause-memory
returns-in-Some-clause-memory g c =
    refused_wants c.push_refused.result c.args.self.now (line.Expire c.args.party.now) c.args.out.now c.no_wait.result c.push_refused.ensures.room (λ s count rep reached.
    let why : Some c.in-Some.why ≡ free_reason (s.boards.parties c.args.party.now) None = sym c.in-Some.is ∙ c.refusal_of_party.ensures.reason s.boards rep.boards in
    subst (λ (w : Reason). IsRight s (line.Expire c.args.party.now) (of_boards (answer.Refused w))) (sym c.no_wait.ensures)
    (refusal_right s (line.Expire c.args.party.now) (refused (no_wait c.in-Some.why)) (no_wait c.in-Some.why) (expire_unfree s c.args.party.now c.in-Some.why why) c.requires.line refl))

pub returns-in-Some-expire-clause-memory : goal.returns-in-Some-expire-clause-memory
returns-in-Some-expire-clause-memory g c =
    refused_wants c.push_refused-in-Some-expire.result c.args.self.now (line.Expire c.args.party.now) c.args.out.now c.in-Some-expire.why c.push_refused-in-Some-expire.ensures.room (λ s count rep reached.
    let free : None ≡ free_reason (s.boards.parties c.args.party.now) None = never_some c.refusal_of_party.result c.in_default.not-Some ∙ c.refusal_of_party.ensures.reason s.boards rep.boards in
    let turned = c.expire.ensures s.events count reached.few reached.sound.events rep.events in
    refusal_right s (line.Expire c.args.party.now) (expire_of_call c.args.party.now (s.events.asked c.args.party.now) (s.events.session.doing c.args.party.now)) c.in-Some-expire.why (expire_free s c.args.party.now free) c.requires.line (sym c.in-Some-expire.is ∙ turned.told_is))

pub returns-in-None-clause-memory : goal.returns-in-None-clause-memory
returns-in-None-clause-memory g c =
    told_wants c.push_expired.result c.args.self.now (line.Expire c.args.party.now) c.args.out.now expired c.push_expired.ensures.room
    (λ s count rep reached.
    let free : None ≡ free_reason (s.boards.parties c.args.party.now) None = never_some c.refusal_of_party.result c.in_default.not-Some ∙ c.refusal_of_party.ensures.reason s.boards rep.boards in
    let turned = c.expire.ensures s.events count reached.few reached.sound.events rep.events in
    expired_right s c.args.party.now (expire_free s c.args.party.now free) c.requires.line (sym c.in-None.is ∙ turned.told_is))
    (λ s count rep reached no. absurd (no tt))
