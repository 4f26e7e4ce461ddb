use Rattle.std.proofs.Common.{sym, subst, ◌∙◌}
use Rattle.std.specs.Prelude.{Result}
use Rattle.board_model.specs.declared.answer.Reason.{Reason}
use Rattle.board_model.specs.Requests as requests
use Rattle.script_board_tables.specs.declared.calls.BoardCall.{BoardCall}
use Rattle.script_board_tables.specs.Tables.{published_of, standing_of}
use Rattle.script_judge.specs.Judges.{IsBegun, name_taken}
use Rattle.script_judge.proofs.Stands.{begin_begun, begin_refused, begin_unfree, from_nothing, on_ok}
use Rattle.script_judge.proofs.judge.Judge.begin.Goals as goal

pub returns-in-Some : goal.returns-in-Some
returns-in-Some c = on_ok (λ e s count rep reached. begin_unfree c.args.self.now s rep c.args.party.now c.args.call.now c.requires.line _ c.in-Some.why (sym c.in-Some.is ∙ c.unfree.ensures) (from_nothing _ _ _ c.requires.empty e)) c.push_refused.result c.push_refused.ensures.ok

pub returns-in_ok-put_task-in-Ok : goal.returns-in_ok-put_task-in-Ok
returns-in_ok-put_task-in-Ok c = on_ok (λ e s count rep reached. begin_begun c.args.self.now s rep c.args.party.now c.args.call.now c.requires.line _ (sym c.in-None.is ∙ c.unfree.ensures) c.put_task.new.self c.in-Ok.call c.in_ok-put_task-in-Ok.ensures
    (subst (λ (r : Result BoardCall Reason). IsBegun (standing_of c.args.self.now.boards) (name_taken c.args.self.now c.args.party.now (requests.new_name c.args.call.now)) (requests.request_of (standing_of c.args.self.now.boards) (published_of c.args.self.now.boards) c.args.party.now c.args.call.now) r) c.in-Ok.is c.in_ok-call.ensures)
    (from_nothing _ _ _ c.requires.empty e)) c.push_begun.result c.push_begun.ensures.ok

pub returns-in-Err : goal.returns-in-Err
returns-in-Err c = on_ok (λ e s count rep reached. begin_refused c.args.self.now s rep c.args.party.now c.args.call.now c.requires.line _ (sym c.in-None.is ∙ c.unfree.ensures) c.in-Err.why
    (subst (λ (r : Result BoardCall Reason). IsBegun (standing_of c.args.self.now.boards) (name_taken c.args.self.now c.args.party.now (requests.new_name c.args.call.now)) (requests.request_of (standing_of c.args.self.now.boards) (published_of c.args.self.now.boards) c.args.party.now c.args.call.now) r) c.in-Err.is c.in_ok-call.ensures)
    (from_nothing _ _ _ c.requires.empty e)) c.push_refused-in-Err.result c.push_refused-in-Err.ensures.ok
