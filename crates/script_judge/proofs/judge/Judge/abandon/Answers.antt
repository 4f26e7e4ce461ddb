use Rattle.std.proofs.Common.{◌≡◌, sym, ◌∙◌, Some, rules}
use Rattle.board_model.specs.declared.answer.Reason.TheVariants as reason
use Rattle.script_judge.proofs.Others.{abandon_again, abandon_first}
use Rattle.script_judge.proofs.Stands.{from_nothing, on_ok}
use Rattle.script_judge.proofs.judge.Judge.abandon.Goals as goal

pub returns-then-eq : goal.returns-then-eq
returns-then-eq c = on_ok (λ e s count rep reached. abandon_again c.args.self.now s count rep reached c.args.party.now _ (let w : c.unfree.result ≡ Some reason.Abandoned = search rules in sym c.unfree.ensures ∙ w) c.requires.line (from_nothing _ _ _ c.requires.empty e)) c.push_refused.result c.push_refused.ensures.ok

pub returns : goal.returns
returns c = on_ok (λ e s count rep reached. abandon_first c.args.self.now s count rep reached c.args.party.now _ c.put_task.new.self c.abandon.new.self c.in_ok-put_task.ensures c.abandon.ensures (λ h. (let w : c.unfree.result ≡ Some reason.Abandoned = c.unfree.ensures ∙ h in search rules)) c.requires.line (from_nothing _ _ _ c.requires.empty e)) c.push_gone.result c.push_gone.ensures.ok
