use Rattle.script_judge.proofs.Others.{words_none, words_told}
use Rattle.script_judge.proofs.Stands.{from_nothing, on_ok}
use Rattle.script_judge.proofs.judge.Judge.words.Goals as goal

pub returns-then-not-stands : goal.returns-then-not-stands
returns-then-not-stands c = on_ok (λ e s count rep reached. words_none c.args.self.now s count rep reached c.args.board c.requires.line _ c.stands.result c.stands.ensures c.if-not-stands.true (from_nothing _ _ _ c.requires.empty e)) c.push_refused.result c.push_refused.ensures.ok

pub returns : goal.returns
returns c = on_ok (λ e s count rep reached. words_told c.args.self.now s count rep reached c.args.board c.requires.line _ c.stands.result c.stands.ensures c.words.result.now c.if-not-stands.false c.words.ensures (from_nothing _ _ _ c.requires.empty e)) c.push_words.result c.push_words.ensures.ok
