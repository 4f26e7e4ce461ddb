use Rattle.std.proofs.Common.{◌≡◌, true, refl, sym, ◌∙◌, arith, rules}
use Rattle.std.proofs.lemmas.Bool.{false≢true}
use Rattle.std.proofs.lemmas.Result.{IfOk-weaker}
use Rattle.script_shots.proofs.ShotLemmas.{took_goes, took_got}
use Rattle.script_shots.proofs.shot.Shot.took.Goals as goal

pub returns-in-Some : goal.returns-in-Some
returns-in-Some c =
    let test = c.if-not-self.false in
    let runs : c.args.self.now.runs ≡ true = first_of (search rules, grind arith) in
    IfOk-weaker c.got.result _ _ (λ p h fed party x a k fits told.
    took_got c.args.self.now c.got.new.self fed party x a c.args.answer.now k fits told p c.in-Some.text.now c.in-Some.generation (sym (c.is_refusal.ensures a told) ∙ c.if-is_refusal.false) runs (λ go. false≢true (sym (c.in-Some.ensures.goes_on go))) c.in-Some.ensures.ends h) c.got.ensures

pub returns-in-None : goal.returns-in-None
returns-in-None c = λ fed party x a k fits told.
    let test = c.if-not-self.false in
    let runs : c.args.self.now.runs ≡ true = first_of (search rules, grind arith) in
    took_goes c.args.self.now c.args.self.now fed party x a c.args.answer.now k fits told (sym (c.is_refusal.ensures a told) ∙ c.if-is_refusal.false) runs (λ got e. c.in-None.ensures.ends got e) refl
