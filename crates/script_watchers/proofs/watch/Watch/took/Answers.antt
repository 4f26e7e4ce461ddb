use Rattle.std.proofs.Common.{List, ℕ, refl, sym, subst, ◌∙◌}
use Rattle.std.proofs.lemmas.Bool.{false≢true}
use Rattle.std.proofs.lemmas.Result.{IfOk-weaker}
use Rattle.script_feed.specs.AnswerLooks.{EndsGet, GoesOnGet}
use Rattle.script_watchers.proofs.WatchLemmas.{took_goes, took_got}
use Rattle.script_watchers.proofs.watch.Watch.took.Goals as goal

pub returns-in-Some : goal.returns-in-Some
returns-in-Some c = IfOk-weaker c.got.result _ _ (λ p h fed party x a k fits told.
    took_got c.args.self.now c.got.new.self fed party x a k fits p c.in-Some.text.now c.in-Some.generation (sym (c.is_refusal.ensures a told) ∙ c.if-is_refusal.false) c.in-Gets.is
    (λ go. false≢true (sym (c.in-Some.ensures.goes_on (subst GoesOnGet (sym told) go))))
    (λ got e. c.in-Some.ensures.ends got (subst (λ (bytes : List ℕ). EndsGet bytes got) (sym told) e)) h) c.got.ensures

pub returns-in-None : goal.returns-in-None
returns-in-None c = λ fed party x a k fits told.
    took_goes c.args.self.now c.args.self.now fed party x a k fits (sym (c.is_refusal.ensures a told) ∙ c.if-is_refusal.false) c.in-Gets.is
    (λ got e. c.in-None.ensures.ends got (subst (λ (bytes : List ℕ). EndsGet bytes got) (sym told) e)) refl
