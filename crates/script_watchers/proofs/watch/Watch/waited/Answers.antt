use Rattle.std.proofs.Common.{◌≡◌, ℕ, true, List, length, refl, sym, ap, ◌∙◌, arith, rules, Some}
use Rattle.script_model.specs.ScriptAnswers.{script_answer_text}
use Rattle.script_watches.specs.Watchings.{ids_by}
use Rattle.script_watchers.specs.declared.watch.Watch.{Watch}
use Rattle.script_watchers.specs.ToldIds.{ids_if}
use Rattle.script_watchers.specs.Watches.{phase_after}
use Rattle.script_watchers.proofs.WatchLemmas.{waited_so}
use Rattle.script_watchers.proofs.watch.Watch.waited.Goals as goal

pub returns : goal.returns
returns c = λ x begun steps m a k e fits bytes.
    let old : Watch = c.args.self.now in
    let ids : List ℕ = c.read_ids.new.ids.items in
    let test = c.if-not-branch.false in
    let told : c.in_ok-read_ids.field-0 ≡ true = first_of (search rules, grind arith) in
    let some : ids_by a ≡ Some ids = sym fits ∙ c.in_ok-read_ids.ensures (script_answer_text a) bytes ∙ ap (λ b. ids_if b ids) told in
    let count : c.len.result ≡ length c.collect.new.calls.items = omega (arith, c.len.ensures, c.collect.new.calls.ok.0) in
    let new : Watch = record { listener = old.listener; rows = old.rows; phase = c.phase_after-self.result; ids = c.read_ids.new.ids; calls = c.collect.new.calls; got = 0; reported = old.reported; told = old.told } in
    waited_so old new x begun steps m a ids k some refl refl refl c.in_ok-collect.ensures refl (c.phase_after-self.ensures ∙ ap (λ (n : ℕ). phase_after 0 n) count)
