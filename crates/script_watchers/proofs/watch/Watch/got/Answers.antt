use Rattle.std.proofs.Common.{◌≡◌, ℕ, ◌+◌, length, refl, ap, ◌∙◌, arith}
use Rattle.std.proofs.lemmas.Result.{IfOk-weaker}
use Rattle.script_watchers.specs.declared.watch.Watch.{Watch}
use Rattle.script_watchers.specs.Watches.{phase_after}
use Rattle.script_watchers.proofs.WatchLemmas.{got_so}
use Rattle.script_watchers.proofs.watch.Watch.got.Goals as goal

pub returns : goal.returns
returns c = IfOk-weaker c.report.result _ _ (λ p h got is.
    let old : Watch = c.args.self.now in
    let count : c.len.result ≡ length old.calls.items = omega (arith, c.len.ensures, old.calls.ok.0) in
    let mid : Watch = record { listener = old.listener; rows = old.rows; phase = c.phase_after-self.result; ids = old.ids; calls = old.calls; got = old.got + 1; reported = old.reported; told = old.told } in
    got_so old mid c.report.new.self c.index.result.now c.args.text.now c.args.generation p got h is c.requires.room c.index.ensures refl refl refl refl refl
    (c.phase_after-self.ensures ∙ ap (λ (n : ℕ). phase_after (old.got + 1) n) count)) c.report.ensures
