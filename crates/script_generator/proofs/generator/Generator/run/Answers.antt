use Rattle.std.proofs.Common.{◌≡◌, ℕ, List, ap, subst, ◌∙◌, Err}
use Rattle.script_model.specs.declared.line.ScriptLine.TheVariants as script_line
use Rattle.script_loop.specs.declared.error.LineError.{LineError}
use Rattle.script_generator.specs.Counting.{OfAnswer, counted_with}
use Rattle.script_generator.proofs.GeneratorRuns.{ran_line, run_low}
use Rattle.script_generator.proofs.generator.Generator.run.Goals as goal

pub count-requires : goal.count-requires
count-requires c = run_low c.args.self.now 1 c.requires.room

pub unreachable-requires : goal.unreachable-requires
unreachable-requires c =
    c.line.ensures.bad (c.in-Err-Bad.is ∙ ap (λ (e : LineError). Err e) c.in-Err-Bad.field-0-is) (script_line.Board c.requires.plain.0) c.requires.plain.1.spelled

pub returns-in-Ok : goal.returns-in-Ok
returns-in-Ok c =
    let counts : OfAnswer c.line.new.answer.items (λ a. c.count.new.self ≡ counted_with c.args.self.now.counts a) =
    subst (λ (text : List ℕ). OfAnswer text (λ a. c.count.new.self ≡ counted_with c.args.self.now.counts a)) c.deref.ensures.value c.count.ensures in
    λ l spells. ran_line c.args.self.now _ c.args.line.now c.line.new.answer.items c.in-Ok.ensures.ok counts l spells 1 c.requires.room
