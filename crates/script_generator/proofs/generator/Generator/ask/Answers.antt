use Rattle.std.proofs.Common.{◌≡◌, ℕ, List, arith, sym, subst, ◌∙◌}
use Rattle.board_model.specs.declared.line.Line.{Line}
use Rattle.board_model.specs.declared.line.Line.TheVariants as line
use Rattle.script_generator.specs.Counting.{SpellsPlain}
use Rattle.script_generator.proofs.GeneratorRuns.{ran_both, runs_on}
use Rattle.script_boards.proofs.Listings.{on_ok}
use Rattle.script_generator.proofs.generator.Generator.ask.Goals as goal

same_bytes : (xs ys : List ℕ) (l : Line) → xs ≡ ys → SpellsPlain ys l → SpellsPlain xs l
same_bytes xs ys l e h = subst (λ (x : List ℕ). SpellsPlain x l) (sym e) h

pub run-requires-2-clause-room : goal.run-requires-2-clause-room
run-requires-2-clause-room c =
    let l = line.Begin c.args.party.now c.requires.asked.0 in
    let begin = same_bytes c.deref.result.now _ l (c.deref.ensures.value ∙ c.in_ok-write_begin.ensures) c.requires.asked.1.begin in
    runs_on c.args.self.now c.run.new.self 2 1 _ c.requires.room (c.in_ok-run.ensures l begin) (omega arith)

pub returns : goal.returns
returns c =
    on_ok (λ h. λ call asked.
    let party = c.args.party.now in
    let begin = same_bytes c.deref.result.now _ (line.Begin party call) (c.deref.ensures.value ∙ c.in_ok-write_begin.ensures) asked.begin in
    let step = same_bytes c.deref-2.result.now _ (line.Step party) (c.deref-2.ensures.value ∙ c.in_ok-write_step.ensures) asked.step in
    ran_both c.args.self.now c.run.new.self c.run-2.new.self _ _ (c.in_ok-run.ensures (line.Begin party call) begin) (h (line.Step party) step))
    c.run-2.result c.run-2.ensures
