use Rattle.std.proofs.Common.{arith, ◌≤◌, ◌<◌, subst, sym}
use Rattle.board_event_model.specs.declared.call.WaitStage.{WaitStage}
use Rattle.board_event_model.specs.WaitCalls.{Wait, wait_of}
use Rattle.board_event_core.specs.Passing.{word_at}
use Rattle.board_event_core.specs.Waits.{IsStage}
use Rattle.board_event_core.proofs.PassLemmas.{goes_to_scan, goes_to_swap}
use Rattle.board_event_core.proofs.wait_call.WaitCall.go_on_to.Goals as goal

pub returns-in-Scan-clause-to : goal.returns-in-Scan-clause-to
returns-in-Scan-clause-to c =
    let before = wait_of c.self.inside.words c.self.inside.many c.self.inside.mode c.self.inside.stage in
    let inside : c.in-Scan.word < c.self.inside.words = subst (λ (s : WaitStage). IsStage c.self.inside.words s) c.in-Scan.is c.self.invariant.stage in
    let asked : word_at c.self.inside.stage ≤ c.args.other = subst (λ (w : Wait). word_at w.stage ≤ c.args.other) (sym c.self.view_is) c.requires in
    let from : c.in-Scan.word ≤ c.args.other = subst (λ (s : WaitStage). word_at s ≤ c.args.other) c.in-Scan.is asked in
    goes_to_scan before c.args.self.now c.in-Scan.word c.args.other c.min-word.result c.self.view_is c.in-Scan.is
    (omega (arith, c.min-word.ensures, from, inside)) (omega (arith, c.min-word.ensures)) (omega (arith, c.min-word.ensures, inside))

pub returns-in-Swap-clause-to : goal.returns-in-Swap-clause-to
returns-in-Swap-clause-to c =
    let before = wait_of c.self.inside.words c.self.inside.many c.self.inside.mode c.self.inside.stage in
    let inside : c.in-Swap.word < c.self.inside.words = subst (λ (s : WaitStage). IsStage c.self.inside.words s) c.in-Swap.is c.self.invariant.stage in
    let asked : word_at c.self.inside.stage ≤ c.args.other = subst (λ (w : Wait). word_at w.stage ≤ c.args.other) (sym c.self.view_is) c.requires in
    let from : c.in-Swap.word ≤ c.args.other = subst (λ (s : WaitStage). word_at s ≤ c.args.other) c.in-Swap.is asked in
    goes_to_swap before c.args.self.now c.in-Swap.word c.args.other c.min-word.result c.in-Swap.some c.self.view_is c.in-Swap.is
    (omega (arith, c.min-word.ensures, from, inside)) (omega (arith, c.min-word.ensures)) (omega (arith, c.min-word.ensures, inside))
