use Rattle.std.proofs.Common.{◌≡◌, ◌<◌, ◌+◌, ◌/◌, ℕ, ap, sym, ◌∙◌, subst}
use Rattle.board_event_model.specs.Ids.{Ids}
use Rattle.board_event_model.specs.EventMemory.{Event}
use Rattle.board_event_core.specs.declared.event_memory.Pending.{Pending}
use Rattle.board_event_core.specs.Memories.{IsPendingOf, ids_in}
use Rattle.board_event_core.specs.Passing.{NoneBetween}
use Rattle.board_event_core.proofs.event_memory.EventMemory.next_word.Goals as goal

pub returns-clause-none : goal.returns-clause-none
returns-clause-none c =
    let seen : ids_in c.self.inside.pending ≡ c.args.self.now.pending = ap (λ (e : Event). e.pending) c.self.view_is in
    let held : ids_in c.self.inside.pending ≡ c.in-Bits.bits.ids = ap ids_in c.in-Bits.is in
    subst (λ (s : Ids). NoneBetween s c.args.word c.next_word.result) (sym held ∙ seen) c.next_word.ensures.none

pub returns-clause-reachable : goal.returns-clause-reachable
returns-clause-reachable c =
    let seen : c.self.inside.max ≡ c.args.self.now.max = ap (λ (e : Event). e.max) c.self.view_is in
    let same : c.in-Bits.bits.max ≡ c.self.inside.max = subst (λ (p : Pending). IsPendingOf c.self.inside.max p) c.in-Bits.is c.self.invariant in
    record {
      kind = c.requires.kind;
      inside = subst (λ (max : ℕ). c.next_word.result < max / 64 + 1) (same ∙ seen) c.next_word.ensures.within;
    }
