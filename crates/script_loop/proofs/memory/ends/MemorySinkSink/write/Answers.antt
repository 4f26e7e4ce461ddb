use Rattle.std.proofs.Common.{arith, inl, inr, refl, rules}
use Rattle.std.proofs.lemmas.Grind.{common_steps}
use Rattle.script_loop.specs.Memory.{CannotTake}
use Rattle.script_loop.proofs.memory.ends.MemorySinkSink.write.Goals.{then-contains-via-then-contains, then-contains-via-else-contains+then-is_full}
use Rattle.script_loop.proofs.memory.ends.MemorySinkSink.write.Goals as goal

pub returns-then-contains-clause-fails : goal.returns-then-contains-clause-fails
returns-then-contains-clause-fails c = (λ fails. cannot, λ h. refl)
  where
    cannot : CannotTake c.args.self.now c.args.bytes.now
    cannot = elim c.then-contains.branch [
      | then-contains-via-then-contains w ↦ inl (grind (arith, common_steps, w.if-contains, c.contains.ensures.cases))
      | then-contains-via-else-contains+then-is_full w ↦ inr (c.finds_no_room-is_full.ensures.0 (search rules))
    ]
