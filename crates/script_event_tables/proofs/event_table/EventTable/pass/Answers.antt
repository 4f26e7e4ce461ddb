use Rattle.std.proofs.Common.{◌≤◌, length, refl, rules, arith}
use Rattle.std.specs.Prelude.{slice_index_or, []}
use Rattle.script_event_tables.proofs.Abandonments.{went}
use Rattle.script_event_tables.proofs.event_table.EventTable.pass.Goals as goal

pub returns-then-place-len-clause-passed : goal.returns-then-place-len-clause-passed
returns-then-place-len-clause-passed c = λ s h. went c.args.self.now s (slice_index_or c.args.self.now.listeners c.args.place []) c.args.place c.requires h _ c.index_mut-row.result.now c.abandon_listener.new.self refl refl refl c.index_mut-row.ensures.value c.abandon_listener.ensures refl

-- each listener has its row
pub returns-else-place-len-clause-passed : goal.returns-else-place-len-clause-passed
returns-else-place-len-clause-passed c = λ s h.
    let past : length c.args.self.now.rows.items ≤ c.args.place = search rules in
    absurd (let low = c.requires in let n = h.count in let m = h.each in omega (arith, past, low, n, m))
