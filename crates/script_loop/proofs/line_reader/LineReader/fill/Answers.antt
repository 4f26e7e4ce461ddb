use Rattle.std.proofs.Common.{◌≡◌, take, ap, ◌∙◌, rules}
use Rattle.std.specs.Vec.{with_items}
use Rattle.script_loop.proofs.HandLemmas.{keeps_read, keeps_failed, rewritten}
use Rattle.script_loop.proofs.line_reader.LineReader.fill.Goals as goal

pub returns-in_err-count-clause-kept : goal.returns-in_err-count-clause-kept
returns-in_err-count-clause-kept g c =
    let r = c.to_front.new.self in
    let made : (with_items r.bytes c.read_behind.new.bytes).items ≡ c.read_behind.new.bytes = rewritten r.bytes.len c.read_behind.new.bytes r.bytes.items r.bytes.ok.0 (search rules) in
    let same : take r.end c.read_behind.new.bytes ≡ take r.end r.bytes.items = c.read_behind.ensures.front ∙ ap (take r.end) c.deref_mut.ensures.value in
    keeps_failed _ _ _ r.bytes.items c.read_behind.new.bytes _ r.start r.end c.to_front.ensures.hand c.to_front.ensures.front made same c.in_err-count.ensures.err

pub returns-clause-kept : goal.returns-clause-kept
returns-clause-kept g c =
    let r = c.to_front.new.self in
    let made : (with_items r.bytes c.read_behind.new.bytes).items ≡ c.read_behind.new.bytes = rewritten r.bytes.len c.read_behind.new.bytes r.bytes.items r.bytes.ok.0 (search rules) in
    let same : take r.end c.read_behind.new.bytes ≡ take r.end r.bytes.items = c.read_behind.ensures.front ∙ ap (take r.end) c.deref_mut.ensures.value in
    keeps_read _ _ _ r.bytes.items c.read_behind.new.bytes _ r.start r.end c.in_ok-count.count c.to_front.ensures.hand c.to_front.ensures.front made same c.in_ok-count.ensures.ok
