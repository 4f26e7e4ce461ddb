use Rattle.std.proofs.Common.{◌≡◌, ◌≤◌, arith, rules, drop, take, ◌+◌, ◌-◌, length, ◌∙◌, refl}
use Rattle.std.proofs.lemmas.List.{drop_all, length-append, length-drop}
use Rattle.script_loop.proofs.Pieces.{read_front}
use Rattle.script_loop.proofs.memory.ends.MemorySourceSource.read.Goals as goal

pub returns-clause-bytes : goal.returns-clause-bytes
returns-clause-bytes c =
    let at = c.args.self.now.at in
    let bs = c.args.self.now.bytes.items in
    let n = c.piece_of-count.result in
    let m = c.copy_from_slice.new.self in
    let k : at + n - at ≡ n = omega arith in
    let le : at + n ≤ length bs = search rules in
    let e : m ≡ take n (drop at bs) = c.copy_from_slice.ensures.after ∙ rw (c.deref-2.ensures.value, k) refl in
    (read_front bs m (drop n c.args.buf.now) at n e le, λ z some. drop_all (at + n) bs (search (rules, length-append, length-drop)))
