use Rattle.std.proofs.Common.{◌≤◌, ◌+◌, refl, rules}
use Rattle.board_model.specs.Lines.{IsOneLine}
use Rattle.script_loop.specs.Reader.{between}
use Rattle.script_loop.proofs.HandLemmas.{all_lack, fits, front_lacks}
use Rattle.script_loop.proofs.line_reader.LineReader.newline_from.Goals as goal

pub returns-in_err-at-clause-none : goal.returns-in_err-at-clause-none
returns-in_err-at-clause-none c =
    let r = c.args.self.now in
    let le : r.start + c.args.searched ≤ r.end = fits r.bytes.items r.start r.end c.args.searched r.ordered c.requires.inside in
    let one : IsOneLine (between r.bytes.items r.start r.end) = all_lack r.bytes.items r.start r.end c.args.searched (r.start + c.args.searched) c.newline_in.result le refl c.in_err-at.was (rw (← c.deref.ensures.value) c.newline_in.ensures.none) c.requires.none_before in
    rw c.from_residual.ensures one

pub returns-clause-first : goal.returns-clause-first
returns-clause-first c =
    let r = c.args.self.now in
    let le : r.start + c.args.searched ≤ r.end = search rules in
    front_lacks r.bytes.items r.start r.end c.args.searched c.in_ok-at.at (r.start + c.args.searched) le refl (rw (← c.deref.ensures.value) c.in_ok-at.ensures.first) c.requires.none_before
