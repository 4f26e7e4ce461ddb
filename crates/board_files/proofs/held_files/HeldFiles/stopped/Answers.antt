use Rattle.std.proofs.Common.{rules, ◌≡◌, ◌≤◌, take, length, get_or, min, sym, ◌∙◌, ap, subst}
use Rattle.std.proofs.lemmas.List.{take_all, take_min}
use Rattle.board_files.specs.Changes.{told_after, stopped_at}
use Rattle.board_files.proofs.ChangeLemmas.{stopped-next, stopped-all, told_after-take}
use Rattle.board_files.proofs.held_files.HeldFiles.stopped.Goals as goal

pub loop-change-init : goal.loop-change-init
loop-change-init c = c.new-stopped.ensures

pub loop-change-preserved : goal.loop-change-preserved
loop-change-preserved c =
    let front = take c.min.result c.deref.result.now in
    let shared : c.in_ok-share.field-0 ≡ c.change-item.result = search rules in
    let item : c.in_ok-share.field-0 ≡ get_or front c.loop-change.change-index c.in_ok-share.field-0 =
    shared ∙ c.change-item.is ∙ ap (get_or front c.loop-change.change-index) (sym shared) in
    stopped-next front c.loop-change.change-index c.in_ok-share.field-0 c.loop-change.stopped c.make.new.self c.loop-change-test.true item c.loop-change.invariant c.in_ok-make.ensures.ok

pub returns-clause-front : goal.returns-clause-front
returns-clause-front c =
    let changes = c.self.inside.changes.items in
    let front = take c.min.result c.deref.result.now in
    let all : take c.loop-change.change-index front ≡ front = take_all c.loop-change.change-index front c.loop-change-test.false in
    let most : front ≡ take (min c.args.count (length changes)) changes = search rules in
    c.loop-change.invariant ∙ ap told_after (all ∙ most ∙ take_min c.args.count changes) ∙ told_after-take c.args.count changes ∙ ap (stopped_at c.args.count) c.self.view_is

pub returns-clause-all : goal.returns-clause-all
returns-clause-all c = λ few.
    let changes = c.self.inside.changes.items in
    let front = take c.min.result c.deref.result.now in
    let all : take c.loop-change.change-index front ≡ front = take_all c.loop-change.change-index front c.loop-change-test.false in
    let most : front ≡ take (min c.args.count (length changes)) changes = search rules in
    let few' : length (told_after changes).moments ≤ c.args.count = subst (λ t. length t.moments ≤ c.args.count) (sym c.self.view_is) few in
    c.loop-change.invariant ∙ ap told_after (all ∙ most ∙ take_min c.args.count changes) ∙ told_after-take c.args.count changes
    ∙ stopped-all c.args.count changes few' ∙ c.self.view_is
