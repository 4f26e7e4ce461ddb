use Rattle.std.proofs.Common.{rules, ◌≡◌, ◌+◌, length, IfSome, [], ◌∷◌, ◌++◌, option_to_list, sym, ap, ◌∙◌, subst}
use Rattle.std.proofs.lemmas.List.Elements.{All-pop, All-push, All-same}
use Rattle.board_cell.specs.Passes.{ReaderSeen}
use Rattle.board_bench.specs.Watchers.{IsOf, capped, gets_of}
use Rattle.board_bench.proofs.Counting.{gets_of-push, moved}
use Rattle.board_bench.proofs.Reading.{pass_moved}
use Rattle.board_bench.proofs.shared.passes_of.Goals as goal

pub watchers-preserved : goal.watchers-preserved
watchers-preserved c =
    let i = c.watchers.invariant in
    let a = All-pop (IsOf c.args.cell.now) _ _ c.pop.result c.pop.ensures.items i.0 in
    let o : IsOf c.args.cell.now c.in-Some.watcher = subst (λ r. IfSome r (IsOf c.args.cell.now)) c.in-Some.is a.1 in
    let popped : c.watchers.watchers.items ≡ c.pop.new.self.items ++ c.in-Some.watcher ∷ [] = subst (λ r. c.watchers.watchers.items ≡ c.pop.new.self.items ++ option_to_list r) c.in-Some.is c.pop.ensures.items in
    let pushed : c.push.new.self.items ≡ c.watchers.passes.items ++ c.in-Some.watcher.pass ∷ [] = search rules in
    let more : c.saturating_add-gets.result ≡ capped (gets_of c.watchers.passes.items + capped (length c.in-Some.watcher.pass.notes)) = search (rules, o.gets, i.3) in
    (a.0, All-same (λ (p : ReaderSeen). p.cell ≡ c.args.cell.now.cell) _ _ pushed (All-push (λ (p : ReaderSeen). p.cell ≡ c.args.cell.now.cell) _ _ i.1 o.pass), moved _ _ _ _ _ _ _ popped pushed i.2, more ∙ gets_of-push c.watchers.passes.items c.in-Some.watcher.pass ∙ ap gets_of (sym pushed), pass_moved _ _ _ _ _ _ popped pushed i.4)
