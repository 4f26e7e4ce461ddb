use Rattle.std.proofs.Common.{◌≡◌, [], ◌∷◌, ◌++◌, sym, ◌∙◌, ap, subst}
use Rattle.board_files.specs.Changes.{applied, FreesName, replayed, told_after}
use Rattle.board_files.specs.Files.{moved}
use Rattle.board_files.proofs.ChangeLemmas.{replayed-push, told_after-push}
use Rattle.board_files.proofs.held_files.HeldFiles.make.Goals as goal

pub invariant_of-self-2 : goal.invariant_of-self-2
invariant_of-self-2 c =
    let changes = c.self.inside.changes.items in
    let items : c.push_reserved.new.self.items ≡ changes ++ c.args.change ∷ [] = c.push_reserved.ensures.items ∙ ap (λ l. l ++ c.args.change ∷ []) c.in_ok-reserve.ensures.items in
    c.in_ok-apply.ensures.ok ∙ ap (applied c.args.change) c.self.invariant ∙ sym (replayed-push [] changes c.args.change) ∙ ap (replayed []) (sym items)

pub returns-clause-ok : goal.returns-clause-ok
returns-clause-ok c =
    let changes = c.self.inside.changes.items in
    let items : c.push_reserved.new.self.items ≡ changes ++ c.args.change ∷ [] = c.push_reserved.ensures.items ∙ ap (λ l. l ++ c.args.change ∷ []) c.in_ok-reserve.ensures.items in
    ap told_after items ∙ told_after-push changes c.args.change ∙ ap (λ t. moved t (applied c.args.change t.files)) c.self.view_is

pub returns-clause-frees : goal.returns-clause-frees
returns-clause-frees c = subst (FreesName c.args.change) (invariant_of-self-2 c) c.in_ok-apply.ensures.frees
