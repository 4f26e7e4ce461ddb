use Rattle.std.proofs.Common.{◌≡◌, ℕ, List, sym, ◌∙◌, ap, subst, Some, Ok}
use Rattle.std.specs.Prelude.{Bool, Option, IfSome}
use Rattle.board_files.specs.Files.{TellsName, LooksAt}
use Rattle.board_files.specs.Storage.{name_and_final}
use Rattle.board_files.proofs.ListLemmas.{file_at-some, list_told-ok}
use Rattle.board_files.proofs.file_storage.file_at.Goals as goal

pub returns-clause-answer : goal.returns-clause-answer
returns-clause-answer g c =
    let old = g.F.Files.told c.args.files.now in
    let mid = g.F.Files.told c.name_at-name.new.self in
    let new = g.F.Files.told c.is_final-seen.new.self in
    let path = c.in-Some.path in
    let seen = c.in_ok-seen.seen in
    let name : c.name_at-name.result ≡ Ok (Some path) = list_told-ok c.name_at-name.result c.in_ok-path.field-0 (sym c.listed.ensures.value ∙ c.in_ok-path.was) ∙ ap Ok c.in-Some.is in
    let look : c.is_final-seen.result ≡ Ok seen = list_told-ok c.is_final-seen.result seen (sym c.listed-2.ensures.value ∙ c.in_ok-seen.was) in
    let names = subst (TellsName c.args.index old mid) name c.name_at-name.ensures.files in
    let looks = subst (LooksAt path mid new) look c.is_final-seen.ensures.files in
    subst (λ b. IfSome old (λ t. let one : Option (List ℕ × Bool) = Some (path, b) in one ≡ name_and_final t.files c.args.index)) (sym c.is_yes.ensures)
    (file_at-some old mid new c.args.index path seen names looks)
