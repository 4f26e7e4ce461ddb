use Rattle.std.proofs.Common.{rules, ◌≡◌, ◌∙◌, subst, None}
use Rattle.std.specs.Prelude.{IfSome}
use Rattle.board_files.specs.Files.{AreListed}
use Rattle.board_files.specs.Storage.{name_and_final}
use Rattle.board_files.proofs.ListLemmas.{listed-next, listed-all, listed-ascend}
use Rattle.board_files.proofs.file_storage.FileStorage.list.Goals as goal

pub loop-index-preserved : goal.loop-index-preserved
loop-index-preserved g c =
    let old = g.F.Files.told c.args.files.now in
    let index = c.loop-index.index in
    let told = c.loop-index.invariant.0 in
    let found = c.in-Some.is in
    let answer = subst (λ o. IfSome o (λ t. c.in_ok-file.field-0 ≡ name_and_final t.files index)) told c.in_ok-file.ensures.answer in
    let file = subst (λ o. IfSome old (λ t. o ≡ name_and_final t.files index)) found answer in
    let listed = subst (λ o. IfSome o (λ t. AreListed t.files)) told c.in_ok-file.ensures.listed in (
      c.in_ok-file.ensures.stays ∙ told,
      c.in_ok-file.ensures.fault.quiet (λ no. cc no) ∙ c.loop-index.invariant.1,
      c.in_ok-file.ensures.short ∙ c.loop-index.invariant.2,
      listed-next c.args.cfg.now old index c.in-Some.file.0 c.in-Some.file.1 c.loop-index.names.items c.add_name.new.names.items file c.in_ok-add_name.ensures.ok c.loop-index.invariant.3,
      λ less. listed,
    )

pub returns-in_default-clause-names : goal.returns-in_default-clause-names
returns-in_default-clause-names g c =
    let old = g.F.Files.told c.args.files.now in
    let index = c.loop-index.index in
    let told = c.loop-index.invariant.0 in
    let past : c.in_ok-file.field-0 ≡ None = search rules in
    let answer = subst (λ o. IfSome o (λ t. c.in_ok-file.field-0 ≡ name_and_final t.files index)) told c.in_ok-file.ensures.answer in
    let end = subst (λ o. IfSome old (λ t. o ≡ name_and_final t.files index)) past answer in
    listed-all c.args.cfg.now old index c.loop-index.names.items end c.loop-index.invariant.3

pub returns-in_default-clause-ascend : goal.returns-in_default-clause-ascend
returns-in_default-clause-ascend g c =
    let old = g.F.Files.told c.args.files.now in
    let index = c.loop-index.index in
    let told = c.loop-index.invariant.0 in
    let past : c.in_ok-file.field-0 ≡ None = search rules in
    let answer = subst (λ o. IfSome o (λ t. c.in_ok-file.field-0 ≡ name_and_final t.files index)) told c.in_ok-file.ensures.answer in
    let end = subst (λ o. IfSome old (λ t. o ≡ name_and_final t.files index)) past answer in
    let listed = subst (λ o. IfSome o (λ t. AreListed t.files)) told c.in_ok-file.ensures.listed in
    listed-ascend c.args.cfg.now old c.loop-index.names.items listed (listed-all c.args.cfg.now old index c.loop-index.names.items end c.loop-index.invariant.3)
