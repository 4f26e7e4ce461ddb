use Rattle.std.proofs.Common.{rules, ◌≡◌, sym, ◌∙◌, ap, Ok, Err}
use Rattle.board_layout.specs.Answer.{with_value}
use Rattle.board_files.specs.Storage.{storage_of}
use Rattle.board_files.proofs.ReadLemmas.{open-from}
use Rattle.board_files.proofs.file_storage.FileStorage.open.Goals as goal

pub returns-in_err-len-clause-answer : goal.returns-in_err-len-clause-answer
returns-in_err-len-clause-answer g c =
    let name = c.args.name.now in
    let is : c.from_residual.result ≡ Err c.in_err-len.field-0.0 = search rules in
    open-from c.args.cfg.now name c.path_for.result (g.F.Files.told c.args.files.now) c.poll.result c.from_residual.result c.path_for.ensures
    (is ∙ sym (ap (with_value (storage_of name)) c.in_err-len.was)) c.poll.ensures.answer

pub returns-clause-answer : goal.returns-clause-answer
returns-clause-answer g c =
    let name = c.args.name.now in
    open-from c.args.cfg.now name c.path_for.result (g.F.Files.told c.args.files.now) c.poll.result (Ok (storage_of name c.in_ok-len.len)) c.path_for.ensures
    (sym (ap (with_value (storage_of name)) c.in_ok-len.was)) c.poll.ensures.answer
