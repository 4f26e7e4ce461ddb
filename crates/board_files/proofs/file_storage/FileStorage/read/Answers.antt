use Rattle.std.proofs.Common.{◌≡◌, ◌++◌, length, sym, subst, take, drop, IfSome, OnOk, IsSomeAnd}
use Rattle.board_names.specs.Configuration.{full_name}
use Rattle.board_names.specs.Table.{at}
use Rattle.board_files.specs.Files.{ReadsFile}
use Rattle.board_names.specs.declared.errors.static_storage.StaticStorageReadError.TheVariants.{ReadError, OutOfMemory}
use Rattle.board_files.specs.Storage.{AnswersOr, read_of}
use Rattle.board_files.proofs.ReadLemmas.{read-answer, read-filled}
use Rattle.board_files.proofs.file_storage.FileStorage.read.Goals as goal

pub returns-clause-filled : goal.returns-clause-filled
returns-clause-filled g c =
    let old = g.F.Files.told c.args.files.now in
    let new = g.F.Files.told c.read-read.new.self in
    let before = c.args.buffer.now in
    let now = c.read-read.new.buffer in
    let len = c.args.self.now.len in
    let path = full_name c.args.cfg.now c.args.self.now.name in
    let reads = subst (λ p. ReadsFile p before now old new c.read-read.result) c.path_for.ensures c.read-read.ensures.files in
    subst (λ r. IfSome old (λ t. OnOk r (IsSomeAnd (at t.files path) (λ f. now ≡ take len f.bytes ++ drop len before)))) (sym c.whole_read.ensures.value)
    (read-filled path len before now old new c.read-read.result reads)

pub returns-clause-answer : goal.returns-clause-answer
returns-clause-answer g c =
    let old = g.F.Files.told c.args.files.now in
    let new = g.F.Files.told c.read-read.new.self in
    let before = c.args.buffer.now in
    let now = c.read-read.new.buffer in
    let len = c.args.self.now.len in
    let path = full_name c.args.cfg.now c.args.self.now.name in
    let reads = subst (λ p. ReadsFile p before now old new c.read-read.result) c.path_for.ensures c.read-read.ensures.files in
    subst (λ r. IfSome old (λ t. AnswersOr r ReadError OutOfMemory (read_of len (length before) (at t.files path)))) (sym c.whole_read.ensures.value)
    (read-answer path len before now old new c.read-read.result c.if-buffer-self.false reads)
