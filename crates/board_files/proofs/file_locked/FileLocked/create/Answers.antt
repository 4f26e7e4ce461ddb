use Rattle.std.proofs.Common.{◌≡◌, sym, subst, OnOk, IfSome}
use Rattle.board_names.specs.Configuration.{full_name}
use Rattle.board_names.specs.declared.errors.static_storage.StaticStorageCreateError.TheVariants.{Creation, OutOfMemory}
use Rattle.board_files.specs.Files.{Creates, created}
use Rattle.board_files.specs.Storage.{AnswersOr, FromTo, create_answer, IsFresh}
use Rattle.board_files.proofs.LockLemmas.{create-answer, create-after, create-locked, create-stop, create-others}
use Rattle.board_files.proofs.file_locked.FileLocked.create.Goals as goal

pub returns-clause-answer : goal.returns-clause-answer
returns-clause-answer g c =
    let old = g.F.Files.told c.args.files.now in
    let new = g.F.Files.told c.create_exclusive-made.new.self in
    let creates = subst (λ p. Creates p old new c.create_exclusive-made.result) c.path_for.ensures c.create_exclusive-made.ensures.files in
    subst (λ r. IfSome old (λ t. AnswersOr r Creation OutOfMemory (create_answer c.args.cfg.now c.args.name.now t.files))) (sym c.lock_made.ensures.value)
    (create-answer c.args.cfg.now c.args.name.now old new c.create_exclusive-made.result creates)

pub returns-clause-locked : goal.returns-clause-locked
returns-clause-locked g c =
    let old = g.F.Files.told c.args.files.now in
    let new = g.F.Files.told c.create_exclusive-made.new.self in
    let path = full_name c.args.cfg.now c.args.name.now in
    let creates = subst (λ p. Creates p old new c.create_exclusive-made.result) c.path_for.ensures c.create_exclusive-made.ensures.files in
    subst (λ r. IfSome new (λ u. OnOk r (IsFresh path u.files))) (sym c.lock_made.ensures.value)
    (create-locked c.args.name.now path old new c.create_exclusive-made.result creates)

pub returns-clause-stop : goal.returns-clause-stop
returns-clause-stop g c =
    let old = g.F.Files.told c.args.files.now in
    let new = g.F.Files.told c.create_exclusive-made.new.self in
    let creates = subst (λ p. Creates p old new c.create_exclusive-made.result) c.path_for.ensures c.create_exclusive-made.ensures.files in
    create-stop c.args.name.now (full_name c.args.cfg.now c.args.name.now) old new c.create_exclusive-made.result creates

pub returns-clause-others : goal.returns-clause-others
returns-clause-others g c =
    let old = g.F.Files.told c.args.files.now in
    let new = g.F.Files.told c.create_exclusive-made.new.self in
    let creates = subst (λ p. Creates p old new c.create_exclusive-made.result) c.path_for.ensures c.create_exclusive-made.ensures.files in
    create-others c.args.name.now (full_name c.args.cfg.now c.args.name.now) old new c.create_exclusive-made.result creates

pub returns-clause-after : goal.returns-clause-after
returns-clause-after g c =
    let old = g.F.Files.told c.args.files.now in
    let new = g.F.Files.told c.create_exclusive-made.new.self in
    let path = full_name c.args.cfg.now c.args.name.now in
    let creates = subst (λ p. Creates p old new c.create_exclusive-made.result) c.path_for.ensures c.create_exclusive-made.ensures.files in
    subst (λ r. FromTo old new (λ t u. OnOk r (u ≡ created path t))) (sym c.lock_made.ensures.value)
    (create-after c.args.name.now path old new c.create_exclusive-made.result creates)
