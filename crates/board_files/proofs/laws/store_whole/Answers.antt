use Rattle.std.proofs.Common.{sym, ap, subst, IfSome}
use Rattle.board_names.specs.Configuration.{full_name}
use Rattle.board_files.specs.Files.{AddsMoments, SameOthers}
use Rattle.board_files.specs.Storage.{FromTo, IsFresh, IsOpen, IsWhole, IsUnlockMoment}
use Rattle.board_files.proofs.LifeLemmas.{life-stopped, life-others, life-none, life-open, life-whole}
use Rattle.board_files.proofs.laws.store_whole.Goals as goal

pub unlock-requires : goal.unlock-requires
unlock-requires g c =
    subst (λ n. IfSome (g.F.Files.told c.create.new.files) (λ t. IsFresh (full_name c.args.cfg.now n) t.files)) (sym (ap (λ l. l.name) c.in-Ok.ensures.ok)) c.in-Ok.ensures.locked

pub returns-in-Ok-unlock-clause-stopped : goal.returns-in-Ok-unlock-clause-stopped
returns-in-Ok-unlock-clause-stopped g c =
    let mid = g.F.Files.told c.create.new.files in
    let new = g.F.Files.told c.unlock.new.files in
    let unlocked = subst (λ n. FromTo mid new (λ t u. AddsMoments t.moments u.moments (IsUnlockMoment (full_name c.args.cfg.now n) c.args.contents.now t.files)))
    (ap (λ l. l.name) c.in-Ok.ensures.ok) c.in-Ok-unlock.ensures.stop in
    life-stopped c.args.cfg.now c.args.name.now c.args.contents.now (g.F.Files.told c.args.files.now) mid new c.in-Ok.ensures.stop unlocked

pub returns-in-Err-unlock-clause-stopped : goal.returns-in-Err-unlock-clause-stopped
returns-in-Err-unlock-clause-stopped g c =
    let mid = g.F.Files.told c.create.new.files in
    let new = g.F.Files.told c.unlock.new.files in
    let unlocked = subst (λ n. FromTo mid new (λ t u. AddsMoments t.moments u.moments (IsUnlockMoment (full_name c.args.cfg.now n) c.args.contents.now t.files)))
    (ap (λ l. l.name) c.in-Ok.ensures.ok) c.in-Err-unlock.ensures.stop in
    life-stopped c.args.cfg.now c.args.name.now c.args.contents.now (g.F.Files.told c.args.files.now) mid new c.in-Ok.ensures.stop unlocked

pub returns-in-Err-clause-now : goal.returns-in-Err-clause-now
returns-in-Err-clause-now g c =
    life-none c.args.cfg.now c.args.name.now c.args.contents.now (g.F.Files.told c.args.files.now) (g.F.Files.told c.create.new.files) c.requires c.in-Err.ensures.err

pub returns-in-Ok-unlock-clause-now : goal.returns-in-Ok-unlock-clause-now
returns-in-Ok-unlock-clause-now g c =
    let mid = g.F.Files.told c.create.new.files in
    let new = g.F.Files.told c.unlock.new.files in
    let unlocked = subst (λ n. FromTo mid new (λ t u. IsWhole (full_name c.args.cfg.now n) c.args.contents.now u.files))
    (ap (λ l. l.name) c.in-Ok.ensures.ok) c.in-Ok-unlock.ensures.whole in
    life-whole c.args.cfg.now c.args.name.now c.args.contents.now (g.F.Files.told c.args.files.now) mid new c.in-Ok.ensures.others unlocked

pub returns-in-Err-unlock-clause-now : goal.returns-in-Err-unlock-clause-now
returns-in-Err-unlock-clause-now g c =
    let mid = g.F.Files.told c.create.new.files in
    let new = g.F.Files.told c.unlock.new.files in
    let unlocked = subst (λ n. FromTo mid new (λ t u. IsOpen (full_name c.args.cfg.now n) u.files))
    (ap (λ l. l.name) c.in-Ok.ensures.ok) c.in-Err-unlock.ensures.err in
    life-open c.args.cfg.now c.args.name.now c.args.contents.now (g.F.Files.told c.args.files.now) mid new c.in-Ok.ensures.others unlocked

pub returns-in-Ok-unlock-clause-others : goal.returns-in-Ok-unlock-clause-others
returns-in-Ok-unlock-clause-others g c =
    let mid = g.F.Files.told c.create.new.files in
    let new = g.F.Files.told c.unlock.new.files in
    let unlocked = subst (λ n. FromTo mid new (λ t u. SameOthers (full_name c.args.cfg.now n) t.files u.files))
    (ap (λ l. l.name) c.in-Ok.ensures.ok) c.in-Ok-unlock.ensures.others in
    life-others (full_name c.args.cfg.now c.args.name.now) (g.F.Files.told c.args.files.now) mid new c.in-Ok.ensures.others unlocked

pub returns-in-Err-unlock-clause-others : goal.returns-in-Err-unlock-clause-others
returns-in-Err-unlock-clause-others g c =
    let mid = g.F.Files.told c.create.new.files in
    let new = g.F.Files.told c.unlock.new.files in
    let unlocked = subst (λ n. FromTo mid new (λ t u. SameOthers (full_name c.args.cfg.now n) t.files u.files))
    (ap (λ l. l.name) c.in-Ok.ensures.ok) c.in-Err-unlock.ensures.others in
    life-others (full_name c.args.cfg.now c.args.name.now) (g.F.Files.told c.args.files.now) mid new c.in-Ok.ensures.others unlocked
