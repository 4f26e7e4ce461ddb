use Rattle.std.proofs.Common.{length, ap, subst, Ok, Err}
use Rattle.std.specs.Prelude.{IfSome}
use Rattle.board_files.proofs.LifeLemmas.{ReadInto, Misreads, life-opened, life-read, life-misread, opened_quiet, stored_quiet, unopened_counted, unread_counted, unstored_counted}
use Rattle.board_files.proofs.laws.store_and_read.Goals as goal

pub returns-in-Ok-read-clause-read : goal.returns-in-Ok-read-clause-read
returns-in-Ok-read-clause-read g c =
    let old = g.F.Files.told c.args.files.now in
    let mid = g.F.Files.told c.store_whole.new.files in
    let cfg = c.args.cfg.now in
    let name = c.args.name.now in
    let contents = c.args.contents.now in
    let before = c.args.buffer.now in
    let now = c.read.new.buffer in
    let opened = c.in-Ok.storage in
    let is = life-opened cfg name contents old mid opened c.in_default.ensures.after c.in-Ok.ensures.answer in
    let read = subst (λ o. IfSome o (λ u. ReadInto cfg opened before now (Ok c.in-Ok-read.field-0) u.files)) c.in-Ok.ensures.stays c.in-Ok-read.ensures.filled in
    life-read cfg name contents before now old mid opened (Ok c.in-Ok-read.field-0) c.in_default.ensures.after is read

pub returns-in-Err-read-clause-cause : goal.returns-in-Err-read-clause-cause
returns-in-Err-read-clause-cause g c =
    let old = g.F.Files.told c.args.files.now in
    let mid = g.F.Files.told c.store_whole.new.files in
    let cfg = c.args.cfg.now in
    let name = c.args.name.now in
    let contents = c.args.contents.now in
    let room = length c.args.buffer.now in
    let opened = c.in-Ok.storage in
    let e = c.in-Err-read.e in
    let is = life-opened cfg name contents old mid opened c.in_default.ensures.after c.in-Ok.ensures.answer in
    let read = subst (λ o. IfSome o (λ u. Misreads cfg opened room e u.files)) c.in-Ok.ensures.stays c.in-Err-read.ensures.answer in
    life-misread cfg name contents room old mid opened e c.in_default.ensures.after is read (λ short. c.in-Err-read.ensures.small.0 (ap Err short))

pub returns-in-Err-clause-fault : goal.returns-in-Err-clause-fault
returns-in-Err-clause-fault g c = unstored_counted _ _ c.in-Err.e c.in-Err.ensures.fault

pub returns-in-Err-open-clause-fault : goal.returns-in-Err-open-clause-fault
returns-in-Err-open-clause-fault g c = unopened_counted _ _ _ c.in-Err-open.e (stored_quiet _ _ _ c.in_default.ensures.fault) c.in-Err-open.ensures.fault

pub returns-in-Err-read-clause-fault : goal.returns-in-Err-read-clause-fault
returns-in-Err-read-clause-fault g c =
    let before = g.F.Files.counts c.args.files.now in
    let mid = g.F.Files.counts c.store_whole.new.files in
    let opened = g.F.Files.counts c.open.new.files in
    let quiet = opened_quiet before mid opened c.in-Ok.storage (stored_quiet _ _ _ c.in_default.ensures.fault) c.in-Ok.ensures.fault in
    unread_counted before opened _ c.in-Err-read.e quiet c.in-Err-read.ensures.fault
