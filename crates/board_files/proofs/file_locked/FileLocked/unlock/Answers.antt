use Rattle.std.proofs.Common.{rules, ◌≡◌, sym, ◌∙◌, subst, length, Ok, Err}
use Rattle.board_names.specs.Configuration.{full_name}
use Rattle.board_files.specs.Files.{Writes, Finalizes}
use Rattle.board_files.specs.Storage.{storage_of}
use Rattle.board_files.specs.Told.{write_told, final_told}
use Rattle.board_files.proofs.LockLemmas.{refused, write-after, open-after, whole-after, write-front, write-err, write-stop, write-others, write-whole, open-err, open-stop, open-others, whole-whole, whole-stop, whole-others}
use Rattle.board_files.proofs.file_locked.FileLocked.unlock.Goals as goal

pub returns-in_err-written_whole-clause-front : goal.returns-in_err-written_whole-clause-front
returns-in_err-written_whole-clause-front g c =
    let told = g.F.Files.told in
    let path = full_name c.args.cfg.now c.args.self.name in
    let contents = c.args.contents.now in
    let old = told c.args.files.now in
    let mid = told c.write-wrote.new.self in
    let wrote = c.write-wrote.result in
    let writes = subst (λ p. Writes p contents old mid wrote) c.path_for-path.ensures c.write-wrote.ensures.files in
    let e = c.in_err-written_whole.field-0.0 in
    let is : write_told (length contents) wrote ≡ Err e = sym c.written_whole.ensures.value ∙ c.in_err-written_whole.was in
    let same : c.from_residual.result ≡ refused e = search rules in
    write-front path contents old mid wrote e _ c.requires writes is same

pub returns-in_err-written_whole-clause-err : goal.returns-in_err-written_whole-clause-err
returns-in_err-written_whole-clause-err g c =
    let told = g.F.Files.told in
    let path = full_name c.args.cfg.now c.args.self.name in
    let contents = c.args.contents.now in
    let old = told c.args.files.now in
    let mid = told c.write-wrote.new.self in
    let wrote = c.write-wrote.result in
    let writes = subst (λ p. Writes p contents old mid wrote) c.path_for-path.ensures c.write-wrote.ensures.files in
    let e = c.in_err-written_whole.field-0.0 in
    let is : write_told (length contents) wrote ≡ Err e = sym c.written_whole.ensures.value ∙ c.in_err-written_whole.was in
    let same : c.from_residual.result ≡ refused e = search rules in
    write-err path contents old mid wrote e _ c.requires writes is same

pub returns-in_err-written_whole-clause-stop : goal.returns-in_err-written_whole-clause-stop
returns-in_err-written_whole-clause-stop g c =
    let told = g.F.Files.told in
    let path = full_name c.args.cfg.now c.args.self.name in
    let contents = c.args.contents.now in
    let old = told c.args.files.now in
    let mid = told c.write-wrote.new.self in
    let wrote = c.write-wrote.result in
    let writes = subst (λ p. Writes p contents old mid wrote) c.path_for-path.ensures c.write-wrote.ensures.files in
    let e = c.in_err-written_whole.field-0.0 in
    let is : write_told (length contents) wrote ≡ Err e = sym c.written_whole.ensures.value ∙ c.in_err-written_whole.was in
    write-stop path contents old mid wrote e c.requires writes is

pub returns-in_err-written_whole-clause-others : goal.returns-in_err-written_whole-clause-others
returns-in_err-written_whole-clause-others g c =
    let told = g.F.Files.told in
    let path = full_name c.args.cfg.now c.args.self.name in
    let contents = c.args.contents.now in
    let old = told c.args.files.now in
    let mid = told c.write-wrote.new.self in
    let wrote = c.write-wrote.result in
    let writes = subst (λ p. Writes p contents old mid wrote) c.path_for-path.ensures c.write-wrote.ensures.files in
    let e = c.in_err-written_whole.field-0.0 in
    let is : write_told (length contents) wrote ≡ Err e = sym c.written_whole.ensures.value ∙ c.in_err-written_whole.was in
    write-others path contents old mid wrote e c.requires writes is

pub returns-in_err-made_final-clause-err : goal.returns-in_err-made_final-clause-err
returns-in_err-made_final-clause-err g c =
    let told = g.F.Files.told in
    let path = full_name c.args.cfg.now c.args.self.name in
    let contents = c.args.contents.now in
    let old = told c.args.files.now in
    let mid = told c.write-wrote.new.self in
    let wrote = c.write-wrote.result in
    let writes = subst (λ p. Writes p contents old mid wrote) c.path_for-path.ensures c.write-wrote.ensures.files in
    let new = told c.set_final-set.new.self in
    let set = c.set_final-set.result in
    let sets = subst (λ p. Finalizes p mid new set) c.path_for-path.ensures c.set_final-set.ensures.files in
    let done : write_told (length contents) wrote ≡ Ok tt = sym c.written_whole.ensures.value ∙ c.in_ok-written_whole.was in
    let whole = write-whole path contents old mid _ _ wrote tt writes c.write-wrote.ensures.counts.short_writes done in
    let e = c.in_err-made_final.field-0.0 in
    let is : final_told set ≡ Err e = sym c.made_final.ensures.value ∙ c.in_err-made_final.was in
    let same : c.from_residual-in_err-made_final.result ≡ refused e = search rules in
    open-err path contents old mid new set e _ c.requires whole.0 sets is same

pub returns-in_err-made_final-clause-stop : goal.returns-in_err-made_final-clause-stop
returns-in_err-made_final-clause-stop g c =
    let told = g.F.Files.told in
    let path = full_name c.args.cfg.now c.args.self.name in
    let contents = c.args.contents.now in
    let old = told c.args.files.now in
    let mid = told c.write-wrote.new.self in
    let wrote = c.write-wrote.result in
    let writes = subst (λ p. Writes p contents old mid wrote) c.path_for-path.ensures c.write-wrote.ensures.files in
    let new = told c.set_final-set.new.self in
    let set = c.set_final-set.result in
    let sets = subst (λ p. Finalizes p mid new set) c.path_for-path.ensures c.set_final-set.ensures.files in
    let done : write_told (length contents) wrote ≡ Ok tt = sym c.written_whole.ensures.value ∙ c.in_ok-written_whole.was in
    let whole = write-whole path contents old mid _ _ wrote tt writes c.write-wrote.ensures.counts.short_writes done in
    let e = c.in_err-made_final.field-0.0 in
    let is : final_told set ≡ Err e = sym c.made_final.ensures.value ∙ c.in_err-made_final.was in
    open-stop path contents old mid new set e c.requires whole.0 sets is

pub returns-in_err-made_final-clause-others : goal.returns-in_err-made_final-clause-others
returns-in_err-made_final-clause-others g c =
    let told = g.F.Files.told in
    let path = full_name c.args.cfg.now c.args.self.name in
    let contents = c.args.contents.now in
    let old = told c.args.files.now in
    let mid = told c.write-wrote.new.self in
    let wrote = c.write-wrote.result in
    let writes = subst (λ p. Writes p contents old mid wrote) c.path_for-path.ensures c.write-wrote.ensures.files in
    let new = told c.set_final-set.new.self in
    let set = c.set_final-set.result in
    let sets = subst (λ p. Finalizes p mid new set) c.path_for-path.ensures c.set_final-set.ensures.files in
    let done : write_told (length contents) wrote ≡ Ok tt = sym c.written_whole.ensures.value ∙ c.in_ok-written_whole.was in
    let whole = write-whole path contents old mid _ _ wrote tt writes c.write-wrote.ensures.counts.short_writes done in
    let e = c.in_err-made_final.field-0.0 in
    let is : final_told set ≡ Err e = sym c.made_final.ensures.value ∙ c.in_err-made_final.was in
    open-others path contents old mid new set e c.requires whole.0 sets is

pub returns-clause-whole : goal.returns-clause-whole
returns-clause-whole g c =
    let told = g.F.Files.told in
    let path = full_name c.args.cfg.now c.args.self.name in
    let contents = c.args.contents.now in
    let old = told c.args.files.now in
    let mid = told c.write-wrote.new.self in
    let wrote = c.write-wrote.result in
    let writes = subst (λ p. Writes p contents old mid wrote) c.path_for-path.ensures c.write-wrote.ensures.files in
    let new = told c.set_final-set.new.self in
    let set = c.set_final-set.result in
    let sets = subst (λ p. Finalizes p mid new set) c.path_for-path.ensures c.set_final-set.ensures.files in
    let done : write_told (length contents) wrote ≡ Ok tt = sym c.written_whole.ensures.value ∙ c.in_ok-written_whole.was in
    let whole = write-whole path contents old mid _ _ wrote tt writes c.write-wrote.ensures.counts.short_writes done in
    let is : final_told set ≡ Ok tt = sym c.made_final.ensures.value ∙ c.in_ok-made_final.was in
    whole-whole path contents old mid new set tt (Ok (storage_of c.args.self.name (length contents))) c.requires whole.0 sets is

pub returns-clause-stop : goal.returns-clause-stop
returns-clause-stop g c =
    let told = g.F.Files.told in
    let path = full_name c.args.cfg.now c.args.self.name in
    let contents = c.args.contents.now in
    let old = told c.args.files.now in
    let mid = told c.write-wrote.new.self in
    let wrote = c.write-wrote.result in
    let writes = subst (λ p. Writes p contents old mid wrote) c.path_for-path.ensures c.write-wrote.ensures.files in
    let new = told c.set_final-set.new.self in
    let set = c.set_final-set.result in
    let sets = subst (λ p. Finalizes p mid new set) c.path_for-path.ensures c.set_final-set.ensures.files in
    let done : write_told (length contents) wrote ≡ Ok tt = sym c.written_whole.ensures.value ∙ c.in_ok-written_whole.was in
    let whole = write-whole path contents old mid _ _ wrote tt writes c.write-wrote.ensures.counts.short_writes done in
    let is : final_told set ≡ Ok tt = sym c.made_final.ensures.value ∙ c.in_ok-made_final.was in
    whole-stop path contents old mid new set tt c.requires whole.0 sets is

pub returns-clause-others : goal.returns-clause-others
returns-clause-others g c =
    let told = g.F.Files.told in
    let path = full_name c.args.cfg.now c.args.self.name in
    let contents = c.args.contents.now in
    let old = told c.args.files.now in
    let mid = told c.write-wrote.new.self in
    let wrote = c.write-wrote.result in
    let writes = subst (λ p. Writes p contents old mid wrote) c.path_for-path.ensures c.write-wrote.ensures.files in
    let new = told c.set_final-set.new.self in
    let set = c.set_final-set.result in
    let sets = subst (λ p. Finalizes p mid new set) c.path_for-path.ensures c.set_final-set.ensures.files in
    let done : write_told (length contents) wrote ≡ Ok tt = sym c.written_whole.ensures.value ∙ c.in_ok-written_whole.was in
    let whole = write-whole path contents old mid _ _ wrote tt writes c.write-wrote.ensures.counts.short_writes done in
    let is : final_told set ≡ Ok tt = sym c.made_final.ensures.value ∙ c.in_ok-made_final.was in
    whole-others path contents old mid new set tt c.requires whole.0 sets is

pub returns-in_err-written_whole-clause-after : goal.returns-in_err-written_whole-clause-after
returns-in_err-written_whole-clause-after g c =
    let told = g.F.Files.told in
    let path = full_name c.args.cfg.now c.args.self.name in
    let contents = c.args.contents.now in
    let old = told c.args.files.now in
    let mid = told c.write-wrote.new.self in
    let wrote = c.write-wrote.result in
    let writes = subst (λ p. Writes p contents old mid wrote) c.path_for-path.ensures c.write-wrote.ensures.files in
    let e = c.in_err-written_whole.field-0.0 in
    let is : write_told (length contents) wrote ≡ Err e = sym c.written_whole.ensures.value ∙ c.in_err-written_whole.was in
    let same : c.from_residual.result ≡ refused e = search rules in
    write-after path contents old mid wrote e _ c.requires writes is same

pub returns-in_err-made_final-clause-after : goal.returns-in_err-made_final-clause-after
returns-in_err-made_final-clause-after g c =
    let told = g.F.Files.told in
    let path = full_name c.args.cfg.now c.args.self.name in
    let contents = c.args.contents.now in
    let old = told c.args.files.now in
    let mid = told c.write-wrote.new.self in
    let wrote = c.write-wrote.result in
    let writes = subst (λ p. Writes p contents old mid wrote) c.path_for-path.ensures c.write-wrote.ensures.files in
    let new = told c.set_final-set.new.self in
    let set = c.set_final-set.result in
    let sets = subst (λ p. Finalizes p mid new set) c.path_for-path.ensures c.set_final-set.ensures.files in
    let done : write_told (length contents) wrote ≡ Ok tt = sym c.written_whole.ensures.value ∙ c.in_ok-written_whole.was in
    let whole = write-whole path contents old mid _ _ wrote tt writes c.write-wrote.ensures.counts.short_writes done in
    let e = c.in_err-made_final.field-0.0 in
    let is : final_told set ≡ Err e = sym c.made_final.ensures.value ∙ c.in_err-made_final.was in
    let same : c.from_residual-in_err-made_final.result ≡ refused e = search rules in
    open-after path contents old mid new set e _ c.requires whole.0 sets is same

pub returns-clause-after : goal.returns-clause-after
returns-clause-after g c =
    let told = g.F.Files.told in
    let path = full_name c.args.cfg.now c.args.self.name in
    let contents = c.args.contents.now in
    let old = told c.args.files.now in
    let mid = told c.write-wrote.new.self in
    let wrote = c.write-wrote.result in
    let writes = subst (λ p. Writes p contents old mid wrote) c.path_for-path.ensures c.write-wrote.ensures.files in
    let new = told c.set_final-set.new.self in
    let set = c.set_final-set.result in
    let sets = subst (λ p. Finalizes p mid new set) c.path_for-path.ensures c.set_final-set.ensures.files in
    let done : write_told (length contents) wrote ≡ Ok tt = sym c.written_whole.ensures.value ∙ c.in_ok-written_whole.was in
    let whole = write-whole path contents old mid _ _ wrote tt writes c.write-wrote.ensures.counts.short_writes done in
    let is : final_told set ≡ Ok tt = sym c.made_final.ensures.value ∙ c.in_ok-made_final.was in
    whole-after path contents old mid new set tt (storage_of c.args.self.name (length contents)) c.requires whole.0 sets is
