use Rattle.std.proofs.Common.{◌≡◌, refl}
use Rattle.board_names.specs.Configuration.{file_name}
use Rattle.board_names.proofs.Parts.{behind_front_of}
use Rattle.board_names.proofs.configuration.Configuration.name_in_path.Goals as goal

pub returns-in_err-file-clause-every : goal.returns-in_err-file-clause-every
returns-in_err-file-clause-every c = λ n rule e.
    absurd (c.in_err-file.ensures.none (file_name c.args.self.now n)
    (behind_front_of refl c.as_bytes.ensures.value c.in_ok-rest.ensures.found e))

pub returns-clause-every : goal.returns-clause-every
returns-clause-every c = λ n rule e.
    let rest = behind_front_of refl c.as_bytes.ensures.value c.in_ok-rest.ensures.found e in
    let file : c.in_ok-file.file.now ≡ file_name c.args.self.now n = cc (rest, c.in_ok-file.ensures.found) in
    c.name_in.ensures.every n rule file
