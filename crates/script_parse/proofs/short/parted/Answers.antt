use Rattle.std.proofs.Common.{◌+◌, refl, rules}
use Rattle.std.proofs.lemmas.List.{take_rest}
use Rattle.script_parse.proofs.ShortLemmas.{is_parted}
use Rattle.script_parse.proofs.short.parted.Goals as goal

pub returns : goal.returns
returns c = is_parted c.args.text.now _ _ c.in_ok-at.at (search rules) (search rules) refl (take_rest c.args.text.now (c.in_ok-at.at + 1))
