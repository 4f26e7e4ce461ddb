use Rattle.script_parse.proofs.ShortLemmas.{is_cut}
use Rattle.script_parse.proofs.short.cut_at_call.Goals as goal

pub returns : goal.returns
returns c = is_cut c.args.bytes.now c.in_ok-begun.begun.now _ _ c.in_ok-begun.ensures c.in_ok-front.ensures
