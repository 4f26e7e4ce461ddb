use Rattle.script_parties.proofs.named.NamedThings.number_of.Goals as goal

pub returns : goal.returns
returns c = λ things k. c.number_in.ensures things k.names (c.find.ensures.found things k.index)
