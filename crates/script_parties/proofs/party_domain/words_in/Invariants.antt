use Rattle.std.proofs.Common.{◌≡◌, take}
use Rattle.script_parties.proofs.party_domain.words_in.Given as goal

abbrev pub invariant-loop-i : goal.invariant-loop-i
invariant-loop-i g l = (g.C.Words.list l.words ≡ g.C.Words.list l.initial.words) × (l.all.items ≡ take l.i (g.C.Words.list l.initial.words))
