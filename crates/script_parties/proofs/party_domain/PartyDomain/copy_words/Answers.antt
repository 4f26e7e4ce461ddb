use Rattle.std.proofs.Common.{List, ℕ, ap, ◌∙◌}
use Rattle.script_parties.specs.Named.{things_of}
use Rattle.script_parties.specs.Numbered.{seat_at, things_by}
use Rattle.script_parties.proofs.WordLookups.{seen, words_stay}
use Rattle.script_parties.proofs.party_domain.PartyDomain.copy_words.Goals as goal

pub returns-clause-same : goal.returns-clause-same
returns-clause-same g c =
    let core = c.self.inside.core in
    ap (λ (words : List (List ℕ)). record (seen g.C.Words.list core (things_of (things_by (seat_at c.self.inside.names) core) core)) { words = words })
    (words_stay g.C.Words.list core.cells _ c.in-Some.cells.now c.words_in.new.words c.in-Some.ensures.value c.words_in.ensures.same) ∙ c.self.view_is
