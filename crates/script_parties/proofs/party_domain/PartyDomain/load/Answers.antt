use Rattle.std.proofs.Common.{List, ℕ, ap, sym, ◌∙◌, slice_index}
use Rattle.script_parties.specs.Named.{things_of}
use Rattle.script_parties.specs.Numbered.{seat_at, things_by}
use Rattle.script_parties.proofs.WordLookups.{cells_stand, seen, shown, word_inside, words_found, words_stay}
use Rattle.script_parties.proofs.party_domain.PartyDomain.load.Goals as goal

pub load-requires : goal.load-requires
load-requires g c =
    let core = c.self.inside.core in
    word_inside g.C.Words.list core.tables.boards core.cells c.args.self.now (shown g.C.Words.list core (things_of (things_by (seat_at c.self.inside.names) core) core) _ c.self.view_is) c.args.board c.args.word c.requires c.in-Some.cells.now c.in-Some.ensures.value

pub unreachable-requires : goal.unreachable-requires
unreachable-requires g c =
    let core = c.self.inside.core in
    cells_stand g.C.Words.list core.tables.boards core.cells c.args.self.now (shown g.C.Words.list core (things_of (things_by (seat_at c.self.inside.names) core) core) _ c.self.view_is) c.args.board c.args.word c.requires c.in-None.ensures.value

pub returns-clause-value : goal.returns-clause-value
returns-clause-value g c = λ place d e.
    let core = c.self.inside.core in
    c.load.ensures.word ∙ ap (λ (ws : List ℕ). slice_index ws c.args.word)
    (sym (words_found g.C.Words.list core.tables.boards core.cells c.args.self.now (shown g.C.Words.list core (things_of (things_by (seat_at c.self.inside.names) core) core) _ c.self.view_is) c.args.board c.in-Some.cells.now c.in-Some.ensures.value place d e))

pub returns-clause-same : goal.returns-clause-same
returns-clause-same g c =
    let core = c.self.inside.core in
    ap (λ (words : List (List ℕ)). record (seen g.C.Words.list core (things_of (things_by (seat_at c.self.inside.names) core) core)) { words = words })
    (words_stay g.C.Words.list core.cells _ c.in-Some.cells.now c.load.new.self c.in-Some.ensures.value c.load.ensures.same) ∙ c.self.view_is
