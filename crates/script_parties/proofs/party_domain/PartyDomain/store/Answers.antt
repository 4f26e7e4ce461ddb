use Rattle.std.proofs.Common.{ap}
use Rattle.script_parties.specs.Parties.{Parties}
use Rattle.script_parties.specs.Named.{things_of}
use Rattle.script_parties.specs.Numbered.{seat_at, things_by}
use Rattle.script_parties.proofs.WordLookups.{cells_stand, shown, word_inside, words_set}
use Rattle.script_parties.proofs.party_domain.PartyDomain.store.Goals as goal

pub store-requires : goal.store-requires
store-requires g c =
    let core = c.self.inside.core in
    word_inside g.C.Words.list core.tables.boards core.cells c.args.self.now (shown g.C.Words.list core (things_of (things_by (seat_at c.self.inside.names) core) core) _ c.self.view_is) c.args.board c.args.word c.requires c.in-Some.cells.now c.in-Some.ensures.value

pub unreachable-requires : goal.unreachable-requires
unreachable-requires g c =
    let core = c.self.inside.core in
    cells_stand g.C.Words.list core.tables.boards core.cells c.args.self.now (shown g.C.Words.list core (things_of (things_by (seat_at c.self.inside.names) core) core) _ c.self.view_is) c.args.board c.args.word c.requires c.in-None.ensures.value

pub returns : goal.returns
returns g c =
    let core = c.self.inside.core in
    record {
      tables = ap (λ (p : Parties). p.tables) c.self.view_is;
      drawn = ap (λ (p : Parties). p.drawn) c.self.view_is;
      words = λ place d e. words_set g.C.Words.list core.tables.boards core.cells c.args.self.now (shown g.C.Words.list core (things_of (things_by (seat_at c.self.inside.names) core) core) _ c.self.view_is) c.args.board c.in-Some.cells.now c.store.new.self c.in-Some.ensures.value c.args.word c.args.value c.store.ensures place d e;
    }
