use Rattle.std.proofs.Common.{rules, ◌≢◌, Some, [], ◌∷◌, ◌++◌, sym, ap, ◌∙◌, subst, refl}
use Rattle.board_model.specs.declared.answer.Reply.TheVariants as reply
use Rattle.board_names.specs.declared.errors.boards.ReaderCreateError.TheVariants as reader_error
use Rattle.board_model.specs.declared.tables.Kind.TheVariants as kind
use Rattle.script_parties.specs.Named.{things_of}
use Rattle.script_parties.specs.Numbered.{seat_at, things_by}
use Rattle.script_parties.specs.Parties.{IsFew, IsReader}
use Rattle.script_parties.proofs.Asked.{carried}
use Rattle.script_parties.proofs.Growth.{named_more, next_free, things_more}
use Rattle.script_parties.proofs.NamesAndThings.{given_names, on_err, settled, shown_still, still, told}
use Rattle.script_parties.proofs.Places.{has_number, stands_in, thing_of_call}
use Rattle.script_parties.proofs.Ports.{from, reader_made, reader_not_made, shown}
use Rattle.script_seats.specs.Seats.{put}
use Rattle.script_parties.proofs.party_domain.PartyDomain.add_reader.Goals as goal

pub number_of-number-requires : goal.number_of-number-requires
number_of-number-requires g c =
    let s = c.self.inside in
    let x = c.args.factory.now in
    let at = things_by (seat_at s.names) s.core in
    let number = has_number s.nodes.keys at at s.core x c.self.invariant.1 refl (stands_in (shown g.C.Words.list s.core (things_of at s.core)) _ x c.self.view_is c.requires.stands) in
    (at, number.0, given_names s.names c.reserve.new.self at c.self.invariant.0 c.reserve.ensures.index c.reserve.ensures.names, number.1)

pub reader-requires : goal.reader-requires
reader-requires g c =
    let s = c.self.inside in
    let x = c.args.factory.now in
    let at = things_by (seat_at s.names) s.core in
    let h = c.self.invariant.1 in
    let stands = stands_in (shown g.C.Words.list s.core (things_of at s.core)) _ x c.self.view_is c.requires.stands in
    let i = thing_of_call s.nodes.keys at at s.core x c.number_of-number.result h refl stands (c.number_of-number.ensures at (given_names s.names c.reserve.new.self at c.self.invariant.0 c.reserve.ensures.index c.reserve.ensures.names)) in
    i.stands

pub invariant_of-self-in-Ok : goal.invariant_of-self-in-Ok
invariant_of-self-in-Ok g c =
    let s = c.self.inside in
    let x = c.args.factory.now in
    let at = things_by (seat_at s.names) s.core in
    let h = c.self.invariant.1 in
    let stands = stands_in (shown g.C.Words.list s.core (things_of at s.core)) _ x c.self.view_is c.requires.stands in
    let i = thing_of_call s.nodes.keys at at s.core x c.number_of-number.result h refl stands (c.number_of-number.ensures at (given_names s.names c.reserve.new.self at c.self.invariant.0 c.reserve.ensures.index c.reserve.ensures.names)) in
    let new = from x c.args.name (kind.Reader c.in-Ok.made.number) in
    let both = reader_made g.C.Words.list s.nodes.keys at s.core c.reader.new.self x c.number_of-number.result c.args.name c.in-Ok.made h i c.in-Ok.ensures.answer c.in-Ok.ensures.ok in
    let names = c.push_beside.ensures at (given_names s.names c.reserve.new.self at c.self.invariant.0 c.reserve.ensures.index c.reserve.ensures.names) (next_free s.nodes.keys at at s.core c.in-Ok.made.thing h refl both.1.next) in
    settled c.push_beside.new.self s.nodes.keys (put c.in-Ok.made.thing (Some new) at) c.reader.new.self names (named_more s.nodes.keys at s.core c.reader.new.self c.in-Ok.made.thing new h both.1)

pub returns-in-Ok-clause-asked : goal.returns-in-Ok-clause-asked
returns-in-Ok-clause-asked g c =
    let s = c.self.inside in
    let x = c.args.factory.now in
    let at = things_by (seat_at s.names) s.core in
    let h = c.self.invariant.1 in
    let stands = stands_in (shown g.C.Words.list s.core (things_of at s.core)) _ x c.self.view_is c.requires.stands in
    let i = thing_of_call s.nodes.keys at at s.core x c.number_of-number.result h refl stands (c.number_of-number.ensures at (given_names s.names c.reserve.new.self at c.self.invariant.0 c.reserve.ensures.index c.reserve.ensures.names)) in
    let new = from x c.args.name (kind.Reader c.in-Ok.made.number) in
    let both = reader_made g.C.Words.list s.nodes.keys at s.core c.reader.new.self x c.number_of-number.result c.args.name c.in-Ok.made h i c.in-Ok.ensures.answer c.in-Ok.ensures.ok in
    let names = c.push_beside.ensures at (given_names s.names c.reserve.new.self at c.self.invariant.0 c.reserve.ensures.index c.reserve.ensures.names) (next_free s.nodes.keys at at s.core c.in-Ok.made.thing h refl both.1.next) in
    carried (λ now xs. IsReader now (shown g.C.Words.list c.reader.new.self xs) c.args.name x (reply.Number c.in-Ok.made.number)) (shown g.C.Words.list s.core (things_of at s.core)) c.args.self.now
    (things_of at s.core ++ new ∷ []) (things_of (things_by (seat_at c.push_beside.new.self) c.reader.new.self) c.reader.new.self)
    c.self.view_is (ap (λ a. things_of a c.reader.new.self) (told s.nodes.keys (seat_at c.push_beside.new.self) (put c.in-Ok.made.thing (Some new) at) c.reader.new.self names.names (named_more s.nodes.keys at s.core c.reader.new.self c.in-Ok.made.thing new h both.1)) ∙ things_more s.nodes.keys at s.core c.reader.new.self c.in-Ok.made.thing new h both.1) both.0

pub returns-in-Err-clause-asked : goal.returns-in-Err-clause-asked
returns-in-Err-clause-asked g c =
    let s = c.self.inside in
    let x = c.args.factory.now in
    let at = things_by (seat_at s.names) s.core in
    let h = c.self.invariant.1 in
    let stands = stands_in (shown g.C.Words.list s.core (things_of at s.core)) _ x c.self.view_is c.requires.stands in
    let i = thing_of_call s.nodes.keys at at s.core x c.number_of-number.result h refl stands (c.number_of-number.ensures at (given_names s.names c.reserve.new.self at c.self.invariant.0 c.reserve.ensures.index c.reserve.ensures.names)) in
    let few = subst (λ p. IsFew p) (sym c.self.view_is) c.requires.few in
    let memory : c.in-Err.why ≢ reader_error.OutOfMemory = search rules in
    carried (λ now xs. IsReader now (shown g.C.Words.list c.reader.new.self xs) c.args.name x (reply.ReaderError c.in-Err.why)) (shown g.C.Words.list s.core (things_of at s.core)) c.args.self.now
    (things_of at s.core) (things_of (things_by (seat_at c.reserve.new.self) c.reader.new.self) c.reader.new.self)
    c.self.view_is (ap (λ f. things_of (things_by f c.reader.new.self) c.reader.new.self) c.reserve.ensures.names ∙ ap (λ d. things_of (things_by (seat_at s.names) d) d) c.in-Err.ensures.err)
    (reader_not_made g.C.Words.list s.nodes.keys at s.core c.reader.new.self x c.number_of-number.result c.args.name c.in-Err.why h i few.ports few.things memory c.in-Err.ensures.answer c.in-Err.ensures.err)

pub invariant_of-self : goal.invariant_of-self
invariant_of-self g c =
    let s = c.self.inside in
    still s.names c.reserve.new.self s.nodes.keys s.nodes.keys s.core s.core c.self.invariant c.reserve.ensures.index refl c.reserve.ensures.names refl

pub invariant_of-self-in-Err-OutOfMemory : goal.invariant_of-self-in-Err-OutOfMemory
invariant_of-self-in-Err-OutOfMemory g c =
    let s = c.self.inside in
    still s.names c.reserve.new.self s.nodes.keys s.nodes.keys s.core c.reader.new.self c.self.invariant c.reserve.ensures.index refl c.reserve.ensures.names c.in-Err-OutOfMemory.ensures.err

pub invariant_of-self-in-Err : goal.invariant_of-self-in-Err
invariant_of-self-in-Err g c =
    let s = c.self.inside in
    still s.names c.reserve.new.self s.nodes.keys s.nodes.keys s.core c.reader.new.self c.self.invariant c.reserve.ensures.index refl c.reserve.ensures.names c.in-Err.ensures.err

pub returns-in_err-reserve-clause-err : goal.returns-in_err-reserve-clause-err
returns-in_err-reserve-clause-err g c =
    let s = c.self.inside in
    on_err c.from_residual.result (shown_still (shown g.C.Words.list) c.args.self.now s.names c.reserve.new.self s.core s.core c.reserve.ensures.names refl c.self.view_is)

pub returns-in-Err-OutOfMemory-clause-err : goal.returns-in-Err-OutOfMemory-clause-err
returns-in-Err-OutOfMemory-clause-err g c =
    let s = c.self.inside in
    shown_still (shown g.C.Words.list) c.args.self.now s.names c.reserve.new.self s.core c.reader.new.self c.reserve.ensures.names c.in-Err-OutOfMemory.ensures.err c.self.view_is
