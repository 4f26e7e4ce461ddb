use Rattle.std.proofs.Common.{List, ap, ◌∙◌}
use Rattle.std.specs.Prelude.{option_map}
use Rattle.board_model.specs.Things.{Held, named_anew}
use Rattle.script_parties.specs.Named.{things_of}
use Rattle.script_parties.specs.Numbered.{seat_at, things_by}
use Rattle.script_parties.specs.Parties.{Parties}
use Rattle.script_parties.specs.Shown.{renamed}
use Rattle.script_parties.proofs.NamesAndThings.{settled, told}
use Rattle.script_parties.proofs.Places.{named_anew_still, things_anew}
use Rattle.script_parties.proofs.Ports.{shown}
use Rattle.script_parties.proofs.party_domain.PartyDomain.rename.Goals as goal

pub invariant_of-self : goal.invariant_of-self
invariant_of-self g c =
    let s = c.self.inside in
    let at = things_by (seat_at s.names) s.core in
    let named = named_anew_still c.args.party.now c.args.old.now c.args.new.now s.nodes.keys at s.core c.self.invariant.1 in
    settled c.rename.new.self s.nodes.keys (λ n. option_map (named_anew c.args.party.now c.args.old.now c.args.new.now) (at n)) s.core (c.rename.ensures at c.self.invariant.0) named

pub returns : goal.returns
returns g c =
    let s = c.self.inside in
    let at = things_by (seat_at s.names) s.core in
    let named = named_anew_still c.args.party.now c.args.old.now c.args.new.now s.nodes.keys at s.core c.self.invariant.1 in
    let names = c.rename.ensures at c.self.invariant.0 in
    let all = ap (λ a. things_of a s.core) (told s.nodes.keys (seat_at c.rename.new.self) (λ n. option_map (named_anew c.args.party.now c.args.old.now c.args.new.now) (at n)) s.core names.names named)
    ∙ things_anew c.args.party.now c.args.old.now c.args.new.now s.nodes.keys at s.core c.self.invariant.1 in
    ap (λ (xs : List Held). shown g.C.Words.list s.core xs) all ∙ ap (λ (p : Parties). renamed p c.args.party.now c.args.old.now c.args.new.now) c.self.view_is
