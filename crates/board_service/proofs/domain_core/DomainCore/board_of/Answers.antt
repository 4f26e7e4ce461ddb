use Rattle.std.proofs.Common.{◌≡◌, ℕ, true, List, sym, ap, subst, ◌∙◌}
use Rattle.std.specs.Prelude.{is_some}
use Rattle.board_model.specs.declared.tables.Thing.{Thing}
use Rattle.board_model.specs.Tables.{board_at}
use Rattle.board_service.specs.Domain.{Domain, held, thing_numbered}
use Rattle.board_service.specs.Facts.{IsDomain}
use Rattle.board_service.proofs.BoardLemmas.{core_domain, held_stands}
use Rattle.board_service.proofs.domain_core.DomainCore.board_of.Goals as goal

pub returns-clause-stands : goal.returns-clause-stands
returns-clause-stands g c =
    let known = subst (λ (d : Domain g.row.C.Denot). IsDomain d) c.self.view_is (core_domain c.self.invariant.core) in
    let same : c.thing_of.result ≡ held c.args.self.now c.args.thing =
    c.thing_of.ensures ∙ ap (λ (ts : List (Thing ℕ ℕ)). thing_numbered c.args.thing ts) (ap (λ (d : Domain g.row.C.Denot). d.tables.things) c.self.view_is) in
    subst (λ (n : ℕ). is_some (board_at c.args.self.now.tables n) ≡ true) (sym (ap (λ (t : Thing ℕ ℕ). t.board) same)) (held_stands c.args.self.now c.args.thing known c.requires)
