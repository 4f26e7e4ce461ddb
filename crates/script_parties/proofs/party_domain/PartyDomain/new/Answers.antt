use Rattle.std.proofs.Common.{◌≡◌, [], arith, refl, sym, subst}
use Rattle.board_service.specs.Domain.{Domain, empty}
use Rattle.script_parties.specs.Named.{IsNamed}
use Rattle.script_parties.proofs.NamesAndThings.{settled}
use Rattle.script_seats.specs.Seats.{nothing}
use Rattle.script_parties.proofs.party_domain.PartyDomain.new.Goals as goal

-- nothing is named where nothing stands
none_named : {C : Type 0} (d : Domain C) → d ≡ empty → IsNamed [] nothing d
none_named {C} d e = subst (λ (x : Domain C). IsNamed [] nothing x) (sym e) (record {
  called = tt;
  alone = λ n f. refl;
  rising = omega arith;
  holders = tt;
  parties = tt;
  keys = tt;
})

pub invariant_of-result : goal.invariant_of-result
invariant_of-result g c =
    let named = none_named c.new.result c.new.ensures in
    settled c.new-3.result c.new-2.result.keys nothing c.new.result c.new-3.ensures (subst (λ ns. IsNamed ns nothing c.new.result) (sym c.new-2.ensures.empty) named)
