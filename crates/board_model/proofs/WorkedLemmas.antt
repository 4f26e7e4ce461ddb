-- Worked sessions that are not lawful.
use Rattle.std.proofs.Common.{refl}
use Rattle.board_model.specs.LawfulSession.{IsLawful}
use Rattle.board_model.specs.WorkedSessions.{a_stale_value, an_update_in_place, no_second_look}

pub stale_wrong : IsLawful a_stale_value → ⊥
stale_wrong h = let e = (h.1.1.1.1.1.1.1.1.1.1.1.1.1.1.1.1.1.1.0.reply refl).reply in absurd cc

pub hasty_wrong : IsLawful no_second_look → ⊥
hasty_wrong h = let e = (h.1.1.1.1.1.1.1.1.1.1.1.1.1.1.0.reply refl).last in absurd cc

pub in_place_wrong : IsLawful an_update_in_place → ⊥
in_place_wrong h = let e = h.1.1.1.1.1.1.1.1.1.1.1.1.1.0.owed refl in absurd cc
