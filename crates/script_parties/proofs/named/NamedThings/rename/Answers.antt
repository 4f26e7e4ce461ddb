use Rattle.std.proofs.Common.{Option, Some, subst, ap, ◌∙◌}
use Rattle.std.specs.Prelude.{option_map}
use Rattle.board_model.specs.Things.{Held}
use Rattle.script_parties.specs.Numbered.{seat_at}
use Rattle.script_parties.proofs.Firsts.{one_anew, there}
use Rattle.script_parties.proofs.NamesAndThings.{put_names}
use Rattle.script_seats.specs.Seats.{IsIndex, Renames, SeatOf, called, is_at, seat_of}
use Rattle.script_parties.proofs.named.NamedThings.rename.Goals as goal

pub returns-in-Only : goal.returns-in-Only
returns-in-Only c = λ things k.
    let from : SeatOf = record { party = c.args.party.now; name = c.args.old.now } in
    let to : SeatOf = record { party = c.args.party.now; name = c.args.new.now } in
    let n = c.in-Only.number in
    let told = subst (Renames things from to c.rename.new.self) c.in-Only.is (c.rename.ensures.index things k.index) in
    let x = there (is_at from) (things n) told.only.passes in
    let anew = one_anew c.args.party.now c.args.old.now c.args.new.now things n x.0 told.only x.1 in
    record {
      index = subst (IsIndex c.rename.new.self) (λ i m. anew m i) (told.index x.0 x.1);
      names = λ m.
          c.rename_at.ensures (seat_of x.0) (k.names n ∙ ap (λ (o : Option Held). option_map seat_of o) x.1) m
          ∙ put_names n (Some (called c.args.new.now x.0)) (seat_at c.args.self.now) things k.names m
          ∙ ap (λ (o : Option Held). option_map seat_of o) (anew m);
    }
