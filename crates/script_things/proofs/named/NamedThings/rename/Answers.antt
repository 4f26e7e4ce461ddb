use Rattle.std.proofs.Common.{List, map, Option, Some, sym, ap, subst, ◌∙◌}
use Rattle.board_model.specs.Things.{Held, named_anew}
use Rattle.script_seats.specs.declared.seats.Seats.{Seats}
use Rattle.script_seats.specs.Seats.{IsIndex, Renames, SeatOf, called, is_at}
use Rattle.script_things.specs.Places.{standing, under}
use Rattle.script_things.specs.Taken.{AreTaken}
use Rattle.script_things.proofs.PlaceLemmas.{changed_at, first_of_only, inside, none_changed, standing_mapped}
use Rattle.script_things.proofs.TakenLemmas.{all_renamed}
use Rattle.script_things.proofs.UnderLemmas.{none_under, only_under, stands_at, under_set}
use Rattle.script_things.proofs.named.NamedThings.rename.Goals as goal

pub rename_at-requires : goal.rename_at-requires
rename_at-requires c =
    let from : SeatOf = record { party = c.args.party.now; name = c.args.old.now } in
    let to : SeatOf = record { party = c.args.party.now; name = c.args.new.now } in
    let places = c.self.inside.places.items in
    let told = subst (Renames (under places) from to c.rename.new.self) c.in-Only.is (c.rename.ensures.index (under places) (c.reserve.ensures.index (under places) c.self.invariant.0)) in
    inside (is_at from) places c.in-Only.place (first_of_only (is_at from) places c.in-Only.place (only_under (is_at from) places c.in-Only.place told.only))

pub invariant_of-self-in-Only : goal.invariant_of-self-in-Only
invariant_of-self-in-Only c =
    let from : SeatOf = record { party = c.args.party.now; name = c.args.old.now } in
    let to : SeatOf = record { party = c.args.party.now; name = c.args.new.now } in
    let places = c.self.inside.places.items in
    let told = subst (Renames (under places) from to c.rename.new.self) c.in-Only.is (c.rename.ensures.index (under places) (c.reserve.ensures.index (under places) c.self.invariant.0)) in
    let only = only_under (is_at from) places c.in-Only.place told.only in
    let x = stands_at (is_at from) places c.in-Only.place only in
    let items = c.rename_at.ensures x.thing x.got in
    let named = changed_at (is_at from) (called c.args.new.now) places c.in-Only.place only x.thing x.read in
    let low = inside (is_at from) places c.in-Only.place (first_of_only (is_at from) places c.in-Only.place only) in
    subst (λ (xs : List (Option Held)). IsIndex c.rename.new.self (under xs) × AreTaken c.self.inside.taken (standing xs)) (sym items) (
      subst (IsIndex c.rename.new.self) (under_set places c.in-Only.place (Some (called c.args.new.now x.thing)) low) (told.index x.thing x.shown),
      subst (AreTaken c.self.inside.taken) (sym named) (all_renamed c.self.inside.taken c.self.inside.taken (standing places) c.self.invariant.1 c.args.party.now c.args.old.now c.args.new.now),
    )

pub invariant_of-self-in-Unknown : goal.invariant_of-self-in-Unknown
invariant_of-self-in-Unknown c =
    let from : SeatOf = record { party = c.args.party.now; name = c.args.old.now } in
    let to : SeatOf = record { party = c.args.party.now; name = c.args.new.now } in
    let places = c.self.inside.places.items in
    let shared = subst (Renames (under places) from to c.rename.new.self) c.in-Unknown.is (c.rename.ensures.index (under places) (c.reserve.ensures.index (under places) c.self.invariant.0)) in
    let named = ap (λ (xs : List (Option Held)). standing xs) c.rename_all.ensures ∙ standing_mapped (named_anew c.args.party.now c.args.old.now c.args.new.now) places in (
      subst (λ (s : Seats). IsIndex s (under c.rename_all.new.places.items)) (sym shared) tt,
      subst (AreTaken c.self.inside.taken) (sym named) (all_renamed c.self.inside.taken c.self.inside.taken (standing places) c.self.invariant.1 c.args.party.now c.args.old.now c.args.new.now),
    )

pub returns-in-Nothing-clause-ok : goal.returns-in-Nothing-clause-ok
returns-in-Nothing-clause-ok c =
    let from : SeatOf = record { party = c.args.party.now; name = c.args.old.now } in
    let to : SeatOf = record { party = c.args.party.now; name = c.args.new.now } in
    let places = c.self.inside.places.items in
    let told = subst (Renames (under places) from to c.rename.new.self) c.in-Nothing.is (c.rename.ensures.index (under places) (c.reserve.ensures.index (under places) c.self.invariant.0)) in
    sym (none_changed (is_at from) (called c.args.new.now) places (none_under (is_at from) places told.0)) ∙ ap (λ (xs : List Held). map (named_anew c.args.party.now c.args.old.now c.args.new.now) xs) c.self.view_is

pub returns-in-Only-clause-ok : goal.returns-in-Only-clause-ok
returns-in-Only-clause-ok c =
    let from : SeatOf = record { party = c.args.party.now; name = c.args.old.now } in
    let to : SeatOf = record { party = c.args.party.now; name = c.args.new.now } in
    let places = c.self.inside.places.items in
    let told = subst (Renames (under places) from to c.rename.new.self) c.in-Only.is (c.rename.ensures.index (under places) (c.reserve.ensures.index (under places) c.self.invariant.0)) in
    let only = only_under (is_at from) places c.in-Only.place told.only in
    let x = stands_at (is_at from) places c.in-Only.place only in
    ap (λ (xs : List (Option Held)). standing xs) (c.rename_at.ensures x.thing x.got) ∙ changed_at (is_at from) (called c.args.new.now) places c.in-Only.place only x.thing x.read
    ∙ ap (λ (xs : List Held). map (named_anew c.args.party.now c.args.old.now c.args.new.now) xs) c.self.view_is

pub returns-in-Unknown-clause-ok : goal.returns-in-Unknown-clause-ok
returns-in-Unknown-clause-ok c =
    ap (λ (xs : List (Option Held)). standing xs) c.rename_all.ensures ∙ standing_mapped (named_anew c.args.party.now c.args.old.now c.args.new.now) c.self.inside.places.items
    ∙ ap (λ (xs : List Held). map (named_anew c.args.party.now c.args.old.now c.args.new.now) xs) c.self.view_is
