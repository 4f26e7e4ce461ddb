use Rattle.std.proofs.Common.{◌≡◌, ℕ, Option, Some, None, sym, subst}
use Rattle.std.specs.Prelude.{IfSome, slice_set}
use Rattle.script_seats.specs.declared.seats.Seats.{Seats}
use Rattle.script_seats.specs.declared.seats.Seats.TheVariants as seats
use Rattle.script_seats.specs.Seats.{IsIndex, Takes, is_at}
use Rattle.script_things.specs.Places.{under}
use Rattle.script_things.proofs.PlaceLemmas.{first_of_only, inside}
use Rattle.script_things.proofs.UnderLemmas.{none_under, only_under, under_set}
use Rattle.script_things.proofs.lookups.take_place.Goals as goal

pub returns-in-Nothing-clause-place : goal.returns-in-Nothing-clause-place
returns-in-Nothing-clause-place c =
    let places = c.args.places.now in
    let told = subst (Takes (is_at c.args.seat.now) (under places) c.take.new.self) c.in-Nothing.is (c.take.ensures.index (under places) c.requires) in
    none_under (is_at c.args.seat.now) places told.0

pub returns-in-Nothing-clause-none : goal.returns-in-Nothing-clause-none
returns-in-Nothing-clause-none c =
    (subst (Takes (is_at c.args.seat.now) (under c.args.places.now) c.take.new.self) c.in-Nothing.is (c.take.ensures.index (under c.args.places.now) c.requires)).1

pub returns-in-Only-clause-place : goal.returns-in-Only-clause-place
returns-in-Only-clause-place c =
    let places = c.args.places.now in
    let told = subst (Takes (is_at c.args.seat.now) (under places) c.take.new.self) c.in-Only.is (c.take.ensures.index (under places) c.requires) in
    first_of_only (is_at c.args.seat.now) places c.in-Only.place (only_under (is_at c.args.seat.now) places c.in-Only.place told.0)

pub returns-in-Only-clause-some : goal.returns-in-Only-clause-some
returns-in-Only-clause-some c =
    let places = c.args.places.now in
    let told = subst (Takes (is_at c.args.seat.now) (under places) c.take.new.self) c.in-Only.is (c.take.ensures.index (under places) c.requires) in
    let first = first_of_only (is_at c.args.seat.now) places c.in-Only.place (only_under (is_at c.args.seat.now) places c.in-Only.place told.0) in
    subst (IsIndex c.take.new.self) (under_set places c.in-Only.place None (inside (is_at c.args.seat.now) places c.in-Only.place first)) told.1

pub returns-in-Unknown-clause-some : goal.returns-in-Unknown-clause-some
returns-in-Unknown-clause-some c =
    known c.first_place.result
  where
    known : (o : Option ℕ) → IfSome o (λ k. IsIndex c.take.new.self (under (slice_set c.args.places.now k None)))
    known None = tt
    known (Some k) = subst (λ (s : Seats). IsIndex s (under (slice_set c.args.places.now k None))) (sym gone_index) tt
      where
        gone_index : c.take.new.self ≡ seats.Unknown
        gone_index = subst (Takes (is_at c.args.seat.now) (under c.args.places.now) c.take.new.self) c.in-Unknown.is (c.take.ensures.index (under c.args.places.now) c.requires)
