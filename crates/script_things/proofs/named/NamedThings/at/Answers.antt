use Rattle.std.proofs.Common.{List, Option, rules, sym, ap, subst, ◌∙◌}
use Rattle.board_model.specs.Things.{Held, thing_of}
use Rattle.script_seats.specs.Seats.{SeatOf, is_at}
use Rattle.script_things.specs.Places.{IsFirstPlace}
use Rattle.script_things.proofs.PlaceLemmas.{found_at, inside, none_found}
use Rattle.script_things.proofs.named.NamedThings.at.Goals as goal

pub index-requires : goal.index-requires
index-requires c =
    let s : SeatOf = record { party = c.args.party.now; name = c.args.name.now } in
    let first = subst (IsFirstPlace (is_at s) c.self.inside.places.items) c.in-Some.is (subst (λ (os : List (Option Held)). IsFirstPlace (is_at s) os c.place_of.result) c.deref.ensures.value c.place_of.ensures) in
    let low = inside (is_at s) c.self.inside.places.items c.in-Some.place first in
    search (rules, low)

pub returns-in-Some : goal.returns-in-Some
returns-in-Some c =
    let s : SeatOf = record { party = c.args.party.now; name = c.args.name.now } in
    let first = subst (IsFirstPlace (is_at s) c.self.inside.places.items) c.in-Some.is (subst (λ (os : List (Option Held)). IsFirstPlace (is_at s) os c.place_of.result) c.deref.ensures.value c.place_of.ensures) in
    let found = found_at (is_at s) c.self.inside.places.items c.in-Some.place first c.index.result.now in
    c.index.ensures ∙ sym found ∙ ap (λ (xs : List Held). thing_of xs c.args.party.now c.args.name.now) c.self.view_is

pub returns-in-None : goal.returns-in-None
returns-in-None c =
    let s : SeatOf = record { party = c.args.party.now; name = c.args.name.now } in
    let nowhere = subst (IsFirstPlace (is_at s) c.self.inside.places.items) c.in-None.is (subst (λ (os : List (Option Held)). IsFirstPlace (is_at s) os c.place_of.result) c.deref.ensures.value c.place_of.ensures) in
    sym (none_found (is_at s) c.self.inside.places.items nowhere) ∙ ap (λ (xs : List Held). thing_of xs c.args.party.now c.args.name.now) c.self.view_is
