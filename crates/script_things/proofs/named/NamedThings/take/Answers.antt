use Rattle.std.proofs.Common.{◌≡◌, true, false, List, get_or, Option, Some, None, rules, sym, ap, subst, ◌∙◌}
use Rattle.std.specs.Prelude.{ℕ, find, slice_set}
use Rattle.board_model.specs.Tables.{holds_at, without_first}
use Rattle.board_model.specs.Things.{Held, is_held_as, thing_of}
use Rattle.script_seats.specs.Seats.{IsIndex, SeatOf, is_at}
use Rattle.script_things.specs.Places.{IsFirstPlace, standing, under}
use Rattle.script_things.specs.Taken.{AreTaken}
use Rattle.script_things.proofs.PlaceLemmas.{found_at, inside, none_found, none_without, passes_at, without_at}
use Rattle.script_things.proofs.TakenLemmas.{all_less, one_stands}
use Rattle.script_things.proofs.named.NamedThings.take.Goals as goal

abbrev a_place : ℕ → Option ℕ
a_place n = Some n

abbrev a_thing : Held → Option Held
a_thing t = Some t

abbrev no_place : Option ℕ
no_place = None

abbrev no_thing : Option Held
no_thing = None

pub returns-in_err-place-clause-taken : goal.returns-in_err-place-clause-taken
returns-in_err-place-clause-taken c =
    let s : SeatOf = record { party = c.args.party.now; name = c.args.name.now } in
    let none : c.take_place.result ≡ no_place = search rules in
    let told : c.from_residual.result ≡ no_thing = search rules in
    let nowhere = subst (IsFirstPlace (is_at s) c.self.inside.places.items) none (subst (λ (os : List (Option Held)). IsFirstPlace (is_at s) os c.take_place.result) c.deref.ensures.value c.take_place.ensures.place) in
    told ∙ sym (none_found (is_at s) c.self.inside.places.items nowhere) ∙ ap (λ (xs : List Held). thing_of xs c.args.party.now c.args.name.now) c.self.view_is

pub returns-in_err-place-clause-rest : goal.returns-in_err-place-clause-rest
returns-in_err-place-clause-rest c =
    let s : SeatOf = record { party = c.args.party.now; name = c.args.name.now } in
    let none : c.take_place.result ≡ no_place = search rules in
    let nowhere = subst (IsFirstPlace (is_at s) c.self.inside.places.items) none (subst (λ (os : List (Option Held)). IsFirstPlace (is_at s) os c.take_place.result) c.deref.ensures.value c.take_place.ensures.place) in
    sym (none_without (is_at s) c.self.inside.places.items nowhere) ∙ ap (without_first (is_held_as c.args.party.now c.args.name.now)) c.self.view_is

pub index_mut-requires : goal.index_mut-requires
index_mut-requires c =
    let s : SeatOf = record { party = c.args.party.now; name = c.args.name.now } in
    let there : c.take_place.result ≡ a_place c.in_ok-place.place = search rules in
    let first = subst (IsFirstPlace (is_at s) c.self.inside.places.items) there (subst (λ (os : List (Option Held)). IsFirstPlace (is_at s) os c.take_place.result) c.deref.ensures.value c.take_place.ensures.place) in
    let low = inside (is_at s) c.self.inside.places.items c.in_ok-place.place first in
    search (rules, low)

pub unreachable-requires : goal.unreachable-requires
unreachable-requires c =
    let s : SeatOf = record { party = c.args.party.now; name = c.args.name.now } in
    let there : c.take_place.result ≡ a_place c.in_ok-place.place = search rules in
    let first = subst (IsFirstPlace (is_at s) c.self.inside.places.items) there (subst (λ (os : List (Option Held)). IsFirstPlace (is_at s) os c.take_place.result) c.deref.ensures.value c.take_place.ensures.place) in
    let holds = passes_at (is_at s) c.self.inside.places.items c.in_ok-place.place first c.index_mut.result.now in
    let is : get_or c.self.inside.places.items c.in_ok-place.place c.index_mut.result.now ≡ no_thing = sym c.index_mut.ensures.value ∙ sym c.take.ensures.value ∙ c.in_default.is in
    let both : true ≡ false = sym holds ∙ ap (λ (o : Option Held). holds_at o (is_at s)) is in
    cc

pub lower-requires : goal.lower-requires
lower-requires c =
    let s : SeatOf = record { party = c.args.party.now; name = c.args.name.now } in
    let there : c.take_place.result ≡ a_place c.in_ok-place.place = search rules in
    let first = subst (IsFirstPlace (is_at s) c.self.inside.places.items) there (subst (λ (os : List (Option Held)). IsFirstPlace (is_at s) os c.take_place.result) c.deref.ensures.value c.take_place.ensures.place) in
    let is : c.index_mut.result.now ≡ a_thing c.in-Some.gone = sym c.take.ensures.value ∙ c.in-Some.is in
    let found : find (is_at s) (standing c.self.inside.places.items) ≡ a_thing c.in-Some.gone = found_at (is_at s) c.self.inside.places.items c.in_ok-place.place first c.index_mut.result.now ∙ sym c.index_mut.ensures.value ∙ is in
    one_stands c.self.inside.taken c.self.inside.taken (standing c.self.inside.places.items) c.self.invariant.1 c.in-Some.gone (is_at s) found

pub invariant_of-self-2 : goal.invariant_of-self-2
invariant_of-self-2 c =
    let s : SeatOf = record { party = c.args.party.now; name = c.args.name.now } in
    let places = c.self.inside.places.items in
    let there : c.take_place.result ≡ a_place c.in_ok-place.place = search rules in
    let first = subst (IsFirstPlace (is_at s) places) there (subst (λ (os : List (Option Held)). IsFirstPlace (is_at s) os c.take_place.result) c.deref.ensures.value c.take_place.ensures.place) in
    let is : c.index_mut.result.now ≡ a_thing c.in-Some.gone = sym c.take.ensures.value ∙ c.in-Some.is in
    let found : find (is_at s) (standing places) ≡ a_thing c.in-Some.gone = found_at (is_at s) places c.in_ok-place.place first c.index_mut.result.now ∙ sym c.index_mut.ensures.value ∙ is in
    let index : IsIndex c.take_place.new.seats (under (slice_set places c.in_ok-place.place None)) = search rules in
    let less = all_less c.self.inside.taken c.lower.new.rows (standing places) c.self.invariant.1 c.in-Some.gone (is_at s) found c.lower.ensures in
    let kept : AreTaken c.lower.new.rows (standing (slice_set places c.in_ok-place.place None)) = subst (AreTaken c.lower.new.rows) (sym (without_at (is_at s) places c.in_ok-place.place first)) less in
    search (rules, index, kept)

pub returns-clause-taken : goal.returns-clause-taken
returns-clause-taken c =
    let s : SeatOf = record { party = c.args.party.now; name = c.args.name.now } in
    let there : c.take_place.result ≡ a_place c.in_ok-place.place = search rules in
    let first = subst (IsFirstPlace (is_at s) c.self.inside.places.items) there (subst (λ (os : List (Option Held)). IsFirstPlace (is_at s) os c.take_place.result) c.deref.ensures.value c.take_place.ensures.place) in
    let is : c.index_mut.result.now ≡ a_thing c.in-Some.gone = sym c.take.ensures.value ∙ c.in-Some.is in
    sym (found_at (is_at s) c.self.inside.places.items c.in_ok-place.place first c.index_mut.result.now ∙ sym c.index_mut.ensures.value ∙ is) ∙ ap (λ (xs : List Held). thing_of xs c.args.party.now c.args.name.now) c.self.view_is

pub returns-clause-rest : goal.returns-clause-rest
returns-clause-rest c =
    let s : SeatOf = record { party = c.args.party.now; name = c.args.name.now } in
    let there : c.take_place.result ≡ a_place c.in_ok-place.place = search rules in
    let first = subst (IsFirstPlace (is_at s) c.self.inside.places.items) there (subst (λ (os : List (Option Held)). IsFirstPlace (is_at s) os c.take_place.result) c.deref.ensures.value c.take_place.ensures.place) in
    let rest = without_at (is_at s) c.self.inside.places.items c.in_ok-place.place first ∙ ap (without_first (is_held_as c.args.party.now c.args.name.now)) c.self.view_is in
    search (rules, rest)
