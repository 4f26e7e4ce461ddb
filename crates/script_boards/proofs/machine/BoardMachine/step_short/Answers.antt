use Rattle.std.proofs.Common.{◌≡◌, Bool, Option, Some, None, cond, refl, sym, ap, subst, ◌∙◌}
use Rattle.std.specs.HashMap.{get}
use Rattle.std.specs.Option.{option_flatten}
use Rattle.std.specs.Prelude.{is_some}
use Rattle.std.specs.Str.{bytes_eq}
use Rattle.script_boards.specs.declared.short_steps.ShortStep.{ShortStep}
use Rattle.script_boards.specs.Machine.{task_of}
use Rattle.script_boards.specs.ShortSteps.{MakesAccess}
use Rattle.script_boards.specs.Steps.{IsPut}
use Rattle.script_boards.proofs.PartyTasks.{is_free, placed, put_same, some_place, unplaced}
use Rattle.script_boards.proofs.StepRefusals.{step_idle}
use Rattle.script_boards.proofs.ShortSteps.{alike_represents, own_goes_on, own_words, put_and_taken, some_made}
use Rattle.script_boards.proofs.machine.BoardMachine.step_short.Goals as goal

pub make_access-requires-clause-goes_on : goal.make_access-requires-clause-goes_on
make_access-requires-clause-goes_on g c =
    let stands = ap option_flatten (sym c.in-Some.ensures.value ∙ ap some_place c.in-Some-place.is) in
    own_goes_on c.args.self.now c.args.party.now c.in-Some-place.task stands c.requires

pub make_access-requires-clause-words : goal.make_access-requires-clause-words
make_access-requires-clause-words g c =
    let stands = ap option_flatten (sym c.in-Some.ensures.value ∙ ap some_place c.in-Some-place.is) in
    own_words c.args.self.now c.args.party.now c.in-Some-place.task stands c.requires

pub returns-in_default-place-clause-steps : goal.returns-in_default-place-clause-steps
returns-in_default-place-clause-steps g c =
    let m = c.args.self.now in
    let party = c.args.party.now in
    let place = c.in-Some.place.now in
    let found : get bytes_eq m.parties.places party ≡ some_place place = sym c.in-Some.ensures.value in
    let none : task_of m party ≡ None = ap option_flatten found ∙ c.in_default-place.is in
    let new = record m { parties = record { places = c.get_mut.follows.lender place } } in
    let put = ((c.get_mut.follows.holds place).3 (ap is_some found)).0 in
    let tasks : IsPut (task_of m) (task_of new) party place = placed (λ p. get bytes_eq m.parties.places p) (λ p. get bytes_eq new.parties.places p) party place put in
    λ s rep reached l. (
      step_idle s party (is_free (task_of m) s.parties rep.parties party none) l,
      alike_represents m new refl (put_same (task_of m) (task_of new) party place tasks (ap option_flatten found)) refl refl s rep,
    )

pub returns-then-keeps_place-clause-steps : goal.returns-then-keeps_place-clause-steps
returns-then-keeps_place-clause-steps g c =
    let m = c.args.self.now in
    let party = c.args.party.now in
    let own = c.in-Some-place.task in
    let after = c.make_access.new.self in
    let made = c.in-Some-make_access.made in
    let found : get bytes_eq m.parties.places party ≡ some_place (Some own) = sym c.in-Some.ensures.value ∙ ap some_place c.in-Some-place.is in
    let new = record m { domain = c.make_access.new.domain; parties = record { places = c.get_mut.follows.lender None } } in
    let put = ((c.get_mut.follows.holds None).3 (ap is_some found)).0 in
    let tasks : IsPut (task_of m) (task_of new) party None = placed (λ p. get bytes_eq m.parties.places p) (λ p. get bytes_eq new.parties.places p) party None put in
    let makes = subst (λ (o : Option ShortStep). MakesAccess m.domain c.make_access.new.domain own after o) c.in-Some-make_access.is c.make_access.ensures in
    some_made m party own (ap option_flatten found) new after refl refl made makes (subst (λ (b : Bool). IsPut (task_of m) (task_of new) party (cond b None (Some after))) (sym c.if-made.true) tasks)

pub returns-else-keeps_place-clause-steps : goal.returns-else-keeps_place-clause-steps
returns-else-keeps_place-clause-steps g c =
    let m = c.args.self.now in
    let party = c.args.party.now in
    let own = c.in-Some-place.task in
    let after = c.make_access.new.self in
    let made = c.in-Some-make_access.made in
    let found : get bytes_eq m.parties.places party ≡ some_place (Some own) = sym c.in-Some.ensures.value ∙ ap some_place c.in-Some-place.is in
    let mid = record m { parties = record { places = c.get_mut.follows.lender (Some after) } } in
    let new = record m { domain = c.make_access.new.domain; parties = record { places = c.remove.new.self } } in
    let put = ((c.get_mut.follows.holds (Some after)).3 (ap is_some found)).0 in
    let tasks : IsPut (task_of m) (task_of mid) party (Some after) = placed (λ p. get bytes_eq m.parties.places p) (λ p. get bytes_eq mid.parties.places p) party (Some after) put in
    let gone : IsPut (task_of mid) (task_of new) party None = unplaced (λ p. get bytes_eq mid.parties.places p) (λ p. get bytes_eq new.parties.places p) party c.remove.ensures.updates.0 in
    let makes = subst (λ (o : Option ShortStep). MakesAccess m.domain c.make_access.new.domain own after o) c.in-Some-make_access.is c.make_access.ensures in
    some_made m party own (ap option_flatten found) new after refl refl made makes
    (subst (λ (b : Bool). IsPut (task_of m) (task_of new) party (cond b None (Some after))) (sym c.if-made.true) (put_and_taken (task_of m) (task_of mid) (task_of new) party (Some after) tasks gone))

pub returns-else-made-clause-steps : goal.returns-else-made-clause-steps
returns-else-made-clause-steps g c =
    let m = c.args.self.now in
    let party = c.args.party.now in
    let own = c.in-Some-place.task in
    let after = c.make_access.new.self in
    let made = c.in-Some-make_access.made in
    let found : get bytes_eq m.parties.places party ≡ some_place (Some own) = sym c.in-Some.ensures.value ∙ ap some_place c.in-Some-place.is in
    let new = record m { domain = c.make_access.new.domain; parties = record { places = c.get_mut.follows.lender (Some after) } } in
    let put = ((c.get_mut.follows.holds (Some after)).3 (ap is_some found)).0 in
    let tasks : IsPut (task_of m) (task_of new) party (Some after) = placed (λ p. get bytes_eq m.parties.places p) (λ p. get bytes_eq new.parties.places p) party (Some after) put in
    let makes = subst (λ (o : Option ShortStep). MakesAccess m.domain c.make_access.new.domain own after o) c.in-Some-make_access.is c.make_access.ensures in
    some_made m party own (ap option_flatten found) new after refl refl made makes (subst (λ (b : Bool). IsPut (task_of m) (task_of new) party (cond b None (Some after))) (sym c.if-made.false) tasks)
