use Rattle.std.proofs.Common.{◌≡◌, ℕ, List, ◌++◌, length, refl, sym, ap, ◌∙◌, Some}
use Rattle.std.specs.Prelude.{codes}
use Rattle.board_model.specs.declared.tables.Kind.TheVariants as kind
use Rattle.board_model.specs.declared.tables.ThingKind.TheVariants as thing_kind
use Rattle.board_model.specs.Tables.{entry_of}
use Rattle.board_model.specs.Things.{Held, held_of_kind}
use Rattle.script_model.specs.ScriptTurns.{ScriptState}
use Rattle.script_model.specs.LawsOfComposition.{state_met}
use Rattle.script_moments.specs.Gets.{Get}
use Rattle.script_moments.specs.LawsOfSnapshots.{IsLastValue}
use Rattle.script_moments.specs.OneRound.{b, one_round, to_second, two_entries}
use Rattle.script_moments.proofs.worked_snapshots.one_round_is_of_no_moment.Goals as goal

same_some : (x y : Held) → Some x ≡ Some y → x ≡ y
same_some x y e = cc

-- the length of the list of the entry that the handle names
last_length : (s : ScriptState) (handle : List ℕ) (x : Get) (t : Held) (g : ℕ) → held_of_kind s.boards.standing thing_kind.ReadHandle b handle ≡ Some t → length (s.boards.published t.board (entry_of t.kind)) ≡ g → IsLastValue s b handle x → x.generation ≡ g
last_length s handle x t g found is h =
    let e : h.thing ≡ t = same_some h.thing t (sym h.found ∙ found) in
    h.generation ∙ ap (λ (y : Held). length (s.boards.published y.board (entry_of y.kind))) e ∙ is

abbrev handle_h : Held
handle_h = record { holder = b; name = codes "h"; board = 1; kind = kind.ReadHandle 0 }

abbrev handle_k : Held
handle_k = record { holder = b; name = codes "k"; board = 1; kind = kind.ReadHandle 1 }

two_one : ◌≡◌ {A = ℕ} 2 1 → ⊥
two_one e = cc

one_two : ◌≡◌ {A = ℕ} 1 2 → ⊥
one_two e = cc

pub returns-clause-began : goal.returns-clause-began
returns-clause-began c = λ h. two_one (last_length (state_met two_entries) (codes "k") _ handle_k 1 refl refl h.1.0)

pub returns-clause-between : goal.returns-clause-between
returns-clause-between c = λ h. one_two (last_length (state_met (two_entries ++ to_second)) (codes "h") _ handle_h 2 refl refl h.0)

pub returns-clause-ended : goal.returns-clause-ended
returns-clause-ended c = λ h. one_two (last_length (state_met (two_entries ++ one_round)) (codes "h") _ handle_h 2 refl refl h.0)
