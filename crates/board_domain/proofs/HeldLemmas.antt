-- A thing that is held is of a board whose keys are short.
use Rattle.std.proofs.Common.{◌≡◌, ℕ, true, Option, Some, None, sym, subst}
use Rattle.std.specs.Prelude.{◌&&◌, ◌≤◌, find, IfSome}
use Rattle.board_layout.specs.declared.type_detail.TypeDetail.{TypeDetail}
use Rattle.board_model.specs.declared.tables.Board.{Board}
use Rattle.board_model.specs.declared.tables.Thing.{Thing}
use Rattle.board_model.specs.declared.tables.ThingKind.{ThingKind}
use Rattle.board_model.specs.Tables.{board_at, holds_at, kind_of, same_kind}
use Rattle.board_model.specs.TypeTable.{same_type}
use Rattle.board_service.specs.Domain.{is_thing, stands_as}
use Rattle.board_service.specs.Facts.{IsDomain}
use Rattle.board_handles.specs.BoardEnds.{Core}
use Rattle.board_domain.proofs.AskedLemmas.{both_hold, type_is}

-- keys of the type of a board whose keys are short
of_board : (keys : TypeDetail) (w : Option Board) → IfSome w (λ b. b.key.size ≤ 64) → holds_at w (λ b. same_type b.key keys) ≡ true → keys.size ≤ 64
of_board keys None short e = absurd cc
of_board keys (Some b) short e = subst (λ (k : TypeDetail). k.size ≤ 64) (type_is b.key keys e) short

pub held_short : (d : Core) (keys : TypeDetail) (thing : ℕ) (kind : ThingKind) → IsDomain d → true ≡ stands_as d keys thing kind → keys.size ≤ 64
held_short d keys thing kind facts e = by (find (is_thing thing) d.tables.things) (sym e)
  where
    by : (t : Option (Thing ℕ ℕ)) → holds_at t (λ x. same_kind (kind_of x.kind) kind && holds_at (board_at d.tables x.board) (λ b. same_type b.key keys)) ≡ true → keys.size ≤ 64
    by None h = absurd cc
    by (Some x) h = of_board keys (board_at d.tables x.board) (facts.tables.keyed x.board) (both_hold (same_kind (kind_of x.kind) kind) (holds_at (board_at d.tables x.board) (λ b. same_type b.key keys)) h).1
