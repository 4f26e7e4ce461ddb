use Rattle.std.proofs.Common.{◌≡◌, ◌+◌, ◌++◌, ◌∷◌, [], List, append_assoc, length, take, sym, ap, subst, ◌∙◌}
use Rattle.board_layout.specs.Keys.{IsKeyBytes}
use Rattle.board_model.specs.declared.tables.Entry.{Entry}
use Rattle.board_index.specs.Boards.{called}
use Rattle.board_index.proofs.Called.{called_turned}
use Rattle.board_index.proofs.Indexed.{a_number}
use Rattle.board_index.proofs.KeyPlaces.{placed_more}
use Rattle.board_index.proofs.key_places.places_of.Goals as goal

pub loop-last-preserved : goal.loop-last-preserved
loop-last-preserved c =
    let inv = c.loop-last.invariant in
    let last = c.in-Some.last.now in
    let before = c.in-Some.before.now in
    let behind = inv.0 in
    let bytes = c.in_ok-bytes.bytes.items in
    let front : c.args.entries.now ≡ before ++ last ∷ behind
    = inv.1 ∙ ap (λ (l : List Entry). l ++ behind) c.in-Some.ensures.cases.0 ∙ append_assoc before (last ∷ []) behind in
    let next : length c.loop-last.left.now ≡ length before + 1 = sym c.in-Some.ensures.cases.1 in
    let named : bytes ≡ take c.args.size last.key.bytes
    = c.in_ok-bytes.ensures.items ∙ c.bytes_of.ensures.front ∙ ap (λ (e : Entry). take c.args.size e.key.bytes) c.last.view_is in
    let valid : IsKeyBytes last.key.bytes = subst (λ (e : Entry). IsKeyBytes e.key.bytes) c.last.view_is c.bytes_of.ensures.bytes in
    let turned = called_turned c.loop-last.places c.insert.new.self bytes (a_number (length before)) c.in-Ok.ensures.updates.0 c.in-Ok.ensures.updates.1 in (
      last ∷ behind,
      front,
      placed_more c.args.size (length before) (length c.loop-last.left.now) bytes last behind (called c.loop-last.places) (called c.insert.new.self)
          next named valid turned inv.2,
    )
