use Rattle.std.proofs.Common.{◌≡◌, ◌+◌, ◌<◌, ◌∷◌, List, ℕ, add-one, ap, drop, drop-cons, get_or, length, refl, rules, sym, ◌∙◌}
use Rattle.script_watchers.specs.declared.calls.Asked.{Asked}
use Rattle.script_watchers.specs.Calls.{collected}
use Rattle.script_watchers.proofs.calls.collect.Goals as goal

pub loop-row-preserved : goal.loop-row-preserved
loop-row-preserved c =
    let ids = c.args.ids.now.items in
    let rows = c.args.rows.now.items in
    let i = c.loop-row.row-index in
    let row = c.row-item.result in
    let inside : i < length rows = search rules in
    let is : row ≡ get_or rows i row = c.row-item.is ∙ ap (λ (l : List Asked). get_or l i row) c.deref-row-items.ensures.value in
    let there : drop i rows ≡ get_or rows i row ∷ drop (i + 1) rows = rw (add-one, drop-cons rows i row) refl in
    let at : drop i rows ≡ row ∷ drop (i + 1) rows = there ∙ ap (λ (y : Asked). y ∷ drop (i + 1) rows) (sym is) in
    ap (λ (cs : List (List ℕ)). collected ids cs (drop (i + 1) rows)) c.in_ok-add_called.ensures ∙ ap (collected ids c.loop-row.calls.items) (sym at) ∙ c.loop-row.invariant
