use Rattle.std.proofs.Common.{◌≡◌, Option, None, Some, length, take, refl, sym, ap, ◌∙◌}
use Rattle.std.specs.Prelude.{option_copied, option_map, slice_get}
use Rattle.std.proofs.lemmas.Option.{slice_get_past, slice_get_read}
use Rattle.board_model.specs.declared.tables.Entry.{Entry}
use Rattle.board_index.specs.Boards.{called}
use Rattle.board_index.proofs.KeyPlaces.{found_placed, none_placed, placed}
use Rattle.board_index.proofs.key_places.first_of_bytes.Goals as goal

pub returns-in-Some-get-clause-found : goal.returns-in-Some-get-clause-found
returns-in-Some-get-clause-found c =
    let key = c.args.key.now.bytes in
    let entries = c.args.entries.now in
    let place = c.in-Some.place.now in
    let lookup = c.in-Some-get.ensures.lookup in
    let kept : called c.args.places.now (take c.args.size key) ≡ Some place = ap (called c.args.places.now) (sym c.bytes_of.ensures.front) ∙ sym c.get.ensures.value ∙ ap option_copied c.in-Some.is in
    let there : slice_get entries place ≡ Some c.in-Some-get.entry.now = slice_get_read entries (length entries) place c.in-Some-get.entry.now refl lookup.3.0 lookup.1 in
    sym (found_placed c.requires.places key place kept ∙ ap (λ (o : Option Entry). option_map (placed place) o) there)

pub returns-in-None-get-clause-found : goal.returns-in-None-get-clause-found
returns-in-None-get-clause-found c =
    let key = c.args.key.now.bytes in
    let entries = c.args.entries.now in
    let place = c.in-Some.place.now in
    let kept : called c.args.places.now (take c.args.size key) ≡ Some place = ap (called c.args.places.now) (sym c.bytes_of.ensures.front) ∙ sym c.get.ensures.value ∙ ap option_copied c.in-Some.is in
    let past : slice_get entries place ≡ None = slice_get_past entries place c.in-None-get.ensures.lookup.3 in
    sym (found_placed c.requires.places key place kept ∙ ap (λ (o : Option Entry). option_map (placed place) o) past)

pub returns-in-None-clause-found : goal.returns-in-None-clause-found
returns-in-None-clause-found c =
    let key = c.args.key.now.bytes in
    let kept : called c.args.places.now (take c.args.size key) ≡ None = ap (called c.args.places.now) (sym c.bytes_of.ensures.front) ∙ sym c.get.ensures.value ∙ ap option_copied c.in-None.is in
    sym (none_placed c.requires.places key kept)
