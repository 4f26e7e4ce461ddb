use Rattle.std.proofs.Common.{◌≡◌, true, rules, ◌∙◌}
use Rattle.board_index.proofs.KeyPlaces.{same_entry}
use Rattle.board_index.proofs.key_places.entry_in.Goals as goal

pub returns-in-Ok-clause-found : goal.returns-in-Ok-clause-found
returns-in-Ok-clause-found g c =
    let Z = g.K.ZeroCopySend in
    let on : c.is_equal_by_bytes.result ≡ true = search (rules, c.if-not-is_equal_by_bytes.false) in
    let found = rw c.SIZE.ensures at c.first_of_bytes.ensures.found in
    found ∙ same_entry g.K.PartialEq.eq Z.value_of Z.SIZE Z.WORDS g.met.K.Eq.laws (c.is_equal_by_bytes.ensures on) c.args.key.now c.in-Ok.memory.bytes
    c.first_of_bytes.ensures.bytes c.in-Ok.ensures.reads_back 0 c.args.entries.now c.requires.places.each
