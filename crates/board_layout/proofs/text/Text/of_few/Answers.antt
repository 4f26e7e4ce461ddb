use Rattle.std.proofs.Common.{◌≡◌, rules, ap, ◌∙◌}
use Rattle.std.proofs.lemmas.Nat.{le_bytes_8}
use Rattle.board_layout.proofs.ShortTexts.{few_padded, few_taken}
use Rattle.board_layout.proofs.text.Text.of_few.Goals as goal

pub invariant_of-result : goal.invariant_of-result
invariant_of-result g c =
    let same : c.copy_from_slice.new.self ≡ c.args.bytes = c.copy_from_slice.ensures.after ∙ c.to_le_bytes.ensures ∙ le_bytes_8 c.args.bytes c.from_le_bytes-word.result c.requires.padded.1 (λ i. search rules) c.from_le_bytes-word.ensures in
    few_padded g.row.N c.args.len c.args.bytes c.copy_from_slice.new.self c.requires.room c.requires.padded same

pub returns : goal.returns
returns g c =
    let same : c.copy_from_slice.new.self ≡ c.args.bytes = c.copy_from_slice.ensures.after ∙ c.to_le_bytes.ensures ∙ le_bytes_8 c.args.bytes c.from_le_bytes-word.result c.requires.padded.1 (λ i. search rules) c.from_le_bytes-word.ensures in
    few_taken g.row.N c.args.len c.args.bytes c.copy_from_slice.new.self c.requires.padded same
