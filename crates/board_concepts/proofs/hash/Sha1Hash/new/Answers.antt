use Rattle.std.proofs.Common.{◌≡◌, ◌*◌, length, rules, arith, refl, ap, ◌∙◌}
use Rattle.board_names.specs.Names.{IsBase64Url}
use Rattle.hex.specs.Hex.{encode_lower, lower_digits}
use Rattle.hex.proofs.HexLemmas.{length-encode_with}
use Rattle.board_concepts.proofs.Digits.{digits}
use Rattle.board_concepts.proofs.hash.Sha1Hash.new.Goals as goal

pub unreachable-requires-in_default-new : goal.unreachable-requires-in_default-new
unreachable-requires-in_default-new c =
    let whole : 40 ≡ 2 * length c.digest-digest.result = c.in-Ok.ensures.fits.0 refl in
    let written : c.encode_to_slice.new.output ≡ encode_lower c.digest-digest.result = c.in-Ok.ensures.written in
    let long : length c.encode_to_slice.new.output ≡ 2 * length c.digest-digest.result =
    ap length written ∙ length-encode_with lower_digits c.digest-digest.result in
    let valid : IsBase64Url c.encode_to_slice.new.output = record {
      fits = omega (arith, whole, long);
      some = omega (arith, whole, long);
      bytes = rw written (digits c.digest-digest.result (search rules));
    } in
    c.in_default-new.not-Ok _ (c.new.ensures.accepted valid)
