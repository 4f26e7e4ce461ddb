use Rattle.std.proofs.Common.{◌≡◌, ◌++◌, ◌∙◌, ap, ℕ, List}
use Rattle.std.specs.Prelude.{codes}
use Rattle.sha1.specs.Sha1.{sha1}
use Rattle.hex.specs.Hex.{encode_lower}
use Rattle.board_domain.proofs.service_hash.hash_of.Goals as goal

pub returns : goal.returns
returns c =
    let first : c.try_extend_from_slice.new.self.items ≡ codes "Blackboard/" = c.in-Ok.ensures.ok ∙ (λ k. c.new-bytes.ensures k ++ codes "Blackboard/") in
    let whole = c.as_slice.ensures.value ∙ c.in-Ok-try_extend_from_slice.ensures.ok ∙ (λ k. first k ++ c.as_bytes.ensures.value k) in
    c.value.ensures ∙ c.new.ensures ∙ ap (λ (bytes : List ℕ). encode_lower (sha1 bytes)) whole
