-- The hash by which a service is known.
use Rattle.std.specs.Prelude.{ℕ, List, ◌++◌, codes}
use Rattle.sha1.specs.Sha1.{sha1}
use Rattle.hex.specs.Hex.{encode_lower}

-- the SHA-1 of the pattern and the name, in hexadecimal digits
abbrev pub service_hash : List ℕ → List ℕ
service_hash name = encode_lower (sha1 (codes "Blackboard/" ++ name))
