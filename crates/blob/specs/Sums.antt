-- What a list of bytes is known by once it was hashed.
use Rattle.std.specs.Prelude.{ℕ, List, length}
use Rattle.sha2.specs.Sha256.{sha256}
use Rattle.blob.specs.declared.sum.Sum256.{Sum256}

-- the sum of a list of bytes is its length and its SHA-256
abbrev pub sum_of : List ℕ → Sum256
sum_of bytes = record { len = length bytes; digest = sha256 bytes }
