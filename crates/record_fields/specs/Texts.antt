-- Texts as bytes, each with what follows.
use Rattle.std.specs.Prelude.{ℕ, List, ◌++◌, length, ◌<◌, ◌^◌}
use Rattle.std.specs.Str.{IsUtf8}
use Rattle.record_fields.specs.Numbers.{number}

-- a text is its length in four bytes, and its bytes
abbrev pub text : List ℕ → List ℕ → List ℕ
text bytes rest = number (length bytes) (bytes ++ rest)

-- a text is UTF-8, and its length is one of four bytes
abbrev pub TextFits : List ℕ → Type 0
TextFits bytes = (length bytes < 2 ^ 32) × IsUtf8 bytes
