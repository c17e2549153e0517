-- What the parameters of a target name, once they are percent-decoded.
use Rattle.std.specs.Prelude.{ℕ, ◌-◌, ◌^◌, ◌&&◌, List, Option, Some, None, unwrap_or, if◌then◌else◌, nat_le, nat_lt}
use Rattle.std.specs.Int.{from_be_bytes, w128}
use Rattle.std.specs.Str.{is_utf8}
use Rattle.uuid.specs.Text.{parsed}
use Rattle.cta_site.specs.declared.site.Site.{Site}
use Rattle.cta_site.specs.Lookups.{drive_of, tape_of}

-- the UUID of the request of number 0, as a number
abbrev pub first_id : ℕ
first_id = 0x00000000000080008000000000000000

-- the number of the request whose UUID is this number, and 0, which is no request's, where it is none of a request
abbrev pub numbered : ℕ → ℕ
numbered id = if nat_le first_id id && nat_lt (id - first_id) (2 ^ 32) then id - first_id else 0

-- the number of the request of this UUID
abbrev pub number_of_id : Option (List ℕ) → ℕ
number_of_id None = 0
number_of_id (Some bytes) = numbered (from_be_bytes w128 bytes)

-- the number of the request that a text names, in any form of a UUID
abbrev pub request_number : List ℕ → ℕ
request_number text = if is_utf8 text then number_of_id (parsed text) else 0

-- a number of the site, and the greatest of 32 bits, which is none of it, where there is none
abbrev pub known_or_none : Option ℕ → ℕ
known_or_none number = unwrap_or number 4294967295

-- the number of the drive of this name; bytes that are no UTF-8 are no drive's
abbrev pub drive_number : Site → List ℕ → ℕ
drive_number site name = known_or_none (drive_of site name)

-- the number of the tape of this VID; bytes that are no UTF-8 are no tape's
abbrev pub tape_number : Site → List ℕ → ℕ
tape_number site vid = known_or_none (tape_of site vid)

-- the text that these bytes are, none where they are no UTF-8
abbrev pub text_in : List ℕ → Option (List ℕ)
text_in bytes = if is_utf8 bytes then Some bytes else None
