-- Who asks, as the fields of a head say it.
use Rattle.std.specs.Prelude.{ℕ, List, [], take, if◌then◌else◌, codes}
use Rattle.std.specs.Str.{is_utf8}
use Rattle.cta_model.specs.declared.asks.Who.{Who}
use Rattle.wire_http.specs.Fields.{Pair, values, first_of}

-- the text, or the empty text where the bytes are no UTF-8
unfoldable pub text_or_none : List ℕ → List ℕ
text_or_none bytes = if is_utf8 bytes then bytes else []

-- a name is the first value of its field, cut to 128 bytes, and empty where it is absent or no UTF-8
abbrev pub name_in : List ℕ → List Pair → List ℕ
name_in field fs = text_or_none (take 128 (first_of (values field fs)))

-- the requester and the group that the fields name
abbrev pub who_of : List Pair → Who
who_of fs = record { requester = name_in (codes "x-cta-requester") fs; group = name_in (codes "x-cta-group") fs }
