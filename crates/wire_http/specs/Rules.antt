-- The rules of a whole head, in their order, and what a head that keeps them says.
use Rattle.std.specs.Prelude.{ℕ, Bool, true, not, ◌&&◌, ◌||◌, List, [], ◌∷◌, length, Option, Some, None, if◌then◌else◌, nat_eq, bytes_eq, nat_lt, ◌==◌, codes}
use Rattle.std.specs.List.{list_all, list_any, starts_with}
use Rattle.wire_http.specs.Fields.{Pair, values, is_word, is_length, lengths, codings, number}
use Rattle.wire_http.specs.Options.{has_option}
use Rattle.wire_http.specs.declared.refusal.WireRefusal.{WireRefusal}
use Rattle.wire_http.specs.declared.refusal.WireRefusal.TheVariants.{BadTarget, BadHost, TwoLengths, Coding, BadLength, TooLarge}
use Rattle.wire_http.specs.declared.head.BodyLen.{BodyLen}
use Rattle.wire_http.specs.declared.head.BodyLen.TheVariants.{Sized, Chunked}

-- the target is cut at its first question mark
abbrev pub before_query : List ℕ → List ℕ
before_query [] = []
before_query (b ∷ bs) = if b == 63 then [] else b ∷ before_query bs

-- a target that doesn't begin with a slash
abbrev pub breaks_target : List ℕ → Bool
breaks_target [] = true
breaks_target (b ∷ bs) = not (b == 47)

-- a 1.1 request that hasn't exactly one Host
abbrev pub breaks_host : ℕ → List Pair → Bool
breaks_host minor fs = (minor == 1) && not (length (values (codes "host") fs) == 1)

-- a stated length beside a transfer coding
abbrev pub breaks_two_lengths : List Pair → Bool
breaks_two_lengths fs = nat_lt 0 (length (lengths fs)) && nat_lt 0 (length (codings fs))

-- another transfer coding than one field `chunked`, or another content coding than `identity`
abbrev pub breaks_coding : List Pair → Bool
breaks_coding fs =
    nat_lt 1 (length (codings fs))
    || (not (list_all (is_word (codes "chunked")) (codings fs))
    || not (list_all (is_word (codes "identity")) (values (codes "content-encoding") fs)))

-- two stated lengths, one that is none, or a transfer coding in a 1.0 request
abbrev pub breaks_length : ℕ → List Pair → Bool
breaks_length minor fs =
    nat_lt 1 (length (lengths fs))
    || (not (list_all is_length (lengths fs)) || ((minor == 0) && nat_lt 0 (length (codings fs))))

-- a PUT of a target below `/data/` stores a file
unfoldable pub is_file_put : List ℕ → List ℕ → Bool
is_file_put method target = bytes_eq method (codes "PUT") && starts_with nat_eq target (codes "/data/")

-- the longest body is the limit of a file where one is stored, else 4 MiB
abbrev pub longest_body : ℕ → List ℕ → List ℕ → ℕ
longest_body limit method target = if is_file_put method target then limit else 4194304

-- the first rule that a head breaks, None where it keeps them all
unfoldable pub first_broken : ℕ → List ℕ → List ℕ → ℕ → List Pair → Option WireRefusal
first_broken limit method target minor fs =
    if breaks_target target then Some BadTarget
    else (if breaks_host minor fs then Some BadHost
    else (if breaks_two_lengths fs then Some TwoLengths
    else (if breaks_coding fs then Some Coding
    else (if breaks_length minor fs then Some BadLength
    else (if nat_lt (longest_body limit method target) (number (lengths fs)) then Some TooLarge
    else None)))))

-- the body is in chunks where a coding is named, else it has the stated length, which is 0 where none is stated
unfoldable pub body_len : List Pair → BodyLen
body_len fs = if length (codings fs) == 0 then Sized (number (lengths fs)) else Chunked

-- the connection closes after a 1.0 request, and after one with `close` among its Connection options
unfoldable pub is_closing : ℕ → List Pair → Bool
is_closing minor fs = (minor == 0) || list_any (has_option (codes "close")) (values (codes "connection") fs)

-- a 1.1 request with an Expect that is `100-continue`, and whose length isn't stated as 0, waits for a 100 Continue
unfoldable pub is_expecting : ℕ → List Pair → Bool
is_expecting minor fs =
    (minor == 1) && (list_any (is_word (codes "100-continue")) (values (codes "expect") fs)
    && ((length (lengths fs) == 0) || not (number (lengths fs) == 0)))
