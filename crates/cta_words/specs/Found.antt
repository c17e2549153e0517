-- The words that a form has by what `clap` found.
use Rattle.std.specs.Prelude.{List, [], ◌∷◌, Option, Some, None, codes, if◌then◌else◌}
use Rattle.std.specs.Str.{bytes_eq}
use Rattle.clap.specs.Words.{Row, Text, first_of}

-- `replay` and a site, where there is one
abbrev pub replay_with : Option Text → Option (List Text)
replay_with (Some site) = Some (codes "replay" ∷ site ∷ [])
replay_with _ = None

-- `serve` and its four values, where there are four
abbrev pub serve_with : Option Text → Option Text → Option Text → Option Text
    → Option (List Text)
serve_with (Some site) (Some addr) (Some media) (Some workers) =
    Some (codes "serve" ∷ site ∷ addr ∷ media ∷ workers ∷ [])
serve_with _ _ _ _ = None

-- `mill` and its three values, where there are three
abbrev pub mill_with : Option Text → Option Text → Option Text → Option (List Text)
mill_with (Some seed) (Some files) (Some workers) =
    Some (codes "mill" ∷ seed ∷ files ∷ workers ∷ [])
mill_with _ _ _ = None

-- `durable` and its five values, where there are five
abbrev pub durable_with : Option Text → Option Text → Option Text → Option Text → Option Text
    → Option (List Text)
durable_with (Some site) (Some addr) (Some media) (Some workers) (Some journal) =
    Some (codes "durable" ∷ site ∷ addr ∷ media ∷ workers ∷ journal ∷ [])
durable_with _ _ _ _ _ = None

-- the words of `replay` with the first value of its place
abbrev pub replay_words : List Row → Option (List Text)
replay_words rows = replay_with (first_of (codes "SITE") rows)

-- the words of `serve` with the first values of its places
abbrev pub serve_words : List Row → Option (List Text)
serve_words rows = serve_with (first_of (codes "SITE") rows) (first_of (codes "ADDR") rows)
    (first_of (codes "MEDIA") rows) (first_of (codes "WORKERS") rows)

-- the words of `mill` with the first values of its places
abbrev pub mill_words : List Row → Option (List Text)
mill_words rows = mill_with (first_of (codes "SEED") rows) (first_of (codes "FILES") rows)
    (first_of (codes "WORKERS") rows)

-- the words of `durable` with the first values of its places
abbrev pub durable_words : List Row → Option (List Text)
durable_words rows = durable_with (first_of (codes "SITE") rows) (first_of (codes "ADDR") rows)
    (first_of (codes "MEDIA") rows) (first_of (codes "WORKERS") rows)
    (first_of (codes "JOURNAL") rows)

-- the words of the subcommand of this name, with the values that were found for its places
abbrev pub subcommand_words : Text → List Row → Option (List Text)
subcommand_words name rows =
    if bytes_eq name (codes "replay") then replay_words rows
    else (if bytes_eq name (codes "serve") then serve_words rows
    else (if bytes_eq name (codes "mill") then mill_words rows
    else (if bytes_eq name (codes "durable") then durable_words rows else None)))

-- the words of the subcommand that `clap` found
abbrev pub words_found : Option (Text × List Row) → Option (List Text)
words_found None = None
words_found (Some found) = subcommand_words found.0 found.1
