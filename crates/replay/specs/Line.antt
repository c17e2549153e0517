-- The lines of a script, by their one spelling.
use Rattle.std.specs.Prelude.{ℕ, ◌<◌, ◌≤◌, List, [], length, slice_index_or, codes}
use Rattle.std.specs.Fmt.{decimal}
use Rattle.cta_site.specs.Names.{drive_names}
use Rattle.cta_site.specs.declared.site.Site.{Site}
use Rattle.cta_model.specs.Legal.{greatest_moment}
use Rattle.replay.specs.Bytes.{then_byte}
use Rattle.replay.specs.declared.line.ScriptLine.{ScriptLine}
use Rattle.replay.specs.declared.line.ScriptLine.TheVariants.{Http, Step, End}

-- a word, a space and the rest
abbrev pub then_word : List ℕ → List ℕ → List ℕ
then_word word rest = then_byte 32 word rest

-- the name of the drive with this number
abbrev pub drive_name : Site → ℕ → List ℕ
drive_name site drive = slice_index_or (drive_names site) drive []

-- what stands behind the word `http`: the link, the moment and the number of bytes
abbrev pub http_words : ℕ → ℕ → ℕ → List ℕ
http_words link moment len = then_word (decimal link) (then_word (decimal moment) (decimal len))

-- what stands behind the word `step`: the name of the drive with this number, and the moment
abbrev pub step_words : Site → ℕ → ℕ → List ℕ
step_words site drive moment = then_word (drive_name site drive) (decimal moment)

-- the line that begins a record of bytes
abbrev pub http_text : ℕ → ℕ → ℕ → List ℕ
http_text link moment len = then_word (codes "http") (http_words link moment len)

-- a line without the LF that ends it
abbrev pub text : Site → ScriptLine → List ℕ
text site (Http h) = http_text h.link h.moment h.len
text site (Step drive moment) = then_word (codes "step") (step_words site drive moment)
text site End = codes "end"

-- the numbers of an `http` line
abbrev pub IsHttp : ℕ → ℕ → ℕ → Type 0
IsHttp link moment len = (link ≤ 1023) × (moment ≤ greatest_moment) × (len ≤ 2147483648)

-- the numbers of a `step` line: a drive of the site, and a moment
abbrev pub IsDriveStep : Site → ℕ → ℕ → Type 0
IsDriveStep site drive moment = (drive < length site.drives.items) × (moment ≤ greatest_moment)

-- a line of a script for a site
abbrev pub IsLine : Site → ScriptLine → Type 0
IsLine site (Http h) = IsHttp h.link h.moment h.len
IsLine site (Step drive moment) = IsDriveStep site drive moment
IsLine site End = Unit {0}
