-- Laws of space: on tapes, and in the buffer.
use Rattle.std.specs.Prelude.{ℕ, ◌+◌, ◌≤◌}
use Rattle.cta_site.specs.declared.site.Site.{Site}
use Rattle.cta_site.specs.Lookups.{capacity_of}
use Rattle.cta_model.specs.History.{History}
use Rattle.cta_model.specs.Tapes.{used_bytes}
use Rattle.cta_model.specs.Space.{size_of_files, resident_files, bytes_to_read}
use Rattle.cta_model.specs.Legal.{IsLegal}

-- in a legal history a tape's used bytes are at most its capacity
abbrev pub TapesHaveRoom : Type 0
TapesHaveRoom = (site : Site) (h : History) → IsLegal site h → (v : ℕ) → used_bytes h v ≤ capacity_of site v

-- in a legal history the sizes of resident files and of claimed recalls are at most the limit `buffer`
abbrev pub BufferHasRoom : Type 0
BufferHasRoom = (site : Site) (h : History) → IsLegal site h → size_of_files h (resident_files h) + bytes_to_read h ≤ site.limits.buffer
