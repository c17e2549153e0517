-- How many bytes the queues of a legal history have.
use Rattle.std.specs.Prelude.{ℕ, ◌+◌, ◌≤◌, ◌<◌, ◌^◌, List}
use Rattle.cta_site.specs.declared.site.Site.{Site}
use Rattle.cta_site.specs.ValidSite.{IsValidSite}
use Rattle.cta_site.specs.Lookups.{copies_of}
use Rattle.cta_model.specs.declared.asks.Direction.{Direction}
use Rattle.cta_model.specs.History.{History}
use Rattle.cta_model.specs.Files.{size_of}
use Rattle.cta_model.specs.Queues.{queue_bytes, queue_of}
use Rattle.cta_model.specs.Legal.{IsLegal}
use Rattle.part_model.specs.Queues.{Lines}
use Rattle.part_laws.specs.Lines.{AreLines}
use Rattle.job_queues.specs.Waiting.{bytes_of}

-- a path of a valid site has at most 4 copies
abbrev pub CopiesAreFew : Type 0
CopiesAreFew = (site : Site) → IsValidSite site → (path : List ℕ) → copies_of site path ≤ 4

-- in a legal history no file is larger than the limit `buffer`
abbrev pub FilesFitBuffer : Type 0
FilesFitBuffer = (site : Site) (h : History) → IsLegal site h → (f : ℕ) → size_of h f ≤ site.limits.buffer

-- so many bytes, and one file more that has room in the buffer, are few enough to be counted in 64 bits
pub record AreSmall (site : Site) (bytes : ℕ) : Type 0 where
  pub low : bytes ≤ 36028797018963968
  pub fits : (len : ℕ) → len ≤ site.limits.buffer → bytes + len < 2 ^ 64

-- in a legal history of a valid site the files of a queue have at most 2^55 bytes
abbrev pub QueuesAreSmall : Type 0
QueuesAreSmall =
    (site : Site) (h : History) → IsValidSite site → IsLegal site h → (way : Direction) (key : ℕ) → AreSmall site (queue_bytes h (queue_of site h way key))

-- in a legal history of a valid site the lines of a queue have at most 2^55 bytes
abbrev pub LinesAreSmall : Type 0
LinesAreSmall =
    (site : Site) (h : History) (way : Direction) (lines : Lines) → IsValidSite site → IsLegal site h → AreLines site h way lines → (key : ℕ)
    → AreSmall site (bytes_of (lines key))
