-- What the archive of a mill's run tells when all threads have ended.
use Rattle.std.specs.Prelude.{ℕ, List, length, map}
use Rattle.std.specs.List.{range_with_len}
use Rattle.blob.specs.declared.sum.Sum256.{Sum256}
use Rattle.cta_site.specs.Listed.{rows}
use Rattle.cta_site.specs.declared.site.Site.{Site}
use Rattle.cta_model.specs.declared.asks.Look.TheVariants as look
use Rattle.cta_model.specs.History.{History}
use Rattle.cta_model.specs.Looks.{look_answer_of}
use Rattle.load_mill.specs.Files.{file_path}
use Rattle.mill_history.specs.Reports.{IsCompleted, IsKept}
use Rattle.mill_history.specs.Tallies.{IsTallied}

-- the moment at which a closed archive is looked at: the number of the last phase
abbrev pub last_phase : ℕ
last_phase = 5

-- The history is that of a mill with files of these sums: each was put once and evicted for the file that fills the buffer, one Stage named them all, and its report has
-- each completed; each is on disk and on tape; and so many of their items were flushed, and so many of their recalls completed
pub record IsMilled (site : Site) (h : History) (sums : List Sum256) (archived recalled : ℕ) : Type 0 where
  pub request : ℕ
  pub tallied : IsTallied h sums request archived recalled
  pub completed : IsCompleted (look_answer_of site h last_phase (look.StageInfo request)) (length sums)
  pub kept : IsKept (look_answer_of site h last_phase (look.ArchiveInfo (rows (map file_path (range_with_len 0 (length sums)))))) (length sums)
