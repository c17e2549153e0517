-- How many entries wait for a recall.
use Rattle.std.proofs.Common.{◌≡◌, ℕ, ◌+◌, ◌*◌, ◌≤◌, ◌<◌, [], ◌∷◌, ◌++◌, true, false, sym, ap, arith, length, length-append}
use Rattle.std.specs.Prelude.{Option, Some, None, if◌then◌else◌, not, filter}
use Rattle.cta_site.specs.declared.site.Site.{Site}
use Rattle.cta_site.specs.WellFormed.{IsWellFormed}
use Rattle.cta_model.specs.declared.asks.Job.{Job}
use Rattle.cta_model.specs.Files.{path_of}
use Rattle.cta_model.specs.History.{History}
use Rattle.cta_model.specs.Jobs.{subscribers_of, subscribes}
use Rattle.cta_model.specs.Legal.{IsLegal}
use Rattle.cta_model.specs.Recalls.{Recall, live_recall, recall_job}
use Rattle.cta_model.specs.RepackItems.{waiting_for}
use Rattle.cta_laws.specs.Lengths.{StaysShort}
use Rattle.cta_laws.specs.Stages.{SubscribersWait, has_left}
use Rattle.cta_laws.proofs.JobLists.{filter_le}
use Rattle.part_moves.proofs.WaitLists.{subscribers_few, waiting_few, waiting_fits}

-- a history is short enough for one entry more
pub entries_fit : (site : Site) (h : History) (n : ℕ) → StaysShort → IsLegal site h → IsWellFormed site → n ≡ length h → n + 2 < 4294967296
entries_fit site h n short legal formed is =
    let most : length h ≤ 2 * site.limits.history = short site h legal in
    let low : site.limits.history ≤ 1000000 = formed.limits.history_to in
    omega arith
