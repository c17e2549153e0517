-- Operators' asks are accepted where no refusal holds.
use Rattle.std.proofs.Common.{◌≡◌, ℕ, List, [], Bool, true, false, refl, length}
use Rattle.std.specs.Prelude.{None, is_none, nat_le}
use Rattle.std.specs.List.{list_any}
use Rattle.cta_site.specs.declared.site.Site.{Site}
use Rattle.cta_site.specs.Listed.{rows}
use Rattle.cta_model.specs.declared.answers.Answer.TheVariants as answer
use Rattle.cta_model.specs.declared.answers.Refusal.TheVariants as refusal
use Rattle.cta_model.specs.declared.asks.Ask.TheVariants as ask
use Rattle.cta_model.specs.declared.asks.Job.{Job}
use Rattle.cta_model.specs.declared.asks.Who.{Who}
use Rattle.cta_model.specs.Answers.{answer_of, drive_answer, is_accepted, is_too_heavy, refuse, retried_jobs, retry_answer}
use Rattle.cta_model.specs.Files.{live_file}
use Rattle.cta_model.specs.History.{History}
use Rattle.archive.specs.Refusals.{refusal_of}

drive_accepted_by : (unknown heavy : Bool) → refusal_of (refuse refusal.HistoryFull heavy (refuse refusal.NoDrive unknown answer.Done)) ≡ None → is_accepted (refuse refusal.HistoryFull heavy (refuse refusal.NoDrive unknown answer.Done)) ≡ true
drive_accepted_by unknown true none = absurd (cc)
drive_accepted_by true false none = absurd (cc)
drive_accepted_by false false none = refl

-- a DriveUp that is not refused is accepted
pub up_accepted : (site : Site) (h : History) (t : ℕ) (who : Who) (d : ℕ) → refusal_of (answer_of site h t (ask.DriveUp who d)) ≡ None → is_accepted (answer_of site h t (ask.DriveUp who d)) ≡ true
up_accepted site h t who d none = drive_accepted_by (nat_le (length site.drives.items) d) (is_too_heavy site h (ask.DriveUp who d) (drive_answer site d)) none

-- a DriveDown that is not refused is accepted
pub down_accepted : (site : Site) (h : History) (t : ℕ) (who : Who) (d : ℕ) → refusal_of (answer_of site h t (ask.DriveDown who d)) ≡ None → is_accepted (answer_of site h t (ask.DriveDown who d)) ≡ true
down_accepted site h t who d none = drive_accepted_by (nat_le (length site.drives.items) d) (is_too_heavy site h (ask.DriveDown who d) (drive_answer site d)) none

retry_accepted_by : (missing heavy : Bool) (jobs : List Job) → refusal_of (refuse refusal.HistoryFull heavy (refuse refusal.NoFile missing (answer.Retried (rows jobs)))) ≡ None
    → is_accepted (refuse refusal.HistoryFull heavy (refuse refusal.NoFile missing (answer.Retried (rows jobs)))) ≡ true
retry_accepted_by missing true jobs none = absurd (cc)
retry_accepted_by true false jobs none = absurd (cc)
retry_accepted_by false false jobs none = refl

-- a Retry that is not refused is accepted
pub retry_accepted : (site : Site) (h : History) (t : ℕ) (who : Who) (ps : List (List ℕ)) → refusal_of (answer_of site h t (ask.Retry who (rows ps))) ≡ None → is_accepted (answer_of site h t (ask.Retry who (rows ps))) ≡ true
retry_accepted site h t who ps none =
    retry_accepted_by (list_any (λ path. is_none (live_file h path)) ps) (is_too_heavy site h (ask.Retry who (rows ps)) (retry_answer site h ps)) (retried_jobs site h [] ps) none
