-- The list of failed copies of a history.
use Rattle.std.specs.Prelude.{List, Bool, ◌&&◌, is_none, map, filter, nat_le}
use Rattle.std.specs.List.{flat_map}
use Rattle.cta_site.specs.declared.site.Site.{Site}
use Rattle.cta_model.specs.declared.asks.Ask.{Ask}
use Rattle.cta_model.specs.declared.asks.Ask.TheVariants as ask
use Rattle.cta_model.specs.declared.asks.Job.{Job}
use Rattle.cta_model.specs.declared.answers.Answer.{Answer}
use Rattle.cta_model.specs.declared.answers.Answer.TheVariants as answer
use Rattle.cta_model.specs.History.{History}
use Rattle.cta_model.specs.Files.{live_file, live_files}
use Rattle.cta_model.specs.Mounts.{job_of}
use Rattle.cta_model.specs.Places.{place_of}
use Rattle.cta_model.specs.Charges.{is_last_charge}
use Rattle.cta_model.specs.Jobs.{is_live_job}
use Rattle.cta_model.specs.Answers.{failed_numbers}
use Rattle.part_model.specs.Failed.{added_copies, removed_copies, removed_file}

-- the failed copies of all live files, each as a job with birth 0, in order of file and copy
abbrev pub failed_jobs : Site → History → List Job
failed_jobs site h = flat_map (λ f. map (job_of 0 f) (failed_numbers site h f)) (live_files h)

-- whether an ask makes the copy of a job fail: it charges the live archive job for the last time, and the copy has no place
abbrev pub is_lost : Site → History → Ask → Job → Bool
is_lost site h k j = nat_le 1 j.copy && (is_live_job site h j && (is_last_charge site h k j && is_none (place_of h j.file j.copy)))

-- the failed copies after an entry with this ask and answer, where h are the entries before it: a Delete takes out those of its file, a
-- Failed adds those whose last charge it is, and a Retry takes out those that it tries
abbrev pub failed_after : Site → History → Ask → Answer → List Job → List Job
failed_after site h (ask.Delete who path) a copies = removed_file (live_file h path) copies
failed_after site h (ask.Failed m fault charged returned) a copies = added_copies (filter (is_lost site h (ask.Failed m fault charged returned)) charged.items) copies
failed_after site h (ask.Retry who paths) (answer.Retried jobs) copies = removed_copies jobs.items copies
failed_after site h _ a copies = copies
