-- The resident files of a history, the bytes held for claimed recalls, and how an entry moves both.
use Rattle.std.specs.Prelude.{ℕ, List, [], ◌∷◌, Bool, ◌==◌, ◌&&◌, map, false, option_to_list}
use Rattle.std.specs.List.{list_any}
use Rattle.cta_site.specs.declared.site.Site.{Site}
use Rattle.cta_model.specs.declared.asks.Job.{Job}
use Rattle.cta_model.specs.History.{History, next_number}
use Rattle.cta_model.specs.Files.{live_file, size_of}
use Rattle.cta_model.specs.Buffer.{evicted_in}
use Rattle.cta_model.specs.Places.{flushed_in, is_done, has_place_on, all_places}
use Rattle.cta_model.specs.Space.{resident_files, is_safe}
use Rattle.cta_model.specs.declared.asks.Ask.{Ask}
use Rattle.cta_model.specs.declared.answers.Answer.{Answer}
use Rattle.cta_model.specs.declared.asks.Fate.{Fate}
use Rattle.cta_model.specs.declared.asks.Item.{Item}
use Rattle.cta_model.specs.declared.asks.Ask.TheVariants as ask
use Rattle.cta_model.specs.declared.asks.Fate.TheVariants as fate
use Rattle.cta_model.specs.declared.answers.Answer.TheVariants as answer
use Rattle.part_model.specs.declared.space.Resident.{Resident}

-- a file of a history as the buffer holds it
abbrev pub resident_at : Site → History → ℕ → Resident
resident_at site h f = record { file = f; len = size_of h f; safe = is_safe site h f }

-- the resident files of a history, by arrival
abbrev pub residents : Site → History → List Resident
residents site h = map (resident_at site h) (resident_files h)

-- the files that leave the buffer: what is evicted, and what is deleted
abbrev pub leaving : History → Ask → Answer → List ℕ
leaving h (ask.Delete who path) a = option_to_list (live_file h path)
leaving h k a = evicted_in k a

-- the file that enters it: that of a Put, or of a completed recall
abbrev pub entering : History → Ask → Answer → List ℕ
entering h (ask.Put who path sum) a = next_number h ∷ []
entering h (ask.Recalled m job) (answer.Arrived fate.Done) = job.file ∷ []
entering h _ _ = []

-- whether one of the jobs is of the file
abbrev pub is_file_of : ℕ → List Job → Bool
is_file_of f jobs = list_any (λ (j : Job). j.file == f) jobs

-- whether an item was put on tape for the file
abbrev pub is_put_of : ℕ → Item × Fate → Bool
is_put_of f x = is_done x.1 && (x.0.job.file == f)

-- the files whose safe flags are to be found anew
abbrev pub touches : Site → History → Ask → Answer → ℕ → Bool
touches site h (ask.Flushed m items) a f = list_any (is_put_of f) (flushed_in (ask.Flushed m items) a)
touches site h (ask.Failed m fault charged returned) a f = is_file_of f charged.items
touches site h (ask.Retry who paths) (answer.Retried jobs) f = is_file_of f jobs.items
touches site h (ask.Repack who v) (answer.Repacking id items) f = is_file_of f items.items
touches site h (ask.TapeState who v s) a f = has_place_on v (all_places site h f)
touches site h _ a f = false
