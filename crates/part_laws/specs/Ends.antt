-- The recalls that a Cancel and a DropStage end, and the archive jobs that a Recalled bears, in the order in which a core makes them.
use Rattle.cta_model.specs.RepackItems.{is_repacked}
use Rattle.cta_model.specs.Mounts.{job_of}
use Rattle.std.specs.Prelude.{ℕ, List, [], ◌∷◌, ◌++◌, Option, Some, None, is_none, if◌then◌else◌, filter, map}
use Rattle.cta_site.specs.declared.site.Site.{Site}
use Rattle.cta_model.specs.declared.asks.Job.{Job}
use Rattle.cta_model.specs.declared.states.RequestFile.{RequestFile}
use Rattle.cta_model.specs.History.{History}
use Rattle.cta_model.specs.Files.{live_file, copy_numbers}
use Rattle.cta_model.specs.Recalls.{Recall, live_recall, recall_job, unsubscribed}

-- a file put before others
abbrev pub file_before : Option ℕ → List ℕ → List ℕ
file_before None fs = fs
file_before (Some f) fs = f ∷ fs

-- the paths of a request's files
abbrev pub file_paths : List RequestFile → List (List ℕ)
file_paths files = map (λ (s : RequestFile). s.path) files

-- the files that these paths name
abbrev pub named_files : History → List (List ℕ) → List ℕ
named_files h [] = []
named_files h (p ∷ ps) = file_before (live_file h p) (named_files h ps)

-- of files, the recalls that end where this request no longer waits for them
abbrev pub last_of : ℕ → ℕ → Option Recall → List Job
last_of id f None = []
last_of id f (Some r) = if is_none (unsubscribed id r) then recall_job r.birth f ∷ [] else []

-- the recalls of these files that end where this request no longer waits for them
abbrev pub last_recalls : Site → History → ℕ → List ℕ → List Job
last_recalls site h id [] = []
last_recalls site h id (f ∷ fs) = last_of id f (live_recall site h f) ++ last_recalls site h id fs

-- the archive jobs of the repacked copies of a file, born by the entry of this number
abbrev pub repacked_jobs : Site → History → ℕ → ℕ → List Job
repacked_jobs site h b f = map (job_of b f) (filter (is_repacked site h f) (copy_numbers site h f))
