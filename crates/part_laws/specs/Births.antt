-- The jobs that a Stage and a Repack bear, in the order in which a core makes them.
use Rattle.cta_model.specs.Mounts.{job_of, has_copy}
use Rattle.cta_model.specs.Buffer.{is_resident}
use Rattle.std.specs.Prelude.{ℕ, List, [], ◌∷◌, ◌++◌, Option, Some, None, is_none, is_some, if◌then◌else◌, ◌&&◌, not, filter, map}
use Rattle.cta_site.specs.declared.site.Site.{Site}
use Rattle.cta_model.specs.declared.asks.Ask.{Ask}
use Rattle.cta_model.specs.declared.asks.Job.{Job}
use Rattle.cta_model.specs.declared.asks.Wanted.{Wanted}
use Rattle.cta_model.specs.History.{History, has_number}
use Rattle.cta_model.specs.Files.{live_file}
use Rattle.cta_model.specs.Recalls.{live_recall, bears_recall, recall_job}

-- a file put before others, where it is not among those seen
abbrev pub file_and : Option ℕ → List ℕ → (List ℕ → List ℕ) → List ℕ
file_and None seen rest = rest seen
file_and (Some f) seen rest = if has_number f seen then rest seen else f ∷ rest (f ∷ seen)

-- the files that wanted paths name, in order of first naming, but for those seen
abbrev pub wanted_files : History → List Wanted → List ℕ → List ℕ
wanted_files h [] seen = []
wanted_files h (w ∷ ws) seen = file_and (live_file h w.path) seen (λ s. wanted_files h ws s)

-- of files, those whose recall an ask bears
abbrev pub bearing : Site → History → Ask → List ℕ → List ℕ
bearing site h k files = filter (λ f. is_none (live_recall site h f) && bears_recall site h k f) files

-- of files, those with a live recall
abbrev pub recalled : Site → History → List ℕ → List ℕ
recalled site h files = filter (λ f. is_some (live_recall site h f)) files

-- the recalls of files, born by the entry of this number
abbrev pub recalls_of : ℕ → List ℕ → List Job
recalls_of n files = map (recall_job n) files

-- the files of items, each once, but for those seen
abbrev pub files_of : List Job → List ℕ → List ℕ
files_of [] seen = []
files_of (j ∷ js) seen = if has_number j.file seen then files_of js seen else j.file ∷ files_of js (j.file ∷ seen)

-- the archive jobs of items of resident files, born by the entry of this number, each copy once, but for those seen
abbrev pub archives_of : History → ℕ → List Job → List Job → List Job
archives_of h n [] seen = []
archives_of h n (j ∷ js) seen =
    if is_resident h j.file && not (has_copy j.file j.copy seen) then job_of n j.file j.copy ∷ archives_of h n js (job_of n j.file j.copy ∷ seen)
    else archives_of h n js seen

-- the jobs that a Repack with these items bears: recalls of files that are not resident, and archive jobs of those that are
abbrev pub repack_births : Site → History → Ask → ℕ → List Job → List Job
repack_births site h k n items = recalls_of n (bearing site h k (files_of items [])) ++ archives_of h n items []
