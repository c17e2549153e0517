-- What a file that was read brings about: the copies that repacks have it READ for, and the pins of those that waited.
use Rattle.std.specs.Prelude.{ℕ, zero, suc, ◌≡◌, ◌≤◌, List, [], ◌∷◌, ◌++◌, Option, Some, None, option_map, Bool, false, if◌then◌else◌, ◌==◌, ◌&&◌, filter, map}
use Rattle.std.specs.List.{flat_map, list_any, range_with_len}
use Rattle.cta_site.specs.declared.site.Site.{Site}
use Rattle.cta_model.specs.declared.asks.Job.{Job}
use Rattle.cta_model.specs.declared.states.RepackCopy.{RepackCopy}
use Rattle.cta_model.specs.Files.{copies_of_file}
use Rattle.cta_model.specs.History.{History, has_number}
use Rattle.cta_model.specs.Mounts.{has_job, job_of}
use Rattle.cta_model.specs.Repacks.{is_live_item}
use Rattle.part_model.specs.declared.space.HeldPin.{HeldPin}
use Rattle.part_model.specs.Held.{no_end}
use Rattle.part_model.specs.Queues.{Lines}
use Rattle.part_model.specs.Repacks.{Repacks, Target, has_item_by, reading_copies, repack_in}
use Rattle.part_model.specs.Requests.{Requests}
use Rattle.job_queues.specs.Waiting.{jobs_of}
use Rattle.part_moves.specs.Pinned.{request_pin}

-- ---- repacks

-- whether one of these repacks is READING the copy of the file
abbrev pub is_read_by : Repacks → List ℕ → ℕ → ℕ → Bool
is_read_by v ids f c = list_any (λ id. has_number c (reading_copies f (repack_in v id))) ids

-- of the copies from 1 to n of the file those that one of these repacks is READING
abbrev pub copies_read : Repacks → List ℕ → ℕ → ℕ → List ℕ
copies_read v ids f n = filter (is_read_by v ids f) (range_with_len 1 n)

-- the jobs of these copies of the file that an entry bears
abbrev pub born_of : ℕ → ℕ → List ℕ → List Job
born_of n f cs = map (job_of n f) cs

-- the copies of a file from n down to 1, in a repack
abbrev pub targets_down : ℕ → ℕ → ℕ → List Target
targets_down id f zero = []
targets_down id f (suc n) = (id, f, suc n) ∷ targets_down id f n

-- the copies of a file from n down to 1, in each of these repacks
abbrev pub all_targets : List ℕ → ℕ → ℕ → List Target
all_targets ids f n = flat_map (λ (id : ℕ). targets_down id f n) ids

-- ---- queues

-- each of these copies of the file has no job of this birth in the queues, and none is listed twice
abbrev pub CanQueue : Site → History → Lines → ℕ → ℕ → List ℕ → Type 0
CanQueue site h lines n f [] = Unit {0}
CanQueue site h lines n f (c ∷ cs) =
    (1 ≤ c) × (c ≤ copies_of_file site h f) × ((k : ℕ) → has_job (job_of n f c) (jobs_of (lines k)) ≡ false) × (has_number c cs ≡ false) × CanQueue site h lines n f cs

-- ---- pins

-- the pin of a file by a repack, where it pins it
abbrev pub repack_pin : Repacks → ℕ → ℕ → List HeldPin
repack_pin v id f = if has_item_by (λ (i : RepackCopy). i.file == f && is_live_item i.state) (repack_in v id) then record { file = f; owner = id; until = no_end } ∷ [] else []

-- the pins of a file by the request or the repack of a number
abbrev pub pins_by : Requests → Repacks → ℕ → ℕ → List HeldPin
pins_by r v f id = request_pin r id f ++ repack_pin v id f
