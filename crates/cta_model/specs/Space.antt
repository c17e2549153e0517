-- Space in the buffer, and what is evicted to make room.
use Rattle.std.specs.Prelude.{ℕ, zero, suc, ◌+◌, ◌-◌, List, [], ◌∷◌, ◌++◌, is_some, Bool, ◌&&◌, not, filter, sum_by}
use Rattle.std.specs.List.{list_any}
use Rattle.cta_site.specs.declared.site.Site.{Site}
use Rattle.cta_model.specs.declared.asks.Ask.{Ask}
use Rattle.cta_model.specs.declared.asks.Ask.TheVariants as ask
use Rattle.cta_model.specs.declared.asks.Direction.TheVariants as direction
use Rattle.cta_model.specs.declared.states.Mount.{Mount}
use Rattle.cta_model.specs.History.{History, next_number, is_number, is_empty}
use Rattle.cta_model.specs.Files.{size_of, copy_numbers}
use Rattle.cta_model.specs.Mounts.{open_where, claimed_items, same_direction}
use Rattle.cta_model.specs.Tapes.{size_of_items}
use Rattle.cta_model.specs.Places.{is_taped, places_of}
use Rattle.cta_model.specs.Buffer.{arrival_of}
use Rattle.cta_model.specs.Jobs.{archive_birth}
use Rattle.cta_model.specs.Pins.{is_pinned}

-- ---- taken and free

-- the file that the entry of this number may bring in
abbrev pub file_brought : Ask → ℕ → List ℕ
file_brought (ask.Put who path sum) n = n ∷ []
file_brought (ask.Recalled m job) n = job.file ∷ []
file_brought _ n = []

-- of the resident files of h, those whose arrival is one of the older entries, by arrival
abbrev pub arrived_in : History → History → List ℕ
arrived_in h [] = []
arrived_in h (e ∷ older) = arrived_in h older ++ filter (λ f. is_number (next_number older) (arrival_of h f)) (file_brought e.ask (next_number older))

-- the resident files, by arrival
abbrev pub resident_files : History → List ℕ
resident_files h = arrived_in h h

-- the size of files, in bytes
abbrev pub size_of_files : History → List ℕ → ℕ
size_of_files h files = sum_by (size_of h) files

-- the sizes that open mounts have claimed for reading and not resolved
abbrev pub bytes_to_read : History → ℕ
bytes_to_read h = sum_by (λ m. size_of_items (claimed_items h m)) (open_where (λ (x : Mount). same_direction x.direction direction.Retrieve) h)

-- free is the limit `buffer` less the sizes of resident files and of claimed recalls
abbrev pub free_space : Site → History → ℕ
free_space site h = site.limits.buffer - (size_of_files h (resident_files h) + bytes_to_read h)

-- ---- eviction

-- whether some copy of the file has a live archive job
abbrev pub has_archive_job : Site → History → ℕ → Bool
has_archive_job site h f = list_any (λ c. is_some (archive_birth site h f c)) (copy_numbers site h f)

-- a file is safe on tape where each copy of its class was flushed, it has a place, and no archive job of it is live
abbrev pub is_safe : Site → History → ℕ → Bool
is_safe site h f = is_taped site h f && (not (is_empty (places_of site h f)) && not (has_archive_job site h f))

-- a resident file may be evicted at t where it is not pinned, and is safe on tape
abbrev pub may_be_evicted : Site → History → ℕ → ℕ → Bool
may_be_evicted site h t f = not (is_pinned site h t f) && is_safe site h f

-- the evictable files at t, by arrival
abbrev pub evictable_files : Site → History → ℕ → List ℕ
evictable_files site h t = filter (may_be_evicted site h t) (resident_files h)

-- the size of all evictable files
abbrev pub evictable_size : Site → History → ℕ → ℕ
evictable_size site h t = size_of_files h (evictable_files site h t)

-- the shortest prefix of files whose sizes add up to this
abbrev pub prefix_of_size : History → ℕ → List ℕ → List ℕ
prefix_of_size h zero files = []
prefix_of_size h (suc n) [] = []
prefix_of_size h (suc n) (f ∷ files) = f ∷ prefix_of_size h (suc n - size_of h f) files

-- what is evicted for a need: the shortest prefix of the evictable files that frees what is not free yet
abbrev pub evicted_for : Site → History → ℕ → ℕ → List ℕ
evicted_for site h t need = prefix_of_size h (need - free_space site h) (evictable_files site h t)
