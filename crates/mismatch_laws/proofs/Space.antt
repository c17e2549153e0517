-- The space in the buffer, and what is evicted, is the same without what mismatches have found.
use Rattle.std.proofs.Common.{refl, ◌≡◌, ◌∷◌, [], List, ℕ}
use Rattle.std.specs.Prelude.{zero, suc, ◌+◌, ◌-◌, ◌++◌, is_some, ◌&&◌, not, filter, sum_by}
use Rattle.std.specs.List.{list_any}
use Rattle.cta_site.specs.declared.site.Site.{Site}
use Rattle.cta_model.specs.declared.asks.Ask.{Ask}
use Rattle.cta_model.specs.declared.asks.Ask.TheVariants as ask
use Rattle.cta_model.specs.declared.asks.Direction.TheVariants as direction
use Rattle.cta_model.specs.declared.states.Mount.{Mount}
use Rattle.cta_model.specs.History.{History, is_number, is_empty}
use Rattle.cta_model.specs.Mounts.{same_direction}
use Rattle.cta_model.specs.Tapes.{size_of_items}
use Rattle.cta_model.specs.Space.{arrived_in, bytes_to_read, evictable_files, evictable_size, evicted_for, file_brought, free_space, has_archive_job, is_safe, may_be_evicted, prefix_of_size, resident_files, size_of_files}
use Rattle.mismatch_laws.specs.Alike.{ask_without_found, history_without_found}
use Rattle.mismatch_laws.proofs.History.{next_number_same}
use Rattle.mismatch_laws.proofs.Files.{copy_numbers_same, size_of_same}
use Rattle.mismatch_laws.proofs.Mounts.{claimed_items_same, open_where_same}
use Rattle.mismatch_laws.proofs.Places.{is_taped_same, places_of_same}
use Rattle.mismatch_laws.proofs.Buffer.{arrival_of_same}
use Rattle.mismatch_laws.proofs.Jobs.{archive_birth_same}
use Rattle.mismatch_laws.proofs.Pins.{is_pinned_same}

pub file_brought_same : (k : Ask) (n : ℕ) → file_brought (ask_without_found k) n ≡ file_brought k n
file_brought_same (ask.Put who path sum) n = refl
file_brought_same (ask.Recalled m job) n = refl
file_brought_same _ n = refl

pub arrived_in_same : (h older : History) → arrived_in (history_without_found h) (history_without_found older) ≡ arrived_in h older
arrived_in_same h [] = refl
arrived_in_same h (e ∷ older) = λ i. arrived_in_same h older i ++ filter (λ f. is_number (next_number_same older i) (arrival_of_same h f i)) (file_brought_same e.ask (next_number_same older i) i)

pub resident_files_same : (h : History) → resident_files (history_without_found h) ≡ resident_files h
resident_files_same h = λ z. arrived_in_same h h z

pub size_of_files_same : (h : History) (files : List ℕ) → size_of_files (history_without_found h) files ≡ size_of_files h files
size_of_files_same h files = λ z. sum_by (λ z1. size_of_same h z1 z) files

pub bytes_to_read_same : (h : History) → bytes_to_read (history_without_found h) ≡ bytes_to_read h
bytes_to_read_same h = λ z. sum_by (λ m. size_of_items (claimed_items_same h m z)) (open_where_same (λ (x : Mount). same_direction x.direction direction.Retrieve) h z)

pub free_space_same : (site : Site) (h : History) → free_space site (history_without_found h) ≡ free_space site h
free_space_same site h = λ z. site.limits.buffer - ((size_of_files_same h (resident_files_same h z) z) + (bytes_to_read_same h z))

pub has_archive_job_same : (site : Site) (h : History) (f : ℕ) → has_archive_job site (history_without_found h) f ≡ has_archive_job site h f
has_archive_job_same site h f = λ z. list_any (λ c. is_some (archive_birth_same site h f c z)) (copy_numbers_same site h f z)

pub is_safe_same : (site : Site) (h : History) (f : ℕ) → is_safe site (history_without_found h) f ≡ is_safe site h f
is_safe_same site h f = λ z. (is_taped_same site h f z) && (not (is_empty (places_of_same site h f z)) && not (has_archive_job_same site h f z))

pub may_be_evicted_same : (site : Site) (h : History) (t : ℕ) (f : ℕ) → may_be_evicted site (history_without_found h) t f ≡ may_be_evicted site h t f
may_be_evicted_same site h t f = λ z. not (is_pinned_same site h t f z) && (is_safe_same site h f z)

pub evictable_files_same : (site : Site) (h : History) (t : ℕ) → evictable_files site (history_without_found h) t ≡ evictable_files site h t
evictable_files_same site h t = λ z. filter (λ z1. may_be_evicted_same site h t z1 z) (resident_files_same h z)

pub evictable_size_same : (site : Site) (h : History) (t : ℕ) → evictable_size site (history_without_found h) t ≡ evictable_size site h t
evictable_size_same site h t = λ z. size_of_files_same h (evictable_files_same site h t z) z

pub prefix_of_size_same : (h : History) (n : ℕ) (files : List ℕ) → prefix_of_size (history_without_found h) n files ≡ prefix_of_size h n files
prefix_of_size_same h zero files = refl
prefix_of_size_same h (suc n) [] = refl
prefix_of_size_same h (suc n) (f ∷ files) = λ z. f ∷ (prefix_of_size_same h (suc n - (size_of_same h f z)) files z)

pub evicted_for_same : (site : Site) (h : History) (t : ℕ) (need : ℕ) → evicted_for site (history_without_found h) t need ≡ evicted_for site h t need
evicted_for_same site h t need = λ z. prefix_of_size_same h (need - (free_space_same site h z)) (evictable_files_same site h t z) z
