-- Batches are the same without what mismatches have found.
use Rattle.std.proofs.Common.{refl, ◌≡◌, ◌∷◌, [], List, ℕ}
use Rattle.std.specs.Prelude.{zero, suc, ◌+◌, ◌-◌, if◌then◌else◌, ◌==◌, nat_le, find}
use Rattle.cta_site.specs.declared.site.Site.{Site}
use Rattle.cta_site.specs.Lookups.{pool_of_tape, capacity_of}
use Rattle.cta_model.specs.declared.asks.Direction.TheVariants as direction
use Rattle.cta_model.specs.declared.asks.Direction.{Direction}
use Rattle.cta_model.specs.declared.asks.Job.{Job}
use Rattle.cta_model.specs.declared.states.Mount.{Mount}
use Rattle.cta_model.specs.declared.states.Place.{Place}
use Rattle.cta_model.specs.History.{History}
use Rattle.cta_model.specs.Batches.{batch_by, batch_of, fseq_by, fseq_on, insert_by_fseq, read_items, taken_of, written_items}
use Rattle.mismatch_laws.specs.Alike.{history_without_found}
use Rattle.mismatch_laws.proofs.Files.{size_of_same, sum_of_same}
use Rattle.mismatch_laws.proofs.Tapes.{next_fseq_same, used_bytes_same}
use Rattle.mismatch_laws.proofs.Space.{evictable_size_same, free_space_same}
use Rattle.mismatch_laws.proofs.Queues.{queue_of_same, sources_of_same}

pub taken_of_same : (h : History) (count : ℕ) (room : ℕ) (q : List Job) → taken_of (history_without_found h) count room q ≡ taken_of h count room q
taken_of_same h count room [] = refl
taken_of_same h zero room (j ∷ q) = refl
taken_of_same h (suc n) room (j ∷ q) = λ z. if nat_le (size_of_same h j.file z) room then j ∷ (taken_of_same h n (room - (size_of_same h j.file z)) q z) else (taken_of_same h (suc n) room q z)

pub written_items_same : (h : History) (s : ℕ) (q : List Job) → written_items (history_without_found h) s q ≡ written_items h s q
written_items_same h s [] = refl
written_items_same h s (j ∷ js) = λ z. record { job = j; fseq = s; sum = (sum_of_same h j.file z) } ∷ (written_items_same h (s + 1) js z)

pub fseq_on_same : (site : Site) (h : History) (v : ℕ) (f : ℕ) → fseq_on site (history_without_found h) v f ≡ fseq_on site h v f
fseq_on_same site h v f = λ z. fseq_by (find (λ (p : Place). p.tape == v) (sources_of_same site h f z))

pub read_items_same : (site : Site) (h : History) (v : ℕ) (q : List Job) → read_items site (history_without_found h) v q ≡ read_items site h v q
read_items_same site h v [] = refl
read_items_same site h v (j ∷ js) = λ z. insert_by_fseq (record { job = j; fseq = (fseq_on_same site h v j.file z); sum = (sum_of_same h j.file z) }) (read_items_same site h v js z)

pub batch_by_same : (site : Site) (h : History) (t : ℕ) (x : Direction) (v : ℕ) → batch_by site (history_without_found h) t x v ≡ batch_by site h t x v
batch_by_same site h t direction.Archive v = λ z. written_items_same h (next_fseq_same h v z) (taken_of_same h site.limits.batch_files (capacity_of site v - (used_bytes_same h v z)) (queue_of_same site h direction.Archive (pool_of_tape site v) z) z) z
batch_by_same site h t direction.Retrieve v = λ z. read_items_same site h v (taken_of_same h site.limits.batch_files ((free_space_same site h z) + (evictable_size_same site h t z)) (queue_of_same site h direction.Retrieve v z) z) z

pub batch_of_same : (site : Site) (h : History) (t : ℕ) (m : Mount) → batch_of site (history_without_found h) t m ≡ batch_of site h t m
batch_of_same site h t m = λ z. batch_by_same site h t m.direction m.tape z
