-- Batches: what a Claim takes.
use Rattle.std.specs.Prelude.{ℕ, zero, suc, ◌+◌, ◌-◌, List, [], ◌∷◌, Option, Some, None, if◌then◌else◌, ◌==◌, nat_le, nat_lt, find}
use Rattle.cta_site.specs.declared.site.Site.{Site}
use Rattle.cta_site.specs.Lookups.{pool_of_tape, capacity_of}
use Rattle.cta_model.specs.declared.asks.Direction.TheVariants as direction
use Rattle.cta_model.specs.declared.asks.Direction.{Direction}
use Rattle.cta_model.specs.declared.asks.Job.{Job}
use Rattle.cta_model.specs.declared.asks.Item.{Item}
use Rattle.cta_model.specs.declared.states.Mount.{Mount}
use Rattle.cta_model.specs.declared.states.Place.{Place}
use Rattle.cta_model.specs.History.{History}
use Rattle.cta_model.specs.Files.{size_of, sum_of}
use Rattle.cta_model.specs.Tapes.{used_bytes, next_fseq}
use Rattle.cta_model.specs.Space.{free_space, evictable_size}
use Rattle.cta_model.specs.Queues.{queue_of, sources_of}

-- of a queue, in its order, each job that fits in the room beside those taken, at most so many
abbrev pub taken_of : History → ℕ → ℕ → List Job → List Job
taken_of h count room [] = []
taken_of h zero room (j ∷ q) = []
taken_of h (suc n) room (j ∷ q) = if nat_le (size_of h j.file) room then j ∷ taken_of h n (room - size_of h j.file) q else taken_of h (suc n) room q

-- written items keep the order of birth and get the next fSeqs in turn
abbrev pub written_items : History → ℕ → List Job → List Item
written_items h s [] = []
written_items h s (j ∷ js) = record { job = j; fseq = s; sum = sum_of h j.file } ∷ written_items h (s + 1) js

-- the fSeq of a place, 0 where there is no place
abbrev pub fseq_by : Option Place → ℕ
fseq_by None = 0
fseq_by (Some p) = p.fseq

-- the fSeq of a file's source on a tape; a file has at most one place on a tape
abbrev pub fseq_on : Site → History → ℕ → ℕ → ℕ
fseq_on site h v f = fseq_by (find (λ (p : Place). p.tape == v) (sources_of site h f))

-- items by fSeq with one more among them, before the first that has a higher fSeq
abbrev pub insert_by_fseq : Item → List Item → List Item
insert_by_fseq i [] = i ∷ []
insert_by_fseq i (k ∷ ks) = if nat_lt i.fseq k.fseq then i ∷ k ∷ ks else k ∷ insert_by_fseq i ks

-- read items have their place's fSeq, and are sorted by it
abbrev pub read_items : Site → History → ℕ → List Job → List Item
read_items site h v [] = []
read_items site h v (j ∷ js) = insert_by_fseq (record { job = j; fseq = fseq_on site h v j.file; sum = sum_of h j.file }) (read_items site h v js)

-- the items that a Claim takes at t for a tape: of its queue, what fits on the tape to be written, or in the buffer to be read
abbrev pub batch_by : Site → History → ℕ → Direction → ℕ → List Item
batch_by site h t direction.Archive v =
    written_items h (next_fseq h v) (taken_of h site.limits.batch_files (capacity_of site v - used_bytes h v) (queue_of site h direction.Archive (pool_of_tape site v)))
batch_by site h t direction.Retrieve v =
    read_items site h v (taken_of h site.limits.batch_files (free_space site h + evictable_size site h t) (queue_of site h direction.Retrieve v))

-- the items that a mount's Claim takes at t
abbrev pub batch_of : Site → History → ℕ → Mount → List Item
batch_of site h t m = batch_by site h t m.direction m.tape
