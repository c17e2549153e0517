-- Where the items of a batch that is read stand.
use Rattle.std.proofs.Common.{◌≡◌, ℕ, zero, suc, ◌+◌, ◌-◌, inl, inr, List, [], ◌∷◌, true, not, refl, sym, ap, subst, arith, length}
use Rattle.std.specs.Prelude.{Some, ◌==◌, ◌%◌, filter, find, option_map, slice_get, is_none}
use Rattle.std.specs.List.{list_any}
use Rattle.std.proofs.lemmas.Bool.{and_parts, eqb-true, eq-eqb}
use Rattle.blob.specs.Records.{TapeRecords}
use Rattle.cta_site.specs.declared.site.Site.{Site}
use Rattle.cta_model.specs.declared.asks.Direction.{Direction}
use Rattle.cta_model.specs.declared.asks.Direction.TheVariants as direction
use Rattle.cta_model.specs.declared.asks.Item.{Item}
use Rattle.cta_model.specs.declared.asks.Job.{Job}
use Rattle.cta_model.specs.declared.states.Place.{Place}
use Rattle.cta_model.specs.Batches.{batch_by, fseq_by, fseq_on, read_items}
use Rattle.cta_model.specs.Charges.{charges_of}
use Rattle.cta_model.specs.Files.{copies_of_file, copy_numbers, sum_of}
use Rattle.cta_model.specs.History.{History, is_number}
use Rattle.cta_model.specs.Jobs.{is_live_job}
use Rattle.cta_model.specs.Media.{IsTrueMedium}
use Rattle.cta_model.specs.Mounts.{claimer_of, same_direction}
use Rattle.cta_model.specs.Places.{all_places, place_of, places_of}
use Rattle.cta_model.specs.Queues.{direction_of, is_queued, key_by, key_of, queue_of, sources_of, tape_of_recall, way_by}
use Rattle.cta_model.specs.Space.{evictable_size, free_space}
use Rattle.cta_model.specs.Tapes.{is_broken, may_be_read, tape_state}
use Rattle.cta_laws.proofs.Claims.{AllOf, all_filter, all_mono, all_pass, insert_all, taken_all}
use Rattle.cta_laws.proofs.KeyLaw.{else_all}
use Rattle.cta_laws.proofs.Ranges.{all_filter_map, range_all}
use Rattle.cta_laws.proofs.Tests.{bool_cases, or_left, or_right}
use Rattle.media.specs.Reads.{HasSafe, record_at}
use Rattle.drive_session.specs.Records.{AreSafe}
use Rattle.cta_laws.proofs.BatchOrder.{IsPlaceOf, found_place, recall_copy, source_there, sources_are_places}

-- the item of a job has a safe record on a true medium of the tape, with the sum of its file
abbrev IsSafe : Site → History → ℕ → TapeRecords → Job → Type 0
IsSafe site h v t j = HasSafe (fseq_on site h v j.file) t × (record_at t (fseq_on site h v j.file) ≡ Some (sum_of h j.file))

safe_of : (site : Site) (h : History) (v : ℕ) (t : TapeRecords) (j : Job) → IsTrueMedium h v t → is_queued site h direction.Retrieve v j ≡ true → IsSafe site h v t j
safe_of site h v t j is e =
    let a = and_parts (is_live_job site h j) _ e in
    let b = and_parts (same_direction direction.Retrieve (direction_of j)) _ a.1 in
    let k : is_number v (key_of site h j) ≡ true = (and_parts (is_none (claimer_of h j)) _ b.1).1 in
    let none : j.copy ≡ 0 = recall_copy j.copy b.0 in
    let key : is_number v (tape_of_recall site h j) ≡ true = subst (λ (c : ℕ). is_number v (key_by c site h j) ≡ true) none k in
    let q = found_place (IsPlaceOf h j.file) v (sources_of site h j.file) (sources_are_places site h j.file) (source_there v (length (charges_of h j) % length (sources_of site h j.file)) (sources_of site h j.file) key) in
    let fseq : q.0.fseq ≡ fseq_on site h v j.file = sym (ap fseq_by q.1) in
    let w = is.named j.file q.3.0 q.0 q.2 q.3.1 in
    let from = w.0 in
    let to = w.1 in
    let enough = is.enough in
    let within = is.within in
    subst (λ (s : ℕ). HasSafe s t × (slice_get t.records (s - 1) ≡ Some (sum_of h j.file))) fseq (record { from = from; safe = omega (arith, to, enough); there = omega (arith, to, enough, within) }, w.2)

-- an item with a safe record of its sum
abbrev IsSafeItem : TapeRecords → Item → Type 0
IsSafeItem t i = HasSafe i.fseq t × (record_at t i.fseq ≡ Some i.sum)

read_safe : (site : Site) (h : History) (v : ℕ) (t : TapeRecords) (js : List Job) → AllOf (IsSafe site h v t) js → AllOf (IsSafeItem t) (read_items site h v js)
read_safe site h v t [] all = tt
read_safe site h v t (j ∷ js) all = insert_all (IsSafeItem t) (record { job = j; fseq = fseq_on site h v j.file; sum = sum_of h j.file }) (read_items site h v js) all.0 (read_safe site h v t js all.1)

are_safe : (t : TapeRecords) (items : List Item) → AllOf (IsSafeItem t) items → AreSafe t items
are_safe t [] all = tt
are_safe t (i ∷ items) all = (all.0.0, all.0.1, are_safe t items all.1)

-- what a Claim takes to be read has safe records on a true medium of the tape
pub batch_safe : (site : Site) (h : History) (at v : ℕ) (way : Direction) (t : TapeRecords) (items : List Item) → way ≡ direction.Retrieve → items ≡ batch_by site h at way v → IsTrueMedium h v t → AreSafe t items
batch_safe site h at v direction.Archive t items reads is truth = absurd (cc)
batch_safe site h at v direction.Retrieve t items reads is truth =
    subst (λ (xs : List Item). AreSafe t xs) (sym is)
    (are_safe t _ (read_safe site h v t _
    (taken_all (IsSafe site h v t) h site.limits.batch_files (free_space site h + evictable_size site h at) (queue_of site h direction.Retrieve v)
    (all_mono (λ (j : Job). is_queued site h direction.Retrieve v j ≡ true) (IsSafe site h v t) (queue_of site h direction.Retrieve v) (λ j e. safe_of site h v t j truth e) (all_pass (is_queued site h direction.Retrieve v) _)))))
