-- Where the live jobs of a file stand.
use Rattle.std.proofs.Common.{◌≡◌, ◌∙◌, ℕ, zero, suc, ◌+◌, ◌≤◌, ◌<◌, List, [], ◌∷◌, ◌++◌, true, not, refl, sym, ap, subst, arith}
use Rattle.std.specs.Prelude.{Option, Some, None, is_none, option_map, filter, slice_get}
use Rattle.std.specs.List.{AllByRecursion}
use Rattle.std.proofs.lemmas.Bool.{and_parts, eqb-true, eq-eqb}
use Rattle.cta_site.specs.declared.site.Site.{Site}
use Rattle.cta_model.specs.declared.asks.Direction.{Direction}
use Rattle.cta_model.specs.declared.asks.Direction.TheVariants as direction
use Rattle.cta_model.specs.declared.asks.Job.{Job}
use Rattle.cta_model.specs.declared.states.Place.{Place}
use Rattle.cta_model.specs.Files.{copies_of_file, copy_numbers}
use Rattle.cta_model.specs.History.{History, is_number}
use Rattle.cta_model.specs.Jobs.{is_live_job, live_birth}
use Rattle.cta_model.specs.Legal.{IsLegal}
use Rattle.cta_model.specs.Mounts.{claimer_of, has_job, job_of, same_direction}
use Rattle.cta_model.specs.Places.{all_places, place_of, places_of}
use Rattle.cta_model.specs.Queues.{direction_of, is_queued, key_by, key_of, sources_of, way_by}
use Rattle.cta_model.specs.Tapes.{is_broken, may_be_read, tape_state}
use Rattle.cta_laws.proofs.Claims.{AllOf, all_filter}
use Rattle.cta_laws.proofs.KeyLaw.{else_all}
use Rattle.cta_laws.proofs.RangeLaw.{job_range}
use Rattle.cta_laws.proofs.Ranges.{all_filter_map, range_all}
use Rattle.part_model.specs.JobBook.{job_if}
use Rattle.part_model.specs.Queues.{Lines}
use Rattle.part_model.specs.Tapes.{Table, place_in}
use Rattle.part_laws.specs.QueueBooks.{archive_jobs, jobs_of_file}
use Rattle.part_laws.specs.Lines.{AreLines}
use Rattle.job_queues.specs.Waiting.{jobs_of}
use Rattle.caller_asks.specs.Jobs.{IsPlacedOn, StandsWhere}
use Rattle.caller_asks.proofs.Lines.{key_is_pool}
use Rattle.part_moves.proofs.NewJobs.{lines_have}
use Rattle.caller_asks.proofs.Standing.{got, number_is}

-- ---- what a queued job tells

goes_archive : (c : ℕ) → same_direction direction.Archive (way_by c) ≡ true → 1 ≤ c
goes_archive zero e = absurd (cc)
goes_archive (suc c) e = omega arith

goes_retrieve : (c : ℕ) → same_direction direction.Retrieve (way_by c) ≡ true → c ≡ 0
goes_retrieve zero e = refl
goes_retrieve (suc c) e = absurd (cc)

record Queued (site : Site) (h : History) (way : Direction) (k : ℕ) (j : Job) : Type 0 where
  goes : same_direction way (direction_of j) ≡ true
  key : key_of site h j ≡ Some k

queued : (site : Site) (h : History) (way : Direction) (lines : Lines) (k : ℕ) (j : Job) → IsLegal site h → AreLines site h way lines → has_job j (jobs_of (lines k)) ≡ true → Queued site h way k j
queued site h way lines k j legal are there =
    let on : is_queued site h way k j ≡ true = sym (lines_have site h way lines k j legal are) ∙ there in
    let a = (and_parts (is_live_job site h j) _ on).1 in
    let b = and_parts (same_direction way (direction_of j)) _ a in
    let c = and_parts (is_none (claimer_of h j)) (is_number k (key_of site h j)) b.1 in
    record { goes = b.0; key = number_is k (key_of site h j) c.1 }

-- ---- the tapes of a file

placed_all : (site : Site) (h : History) (v : Table) (f n : ℕ) → ((g c : ℕ) → place_in v g c ≡ place_of h g c) → n ≡ copies_of_file site h f → AllOf (λ (p : Place). IsPlacedOn v f n p.tape) (all_places site h f)
placed_all site h v f n places count =
    all_filter_map (λ (p : Place). IsPlacedOn v f n p.tape) (place_of h f) (copy_numbers site h f)
    (range_all (λ c. (p : Place) → place_of h f c ≡ Some p → IsPlacedOn v f n p.tape) 1 (copies_of_file site h f)
    (λ c low high p is. record { copy = c; place = p; from = low; to = within c (copies_of_file site h f) count high; is = places f c ∙ is; on = refl }))
  where
    within : (c m : ℕ) → n ≡ m → c < 1 + m → c ≤ n
    within c m e less = omega arith

placed_sources : (site : Site) (h : History) (v : Table) (f n : ℕ) → ((g c : ℕ) → place_in v g c ≡ place_of h g c) → n ≡ copies_of_file site h f → AllOf (λ (p : Place). IsPlacedOn v f n p.tape) (sources_of site h f)
placed_sources site h v f n places count =
    let all : AllOf (λ (p : Place). IsPlacedOn v f n p.tape) (places_of site h f) = all_filter (λ (p : Place). IsPlacedOn v f n p.tape) (λ (p : Place). not (is_broken (tape_state site h p.tape))) (all_places site h f) (placed_all site h v f n places count) in
    else_all (λ (p : Place). IsPlacedOn v f n p.tape) (filter (λ (p : Place). may_be_read (tape_state site h p.tape)) (places_of site h f)) (places_of site h f)
    (all_filter (λ (p : Place). IsPlacedOn v f n p.tape) (λ (p : Place). may_be_read (tape_state site h p.tape)) (places_of site h f) all) all

-- ---- one job, and all jobs of a file

stand_one : (site : Site) (h : History) (v : Table) (n : ℕ) (pools tapes : Lines) (j : Job) → IsLegal site h → AreLines site h direction.Archive pools → AreLines site h direction.Retrieve tapes → ((g c : ℕ) → place_in v g c ≡ place_of h g c)
    → n ≡ copies_of_file site h j.file → is_live_job site h j ≡ true → StandsWhere site h v n pools tapes j
stand_one site h v n pools tapes j legal of_pools of_tapes places count live = record {
  copies = (job_range site h legal j live).2;
  archives = λ k there. (
      let q = queued site h direction.Archive pools k j legal of_pools there in
      let low : 1 ≤ j.copy = goes_archive j.copy q.goes in
      (low, sym (key_is_pool site h j j.copy low) ∙ q.key)
      );
  recalls = λ k there. (
      let q = queued site h direction.Retrieve tapes k j legal of_tapes there in
      let none : j.copy ≡ 0 = goes_retrieve j.copy q.goes in
      let key : key_by 0 site h j ≡ Some k = subst (λ (c : ℕ). key_by c site h j ≡ Some k) none q.key in
      (none, got (IsPlacedOn v j.file n) (sources_of site h j.file) _ k (placed_sources site h v j.file n places count) key)
      );
}

append_all : (P : Job → Type 0) (xs ys : List Job) → AllByRecursion P xs → AllByRecursion P ys → AllByRecursion P (xs ++ ys)
append_all P [] ys a b = b
append_all P (x ∷ xs) ys a b = (a.0, append_all P xs ys a.1 b)

module _ (site : Site) (h : History) (f : ℕ) (P : Job → Type 0) (each : (j : Job) → is_live_job site h j ≡ true → j.file ≡ f → P j) where
  all_if : (c : ℕ) (o : Option ℕ) → live_birth site h f c ≡ o → AllByRecursion P (job_if f c o)
  all_if c None is = tt
  all_if c (Some b) is = (each (job_of b f c) (ap (is_number b) is ∙ eq-eqb b b refl) refl, tt)

  all_archives : (n : ℕ) → AllByRecursion P (archive_jobs site h f n)
  all_archives zero = tt
  all_archives (suc c) = append_all P (archive_jobs site h f c) (job_if f (suc c) (live_birth site h f (suc c))) (all_archives c) (all_if (suc c) (live_birth site h f (suc c)) refl)

  all_jobs : AllByRecursion P (jobs_of_file site h f)
  all_jobs = append_all P (job_if f 0 (live_birth site h f 0)) (archive_jobs site h f (copies_of_file site h f)) (all_if 0 (live_birth site h f 0) refl) (all_archives (copies_of_file site h f))

pub all_stand : (site : Site) (h : History) (v : Table) (f n : ℕ) (pools tapes : Lines) → IsLegal site h → AreLines site h direction.Archive pools → AreLines site h direction.Retrieve tapes → ((g c : ℕ) → place_in v g c ≡ place_of h g c)
    → n ≡ copies_of_file site h f → AllByRecursion (StandsWhere site h v n pools tapes) (jobs_of_file site h f)
all_stand site h v f n pools tapes legal of_pools of_tapes places count =
    all_jobs site h f (StandsWhere site h v n pools tapes)
    (λ j live file. stand_one site h v n pools tapes j legal of_pools of_tapes places (count ∙ ap (copies_of_file site h) (sym file)) live)
