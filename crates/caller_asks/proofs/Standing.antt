-- Where the recalls of kept parts stand.
use Rattle.std.proofs.Common.{◌≡◌, ◌∙◌, ℕ, zero, suc, ◌+◌, ◌≤◌, ◌<◌, List, [], ◌∷◌, true, not, refl, sym, ap, subst, arith, length}
use Rattle.std.specs.Prelude.{Option, Some, None, is_none, option_map, filter, map, slice_get}
use Rattle.std.proofs.lemmas.Bool.{and_parts, eqb-true}
use Rattle.cta_site.specs.declared.site.Site.{Site}
use Rattle.cta_site.specs.Laws.{ClassesAreKnown}
use Rattle.cta_site.specs.Lookups.{class_of, copies_of}
use Rattle.cta_model.specs.declared.asks.Direction.{Direction}
use Rattle.cta_model.specs.declared.asks.Direction.TheVariants as direction
use Rattle.cta_model.specs.declared.asks.Job.{Job}
use Rattle.cta_model.specs.declared.states.Place.{Place}
use Rattle.cta_model.specs.Files.{copies_of_file, copy_numbers, path_of}
use Rattle.cta_model.specs.History.{History, is_number}
use Rattle.cta_model.specs.Jobs.{is_live_job}
use Rattle.cta_model.specs.Legal.{IsLegal}
use Rattle.cta_model.specs.Mounts.{claimer_of, has_job, same_direction}
use Rattle.cta_model.specs.Places.{all_places, place_of, places_of}
use Rattle.cta_model.specs.Queues.{direction_of, is_queued, key_of, queue_of, sources_of}
use Rattle.cta_model.specs.Recalls.{recall_job}
use Rattle.cta_model.specs.Tapes.{is_broken, may_be_read, tape_state}
use Rattle.cta_laws.specs.Places.{PlacesAreOnSite}
use Rattle.cta_laws.proofs.Claims.{AllOf, all_filter}
use Rattle.cta_laws.proofs.KeyLaw.{else_all}
use Rattle.cta_laws.proofs.Ranges.{all_filter_map, range_all}
use Rattle.part_model.specs.declared.jobs.Line.{Line}
use Rattle.part_model.specs.Queues.{Lines, lines_in}
use Rattle.part_model.specs.Tapes.{Table, place_in}
use Rattle.part_laws.specs.Lines.{AreLines, line_of}
use Rattle.part_laws.proofs.Members.{queue_members}
use Rattle.job_queues.specs.Waiting.{jobs_of}
use Rattle.archive_parts.specs.PartsKept.{ArePartsKept}
use Rattle.archive_parts.specs.declared.parts.ArchiveParts.{ArchiveParts}
use Rattle.caller_asks.specs.Jobs.{IsPlacedOn}
use Rattle.caller_asks.specs.Recalls.{StandsOnPlaces}
use Rattle.part_moves.proofs.NewJobs.{jobs_of_lines, lines_have}

-- a file has at most 4 copies
pub few_copies : (site : Site) (h : History) (f : ℕ) → ClassesAreKnown site → copies_of_file site h f ≤ 4
few_copies site h f known = by (class_of site (path_of h f)) refl
  where
    by : (o : Option ℕ) → class_of site (path_of h f) ≡ o → copies_of site (path_of h f) ≤ 4
    by None is = rw is (omega arith)
    by (Some class) is = (known (path_of h f) class is).2

-- ---- the key of a queued job

pub number_is : (k : ℕ) (o : Option ℕ) → is_number k o ≡ true → o ≡ Some k
number_is k None e = absurd (cc)
number_is k (Some m) e = ap (λ (n : ℕ). Some n) (sym (eqb-true k m e))

queued_key : (site : Site) (h : History) (way : Direction) (lines : Lines) (k : ℕ) (j : Job) → IsLegal site h → AreLines site h way lines → has_job j (jobs_of (lines k)) ≡ true → key_of site h j ≡ Some k
queued_key site h way lines k j legal are there =
    let on : is_queued site h way k j ≡ true = sym (lines_have site h way lines k j legal are) ∙ there in
    let a = (and_parts (is_live_job site h j) _ on).1 in
    let b = (and_parts (same_direction way (direction_of j)) _ a).1 in
    number_is k (key_of site h j) (and_parts (is_none (claimer_of h j)) (is_number k (key_of site h j)) b).1

-- ---- the tapes of a file

placed_all : (site : Site) (h : History) (v : Table) (f n : ℕ) → ((g c : ℕ) → place_in v g c ≡ place_of h g c) → copies_of_file site h f ≤ n → AllOf (λ (p : Place). IsPlacedOn v f n p.tape) (all_places site h f)
placed_all site h v f n places count =
    all_filter_map (λ (p : Place). IsPlacedOn v f n p.tape) (place_of h f) (copy_numbers site h f)
    (range_all (λ c. (p : Place) → place_of h f c ≡ Some p → IsPlacedOn v f n p.tape) 1 (copies_of_file site h f)
    (λ c low high p is. record { copy = c; place = p; from = low; to = within c (copies_of_file site h f) count high; is = places f c ∙ is; on = refl }))
  where
    within : (c m : ℕ) → m ≤ n → c < 1 + m → c ≤ n
    within c m e less = omega arith

placed_sources : (site : Site) (h : History) (v : Table) (f n : ℕ) → ((g c : ℕ) → place_in v g c ≡ place_of h g c) → copies_of_file site h f ≤ n → AllOf (λ (p : Place). IsPlacedOn v f n p.tape) (sources_of site h f)
placed_sources site h v f n places count =
    let all : AllOf (λ (p : Place). IsPlacedOn v f n p.tape) (places_of site h f) = all_filter (λ (p : Place). IsPlacedOn v f n p.tape) (λ (p : Place). not (is_broken (tape_state site h p.tape))) (all_places site h f) (placed_all site h v f n places count) in
    else_all (λ (p : Place). IsPlacedOn v f n p.tape) (filter (λ (p : Place). may_be_read (tape_state site h p.tape)) (places_of site h f)) (places_of site h f)
    (all_filter (λ (p : Place). IsPlacedOn v f n p.tape) (λ (p : Place). may_be_read (tape_state site h p.tape)) (places_of site h f) all) all

pub got : (P : ℕ → Type 0) (xs : List Place) (i key : ℕ) → AllOf (λ (p : Place). P p.tape) xs → option_map (λ (p : Place). p.tape) (slice_get xs i) ≡ Some key → P key
got P [] i key all e = absurd (cc)
got P (x ∷ xs) zero key all e = (let same : x.tape ≡ key = cc in subst P same all.0)
got P (x ∷ xs) (suc i) key all e = got P xs i key all.1 e

-- ---- kept parts

-- a recall stands in the queues of tapes on which its file has a place
pub recalls_stand : (site : Site) (h : History) (p : ArchiveParts) → ClassesAreKnown site → IsLegal site h → ArePartsKept site h p → StandsOnPlaces p.tapes.value 4 (lines_in p.recalls.value)
recalls_stand site h p known legal kept b f k there =
    got (IsPlacedOn p.tapes.value f 4) (sources_of site h f) _ k (placed_sources site h p.tapes.value f 4 kept.stand.space.tapes.places (few_copies site h f known))
    (queued_key site h direction.Retrieve (lines_in p.recalls.value) k (recall_job b f) legal kept.stand.jobs.recalls there)

-- each place is on a tape that has a queue
pub places_low : PlacesAreOnSite → (site : Site) (h : History) (p : ArchiveParts) → IsLegal site h → ArePartsKept site h p → (f c : ℕ) (x : Place) → place_in p.tapes.value f c ≡ Some x → x.tape < length p.recalls.value
places_low law site h p legal kept f c x is =
    subst (λ (n : ℕ). x.tape < n) (sym kept.fit.recalls) (law site h legal f c x (sym (kept.stand.space.tapes.places f c) ∙ is))
