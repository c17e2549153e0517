-- What looks are answered is told by the parts.
use Rattle.std.proofs.Common.{◌≡◌, ◌∙◌, ℕ, ◌<◌, inl, inr, List, [], ◌∷◌, ◌++◌, Bool, not, refl, sym, ap, arith, length}
use Rattle.std.specs.Prelude.{Option, Some, None, map, nat_le}
use Rattle.std.specs.List.{range_with_len}
use Rattle.cta_site.specs.declared.site.Site.{Site}
use Rattle.cta_site.specs.Listed.{rows}
use Rattle.cta_site.specs.Lookups.{pool_name, vid_of}
use Rattle.cta_model.specs.declared.asks.Direction.{Direction}
use Rattle.cta_model.specs.declared.asks.Direction.TheVariants as direction
use Rattle.cta_model.specs.declared.asks.Job.{Job}
use Rattle.cta_model.specs.declared.answers.Answer.TheVariants as answer
use Rattle.cta_model.specs.declared.answers.Refusal.TheVariants as refusal
use Rattle.cta_model.specs.declared.reports.FailedCopy.{FailedCopy}
use Rattle.cta_model.specs.declared.reports.Locality.{Locality}
use Rattle.cta_model.specs.declared.reports.PlaceInfo.{PlaceInfo}
use Rattle.cta_model.specs.declared.reports.QueueInfo.{QueueInfo}
use Rattle.cta_model.specs.declared.reports.TapeInfo.{TapeInfo}
use Rattle.cta_model.specs.declared.states.Sums.{Sums}
use Rattle.cta_model.specs.History.{History}
use Rattle.cta_model.specs.Files.{live_file, path_of, sum_of}
use Rattle.cta_model.specs.Mounts.{job_of}
use Rattle.cta_model.specs.Stages.{charge_text}
use Rattle.cta_model.specs.Choice.{all_tapes}
use Rattle.cta_model.specs.Answers.{refuse}
use Rattle.cta_model.specs.Looks.{fetch_by, tape_info_answer}
use Rattle.cta_model.specs.Reports.{failed_copy, place_info, place_infos, queue_report, queue_reports_by, tape_report}
use Rattle.cta_model.specs.Legal.{IsLegal}
use Rattle.cta_laws.proofs.JobFiles.{named_live}
use Rattle.cta_laws.proofs.Tests.{bool_cases}
use Rattle.part_model.specs.Names.{file_in}
use Rattle.part_laws.specs.LastBirths.{errors_by, last_birth}
use Rattle.part_laws.proofs.LastBirthsLaw.{last_birth_tells_errors}
use Rattle.part_laws.proofs.FailedMembers.{failed_tell}
use Rattle.part_laws.proofs.Told.{held_is}
use Rattle.part_laws.specs.Told.{tape_told}
use Rattle.part_laws.proofs.Together.{parts_tell_tapes}
use Rattle.part_laws.specs.AllParts.{AllParts}
use Rattle.part_laws.specs.Stands.{Stands}
use Rattle.part_laws.specs.Choices.{sums_told}
use Rattle.part_laws.specs.Files.{files_of}
use Rattle.part_laws.specs.AnswerLaws.{PartsTellLooks}
use Rattle.part_laws.specs.Reports.{errors_told, failed_copy_told, fetch_with, place_told, places_told, queues_by, tape_info_told}
use Rattle.part_laws.proofs.ChoiceTold.{sums_are}
use Rattle.part_laws.proofs.PlaceTold.{locality_is}

-- ---- files

fetch_is : (site : Site) (h : History) (v : AllParts) → Stands site h v → (o : Option ℕ) → fetch_by h o ≡ fetch_with v.space.buffer (files_of h) o
fetch_is site h v s None = refl
fetch_is site h v s (Some f) = ap (λ (b : Bool). refuse refusal.NotResident (not b) (answer.Bytes (sum_of h f))) (sym (held_is site h v.space.buffer f s.space.buffer))

place_is : (site : Site) (h : History) (v : AllParts) → IsLegal site h → Stands site h v → (path : List ℕ) (o : Option ℕ) → live_file h path ≡ o → place_info site h path o ≡ place_told site v (files_of h) path o
place_is site h v legal s path None named = refl
place_is site h v legal s path (Some f) named =
    ap (λ (l : Locality). record { path = path; locality = Some l; error = None }) (sym (locality_is site h v.space.tapes v.space.buffer f legal s.space.tapes s.space.buffer (named_live h path f named)))

places_are : (site : Site) (h : History) (v : AllParts) → IsLegal site h → Stands site h v → (paths : List (List ℕ)) → place_infos site h paths ≡ places_told site v (files_of h) paths
places_are site h v legal s [] = refl
places_are site h v legal s (p ∷ ps) =
    ap (λ (x : PlaceInfo). x ∷ place_infos site h ps) (place_is site h v legal s p (live_file h p) refl ∙ ap (place_told site v (files_of h) p) (sym (s.space.names p)))
    ∙ ap (λ (xs : List PlaceInfo). place_told site v (files_of h) p (file_in v.space.names p) ∷ xs) (places_are site h v legal s ps)

-- ---- failed copies

charges_are : (site : Site) (h : History) (v : AllParts) → Stands site h v → (f c : ℕ) (o : Option ℕ) → errors_by site h f c o ≡ errors_told site v.book f c o
charges_are site h v s f c None = refl
charges_are site h v s f c (Some b) = ap (map (charge_text site)) (sym (s.jobs.book.charges (job_of b f c)))

copy_is : (site : Site) (h : History) (v : AllParts) → IsLegal site h → Stands site h v → (j : Job) → failed_copy site h j.file j.copy ≡ failed_copy_told site v.book (files_of h) j
copy_is site h v legal s j =
    ap (λ (es : List (List ℕ)). with_errors es)
    (last_birth_tells_errors site h legal j.file j.copy ∙ charges_are site h v s j.file j.copy (last_birth site h j.file j.copy) ∙ ap (errors_told site v.book j.file j.copy) (sym (s.jobs.book.last_birth j.file j.copy)))
  where
    with_errors : List (List ℕ) → FailedCopy
    with_errors es = record { path = path_of h j.file; copy = j.copy; errors = rows es }

copies_are : (site : Site) (h : History) (v : AllParts) → IsLegal site h → Stands site h v → (js : List Job) → map (λ (j : Job). failed_copy site h j.file j.copy) js ≡ map (failed_copy_told site v.book (files_of h)) js
copies_are site h v legal s [] = refl
copies_are site h v legal s (j ∷ js) =
    ap (λ (x : FailedCopy). x ∷ map (λ (k : Job). failed_copy site h k.file k.copy) js) (copy_is site h v legal s j)
    ∙ ap (λ (xs : List FailedCopy). failed_copy_told site v.book (files_of h) j ∷ xs) (copies_are site h v legal s js)

-- ---- tapes and queues

tape_is : (site : Site) (h : History) (v : AllParts) → IsLegal site h → Stands site h v → (tape : ℕ) → tape_info_answer site h tape ≡ tape_info_told site v tape
tape_is site h v legal s tape =
    elim (bool_cases (nat_le (length site.tapes.items) tape)) [
      | inl beyond ↦ (ap (λ (b : Bool). refuse refusal.NoTape b (answer.TapeSeen (tape_report site h tape))) beyond ∙ sym (ap (λ (b : Bool). refuse refusal.NoTape b (answer.TapeSeen (tape_told site v.space.tapes tape))) beyond))
      | inr there ↦
          (let low : tape < length site.tapes.items = grind arith in
          ap (λ (x : TapeInfo). refuse refusal.NoTape (nat_le (length site.tapes.items) tape) (answer.TapeSeen x)) (parts_tell_tapes site h v.space tape legal s.space low))
    ]

queues_are : (site : Site) (h : History) (v : AllParts) → Stands site h v → (way : Direction) (name : ℕ → List ℕ) (keys : List ℕ) → queue_reports_by site h way name keys ≡ queues_by v way name keys
queues_are site h v s way name [] = refl
queues_are site h v s way name (key ∷ keys) =
    ap (λ (o : Option Sums). queue_report way (name key) o ++ queue_reports_by site h way name keys) (sym (sums_are site h v s way key))
    ∙ ap (λ (xs : List QueueInfo). queue_report way (name key) (sums_told v way key) ++ xs) (queues_are site h v s way name keys)

pub parts_tell_looks : PartsTellLooks
parts_tell_looks site h v t legal s = record {
  fetch = λ path. fetch_is site h v s (live_file h path) ∙ ap (fetch_with v.space.buffer (files_of h)) (sym (s.space.names path));
  places = places_are site h v legal s;
  failed = failed_tell site h ∙ ap (map (λ (j : Job). failed_copy site h j.file j.copy)) (sym s.failed) ∙ copies_are site h v legal s v.failed;
  tape = tape_is site h v legal s;
  queues =
      ap (λ (xs : List QueueInfo). xs ++ queue_reports_by site h direction.Retrieve (vid_of site) (all_tapes site)) (queues_are site h v s direction.Archive (pool_name site) (range_with_len 0 (length site.pools.items)))
      ∙ ap (λ (xs : List QueueInfo). queues_by v direction.Archive (pool_name site) (range_with_len 0 (length site.pools.items)) ++ xs) (queues_are site h v s direction.Retrieve (vid_of site) (all_tapes site));
}
