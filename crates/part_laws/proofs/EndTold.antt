-- What the asks that end claims, and an End, are answered is told by the parts.
use Rattle.std.proofs.Common.{◌≡◌, ◌∙◌, ℕ, zero, suc, inl, inr, List, [], ◌∷◌, Bool, true, false, ◌&&◌, not, refl, sym, ap, subst}
use Rattle.std.specs.Prelude.{Option, option_map, if◌then◌else◌, map}
use Rattle.std.specs.List.{list_all, list_any}
use Rattle.std.proofs.lemmas.Bool.{eq-eqb}
use Rattle.cta_site.specs.declared.site.Site.{Site}
use Rattle.cta_site.specs.Listed.{rows}
use Rattle.cta_model.specs.declared.asks.Fate.{Fate}
use Rattle.cta_model.specs.declared.asks.Fate.TheVariants as fate
use Rattle.cta_model.specs.declared.asks.Item.{Item}
use Rattle.cta_model.specs.declared.asks.Job.{Job}
use Rattle.cta_model.specs.declared.answers.Answer.{Answer}
use Rattle.cta_model.specs.declared.answers.Answer.TheVariants as answer
use Rattle.cta_model.specs.declared.answers.Refusal.TheVariants as refusal
use Rattle.cta_model.specs.History.{History, is_empty, is_number}
use Rattle.cta_model.specs.Mounts.{claimed_items, claimer_of, claims, is_open, item_jobs, last_batch, same_job}
use Rattle.cta_model.specs.Jobs.{live_birth}
use Rattle.cta_model.specs.Recalls.{Recall}
use Rattle.cta_model.specs.Answers.{claims_all, end_answer, fate_of, flushed_answer, is_known, is_last_batch, names_twice, refuse}
use Rattle.cta_model.specs.Legal.{IsLegal}
use Rattle.cta_laws.proofs.Known.{claims_all_by, claims_by_claimer}
use Rattle.cta_laws.proofs.OnceLaw.{same_job_eq}
use Rattle.cta_laws.proofs.Tests.{bool_cases, or_left, or_right}
use Rattle.part_model.specs.declared.jobs.ClaimedJob.{ClaimedJob}
use Rattle.part_model.specs.JobRows.{claimer_in}
use Rattle.part_model.specs.Mounts.{has_mount, row_of}
use Rattle.part_laws.specs.AllParts.{AllParts}
use Rattle.part_laws.specs.Stands.{Stands}
use Rattle.part_laws.specs.AnswerLaws.{PartsTellEnds}
use Rattle.part_laws.specs.Sessions.{birth_told, claims_some, claims_told, end_told, fate_told, flushed_told, known_told, last_told}
use Rattle.part_laws.proofs.ChoiceTold.{tells_mounts}

-- ---- jobs

birth_is : (site : Site) (h : History) (v : AllParts) → Stands site h v → (f c : ℕ) → birth_told v.book f c ≡ live_birth site h f c
birth_is site h v s f zero = ap (option_map (λ (r : Recall). r.birth)) (s.jobs.book.recall f)
birth_is site h v s f (suc c) = s.jobs.book.archive f c

fate_is : (site : Site) (h : History) (v : AllParts) → Stands site h v → (j : Job) → fate_told v.book j ≡ fate_of site h j
fate_is site h v s j = ap (λ (o : Option ℕ). if is_number j.birth o then fate.Done else fate.Stale) (birth_is site h v s j.file j.copy)

fates_are : (site : Site) (h : History) (v : AllParts) → Stands site h v → (items : List Item) → map (λ (i : Item). fate_of site h i.job) items ≡ map (λ (i : Item). fate_told v.book i.job) items
fates_are site h v s [] = refl
fates_are site h v s (i ∷ items) = rw (fate_is site h v s i.job) (rw (fates_are site h v s items) refl)

claims_are : (site : Site) (h : History) (v : AllParts) → Stands site h v → (m : ℕ) (j : Job) → claims_told v.book m j ≡ is_number m (claimer_of h j)
claims_are site h v s m j = ap (is_number m) (s.jobs.book.claimer j)

all_claims : (site : Site) (h : History) (v : AllParts) → Stands site h v → (m : ℕ) (js : List Job) → list_all (claims_told v.book m) js ≡ list_all (λ j. is_number m (claimer_of h j)) js
all_claims site h v s m [] = refl
all_claims site h v s m (j ∷ js) = rw (claims_are site h v s m j) (rw (all_claims site h v s m js) refl)

known_is : (site : Site) (h : History) (v : AllParts) → IsLegal site h → Stands site h v → (m : ℕ) (js : List Job) → is_known h m js ≡ known_told v m js
known_is site h v legal s m js =
    elim (bool_cases (is_open h m)) [
      | inl op ↦
          (ap (λ (b : Bool). b && (claims_all h m js && not (names_twice js))) (sym ((tells_mounts site h v s).opens m))
          ∙ ap (λ (b : Bool). has_mount m v.mounts && (b && not (names_twice js))) (claims_all_by site h legal m js op ∙ sym (all_claims site h v s m js)))
      | inr closed ↦
          (ap (λ (b : Bool). b && (claims_all h m js && not (names_twice js))) closed
          ∙ sym (ap (λ (b : Bool). b && (list_all (claims_told v.book m) js && not (names_twice js))) ((tells_mounts site h v s).opens m ∙ closed)))
    ]

-- ---- the last batch

last_is : (site : Site) (h : History) (v : AllParts) → IsLegal site h → Stands site h v → (m : ℕ) (items : List Item)
    → (is_known h m (item_jobs items) && is_last_batch (last_batch h m) items) ≡ (is_known h m (item_jobs items) && is_last_batch (last_told (row_of m v.mounts)) items)
last_is site h v legal s m items =
    elim (bool_cases (is_open h m)) [
      | inl op ↦
          (let found = (tells_mounts site h v s).row m op in
          ap (λ (o : Option (List Item)). is_known h m (item_jobs items) && is_last_batch o items) (sym found.2.last ∙ ap last_told (sym found.1)))
      | inr closed ↦
          (ap (λ (b : Bool). (b && (claims_all h m (item_jobs items) && not (names_twice (item_jobs items)))) && is_last_batch (last_batch h m) items) closed
          ∙ sym (ap (λ (b : Bool). (b && (claims_all h m (item_jobs items) && not (names_twice (item_jobs items)))) && is_last_batch (last_told (row_of m v.mounts)) items) closed))
    ]

flushed_by : Bool → List Fate → Answer
flushed_by known fates = refuse refusal.Unknown (not known) (answer.Told (rows fates))

flushed_is : (site : Site) (h : History) (v : AllParts) → IsLegal site h → Stands site h v → (m : ℕ) (items : List Item) → flushed_answer site h m items ≡ flushed_told v m items
unfolding flushed_by
flushed_is site h v legal s m items =
    ap (λ (b : Bool). flushed_by b (map (λ (i : Item). fate_of site h i.job) items)) (last_is site h v legal s m items)
    ∙ ap (λ (b : Bool). flushed_by (b && is_last_batch (last_told (row_of m v.mounts)) items) (map (λ (i : Item). fate_of site h i.job) items)) (known_is site h v legal s m (item_jobs items))
    ∙ ap (flushed_by (known_told v m (item_jobs items) && is_last_batch (last_told (row_of m v.mounts)) items)) (fates_are site h v s items)

-- ---- whether a mount claims something

-- a job that has a claimer has a row, and the claimer is that of the row's job
row_has : (rows : List ClaimedJob) (m : ℕ) (j : Job) → is_number m (claimer_in rows j) ≡ true → (test : Job → Bool) → test j ≡ true → list_any (λ (r : ClaimedJob). test r.job) rows ≡ true
row_has [] m j hit test passes = absurd (cc)
row_has (r ∷ rs) m j hit test passes =
    elim (bool_cases (same_job r.job j)) [
      | inl same ↦ or_left (test r.job) (list_any (λ (x : ClaimedJob). test x.job) rs) (subst (λ (k : Job). test k ≡ true) (sym (same_job_eq r.job j same)) passes)
      | inr other ↦ or_right (test r.job) (list_any (λ (x : ClaimedJob). test x.job) rs) (row_has rs m j (rw other at hit) test passes)
    ]

none_has : (rows : List ClaimedJob) (test : Job → Bool) → ((j : Job) → test j ≡ false) → list_any (λ (r : ClaimedJob). test r.job) rows ≡ false
none_has [] test none = refl
none_has (r ∷ rs) test none = rw (none r.job) (none_has rs test none)

pub self_job : (j : Job) → same_job j j ≡ true
self_job j = rw (eq-eqb j.birth j.birth refl, eq-eqb j.file j.file refl, eq-eqb j.copy j.copy refl) refl

some_is : (site : Site) (h : History) (v : AllParts) → IsLegal site h → Stands site h v → (m : ℕ) → is_open h m ≡ true → (items : List Item) → claimed_items h m ≡ items → is_empty items ≡ not (claims_some v.book m)
some_is site h v legal s m op [] none =
    sym (ap not (none_has v.book.claims (claims_told v.book m) (λ j. claims_are site h v s m j ∙ sym (claims_by_claimer site h legal m j op) ∙ ap (λ (xs : List Item). list_any (same_job j) (item_jobs xs)) none)))
some_is site h v legal s m op (i ∷ items) there =
    let here : claims h m i.job ≡ true = ap (λ (xs : List Item). list_any (same_job i.job) (item_jobs xs)) there ∙ or_left (same_job i.job i.job) (list_any (same_job i.job) (item_jobs items)) (self_job i.job) in
    let told : claims_told v.book m i.job ≡ true = claims_are site h v s m i.job ∙ sym (claims_by_claimer site h legal m i.job op) ∙ here in
    sym (ap not (row_has v.book.claims m i.job told (claims_told v.book m) told))

end_is : (site : Site) (h : History) (v : AllParts) → IsLegal site h → Stands site h v → (m : ℕ) → end_answer h m ≡ end_told v m
end_is site h v legal s m =
    elim (bool_cases (is_open h m)) [
      | inl op ↦
          (ap (λ (b : Bool). refuse refusal.Unknown (not (b && is_empty (claimed_items h m))) answer.Done) (sym ((tells_mounts site h v s).opens m))
          ∙ ap (λ (b : Bool). refuse refusal.Unknown (not (has_mount m v.mounts && b)) answer.Done) (some_is site h v legal s m op (claimed_items h m) refl))
      | inr closed ↦
          (ap (λ (b : Bool). refuse refusal.Unknown (not (b && is_empty (claimed_items h m))) answer.Done) closed
          ∙ sym (ap (λ (b : Bool). refuse refusal.Unknown (not (b && not (claims_some v.book m))) answer.Done) ((tells_mounts site h v s).opens m ∙ closed)))
    ]

pub parts_tell_ends : PartsTellEnds
parts_tell_ends site h v legal s = record {
  flushed = λ m items. flushed_is site h v legal s m items;
  recalled = λ m j.
      ap (λ (b : Bool). refuse refusal.Unknown (not b) (answer.Arrived (fate_of site h j))) (known_is site h v legal s m (j ∷ []))
      ∙ ap (λ (x : Fate). refuse refusal.Unknown (not (known_told v m (j ∷ []))) (answer.Arrived x)) (sym (fate_is site h v s j));
  failed = λ m jobs. ap (λ (b : Bool). refuse refusal.Unknown (not b) answer.Done) (known_is site h v legal s m jobs);
  closed = λ m. end_is site h v legal s m;
}
