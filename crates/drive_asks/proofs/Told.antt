-- What a job book tells of the jobs of items.
use Rattle.std.proofs.Common.{◌≡◌, ℕ, zero, suc, List, [], ◌∷◌, Bool, true, false, ◌||◌, refl, ap, arith}
use Rattle.std.specs.Prelude.{option_map, if◌then◌else◌, ◌==◌, ◌&&◌, map, filter, zip}
use Rattle.std.specs.List.{list_any}
use Rattle.cta_site.specs.declared.site.Site.{Site}
use Rattle.cta_model.specs.declared.asks.Fate.{Fate}
use Rattle.cta_model.specs.declared.asks.Fate.TheVariants as fate
use Rattle.cta_model.specs.declared.asks.Item.{Item}
use Rattle.cta_model.specs.declared.asks.Job.{Job}
use Rattle.cta_model.specs.History.{History, has_number, is_number}
use Rattle.cta_model.specs.Mounts.{item_jobs}
use Rattle.cta_model.specs.Places.{is_done}
use Rattle.cta_model.specs.Recalls.{Recall}
use Rattle.cta_model.specs.Jobs.{is_live_job, live_birth}
use Rattle.cta_model.specs.Answers.{fate_of}
use Rattle.cta_laws.proofs.Bools.{eq_flip}
use Rattle.part_model.specs.JobRows.{JobRows, book_in}
use Rattle.part_laws.specs.QueueBooks.{IsBook}
use Rattle.part_laws.specs.Buffer.{is_put_of}
use Rattle.part_laws.specs.BookCalls.{jobs_done}
use Rattle.part_laws.specs.Sessions.{birth_told, fate_told, is_live_told}
use Rattle.job_book.specs.Live.{lives}
use Rattle.part_moves.specs.Flags.{job_files}
use Rattle.drive_asks.specs.Items.{fates_told, live_jobs, with_fates}

-- ---- one job

-- a book tells whether a job lives as its rows do
pub lives_told : (v : JobRows) (j : Job) → lives j (book_in v) ≡ is_live_told v j
lives_told v j = by j.copy
  where
    by : (c : ℕ) → (if c == 0 then is_number j.birth (option_map (λ (r : Recall). r.birth) ((book_in v).recall j.file)) else is_number j.birth ((book_in v).archive j.file c)) ≡ is_number j.birth (birth_told v j.file c)
    by zero = refl
    by (suc c) = (let other : (suc c == 0) ≡ false = grind arith in rw other refl)

birth_is : (site : Site) (h : History) (v : JobRows) → IsBook site h (book_in v) → (f c : ℕ) → birth_told v f c ≡ live_birth site h f c
birth_is site h v is f zero = ap (option_map (λ (r : Recall). r.birth)) (is.recall f)
birth_is site h v is f (suc c) = is.archive f c

-- a book that stands for a history tells whether a job is live, and its fate
pub live_is : (site : Site) (h : History) (v : JobRows) → IsBook site h (book_in v) → (j : Job) → is_live_told v j ≡ is_live_job site h j
live_is site h v is j = ap (is_number j.birth) (birth_is site h v is j.file j.copy)

pub fate_is : (site : Site) (h : History) (v : JobRows) → IsBook site h (book_in v) → (j : Job) → fate_told v j ≡ fate_of site h j
fate_is site h v is j = ap (λ (b : Bool). if b then fate.Done else fate.Stale) (live_is site h v is j)

-- ---- the jobs of items

pub fates_are : (site : Site) (h : History) (v : JobRows) → IsBook site h (book_in v) → (items : List Item) → fates_told v items ≡ map (λ (i : Item). fate_of site h i.job) items
fates_are site h v is [] = refl
fates_are site h v is (i ∷ items) = rw (fate_is site h v is i.job) (ap (λ (fs : List Fate). fate_of site h i.job ∷ fs) (fates_are site h v is items))

pub jobs_are : (site : Site) (h : History) (v : JobRows) → IsBook site h (book_in v) → (items : List Item) → live_jobs v items ≡ filter (is_live_job site h) (item_jobs items)
jobs_are site h v is [] = refl
jobs_are site h v is (i ∷ items) = rw (live_is site h v is i.job) (ap (λ (js : List Job). if is_live_job site h i.job then i.job ∷ js else js) (jobs_are site h v is items))

-- items with their fates are items beside their fates
pub zip_is : (v : JobRows) (items : List Item) → with_fates v items ≡ zip items (fates_told v items)
zip_is v [] = refl
zip_is v (i ∷ items) = ap (λ (xs : List (Item × Fate)). (i, fate_told v i.job) ∷ xs) (zip_is v items)

-- the jobs that are done are those that are live
pub done_are : (v : JobRows) (items : List Item) → jobs_done (zip items (fates_told v items)) ≡ live_jobs v items
done_are v [] = refl
done_are v (i ∷ items) = by (is_live_told v i.job) (done_are v items)
  where
    by : (b : Bool) → jobs_done (zip items (fates_told v items)) ≡ live_jobs v items
        → map (λ (x : Item × Fate). x.0.job) (if is_done (if b then fate.Done else fate.Stale) then (i, if b then fate.Done else fate.Stale) ∷ filter (λ (x : Item × Fate). is_done x.1) (zip items (fates_told v items)) else filter (λ (x : Item × Fate). is_done x.1) (zip items (fates_told v items))) ≡ (if b then i.job ∷ live_jobs v items else live_jobs v items)
    by true rest = ap (λ (js : List Job). i.job ∷ js) rest
    by false rest = rest

-- the files of live jobs are those of which an item was put on tape
pub put_are : (v : JobRows) (items : List Item) (f : ℕ) → has_number f (job_files (live_jobs v items)) ≡ list_any (is_put_of f) (zip items (fates_told v items))
put_are v [] f = refl
put_are v (i ∷ items) f = by (is_live_told v i.job) (put_are v items f)
  where
    by : (b : Bool) → has_number f (job_files (live_jobs v items)) ≡ list_any (is_put_of f) (zip items (fates_told v items))
        → has_number f (job_files (if b then i.job ∷ live_jobs v items else live_jobs v items)) ≡ ((is_done (if b then fate.Done else fate.Stale) && (i.job.file == f)) || list_any (is_put_of f) (zip items (fates_told v items)))
    by true rest = rw (eq_flip f i.job.file) (ap (λ (b : Bool). (i.job.file == f) || b) rest)
    by false rest = rest
