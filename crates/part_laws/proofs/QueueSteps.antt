-- How each ask changes a queue.
use Rattle.std.proofs.Common.{◌≡◌, ◌∙◌, ℕ, zero, suc, ◌≤◌, List, ◌∷◌, Bool, true, false, ◌&&◌, not, refl, sym, ap, length}
use Rattle.std.specs.Prelude.{Option, Some, None, is_none, if◌then◌else◌, ◌==◌, filter, bytes_eq}
use Rattle.cta_site.specs.declared.site.Site.{Site}
use Rattle.cta_site.specs.Listed.{Listed}
use Rattle.cta_model.specs.declared.entries.Entry.{Entry}
use Rattle.cta_model.specs.declared.asks.Ask.{Ask}
use Rattle.cta_model.specs.declared.answers.Answer.{Answer}
use Rattle.cta_model.specs.declared.asks.Direction.{Direction}
use Rattle.cta_model.specs.declared.asks.Who.{Who}
use Rattle.cta_model.specs.declared.asks.Item.{Item}
use Rattle.cta_model.specs.declared.asks.Job.{Job}
use Rattle.cta_model.specs.History.{History, is_number}
use Rattle.cta_model.specs.Files.{path_of}
use Rattle.cta_model.specs.Mounts.{claimer_of, same_direction, has_job, item_jobs}
use Rattle.cta_model.specs.Recalls.{Recall, live_recall, recall_after, lives_unless}
use Rattle.cta_model.specs.Jobs.{archive_birth, archive_after, live_birth, is_live_job}
use Rattle.cta_model.specs.Queues.{queue_of, key_of, direction_of, is_queued}
use Rattle.cta_model.specs.Legal.{IsLegal}
use Rattle.cta_laws.proofs.OnceLaw.{birth_in}
use Rattle.cta_laws.proofs.RangeLaw.{job_range}
use Rattle.cta_model.specs.declared.asks.Ask.TheVariants as ask
use Rattle.cta_model.specs.declared.answers.Answer.TheVariants as answer
use Rattle.cta_laws.specs.Changes.{may_change_claims, may_change_jobs, may_change_keys, may_change_states, may_charge, may_flush}
use Rattle.cta_laws.proofs.Frames.{charges_same, claimer_same, flushed_same, key_kept, key_same, live_same, state_same}
use Rattle.part_laws.proofs.QueueMoves.{queue_leaves, queue_stays}
use Rattle.cta_laws.proofs.Claimers.{claimer_step}
use Rattle.cta_laws.specs.Claims.{claimer_after}
use Rattle.part_model.specs.Order.{leave_out}
use Rattle.cta_laws.proofs.Paths.{other_path}

-- a job that is live is queued where it goes this way, no mount claims it, and it has the key
abbrev pub queued_by : Direction → ℕ → Job → Bool → Option ℕ → Option ℕ → Bool
queued_by way key j live claimer of = live && (same_direction way (direction_of j) && (is_none claimer && is_number key of))

pub live_low : (site : Site) (h : History) → IsLegal site h → (j : Job) → is_live_job site h j ≡ true → j.file ≤ length h
live_low site h legal j live = (job_range site h legal j live).1

-- the key of a job that is not live tells nothing
pub key_or : (way : Direction) (key : ℕ) (j : Job) (live : Bool) (o a b : Option ℕ) → (live ≡ true → a ≡ b) → queued_by way key j live o a ≡ queued_by way key j live o b
key_or way key j true o a b same = ap (queued_by way key j true o) (same refl)
key_or way key j false o a b same = refl

-- ---- asks that change no queue

pub point_same : (site : Site) (h : History) (e : Entry) → IsLegal site (e ∷ h) → may_change_jobs e.ask ≡ false → may_change_claims e.ask ≡ false → may_change_keys e.ask ≡ false
    → (way : Direction) (key : ℕ) (j : Job) → is_queued site (e ∷ h) way key j ≡ is_queued site h way key j
point_same site h e legal jobs claims keys way key j =
    ap (λ (b : Bool). queued_by way key j b (claimer_of (e ∷ h) j) (key_of site (e ∷ h) j)) (live_same site h e j jobs)
    ∙ ap (λ (o : Option ℕ). queued_by way key j (is_live_job site h j) o (key_of site (e ∷ h) j)) (claimer_same site h e j legal claims)
    ∙ key_or way key j (is_live_job site h j) (claimer_of h j) (key_of site (e ∷ h) j) (key_of site h j) (λ live. key_same site e h j (live_low site h legal.0 j live) keys)

pub queue_same : (site : Site) (h : History) (e : Entry) → IsLegal site (e ∷ h) → may_change_jobs e.ask ≡ false → may_change_claims e.ask ≡ false → may_change_keys e.ask ≡ false
    → (way : Direction) (key : ℕ) → queue_of site (e ∷ h) way key ≡ queue_of site h way key
queue_same site h e legal jobs claims keys way key = queue_stays site h (e ∷ h) way key legal.0 legal (point_same site h e legal jobs claims keys way key)

-- ---- Claim

claimed_point : (live way none has key : Bool) → (live && (way && ((none && not has) && key))) ≡ ((live && (way && (none && key))) && not has)
claimed_point false way none has key = refl
claimed_point true false none has key = refl
claimed_point true true false has key = refl
claimed_point true true true true true = refl
claimed_point true true true true false = refl
claimed_point true true true false true = refl
claimed_point true true true false false = refl

none_if : (has : Bool) (m : ℕ) (o : Option ℕ) → is_none (if has then Some m else o) ≡ (is_none o && not has)
none_if true m None = refl
none_if true m (Some k) = refl
none_if false m None = refl
none_if false m (Some k) = refl

pub claim_point : (site : Site) (h : History) (e : Entry) (m : ℕ) (items : Listed Item) (evicted : Listed ℕ) → IsLegal site (e ∷ h) → e.ask ≡ ask.Claim m → e.answer ≡ answer.Batch items evicted
    → (way : Direction) (key : ℕ) (j : Job) → is_queued site (e ∷ h) way key j ≡ (is_queued site h way key j && not (has_job j (item_jobs items.items)))
claim_point site h e m items evicted legal ek ea way key j =
    (let claimer : claimer_of (e ∷ h) j ≡ (if has_job j (item_jobs items.items) then Some m else claimer_of h j) = claimer_step site h e legal j ∙ ap (λ (k : Ask). claimer_after k e.answer j (claimer_of h j)) ek ∙ ap (λ (a : Answer). claimer_after (ask.Claim m) a j (claimer_of h j)) ea in
    let jobs : may_change_jobs e.ask ≡ false = ap may_change_jobs ek in
    let keys : may_change_keys e.ask ≡ false = ap may_change_keys ek in
    ap (λ (b : Bool). queued_by way key j b (claimer_of (e ∷ h) j) (key_of site (e ∷ h) j)) (live_same site h e j jobs)
    ∙ ap (λ (o : Option ℕ). queued_by way key j (is_live_job site h j) o (key_of site (e ∷ h) j)) claimer
    ∙ key_or way key j (is_live_job site h j) (if has_job j (item_jobs items.items) then Some m else claimer_of h j) (key_of site (e ∷ h) j) (key_of site h j) (λ live. key_same site e h j (live_low site h legal.0 j live) keys)
    ∙ ap (λ (b : Bool). is_live_job site h j && (same_direction way (direction_of j) && (b && is_number key (key_of site h j)))) (none_if (has_job j (item_jobs items.items)) m (claimer_of h j))
    ∙ claimed_point (is_live_job site h j) (same_direction way (direction_of j)) (is_none (claimer_of h j)) (has_job j (item_jobs items.items)) (is_number key (key_of site h j)))

-- a Claim's batch leaves its queue
pub claim_queue : (site : Site) (h : History) (e : Entry) (m : ℕ) (items : Listed Item) (evicted : Listed ℕ) → IsLegal site (e ∷ h) → e.ask ≡ ask.Claim m → e.answer ≡ answer.Batch items evicted
    → (way : Direction) (key : ℕ) → queue_of site (e ∷ h) way key ≡ leave_out (item_jobs items.items) (queue_of site h way key)
claim_queue site h e m items evicted legal ek ea way key = queue_leaves site h (e ∷ h) way key (λ j. not (has_job j (item_jobs items.items))) legal.0 legal (claim_point site h e m items evicted legal ek ea way key)

-- ---- Delete

pub unless_lives : (b : ℕ) (t : Bool) (r : Recall) → is_number b (birth_in (lives_unless t r)) ≡ (is_number b (Some r.birth) && not t)
unless_lives b true r = sym (and_false (b == r.birth))
  where
    and_false : (x : Bool) → (x && false) ≡ false
    and_false true = refl
    and_false false = refl
unless_lives b false r = sym (and_true (b == r.birth))
  where
    and_true : (x : Bool) → (x && true) ≡ x
    and_true true = refl
    and_true false = refl

delete_recall : (site : Site) (h : History) (e : Entry) (who : Who) (path : List ℕ) (f b : ℕ) (o : Option Recall) → e.ask ≡ ask.Delete who path → is_number b (birth_in (recall_after site h e f o)) ≡ (is_number b (birth_in o) && not (bytes_eq path (path_of h f)))
delete_recall site h e who path f b None ek = rw ek refl
delete_recall site h e who path f b (Some r) ek = rw ek (unless_lives b (bytes_eq path (path_of h f)) r)

delete_archive : (site : Site) (h : History) (e : Entry) (who : Who) (path : List ℕ) (f c b : ℕ) (o : Option ℕ) → e.ask ≡ ask.Delete who path → is_number b (archive_after site h e f c o) ≡ (is_number b o && not (bytes_eq path (path_of h f)))
delete_archive site h e who path f c b None ek = rw ek refl
delete_archive site h e who path f c b (Some birth) ek = rw ek (by (bytes_eq path (path_of h f)))
  where
    by : (t : Bool) → is_number b (if t then None else Some birth) ≡ (is_number b (Some birth) && not t)
    by true = sym (and_false (b == birth))
      where
        and_false : (x : Bool) → (x && false) ≡ false
        and_false true = refl
        and_false false = refl
    by false = sym (and_true (b == birth))
      where
        and_true : (x : Bool) → (x && true) ≡ x
        and_true true = refl
        and_true false = refl

-- a Delete ends the jobs of its path's file
pub delete_live : (site : Site) (h : History) (e : Entry) (who : Who) (path : List ℕ) (j : Job) → e.ask ≡ ask.Delete who path → is_live_job site (e ∷ h) j ≡ (is_live_job site h j && not (bytes_eq path (path_of h j.file)))
delete_live site h e who path j ek = by j.copy
  where
    by : (c : ℕ) → is_number j.birth (live_birth site (e ∷ h) j.file c) ≡ (is_number j.birth (live_birth site h j.file c) && not (bytes_eq path (path_of h j.file)))
    by zero = delete_recall site h e who path j.file j.birth (live_recall site h j.file) ek
    by (suc c) = delete_archive site h e who path j.file (suc c) j.birth (archive_birth site h j.file (suc c)) ek

delete_shift : (live t way none key : Bool) → ((live && not t) && (way && (none && key))) ≡ ((live && (way && (none && key))) && not t)
delete_shift false t way none key = refl
delete_shift true true way none key = sym (and_false (way && (none && key)))
  where
    and_false : (x : Bool) → (x && false) ≡ false
    and_false true = refl
    and_false false = refl
delete_shift true false way none key = sym (and_true (way && (none && key)))
  where
    and_true : (x : Bool) → (x && true) ≡ x
    and_true true = refl
    and_true false = refl

both_true : (a t : Bool) → (a && not t) ≡ true → (a ≡ true) × (t ≡ false)
both_true true false e = (refl, refl)
both_true true true e = absurd (cc)
both_true false t e = absurd (cc)

pub delete_point : (site : Site) (h : History) (e : Entry) (who : Who) (path : List ℕ) → IsLegal site (e ∷ h) → e.ask ≡ ask.Delete who path
    → (way : Direction) (key : ℕ) (j : Job) → is_queued site (e ∷ h) way key j ≡ (is_queued site h way key j && not (bytes_eq path (path_of h j.file)))
delete_point site h e who path legal ek way key j =
    ap (λ (b : Bool). queued_by way key j b (claimer_of (e ∷ h) j) (key_of site (e ∷ h) j)) (delete_live site h e who path j ek)
    ∙ ap (λ (o : Option ℕ). queued_by way key j (is_live_job site h j && not (bytes_eq path (path_of h j.file))) o (key_of site (e ∷ h) j)) (claimer_same site h e j legal (ap may_change_claims ek))
    ∙ key_or way key j (is_live_job site h j && not (bytes_eq path (path_of h j.file))) (claimer_of h j) (key_of site (e ∷ h) j) (key_of site h j) (λ both. same_key (both_true (is_live_job site h j) (bytes_eq path (path_of h j.file)) both))
    ∙ delete_shift (is_live_job site h j) (bytes_eq path (path_of h j.file)) (same_direction way (direction_of j)) (is_none (claimer_of h j)) (is_number key (key_of site h j))
  where
    same_key : (is_live_job site h j ≡ true) × (bytes_eq path (path_of h j.file) ≡ false) → key_of site (e ∷ h) j ≡ key_of site h j
    same_key p =
        (let low : j.file ≤ length h = live_low site h legal.0 j p.0 in
        key_kept site e h j (record { low = low; live = other_path e h who path j.file ek low p.1; flushed = λ c. flushed_same e h j.file c (ap may_flush ek); state = λ v. state_same site e h v (ap may_change_states ek) }) (charges_same e h j (ap may_charge ek)))

-- a Delete takes the jobs of its path's file out of each queue
pub delete_queue : (site : Site) (h : History) (e : Entry) (who : Who) (path : List ℕ) → IsLegal site (e ∷ h) → e.ask ≡ ask.Delete who path
    → (way : Direction) (key : ℕ) → queue_of site (e ∷ h) way key ≡ filter (λ (j : Job). not (bytes_eq path (path_of h j.file))) (queue_of site h way key)
delete_queue site h e who path legal ek way key = queue_leaves site h (e ∷ h) way key (λ (j : Job). not (bytes_eq path (path_of h j.file))) legal.0 legal (delete_point site h e who path legal ek way key)
