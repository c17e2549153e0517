-- How a Delete, a Flushed and a Failed change jobs and queues.
use Rattle.std.proofs.Common.{◌≡◌, ◌∙◌, ℕ, zero, suc, ◌≤◌, inl, inr, List, [], ◌∷◌, Bool, true, false, ◌&&◌, ◌||◌, not, refl, sym, ap, subst, length}
use Rattle.std.specs.Prelude.{Option, Some, None, is_none, is_some, if◌then◌else◌, ◌==◌, filter, bytes_eq, map, zip}
use Rattle.std.specs.List.{list_any}
use Rattle.std.proofs.lemmas.Bool.{and_parts, eqb-true}
use Rattle.std.proofs.lemmas.Slice.Eq.{bytes_eq-Decides}
use Rattle.cta_site.specs.declared.site.Site.{Site}
use Rattle.cta_site.specs.Listed.{Listed, rows}
use Rattle.cta_model.specs.declared.entries.Entry.{Entry}
use Rattle.cta_model.specs.declared.asks.Ask.{Ask}
use Rattle.cta_model.specs.declared.asks.Fate.{Fate}
use Rattle.cta_model.specs.declared.answers.Answer.{Answer}
use Rattle.cta_model.specs.declared.asks.Direction.{Direction}
use Rattle.cta_model.specs.declared.asks.Who.{Who}
use Rattle.cta_model.specs.declared.asks.Item.{Item}
use Rattle.cta_model.specs.declared.asks.Job.{Job}
use Rattle.cta_model.specs.declared.states.Mount.{Mount}
use Rattle.cta_model.specs.History.{History, is_number}
use Rattle.cta_model.specs.Files.{live_file, path_of}
use Rattle.cta_model.specs.Mounts.{mount_of, last_batch, asked_mount, tape_of_mount, claimer_of, same_direction, has_job, item_jobs, same_job, claims, job_of}
use Rattle.cta_model.specs.Places.{is_done, is_copy_of, flushed_in, fseq_after, last_flushed, place_after}
use Rattle.cta_model.specs.Recalls.{Recall, live_recall, recall_after}
use Rattle.cta_model.specs.Jobs.{archive_birth, archive_after, ends_archive, live_birth, is_live_job}
use Rattle.cta_model.specs.Queues.{queue_of, key_of, key_by, direction_of, way_by, is_queued}
use Rattle.cta_model.specs.Answers.{refuse, answer_of, is_accepted, is_known, is_last_batch, fate_of}
use Rattle.cta_model.specs.Legal.{IsLegal, IsFit, IsMountOf}
use Rattle.cta_laws.proofs.Tests.{bool_cases, or_left, or_right}
use Rattle.cta_laws.proofs.OnceLaw.{birth_in, same_job_eq}
use Rattle.cta_laws.proofs.JobLists.{job_self}
use Rattle.cta_laws.proofs.PlaceLaw.{flushed_known}
use Rattle.cta_model.specs.declared.asks.Ask.TheVariants as ask
use Rattle.cta_model.specs.declared.asks.Fate.TheVariants as fate
use Rattle.cta_model.specs.declared.answers.Answer.TheVariants as answer
use Rattle.cta_model.specs.declared.answers.Refusal.TheVariants as refusal
use Rattle.cta_model.specs.declared.asks.Direction.TheVariants as direction
use Rattle.cta_laws.proofs.JobFiles.{job_file_live, live_path, no_archive}
use Rattle.part_laws.proofs.QueueMoves.{queue_leaves, queue_stays}
use Rattle.part_laws.proofs.QueueSteps.{delete_point, key_or, live_low, queued_by}
use Rattle.cta_laws.proofs.Claimers.{Ends, claimer_is, claimer_step, ends_known}
use Rattle.part_laws.proofs.Orders.{same_flip}
use Rattle.cta_laws.proofs.Ways.{claims_way}
use Rattle.cta_laws.proofs.Frames.{charges_same, is_live_same, key_kept, pool_kept, state_same}
use Rattle.cta_laws.specs.Changes.{may_change_files, may_change_states, may_charge}
use Rattle.cta_laws.specs.Claims.{claimer_after}

-- ---- Delete

-- a live job of the deleted path is of the path's file
pub same_file : (site : Site) (h : History) (path : List ℕ) (g : ℕ) (j : Job) → IsLegal site h → live_file h path ≡ Some g → is_live_job site h j ≡ true → bytes_eq path (path_of h j.file) ≡ (j.file == g)
same_file site h path g j legal is live =
    elim (bool_cases (bytes_eq path (path_of h j.file))) [
      | inl hit ↦
          (let same : path ≡ path_of h j.file = (bytes_eq-Decides path (path_of h j.file)).0 hit in
          let named : is_number j.file (live_file h (path_of h j.file)) ≡ true = job_file_live site h legal j live in
          let here : is_number j.file (Some g) ≡ true = subst (λ (o : Option ℕ). is_number j.file o ≡ true) is (subst (λ (p : List ℕ). is_number j.file (live_file h p) ≡ true) (sym same) named) in
          hit ∙ sym here)
      | inr miss ↦
          elim (bool_cases (j.file == g)) [
            | inl hit ↦
                (let file : j.file ≡ g = eqb-true j.file g hit in
                let same : path_of h j.file ≡ path = ap (path_of h) file ∙ live_path h path g is in
                let bad : bytes_eq path (path_of h j.file) ≡ true = (bytes_eq-Decides path (path_of h j.file)).1 (sym same) in
                absurd (cc))
            | inr other ↦ miss ∙ sym other
          ]
    ]

-- a Delete takes the jobs of the file out of each queue
pub delete_file_queue : (site : Site) (h : History) (e : Entry) (who : Who) (path : List ℕ) (g : ℕ) → IsLegal site (e ∷ h) → e.ask ≡ ask.Delete who path → live_file h path ≡ Some g
    → (way : Direction) (key : ℕ) → queue_of site (e ∷ h) way key ≡ filter (λ (j : Job). not (j.file == g)) (queue_of site h way key)
delete_file_queue site h e who path g legal ek is way key =
    queue_leaves site h (e ∷ h) way key (λ (j : Job). not (j.file == g)) legal.0 legal (λ j. delete_point site h e who path legal ek way key j ∙ by j (is_live_job site h j) refl)
  where
    by : (j : Job) (live : Bool) → is_live_job site h j ≡ live → ((live && (same_direction way (direction_of j) && (is_none (claimer_of h j) && is_number key (key_of site h j)))) && not (bytes_eq path (path_of h j.file))) ≡ ((live && (same_direction way (direction_of j) && (is_none (claimer_of h j) && is_number key (key_of site h j)))) && not (j.file == g))
    by j true live = rw (same_file site h path g j legal.0 is live) refl
    by j false live = refl

-- ---- Flushed

-- what a Flushed or a Failed of a mount names is claimed by the mount
pub named_claimed : (site : Site) (h : History) (m : ℕ) (js : List Job) (j : Job) → IsLegal site h → Ends site h m js → has_job j js ≡ true → is_none (claimer_of h j) ≡ false
named_claimed site h m js j legal ends there = ap is_none (claimer_is site h legal j m ends.0 (ends.1 j there))

pub flushed_told : (site : Site) (h : History) (t m : ℕ) (items : Listed Item) (a : Answer) → a ≡ answer_of site h t (ask.Flushed m items) → is_accepted a ≡ true → a ≡ answer.Told (rows (map (λ (i : Item). fate_of site h i.job) items.items))
flushed_told site h t m items a is ok = by (is_known h m (item_jobs items.items) && is_last_batch (last_batch h m) items.items) is
  where
    by : (known : Bool) → a ≡ refuse refusal.Unknown (not known) (answer.Told (rows (map (λ (i : Item). fate_of site h i.job) items.items))) → a ≡ answer.Told (rows (map (λ (i : Item). fate_of site h i.job) items.items))
    by true is = is
    by false is = (let bad : is_accepted (answer.Refused refusal.Unknown) ≡ true = subst (λ (x : Answer). is_accepted x ≡ true) is ok in absurd (cc))

abbrev pub fates_of : Site → History → List Item → List Fate
fates_of site h items = map (λ (i : Item). fate_of site h i.job) items

done_live : (live : Bool) → is_done (if live then fate.Done else fate.Stale) ≡ live
done_live true = refl
done_live false = refl

pub flip_same : (a b : Job) → same_job a b ≡ same_job b a
flip_same a b =
    elim (bool_cases (same_job a b)) [
      | inl hit ↦ hit ∙ sym (subst (λ (k : Job). same_job k a ≡ true) (same_job_eq a b hit) (job_self a))
      | inr miss ↦ miss ∙ sym (same_flip a b miss)
    ]

pub done_among : (site : Site) (h : History) (items : List Item) (j : Job) → list_any (λ (x : Item × Fate). is_done x.1 && same_job x.0.job j) (zip items (fates_of site h items)) ≡ (has_job j (item_jobs items) && is_live_job site h j)
done_among site h [] j = refl
done_among site h (i ∷ items) j =
    elim (bool_cases (same_job j i.job)) [
      | inl hit ↦
          (let same : i.job ≡ j = sym (same_job_eq j i.job hit) in
          let live : is_done (fate_of site h i.job) ≡ is_live_job site h j = done_live (is_live_job site h i.job) ∙ ap (is_live_job site h) same in
          let flip : same_job i.job j ≡ true = flip_same i.job j ∙ hit in
          rw (hit, flip, live) (by (is_live_job site h j) (has_job j (item_jobs items)) _ (done_among site h items j)))
      | inr miss ↦
          (let flip : same_job i.job j ≡ false = flip_same i.job j ∙ miss in
          rw (miss, flip) (none (is_done (fate_of site h i.job)) _ ∙ done_among site h items j))
    ]
  where
    none : (a b : Bool) → ((a && false) || b) ≡ b
    none true b = refl
    none false b = refl

    by : (live b r : Bool) → r ≡ (b && live) → ((live && true) || r) ≡ (true && live)
    by true b r e = refl
    by false b r e = e ∙ drop b
      where
        drop : (b : Bool) → (b && false) ≡ false
        drop true = refl
        drop false = refl

-- a Flushed ends the jobs that it names
flushed_archive : (site : Site) (h : History) (e : Entry) (m : ℕ) (items : Listed Item) (j : Job) (c : ℕ) (o : Option ℕ) → j.copy ≡ c → e.ask ≡ ask.Flushed m items → e.answer ≡ answer.Told (rows (fates_of site h items.items)) → archive_birth site h j.file c ≡ o → live_birth site h j.file j.copy ≡ o
    → is_number j.birth (archive_after site h e j.file c o) ≡ (is_number j.birth o && not (has_job j (item_jobs items.items)))
flushed_archive site h e m items j c None copy ek ea was live = rw ek refl
flushed_archive site h e m items j c (Some b) copy ek ea was live =
    elim (bool_cases (j.birth == b)) [
      | inr other ↦ by_other (ends_archive site h e.ask e.answer (job_of b j.file c)) other
      | inl hit ↦
          (let birth : b ≡ j.birth = sym (eqb-true j.birth b hit) in
          let is : is_live_job site h j ≡ true = ap (is_number j.birth) live ∙ hit in
          let ends : ends_archive site h e.ask e.answer (job_of b j.file c) ≡ has_job j (item_jobs items.items) =
          ap (λ (n : ℕ). ends_archive site h e.ask e.answer (job_of n j.file c)) birth ∙ ap (λ (n : ℕ). ends_archive site h e.ask e.answer (job_of j.birth j.file n)) (sym copy)
          ∙ ap (λ (k : Ask). ends_archive site h k e.answer j) ek ∙ ap (λ (a : Answer). ends_archive site h (ask.Flushed m items) a j) ea
          ∙ done_among site h items.items j ∙ rw is (and_true (has_job j (item_jobs items.items))) in
          rw ends (by_hit (has_job j (item_jobs items.items)) hit))
    ]
  where
    and_true : (x : Bool) → (x && true) ≡ x
    and_true true = refl
    and_true false = refl

    by_other : (t : Bool) → (j.birth == b) ≡ false → is_number j.birth (if t then None else Some b) ≡ ((j.birth == b) && not (has_job j (item_jobs items.items)))
    by_other true d = rw d refl
    by_other false d = rw d refl

    by_hit : (t : Bool) → (j.birth == b) ≡ true → is_number j.birth (if t then None else Some b) ≡ ((j.birth == b) && not t)
    by_hit true d = rw d refl
    by_hit false d = rw d refl

pub flushed_recall : (site : Site) (h : History) (e : Entry) (m : ℕ) (items : Listed Item) (f : ℕ) (o : Option Recall) → e.ask ≡ ask.Flushed m items → recall_after site h e f o ≡ o
flushed_recall site h e m items f None ek = rw ek refl
flushed_recall site h e m items f (Some r) ek = rw ek refl

-- what a Flushed names are archive jobs
pub flushed_way : (site : Site) (h : History) (e : Entry) (m : ℕ) (items : Listed Item) → IsLegal site (e ∷ h) → e.ask ≡ ask.Flushed m items → (j : Job) → has_job j (item_jobs items.items) ≡ true → direction_of j ≡ direction.Archive
flushed_way site h e m items legal ek j there =
    (let answered : e.answer ≡ answer_of site h e.at (ask.Flushed m items) = legal.1.answered ∙ ap (answer_of site h e.at) ek in
    let known : is_known h m (item_jobs items.items) ≡ true = (flushed_known site h e.at m items e.answer answered legal.1.accepted).0 in
    let fit : IsFit site h (ask.Flushed m items) = subst (λ (k : Ask). IsFit site h k) ek legal.1.fit in
    by (mount_of h m) refl fit ((ends_known site h m (item_jobs items.items) known).1 j there))
  where
    by : (o : Option Mount) → mount_of h m ≡ o → IsMountOf direction.Archive o → claims h m j ≡ true → direction_of j ≡ direction.Archive
    by None is fit c = absurd (fit)
    by (Some x) is fit c = claims_way site h legal.0 m x j is c ∙ fit

pub flushed_live : (site : Site) (h : History) (e : Entry) (m : ℕ) (items : Listed Item) (j : Job) → IsLegal site (e ∷ h) → e.ask ≡ ask.Flushed m items → is_live_job site (e ∷ h) j ≡ (is_live_job site h j && not (has_job j (item_jobs items.items)))
flushed_live site h e m items j legal ek = by j.copy refl
  where
    told : e.answer ≡ answer.Told (rows (fates_of site h items.items))
    told = flushed_told site h e.at m items e.answer (legal.1.answered ∙ ap (answer_of site h e.at) ek) legal.1.accepted

    not_recall : j.copy ≡ 0 → has_job j (item_jobs items.items) ≡ false
    not_recall is =
        elim (bool_cases (has_job j (item_jobs items.items))) [
          | inl there ↦ (let way : direction_of j ≡ direction.Archive = flushed_way site h e m items legal ek j there in let other : direction.Retrieve ≡ direction.Archive = sym (ap way_by is) ∙ way in absurd (cc))
          | inr none ↦ none
        ]

    and_true : (x : Bool) → (x && true) ≡ x
    and_true true = refl
    and_true false = refl

    by : (c : ℕ) → j.copy ≡ c → is_number j.birth (live_birth site (e ∷ h) j.file c) ≡ (is_number j.birth (live_birth site h j.file c) && not (has_job j (item_jobs items.items)))
    by zero is = ap (λ (o : Option Recall). is_number j.birth (birth_in o)) (flushed_recall site h e m items j.file (live_recall site h j.file) ek) ∙ sym (rw (not_recall is) (and_true (is_number j.birth (live_birth site h j.file 0))))
    by (suc c) is = flushed_archive site h e m items j (suc c) (archive_birth site h j.file (suc c)) is ek told refl (ap (live_birth site h j.file) is)

-- ---- a Flushed leaves the places of a file that has a live recall

copy_number : (c : ℕ) → way_by c ≡ direction.Archive → (d : ℕ) × (c ≡ suc d)
copy_number zero e = absurd (cc)
copy_number (suc c) e = (c, refl)

some_birth : (b : ℕ) (o : Option ℕ) → is_number b o ≡ true → is_some o ≡ true
some_birth b None e = absurd (cc)
some_birth b (Some n) e = refl

-- no done item is of a file that has a live recall
not_copy : (site : Site) (h : History) (f c : ℕ) (i : Item) → IsLegal site h → is_some (live_recall site h f) ≡ true → direction_of i.job ≡ direction.Archive → is_copy_of f c (i, fate_of site h i.job) ≡ false
not_copy site h f c i legal on way =
    elim (bool_cases (is_copy_of f c (i, fate_of site h i.job))) [
      | inr miss ↦ miss
      | inl hit ↦
          (let parts : (is_done (fate_of site h i.job) ≡ true) × ((i.job.file == f && i.job.copy == c) ≡ true) = and_parts _ _ hit in
          let live : is_live_job site h i.job ≡ true = sym (done_live (is_live_job site h i.job)) ∙ parts.0 in
          let file : i.job.file ≡ f = eqb-true i.job.file f (and_parts (i.job.file == f) _ parts.1).0 in
          let copy : (d : ℕ) × (i.job.copy ≡ suc d) = copy_number i.job.copy way in
          let born : is_number i.job.birth (archive_birth site h f (suc copy.0)) ≡ true = subst (λ (n : ℕ). is_number i.job.birth (live_birth site h n (suc copy.0)) ≡ true) file (subst (λ (n : ℕ). is_number i.job.birth (live_birth site h i.job.file n) ≡ true) copy.1 live) in
          let some : is_some (archive_birth site h f (suc copy.0)) ≡ true = some_birth i.job.birth (archive_birth site h f (suc copy.0)) born in
          let none : is_some (archive_birth site h f (suc copy.0)) ≡ false = ap is_some (no_archive site h legal f copy.0 on) in
          absurd (cc))
    ]

fseq_same : (site : Site) (h : History) (f c : ℕ) (items : List Item) (o : Option ℕ) → IsLegal site h → is_some (live_recall site h f) ≡ true → ((j : Job) → has_job j (item_jobs items) ≡ true → direction_of j ≡ direction.Archive) → fseq_after (zip items (fates_of site h items)) f c o ≡ o
fseq_same site h f c [] o legal on ways = refl
fseq_same site h f c (i ∷ items) o legal on ways =
    (let miss : is_copy_of f c (i, fate_of site h i.job) ≡ false = not_copy site h f c i legal on (ways i.job (or_left (same_job i.job i.job) _ (job_self i.job))) in
    ap (λ (b : Bool). fseq_after (zip items (fates_of site h items)) f c (if b then Some i.fseq else o)) miss
    ∙ fseq_same site h f c items o legal on (λ j there. ways j (or_right (same_job j i.job) (has_job j (item_jobs items)) there)))

flushed_places : (site : Site) (h : History) (e : Entry) (m : ℕ) (items : Listed Item) (f c : ℕ) → IsLegal site (e ∷ h) → e.ask ≡ ask.Flushed m items → is_some (live_recall site h f) ≡ true → last_flushed (e ∷ h) f c ≡ last_flushed h f c
flushed_places site h e m items f c legal ek on =
    (let told : e.answer ≡ answer.Told (rows (fates_of site h items.items)) = flushed_told site h e.at m items e.answer (legal.1.answered ∙ ap (answer_of site h e.at) ek) legal.1.accepted in
    ap (λ (o : Option ℕ). place_after c (tape_of_mount h (asked_mount e.ask)) o (last_flushed h f c))
    (ap (λ (k : Ask). fseq_after (flushed_in k e.answer) f c None) ek ∙ ap (λ (a : Answer). fseq_after (flushed_in (ask.Flushed m items) a) f c None) told
    ∙ fseq_same site h f c items.items None legal.0 on (λ j there. flushed_way site h e m items legal ek j there)))

flushed_key : (site : Site) (h : History) (e : Entry) (m : ℕ) (items : Listed Item) (j : Job) → IsLegal site (e ∷ h) → e.ask ≡ ask.Flushed m items → is_live_job site h j ≡ true → key_of site (e ∷ h) j ≡ key_of site h j
flushed_key site h e m items j legal ek live = by j.copy refl live
  where
    low : j.file ≤ length h
    low = live_low site h legal.0 j live

    some_recall : (o : Option Recall) → is_number j.birth (birth_in o) ≡ true → is_some o ≡ true
    some_recall None x = absurd (cc)
    some_recall (Some r) x = refl

    by : (c : ℕ) → j.copy ≡ c → is_number j.birth (live_birth site h j.file c) ≡ true → key_of site (e ∷ h) j ≡ key_of site h j
    by zero is on =
        key_kept site e h j (record { low = low; live = is_live_same e h j.file low (ap may_change_files ek); flushed = λ c. flushed_places site h e m items j.file c legal ek (some_recall (live_recall site h j.file) on); state = λ v. state_same site e h v (ap may_change_states ek) })
        (charges_same e h j (ap may_charge ek))
    by (suc c) is on = subst (λ (n : ℕ). key_by n site (e ∷ h) j ≡ key_by n site h j) (sym is) (pool_kept site e h j low)

pub flushed_shift : (live has d k : Bool) (m : ℕ) (o : Option ℕ) → (has ≡ true → is_none o ≡ false) → ((live && not has) && (d && (is_none (if has then None else o) && k))) ≡ (live && (d && (is_none o && k)))
flushed_shift live true d k m o claimed = none live (d && (true && k)) ∙ sym (rw (claimed refl) (no_key live d))
  where
    none : (a b : Bool) → ((a && false) && b) ≡ false
    none true b = refl
    none false b = refl

    no_key : (a b : Bool) → (a && (b && false)) ≡ false
    no_key true true = refl
    no_key true false = refl
    no_key false b = refl
flushed_shift live false d k m o claimed = rw (and_true live) refl
  where
    and_true : (x : Bool) → (x && true) ≡ x
    and_true true = refl
    and_true false = refl

-- a Flushed changes no queue: what it names was claimed, and is live no more
pub flushed_queue : (site : Site) (h : History) (e : Entry) (m : ℕ) (items : Listed Item) → IsLegal site (e ∷ h) → e.ask ≡ ask.Flushed m items → (way : Direction) (key : ℕ) → queue_of site (e ∷ h) way key ≡ queue_of site h way key
flushed_queue site h e m items legal ek way key = queue_stays site h (e ∷ h) way key legal.0 legal (λ j. point j)
  where
    answered : e.answer ≡ answer_of site h e.at (ask.Flushed m items)
    answered = legal.1.answered ∙ ap (answer_of site h e.at) ek

    ends : Ends site h m (item_jobs items.items)
    ends = ends_known site h m (item_jobs items.items) (flushed_known site h e.at m items e.answer answered legal.1.accepted).0

    live_first : (a b : Bool) → (a && not b) ≡ true → a ≡ true
    live_first true b x = refl
    live_first false b x = absurd (cc)

    point : (j : Job) → is_queued site (e ∷ h) way key j ≡ is_queued site h way key j
    point j =
        ap (λ (b : Bool). queued_by way key j b (claimer_of (e ∷ h) j) (key_of site (e ∷ h) j)) (flushed_live site h e m items j legal ek)
        ∙ ap (λ (o : Option ℕ). queued_by way key j (is_live_job site h j && not (has_job j (item_jobs items.items))) o (key_of site (e ∷ h) j)) (claimer_step site h e legal j ∙ ap (λ (k : Ask). claimer_after k e.answer j (claimer_of h j)) ek)
        ∙ key_or way key j (is_live_job site h j && not (has_job j (item_jobs items.items))) (if has_job j (item_jobs items.items) then None else claimer_of h j) (key_of site (e ∷ h) j) (key_of site h j) (λ both. flushed_key site h e m items j legal ek (live_first (is_live_job site h j) (has_job j (item_jobs items.items)) both))
        ∙ flushed_shift (is_live_job site h j) (has_job j (item_jobs items.items)) (same_direction way (direction_of j)) (is_number key (key_of site h j)) m (claimer_of h j) (λ there. named_claimed site h m (item_jobs items.items) j legal.0 ends there)
