-- A file has at most one place on a tape, since its copies are routed to different pools.
use Rattle.std.proofs.Common.{◌≡◌, ℕ, zero, suc, ◌+◌, ◌-◌, ◌≤◌, inl, inr, List, [], ◌∷◌, Bool, true, false, ◌&&◌, refl, sym, ap, subst, arith, length, ◌∙◌}
use Rattle.std.specs.Prelude.{Option, Some, None, option_map, is_none, is_some, if◌then◌else◌, ◌==◌, map, zip}
use Rattle.std.specs.List.{list_any}
use Rattle.std.proofs.lemmas.Bool.{and_parts, eqb-true}
use Rattle.cta_site.specs.declared.site.Site.{Site}
use Rattle.cta_site.specs.Listed.{Listed}
use Rattle.cta_site.specs.Lookups.{capacity_of, pool_of_tape, class_of, pool_of, copies_of, copies_of_class, HasRoute}
use Rattle.cta_site.specs.Laws.{ClassesAreKnown, CopiesAreRouted, RoutesGoApart}
use Rattle.cta_site.specs.ValidSite.{IsValidSite}
use Rattle.cta_model.specs.declared.entries.Entry.{Entry}
use Rattle.cta_model.specs.declared.asks.Ask.{Ask}
use Rattle.cta_model.specs.declared.asks.Ask.TheVariants as ask
use Rattle.cta_model.specs.declared.asks.Direction.{Direction}
use Rattle.cta_model.specs.declared.asks.Direction.TheVariants as direction
use Rattle.cta_model.specs.declared.asks.Item.{Item}
use Rattle.cta_model.specs.declared.asks.Job.{Job}
use Rattle.cta_model.specs.declared.answers.Answer.{Answer}
use Rattle.cta_model.specs.declared.answers.Answer.TheVariants as answer
use Rattle.cta_model.specs.declared.states.Mount.{Mount}
use Rattle.cta_model.specs.declared.states.Place.{Place}
use Rattle.cta_model.specs.History.{History, moment_of, is_number}
use Rattle.cta_model.specs.Files.{path_of, copies_of_file}
use Rattle.cta_model.specs.Mounts.{mount_of, tape_by, tape_of_mount, asked_mount, last_batch, batch_in, batch_or, same_direction, same_job, claimer_of, job_of}
use Rattle.cta_model.specs.Tapes.{next_fseq, used_bytes}
use Rattle.cta_model.specs.Places.{place_of, place_after, last_flushed, fseq_after, flushed_in, is_copy_of, is_done}
use Rattle.cta_model.specs.Jobs.{is_live_job, jobs_born}
use Rattle.cta_model.specs.Queues.{queue_of, is_queued, direction_of, way_by, key_of, key_by, pool_of_job}
use Rattle.cta_model.specs.Batches.{taken_of, written_items, batch_by, batch_of}
use Rattle.cta_model.specs.Answers.{answer_of, is_accepted, is_last_batch, same_items, same_item, fate_of}
use Rattle.cta_model.specs.Legal.{IsLegal, IsFit, IsMountOf}
use Rattle.cta_laws.specs.Asks.{AnswerIs}
use Rattle.cta_laws.specs.Places.{OnePlaceOnTape}
use Rattle.cta_laws.proofs.Tests.{bool_cases, or_cases}
use Rattle.cta_laws.proofs.Claims.{AllOf, OfJob, ItemBelow, IsBatch, all_mono, all_pass, claim_is_batch, taken_all, written_all, last_below, last_step}
use Rattle.cta_laws.proofs.Sums.{both}
use Rattle.cta_laws.proofs.OpenMounts.{mount_older}
use Rattle.cta_laws.proofs.FseqLaw.{claim_older, last_older, mount_there, way_of}
use Rattle.cta_laws.proofs.PlaceLaw.{flushed_known, live_place, place_cases, entry_below, flushed_below, path_older}
use Rattle.cta_laws.proofs.FlushedLaw.{flushed_done}
use Rattle.cta_laws.proofs.RangeLaw.{flushed_in_range}
use Rattle.cta_laws.proofs.OnceLaw.{same_job_eq}
use Rattle.cta_laws.proofs.Accepted.{answer_is}

-- ---- what is written on a tape is routed to its pool

-- an archive job whose copy is routed to this pool
abbrev IsRouted : Site → History → ℕ → Job → Type 0
IsRouted site h pool j = (1 ≤ j.copy) × (pool_of_job site h j ≡ Some pool)

some_number : (n : ℕ) (o : Option ℕ) → is_number n o ≡ true → o ≡ Some n
some_number n None e = absurd (cc)
some_number n (Some m) e = ap (λ (k : ℕ). Some k) (sym (eqb-true n m e))

routed_by : (site : Site) (h : History) (pool : ℕ) (j : Job) (c : ℕ) → j.copy ≡ c → same_direction direction.Archive (way_by c) ≡ true → is_number pool (key_by c site h j) ≡ true → IsRouted site h pool j
routed_by site h pool j zero is way key = absurd (cc)
routed_by site h pool j (suc c) is way key = (omega arith, some_number pool (pool_of_job site h j) key)

queued_routed : (site : Site) (h : History) (pool : ℕ) (j : Job) → is_queued site h direction.Archive pool j ≡ true → IsRouted site h pool j
queued_routed site h pool j e =
    let a = and_parts (is_live_job site h j) _ e in
    let b = and_parts (same_direction direction.Archive (direction_of j)) _ a.1 in
    routed_by site h pool j j.copy refl b.0 (and_parts (is_none (claimer_of h j)) _ b.1).1

batch_routed : (site : Site) (h : History) (t : ℕ) (way : Direction) (v : ℕ) → way ≡ direction.Archive → AllOf (OfJob (IsRouted site h (pool_of_tape site v))) (batch_by site h t way v)
batch_routed site h t direction.Archive v e =
    written_all (IsRouted site h (pool_of_tape site v)) h (next_fseq h v) (taken_of h site.limits.batch_files (capacity_of site v - used_bytes h v) (queue_of site h direction.Archive (pool_of_tape site v)))
    (taken_all (IsRouted site h (pool_of_tape site v)) h site.limits.batch_files (capacity_of site v - used_bytes h v) (queue_of site h direction.Archive (pool_of_tape site v))
    (all_mono (λ j. is_queued site h direction.Archive (pool_of_tape site v) j ≡ true) (IsRouted site h (pool_of_tape site v)) (queue_of site h direction.Archive (pool_of_tape site v)) (λ j q. queued_routed site h (pool_of_tape site v) j q) (all_pass (is_queued site h direction.Archive (pool_of_tape site v)) (jobs_born site h))))
batch_routed site h t direction.Retrieve v e = absurd (cc)

routed_older : (site : Site) (e : Entry) (h : History) (pool : ℕ) (j : Job) → j.file ≤ length h → IsRouted site h pool j → IsRouted site (e ∷ h) pool j
routed_older site e h pool j low r = (r.0, ap (λ (p : List ℕ). option_map (λ class. pool_of site class j.copy) (class_of site p)) (path_older e h j.file low) ∙ r.1)

-- an item of a writing mount's last Claim: of a file of the history, and routed to the pool of the mount's tape
abbrev IsForTape : Site → History → ℕ → Item → Type 0
IsForTape site h v i = IsRouted site h (pool_of_tape site v) i.job × (i.job.file ≤ length h)

for_older : (site : Site) (e : Entry) (h : History) (v : ℕ) (items : List Item) → AllOf (IsForTape site h v) items → AllOf (IsForTape site (e ∷ h) v) items
for_older site e h v items all = all_mono (IsForTape site h v) (IsForTape site (e ∷ h) v) items (λ i p. (let low : i.job.file ≤ length h = p.1 in (routed_older site e h (pool_of_tape site v) i.job low p.0, omega arith))) all

claim_step : (site : Site) (h : History) → IsLegal site h → (t m : ℕ) (k : Ask) (a : Answer) (o : Option (List Item)) (items : List Item) → a ≡ answer_of site h t k → IsMountOf direction.Archive (mount_of h m) → ((xs : List Item) → o ≡ Some xs → AllOf (OfJob (IsRouted site h (pool_of_tape site (tape_of_mount h m)))) xs) → batch_or (batch_in k a m) o ≡ Some items → AllOf (OfJob (IsRouted site h (pool_of_tape site (tape_of_mount h m)))) items
claim_step site h legal t m (ask.Claim k) (answer.Batch xs evicted) o items is way older =
    elim (bool_cases (k == m)) [
      | inl hit ↦ λ e.
          (let got : Some xs.items ≡ Some items = rw hit at e in
          let same : xs.items ≡ items = cc in
          let mount : k ≡ m = eqb-true k m hit in
          let b : IsBatch site h (moment_of h t) (mount_of h k) xs.items = claim_is_batch site h t k xs evicted is in
          let there : mount_of h m ≡ Some b.0 = subst (λ (u : ℕ). mount_of h u ≡ Some b.0) mount b.1 in
          let tape : tape_of_mount h m ≡ b.0.tape = ap tape_by there in
          let all : AllOf (OfJob (IsRouted site h (pool_of_tape site b.0.tape))) (batch_of site h (moment_of h t) b.0) = batch_routed site h (moment_of h t) b.0.direction b.0.tape (way_of (mount_of h m) b.0 there way) in
          subst (λ (ys : List Item). AllOf (OfJob (IsRouted site h (pool_of_tape site (tape_of_mount h m)))) ys) (sym b.2 ∙ same) (subst (λ (v : ℕ). AllOf (OfJob (IsRouted site h (pool_of_tape site v))) (batch_of site h (moment_of h t) b.0)) (sym tape) all))
      | inr miss ↦ λ e. older items (rw miss at e)
    ]
claim_step site h legal t m _ a o items is way older = λ e. older items e

last_routed : (site : Site) (h : History) → IsLegal site h → (m : ℕ) (items : List Item) → IsMountOf direction.Archive (mount_of h m) → last_batch h m ≡ Some items → AllOf (IsForTape site h (tape_of_mount h m)) items
last_routed site [] legal m items way is = absurd (cc)
last_routed site (e ∷ h) legal m items way is =
    let low : m ≤ length h = claim_older site h e.at m e.ask e.answer (last_batch h m) items legal.1.answered (λ q. last_older site h legal.0 m items q) is in
    let older : mount_of (e ∷ h) m ≡ mount_of h m = mount_older e h m low in
    let way' : IsMountOf direction.Archive (mount_of h m) = subst (λ (p : Option Mount). IsMountOf direction.Archive p) older way in
    let tape : tape_of_mount (e ∷ h) m ≡ tape_of_mount h m = ap tape_by older in
    let routed : AllOf (OfJob (IsRouted site h (pool_of_tape site (tape_of_mount h m)))) items =
    claim_step site h legal.0 e.at m e.ask e.answer (last_batch h m) items legal.1.answered way' (λ xs q. firsts xs (last_routed site h legal.0 m xs way' q)) is in
    let below : AllOf (ItemBelow (length h)) items = last_step site h e.at m e.ask e.answer (last_batch h m) items legal.1.answered (λ xs q. last_below site h legal.0 m xs q) is in
    subst (λ (v : ℕ). AllOf (IsForTape site (e ∷ h) v) items) (sym tape)
    (for_older site e h (tape_of_mount h m) items (both (OfJob (IsRouted site h (pool_of_tape site (tape_of_mount h m)))) (ItemBelow (length h)) items routed below))
  where
    firsts : (xs : List Item) → AllOf (IsForTape site h (tape_of_mount h m)) xs → AllOf (OfJob (IsRouted site h (pool_of_tape site (tape_of_mount h m)))) xs
    firsts xs all = all_mono (IsForTape site h (tape_of_mount h m)) (OfJob (IsRouted site h (pool_of_tape site (tape_of_mount h m)))) xs (λ i p. p.0) all

-- ---- where a copy was flushed

done_has : (P : Job → Type 0) (site : Site) (h : History) (f c : ℕ) (items : List Item) → AllOf (OfJob P) items → list_any (is_copy_of f c) (zip items (map (λ (i : Item). fate_of site h i.job) items)) ≡ true → (j : Job) × P j × (j.file ≡ f) × (j.copy ≡ c)
done_has P site h f c [] all e = absurd (cc)
done_has P site h f c (i ∷ items) all e =
    elim (or_cases (is_copy_of f c (i, fate_of site h i.job)) _ e) [
      | inl hit ↦
          (let parts = and_parts (is_done (fate_of site h i.job)) _ hit in
          let files = and_parts (i.job.file == f) (i.job.copy == c) parts.1 in
          (i.job, all.0, eqb-true _ _ files.0, eqb-true _ _ files.1))
      | inr rest ↦ done_has P site h f c items all.1 rest
    ]

same_for : (P : Job → Type 0) (xs ys : List Item) → same_items xs ys ≡ true → AllOf (OfJob P) ys → AllOf (OfJob P) xs
same_for P [] [] e all = tt
same_for P [] (y ∷ ys) e all = absurd (cc)
same_for P (x ∷ xs) [] e all = absurd (cc)
same_for P (x ∷ xs) (y ∷ ys) e all =
    let p = and_parts (same_item x y) _ e in
    let job : x.job ≡ y.job = same_job_eq x.job y.job (and_parts (same_job x.job y.job) _ p.0).0 in
    (subst P (sym job) all.0, same_for P xs ys p.1 all.1)

named_routed : (site : Site) (h : History) → IsLegal site h → (m : ℕ) (items : List Item) (o : Option (List Item)) → last_batch h m ≡ o → IsMountOf direction.Archive (mount_of h m) → is_last_batch o items ≡ true → AllOf (OfJob (IsRouted site h (pool_of_tape site (tape_of_mount h m)))) items
named_routed site h legal m items None last way e = absurd (cc)
named_routed site h legal m items (Some xs) last way e =
    same_for (IsRouted site h (pool_of_tape site (tape_of_mount h m))) items xs e
    (all_mono (IsForTape site h (tape_of_mount h m)) (OfJob (IsRouted site h (pool_of_tape site (tape_of_mount h m)))) xs (λ i p. p.0) (last_routed site h legal m xs way last))

told_routed : (site : Site) (h : History) (e : Entry) → IsLegal site (e ∷ h) → (f c s : ℕ) (k : Ask) (a : Answer) → e.ask ≡ k → e.answer ≡ a → fseq_after (flushed_in k a) f c None ≡ Some s → IsRouted site h (pool_of_tape site (tape_of_mount h (asked_mount k))) (job_of 0 f c)
told_routed site h e legal f c s (ask.Flushed m items) a ek ea there =
    let answered : a ≡ answer_of site h e.at (ask.Flushed m items) = sym ea ∙ legal.1.answered ∙ ap (answer_of site h e.at) ek in
    let accepted : is_accepted a ≡ true = ap is_accepted (sym ea) ∙ legal.1.accepted in
    let is : AnswerIs site h (moment_of h e.at) (ask.Flushed m items) a = answer_is site h e.at (ask.Flushed m items) a answered accepted in
    let told : fseq_after (zip items.items (map (λ (i : Item). fate_of site h i.job) items.items)) f c None ≡ Some s = subst (λ (x : Answer). fseq_after (flushed_in (ask.Flushed m items) x) f c None ≡ Some s) is there in
    let known = flushed_known site h e.at m items a answered accepted in
    let way : IsMountOf direction.Archive (mount_of h m) = subst (λ (x : Ask). IsFit site h x) ek legal.1.fit in
    let j = done_has (IsRouted site h (pool_of_tape site (tape_of_mount h m))) site h f c items.items (named_routed site h legal.0 m items.items (last_batch h m) refl way known.1) (flushed_done (zip items.items (map (λ (i : Item). fate_of site h i.job) items.items)) f c (ap is_some told)) in
    let range : 1 ≤ c = subst (λ (n : ℕ). 1 ≤ n) j.3 j.1.0 in
    let pool : pool_of_job site h (job_of 0 f c) ≡ Some (pool_of_tape site (tape_of_mount h m)) = ap (λ (n : ℕ). pool_of_job site h (job_of 0 f n)) (sym j.3) ∙ ap (λ (n : ℕ). pool_of_job site h (job_of 0 n j.0.copy)) (sym j.2) ∙ j.1.1 in
    (range, pool)
told_routed site h e legal f c s _ a ek ea there = absurd (cc)

flushed_routed : (site : Site) (h : History) → IsLegal site h → (f c : ℕ) (p : Place) → last_flushed h f c ≡ Some p → IsRouted site h (pool_of_tape site p.tape) (job_of 0 f c)
flushed_routed site [] legal f c p is = absurd (cc)
flushed_routed site (e ∷ h) legal f c p is =
    elim (place_cases c (tape_of_mount h (asked_mount e.ask)) (fseq_after (flushed_in e.ask e.answer) f c None) (last_flushed h f c) p is) [
      | inl new ↦
          routed_older site e h (pool_of_tape site p.tape) (job_of 0 f c) (entry_below site h legal.0 e.at f c e.ask e.answer p.fseq legal.1.answered new.0)
          (subst (λ (v : ℕ). IsRouted site h (pool_of_tape site v) (job_of 0 f c)) new.1 (told_routed site h e legal f c p.fseq e.ask e.answer refl refl new.0))
      | inr old ↦ routed_older site e h (pool_of_tape site p.tape) (job_of 0 f c) (flushed_below site h legal.0 f c p old.1) (flushed_routed site h legal.0 f c p old.1)
    ]

-- ---- the law

pools_same : (site : Site) (o : Option ℕ) (c d pool : ℕ) → option_map (λ class. pool_of site class c) o ≡ Some pool → option_map (λ class. pool_of site class d) o ≡ Some pool → (class : ℕ) × (o ≡ Some class) × (pool_of site class c ≡ pool_of site class d)
pools_same site None c d pool a b = absurd (cc)
pools_same site (Some class) c d pool a b = (class, refl, (let x : pool_of site class c ≡ pool = cc in let y : pool_of site class d ≡ pool = cc in x ∙ sym y))

pub one_place_on_tape : ((site : Site) → IsValidSite site → ClassesAreKnown site) → ((site : Site) → IsValidSite site → CopiesAreRouted site) → ((site : Site) → IsValidSite site → RoutesGoApart site) → OnePlaceOnTape
one_place_on_tape classes routed apart site h valid legal f c d p q fp fq tape =
    let a : IsRouted site h (pool_of_tape site p.tape) (job_of 0 f c) = flushed_routed site h legal f c p (live_place h f c p fp).1 in
    let b : IsRouted site h (pool_of_tape site q.tape) (job_of 0 f d) = flushed_routed site h legal f d q (live_place h f d q fq).1 in
    let rc = flushed_in_range site h legal f c p (live_place h f c p fp).1 in
    let rd = flushed_in_range site h legal f d q (live_place h f d q fq).1 in
    let k = pools_same site (class_of site (path_of h f)) c d (pool_of_tape site p.tape) a.1 (b.1 ∙ ap (λ (v : ℕ). Some (pool_of_tape site v)) (sym tape)) in
    let known = classes site valid (path_of h f) k.0 k.1 in
    let cs : c ≤ copies_of_class site (Some k.0) = subst (λ (o : Option ℕ). c ≤ copies_of_class site o) k.1 rc.2 in
    let ds : d ≤ copies_of_class site (Some k.0) = subst (λ (o : Option ℕ). d ≤ copies_of_class site o) k.1 rd.2 in
    apart site valid k.0 c d (routed site valid k.0 c known.0 a.0 cs).0 (routed site valid k.0 d known.0 b.0 ds).0 k.2
