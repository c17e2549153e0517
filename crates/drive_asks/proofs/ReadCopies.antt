-- The copies of a file that repacks are READING, as a history has them.
use Rattle.std.proofs.Common.{◌≡◌, ◌∙◌, ◌+◌, ◌≤◌, ◌<◌, ℕ, zero, suc, inl, inr, List, [], ◌∷◌, Bool, true, false, refl, sym, ap, subst, arith, length}
use Rattle.std.specs.Prelude.{Option, Some, None, ◌==◌, ◌&&◌, if◌then◌else◌, filter, map}
use Rattle.std.specs.List.{list_any, range_with_len}
use Rattle.std.proofs.lemmas.Bool.{and_from, and_parts, eqb-true, eq-eqb}
use Rattle.cta_site.specs.declared.site.Site.{Site}
use Rattle.cta_model.specs.declared.asks.Direction.{Direction}
use Rattle.cta_model.specs.declared.asks.Direction.TheVariants as direction
use Rattle.cta_model.specs.declared.asks.Job.{Job}
use Rattle.cta_model.specs.declared.reports.ItemState.{ItemState}
use Rattle.cta_model.specs.declared.reports.ItemState.TheVariants as item
use Rattle.cta_model.specs.declared.states.RepackCopy.{RepackCopy}
use Rattle.cta_model.specs.Files.{copies_of_file}
use Rattle.cta_model.specs.History.{History, entry_of, has_number}
use Rattle.cta_model.specs.Jobs.{is_live_job}
use Rattle.cta_model.specs.Legal.{IsLegal}
use Rattle.cta_model.specs.Mounts.{has_copy, has_job, job_of}
use Rattle.cta_model.specs.Queues.{is_queued, queue_of}
use Rattle.cta_model.specs.Recalls.{Recall, live_recall}
use Rattle.cta_model.specs.RepackItems.{is_repacked, items_in, waiting_for}
use Rattle.cta_model.specs.Repacks.{Repack}
use Rattle.cta_laws.specs.Repacks.{WaitsForRecall}
use Rattle.cta_laws.proofs.Bools.{same_bool}
use Rattle.cta_laws.proofs.Claims.{AllOf}
use Rattle.cta_laws.proofs.EndLaw.{live_before}
use Rattle.cta_laws.proofs.Ranges.{any_mono}
use Rattle.cta_laws.proofs.RepackLaw.{ItemHas, ItemStands, items_stand}
use Rattle.cta_laws.proofs.RepackedJobs.{read_item}
use Rattle.cta_laws.proofs.Tests.{bool_cases, or_cases, or_left, or_right}
use Rattle.part_model.specs.declared.jobs.Line.{Line}
use Rattle.part_model.specs.Queues.{Lines}
use Rattle.part_model.specs.Repacks.{Repacks, is_reading, reading_copies, repack_in}
use Rattle.part_laws.specs.Lines.{AreLines, line_of}
use Rattle.part_laws.proofs.Members.{queue_members}
use Rattle.part_laws.specs.Books.{AreRepacks}
use Rattle.job_queues.specs.Waiting.{jobs_of}
use Rattle.drive_asks.specs.Reading.{CanQueue, copies_read, is_read_by}
use Rattle.part_moves.proofs.NewJobs.{jobs_of_lines, lines_have}

-- ---- an item that is READING

copies_in : ℕ → List RepackCopy → List ℕ
copies_in f xs = map (λ (i : RepackCopy). i.copy) (filter (λ (i : RepackCopy). i.file == f && is_reading i.state) xs)

named_by : (site : Site) (h : History) (id f c : ℕ) (xs : List RepackCopy) → AllOf (ItemStands site h id) xs → has_number c (copies_in f xs) ≡ true → has_copy f c (items_in (entry_of h id)) ≡ true
unfolding copies_in
named_by site h id f c [] all e = absurd (cc)
named_by site h id f c (i ∷ xs) all e = by (i.file == f && is_reading i.state) refl (λ rest. named_by site h id f c xs all.1 rest) e
  where
    by : (b : Bool) → (i.file == f && is_reading i.state) ≡ b → (has_number c (map (λ (i : RepackCopy). i.copy) (filter (λ (i : RepackCopy). i.file == f && is_reading i.state) xs)) ≡ true → has_copy f c (items_in (entry_of h id)) ≡ true)
        → has_number c (map (λ (i : RepackCopy). i.copy) (if b then i ∷ filter (λ (i : RepackCopy). i.file == f && is_reading i.state) xs else filter (λ (i : RepackCopy). i.file == f && is_reading i.state) xs)) ≡ true → has_copy f c (items_in (entry_of h id)) ≡ true
    by true is rest on =
        elim (or_cases (c == i.copy) _ on) [
          | inl hit ↦
              (let file : i.file ≡ f = eqb-true i.file f (and_parts (i.file == f) (is_reading i.state) is).0 in
              let copy : c ≡ i.copy = eqb-true c i.copy hit in
              subst (λ (d : ℕ). has_copy f d (items_in (entry_of h id)) ≡ true) (sym copy) (subst (λ (g : ℕ). has_copy g i.copy (items_in (entry_of h id)) ≡ true) file all.0.named))
          | inr more ↦ rest more
        ]
    by false is rest on = rest on

read_named : (site : Site) (h : History) (v : Repacks) (id f c : ℕ) → IsLegal site h → AreRepacks site h v → has_number c (reading_copies f (repack_in v id)) ≡ true → has_copy f c (items_in (entry_of h id)) ≡ true
unfolding copies_in
read_named site h v id f c legal are e = by (repack_in v id) refl e
  where
    by : (o : Option Repack) → repack_in v id ≡ o → has_number c (reading_copies f o) ≡ true → has_copy f c (items_in (entry_of h id)) ≡ true
    by None is on = absurd (cc)
    by (Some r) is on = named_by site h id f c r.items (items_stand site h legal id r (sym (are id) ∙ is)) on

waits_by : (site : Site) (h : History) (id f c : ℕ) (s : ItemState) → ItemHas site h id f c s → is_reading s ≡ true → WaitsForRecall site h id f
waits_by site h id f c item.Reading has on = has
waits_by site h id f c item.Writing has on = absurd (cc)
waits_by site h id f c item.Done has on = absurd (cc)
waits_by site h id f c item.Failed has on = absurd (cc)
waits_by site h id f c item.Gone has on = absurd (cc)

reading_item : (site : Site) (h : History) (id f c : ℕ) (xs : List RepackCopy) → AllOf (ItemStands site h id) xs → list_any (λ (i : RepackCopy). (i.file == f) && ((i.copy == c) && is_reading i.state)) xs ≡ true
    → (has_number c (copies_in f xs) ≡ true) × (has_number id (waiting_for (live_recall site h f)) ≡ true)
unfolding copies_in
reading_item site h id f c [] all e = absurd (cc)
reading_item site h id f c (i ∷ xs) all e =
    elim (or_cases ((i.file == f) && ((i.copy == c) && is_reading i.state)) _ e) [
      | inl hit ↦
          (let p = and_parts (i.file == f) _ hit in
          let q = and_parts (i.copy == c) _ p.1 in
          let file : i.file ≡ f = eqb-true i.file f p.0 in
          let copy : i.copy ≡ c = eqb-true i.copy c q.0 in
          let w : WaitsForRecall site h id i.file = waits_by site h id i.file i.copy i.state all.0.has q.1 in
          (here (i.file == f && is_reading i.state) (and_from _ _ p.0 q.1) (eq-eqb c i.copy (sym copy)), subst (λ (g : ℕ). has_number id (waiting_for (live_recall site h g)) ≡ true) file (ap (λ (o : Option Recall). has_number id (waiting_for o)) w.1 ∙ w.2)))
      | inr rest ↦ (let r = reading_item site h id f c xs all.1 rest in (more (i.file == f && is_reading i.state) r.0, r.1))
    ]
  where
    here : (b : Bool) → b ≡ true → (c == i.copy) ≡ true → has_number c (map (λ (i : RepackCopy). i.copy) (if b then i ∷ filter (λ (i : RepackCopy). i.file == f && is_reading i.state) xs else filter (λ (i : RepackCopy). i.file == f && is_reading i.state) xs)) ≡ true
    here true is hit = or_left (c == i.copy) _ hit
    here false is hit = absurd (cc)

    more : (b : Bool) → has_number c (map (λ (i : RepackCopy). i.copy) (filter (λ (i : RepackCopy). i.file == f && is_reading i.state) xs)) ≡ true
        → has_number c (map (λ (i : RepackCopy). i.copy) (if b then i ∷ filter (λ (i : RepackCopy). i.file == f && is_reading i.state) xs else filter (λ (i : RepackCopy). i.file == f && is_reading i.state) xs)) ≡ true
    more true x = or_right (c == i.copy) _ x
    more false x = x

any_there : (p : ℕ → Bool) (id : ℕ) (ids : List ℕ) → has_number id ids ≡ true → p id ≡ true → list_any p ids ≡ true
any_there p id [] there on = absurd (cc)
any_there p id (k ∷ ids) there on =
    elim (or_cases (id == k) _ there) [
      | inl hit ↦ or_left (p k) _ (subst (λ (n : ℕ). p n ≡ true) (eqb-true id k hit) on)
      | inr rest ↦ or_right (p k) _ (any_there p id ids rest on)
    ]

copy_told : (site : Site) (h : History) (v : Repacks) (ids : List ℕ) (f c : ℕ) → IsLegal site h → AreRepacks site h v → ids ≡ waiting_for (live_recall site h f) → is_read_by v ids f (suc c) ≡ is_repacked site h f (suc c)
unfolding copies_in
copy_told site h v ids f c legal are is = same_bool (is_read_by v ids f (suc c)) (is_repacked site h f (suc c)) there back
  where
    there : is_read_by v ids f (suc c) ≡ true → is_repacked site h f (suc c) ≡ true
    there e =
        any_mono (λ id. has_number (suc c) (reading_copies f (repack_in v id))) (λ id. has_copy f (suc c) (items_in (entry_of h id))) (waiting_for (live_recall site h f)) (λ id on. read_named site h v id f (suc c) legal are on)
        (subst (λ (ns : List ℕ). list_any (λ id. has_number (suc c) (reading_copies f (repack_in v id))) ns ≡ true) is e)

    back : is_repacked site h f (suc c) ≡ true → is_read_by v ids f (suc c) ≡ true
    back e =
        (let x = read_item site h legal f c e in
        let both = reading_item site h x.0 f (suc c) x.3.repack.items (items_stand site h legal x.0 x.3.repack x.3.is) x.3.there in
        let reads : has_number (suc c) (reading_copies f (repack_in v x.0)) ≡ true = ap (λ (o : Option Repack). has_number (suc c) (reading_copies f o)) (are x.0 ∙ x.3.is) ∙ both.0 in
        any_there (λ id. has_number (suc c) (reading_copies f (repack_in v id))) x.0 ids (subst (λ (ns : List ℕ). has_number x.0 ns ≡ true) (sym is) both.1) reads)

range_same : (p q : ℕ → Bool) → ((c : ℕ) → p (suc c) ≡ q (suc c)) → (n a : ℕ) → 1 ≤ a → filter p (range_with_len a n) ≡ filter q (range_with_len a n)
range_same p q same zero a low = refl
range_same p q same (suc n) zero low = absurd (omega arith)
range_same p q same (suc n) (suc a) low = rw (same a, range_same p q same n (suc a + 1) (omega arith)) refl

-- the copies that the repacks which wait are READING are those that have to be written again
pub copies_are : (site : Site) (h : History) (v : Repacks) (ids : List ℕ) (f n : ℕ) → IsLegal site h → AreRepacks site h v → ids ≡ waiting_for (live_recall site h f) → copies_read v ids f n ≡ filter (is_repacked site h f) (range_with_len 1 n)
copies_are site h v ids f n legal are is = range_same (is_read_by v ids f) (is_repacked site h f) (λ c. copy_told site h v ids f c legal are is) n 1 (omega arith)

-- ---- copies of a range

pub few_read : (test : ℕ → Bool) (n a : ℕ) → length (filter test (range_with_len a n)) ≤ n
few_read test zero a = omega arith
few_read test (suc n) a =
    elim (test a) as (λ b. length (if b then a ∷ filter test (range_with_len (a + 1) n) else filter test (range_with_len (a + 1) n)) ≤ suc n) [ true ↦ omega (arith, few_read test n (a + 1)) | false ↦ omega (arith, few_read test n (a + 1)) ]

lower_lacks : (test : ℕ → Bool) (n a c : ℕ) → c < a → has_number c (filter test (range_with_len a n)) ≡ false
lower_lacks test zero a c low = refl
lower_lacks test (suc n) a c low =
    let rest : has_number c (filter test (range_with_len (a + 1) n)) ≡ false = lower_lacks test n (a + 1) c (omega arith) in
    let other : (c == a) ≡ false = grind arith in
    elim (test a) as (λ b. has_number c (if b then a ∷ filter test (range_with_len (a + 1) n) else filter test (range_with_len (a + 1) n)) ≡ false) [ true ↦ rw other rest | false ↦ rest ]

-- copies of a range can be queued where none is in a queue
pub can_queue : (site : Site) (g : History) (lines : Lines) (b f : ℕ) (test : ℕ → Bool) → ((c k : ℕ) → has_job (job_of b f c) (jobs_of (lines k)) ≡ false) → (n a : ℕ) → 1 ≤ a → a + n ≤ copies_of_file site g f + 1
    → CanQueue site g lines b f (filter test (range_with_len a n))
can_queue site g lines b f test lacks zero a low high = tt
can_queue site g lines b f test lacks (suc n) a low high =
    let rest : CanQueue site g lines b f (filter test (range_with_len (a + 1) n)) = can_queue site g lines b f test lacks n (a + 1) (omega arith) (omega arith) in
    let fits : a ≤ copies_of_file site g f = omega arith in
    let apart : has_number a (filter test (range_with_len (a + 1) n)) ≡ false = lower_lacks test n (a + 1) a (omega arith) in
    elim (test a) as (λ t. CanQueue site g lines b f (if t then a ∷ filter test (range_with_len (a + 1) n) else filter test (range_with_len (a + 1) n))) [
      | true ↦ (low, fits, λ k. lacks a k, apart, rest)
      | false ↦ rest
    ]

-- ---- jobs that are not born yet

not_born_yet : (site : Site) (h : History) (j : Job) → j.birth ≡ length h + 1 → is_live_job site h j ≡ false
not_born_yet site h j is =
    elim (bool_cases (is_live_job site h j)) [ inl live ↦ (let low : j.birth ≤ length h = live_before site h j live in absurd (omega (arith, low, is))) | inr dead ↦ dead ]

pub lacks_new : (site : Site) (h : History) (lines : Lines) (b f c k : ℕ) → IsLegal site h → AreLines site h direction.Archive lines → b ≡ length h + 1 → has_job (job_of b f c) (jobs_of (lines k)) ≡ false
lacks_new site h lines b f c k legal are is =
    let dead : is_live_job site h (job_of b f c) ≡ false = not_born_yet site h (job_of b f c) is in
    lines_have site h direction.Archive lines k (job_of b f c) legal are ∙ rw dead refl
