-- A queue has each live job once, and a file has at most five live jobs.
use Rattle.std.proofs.Common.{◌≡◌, ◌∙◌, ℕ, suc, ◌+◌, ◌*◌, ◌^◌, ◌≤◌, ◌<◌, inl, inr, List, [], ◌∷◌, true, false, refl, sym, ap, subst, arith, length}
use Rattle.std.specs.Prelude.{◌==◌, Option, Some, None, map}
use Rattle.std.proofs.lemmas.Bool.{and_parts, eqb-true}
use Rattle.cta_site.specs.declared.site.Site.{Site}
use Rattle.cta_site.specs.Laws.{ClassesAreKnown}
use Rattle.cta_site.specs.ValidSite.{IsValidSite}
use Rattle.cta_site.specs.WellFormed.{IsWellFormed}
use Rattle.cta_model.specs.declared.asks.Direction.{Direction}
use Rattle.cta_model.specs.declared.asks.Job.{Job}
use Rattle.cta_model.specs.History.{History, has_number, is_number}
use Rattle.cta_model.specs.Files.{path_of, size_of}
use Rattle.cta_model.specs.Jobs.{is_live_job, jobs_born, live_birth}
use Rattle.cta_model.specs.Queues.{is_queued, queue_bytes, queue_of}
use Rattle.cta_model.specs.Legal.{IsLegal}
use Rattle.cta_laws.proofs.Tests.{bool_cases}
use Rattle.cta_laws.proofs.Claims.{AllOf, all_mono, all_pass}
use Rattle.cta_laws.proofs.LengthLaw.{stays_short}
use Rattle.cta_laws.proofs.RangeLaw.{InRange, job_range}
use Rattle.cta_laws.proofs.Sums.{IsDistinct, total, total_is}
use Rattle.part_model.specs.declared.jobs.Line.{Line}
use Rattle.part_model.specs.Order.{ComesBefore, InOrder, goes_before}
use Rattle.part_laws.proofs.Members.{queue_order}
use Rattle.part_laws.specs.Lines.{line_of}
use Rattle.job_queues.specs.Waiting.{bytes_of}
use Rattle.part_laws.specs.Laws.{AreSmall, LinesAreSmall, QueuesAreSmall}
use Rattle.part_laws.proofs.Distinct.{few_below}
use Rattle.part_laws.proofs.FileSizes.{few_copies, files_fit_buffer}

-- ---- the jobs of a queue have different numbers

-- a number for each copy of each file
abbrev code : Job → ℕ
code j = 5 * j.file + j.copy

-- the job is live, of a file of the history, and of one of at most 5 copies
abbrev IsWaiting : Site → History → Job → Type 0
IsWaiting site h j = (is_live_job site h j ≡ true) × (j.file ≤ length h) × (j.copy ≤ 4)

same_number : (a b : ℕ) (o : Option ℕ) → is_number a o ≡ true → is_number b o ≡ true → a ≡ b
same_number a b None e f = absurd (cc)
same_number a b (Some m) e f = eqb-true a m e ∙ sym (eqb-true b m f)

one_copy : (site : Site) (h : History) (j k : Job) → is_live_job site h j ≡ true → is_live_job site h k ≡ true → j.file ≡ k.file → j.copy ≡ k.copy → j.birth ≡ k.birth
one_copy site h j k a b file copy =
    let at_file : is_number j.birth (live_birth site h k.file j.copy) ≡ true = subst (λ (f : ℕ). is_number j.birth (live_birth site h f j.copy) ≡ true) file a in
    let at_copy : is_number j.birth (live_birth site h k.file k.copy) ≡ true = subst (λ (c : ℕ). is_number j.birth (live_birth site h k.file c) ≡ true) copy at_file in
    same_number j.birth k.birth (live_birth site h k.file k.copy) at_copy b

never_before : (j k : Job) → j.birth ≡ k.birth → j.file ≡ k.file → j.copy ≡ k.copy → goes_before j k ≡ true → ⊥
never_before j k a b c e = grind arith

same_file : (f g c d : ℕ) → c ≤ 4 → d ≤ 4 → 5 * f + c ≡ 5 * g + d → f ≡ g
same_file f g c d low high e = omega arith

same_copy : (f g c d : ℕ) → f ≡ g → 5 * f + c ≡ 5 * g + d → c ≡ d
same_copy f g c d file e = omega arith

clash : (site : Site) (h : History) (j k : Job) → IsWaiting site h j → IsWaiting site h k → goes_before j k ≡ true → code j ≡ code k → ⊥
clash site h j k a b before same =
    let file : j.file ≡ k.file = same_file j.file k.file j.copy k.copy a.2 b.2 same in
    let copy : j.copy ≡ k.copy = same_copy j.file k.file j.copy k.copy file same in
    never_before j k (one_copy site h j k a.0 b.0 file copy) file copy before

new_code : (site : Site) (h : History) (j : Job) (q : List Job) → IsWaiting site h j → ComesBefore j q → AllOf (IsWaiting site h) q → has_number (code j) (map code q) ≡ false
new_code site h j [] a before all = refl
new_code site h j (k ∷ q) a before all =
    elim (bool_cases (code j == code k)) [
      | inl hit ↦ absurd (clash site h j k a all.0 before.0 (eqb-true (code j) (code k) hit))
      | inr miss ↦ rw miss (new_code site h j q a before.1 all.1)
    ]

codes_distinct : (site : Site) (h : History) (q : List Job) → InOrder q → AllOf (IsWaiting site h) q → IsDistinct (map code q)
codes_distinct site h [] order all = tt
codes_distinct site h (j ∷ q) order all = (new_code site h j q all.0 order.0 all.1, codes_distinct site h q order.1 all.1)

low_code : (n f c : ℕ) → f ≤ n → c ≤ 4 → 5 * f + c < 5 * n + 5
low_code n f c a b = omega arith

codes_low : (site : Site) (h : History) (q : List Job) → AllOf (IsWaiting site h) q → AllOf (λ m. m < 5 * length h + 5) (map code q)
codes_low site h [] all = tt
codes_low site h (j ∷ q) all = (low_code (length h) j.file j.copy all.0.1 all.0.2, codes_low site h q all.1)

code_for_each : (q : List Job) → length (map code q) ≡ length q
code_for_each [] = refl
code_for_each (j ∷ q) = ap suc (code_for_each q)

-- ---- how many there are

queue_waits : (site : Site) (h : History) → ClassesAreKnown site → IsLegal site h → (way : Direction) (key : ℕ) → AllOf (IsWaiting site h) (queue_of site h way key)
queue_waits site h known legal way key =
    all_mono (λ j. is_queued site h way key j ≡ true) (IsWaiting site h) (queue_of site h way key) (λ j queued. waits j (and_parts (is_live_job site h j) _ queued).0) (all_pass (is_queued site h way key) (jobs_born site h))
  where
    waits : (j : Job) → is_live_job site h j ≡ true → IsWaiting site h j
    waits j live =
        let range : InRange site h j = job_range site h legal j live in
        let few = few_copies site known (path_of h j.file) in
        let most = range.2 in
        (live, range.1, omega arith)

queue_short : (site : Site) (h : History) → ClassesAreKnown site → IsLegal site h → (way : Direction) (key : ℕ) → length (queue_of site h way key) ≤ 5 * length h + 5
queue_short site h known legal way key =
    let all = queue_waits site h known legal way key in
    let few : length (map code (queue_of site h way key)) ≤ 5 * length h + 5 = few_below (5 * length h + 5) (map code (queue_of site h way key)) (codes_distinct site h (queue_of site h way key) (queue_order site h way key) all) (codes_low site h (queue_of site h way key) all) in
    omega (arith, code_for_each (queue_of site h way key))

-- ---- how many bytes they have

abbrev file_size : History → Job → ℕ
file_size h j = size_of h j.file

bytes_by_count : (h : History) (q : List Job) → ((f : ℕ) → size_of h f ≤ 2147483648) → total (file_size h) q ≤ 2147483648 * length q
unfolding total
bytes_by_count h [] small = omega arith
bytes_by_count h (j ∷ q) small = omega (arith, small j.file, bytes_by_count h q small)

small_size : (size buffer : ℕ) → size ≤ buffer → buffer ≤ 2147483648 → size ≤ 2147483648
small_size size buffer a b = omega arith

product : (bytes count length history : ℕ) → bytes ≤ 2147483648 * count → count ≤ 5 * length + 5 → length ≤ 2 * history → history ≤ 1000000 → bytes ≤ 36028797018963968
product bytes count length history a b c d = omega arith

one_more : (bytes len buffer : ℕ) → bytes ≤ 36028797018963968 → len ≤ buffer → buffer ≤ 2147483648 → bytes + len < 2 ^ 64
one_more bytes len buffer a b c = omega arith

queue_total : (site : Site) (h : History) → ClassesAreKnown site → IsWellFormed site → IsLegal site h → (way : Direction) (key : ℕ) → total (file_size h) (queue_of site h way key) ≤ 36028797018963968
queue_total site h known formed legal way key =
    product (total (file_size h) (queue_of site h way key)) (length (queue_of site h way key)) (length h) site.limits.history
    (bytes_by_count h (queue_of site h way key) (λ f. small_size (size_of h f) site.limits.buffer (files_fit_buffer site h legal f) formed.limits.buffer_to))
    (queue_short site h known legal way key) (stays_short site h legal) formed.limits.history_to

are_small : (site : Site) (bytes all : ℕ) → IsWellFormed site → bytes ≡ all → all ≤ 36028797018963968 → AreSmall site bytes
are_small site bytes all formed is low =
    let bound : bytes ≤ 36028797018963968 = subst (λ (n : ℕ). n ≤ 36028797018963968) (sym is) low in
    record { low = bound; fits = λ len fit. one_more bytes len site.limits.buffer bound fit formed.limits.buffer_to }

lines_total : (site : Site) (h : History) (way : Direction) (q : List Job) → total (λ (l : Line). l.len) (map (line_of site h way) q) ≡ total (file_size h) q
unfolding total
lines_total site h way [] = refl
lines_total site h way (j ∷ q) = ap (λ (n : ℕ). size_of h j.file + n) (lines_total site h way q)

module _ (known : (site : Site) → IsValidSite site → ClassesAreKnown site) (formed : (site : Site) → IsValidSite site → IsWellFormed site) where
  pub queues_are_small : QueuesAreSmall
  queues_are_small site h valid legal way key =
      are_small site (queue_bytes h (queue_of site h way key)) (total (file_size h) (queue_of site h way key)) (formed site valid) (total_is (file_size h) (queue_of site h way key)) (queue_total site h (known site valid) (formed site valid) legal way key)

  pub lines_are_small : LinesAreSmall
  lines_are_small site h way lines valid legal are key =
      are_small site (bytes_of (lines key)) (total (file_size h) (queue_of site h way key)) (formed site valid)
      (total_is (λ (l : Line). l.len) (lines key) ∙ ap (total (λ (l : Line). l.len)) (are key) ∙ lines_total site h way (queue_of site h way key))
      (queue_total site h (known site valid) (formed site valid) legal way key)
