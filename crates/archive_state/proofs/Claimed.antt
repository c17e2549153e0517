-- What a mount claims, told by the parts.
use Rattle.std.proofs.Common.{◌≡◌, ◌≢◌, ◌∙◌, ℕ, zero, suc, ◌+◌, ◌<◌, ◌≤◌, inl, inr, List, [], ◌∷◌, ◌++◌, Bool, true, false, ◌&&◌, not, refl, sym, ap, subst, arith, length}
use Rattle.std.specs.Prelude.{Option, Some, None, option_map, if◌then◌else◌, ◌==◌, find, get_or}
use Rattle.std.specs.List.{list_all, list_any}
use Rattle.std.proofs.lemmas.Bool.{and_parts, eq-eqb}
use Rattle.cta_site.specs.declared.site.Site.{Site}
use Rattle.cta_model.specs.declared.answers.Answer.{Answer}
use Rattle.cta_model.specs.declared.answers.Answer.TheVariants as answer
use Rattle.cta_model.specs.declared.asks.Ask.{Ask}
use Rattle.cta_model.specs.declared.asks.Ask.TheVariants as ask
use Rattle.cta_model.specs.declared.asks.Direction.{Direction}
use Rattle.cta_model.specs.declared.asks.Item.{Item}
use Rattle.cta_model.specs.declared.asks.Job.{Job}
use Rattle.cta_model.specs.declared.states.Mount.{Mount}
use Rattle.cta_model.specs.Answers.{claims_all, is_known, is_last_batch, names_twice, same_item, same_items}
use Rattle.cta_model.specs.History.{History, is_empty, is_number}
use Rattle.cta_model.specs.Legal.{IsLegal}
use Rattle.cta_model.specs.Mounts.{batch_in, batch_or, claimed_after, claimed_items, claimer_of, claims, has_job, is_open, item_jobs, last_batch, mount_of, same_job}
use Rattle.cta_laws.specs.Jobs.{ClaimsNoJobTwice, count_job}
use Rattle.cta_laws.proofs.Known.{claims_all_by, claims_by_claimer}
use Rattle.cta_laws.proofs.OnceLaw.{same_job_eq}
use Rattle.cta_laws.proofs.Tests.{bool_cases, or_left}
use Rattle.part_model.specs.declared.mounts.OpenMount.{OpenMount}
use Rattle.part_model.specs.JobRows.{book_in}
use Rattle.part_model.specs.Mounts.{has_mount, last_items, row_of}
use Rattle.part_laws.specs.Mounts.{IsRow, RowsTell}
use Rattle.part_laws.specs.Sessions.{claims_told}
use Rattle.part_laws.proofs.ChoiceTold.{tells_mounts}
use Rattle.archive_parts.specs.PartsKept.{ArePartsKept, values_of}
use Rattle.archive_parts.specs.declared.parts.ArchiveParts.{ArchiveParts}
use Rattle.part_laws.proofs.EndTold.{self_job}

-- ---- rows

-- what is found of a mount that is open, and that nothing is found of one that is not
found_of : (p : OpenMount → Bool) (xs : List OpenMount) (r : OpenMount) → find p xs ≡ Some r → list_any p xs ≡ true
found_of p [] r e = absurd (cc)
found_of p (x ∷ xs) r e =
    elim (bool_cases (p x)) [
      | inl hit ↦ or_left (p x) (list_any p xs) hit
      | inr miss ↦ rw miss (found_of p xs r (rw miss at e))
    ]

none_of : (p : OpenMount → Bool) (xs : List OpenMount) → find p xs ≡ None → list_any p xs ≡ false
none_of p [] e = refl
none_of p (x ∷ xs) e =
    elim (bool_cases (p x)) [
      | inl hit ↦ (let bad : Some x ≡ None = rw hit at e in absurd (cc))
      | inr miss ↦ rw miss (none_of p xs (rw miss at e))
    ]

-- the row of a mount is that of an open mount
pub row_opens : (site : Site) (h : History) (p : ArchiveParts) (m : ℕ) (r : OpenMount) → ArePartsKept site h p → row_of m p.mounts.value.rows ≡ Some r → (is_open h m ≡ true) × IsRow site h m r
row_opens site h p m r kept found =
    let tells : RowsTell site h p.mounts.value.rows = tells_mounts site h (values_of p) kept.stand in
    let on : is_open h m ≡ true = sym (tells.opens m) ∙ found_of (λ (x : OpenMount). x.number == m) p.mounts.value.rows r found in
    let there = tells.row m on in
    let both : Some there.0 ≡ Some r = sym there.1 ∙ found in
    let same : there.0 ≡ r = cc in
    (on, subst (IsRow site h m) same there.2)

pub none_open : (site : Site) (h : History) (p : ArchiveParts) (m : ℕ) → ArePartsKept site h p → row_of m p.mounts.value.rows ≡ None → is_open h m ≡ false
none_open site h p m kept none =
    let tells : RowsTell site h p.mounts.value.rows = tells_mounts site h (values_of p) kept.stand in
    sym (tells.opens m) ∙ none_of (λ (x : OpenMount). x.number == m) p.mounts.value.rows none

-- ---- which way a mount goes

pub direction_there : (site : Site) (h : History) (p : ArchiveParts) (m : ℕ) (r : OpenMount) → ArePartsKept site h p → row_of m p.mounts.value.rows ≡ Some r
    → Some r.direction ≡ (if is_open h m then option_map (λ (x : Mount). x.direction) (mount_of h m) else None)
direction_there site h p m r kept found =
    let row = row_opens site h p m r kept found in
    rw row.0 (sym (ap (option_map (λ (x : Mount). x.direction)) row.1.mount))

pub direction_none : (site : Site) (h : History) (p : ArchiveParts) (m : ℕ) → ArePartsKept site h p → row_of m p.mounts.value.rows ≡ None
    → ◌≡◌ {A = Option Direction} None (if is_open h m then option_map (λ (x : Mount). x.direction) (mount_of h m) else None)
direction_none site h p m kept none = rw (none_open site h p m kept none) refl

-- ---- whether a mount may end

is_some_number : (m : ℕ) (o : Option ℕ) → o ≡ Some m → is_number m o ≡ true
is_some_number m o e = ap (is_number m) e ∙ eq-eqb m m refl

number_some : (m : ℕ) (o : Option ℕ) → is_number m o ≡ true → o ≡ Some m
number_some m None e = absurd (cc)
number_some m (Some k) e = ap (λ (n : ℕ). Some n) (sym (eqb m k e))
  where
    eqb : (a b : ℕ) → (a == b) ≡ true → a ≡ b
    eqb a b e = grind arith

claims_some : (site : Site) (h : History) (m : ℕ) (j : Job) → IsLegal site h → is_open h m ≡ true → claimer_of h j ≡ Some m → claims h m j ≡ true
claims_some site h m j legal on is = claims_by_claimer site h legal m j on ∙ is_some_number m (claimer_of h j) is

ends_by : (site : Site) (h : History) (m : ℕ) (some : Bool) (items : List Item) → IsLegal site h → is_open h m ≡ true → claimed_items h m ≡ items
    → (some ≡ true → (j : Job) × (claimer_of h j ≡ Some m)) → (some ≡ false → (j : Job) → claimer_of h j ≢ Some m) → not some ≡ is_empty items
ends_by site h m true [] legal on is there none =
    let x = there refl in
    let yes : claims h m x.0 ≡ true = claims_some site h m x.0 legal on x.1 in
    let no_one : claims h m x.0 ≡ false = ap (λ (xs : List Item). has_job x.0 (item_jobs xs)) is in
    absurd (cc)
ends_by site h m false [] legal on is there none = refl
ends_by site h m true (i ∷ items) legal on is there none = refl
ends_by site h m false (i ∷ items) legal on is there none =
    let yes : claims h m i.job ≡ true = ap (λ (xs : List Item). has_job i.job (item_jobs xs)) is ∙ or_left (same_job i.job i.job) (has_job i.job (item_jobs items)) (self_job i.job) in
    absurd (none refl i.job (number_some m (claimer_of h i.job) (sym (claims_by_claimer site h legal m i.job on) ∙ yes)))

pub ends_there : (site : Site) (h : History) (p : ArchiveParts) (m : ℕ) (some : Bool) → IsLegal site h → ArePartsKept site h p → has_mount m p.mounts.value.rows ≡ true
    → (some ≡ true → (j : Job) × ((book_in p.book.value).claimer j ≡ Some m)) → (some ≡ false → (j : Job) → (book_in p.book.value).claimer j ≢ Some m) → not some ≡ (is_open h m && is_empty (claimed_items h m))
ends_there site h p m some legal kept has there none =
    let tells : RowsTell site h p.mounts.value.rows = tells_mounts site h (values_of p) kept.stand in
    let on : is_open h m ≡ true = sym (tells.opens m) ∙ has in
    rw on
    (ends_by site h m some (claimed_items h m) legal on refl
    (λ e. (let x = there e in (x.0, sym (kept.stand.jobs.book.claimer x.0) ∙ x.1)))
    (λ e j is. none e j (kept.stand.jobs.book.claimer j ∙ is)))

pub ends_none : (site : Site) (h : History) (p : ArchiveParts) (m : ℕ) → ArePartsKept site h p → has_mount m p.mounts.value.rows ≡ false → false ≡ (is_open h m && is_empty (claimed_items h m))
ends_none site h p m kept none =
    let tells : RowsTell site h p.mounts.value.rows = tells_mounts site h (values_of p) kept.stand in
    let off : is_open h m ≡ false = sym (tells.opens m) ∙ none in
    rw off refl

-- a mount that is open has a row
pub open_there : (site : Site) (h : History) (p : ArchiveParts) (m : ℕ) (some : Bool) → ArePartsKept site h p → is_open h m ≡ true → some ≡ has_mount m p.mounts.value.rows → some ≡ false → ⊥
open_there site h p m some kept on is none =
    let tells : RowsTell site h p.mounts.value.rows = tells_mounts site h (values_of p) kept.stand in
    let same : some ≡ true = is ∙ tells.opens m ∙ on in
    absurd (cc)

-- ---- lists of items

-- items that are the same one by one
all_same : (xs ys : List Item) → length xs ≡ length ys → ((k : ℕ) (d : Item) → k < length xs → same_item (get_or xs k d) (get_or ys k d) ≡ true) → same_items xs ys ≡ true
all_same [] [] many each = refl
all_same [] (y ∷ ys) many each = absurd (omega (arith, many))
all_same (x ∷ xs) [] many each = absurd (omega (arith, many))
all_same (x ∷ xs) (y ∷ ys) many each =
    let first : same_item x y ≡ true = each zero x (omega arith) in
    rw first (all_same xs ys (omega (arith, many)) (λ k d low. each (suc k) d (omega (arith, low))))

get_any : (xs : List Item) (k : ℕ) (d e : Item) → k < length xs → get_or xs k d ≡ get_or xs k e
get_any [] k d e low = absurd (omega (arith, low))
get_any (x ∷ xs) zero d e low = refl
get_any (x ∷ xs) (suc k) d e low = get_any xs k d e (omega (arith, low))

pub none_passed : (xs ys : List Item) (k : ℕ) (d : Item) → k < 0 → same_item (get_or xs k d) (get_or ys k d) ≡ true
none_passed xs ys k d low = absurd (omega (arith, low))

-- all pairs are the same
pub all_passed : (xs ys : List Item) (at : ℕ) → length xs ≡ length ys → length xs ≤ at → ((k : ℕ) (d : Item) → k < at → same_item (get_or xs k d) (get_or ys k d) ≡ true) → same_items xs ys ≡ true
all_passed xs ys at many over each = all_same xs ys many (λ k d low. each k d (omega (arith, low, over)))

-- one pair more is the same
pub same_more : (xs ys : List Item) (at : ℕ) (d e : Item) → length xs ≡ length ys → at < length xs → ((k : ℕ) (d : Item) → k < at → same_item (get_or xs k d) (get_or ys k d) ≡ true)
    → same_item (get_or xs at d) (get_or ys at e) ≡ true → (k : ℕ) (f : Item) → k < at + 1 → same_item (get_or xs k f) (get_or ys k f) ≡ true
same_more xs ys at d e many low before now k f passed =
    elim (bool_cases (k == at)) [
      | inl hit ↦ subst (λ (n : ℕ). same_item (get_or xs n f) (get_or ys n f) ≡ true) (sym (same_number k at hit)) (here low (subst (λ (n : ℕ). at < n) many low))
      | inr miss ↦ before k f (earlier k at passed miss)
    ]
  where
    same_number : (a b : ℕ) → (a == b) ≡ true → a ≡ b
    same_number a b e = grind arith

    earlier : (a b : ℕ) → a < b + 1 → (a == b) ≡ false → a < b
    earlier a b l e = grind arith

    here : at < length xs → at < length ys → same_item (get_or xs at f) (get_or ys at f) ≡ true
    here first second =
        ap (λ (x : Item). same_item x (get_or ys at f)) (get_any xs at f d first) ∙ ap (λ (y : Item). same_item (get_or xs at d) y) (get_any ys at f e second) ∙ now

and_false : (a b : Bool) → b ≡ false → (a && b) ≡ false
and_false true b e = e
and_false false b e = refl

other_at : (xs ys : List Item) (k : ℕ) (d : Item) → k < length xs → length xs ≡ length ys → same_item (get_or xs k d) (get_or ys k d) ≡ false → same_items xs ys ≡ false
other_at [] ys k d low many e = absurd (omega (arith, low))
other_at (x ∷ xs) [] k d low many e = absurd (omega (arith, many))
other_at (x ∷ xs) (y ∷ ys) zero d low many e = rw e refl
other_at (x ∷ xs) (y ∷ ys) (suc k) d low many e = and_false (same_item x y) (same_items xs ys) (other_at xs ys k d (omega (arith, low)) (omega (arith, many)) e)

-- where one pair is not the same, the lists are not
pub one_other : (xs ys : List Item) (k : ℕ) (d e : Item) → k < length xs → length xs ≡ length ys → same_item (get_or xs k d) (get_or ys k e) ≡ false → same_items xs ys ≡ false
one_other xs ys k d e low many other =
    other_at xs ys k d low many (ap (λ (y : Item). same_item (get_or xs k d) y) (get_any ys k d e (subst (λ (n : ℕ). k < n) many low)) ∙ other)

pub other_lengths : (xs ys : List Item) → length xs ≢ length ys → same_items xs ys ≡ false
other_lengths [] [] differ = absurd (differ refl)
other_lengths [] (y ∷ ys) differ = refl
other_lengths (x ∷ xs) [] differ = refl
other_lengths (x ∷ xs) (y ∷ ys) differ = and_false (same_item x y) (same_items xs ys) (other_lengths xs ys (λ e. differ (ap suc e)))

-- the same items have the same jobs
same_jobs : (xs ys : List Item) → same_items xs ys ≡ true → item_jobs xs ≡ item_jobs ys
same_jobs [] [] e = refl
same_jobs [] (y ∷ ys) e = absurd (cc)
same_jobs (x ∷ xs) [] e = absurd (cc)
same_jobs (x ∷ xs) (y ∷ ys) e =
    let parts = and_parts (same_item x y) (same_items xs ys) e in
    let job : x.job ≡ y.job = same_job_eq x.job y.job (and_parts (same_job x.job y.job) _ parts.0).0 in
    ap (λ (j : Job). j ∷ item_jobs xs) job ∙ ap (λ (js : List Job). y.job ∷ js) (same_jobs xs ys parts.1)

-- ---- the last batch names no job twice

job_count : (j : Job) (js : List Job) → has_job j js ≡ true → 1 ≤ count_job j js
job_count j [] e = absurd (cc)
job_count j (k ∷ js) e =
    elim (bool_cases (same_job j k)) [
      | inl hit ↦ rw hit (omega arith)
      | inr miss ↦ (let rest = job_count j js (rw miss at e) in rw miss (omega (arith, rest)))
    ]

once_by : (js : List Job) → ((j : Job) → count_job j js ≤ 1) → names_twice js ≡ false
once_by [] once = refl
once_by (j ∷ js) once =
    elim (bool_cases (has_job j js)) [
      | inl hit ↦
          (let more = job_count j js hit in
          let one : 1 + count_job j js ≤ 1 = subst (λ b. (if b then 1 else 0) + count_job j js ≤ 1) (self_job j) (once j) in
          absurd (omega (arith, more, one)))
      | inr miss ↦ rw miss (once_by js (λ k. (let o = once k in omega (arith, o))))
    ]

count_later : (j : Job) (xs ys : List Item) → count_job j (item_jobs ys) ≤ count_job j (item_jobs (xs ++ ys))
count_later j [] ys = omega arith
count_later j (x ∷ xs) ys = (let rest = count_later j xs ys in omega (arith, rest))

last_step : (m : ℕ) (k : Ask) (a : Answer) (before : List Item) (o : Option (List Item)) (items : List Item) → ((j : Job) → count_job j (item_jobs (claimed_after k a m before)) ≤ 1)
    → ((xs : List Item) → o ≡ Some xs → names_twice (item_jobs xs) ≡ false) → batch_or (batch_in k a m) o ≡ Some items → names_twice (item_jobs items) ≡ false
last_step m (ask.Claim k) (answer.Batch xs evicted) before o items once older =
    elim (k == m) as (λ b. ((j : Job) → count_job j (item_jobs (if b then before ++ xs.items else before)) ≤ 1) → batch_or (if b then Some xs.items else None) o ≡ Some items → names_twice (item_jobs items) ≡ false) [
      | true ↦ λ few e. (let same : xs.items ≡ items = cc in
          subst (λ (ys : List Item). names_twice (item_jobs ys) ≡ false) same (once_by (item_jobs xs.items) (λ j. (let few_all = few j in let later = count_later j before xs.items in omega (arith, few_all, later)))))
      | false ↦ λ few e. older items e
    ] once
last_step m _ a before o items once older = λ e. older items e

last_once : ClaimsNoJobTwice → (site : Site) (h : History) → IsLegal site h → (m : ℕ) (items : List Item) → last_batch h m ≡ Some items → names_twice (item_jobs items) ≡ false
last_once law site [] legal m items e = absurd (cc)
last_once law site (e ∷ h) legal m items is =
    last_step m e.ask e.answer (claimed_items h m) (last_batch h m) items (λ j. law site (e ∷ h) legal m j) (λ xs x. last_once law site h legal.0 m xs x) is

-- ---- whether a Flushed is known

all_jobs : (test : Job → Bool) (items : List Item) → list_all (λ (i : Item). test i.job) items ≡ list_all test (item_jobs items)
all_jobs test [] = refl
all_jobs test (i ∷ items) = ap (λ (b : Bool). test i.job && b) (all_jobs test items)

all_told : (site : Site) (h : History) (p : ArchiveParts) (m : ℕ) (js : List Job) → ArePartsKept site h p → list_all (claims_told p.book.value m) js ≡ list_all (λ j. is_number m (claimer_of h j)) js
all_told site h p m [] kept = refl
all_told site h p m (j ∷ js) kept =
    ap (λ (b : Bool). b && list_all (claims_told p.book.value m) js) (ap (is_number m) (kept.stand.jobs.book.claimer j))
    ∙ ap (λ (b : Bool). is_number m (claimer_of h j) && b) (all_told site h p m js kept)

pub jobs_claimed : (site : Site) (h : History) (p : ArchiveParts) (m : ℕ) (js : List Job) → IsLegal site h → ArePartsKept site h p → is_open h m ≡ true → list_all (claims_told p.book.value m) js ≡ claims_all h m js
jobs_claimed site h p m js legal kept on = all_told site h p m js kept ∙ sym (claims_all_by site h legal m js on)

pub claims_is : (site : Site) (h : History) (p : ArchiveParts) (m : ℕ) (items : List Item) → IsLegal site h → ArePartsKept site h p → is_open h m ≡ true
    → list_all (λ (i : Item). claims_told p.book.value m i.job) items ≡ claims_all h m (item_jobs items)
claims_is site h p m items legal kept on =
    all_jobs (claims_told p.book.value m) items ∙ jobs_claimed site h p m (item_jobs items) legal kept on

twice_last : ClaimsNoJobTwice → (site : Site) (h : History) (m : ℕ) (items : List Item) (o : Option (List Item)) → IsLegal site h → last_batch h m ≡ o → is_last_batch o items ≡ true → names_twice (item_jobs items) ≡ false
twice_last law site h m items None legal is e = absurd (cc)
twice_last law site h m items (Some xs) legal is e = ap names_twice (same_jobs items xs e) ∙ last_once law site h legal m xs is

other_last : (a b c l : Bool) → l ≡ false → false ≡ ((a && (b && c)) && l)
other_last a b c l e = grind arith

known_last : (a b c l : Bool) → a ≡ true → c ≡ false → l ≡ true → b ≡ ((a && (b && not c)) && l)
known_last a b c l e f g = grind arith

-- the items are not those of the last batch
pub unknown_there : (site : Site) (h : History) (p : ArchiveParts) (m : ℕ) (items : List Item) (r : OpenMount) → ArePartsKept site h p → row_of m p.mounts.value.rows ≡ Some r → is_last_batch (last_items r) items ≡ false
    → false ≡ (is_known h m (item_jobs items) && is_last_batch (last_batch h m) items)
unknown_there site h p m items r kept found other =
    let row = row_opens site h p m r kept found in
    other_last (is_open h m) (claims_all h m (item_jobs items)) (not (names_twice (item_jobs items))) (is_last_batch (last_batch h m) items) (sym (ap (λ (o : Option (List Item)). is_last_batch o items) row.1.last) ∙ other)

-- they are
pub known_there : ClaimsNoJobTwice → (site : Site) (h : History) (p : ArchiveParts) (m : ℕ) (items : List Item) (r : OpenMount) → IsLegal site h → ArePartsKept site h p → row_of m p.mounts.value.rows ≡ Some r
    → is_last_batch (last_items r) items ≡ true → list_all (λ (i : Item). claims_told p.book.value m i.job) items ≡ (is_known h m (item_jobs items) && is_last_batch (last_batch h m) items)
known_there law site h p m items r legal kept found is =
    let row = row_opens site h p m r kept found in
    let last : is_last_batch (last_batch h m) items ≡ true = sym (ap (λ (o : Option (List Item)). is_last_batch o items) row.1.last) ∙ is in
    claims_is site h p m items legal kept row.0
    ∙ known_last (is_open h m) (claims_all h m (item_jobs items)) (names_twice (item_jobs items)) (is_last_batch (last_batch h m) items) row.0 (twice_last law site h m items (last_batch h m) legal refl last) last

-- the mount is not open
pub unknown_none : (site : Site) (h : History) (p : ArchiveParts) (m : ℕ) (items : List Item) → ArePartsKept site h p → row_of m p.mounts.value.rows ≡ None → false ≡ (is_known h m (item_jobs items) && is_last_batch (last_batch h m) items)
unknown_none site h p m items kept none = rw (none_open site h p m kept none) refl
