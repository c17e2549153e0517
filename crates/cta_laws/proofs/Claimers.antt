-- How an entry changes which mount claims a job.
use Rattle.std.proofs.Common.{◌≡◌, ◌∙◌, ℕ, ◌+◌, inl, inr, List, [], ◌∷◌, ◌++◌, Bool, true, false, ◌&&◌, ◌||◌, not, refl, sym, ap, subst, arith, length}
use Rattle.std.specs.Prelude.{Some, None, is_none, if◌then◌else◌, ◌==◌, filter, find}
use Rattle.std.specs.List.{list_all}
use Rattle.std.proofs.lemmas.Bool.{and_parts, eqb-true, eq-eqb}
use Rattle.cta_site.specs.declared.site.Site.{Site}
use Rattle.cta_model.specs.declared.entries.Entry.{Entry}
use Rattle.cta_model.specs.declared.asks.Ask.{Ask}
use Rattle.cta_model.specs.declared.answers.Answer.{Answer}
use Rattle.cta_model.specs.declared.asks.Item.{Item}
use Rattle.cta_model.specs.declared.asks.Job.{Job}
use Rattle.cta_model.specs.History.{History, has_number, is_empty}
use Rattle.cta_model.specs.Mounts.{is_open, open_mounts, open_after, claimed_items, claimed_after, claimer_of, without_jobs, has_job, item_jobs, same_job, claims}
use Rattle.cta_model.specs.Answers.{answer_of, is_accepted, is_known, claims_all}
use Rattle.cta_model.specs.Legal.{IsLegal}
use Rattle.cta_laws.proofs.Tests.{bool_cases, or_left, or_right, or_cases, not_false}
use Rattle.cta_laws.proofs.OnceLaw.{same_job_eq}
use Rattle.cta_laws.proofs.LengthLaw.{claimed_new, not_unknown}
use Rattle.cta_laws.proofs.PlaceLaw.{flushed_known}
use Rattle.cta_laws.proofs.Claims.{claim_is_open}
use Rattle.cta_laws.proofs.ClaimLaw.{claimed_once, unclaimed_by, names_unclaimed}
use Rattle.cta_laws.proofs.ClosedLaw.{end_by, nothing_left}
use Rattle.cta_model.specs.declared.asks.Ask.TheVariants as ask
use Rattle.cta_model.specs.declared.answers.Answer.TheVariants as answer
use Rattle.cta_laws.specs.Claims.{claimer_after}

-- ---- the first of a list

pub find_same : (f g : ℕ → Bool) (ms : List ℕ) → ((m : ℕ) → f m ≡ g m) → find f ms ≡ find g ms
find_same f g [] same = refl
find_same f g (m ∷ ms) same = rw (same m) (rw (find_same f g ms same) refl)

find_filter : (test keep : ℕ → Bool) (ms : List ℕ) → ((m : ℕ) → keep m ≡ false → test m ≡ false) → find test (filter keep ms) ≡ find test ms
find_filter test keep [] drops = refl
find_filter test keep (m ∷ ms) drops =
    elim (bool_cases (keep m)) [
      | inl stays ↦ rw stays (rw (find_filter test keep ms drops) refl)
      | inr goes ↦ rw goes (rw (drops m goes) (find_filter test keep ms drops))
    ]

find_none : (test : ℕ → Bool) (ms : List ℕ) → ((m : ℕ) → has_number m ms ≡ true → test m ≡ false) → find test ms ≡ None
find_none test [] none = refl
find_none test (m ∷ ms) none = rw (none m (or_left (m == m) (has_number m ms) (eq-eqb m m refl))) (find_none test ms (λ k there. none k (or_right (k == m) (has_number k ms) there)))

find_some : (test : ℕ → Bool) (ms : List ℕ) (m : ℕ) → has_number m ms ≡ true → test m ≡ true → ((k : ℕ) → has_number k ms ≡ true → test k ≡ true → k ≡ m) → find test ms ≡ Some m
find_some test [] m there hit one = absurd (cc)
find_some test (k ∷ ms) m there hit one =
    elim (bool_cases (test k)) [
      | inl pass ↦ (let same : k ≡ m = one k (or_left (k == k) (has_number k ms) (eq-eqb k k refl)) pass in rw pass (ap (λ (x : ℕ). Some x) same))
      | inr fail ↦
          rw fail (find_some test ms m (elim (or_cases (m == k) (has_number m ms) there) [
            | inl same ↦ (let bad : test k ≡ true = subst (λ (x : ℕ). test x ≡ true) (eqb-true m k same) hit in absurd (cc))
            | inr rest ↦ rest
          ]) hit (λ x there. one x (or_right (x == k) (has_number x ms) there)))
    ]

-- the open mount that claims a job is the claimer
pub claimer_is : (site : Site) (h : History) → IsLegal site h → (j : Job) (m : ℕ) → is_open h m ≡ true → claims h m j ≡ true → claimer_of h j ≡ Some m
claimer_is site h legal j m op c = find_some (λ k. claims h k j) (open_mounts h) m op c (λ k there hit. claimed_once site h legal j k m there hit op c)

pub claimer_none : (h : History) (j : Job) → ((m : ℕ) → is_open h m ≡ true → claims h m j ≡ false) → claimer_of h j ≡ None
claimer_none h j none = find_none (λ k. claims h k j) (open_mounts h) none

-- ---- items with a job

has_more : (j : Job) (xs ys : List Item) → has_job j (item_jobs (xs ++ ys)) ≡ (has_job j (item_jobs xs) || has_job j (item_jobs ys))
has_more j [] ys = refl
has_more j (x ∷ xs) ys = rw (has_more j xs ys) (regroup (same_job j x.job) (has_job j (item_jobs xs)) (has_job j (item_jobs ys)))
  where
    regroup : (a b c : Bool) → (a || (b || c)) ≡ ((a || b) || c)
    regroup true b c = refl
    regroup false b c = refl

has_less : (j : Job) (js : List Job) (xs : List Item) → has_job j (item_jobs (without_jobs js xs)) ≡ (not (has_job j js) && has_job j (item_jobs xs))
has_less j js [] = sym (none (not (has_job j js)))
  where
    none : (b : Bool) → (b && false) ≡ false
    none true = refl
    none false = refl
has_less j js (x ∷ xs) =
    elim (bool_cases (same_job j x.job)) [
      | inl hit ↦
          (let is : j ≡ x.job = same_job_eq j x.job hit in
          elim (bool_cases (has_job j js)) [
            | inl gone ↦ (let here : has_job x.job js ≡ true = subst (λ (k : Job). has_job k js ≡ true) is gone in rw (here, gone) (has_less j js xs ∙ rw gone refl))
            | inr stays ↦ (let here : has_job x.job js ≡ false = subst (λ (k : Job). has_job k js ≡ false) is stays in rw (here, stays, hit) refl)
          ])
      | inr miss ↦
          elim (bool_cases (has_job x.job js)) [
            | inl gone ↦ rw (gone, miss) (has_less j js xs)
            | inr stays ↦ rw (stays, miss) (has_less j js xs)
          ]
    ]

-- ---- one more entry

named_by : (b : Bool) (before : List Item) (js : List Job) (j : Job) → has_job j js ≡ false → has_job j (item_jobs (if b then without_jobs js before else before)) ≡ has_job j (item_jobs before)
named_by true before js j d = has_less j js before ∙ rw d refl
named_by false before js j d = refl

all_in : (test : Job → Bool) (js : List Job) (j : Job) → list_all test js ≡ true → has_job j js ≡ true → test j ≡ true
all_in test [] j all e = absurd (cc)
all_in test (k ∷ js) j all e =
    (let parts : (test k ≡ true) × (list_all test js ≡ true) = and_parts (test k) (list_all test js) all in
    elim (or_cases (same_job j k) (has_job j js) e)
    [ inl hit ↦ subst (λ (x : Job). test x ≡ true) (sym (same_job_eq j k hit)) parts.0 | inr rest ↦ all_in test js j parts.1 rest ])

-- the mount of an entry that ends claims is open, and claims what the entry names
abbrev pub Ends : Site → History → ℕ → List Job → Type 0
Ends site h m js = (is_open h m ≡ true) × ((j : Job) → has_job j js ≡ true → claims h m j ≡ true)

pub ends_known : (site : Site) (h : History) (m : ℕ) (js : List Job) → is_known h m js ≡ true → Ends site h m js
ends_known site h m js known =
    let parts : (is_open h m ≡ true) × (_ ≡ true) = and_parts (is_open h m) _ known in
    let all : claims_all h m js ≡ true = (and_parts (claims_all h m js) _ parts.1).0 in
    (parts.0, λ j there. all_in (λ k. has_job k (item_jobs (claimed_items h m))) js j all there)

-- after an entry that ends claims, no mount claims what it names
named_step : (site : Site) (h : History) → IsLegal site h → (m : ℕ) (js : List Job) (j : Job) → Ends site h m js
    → find (λ k. has_job j (item_jobs (if m == k then without_jobs js (claimed_items h k) else claimed_items h k))) (open_mounts h) ≡ (if has_job j js then None else claimer_of h j)
named_step site h legal m js j ends =
    elim (bool_cases (has_job j js)) [
      | inl there ↦ rw there (find_none (λ k. has_job j (item_jobs (if m == k then without_jobs js (claimed_items h k) else claimed_items h k))) (open_mounts h) (λ k op. gone there k op))
      | inr not_there ↦ rw not_there (find_same (λ k. has_job j (item_jobs (if m == k then without_jobs js (claimed_items h k) else claimed_items h k))) (λ k. claims h k j) (open_mounts h) (λ k. named_by (m == k) (claimed_items h k) js j not_there))
    ]
  where
    gone : has_job j js ≡ true → (k : ℕ) → is_open h k ≡ true → has_job j (item_jobs (if m == k then without_jobs js (claimed_items h k) else claimed_items h k)) ≡ false
    gone there k op =
        elim (bool_cases (m == k)) [
          | inl hit ↦ rw hit (has_less j js (claimed_items h k) ∙ rw there refl)
          | inr miss ↦
              rw miss (elim (bool_cases (claims h k j)) [
                | inl c ↦ (let same : k ≡ m = claimed_once site h legal j k m op c ends.0 (ends.1 j there) in let bad : (m == k) ≡ true = eq-eqb m k (sym same) in absurd (cc))
                | inr d ↦ d
              ])
        ]

added_by : (b : Bool) (before items : List Item) (j : Job) → has_job j (item_jobs items) ≡ false → has_job j (item_jobs (if b then before ++ items else before)) ≡ has_job j (item_jobs before)
added_by true before items j d = has_more j before items ∙ rw d (or_none (has_job j (item_jobs before)))
  where
    or_none : (b : Bool) → (b || false) ≡ b
    or_none true = refl
    or_none false = refl
added_by false before items j d = refl

-- after a Claim the mount claims what the batch names
claim_step : (h : History) (m : ℕ) (items : List Item) (j : Job) → is_open h m ≡ true → (has_job j (item_jobs items) ≡ true → is_none (claimer_of h j) ≡ true)
    → find (λ k. has_job j (item_jobs (if m == k then claimed_items h k ++ items else claimed_items h k))) (open_mounts h) ≡ (if has_job j (item_jobs items) then Some m else claimer_of h j)
claim_step h m items j op free =
    elim (bool_cases (has_job j (item_jobs items))) [
      | inl there ↦ rw there (find_some (λ k. has_job j (item_jobs (if m == k then claimed_items h k ++ items else claimed_items h k))) (open_mounts h) m op (here there) (λ k opened hit. one there k opened hit))
      | inr not_there ↦ rw not_there (find_same (λ k. has_job j (item_jobs (if m == k then claimed_items h k ++ items else claimed_items h k))) (λ k. claims h k j) (open_mounts h) (λ k. added_by (m == k) (claimed_items h k) items j not_there))
    ]
  where
    here : has_job j (item_jobs items) ≡ true → has_job j (item_jobs (if m == m then claimed_items h m ++ items else claimed_items h m)) ≡ true
    here there = rw (eq-eqb m m refl) (has_more j (claimed_items h m) items ∙ or_right (has_job j (item_jobs (claimed_items h m))) (has_job j (item_jobs items)) there)

    one : has_job j (item_jobs items) ≡ true → (k : ℕ) → is_open h k ≡ true → has_job j (item_jobs (if m == k then claimed_items h k ++ items else claimed_items h k)) ≡ true → k ≡ m
    one there k opened hit =
        elim (bool_cases (m == k))
        [ inl same ↦ sym (eqb-true m k same) | inr miss ↦ absurd (unclaimed_by h j k (free there) opened (rw miss at hit)) ]

end_step : (h : History) (m : ℕ) (j : Job) → claimed_items h m ≡ [] → find (λ k. has_job j (item_jobs (claimed_items h k))) (filter (λ k. not (k == m)) (open_mounts h)) ≡ claimer_of h j
end_step h m j none = find_filter (λ k. has_job j (item_jobs (claimed_items h k))) (λ k. not (k == m)) (open_mounts h) (λ k drop. gone k drop)
  where
    gone : (k : ℕ) → not (k == m) ≡ false → has_job j (item_jobs (claimed_items h k)) ≡ false
    gone k drop =
        (let same : k ≡ m = eqb-true k m (not_false (k == m) drop) in
        subst (λ (x : ℕ). has_job j (item_jobs (claimed_items h x)) ≡ false) (sym same) (rw none refl))

step_by : (site : Site) (h : History) (t : ℕ) (j : Job) → IsLegal site h → (k : Ask) (a : Answer) → a ≡ answer_of site h t k → is_accepted a ≡ true
    → find (λ m. has_job j (item_jobs (claimed_after k a m (claimed_items h m)))) (open_after k a (length h + 1) (open_mounts h)) ≡ claimer_after k a j (claimer_of h j)
step_by site h t j legal (ask.Next d) (answer.Mounted m way v) is ok =
    (let none : claimed_items h (length h + 1) ≡ [] = claimed_new site h legal (length h + 1) (omega arith) in
    let test : has_job j (item_jobs (claimed_items h (length h + 1))) ≡ false = rw none refl in
    rw test refl)
step_by site h t j legal (ask.Claim m) (answer.Batch items evicted) is ok =
    claim_step h m items.items j (claim_is_open site h t m items evicted is) (λ there. (names_unclaimed site h t (ask.Claim m) (answer.Batch items evicted) j is there).0)
step_by site h t j legal (ask.Flushed m items) a is ok = named_step site h legal m (item_jobs items.items) j (ends_known site h m (item_jobs items.items) (flushed_known site h t m items a is ok).0)
step_by site h t j legal (ask.Recalled m job) a is ok = named_step site h legal m (job ∷ []) j (ends_known site h m (job ∷ []) (not_unknown (is_known h m (job ∷ [])) _ a is ok))
step_by site h t j legal (ask.Failed m f charged returned) a is ok = named_step site h legal m (charged.items ++ returned.items) j (ends_known site h m (charged.items ++ returned.items) (not_unknown (is_known h m (charged.items ++ returned.items)) _ a is ok))
step_by site h t j legal (ask.End m f) a is ok =
    (let known : (is_open h m && is_empty (claimed_items h m)) ≡ true = end_by (is_open h m && is_empty (claimed_items h m)) a is ok in
    end_step h m j (nothing_left (claimed_items h m) (and_parts (is_open h m) _ known).1))
step_by site h t j legal _ a is ok = refl

-- the claimer of a job after one more entry
pub claimer_step : (site : Site) (h : History) (e : Entry) → IsLegal site (e ∷ h) → (j : Job) → claimer_of (e ∷ h) j ≡ claimer_after e.ask e.answer j (claimer_of h j)
claimer_step site h e legal j = step_by site h e.at j legal.0 e.ask e.answer legal.1.answered legal.1.accepted
