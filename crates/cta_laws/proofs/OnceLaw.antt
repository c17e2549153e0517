-- At most one entry completes a recall.
use Rattle.std.proofs.Common.{◌≡◌, ◌∙◌, ℕ, ◌+◌, ◌≤◌, ◌⊎◌, inl, inr, List, [], ◌∷◌, Bool, true, false, ◌&&◌, not, refl, subst, arith, length}
use Rattle.std.specs.Prelude.{Option, Some, None, option_map, if◌then◌else◌, ◌==◌, bytes_eq}
use Rattle.std.proofs.lemmas.Bool.{and_parts, eqb-true}
use Rattle.cta_site.specs.declared.site.Site.{Site}
use Rattle.cta_model.specs.declared.entries.Entry.{Entry}
use Rattle.cta_model.specs.declared.asks.Ask.{Ask}
use Rattle.cta_model.specs.declared.asks.Ask.TheVariants as ask
use Rattle.cta_model.specs.declared.answers.Answer.{Answer}
use Rattle.cta_model.specs.declared.answers.Answer.TheVariants as answer
use Rattle.cta_model.specs.declared.answers.Refusal.TheVariants as refusal
use Rattle.cta_model.specs.declared.asks.Fate.TheVariants as fate
use Rattle.cta_model.specs.declared.asks.Job.{Job}
use Rattle.cta_model.specs.History.{History, has_text, is_number, is_empty}
use Rattle.cta_model.specs.Files.{path_of}
use Rattle.cta_model.specs.Mounts.{same_job}
use Rattle.cta_model.specs.Places.{places_of}
use Rattle.cta_model.specs.Charges.{is_last_charge}
use Rattle.cta_model.specs.Recalls.{Recall, live_recall, recall_after, recall_goes_on, recall_job, left_with, subscribed, unsubscribed, lives_unless, bears_recall, waits_for}
use Rattle.cta_model.specs.Jobs.{is_live_job}
use Rattle.cta_model.specs.Answers.{refuse, answer_of, is_known}
use Rattle.cta_model.specs.Legal.{IsLegal}
use Rattle.cta_laws.specs.Recalls.{completes, completions, CompletesOnce}
use Rattle.cta_laws.proofs.Tests.{bool_cases, not_next}

abbrev pub birth_in : Option Recall → Option ℕ
birth_in o = option_map (λ (r : Recall). r.birth) o

-- the live recall of a file has another birth, or there is none
abbrev pub IsEnded : Site → History → ℕ → ℕ → Type 0
IsEnded site h f b = is_number b (birth_in (live_recall site h f)) ≡ false

pub left_ended : (b birth : ℕ) (ns : List ℕ) → (b == birth) ≡ false → is_number b (birth_in (left_with birth ns)) ≡ false
left_ended b birth [] d = refl
left_ended b birth (n ∷ ns) d = d

pub subscribed_ended : (b : ℕ) (t : Bool) (n : ℕ) (r : Recall) → (b == r.birth) ≡ false → is_number b (birth_in (Some (subscribed t n r))) ≡ false
subscribed_ended b true n r d = d
subscribed_ended b false n r d = d

pub unless_ended : (b : ℕ) (t : Bool) (r : Recall) → (b == r.birth) ≡ false → is_number b (birth_in (lives_unless t r)) ≡ false
unless_ended b true r d = refl
unless_ended b false r d = d

pub goes_on_ended : (site : Site) (h : History) (e : Entry) (f : ℕ) (r : Recall) (b : ℕ) → (b == r.birth) ≡ false → (k : Ask) (a : Answer) → is_number b (birth_in (recall_goes_on site h e f r k a)) ≡ false
goes_on_ended site h e f r b d (ask.Stage who files) a = subscribed_ended b (waits_for site h (ask.Stage who files) f) (length h + 1) r d
goes_on_ended site h e f r b d (ask.Repack who v) a = subscribed_ended b (waits_for site h (ask.Repack who v) f) (length h + 1) r d
goes_on_ended site h e f r b d (ask.Cancel who id paths) a =
    elim (has_text (path_of h f) paths.items) as (λ t. is_number b (birth_in (if t then unsubscribed id r else Some r)) ≡ false)
    [ true ↦ left_ended b r.birth _ d | false ↦ d ]
goes_on_ended site h e f r b d (ask.DropStage who id) a = left_ended b r.birth _ d
goes_on_ended site h e f r b d (ask.Recalled m job) (answer.Arrived fate.Done) = unless_ended b (same_job job (recall_job r.birth f)) r d
goes_on_ended site h e f r b d (ask.Failed m fault charged returned) a = unless_ended b (is_last_charge site h (ask.Failed m fault charged returned) (recall_job r.birth f)) r d
goes_on_ended site h e f r b d (ask.Delete who path) a = unless_ended b (bytes_eq path (path_of h f)) r d
goes_on_ended site h e f r b d (ask.TapeState who v s) a = unless_ended b (is_empty (places_of site (e ∷ h) f)) r d
goes_on_ended site h e f r b d _ a = d

pub born_ended : (b n : ℕ) (t : Bool) (r : Recall) → r.birth ≡ n → (b == n) ≡ false → is_number b (birth_in (if t then Some r else None)) ≡ false
born_ended b n true r is d = rw is d
born_ended b n false r is d = refl

pub born_now : (b n : ℕ) (t : Bool) (r : Recall) → r.birth ≡ n → is_number b (birth_in (if t then Some r else None)) ≡ true → b ≡ n
born_now b n true r is y = eqb-true b r.birth y ∙ is
born_now b n false r is y = absurd (cc)

pub after_ended : (site : Site) (h : History) (e : Entry) (f b : ℕ) → b ≤ length h → (o : Option Recall) → is_number b (birth_in o) ≡ false → is_number b (birth_in (recall_after site h e f o)) ≡ false
after_ended site h e f b low None d = born_ended b (length h + 1) (bears_recall site h e.ask f) _ refl (not_next b (length h) low)
after_ended site h e f b low (Some r) d = goes_on_ended site h e f r b d e.ask e.answer

-- once it has ended, it never lives again
pub stays_ended : (site : Site) (h : History) (e : Entry) (f b : ℕ) → b ≤ length h → IsEnded site h f b → IsEnded site (e ∷ h) f b
stays_ended site h e f b low d = after_ended site h e f b low (live_recall site h f) d

-- ---- what lives was born before

pub born_after : (site : Site) (h : History) (e : Entry) (f b : ℕ) (o : Option Recall) → is_number b (birth_in o) ≡ false → is_number b (birth_in (recall_after site h e f o)) ≡ true → b ≤ length h + 1
born_after site h e f b None d = λ y. (let x : b ≡ length h + 1 = born_now b (length h + 1) (bears_recall site h e.ask f) _ refl y in omega arith)
born_after site h e f b (Some r) d = λ y. (let z : is_number b (birth_in (recall_goes_on site h e f r e.ask e.answer)) ≡ false = goes_on_ended site h e f r b d e.ask e.answer in absurd (cc))

pub born_before : (site : Site) (h : History) (f b : ℕ) → is_number b (birth_in (live_recall site h f)) ≡ true → b ≤ length h
born_before site [] f b y = absurd (cc)
born_before site (e ∷ h) f b y =
    elim (bool_cases (is_number b (birth_in (live_recall site h f)))) [
      | inl live ↦ (let low : b ≤ length h = born_before site h f b live in omega arith)
      | inr d ↦ (let low : b ≤ length h + 1 = born_after site h e f b (live_recall site h f) d y in omega arith)
    ]

-- ---- an entry that completes it

pub made_job : ℕ → ℕ → ℕ → Job
made_job a b c = record { birth = a; file = b; copy = c }

pub job_eq : (a b c x y z : ℕ) → a ≡ x → b ≡ y → c ≡ z → made_job a b c ≡ made_job x y z
job_eq a b c x y z p q r = cc

pub same_job_eq : (i j : Job) → same_job i j ≡ true → i ≡ j
unfolding made_job
same_job_eq i j s =
    let p : (i.birth == j.birth ≡ true) × ((i.file == j.file) && (i.copy == j.copy) ≡ true) = and_parts _ _ s in
    let q : (i.file == j.file ≡ true) × (i.copy == j.copy ≡ true) = and_parts _ _ p.1 in
    job_eq i.birth i.file i.copy j.birth j.file j.copy (eqb-true _ _ p.0) (eqb-true _ _ q.0) (eqb-true _ _ q.1)

pub arrived_done : (live t : Bool) → answer.Arrived fate.Done ≡ refuse refusal.Unknown t (answer.Arrived (if live then fate.Done else fate.Stale)) → live ≡ true
arrived_done true t y = refl
arrived_done false true y = absurd (cc)
arrived_done false false y = absurd (cc)

pub lives : (site : Site) (h : History) (t : ℕ) (b f : ℕ) (k : Ask) (a : Answer) → a ≡ answer_of site h t k → completes k a (recall_job b f) ≡ true → is_number b (birth_in (live_recall site h f)) ≡ true
lives site h t b f (ask.Recalled m job) (answer.Arrived fate.Done) y c =
    let live : is_live_job site h job ≡ true = arrived_done (is_live_job site h job) (not (is_known h m (job ∷ []))) y in
    let same : job ≡ recall_job b f = same_job_eq job (recall_job b f) c in
    subst (λ (j : Job). is_live_job site h j ≡ true) same live
lives site h t b f _ a y c = absurd (cc)

pub ends : (site : Site) (h : History) (e : Entry) (f : ℕ) (r : Recall) (b : ℕ) (k : Ask) (a : Answer) → b ≡ r.birth → completes k a (recall_job b f) ≡ true → is_number b (birth_in (recall_goes_on site h e f r k a)) ≡ false
ends site h e f r b (ask.Recalled m job) (answer.Arrived fate.Done) same c =
    let hit : same_job job (recall_job r.birth f) ≡ true = subst (λ (n : ℕ). same_job job (recall_job n f) ≡ true) same c in
    rw hit refl
ends site h e f r b _ a same c = absurd (cc)

pub after_done : (site : Site) (h : History) (e : Entry) (f b : ℕ) (o : Option Recall) → is_number b (birth_in o) ≡ true → completes e.ask e.answer (recall_job b f) ≡ true → is_number b (birth_in (recall_after site h e f o)) ≡ false
after_done site h e f b None y c = absurd (cc)
after_done site h e f b (Some r) y c = ends site h e f r b e.ask e.answer (eqb-true _ _ y) c

-- a recall is not completed, or it was completed once and lives no more
pub Once : Site → History → ℕ → ℕ → Type 0
Once site h b f = (completions h (recall_job b f) ≡ 0) ⊎ ((completions h (recall_job b f) ≡ 1) × (b ≤ length h) × IsEnded site h f b)

pub once : (site : Site) (h : History) → IsLegal site h → (b f : ℕ) → Once site h b f
unfolding Once
once site [] legal b f = inl refl
once site (e ∷ h) legal b f =
    elim (bool_cases (completes e.ask e.answer (recall_job b f))) [
      | inl hit ↦
          (let live : is_number b (birth_in (live_recall site h f)) ≡ true = lives site h e.at b f e.ask e.answer legal.1.answered hit in
          elim (once site h legal.0 b f) [
            | inl none ↦ inr (rw (hit, none) refl, (let low : b ≤ length h = born_before site h f b live in omega arith), after_done site h e f b (live_recall site h f) live hit)
            | inr x ↦ (let gone : is_number b (birth_in (live_recall site h f)) ≡ false = x.2 in absurd (cc))
          ])
      | inr miss ↦
          elim (once site h legal.0 b f) [
            | inl none ↦ inl (rw (miss, none) refl)
            | inr x ↦ inr (rw (miss, x.0) refl, (let low : b ≤ length h = x.1 in omega arith), stays_ended site h e f b x.1 x.2)
          ]
    ]

pub completes_once : CompletesOnce
unfolding Once
completes_once site h legal b f = elim (once site h legal b f) [ inl a ↦ omega arith | inr a ↦ (let one : completions h (recall_job b f) ≡ 1 = a.0 in omega arith) ]
