-- A live recall has its subscribers waiting, but for those that have left its path.
use Rattle.std.proofs.Common.{◌≡◌, ℕ, ◌+◌, ◌≤◌, ◌<◌, inl, inr, List, [], ◌∷◌, ◌++◌, Bool, true, false, ◌||◌, not, refl, sym, ◌∙◌, ap, subst, arith, length}
use Rattle.std.specs.Prelude.{Option, Some, None, is_some, is_none, if◌then◌else◌, ◌==◌, ◌&&◌, filter}
use Rattle.std.proofs.lemmas.Bool.{and_parts, eqb-true, eq-eqb}
use Rattle.cta_site.specs.declared.site.Site.{Site}
use Rattle.cta_model.specs.declared.entries.Entry.{Entry}
use Rattle.cta_model.specs.declared.asks.Ask.{Ask}
use Rattle.cta_model.specs.declared.asks.Ask.TheVariants as ask
use Rattle.cta_model.specs.declared.answers.Answer.{Answer}
use Rattle.cta_model.specs.declared.asks.Job.{Job}
use Rattle.cta_model.specs.History.{History, is_number}
use Rattle.cta_model.specs.Files.{path_of}
use Rattle.cta_model.specs.Recalls.{Recall, live_recall, recall_job, waits_for}
use Rattle.cta_model.specs.Jobs.{is_live_job, subscribes, subscribers_of}
use Rattle.cta_model.specs.Stages.{request_of}
use Rattle.cta_model.specs.Legal.{IsLegal}
use Rattle.cta_laws.specs.Stages.{takes_path, has_left, SubscribersWait}
use Rattle.cta_laws.proofs.Tests.{bool_cases}
use Rattle.cta_laws.proofs.Accepted.{answer_is}
use Rattle.cta_laws.specs.Asks.{AnswerIs}
use Rattle.cta_laws.proofs.Requests.{request_low}
use Rattle.cta_laws.proofs.PlaceLaw.{path_older, named_within}
use Rattle.cta_laws.proofs.OnceLaw.{birth_in}
use Rattle.cta_laws.proofs.EndLaw.{live_before}
use Rattle.cta_laws.proofs.JobLaw.{not_true}
use Rattle.cta_laws.proofs.ResidentLaw.{recall_live}
use Rattle.cta_laws.proofs.WaitLists.{goes_on, is_born}

-- ---- lists

filter_append : (keep : ℕ → Bool) (xs ys : List ℕ) → filter keep (xs ++ ys) ≡ filter keep xs ++ filter keep ys
filter_append keep [] ys = refl
filter_append keep (x ∷ xs) ys = elim (keep x) as (λ b. (if b then x ∷ filter keep (xs ++ ys) else filter keep (xs ++ ys)) ≡ (if b then x ∷ filter keep xs else filter keep xs) ++ filter keep ys) [ true ↦ ap (λ (zs : List ℕ). x ∷ zs) (filter_append keep xs ys) | false ↦ filter_append keep xs ys ]

filter_both : (p q : ℕ → Bool) (xs : List ℕ) → filter (λ n. not (p n)) (filter (λ n. not (q n)) xs) ≡ filter (λ n. not (p n || q n)) xs
filter_both p q [] = refl
filter_both p q (x ∷ xs) = by (p x) refl (q x) refl (filter_both p q xs)
  where
    by : (a : Bool) → p x ≡ a → (b : Bool) → q x ≡ b → filter (λ n. not (p n)) (filter (λ n. not (q n)) xs) ≡ filter (λ n. not (p n || q n)) xs → filter (λ n. not (p n)) (if not b then x ∷ filter (λ n. not (q n)) xs else filter (λ n. not (q n)) xs) ≡ (if not (a || b) then x ∷ filter (λ n. not (p n || q n)) xs else filter (λ n. not (p n || q n)) xs)
    by true ea true eb rest = rest
    by false ea true eb rest = rest
    by true ea false eb rest = rw ea rest
    by false ea false eb rest = rw ea (ap (λ (zs : List ℕ). x ∷ zs) rest)

-- ---- nobody has left before it came

not_there : (site : Site) (h : History) (n k : ℕ) → length h < n → is_some (request_of site h k) ≡ true → (k == n) ≡ false
not_there site h n k high on = elim (bool_cases (k == n)) [ inl hit ↦ (let same : k ≡ n = eqb-true _ _ hit in let low : k ≤ length h = (request_low site h k on).1 in absurd (omega arith)) | inr miss ↦ miss ]

takes_none : (site : Site) (h : History) (t n : ℕ) (path : List ℕ) (k : Ask) (a : Answer) → length h < n → AnswerIs site h t k a → takes_path k n path ≡ false
takes_none site h t n path (ask.Cancel who k paths) a high is = rw (not_there site h n k high is.1) refl
takes_none site h t n path (ask.DropStage who k) a high is = not_there site h n k high (some (request_of site h k) is.1)
  where
    some : {A : Type 0} (o : Option A) → is_none o ≡ false → is_some o ≡ true
    some None e = absurd (cc)
    some (Some x) e = refl
takes_none site h t n path _ a high is = refl

none_left : (site : Site) (h : History) → IsLegal site h → (n : ℕ) (path : List ℕ) → length h < n → has_left h n path ≡ false
none_left site [] legal n path high = refl
none_left site (e ∷ h) legal n path high = rw (takes_none site h _ n path e.ask e.answer (omega arith) (answer_is site h e.at e.ask e.answer legal.1.answered legal.1.accepted), none_left site h legal.0 n path (omega arith)) refl

-- ---- nobody subscribes to a recall that is not born

not_live : (site : Site) (h : History) (n f : ℕ) → length h < n → is_live_job site h (recall_job n f) ≡ false
not_live site h n f high = not_true (is_live_job site h (recall_job n f)) (λ live. (let low : n ≤ length h = live_before site h (recall_job n f) live in absurd (omega arith)))

no_subscribers : (site : Site) (h : History) (n f : ℕ) → length h < n → subscribers_of site h (recall_job n f) ≡ []
no_subscribers site [] n f high = refl
no_subscribers site (e ∷ h) n f high =
    rw (no_subscribers site h n f (omega arith), next_is (length h) n (omega arith), not_live site h n f (omega arith)) (by (waits_for site h e.ask f))
  where
    next_is : (k n : ℕ) → k + 1 < n → (k + 1 == n) ≡ false
    next_is k n low = elim (bool_cases (k + 1 == n)) [ inl hit ↦ (let same : k + 1 ≡ n = eqb-true _ _ hit in absurd (omega arith)) | inr miss ↦ miss ]

    by : (b : Bool) → ◌≡◌ {A = List ℕ} (if b && false then (length h + 1) ∷ [] else []) []
    by true = refl
    by false = refl

-- ---- the law

-- an ask that waits takes no path
waiter_takes : (site : Site) (h : History) (k : Ask) (f n : ℕ) (path : List ℕ) → waits_for site h k f ≡ true → takes_path k n path ≡ false
waiter_takes site h (ask.Stage who files) f n path w = refl
waiter_takes site h (ask.Repack who v) f n path w = refl
waiter_takes site h _ f n path w = absurd (cc)

subscribes_if : (site : Site) (h : History) (k : Ask) (j : Job) → is_live_job site h j ≡ true → subscribes site h k j ≡ waits_for site h k j.file
subscribes_if site h k j live = rw live (by (waits_for site h k j.file) (length h + 1 == j.birth))
  where
    by : (w b : Bool) → (w && (b || true)) ≡ w
    by true true = refl
    by true false = refl
    by false b = refl

-- the newest subscriber stays
newest_stays : (site : Site) (h : History) (e : Entry) (f : ℕ) (path : List ℕ) → IsLegal site h → filter (λ id. not (has_left (e ∷ h) id path)) (if waits_for site h e.ask f then (length h + 1) ∷ [] else []) ≡ (if waits_for site h e.ask f then (length h + 1) ∷ [] else [])
newest_stays site h e f path legal = by (waits_for site h e.ask f) refl
  where
    by : (b : Bool) → waits_for site h e.ask f ≡ b → filter (λ id. not (has_left (e ∷ h) id path)) (if b then (length h + 1) ∷ [] else []) ≡ (if b then (length h + 1) ∷ [] else [])
    by true w = rw (waiter_takes site h e.ask f (length h + 1) path w, none_left site h legal (length h + 1) path (omega arith)) refl
    by false w = refl

abbrev Wait : Site → History → ℕ → Recall → Type 0
Wait site h f r = r.waiting ≡ filter (λ id. not (has_left h id (path_of h f))) (subscribers_of site h (recall_job r.birth f))

wait_born : (site : Site) (h : History) (e : Entry) (f : ℕ) (r : Recall) → IsLegal site (e ∷ h) → live_recall site h f ≡ None → live_recall site (e ∷ h) f ≡ Some r → Wait site (e ∷ h) f r
wait_born site h e f r legal was is =
    let b = is_born site h e f r was is in
    let w : waits_for site h e.ask f ≡ true = (and_parts (waits_for site h e.ask f) _ b.bears).0 in
    let one : subscribers_of site (e ∷ h) (recall_job (length h + 1) f) ≡ (length h + 1) ∷ [] = rw (no_subscribers site h (length h + 1) f (omega arith), w, eq-eqb (length h + 1) (length h + 1) refl) refl in
    let stays : filter (λ id. not (has_left (e ∷ h) id (path_of (e ∷ h) f))) ((length h + 1) ∷ []) ≡ (length h + 1) ∷ [] = subst (λ (b : Bool). filter (λ id. not (has_left (e ∷ h) id (path_of (e ∷ h) f))) (if b then (length h + 1) ∷ [] else []) ≡ (if b then (length h + 1) ∷ [] else [])) w (newest_stays site h e f (path_of (e ∷ h) f) legal.0) in
    b.waiting ∙ sym (ap (λ (n : ℕ). filter (λ id. not (has_left (e ∷ h) id (path_of (e ∷ h) f))) (subscribers_of site (e ∷ h) (recall_job n f))) b.birth ∙ ap (filter (λ id. not (has_left (e ∷ h) id (path_of (e ∷ h) f)))) one ∙ stays)

wait_on : (site : Site) (h : History) (e : Entry) (f : ℕ) (q r : Recall) → IsLegal site (e ∷ h) → live_recall site h f ≡ Some q → live_recall site (e ∷ h) f ≡ Some r → Wait site h f q → Wait site (e ∷ h) f r
wait_on site h e f q r legal was is wait =
    let g = goes_on site h e f q r was is in
    let low : f ≤ length h = (named_within h f (path_of h f) (recall_live site h legal.0 f (ap is_some was))).1 in
    let live : is_live_job site h (recall_job q.birth f) ≡ true = ap (λ (o : Option Recall). is_number q.birth (birth_in o)) was ∙ eq-eqb q.birth q.birth refl in
    let subs : List ℕ = subscribers_of site h (recall_job q.birth f) in
    let new : List ℕ = if waits_for site h e.ask f then (length h + 1) ∷ [] else [] in
    let left : filter (λ id. not (takes_path e.ask id (path_of h f))) q.waiting ≡ filter (λ id. not (has_left (e ∷ h) id (path_of h f))) (subscribers_of site h (recall_job q.birth f)) =
    ap (filter (λ id. not (takes_path e.ask id (path_of h f)))) wait ∙ filter_both (λ id. takes_path e.ask id (path_of h f)) (λ id. has_left h id (path_of h f)) (subscribers_of site h (recall_job q.birth f)) in
    let more : subscribers_of site (e ∷ h) (recall_job q.birth f) ≡ subscribers_of site h (recall_job q.birth f) ++ (if waits_for site h e.ask f then (length h + 1) ∷ [] else []) =
    ap (λ (b : Bool). subscribers_of site h (recall_job q.birth f) ++ (if b then (length h + 1) ∷ [] else [])) (subscribes_if site h e.ask (recall_job q.birth f) live) in
    g.waiting
    ∙ ap (λ (ws : List ℕ). ws ++ (if waits_for site h e.ask f then (length h + 1) ∷ [] else [])) left
    ∙ ap (λ (ws : List ℕ). filter (λ id. not (has_left (e ∷ h) id (path_of h f))) (subscribers_of site h (recall_job q.birth f)) ++ ws) (sym (newest_stays site h e f (path_of h f) legal.0))
    ∙ sym (filter_append (λ id. not (has_left (e ∷ h) id (path_of h f))) (subscribers_of site h (recall_job q.birth f)) (if waits_for site h e.ask f then (length h + 1) ∷ [] else []))
    ∙ ap (filter (λ id. not (has_left (e ∷ h) id (path_of h f)))) (sym more)
    ∙ ap (λ (p : List ℕ). filter (λ id. not (has_left (e ∷ h) id p)) (subscribers_of site (e ∷ h) (recall_job q.birth f))) (sym (path_older e h f low))
    ∙ ap (λ (n : ℕ). filter (λ id. not (has_left (e ∷ h) id (path_of (e ∷ h) f))) (subscribers_of site (e ∷ h) (recall_job n f))) (sym g.birth)

pub subscribers_wait : SubscribersWait
subscribers_wait site [] legal f r is = absurd (cc)
subscribers_wait site (e ∷ h) legal f r is = by (live_recall site h f) refl (λ q x. subscribers_wait site h legal.0 f q x)
  where
    by : (o : Option Recall) → live_recall site h f ≡ o → ((q : Recall) → live_recall site h f ≡ Some q → Wait site h f q) → Wait site (e ∷ h) f r
    by None was older = wait_born site h e f r legal was is
    by (Some q) was older = wait_on site h e f q r legal was is (older q was)
