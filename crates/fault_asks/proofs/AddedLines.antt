-- Lines that are added to queues, and jobs of one direction.
use Rattle.std.proofs.Common.{◌≡◌, ◌∙◌, ℕ, List, [], ◌∷◌, ◌++◌, Bool, true, false, ◌||◌, refl, ap, arith}
use Rattle.std.specs.Prelude.{Option, Some, None, if◌then◌else◌, ◌==◌, filter}
use Rattle.cta_site.specs.declared.site.Site.{Site}
use Rattle.cta_model.specs.declared.asks.Direction.{Direction}
use Rattle.cta_model.specs.declared.asks.Job.{Job}
use Rattle.cta_model.specs.History.{History}
use Rattle.cta_model.specs.Mounts.{has_job, same_direction, same_job}
use Rattle.cta_model.specs.Queues.{direction_of, key_of}
use Rattle.part_model.specs.declared.jobs.Line.{Line}
use Rattle.part_model.specs.Queues.{Lines, add_at, insert_line}
use Rattle.part_laws.specs.Lines.{add_jobs, line_of, of_way}
use Rattle.fault_asks.specs.Failing.{add_by}
use Rattle.fault_asks.proofs.EndedJobs.{filter_on}
use Rattle.part_moves.proofs.AddedLines.{add_same}

-- ---- lines

pub by_same : (key : Job → Option ℕ) (line : Job → Line) (js : List Job) (a b : Lines) (k : ℕ) → a k ≡ b k → add_by key line js a k ≡ add_by key line js b k
by_same key line [] a b k e = e
by_same key line (j ∷ js) a b k e = add_same (key j) (line j) (add_by key line js a) (add_by key line js b) k (by_same key line js a b k e)

pub by_both : (key : Job → Option ℕ) (line : Job → Line) (xs ys : List Job) (a : Lines) → add_by key line xs (add_by key line ys a) ≡ add_by key line (xs ++ ys) a
by_both key line [] ys a = refl
by_both key line (x ∷ xs) ys a = ap (add_at (key x) (line x)) (by_both key line xs ys a)

-- jobs with the keys and the lines of a longer history
pub by_jobs : (site : Site) (g : History) (way : Direction) (key : Job → Option ℕ) (line : Job → Line) (js : List Job) (a : Lines) → ((j : Job) → has_job j js ≡ true → (key j ≡ key_of site g j) × (line j ≡ line_of site g way j))
    → add_by key line js a ≡ add_jobs site g way js a
by_jobs site g way key line [] a same = refl
by_jobs site g way key line (j ∷ js) a same =
    let here = same j (first_has (same_job j j) (has_job j js) (grind arith)) in
    ap (add_at (key j) (line j)) (by_jobs site g way key line js a (λ i there. same i (or_back (same_job i j) (has_job i js) there)))
    ∙ ap (λ (o : Option ℕ). add_at o (line j) (add_jobs site g way js a)) here.0
    ∙ ap (λ (l : Line). add_at (key_of site g j) l (add_jobs site g way js a)) here.1
  where
    first_has : (a b : Bool) → a ≡ true → (a || b) ≡ true
    first_has true b e = refl
    first_has false b e = absurd (cc)

    or_back : (a b : Bool) → b ≡ true → (a || b) ≡ true
    or_back true b e = refl
    or_back false b e = e

-- jobs of one direction
pub all_way : (way : Direction) (js : List Job) → ((j : Job) → has_job j js ≡ true → same_direction way (direction_of j) ≡ true) → of_way way js ≡ js
all_way way js each = filter_on (λ j. same_direction way (direction_of j)) (λ j. true) js each ∙ whole js
  where
    whole : (xs : List Job) → filter (λ (j : Job). true) xs ≡ xs
    whole [] = refl
    whole (x ∷ xs) = ap (λ (ys : List Job). x ∷ ys) (whole xs)

pub none_way : (way : Direction) (js : List Job) → ((j : Job) → has_job j js ≡ true → same_direction way (direction_of j) ≡ false) → of_way way js ≡ []
none_way way js each = filter_on (λ j. same_direction way (direction_of j)) (λ j. false) js each ∙ none js
  where
    none : (xs : List Job) → filter (λ (j : Job). false) xs ≡ []
    none [] = refl
    none (x ∷ xs) = none xs
