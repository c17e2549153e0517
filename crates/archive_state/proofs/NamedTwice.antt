-- Jobs that are named twice in two lists together.
use Rattle.std.proofs.Common.{◌≡◌, ◌∙◌, List, [], ◌∷◌, ◌++◌, Bool, true, false, ◌||◌, refl, ap, arith}
use Rattle.std.specs.List.{list_any}
use Rattle.std.proofs.lemmas.List.Folds.{list_any-append}
use Rattle.cta_model.specs.declared.asks.Job.{Job}
use Rattle.cta_model.specs.Answers.{names_twice}
use Rattle.cta_model.specs.Mounts.{has_job, same_job}

regroup : (a b c d e : Bool) → ((a || b) || (c || (d || e))) ≡ ((a || c) || ((b || d) || e))
regroup a b c d e = grind arith

twice_in_both : (xs ys : List Job) → names_twice (xs ++ ys) ≡ (names_twice xs || (list_any (λ j. has_job j ys) xs || names_twice ys))
twice_in_both [] ys = refl
twice_in_both (x ∷ xs) ys =
    ap (λ (b : Bool). b || names_twice (xs ++ ys)) (list_any-append (same_job x) xs ys)
    ∙ ap (λ (b : Bool). (has_job x xs || has_job x ys) || b) (twice_in_both xs ys)
    ∙ regroup (has_job x xs) (has_job x ys) (names_twice xs) (list_any (λ j. has_job j ys) xs) (names_twice ys)

first_is : (a b c d : Bool) → d ≡ (a || (b || c)) → a ≡ true → true ≡ d
first_is a b c d is e = grind arith

shared_is : (a b c d : Bool) → d ≡ (a || (b || c)) → b ≡ true → true ≡ d
shared_is a b c d is e = grind arith

last_is : (a b c d : Bool) → d ≡ (a || (b || c)) → a ≡ false → b ≡ false → c ≡ d
last_is a b c d is e f = grind arith

-- a job is named twice in the first
pub in_first : (xs ys : List Job) → names_twice xs ≡ true → true ≡ names_twice (xs ++ ys)
in_first xs ys = first_is (names_twice xs) (list_any (λ j. has_job j ys) xs) (names_twice ys) (names_twice (xs ++ ys)) (twice_in_both xs ys)

-- or in both
pub in_both : (xs ys : List Job) → list_any (λ j. has_job j ys) xs ≡ true → true ≡ names_twice (xs ++ ys)
in_both xs ys = shared_is (names_twice xs) (list_any (λ j. has_job j ys) xs) (names_twice ys) (names_twice (xs ++ ys)) (twice_in_both xs ys)

-- and otherwise in the second, if at all
pub in_second : (xs ys : List Job) → names_twice xs ≡ false → list_any (λ j. has_job j ys) xs ≡ false → names_twice ys ≡ names_twice (xs ++ ys)
in_second xs ys = last_is (names_twice xs) (list_any (λ j. has_job j ys) xs) (names_twice ys) (names_twice (xs ++ ys)) (twice_in_both xs ys)
