-- The jobs of the files that paths name, path by path.
use Rattle.std.proofs.Common.{◌≡◌, ◌∙◌, ◌+◌, ◌<◌, ℕ, inl, inr, List, [], ◌∷◌, ◌++◌, Bool, true, false, ◌||◌, refl, sym, ap, length, drop, take, append_assoc}
use Rattle.std.specs.Prelude.{bytes_eq, if◌then◌else◌, get_or}
use Rattle.std.specs.BTreeSet.{BTreeSet, Updates}
use Rattle.std.specs.Cmp.Lexicographic.{slice_cmp}
use Rattle.std.specs.Ordering.{nat_cmp}
use Rattle.std.proofs.lemmas.List.{drop_more, take_more}
use Rattle.std.proofs.lemmas.Slice.Eq.{bytes_eq-Decides}
use denote.Ref.{Bor}
use Rattle.cta_site.proofs.Sets.{holds, holds-more}
use Rattle.cta_model.specs.declared.asks.Job.{Job}
use Rattle.cta_model.specs.History.{has_text}
use Rattle.cta_laws.proofs.Tests.{bool_cases}
use Rattle.part_model.specs.Names.{Names, file_in}
use Rattle.part_laws.specs.Operators.{retried_told, retried_with}
use Rattle.part_moves.proofs.LastOnes.{known_text, text_last}

-- the jobs depend on which paths are seen, and not on their order
told_same : (names : Names) (q : List Job) (n : ℕ) (s t ps : List (List ℕ)) → ((p : List ℕ) → has_text p s ≡ has_text p t) → retried_told names q n s ps ≡ retried_told names q n t ps
told_same names q n s t [] same = refl
told_same names q n s t (p ∷ ps) same =
    ap (λ (b : Bool). if b then retried_told names q n s ps else retried_with n q (file_in names p) ++ retried_told names q n (p ∷ s) ps) (same p)
    ∙ by (has_text p t) (told_same names q n s t ps same) (told_same names q n (p ∷ s) (p ∷ t) ps (λ x. ap (λ (b : Bool). bytes_eq x p || b) (same x)))
  where
    by : (b : Bool) → retried_told names q n s ps ≡ retried_told names q n t ps → retried_told names q n (p ∷ s) ps ≡ retried_told names q n (p ∷ t) ps
        → (if b then retried_told names q n s ps else retried_with n q (file_in names p) ++ retried_told names q n (p ∷ s) ps) ≡ (if b then retried_told names q n t ps else retried_with n q (file_in names p) ++ retried_told names q n (p ∷ t) ps)
    by true a c = a
    by false a c = ap (λ (js : List Job). retried_with n q (file_in names p) ++ js) c

-- one path more is seen
pub seen_more : (paths : List (List ℕ)) (i : ℕ) (d : List ℕ) (key : Bor (List ℕ)) (old new : BTreeSet (Bor (List ℕ))) → i < length paths → key.now ≡ get_or paths i d
    → Updates (λ x y. slice_cmp nat_cmp x.now y.now) old new key true → ((path : List ℕ) → holds old path ≡ has_text path (take i paths)) → (path : List ℕ) → holds new path ≡ has_text path (take (i + 1) paths)
seen_more paths i d key old new low is updates was path =
    holds-more old new key (take i paths) updates was path
    ∙ ap (λ (p : List ℕ). has_text path (take i paths ++ p ∷ [])) is
    ∙ ap (has_text path) (sym (take_more paths i d low))

-- a path that was named before adds nothing
pub made_again : (names : Names) (q : List Job) (n i : ℕ) (d : List ℕ) (ps : List (List ℕ)) (js all : List Job) → i < length ps → has_text (get_or ps i d) (take i ps) ≡ true
    → js ++ retried_told names q n (take i ps) (drop i ps) ≡ all → js ++ retried_told names q n (take (i + 1) ps) (drop (i + 1) ps) ≡ all
made_again names q n i d ps js all low there was =
    ap (λ (xs : List Job). js ++ xs)
    (told_same names q n (take (i + 1) ps) (take i ps) (drop (i + 1) ps) (λ p. ap (has_text p) (take_more ps i d low) ∙ text_last p (get_or ps i d) (take i ps) ∙ known_text p (get_or ps i d) (take i ps) there))
    ∙ sym (ap (λ (xs : List (List ℕ)). js ++ retried_told names q n (take i ps) xs) (drop_more ps i d low)
    ∙ ap (λ (b : Bool). js ++ (if b then retried_told names q n (take i ps) (drop (i + 1) ps) else retried_with n q (file_in names (get_or ps i d)) ++ retried_told names q n (get_or ps i d ∷ take i ps) (drop (i + 1) ps))) there)
    ∙ was

-- a path that is new adds the jobs of its file
pub made_new : (names : Names) (q : List Job) (n i : ℕ) (d : List ℕ) (ps : List (List ℕ)) (js js' all : List Job) → i < length ps → has_text (get_or ps i d) (take i ps) ≡ false → js' ≡ js ++ retried_with n q (file_in names (get_or ps i d))
    → js ++ retried_told names q n (take i ps) (drop i ps) ≡ all → js' ++ retried_told names q n (take (i + 1) ps) (drop (i + 1) ps) ≡ all
made_new names q n i d ps js js' all low new pushed was =
    ap (λ (xs : List Job). xs ++ retried_told names q n (take (i + 1) ps) (drop (i + 1) ps)) pushed
    ∙ append_assoc js (retried_with n q (file_in names (get_or ps i d))) (retried_told names q n (take (i + 1) ps) (drop (i + 1) ps))
    ∙ ap (λ (xs : List Job). js ++ (retried_with n q (file_in names (get_or ps i d)) ++ xs))
    (told_same names q n (take (i + 1) ps) (get_or ps i d ∷ take i ps) (drop (i + 1) ps) (λ p. ap (has_text p) (take_more ps i d low) ∙ text_last p (get_or ps i d) (take i ps)))
    ∙ sym (ap (λ (xs : List (List ℕ)). js ++ retried_told names q n (take i ps) xs) (drop_more ps i d low)
    ∙ ap (λ (b : Bool). js ++ (if b then retried_told names q n (take i ps) (drop (i + 1) ps) else retried_with n q (file_in names (get_or ps i d)) ++ retried_told names q n (get_or ps i d ∷ take i ps) (drop (i + 1) ps))) new)
    ∙ was
