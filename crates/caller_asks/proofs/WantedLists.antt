-- The files that a request is made of, made one by one.
use Rattle.std.proofs.Common.{◌≡◌, ◌∙◌, ◌+◌, ◌<◌, ℕ, inl, inr, List, [], ◌∷◌, ◌++◌, Bool, true, false, ◌||◌, refl, sym, ap, length, map, drop, append_assoc}
use Rattle.std.specs.Prelude.{bytes_eq, if◌then◌else◌, get_or}
use Rattle.std.specs.BTreeSet.{BTreeSet, Updates}
use Rattle.std.specs.Cmp.Lexicographic.{slice_cmp}
use Rattle.std.specs.Ordering.{nat_cmp}
use Rattle.std.proofs.lemmas.List.{drop_more}
use Rattle.std.proofs.lemmas.Slice.Eq.{bytes_eq-Decides}
use denote.Ref.{Bor}
use Rattle.cta_site.proofs.Sets.{holds, holds-more}
use Rattle.cta_model.specs.declared.asks.Wanted.{Wanted}
use Rattle.cta_model.specs.declared.states.StageFile.{StageFile}
use Rattle.cta_model.specs.History.{has_text}
use Rattle.cta_model.specs.Stages.{first_named}
use Rattle.cta_laws.proofs.Tests.{bool_cases}
use Rattle.part_model.specs.Names.{Names}
use Rattle.caller_asks.specs.Wanted.{asked_in}
use Rattle.part_moves.proofs.LastOnes.{known_text, text_last}

-- the paths of files of a request
abbrev pub paths_in : List StageFile → List (List ℕ)
paths_in ss = map (λ (s : StageFile). s.path) ss

-- what is named first depends on which paths are seen, and not on their order
first_same : (s t : List (List ℕ)) (ws : List Wanted) → ((p : List ℕ) → has_text p s ≡ has_text p t) → first_named s ws ≡ first_named t ws
first_same s t [] same = refl
first_same s t (w ∷ ws) same =
    ap (λ (b : Bool). if b then first_named s ws else w ∷ first_named (w.path ∷ s) ws) (same w.path)
    ∙ by (has_text w.path t) (first_same s t ws same) (first_same (w.path ∷ s) (w.path ∷ t) ws (λ p. ap (λ (b : Bool). bytes_eq p w.path || b) (same p)))
  where
    by : (b : Bool) → first_named s ws ≡ first_named t ws → first_named (w.path ∷ s) ws ≡ first_named (w.path ∷ t) ws
        → (if b then first_named s ws else w ∷ first_named (w.path ∷ s) ws) ≡ (if b then first_named t ws else w ∷ first_named (w.path ∷ t) ws)
    by true a c = a
    by false a c = ap (λ (xs : List Wanted). w ∷ xs) c

or_swap : (a b : Bool) → (a || (b || false)) ≡ (b || a)
or_swap true true = refl
or_swap true false = refl
or_swap false true = refl
or_swap false false = refl

paths_last : (ss : List StageFile) (s : StageFile) → paths_in (ss ++ s ∷ []) ≡ paths_in ss ++ s.path ∷ []
paths_last [] s = refl
paths_last (r ∷ ss) s = ap (λ (ps : List (List ℕ)). r.path ∷ ps) (paths_last ss s)

-- ---- a path that is seen

pub seen_again : (key : Bor (List ℕ)) (old new : BTreeSet (Bor (List ℕ))) (ps : List (List ℕ)) (p : List ℕ) → key.now ≡ p → Updates (λ x y. slice_cmp nat_cmp x.now y.now) old new key true
    → ((path : List ℕ) → holds old path ≡ has_text path ps) → holds old key.now ≡ true → (path : List ℕ) → holds new path ≡ has_text path ps
seen_again key old new ps p is updates was there path = holds-more old new key ps updates was path ∙ text_last path key.now ps ∙ known_text path key.now ps (sym (was key.now) ∙ there)

pub passed_again : (names : Names) (lifetime i : ℕ) (d : Wanted) (ws : List Wanted) (ss all : List StageFile) → i < length ws → has_text (get_or ws i d).path (paths_in ss) ≡ true
    → ss ++ map (asked_in names lifetime) (first_named (paths_in ss) (drop i ws)) ≡ all → ss ++ map (asked_in names lifetime) (first_named (paths_in ss) (drop (i + 1) ws)) ≡ all
passed_again names lifetime i d ws ss all low there was =
    sym (ap (λ (xs : List Wanted). ss ++ map (asked_in names lifetime) (first_named (paths_in ss) xs)) (drop_more ws i d low)
    ∙ ap (λ (b : Bool). ss ++ map (asked_in names lifetime) (if b then first_named (paths_in ss) (drop (i + 1) ws) else get_or ws i d ∷ first_named ((get_or ws i d).path ∷ paths_in ss) (drop (i + 1) ws))) there)
    ∙ was

-- ---- a path that is new

pub seen_new : (key : Bor (List ℕ)) (old new : BTreeSet (Bor (List ℕ))) (ss ss' : List StageFile) (s : StageFile) → ss' ≡ ss ++ s ∷ [] → key.now ≡ s.path → Updates (λ x y. slice_cmp nat_cmp x.now y.now) old new key true
    → ((path : List ℕ) → holds old path ≡ has_text path (paths_in ss)) → (path : List ℕ) → holds new path ≡ has_text path (paths_in ss')
seen_new key old new ss ss' s pushed is updates was path =
    holds-more old new key (paths_in ss) updates was path
    ∙ ap (λ (p : List ℕ). has_text path (paths_in ss ++ p ∷ [])) is
    ∙ ap (has_text path) (sym (ap paths_in pushed ∙ paths_last ss s))

pub made_new : (names : Names) (lifetime i : ℕ) (d : Wanted) (ws : List Wanted) (ss ss' all : List StageFile) → i < length ws → has_text (get_or ws i d).path (paths_in ss) ≡ false → ss' ≡ ss ++ asked_in names lifetime (get_or ws i d) ∷ []
    → ss ++ map (asked_in names lifetime) (first_named (paths_in ss) (drop i ws)) ≡ all → ss' ++ map (asked_in names lifetime) (first_named (paths_in ss') (drop (i + 1) ws)) ≡ all
made_new names lifetime i d ws ss ss' all low new pushed was =
    ap (λ (xs : List StageFile). xs ++ map (asked_in names lifetime) (first_named (paths_in xs) (drop (i + 1) ws))) pushed
    ∙ ap (λ (ps : List (List ℕ)). (ss ++ asked_in names lifetime (get_or ws i d) ∷ []) ++ map (asked_in names lifetime) (first_named ps (drop (i + 1) ws))) (paths_last ss (asked_in names lifetime (get_or ws i d)))
    ∙ ap (λ (xs : List Wanted). (ss ++ asked_in names lifetime (get_or ws i d) ∷ []) ++ map (asked_in names lifetime) xs)
    (first_same (paths_in ss ++ (get_or ws i d).path ∷ []) ((get_or ws i d).path ∷ paths_in ss) (drop (i + 1) ws) (λ p. text_last p (get_or ws i d).path (paths_in ss)))
    ∙ append_assoc ss (asked_in names lifetime (get_or ws i d) ∷ []) (map (asked_in names lifetime) (first_named ((get_or ws i d).path ∷ paths_in ss) (drop (i + 1) ws)))
    ∙ sym (ap (λ (xs : List Wanted). ss ++ map (asked_in names lifetime) (first_named (paths_in ss) xs)) (drop_more ws i d low)
    ∙ ap (λ (b : Bool). ss ++ map (asked_in names lifetime) (if b then first_named (paths_in ss) (drop (i + 1) ws) else get_or ws i d ∷ first_named ((get_or ws i d).path ∷ paths_in ss) (drop (i + 1) ws))) new)
    ∙ was
