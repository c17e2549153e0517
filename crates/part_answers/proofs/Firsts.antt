-- The first of a list of candidates, and the choice of a drive.
use Rattle.std.proofs.Common.{◌≡◌, ℕ, ◌⊎◌, inl, inr, List, [], ◌∷◌, ◌++◌, Bool, true, false, ◌&&◌, refl, sym, ◌∙◌, ap₂, subst, arith, length}
use Rattle.std.specs.Prelude.{Contains, MatchOption, Option, Some, None, if◌then◌else◌}
use Rattle.std.specs.List.{AllByRecursion, range_with_len}
use Rattle.std.proofs.lemmas.Bool.{cases_Bool}
use Rattle.std.proofs.lemmas.List.Elements.{All-contains, All-from_recursion, Contains-append_right}
use Rattle.cta_site.specs.declared.site.Site.{Site}
use Rattle.cta_model.specs.declared.asks.Direction.{Direction}
use Rattle.cta_model.specs.declared.asks.Direction.TheVariants as direction
use Rattle.cta_model.specs.declared.states.Candidate.{Candidate}
use Rattle.cta_model.specs.declared.states.Sums.{Sums}
use Rattle.cta_model.specs.History.{History}
use Rattle.cta_model.specs.Queues.{queue_of, sums_of}
use Rattle.cta_model.specs.Choice.{better_of, candidate_by, candidate_of, candidates, candidates_by, first_of, fits_drive, goes_before, is_warranted, mount_choice, tape_for}
use Rattle.part_answers.specs.First.{ChoiceIsLeast, IsFirst, IsLeast, RankAlike}
use Rattle.part_answers.proofs.Orders.{alike_not, are_alike, not_through, one_before}

-- ---- lists

all_weaker : (P Q : Candidate → Type 0) → ((c : Candidate) → P c → Q c) → (list : List Candidate) → AllByRecursion P list → AllByRecursion Q list
all_weaker P Q step [] all = tt
all_weaker P Q step (c ∷ list) all = (step c all.0, all_weaker P Q step list all.1)

all_append : (P : Candidate → Type 0) (xs ys : List Candidate) → AllByRecursion P xs → AllByRecursion P ys → AllByRecursion P (xs ++ ys)
all_append P [] ys a b = b
all_append P (x ∷ xs) ys a b = (a.0, all_append P xs ys a.1 b)

all_at : (P : Candidate → Type 0) (list : List Candidate) → AllByRecursion P list → (c : Candidate) → Contains list c → P c
all_at P list all c there = All-contains P list c (All-from_recursion P list all) there

-- ---- the first of a list

-- the same as IsFirst, along the list
record First (list : List Candidate) (c : Candidate) : Type 0 where
  listed : Contains list c
  behind_none : AllByRecursion (λ (o : Candidate). goes_before o c ≡ false) list
  before_others : AllByRecursion (λ (o : Candidate). (goes_before c o ≡ true) ⊎ RankAlike c o) list

alike_itself : (c : Candidate) → RankAlike c c
alike_itself c = record { priority = refl; direction = refl; birth = refl; key = refl }

before_or_alike : (c o : Candidate) → goes_before o c ≡ false → (goes_before c o ≡ true) ⊎ RankAlike c o
before_or_alike c o none =
    elim (cases_Bool (goes_before c o)) [ inl holds ↦ inl holds | inr fails ↦ inr (are_alike c o fails none) ]

-- in front of a list with that first, a candidate that the first goes before
stays_first : (c b : Candidate) (list : List Candidate) → First list b → goes_before b c ≡ true → First (c ∷ list) b
stays_first c b list f holds = record {
  listed = Contains-append_right (c ∷ []) list b f.listed;
  behind_none = (one_before b c holds, f.behind_none);
  before_others = (inl holds, f.before_others);
}

-- in front of a list with that first, a candidate that the first does not go before
comes_first : (c b : Candidate) (list : List Candidate) → First list b → goes_before b c ≡ false → First (c ∷ list) c
comes_first c b list f fails =
    let itself : goes_before c c ≡ false = alike_not c c (alike_itself c) in
    let none : AllByRecursion (λ (o : Candidate). goes_before o c ≡ false) list =
    all_weaker (λ (o : Candidate). goes_before o b ≡ false) (λ (o : Candidate). goes_before o c ≡ false) (λ o below. not_through b o c below fails) list f.behind_none in
    record {
      listed = (0, omega (arith), refl);
      behind_none = (itself, none);
      before_others = (before_or_alike c c itself, all_weaker (λ (o : Candidate). goes_before o c ≡ false) (λ (o : Candidate). (goes_before c o ≡ true) ⊎ RankAlike c o) (before_or_alike c) list none);
    }

alone : (c : Candidate) → First (c ∷ []) c
alone c =
    let itself : goes_before c c ≡ false = alike_not c c (alike_itself c) in
    record { listed = (0, omega (arith), refl); behind_none = (itself, tt); before_others = (inr (alike_itself c), tt) }

better_first : (c : Candidate) (list : List Candidate) (o : Option Candidate) → MatchOption o (list ≡ []) (First list) → MatchOption (better_of c o) (c ∷ list ≡ []) (First (c ∷ list))
better_first c list None e = subst (λ (l : List Candidate). First (c ∷ l) c) (sym e) (alone c)
better_first c list (Some b) f =
    elim (goes_before b c) as (λ (t : Bool). goes_before b c ≡ t → MatchOption (if t then Some b else Some c) (c ∷ list ≡ []) (First (c ∷ list))) [
      | true ↦ λ holds. stays_first c b list f holds
      | false ↦ λ fails. comes_first c b list f fails
    ] refl

firsts : (list : List Candidate) → MatchOption (first_of list) (list ≡ []) (First list)
firsts [] = refl
firsts (c ∷ list) = better_first c list (first_of list) (firsts list)

first_is : (list : List Candidate) (c : Candidate) → First list c → IsFirst list c
first_is list c f = record {
  listed = f.listed;
  behind_none = all_at (λ (o : Candidate). goes_before o c ≡ false) list f.behind_none;
  before_others = all_at (λ (o : Candidate). (goes_before c o ≡ true) ⊎ RankAlike c o) list f.before_others;
}

at_some : (list : List Candidate) (P : Type 0) (Q R : Candidate → Type 0) → ((c : Candidate) → Q c → R c) → (o : Option Candidate) → MatchOption o P Q → MatchOption o P R
at_some list P Q R step None p = p
at_some list P Q R step (Some c) q = step c q

pub first_is_first : (list : List Candidate) → MatchOption (first_of list) (list ≡ []) (IsFirst list)
first_is_first list = at_some list (list ≡ []) (First list) (IsFirst list) (first_is list) (first_of list) (firsts list)

-- ---- the candidates of a drive

-- a candidate is the one of its direction and key
abbrev IsOfKey : Site → History → ℕ → ℕ → Candidate → Type 0
IsOfKey site h t d c = candidate_of site h t d c.direction c.key ≡ c ∷ []

-- each of a list is its only one, and has that direction and key
abbrev AreOf : Direction → ℕ → List Candidate → List Candidate → Type 0
AreOf way key whole list = AllByRecursion (λ (c : Candidate). (c.direction ≡ way) × (c.key ≡ key) × (whole ≡ c ∷ [])) list

are_by : (way : Direction) (key : ℕ) (s : Option Sums) (v : Option ℕ) → AreOf way key (candidate_by way key s v) (candidate_by way key s v)
are_by way key None v = tt
are_by way key (Some s) None = tt
are_by way key (Some s) (Some v) = ((refl, refl, refl), tt)

are_if : (b : Bool) (way : Direction) (key : ℕ) (list : List Candidate) → AreOf way key list list → AreOf way key (if b then list else []) (if b then list else [])
are_if true way key list all = all
are_if false way key list all = tt

of_key : (site : Site) (h : History) (t d : ℕ) (way : Direction) (key : ℕ) → AllByRecursion (IsOfKey site h t d) (candidate_of site h t d way key)
of_key site h t d way key =
    let q = queue_of site h way key in
    let sums = sums_of site h way q in
    let tape = tape_for site h t d way key q in
    all_weaker (λ (c : Candidate). (c.direction ≡ way) × (c.key ≡ key) × (candidate_of site h t d way key ≡ c ∷ [])) (IsOfKey site h t d)
    (λ c is. ap₂ (λ (w : Direction) (k : ℕ). candidate_of site h t d w k) is.0 is.1 ∙ is.2)
    (candidate_of site h t d way key)
    (are_if (is_warranted site h t way key && fits_drive site h t d way key) way key (candidate_by way key sums tape) (are_by way key sums tape))

of_keys : (site : Site) (h : History) (t d : ℕ) (way : Direction) (keys : List ℕ) → AllByRecursion (IsOfKey site h t d) (candidates_by site h t d way keys)
of_keys site h t d way [] = tt
of_keys site h t d way (key ∷ keys) = all_append (IsOfKey site h t d) (candidate_of site h t d way key) (candidates_by site h t d way keys) (of_key site h t d way key) (of_keys site h t d way keys)

all_of_keys : (site : Site) (h : History) (t d : ℕ) → AllByRecursion (IsOfKey site h t d) (candidates site h t d)
all_of_keys site h t d =
    let pools = range_with_len 0 (length site.pools.items) in
    let tapes = range_with_len 0 (length site.tapes.items) in
    all_append (IsOfKey site h t d) (candidates_by site h t d direction.Archive pools) (candidates_by site h t d direction.Retrieve tapes) (of_keys site h t d direction.Archive pools) (of_keys site h t d direction.Retrieve tapes)

same_head : (a b : Candidate) → ◌≡◌ {A = List Candidate} (a ∷ []) (b ∷ []) → a ≡ b
same_head a b e = cc

-- two candidates of a drive that are alike are one
are_one : (site : Site) (h : History) (t d : ℕ) (a b : Candidate) → IsOfKey site h t d a → IsOfKey site h t d b → RankAlike a b → a ≡ b
are_one site h t d a b is also alike =
    same_head a b (sym is ∙ ap₂ (λ (w : Direction) (k : ℕ). candidate_of site h t d w k) alike.direction alike.key ∙ also)

-- ---- the choice

least : (site : Site) (h : History) (t d : ℕ) (c : Candidate) → IsFirst (candidates site h t d) c → IsLeast site h t d c
least site h t d c f =
    let of_its_key : (o : Candidate) → Contains (candidates site h t d) o → IsOfKey site h t d o = all_at (IsOfKey site h t d) (candidates site h t d) (all_of_keys site h t d) in
    record {
      listed = f.listed;
      behind_none = f.behind_none;
      before_others = λ o there. elim (f.before_others o there) [
        | inl before ↦ inl before
        | inr alike ↦ inr (are_one site h t d c o (of_its_key c f.listed) (of_its_key o there) alike)
      ];
    }

pub choice_is_least : ChoiceIsLeast
choice_is_least site h t d =
    at_some (candidates site h t d) (candidates site h t d ≡ []) (IsFirst (candidates site h t d)) (IsLeast site h t d) (least site h t d) (mount_choice site h t d) (first_is_first (candidates site h t d))
