-- The mounts that are left to be closed.
use Rattle.std.proofs.Common.{◌≡◌, ◌∙◌, ◌≤◌, ◌<◌, ℕ, ◌+◌, inl, inr, List, [], ◌∷◌, ◌++◌, true, false, not, refl, sym, ap, subst, arith, length, drop, get_or}
use Rattle.std.specs.Prelude.{IfSome, None, Option, Some, filter, map, reverse, ◌==◌}
use Rattle.std.specs.List.{AllByRecursion}
use Rattle.std.proofs.lemmas.Bool.{eq-eqb}
use Rattle.std.proofs.lemmas.List.{drop_all, drop_more, length-append, reverse-append, reverse-reverse}
use Rattle.blob.specs.Records.{MediumView, TapeRecords}
use Rattle.cta_site.specs.declared.site.Site.{Site}
use Rattle.cta_model.specs.declared.entries.Entry.{Entry}
use Rattle.cta_model.specs.History.{History, has_number}
use Rattle.cta_model.specs.Media.{IsMediumOf, IsTrueMedium}
use Rattle.cta_model.specs.Mounts.{is_open, open_mounts, tape_by, tape_of_mount}
use Rattle.cta_laws.proofs.OpenMounts.{AllUpTo, mount_older, open_older, opens_up_to}
use Rattle.cta_laws.proofs.Sums.{IsDistinct, open_distinct}
use Rattle.cta_laws.proofs.Tests.{bool_cases, or_left, or_right}
use Rattle.durable_opening.specs.Closing.{AreOpenMounts, GoesOnByClosing, IsUntoldOf}

-- ---- the first of the open mounts

has_more : (m : ℕ) (xs ys : List ℕ) → has_number m ys ≡ true → has_number m (xs ++ ys) ≡ true
has_more m [] ys there = there
has_more m (x ∷ xs) ys there = or_right (m == x) (has_number m (xs ++ ys)) (has_more m xs ys there)

-- the open mounts, where the first of them in order is m
turned : (all : List ℕ) (m : ℕ) (ms : List ℕ) → m ∷ ms ≡ reverse all → all ≡ reverse ms ++ m ∷ []
turned all m ms is = sym (reverse-reverse all) ∙ ap (λ (l : List ℕ). reverse l) (sym is) ∙ reverse-append (m ∷ []) ms

pub first_is_open : (h : History) (m : ℕ) (ms : List ℕ) → m ∷ ms ≡ reverse (open_mounts h) → is_open h m ≡ true
first_is_open h m ms is =
    ap (has_number m) (turned (open_mounts h) m ms is) ∙ has_more m (reverse ms) (m ∷ []) (or_left (m == m) false (eq-eqb m m refl))

-- ---- the others, once it has ended

-- taking the last of distinct numbers out leaves those before it
last_out : (m : ℕ) (xs : List ℕ) → IsDistinct (xs ++ m ∷ []) → filter (λ k. not (k == m)) (xs ++ m ∷ []) ≡ xs
last_out m [] distinct = rw (eq-eqb m m refl) refl
last_out m (x ∷ xs) distinct =
    elim (bool_cases (x == m)) [
      | inl hit ↦ (let there : has_number x (xs ++ m ∷ []) ≡ true = has_more x xs (m ∷ []) (or_left (x == m) false hit) in let bad : has_number x (xs ++ m ∷ []) ≡ false = distinct.0 in absurd (cc))
      | inr apart ↦ rw apart (ap (λ (l : List ℕ). x ∷ l) (last_out m xs distinct.1))
    ]

pub rest_open : (h : History) (m : ℕ) (ms left : List ℕ) → m ∷ ms ≡ reverse (open_mounts h) → left ≡ filter (λ k. not (k == m)) (open_mounts h) → ms ≡ reverse left
rest_open h m ms left is out =
    let all : open_mounts h ≡ reverse ms ++ m ∷ [] = turned (open_mounts h) m ms is in
    let gone : left ≡ reverse ms =
    out ∙ ap (filter (λ k. not (k == m))) all ∙ last_out m (reverse ms) (subst IsDistinct all (open_distinct h)) in
    sym (reverse-reverse ms) ∙ ap (λ (l : List ℕ). reverse l) (sym gone)

pub none_open : (left : List ℕ) → [] ≡ reverse left → left ≡ []
none_open left is = sym (reverse-reverse left) ∙ ap (λ (l : List ℕ). reverse l) (sym is)

-- ---- the loop over the mounts

-- the next of a list, and those behind it
pub rest_is : {A : Type 0} (xs yielded : List A) (x : A) → length yielded < length xs → x ≡ get_or xs (length yielded) x → drop (length yielded) xs ≡ x ∷ drop (length (yielded ++ x ∷ [])) xs
rest_is xs yielded x low is = drop_more xs (length yielded) x low ∙ ap (λ y. y ∷ drop (length yielded + 1) xs) (sym is) ∙ ap (λ (n : ℕ). x ∷ drop n xs) (sym (length-append yielded (x ∷ [])))

-- ---- tapes of mounts stay

older : (newer : List Entry) (h : History) (m : ℕ) → m ≤ length h → tape_of_mount (newer ++ h) m ≡ tape_of_mount h m
older [] h m low = refl
older (e ∷ newer) h m low = ap tape_by (mount_older e (newer ++ h) m (longer newer)) ∙ older newer h m low
  where
    longer : (newer : List Entry) → m ≤ length (newer ++ h)
    longer [] = low
    longer (x ∷ xs) = (let rest = longer xs in omega (arith, rest))

pub tape_stays : (site : Site) (h later : History) (m : ℕ) → GoesOnByClosing site h later → is_open h m ≡ true → tape_of_mount later m ≡ tape_of_mount h m
tape_stays site h later m on is = ap (λ (l : History). tape_of_mount l m) on.1 ∙ older on.0 h m (open_older h m is)

up_to_append : (n : ℕ) (xs ys : List ℕ) → AllUpTo n (xs ++ ys) → AllUpTo n xs × AllUpTo n ys
up_to_append n [] ys all = (tt, all)
up_to_append n (x ∷ xs) ys all = (let rest = up_to_append n xs ys all.1 in ((all.0, rest.0), rest.1))

up_to_turn : (n : ℕ) (ms : List ℕ) → AllUpTo n (reverse ms) → AllUpTo n ms
up_to_turn n [] all = tt
up_to_turn n (m ∷ ms) all =
    let parts = up_to_append n (reverse ms) (m ∷ []) (subst (AllUpTo n) (reverse-append (m ∷ []) ms) all) in
    (parts.1.0, up_to_turn n ms parts.0)

module _ {M : Type 0} (told : M → MediumView) where
  stay : (newer : List Entry) (h : History) (mounts : List (ℕ × M)) → AllUpTo (length h) (map (λ (x : ℕ × M). x.0) mounts) → AllByRecursion (λ (x : ℕ × M). IsUntoldOf (tape_of_mount h x.0) (told x.1)) mounts
      → AllByRecursion (λ (x : ℕ × M). IsUntoldOf (tape_of_mount (newer ++ h) x.0) (told x.1)) mounts
  stay newer h [] low media = tt
  stay newer h (x ∷ mounts) low media = (subst (λ (v : ℕ). IsUntoldOf v (told x.1)) (sym (older newer h x.0 low.0)) media.0, stay newer h mounts low.1 media.1)

  -- what is left once the first is closed
  pub rest_mounts : (site : Site) (h later : History) (x : ℕ × M) (mounts : List (ℕ × M)) → AreOpenMounts told h (x ∷ mounts) → GoesOnByClosing site h later → open_mounts later ≡ filter (λ k. not (k == x.0)) (open_mounts h) → AreOpenMounts told later mounts
  rest_mounts site h later x mounts are on out =
      let low : AllUpTo (length h) (map (λ (y : ℕ × M). y.0) (x ∷ mounts)) = up_to_turn (length h) (map (λ (y : ℕ × M). y.0) (x ∷ mounts)) (subst (AllUpTo (length h)) (sym (ap (λ (l : List ℕ). reverse l) are.open_ones ∙ reverse-reverse (open_mounts h))) (opens_up_to h)) in
      record {
        open_ones = rest_open h x.0 (map (λ (y : ℕ × M). y.0) mounts) (open_mounts later) are.open_ones out;
        media = subst (λ (l : History). AllByRecursion (λ (y : ℕ × M). IsUntoldOf (tape_of_mount l y.0) (told y.1)) mounts) (sym on.1) (stay on.0 h mounts low.1 are.media.1);
      }

  -- a medium that tells nothing is that of its tape, whatever happened
  pub untold_is : (h : History) (v : ℕ) (x : M) → IsUntoldOf v (told x) → IsMediumOf h v (told x)
  untold_is h v x of = record { label = of.label; truth = by (told x).records of.untold }
    where
      by : (o : Option TapeRecords) → o ≡ None → IfSome o (IsTrueMedium h v)
      by None is = tt
      by (Some t) is = absurd (cc)

  -- nothing is left once all were closed
  pub all_closed : (h : History) (xs yielded : List (ℕ × M)) → yielded ≡ xs → AreOpenMounts told h (drop (length yielded) xs) → open_mounts h ≡ []
  all_closed h xs yielded is left =
      let none : drop (length yielded) xs ≡ [] = ap (λ (ys : List (ℕ × M)). drop (length ys) xs) is ∙ drop_all (length xs) xs (omega arith) in
      let are : AreOpenMounts told h [] = subst (AreOpenMounts told h) none left in
      none_open (open_mounts h) are.open_ones
