-- How many jobs each mount claims, after changes.
use Rattle.std.proofs.Common.{◌≡◌, ◌∙◌, ℕ, suc, List, [], ◌∷◌, Bool, true, false, ◌||◌, refl, sym, ap, subst, None, Some, ◌+◌, ◌-◌, ◌<◌, ◌≤◌, ◌^◌, length, arith}
use Rattle.std.specs.Prelude.{Option, if◌then◌else◌, ◌==◌, nat_lt, option_map, sum_by, unwrap_or}
use Rattle.std.specs.Map.{lookup, values_of, remove_entry}
use Rattle.std.specs.List.{list_any}
use Rattle.std.specs.List.Sorted.{IsPermutation}
use Rattle.std.specs.HashMap as hash
use Rattle.std.specs.HashMap.{HashMap}
use Rattle.std.proofs.lemmas.Bool.{eqb-true, eq-eqb}
use Rattle.std.proofs.lemmas.Bool.Decides.{nat_tests}
use Rattle.std.proofs.lemmas.List.Sums.{sum_by-cons}
use Rattle.std.proofs.lemmas.List.Sorted.{sum_by-IsPermutation, IsPermutation-map}
use Rattle.std.proofs.lemmas.Map.Entries.{sum_by-remove_entry, sum_by_puts_entry}
use Rattle.job_book.specs.Claims.{one_for, claims_of, counted_in, AreCounted}
use Rattle.job_book.specs.Maps.{JobKey, is_key}
use Rattle.job_book.proofs.ClaimedJobs.{same_self}

-- ---- one count

pub one_changed : (mount m x : ℕ) (old new : Option ℕ) → new ≡ (if m == mount then Some x else old) → unwrap_or new 0 ≡ (if mount == m then x else unwrap_or old 0)
one_changed mount m x old new e = by (m == mount) refl (mount == m) refl e
  where
    by : (a : Bool) → (m == mount) ≡ a → (b : Bool) → (mount == m) ≡ b → new ≡ (if a then Some x else old) → unwrap_or new 0 ≡ (if b then x else unwrap_or old 0)
    by true ea true eb h = ap (λ (o : Option ℕ). unwrap_or o 0) h
    by true ea false eb h = (let g : (mount == m) ≡ true = eq-eqb mount m (sym (eqb-true m mount ea)) in absurd (cc))
    by false ea true eb h = (let g : (m == mount) ≡ true = eq-eqb m mount (sym (eqb-true mount m eb)) in absurd (cc))
    by false ea false eb h = ap (λ (o : Option ℕ). unwrap_or o 0) h

-- ---- all entries

claims_cons : (mount : ℕ) (e : JobKey × ℕ) (es : List (JobKey × ℕ)) → claims_of mount (e ∷ es) ≡ one_for mount e.1 + claims_of mount es
claims_cons mount e es = sum_by-cons (one_for mount) e.1 (values_of es)

any_is_more : (mount : ℕ) (es : List (JobKey × ℕ)) → nat_lt 0 (claims_of mount es) ≡ list_any (λ n. n == mount) (values_of es)
any_is_more mount [] = grind (arith, nat_tests)
any_is_more mount (e ∷ es) = ap (nat_lt 0) (claims_cons mount e es) ∙ by (e.1 == mount) (any_is_more mount es)
  where
    some : (n : ℕ) → nat_lt 0 (1 + n) ≡ true
    some n = grind (arith, nat_tests)

    none : (n : ℕ) → nat_lt 0 (0 + n) ≡ nat_lt 0 n
    none n = ap (nat_lt 0) (omega arith)

    by : (a : Bool) → nat_lt 0 (claims_of mount es) ≡ list_any (λ n. n == mount) (values_of es) → nat_lt 0 ((if a then 1 else 0) + claims_of mount es) ≡ (a || list_any (λ n. n == mount) (values_of es))
    by true rest = some (claims_of mount es)
    by false rest = none (claims_of mount es) ∙ rest

pub any_told : (mount : ℕ) (es : List (JobKey × ℕ)) (counts : List (ℕ × ℕ)) → AreCounted es counts → nat_lt 0 (counted_in mount counts) ≡ list_any (λ n. n == mount) (values_of es)
any_told mount es counts same = ap (nat_lt 0) (same mount) ∙ any_is_more mount es

-- ---- reordered, taken out, put

pub counted_reordered : (es now : List (JobKey × ℕ)) (counts after : List (ℕ × ℕ)) → AreCounted es counts → IsPermutation es now → ((m : ℕ) → lookup (λ k. m == k) after ≡ lookup (λ k. m == k) counts) → AreCounted now after
counted_reordered es now counts after same moved each m =
    ap (λ (o : Option ℕ). unwrap_or o 0) (each m) ∙ same m ∙ sym (sum_by-IsPermutation (one_for m) (values_of es) (values_of now) (IsPermutation-map (λ e. e.1) es now moved))

one_less : (now one old count : ℕ) → one ≡ 1 → now + one ≡ old → count ≡ old → count - 1 ≡ now
one_less now one old count is less same = omega arith

none_less : (now one old count : ℕ) → one ≡ 0 → now + one ≡ old → count ≡ old → count ≡ now
none_less now one old count is less same = omega arith

one_more : (now old one count : ℕ) → one ≡ 1 → now + 0 ≡ old + one → count ≡ old → count + 1 ≡ now
one_more now old one count is more same = omega arith

none_more : (now old one count : ℕ) → one ≡ 0 → now + 0 ≡ old + one → count ≡ old → count ≡ now
none_more now old one count is more same = omega arith

pub counted_same : (es : List (JobKey × ℕ)) (counts after : List (ℕ × ℕ)) → AreCounted es counts → ((m : ℕ) → lookup (λ k. m == k) after ≡ lookup (λ k. m == k) counts) → AreCounted es after
counted_same es counts after same each m = ap (λ (o : Option ℕ). unwrap_or o 0) (each m) ∙ same m

-- what is left of a mount's count when an entry of one mount leaves
pub claims_less : (es now : List (JobKey × ℕ)) (key : JobKey) (mount : ℕ) → Some mount ≡ lookup (is_key key) es → IsPermutation (remove_entry (is_key key) es) now → (m : ℕ) → claims_of m now + one_for m mount ≡ claims_of m es
claims_less es now key mount found moved m =
    ap (λ n. n + one_for m mount) (sum_by-IsPermutation (one_for m) (values_of (remove_entry (is_key key) es)) (values_of now) (IsPermutation-map (λ e. e.1) (remove_entry (is_key key) es) now moved))
    ∙ ap (λ (o : Option ℕ). claims_of m (remove_entry (is_key key) es) + unwrap_or (option_map (one_for m) o) 0) found
    ∙ sum_by-remove_entry (one_for m) (is_key key) es

pub some_counted : (es now : List (JobKey × ℕ)) (counts : List (ℕ × ℕ)) (key : JobKey) (mount : ℕ) → AreCounted es counts → Some mount ≡ lookup (is_key key) es → IsPermutation (remove_entry (is_key key) es) now → 0 < counted_in mount counts
some_counted es now counts key mount same found moved =
    let less : claims_of mount now + one_for mount mount ≡ claims_of mount es = claims_less es now key mount found moved mount in
    let one : one_for mount mount ≡ 1 = ap (λ (b : Bool). if b then 1 else 0) (eq-eqb mount mount refl) in
    let is : counted_in mount counts ≡ claims_of mount es = same mount in
    omega arith

pub counted_less : (es now : List (JobKey × ℕ)) (counts after : List (ℕ × ℕ)) (key : JobKey) (mount : ℕ) → AreCounted es counts → Some mount ≡ lookup (is_key key) es → IsPermutation (remove_entry (is_key key) es) now
    → ((m : ℕ) → counted_in m after ≡ (if mount == m then counted_in m counts - 1 else counted_in m counts)) → AreCounted now after
counted_less es now counts after key mount same found moved each m = each m ∙ by (mount == m) refl (claims_less es now key mount found moved m) (same m)
  where
    by : (b : Bool) → (mount == m) ≡ b → claims_of m now + (if mount == m then 1 else 0) ≡ claims_of m es → counted_in m counts ≡ claims_of m es → (if b then counted_in m counts - 1 else counted_in m counts) ≡ claims_of m now
    by true hit less is = one_less (claims_of m now) _ (claims_of m es) (counted_in m counts) (ap (λ (b : Bool). if b then 1 else 0) hit) less is
    by false miss less is = none_less (claims_of m now) _ (claims_of m es) (counted_in m counts) (ap (λ (b : Bool). if b then 1 else 0) miss) less is

pub counted_more : {S : Type 0} (m n : HashMap JobKey ℕ S) (counts after : List (ℕ × ℕ)) (key : JobKey) (mount : ℕ) (old : Option ℕ) → AreCounted m.entries counts → old ≡ lookup (is_key key) m.entries → lookup (is_key key) m.entries ≡ None → hash.PutsEntry is_key m n key mount old
    → ((q : ℕ) → counted_in q after ≡ (if mount == q then counted_in q counts + 1 else counted_in q counts)) → AreCounted n.entries after
counted_more m n counts after key mount old same is none puts each q =
    each q ∙ by (mount == q) refl
    (sym (ap (λ (o : Option ℕ). sum_by (one_for q) (hash.values n) + unwrap_or (option_map (one_for q) o) 0) (is ∙ none)) ∙ sum_by_puts_entry (one_for q) is_key m n key mount old is puts) (same q)
  where
    by : (b : Bool) → (mount == q) ≡ b → sum_by (one_for q) (hash.values n) + 0 ≡ sum_by (one_for q) (hash.values m) + (if mount == q then 1 else 0) → counted_in q counts ≡ claims_of q m.entries → (if b then counted_in q counts + 1 else counted_in q counts) ≡ claims_of q n.entries
    by true hit more is = one_more (sum_by (one_for q) (hash.values n)) (sum_by (one_for q) (hash.values m)) _ (counted_in q counts) (ap (λ (b : Bool). if b then 1 else 0) hit) more is
    by false miss more is = none_more (sum_by (one_for q) (hash.values n)) (sum_by (one_for q) (hash.values m)) _ (counted_in q counts) (ap (λ (b : Bool). if b then 1 else 0) miss) more is

-- a count is at most the number of entries
pub claims_few : (mount : ℕ) (es : List (JobKey × ℕ)) → claims_of mount es ≤ length es
claims_few mount [] = omega arith
claims_few mount (e ∷ es) = subst (λ n. n ≤ suc (length es)) (sym (claims_cons mount e es)) (by (e.1 == mount) (claims_few mount es))
  where
    by : (b : Bool) → claims_of mount es ≤ length es → (if b then 1 else 0) + claims_of mount es ≤ suc (length es)
    by true h = omega arith
    by false h = omega arith

pub zero_gone : (mount : ℕ) (es now : List (ℕ × ℕ)) → ((q : ℕ) → lookup (λ k. q == k) now ≡ (if mount == q then None else lookup (λ k. q == k) es)) → counted_in mount es ≡ 0 → (m : ℕ) → counted_in m now ≡ counted_in m es
zero_gone mount es now each zero_is m = ap (λ (o : Option ℕ). unwrap_or o 0) (each m) ∙ by (mount == m) refl
  where
    by : (b : Bool) → (mount == m) ≡ b → unwrap_or (if b then None else lookup (λ k. m == k) es) 0 ≡ counted_in m es
    by true hit = sym zero_is ∙ ap (λ n. counted_in n es) (eqb-true mount m hit)
    by false miss = refl

pub counted_left : (es now : List (JobKey × ℕ)) (counts after left : List (ℕ × ℕ)) (key : JobKey) (mount : ℕ) → AreCounted es counts → Some mount ≡ lookup (is_key key) es → IsPermutation (remove_entry (is_key key) es) now
    → ((m : ℕ) → counted_in m after ≡ (if mount == m then counted_in m counts - 1 else counted_in m counts)) → ((m : ℕ) → counted_in m left ≡ counted_in m after) → AreCounted now left
counted_left es now counts after left key mount same found moved each rest m = rest m ∙ counted_less es now counts after key mount same found moved each m

-- a count with room for one more entry
pub count_fits : (mount : ℕ) (es : List (JobKey × ℕ)) (counts : List (ℕ × ℕ)) → AreCounted es counts → length es + 1 < 2 ^ 64 → counted_in mount counts + 1 < 2 ^ 64
count_fits mount es counts same room = (let is : counted_in mount counts ≡ claims_of mount es = same mount in let few : claims_of mount es ≤ length es = claims_few mount es in omega arith)

-- what was taken out is not there
pub gone : (old es : List (JobKey × ℕ)) (key : JobKey) → ((k : JobKey) → lookup (is_key k) es ≡ (if is_key key k then None else lookup (is_key k) old)) → lookup (is_key key) es ≡ None
gone old es key each = each key ∙ ap (λ (b : Bool). if b then None else lookup (is_key key) old) (same_self key)

pub put_over : (b : Bool) (mount : ℕ) (x y : Option ℕ) → y ≡ (if b then None else x) → (if b then Some mount else y) ≡ (if b then Some mount else x)
put_over true mount x y e = refl
put_over false mount x y e = e
