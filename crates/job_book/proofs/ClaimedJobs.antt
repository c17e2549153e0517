-- Whether any job is claimed by a mount.
use Rattle.std.proofs.Common.{◌≡◌, ◌≢◌, ◌∙◌, ℕ, List, [], ◌∷◌, Bool, true, false, ◌&&◌, ◌||◌, refl, sym, ap, subst, None, Some}
use Rattle.std.specs.Prelude.{if◌then◌else◌, ◌==◌}
use Rattle.std.specs.Map.{lookup, keys_of, values_of}
use Rattle.std.specs.List.{IsDistinct, AllByRecursion, list_any}
use Rattle.std.proofs.lemmas.Bool.{eqb-true, eq-eqb}
use Rattle.cta_model.specs.declared.asks.Job.{Job}
use Rattle.part_model.specs.JobRows.{JobRows, book_in}
use Rattle.job_book.specs.Maps.{Maps, JobKey, key_of, job_at, is_key, rows_of}
use Rattle.job_book.proofs.Looks.{claimer_in-map, key_is}

-- no entry of the mount, none found
none_of : (mount : ℕ) (es : List (JobKey × ℕ)) → list_any (λ m. m == mount) (values_of es) ≡ false → (k : JobKey) → lookup (is_key k) es ≢ Some mount
none_of mount [] none k found = absurd (cc)
none_of mount (e ∷ es) none k found = by (e.1 == mount) refl none (is_key k e.0) found (none_of mount es)
  where
    by : (a : Bool) → (e.1 == mount) ≡ a → (a || list_any (λ m. m == mount) (values_of es)) ≡ false → (b : Bool) → (if b then Some e.1 else lookup (is_key k) es) ≡ Some mount
        → (list_any (λ m. m == mount) (values_of es) ≡ false → (k : JobKey) → lookup (is_key k) es ≢ Some mount) → ⊥
    by true hit none b found rest = absurd (cc)
    by false miss none true found rest = (let same : e.1 ≡ mount = cc in let hit : (e.1 == mount) ≡ true = eq-eqb e.1 mount same in absurd (cc))
    by false miss none false found rest = rest none k found

pub same_self : (k : JobKey) → is_key k k ≡ true
same_self k = three (k.0 == k.0) (k.1 == k.1) (k.2 == k.2) (eq-eqb k.0 k.0 refl) (eq-eqb k.1 k.1 refl) (eq-eqb k.2 k.2 refl)
  where
    three : (a b c : Bool) → a ≡ true → b ≡ true → c ≡ true → ((a && b) && c) ≡ true
    three a b c ea eb ec = rw (ea, eb, ec) refl

lacks : (k : JobKey) (es : List (JobKey × ℕ)) → AllByRecursion (λ q. is_key k q ≡ false) (keys_of es) → lookup (is_key k) es ≡ None
lacks k [] all = refl
lacks k (e ∷ es) all = rw all.0 (lacks k es all.1)

-- an entry of the mount is found by its key
some_of : (mount : ℕ) (es : List (JobKey × ℕ)) → IsDistinct is_key (keys_of es) → list_any (λ m. m == mount) (values_of es) ≡ true → (k : JobKey) × (lookup (is_key k) es ≡ Some mount)
unfolding IsDistinct
some_of mount [] apart any = absurd (cc)
some_of mount (e ∷ es) apart any = by (e.1 == mount) refl any (some_of mount es apart.1)
  where
    at : (k : JobKey) (b : Bool) → is_key k e.0 ≡ b → lookup (is_key k) es ≡ Some mount → (if b then Some e.1 else lookup (is_key k) es) ≡ Some mount
    at k true hit found =
        (let gone : lookup (is_key k) es ≡ None = subst (λ (q : JobKey). lookup (is_key q) es ≡ None) (sym (key_is k e.0 hit)) (lacks e.0 es apart.0) in absurd (cc))
    at k false miss found = found

    by : (a : Bool) → (e.1 == mount) ≡ a → (a || list_any (λ m. m == mount) (values_of es)) ≡ true → (list_any (λ m. m == mount) (values_of es) ≡ true → (k : JobKey) × (lookup (is_key k) es ≡ Some mount))
        → (k : JobKey) × (lookup (is_key k) (e ∷ es) ≡ Some mount)
    by true hit any rest = (e.0, ap (λ (b : Bool). if b then Some e.1 else lookup (is_key e.0) es) (same_self e.0) ∙ ap (λ (n : ℕ). Some n) (eqb-true e.1 mount hit))
    by false miss any rest = (let r = rest any in (r.0, at r.0 (is_key r.0 e.0) refl r.1))

pub claims_none : (m : Maps) (v : JobRows) (mount : ℕ) → rows_of m ≡ v → list_any (λ n. n == mount) (values_of m.claims) ≡ false → (j : Job) → (book_in v).claimer j ≢ Some mount
claims_none m v mount is none j found =
    none_of mount m.claims none (key_of j) (sym (claimer_in-map j m.claims) ∙ subst (λ (u : JobRows). (book_in u).claimer j ≡ Some mount) (sym is) found)

pub claims_some : (m : Maps) (v : JobRows) (mount : ℕ) → rows_of m ≡ v → IsDistinct is_key (keys_of m.claims) → list_any (λ n. n == mount) (values_of m.claims) ≡ true → (j : Job) × ((book_in v).claimer j ≡ Some mount)
claims_some m v mount is apart any =
    (let r = some_of mount m.claims apart any in
    (job_at r.0, subst (λ (u : JobRows). (book_in u).claimer (job_at r.0) ≡ Some mount) is (claimer_in-map (job_at r.0) m.claims ∙ r.1)))
