-- What a session's asks name.
use Rattle.std.proofs.Common.{◌≡◌, ℕ, ◌<◌, zero, suc, List, [], ◌∷◌, ◌++◌, Bool, true, false, refl, sym, subst, ◌∙◌, ap, arith, length, take, drop}
use Rattle.std.specs.Prelude.{◌&&◌, ◌||◌, not, ◌==◌, get_or}
use Rattle.std.specs.List.{list_all}
use Rattle.std.proofs.lemmas.Bool.{eq-eqb, eqb-true}
use Rattle.cta_model.specs.declared.asks.Item.{Item}
use Rattle.cta_model.specs.declared.asks.Job.{Job}
use Rattle.cta_model.specs.History.{History}
use Rattle.cta_model.specs.Mounts.{same_job, has_job, item_jobs, without_jobs, is_open, claimed_items}
use Rattle.cta_model.specs.Answers.{names_twice, claims_all}
use Rattle.drive_session.specs.Fits.{IsResolving}

pub same_self : (j : Job) → same_job j j ≡ true
same_self j = rw (eq-eqb j.birth j.birth refl, eq-eqb j.file j.file refl, eq-eqb j.copy j.copy refl) refl

eq_sym : (a b : ℕ) → (a == b) ≡ (b == a)
eq_sym a b = by (a == b) (b == a) (λ e. eq-eqb b a (sym (eqb-true a b e))) (λ e. eq-eqb a b (sym (eqb-true b a e)))
  where
    by : (x y : Bool) → (x ≡ true → y ≡ true) → (y ≡ true → x ≡ true) → x ≡ y
    by true y f g = sym (f refl)
    by false true f g = g refl
    by false false f g = refl

pub same_sym : (a b : Job) → same_job a b ≡ same_job b a
same_sym a b = rw (eq_sym a.birth b.birth, eq_sym a.file b.file, eq_sym a.copy b.copy) refl

or_true : (b c : Bool) → c ≡ true → (b || c) ≡ true
or_true true c e = refl
or_true false c e = e

or_left : (b c : Bool) → b ≡ true → (b || c) ≡ true
or_left true c e = refl
or_left false c e = absurd (cc)

and_true : (a b : Bool) → a ≡ true → b ≡ true → (a && b) ≡ true
and_true true b e f = f
and_true false b e f = absurd (cc)

and_fst : (a b : Bool) → (a && b) ≡ true → a ≡ true
and_fst true b e = refl
and_fst false b e = absurd (cc)

and_snd : (a b : Bool) → (a && b) ≡ true → b ≡ true
and_snd true b e = e
and_snd false b e = absurd (cc)

pub all_weaker : (p q : Job → Bool) (js : List Job) → ((j : Job) → p j ≡ true → q j ≡ true) → list_all p js ≡ true → list_all q js ≡ true
all_weaker p q [] f e = refl
all_weaker p q (j ∷ js) f e = and_true (q j) (list_all q js) (f j (and_fst (p j) (list_all p js) e)) (all_weaker p q js f (and_snd (p j) (list_all p js) e))

-- each job of a list is in it
pub all_in : (jobs : List Job) → list_all (λ j. has_job j jobs) jobs ≡ true
all_in [] = refl
all_in (j ∷ js) = and_true (same_job j j || has_job j js) _ (or_left (same_job j j) (has_job j js) (same_self j)) (all_weaker (λ k. has_job k js) (λ k. has_job k (j ∷ js)) js (λ k e. or_true (same_job k j) (has_job k js) e) (all_in js))

-- no item is left where each one's job is named
pub none_left : (jobs : List Job) (items : List Item) → list_all (λ j. has_job j jobs) (item_jobs items) ≡ true → without_jobs jobs items ≡ []
none_left jobs [] e = refl
none_left jobs (i ∷ items) e = rw (and_fst (has_job i.job jobs) (list_all (λ j. has_job j jobs) (item_jobs items)) e) (none_left jobs items (and_snd (has_job i.job jobs) _ e))

pub resolves_by : (h : History) (m : ℕ) (items : List Item) (jobs : List Job) → is_open h m ≡ true → claimed_items h m ≡ items → list_all (λ j. has_job j (item_jobs items)) jobs ≡ true → names_twice jobs ≡ false → list_all (λ j. has_job j jobs) (item_jobs items) ≡ true → IsResolving h m jobs []
resolves_by h m items jobs still claims named once whole = record {
  known = and_true (is_open h m) (claims_all h m jobs && not (names_twice jobs)) still (and_true (claims_all h m jobs) (not (names_twice jobs)) (subst (λ (xs : List Item). list_all (λ j. has_job j (item_jobs xs)) jobs ≡ true) (sym claims) named) (ap not once));
  left = rw claims (none_left jobs items whole);
}

-- an ask that names all of a batch
pub resolves_all : (h : History) (m : ℕ) (items : List Item) → is_open h m ≡ true → claimed_items h m ≡ items → names_twice (item_jobs items) ≡ false → IsResolving h m (item_jobs items) []
resolves_all h m items still claims once = resolves_by h m items (item_jobs items) still claims (all_in (item_jobs items)) once (all_in (item_jobs items))

-- the job at a place, and then the others
unfoldable pub parted : Job → List Job → ℕ → List Job
parted d jobs n = get_or jobs n d ∷ (take n jobs ++ drop (suc n) jobs)

or_swap : (p q r : Bool) → (p || (q || r)) ≡ (q || (p || r))
or_swap true true r = refl
or_swap true false r = refl
or_swap false q r = refl

bools : (p q r s : Bool) → ((p || q) || (r || s)) ≡ ((p || r) || (q || s))
bools true q r s = refl
bools false true true s = refl
bools false true false s = refl
bools false false r s = refl

pub has_parted : (k d : Job) (jobs : List Job) (n : ℕ) → n < length jobs → has_job k (parted d jobs n) ≡ has_job k jobs
unfolding parted
has_parted k d [] n low = absurd (omega (arith, low))
has_parted k d (j ∷ js) zero low = refl
has_parted k d (j ∷ js) (suc n) low = or_swap (same_job k (get_or js n d)) (same_job k j) (has_job k (take n js ++ drop (suc n) js)) ∙ ap (λ b. same_job k j || b) (has_parted k d js n (omega (arith, low)))

pub twice_parted : (d : Job) (jobs : List Job) (n : ℕ) → n < length jobs → names_twice (parted d jobs n) ≡ names_twice jobs
unfolding parted
twice_parted d [] n low = absurd (omega (arith, low))
twice_parted d (j ∷ js) zero low = refl
twice_parted d (j ∷ js) (suc n) low =
    let rest = take n js ++ drop (suc n) js in
    let y = get_or js n d in
    bools (same_job y j) (has_job y rest) (has_job j rest) (names_twice rest)
    ∙ ap (λ b. (b || has_job j rest) || (has_job y rest || names_twice rest)) (same_sym y j)
    ∙ ap (λ b. b || (has_job y rest || names_twice rest)) (has_parted j d js n (omega (arith, low)))
    ∙ ap (λ b. has_job j js || b) (twice_parted d js n (omega (arith, low)))

pub all_same : (p q : Job → Bool) (js : List Job) → ((j : Job) → p j ≡ q j) → list_all p js ≡ list_all q js
all_same p q [] f = refl
all_same p q (j ∷ js) f = rw (f j, all_same p q js f) refl

and_swap : (p q r : Bool) → (p && (q && r)) ≡ (q && (p && r))
and_swap true q r = refl
and_swap false true r = refl
and_swap false false r = refl

pub all_parted : (p : Job → Bool) (d : Job) (jobs : List Job) (n : ℕ) → n < length jobs → list_all p (parted d jobs n) ≡ list_all p jobs
unfolding parted
all_parted p d [] n low = absurd (omega (arith, low))
all_parted p d (j ∷ js) zero low = refl
all_parted p d (j ∷ js) (suc n) low = and_swap (p (get_or js n d)) (p j) (list_all p (take n js ++ drop (suc n) js)) ∙ ap (λ b. p j && b) (all_parted p d js n (omega (arith, low)))

-- an ask that names one of a batch, and then the others
pub resolves_parted : (h : History) (m : ℕ) (items : List Item) (d : Job) (n : ℕ) → n < length (item_jobs items) → is_open h m ≡ true → claimed_items h m ≡ items → names_twice (item_jobs items) ≡ false → IsResolving h m (parted d (item_jobs items) n) []
resolves_parted h m items d n low still claims once =
    resolves_by h m items (parted d (item_jobs items) n) still claims
    (all_parted (λ j. has_job j (item_jobs items)) d (item_jobs items) n low ∙ all_in (item_jobs items))
    (twice_parted d (item_jobs items) n low ∙ once)
    (all_same (λ j. has_job j (parted d (item_jobs items) n)) (λ j. has_job j (item_jobs items)) (item_jobs items) (λ j. has_parted j d (item_jobs items) n low) ∙ all_in (item_jobs items))
