-- The repacks that are WRITING a copy, one by one.
use Rattle.std.proofs.Common.{◌≡◌, ◌∙◌, ◌-◌, ◌+◌, ◌≤◌, ◌<◌, ℕ, inl, inr, Bool, true, false, ◌||◌, refl, sym, ap, arith}
use Rattle.std.specs.Prelude.{Option, Some, None, ◌==◌, ◌&&◌, nat_le, nat_lt}
use Rattle.std.proofs.lemmas.Bool.{eqb-true}
use Rattle.std.proofs.lemmas.Bool.Decides.{nat_tests}
use Rattle.cta_model.specs.declared.reports.ItemState.TheVariants as item
use Rattle.cta_model.specs.History.{has_number}
use Rattle.cta_laws.proofs.JobLaw.{not_true}
use Rattle.cta_laws.proofs.Tests.{bool_cases}
use Rattle.part_model.specs.Repacks.{Repacks, RepacksAgree, repack_in, set_state, writers_in}
use Rattle.repack_book.specs.Walks.{IsFirstFrom}
use Rattle.part_laws.proofs.RepackTurns.{writers_are}
use Rattle.caller_asks.specs.Gone.{AreGone, is_copy_to, writes_copy}
use Rattle.caller_asks.proofs.Items.{gone_both, gone_same, none_gone, set_gone, writes_same}

-- ---- a walk along the repacks that are WRITING a copy

-- the walk has passed this repack
abbrev pub passed : Option ℕ → ℕ → Bool
passed None k = true
passed (Some id) k = nat_lt k id

-- whether the repack of this number is WRITING the copy
abbrev pub writes : ℕ → ℕ → Repacks → ℕ → Bool
writes f c v k = writes_copy f c (repack_in v k)

-- the next repack is WRITING the copy, where there is one
abbrev pub IsNextWriter : ℕ → ℕ → Repacks → Option ℕ → Type 0
IsNextWriter f c v None = Unit {0}
IsNextWriter f c v (Some id) = writes f c v id ≡ true

-- the items of the copy are GONE in those of the repacks v that were WRITING it and were passed
pub record IsWalked (f c : ℕ) (v w : Repacks) (next : Option ℕ) : Type 0 where
  pub gone : AreGone (λ k g d. (g == f && d == c) && (passed next k && writes f c v k)) v w
  pub here : IsNextWriter f c v next

below : (n m : ℕ) → nat_lt n m ≡ false → m ≤ n
below n m e = grind (arith, nat_tests)

is_below : (n m : ℕ) → nat_lt n m ≡ true → n < m
is_below n m e = grind (arith, nat_tests)

to_below : (n m : ℕ) → n < m → nat_lt n m ≡ true
to_below n m e = grind (arith, nat_tests)

not_below : (n m : ℕ) → m ≤ n → nat_lt n m ≡ false
not_below n m e = grind (arith, nat_tests)

-- behind the bound nothing has changed
unpassed : (f c bound k : ℕ) (v w : Repacks) → AreGone (λ k g d. (g == f && d == c) && (nat_lt k bound && writes f c v k)) v w → nat_lt k bound ≡ false → writes f c w k ≡ writes f c v k
unpassed f c bound k v w gone off =
    ap (writes_copy f c) (gone k)
    ∙ writes_same (λ g d. (g == f && d == c) && (nat_lt k bound && writes f c v k)) f c (repack_in v k) (rw off (zero (f == f && c == c)))
  where
    zero : (b : Bool) → (b && false) ≡ false
    zero true = refl
    zero false = refl

pub walk_goes : (f c bound : ℕ) (v w : Repacks) (next : Option ℕ) → AreGone (λ k g d. (g == f && d == c) && (nat_lt k bound && writes f c v k)) v w
    → IsFirstFrom (λ q. has_number q (writers_in w f c)) bound next → IsWalked f c v w next
walk_goes f c bound v w None gone first =
    record {
      gone = gone_same (λ k g d. (g == f && d == c) && (nat_lt k bound && writes f c v k)) (λ k g d. (g == f && d == c) && (true && writes f c v k)) v w (λ k g d. ap (λ (b : Bool). (g == f && d == c) && b) (same k)) gone;
      here = tt;
    }
  where
    same : (k : ℕ) → (nat_lt k bound && writes f c v k) ≡ writes f c v k
    same k =
        elim (bool_cases (nat_lt k bound)) [
          | inl low ↦ rw low refl
          | inr high ↦
              rw high (sym (not_true (writes f c v k) (λ on.
              (let there : has_number k (writers_in w f c) ≡ true = writers_are w k f c ∙ unpassed f c bound k v w gone high ∙ on in
              let less : k < bound = first k there in
              let more : bound ≤ k = below k bound high in
              absurd (omega arith)))))
        ]
walk_goes f c bound v w (Some m) gone first =
    record {
      gone = gone_same (λ k g d. (g == f && d == c) && (nat_lt k bound && writes f c v k)) (λ k g d. (g == f && d == c) && (nat_lt k m && writes f c v k)) v w (λ k g d. ap (λ (b : Bool). (g == f && d == c) && b) (same k)) gone;
      here = sym (unpassed f c bound m v w gone (not_below m bound first.1)) ∙ sym (writers_are w m f c) ∙ first.0;
    }
  where
    from : bound ≤ m
    from = first.1

    same : (k : ℕ) → (nat_lt k bound && writes f c v k) ≡ (nat_lt k m && writes f c v k)
    same k =
        elim (bool_cases (nat_lt k bound)) [
          | inl low ↦ (let less : k < bound = is_below k bound low in let far : nat_lt k m ≡ true = to_below k m (omega arith) in rw (low, far) refl)
          | inr high ↦
              elim (bool_cases (nat_lt k m)) [
                | inr off ↦ rw (high, off) refl
                | inl near ↦
                    rw (high, near) (sym (not_true (writes f c v k) (λ on.
                    (let there : has_number k (writers_in w f c) ≡ true = writers_are w k f c ∙ unpassed f c bound k v w gone high ∙ on in
                    let least : m ≤ k = first.2 k there (below k bound high) in
                    let less : k < m = is_below k m near in
                    absurd (omega arith)))))
              ]
        ]

pub walk_starts : (f c : ℕ) (v : Repacks) (next : Option ℕ) → IsFirstFrom (λ q. has_number q (writers_in v f c)) 0 next → IsWalked f c v v next
walk_starts f c v next first = walk_goes f c 0 v v next (gone_same (λ k g d. false) (λ k g d. (g == f && d == c) && (nat_lt k 0 && writes f c v k)) v v (λ k g d. sym (off k g d)) (none_gone v)) first
  where
    zero : (b : Bool) → (b && false) ≡ false
    zero true = refl
    zero false = refl

    off : (k g d : ℕ) → ((g == f && d == c) && (nat_lt k 0 && writes f c v k)) ≡ false
    off k g d = (let none : nat_lt k 0 ≡ false = not_below k 0 (omega arith) in rw none (zero (g == f && d == c)))

pub walk_steps : (f c id : ℕ) (v u w : Repacks) (next : Option ℕ) → IsWalked f c v u (Some id) → RepacksAgree w (set_state id f c item.Gone u) → IsFirstFrom (λ q. has_number q (writers_in w f c)) (id + 1) next → IsWalked f c v w next
walk_steps f c id v u w next was set first =
    walk_goes f c (id + 1) v w next
    (gone_same (λ k g d. ((g == f && d == c) && (nat_lt k id && writes f c v k)) || (k == id && (g == f && d == c))) (λ k g d. (g == f && d == c) && (nat_lt k (id + 1) && writes f c v k)) v w
    (λ k g d. same k (g == f && d == c))
    (gone_both (λ k g d. (g == f && d == c) && (nat_lt k id && writes f c v k)) (λ k g d. k == id && (g == f && d == c)) v u w was.gone (set_gone id f c u w set)))
    first
  where
    all : (x y : Bool) → ((x && y) || (true && x)) ≡ (x && true)
    all true true = refl
    all true false = refl
    all false y = refl

    none : (x y : Bool) → ((x && y) || (false && x)) ≡ (x && y)
    none true true = refl
    none true false = refl
    none false y = refl

    same : (k : ℕ) (x : Bool) → ((x && (nat_lt k id && writes f c v k)) || (k == id && x)) ≡ (x && (nat_lt k (id + 1) && writes f c v k))
    same k x =
        elim (bool_cases (k == id)) [
          | inl hit ↦
              (let is : k ≡ id = eqb-true k id hit in
              let on : writes f c v k ≡ true = ap (writes f c v) is ∙ was.here in
              let near : nat_lt k (id + 1) ≡ true = to_below k (id + 1) (omega arith) in
              rw (hit, near, on) (all x (nat_lt k id && true)))
          | inr miss ↦
              (let level : nat_lt k (id + 1) ≡ nat_lt k id = grind (arith, nat_tests) in
              rw (miss, level) (none x (nat_lt k id && writes f c v k)))
        ]

pub walk_ends : (f c : ℕ) (v w : Repacks) → IsWalked f c v w None → AreGone (λ k g d. (g == f && d == c) && writes_copy f c (repack_in v k)) v w
walk_ends f c v w walked = walked.gone

-- how far a walk may still go
abbrev pub ahead : Option ℕ → ℕ
ahead None = 0
ahead (Some id) = 4294967296 - id

-- ---- copy by copy

pub no_copy_written : (f n : ℕ) (v : Repacks) → n ≡ 0 → AreGone (λ k g c. is_copy_to f n g c && writes_copy f c (repack_in v k)) v v
no_copy_written f n v is = gone_same (λ k g c. false) (λ k g c. is_copy_to f n g c && writes_copy f c (repack_in v k)) v v (λ k g c. sym (off k g c)) (none_gone v)
  where
    none : (c : ℕ) → (nat_le 1 c && nat_le c n) ≡ false
    none c = grind (arith, nat_tests)

    zero : (a b : Bool) → ((a && false) && b) ≡ false
    zero true b = refl
    zero false b = refl

    off : (k g c : ℕ) → (is_copy_to f n g c && writes_copy f c (repack_in v k)) ≡ false
    off k g c = rw (none c) (zero (g == f) (writes_copy f c (repack_in v k)))

-- the last copy, and then the lower ones
pub next_copy_written : (f n : ℕ) (v u w : Repacks) → 1 ≤ n → AreGone (λ k g c. (g == f && c == n) && writes_copy f n (repack_in v k)) v u → AreGone (λ k g c. is_copy_to f (n - 1) g c && writes_copy f c (repack_in u k)) u w
    → AreGone (λ k g c. is_copy_to f n g c && writes_copy f c (repack_in v k)) v w
next_copy_written f n v u w low one rest =
    gone_same (λ k g c. ((g == f && c == n) && writes_copy f n (repack_in v k)) || (is_copy_to f (n - 1) g c && writes_copy f c (repack_in u k))) (λ k g c. is_copy_to f n g c && writes_copy f c (repack_in v k)) v w
    (λ k g c. same k (g == f) c)
    (gone_both (λ k g c. (g == f && c == n) && writes_copy f n (repack_in v k)) (λ k g c. is_copy_to f (n - 1) g c && writes_copy f c (repack_in u k)) v u w one rest)
  where
    this : (a x y : Bool) → (((a && true) && x) || ((a && false) && y)) ≡ ((a && true) && x)
    this true true y = refl
    this true false y = refl
    this false x y = refl

    others : (a b x y : Bool) → (((a && false) && x) || ((a && b) && y)) ≡ ((a && b) && y)
    others true true x y = refl
    others true false x y = refl
    others false b x y = refl

    still : (k c : ℕ) → (c == n) ≡ false → writes_copy f c (repack_in u k) ≡ writes_copy f c (repack_in v k)
    still k c miss = ap (writes_copy f c) (one k) ∙ writes_same (λ g d. (g == f && d == n) && writes_copy f n (repack_in v k)) f c (repack_in v k) (rw miss (zero (f == f) (writes_copy f n (repack_in v k))))
      where
        zero : (a b : Bool) → ((a && false) && b) ≡ false
        zero true b = refl
        zero false b = refl

    same : (k : ℕ) (a : Bool) (c : ℕ) → (((a && c == n) && writes_copy f n (repack_in v k)) || ((a && (nat_le 1 c && nat_le c (n - 1))) && writes_copy f c (repack_in u k))) ≡ ((a && (nat_le 1 c && nat_le c n)) && writes_copy f c (repack_in v k))
    same k a c =
        elim (bool_cases (c == n)) [
          | inl hit ↦
              (let is : c ≡ n = eqb-true c n hit in
              let above : (nat_le 1 c && nat_le c (n - 1)) ≡ false = grind (arith, nat_tests) in
              let within : (nat_le 1 c && nat_le c n) ≡ true = grind (arith, nat_tests) in
              rw (hit, above, within) (this a (writes_copy f n (repack_in v k)) (writes_copy f c (repack_in u k)) ∙ ap (λ (m : ℕ). (a && true) && writes_copy f m (repack_in v k)) (sym is)))
          | inr miss ↦
              (let level : (nat_le 1 c && nat_le c (n - 1)) ≡ (nat_le 1 c && nat_le c n) = grind (arith, nat_tests) in
              rw (miss, still k c miss, level) (others a (nat_le 1 c && nat_le c n) (writes_copy f n (repack_in v k)) (writes_copy f c (repack_in v k))))
        ]
