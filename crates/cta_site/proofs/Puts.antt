-- Maps by byte strings after one more was put in.
use Rattle.std.proofs.Common.{◌≡◌, ◌∙◌, ◌+◌, ℕ, List, Bool, true, false, Option, Some, None, refl, sym, ap, subst, arith, cond, inl, inr}
use Rattle.std.proofs.lemmas.Bool.{cases_Bool}
use Rattle.std.proofs.lemmas.Map.Text.{is_eq-slice_cmp}
use Rattle.std.proofs.lemmas.Slice.Eq.{bytes_eq-Decides}
use Rattle.std.specs.Prelude.{bytes_eq, is_some, unwrap_or}
use Rattle.std.specs.Option.{option_or}
use Rattle.std.specs.BTreeMap.{BTreeMap, get_by, Updates}
use Rattle.std.specs.Cmp.{eq_by_cmp_equiv}
use Rattle.std.specs.Cmp.Lexicographic.{slice_cmp, nat_list_cmp_total, nat_list_eq_equiv}
use Rattle.std.specs.Map.{lookup, IsKeyTest, AreApart, KeepsOthers}
use Rattle.std.specs.Ordering.{is_eq, nat_cmp}

-- what a key tells in a map whose keys have bytes
abbrev pub told : {K X : Type 0} → (K → List ℕ) → BTreeMap K X → List ℕ → Option X
told bytes m key = get_by (λ k. slice_cmp nat_cmp key (bytes k)) m

apart : (bs cs ks : List ℕ) → bytes_eq bs cs ≡ false → is_eq (slice_cmp nat_cmp bs ks) ≡ true → is_eq (slice_cmp nat_cmp cs ks) ≡ false
apart bs cs ks n y = is_eq-slice_cmp cs ks ∙ (nat_list_eq_equiv.symm cs ks ∙ sym (nat_list_eq_equiv.congr bs ks cs (sym (is_eq-slice_cmp bs ks) ∙ y)) ∙ n)

others : {K X : Type 0} (eq : K → K → Bool) (test : K → Bool) (old new : List (K × X)) → KeepsOthers eq test old new → (other : K → Bool) → IsKeyTest eq other → AreApart test other → lookup other new ≡ lookup other old
unfolding KeepsOthers
others eq test old new h = h

-- a map whose keys are read by their bytes, after w was put in at the key k
pub told-put : {K X : Type 0} (bytes : K → List ℕ) (old new : BTreeMap K X) (k : K) (w : Option X) → Updates (λ x y. slice_cmp nat_cmp (bytes x) (bytes y)) old new k w
    → (key : List ℕ) → told bytes new key ≡ cond (bytes_eq (bytes k) key) w (told bytes old key)
told-put bytes old new k w updates key =
    elim (cases_Bool (bytes_eq (bytes k) key)) [
      | inl hit ↦ rw hit (subst (λ l. told bytes new l ≡ w) ((bytes_eq-Decides (bytes k) key).0 hit) updates.1)
      | inr miss ↦ rw miss (others _ _ _ _ updates.3 _ (λ x y. (eq_by_cmp_equiv nat_list_cmp_total).congr key (bytes x) (bytes y)) (λ x. apart (bytes k) key (bytes x) miss))
    ]

-- what a key tells where it is the one put in
at_key : {A : Type 0} (f : List ℕ → A) (name key : List ℕ) (x : A) → f name ≡ x → bytes_eq name key ≡ true → f key ≡ x
at_key f name key x e hit = ap f (sym ((bytes_eq-Decides name key).0 hit)) ∙ e

added : (o : Option ℕ) (b : Bool) (n : ℕ) → (b ≡ true → o ≡ None) → cond b (Some n) o ≡ option_or o (cond b (Some n) None)
added o true n none = rw (none refl) refl
added None false n none = refl
added (Some m) false n none = refl

there : (o : Option ℕ) (b : Bool) (n : ℕ) → (b ≡ true → is_some o ≡ true) → o ≡ option_or o (cond b (Some n) None)
there (Some m) b n some = refl
there None false n some = refl
there None true n some = let bad : false ≡ true = some refl in absurd (cc)

-- a number that is put in where none is there
pub number_added : (f g : List ℕ → Option ℕ) (name key : List ℕ) (n : ℕ) → is_some (f name) ≡ false → g key ≡ cond (bytes_eq name key) (Some n) (f key) → g key ≡ option_or (f key) (cond (bytes_eq name key) (Some n) None)
number_added f g name key n none put = put ∙ added (f key) (bytes_eq name key) n (λ hit. at_key f name key None (none_of (f name) none) hit)
  where
    none_of : (o : Option ℕ) → is_some o ≡ false → o ≡ None
    none_of None e = refl
    none_of (Some m) e = absurd (cc)

-- a number that is there already
pub number_there : (f : List ℕ → Option ℕ) (name key : List ℕ) (n : ℕ) → is_some (f name) ≡ true → f key ≡ option_or (f key) (cond (bytes_eq name key) (Some n) None)
number_there f name key n some = there (f key) (bytes_eq name key) n (λ hit. at_key (λ k. is_some (f k)) name key true some hit)

-- a count that is put in, one higher
pub count_raised : (f g : List ℕ → Option ℕ) (name key : List ℕ) (n : ℕ) → n ≡ unwrap_or (f name) 0 → g key ≡ cond (bytes_eq name key) (Some (n + 1)) (f key) → unwrap_or (g key) 0 ≡ unwrap_or (f key) 0 + cond (bytes_eq name key) 1 0
count_raised f g name key n was put =
    elim (cases_Bool (bytes_eq name key)) [
      | inl hit ↦
          let here : unwrap_or (f key) 0 ≡ n = at_key (λ k. unwrap_or (f k) 0) name key n (sym was) hit in
          let now : g key ≡ Some (n + 1) = rw hit at put in
          rw (now, hit, here) refl
      | inr miss ↦
          let now : g key ≡ f key = rw miss at put in
          rw (now, miss) (omega arith)
    ]
