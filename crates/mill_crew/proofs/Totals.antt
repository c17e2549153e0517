-- Totals of contents, added up.
use Rattle.std.specs.Prelude.{ℕ, zero, suc, ◌≡◌, ◌+◌, ◌-◌, ◌<◌, ◌≤◌, ◌%◌, ◌^◌, List, [], ◌∷◌, ◌++◌, drop, get_or, length, map, sum, sum_by, take}
use Rattle.std.proofs.Common.{arith, ap, sym, subst, ◌∙◌, refl}
use Rattle.std.proofs.Math.Nat.{add-mod-mod, mod-add-mod}
use Rattle.std.proofs.lemmas.List.{map-append, take_all, take_more}
use Rattle.std.proofs.lemmas.List.Sums.{sum_by-append, sum_by-cons}
use Rattle.blob.specs.declared.sum.Sum256.{Sum256}
use Rattle.blob.specs.Sums.{sum_of}
use Rattle.mill_crew.specs.Contents.{AreFetched, HasTotal}

-- of no content
pub fetched_none : (sums : List Sum256) → AreFetched (take 0 sums) 0
fetched_none sums = record { contents = []; are = refl; adds_up = refl }

-- of one content
fetched_one : (s : Sum256) (n : ℕ) → HasTotal s n → AreFetched (s ∷ []) n
fetched_one s n h =
    let more = sum_by-cons sum h.content [] in
    let same : sum h.content ≡ sum_by sum (h.content ∷ []) = omega (arith, more) in
    record {
      contents = h.content ∷ [];
      are = ap (λ x. x ∷ []) h.is;
      adds_up = h.adds_up ∙ ap (λ k. k % 2 ^ 64) same;
    }

-- of the contents of two lists
fetched_both : (xs ys : List Sum256) (t u : ℕ) → AreFetched xs t → AreFetched ys u → AreFetched (xs ++ ys) ((t + u) % 2 ^ 64)
fetched_both xs ys t u a b = record {
  contents = a.contents ++ b.contents;
  are = map-append sum_of a.contents b.contents ∙ (ap (λ zs. zs ++ map sum_of b.contents) a.are ∙ ap (λ zs. xs ++ zs) b.are);
  adds_up =
      ap (λ n. (n + u) % 2 ^ 64) a.adds_up
      ∙ (mod-add-mod (sum_by sum a.contents) (2 ^ 64) u
      ∙ (ap (λ n. (sum_by sum a.contents + n) % 2 ^ 64) b.adds_up
      ∙ (add-mod-mod (sum_by sum a.contents) (sum_by sum b.contents) (2 ^ 64)
      ∙ ap (λ n. n % 2 ^ 64) (sym (sum_by-append sum a.contents b.contents)))));
}

-- one more file is fetched
pub fetched_more : (wanted : List Sum256) (i t one : ℕ) (s : Sum256) → take (i + 1) wanted ≡ take i wanted ++ s ∷ [] → AreFetched (take i wanted) t → HasTotal s one
    → AreFetched (take (i + 1) wanted) ((t + one) % 2 ^ 64)
fetched_more wanted i t one s is before h = subst (λ xs. AreFetched xs ((t + one) % 2 ^ 64)) (sym is) (fetched_both (take i wanted) (s ∷ []) t one before (fetched_one s one h))

take_none : {X : Type 0} (n : ℕ) → take {A = X} n [] ≡ []
take_none zero = refl
take_none (suc n) = refl

-- so many from the front, and then so many more
take_apart : {X : Type 0} (a n : ℕ) (xs : List X) → take a xs ++ take n (drop a xs) ≡ take (a + n) xs
take_apart zero n xs = let none : n ≡ 0 + n = omega arith in ap (λ k. take k xs) none
take_apart (suc a) n [] = take_none n ∙ sym (take_none (suc a + n))
take_apart (suc a) n (x ∷ xs) =
    let one : suc (a + n) ≡ suc a + n = omega arith in
    ap (λ ys. x ∷ ys) (take_apart a n xs) ∙ ap (λ k. take k (x ∷ xs)) one

-- the files of one more share are fetched
pub fetched_on : (sums : List Sum256) (at to t u : ℕ) → at ≤ to → AreFetched (take at sums) t → AreFetched (take (to - at) (drop at sums)) u → AreFetched (take to sums) ((t + u) % 2 ^ 64)
fetched_on sums at to t u above before part =
    let whole : at + (to - at) ≡ to = omega arith in
    subst (λ xs. AreFetched xs ((t + u) % 2 ^ 64)) (take_apart at (to - at) sums ∙ ap (λ k. take k sums) whole) (fetched_both (take at sums) (take (to - at) (drop at sums)) t u before part)

-- the files of a share that begins where the others end
pub fetched_next : (sums : List Sum256) (from at to t u : ℕ) → from ≡ at → at ≤ to → AreFetched (take at sums) t → AreFetched (take (to - from) (drop from sums)) u → AreFetched (take to sums) ((t + u) % 2 ^ 64)
fetched_next sums from at to t u same above before part = fetched_on sums at to t u above before (subst (λ b. AreFetched (take (to - b) (drop b sums)) u) same part)

-- the file at the next place is fetched
pub fetched_there : (wanted : List Sum256) (i t one : ℕ) (d : Sum256) → i < length wanted → AreFetched (take i wanted) t → HasTotal (get_or wanted i d) one → AreFetched (take (i + 1) wanted) ((t + one) % 2 ^ 64)
fetched_there wanted i t one d within before h = fetched_more wanted i t one (get_or wanted i d) (take_more wanted i d within) before h

-- all files are fetched
pub fetched_all : (sums : List Sum256) (at t : ℕ) → at ≡ length sums → AreFetched (take at sums) t → AreFetched sums t
fetched_all sums at t all before = subst (λ xs. AreFetched xs t) (take_all at sums (omega (arith, all))) before
