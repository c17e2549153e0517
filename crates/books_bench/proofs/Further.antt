-- A further file of a request, with a number and a path of its own.
use Rattle.std.proofs.Common.{◌≡◌, ◌∙◌, ◌≤◌, ◌<◌, ◌+◌, ◌^◌, ◌++◌, ℕ, List, [], ◌∷◌, Option, Some, None, Bool, true, false, refl, sym, ap, subst, arith}
use Rattle.std.specs.Prelude.{◌==◌, bytes_eq, codes, decimal}
use Rattle.std.proofs.lemmas.Bool.{or_from, or_parts}
use Rattle.std.proofs.lemmas.Fmt.{decimal_injective}
use Rattle.std.proofs.lemmas.List.{append_cancel_left}
use Rattle.std.proofs.lemmas.Slice.Eq.{bytes_eq-Decides}
use Rattle.cta_model.specs.declared.states.StageFile.{StageFile}
use Rattle.cta_model.specs.History.{is_number}
use Rattle.stage_book.specs.Requested.{AreApart, ArePathsApart, IsOther, has_file, has_path}
use Rattle.books_bench.specs.Batches.{IsBatch, path_named}

flip : (x y : ℕ) → (x == y) ≡ (y == x)
flip x y = grind arith

above : (n f : ℕ) → n + 1 ≤ f → (f == n) ≡ false
above n f le = grind arith

none_is_other : (o : Option ℕ) → IsOther o []
none_is_other None = tt
none_is_other (Some f) = refl

lacks_more : (f : ℕ) (s : StageFile) (xs : List StageFile) → has_file f xs ≡ false → is_number f s.file ≡ false → has_file f (xs ++ s ∷ []) ≡ false
lacks_more f s [] none other = or_from _ _ other refl
lacks_more f s (x ∷ xs) none other = or_from _ _ (or_parts _ _ none).0 (lacks_more f s xs (or_parts _ _ none).1 other)

other_more : (o : Option ℕ) (n : ℕ) (s : StageFile) (xs : List StageFile) → s.file ≡ Some n → IsOther o xs → is_number n o ≡ false → IsOther o (xs ++ s ∷ [])
other_more None n s xs is other differs = tt
other_more (Some g) n s xs is other differs = lacks_more g s xs other (ap (λ o. is_number g o) is ∙ flip g n ∙ differs)

apart_more : (n : ℕ) (s : StageFile) (xs : List StageFile) → s.file ≡ Some n → AreApart xs → has_file n xs ≡ false → AreApart (xs ++ s ∷ [])
apart_more n s [] is apart none = (none_is_other s.file, tt)
apart_more n s (x ∷ xs) is (other, apart) none =
    (other_more x.file n s xs is other (or_parts _ _ none).0, apart_more n s xs is apart (or_parts _ _ none).1)

bytes_other : (p q : List ℕ) → bytes_eq p q ≡ false → bytes_eq q p ≡ false
bytes_other p q e = by (bytes_eq q p) refl
  where
    by : (b : Bool) → bytes_eq q p ≡ b → bytes_eq q p ≡ false
    by true k = (let both : bytes_eq p q ≡ true = (bytes_eq-Decides p q).1 (sym ((bytes_eq-Decides q p).0 k)) in absurd (cc))
    by false k = k

lacks_path : (p : List ℕ) (s : StageFile) (xs : List StageFile) → has_path p xs ≡ false → bytes_eq p s.path ≡ false → has_path p (xs ++ s ∷ []) ≡ false
lacks_path p s [] none other = or_from _ _ other refl
lacks_path p s (x ∷ xs) none other = or_from _ _ (or_parts _ _ none).0 (lacks_path p s xs (or_parts _ _ none).1 other)

paths_more : (s : StageFile) (xs : List StageFile) → ArePathsApart xs → has_path s.path xs ≡ false → ArePathsApart (xs ++ s ∷ [])
paths_more s [] apart none = (refl, tt)
paths_more s (x ∷ xs) (other, apart) none = (lacks_path x.path s xs other (bytes_other s.path x.path (or_parts _ _ none).0), paths_more s xs apart (or_parts _ _ none).1)

-- two files have two paths
unlike : (f n : ℕ) → f < 2 ^ 32 → n < 2 ^ 32 → n + 1 ≤ f → bytes_eq (path_named f) (path_named n) ≡ false
unlike f n low small more = by (bytes_eq (path_named f) (path_named n)) refl
  where
    by : (b : Bool) → bytes_eq (path_named f) (path_named n) ≡ b → bytes_eq (path_named f) (path_named n) ≡ false
    by true k =
        (let same : decimal f ≡ decimal n = append_cancel_left (codes "/data/atlas/file") (decimal f) (decimal n) ((bytes_eq-Decides (path_named f) (path_named n)).0 k) in
        let one : f ≡ n = decimal_injective f n (omega arith) (omega arith) same in
        absurd (omega arith))
    by false k = k

pub batch_more : (n : ℕ) (s : StageFile) (xs ys : List StageFile) → ys ≡ xs ++ s ∷ [] → s.file ≡ Some n → s.path ≡ path_named n → n < 2 ^ 32 → IsBatch n xs → IsBatch (n + 1) ys
batch_more n s xs ys ends is named low was = record {
  apart = subst (λ l. AreApart l) (sym ends) (apart_more n s xs is was.apart (was.beyond n (itself n)));
  paths = subst (λ l. ArePathsApart l) (sym ends) (paths_more s xs was.paths (ap (λ p. has_path p xs) named ∙ was.unnamed n (itself n) low));
  beyond = λ f le. ap (λ l. has_file f l) ends ∙ lacks_more f s xs (was.beyond f (below n f le)) (ap (λ o. is_number f o) is ∙ above n f le);
  unnamed = λ f le small. ap (λ l. has_path (path_named f) l) ends ∙ lacks_path (path_named f) s xs (was.unnamed f (below n f le) small) (ap (λ p. bytes_eq (path_named f) p) named ∙ unlike f n small low le);
}
  where
    below : (m k : ℕ) → m + 1 ≤ k → m ≤ k
    below m k le = omega arith

    itself : (m : ℕ) → m ≤ m
    itself m = omega arith
