-- Lists, texts and counts that follow one another.
use Rattle.std.proofs.Common.{◌≡◌, ℕ, ◌≤◌, List, [], ◌∷◌, ◌++◌, map, append_assoc, append-nil, Option, Some, None, refl, sym, ap, ◌∙◌, subst, arith}
use Rattle.std.specs.List.{AllByRecursion}
use Rattle.std.specs.Io.KnownBytes.{Consumes, Keeps}
use mathlib.Core.List.{IsPrefix}
use Rattle.outside.specs.Causes.{Rose}
use Rattle.outside.specs.Streams.{StillAppends, StillAppendsFront}

pub map_append : {A X : Type 0} (f : A → X) (xs ys : List A) → map f (xs ++ ys) ≡ map f xs ++ map f ys
map_append f [] ys = refl
map_append f (x ∷ xs) ys = ap (λ l. f x ∷ l) (map_append f xs ys)

pub all_append : {A : Type 0} (P : A → Type 0) (xs ys : List A) → AllByRecursion P xs → AllByRecursion P ys → AllByRecursion P (xs ++ ys)
all_append P [] ys a b = b
all_append P (x ∷ xs) ys a b = (a.0, all_append P xs ys a.1 b)

pub all_as : {A : Type 0} (P Q : A → Type 0) (xs : List A) → ((x : A) → P x → Q x) → AllByRecursion P xs → AllByRecursion Q xs
all_as P Q [] f a = tt
all_as P Q (x ∷ xs) f a = (f x a.0, all_as P Q xs f a.1)

pub begins_itself : {A : Type 0} (xs : List A) → IsPrefix xs xs
begins_itself xs = ([], append-nil xs)

pub begins_both : {A : Type 0} (xs ys zs : List A) → IsPrefix xs ys → IsPrefix ys zs → IsPrefix xs zs
begins_both xs ys zs p q = (p.0 ++ q.0, sym (append_assoc xs p.0 q.0) ∙ ap (λ l. l ++ q.0) p.1 ∙ q.1)

pub still_none : (w : Option (List ℕ)) → StillAppends w w []
still_none None = refl
still_none (Some xs) = sym (append-nil xs)

pub still_same : (w w' : Option (List ℕ)) → w' ≡ w → StillAppends w w' []
still_same w w' e = subst (λ x. StillAppends w x []) (sym e) (still_none w)

pub still_more : (a b c : Option (List ℕ)) (x y : List ℕ) → StillAppends a b x → StillAppends b c y → StillAppends a c (x ++ y)
still_more None b c x y h k = none_stays b c y h k
  where
    none_stays : (b c : Option (List ℕ)) (y : List ℕ) → b ≡ None → StillAppends b c y → c ≡ None
    none_stays None c y h k = k
    none_stays (Some ys) c y h k = absurd cc
still_more (Some xs) None None x y h k = tt
still_more (Some xs) None (Some zs) x y h k = absurd cc
still_more (Some xs) (Some ys) None x y h k = tt
still_more (Some xs) (Some ys) (Some zs) x y h k = k ∙ ap (λ l. l ++ y) h ∙ append_assoc xs x y

pub still_front : (a b c : Option (List ℕ)) (x y : List ℕ) → StillAppends a b x → StillAppendsFront b c y → StillAppendsFront a c (x ++ y)
still_front a b c x y h k = (x ++ k.0, still_more a b c x k.0 h k.1, (k.2.0, ap (λ l. x ++ l) k.2.1 ∙ sym (append_assoc x k.0 k.2.0)))

pub consumes_more : (a b c : Option (List ℕ)) (x y : List ℕ) → Consumes a b x → Consumes b c y → Consumes a c (x ++ y)
consumes_more None b c x y h k = tt
consumes_more (Some xs) None c x y h k = absurd h
consumes_more (Some xs) (Some ys) None x y h k = absurd k
consumes_more (Some xs) (Some ys) (Some zs) x y h k = h ∙ ap (λ l. x ++ l) k ∙ sym (append_assoc x y zs)

pub consumes_none : (a : Option (List ℕ)) → Consumes a a []
consumes_none None = tt
consumes_none (Some xs) = refl

-- what was kept was consumed by no byte
pub keeps_consumes : (a b : Option (List ℕ)) → Keeps a b → Consumes a b []
keeps_consumes None b k = tt
keeps_consumes (Some xs) None k = absurd k
keeps_consumes (Some xs) (Some ys) k = sym k

pub rose_later : (a b c : ℕ) → a ≤ b → Rose b c → Rose a c
rose_later a b c le h = omega arith

pub rose_before : (a b c : ℕ) → Rose a b → b ≤ c → Rose a c
rose_before a b c h le = omega arith
