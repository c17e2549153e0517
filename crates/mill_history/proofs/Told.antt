-- Lists that are read one by one, and hold at each index what they should.
use Rattle.std.specs.Prelude.{ℕ, ◌≡◌, ◌≢◌, ◌↔◌, IsTrue, refl, ◌+◌, ◌<◌, List, [], ◌∷◌, ◌++◌, length, map, take, get_or, Bool, false}
use Rattle.std.specs.List.{range_with_len}
use Rattle.std.proofs.Common.{arith, ap, sym, ◌∙◌}
use Rattle.std.proofs.lemmas.Bool.{false≢true}
use Rattle.std.proofs.lemmas.List.{take_all, take_more, map-append, length-map, get_or-map}
use Rattle.std.proofs.lemmas.List.FromFn.{map-range_with_len_more, length-map-range_with_len, get_or-map-range_with_len}

pub told_none : {X Y : Type 0} (f : X → Y) (g : ℕ → Y) (xs : List X) → map f (take 0 xs) ≡ map g (range_with_len 0 0)
told_none f g xs = refl

-- one more
pub told_more : {X Y : Type 0} (f : X → Y) (g : ℕ → Y) (xs : List X) (at : ℕ) (x : X) → at < length xs → x ≡ get_or xs at x → f x ≡ g at → map f (take at xs) ≡ map g (range_with_len 0 at)
    → map f (take (at + 1) xs) ≡ map g (range_with_len 0 (at + 1))
told_more f g xs at x within read is before =
    ap (map f) (take_more xs at x within)
    ∙ (map-append f (take at xs) (get_or xs at x ∷ [])
    ∙ (ap (λ ys. ys ++ f (get_or xs at x) ∷ []) before
    ∙ (ap (λ y. map g (range_with_len 0 at) ++ f y ∷ []) (sym read)
    ∙ (ap (λ y. map g (range_with_len 0 at) ++ y ∷ []) is
    ∙ sym (map-range_with_len_more g 0 at at (omega arith))))))

pub told_all : {X Y : Type 0} (f : X → Y) (g : ℕ → Y) (xs : List X) (n : ℕ) → length xs ≡ n → map f (take n xs) ≡ map g (range_with_len 0 n) → map f xs ≡ map g (range_with_len 0 n)
told_all f g xs n count e = sym (ap (map f) (take_all n xs (omega (arith, count)))) ∙ e

-- there are so many
pub told_count : {X Y : Type 0} (f : X → Y) (g : ℕ → Y) (xs : List X) (n : ℕ) → map f xs ≡ map g (range_with_len 0 n) → length xs ≡ n
told_count f g xs n e = sym (length-map xs f) ∙ (ap length e ∙ length-map-range_with_len g 0 n)

-- each is as it should be
pub told_at : {X Y : Type 0} (f : X → Y) (g : ℕ → Y) (xs : List X) (n at : ℕ) (x : X) → at < n → x ≡ get_or xs at x → map f xs ≡ map g (range_with_len 0 n) → f x ≡ g at
told_at f g xs n at x within read e =
    let count : length xs ≡ n = told_count f g xs n e in
    ap f read ∙ (sym (get_or-map f xs at x (g at) (omega (arith, within, count))) ∙ (ap (λ ys. get_or ys at (g at)) e ∙ get_or-map-range_with_len g 0 n at at (g at) within (omega arith)))

-- lists of another length do not
pub other_count : {X Y : Type 0} (f : X → Y) (g : ℕ → Y) (xs : List X) (n : ℕ) → length xs ≢ n → IsTrue false ↔ (map f xs ≡ map g (range_with_len 0 n))
other_count f g xs n other = (λ e. absurd (false≢true e), λ told. absurd (other (told_count f g xs n told)))

-- lists with another item do not
pub other_item : {X Y : Type 0} (f : X → Y) (g : ℕ → Y) (xs : List X) (n at : ℕ) (x : X) (b : Bool) → at < n → x ≡ get_or xs at x → b ≡ false → IsTrue b ↔ (f x ≡ g at) → IsTrue false ↔ (map f xs ≡ map g (range_with_len 0 n))
other_item f g xs n at x b within read not_told is = (λ e. absurd (false≢true e), λ told. sym not_told ∙ is.1 (told_at f g xs n at x within read told))
