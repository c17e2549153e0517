-- The patterns of the table, as patterns of a router.
use Rattle.std.proofs.Common.{◌≡◌, ◌≢◌, ℕ, zero, suc, ◌-◌, ◌<◌, Bool, true, false, cond, not, ◌&&◌, ◌||◌, ◌==◌, List, [], ◌∷◌, ◌++◌, length, drop, take, Some, None, is_some, refl, sym, ap, ◌∙◌, arith, true≢false, nat_eq, nat_lt, nat_le, option_and_then, bytes_eq}
use Rattle.std.proofs.lemmas.Bool.Decides.{nat_tests}
use Rattle.std.specs.List.{list_any}
use Rattle.matchit.specs.Rows.{param_token, catch_all_token}
use Rattle.matchit.specs.Seek.{slash}
use Rattle.tape_routes.specs.Routes.{Pattern, Fixed, Named, Below, front_before, if_name, if_below, parameter_in}
use Rattle.tape_routes.specs.Router.{tokens}
use Rattle.tape_routes.proofs.Walks.{fits, from_slash, ends_name, both}

-- each of these is a byte
abbrev pub is_text : List ℕ → Bool
is_text [] = true
is_text (b ∷ rest) = nat_lt b 256 && is_text rest

-- a pattern's texts are bytes, and behind a parameter comes nothing or a slash
abbrev pub is_plain : Pattern → Bool
is_plain (Fixed text) = is_text text
is_plain (Named before after) = is_text before && (is_text after && ends_name after)
is_plain (Below text) = is_text text

either_way : (a b : ℕ) → (a == b) ≡ nat_eq b a
either_way a b = by (a == b) refl (nat_eq b a) refl
  where
    by : (v : Bool) → (a == b) ≡ v → (w : Bool) → nat_eq b a ≡ w → v ≡ w
    by true e true f = refl
    by true e false f = grind (arith, nat_tests)
    by false e true f = grind (arith, nat_tests)
    by false e false f = refl

-- a byte is no token of a parameter
fits_one : (x b : ℕ) (t p : List ℕ) → nat_lt x 256 ≡ true → fits (x ∷ t) (b ∷ p) ≡ (nat_eq b x && fits t p)
fits_one x b t p low =
    let name : (x == param_token) ≡ false = grind (arith, nat_tests) in
    let rest : (x == catch_all_token) ≡ false = grind (arith, nat_tests) in
    rw (name, rest, either_way x b) refl

and_false : (a : Bool) → (a && false) ≡ false
and_false true = refl
and_false false = refl

-- a text fits itself
pub fits_text : (w p : List ℕ) → is_text w ≡ true → fits w p ≡ bytes_eq p w
fits_text [] [] h = refl
fits_text [] (b ∷ p) h = refl
fits_text (x ∷ w) [] h = refl
fits_text (x ∷ w) (b ∷ p) h =
    let low = both (nat_lt x 256) (is_text w) h in
    fits_one x b w p low.0 ∙ ap (λ v. nat_eq b x && v) (fits_text w p low.1)

-- a text in front of a pattern
fits_front : (w t p : List ℕ) → is_text w ≡ true → fits (w ++ t) p ≡ cond (bytes_eq (take (length w) p) w) (fits t (drop (length w) p)) false
fits_front [] t p h = refl
fits_front (x ∷ w) t [] h = refl
fits_front (x ∷ w) t (b ∷ p) h =
    let low = both (nat_lt x 256) (is_text w) h in
    fits_one x b (w ++ t) p low.0 ∙ ap (λ v. nat_eq b x && v) (fits_front w t p low.1) ∙ by (nat_eq b x)
  where
    by : (v : Bool) → (v && cond (bytes_eq (take (length w) p) w) (fits t (drop (length w) p)) false) ≡ cond (v && bytes_eq (take (length w) p) w) (fits t (drop (length w) p)) false
    by true = refl
    by false = refl

-- what goes on below a text
fits_below : (p : List ℕ) → fits (slash ∷ catch_all_token ∷ []) p ≡ is_some (if_below p)
fits_below [] = refl
fits_below (b ∷ []) = by (slash == b) (b == slash)
  where
    by : (u v : Bool) → (u && false) ≡ is_some (cond (v && false) (Some (b ∷ [])) None)
    by true true = refl
    by true false = refl
    by false true = refl
    by false false = refl
fits_below (b ∷ c ∷ p) = by (slash == b) (b == slash) (either_way slash b) (nat_le 2 (length (b ∷ c ∷ p))) (grind (arith, nat_tests))
  where
    by : (u v : Bool) → u ≡ v → (n : Bool) → n ≡ true → (u && true) ≡ is_some (cond (v && n) (Some (b ∷ c ∷ p)) None)
    by u v e true f = rw e (same v)
      where
        same : (v : Bool) → (v && true) ≡ is_some (cond (v && true) (Some (b ∷ c ∷ p)) None)
        same true = refl
        same false = refl
    by u v e false f = absurd (true≢false (sym f))

-- texts of two lengths differ
differ : (p w : List ℕ) → length p ≢ length w → bytes_eq p w ≡ false
differ [] [] h = absurd (h refl)
differ [] (x ∷ w) h = refl
differ (b ∷ p) [] h = refl
differ (b ∷ p) (x ∷ w) h = rw (differ p w (λ e. h (ap suc e))) (and_false (nat_eq b x))

and_true : (a : Bool) → a ≡ (a && true)
and_true true = refl
and_true false = refl

-- a text that begins with a slash, or none, is no text that begins otherwise
no_slash_front : (b : ℕ) (p after : List ℕ) → (b == slash) ≡ false → ends_name after ≡ true → 0 < length after → bytes_eq (b ∷ p) after ≡ false
no_slash_front b p [] e ends some = refl
no_slash_front b p (x ∷ a) e ends some =
    let other : nat_eq b x ≡ false = grind (arith, nat_tests) in
    rw other refl

-- from its first slash on a path is this text, if it ends with it and has no slash before
fits_from_slash : (after p : List ℕ) (n : ℕ) → is_text after ≡ true → ends_name after ≡ true → n ≡ length p - length after → fits after (from_slash p) ≡ (bytes_eq (drop n p) after && not (list_any (λ b. b == slash) (take n p)))
fits_from_slash after [] zero text ends e = fits_text after [] text ∙ and_true (bytes_eq [] after)
fits_from_slash after [] (suc n) text ends e = absurd (omega arith)
fits_from_slash after (b ∷ p) zero text ends e = by (b == slash) refl (fits_from_slash after p zero text ends)
  where
    some : zero ≡ length (b ∷ p) - length after → 0 < length after
    some e = omega arith

    by : (v : Bool) → (b == slash) ≡ v → (zero ≡ length p - length after → fits after (from_slash p) ≡ (bytes_eq p after && true)) → fits after (cond v (b ∷ p) (from_slash p)) ≡ (bytes_eq (b ∷ p) after && true)
    by true f later = fits_text after (b ∷ p) text ∙ and_true (bytes_eq (b ∷ p) after)
    by false f later =
        let short : length p ≢ length after = λ same. omega arith in
        rw (no_slash_front b p after f ends (some e)) (later (omega arith) ∙ ap (λ v. v && true) (differ p after short))
fits_from_slash after (b ∷ p) (suc n) text ends e = by (b == slash) refl (fits_from_slash after p n text ends)
  where
    by : (v : Bool) → (b == slash) ≡ v → (n ≡ length p - length after → fits after (from_slash p) ≡ (bytes_eq (drop n p) after && not (list_any (λ c. c == slash) (take n p)))) → fits after (cond v (b ∷ p) (from_slash p)) ≡ (bytes_eq (drop n p) after && not (v || list_any (λ c. c == slash) (take n p)))
    by true f later =
        let long : length (b ∷ p) ≢ length after = λ same. omega arith in
        fits_text after (b ∷ p) text ∙ differ (b ∷ p) after long ∙ sym (and_false (bytes_eq (drop n p) after))
    by false f later = later (omega arith)

-- whether a name is found before a text
named_is : (after p name : List ℕ) (v : Bool) → is_some (option_and_then if_name (cond v (Some name) None)) ≡ (v && not ((length name == 0) || list_any (λ b. b == slash) name))
named_is after p name false = refl
named_is after p name true = by ((length name == 0) || list_any (λ b. b == slash) name)
  where
    by : (v : Bool) → is_some (cond v None (Some name)) ≡ not v
    by true = refl
    by false = refl

-- a name, and a text behind it
fits_cut : (after p : List ℕ) (n : ℕ) → is_text after ≡ true → ends_name after ≡ true → n ≡ length p - length after → fits (param_token ∷ after) p ≡ (bytes_eq (drop n p) after && not ((length (take n p) == 0) || list_any (λ b. b == slash) (take n p)))
fits_cut after [] zero text ends e = sym (and_false (bytes_eq [] after))
fits_cut after [] (suc n) text ends e = absurd (omega arith)
fits_cut after (b ∷ p) zero text ends e = by (b == slash) ∙ sym (and_false (bytes_eq (b ∷ p) after))
  where
    by : (v : Bool) → (not v && fits after (from_slash p)) ≡ false
    by true = refl
    by false =
        let short : length p ≢ length after = λ same. omega arith in
        fits_from_slash after p zero text ends (omega arith) ∙ ap (λ v. v && true) (differ p after short)
fits_cut after (b ∷ p) (suc n) text ends e = by (b == slash)
  where
    nothing : (z : Bool) → (z || true) ≡ true
    nothing true = refl
    nothing false = refl

    by : (v : Bool) → (not v && fits after (from_slash p)) ≡ (bytes_eq (drop n p) after && not ((length (b ∷ take n p) == 0) || (v || list_any (λ c. c == slash) (take n p))))
    by true = rw nothing (sym (and_false (bytes_eq (drop n p) after)))
    by false =
        let some : (length (b ∷ take n p) == 0) ≡ false = grind (arith, nat_tests) in
        rw some (fits_from_slash after p n text ends (omega arith))

fits_name : (after p : List ℕ) → is_text after ≡ true → ends_name after ≡ true → fits (param_token ∷ after) p ≡ is_some (option_and_then if_name (front_before after p))
fits_name after p text ends =
    fits_cut after p (length p - length after) text ends refl
    ∙ sym (named_is after p (take (length p - length after) p) (bytes_eq (drop (length p - length after) p) after))

-- a target fits a pattern exactly where it has a parameter in it
pub fits_pattern : (pattern : Pattern) (p : List ℕ) → is_plain pattern ≡ true → fits (tokens pattern) p ≡ is_some (parameter_in pattern p)
fits_pattern (Fixed text) p h = fits_text text p h ∙ by (bytes_eq p text)
  where
    by : (v : Bool) → v ≡ is_some {T = List ℕ} (cond v (Some []) None)
    by true = refl
    by false = refl
fits_pattern (Named before after) p h =
    let first = both (is_text before) (is_text after && ends_name after) h in
    let then = both (is_text after) (ends_name after) first.1 in
    fits_front before (param_token ∷ after) p first.0 ∙ by (bytes_eq (take (length before) p) before) (fits_name after (drop (length before) p) then.0 then.1)
  where
    by : (v : Bool) → fits (param_token ∷ after) (drop (length before) p) ≡ is_some (option_and_then if_name (front_before after (drop (length before) p))) → cond v (fits (param_token ∷ after) (drop (length before) p)) false ≡ is_some (option_and_then if_name (option_and_then (front_before after) (cond v (Some (drop (length before) p)) None)))
    by true e = e
    by false e = refl
fits_pattern (Below text) p h = fits_front text (slash ∷ catch_all_token ∷ []) p h ∙ by (bytes_eq (take (length text) p) text) (fits_below (drop (length text) p))
  where
    by : (v : Bool) → fits (slash ∷ catch_all_token ∷ []) (drop (length text) p) ≡ is_some (if_below (drop (length text) p)) → cond v (fits (slash ∷ catch_all_token ∷ []) (drop (length text) p)) false ≡ is_some (option_and_then if_below (cond v (Some (drop (length text) p)) None))
    by true e = e
    by false e = refl

-- no path fits two patterns that part at a byte, or of which one ends
abbrev pub apart : List ℕ → List ℕ → Bool
apart [] [] = false
apart [] (y ∷ u) = true
apart (x ∷ t) [] = true
apart (x ∷ t) (y ∷ u) =
    cond (nat_lt x 256 && nat_lt y 256) (not (x == y) || apart t u) ((x == param_token) && ((y == param_token) && apart t u))

pub fits_apart : (t u p : List ℕ) → apart t u ≡ true → fits t p ≡ true → fits u p ≡ false
fits_apart [] [] p h f = absurd (true≢false (sym h))
fits_apart [] (y ∷ u) [] h f = refl
fits_apart [] (y ∷ u) (b ∷ p) h f = absurd (true≢false (sym f))
fits_apart (x ∷ t) [] [] h f = absurd (true≢false (sym f))
fits_apart (x ∷ t) [] (b ∷ p) h f = refl
fits_apart (x ∷ t) (y ∷ u) [] h f = refl
fits_apart (x ∷ t) (y ∷ u) (b ∷ p) h f = by (nat_lt x 256 && nat_lt y 256) refl h (λ q. fits_apart t u q)
  where
    on : ((q : List ℕ) → apart t u ≡ true → fits t q ≡ true → fits u q ≡ false) → (v : Bool) → (x == y) ≡ v → (not v || apart t u) ≡ true → nat_eq b x ≡ true → fits t p ≡ true → (nat_eq b y && fits u p) ≡ false
    on later true e part same f = rw (later p part f) (and_false (nat_eq b y))
    on later false e part same f =
        let other : nat_eq b y ≡ false = grind (arith, nat_tests) in
        rw other refl

    bytes : ((q : List ℕ) → apart t u ≡ true → fits t q ≡ true → fits u q ≡ false) → (nat_lt x 256 && nat_lt y 256) ≡ true → (not (x == y) || apart t u) ≡ true → fits (y ∷ u) (b ∷ p) ≡ false
    bytes later low part =
        let l = both (nat_lt x 256) (nat_lt y 256) low in
        let s = both (nat_eq b x) (fits t p) (sym (fits_one x b t p l.0) ∙ f) in
        fits_one y b u p l.1 ∙ on later (x == y) refl part s.0 s.1

    names : ((q : List ℕ) → apart t u ≡ true → fits t q ≡ true → fits u q ≡ false) → ((x == param_token) && ((y == param_token) && apart t u)) ≡ true → fits (y ∷ u) (b ∷ p) ≡ false
    names later part =
        let l = both (x == param_token) ((y == param_token) && apart t u) part in
        let m = both (y == param_token) (apart t u) l.1 in
        let s = both (not (b == slash)) (fits t (from_slash p)) (rw l.0 at f) in
        rw (m.0, later (from_slash p) m.1 s.1) (and_false (not (b == slash)))

    by : (v : Bool) → (nat_lt x 256 && nat_lt y 256) ≡ v → cond v (not (x == y) || apart t u) ((x == param_token) && ((y == param_token) && apart t u)) ≡ true → ((q : List ℕ) → apart t u ≡ true → fits t q ≡ true → fits u q ≡ false) → fits (y ∷ u) (b ∷ p) ≡ false
    by true e part later = bytes later e part
    by false e part later = names later part
