-- What a parameter of a router takes of a path is what the table's pattern says.
use Rattle.std.proofs.Common.{◌≡◌, ℕ, zero, suc, ◌+◌, ◌-◌, ◌<◌, ◌≤◌, Bool, true, false, cond, ◌||◌, ◌==◌, ltb, leb, List, [], ◌∷◌, ◌++◌, length, drop, take, get_or, Some, None, is_some, refl, sym, ap, subst, ◌∙◌, arith, true≢false, nat_lt, option_and_then, bytes_eq, length-append, add-one, length-drop}
use Rattle.std.proofs.lemmas.Bool.Decides.{nat_tests}
use Rattle.std.proofs.lemmas.Str.{IsCharBoundary-before_ascii, IsCharBoundary-from_take, IsUtf8-take, IsUtf8-drop}
use Rattle.std.specs.List.{list_any}
use Rattle.std.specs.Str.{IsUtf8}
use Rattle.std.specs.Cmp.Lexicographic.{same_text}
use Rattle.matchit.specs.Params.{wild_from, wild_stop, part_of}
use Rattle.matchit.specs.Rows.{param_token}
use Rattle.matchit.specs.Seek.{slash, segment}
use Rattle.tape_routes.specs.Routes.{Named, front_before, if_name, parameter_in}
use Rattle.tape_routes.proofs.Walks.{ends_name, both}
use Rattle.tape_routes.proofs.Patterns.{is_text}

-- where the parameter is in the tokens and in the path
pub wild_at : (w t : List ℕ) (len tok at : ℕ) → is_text w ≡ true → at + length w ≤ len → wild_from (w ++ param_token ∷ t) len tok at ≡ (tok + length w, at + length w)
wild_at [] t len tok at h room =
    let a : tok ≡ tok + 0 = omega arith in
    let c : at ≡ at + 0 = omega arith in
    ap (λ (x : ℕ). (x, at)) a ∙ ap (λ (x : ℕ). (tok + 0, x)) c
wild_at (x ∷ w) t len tok at h room =
    let low = both (nat_lt x 256) (is_text w) h in
    let less : ltb at len ≡ true = grind (arith, nat_tests) in
    let a : tok + 1 + length w ≡ tok + suc (length w) = omega arith in
    let c : at + 1 + length w ≡ at + suc (length w) = omega arith in
    rw (low.0, less) (wild_at w t len (tok + 1) (at + 1) low.1 (omega arith) ∙ ap (λ (x : ℕ). (x, at + 1 + length w)) a ∙ ap (λ (x : ℕ). (tok + suc (length w), x)) c)

get_at : (w t : List ℕ) (x : ℕ) → get_or (w ++ x ∷ t) (length w) 0 ≡ x
get_at [] t x = refl
get_at (y ∷ w) t x = get_at w t x

drop_past : (w t : List ℕ) (x : ℕ) → drop (suc (length w)) (w ++ x ∷ t) ≡ t
drop_past [] t x = refl
drop_past (y ∷ w) t x = drop_past w t x

-- where it ends
stop_at : (w t path : List ℕ) (at : ℕ) → ends_name t ≡ true → wild_stop (w ++ param_token ∷ t) (length w) path at ≡ cond (ltb 0 (length t)) (at + length (segment (drop at path)) - 1) (length path)
stop_at w [] path at h =
    let long : length (w ++ param_token ∷ []) ≡ length w + 1 = length-append w (param_token ∷ []) in
    let inside : ltb (length w + 1) (length w + 1) ≡ false = grind (arith, nat_tests) in
    let less : ltb (length w) (length w + 1) ≡ true = grind (arith, nat_tests) in
    rw (long, get_at w [] param_token, inside, less) refl
stop_at w (x ∷ t) path at h =
    let long : length (w ++ param_token ∷ x ∷ t) ≡ length w + length (param_token ∷ x ∷ t) = length-append w (param_token ∷ x ∷ t) in
    let less : ltb (length w) (length w + length (param_token ∷ x ∷ t)) ≡ true = grind (arith, nat_tests) in
    let inside : ltb (length w + 1) (length w + length (param_token ∷ x ∷ t)) ≡ true = grind (arith, nat_tests) in
    let some : ltb 0 (length (x ∷ t)) ≡ true = grind (arith, nat_tests) in
    let behind : drop (length w + 1) (w ++ param_token ∷ x ∷ t) ≡ x ∷ t = rw add-one (drop_past w (x ∷ t) param_token) in
    rw (long, get_at w (x ∷ t) param_token, less, inside, some, behind, h) refl

-- a segment that ends with the first slash
segment_name : (name t : List ℕ) → list_any (λ b. b == slash) name ≡ false → ends_name t ≡ true → 0 < length t → length (segment (name ++ t)) ≡ length name + 1
segment_name [] [] clean ends some = absurd (omega arith)
segment_name [] (x ∷ t) clean ends some = rw ends refl
segment_name (b ∷ name) t clean ends some = by (b == slash) clean (λ e. segment_name name t e ends some)
  where
    by : (v : Bool) → (v || list_any (λ c. c == slash) name) ≡ false → (list_any (λ c. c == slash) name ≡ false → length (segment (name ++ t)) ≡ length name + 1) → length (cond v (b ∷ []) (b ∷ segment (name ++ t))) ≡ length (b ∷ name) + 1
    by true e later = absurd (true≢false e)
    by false e later = let s = later e in omega arith

take_front : (a c : List ℕ) → take (length a) (a ++ c) ≡ a
take_front [] c = refl
take_front (x ∷ a) c = ap (λ (y : List ℕ). x ∷ y) (take_front a c)

pub take_all : (a : List ℕ) → take (length a) a ≡ a
take_all [] = refl
take_all (x ∷ a) = ap (λ (y : List ℕ). x ∷ y) (take_all a)

-- how a name was cut from a target
pub record IsCut (before after target name : List ℕ) : Type 0 where
  pub given : parameter_in (Named before after) target ≡ Some name
  pub room : length before ≤ length target
  pub back : drop (length before) target ≡ name ++ after
  pub clean : list_any (λ b. b == slash) name ≡ false

-- the bytes between two places
part_when : (path : List ℕ) (start stop : ℕ) → start ≤ stop → stop ≤ length path → part_of path start stop ≡ take (stop - start) (drop start path)
part_when path start stop h w =
    let a : leb start stop ≡ true = grind (arith, nat_tests) in
    let c : leb stop (length path) ≡ true = grind (arith, nat_tests) in
    rw (a, c) refl

nil_behind : (a : List ℕ) → a ++ [] ≡ a
nil_behind [] = refl
nil_behind (x ∷ a) = ap (λ (y : List ℕ). x ∷ y) (nil_behind a)

-- the bytes of a name
pub part_is : (before after target name : List ℕ) → is_text before ≡ true → ends_name after ≡ true → IsCut before after target name → part_of target (length before) (wild_stop (before ++ param_token ∷ after) (length before) target (length before)) ≡ name
part_is before [] target name text ends cut =
    let room : length before ≤ length target = cut.room in
    let whole : length target - length before ≡ length (drop (length before) target) = sym (length-drop (length before) target) in
    ap (λ (s : ℕ). part_of target (length before) s) (stop_at before [] target (length before) ends)
    ∙ part_when target (length before) (length target) room (omega arith)
    ∙ ap (λ (n : ℕ). take n (drop (length before) target)) whole
    ∙ take_all (drop (length before) target) ∙ cut.back ∙ nil_behind name
part_is before (x ∷ a) target name text ends cut =
    let room : length before ≤ length target = cut.room in
    let some : ltb 0 (length (x ∷ a)) ≡ true = grind (arith, nat_tests) in
    let seg : length (segment (drop (length before) target)) ≡ length name + 1 = rw cut.back (segment_name name (x ∷ a) cut.clean ends (omega arith)) in
    let stop : wild_stop (before ++ param_token ∷ x ∷ a) (length before) target (length before) ≡ length before + length name =
    stop_at before (x ∷ a) target (length before) ends ∙ rw (some, seg) (omega arith) in
    let whole : length target - length before ≡ length name + length (x ∷ a) = sym (length-drop (length before) target) ∙ ap length cut.back ∙ length-append name (x ∷ a) in
    let taken : length before + length name - length before ≡ length name = omega arith in
    ap (λ (s : ℕ). part_of target (length before) s) stop
    ∙ part_when target (length before) (length before + length name) (omega arith) (omega arith)
    ∙ ap (λ (n : ℕ). take n (drop (length before) target)) taken
    ∙ ap (λ (r : List ℕ). take (length name) r) cut.back ∙ take_front name (x ∷ a)

-- the name is text, as the target is
pub name_is_text : (before after target name : List ℕ) → ends_name after ≡ true → IsUtf8 before → take (length before) target ≡ before → IsUtf8 target → IsCut before after target name → IsUtf8 name
name_is_text before [] target name ends front taken whole cut =
    let room : length before ≤ length target = cut.room in
    let place = IsCharBoundary-from_take target (length before) whole room (subst IsUtf8 (sym taken) front) in
    subst IsUtf8 (cut.back ∙ nil_behind name) (IsUtf8-drop target (length before) whole place)
name_is_text before (x ∷ a) target name ends front taken whole cut =
    let room : length before ≤ length target = cut.room in
    let place = IsCharBoundary-from_take target (length before) whole room (subst IsUtf8 (sym taken) front) in
    let rest : IsUtf8 (name ++ x ∷ a) = subst IsUtf8 cut.back (IsUtf8-drop target (length before) whole place) in
    let long : length (name ++ x ∷ a) ≡ length name + length (x ∷ a) = length-append name (x ∷ a) in
    let byte : get_or (name ++ x ∷ a) (length name) 0 ≡ x = get_at name a x in
    let low : x ≡ slash = grind (arith, nat_tests) in
    subst IsUtf8 (take_front name (x ∷ a)) (IsUtf8-take (name ++ x ∷ a) (length name) rest (IsCharBoundary-before_ascii (name ++ x ∷ a) (length name) (omega arith) (omega arith)))

-- pieces of a target
took : (n : ℕ) (xs : List ℕ) → length (take n xs) ≡ n → n ≤ length xs
took zero xs h = omega arith
took (suc n) [] h = absurd (omega arith)
took (suc n) (x ∷ xs) h = let e = took n xs (omega arith) in omega arith

two_pieces : (n : ℕ) (xs : List ℕ) → xs ≡ take n xs ++ drop n xs
two_pieces zero xs = refl
two_pieces (suc n) [] = refl
two_pieces (suc n) (x ∷ xs) = ap (λ (y : List ℕ). x ∷ y) (two_pieces n xs)

neither : (a c : Bool) → (a || c) ≡ false → c ≡ false
neither true c h = absurd (true≢false h)
neither false c h = h

-- a target that has a parameter is cut so
pub cut_of : (before after target : List ℕ) → is_some (parameter_in (Named before after) target) ≡ true → (take (length before) target ≡ before) × ((name : List ℕ) × IsCut before after target name)
cut_of before after target h = by (bytes_eq (take (length before) target) before) refl h
  where
    rest : List ℕ
    rest = drop (length before) target

    name : List ℕ
    name = take (length rest - length after) rest

    third : take (length before) target ≡ before → bytes_eq (take (length before) target) before ≡ true → drop (length rest - length after) rest ≡ after → bytes_eq (drop (length rest - length after) rest) after ≡ true → (v : Bool) → ((length name == 0) || list_any (λ b. b == slash) name) ≡ v → is_some (cond v None (Some name)) ≡ true → IsCut before after target name
    third a p c q true g i = absurd (true≢false (sym i))
    third a p c q false g i = record {
      given = rw (p, q, g) refl;
      room = took (length before) target (ap length a);
      back = two_pieces (length rest - length after) rest ∙ ap (λ (z : List ℕ). name ++ z) c;
      clean = neither (length name == 0) (list_any (λ b. b == slash) name) g;
    }

    second : take (length before) target ≡ before → bytes_eq (take (length before) target) before ≡ true → (v : Bool) → bytes_eq (drop (length rest - length after) rest) after ≡ v → is_some (option_and_then if_name (cond v (Some name) None)) ≡ true → IsCut before after target name
    second a p true e i = third a p (same_text (drop (length rest - length after) rest) after (sym e)) e ((length name == 0) || list_any (λ b. b == slash) name) refl i
    second a p false e i = absurd (true≢false (sym i))

    by : (v : Bool) → bytes_eq (take (length before) target) before ≡ v → is_some (option_and_then if_name (option_and_then (front_before after) (cond v (Some rest) None))) ≡ true → (take (length before) target ≡ before) × ((n : List ℕ) × IsCut before after target n)
    by true e i = let a = same_text (take (length before) target) before (sym e) in (a, (name, second a e (bytes_eq (drop (length rest - length after) rest) after) refl i))
    by false e i = absurd (true≢false (sym i))
