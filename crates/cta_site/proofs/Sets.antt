-- Sets of names, and names that come again.
use Rattle.std.proofs.Common.{◌≡◌, ◌∙◌, ◌<◌, ◌+◌, ◌∷◌, ◌++◌, ◌||◌, ℕ, List, [], Bool, true, false, Some, None, length, take, drop, get_or, refl, sym, ap, arith, cond, drop-cons, add-one, ◌≤◌, map, not}
use Rattle.std.proofs.lemmas.List.{take_more, length-take-le, length-map}
use Rattle.std.proofs.Math.Seq.{drop-length}
use Rattle.std.proofs.Math.ListN.{get_or-map}
use Rattle.std.proofs.lemmas.List.Folds.{list_any-append}
use Rattle.std.proofs.lemmas.Map.Text.{is_eq-slice_cmp}
use Rattle.std.specs.Prelude.{bytes_eq}
use Rattle.std.specs.BTreeSet.{BTreeSet, contains_by, Updates}
use Rattle.std.specs.Cmp.Lexicographic.{slice_cmp, nat_list_eq_equiv}
use Rattle.std.specs.Ordering.{nat_cmp, is_eq}
use denote.Ref.{Bor}
use Rattle.cta_site.specs.Items.{is_among, repeat_after}

-- a set of names, asked by bytes
abbrev pub holds : BTreeSet (Bor (List ℕ)) → List ℕ → Bool
holds s name = contains_by (λ k. slice_cmp nat_cmp name k.now) s

or_swapped : (a b : Bool) → (a || (b || false)) ≡ cond b true a
or_swapped true true = refl
or_swapped true false = refl
or_swapped false true = refl
or_swapped false false = refl

pub is_among-push : (ns : List (List ℕ)) (n name : List ℕ) → is_among (ns ++ n ∷ []) name ≡ cond (bytes_eq name n) true (is_among ns name)
is_among-push ns n name = list_any-append (bytes_eq name) ns (n ∷ []) ∙ or_swapped (is_among ns name) (bytes_eq name n)

pub holds-more : (old new : BTreeSet (Bor (List ℕ))) (key : Bor (List ℕ)) (ns : List (List ℕ)) → Updates (λ x y. slice_cmp nat_cmp x.now y.now) old new key true
    → ((name : List ℕ) → holds old name ≡ is_among ns name) → (name : List ℕ) → holds new name ≡ is_among (ns ++ key.now ∷ []) name
holds-more old new key ns updates was name =
    let q : Bor (List ℕ) = record { ref_ptr = (0, 0); now = name } in
    let same : is_eq (slice_cmp nat_cmp key.now name) ≡ bytes_eq name key.now = is_eq-slice_cmp key.now name ∙ nat_list_eq_equiv.symm key.now name in
    updates.0 q ∙ ap (λ b. cond b true (holds old name)) same ∙ ap (λ b. cond (bytes_eq name key.now) true b) (was name) ∙ sym (is_among-push ns key.now name)

pub repeat_found : (ns : List (List ℕ)) (i : ℕ) → i < length ns → is_among (take i ns) (get_or ns i []) ≡ true → repeat_after bytes_eq (take i ns) (drop i ns) ≡ Some i
repeat_found ns i low hit =
    let fits : i ≤ length ns = omega arith in
    let len : length (take i ns) ≡ i = length-take-le i ns fits in
    rw (drop-cons ns i [], hit) (ap Some len)

pub repeat_more : (ns : List (List ℕ)) (i : ℕ) → i < length ns → is_among (take i ns) (get_or ns i []) ≡ false → repeat_after bytes_eq (take i ns) (drop i ns) ≡ repeat_after bytes_eq (take (i + 1) ns) (drop (i + 1) ns)
repeat_more ns i low miss =
    let more : take (i + 1) ns ≡ take i ns ++ get_or ns i [] ∷ [] = take_more ns i [] low in
    let rest : drop i ns ≡ get_or ns i [] ∷ drop (i + 1) ns = rw add-one (drop-cons ns i [] low) in
    rw (rest, miss, more) refl

pub bytes_at : (names : List (Bor (List ℕ))) (i : ℕ) → get_or (map (λ b. b.now) names) i [] ≡ (get_or names i (record { ref_ptr = (0, 0); now = [] })).now
bytes_at names i = get_or-map (λ (b : Bor (List ℕ)). b.now) names i (record { ref_ptr = (0, 0); now = [] })

pub true_from_not : (b : Bool) → not b ≡ false → b ≡ true
true_from_not true e = refl
true_from_not false e = sym e

pub false_from_not : (b : Bool) → not b ≡ true → b ≡ false
false_from_not true e = sym e
false_from_not false e = refl

-- the item at i of names, whether it was there before or not
abbrev pub item : List (Bor (List ℕ)) → ℕ → Bor (List ℕ)
item names i = get_or names i (record { ref_ptr = (0, 0); now = [] })

abbrev pub bytes : List (Bor (List ℕ)) → List (List ℕ)
bytes names = map (λ b. b.now) names

pub set_more : (names : List (Bor (List ℕ))) (i : ℕ) (old new : BTreeSet (Bor (List ℕ))) → i < length names → Updates (λ x y. slice_cmp nat_cmp x.now y.now) old new (item names i) true
    → ((name : List ℕ) → holds old name ≡ is_among (take i (bytes names)) name) → (name : List ℕ) → holds new name ≡ is_among (take (i + 1) (bytes names)) name
set_more names i old new low updates was name =
    let fits : i < length (bytes names) = simp length-map low in
    let more : take (i + 1) (bytes names) ≡ take i (bytes names) ++ (item names i).now ∷ [] = take_more (bytes names) i [] fits ∙ ap (λ x. take i (bytes names) ++ x ∷ []) (bytes_at names i) in
    rw more (holds-more old new (item names i) (take i (bytes names)) updates was name)

pub found_again : (names : List (Bor (List ℕ))) (i : ℕ) (seen : BTreeSet (Bor (List ℕ))) → i < length names → holds seen (item names i).now ≡ true
    → ((name : List ℕ) → holds seen name ≡ is_among (take i (bytes names)) name) → repeat_after bytes_eq (take i (bytes names)) (drop i (bytes names)) ≡ Some i
found_again names i seen low hit was =
    let fits : i < length (bytes names) = simp length-map low in
    let here : is_among (take i (bytes names)) (get_or (bytes names) i []) ≡ true = ap (is_among (take i (bytes names))) (bytes_at names i) ∙ sym (was (item names i).now) ∙ hit in
    repeat_found (bytes names) i fits here

pub not_yet_again : (names : List (Bor (List ℕ))) (i : ℕ) (seen : BTreeSet (Bor (List ℕ))) → i < length names → holds seen (item names i).now ≡ false
    → ((name : List ℕ) → holds seen name ≡ is_among (take i (bytes names)) name) → repeat_after bytes_eq (take i (bytes names)) (drop i (bytes names)) ≡ repeat_after bytes_eq (take (i + 1) (bytes names)) (drop (i + 1) (bytes names))
not_yet_again names i seen low miss was =
    let fits : i < length (bytes names) = simp length-map low in
    let here : is_among (take i (bytes names)) (get_or (bytes names) i []) ≡ false = ap (is_among (take i (bytes names))) (bytes_at names i) ∙ sym (was (item names i).now) ∙ miss in
    repeat_more (bytes names) i fits here

pub none_again : (names : List (List ℕ)) → repeat_after bytes_eq (take (length names) names) (drop (length names) names) ≡ None
none_again names = rw (drop-length names) refl
