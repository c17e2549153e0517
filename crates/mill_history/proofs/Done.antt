-- Items and fates that are counted one by one.
use Rattle.std.specs.Prelude.{ℕ, ◌≡◌, refl, ◌+◌, ◌<◌, ◌≤◌, List, [], ◌∷◌, length, drop, get_or, filter, zip, Bool, true, false}
use Rattle.std.proofs.Math.Bool.{cond}
use Rattle.std.proofs.Common.{arith, ap, sym, ◌∙◌}
use Rattle.std.proofs.lemmas.List.{drop_more, drop_all, length-append}
use Rattle.cta_model.specs.declared.asks.Item.{Item}
use Rattle.cta_model.specs.declared.asks.Fate.{Fate}
use Rattle.cta_model.specs.declared.entries.Entry.{Entry}
use Rattle.cta_model.specs.History.{History}
use Rattle.cta_model.specs.Places.{flushed_in}
use Rattle.mill_history.specs.Counts.{done_items, is_done_of}

filtered_by : {X : Type 0} (b : Bool) (x : X) (xs : List X) → length (cond b (x ∷ xs) xs) ≡ length xs + cond b 1 0
filtered_by true x xs = omega arith
filtered_by false x xs = omega arith

-- one more at the front
pub filtered_first : {X : Type 0} (p : X → Bool) (x : X) (xs : List X) → length (filter p (x ∷ xs)) ≡ length (filter p xs) + cond (p x) 1 0
filtered_first p x xs = filtered_by (p x) x (filter p xs)

-- where no fate is left, nothing is
no_fates : (files : List ℕ) (items : List Item) → length (filter (is_done_of files) (zip items [])) ≡ 0
no_fates files [] = refl
no_fates files (i ∷ items) = refl

pub done_all : (files : List ℕ) (items : List Item) (fates : List Fate) (at count total : ℕ) → length fates ≤ at → count + length (filter (is_done_of files) (zip (drop at items) (drop at fates))) ≡ total → count ≡ total
done_all files items fates at count total past before =
    let none : length (filter (is_done_of files) (zip (drop at items) (drop at fates))) ≡ 0 = ap (λ (fs : List Fate). length (filter (is_done_of files) (zip (drop at items) fs))) (drop_all at fates past) ∙ no_fates files (drop at items) in
    omega (arith, none, before)

-- one more item
pub done_next : (files : List ℕ) (items : List Item) (fates : List Fate) (at count one total : ℕ) (i : Item) (f : Fate) → at < length items → at < length fates → i ≡ get_or items at i → f ≡ get_or fates at f
    → one ≡ cond (is_done_of files (i, f)) 1 0 → count + length (filter (is_done_of files) (zip (drop at items) (drop at fates))) ≡ total
    → (count + one) + length (filter (is_done_of files) (zip (drop (at + 1) items) (drop (at + 1) fates))) ≡ total
done_next files items fates at count one total i f in_items in_fates read_item read_fate is before =
    let items_left : drop at items ≡ i ∷ drop (at + 1) items = drop_more items at i in_items ∙ ap (λ (x : Item). x ∷ drop (at + 1) items) (sym read_item) in
    let fates_left : drop at fates ≡ f ∷ drop (at + 1) fates = drop_more fates at f in_fates ∙ ap (λ (x : Fate). x ∷ drop (at + 1) fates) (sym read_fate) in
    let left : length (filter (is_done_of files) (zip (drop at items) (drop at fates))) ≡ length (filter (is_done_of files) (zip (drop (at + 1) items) (drop (at + 1) fates))) + cond (is_done_of files (i, f)) 1 0 =
    ap (λ (xs : List Item). length (filter (is_done_of files) (zip xs (drop at fates)))) items_left
    ∙ (ap (λ (ys : List Fate). length (filter (is_done_of files) (zip (i ∷ drop (at + 1) items) ys))) fates_left
    ∙ filtered_first (is_done_of files) (i, f) (zip (drop (at + 1) items) (drop (at + 1) fates))) in
    omega (arith, is, before, left)

-- one more entry
pub done_first : (files : List ℕ) (e : Entry) (h : History) → length (done_items files (e ∷ h)) ≡ length (done_items files h) + length (filter (is_done_of files) (flushed_in e.ask e.answer))
done_first files e h =
    let both : length (done_items files (e ∷ h)) ≡ length (filter (is_done_of files) (flushed_in e.ask e.answer)) + length (done_items files h) = length-append (filter (is_done_of files) (flushed_in e.ask e.answer)) (done_items files h) in
    omega (arith, both)
