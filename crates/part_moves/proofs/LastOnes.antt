-- Lists of which the last element is done.
use Rattle.std.proofs.Common.{◌≡◌, ◌∙◌, ◌+◌, ℕ, List, [], ◌∷◌, ◌++◌, refl, sym, ap, subst, arith, length, length-append, inl, inr, Bool, true, false, ◌||◌, append_assoc, append-nil}
use Rattle.part_model.specs.declared.space.FileEnd.{FileEnd}
use Rattle.part_model.specs.Requests.{Requests, finish, finish_all, start, start_all}
use Rattle.part_moves.specs.Texts.{AreAll}
use Rattle.std.specs.Prelude.{bytes_eq}
use Rattle.std.proofs.lemmas.Slice.Eq.{bytes_eq-Decides}
use Rattle.cta_model.specs.History.{has_text}
use Rattle.cta_laws.proofs.Tests.{bool_cases}
use Rattle.std.specs.List.{flat_map}
use Rattle.part_model.specs.declared.space.HeldPin.{HeldPin}
use Rattle.part_model.specs.Held.{Held, HeldAgree, pin_all, pins_in}
use Rattle.part_laws.proofs.PinLists.{pin_all_is, pins_append}

pub finish_last : (at : ℕ) (how : ℕ → FileEnd) (xs : List (ℕ × ℕ)) (x : ℕ × ℕ) (v : Requests) → finish_all at how (xs ++ x ∷ []) v ≡ finish x.0 x.1 at (how x.1) (finish_all at how xs v)
finish_last at how [] x v = refl
finish_last at how (y ∷ xs) x v = finish_last at how xs x (finish y.0 y.1 at (how y.1) v)

pub start_last : (at : ℕ) (xs : List (ℕ × ℕ)) (x : ℕ × ℕ) (v : Requests) → start_all at (xs ++ x ∷ []) v ≡ start x.0 x.1 at (start_all at xs v)
start_last at [] x v = refl
start_last at (y ∷ xs) x v = start_last at xs x (start y.0 y.1 at v)

pub all_same_more : (t x : List ℕ) (xs : List (List ℕ)) → AreAll t xs → x ≡ t → AreAll t (xs ++ x ∷ [])
all_same_more t x [] all is = (is, tt)
all_same_more t x (y ∷ xs) all is = (all.0, all_same_more t x xs all.1 is)

pub all_same_front : (t : List ℕ) (xs ys : List (List ℕ)) → AreAll t (xs ++ ys) → AreAll t xs
all_same_front t [] ys all = tt
all_same_front t (x ∷ xs) ys all = (all.0, all_same_front t xs ys all.1)

pub all_same_last : (t x : List ℕ) (xs : List (List ℕ)) → AreAll t (xs ++ x ∷ []) → x ≡ t
all_same_last t x [] all = all.0
all_same_last t x (y ∷ xs) all = all_same_last t x xs all.1

-- one error more
pub one_longer : (t x : List ℕ) (n : ℕ) (old now : List (List ℕ)) → now ≡ old ++ x ∷ [] → x ≡ t → length old ≡ n → AreAll t old → (length now ≡ n + 1) × AreAll t now
one_longer t x n old now pushed is many same =
    (ap length pushed ∙ (let e : length (old ++ x ∷ []) ≡ length old + 1 = length-append old (x ∷ []) in omega arith), subst (AreAll t) (sym pushed) (all_same_more t x old same is))

pub text_last : (p q : List ℕ) (ps : List (List ℕ)) → has_text p (ps ++ q ∷ []) ≡ (bytes_eq p q || has_text p ps)
text_last p q [] = refl
text_last p q (x ∷ ps) = ap (λ (b : Bool). bytes_eq p x || b) (text_last p q ps) ∙ by (bytes_eq p x) (bytes_eq p q)
  where
    by : (a b : Bool) → (a || (b || has_text p ps)) ≡ (b || (a || has_text p ps))
    by true true = refl
    by true false = refl
    by false b = refl

pub known_text : (p q : List ℕ) (ps : List (List ℕ)) → has_text q ps ≡ true → (bytes_eq p q || has_text p ps) ≡ has_text p ps
known_text p q ps there =
    elim (bool_cases (bytes_eq p q)) [
      | inl hit ↦ (let same : p ≡ q = (bytes_eq-Decides p q).0 hit in rw hit (sym (ap (λ (x : List ℕ). has_text x ps) same ∙ there)))
      | inr miss ↦ rw miss refl
    ]

-- pins that are set, and then more of them
pub pin_both : (xs ys : List HeldPin) (a b c : Held) → HeldAgree b (pin_all xs a) → HeldAgree c (pin_all ys b) → HeldAgree c (pin_all (xs ++ ys) a)
pin_both xs ys a b c first then_more =
    let x = pin_all_is xs a in
    let y = pin_all_is ys b in
    let z = pin_all_is (xs ++ ys) a in
    record {
      size = then_more.size ∙ y.3 ∙ first.size ∙ x.3 ∙ sym z.3;
      files = then_more.files ∙ y.1 ∙ first.files ∙ x.1 ∙ sym z.1;
      aside = then_more.aside ∙ y.2 ∙ first.aside ∙ x.2 ∙ sym z.2;
      pins = λ t f id.
          then_more.pins t f id ∙ ap (λ (ps : List HeldPin). pins_in ps t f id) y.0 ∙ pins_append ys b.pins t f id
          ∙ ap (λ (t' : Bool). pins_in ys t f id || t') (first.pins t f id ∙ ap (λ (ps : List HeldPin). pins_in ps t f id) x.0 ∙ pins_append xs a.pins t f id)
          ∙ swapped (pins_in ys t f id) (pins_in xs t f id) (pins_in a.pins t f id)
          ∙ sym (ap (λ (ps : List HeldPin). pins_in ps t f id) z.0 ∙ pins_append (xs ++ ys) a.pins t f id ∙ ap (λ (t' : Bool). t' || pins_in a.pins t f id) (pins_append xs ys t f id));
    }
  where
    swapped : (p q r : Bool) → (p || (q || r)) ≡ ((q || p) || r)
    swapped true true r = refl
    swapped true false r = refl
    swapped false true r = refl
    swapped false false r = refl

pub flat_last : (own : ℕ → List HeldPin) (xs : List ℕ) (x : ℕ) → flat_map own (xs ++ x ∷ []) ≡ flat_map own xs ++ own x
flat_last own [] x = append-nil _
flat_last own (y ∷ xs) x = ap (λ (ps : List HeldPin). own y ++ ps) (flat_last own xs x) ∙ sym (append_assoc (own y) (flat_map own xs) (own x))
