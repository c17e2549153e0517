-- What is said of charges, one by one.
use Rattle.std.proofs.Common.{◌≡◌, ◌∙◌, ◌+◌, ◌<◌, ℕ, zero, suc, List, [], ◌∷◌, ◌++◌, length, refl, sym, ap, arith, take, append-nil, append_assoc}
use Rattle.std.specs.Prelude.{Option, Some, None, option_map, codes, map, slice_get, get_or}
use Rattle.std.proofs.Math.Seq.{take-length}
use Rattle.std.proofs.lemmas.List.{map-append, take_more}
use Rattle.cta_site.specs.declared.site.Site.{Site}
use Rattle.cta_model.specs.declared.states.Charge.{Charge}
use Rattle.cta_model.specs.Recalls.{Recall, recall_job}
use Rattle.cta_model.specs.Stages.{charge_text, joined_texts}
use Rattle.part_model.specs.JobBook.{Book}
use Rattle.fault_asks.specs.declared.endings.Ending.{Ending}
use Rattle.fault_asks.specs.Reading.{ending_of, error_told, error_with}

-- what is said of charges, each with what stands behind it
pub front_text : Site → List Charge → List ℕ
front_text site [] = []
front_text site (c ∷ cs) = (charge_text site c ++ codes "; ") ++ front_text site cs

pub front_none : (site : Site) → [] ≡ front_text site []
unfolding front_text
front_none site = refl

front_last : (site : Site) (xs : List Charge) (x : Charge) → front_text site (xs ++ x ∷ []) ≡ front_text site xs ++ (charge_text site x ++ codes "; ")
unfolding front_text
front_last site [] x = append-nil _
front_last site (y ∷ xs) x = ap (λ (ts : List ℕ). (charge_text site y ++ codes "; ") ++ ts) (front_last site xs x) ∙ sym (append_assoc (charge_text site y ++ codes "; ") (front_text site xs) (charge_text site x ++ codes "; "))

take_get : (xs : List Charge) (i : ℕ) (x : Charge) → Some x ≡ slice_get xs i → take (suc i) xs ≡ take i xs ++ x ∷ []
take_get [] i x e = absurd (cc)
take_get (y ∷ xs) zero x e = (let same : x ≡ y = cc in ap (λ (z : Charge). z ∷ []) (sym same))
take_get (y ∷ xs) (suc i) x e = ap (λ (ys : List Charge). y ∷ ys) (take_get xs i x e)

pub get_there : (xs : List Charge) (i : ℕ) → i < length xs → (x : Charge) × (slice_get xs i ≡ Some x)
get_there [] i low = absurd (omega (arith, low))
get_there (y ∷ xs) zero low = (y, refl)
get_there (y ∷ xs) (suc i) low = get_there xs i (omega (arith, low))

-- a charge below their number is there
pub charge_there : (xs : List Charge) (i n : ℕ) (o : Option Charge) → i < n → n ≡ length xs → o ≡ slice_get xs i → o ≡ None → ⊥
charge_there xs i n o low count at none =
    let x = get_there xs i (omega (arith, low, count)) in
    let bad : None ≡ Some x.0 = sym none ∙ at ∙ x.1 in
    cc

-- one charge more
pub front_more : (site : Site) (xs : List Charge) (i : ℕ) (x : Charge) (was now : List ℕ) → slice_get xs i ≡ Some x → was ≡ front_text site (take i xs) → now ≡ was ++ (charge_text site x ++ codes "; ") → now ≡ front_text site (take (i + 1) xs)
front_more site xs i x was now at before added =
    let next : suc i ≡ i + 1 = omega arith in
    added ∙ ap (λ (ts : List ℕ). ts ++ (charge_text site x ++ codes "; ")) before
    ∙ sym (front_last site (take i xs) x)
    ∙ ap (front_text site) (sym (take_get xs i x (sym at)))
    ∙ ap (λ (n : ℕ). front_text site (take n xs)) next

-- and the last
joined_all : (site : Site) (xs : List Charge) (x : Charge) → joined_texts (map (charge_text site) (xs ++ x ∷ [])) ≡ front_text site xs ++ charge_text site x
unfolding front_text
joined_all site [] x = refl
joined_all site (y ∷ []) x =
    sym (append_assoc (charge_text site y) (codes "; ") (charge_text site x))
    ∙ ap (λ (ts : List ℕ). ts ++ charge_text site x) (sym (append-nil (charge_text site y ++ codes "; ")))
joined_all site (y ∷ z ∷ xs) x =
    ap (λ (ts : List ℕ). charge_text site y ++ (codes "; " ++ ts)) (joined_all site (z ∷ xs) x)
    ∙ sym (append_assoc (charge_text site y) (codes "; ") (front_text site (z ∷ xs) ++ charge_text site x))
    ∙ sym (append_assoc (charge_text site y ++ codes "; ") (front_text site (z ∷ xs)) (charge_text site x))

pub error_some : (site : Site) (b : Book) (charge : Charge) (f birth n : ℕ) (was now : List ℕ) → Some birth ≡ option_map (λ (r : Recall). r.birth) (b.recall f) → n ≡ length (b.charges (recall_job birth f))
    → was ≡ front_text site (take n (b.charges (recall_job birth f))) → now ≡ was ++ charge_text site charge → now ≡ error_told site b charge f
error_some site b charge f birth n was now live count before added = by (b.recall f) live
  where
    by : (o : Option Recall) → Some birth ≡ option_map (λ (r : Recall). r.birth) o → now ≡ error_with site b charge f o
    by None e = absurd (cc)
    by (Some r) e =
        (let same : birth ≡ r.birth = (let q : ◌≡◌ {A = Option ℕ} (Some birth) (Some r.birth) = e in cc) in
        added
        ∙ ap (λ (ts : List ℕ). ts ++ charge_text site charge) (before ∙ ap (front_text site) (ap (λ (k : ℕ). take k (b.charges (recall_job birth f))) count ∙ take-length (b.charges (recall_job birth f))))
        ∙ sym (joined_all site (b.charges (recall_job birth f)) charge)
        ∙ ap (λ (k : ℕ). joined_texts (map (charge_text site) (b.charges (recall_job k f) ++ charge ∷ []))) same)

pub error_none : (site : Site) (b : Book) (charge : Charge) (f : ℕ) (text : List ℕ) → None ≡ option_map (λ (r : Recall). r.birth) (b.recall f) → text ≡ [] → text ≡ error_told site b charge f
error_none site b charge f text none empty = by (b.recall f) none
  where
    by : (o : Option Recall) → None ≡ option_map (λ (r : Recall). r.birth) o → text ≡ error_with site b charge f o
    by None e = empty
    by (Some r) e = absurd (cc)

-- ---- endings

pub endings_more : (site : Site) (b : Book) (charge : Charge) (pairs : List (ℕ × ℕ)) (i : ℕ) (d : ℕ × ℕ) (was now : List Ending) (x : Ending) → i < length pairs → was ≡ map (ending_of site b charge) (take i pairs)
    → x ≡ ending_of site b charge (get_or pairs i d) → now ≡ was ++ x ∷ [] → now ≡ map (ending_of site b charge) (take (i + 1) pairs)
endings_more site b charge pairs i d was now x low before is added =
    added ∙ ap (λ (xs : List Ending). xs ++ x ∷ []) before ∙ ap (λ (y : Ending). map (ending_of site b charge) (take i pairs) ++ y ∷ []) is
    ∙ sym (ap (map (ending_of site b charge)) (take_more pairs i d low) ∙ map-append (ending_of site b charge) (take i pairs) (get_or pairs i d ∷ []))
