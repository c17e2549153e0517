-- The lists of pins that the calls of the buffer make.
use Rattle.std.proofs.Common.{◌≡◌, ℕ, ◌+◌, ◌≤◌, ◌<◌, inl, inr, List, [], ◌∷◌, ◌++◌, Bool, true, false, ◌||◌, not, refl, sym, ◌∙◌, ap, arith}
use Rattle.std.specs.Prelude.{Option, Some, None, option_map, if◌then◌else◌, ◌==◌, ◌&&◌, filter, min, nat_lt}
use Rattle.std.specs.List.{list_any}
use Rattle.std.proofs.lemmas.Bool.{and_parts, eqb-true, ltb-true, lt-ltb}
use Rattle.std.proofs.lemmas.List.Folds.{list_any-append}
use Rattle.cta_site.specs.declared.site.Site.{Site}
use Rattle.cta_model.specs.declared.states.RequestFile.{RequestFile}
use Rattle.cta_model.specs.declared.states.RepackCopy.{RepackCopy}
use Rattle.cta_model.specs.History.{History, has_number, is_number}
use Rattle.cta_model.specs.Stages.{StageRequest, request_of}
use Rattle.cta_model.specs.Repacks.{Repack, is_live_item, repack_of}
use Rattle.cta_model.specs.Pins.{Pin, is_above, is_completed, pin_by, stage_pins, repack_pins}
use Rattle.cta_model.specs.Legal.{greatest_moment}
use Rattle.cta_laws.specs.Pins.{some_lasts, stage_pins_by, pins_by}
use Rattle.cta_laws.proofs.Tests.{or_left, or_right, or_cases}
use Rattle.cta_laws.proofs.Bools.{same_bool, and_none, eq_flip}
use Rattle.cta_laws.proofs.Claims.{AllOf, all_append}
use Rattle.cta_laws.proofs.Ranges.{all_filter_map}
use Rattle.cta_laws.proofs.PinLaw.{repack_lasts}
use Rattle.part_model.specs.declared.space.HeldPin.{HeldPin}
use Rattle.part_model.specs.Held.{Held, held_pins, kept_end, no_end, pin_all, pins_in, pins_without, unpin, unpin_all}
use Rattle.part_laws.specs.BufferCalls.{has_pair, pins_told}

-- ---- lists of pins

pub pins_append : (ps qs : List HeldPin) (t f id : ℕ) → pins_in (ps ++ qs) t f id ≡ (pins_in ps t f id || pins_in qs t f id)
pins_append ps qs t f id = list_any-append (λ (p : HeldPin). p.owner == id && (p.file == f && nat_lt t p.until)) ps qs

-- `pin` for each of a list
pub pin_all_is : (ns : List HeldPin) (v : Held) → ((pin_all ns v).pins ≡ ns ++ v.pins) × ((pin_all ns v).files ≡ v.files) × ((pin_all ns v).aside ≡ v.aside) × ((pin_all ns v).size ≡ v.size)
pin_all_is [] v = (refl, refl, refl, refl)
pin_all_is (n ∷ ns) v = (let x = pin_all_is ns v in (ap (λ (ps : List HeldPin). n ∷ ps) x.0, x.1, x.2, x.3))

-- ---- pins that are taken off

taken_bools : (x a o p q : Bool) → (x ≡ true → a ≡ o) → p ≡ (not o && q) → (if not a then (x || p) else p) ≡ (not o && (x || q))
taken_bools true true true p q same e = e
taken_bools true true false p q same e = (let bad : true ≡ false = same refl in absurd (cc))
taken_bools true false true p q same e = (let bad : false ≡ true = same refl in absurd (cc))
taken_bools true false false p q same e = refl
taken_bools false true o p q same e = e
taken_bools false false o p q same e = e

taken_if : (a : Bool) (p : HeldPin) (ps : List HeldPin) (t f id : ℕ) → pins_in (if not a then p ∷ ps else ps) t f id ≡ (if not a then (p.owner == id && (p.file == f && nat_lt t p.until)) || pins_in ps t f id else pins_in ps t f id)
taken_if true p ps t f id = refl
taken_if false p ps t f id = refl

pub taken_off : (out : ℕ → ℕ → Bool) (ps : List HeldPin) (t f id : ℕ) → pins_in (filter (λ (p : HeldPin). not (out p.file p.owner)) ps) t f id ≡ (not (out f id) && pins_in ps t f id)
taken_off out [] t f id = sym (and_none (not (out f id)))
taken_off out (p ∷ ps) t f id =
    taken_if (out p.file p.owner) p (filter (λ (p : HeldPin). not (out p.file p.owner)) ps) t f id
    ∙ taken_bools (p.owner == id && (p.file == f && nat_lt t p.until)) (out p.file p.owner) (out f id) _ (pins_in ps t f id) same (taken_off out ps t f id)
  where
    same : (p.owner == id && (p.file == f && nat_lt t p.until)) ≡ true → out p.file p.owner ≡ out f id
    same hit =
        (let parts = and_parts (p.owner == id) _ hit in
        let owner : p.owner ≡ id = eqb-true _ _ parts.0 in
        let file : p.file ≡ f = eqb-true _ _ (and_parts (p.file == f) _ parts.1).0 in
        ap (λ (n : ℕ). out n p.owner) file ∙ ap (out f) owner)

-- the pins of files that do not leave stay
pub stays_in : (gone : List ℕ) (ps : List HeldPin) (t f id : ℕ) → has_number f gone ≡ false → pins_in (pins_without gone ps) t f id ≡ pins_in ps t f id
stays_in gone ps t f id d = taken_off (λ g owner. has_number g gone) ps t f id ∙ ap (λ (b : Bool). not b && pins_in ps t f id) d

-- `unpin` for each of a list
pub unpin_all_is : (xs : List (ℕ × ℕ)) (v : Held) → ((t f id : ℕ) → pins_in (unpin_all xs v).pins t f id ≡ (not (has_pair f id xs) && pins_in v.pins t f id)) × ((unpin_all xs v).files ≡ v.files) × ((unpin_all xs v).aside ≡ v.aside) × ((unpin_all xs v).size ≡ v.size)
unpin_all_is [] v = (λ t f id. refl, refl, refl, refl)
unpin_all_is (x ∷ xs) v =
    let r = unpin_all_is xs (unpin v x.0 x.1) in (
      λ t f id.
          r.0 t f id
          ∙ ap (λ (b : Bool). not (has_pair f id xs) && b) (taken_off (λ g owner. g == x.0 && owner == x.1) v.pins t f id)
          ∙ by (has_pair f id xs) (f == x.0 && id == x.1) (x.0 == f && x.1 == id) (pins_in v.pins t f id) (ands (eq_flip f x.0) (eq_flip id x.1)),
      r.1,
      r.2,
      r.3,
    )
  where
    ands : {a b c d : Bool} → a ≡ b → c ≡ d → (a && c) ≡ (b && d)
    ands x y = cc

    by : (a b c p : Bool) → b ≡ c → (not a && (not b && p)) ≡ (not (c || a) && p)
    by true true true p e = refl
    by true true false p e = absurd (cc)
    by true false true p e = absurd (cc)
    by true false false p e = refl
    by false true true p e = refl
    by false true false p e = absurd (cc)
    by false false true p e = absurd (cc)
    by false false false p e = refl

-- ---- the pins of an owner

end_less : (t : ℕ) (o : Option ℕ) → nat_lt t (kept_end o) ≡ true → is_above t o ≡ true
end_less t None e = refl
end_less t (Some end) e = (let x : t < min end no_end = ltb-true t (min end no_end) e in lt-ltb t end (omega arith))

end_same : (t : ℕ) (o : Option ℕ) → t ≤ greatest_moment → nat_lt t (kept_end o) ≡ is_above t o
end_same t None top = lt-ltb t no_end (omega arith)
end_same t (Some end) top = same_bool (nat_lt t (min end no_end)) (nat_lt t end) (λ e. end_less t (Some end) e) (λ e. (let x : t < end = ltb-true t end e in lt-ltb t (min end no_end) (omega arith)))

-- pins of one owner
abbrev pub AreOf : ℕ → List Pin → Type 0
AreOf id ps = AllOf (λ (p : Pin). p.owner ≡ id) ps

stage_of : (f id : ℕ) (o : Option StageRequest) → AreOf id (stage_pins f id o)
stage_of f id None = tt
stage_of f id (Some r) = all_filter_map (λ (p : Pin). p.owner ≡ id) (pin_by f id) r.files (each r.files)
  where
    one : (b : Bool) (until : Option ℕ) (p : Pin) → (if b then Some (record { owner = id; until = until }) else None) ≡ Some p → p.owner ≡ id
    one true until p e = (let same : ◌≡◌ {A = Pin} (record { owner = id; until = until }) p = cc in ap (λ (q : Pin). q.owner) (sym same))
    one false until p e = absurd (cc)

    each : (ss : List RequestFile) → AllOf (λ s. (p : Pin) → pin_by f id s ≡ Some p → p.owner ≡ id) ss
    each [] = tt
    each (s ∷ ss) = (λ p e. one (is_number f s.file && (is_completed s.state && not s.released)) (option_map (λ at. at + s.lifetime) s.finished) p e, each ss)

repack_by_owner : (f id : ℕ) (o : Option Repack) → AreOf id (repack_pins f id o)
repack_by_owner f id None = tt
repack_by_owner f id (Some r) = by (list_any (λ (i : RepackCopy). i.file == f && is_live_item i.state) r.items)
  where
    by : (b : Bool) → AreOf id (if b then record { owner = id; until = None } ∷ [] else [])
    by true = (refl, tt)
    by false = tt

pub told_of : (site : Site) (h : History) (f id : ℕ) → AreOf id (stage_pins f id (request_of site h id) ++ repack_pins f id (repack_of site h id))
told_of site h f id = all_append (λ (p : Pin). p.owner ≡ id) (stage_pins f id (request_of site h id)) (repack_pins f id (repack_of site h id)) (stage_of f id (request_of site h id)) (repack_by_owner f id (repack_of site h id))

-- whether one of these, kept, lasts
abbrev kept_lasts : ℕ → List Pin → Bool
kept_lasts t ps = list_any (λ (p : Pin). nat_lt t (kept_end p.until)) ps

held_are : (t f g id k : ℕ) (ps : List Pin) → AreOf id ps → pins_in (held_pins f ps) t g k ≡ ((id == k && f == g) && kept_lasts t ps)
held_are t f g id k [] all = sym (and_none (id == k && f == g))
held_are t f g id k (p ∷ ps) all =
    ap (λ (n : ℕ). (n == k && (f == g && nat_lt t (kept_end p.until))) || pins_in (held_pins f ps) t g k) all.0
    ∙ ap (λ (b : Bool). (id == k && (f == g && nat_lt t (kept_end p.until))) || b) (held_are t f g id k ps all.1)
    ∙ by (id == k) (f == g) (nat_lt t (kept_end p.until)) (kept_lasts t ps)
  where
    by : (a b c d : Bool) → ((a && (b && c)) || ((a && b) && d)) ≡ ((a && b) && (c || d))
    by true true c d = refl
    by true false c d = refl
    by false b c d = refl

lasts_same : (t : ℕ) (ps : List Pin) → t ≤ greatest_moment → kept_lasts t ps ≡ some_lasts t ps
lasts_same t [] top = refl
lasts_same t (p ∷ ps) top = rw (end_same t p.until top, lasts_same t ps top) refl

lasts_less : (t : ℕ) (ps : List Pin) → kept_lasts t ps ≡ true → some_lasts t ps ≡ true
lasts_less t [] e = absurd (cc)
lasts_less t (p ∷ ps) e = elim (or_cases (nat_lt t (kept_end p.until)) _ e) [ inl hit ↦ or_left (is_above t p.until) _ (end_less t p.until hit) | inr rest ↦ or_right (is_above t p.until) _ (lasts_less t ps rest) ]

both_last : (site : Site) (h : History) (t f id : ℕ) → some_lasts t (stage_pins f id (request_of site h id) ++ repack_pins f id (repack_of site h id)) ≡ pins_by site h t f id
both_last site h t f id = list_any-append (λ (p : Pin). is_above t p.until) (stage_pins f id (request_of site h id)) (repack_pins f id (repack_of site h id)) ∙ ap (λ (b : Bool). stage_pins_by site h t f id || b) (repack_lasts t f id (repack_of site h id))

-- what the books tell of an owner's pins of a file is what pins it
pub told_are : (site : Site) (h : History) (t f g id k : ℕ) → t ≤ greatest_moment → pins_in (pins_told site h id f) t g k ≡ ((id == k && f == g) && pins_by site h t f id)
told_are site h t f g id k top =
    held_are t f g id k (stage_pins f id (request_of site h id) ++ repack_pins f id (repack_of site h id)) (told_of site h f id)
    ∙ ap (λ (b : Bool). (id == k && f == g) && b) (lasts_same t _ top ∙ both_last site h t f id)

-- whatever the moment, a pin that is told pins
pub told_less : (site : Site) (h : History) (t f g id k : ℕ) → pins_in (pins_told site h id f) t g k ≡ true → (id ≡ k) × (f ≡ g) × (pins_by site h t f id ≡ true)
told_less site h t f g id k e =
    let p = and_parts (id == k && f == g) _ (sym (held_are t f g id k (stage_pins f id (request_of site h id) ++ repack_pins f id (repack_of site h id)) (told_of site h f id)) ∙ e) in
    let q = and_parts (id == k) _ p.0 in
    (eqb-true _ _ q.0, eqb-true _ _ q.1, sym (both_last site h t f id) ∙ lasts_less t _ p.1)
