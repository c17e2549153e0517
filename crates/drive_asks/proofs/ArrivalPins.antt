-- The pins of a file that has arrived, one by one.
use Rattle.std.proofs.Common.{◌≡◌, ◌∙◌, ◌+◌, ◌-◌, ◌<◌, ℕ, List, [], ◌∷◌, ◌++◌, Bool, true, false, ◌||◌, refl, sym, ap, subst, length, take, append-nil, append_assoc}
use Rattle.std.specs.Prelude.{get_or}
use Rattle.std.specs.List.{flat_map}
use Rattle.std.proofs.lemmas.List.{take_more}
use Rattle.part_model.specs.declared.space.HeldPin.{HeldPin}
use Rattle.part_model.specs.declared.space.Resident.{Resident}
use Rattle.part_model.specs.Held.{Held, HeldAgree, enter, pin_all, pins_in, set_safe, unhold}
use Rattle.part_laws.proofs.PinLists.{pin_all_is, pins_append}
use Rattle.part_moves.proofs.LastOnes.{flat_last, pin_both}

pub same_held : (v : Held) → HeldAgree v v
same_held v = record { size = refl; files = refl; aside = refl; pins = λ t f id. refl }

-- a file that enters behind pins
pub entered_pinned : (ps : List HeldPin) (f len : ℕ) (safe : Bool) (v c w : Held) → HeldAgree c (pin_all ps v) → HeldAgree w (set_safe (enter (unhold c len) f len) f safe) → HeldAgree w (pin_all ps (set_safe (enter (unhold v len) f len) f safe))
entered_pinned ps f len safe v c w first then_more =
    let x = pin_all_is ps v in
    let z = pin_all_is ps (set_safe (enter (unhold v len) f len) f safe) in
    record {
      size = then_more.size ∙ first.size ∙ x.3 ∙ sym z.3;
      files = then_more.files ∙ ap (λ (rs : List Resident). (set_safe (enter (record (unhold v len) { files = rs }) f len) f safe).files) (first.files ∙ x.1) ∙ sym z.1;
      aside = then_more.aside ∙ ap (λ n. n - len) (first.aside ∙ x.2) ∙ sym z.2;
      pins = λ t g id. then_more.pins t g id ∙ first.pins t g id ∙ ap (λ (qs : List HeldPin). pins_in qs t g id) (x.0 ∙ sym z.0);
    }

-- pins leave the files and the bytes aside
pub pinned_same : (ps : List HeldPin) (v c : Held) → HeldAgree c (pin_all ps v) → (c.files ≡ v.files) × (c.aside ≡ v.aside)
pinned_same ps v c agrees = (let x = pin_all_is ps v in (agrees.files ∙ x.1, agrees.aside ∙ x.2))

-- the pins of one owner more
pub pinned_more : (mine yours : ℕ → ℕ → List HeldPin) (f : ℕ) (ids : List ℕ) (i d : ℕ) (first before mid now : Held) → i < length ids → HeldAgree before (pin_all (flat_map (λ id. mine id f ++ yours id f) (take i ids)) first)
    → HeldAgree mid (pin_all (mine (get_or ids i d) f) before) → HeldAgree now (pin_all (yours (get_or ids i d) f) mid) → HeldAgree now (pin_all (flat_map (λ id. mine id f ++ yours id f) (take (i + 1) ids)) first)
pinned_more mine yours f ids i d first before mid now low was one two =
    let both : HeldAgree now (pin_all (mine (get_or ids i d) f ++ yours (get_or ids i d) f) before) = pin_both (mine (get_or ids i d) f) (yours (get_or ids i d) f) before mid now one two in
    let all : HeldAgree now (pin_all (flat_map (λ id. mine id f ++ yours id f) (take i ids) ++ (mine (get_or ids i d) f ++ yours (get_or ids i d) f)) first) =
    pin_both (flat_map (λ id. mine id f ++ yours id f) (take i ids)) (mine (get_or ids i d) f ++ yours (get_or ids i d) f) first before now was both in
    subst (λ (ps : List HeldPin). HeldAgree now (pin_all ps first)) (sym (ap (flat_map (λ id. mine id f ++ yours id f)) (take_more ids i d low) ∙ flat_last (λ id. mine id f ++ yours id f) (take i ids) (get_or ids i d))) all
