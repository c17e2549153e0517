-- Pins of a request, one by one.
use Rattle.std.proofs.Common.{◌≡◌, ◌∙◌, ◌+◌, ◌<◌, ℕ, List, [], ◌∷◌, ◌++◌, Bool, true, false, ◌||◌, refl, sym, ap, subst, length, take, append-nil, append_assoc}
use Rattle.std.specs.Prelude.{get_or}
use Rattle.std.specs.List.{flat_map}
use Rattle.std.proofs.lemmas.List.{take_more}
use Rattle.part_model.specs.declared.space.HeldPin.{HeldPin}
use Rattle.part_model.specs.Held.{Held, HeldAgree, pin_all, pins_in, unpin, unpin_all}
use Rattle.part_laws.specs.BufferCalls.{owned_by}
use Rattle.part_laws.proofs.PinLists.{pin_all_is, pins_append}
use Rattle.part_laws.proofs.SameBuffers.{buffer_calls_agree}
use Rattle.part_moves.proofs.Marks.{held_chain}
use Rattle.part_moves.proofs.LastOnes.{flat_last, pin_both}

-- ---- pins that are taken off one by one

owned_last : (id : ℕ) (fs : List ℕ) (f : ℕ) → owned_by id (fs ++ f ∷ []) ≡ owned_by id fs ++ (f, id) ∷ []
owned_last id [] f = refl
owned_last id (g ∷ fs) f = ap (λ (xs : List (ℕ × ℕ)). (g, id) ∷ xs) (owned_last id fs f)

unpin_last : (xs : List (ℕ × ℕ)) (x : ℕ × ℕ) (v : Held) → unpin_all (xs ++ x ∷ []) v ≡ unpin (unpin_all xs v) x.0 x.1
unpin_last [] x v = refl
unpin_last (y ∷ xs) x v = unpin_last xs x (unpin v y.0 y.1)

-- one pin more is taken off
pub unpin_more : (id i : ℕ) (fs : List ℕ) (d : ℕ) (v mid now : Held) → i < length fs → HeldAgree mid (unpin_all (owned_by id (take i fs)) v) → HeldAgree now (unpin mid (get_or fs i d) id)
    → HeldAgree now (unpin_all (owned_by id (take (i + 1) fs)) v)
unpin_more id i fs d v mid now low before then_one =
    let same : unpin_all (owned_by id (take (i + 1) fs)) v ≡ unpin (unpin_all (owned_by id (take i fs)) v) (get_or fs i d) id =
    ap (λ (gs : List ℕ). unpin_all (owned_by id gs) v) (take_more fs i d low)
    ∙ ap (λ (xs : List (ℕ × ℕ)). unpin_all xs v) (owned_last id (take i fs) (get_or fs i d))
    ∙ unpin_last (owned_by id (take i fs)) (get_or fs i d, id) v in
    subst (HeldAgree now) (sym same)
    (held_chain now (unpin mid (get_or fs i d) id) (unpin (unpin_all (owned_by id (take i fs)) v) (get_or fs i d) id) then_one ((buffer_calls_agree mid (unpin_all (owned_by id (take i fs)) v) before).takes (get_or fs i d) id))

-- ---- pins that are set one by one

-- the pins of one file more
pub pinned_more : (own : ℕ → List HeldPin) (fs : List ℕ) (i d : ℕ) (first before now : Held) → i < length fs → HeldAgree before (pin_all (flat_map own (take i fs)) first) → HeldAgree now (pin_all (own (get_or fs i d)) before)
    → HeldAgree now (pin_all (flat_map own (take (i + 1) fs)) first)
pinned_more own fs i d first before now low was one =
    subst (λ (ps : List HeldPin). HeldAgree now (pin_all ps first)) (sym (ap (flat_map own) (take_more fs i d low) ∙ flat_last own (take i fs) (get_or fs i d)))
    (pin_both (flat_map own (take i fs)) (own (get_or fs i d)) first before now was one)
