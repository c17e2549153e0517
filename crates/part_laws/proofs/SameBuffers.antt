-- Calls of two buffers that hold the same, with the same pins.
use Rattle.std.proofs.Common.{◌≡◌, ◌∙◌, ℕ, ◌+◌, ◌-◌, List, [], ◌∷◌, ◌++◌, Bool, false, ◌&&◌, ◌||◌, not, refl, sym, ap, subst}
use Rattle.std.specs.Prelude.{if◌then◌else◌, ◌==◌, filter, map, nat_lt}
use Rattle.cta_model.specs.History.{has_number}
use Rattle.cta_laws.proofs.Bools.{same_bool}
use Rattle.part_model.specs.declared.space.Resident.{Resident}
use Rattle.part_model.specs.Held.{Held, HeldAgree, bytes_of, evictable_in, evicted_for, free_in, numbers, pinned_in, pins_without, prefix_of, without}
use Rattle.part_laws.proofs.Told.{from_owner, some_owner}
use Rattle.part_laws.specs.BufferLaws.{BufferCallsAgree}
use Rattle.part_laws.proofs.PinLists.{taken_off}

-- ---- what is evicted

pinned_same : (v w : Held) → HeldAgree v w → (t f : ℕ) → pinned_in v.pins t f ≡ pinned_in w.pins t f
pinned_same v w same t f =
    same_bool (pinned_in v.pins t f) (pinned_in w.pins t f)
    (λ e. (let x = some_owner v.pins t f e in from_owner w.pins t f x.0 (sym (same.pins t f x.0) ∙ x.1)))
    (λ e. (let x = some_owner w.pins t f e in from_owner v.pins t f x.0 (same.pins t f x.0 ∙ x.1)))

evictable_same : (v w : Held) → HeldAgree v w → (t : ℕ) (rs : List Resident) → filter (λ (r : Resident). not (pinned_in v.pins t r.file) && r.safe) rs ≡ filter (λ (r : Resident). not (pinned_in w.pins t r.file) && r.safe) rs
evictable_same v w same t [] = refl
evictable_same v w same t (r ∷ rs) = rw (pinned_same v w same t r.file) (rw (evictable_same v w same t rs) refl)

free_same : (v w : Held) → HeldAgree v w → free_in v ≡ free_in w
free_same v w same =
    ap (λ (n : ℕ). n - (bytes_of v.files + v.aside)) same.size
    ∙ ap (λ (rs : List Resident). w.size - (bytes_of rs + v.aside)) same.files
    ∙ ap (λ (n : ℕ). w.size - (bytes_of w.files + n)) same.aside

evicted_same : (v w : Held) → HeldAgree v w → (t need : ℕ) → evicted_for v t need ≡ evicted_for w t need
evicted_same v w same t need =
    ap (λ (n : ℕ). numbers (prefix_of (need - n) (evictable_in v t))) (free_same v w same)
    ∙ ap (λ (rs : List Resident). numbers (prefix_of (need - free_in w) (filter (λ (r : Resident). not (pinned_in v.pins t r.file) && r.safe) rs))) same.files
    ∙ ap (λ (rs : List Resident). numbers (prefix_of (need - free_in w) rs)) (evictable_same v w same t w.files)

-- ---- files that leave

left_same : (v w : Held) → HeldAgree v w → (gone : List ℕ) → HeldAgree (record v { files = without gone v.files; pins = pins_without gone v.pins }) (record w { files = without gone w.files; pins = pins_without gone w.pins })
left_same v w same gone = record {
  size = same.size;
  files = ap (without gone) same.files;
  aside = same.aside;
  pins = λ t f id.
      taken_off (λ g owner. has_number g gone) v.pins t f id
      ∙ ap (λ (b : Bool). not (has_number f gone) && b) (same.pins t f id)
      ∙ sym (taken_off (λ g owner. has_number g gone) w.pins t f id);
}

evict_same : (v w : Held) → HeldAgree v w → (out gone : List ℕ) → out ≡ gone → HeldAgree (record v { files = without out v.files; pins = pins_without out v.pins }) (record w { files = without gone w.files; pins = pins_without gone w.pins })
evict_same v w same out gone is = subst (λ (xs : List ℕ). HeldAgree (record v { files = without out v.files; pins = pins_without out v.pins }) (record w { files = without xs w.files; pins = pins_without xs w.pins })) is (left_same v w same out)

pub buffer_calls_agree : BufferCallsAgree
buffer_calls_agree v w same = record {
  evicted = evicted_same v w same;
  evicts = λ t need. evict_same v w same (evicted_for v t need) (evicted_for w t need) (evicted_same v w same t need);
  enters = λ f len. record { size = same.size; files = ap (λ (rs : List Resident). rs ++ record { file = f; len = len; safe = false } ∷ []) same.files; aside = same.aside; pins = same.pins };
  removes = λ f. left_same v w same (f ∷ []);
  holds = λ n. record { size = same.size; files = same.files; aside = ap (λ (m : ℕ). m + n) same.aside; pins = same.pins };
  unholds = λ n. record { size = same.size; files = same.files; aside = ap (λ (m : ℕ). m - n) same.aside; pins = same.pins };
  sets = λ f owner until. record { size = same.size; files = same.files; aside = same.aside; pins = λ t g id. ap (λ (b : Bool). (owner == id && (f == g && nat_lt t until)) || b) (same.pins t g id) };
  takes = λ f owner. record {
    size = same.size;
    files = same.files;
    aside = same.aside;
    pins = λ t g id.
        taken_off (λ n o. n == f && o == owner) v.pins t g id
        ∙ ap (λ (b : Bool). not (g == f && id == owner) && b) (same.pins t g id)
        ∙ sym (taken_off (λ n o. n == f && o == owner) w.pins t g id);
  };
  flags = λ f safe. record { size = same.size; files = ap (map (λ (r : Resident). if r.file == f then record r { safe = safe } else r)) same.files; aside = same.aside; pins = same.pins };
}
