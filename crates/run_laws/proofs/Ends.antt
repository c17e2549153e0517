-- Two readings of one source up to the line `end` are of the same bytes.
use Rattle.std.proofs.Common.{◌≡◌, ◌∙◌, inl, inr, List, [], ◌∷◌, ◌++◌, ℕ, sym, ap, ap₂, subst, append_assoc}
use Rattle.std.specs.Prelude.{Option, Some, None, codes}
use Rattle.std.specs.Io.KnownBytes.{Consumes}
use Rattle.std.proofs.lemmas.Option.{none-some, same_Some}
use Rattle.cta_site.specs.declared.site.Site.{Site}
use Rattle.cta_site.specs.WellFormed.{IsWellFormed}
use Rattle.replay.specs.Script.{Ended, IsScriptCut, MayGoOn, ScriptCut, cut_bytes, tail_bytes, whole_bytes}
use Rattle.replay.proofs.Readings.{stops_before_end}

-- what is left of known bytes of which some were taken
pub taken : (o p : Option (List ℕ)) (bs bytes : List ℕ) → o ≡ Some bytes → Consumes o p bs → (ys : List ℕ) × (bytes ≡ bs ++ ys)
taken None p bs bytes is took = absurd (none-some bytes is)
taken (Some xs) None bs bytes is took = absurd took
taken (Some xs) (Some ys) bs bytes is took = (ys, sym (same_Some xs bytes is) ∙ took)

-- a cut that ended is the whole of what was read up to its end
pub same_bytes : (site : Site) → IsWellFormed site → (c d : ScriptCut) (x y : List ℕ) → IsScriptCut site c → IsScriptCut site d → c.tail ≡ Ended → d.tail ≡ Ended → cut_bytes site c ++ x ≡ cut_bytes site d ++ y
    → cut_bytes site c ≡ cut_bytes site d
same_bytes site valid c d x y is_c is_d ended_c ended_d e =
    let last : tail_bytes site d.tail ++ y ≡ codes "end" ++ 10 ∷ y = ap (λ t. tail_bytes site t ++ y) ended_d ∙ append_assoc (codes "end") (10 ∷ []) y in
    let read : whole_bytes site c.whole ++ (tail_bytes site c.tail ++ x) ≡ whole_bytes site d.whole ++ (codes "end" ++ 10 ∷ y) =
    sym (append_assoc (whole_bytes site c.whole) (tail_bytes site c.tail) x) ∙ e ∙ append_assoc (whole_bytes site d.whole) (tail_bytes site d.tail) y ∙ ap (λ r. whole_bytes site d.whole ++ r) last in
    elim (stops_before_end site valid c.whole d.whole c.tail x y is_c.0 is_d.0 is_c.1 read) [
      | inl whole ↦ ap₂ (λ w t. whole_bytes site w ++ tail_bytes site t) whole.0 (ended_c ∙ sym ended_d)
      | inr on ↦ absurd (subst MayGoOn ended_c on.0)
    ]
