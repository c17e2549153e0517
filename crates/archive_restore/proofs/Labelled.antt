-- Labels of tapes.
use Rattle.std.proofs.Common.{◌≡◌, ◌⊎◌, ◌∙◌, ℕ, zero, suc, ◌+◌, inl, inr, List, [], ◌∷◌, ◌++◌, refl, sym, ap, arith, length, length-append}
use Rattle.std.specs.Prelude.{Some, None, slice_get}
use Rattle.cta_site.specs.declared.site.Site.{Site}
use Rattle.archive_state.specs.States.{AreFirstMedia}
use Rattle.archive_restore.specs.Labels.{AreLabels}
use Rattle.archive_restore.specs.declared.label.Label.{Label}

pushed : (ls : List Label) (x l : Label) (v : ℕ) → slice_get (ls ++ x ∷ []) v ≡ Some l → (slice_get ls v ≡ Some l) ⊎ ((v ≡ length ls) × (l ≡ x))
pushed [] x l zero at = inr (refl, cc)
pushed [] x l (suc v) at = absurd (cc)
pushed (y ∷ ls) x l zero at = inl at
pushed (y ∷ ls) x l (suc v) at = elim (pushed ls x l v at) [ inl old ↦ inl old | inr new ↦ inr (ap suc new.0, new.1) ]

pub no_labels : AreLabels 0 []
no_labels = record { many = refl; each = λ v l at. absurd (cc) }

pub labels_more : (n : ℕ) (ls : List Label) (x : Label) → AreLabels n ls → x.tape ≡ n → AreLabels (n + 1) (ls ++ x ∷ [])
labels_more n ls x are of = record {
  many = omega (arith, length-append ls (x ∷ []), are.many);
  each = λ v l at. elim (pushed ls x l v at) [ inl old ↦ are.each v l old | inr new ↦ ap (λ (k : Label). k.tape) new.1 ∙ (of ∙ (sym are.many ∙ sym new.0)) ];
}

-- labels are media for the start
pub labels_begin : (site : Site) (n : ℕ) (ls : List Label) → n ≡ length site.tapes.items → AreLabels n ls → AreFirstMedia (λ (l : Label). record { label = l.tape; records = None }) site ls
labels_begin site n ls count are = record {
  count = are.many ∙ count;
  each = λ v l at. record { label = are.each v l at; truth = tt };
}
