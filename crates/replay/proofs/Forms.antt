-- The words of the form `replay SITE` among those of all forms.
use Rattle.std.proofs.Common.{◌≡◌, ◌↔◌, ℕ, false, true, List, [], ◌∷◌, codes, refl, sym, ap, subst, arith}
use Rattle.std.specs.Prelude.{IsTrue}
use Rattle.std.specs.Borrow.{Bor}
use Rattle.std.proofs.lemmas.List.Elements.{All-from_recursion, recursion_from_All}
use Rattle.cta_words.specs.Words.{IsPlainWord, Spells}
use Rattle.cta_words.specs.declared.form.Form.{Form}
use Rattle.cta_words.specs.declared.form.Form.TheVariants.{Replay}
use Rattle.replay.specs.Words.{IsReplayForm}

pub replay_spelled : (words : List (List ℕ)) (site : Bor (List ℕ)) → Spells words (Replay site) → IsTrue true ↔ IsReplayForm words
replay_spelled words site s =
    let plain = recursion_from_All IsPlainWord (codes "replay" ∷ site.now ∷ []) (rw s.0 at s.1) in
    ((λ t. rw s.0 (refl, plain.1.0)), (λ h. refl))

-- words of more than two are of another form
pub longer_spelled : (words : List (List ℕ)) (a b c : List ℕ) (more : List (List ℕ)) → words ≡ a ∷ b ∷ c ∷ more → IsTrue false ↔ IsReplayForm words
longer_spelled words a b c more e = ((λ t. absurd (let no : IsTrue false = t in cc)), (λ h. absurd (rw e at h)))

-- a text, lent from some place
lent : List ℕ → Bor (List ℕ)
lent text = record { ref_ptr = (0, 0); now = text }

form_of : (words : List (List ℕ)) → IsReplayForm words → (site : Bor (List ℕ)) × Spells words (Replay site)
unfolding lent
form_of [] h = absurd h
form_of (word ∷ []) h = absurd h
form_of (word ∷ site ∷ []) h = (
  lent site,
  (
    ap (λ w. w ∷ site ∷ []) h.0,
    All-from_recursion IsPlainWord (word ∷ site ∷ []) (subst IsPlainWord (sym h.0) (λ e. omega arith), (h.1, tt)),
  ),
)
form_of (word ∷ site ∷ more ∷ words) h = absurd h

pub none_spelled : (words : List (List ℕ)) → ((form : Form) → Spells words form → ⊥) → IsTrue false ↔ IsReplayForm words
none_spelled words none = ((λ t. absurd (let no : IsTrue false = t in cc)), (λ h. absurd (let f = form_of words h in none (Replay f.0) f.1)))
