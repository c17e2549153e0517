-- The lines of a valid site's scripts: they hold no LF, are short, and differ in their text.
use Rattle.std.proofs.Common.{◌≡◌, ℕ, ◌+◌, ◌≤◌, List, [], ◌∷◌, ◌++◌, length, codes, refl, sym, ap, ◌∙◌, arith, length-append}
use Rattle.std.specs.Fmt.{decimal}
use Rattle.std.proofs.lemmas.Fmt.{decimal_injective, length-decimal-le}
use Rattle.std.proofs.lemmas.List.{append_cancel_left}
use Rattle.cta_site.specs.declared.site.Site.{Site}
use Rattle.cta_site.specs.WellFormed.{IsWellFormed}
use Rattle.cta_site.specs.Bytes.{Without}
use Rattle.replay.specs.Line.{text, step_words, drive_name, IsDriveStep, IsLine}
use Rattle.replay.specs.declared.line.ScriptLine.{ScriptLine}
use Rattle.replay.specs.declared.line.ScriptLine.TheVariants.{Http, Step, End}
use Rattle.replay.proofs.Parts.{same_words, Without-decimal}
use Rattle.replay.proofs.Drives.{Without-drive, length-drive, same_drive}
use Rattle.replay.proofs.Texts.{length-text, not_step, same_text, Without-text, Without-word}

module _ (site : Site) (valid : IsWellFormed site) where
  Without-step : (drive moment : ℕ) → IsDriveStep site drive moment → Without 10 (text site (Step drive moment))
  Without-step drive moment h =
      Without-word (codes "step") (step_words site drive moment) ((λ e. omega arith), ((λ e. omega arith), ((λ e. omega arith), ((λ e. omega arith), tt))))
      (Without-word (drive_name site drive) (decimal moment) (Without-drive 10 site drive refl valid h.0) (Without-decimal 10 moment (omega arith) (omega arith)))

  pub Without-line : (l : ScriptLine) → IsLine site l → Without 10 (text site l)
  Without-line (Http l) h = Without-text (Http l) h
  Without-line (Step drive moment) h = Without-step drive moment h
  Without-line End h = Without-text End h

  pub length-line : (l : ScriptLine) → IsLine site l → length (text site l) ≤ 256
  length-line (Http l) h = length-text (Http l) h
  length-line (Step drive moment) h =
      let name : length (drive_name site drive) ≤ 64 = length-drive site drive valid h.0 in
      let when : length (decimal moment) ≤ 12 = length-decimal-le 12 moment (omega arith) (omega arith) (omega arith) in
      let words : length (step_words site drive moment) ≡ length (drive_name site drive) + length (32 ∷ decimal moment) = length-append (drive_name site drive) (32 ∷ decimal moment) in
      omega (arith, name, when, words)
  length-line End h = length-text End h

  same_step : (d m d' m' : ℕ) → IsDriveStep site d m → IsDriveStep site d' m' → text site (Step d m) ≡ text site (Step d' m') → Step d m ≡ Step d' m'
  same_step d m d' m' h k e =
      let words : step_words site d m ≡ step_words site d' m' = append_cancel_left (codes "step ") (step_words site d m) (step_words site d' m') e in
      let p = same_words 32 (drive_name site d) (drive_name site d') (decimal m) (decimal m') (Without-drive 32 site d refl valid h.0) (Without-drive 32 site d' refl valid k.0) words in
      ap (λ x. Step x m) (same_drive site d d' valid h.0 k.0 p.0) ∙ ap (Step d') (decimal_injective m m' (omega arith) (omega arith) p.1)

  -- two lines for a site differ in their text
  pub same_said : (l l' : ScriptLine) → IsLine site l → IsLine site l' → text site l ≡ text site l' → l ≡ l'
  same_said (Http l) (Http l') h k e = same_text (Http l) (Http l') h k e
  same_said (Http l) (Step d m) h k e = absurd (not_step site d m (Http l) [] [] h (ap (λ x. x ++ []) (sym e)))
  same_said (Http l) End h k e = same_text (Http l) End h k e
  same_said (Step d m) (Http l) h k e = absurd (not_step site d m (Http l) [] [] k (ap (λ x. x ++ []) e))
  same_said (Step d m) (Step d' m') h k e = same_step d m d' m' h k e
  same_said (Step d m) End h k e = absurd (not_step site d m End [] [] k (ap (λ x. x ++ []) e))
  same_said End (Http l) h k e = same_text End (Http l) h k e
  same_said End (Step d m) h k e = absurd (not_step site d m End [] [] h (ap (λ x. x ++ []) (sym e)))
  same_said End End h k e = refl

  -- the first line of a text that begins with a line
  pub same_first : (l l' : ScriptLine) (x y : List ℕ) → IsLine site l → IsLine site l' → text site l ++ 10 ∷ x ≡ text site l' ++ 10 ∷ y → (l ≡ l') × (x ≡ y)
  same_first l l' x y h k e =
      let p = same_words 10 (text site l) (text site l') x y (Without-line l h) (Without-line l' k) e in
      (same_said l l' h k p.0, p.1)
