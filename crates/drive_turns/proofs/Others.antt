-- Entries that are not about a mount are about others.
use Rattle.std.proofs.Common.{◌≡◌, ℕ, ◌≤◌, inl, inr, [], ◌∷◌, true, not, refl, ap, arith}
use Rattle.std.specs.Prelude.{Some, ◌==◌}
use Rattle.std.proofs.lemmas.Bool.{eqb-true, cases_Bool}
use Rattle.cta_model.specs.declared.asks.Ask.{Ask}
use Rattle.cta_model.specs.declared.asks.Ask.TheVariants as ask
use Rattle.cta_model.specs.declared.answers.Answer.{Answer}
use Rattle.cta_model.specs.History.{History}
use Rattle.cta_model.specs.Mounts.{asked_mount}
use Rattle.cta_laws.specs.Mounts.{are_about_others}
use Rattle.session_laws.specs.Laws.{AreOthersThan}
use Rattle.archive_turns.specs.Topics.{AreApart, mount_asked, topic_in}

zero_not : (m : ℕ) → 1 ≤ m → not (0 == m) ≡ true
zero_not m least =
    elim (cases_Bool (0 == m))
    [ inl hit ↦ (let same : 0 ≡ m = eqb-true 0 m hit in absurd (omega arith)) | inr miss ↦ rw miss refl ]

not_asked : (n m : ℕ) → (Some n ≡ Some m → ⊥) → not (n == m) ≡ true
not_asked n m apart =
    elim (cases_Bool (n == m))
    [ inl hit ↦ absurd (apart (ap Some (eqb-true n m hit))) | inr miss ↦ rw miss refl ]

about_other : (k : Ask) (a : Answer) (m : ℕ) → 1 ≤ m → (topic_in k a ≡ Some m → ⊥) → not (asked_mount k == m) ≡ true
about_other (ask.Claim n) a m least apart = not_asked n m apart
about_other (ask.Flushed n items) a m least apart = not_asked n m apart
about_other (ask.Recalled n job) a m least apart = not_asked n m apart
about_other (ask.Failed n f charged returned) a m least apart = not_asked n m apart
about_other (ask.End n f) a m least apart = not_asked n m apart
about_other _ a m least apart = zero_not m least

about_others : (m : ℕ) (newer : History) → 1 ≤ m → AreApart (Some m) newer → are_about_others m newer ≡ true
about_others m [] least apart = refl
about_others m (e ∷ newer) least apart = rw (about_other e.ask e.answer m least (apart.0 m refl)) (about_others m newer least apart.1)

-- what is apart from the mount of an ask is about others than the ask
pub others_than : (a : Ask) (newer : History) → ((m : ℕ) → mount_asked a ≡ Some m → 1 ≤ m) → AreApart (mount_asked a) newer → AreOthersThan a newer
others_than (ask.Claim m) newer from apart = about_others m newer (from m refl) apart
others_than (ask.Flushed m items) newer from apart = about_others m newer (from m refl) apart
others_than (ask.Recalled m job) newer from apart = about_others m newer (from m refl) apart
others_than (ask.Failed m fault charged returned) newer from apart = about_others m newer (from m refl) apart
others_than (ask.End m fault) newer from apart = about_others m newer (from m refl) apart
others_than _ newer from apart = tt
