-- The history that a journal tells comes back.
use Rattle.std.proofs.Common.{◌≡◌, ◌∙◌, ℕ, ◌^◌, ◌<◌, ◌≤◌, inl, inr, List, [], ◌∷◌, ◌++◌, refl, sym, ap, subst, arith, length, take}
use Rattle.std.specs.Prelude.{Option, Some, None, map}
use Rattle.std.specs.List.{AllByRecursion}
use Rattle.std.proofs.lemmas.List.{length-map, length-reverse, take_at}
use Rattle.std.proofs.lemmas.List.Elements.{All-from_recursion}
use Rattle.cta_site.specs.declared.site.Site.{Site}
use Rattle.cta_model.specs.History.{History}
use Rattle.cta_model.specs.Legal.{IsLegal}
use Rattle.cta_laws.proofs.LengthLaw.{stays_short}
use Rattle.cta_journal.specs.Damage.{IsDamaged, most_records}
use Rattle.cta_journal.specs.Log.{HasLog, counted, records}
use Rattle.cta_journal.specs.Standing.{StandsFor, disk_of}
use Rattle.cta_journal.specs.declared.journal.Journal.{Journal}
use Rattle.cta_journal.proofs.Damages.{not_shut}
use Rattle.cta_journal.proofs.Records.{counted_same, length-counted, same_log, tail_same}
use Rattle.cta_records.specs.Laws.{IsOneRecord}
use Rattle.cta_records.specs.declared.kept.Kept.{Kept}
use Rattle.cta_records.specs.Records.{KeptFits, body_of}
use Rattle.cta_journal.specs.declared.opening.OpenError.{OpenError}
use Rattle.cta_journal.specs.declared.opening.OpenError.TheVariants as journals
use Rattle.archive_restore.specs.declared.error.RestoreError.{RestoreError}
use Rattle.archive_restore.specs.declared.error.RestoreError.TheVariants as restores
use Rattle.archive_restore.specs.Logs.{AreRight, IsFirstWrong, IsRightLog, IsWrongOnce, entries_of, history_of_log}
use Rattle.durable_archive.specs.Opened.{IsExcused, IsRefusedFor, of_open, of_restore}
use Rattle.durable_archive.specs.Journaled.{LogIsHistory}
use Rattle.durable_archive.specs.Records.{KeepsHistory, TellsHistory}
use Rattle.durable_archive.proofs.Alike.{Alike, alike, history_too, right_too}

-- ---- a journal stands for one log

records_once : (xs ys : List (List ℕ)) → length (records xs) < 2 ^ 64 → records xs ≡ records ys → xs ≡ ys
records_once [] [] low same = refl
records_once [] (y ∷ ys) low same = absurd (omega (arith, ap length same))
records_once (x ∷ xs) [] low same = absurd (omega (arith, ap length same))
records_once (x ∷ xs) (y ∷ ys) low same =
    let rest : counted x ++ records xs ≡ counted y ++ records ys = (tail_same 1 1 (counted x ++ records xs) (counted y ++ records ys) same).1 in
    let here = length-counted x (records xs) in
    let there = length-counted y (records ys) in
    let long = ap length rest in
    let parts = counted_same x y (records xs) (records ys) (omega (arith, low, here)) (omega (arith, low, here, there, long)) rest in
    both x y xs ys parts.0 (records_once xs ys (omega (arith, low, here)) parts.1)
  where
    both : (a b : List ℕ) (p q : List (List ℕ)) → a ≡ b → p ≡ q → a ∷ p ≡ b ∷ q
    both a b p q e f = cc

same_file : (f g : List ℕ) → ◌≡◌ {A = Option (List ℕ)} (Some f) (Some g) → f ≡ g
same_file f g e = cc

fronts : (xs ys : List ℕ) (g h : ℕ) → length xs ≡ length ys → xs ++ g ∷ [] ≡ ys ++ h ∷ [] → xs ≡ ys
fronts xs ys g h long same = sym (take_at xs (g ∷ []) (length xs) refl) ∙ ap (λ (l : List ℕ). take (length xs) l) same ∙ take_at ys (h ∷ []) (length xs) (sym long)

module _ {K : Type 0} (content : K → Option (List ℕ)) (may_leave : K → List ℕ → Type 0) where
  stands_once : (j : Journal K) (xs ys : List (List ℕ)) → j.end < 2 ^ 64 → StandsFor content may_leave j xs → StandsFor content may_leave j ys → xs ≡ ys
  stands_once j xs ys low s t =
      let long : length (records xs) ≡ length (records ys) = sym s.ends ∙ t.ends in
      let file : records xs ++ s.gate ∷ [] ≡ records ys ++ t.gate ∷ [] = same_file (records xs ++ s.gate ∷ []) (records ys ++ t.gate ∷ []) (sym s.told ∙ t.told) in
      records_once xs ys (omega (arith, low, s.ends)) (fronts (records xs) (records ys) s.gate t.gate long file)

  -- what an opening found is all that its journal stands for
  pub log_found : (site : Site) (disk : K) (j : Journal K) (found : List Kept) → j.end < 2 ^ 64 → AllByRecursion KeptFits found → IsRightLog site found
      → (content disk ≡ None → content (disk_of j) ≡ None) → ((file : List ℕ) → content disk ≡ Some file → HasLog file (map body_of found) × StandsFor content may_leave j (map body_of found))
      → LogIsHistory content may_leave j site (history_of_log found)
  log_found site disk j found low fit right untold stands bodies s = (found, record { right = right; history = refl; fit = fit }, by (content disk) refl)
    where
      by : (o : Option (List ℕ)) → content disk ≡ o → map body_of found ≡ bodies
      by None none = absurd (let no : None ≡ Some _ = sym (untold none) ∙ s.told in cc)
      by (Some file) told = stands_once j (map body_of found) bodies low (stands file told).1 s

-- ---- the history comes back

pub comes_back : IsOneRecord → (site : Site) (file : List ℕ) (h : History) (found : List Kept) → length file < 2 ^ 64 → AllByRecursion KeptFits found → HasLog file (map body_of found) → KeepsHistory site [] h file
    → IsRightLog site found × (history_of_log found ≡ h)
comes_back law site file h found low fit has keeps =
    let log : List Kept = keeps.1.0 in
    let tells : TellsHistory site h log = keeps.1.1 in
    let same : Alike log found = alike law log found tells.fit fit (keeps.1.2 ∙ same_log file keeps.0 (map body_of found) low keeps.2 has) in
    (right_too site log found same tells.right, sym (history_too log found same) ∙ tells.history)

legal_log : (site : Site) (log : List Kept) → AreRight site log → IsLegal site (entries_of log)
legal_log site [] right = tt
legal_log site (k ∷ log) right = (legal_log site log right.0, right.1.next)

-- a file that has the records of a history is not damaged
pub not_damaged : (site : Site) (file : List ℕ) (h : History) (offset : ℕ) → length file < 2 ^ 64 → site.limits.history ≤ 1000000 → KeepsHistory site [] h file → IsDamaged body_of KeptFits file offset → ⊥
not_damaged site file h offset low most keeps damaged =
    let log : List Kept = keeps.1.0 in
    let tells : TellsHistory site h log = keeps.1.1 in
    let short = stays_short site (history_of_log log) (legal_log site _ tells.right) in
    let long : length (history_of_log log) ≡ length log = length-map _ _ ∙ length-reverse log in
    by log tells.fit (omega (arith, short, long, most)) (subst (HasLog file) (sym keeps.1.2) keeps.2)
  where
    by : (log : List Kept) → AllByRecursion KeptFits log → length log ≤ most_records → HasLog file (map body_of log) → ⊥
    by log fit few (inl short) = omega (arith, short.0, damaged.long)
    by log fit few (inr shut) = not_shut body_of KeptFits file offset log low (All-from_recursion KeptFits log fit) few shut damaged

-- ---- errors

pub opening_excused : (site : Site) (file : List ℕ) (h : History) (e : OpenError) → length file < 2 ^ 64 → site.limits.history ≤ 1000000 → KeepsHistory site [] h file
    → ((offset : ℕ) → e ≡ journals.Damaged offset → IsDamaged body_of KeptFits file offset) → IsExcused (of_open e)
opening_excused site file h journals.Fault low most keeps says = tt
opening_excused site file h (journals.Damaged offset) low most keeps says = absurd (not_damaged site file h offset low most keeps (says offset refl))
opening_excused site file h journals.NoMemory low most keeps says = tt

pub opening_refused : (site : Site) (file : List ℕ) (e : OpenError) → ((offset : ℕ) → e ≡ journals.Damaged offset → IsDamaged body_of KeptFits file offset) → IsRefusedFor site file (of_open e)
opening_refused site file journals.Fault says = tt
opening_refused site file (journals.Damaged offset) says = says offset refl
opening_refused site file journals.NoMemory says = tt

pub restoring_excused : IsWrongOnce → (site : Site) (found : List Kept) (e : RestoreError) → IsRightLog site found → ((n : ℕ) → e ≡ restores.Differs n → IsFirstWrong site found n) → IsExcused (of_restore e)
restoring_excused law site found (restores.Differs n) right says = absurd (law.not_right site found n (says n refl) right)
restoring_excused law site found restores.NoMemory right says = tt

pub restoring_refused : (site : Site) (file : List ℕ) (found : List Kept) (e : RestoreError) → HasLog file (map body_of found) → ((n : ℕ) → e ≡ restores.Differs n → IsFirstWrong site found n) → IsRefusedFor site file (of_restore e)
restoring_refused site file found (restores.Differs n) has says = (found, has, says n refl)
restoring_refused site file found restores.NoMemory has says = tt
