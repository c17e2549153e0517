-- How an entry moves the drives that are down.
use Rattle.std.proofs.Common.{◌≡◌, ◌∙◌, ℕ, inl, inr, List, [], ◌∷◌, ◌++◌, Bool, true, false, ◌&&◌, ◌||◌, refl, sym, ap, subst}
use Rattle.std.specs.Prelude.{Option, if◌then◌else◌, ◌==◌}
use Rattle.std.proofs.lemmas.Bool.{and_parts, eqb-true, eq-eqb}
use Rattle.cta_site.specs.declared.site.Site.{Site}
use Rattle.cta_model.specs.declared.entries.Entry.{Entry}
use Rattle.cta_model.specs.declared.asks.Ask.{Ask}
use Rattle.cta_model.specs.declared.asks.Ask.TheVariants as ask
use Rattle.cta_model.specs.declared.asks.Fault.{Fault}
use Rattle.cta_model.specs.History.{History, has_number, is_empty}
use Rattle.cta_model.specs.Mounts.{asked_mount, claimed_items, down_after, drive_by, drive_of_mount, is_down, is_open, puts_down}
use Rattle.cta_model.specs.Answers.{answer_of}
use Rattle.cta_model.specs.Legal.{IsLegal}
use Rattle.cta_laws.proofs.Bools.{turned}
use Rattle.cta_laws.proofs.ClosedLaw.{end_by}
use Rattle.cta_laws.proofs.Tests.{bool_cases}
use Rattle.part_model.specs.declared.mounts.OpenMount.{OpenMount}
use Rattle.part_model.specs.Mounts.{set_down, set_up}
use Rattle.part_laws.specs.MountLaws.{DownsMove, MountsStartEmpty}
use Rattle.part_laws.specs.Mounts.{AreDown, AreOpenMounts, downs_after, downs_behind}
use Rattle.part_laws.proofs.RowAnswers.{rows_tell_mounts}

has_last : (d k : ℕ) (ks : List ℕ) → has_number d (ks ++ k ∷ []) ≡ ((d == k) || has_number d ks)
has_last d k [] = refl
has_last d k (j ∷ ks) = ap (λ (b : Bool). (d == j) || b) (has_last d k ks) ∙ swap (d == j) (d == k) (has_number d ks)
  where
    swap : (a b c : Bool) → (a || (b || c)) ≡ (b || (a || c))
    swap true true c = refl
    swap true false c = refl
    swap false b c = refl

down_has : (d k : ℕ) (ks : List ℕ) → has_number d (set_down k ks) ≡ (if k == d then true else has_number d ks)
down_has d k ks =
    elim (bool_cases (has_number k ks)) [
      | inl there ↦ rw there (by (k == d) refl there)
      | inr new ↦ rw new (has_last d k ks ∙ flip (k == d) refl)
    ]
  where
    by : (t : Bool) → (k == d) ≡ t → has_number k ks ≡ true → has_number d ks ≡ (if t then true else has_number d ks)
    by true hit there = subst (λ (n : ℕ). has_number n ks ≡ true) (eqb-true k d hit) there
    by false miss there = refl

    flip : (t : Bool) → (k == d) ≡ t → ((d == k) || has_number d ks) ≡ (if t then true else has_number d ks)
    flip true hit = (let same : (d == k) ≡ true = eq-eqb d k (sym (eqb-true k d hit)) in rw same refl)
    flip false miss = (let other : (d == k) ≡ false = turned k d miss in rw other refl)

up_has : (d k : ℕ) (ks : List ℕ) → has_number d (set_up k ks) ≡ (if k == d then false else has_number d ks)
up_has d k [] = elim (k == d) as (λ b. false ≡ (if b then false else false)) [ true ↦ refl | false ↦ refl ]
up_has d k (j ∷ ks) =
    elim (bool_cases (j == k)) [
      | inl hit ↦ rw hit (up_has d k ks ∙ drop (k == d) refl (eqb-true j k hit))
      | inr miss ↦ rw miss (ap (λ (b : Bool). (d == j) || b) (up_has d k ks) ∙ keep (k == d) refl miss)
    ]
  where
    drop : (t : Bool) → (k == d) ≡ t → j ≡ k → (if t then false else has_number d ks) ≡ (if t then false else ((d == j) || has_number d ks))
    drop true is same = refl
    drop false is same = (let other : (d == j) ≡ false = subst (λ (n : ℕ). (d == n) ≡ false) (sym same) (turned k d is) in rw other refl)

    keep : (t : Bool) → (k == d) ≡ t → (j == k) ≡ false → ((d == j) || (if t then false else has_number d ks)) ≡ (if t then false else ((d == j) || has_number d ks))
    keep true is other = (let apart : (d == j) ≡ false = subst (λ (n : ℕ). (n == j) ≡ false) (eqb-true k d is) (turned j k other) in rw apart refl)
    keep false is other = refl

end_down : (d drive : ℕ) (f : Option Fault) (downs : List ℕ) → has_number d (if puts_down f then set_down drive downs else downs) ≡ (if (drive == d) && puts_down f then true else has_number d downs)
end_down d drive f downs = by (puts_down f)
  where
    yes_and : (t : Bool) (x : Bool) → (if t then true else x) ≡ (if t && true then true else x)
    yes_and true x = refl
    yes_and false x = refl

    no_and : (t : Bool) (x : Bool) → x ≡ (if t && false then true else x)
    no_and true x = refl
    no_and false x = refl

    by : (t : Bool) → has_number d (if t then set_down drive downs else downs) ≡ (if (drive == d) && t then true else has_number d downs)
    by true = down_has d drive downs ∙ yes_and (drive == d) (has_number d downs)
    by false = no_and (drive == d) (has_number d downs)

downs_by : (site : Site) (h : History) (e : Entry) (rows : List OpenMount) (downs : List ℕ) (k : Ask) → IsLegal site (e ∷ h) → e.ask ≡ k → AreOpenMounts site h rows → AreDown h downs → (d : ℕ) → has_number d (downs_after k rows downs) ≡ down_after k d (drive_of_mount h (asked_mount k)) (is_down h d)
downs_by site h e rows downs (ask.DriveUp who n) legal ek are down d = up_has d n downs ∙ ap (λ (b : Bool). if n == d then false else b) (down d)
downs_by site h e rows downs (ask.DriveDown who n) legal ek are down d = down_has d n downs ∙ ap (λ (b : Bool). if n == d then true else b) (down d)
downs_by site h e rows downs (ask.End m f) legal ek are down d =
    let known : (is_open h m && is_empty (claimed_items h m)) ≡ true = end_by (is_open h m && is_empty (claimed_items h m)) e.answer (legal.1.answered ∙ ap (answer_of site h e.at) ek) legal.1.accepted in
    let r = (rows_tell_mounts site h rows are).row m (and_parts (is_open h m) _ known).0 in
    let drive : r.0.drive ≡ drive_of_mount h m = sym (ap drive_by r.2.mount) in
    ap (λ (o : Option OpenMount). has_number d (downs_behind f o downs)) r.1 ∙ end_down d r.0.drive f downs
    ∙ ap (λ (n : ℕ). if (n == d) && puts_down f then true else has_number d downs) drive ∙ ap (λ (b : Bool). if (drive_of_mount h m == d) && puts_down f then true else b) (down d)
downs_by site h e rows downs _ legal ek are down d = down d

pub downs_move : DownsMove
downs_move site h e rows downs legal are down d = downs_by site h e rows downs e.ask legal refl are down d

pub mounts_start_empty : MountsStartEmpty
mounts_start_empty site = (tt, λ d. refl)
