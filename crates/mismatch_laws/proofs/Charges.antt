-- Charges of jobs are as many, and have the same texts, without what mismatches have found.
use Rattle.std.proofs.Common.{refl, ap, ◌∙◌, sym, ◌≡◌, ◌∷◌, [], List, map, ℕ, Bool, true, false}
use Rattle.std.specs.Prelude.{◌+◌, length, ◌++◌, if◌then◌else◌, ◌&&◌, nat_le}
use Rattle.cta_site.specs.declared.site.Site.{Site}
use Rattle.cta_model.specs.declared.asks.Ask.{Ask}
use Rattle.cta_model.specs.declared.asks.Ask.TheVariants as ask
use Rattle.cta_model.specs.declared.asks.Job.{Job}
use Rattle.cta_model.specs.declared.states.Charge.{Charge}
use Rattle.cta_model.specs.History.{History}
use Rattle.cta_model.specs.Mounts.{has_job, asked_mount, drive_of_mount, tape_of_mount}
use Rattle.std.proofs.lemmas.List.{map-append, length-map}
use Rattle.std.specs.Prelude.{map}
use Rattle.cta_model.specs.Charges.{charges_after, charges_of, is_last_charge}
use Rattle.mismatch_laws.specs.Alike.{without_found, ask_without_found, history_without_found}
use Rattle.mismatch_laws.proofs.Mounts.{asked_mount_same, drive_of_mount_same, tape_of_mount_same}

-- a charge in which a mismatch has found what was wanted
abbrev pub charge_without_found : Charge → Charge
charge_without_found c = record c { fault = without_found c.fault }

charge_more : (b : Bool) (c : Charge) (before : List Charge) → (if b then map charge_without_found before ++ charge_without_found c ∷ [] else map charge_without_found before) ≡ map charge_without_found (if b then before ++ c ∷ [] else before)
charge_more true c before = sym (map-append charge_without_found before (c ∷ []))
charge_more false c before = refl

charges_after_same : (k : Ask) (j : Job) (d v : ℕ) (before : List Charge) → charges_after (ask_without_found k) j d v (map charge_without_found before) ≡ map charge_without_found (charges_after k j d v before)
charges_after_same (ask.Failed m f charged returned) j d v before = charge_more (has_job j charged.items) (record { drive = d; tape = v; fault = f }) before
charges_after_same k j d v before = refl

pub charges_of_same : (h : History) (j : Job) → charges_of (history_without_found h) j ≡ map charge_without_found (charges_of h j)
charges_of_same [] j = refl
charges_of_same (e ∷ h) j =
    (λ i. charges_after (ask_without_found e.ask) j (drive_of_mount_same h (asked_mount_same e.ask i) i) (tape_of_mount_same h (asked_mount_same e.ask i) i) (charges_of_same h j i))
    ∙ charges_after_same e.ask j (drive_of_mount h (asked_mount e.ask)) (tape_of_mount h (asked_mount e.ask)) (charges_of h j)

pub charge_count_same : (h : History) (j : Job) → length (charges_of (history_without_found h) j) ≡ length (charges_of h j)
charge_count_same h j = ap length (charges_of_same h j) ∙ length-map (charges_of h j) charge_without_found

pub is_last_charge_same : (site : Site) (h : History) (k : Ask) (j : Job) → is_last_charge site (history_without_found h) (ask_without_found k) j ≡ is_last_charge site h k j
is_last_charge_same site h (ask.Failed m fault charged returned) j = λ i. has_job j charged.items && nat_le site.limits.tries (charge_count_same h j i + 1)
is_last_charge_same site h _ j = refl
