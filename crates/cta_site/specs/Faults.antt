-- The first rule that a site breaks.
use Rattle.std.specs.Prelude.{◌≡◌, ℕ, Option, Some}
use Rattle.std.specs.Option.{option_or}
use Rattle.cta_site.specs.declared.site.Site.{Site}
use Rattle.cta_site.specs.declared.check.SiteError.{SiteError}
use Rattle.cta_site.specs.declared.check.SiteError.TheVariants.{Fault, NoMemory}
use Rattle.cta_site.specs.Forms.{size_fault, form_fault}
use Rattle.cta_site.specs.References.{store_repeat, device_repeat, class_fault, route_fault, policy_fault, device_fault}

-- the first broken one of rules 7 to 30, on the elements of the lists
abbrev pub element_fault : Site → Option (ℕ × ℕ)
element_fault site = option_or (form_fault site) (option_or (store_repeat site) (option_or (device_repeat site) (option_or (class_fault site) (option_or (route_fault site) (option_or (policy_fault site) (device_fault site))))))

-- the first of rules 3 to 30 that is broken, and the item that breaks it
abbrev pub first_fault : Site → Option (ℕ × ℕ)
first_fault site = option_or (size_fault site) (element_fault site)

-- an error has its cause in the first fault: a fault is that one, and want of memory needs none
abbrev pub IsCauseOf : SiteError → Option (ℕ × ℕ) → Type 0
IsCauseOf (Fault rule item) first = first ≡ Some (rule, item)
IsCauseOf NoMemory first = Unit {0}
