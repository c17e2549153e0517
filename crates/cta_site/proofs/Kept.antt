-- What a site that breaks no rule keeps.
use Rattle.std.proofs.Common.{◌≡◌, None, true}
use Rattle.std.proofs.lemmas.Bool.{and_parts, leb-true}
use Rattle.cta_site.specs.declared.site.Site.{Site}
use Rattle.cta_site.specs.Items.{unless, fault}
use Rattle.cta_site.specs.Forms.{size_fault, are_texts, are_limits, fits_buffer, are_counts, are_store_counts, are_caller_counts, are_device_counts}
use Rattle.cta_site.specs.WellFormed.{AreCounts}
use Rattle.cta_site.proofs.Unbroken.{neither, kept}

-- the parts of rules 3 to 6
pub record KeepsSizes (site : Site) : Type 0 where
  pub texts : are_texts site ≡ true
  pub limits : are_limits site.limits ≡ true
  pub buffer : fits_buffer site.limits ≡ true
  pub counts : are_counts site ≡ true

pub keeps_sizes : (site : Site) → size_fault site ≡ None → KeepsSizes site
keeps_sizes site e =
    let a = neither (fault 3 (unless (are_texts site))) _ e in
    let b = neither (fault 4 (unless (are_limits site.limits))) _ a.1 in
    let d = neither (fault 5 (unless (fits_buffer site.limits))) (fault 6 (unless (are_counts site))) b.1 in
    record { texts = kept 3 _ a.0; limits = kept 4 _ b.0; buffer = kept 5 _ d.0; counts = kept 6 _ d.1 }

pub counts_are : (site : Site) → are_counts site ≡ true → AreCounts site
counts_are site e =
    let a = and_parts (are_store_counts site) _ e in
    let b = and_parts (are_caller_counts site) (are_device_counts site) a.1 in
    let s = and_parts _ _ a.0 in
    let t = and_parts _ _ s.1 in
    let u = and_parts _ _ t.1 in
    let f = and_parts _ _ b.0 in
    let g = and_parts _ _ f.1 in
    let d = and_parts _ _ b.1 in
    let h = and_parts _ _ d.1 in
    let i = and_parts _ _ h.1 in
    record {
      vos = leb-true _ _ s.0;
      classes = leb-true _ _ t.0;
      pools = leb-true _ _ u.0;
      routes = leb-true _ _ u.1;
      policies = leb-true _ _ f.0;
      rules = leb-true _ _ g.0;
      libraries = leb-true _ _ d.0;
      tapes = leb-true _ _ h.0;
      drives = leb-true _ _ i.0;
      directories = leb-true _ _ g.1;
      failures = leb-true _ _ i.1;
    }
