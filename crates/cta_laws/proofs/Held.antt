-- The laws of all legal histories, said of one.
use Rattle.std.proofs.Common.{◌≡◌, ◌∷◌, ◌++◌, subst}
use Rattle.cta_site.specs.declared.site.Site.{Site}
use Rattle.cta_model.specs.History.{History}
use Rattle.cta_model.specs.Legal.{IsLegal}
use Rattle.cta_laws.proofs.ClosedLaw.{claims_nothing_after_end}
use Rattle.cta_laws.proofs.CopyLaw.{places_are_never_reclaimed}
use Rattle.cta_laws.proofs.EndLaw.{ends_for_good, no_claim_after_end, stale_after_end}
use Rattle.cta_laws.proofs.FlushedLaw.{tape_is_flushed}
use Rattle.cta_laws.proofs.JobLaw.{is_queued_or_claimed}
use Rattle.cta_laws.proofs.LostLaw.{resident_or_flushed, stays_resident}
use Rattle.cta_laws.proofs.OnceLaw.{completes_once}
use Rattle.cta_laws.proofs.OpenMounts.{legal_older}
use Rattle.cta_laws.proofs.PlaceLaw.{places_stay}
use Rattle.cta_laws.proofs.QuotaLaw.{keeps_quota, mounts_choice}
use Rattle.cta_laws.proofs.ResidentLaw.{recalled_is_resident}
use Rattle.cta_laws.specs.Holding.{HoldsCopies, HoldsFiles, HoldsJobs, HoldsMounts, HoldsRecalls, LegalHistoriesHold}

-- what stays of a legal history whose newest entries are cut away
cut : (site : Site) (h newer older : History) → IsLegal site h → h ≡ newer ++ older → IsLegal site older
cut site h newer older legal is = legal_older site newer older (subst (IsLegal site) is legal)

hold_files : (site : Site) (h : History) → IsLegal site h → HoldsFiles site h
hold_files site h legal = record { tape_is_flushed = λ f says. tape_is_flushed site h f says; resident_or_flushed = λ f live. resident_or_flushed site h legal f live }

hold_recalls : (site : Site) (h : History) → IsLegal site h → HoldsRecalls site h
hold_recalls site h legal = record {
  completes_once = λ birth f. completes_once site h legal birth f;
  ends_for_good = λ newer older j is ended. rw is (ends_for_good site newer older (subst (IsLegal site) is legal) j ended);
  no_claim_after_end = λ last newer older e j is ended. no_claim_after_end site newer older e (cut site h last (e ∷ newer ++ older) legal is) j ended;
  stale_after_end = λ last newer older e m j is ended asked. stale_after_end site newer older e (cut site h last (e ∷ newer ++ older) legal is) m j ended asked;
  recalled_is_resident = λ newer older e birth f is done live kept.
      rw is (stays_resident newer (e ∷ older) f (recalled_is_resident site older e (cut site h newer (e ∷ older) legal is) birth f done) (rw is at live) kept);
}

hold_jobs : (site : Site) (h : History) → IsLegal site h → HoldsJobs site h
hold_jobs site h legal = record {
  queued_or_claimed = λ j live. is_queued_or_claimed site h legal j live;
  claims_nothing_after_end = λ newer older e m fault is asked. rw is (claims_nothing_after_end site newer older e m fault (subst (IsLegal site) is legal) asked);
}

hold_mounts : (site : Site) (h : History) → IsLegal site h → HoldsMounts site h
hold_mounts site h legal = record {
  mounts_choice = λ newer older e d is asked. mounts_choice site newer older e d (subst (IsLegal site) is legal) asked;
  keeps_quota = λ newer older way vo is. keeps_quota site newer older (subst (IsLegal site) is legal) way vo;
}

hold_copies : (site : Site) (h : History) → IsLegal site h → HoldsCopies site h
hold_copies site h legal = record {
  places_stay = λ newer older f c is had live. rw is (places_stay newer older f c had (rw is at live));
  places_are_never_reclaimed = λ newer older e f c p is placed made last. rw is (places_are_never_reclaimed site newer older e (subst (IsLegal site) is legal) f c p (rw is at placed) made last);
}

pub legal_histories_hold : LegalHistoriesHold
legal_histories_hold site h legal = record {
  files = hold_files site h legal;
  recalls = hold_recalls site h legal;
  jobs = hold_jobs site h legal;
  mounts = hold_mounts site h legal;
  copies = hold_copies site h legal;
}
