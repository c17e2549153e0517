-- The laws of the parts, put together.
use Rattle.std.specs.Prelude.{ℕ, List, ◌≡◌, refl, ◌∷◌, []}
use Rattle.std.proofs.Common.{◌∙◌, sym, ap, subst}
use Rattle.cta_site.specs.declared.site.Site.{Site}
use Rattle.cta_model.specs.History.{History}
use Rattle.part_laws.specs.JobParts.{JobParts, JobPartsStand, no_job_parts}
use Rattle.part_laws.specs.Mounts.{AreOpenMounts}
use Rattle.part_laws.specs.Failed.{failed_after}
use Rattle.part_laws.specs.AllAsks.{parts_after}
use Rattle.part_laws.proofs.RowSteps.{rows_move}
use Rattle.part_laws.proofs.DownSteps.{downs_move, mounts_start_empty}
use Rattle.part_laws.proofs.FailedSteps.{failed_move, failed_start_empty}
use Rattle.part_laws.proofs.AllAsks.{job_parts_move}
use Rattle.part_laws.proofs.Together.{calls_move_parts, first_parts_stand}
use Rattle.part_model.specs.Counts.{count_in}
use Rattle.part_model.specs.declared.mounts.OpenMount.{OpenMount}
use Rattle.cta_model.specs.declared.asks.Direction.{Direction}
use Rattle.cta_model.specs.declared.asks.Direction.TheVariants as direction
use Rattle.part_laws.specs.AllParts.{TellSameJobs, empty_parts, jobs_in}
use Rattle.part_laws.specs.EntryLaws.{CallsMoveAllParts, EmptyPartsStand}

-- job parts that tell the same as some that stand for a history stand for it
stand_same : (site : Site) (h : History) (a b : JobParts) → TellSameJobs a b → JobPartsStand site h b → JobPartsStand site h a
stand_same site h a b same b_stands = record {
  book = record {
    recall = λ f. same.book.recall f ∙ b_stands.book.recall f;
    archive = λ f c. same.book.archive f c ∙ b_stands.book.archive f c;
    claimer = λ j. same.book.claimer j ∙ b_stands.book.claimer j;
    charges = λ j. same.book.charges j ∙ b_stands.book.charges j;
    last_birth = λ f c. same.book.last_birth f c ∙ b_stands.book.last_birth f c;
    named = λ j. same.book.named j ∙ b_stands.book.named j;
  };
  pools = λ key. same.pools key ∙ b_stands.pools key;
  recalls = λ key. same.recalls key ∙ b_stands.recalls key;
  counts = λ way vo. same.counts way vo ∙ b_stands.counts way vo;
}

pub empty_parts_stand : EmptyPartsStand
empty_parts_stand site = record {
  space = first_parts_stand site;
  jobs = stand_same site [] (jobs_in (empty_parts site)) no_job_parts nothing start;
  mounts = (mounts_start_empty site).0;
  downs = (mounts_start_empty site).1;
  failed = sym (failed_start_empty site);
}
  where
    start : JobPartsStand site [] no_job_parts
    start = record {
      book = record { recall = λ f. refl; archive = λ f c. refl; claimer = λ j. refl; charges = λ j. refl; last_birth = λ f c. refl; named = λ j. refl };
      pools = λ key. refl;
      recalls = λ key. refl;
      counts = λ way vo. refl;
    }

    nothing : TellSameJobs (jobs_in (empty_parts site)) no_job_parts
    nothing = record {
      book = record { recall = λ f. refl; archive = λ f c. refl; claimer = λ j. refl; charges = λ j. refl; last_birth = λ f c. refl; named = λ j. refl };
      pools = λ key. refl;
      recalls = λ key. refl;
      counts = λ way vo. none way vo;
    }
      where
        none : (way : Direction) (vo : ℕ) → count_in (record { archive = []; retrieve = [] }) way vo ≡ 0
        none direction.Archive vo = refl
        none direction.Retrieve vo = refl

pub calls_move_all_parts : CallsMoveAllParts
calls_move_all_parts site h e v v' legal stands called = record {
  space = calls_move_parts site h e v.space v'.space legal stands.space called.space;
  jobs = stand_same site (e ∷ h) (jobs_in v') (parts_after site h e e.ask e.answer (jobs_in v)) called.jobs (job_parts_move site h e (jobs_in v) legal stands.jobs);
  mounts = subst (λ (rows : List OpenMount). AreOpenMounts site (e ∷ h) rows) (sym called.mounts) (rows_move site h e v.mounts legal stands.mounts);
  downs = λ d. called.downs d ∙ downs_move site h e v.mounts v.downs legal stands.mounts stands.downs d;
  failed = called.failed ∙ ap (failed_after site h e.ask e.answer) stands.failed ∙ sym (failed_move site h e legal);
}
